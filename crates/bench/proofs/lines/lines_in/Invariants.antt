use mathlib.Core.Path.{◌≡◌}
use mathlib.Core.List.{List}
use Prim.Native.Nat.{ℕ, ◌-◌}
use lib.ListN.{length, take}
use Rattle.desk.specs.Desk.{desk}
use Rattle.bench.specs.Buffer.{held_of}
use Rattle.bench.specs.Input.{FedTo}
use Rattle.bench.proofs.lines.lines_in.Given as goal

abbrev pub invariant-loop-from : goal.invariant-loop-from
invariant-loop-from g l = (l.line.cap ≡ l.initial.line.cap)
    × ((text : List ℕ) → l.initial.line.line ≡ held_of l.initial.line.cap text
    → FedTo l.initial.line.cap (length l.initial.decoded) (take l.from l.input) text (desk l.initial.b l.initial.heap l.initial.table) l.line.line (desk l.b l.heap l.table))

abbrev pub decreases-loop-from : goal.decreases-loop-from
decreases-loop-from g l = length l.input - l.from
