use mathlib.Core.Path.{◌≡◌}
use Prim.Native.Nat.{ℕ, ◌*◌, ◌-◌}
use Rattle.stores.specs.Runs.{Made}
use Rattle.losses.specs.Lines.{slots_told, LabelsIn}
use Rattle.rules.specs.PruneLaws.{emptying}
use lib.ListN.{length, drop}
use mathlib.Core.List.{List}
use Rattle.losses.proofs.lines.empty_slots.Given as goal

abbrev pub invariant-loop-i : goal.invariant-loop-i
invariant-loop-i l = (length l.heap ≡ length l.initial.heap)
    × LabelsIn l.slot_bytes (slots_told (l.lines - l.i) (drop (2 * l.i) l.report)) (length l.initial.heap)
    × ((after : List ℕ) (m : ℕ) → Made l.rest (emptying l.slot_bytes (slots_told (l.lines - l.i) (drop (2 * l.i) l.report))) l.heap after m → Made l.left (emptying l.slot_bytes (slots_told l.lines l.report)) l.initial.heap after m)
