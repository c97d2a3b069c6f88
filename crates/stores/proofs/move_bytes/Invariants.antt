use mathlib.Core.Path.{◌≡◌}
use Prim.Native.Nat.{◌+◌, ◌≤◌, ◌-◌}
use lib.ListN.{length}
use Rattle.stores.proofs.MoveTurn.{to_move}
use Rattle.stores.proofs.move_bytes.Given as goal

abbrev pub invariant-loop-i : goal.invariant-loop-i
invariant-loop-i l = (l.i ≤ l.many) × (length l.heap ≡ length l.initial.heap) × (to_move l.heap (l.at + l.i) (l.from + l.i) (l.many - l.i) ≡ to_move l.initial.heap l.at l.from l.many)
