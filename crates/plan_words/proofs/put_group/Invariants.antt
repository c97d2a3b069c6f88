use Prim.Native.Nat.{◌≤◌}
use lib.ListN.{length}
use Rattle.plan_words.proofs.GroupTurns.{Written}
use Rattle.plan_words.proofs.put_group.Given as goal

abbrev pub invariant-loop-i : goal.invariant-loop-i
invariant-loop-i l = (l.n ≤ l.i) × Written l.slots l.generation (length l.initial.words) l.n l.i l.words
