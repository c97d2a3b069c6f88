use mathlib.Core.Path.{◌≡◌}
use lib.ListN.{length}
use Rattle.numbers.specs.Parts.{front}
use Rattle.numbers.specs.Groups.{groups_of}
use Rattle.numbers.proofs.GroupTurns.{Writing}
use Rattle.numbers.proofs.groups.encode.Given as goal

abbrev pub invariant-loop-rest : goal.invariant-loop-rest
invariant-loop-rest l = (length l.s ≡ length l.initial.s) × Writing 10 (front (groups_of 10 l.x) l.initial.s) (length (groups_of 10 l.x)) l.s l.rest l.i

abbrev pub decreases-loop-rest : goal.decreases-loop-rest
decreases-loop-rest l = l.rest
