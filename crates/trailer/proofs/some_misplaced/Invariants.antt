use mathlib.Core.Path.{◌≡◌}
use lib.ListN.{drop}
use Rattle.rules.specs.Base.{any}
use Rattle.rules.specs.Trailer.{entries_in, misplaced}
use Rattle.trailer.proofs.some_misplaced.Given as goal

abbrev pub invariant-loop-k : goal.invariant-loop-k
invariant-loop-k l = any (misplaced l.offset) (drop l.k (entries_in l.trailer)) ≡ any (misplaced l.offset) (entries_in l.trailer)
