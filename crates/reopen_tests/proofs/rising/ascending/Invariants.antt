use mathlib.Core.Path.{◌≡◌}
use lib.ListN.{drop}
use Rattle.rules.specs.Trailer.{count_in, entries_in}
use Rattle.reopen_tests.specs.Ascending.{ascending, ascending_from}
use Rattle.reopen_tests.proofs.rising.ascending.Given as goal

abbrev pub invariant-loop-k : goal.invariant-loop-k
invariant-loop-k l = (l.n ≡ count_in l.trailer) × (ascending_from l.last (drop l.k (entries_in l.trailer)) ≡ ascending (entries_in l.trailer))
