use mathlib.Core.Path.{◌≡◌}
use lib.ListN.{drop}
use Rattle.rules.specs.Trailer.{count_in, entries_in}
use Rattle.rules.specs.Reopen.{not_rising}
use Rattle.reopen_tests.proofs.rising.some_repeated.Given as goal

abbrev pub invariant-loop-k : goal.invariant-loop-k
invariant-loop-k l = (l.k-end ≡ count_in l.trailer) × (not_rising (drop l.k (entries_in l.trailer)) ≡ not_rising (entries_in l.trailer))
