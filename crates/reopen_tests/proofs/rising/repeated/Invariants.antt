use mathlib.Core.Path.{◌≡◌}
use lib.ListN.{drop, get_or}
use Rattle.rules.specs.Base.{any}
use Rattle.rules.specs.Trailer.{count_in, entries_in}
use Rattle.rules.specs.Table.{no_entry}
use Rattle.reopen_tests.specs.Ascending.{repeats}
use Prim.Native.Nat.{◌+◌}
use Rattle.reopen_tests.proofs.rising.repeated.Given as goal

abbrev pub invariant-loop-j : goal.invariant-loop-j
invariant-loop-j l = (l.n ≡ count_in l.trailer) × (l.e ≡ get_or (entries_in l.trailer) l.k no_entry) × (any (repeats l.e) (drop l.j (entries_in l.trailer)) ≡ any (repeats l.e) (drop (l.k + 1) (entries_in l.trailer)))
