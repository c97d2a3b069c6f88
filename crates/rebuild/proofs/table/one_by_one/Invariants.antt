use mathlib.Core.Path.{◌≡◌}
use mathlib.Core.List.{map}
use Rattle.rebuild.specs.Filled.{Filled}
use mathlib.Core.Bool.{true}
use lib.ListN.{take, length}
use Rattle.rules.specs.Trailer.{absolute, count_in, entries_in}
use Rattle.rebuild.proofs.table.one_by_one.Given as goal

abbrev pub invariant-loop-k : goal.invariant-loop-k
invariant-loop-k l = (l.k-end ≡ count_in l.trailer) × (length l.table ≡ length l.initial.table)
    × Filled l.initial.table (take l.k (map (absolute l.lsn) (entries_in l.trailer))) true l.table
