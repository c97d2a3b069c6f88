use mathlib.Core.Path.{◌≡◌}
use lib.ListN.{drop}
use Rattle.rules.specs.Trailer.{entries_in}
use Rattle.rules.specs.Table.{insert_all}
use Rattle.rules.specs.Layout.{used_entries, capacity_of}
use Rattle.location_table.specs.Tables.{Formed}
use Rattle.install.specs.Adding.{taken}
use Rattle.install.proofs.one_by_one.Given as goal

abbrev pub invariant-loop-k : goal.invariant-loop-k
invariant-loop-k l = Formed l.table × (capacity_of l.table ≡ capacity_of l.initial.table) × (insert_all (used_entries l.table) (taken l.lsn (drop l.k (entries_in l.trailer))) ≡ insert_all (used_entries l.initial.table) (taken l.lsn (entries_in l.trailer)))
