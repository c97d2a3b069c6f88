use mathlib.Core.Path.{◌≡◌}
use lib.ListN.{length, drop}
use Rattle.rules.specs.Trailer.{entries_in}
use Rattle.rules.specs.Layout.{used_entries}
use Rattle.install.specs.Losing.{losing_lives}
use Rattle.install.proofs.lose_all.Given as goal

abbrev pub invariant-loop-k : goal.invariant-loop-k
invariant-loop-k l = (length l.lives ≡ length l.initial.lives) × (losing_lives l.lsns (used_entries l.table) (drop l.k (entries_in l.trailer)) l.lives ≡ losing_lives l.lsns (used_entries l.table) (entries_in l.trailer) l.initial.lives)
