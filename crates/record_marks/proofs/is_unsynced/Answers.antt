use mathlib.Core.Path.{ap}
use mathlib.Core.Bool.{Bool, not, ◌&&◌}
use lib.Dec.{eqb}
use Rattle.rules.specs.Sync.{is_unsynced}
use Rattle.record_marks.proofs.is_unsynced.Goals as goal

pub returns : goal.returns
unfolding is_unsynced
returns c = ap (λ (b : Bool). not b && eqb c.args.r.synced 0) c.is_empty.ensures
