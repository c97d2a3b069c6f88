use mathlib.Core.Path.{refl}
use Rattle.rules.specs.Prune.{is_dead}
use Rattle.prune.proofs.is_dead.Goals as goal

pub returns : goal.returns
unfolding is_dead
returns c = rw (c.is_empty.ensures, c.is_claimed.ensures) refl
