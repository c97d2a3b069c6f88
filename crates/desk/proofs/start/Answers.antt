use mathlib.Core.Path.{refl}
use Rattle.desk.proofs.start.Goals as goal

pub returns : goal.returns
returns c = rw (c.defaults.ensures, c.no_state.ensures, c.no_claims.ensures) refl
