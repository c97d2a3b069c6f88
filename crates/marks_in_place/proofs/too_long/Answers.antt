use mathlib.Core.Path.{refl}
use Rattle.marks_in_place.proofs.too_long.Goals as goal

pub returns : goal.returns
returns c = refl
