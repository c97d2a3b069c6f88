use mathlib.Core.Path.{refl}
use Rattle.rules.specs.Settings.{in_ranges}
use Rattle.limits.proofs.in_ranges.Goals as goal

pub returns : goal.returns
unfolding in_ranges
returns c =
    rw (c.within.ensures, c.within-2.ensures, c.within-3.ensures, c.within-4.ensures, c.within-5.ensures, c.within-6.ensures) refl
