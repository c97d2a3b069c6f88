use mathlib.Core.Path.{sym, ◌∙◌}
use native.Mathlib.Omega.{arith}
use Rattle.install.specs.Losing.{found_within}
use Rattle.install.proofs.lose_at.Goals as goal

pub less_at-requires : goal.less_at-requires
less_at-requires c =
    λ k e. omega (arith, found_within c.args.lsns.now _ k (sym c.file_among-slot.ensures ∙ e), c.requires.0)
