use mathlib.Core.Path.{sym, ap}
use Rattle.rules.specs.Base.{padded}
use Rattle.rules.specs.declared.Loaded.{Loaded}
use Rattle.rules.specs.World.{loaded_given}
use Rattle.as_numbers.specs.Shown.{shown}
use Rattle.as_numbers.proofs.answers.loaded_shown.Goals as goal

pub returns-in-At : goal.returns-in-At
unfolding padded
returns-in-At c = ap (λ (x : Loaded). shown 2 (loaded_given x)) (sym c.in-At.is)

pub returns-in-DeletedAt : goal.returns-in-DeletedAt
unfolding padded
returns-in-DeletedAt c = ap (λ (x : Loaded). shown 2 (loaded_given x)) (sym c.in-DeletedAt.is)

pub returns-in-Never : goal.returns-in-Never
unfolding padded
returns-in-Never c = ap (λ (x : Loaded). shown 2 (loaded_given x)) (sym c.in-Never.is)
