use mathlib.Core.Path.{sym, ap, ◌∙◌}
use mathlib.Core.List.{◌∷◌, []}
use Prim.Native.Nat.{ℕ}
use Rattle.rules.specs.Base.{padded}
use Rattle.through.specs.Answers.{ThroughAnswer}
use Rattle.through.specs.Through.{through_given}
use Rattle.as_numbers.specs.Shown.{given, shown}
use Rattle.marble_c.proofs.through_shown.Goals as goal

pub returns-in-Ok : goal.returns-in-Ok
unfolding padded
returns-in-Ok c = c.places_of.ensures ∙ ap (λ (x : ThroughAnswer). shown 4 (through_given x)) (sym c.in-Ok.is)

pub returns-in-Err : goal.returns-in-Err
unfolding padded
returns-in-Err c = ap (λ (n : ℕ). given n (0 ∷ 0 ∷ 0 ∷ 0 ∷ [])) c.refusal_number.ensures ∙ ap (λ (x : ThroughAnswer). shown 4 (through_given x)) (sym c.in-Err.is)
