use mathlib.Core.Path.{sym, ap, ◌∙◌}
use mathlib.Core.List.{◌∷◌, []}
use Rattle.rules.specs.Base.{padded}
use Rattle.rules.specs.Types.{ReadAnswer}
use Rattle.rules.specs.World.{read_given}
use Rattle.as_numbers.specs.Shown.{given, shown}
use Prim.Native.Nat.{ℕ}
use Rattle.as_numbers.proofs.answers.read_shown.Goals as goal

pub returns-in-Ok : goal.returns-in-Ok
unfolding padded
returns-in-Ok c = c.lookup_shown.ensures ∙ ap (λ (x : ReadAnswer). shown 3 (read_given x)) (sym c.in-Ok.is)

pub returns-in-Err : goal.returns-in-Err
unfolding padded
returns-in-Err c = ap (λ (n : ℕ). given n (0 ∷ 0 ∷ 0 ∷ [])) c.refusal_number.ensures ∙ ap (λ (x : ReadAnswer). shown 3 (read_given x)) (sym c.in-Err.is)
