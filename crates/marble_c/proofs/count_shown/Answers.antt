use mathlib.Core.Path.{sym, ap, ◌∙◌}
use mathlib.Core.List.{◌∷◌, []}
use Prim.Native.Nat.{ℕ}
use Rattle.rules.specs.Base.{padded}
use Rattle.checker.specs.Answers.{CheckAnswer, check_given}
use Rattle.salvage.specs.Answers.{SalvageAnswer, salvage_given}
use Rattle.as_numbers.specs.Shown.{given, shown}
use Rattle.marble_c.proofs.count_shown.Goals as goal

pub returns-in-Ok : goal.returns-in-Ok
unfolding padded
returns-in-Ok c = record {
  check = ap (λ (x : CheckAnswer). shown 1 (check_given x)) (sym c.in-Ok.is);
  salvage = ap (λ (x : SalvageAnswer). shown 1 (salvage_given x)) (sym c.in-Ok.is);
}

pub returns-in-Err : goal.returns-in-Err
unfolding padded
returns-in-Err c =
    let number = ap (λ (n : ℕ). given n (0 ∷ [])) c.refusal_number.ensures in record {
      check = number ∙ ap (λ (x : CheckAnswer). shown 1 (check_given x)) (sym c.in-Err.is);
      salvage = number ∙ ap (λ (x : SalvageAnswer). shown 1 (salvage_given x)) (sym c.in-Err.is);
    }
