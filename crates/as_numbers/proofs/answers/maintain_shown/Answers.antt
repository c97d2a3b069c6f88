use mathlib.Core.Path.{refl, sym, ap}
use Rattle.rules.specs.Base.{padded}
use Rattle.rules.specs.Types.{MaintainAnswer}
use Rattle.rules.specs.World.{maintain_given}
use Rattle.as_numbers.specs.Shown.{stop_shown}
use Rattle.rules.proofs.Answers.{known}
use Rattle.as_numbers.proofs.answers.maintain_shown.Goals as goal

pub returns-in-Ok : goal.returns-in-Ok
unfolding padded
returns-in-Ok c = ap (λ (x : MaintainAnswer). stop_shown (maintain_given x)) (sym c.in-Ok.is)

pub returns-in-Err : goal.returns-in-Err
unfolding padded
returns-in-Err c = rw (c.refusal_number.ensures, c.in-Err.is, (known c.in-Err.field-0.refusal).some) refl
