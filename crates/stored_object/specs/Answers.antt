-- What a read of an object answers: where its body starts and its length, or a refusal.
use Rattle.std.specs.Prelude.{ℕ, Result}
use Rattle.rules.specs.declared.Refusal.{Refusal}

abbrev pub BodyAnswer : Type 0
BodyAnswer = Result (ℕ × ℕ) Refusal
