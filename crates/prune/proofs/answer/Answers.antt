use mathlib.Core.Path.{refl}
use Rattle.prune.proofs.answer.Goals as goal

pub returns-then-refused : goal.returns-then-refused
returns-then-refused c = rw c.if-refused.true refl

pub returns : goal.returns
returns c = rw c.if-refused.false refl
