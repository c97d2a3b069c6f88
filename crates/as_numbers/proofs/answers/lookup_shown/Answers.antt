use Rattle.std.specs.Prelude.{Ok}
use mathlib.Core.Path.{sym, ap}
use Rattle.rules.specs.Base.{padded}
use Rattle.rules.specs.declared.Lookup.{Lookup}
use Rattle.rules.specs.World.{read_given}
use Rattle.as_numbers.specs.Shown.{shown}
use Rattle.as_numbers.proofs.answers.lookup_shown.Goals as goal

pub returns-in-Found : goal.returns-in-Found
unfolding padded
returns-in-Found c = ap (λ (x : Lookup). shown 3 (read_given (Ok x))) (sym c.in-Found.is)

pub returns-in-Deleted : goal.returns-in-Deleted
unfolding padded
returns-in-Deleted c = ap (λ (x : Lookup). shown 3 (read_given (Ok x))) (sym c.in-Deleted.is)

pub returns-in-NeverWritten : goal.returns-in-NeverWritten
unfolding padded
returns-in-NeverWritten c = ap (λ (x : Lookup). shown 3 (read_given (Ok x))) (sym c.in-NeverWritten.is)
