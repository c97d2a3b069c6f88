-- What a slot shows: a file's label, nothing, or the first refusal of 8 to 13.
use Rattle.std.specs.Prelude.{Option, Result}
use Rattle.rules.specs.declared.Label.{Label}
use Rattle.rules.specs.declared.Refusal.{Refusal}

abbrev pub SlotAnswer : Type 0
SlotAnswer = Result (Option Label) Refusal
