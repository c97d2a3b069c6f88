-- What a read through a batch answers, and what a pass over a batch finds: the last operation, or bytes that are no batch.
use Rattle.std.specs.Prelude.{Option, Result}
use Rattle.rules.specs.declared.Refusal.{Refusal}
use Rattle.through.specs.declared.ThroughLookup.{ThroughLookup}
use Rattle.through.specs.declared.LastOperation.{LastOperation}

abbrev pub ThroughAnswer : Type 0
ThroughAnswer = Result ThroughLookup Refusal

abbrev pub Pass : Type 0
Pass = Option LastOperation
