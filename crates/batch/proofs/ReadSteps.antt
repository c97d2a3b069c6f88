-- What a read at a position says of the operations from there on, for the check to find by itself.
use Rattle.batch.specs.Behind.{operation-behind}
use Rattle.batch.specs.ReadingLaws.{ops-end, ops-next}
use Rattle.batch.specs.OrderLaws.{rising_none, rising-more, rising-stops}
use Rattle.batch.proofs.ListTurns.{listed-stops, listed-bad, listed_at, listed-before, listed-past}

pub ruleset reads = (operation-behind, ops-end, ops-next, rising_none, rising-more, rising-stops)

pub ruleset steps = (ops-end, ops-next, listed-stops, listed-bad, listed_at, listed-before, listed-past)
