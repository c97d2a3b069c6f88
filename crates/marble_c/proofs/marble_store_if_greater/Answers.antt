use mathlib.Core.Path.{ap}
use Rattle.as_numbers.specs.Shown.{shown_table}
use Rattle.marble_c.proofs.marble_store_if_greater.Goals as goal

pub returns : goal.returns
returns c = rw c.greater_shown-was.ensures (ap (shown_table 1) c.store_if_greater.ensures)
