use mathlib.Core.Path.{ap}
use Rattle.as_numbers.specs.Shown.{shown_table}
use Rattle.marble_c.proofs.marble_compare_and_store.Goals as goal

pub returns : goal.returns
returns c = rw c.compare_shown-held.ensures (ap (shown_table 1) c.compare_and_store.ensures)
