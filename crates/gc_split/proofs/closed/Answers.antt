use Rattle.gc_split.specs.Tally.{closing}
use Rattle.gc_split.proofs.closed.Goals as goal

pub returns-then-t : goal.returns-then-t
unfolding closing
returns-then-t c = rw c.if-t.true

pub returns-else-t : goal.returns-else-t
unfolding closing
returns-else-t c = rw (c.if-t.false, c.too_large-large.ensures)
