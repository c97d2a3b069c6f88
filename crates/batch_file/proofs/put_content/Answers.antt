use Rattle.rules.specs.Stores.{stores_of}
use Rattle.stores.specs.Runs.{made_none}
use Rattle.batch_file.proofs.put_content.Goals as goal

pub returns-then-o : goal.returns-then-o
unfolding stores_of
returns-then-o c = rw c.if-o.true (made_none _ _)
