use Rattle.gc_files.proofs.places.shard_of.Goals as goal

pub returns : goal.returns
returns c = rw c.if-o.false c.shard.ensures
