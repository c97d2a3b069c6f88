use Rattle.marble_c.proofs.marble_store.Goals as goal

pub returns : goal.returns
returns c = rw c.number.ensures c.store.ensures
