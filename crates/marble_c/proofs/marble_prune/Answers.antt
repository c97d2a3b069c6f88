use Rattle.marble_c.proofs.marble_prune.Goals as goal

pub returns : goal.returns
returns c =
    rw (c.number.ensures, c.put_state.ensures, ← c.claims_in.ensures, ← c.state_in.ensures) c.prune-done.ensures
