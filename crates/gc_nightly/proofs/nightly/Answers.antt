use Rattle.gc_nightly.proofs.nightly.Goals as goal

pub returns : goal.returns
returns c =
    rw (c.state_in.ensures, ← c.put_state.ensures) c.nightly_in-answer.ensures
