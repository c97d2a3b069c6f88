use Rattle.gc.proofs.rewrite.Goals as goal

pub returns : goal.returns
returns c =
    rw (c.state_in.ensures, ← c.put_state.ensures) c.rewrite_in-answer.ensures
