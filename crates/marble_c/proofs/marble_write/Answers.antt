use Rattle.marble_c.proofs.marble_write.Goals as goal

pub returns : goal.returns
returns c =
    λ claims. rw (c.number.ensures, c.put_state.ensures, ← c.state_in.ensures) (c.write-done.ensures claims)
