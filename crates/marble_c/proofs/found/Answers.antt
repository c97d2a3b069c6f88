use Rattle.marble_c.proofs.found.Goals as goal

pub returns : goal.returns
returns c = λ claims. rw (← c.state_in.ensures) (c.read_answer.ensures claims)
