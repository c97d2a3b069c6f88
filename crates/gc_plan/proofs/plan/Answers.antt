use Rattle.gc_plan.proofs.plan.Goals as goal

pub returns : goal.returns
returns c =
    rw (← c.put_state.ensures) c.plan_in.ensures
