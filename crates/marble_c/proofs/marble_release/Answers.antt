use Rattle.marble_c.proofs.marble_release.Goals as goal

pub returns : goal.returns
returns c =
    rw (c.number.ensures, c.put_claims.ensures, ← c.claims_in.ensures, ← c.state_in.ensures) c.release-done.ensures
