use Rattle.std.proofs.Common.{◌+◌, ap}
use Rattle.byte_parts.proofs.Turns.{found, missing}
use Rattle.byte_parts.proofs.find.Goals as goal

pub returns-in-Some-clause-finds : goal.returns-in-Some-clause-finds
returns-in-Some-clause-finds c =
    let a = c.args in
    ap (λ n. a.from + n) (found a.byte a.from a.to a.s.now c.requires.ordered c.in-Some.i c.in-Some.ensures)

pub returns-in-None-clause-finds : goal.returns-in-None-clause-finds
returns-in-None-clause-finds c =
    let a = c.args in
    missing a.byte a.from a.to a.s.now c.requires.ordered c.requires.within c.in-None.ensures
