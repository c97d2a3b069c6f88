use Rattle.file_faults.proofs.Telling.{tells-if, tells-if-not}
use native.Mathlib.Omega.{arith}
use Rattle.file_faults.proofs.tell.note_if.Goals as goal

pub returns-then-condition : goal.returns-then-condition
returns-then-condition c =
    let a = c.args in
    record {
      tells = tells-if a.condition a.x c.if-condition.true c.note.ensures;
      within = omega (arith, c.note.ensures.count);
    }

pub returns : goal.returns
returns c =
    let a = c.args in
    record {
      tells = tells-if-not a.condition a.x c.if-condition.false;
      within = omega arith;
    }
