use mathlib.Core.Path.{ap, ◌∙◌}
use Rattle.std.specs.Int.{from_bool}
use Rattle.file_faults.proofs.Telling.{line-words, part-line}
use native.Mathlib.Omega.{arith}
use Rattle.file_faults.proofs.tell.put_line.Goals as goal

pub returns : goal.returns
returns c =
    let words = line-words c.args.x _ _ _ c.refusal_number.ensures (c.from.ensures ∙ ap from_bool c.is_some.ensures) c.unwrap_or.ensures in
    part-line _ _ _ _ c.args.x (omega arith) (c.copy_from_slice.ensures.after ∙ words)
