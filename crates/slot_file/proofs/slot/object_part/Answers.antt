use mathlib.Core.Path.{sym, ap, ◌∙◌}
use lib.ListN.{take, length}
use lib.Seq.{length-take-le}
use Rattle.slot_file.specs.Slots.{file-length}
use native.Mathlib.Omega.{arith}
use Rattle.slot_file.proofs.slot.object_part.Goals as goal

pub slice_bounds-result-end : goal.slice_bounds-result-end
slice_bounds-result-end c =
    let r = c.args.l in
    let size = ap length c.file_part-file.ensures ∙ file-length r c.args.slot.now c.requires.file in
    sym (length-take-le r.trailer_offset c.file_part-file.result.now (omega (arith, c.requires.objects)))

pub returns : goal.returns
returns c = ap (take c.args.l.trailer_offset) c.file_part-file.ensures
