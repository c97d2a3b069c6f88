use mathlib.Core.Path.{ap, ◌∙◌}
use lib.ListN.{drop, length-drop, length}
use lib.Seq.{take_all}
use Rattle.slot_file.specs.Slots.{file-length}
use Prim.Native.Nat.{◌-◌, ◌≤◌}
use native.Mathlib.Omega.{arith}
use Rattle.slot_file.proofs.slot.trailer_part.Goals as goal

-- the object bytes lie in the file
fits : (f : goal.After-file_part-file) → f.args.l.trailer_offset ≤ length f.file_part-file.result.now
fits f =
    omega (arith, ap length f.file_part-file.ensures ∙ file-length f.args.l f.args.slot.now f.requires.file, f.requires.objects)

pub slice_bounds-result-count : goal.slice_bounds-result-count
slice_bounds-result-count c = omega (arith, fits c)

pub slice_bounds-result-start : goal.slice_bounds-result-start
slice_bounds-result-start c = omega (arith, fits c)

pub returns : goal.returns
returns c =
    let file = c.file_part-file.result.now in
    let offset = c.args.l.trailer_offset in
    take_all (length file - offset) (drop offset file) (omega (arith, length-drop offset file)) ∙ ap (drop offset) c.file_part-file.ensures
