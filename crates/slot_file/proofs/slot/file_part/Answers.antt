use mathlib.Core.Path.{sym, ap, ◌∙◌}
use lib.ListN.{take, length}
use Rattle.slot_file.specs.Slots.{file-length}
use mathlib.Core.List.{List}
use Prim.Native.Nat.{ℕ}
use Rattle.slot_file.proofs.slot.file_part.Goals as goal

pub slice_bounds-result-end : goal.slice_bounds-result-end
slice_bounds-result-end c =
    sym (ap (λ (l : List ℕ). length (take c.args.l.file_size l)) c.behind_label-behind.ensures ∙ file-length c.args.l c.args.slot.now c.requires)

pub returns : goal.returns
returns c = ap (take c.args.l.file_size) c.behind_label-behind.ensures
