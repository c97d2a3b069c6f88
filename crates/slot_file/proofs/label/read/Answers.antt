use mathlib.Core.Path.{sym, ap, ◌∙◌}
use lib.Seq.{take_all, length-take-le}
use Rattle.rules.specs.Label.{label_in}
use native.Mathlib.Omega.{arith}
use Rattle.slot_file.proofs.label.read.Goals as goal

pub returns-then-slot-lt-LABEL_BYTES : goal.returns-then-slot-lt-LABEL_BYTES
returns-then-slot-lt-LABEL_BYTES c = c.in_label.ensures ∙ ap label_in (sym (take_all 64 c.args.slot.now (omega arith)))

pub slice_bounds-in_label-end : goal.slice_bounds-in_label-end
slice_bounds-in_label-end c = sym (length-take-le 64 c.args.slot.now (omega arith))
