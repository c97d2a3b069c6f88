use mathlib.Core.Path.{◌∙◌}
use Rattle.slot_writer.specs.Labels.{label-made}
use Rattle.slot_writer.proofs.label.bytes_of.Goals as goal

pub returns : goal.returns
returns c = c.put_five.ensures ∙ label-made c.args.l
