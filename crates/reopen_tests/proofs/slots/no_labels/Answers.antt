use mathlib.Core.Path.{ap}
use lib.ListN.{replicate}
use Rattle.reopen_tests.specs.Labels.{no_labels}
use Rattle.reopen_tests.proofs.slots.no_labels.Goals as goal

pub returns : goal.returns
unfolding no_labels
returns c = ap (replicate 256) c.no_label-l.ensures
