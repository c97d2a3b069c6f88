use mathlib.Core.Path.{ap}
use lib.ListN.{replicate}
use Rattle.rules.specs.FileMap.{no_files}
use Rattle.file_map.proofs.no_files.Goals as goal

pub returns : goal.returns
unfolding no_files
returns c = ap (replicate 256) c.empty-e.ensures
