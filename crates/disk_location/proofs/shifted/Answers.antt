use Rattle.disk_location.proofs.Laws.{or-mark, shl_one}
use Rattle.disk_location.proofs.shifted.Goals as goal

pub returns : goal.returns
returns c = rw (c.from.ensures, shl_one _ c.requires) (or-mark c.args.position c.args.delete)
