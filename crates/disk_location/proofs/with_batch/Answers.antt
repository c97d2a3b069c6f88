use Rattle.disk_location.proofs.Laws.{or-sets}
use Rattle.disk_location.proofs.with_batch.Goals as goal

pub returns : goal.returns
returns c = or-sets c.args.x c.ranges.x.fits
