use Rattle.disk_location.proofs.Laws.{mask-clears}
use Rattle.disk_location.proofs.masked.Goals as goal

pub returns : goal.returns
returns c = mask-clears c.args.x c.ranges.x.fits
