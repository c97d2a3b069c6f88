use Rattle.checksum.proofs.Entries.{entry}
use Rattle.checksum.proofs.table.half_out.Goals as goal

pub returns : goal.returns
returns c = entry c.args.row c.args.n _ c.requires
