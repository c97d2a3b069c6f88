use Rattle.batch_file.specs.Summing.{trailer-of}
use Rattle.batch_file.proofs.put_trailer.Goals as goal

pub returns : goal.returns
returns c =
    trailer-of c.args.at _ c.requires.3 c.requires.2 c.put_head-rest.ensures c.put_entries.ensures
