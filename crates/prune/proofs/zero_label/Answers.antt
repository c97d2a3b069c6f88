use Rattle.prune.proofs.EmptyingTurns.{one_store}
use Rattle.prune.proofs.zero_label.Goals as goal

pub returns : goal.returns
returns c = rw (one_store c.args.slot_bytes c.args.slot) c.put_number.ensures
