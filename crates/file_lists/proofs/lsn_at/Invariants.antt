use mathlib.Core.Path.{◌≡◌}
use lib.ListN.{drop}
use Rattle.file_lists.specs.Lists.{lead_lsn, slot_of, lsn_at}
use Rattle.file_lists.proofs.LeadTurns.{lead_of}
use Rattle.file_lists.proofs.lsn_at.Given as goal

abbrev pub invariant-loop-i : goal.invariant-loop-i
invariant-loop-i l = (l.slot ≡ slot_of (lead_of l.best l.slot)) × (lsn_at l.lsns l.location ≡ slot_of (lead_lsn (drop l.i l.lsns) l.i l.location (lead_of l.best l.slot)))
