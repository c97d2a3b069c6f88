use mathlib.Core.Path.{◌≡◌}
use lib.ListN.{length, drop}
use Rattle.rules.specs.Base.{each}
use Rattle.rules.specs.Trailer.{count_in, entries_in}
use Rattle.faults.specs.Faults.{entry_faults}
use Rattle.file_faults.specs.Telling.{Going}
use Rattle.file_faults.specs.Walks.{walked_from, Start}
use Rattle.file_faults.proofs.entries.entry_lines.Given as goal

abbrev pub invariant-loop-k : goal.invariant-loop-k
invariant-loop-k l = (l.k-end ≡ count_in l.trailer) × (length l.listing ≡ length l.initial.listing) × Start l.objects l.at
    × Going l.count (each (entry_faults l.slot (walked_from l.objects 0)) (entries_in l.trailer)) l.initial.listing l.told (each (entry_faults l.slot (walked_from l.objects 0)) (drop l.k (entries_in l.trailer))) l.listing
