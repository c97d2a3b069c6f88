-- Reopening a store of the invariant: accepted, with the same table, records and live counts, every file's mark set, and a next position
-- above every file.
use Rattle.rules.specs.Sync.{marked_all}
use Rattle.rules.specs.Claims.{no_claims}
use Rattle.rules.specs.Reopen.{files_in, next_after}
use Rattle.rules.specs.World.{World, records_of, state_with}
use Rattle.theory.specs.Picture.{views_of}

-- the same store without claims, every file's mark set, its next position worked out again
abbrev pub again : World → World
again w = record {
  settings = w.settings;
  state = state_with w.state (marked_all (records_of w)) (next_after (files_in (views_of w)));
  claims = no_claims;
  heap = w.heap;
  table = w.table;
}
