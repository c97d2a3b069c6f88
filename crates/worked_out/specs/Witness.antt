-- A life that was worked out, every call of demand 3 in it: a delete is moved by a rewrite while the put that it deletes still stands in a
-- claimed file, then that file's other id by the nightly job; an id is put again, the file that it leaves is pruned, and the store reopened. Each
-- file's mark is seen.
use Rattle.std.specs.Prelude.{◌∷◌}
use Rattle.rules.specs.Base.{List, [], ℕ, map, take, replicate, pick, zeros}
use Rattle.rules.specs.Sync.{is_unsynced}
use Rattle.theory.specs.Types.{Record}
use Rattle.rules.specs.Claims.{no_claims}
use Rattle.rules.specs.World.{World, records_of, no_state, Given, After}
use Rattle.history_theory.specs.History.{Call, called}
use Rattle.rules.specs.FileMap.{is_empty}
use Rattle.rules.specs.TwoCalls.{nightly_call}
use Rattle.rules.specs.Stores.{made}
use Rattle.history_theory.specs.Writes.{Got, bytes, got}

-- four slots of 256 bytes, of zeros
abbrev pub small : World
small = record {
  settings = record { slot_bytes = 256; file_compaction_percent = 100; min_compaction_files = 1; target_file_size = 100; small_file_cleanup_threshold = 256; max_object_size = 100 };
  state = no_state;
  claims = no_claims;
  heap = replicate 1024 0;
  table = replicate 8 0;
}

-- a slot after a call: no file, or one whose mark is clear or set
pub data Mark : Type 0 where
  none : Mark
  clear : Mark
  set : Mark

-- by its record
abbrev pub mark_of : Record → Mark
mark_of r = pick (is_empty r) none (pick (is_unsynced r) clear set)

-- a call's answer, what the four slots hold after it, and what ids 6, 7, 8 and 9 read as
pub record Stage : Type 0 where
  pub answer : Given
  pub files : List Mark
  pub reads : List Got

-- after a call
unfoldable pub seen : After → Stage
seen a = record {
  answer = a.answer;
  files = map mark_of (take 4 (records_of a.world));
  reads = got a.world 6 ∷ got a.world 7 ∷ got a.world 8 ∷ got a.world 9 ∷ [];
}

-- a call, or the nightly job with lent notes of this room
pub data Step : Type 0 where
  call : Call → Step
  job : ℕ → Step

-- made
abbrev pub stepped : World → Step → After
stepped w (call c) = called w c
stepped w (job room) = nightly_call w room

-- step by step
unfoldable pub stages : After → List Step → List Stage
stages a [] = seen a ∷ []
stages a (s ∷ ss) = seen a ∷ stages (stepped a.world s) ss
