-- Calls in a reader's words: where the file of an accepted write stands, what is read and reopened after it; that every other call leaves reads as they were; that refused calls change nothing.
use Rattle.std.specs.Prelude.{◌≡◌, ◌<◌, ◌^◌, Err, Ok}
use Rattle.rules.specs.Base.{List, [], ℕ, length}
use Rattle.theory.specs.Types.{Refusal, ReadAnswer, Found, Deleted, NeverWritten}
use Rattle.rules.specs.Refusal.{◌gives◌}
use Rattle.rules.specs.Ops.{put, delete}
use Rattle.rules.specs.SettledLaws.{Last, silent, last, last_on}
use Rattle.rules.specs.Batch.{batch_in, ops_of}
use Rattle.rules.specs.Read.{read_of, part_of}
use Rattle.rules.specs.Install.{installed}
use Rattle.rules.specs.Write.{written, write_call}
use Rattle.rules.specs.WriteLaws.{ops_in}
use Rattle.rules.specs.Reopen.{reopen_call}
use Rattle.rules.specs.World.{World, records_of, accepted}
use Rattle.rules.specs.Sync.{marked_all}
use Rattle.theory.specs.Standing.{Stood}
use Rattle.history_theory.specs.History.{Call, write, rewrite, prune, reopen, quiet}

-- what a read gives a host: never written, deleted, the bytes of a part of the heap, or a refusal
pub data Got : Type 0 where
  never : Got
  deleted : Got
  bytes : List ℕ → Got
  unread : Refusal → Got

-- by the answer
abbrev pub got_by : ReadAnswer → List ℕ → Got
got_by (Ok (Found start size)) part = bytes part
got_by (Ok Deleted) part = deleted
got_by (Ok NeverWritten) part = never
got_by (Err r) part = unread r

-- of an id
abbrev pub got : World → ℕ → Got
got w id = got_by (read_of w id) (part_of (read_of w id) w.heap)

-- what the last of some operations on an id leaves to be read: where there is none, what was read before
abbrev pub left_by : Last → Got → Got
left_by silent before = before
left_by (last (put body)) before = bytes body
left_by (last delete) before = deleted

-- what an accepted write leaves
pub record Wrote (w : World) (batch : List ℕ) : Type 0 where
  -- the batch's file, unless it is empty, stands in the lowest empty slot
  pub stands : 0 < length (ops_in batch) → ((write_call w batch).world ≡ installed (2 ^ 62) 0 w (ops_in batch)) × Stood (2 ^ 62) 0 w (ops_in batch)
  -- each id of the batch reads as its last put or as deleted, every other id as before
  pub reads : (id : ℕ) → got (write_call w batch).world id ≡ left_by (last_on (ops_of (batch_in batch)) id) (got w id)
  -- a reopening is accepted, with the table, the records and the live counts that the write left, every file's mark set
  pub reopens : (reopen_call (write_call w batch).world).answer ≡ accepted []
  pub same-table : (reopen_call (write_call w batch).world).world.table ≡ (write_call w batch).world.table
  pub same-records : records_of (reopen_call (write_call w batch).world).world ≡ marked_all (records_of (write_call w batch).world)

-- ---- the other calls
-- a call that brings no put and no delete
abbrev pub Unheard : Call → Type 0
Unheard (write batch) = ⊥
Unheard (rewrite room g mark count) = Unit {0}
Unheard prune = Unit {0}
Unheard reopen = Unit {0}
Unheard (quiet q) = Unit {0}

-- ---- refused calls
-- all but reopening, which gives the old table up
abbrev pub Plain : Call → Type 0
Plain (write batch) = Unit {0}
Plain (rewrite room g mark count) = Unit {0}
Plain prune = Unit {0}
Plain reopen = ⊥
Plain (quiet q) = Unit {0}
