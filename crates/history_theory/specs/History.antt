-- Demand 3: whatever calls were made, reads give the last accepted put, and a reopening finds the store as it was.
use Rattle.std.specs.Prelude.{◌≡◌, ◌<◌, ◌∷◌, ◌+◌}
use Rattle.rules.specs.Base.{false, List, [], map, ℕ}
use Rattle.disk_location.specs.Locations.{masked_of}
use Rattle.rules.specs.Ops.{Op}
use Rattle.rules.specs.SettledLaws.{last_on}
use Rattle.rules.specs.FileMap.{is_empty, record_at}
use Rattle.rules.specs.Read.{read_of}
use Rattle.rules.specs.Write.{write_call}
use Rattle.rules.specs.TwoCalls.{rewrite_call}
use Rattle.rules.specs.Prune.{prune_call}
use Rattle.rules.specs.Reopen.{reopen_call}
use Rattle.rules.specs.Sync.{marked_all}
use Rattle.rules.specs.World.{World, records_of, accepted, After}
use Rattle.theory.specs.Marks.{without_mark}
use Rattle.theory.specs.SoundWorld.{SoundWorld}
use Rattle.history_theory.specs.Writing.{engine, heard}
use Rattle.history_theory.specs.Reading.{Reads}
use Rattle.history_theory.specs.Quiet.{QuietCall, quietly}

-- the calls that change a store, and those that only ask; a rewrite's numbers are the room of the lent notes, generation, mark and file count
pub data Call : Type 0 where
  write : List ℕ → Call
  rewrite : ℕ → ℕ → ℕ → ℕ → Call
  prune : Call
  reopen : Call
  quiet : QuietCall → Call

-- document 01's call, or request P7's, accepted or refused
abbrev pub called : World → Call → After
called w (write bytes) = write_call w bytes
called w (rewrite room g mark count) = rewrite_call w room g mark count
called w prune = prune_call w
called w reopen = reopen_call w
called w (quiet q) = quietly w q

-- the plain engine: the operations of all accepted writes, in order
abbrev pub hears : World → List Op → Call → List Op
hears w history (write bytes) = heard history bytes (write_call w bytes).answer
hears w history (rewrite room g mark count) = history
hears w history prune = history
hears w history reopen = history
hears w history (quiet q) = history

-- the store and the engine beside it
pub record Life : Type 0 where
  pub world : World
  pub history : List Op

-- call by call
unfoldable pub lived : Life → List Call → Life
lived l [] = l
lived l (c ∷ cs) = lived (record { world = (called l.world c).world; history = hears l.world l.history c }) cs

-- what demand 3 asks of a store and the engine
pub record Kept (w : World) (history : List Op) : Type 0 where
  -- a read gives the body of the last accepted put, "deleted" after a delete, "never written" where there was neither
  pub reads : (id : ℕ) → Reads w (read_of w id) (last_on history id)
  -- a reopening is accepted, with the same location for each id, and the same record and live count for each slot, compared without the mark
  pub reopens : (reopen_call w).answer ≡ accepted []
  pub same-table : (reopen_call w).world.table ≡ w.table
  pub same-records : map without_mark (records_of (reopen_call w).world) ≡ map without_mark (records_of w)
  -- the mark is "set on reopening", of every file and of nothing else
  pub all-marked : records_of (reopen_call w).world ≡ marked_all (records_of w)
  -- the next position, held or reopened, lies above every file
  pub above : (k : ℕ) → is_empty (record_at (records_of w) k) ≡ false
      → masked_of (record_at (records_of w) k).label.lsn + (record_at (records_of w) k).label.trailer_offset < w.state.next_position
  pub above-reopened : (k : ℕ) → is_empty (record_at (records_of w) k) ≡ false
      → masked_of (record_at (records_of w) k).label.lsn + (record_at (records_of w) k).label.trailer_offset < (reopen_call w).world.state.next_position

-- where a life may start: a store of the invariant, of which the engine says what it heard
abbrev pub Starts : Life → Type 0
Starts l = SoundWorld l.world (engine l.history)

-- ---- a heap whose slots all begin with byte 0
-- the store after a first reopening: nothing was heard
abbrev pub born : World → Life
born w = record { world = (reopen_call w).world; history = [] }
