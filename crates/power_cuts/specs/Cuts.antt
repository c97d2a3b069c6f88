-- Request P8: what a power cut leaves, what is read after it, and lives with power cuts in them.
use Rattle.std.specs.Prelude.{◌≡◌, ◌⊎◌, ◌<◌, ◌≤◌, ◌∷◌}
use Rattle.rules.specs.Base.{List, [], ℕ, length, take, leb, pick}
use Rattle.rules.specs.Refusal.{after}
use Rattle.rules.specs.Ops.{Op}
use Rattle.rules.specs.Stores.{made}
use Rattle.rules.specs.Write.{write_call}
use Rattle.rules.specs.Reopen.{reopen_call}
use Rattle.rules.specs.World.{World, accepted}
use Rattle.history_theory.specs.History.{Call, write, rewrite, prune, reopen, quiet, called, hears, Life}
use Rattle.history_theory.specs.Writes.{got}
use Rattle.power_cuts.specs.Runs.{run_of}

-- "the same settings and table size"
pub record Alike (w v : World) : Type 0 where
  pub settings : v.settings ≡ w.settings
  pub table : length v.table ≡ length w.table

-- v is what the robot may have after power was cut behind the first k stores of the call: the heap as far as it was stored, the same settings
-- and table size; of the memory, which is lost, nothing is said: any state, any claims, any content of the table
pub record CutAt (k : ℕ) (w : World) (c : Call) (v : World) : Type 0 where
  pub alike : Alike w v
  pub heap : v.heap ≡ made (take k (run_of w c)) w.heap

-- every id reads in v as in w, by the bytes got
abbrev pub SameReads : World → World → Type 0
SameReads v w = (id : ℕ) → got v id ≡ got w id

-- v: what was found after a call of w was cut. "every read as before the call or every read as after it. For a rewrite or prune, every k gives the same
-- reads as before."
abbrev pub ReadsAfterCut : World → Call → World → Type 0
ReadsAfterCut w (write bytes) v = SameReads v w ⊎ SameReads v (write_call w bytes).world
ReadsAfterCut w (rewrite room g mark count) v = SameReads v w
ReadsAfterCut w prune v = SameReads v w
ReadsAfterCut w reopen v = SameReads v w
ReadsAfterCut w (quiet q) v = SameReads v w

-- power was cut behind the first k stores of the call, and the robot has v
pub record Survived (k : ℕ) (w : World) (c : Call) (v : World) : Type 0 where
  -- reopening is accepted
  pub reopens : (reopen_call v).answer ≡ accepted []
  pub reads : ReadsAfterCut w c (reopen_call v).world
  -- which of the two: as before while a store was missing, as after once all were made
  pub before : k < length (run_of w c) → SameReads (reopen_call v).world w
  pub after : length (run_of w c) ≤ k → SameReads (reopen_call v).world (called w c).world

-- ---- what the plain engine hears of a cut call: all of it if the run was complete, else nothing
abbrev pub hears_cut : ℕ → World → List Op → Call → List Op
hears_cut k w history c = pick (leb (length (run_of w c)) k) (hears w history c) history

-- what happens to a store: a call made to its end, or one cut behind its first k stores, and a reopening of what the robot then has
pub data Event : Type 0 where
  done : Call → Event
  cut : ℕ → Call → World → Event

-- it has what a power cut leaves
abbrev pub Happens : World → Event → Type 0
Happens w (done c) = Unit {0}
Happens w (cut k c v) = CutAt k w c v

-- the store and the engine after it
abbrev pub happened : Life → Event → Life
happened l (done c) = record { world = (called l.world c).world; history = hears l.world l.history c }
happened l (cut k c v) = record { world = (reopen_call v).world; history = hears_cut k l.world l.history c }

-- event by event
unfoldable pub lived_on : Life → List Event → Life
lived_on l [] = l
lived_on l (e ∷ es) = lived_on (happened l e) es

-- each of them happens to the store that the others left
unfoldable pub AllHappen : Life → List Event → Type 0
AllHappen l [] = Unit {0}
AllHappen l (e ∷ es) = Happens l.world e × AllHappen (happened l e) es
