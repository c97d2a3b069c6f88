-- A store's life by what its calls gave: each result one that the contract of its call admits (`CallContracts`), and power cuts among them.
use Rattle.std.specs.Prelude.{◌≡◌, ◌∷◌}
use Rattle.rules.specs.Base.{List, [], ℕ}
use Rattle.rules.specs.Types.{ReadAnswer, CountsAnswer}
use Rattle.rules.specs.declared.Record.{Record}
use Rattle.rules.specs.Ops.{Op}
use Rattle.rules.specs.Claims.{with_claims, claim_call, release_call}
use Rattle.rules.specs.Counts.{counts_call}
use Rattle.rules.specs.Read.{read_of, part_of}
use Rattle.rules.specs.Reopen.{reopen_call}
use Rattle.rules.specs.TwoCalls.{room_of}
use Rattle.rules.specs.World.{World, world, records_of, state_with, leaving, answer_given, counts_given}
use Rattle.history_theory.specs.Writing.{heard}
use Rattle.history_theory.specs.History.{Call, Life}
use Rattle.history_theory.specs.Clean.{Clean, heard_at}
use Rattle.power_cuts.specs.Cuts.{CutAt, hears_cut}
use Rattle.recovery.specs.declared.Reopened.{Reopened}
use Rattle.recovery.specs.Reopening.{leaves}
use Rattle.writepath.specs.declared.Written.{Written}
use Rattle.writepath.specs.Unique.{Writes}
use Rattle.claims.specs.declared.ClaimAnswer.{ClaimAnswer}
use Rattle.gc_course.specs.declared.Request.{Request}
use Rattle.gc_plan.specs.declared.Planned.{Planned}
use Rattle.gc_plan.specs.Unique.{Plans}
use Rattle.gc.specs.declared.Rewritten.{Rewritten}
use Rattle.gc_nightly.specs.declared.Maintained.{Maintained}
use Rattle.gc.specs.Unique.{Lent, Asked, Rewrites}
use Rattle.gc_nightly.specs.Unique.{Nightly}
use Rattle.prune.specs.declared.PruneAnswer.{PruneAnswer}
use Rattle.prune.specs.CallLaws.{Prunes}
use Rattle.through.specs.Answers.{ThroughAnswer}
use Rattle.through.specs.Through.{through_of, through_part}
use Rattle.as_numbers.specs.declared.answers.One.{One}
use Rattle.as_numbers.specs.Shown.{given, shown}
use Rattle.rules.specs.Sync.{unsynced_call, sync_call}
use Rattle.faults.specs.Faults.{check_call}
use Rattle.checker.specs.Answers.{CheckAnswer}
use Rattle.marble.specs.Unique.{Claims-leaves, Checks}

-- the notes that a host lends to a plan, a rewrite or the nightly job
pub record Notes : Type 0 where
  pub places : List ℕ
  pub pieces : List ℕ

-- what they have room for
abbrev pub room_in : Notes → ℕ
room_in n = room_of n.places n.pieces

-- all that a rewrite or the nightly job is lent
abbrev pub lent : List ℕ → List ℕ → Notes → Lent
lent heap table n = record { heap = heap; table = table; places = n.places; pieces = n.pieces }

-- by a host that has w
abbrev pub lending : World → Notes → Asked
lending w n = record { settings = w.settings; state = w.state; claims = w.claims; lent = lent w.heap w.table n }

-- a call and what it gave: what was asked, what it returned, and the buffers that it may change, as it left them
pub data Result : Type 0 where
  -- batch; heap, table
  wrote : List ℕ → Written → List ℕ → List ℕ → Result
  -- notes before; after
  planned : Notes → Planned → Notes → Result
  -- notes before, generation, mark and count; heap, table, notes after
  rewrote : Notes → Request → Rewritten → List ℕ → List ℕ → Notes → Result
  -- the nightly job: notes before; heap, table, notes after
  maintained : Notes → Maintained → List ℕ → List ℕ → Notes → Result
  -- heap
  pruned : PruneAnswer → List ℕ → Result
  -- slot
  claimed : ℕ → ClaimAnswer → Result
  released : ℕ → ClaimAnswer → Result
  -- table
  reopened : Reopened → List ℕ → Result
  -- id, by `read_answer` and by `read`
  answered : ℕ → ReadAnswer → Result
  read : ℕ → List ℕ → Result
  -- batch, id, by `through_answer` and by `through`
  answered_through : List ℕ → ℕ → ThroughAnswer → Result
  read_through : List ℕ → ℕ → List ℕ → Result
  counted : CountsAnswer → Result
  -- the records, lent: by `unsynced`; by `sync`, which leaves them so
  unsynced_counted : One → Result
  synced : One → List Record → Result
  -- the listing before; after
  checked : List ℕ → CheckAnswer → List ℕ → Result

-- what the host has after it
abbrev pub left : World → Result → World
left w (wrote batch r heap table) = world w.settings r.state w.claims heap table
left w (planned before r after) = w
left w (rewrote before asked r heap table after) = world w.settings r.state w.claims heap table
left w (maintained before r heap table after) = world w.settings r.state w.claims heap table
left w (pruned r heap) = world w.settings r.state w.claims heap w.table
left w (claimed slot r) = with_claims w r.claims
left w (released slot r) = with_claims w r.claims
left w (reopened r table) = world w.settings r.state r.claims w.heap table
left w (answered id r) = w
left w (read id part) = w
left w (answered_through batch id r) = w
left w (read_through batch id part) = w
left w (counted r) = w
left w (unsynced_counted r) = w
left w (synced r records) = world w.settings (state_with w.state records w.state.next_position) w.claims w.heap w.table
left w (checked before r after) = w

-- the contract of its call admits it, where the host had w and handed it on
abbrev pub Admitted : World → Result → Type 0
Admitted w (wrote batch r heap table) = Writes w.settings w batch w.claims r heap table
Admitted w (planned before r after) = Plans w before.places before.pieces r after.places after.pieces
Admitted w (rewrote before asked r heap table after) = Rewrites (lending w before) asked r (lent heap table after)
Admitted w (maintained before r heap table after) = Nightly (lending w before) r (lent heap table after)
Admitted w (pruned r heap) = Prunes w.settings w.state w.claims w.heap w.table r heap
Admitted w (claimed slot r) = Claims-leaves w.settings w.state w.heap w.table (claim_call w slot) r
Admitted w (released slot r) = Claims-leaves w.settings w.state w.heap w.table (release_call w slot) r
Admitted w (reopened r table) = leaves w.settings r w.heap table ≡ reopen_call w
Admitted w (answered id r) = r ≡ read_of w id
Admitted w (read id part) = part ≡ part_of (read_of w id) w.heap
Admitted w (answered_through batch id r) = r ≡ through_of w batch id
Admitted w (read_through batch id part) = part ≡ through_part (through_of w batch id) batch w.heap
Admitted w (counted r) = leaving (counts_given r) w ≡ counts_call w
Admitted w (unsynced_counted r) = given r.number (r.value ∷ []) ≡ shown 1 (unsynced_call (records_of w))
Admitted w (synced r records) =
    (given r.number (r.value ∷ []) ≡ shown 1 (sync_call (records_of w)).answer) × (records ≡ (sync_call (records_of w)).records)
Admitted w (checked before r after) = Checks (check_call w.settings w.heap w.table before) r after

-- the plain engine hears the operations of a write whose result says `Done`, and nothing else
abbrev pub hearing : List Op → Result → List Op
hearing history (wrote batch r heap table) = heard history batch (answer_given r.answer)
hearing history (planned before r after) = history
hearing history (rewrote before asked r heap table after) = history
hearing history (maintained before r heap table after) = history
hearing history (pruned r heap) = history
hearing history (claimed slot r) = history
hearing history (released slot r) = history
hearing history (reopened r table) = history
hearing history (answered id r) = history
hearing history (read id part) = history
hearing history (answered_through batch id r) = history
hearing history (read_through batch id part) = history
hearing history (counted r) = history
hearing history (unsynced_counted r) = history
hearing history (synced r records) = history
hearing history (checked before r after) = history

-- ---- a life
-- a call gave a result; or power was cut behind the first k stores of a call, the robot then has v, and reopening that gave a result
pub data Event : Type 0 where
  gave : Result → Event
  cut : ℕ → Call → World → Reopened → List ℕ → Event

-- it can happen where the host has w
abbrev pub Happens : World → Event → Type 0
Happens w (gave r) = Admitted w r
Happens w (cut k c v r table) = CutAt k w c v × Admitted v (reopened r table)

-- the store and the engine after it
abbrev pub next : Life → Event → Life
next l (gave r) = record { world = left l.world r; history = hearing l.history r }
next l (cut k c v r table) = record { world = left v (reopened r table); history = hears_cut k l.world l.history c }

-- event by event
unfoldable pub lives : Life → List Event → Life
lives l [] = l
lives l (e ∷ es) = lives (next l e) es

-- each of them can happen to what the others left
unfoldable pub AllHappen : Life → List Event → Type 0
AllHappen l [] = Unit {0}
AllHappen l (e ∷ es) = Happens l.world e × AllHappen (next l e) es

-- "Demand 3 then starts afresh from what that reopening found": heard is, for each mapped id, a put of what its read then gives, or a delete
abbrev pub begun : World → Reopened → List ℕ → Life
begun w r table = record { world = left w (reopened r table); history = heard_at (left w (reopened r table)) }

-- a store of demand 3, by its life
pub record Lived : Type 0 where
  -- what the host begins with, "only where P5's checker lists nothing" (`Starts`): a heap that is clean for its settings and table; any state, any claims
  pub start : World
  pub clean : Clean start
  -- the first reopening
  pub opening : Reopened
  pub table : List ℕ
  pub first : Admitted start (reopened opening table)
  -- and all that happened since
  pub events : List Event
  pub happen : AllHappen (begun start opening table) events

-- the store that is left, and what the engine has heard
abbrev pub reached : Lived → Life
reached l = lives (begun l.start l.opening l.table) l.events

-- what of it was heard since the first reopening
abbrev pub since : Lived → List Op
since l = (lives (record { world = (begun l.start l.opening l.table).world; history = [] }) l.events).history
