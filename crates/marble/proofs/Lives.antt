-- The demands of lives of results: whatever the calls gave, as long as their contracts admit it.
use Rattle.std.proofs.Math.Path.{◌≡◌, refl, ap}
use Rattle.std.proofs.Common.{sym, ap₂, ◌∙◌, subst, append_assoc, append-nil, le-ltb}
use Rattle.std.specs.Prelude.{◌<◌, ◌≤◌, ◌||◌, ◌∷◌, ◌++◌, Ok}
use native.Mathlib.Omega.{arith}
use Rattle.rules.specs.Base.{Bool, true, false, not, List, [], map, ℕ, length, get_or, leb, eqb, any, pick, padded}
use Rattle.rules.specs.Types.{ReadAnswer}
use Rattle.rules.specs.Refusal.{decide}
use Rattle.rules.specs.Ops.{Op, put, delete}
use Rattle.rules.specs.Batch.{batch_in, ops_of}
use Rattle.rules.specs.SettledLaws.{Last, silent, last, or_earlier, last_on}
use Rattle.rules.proofs.SettledLaws.{last-append}
use Rattle.rules.specs.Read.{read_of, part_of}
use Rattle.rules.specs.Write.{write_call}
use Rattle.rules.specs.WriteLaws.{ops_in}
use Rattle.rules.specs.FileMap.{record_at}
use Rattle.rules.specs.Install.{new_slot}
use Rattle.rules.specs.Sync.{is_unsynced, unsynced_in, too_long, unsynced_call, sync_state}
use Rattle.rules.specs.declared.Record.{Record}
use Rattle.as_numbers.specs.declared.answers.One.{One}
use Rattle.as_numbers.specs.Shown.{given, shown}
use Rattle.theory.proofs.Marks.{any-counted}
use Rattle.rules.specs.World.{World, world, records_of, state_with, Given, accepted, After, answer_given}
use Rattle.history_theory.specs.Writing.{engine, heard}
use Rattle.history_theory.specs.Syncing.{synced_from}
use Rattle.history_theory.proofs.Syncing.{sync-accepted, sound-synced-from}
use Rattle.history_theory.specs.MarksLeft.{Carries}
use Rattle.history_theory.proofs.MarksLeft.{rewrite-carries, nightly-carries, reopen-marks, sync-marks, write-marks}
use Rattle.history_theory.specs.Reading.{Reads}
use Rattle.theory.specs.Reopened.{Opened}
use Rattle.theory.proofs.Reopened.{reopened-means}
use Rattle.history_theory.specs.Quiet.{claim, release, sync}
use Rattle.history_theory.proofs.Nightly.{job-lived}
use Rattle.history_theory.specs.History.{Call, write, rewrite, prune, reopen, quiet, called, hears, Life, lived, Starts, Kept}
use Rattle.history_theory.proofs.History.{sound-kept}
use Rattle.history_theory.specs.Clean.{heard_at, resumed}
use Rattle.history_theory.proofs.Clean.{clean-starts}
use Rattle.history_theory.specs.Writes.{never, got_by, got, left_by}
use Rattle.history_theory.proofs.Writes.{got_last, write-means}
use Rattle.through.specs.Answers.{ThroughAnswer}
use Rattle.through_theory.specs.Saved.{got_through_by, got_through}
use Rattle.through_theory.proofs.Saved.{sound-through, same_bytes}
use Rattle.power_cuts.specs.Runs.{run_of}
use Rattle.power_cuts.specs.Cuts.{CutAt, Survived, hears_cut, done, happened, lived_on}
use Rattle.power_cuts.specs.Cuts as cuts
use Rattle.power_cuts.proofs.PowerCut.{cut-survived, sound-lived-on}
use Rattle.recovery.specs.declared.Reopened.{Reopened}
use Rattle.writepath.specs.declared.Written.{Written}
use Rattle.gc_course.specs.declared.Request.{Request}
use Rattle.gc.specs.declared.Rewritten.{Rewritten}
use Rattle.gc_nightly.specs.declared.Maintained.{Maintained}
use Rattle.marble.specs.Results.{Notes, room_in, Result, wrote, planned, rewrote, maintained, pruned, claimed, released, reopened, answered, read, answered_through, read_through, counted, unsynced_counted, synced, checked, left, Admitted, hearing, Event, gave, cut, next, lives, AllHappen, begun, Lived, reached, since}
use Rattle.marble.specs.Lives.{body_last, the_calls, calls_of, events_of, AllAlike, HeardBehind}

-- a sync leaves the records that the definition leaves, and nothing else changed
synced-left : (w : World) (r : One) (records : List Record) → Admitted w (synced r records) → left w (synced r records) ≡ (sync_state w).world
unfolding sync_state
synced-left w r records a =
    ap (λ (rs : List Record). world w.settings (state_with w.state rs w.state.next_position) w.claims w.heap w.table) a.1

-- a result that its contract admits leaves what the definition of its call leaves
alike-left : (l : Life) (r : Result) (c : Call) → left l.world r ≡ (called l.world c).world → hearing l.history r ≡ hears l.world l.history c
    → next l (gave r) ≡ lived l (c ∷ [])
unfolding lived
alike-left l r c p q = λ i. record { world = p i; history = q i }

-- so it does for all calls that it comes from
as-calls : (l : Life) (r : Result) → Admitted l.world r → next l (gave r) ≡ lived l (the_calls l.world r)
unfolding lived
as-calls l (wrote batch r heap table) a =
    alike-left l (wrote batch r heap table) (write batch) (ap (λ (x : After). x.world) a) (ap (λ (x : After). heard l.history batch x.answer) a)
as-calls l (planned before r after) a = refl
as-calls l (rewrote before asked r heap table after) a =
    alike-left l (rewrote before asked r heap table after) (rewrite (room_in before) asked.generation asked.mark asked.count) (ap (λ (x : After). x.world) a.0) refl
as-calls l (maintained before r heap table after) a =
    ap (λ (x : After). record { world = x.world; history = l.history }) a.0 ∙ sym (job-lived l.world l.history (room_in before))
as-calls l (pruned r heap) a = alike-left l (pruned r heap) prune (ap (λ (x : After). x.world) a) refl
as-calls l (claimed slot r) a = alike-left l (claimed slot r) (quiet (claim slot)) (ap (λ (x : After). x.world) a) refl
as-calls l (released slot r) a = alike-left l (released slot r) (quiet (release slot)) (ap (λ (x : After). x.world) a) refl
as-calls l (reopened r table) a = alike-left l (reopened r table) reopen (ap (λ (x : After). x.world) a) refl
as-calls l (answered id r) a = refl
as-calls l (read id part) a = refl
as-calls l (answered_through batch id r) a = refl
as-calls l (read_through batch id part) a = refl
as-calls l (counted r) a = refl
as-calls l (unsynced_counted r) a = refl
as-calls l (synced r records) a = alike-left l (synced r records) (quiet sync) (synced-left l.world r records a) refl
as-calls l (checked before r after) a = refl

-- ---- a life of events is one of calls and cuts
-- calls made to their ends come first
calls-first : (l : Life) (cs : List Call) (ds : List cuts.Event) → lived_on l (map done cs ++ ds) ≡ lived_on (lived l cs) ds
unfolding lived_on lived
calls-first l [] ds = refl
calls-first l (c ∷ cs) ds = calls-first (happened l (done c)) cs ds

calls-happen : (l : Life) (cs : List Call) (ds : List cuts.Event) → cuts.AllHappen (lived l cs) ds → cuts.AllHappen l (map done cs ++ ds)
unfolding cuts.AllHappen lived
calls-happen l [] ds h = h
calls-happen l (c ∷ cs) ds h = (tt, calls-happen (happened l (done c)) cs ds h)

-- event by event
alike : (l : Life) (es : List Event) → AllHappen l es → AllAlike l es (events_of l es)
unfolding lives lived_on AllHappen cuts.AllHappen events_of
alike l [] h = record { happen = tt; same = refl }
alike l (gave r ∷ es) h =
    let e = as-calls l r h.0 in
    let b = alike (next l (gave r)) es h.1 in
    let ds = events_of (next l (gave r)) es in
    record {
      happen = calls-happen l (the_calls l.world r) ds (subst (λ (m : Life). cuts.AllHappen m ds) e b.happen);
      same = b.same ∙ ap (λ (m : Life). lived_on m ds) e ∙ sym (calls-first l (the_calls l.world r) ds);
    }
alike l (cut k c v r table ∷ es) h =
    let a = h.0 in
    let e : next l (cut k c v r table) ≡ happened l (cuts.cut k c v) = λ i. record { world = (a.1 i).world; history = hears_cut k l.world l.history c } in
    let b = alike (next l (cut k c v r table)) es h.1 in
    let ds = events_of (next l (cut k c v r table)) es in
    record { happen = (a.0, subst (λ (m : Life). cuts.AllHappen m ds) e b.happen); same = b.same ∙ ap (λ (m : Life). lived_on m ds) e }

-- without a cut it is one of calls made to their ends
calls-behind : (l : Life) (cs ds : List Call) → lived l (cs ++ ds) ≡ lived (lived l cs) ds
unfolding lived
calls-behind l [] ds = refl
calls-behind l (c ∷ cs) ds = calls-behind (happened l (done c)) cs ds

uncut : (l : Life) (rs : List Result) → AllHappen l (map gave rs) → lives l (map gave rs) ≡ lived l (calls_of l rs)
unfolding lives AllHappen calls_of lived
uncut l [] h = refl
uncut l (r ∷ rs) h =
    uncut (next l (gave r)) rs h.1
    ∙ ap (λ (m : Life). lived m (calls_of (next l (gave r)) rs)) (as-calls l r h.0)
    ∙ sym (calls-behind l (the_calls l.world r) (calls_of (next l (gave r)) rs))

-- ---- what is heard is heard behind what was heard before
batch-behind : (h ops : List Op) (b : Bool) → pick b (h ++ ops) h ≡ h ++ pick b ops []
batch-behind h ops true = refl
batch-behind h ops false = sym (append-nil h)

hearing-behind : (h : List Op) (r : Result) → hearing h r ≡ h ++ hearing [] r
hearing-behind h (wrote batch r heap table) = batch-behind h (ops_of (batch_in batch)) (eqb (answer_given r.answer).number 0)
hearing-behind h (planned before r after) = sym (append-nil h)
hearing-behind h (rewrote before asked r heap table after) = sym (append-nil h)
hearing-behind h (maintained before r heap table after) = sym (append-nil h)
hearing-behind h (pruned r heap) = sym (append-nil h)
hearing-behind h (claimed slot r) = sym (append-nil h)
hearing-behind h (released slot r) = sym (append-nil h)
hearing-behind h (reopened r table) = sym (append-nil h)
hearing-behind h (answered id r) = sym (append-nil h)
hearing-behind h (read id part) = sym (append-nil h)
hearing-behind h (answered_through batch id r) = sym (append-nil h)
hearing-behind h (read_through batch id part) = sym (append-nil h)
hearing-behind h (counted r) = sym (append-nil h)
hearing-behind h (unsynced_counted r) = sym (append-nil h)
hearing-behind h (synced r records) = sym (append-nil h)
hearing-behind h (checked before r after) = sym (append-nil h)

hears-behind : (w : World) (h : List Op) (c : Call) → hears w h c ≡ h ++ hears w [] c
hears-behind w h (write batch) = batch-behind h (ops_of (batch_in batch)) (eqb (write_call w batch).answer.number 0)
hears-behind w h (rewrite room g mark count) = sym (append-nil h)
hears-behind w h prune = sym (append-nil h)
hears-behind w h reopen = sym (append-nil h)
hears-behind w h (quiet q) = sym (append-nil h)

cut-behind : (b : Bool) (w : World) (h : List Op) (c : Call) → pick b (hears w h c) h ≡ h ++ pick b (hears w [] c) []
cut-behind true w h c = hears-behind w h c
cut-behind false w h c = sym (append-nil h)

further : (es : List Event) → HeardBehind es → (w : World) (h all own : List Op) → all ≡ h ++ own
    → (lives (record { world = w; history = all }) es).history ≡ h ++ (lives (record { world = w; history = own }) es).history
further es behind w h all own e =
    behind w all
    ∙ ap (λ (l : List Op). l ++ (lives (record { world = w; history = [] }) es).history) e
    ∙ append_assoc h own (lives (record { world = w; history = [] }) es).history
    ∙ ap (λ (l : List Op). h ++ l) (sym (behind w own))

lives-behind : (es : List Event) → HeardBehind es
unfolding lives
lives-behind [] w h = sym (append-nil h)
lives-behind (gave r ∷ es) w h = further es (lives-behind es) (left w r) h (hearing h r) (hearing [] r) (hearing-behind h r)
lives-behind (cut k c v r table ∷ es) w h =
    further es (lives-behind es) (left v (reopened r table)) h (hears_cut k w h c) (hears_cut k w [] c) (cut-behind (leb (length (run_of w c)) k) w h c)

-- ---- the demands, of every store by its life
module _ (l : Lived) where
  resumed-as : begun l.start l.opening l.table ≡ resumed l.start
  resumed-as = λ i. record { world = (l.first i).world; history = heard_at (l.first i).world }

  as_called : AllAlike (resumed l.start) l.events (events_of (resumed l.start) l.events)
  as_called = subst (λ (b : Life). AllAlike b l.events (events_of b l.events)) resumed-as (alike (begun l.start l.opening l.table) l.events l.happen)

  reached-as : lived_on (resumed l.start) (events_of (resumed l.start) l.events) ≡ reached l
  reached-as = sym as_called.same ∙ sym (ap (λ (b : Life). lives b l.events) resumed-as)

  -- of results without a cut: every theorem about a life of calls is one about these
  pub results-called : (rs : List Result) → l.events ≡ map gave rs → lived (resumed l.start) (calls_of (resumed l.start) rs) ≡ reached l
  results-called rs e =
      sym (uncut (resumed l.start) rs (subst (λ (b : Life). AllHappen b (map gave rs)) resumed-as (subst (AllHappen (begun l.start l.opening l.table)) e l.happen)))
      ∙ sym (ap (λ (b : Life). lives b (map gave rs)) resumed-as)
      ∙ ap (lives (begun l.start l.opening l.table)) (sym e)

  -- the invariant holds
  pub life-sound : Starts (reached l)
  life-sound = subst Starts reached-as (sound-lived-on (resumed l.start) (clean-starts l.start l.clean) (events_of (resumed l.start) l.events) as_called.happen)

  -- DEMAND 3: reads give the last put of the writes that said `Done` (and of those cut whose run was complete), or what the first reopening's reads gave, and a
  -- reopening finds the store
  pub life-kept : Kept (reached l).world (reached l).history
  life-kept = sound-kept (reached l).world (reached l).history life-sound

  -- what `read_answer` and `read` give on it: never written, deleted or the body, by the last operation heard
  pub life-answers : (id : ℕ) (a : ReadAnswer) → Admitted (reached l).world (answered id a) → Reads (reached l).world a (last_on (reached l).history id)
  life-answers id a p = subst (λ (b : ReadAnswer). Reads (reached l).world b (last_on (reached l).history id)) (sym p) (life-kept.reads id)

  pub life-reads : (id : ℕ) (part : List ℕ) → Admitted (reached l).world (read id part) → part ≡ body_last (last_on (reached l).history id)
  life-reads id part p = p ∙ go (read_of (reached l).world id) (last_on (reached l).history id) (life-kept.reads id)
    where
      go : (a : ReadAnswer) (t : Last) → Reads (reached l).world a t → part_of a (reached l).world.heap ≡ body_last t
      go a silent e = ap (λ (b : ReadAnswer). part_of b (reached l).world.heap) e
      go a (last delete) e = ap (λ (b : ReadAnswer). part_of b (reached l).world.heap) e
      go a (last (put body)) e = e.2

  -- DEMAND 3, in a host's words: an id reads as its last operation heard since the first reopening says; where there was none, as that reopening left it
  pub life-resumes : (id : ℕ) → got (reached l).world id ≡ left_by (last_on (since l) id) (got (left l.start (reopened l.opening l.table)) id)
  life-resumes id =
      got_last (reached l).world (reached l).history life-sound id
      ∙ ap (λ (h : List Op). left_by (last_on h id) never) (lives-behind l.events first (heard_at first))
      ∙ ap (λ (t : Last). left_by t never) (last-append (heard_at first) (since l) id)
      ∙ go (last_on (since l) id)
    where
      first : World
      first = left l.start (reopened l.opening l.table)

      go : (t : Last) → left_by (or_earlier t (last_on (heard_at first) id)) never ≡ left_by t (got first id)
      go silent = sym (got_last first (heard_at first) (subst Starts (sym resumed-as) (clean-starts l.start l.clean)) id)
      go (last delete) = refl
      go (last (put body)) = refl

  -- request P8: a call that is cut leaves every read as before it, or every read as after it
  pub life-survives : (c : Call) (k : ℕ) (v : World) → CutAt k (reached l).world c v → Survived k (reached l).world c v
  life-survives c k v = cut-survived (reached l).world (reached l).history life-sound k v c

  -- DEMAND 2, write: where the result says `Done`, ids of the batch read as its last operation on them says, and every other as before
  pub life-wrote : (batch : List ℕ) (r : Written) (heap table : List ℕ) → Admitted (reached l).world (wrote batch r heap table) → r.answer ≡ Ok tt
      → (id : ℕ) → got (left (reached l).world (wrote batch r heap table)) id ≡ left_by (last_on (ops_of (batch_in batch)) id) (got (reached l).world id)
  life-wrote batch r heap table a d id =
      ap (λ (x : After). got x.world id) a
      ∙ (write-means (reached l).world (reached l).history life-sound batch (sym (ap (λ (x : After). x.answer) a) ∙ ap answer_given d)).reads id

  -- REQUEST P3: where the result of a write says `Done`, a read through its batch gave, before it, what a read gives after it, for every id
  pub life-foresees : (batch : List ℕ) (r : Written) (heap table : List ℕ) → Admitted (reached l).world (wrote batch r heap table) → r.answer ≡ Ok tt
      → (id : ℕ) → got_through (reached l).world batch id ≡ got (left (reached l).world (wrote batch r heap table)) id
  life-foresees batch r heap table a d id =
      sound-through (reached l).world (reached l).history life-sound batch (sym (ap (λ (x : After). x.answer) a) ∙ ap answer_given d) id
      ∙ sym (ap (λ (x : After). got x.world id) a)

  -- so of what both calls gave: the kind, and the bytes of an object
  pub life-foresees-results : (batch : List ℕ) (r : Written) (heap table : List ℕ) → Admitted (reached l).world (wrote batch r heap table) → r.answer ≡ Ok tt
      → (id : ℕ) (a : ThroughAnswer) (through : List ℕ) → Admitted (reached l).world (answered_through batch id a)
      → Admitted (reached l).world (read_through batch id through)
      → (b : ReadAnswer) (after : List ℕ) → Admitted (left (reached l).world (wrote batch r heap table)) (answered id b)
      → Admitted (left (reached l).world (wrote batch r heap table)) (read id after) → got_through_by a through ≡ got_by b after
  life-foresees-results batch r heap table w d id a through p q b after s t =
      ap₂ got_through_by p q ∙ life-foresees batch r heap table w d id ∙ sym (ap₂ got_by s t)

  -- and of the bytes alone
  pub life-foresees-bytes : (batch : List ℕ) (r : Written) (heap table : List ℕ) → Admitted (reached l).world (wrote batch r heap table) → r.answer ≡ Ok tt
      → (id : ℕ) (through after : List ℕ) → Admitted (reached l).world (read_through batch id through)
      → Admitted (left (reached l).world (wrote batch r heap table)) (read id after) → through ≡ after
  life-foresees-bytes batch r heap table a d id through after p q =
      p ∙ same_bytes (reached l).world (left (reached l).world (wrote batch r heap table)) batch id (life-foresees batch r heap table a d id) ∙ sym q

  -- REQUEST P6: the count is never refused, and is how many files are unsynced
  pub life-unsynced : (r : One) → Admitted (reached l).world (unsynced_counted r)
      → (r.number ≡ 0) × (r.value ≡ unsynced_in (records_of (reached l).world))
  unfolding unsynced_call too_long decide padded
  life-unsynced r a =
      let sized = life-sound.sound.sized in
      let fits : length (records_of (reached l).world) ≤ 256 = omega arith in
      let n : given r.number (r.value ∷ []) ≡ given 0 (unsynced_in (records_of (reached l).world) ∷ []) = rw (le-ltb 256 (length (records_of (reached l).world)) fits) at a in
      (ap (λ (g : Given). g.number) n, ap (λ (g : Given). get_or g.values 0 0) n)

  -- a sync of fewer of the records, as many as `count` from slot `from` on: demand 3 holds of what it leaves
  pub life-synced-from : (from count : ℕ) → Kept (synced_from from count (reached l).world) (reached l).history
  life-synced-from from count =
      sound-kept (synced_from from count (reached l).world) (reached l).history
      (sound-synced-from (reached l).world (engine (reached l).history) life-sound from count)

  -- a rewrite: each slot's file is as it was, and its mark too; or it was written by the call, and its mark is clear
  pub life-marks-rewritten : (before : Notes) (asked : Request) (r : Rewritten) (heap table : List ℕ) (after : Notes)
      → Admitted (reached l).world (rewrote before asked r heap table after)
      → Carries 0 (reached l).world (left (reached l).world (rewrote before asked r heap table after))
  life-marks-rewritten before asked r heap table after a =
      subst (λ (x : After). Carries 0 (reached l).world x.world) (sym a.0)
      (rewrite-carries (reached l).world (room_in before) asked.generation asked.mark asked.count)

  -- the nightly job: so too, or the record was emptied
  pub life-marks-maintained : (before : Notes) (r : Maintained) (heap table : List ℕ) (after : Notes) → Admitted (reached l).world (maintained before r heap table after)
      → Carries 0 (reached l).world (left (reached l).world (maintained before r heap table after))
  life-marks-maintained before r heap table after a =
      subst (λ (x : After). Carries 0 (reached l).world x.world) (sym a.0) (nightly-carries (reached l).world (room_in before))

  -- a sync is never refused, leaves no file unsynced, and tells whether one was
  pub life-synced : (r : One) (records : List Record) → Admitted (reached l).world (synced r records)
      → (r.number ≡ 0) × (r.value ≡ pick (eqb (unsynced_in (records_of (reached l).world)) 0) 0 1) × (unsynced_in records ≡ 0)
  unfolding sync_state padded
  life-synced r records a =
      let w = (reached l).world in
      let e = sync-accepted w (engine (reached l).history) life-sound in
      let n : given r.number (r.value ∷ []) ≡ shown 1 (accepted (pick (any is_unsynced (records_of w)) 1 0 ∷ [])) = a.0 ∙ ap (λ (x : After). shown 1 x.answer) e in (
        ap (λ (g : Given). g.number) n,
        ap (λ (g : Given). get_or g.values 0 0) n ∙ told (any is_unsynced (records_of w)) (unsynced_in (records_of w)) (any-counted (records_of w)),
        ap unsynced_in a.1 ∙ sync-marks w (engine (reached l).history) life-sound,
      )
    where
      told : (b : Bool) (n : ℕ) → b ≡ not (eqb n 0) → ◌≡◌ {A = ℕ} (pick b 1 0) (pick (eqb n 0) 0 1)
      told b n q = ap (λ (c : Bool). pick {A = ℕ} c 1 0) q ∙ go (eqb n 0)
        where
          go : (t : Bool) → ◌≡◌ {A = ℕ} (pick (not t) 1 0) (pick t 0 1)
          go true = refl
          go false = refl

  -- "set on reopening": whatever it answered, unless 1, no file is unsynced after it
  pub life-marks-reopened : (r : Reopened) (table : List ℕ) → Admitted (reached l).world (reopened r table) → ((answer_given r.answer).number ≡ 1 → ⊥)
      → unsynced_in (records_of (left (reached l).world (reopened r table))) ≡ 0
  life-marks-reopened r table a n =
      ap (λ (x : After). unsynced_in (records_of x.world)) a ∙ reopen-marks (reached l).world (λ z. n (ap (λ (x : After). x.answer.number) a ∙ z))

  -- "clear on writing": where the result of a write of something says `Done`, the new file is unsynced, and every other as it was
  pub life-marks-written : (batch : List ℕ) (r : Written) (heap table : List ℕ) → Admitted (reached l).world (wrote batch r heap table) → r.answer ≡ Ok tt
      → 0 < length (ops_in batch) → (k : ℕ) → is_unsynced (record_at (records_of (left (reached l).world (wrote batch r heap table))) k)
      ≡ (eqb k (new_slot (reached l).world) || is_unsynced (record_at (records_of (reached l).world) k))
  life-marks-written batch r heap table a d some k =
      ap (λ (x : After). is_unsynced (record_at (records_of x.world) k)) a
      ∙ write-marks (reached l).world (reached l).history life-sound batch (sym (ap (λ (x : After). x.answer) a) ∙ ap answer_given d) some k

-- DEMAND 2, reopen: of any heap, whoever wrote it, where the result says `Done`
pub reopened-opens : (w : World) (r : Reopened) (table : List ℕ) → Admitted w (reopened r table) → r.answer ≡ Ok tt
    → Opened w (left w (reopened r table))
reopened-opens w r table a d =
    subst (λ (v : World). Opened w v) (sym (ap (λ (x : After). x.world) a))
    (reopened-means w (sym (ap (λ (x : After). x.answer) a) ∙ ap answer_given d))
