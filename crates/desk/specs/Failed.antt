-- "bad line, and nothing changes"; "A refusal changes no state or buffer": a command that fails leaves the desk as it was, but for the two
-- that document 01 names.
use Rattle.std.specs.Prelude.{◌≡◌, refl, ◌||◌, ◌∷◌, ◌+◌, Err, None, Ok, Some}
use Rattle.std.proofs.Common.{sym, ap, ◌∙◌, take-append-drop}
use Rattle.std.proofs.lemmas.Bool.{false≢true}
use Rattle.rules.specs.Base.{Bool, true, false, not, List, [], ℕ, length, replicate, leb, ltb, eqb, pick}
use Rattle.rules.specs.Types.{Held}
use Rattle.rules.specs.declared.Refusal.TheVariants.{TableRoom, NotThere, EqualLocation, Location}
use Rattle.rules.specs.Refusal.{◌gives◌, decide, after}
use Rattle.rules.specs.Condition1.{out_of_range}
use Rattle.rules.specs.Counts.{counts_call}
use Rattle.rules.specs.Layout.{Table, capacity_of, used_entries, cleared}
use Rattle.rules.specs.Read.{read_call}
use Rattle.rules.specs.Reopen.{reopen_call, reopen_tests, given_up}
use Rattle.rules.specs.SlotFile.{views_in}
use Rattle.rules.specs.Sync.{Synced, too_long, sync_call, sync_state}
use Rattle.rules.specs.Table.{lookup, unmapped, mapped_to, full}
use Rattle.rules.specs.TableCalls.{TableAfter, not_form, same, below, with_stored, load_call, store_call, compare_call, greater_call}
use Rattle.rules.specs.TwoCalls.{refused_noting, job_of, job_ended, nightly_call}
use Rattle.rules.specs.World.{World, Given, accepted, refused, held_given, records_of, slots_of, state_with, After}
use Rattle.location_table.specs.Tables.{with_pair}
use Rattle.numbers.specs.Parts.{put_at}
use Rattle.history_theory.specs.History.{Call, write, rewrite, prune, quiet, called as calling}
use Rattle.history_theory.specs.Quiet.{claim, release}
use Rattle.history_theory.proofs.Writes.{refused-unchanged}
use Rattle.history_theory.specs.Writes.{Plain as PlainCall}
use Rattle.losses.specs.Salvage.{Salvaged, salvage_call}
use Rattle.through.specs.Through.{through_call}
use Rattle.script.specs.declared.Keyword.TheVariants as key
use Rattle.desk.specs.Types.{Refusal, Limits, Answer, Keyword, Bench, Check, Bytes, BadLine, Shown}
use Rattle.desk.specs.Desk.{Desk, desk, Words, plain, found, pieced, moved, counted, marks, located, compared, raised, Said, bad-line, gave, shows, Outcome, left, replied, done, bad_line, looked, changed, world_of, desk_of, answered, called, on_table, lent_of, put_back, on_lent}
use Rattle.desk.specs.Commands.{nth, record_from, with_state, with_record, lending_heap, lending_table, heap_by, table_by, poke_by, entry_by, check_by, bytes_by, salvage_by, notes, plan_by, lent_by, done_by}

-- `bad line`, or a refusal's number
abbrev pub failing : Said → Bool
failing bad-line = true
failing (gave words g) = not (eqb g.number 0)
failing (shows look) = false

-- the two commands whose failure may change something
abbrev pub Kept : Keyword → Type 0
Kept key.Blank = Unit {0}
Kept key.Bad = Unit {0}
Kept key.Settings = Unit {0}
Kept key.Heap = Unit {0}
Kept key.Table = Unit {0}
Kept key.Poke = Unit {0}
Kept key.Entry = Unit {0}
Kept key.State = Unit {0}
Kept key.Record = Unit {0}
Kept key.Claims = Unit {0}
Kept key.Reopen = ⊥
Kept key.Write = Unit {0}
Kept key.Claim = Unit {0}
Kept key.Release = Unit {0}
Kept key.Prune = Unit {0}
Kept key.Read = Unit {0}
Kept key.Through = Unit {0}
Kept key.Plan = Unit {0}
Kept key.Rewrite = Unit {0}
Kept key.Maintain = ⊥
Kept key.Counts = Unit {0}
Kept key.Unsynced = Unit {0}
Kept key.Sync = Unit {0}
Kept key.Check = Unit {0}
Kept key.Salvage = Unit {0}
Kept key.Load = Unit {0}
Kept key.Store = Unit {0}
Kept key.Cas = Unit {0}
Kept key.Max = Unit {0}
Kept key.List = Unit {0}
Kept key.Dump = Unit {0}
Kept key.Bytes = Unit {0}
Kept key.Help = Unit {0}

-- a refused answer is no success
not-accepted : (g : Given) → not (eqb g.number 0) ≡ true → g.number ≡ 0 → ⊥
not-accepted g h p = false≢true (sym (ap (λ (n : ℕ). not (eqb n 0)) p) ∙ h)

-- ---- by hand
bad-kept : (t : Bool) (d e : Desk) → failing (pick t (bad_line d) (changed e)).reply ≡ true → (pick t (bad_line d) (changed e)).desk ≡ d
bad-kept true d e h = refl
bad-kept false d e h = absurd (false≢true h)

heap-kept : (bytes : ℕ) (d : Desk) → failing (heap_by bytes d).reply ≡ true → (heap_by bytes d).desk ≡ d
heap-kept bytes d h = bad-kept (ltb (length d.heap) bytes) d (desk (lending_heap d.bench bytes) (replicate (length d.heap) 0) d.table) h

lending-kept : (words : ℕ) (d : Desk) → failing (table_by words d).reply ≡ true → (table_by words d).desk ≡ d
lending-kept words d h = bad-kept (ltb (length d.table) words) d (desk (lending_table d.bench words) d.heap (cleared d.table)) h

poke-kept : (at : ℕ) (bytes : List ℕ) (d : Desk) → failing (poke_by at bytes d).reply ≡ true → (poke_by at bytes d).desk ≡ d
poke-kept at bytes d h = bad-kept (ltb (length d.heap) (at + length bytes)) d (desk d.bench (put_at d.heap at bytes) d.table) h

entry_kept : (k id raw : ℕ) (d : Desk) → failing (entry_by k id raw d).reply ≡ true → (entry_by k id raw d).desk ≡ d
entry_kept k id raw d h = bad-kept (leb (capacity_of d.table) k) d (desk d.bench d.heap (with_pair d.table k id raw)) h

record-kept : (t : Bool) (d : Desk) (b : Bench) → failing (left (pick t (replied BadLine d.bench) (done b)) d.heap d.table).reply ≡ true
    → (left (pick t (replied BadLine d.bench) (done b)) d.heap d.table).desk ≡ d
record-kept true d b h = refl
record-kept false d b h = absurd (false≢true h)

-- ---- marks
-- a refused sync leaves the records
sync-kept : (d : Desk) → failing (called marks sync_state d).reply ≡ true → (called marks sync_state d).desk ≡ d
unfolding sync_state sync_call
sync-kept d h = go (decide (too_long (records_of (world_of d)) gives Limits ∷ [])) _ refl h
  where
    gone : Refusal → Synced
    gone r = record { answer = refused r; records = records_of (world_of d) }

    go : (a : Answer) (x : Synced) → x.answer.number ≡ 0 → not (eqb (after a gone x).answer.number 0) ≡ true
        → desk (with_state d.bench (state_with d.bench.state (after a gone x).records d.bench.state.next_position)) d.heap d.table ≡ d
    go (Ok _) x z h = absurd (false≢true (sym (ap (λ (k : ℕ). not (eqb k 0)) z) ∙ h))
    go (Err r) x z h = refl

-- ---- looks
-- LAW: a check changes nothing, whatever is said
pub check-unchanged : (room : ℕ) (d : Desk) → (left (check_by room d.bench) d.heap d.table).desk ≡ d
check-unchanged room d = go (ltb 4096 room)
  where
    go : (t : Bool) → (left (pick t (replied BadLine d.bench) (replied (Shown (Check room)) d.bench)) d.heap d.table).desk ≡ d
    go true = refl
    go false = refl

-- LAW: nor do bytes shown
pub bytes-unchanged : (at count : ℕ) (d : Desk) → (bytes_by at count d).desk ≡ d
bytes-unchanged at count d = go (ltb 65536 count || ltb (length d.heap) (at + count))
  where
    go : (t : Bool) → (pick t (bad_line d) (looked (Bytes at count) d)).desk ≡ d
    go true = refl
    go false = refl

-- ---- salvage
-- a refused one leaves the heap
salvage-kept : (d : Desk) → failing (salvage_by d).reply ≡ true → (salvage_by d).desk ≡ d
unfolding salvage_call
salvage-kept d h = go (decide (out_of_range d.bench.settings (length d.heap) (world_of d).table gives Limits ∷ [])) _ refl h
  where
    gone : Refusal → Salvaged
    gone r = record { answer = refused r; report = []; heap = d.heap }

    go : (a : Answer) (x : Salvaged) → x.answer.number ≡ 0 → not (eqb (after a gone x).answer.number 0) ≡ true
        → desk d.bench (after a gone x).heap d.table ≡ d
    go (Ok _) x z h = absurd (false≢true (sym (ap (λ (k : ℕ). not (eqb k 0)) z) ∙ h))
    go (Err r) x z h = refl

-- ---- the lent parts
-- parts that come back as they were lent are the buffers as they were
pub back-same : (d : Desk) (o : Outcome) → o.desk ≡ lent_of d → (put_back d o).desk ≡ d
back-same d o e =
    ap (λ (l : Desk). (put_back d (record { reply = o.reply; desk = l })).desk) e
    ∙ rw (take-append-drop d.bench.heap_len d.heap, take-append-drop d.bench.table_words d.table) refl

-- ---- plan
-- LAW: a plan changes nothing, whatever is said
pub plan-unchanged : (n bytes : List ℕ) (d : Desk) → (done_by key.Plan n bytes d).desk ≡ d
unfolding done_by
plan-unchanged n bytes d = back-same d (plan_by (lent_of d)) refl

-- ---- calls
-- a call that leaves the world leaves the desk
world-kept : (words : Words) (call : World → After) (d : Desk) → (call (world_of d)).world ≡ world_of d → (called words call d).desk ≡ d
world-kept words call d e = ap (desk_of d.bench) e

-- the five that are refused as one
call_kept : (words : Words) (c : Call) → PlainCall c → (d : Desk) → not (eqb (calling (world_of d) c).answer.number 0) ≡ true → (called words (λ (w : World). calling w c) d).desk ≡ d
call_kept words c p d h = world-kept words (λ (w : World). calling w c) d (refused-unchanged (world_of d) c p (not-accepted (calling (world_of d) c).answer h))

-- a refused table call, of those whose success has number 0
table_kept : (b : Table) (a : Answer) (x : TableAfter) → x.answer.number ≡ 0
    → not (eqb (after a (λ (r : Refusal). same b (refused r)) x).answer.number 0) ≡ true → (after a (λ (r : Refusal). same b (refused r)) x).table ≡ b
table_kept b (Ok _) x z h = absurd (false≢true (sym (ap (λ (k : ℕ). not (eqb k 0)) z) ∙ h))
table_kept b (Err r) x z h = refl

held-zero : (h : Held) → (held_given h).number ≡ 0
held-zero (Some l) = refl
held-zero None = refl

-- it leaves the desk too
on-table : (words : Words) (call : Table → TableAfter) (d : Desk) → (call (world_of d).table).table ≡ (world_of d).table → (called words (on_table call) d).desk ≡ d
on-table words call d e = ap (λ (t : Table). desk d.bench d.heap t) e

load_kept : (b : Table) (id : ℕ) → (load_call b id).table ≡ b
unfolding load_call
load_kept b id = refl

store_kept : (b : Table) (id raw : ℕ) → not (eqb (store_call b id raw).answer.number 0) ≡ true → (store_call b id raw).table ≡ b
unfolding store_call
store_kept b id raw h =
    table_kept b (decide (not_form b gives Limits ∷ eqb raw 0 gives Location ∷ full (used_entries b) (capacity_of b) id gives TableRoom ∷ []))
    (record { answer = accepted []; table = with_stored b id raw }) refl h

compare-kept : (b : Table) (id old raw : ℕ) → not (eqb (compare_call b id old raw).answer.number 0) ≡ true → (compare_call b id old raw).table ≡ b
unfolding compare_call
compare-kept b id old raw h =
    let held = lookup (used_entries b) id in
    table_kept b (decide (not_form b gives Limits ∷ (eqb old 0 || eqb raw 0) gives Location ∷ unmapped held gives NotThere ∷ []))
    (pick (mapped_to held old) (record { answer = accepted []; table = with_stored b id raw }) (same b (held_given held))) (either (mapped_to held old) held (with_stored b id raw)) h
  where
    either : (t : Bool) (held : Held) (y : Table) → (pick t (record { answer = accepted []; table = y }) (same b (held_given held))).answer.number ≡ 0
    either true held y = refl
    either false held y = held-zero held

greater-kept : (b : Table) (id raw : ℕ) → not (eqb (greater_call b id raw).answer.number 0) ≡ true → (greater_call b id raw).table ≡ b
unfolding greater_call
greater-kept b id raw h =
    let held = lookup (used_entries b) id in
    table_kept b
    (decide (not_form b gives Limits ∷ eqb raw 0 gives Location ∷ mapped_to held raw gives EqualLocation ∷ full (used_entries b) (capacity_of b) id gives TableRoom ∷ []))
    (record { answer = held_given held; table = pick (below held raw) (with_stored b id raw) b }) (held-zero held) h

read_kept : (w : World) (id : ℕ) → (read_call w id).world ≡ w
unfolding read_call
read_kept w id = refl

through-kept : (w : World) (batch : List ℕ) (id : ℕ) → (through_call w batch id).world ≡ w
unfolding through_call
through-kept w batch id = refl

counts-kept : (w : World) → (counts_call w).world ≡ w
unfolding counts_call
counts-kept w = refl

-- LAW: a command that fails changes nothing
pub failed-unchanged : (k : Keyword) → Kept k → (n bytes : List ℕ) (d : Desk) → failing (done_by k n bytes d).reply ≡ true → (done_by k n bytes d).desk ≡ d
unfolding done_by lent_by
failed-unchanged key.Blank p n bytes d h = refl
failed-unchanged key.Bad p n bytes d h = refl
failed-unchanged key.Settings p n bytes d h = absurd (false≢true h)
failed-unchanged key.Heap p n bytes d h = heap-kept (nth n 0) d h
failed-unchanged key.Table p n bytes d h = lending-kept (nth n 0) d h
failed-unchanged key.Poke p n bytes d h = back-same d (lent_by key.Poke n bytes (lent_of d)) (poke-kept (nth n 0) bytes (lent_of d) h)
failed-unchanged key.Entry p n bytes d h = back-same d (lent_by key.Entry n bytes (lent_of d)) (entry_kept (nth n 0) (nth n 1) (nth n 2) (lent_of d) h)
failed-unchanged key.State p n bytes d h = absurd (false≢true h)
failed-unchanged key.Record p n bytes d h = record-kept (leb 256 (nth n 0) || ltb 1 (nth n 7)) d (with_state d.bench (with_record d.bench.state (nth n 0) (record_from n))) h
failed-unchanged key.Claims p n bytes d h = absurd (false≢true h)
failed-unchanged key.Reopen p n bytes d h = absurd p
failed-unchanged key.Write p n bytes d h = back-same d (lent_by key.Write n bytes (lent_of d)) (call_kept plain (write bytes) tt (lent_of d) h)
failed-unchanged key.Claim p n bytes d h = back-same d (lent_by key.Claim n bytes (lent_of d)) (call_kept plain (quiet (claim (nth n 0))) tt (lent_of d) h)
failed-unchanged key.Release p n bytes d h = back-same d (lent_by key.Release n bytes (lent_of d)) (call_kept plain (quiet (release (nth n 0))) tt (lent_of d) h)
failed-unchanged key.Prune p n bytes d h = back-same d (lent_by key.Prune n bytes (lent_of d)) (call_kept plain prune tt (lent_of d) h)
failed-unchanged key.Read p n bytes d h =
    back-same d (lent_by key.Read n bytes (lent_of d)) (world-kept found (λ (w : World). read_call w (nth n 0)) (lent_of d) (read_kept (world_of (lent_of d)) (nth n 0)))
failed-unchanged key.Through p n bytes d h =
    back-same d (lent_by key.Through n bytes (lent_of d))
    (world-kept pieced (λ (w : World). through_call w bytes (nth n 0)) (lent_of d) (through-kept (world_of (lent_of d)) bytes (nth n 0)))
failed-unchanged key.Plan p n bytes d h = plan-unchanged n bytes d
failed-unchanged key.Rewrite p n bytes d h = back-same d (lent_by key.Rewrite n bytes (lent_of d)) (call_kept moved (rewrite notes (nth n 0) (nth n 1) (nth n 2)) tt (lent_of d) h)
failed-unchanged key.Maintain p n bytes d h = absurd p
failed-unchanged key.Counts p n bytes d h = back-same d (lent_by key.Counts n bytes (lent_of d)) (world-kept counted counts_call (lent_of d) (counts-kept (world_of (lent_of d))))
failed-unchanged key.Unsynced p n bytes d h = refl
failed-unchanged key.Sync p n bytes d h = sync-kept d h
failed-unchanged key.Load p n bytes d h =
    back-same d (lent_by key.Load n bytes (lent_of d)) (on-table located (λ (t : Table). load_call t (nth n 0)) (lent_of d) (load_kept (world_of (lent_of d)).table (nth n 0)))
failed-unchanged key.Bytes p n bytes d h = back-same d (lent_by key.Bytes n bytes (lent_of d)) (bytes-unchanged (nth n 0) (nth n 1) (lent_of d))
failed-unchanged key.Store p n bytes d h =
    back-same d (lent_by key.Store n bytes (lent_of d))
    (on-table plain (λ (t : Table). store_call t (nth n 0) (nth n 1)) (lent_of d) (store_kept (world_of (lent_of d)).table (nth n 0) (nth n 1) h))
failed-unchanged key.Cas p n bytes d h =
    back-same d (lent_by key.Cas n bytes (lent_of d))
    (on-table compared (λ (t : Table). compare_call t (nth n 0) (nth n 1) (nth n 2)) (lent_of d) (compare-kept (world_of (lent_of d)).table (nth n 0) (nth n 1) (nth n 2) h))
failed-unchanged key.Max p n bytes d h =
    back-same d (lent_by key.Max n bytes (lent_of d))
    (on-table raised (λ (t : Table). greater_call t (nth n 0) (nth n 1)) (lent_of d) (greater-kept (world_of (lent_of d)).table (nth n 0) (nth n 1) h))
failed-unchanged key.Check p n bytes d h = check-unchanged (nth n 0) d
failed-unchanged key.Salvage p n bytes d h = back-same d (salvage_by (lent_of d)) (salvage-kept (lent_of d) h)
failed-unchanged key.List p n bytes d h = refl
failed-unchanged key.Dump p n bytes d h = refl
failed-unchanged key.Help p n bytes d h = refl

-- LAW: a reopening refused with 1 changes nothing
pub reopen-limits : (n bytes : List ℕ) (d : Desk) → out_of_range (world_of (lent_of d)).settings (length (lent_of d).heap) (world_of (lent_of d)).table ≡ true → (done_by key.Reopen n bytes d).desk ≡ d
unfolding reopen_call decide done_by lent_by
reopen-limits n bytes d e = back-same d (lent_by key.Reopen n bytes (lent_of d)) (world-kept plain reopen_call (lent_of d) (rw e refl))

first-clear : (w : World) → out_of_range w.settings (length w.heap) w.table ≡ false → decide (out_of_range w.settings (length w.heap) w.table gives Limits ∷ []) ≡ Ok tt
unfolding decide
first-clear w e = rw e refl

-- LAW: refused with any other number it leaves what `given_up` says: no file, no claims, next position 1, the lent table zeroed; the heap stays
pub reopen-given-up : (n bytes : List ℕ) (d : Desk) (r : Refusal) → out_of_range (world_of (lent_of d)).settings (length (lent_of d).heap) (world_of (lent_of d)).table ≡ false
    → decide (reopen_tests (world_of (lent_of d)) (views_in (slots_of (world_of (lent_of d))) (world_of (lent_of d)).settings.slot_bytes (lent_of d).heap)) ≡ Err r
    → done_by key.Reopen n bytes d ≡ on_lent (called plain (λ (w : World). given_up w r)) d
unfolding reopen_call done_by lent_by
reopen-given-up n bytes d r e f =
    let w = world_of (lent_of d) in
    let up : reopen_call w ≡ given_up w r = rw (first-clear w e, f) refl in
    ap (λ (a : After). put_back d (answered plain d.bench a)) up

-- LAW: the nightly job refused with 1 changes nothing
pub maintain-limits : (n bytes : List ℕ) (d : Desk) → refused_noting (world_of (lent_of d)) notes ≡ true → (done_by key.Maintain n bytes d).desk ≡ d
unfolding nightly_call decide done_by lent_by
maintain-limits n bytes d e = back-same d (lent_by key.Maintain n bytes (lent_of d)) (world-kept moved (λ (w : World). nightly_call w notes) (lent_of d) (rw e refl))

-- LAW: else it leaves what its rewrites left, pruned if none was refused
pub maintain-job : (n bytes : List ℕ) (d : Desk) → refused_noting (world_of (lent_of d)) notes ≡ false
    → done_by key.Maintain n bytes d ≡ on_lent (called moved (λ (w : World). job_ended (job_of w notes).stop (job_of w notes))) d
unfolding nightly_call decide done_by lent_by
maintain-job n bytes d e =
    let w = world_of (lent_of d) in
    let run : nightly_call w notes ≡ job_ended (job_of w notes).stop (job_of w notes) = rw e refl in
    ap (λ (a : After). put_back d (answered moved d.bench a)) run
