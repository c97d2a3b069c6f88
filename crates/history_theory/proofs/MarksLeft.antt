-- Request P6: what each call leaves of the marks. "clear on writing, set by a sync call, set on reopening; an empty record has it clear".
use Rattle.std.specs.Prelude.{◌≡◌, refl, ◌⊎◌, ◌<◌, ◌≤◌, ◌&&◌, ◌||◌, ◌∷◌, ◌++◌, ◌+◌, ◌-◌, ◌^◌, Err, Ok}
use Rattle.std.proofs.Common.{sym, ap, ◌∙◌, subst, inl, inr, zero-add, arith, get_or-set_same, get_or-set_other, eq-eqb, ne_eqb}
use Rattle.std.proofs.Math.ListN.{get_or-eq_default}
use Rattle.std.proofs.Math.Seq.{set_out}
use Rattle.disk_location.proofs.LocationLaws.{masked-pos}
use Rattle.numbers.specs.GroupLaws.{either_way}
use Rattle.rules.specs.Base.{Bool, true, false, not, List, [], map, ℕ, zero, suc, length, set, replicate, ltb, eqb, pick, sum}
use Rattle.theory.specs.Types.{Entry, Label, Record, Answer, Refusal, Limits}
use Rattle.rules.specs.Refusal.{◌gives◌, decide, after}
use Rattle.rules.specs.BaseLaws.{All}
use Rattle.rules.proofs.BaseLaws.{same?}
use Rattle.rules.specs.Ops.{Op, settled}
use Rattle.rules.specs.Batch.{batch_in, ops_of}
use Rattle.rules.specs.SlotFile.{View, empty, damaged, holds}
use Rattle.rules.specs.FileMap.{empty_label, empty_record, is_empty, record_at, with_live, no_files}
use Rattle.rules.proofs.FileMapLaws.{empty-is, is-empty, not-empty, empty-or-not}
use Rattle.rules.specs.Condition1.{out_of_range, refused1}
use Rattle.rules.specs.Install.{new_label, new_record, losing, new_slot, new_lsn, records_with, next_with, installed, installed_all}
use Rattle.rules.proofs.InstallLaws.{losing-length, losing-record, losing-label}
use Rattle.rules.specs.Write.{new_files, written, write_tests, write_call}
use Rattle.rules.specs.WriteLaws.{ops_in}
use Rattle.rules.proofs.WriteLaws.{write-accepted}
use Rattle.rules.specs.Prune.{is_dead, emptied_from, pruned, prune_call}
use Rattle.rules.proofs.PruneLaws.{emptied-length, emptied-at}
use Rattle.rules.specs.Maintenance.{going, stopped, Course, group, group_tests, found, files_of, rewrite_group}
use Rattle.rules.specs.TwoCalls.{mark_of, count_of, generation_rewritten, rewrite_call, nightly_call}
use Rattle.rules.specs.Reopen.{record_of, records_from, table_of, files_in, reopen_tests, given_up, opened, reopen_call}
use Rattle.rules.specs.Sync.{is_unsynced, unsynced_in, sync_state}
use Rattle.rules.specs.World.{World, records_of, mappings, accepted, Given, unchanged, After, leaving}
use Rattle.theory.proofs.Marks.{none-unsynced}
use Rattle.theory.proofs.Places.{record-holds}
use Rattle.theory.proofs.Reopened.{refused-not}
use Rattle.theory.specs.Picture.{views_of, Said}
use Rattle.theory.specs.Adding.{Fitting}
use Rattle.theory.proofs.Adding.{free-slot}
use Rattle.theory.specs.SoundWorld.{SoundWorld}
use Rattle.history_theory.specs.Writing.{engine}
use Rattle.history_theory.proofs.Writing.{fits-write}
use Rattle.history_theory.proofs.Pruning.{file-slot}
use Rattle.history_theory.proofs.Syncing.{sync-accepted}
use Rattle.history_theory.proofs.OneGeneration.{rewrite-leaves}
use Rattle.history_theory.specs.History.{Call, rewrite, called}
use Rattle.history_theory.specs.Nightly.{moved_with, generation_named, together, nightly}
use Rattle.history_theory.proofs.Nightly.{job-made}
use Rattle.history_theory.specs.MarksLeft.{Carried, Carries}

carries_same : (bit : ℕ) (w : World) → Carries bit w w
carries_same bit w = record { grows = omega arith; each = λ k. inl (refl, refl) }

-- one after the other
carries-then : (bit : ℕ) (w v u : World) → Carries bit w v → Carries bit v u → Carries bit w u
carries-then bit w v u a b = record { grows = let p = a.grows in let q = b.grows in omega arith; each = λ k. go k (a.each k) (b.each k) }
  where
    go : (k : ℕ) → Carried bit w v k → Carried bit v u k → Carried bit w u k
    go k (inl (l, m)) (inl (c, d)) = inl (c ∙ l, d ∙ m)
    go k (inr (inl (n, o, m))) (inl (c, d)) =
        let e : (record_at (records_of u) k).label.lsn ≡ (record_at (records_of v) k).label.lsn = ap (λ (l : Label). l.lsn) c in
        let q = b.grows in
        inr (inl (omega arith, omega arith, d ∙ m))
    go k (inr (inr (l, m))) (inl (c, d)) = inr (inr (c ∙ l, d ∙ m))
    go k x (inr (inl (n, o, m))) = let p = a.grows in inr (inl (omega arith, o, m))
    go k x (inr (inr c)) = inr (inr c)

-- a file added: its mark is clear, and every other slot's as it was
carries-installed : (bit generation : ℕ) (w : World) (ops : List Op) → Carries bit w (installed bit generation w ops)
unfolding installed records_with new_record new_label next_with
carries-installed bit generation w ops = record { grows = omega arith; each = λ k. go k (same? k (new_slot w)) (either_way (new_slot w) (length rs)) }
  where
    rs : List Record
    rs = losing (mappings w) ops (records_of w)

    new : Record
    new = new_record (new_lsn bit w) generation ops

    still : (k : ℕ) → ((record_at rs k).label ≡ (record_at (records_of w) k).label) × ((record_at rs k).synced ≡ (record_at (records_of w) k).synced)
    still k =
        let e = (losing-record (mappings w) ops (records_of w) k).same in
        (ap (λ (r : Record). r.label) e, ap (λ (r : Record). r.synced) e)

    go : (k : ℕ) → (k ≡ new_slot w) ⊎ (k ≡ new_slot w → ⊥) → (new_slot w < length rs) ⊎ (length rs ≤ new_slot w) → Carried bit w (installed bit generation w ops) k
    go k (inr d) h = rw (get_or-set_other rs (new_slot w) k new empty_record d) (inl (still k))
    go k (inl e) (inl h) = rw (e, get_or-set_same rs (new_slot w) new empty_record h) (inr (inl (omega arith, omega arith, refl)))
    go k (inl e) (inr h) = rw (set_out rs (new_slot w) new h) (inl (still k))

carries-all : (bit generation : ℕ) (w : World) (files : List (List Op)) → Carries bit w (installed_all bit generation w files)
unfolding installed_all
carries-all bit generation w [] = carries_same bit w
carries-all bit generation w (f ∷ fs) =
    carries-then bit w (installed bit generation w f) (installed_all bit generation (installed bit generation w f) fs) (carries-installed bit generation w f)
    (carries-all bit generation (installed bit generation w f) fs)

carries-pruned : (bit : ℕ) (w : World) → Carries bit w (pruned w)
unfolding pruned
carries-pruned bit w = record { grows = omega arith; each = λ k. go k (either_way k (length (records_of w))) }
  where
    by : (k : ℕ) (r : Record) (b : Bool) → r ≡ pick b empty_record (record_at (records_of w) k)
        → ((r.label ≡ (record_at (records_of w) k).label) × (r.synced ≡ (record_at (records_of w) k).synced))
        ⊎ (((w.state.next_position + bit ≤ r.label.lsn) × (r.label.lsn < w.state.next_position + bit) × (r.synced ≡ 0))
        ⊎ ((r.label ≡ empty_label) × (r.synced ≡ 0)))
    by k r true e = inr (inr (ap (λ (q : Record). q.label) e, ap (λ (q : Record). q.synced) e))
    by k r false e = inl (ap (λ (q : Record). q.label) e, ap (λ (q : Record). q.synced) e)

    go : (k : ℕ) → (k < length (records_of w)) ⊎ (length (records_of w) ≤ k) → Carried bit w (pruned w) k
    go k (inl h) = by k (record_at (emptied_from w.claims 0 (records_of w)) k) (is_dead w.claims (0 + k) (record_at (records_of w) k)) (emptied-at w.claims 0 (records_of w) k h)
    go k (inr h) =
        let n = emptied-length w.claims 0 (records_of w) in
        let e : record_at (emptied_from w.claims 0 (records_of w)) k ≡ empty_record = get_or-eq_default (emptied_from w.claims 0 (records_of w)) empty_record {n = k} (omega arith) in
        inr (inr (ap (λ (q : Record). q.label) e, ap (λ (q : Record). q.synced) e))

-- a group, rewritten or refused
carries-group : (generation : ℕ) (slots : List ℕ) (moved : ℕ) (w : World) → Carries 0 w (rewrite_group generation slots moved w).world
unfolding rewrite_group
carries-group generation slots moved w = go (decide (group_tests w slots (files_of w.settings.target_file_size (found w slots))))
  where
    files : List (List Op)
    files = files_of w.settings.target_file_size (found w slots)

    go : (a : Answer) → Carries 0 w (after {A = Course} a (λ (r : Refusal). record { stop = stopped r generation; moved = moved; world = w })
        (record { stop = going; moved = moved + length (found w slots); world = installed_all 0 generation w files })).world
    go (Ok _) = carries-all 0 generation w files
    go (Err r) = carries_same 0 w

-- LAW: of any world, whatever the answer: write, rewrite, prune and, below, the nightly job carry the marks
pub write-carries : (w : World) (bytes : List ℕ) → Carries (2 ^ 62) w (write_call w bytes).world
unfolding write_call written
write-carries w bytes = go (decide (write_tests w bytes))
  where
    go : (a : Answer) → Carries (2 ^ 62) w (after a (unchanged w) (record { answer = accepted []; world = written w (settled (ops_of (batch_in bytes))) })).world
    go (Ok _) = carries-all (2 ^ 62) 0 w (new_files (settled (ops_of (batch_in bytes))))
    go (Err r) = carries_same (2 ^ 62) w

pub rewrite-carries : (w : World) (room g mark count : ℕ) → Carries 0 w (rewrite_call w room g mark count).world
unfolding generation_rewritten
rewrite-carries w room g mark count =
    rewrite-leaves (Carries 0 w) w room g mark count (carries_same 0 w) (λ low high. go (ltb (length (group w g mark count)) w.settings.min_compaction_files))
  where
    go : (b : Bool) → Carries 0 w (pick b (record { stop = going; moved = 0; world = w }) (rewrite_group g (group w g mark count) 0 w)).world
    go true = carries_same 0 w
    go false = carries-group g (group w g mark count) 0 w

pub prune-carries : (w : World) → Carries 0 w (prune_call w).world
unfolding prune_call
prune-carries w = go (decide (refused1 w gives Limits ∷ []))
  where
    go : (a : Answer) → Carries 0 w (after a (unchanged w) (record { answer = accepted []; world = pruned w })).world
    go (Ok _) = carries-pruned 0 w
    go (Err r) = carries_same 0 w

-- calls one after another, as far as none is refused
carries-together : (cs : List Call) → All (λ (c : Call). (w : World) → Carries 0 w (called w c).world) cs → (moved : ℕ) (w : World) → Carries 0 w (together moved w cs).world
unfolding together
carries-together [] a moved w = carries_same 0 w
carries-together (c ∷ cs) a moved w =
    carries-then 0 w (called w c).world _ (a.0 w)
    (go (carries-together cs a.1 (moved_with c (called w c).answer moved) (called w c).world) (eqb (called w c).answer.number 0))
  where
    go : Carries 0 (called w c).world (together (moved_with c (called w c).answer moved) (called w c).world cs).world → (b : Bool)
        → Carries 0 (called w c).world (pick b (together (moved_with c (called w c).answer moved) (called w c).world cs)
        (leaving (record { number = (called w c).answer.number; values = generation_named c ∷ moved ∷ [] }) (called w c).world)).world
    go ih true = ih
    go ih false = carries_same 0 (called w c).world

-- LAW: so the nightly job, of any world
pub nightly-carries : (w : World) (room : ℕ) → Carries 0 w (nightly_call w room).world
nightly-carries w room = subst (λ (a : After). Carries 0 w a.world) (sym (job-made w room)) (carries-together (nightly w room) each-call 0 w)
  where
    rewritten : (g : ℕ) (v : World) → Carries 0 v (called v (rewrite room g (mark_of w) (count_of w))).world
    rewritten g v = rewrite-carries v room g (mark_of w) (count_of w)

    each-call : All (λ (c : Call). (v : World) → Carries 0 v (called v c).world) (nightly w room)
    each-call = (carries_same 0, (rewritten 1, (rewritten 2, (rewritten 3, (prune-carries, tt)))))

-- ---- "set on reopening"
none-of-views : (table : List Entry) (views : List View) (n : ℕ) → unsynced_in (map (record_of table) views ++ replicate n empty_record) ≡ 0
unfolding unsynced_in is_unsynced sum
none-of-views table [] zero = refl
none-of-views table [] (suc n) = rw (is-empty, zero-add) (none-of-views table [] n)
none-of-views table (empty ∷ views) n = rw (is-empty, zero-add) (none-of-views table views n)
none-of-views table (damaged r ∷ views) n = rw (is-empty, zero-add) (none-of-views table views n)
none-of-views table (holds f ∷ views) n = end (not (is_empty (record_of table (holds f)))) (none-of-views table views n)
  where
    end : (t : Bool) → unsynced_in (map (record_of table) views ++ replicate n empty_record) ≡ 0
        → pick (t && false) 1 0 + unsynced_in (map (record_of table) views ++ replicate n empty_record) ≡ 0
    end true h = rw zero-add h
    end false h = rw zero-add h

-- LAW: a reopening, accepted or refused with any number but 1, leaves no record unmarked; of any world
pub reopen-marks : (w : World) → ((reopen_call w).answer.number ≡ 1 → ⊥) → unsynced_in (records_of (reopen_call w).world) ≡ 0
unfolding reopen_call given_up opened no_files records_from decide
reopen-marks w n = go (out_of_range w.settings (length w.heap) w.table) (decide (reopen_tests w (views_of w))) n
  where
    abandoned : unsynced_in (replicate 256 empty_record) ≡ 0
    abandoned = none-of-views [] [] 256

    go : (b : Bool) (a : Answer)
        → ((after (pick b (Err Limits) (Ok tt)) (unchanged w) (after a (given_up w) (opened w (views_of w)))).answer.number ≡ 1 → ⊥)
        → unsynced_in (records_of (after (pick b (Err Limits) (Ok tt)) (unchanged w) (after a (given_up w) (opened w (views_of w)))).world) ≡ 0
    go true a m = absurd (m refl)
    go false (Err r) m = abandoned
    go false (Ok _) m = none-of-views (table_of (files_in (views_of w))) (views_of w) (256 - length (views_of w))

-- ---- on a store of the invariant
module _ (w : World) (told : ℕ → Said) (s : SoundWorld w told) where
  -- LAW: "set by a sync call": afterwards none is counted
  pub sync-marks : unsynced_in (records_of (sync_state w).world) ≡ 0
  sync-marks = ap (λ (a : After). unsynced_in (records_of a.world)) (sync-accepted w told s) ∙ none-unsynced (records_of w)

  -- "clear on writing": of the files after it the new one is unsynced, and every other as it was
  installed-marks : (bit g : ℕ) (os : List Op) → Fitting bit g w os → (k : ℕ)
      → is_unsynced (record_at (records_of (installed bit g w os)) k) ≡ (eqb k (new_slot w) || is_unsynced (record_at (records_of w) k))
  unfolding installed records_with new_record new_label is_unsynced
  installed-marks bit g os f k = go (same? k (new_slot w))
    where
      rs : List Record
      rs = losing (mappings w) os (records_of w)

      new : Record
      new = new_record (new_lsn bit w) g os

      place : new_slot w < length rs
      place =
          let a = (free-slot w told s f.free).0 in
          let b = s.tidy.limits.heap.most in
          let c = s.sound.sized in
          let d = losing-length (mappings w) os (records_of w) in
          omega arith

      -- an empty record has nothing to lose, and a file's has an lsn
      old : is_empty (record_at rs k) ≡ is_empty (record_at (records_of w) k)
      old = at (empty-or-not (record_at (records_of w) k))
        where
          at : (is_empty (record_at (records_of w) k) ≡ true) ⊎ (is_empty (record_at (records_of w) k) ≡ false) → is_empty (record_at rs k) ≡ is_empty (record_at (records_of w) k)
          at (inl e) =
              let l = losing-record (mappings w) os (records_of w) k in
              let z = empty-is (record_at (records_of w) k) e in
              let n : (record_at (records_of w) k).live ≡ 0 = ap (λ (r : Record). r.live) z in
              let m : (record_at rs k).live ≡ 0 = let q = l.less in omega arith in
              ap is_empty (l.same ∙ ap (λ (r : Record). with_live r (record_at rs k).live) z ∙ ap (with_live empty_record) m ∙ sym z)
          at (inr e) =
              let c = file-slot w told s k e in
              let q : (record_at (records_of w) k).label.lsn ≡ c.0.label.lsn = ap (λ (r : Record). r.label.lsn) (record-holds (views_of w) (records_of w) s.sound.filed k c.0 c.1) in
              let a = masked-pos c.0.label.lsn (s.sound.filed.made k c.0 c.1).placed in
              let b : (record_at rs k).label.lsn ≡ (record_at (records_of w) k).label.lsn = ap (λ (l : Label). l.lsn) (losing-label (mappings w) os (records_of w) k) in
              not-empty (record_at rs k) (omega arith) ∙ sym e

      go : (k ≡ new_slot w) ⊎ (k ≡ new_slot w → ⊥) → (not (is_empty (record_at (set rs (new_slot w) new) k)) && eqb (record_at (set rs (new_slot w) new) k).synced 0)
          ≡ (eqb k (new_slot w) || (not (is_empty (record_at (records_of w) k)) && eqb (record_at (records_of w) k).synced 0))
      go (inl e) =
          let h = s.sound.started in
          rw (e, get_or-set_same rs (new_slot w) new empty_record place, not-empty new (omega arith), eq-eqb (new_slot w) (new_slot w) refl)
      go (inr d) =
          let m : (record_at rs k).synced ≡ (record_at (records_of w) k).synced = ap (λ (r : Record). r.synced) (losing-record (mappings w) os (records_of w) k).same in
          rw (get_or-set_other rs (new_slot w) k new empty_record d, ne_eqb k (new_slot w) d, old, m)

-- LAW: after an accepted write exactly the new file is unsynced, beside those that were
pub write-marks : (w : World) (history : List Op) → SoundWorld w (engine history) → (batch : List ℕ) → (write_call w batch).answer ≡ accepted [] → 0 < length (ops_in batch)
    → (k : ℕ) → is_unsynced (record_at (records_of (write_call w batch).world) k) ≡ (eqb k (new_slot w) || is_unsynced (record_at (records_of w) k))
unfolding write_call written installed_all
write-marks w history s batch e some k = go (decide (write_tests w batch)) refl e
  where
    files : (os : List Op) → ops_in batch ≡ os → 0 < length os → decide (write_tests w batch) ≡ Ok tt
        → is_unsynced (record_at (records_of (written w os)) k) ≡ (eqb k (new_slot w) || is_unsynced (record_at (records_of w) k))
    files [] q h d = absurd (omega arith)
    files (o ∷ os) q h d = installed-marks w (engine history) s (2 ^ 62) 0 (o ∷ os) (fits-write w history s batch o os q (write-accepted w batch d)) k

    go : (a : Answer) → decide (write_tests w batch) ≡ a → (after a (unchanged w) (record { answer = accepted []; world = written w (ops_in batch) })).answer ≡ accepted []
        → is_unsynced (record_at (records_of (after a (unchanged w) (record { answer = accepted []; world = written w (ops_in batch) })).world) k) ≡ (eqb k (new_slot w) || is_unsynced (record_at (records_of w) k))
    go (Ok _) d f = files (ops_in batch) refl some d
    go (Err r) d f = absurd (refused-not r (ap (λ (g : Given). g.number) f))
