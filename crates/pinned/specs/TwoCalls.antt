-- Request P7, "Maintenance in two calls", from outside: of every world.
use Rattle.std.specs.Prelude.{◌≡◌, ◌⊎◌, ◌≤◌, ◌<◌, ◌&&◌, ◌∷◌, ◌++◌, ◌^◌, Err}
use Rattle.std.proofs.Math.Path.{refl, ap}
use Rattle.std.proofs.Common.{sym, ◌∙◌, subst, inl, inr, ⊎_elim, arith, lt-ltb, le-ltb}
use Rattle.std.proofs.lemmas.Bool.{lt-leb, eqb-false}
use Rattle.numbers.specs.GroupLaws.{either_way}
use Rattle.rules.specs.Base.{Bool, true, false, not, List, [], ℕ, length, take, leb, within, each}
use Rattle.rules.specs.BaseLaws.{All}
use Rattle.rules.proofs.BaseLaws.{all_append, or-false, or-holds}
use Rattle.theory.specs.Types.{Entry, Label, Refusal, Limits, Generation, stopped_with}
use Rattle.disk_location.specs.Locations.{masked_of}
use Rattle.rules.proofs.Answers.{known, answer-one}
use Rattle.rules.specs.Refusal.{Test, ◌gives◌, decide, number_of}
use Rattle.rules.proofs.RefusalLaws.{decide-none, decide-first, decide-next, after-refused, done-or-refused}
use Rattle.rules.specs.Trailer.{trailer_tests}
use Rattle.rules.specs.Ops.{Op}
use Rattle.rules.specs.SlotFile.{trailer_part}
use Rattle.rules.specs.Layout.{capacity_of}
use Rattle.rules.specs.Claims.{is_claimed}
use Rattle.rules.specs.FileMap.{is_empty, record_at, file_count}
use Rattle.rules.specs.FileMapLaws.{Among}
use Rattle.rules.specs.Condition1.{refused1}
use Rattle.rules.proofs.Condition1Laws.{passed}
use Rattle.rules.specs.Install.{room_tests, position_tests}
use Rattle.rules.specs.Maintenance.{live_percent, new_generation, group, moved_tests, delete_tests, deletes_of, stored_objects, file_tests, slot_of, found, files_of, Course, source_tests, group_tests, rewrite_group}
use Rattle.rules.specs.MaintenanceLaws.{WorthIt}
use Rattle.rules.proofs.MaintenanceLaws.{group-added, group-kept}
use Rattle.rules.specs.TwoCalls.{short, refused_noting, mark_of, count_of, planned_slots, plan_values, plan_call, rewrite_tests, rewrite_of, rewrite_call, nightly_call}
use Rattle.rules.specs.World.{World, records_of, mappings, Given, accepted, refused, maintain_given, After, unchanged, leaving}
use Rattle.maintenance_theory.proofs.Groups.{in_group, group-has}
use Rattle.maintenance_theory.specs.Stopping.{Stay}
use Rattle.maintenance_theory.proofs.Stopping.{stay_all}
use Rattle.maintenance_theory.specs.Rewrites.{answered_at}
use Rattle.maintenance_theory.proofs.Rewrites.{rewrite-picks}
-- a group stays while others are rewritten; the job is the old call
pub use Rattle.maintenance_theory.proofs.Persisting.{mark-above, group-persists}
pub use Rattle.maintenance_theory.proofs.AsBefore.{job-as-before, lived-job-as-before}

-- ---- which files
-- slot k's file is a candidate as document 01 says, with this file count, and of this new generation
pub record Eligible (w : World) (generation count k : ℕ) : Type 0 where
  pub file : is_empty (record_at (records_of w) k) ≡ false
  pub unclaimed : is_claimed w.claims k ≡ false
  pub live : 0 < (record_at (records_of w) k).live
  pub worth : WorthIt w.settings count (record_at (records_of w) k)
  pub aged : new_generation (record_at (records_of w) k).label.generation ≡ generation

-- LAW: a slot is in a group exactly if its file is eligible by the given count, and "with masked lsn below the mark"
pub group-exactly : (w : World) (g mark count k : ℕ)
    → (Among (group w g mark count) k → Eligible w g count k × (masked_of (record_at (records_of w) k).label.lsn < mark))
    × (Eligible w g count k → masked_of (record_at (records_of w) k).label.lsn < mark → Among (group w g mark count) k)
group-exactly w g mark count k = (
  λ a.
      let m = in_group w g mark count k a in
      let c = m.candidate in
      (record { file = c.file; unclaimed = c.unclaimed; live = c.live; worth = c.worth; aged = m.generation }, c.below),
  λ e low. group-has w g mark count k (record { candidate = record { file = e.file; unclaimed = e.unclaimed; live = e.live; worth = e.worth; below = low }; generation = e.aged }),
)

-- LAW: a file at or above the mark is in no group
pub marked-out : (w : World) (g mark count k : ℕ) → mark ≤ masked_of (record_at (records_of w) k).label.lsn → Among (group w g mark count) k → ⊥
marked-out w g mark count k high a = let low = ((group-exactly w g mark count k).0 a).1 in omega arith

-- LAW: "tests the threshold against that count": a file of many live entries is in a group only if the count that was given reaches it
pub threshold-of-count : (w : World) (g mark count k : ℕ) → Among (group w g mark count) k
    → w.settings.file_compaction_percent ≤ live_percent (record_at (records_of w) k) → w.settings.small_file_cleanup_threshold ≤ count
threshold-of-count w g mark count k a many = ⊎_elim (λ few. absurd (omega arith)) (λ small. small.count) ((group-exactly w g mark count k).0 a).0.worth

-- LAW: a mark of 2^62 leaves out no file that 1 lets pass
pub mark-for-all : (w : World) → refused1 w ≡ false → (g count k : ℕ) → Eligible w g count k → Among (group w g (2 ^ 62) count) k
mark-for-all w fine g count k e =
    let b = ((passed w.settings (length w.heap) w.table w.state fine).records k e.file).bounds.end in
    (group-exactly w g (2 ^ 62) count k).1 e (omega arith)

-- ---- the plan
-- LAW: "`plan` refuses with 1 only"
pub plan-limits : (w : World) (room : ℕ) → refused_noting w room ≡ true → plan_call w room ≡ refused Limits
unfolding plan_call
plan-limits w room e = rw (decide-first (refused_noting w room) Limits [] e)

-- else it gives its values
pub plan-gives : (w : World) (room : ℕ) → refused_noting w room ≡ false → plan_call w room ≡ accepted (plan_values w)
unfolding plan_call
plan-gives w room e = rw (decide-next (refused_noting w room) Limits [] e, decide-none)

-- LAW: "a mark, the next position, and the file count" come first
pub plan-mark : (w : World) → take 2 (plan_values w) ≡ w.state.next_position ∷ file_count (records_of w) ∷ []
unfolding plan_values
plan-mark w = refl

-- LAW: the slots of a generation are those of its group by the next position and the file count, where these are enough
pub planned-group : (w : World) (g : ℕ) → w.settings.min_compaction_files ≤ length (group w g w.state.next_position (file_count (records_of w)))
    → planned_slots w g ≡ group w g w.state.next_position (file_count (records_of w))
unfolding planned_slots
planned-group w g enough = rw (le-ltb (length (group w g (mark_of w) (count_of w))) w.settings.min_compaction_files enough)

-- and none where they are not
pub planned-none : (w : World) (g : ℕ) → length (group w g w.state.next_position (file_count (records_of w))) < w.settings.min_compaction_files → planned_slots w g ≡ []
unfolding planned_slots
planned-none w g few = rw (lt-ltb (length (group w g (mark_of w) (count_of w))) w.settings.min_compaction_files few)

-- ---- rewrite
module _ (w : World) (room g mark count : ℕ) where
  -- a first test that holds
  stops : (r : Refusal) → decide (rewrite_tests w room g) ≡ Err r → rewrite_call w room g mark count ≡ unchanged w r
  unfolding rewrite_of
  stops r e = ap answered_at (after-refused {A = Course} (decide (rewrite_tests w room g)) r _ _ e)

  -- LAW: 1, before all else, and nothing changes
  pub rewrite-limits : refused_noting w room ≡ true → rewrite_call w room g mark count ≡ unchanged w Limits
  unfolding rewrite_tests
  rewrite-limits e = stops Limits (decide-first (refused_noting w room) Limits _ e)

  -- LAW: "rewriting a generation outside 1..3 is 22, after 1", and nothing changes
  pub rewrite-outside : refused_noting w room ≡ false → (g < 1) ⊎ (3 < g) → rewrite_call w room g mark count ≡ unchanged w Generation
  unfolding rewrite_tests
  rewrite-outside e out = stops Generation (decide-next (refused_noting w room) Limits _ e ∙ decide-first (not (within 1 3 g)) Generation [] (ap not (outside out)))
    where
      outside : (g < 1) ⊎ (3 < g) → within 1 3 g ≡ false
      outside (inl l) = rw (lt-leb 1 g l) refl
      outside (inr l) = rw (lt-leb g 3 l) (go (leb 1 g))
        where
          go : (b : Bool) → (b && false) ≡ false
          go true = refl
          go false = refl

  module _ (fine : refused_noting w room ≡ false) (some : 0 < g) (most : g ≤ 3) where
    -- LAW: "a generation that yields no group succeeds with count 0", and nothing changes
    pub rewrite-few : length (group w g mark count) < w.settings.min_compaction_files → rewrite_call w room g mark count ≡ leaving (accepted (0 ∷ [])) w
    rewrite-few few = rewrite-picks w room g mark count fine some most true (lt-ltb (length (group w g mark count)) w.settings.min_compaction_files few)

    -- LAW: else its group is rewritten, or refused
    pub rewrite-group : w.settings.min_compaction_files ≤ length (group w g mark count) → rewrite_call w room g mark count ≡ answered_at (rewrite_group g (group w g mark count) 0 w)
    rewrite-group enough = rewrite-picks w room g mark count fine some most false (le-ltb (length (group w g mark count)) w.settings.min_compaction_files enough)

-- ---- how it ends, whatever the world
-- a refusal, and the world as it was; or accepted, and no slot with a file has lost it
pub record Ended (w : World) (a : After) : Type 0 where
  pub refused : (r : Refusal) → a.answer ≡ refused r → a ≡ unchanged w r
  pub stay : Stay w a.world

accepted-not : (n : ℕ) (r : Refusal) → accepted (n ∷ []) ≡ refused r → ⊥
accepted-not n r e = eqb-false (number_of r) 0 (known r).some (sym (ap (λ (a : Given). a.number) e))

one-refusal : (q r : Refusal) → refused q ≡ refused r → q ≡ r
one-refusal q r e = let z = answer-one (Err q) (Err r) e in cc

-- a refusal's own
refused-ends : (w : World) (q : Refusal) → Ended w (unchanged w q)
refused-ends w q = record { refused = λ r e. ap (unchanged w) (one-refusal q r e); stay = λ k h. h }

accepted-ends : (w v : World) (n : ℕ) → Stay w v → Ended w (leaving (accepted (n ∷ [])) v)
accepted-ends w v n stay = record { refused = λ r e. absurd (accepted-not n r e); stay = stay }

module _ (w : World) (room g mark count : ℕ) where
  -- LAW: "A refusal changes no state or buffer"; and it prunes nothing
  pub rewrite-ended : Ended w (rewrite_call w room g mark count)
  rewrite-ended = go (refused_noting w room) refl (either_way g 1) (either_way 3 g)
    where
      group-ends : refused_noting w room ≡ false → Ended w (answered_at (rewrite_group g (group w g mark count) 0 w))
      group-ends fine = ⊎_elim
          (λ d. subst (λ (c : Course). Ended w (answered_at c)) (sym (group-added g (group w g mark count) 0 w d))
          (accepted-ends w _ _ (stay_all g _ w (passed w.settings (length w.heap) w.table w.state (or-false (refused1 w) (short room w.table) fine).0).next)))
          (λ z. subst (λ (c : Course). Ended w (answered_at c)) (sym (group-kept g (group w g mark count) 0 w z.0 z.1)) (refused-ends w z.0))
          (done-or-refused (decide (group_tests w (group w g mark count) (files_of w.settings.target_file_size (found w (group w g mark count))))))

      go : (b : Bool) → refused_noting w room ≡ b → (g < 1) ⊎ (1 ≤ g) → (3 < g) ⊎ (g ≤ 3) → Ended w (rewrite_call w room g mark count)
      go true e p q = subst (Ended w) (sym (rewrite-limits w room g mark count e)) (refused-ends w Limits)
      go false e (inl p) q = subst (Ended w) (sym (rewrite-outside w room g mark count e (inl p))) (refused-ends w Generation)
      go false e (inr p) (inl q) = subst (Ended w) (sym (rewrite-outside w room g mark count e (inr q))) (refused-ends w Generation)
      go false e (inr p) (inr q) = at (either_way (length (group w g mark count)) w.settings.min_compaction_files)
        where
          at : (length (group w g mark count) < w.settings.min_compaction_files) ⊎ (w.settings.min_compaction_files ≤ length (group w g mark count)) → Ended w (rewrite_call w room g mark count)
          at (inl few) = subst (Ended w) (sym (rewrite-few w room g mark count e p q few)) (accepted-ends w w 0 (λ k h. h))
          at (inr enough) = subst (Ended w) (sym (rewrite-group w room g mark count e p q enough)) (group-ends e)

-- ---- 22 is for the generation alone
-- a test that does not give 22
abbrev Other : Test → Type 0
Other (b gives r) = number_of r ≡ 22 → ⊥

never-given : (ts : List Test) → All Other ts → decide ts ≡ Err Generation → ⊥
unfolding decide
never-given [] a e = let z : ◌≡◌ {A = ℕ} 0 1 = cc in omega arith
never-given (true gives r ∷ ts) a e = let z : r ≡ Generation = cc in a.0 (ap number_of z)
never-given (false gives r ∷ ts) a e = never-given ts a.1 e

others-each : {A : Type 0} (f : A → List Test) (xs : List A) → ((x : A) → All Other (f x)) → All Other (each f xs)
unfolding each
others-each f [] h = tt
others-each f (x ∷ xs) h = all_append Other (f x) (each f xs) (h x) (others-each f xs h)

file-others : (limit : ℕ) (table : List Entry) (l : Label) (slot : List ℕ) → All Other (file_tests limit table l slot)
unfolding file_tests trailer_tests moved_tests delete_tests
file-others limit table l slot =
    all_append Other (trailer_tests (trailer_part l slot)) (moves ++ deletes) ((λ e. omega arith), ((λ e. omega arith), ((λ e. omega arith), tt)))
    (all_append Other moves deletes
    (others-each (moved_tests limit table) (stored_objects l slot) (λ o. ((λ e. omega arith), ((λ e. omega arith), ((λ e. omega arith), ((λ e. omega arith), ((λ e. omega arith), tt)))))))
    (others-each (delete_tests l.lsn table) (deletes_of l slot) (λ d. ((λ e. omega arith), ((λ e. omega arith), tt)))))
  where
    moves : List Test
    moves = each (moved_tests limit table) (stored_objects l slot)

    deletes : List Test
    deletes = each (delete_tests l.lsn table) (deletes_of l slot)

group-others : (w : World) (slots : List ℕ) (files : List (List Op)) → All Other (group_tests w slots files)
unfolding group_tests room_tests position_tests
group-others w slots files =
    all_append Other (source_tests w slots) _
    (others-each (λ (k : ℕ). file_tests w.settings.max_object_size (mappings w) (record_at (records_of w) k).label (slot_of w k)) slots
    (λ k. file-others w.settings.max_object_size (mappings w) (record_at (records_of w) k).label (slot_of w k)))
    ((λ e. omega arith), ((λ e. omega arith), ((λ e. omega arith), tt)))

module _ (w : World) (room g mark count : ℕ) where
  -- LAW: 22 is given only where 1 does not hold and the generation is outside 1..3
  pub outside-only : (rewrite_call w room g mark count).answer ≡ refused Generation → (refused_noting w room ≡ false) × ((g < 1) ⊎ (3 < g))
  outside-only e = go (refused_noting w room) refl (either_way g 1) (either_way 3 g)
    where
      -- the refusal of a group would be its own
      not-here : refused_noting w room ≡ false → 0 < g → g ≤ 3 → ⊥
      not-here fine p q = at (either_way (length (group w g mark count)) w.settings.min_compaction_files)
        where
          at : (length (group w g mark count) < w.settings.min_compaction_files) ⊎ (w.settings.min_compaction_files ≤ length (group w g mark count)) → ⊥
          at (inl few) = accepted-not 0 Generation (sym (ap (λ (a : After). a.answer) (rewrite-few w room g mark count fine p q few)) ∙ e)
          at (inr enough) =
              let r = ap (λ (a : After). a.answer) (rewrite-group w room g mark count fine p q enough) in
              let ts = group_tests w (group w g mark count) (files_of w.settings.target_file_size (found w (group w g mark count))) in
              ⊎_elim
              (λ d. accepted-not _ Generation (sym (ap (λ (c : Course). (answered_at c).answer) (group-added g (group w g mark count) 0 w d)) ∙ sym r ∙ e))
              (λ z.
              let i = one-refusal z.0 Generation (sym (ap (λ (c : Course). (answered_at c).answer) (group-kept g (group w g mark count) 0 w z.0 z.1)) ∙ sym r ∙ e) in
              never-given ts (group-others w (group w g mark count) _) (z.1 ∙ ap Err i))
              (done-or-refused (decide ts))

      go : (b : Bool) → refused_noting w room ≡ b → (g < 1) ⊎ (1 ≤ g) → (3 < g) ⊎ (g ≤ 3) → (refused_noting w room ≡ false) × ((g < 1) ⊎ (3 < g))
      go true f p q =
          let i = one-refusal Limits Generation (sym (ap (λ (a : After). a.answer) (rewrite-limits w room g mark count f)) ∙ e) in
          let z : ◌≡◌ {A = ℕ} 1 22 = ap number_of i in
          absurd (omega arith)
      go false f (inl p) q = (f, inl p)
      go false f (inr p) (inl q) = (f, inr q)
      go false f (inr p) (inr q) = absurd (not-here f p q)

-- ---- the notes
-- LAW: "as long as the table has entries; shorter: 1", of all three, and nothing changes
pub short-notes : (w : World) (room g mark count : ℕ) → room < capacity_of w.table
    → (plan_call w room ≡ refused Limits) × (rewrite_call w room g mark count ≡ unchanged w Limits) × (nightly_call w room ≡ leaving (maintain_given (Err (stopped_with Limits 0 0))) w)
unfolding nightly_call
short-notes w room g mark count few = (plan-limits w room e, rewrite-limits w room g mark count e, rw (decide-first (refused_noting w room) Limits [] e))
  where
    e : refused_noting w room ≡ true
    e = or-holds (refused1 w) (short room w.table) (inr (lt-ltb room (capacity_of w.table) few))
