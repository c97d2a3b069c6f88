-- C: what a rewrite of one generation answers and moves, by any mark and any count.
use Rattle.std.specs.Prelude.{◌≡◌, refl, ◌⊎◌, ◌<◌, ◌≤◌, ◌∷◌, ◌++◌, Err, Ok}
use Rattle.std.proofs.Common.{sym, ap, ◌∙◌, subst, inl, inr, ⊎_elim, zero-add, arith, le-ltb}
use Rattle.rules.specs.Base.{Bool, true, false, not, List, [], ℕ, length, pick}
use Rattle.theory.specs.Types.{Record, Refusal, ObjectSize, Answer}
use Rattle.rules.specs.BaseLaws.{All}
use Rattle.rules.proofs.BaseLaws.{or-clear}
use Rattle.rules.specs.Refusal.{decide}
use Rattle.rules.specs.Ops.{Op}
use Rattle.rules.specs.Layout.{capacity_of}
use Rattle.rules.specs.Table.{lookup}
use Rattle.rules.specs.FileMap.{record_at}
use Rattle.rules.proofs.FileMapLaws.{not-empty}
use Rattle.rules.specs.Condition1.{refused1, out_of_range}
use Rattle.rules.specs.Install.{installed_all, room_tests, empty_of, position_tests}
use Rattle.rules.specs.Maintenance.{found, going, Course, group, group_tests, rewrite_group}
use Rattle.rules.specs.MaintenanceLaws.{Lacks, DecidedBy, SourcesPass}
use Rattle.rules.proofs.MaintenanceLaws.{decided-one, group-decided, group-added, group-kept}
use Rattle.rules.proofs.TwoCallsLaws.{rewrite-opens}
use Rattle.rules.specs.TwoCalls.{short, refused_noting, too_few, generation_rewritten, rewrite_of, rewrite_call}
use Rattle.rules.specs.World.{World, records_of, mappings, accepted, After, unchanged, leaving}
use Rattle.theory.proofs.Places.{record-holds}
use Rattle.theory.specs.Picture.{views_of}
use Rattle.theory.specs.SoundWorld.{SmallWorld, SoundWorld}
use Rattle.theory.proofs.SoundWorld.{sound-fine}
use Rattle.history_theory.proofs.Maintaining.{sound-group}
use Rattle.history_theory.specs.Writing.{engine}
use Rattle.history_theory.proofs.Pruning.{file-slot}
use Rattle.history_theory.specs.Fresh.{Blank}
use Rattle.history_theory.specs.History.{Call, Life, lived, Starts, born}
use Rattle.history_theory.proofs.History.{sound-lived, small-lived, born-starts, born-small}
use Rattle.maintenance_theory.proofs.Groups.{group-ascending}
use Rattle.maintenance_theory.specs.Checked.{Oversized}
use Rattle.maintenance_theory.proofs.Checked.{not-oversized}
use Rattle.maintenance_theory.proofs.Moved.{found-count}
use Rattle.maintenance_theory.specs.Stopping.{Spent, Refusable, Remain}
use Rattle.maintenance_theory.proofs.Stopping.{files-in-group, group-stays}
use Rattle.maintenance_theory.proofs.Sizes.{sources-decided, passed-small}
use Rattle.maintenance_theory.proofs.Relocated.{group-relocates}
use Rattle.maintenance_theory.specs.Exactly.{entries_inside}
use Rattle.maintenance_theory.proofs.Exactly.{moved-exactly}
use Rattle.maintenance_theory.specs.Arrived.{Arrived}
use Rattle.maintenance_theory.specs.Afterwards.{Rewrites}
use Rattle.maintenance_theory.proofs.Afterwards.{done, group-rewrites}
use Rattle.maintenance_theory.specs.Rewrites.{files_out, Clear, RefusedFor, ids_to_move, RewriteEnds, RewriteAnswers, answered_at}

-- LAW: of every world: then there are too few files, or it is the group's rewriting
pub rewrite-picks : (w : World) (room g mark count : ℕ) → refused_noting w room ≡ false → 0 < g → g ≤ 3 → (few : Bool) → too_few w (group w g mark count) ≡ few
    → rewrite_call w room g mark count ≡ answered_at (pick few (record { stop = going; moved = 0; world = w }) (rewrite_group g (group w g mark count) 0 w))
unfolding generation_rewritten
rewrite-picks w room g mark count fine some most few e =
    ap answered_at (rewrite-opens w room g mark count fine some most
    ∙ ap (λ (t : Bool). pick t (record { stop = going; moved = 0; world = w }) (rewrite_group g (group w g mark count) 0 w)) e)

-- ---- a group's tests
module _ (history : List Op) (w : World) (s : SoundWorld w (engine history)) (ks : List ℕ) (files : All (λ (k : ℕ). 0 < (record_at (records_of w) k).label.lsn) ks) where
  -- its files are refused with 3, or the sizes of its new files, the slots and the base decide
  split : ((decide (group_tests w ks (files_out w ks)) ≡ Err ObjectSize) × Oversized w ks) ⊎ SourcesPass w ks
  unfolding group_tests
  split = sources-decided w history s ks files (room_tests w.settings.slot_bytes (empty_of w) (files_out w ks) ++ position_tests w.state.next_position (files_out w ks))

  -- the refusal that is given
  refused-for : (r : Refusal) → RefusedFor w ks r → decide (group_tests w ks (files_out w ks)) ≡ Err r
  refused-for r (inl (e, o)) = ⊎_elim (λ z. z.0 ∙ ap Err (sym e)) (λ pass. absurd (passed-small w history s ks pass o)) split
  refused-for r (inr (n, l)) = ⊎_elim (λ z. absurd (n z.1)) (λ pass. decided-one w (files_out w ks) _ (Err r) (group-decided w ks (files_out w ks) pass) l) split

  -- one or the other
  clear-or-refused : Clear w ks ⊎ ((r : Refusal) × RefusedFor w ks r)
  clear-or-refused = ⊎_elim (λ z. inr (ObjectSize, inl (refl, z.1))) (λ pass. by pass (decide (group_tests w ks (files_out w ks))) (group-decided w ks (files_out w ks) pass)) split
    where
      by : SourcesPass w ks → (a : Answer) → DecidedBy w (files_out w ks) a → Clear w ks ⊎ ((r : Refusal) × RefusedFor w ks r)
      by pass (Ok _) d = inl (record { sizes = passed-small w history s ks pass; enough = d })
      by pass (Err r) d = inr (r, inr (passed-small w history s ks pass, d))

module _ (history : List Op) (w : World) (s : SoundWorld w (engine history)) (room : ℕ) (enough : capacity_of w.table ≤ room) where
  -- 1 does not hold where the notes are long enough
  noting-fine : refused_noting w room ≡ false
  noting-fine = or-clear (refused1 w) (short room w.table) (sound-fine w (engine history) s) (le-ltb room (capacity_of w.table) enough)

  -- so the generation's group decides
  pub rewrite-open : (g mark count : ℕ) → 0 < g → g ≤ 3 → rewrite_of w room g mark count ≡ generation_rewritten w g mark count
  rewrite-open g mark count = rewrite-opens w room g mark count noting-fine

  module _ (g mark count : ℕ) (some : 0 < g) (most : g ≤ 3) where
    -- the slots of the group
    abbrev ks : List ℕ
    ks = group w g mark count

    aged : g ≤ 255
    aged = omega arith

    held : All (λ (k : ℕ). 0 < (record_at (records_of w) k).label.lsn) ks
    held = files-in-group w history s g mark count

    picked : (b : Bool) → too_few w ks ≡ b → rewrite_call w room g mark count ≡ answered_at (pick b (record { stop = going; moved = 0; world = w }) (rewrite_group g ks 0 w))
    picked = rewrite-picks w room g mark count noting-fine some most

    skipped : too_few w ks ≡ true → rewrite_call w room g mark count ≡ leaving (accepted (0 ∷ [])) w
    skipped = picked true

    halted : (r : Refusal) → too_few w ks ≡ false → RefusedFor w ks r → rewrite_call w room g mark count ≡ unchanged w r
    halted r e f = picked false e ∙ ap answered_at (group-kept g ks 0 w r (refused-for history w s ks held r f))

    went : too_few w ks ≡ false → Clear w ks → rewrite_call w room g mark count ≡ leaving (accepted (length (found w ks) ∷ [])) (installed_all 0 g w (files_out w ks))
    went e c =
        picked false e ∙ ap answered_at (group-added g ks 0 w (done history w s g aged ks held c.sizes c.enough))
        ∙ ap (λ (n : ℕ). leaving (accepted (n ∷ [])) (installed_all 0 g w (files_out w ks))) (zero-add (length (found w ks)))

    rewrote : (c : Clear w ks) → Rewrites history g w (installed_all 0 g w (files_out w ks)) ks
    rewrote c = group-rewrites history w s g aged ks held c.sizes c.enough

    -- the world left is as it was, or as the group leaves it
    left : ((rewrite_call w room g mark count).world ≡ w) ⊎ ((rewrite_call w room g mark count).world ≡ (rewrite_group g ks 0 w).world)
    left = go (too_few w ks) refl
      where
        by : too_few w ks ≡ false → Clear w ks ⊎ ((r : Refusal) × RefusedFor w ks r) → ((rewrite_call w room g mark count).world ≡ w) ⊎ ((rewrite_call w room g mark count).world ≡ (rewrite_group g ks 0 w).world)
        by e (inl c) = inr (ap (λ (a : After). a.world) (went e c) ∙ sym (ap (λ (d : Course). d.world) (group-added g ks 0 w (done history w s g aged ks held c.sizes c.enough))))
        by e (inr z) = inl (ap (λ (a : After). a.world) (halted z.0 e z.1))

        go : (b : Bool) → too_few w ks ≡ b → ((rewrite_call w room g mark count).world ≡ w) ⊎ ((rewrite_call w room g mark count).world ≡ (rewrite_group g ks 0 w).world)
        go true e = inl (ap (λ (a : After). a.world) (skipped e))
        go false e = by e (clear-or-refused history w s ks held)

    -- what both keep
    keeps : (P : World → Type 0) → P w → P (rewrite_group g ks 0 w).world → P (rewrite_call w room g mark count).world
    keeps P a b = ⊎_elim (λ e. subst P (sym e) a) (λ e. subst P (sym e) b) left

    same-label : (k : ℕ) → 0 < (record_at (records_of w) k).label.lsn → (record_at (records_of (rewrite_group g ks 0 w).world) k).label ≡ (record_at (records_of w) k).label
    same-label k here =
        let f = file-slot w (engine history) s k (not-empty (record_at (records_of w) k) here) in
        let v = (group-stays history g aged ks 0 w s).1 k f.0 f.1 in
        let t = sound-group history g aged ks 0 w s in
        ap (λ (r : Record). r.label)
        (record-holds (views_of (rewrite_group g ks 0 w).world) (records_of (rewrite_group g ks 0 w).world) t.sound.filed k f.0 v)
        ∙ sym (ap (λ (r : Record). r.label) (record-holds (views_of w) (records_of w) s.sound.filed k f.0 f.1))

    -- C: a rewrite on a store of the invariant
    pub rewrite-ends : RewriteEnds w g (group w g mark count) (rewrite_call w room g mark count)
    rewrite-ends = record {
      few = skipped;
      refuses = halted;
      accepts = λ e c. ap (λ (a : After). a.answer) (went e c) ∙ ap (λ (n : ℕ). accepted (n ∷ [])) (moved-exactly w history s ks held).count;
      moves = λ e c x i.
          subst (λ (a : After). Arrived g w a.world x) (sym (went e c)) ((rewrote c).arrived x ((moved-exactly w history s ks held).every x i));
      dead = λ e c k i. subst (λ (a : After). (record_at (records_of a.world) k).live ≡ 0) (sym (went e c)) ((rewrote c).dead k i);
      either = go (too_few w ks) refl;
      live = sym (moved-exactly w history s ks held).count ∙ found-count w history s 0 ks (group-ascending w g mark count) held;
      others = λ x n.
          keeps (λ (v : World). lookup (mappings v) x ≡ lookup (mappings w) x) refl
          (⊎_elim (λ l. l.table) (λ a. absurd (n ((moved-exactly w history s ks held).only x a.1))) (group-relocates history w s g aged ks 0 x));
      files = keeps (Remain w) (λ k f h. h) (group-stays history g aged ks 0 w s).1;
      labels = λ k here. keeps (λ (v : World). (record_at (records_of v) k).label ≡ (record_at (records_of w) k).label) refl (same-label k here);
    }
      where
        go : (b : Bool) → too_few w ks ≡ b → (too_few w ks ≡ true) ⊎ ((too_few w ks ≡ false) × (Clear w ks ⊎ ((r : Refusal) × RefusedFor w ks r)))
        go true e = inl e
        go false e = inr (e, clear-or-refused history w s ks held)

    -- C: in short, on any store of the invariant
    pub rewrite-answers : RewriteAnswers w (group w g mark count) (Refusable w (group w g mark count)) (rewrite_call w room g mark count)
    rewrite-answers = go rewrite-ends.either
      where
        lacks : (r : Refusal) → Lacks w (files_out w ks) r → Spent r
        lacks r (inl z) = inl z.0
        lacks r (inr (inl z)) = inr (inl z.0)
        lacks r (inr (inr z)) = inr (inr z.0)

        why : (r : Refusal) → RefusedFor w ks r → Refusable w ks r
        why r (inl z) = inr z
        why r (inr z) = inl (lacks r z.1)

        tally : (b : Bool) → too_few w ks ≡ b → accepted (pick b 0 (length (entries_inside w ks)) ∷ []) ≡ accepted (ids_to_move w ks ∷ [])
        tally b e = ap (λ (t : Bool). accepted (pick t 0 (length (entries_inside w ks)) ∷ [])) (sym e)

        go : (too_few w ks ≡ true) ⊎ ((too_few w ks ≡ false) × (Clear w ks ⊎ ((r : Refusal) × RefusedFor w ks r))) → RewriteAnswers w ks (Refusable w ks) (rewrite_call w room g mark count)
        go (inl e) = inl (ap (λ (a : After). a.answer) (rewrite-ends.few e) ∙ tally true e)
        go (inr (e, inl c)) = inl (rewrite-ends.accepts e c ∙ tally false e)
        go (inr (e, inr (r, f))) = inr (r, rewrite-ends.refuses r e f, why r f)

    -- C: with 4, 5 or 7 only, where no object is of max_object_size or more
    pub small-rewrite : SmallWorld w → RewriteAnswers w (group w g mark count) Spent (rewrite_call w room g mark count)
    small-rewrite small = ⊎_elim inl (λ z. inr (z.0, z.1, ⊎_elim (λ p. p) (λ o. absurd (not-oversized w small ks o.1)) z.2)) rewrite-answers

-- C: on any store that calls left, whatever calls these were
pub lived-rewrite : (l : Life) → Starts l → (calls : List Call) → (room g mark count : ℕ) → capacity_of (lived l calls).world.table ≤ room → 0 < g → g ≤ 3
    → RewriteEnds (lived l calls).world g (group (lived l calls).world g mark count) (rewrite_call (lived l calls).world room g mark count)
lived-rewrite l s calls room g mark count enough some most = rewrite-ends (lived l calls).history (lived l calls).world (sound-lived l s calls) room enough g mark count some most

-- C: and its answer, if no object was of max_object_size or more as the life began
pub small-lived-rewrite : (l : Life) → Starts l → SmallWorld l.world → (calls : List Call) → (room g mark count : ℕ) → capacity_of (lived l calls).world.table ≤ room → 0 < g → g ≤ 3
    → RewriteAnswers (lived l calls).world (group (lived l calls).world g mark count) Spent (rewrite_call (lived l calls).world room g mark count)
small-lived-rewrite l s small calls room g mark count enough some most =
    small-rewrite (lived l calls).history (lived l calls).world (sound-lived l s calls) room enough g mark count some most (small-lived l s small calls)

-- C: so on every store of demand 3 that began with no file
pub any-rewrite : (w : World) → out_of_range w.settings (length w.heap) w.table ≡ false → Blank w → (calls : List Call) → (room g mark count : ℕ) → capacity_of (lived (born w) calls).world.table ≤ room → 0 < g → g ≤ 3
    → RewriteAnswers (lived (born w) calls).world (group (lived (born w) calls).world g mark count) Spent (rewrite_call (lived (born w) calls).world room g mark count)
any-rewrite w range blank = small-lived-rewrite (born w) (born-starts w range blank) (born-small w range blank)
