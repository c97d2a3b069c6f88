-- P7: what the plan says is what then happens. On a store of the invariant, with nothing between, the nightly job takes the groups that the plan gives, is
-- refused where and with what the plan foretells, and adds the files, bytes and positions that it foretells.
use Rattle.std.specs.Prelude.{◌≡◌, ◌⊎◌, ◌≤◌, ◌∷◌, ◌++◌, ◌+◌, ◌-◌, Err, Ok}
use Rattle.std.proofs.Math.Path.{refl, sym, ap, subst}
use Rattle.std.proofs.Common.{◌∙◌, inl, inr, ⊎_elim}
use native.Mathlib.Omega.{arith}
use borrow.Author.Tests.{ltb-true, le-ltb}
use Rattle.rules.specs.Base.{Bool, true, false, List, [], ℕ, length, ltb, pick, keep, sum}
use Rattle.theory.specs.Types.{Settings, Refusal, ObjectSize, Answer}
use Rattle.rules.specs.BaseLaws.{All}
use Rattle.rules.specs.Refusal.{Test, decide, after}
use Rattle.rules.proofs.RefusalLaws.{decide-append}
use Rattle.rules.specs.Ops.{Op, file_bytes}
use Rattle.rules.specs.Layout.{capacity_of}
use Rattle.rules.specs.FileMapLaws.{Among}
use Rattle.rules.specs.Counts.{counts_of}
use Rattle.rules.specs.Install.{installed_all, room_tests, empty_of, position_tests}
use Rattle.rules.specs.Maintenance.{found, files_of, source_tests, Stop, going, stopped, Course, group, start_group, group_tests, rewrite_group, onward, groups_from, course_of, ended, maintain_call}
use Rattle.rules.specs.MaintenanceLaws.{SourcesPass}
use Rattle.rules.proofs.MaintenanceLaws.{group-added, group-kept}
use Rattle.rules.specs.TwoCalls.{mark_of, count_of, too_few, planned_slots, Forecast, positions_in, foretold_tests, foretold, foretelling, foretold_from, forecast_of, plan_call, rewrite_of, rewrite_answered, rewrite_call, job_step, job_from, job_of}
use Rattle.rules.specs.World.{World, records_of, Given, refused, After}
use Rattle.theory.proofs.Lists.{all_pass, among-get}
use Rattle.theory.specs.SoundWorld.{SoundWorld}
use Rattle.theory.proofs.SoundWorld.{sound-fine}
use Rattle.history_theory.specs.Writing.{engine}
use Rattle.history_theory.specs.History.{Call, Life, lived, Starts}
use Rattle.history_theory.proofs.History.{sound-lived}
use Rattle.maintenance_theory.specs.Checked.{Oversized}
use Rattle.maintenance_theory.specs.Stopping.{Underway}
use Rattle.maintenance_theory.proofs.Stopping.{group-files, underway-first, still-files, onward-well}
use Rattle.maintenance_theory.proofs.Sizes.{sources-decided, passed-small, oversized-later, oversized-earlier}
use Rattle.maintenance_theory.specs.Finished.{before}
use Rattle.maintenance_theory.specs.Exactly.{Exactly, turn}
use Rattle.maintenance_theory.proofs.Exactly.{sound-moves}
use Rattle.maintenance_theory.specs.FirstRefused.{generations, new_files}
use Rattle.maintenance_theory.proofs.FirstRefused.{same-files}
use Rattle.maintenance_theory.proofs.Persisting.{mark-above}
use Rattle.maintenance_theory.proofs.AsBefore.{turn-group, job-turn, job-course, job-as-before}
use Rattle.maintenance_theory.specs.ForetoldGroup.{Adds}
use Rattle.maintenance_theory.proofs.ForetoldGroup.{files-or-empty, group-adds-files}
use Rattle.maintenance_theory.specs.Foretold.{slots_taken, NoneBefore, AnswersSo, EndsSo, Foretells, nothing_foretold, CameTrue}

-- nothing more once a group is refused
stays-stopped : (gs : List ℕ) (w : World) (f : Forecast) (r : Refusal) (h : ℕ) → f.stop ≡ stopped r h → foretold_from gs w f ≡ f
unfolding foretold_from
stays-stopped [] w f r h e = refl
stays-stopped (g ∷ gs) w f r h e = ap (foretold_from gs w) (ap (λ (o : Stop). foretelling o w g f) e) ∙ stays-stopped gs w f r h e

-- a group goes, or stops with its generation
goes-or-stops : (w : World) (g : ℕ) (f : Forecast) → f.stop ≡ going
    → ((foretelling going w g f).stop ≡ going) ⊎ ((r : Refusal) × ((foretelling going w g f).stop ≡ stopped r g))
unfolding foretold
goes-or-stops w g f e = few (too_few w slots)
  where
    slots : List ℕ
    slots = group w g (mark_of w) (count_of w)

    by : (a : Answer) (n b p : ℕ)
        → ((after {A = Forecast} a (λ (r : Refusal). record { stop = stopped r g; files = f.files; bytes = f.bytes; positions = f.positions }) (record { stop = going; files = n; bytes = b; positions = p })).stop ≡ going)
        ⊎ ((r : Refusal) × ((after {A = Forecast} a (λ (r : Refusal). record { stop = stopped r g; files = f.files; bytes = f.bytes; positions = f.positions }) (record { stop = going; files = n; bytes = b; positions = p })).stop ≡ stopped r g))
    by (Ok _) n b p = inl refl
    by (Err r) n b p = inr (r, refl)

    few : (b : Bool) → ((pick b f (foretold w g slots f)).stop ≡ going) ⊎ ((r : Refusal) × ((pick b f (foretold w g slots f)).stop ≡ stopped r g))
    few true = inl e
    few false = by (decide (foretold_tests w f slots (files_of w.settings.target_file_size (found w slots)))) _ _ _

-- groups go, or one of them stops
stops-among : (gs : List ℕ) (w : World) (f : Forecast) → f.stop ≡ going
    → ((foretold_from gs w f).stop ≡ going) ⊎ ((r : Refusal) × (h : ℕ) × Among gs h × ((foretold_from gs w f).stop ≡ stopped r h))
unfolding foretold_from
stops-among [] w f e = inl e
stops-among (g ∷ gs) w f e =
    subst (λ (o : Stop). ((foretold_from gs w (foretelling o w g f)).stop ≡ going) ⊎ ((r : Refusal) × (h : ℕ) × Among (g ∷ gs) h × ((foretold_from gs w (foretelling o w g f)).stop ≡ stopped r h))) (sym e)
    (⊎_elim (λ z. ⊎_elim inl (λ (r, h, a, q). inr (r, h, inr a, q)) (stops-among gs w (foretelling going w g f) z))
    (λ (r, z). inr (r, g, inl refl, ap (λ (q : Forecast). q.stop) (stays-stopped gs w (foretelling going w g f) r g z) ∙ z)) (goes-or-stops w g f e))

module _ (history : List Op) (w : World) (s : SoundWorld w (engine history)) where
  -- ---- one group, in its turn
  module _ (g : ℕ) (aged : g ≤ 255) (c : Course) (u : Underway history w c) (x : Exactly w (start_group w g) (found c.world (start_group w g))) (f : Forecast) (t : CameTrue w f c) where
    -- the files that come out of it
    abbrev new : List (List Op)
    new = files_of c.world.settings.target_file_size (found c.world (start_group w g))

    -- its new files are those that the plan works out
    same : new ≡ new_files w g
    same = same-files history w s g c.world u.sound u.settings x

    -- the empty slots are as many fewer as files came out so far
    empties : empty_of c.world ≡ empty_of w - f.files
    unfolding counts_of
    empties =
        let a = files-or-empty history w s in
        let b = files-or-empty history c.world u.sound in
        let d = t.files in
        let e = t.slots in
        omega arith

    -- 4, 5 and 7 ask the same
    limits : room_tests c.world.settings.slot_bytes (empty_of c.world) new ++ position_tests c.world.state.next_position new
        ≡ room_tests w.settings.slot_bytes (empty_of w - f.files) (new_files w g) ++ position_tests (w.state.next_position + f.positions) (new_files w g)
    limits =
        ap (λ (v : Settings). room_tests v.slot_bytes (empty_of c.world) new ++ position_tests c.world.state.next_position new) u.settings
        ∙ ap (λ (n : ℕ). room_tests w.settings.slot_bytes n new ++ position_tests c.world.state.next_position new) empties
        ∙ ap (λ (n : ℕ). room_tests w.settings.slot_bytes (empty_of w - f.files) new ++ position_tests n new) t.position
        ∙ ap (λ (fs : List (List Op)). room_tests w.settings.slot_bytes (empty_of w - f.files) fs ++ position_tests (w.state.next_position + f.positions) fs) same

    -- LAW: it is decided as the plan decides it
    decided : decide (group_tests c.world (start_group w g) new) ≡ decide (foretold_tests w f (start_group w g) (new_files w g))
    unfolding group_tests foretold_tests
    decided = go (sources-decided c.world history u.sound (start_group w g) (still-files history w s g c u) here) (sources-decided w history s (start_group w g) (group-files w history s g) there)
      where
        here : List Test
        here = room_tests c.world.settings.slot_bytes (empty_of c.world) new ++ position_tests c.world.state.next_position new

        there : List Test
        there = room_tests w.settings.slot_bytes (empty_of w - f.files) (new_files w g) ++ position_tests (w.state.next_position + f.positions) (new_files w g)

        go : ((decide (source_tests c.world (start_group w g) ++ here) ≡ Err ObjectSize) × Oversized c.world (start_group w g)) ⊎ SourcesPass c.world (start_group w g)
            → ((decide (source_tests w (start_group w g) ++ there) ≡ Err ObjectSize) × Oversized w (start_group w g)) ⊎ SourcesPass w (start_group w g)
            → decide (source_tests c.world (start_group w g) ++ here) ≡ decide (source_tests w (start_group w g) ++ there)
        go (inl a) (inl b) = a.0 ∙ sym b.0
        go (inl a) (inr b) = absurd (passed-small w history s (start_group w g) b (oversized-earlier history w c.world s (start_group w g) (group-files w history s g) u.remain u.settings a.1))
        go (inr a) (inl b) = absurd (passed-small c.world history u.sound (start_group w g) a (oversized-later w c.world (start_group w g) u.remain u.settings b.1))
        go (inr a) (inr b) = decide-append (source_tests c.world (start_group w g)) here a ∙ ap decide limits ∙ sym (decide-append (source_tests w (start_group w g)) there b)

    -- rewritten or refused
    true-group : CameTrue w (foretold w g (start_group w g) f) (rewrite_group g (start_group w g) c.moved c.world)
    unfolding foretold
    true-group = go (decide (foretold_tests w f (start_group w g) (new_files w g))) decided
      where
        went : Adds c.world (installed_all 0 g c.world new) new
            → CameTrue w (record { stop = going; files = f.files + length (new_files w g); bytes = f.bytes + sum (λ (ops : List Op). length (file_bytes ops)) (new_files w g); positions = f.positions + positions_in (new_files w g) })
            (record { stop = going; moved = c.moved + length (found c.world (start_group w g)); world = installed_all 0 g c.world new })
        went a =
            let n : length new ≡ length (new_files w g) = ap length same in
            let b : sum (λ (ops : List Op). length (file_bytes ops)) new ≡ sum (λ (ops : List Op). length (file_bytes ops)) (new_files w g) = ap (sum (λ (ops : List Op). length (file_bytes ops))) same in
            let p : positions_in new ≡ positions_in (new_files w g) = ap positions_in same in
            let a1 = a.files in
            let a2 = a.bytes in
            let a3 = a.position in
            let t1 = t.files in
            let t2 = t.bytes in
            let t3 = t.position in
            record { stop = refl; files = omega arith; bytes = omega arith; position = omega arith; slots = a.slots ∙ t.slots }

        go : (a : Answer) → decide (group_tests c.world (start_group w g) new) ≡ a
            → CameTrue w (after {A = Forecast} a (λ (r : Refusal). record { stop = stopped r g; files = f.files; bytes = f.bytes; positions = f.positions })
            (record { stop = going; files = f.files + length (new_files w g); bytes = f.bytes + sum (λ (ops : List Op). length (file_bytes ops)) (new_files w g); positions = f.positions + positions_in (new_files w g) }))
            (rewrite_group g (start_group w g) c.moved c.world)
        go (Ok _) e = subst (CameTrue w _) (sym (group-added g (start_group w g) c.moved c.world e)) (went (group-adds-files history g aged (start_group w g) c.world u.sound e))
        go (Err r) e =
            subst (CameTrue w _) (sym (group-kept g (start_group w g) c.moved c.world r e))
            (record { stop = refl; files = t.files; bytes = t.bytes; position = t.position; slots = t.slots })

    -- and passed over alike
    true-turn : CameTrue w (foretelling f.stop w g f) (onward c.stop g (start_group w g) c)
    true-turn = subst (λ (o : Stop). CameTrue w (foretelling o w g f) (onward c.stop g (start_group w g) c)) (sym t.stop) (by c.stop)
      where
        few : too_few w (start_group w g) ≡ ltb (length (start_group w g)) c.world.settings.min_compaction_files
        few = ap (λ (v : Settings). ltb (length (start_group w g)) v.min_compaction_files) (sym u.settings)

        go : (b : Bool) → CameTrue w (pick b f (foretold w g (start_group w g) f)) (pick b c (rewrite_group g (start_group w g) c.moved c.world))
        go true = t
        go false = true-group

        by : (o : Stop) → CameTrue w (foretelling o w g f) (onward o g (start_group w g) c)
        by (stopped r h) = t
        by going =
            subst (λ (ks : List ℕ). CameTrue w (pick (too_few w ks) f (foretold w g ks f)) (onward going g (start_group w g) c)) (sym (mark-above history w s g (count_of w)))
            (subst (λ (b : Bool). CameTrue w (pick b f (foretold w g (start_group w g) f)) (onward going g (start_group w g) c)) (sym few)
            (go (ltb (length (start_group w g)) c.world.settings.min_compaction_files)))

  -- ---- turn by turn
  -- where the plan stands as the turn of generation g comes
  abbrev foreseen : ℕ → Forecast
  foreseen g = foretold_from (before g) w nothing_foretold

  -- LAW: as each turn comes, and at the end, the forecast so far came true
  turns : All (λ (g : ℕ). Underway history w (turn w g) × CameTrue w (foreseen g) (turn w g)) generations × CameTrue w (forecast_of w) (course_of w)
  unfolding course_of groups_from keep foretold_from forecast_of
  turns = (((u1, t1), ((u2, t2), ((u3, t3), tt))), true-turn 3 (omega arith) (turn w 3) u3 x.1.1.0 (foreseen 3) t3)
    where
      x : All (λ (g : ℕ). Exactly w (start_group w g) (found (turn w g).world (start_group w g))) generations
      x = (sound-moves history w s).groups

      u1 : Underway history w (turn w 1)
      u1 = underway-first history w s

      u2 : Underway history w (turn w 2)
      u2 = onward-well history w s (turn w 1).stop 1 (omega arith) (turn w 1) refl u1

      u3 : Underway history w (turn w 3)
      u3 = onward-well history w s (turn w 2).stop 2 (omega arith) (turn w 2) refl u2

      t1 : CameTrue w (foreseen 1) (turn w 1)
      t1 = record { stop = refl; files = omega arith; bytes = omega arith; position = omega arith; slots = refl }

      t2 : CameTrue w (foreseen 2) (turn w 2)
      t2 = true-turn 1 (omega arith) (turn w 1) u1 x.0 (foreseen 1) t1

      t3 : CameTrue w (foreseen 3) (turn w 3)
      t3 = true-turn 2 (omega arith) (turn w 2) u2 x.1.0 (foreseen 2) t2

  -- ---- the job
  module _ (room : ℕ) (enough : capacity_of w.table ≤ room) where
    -- its rewrite of g is the call's turn
    abbrev Step : ℕ → Type 0
    Step g = job_step (turn w g).stop room g (mark_of w) (count_of w) (turn w g) ≡ onward (turn w g).stop g (start_group w g) (turn w g)

    steps : (g : ℕ) → Among generations g → Step g
    unfolding keep job_from groups_from job_of course_of
    steps g (inl e) = subst Step e (job-turn history w s room enough 2 (inr (inl refl)))
    steps g (inr (inl e)) = subst Step e (sym (ap (λ (c : Course). job_step c.stop room 2 (mark_of w) (count_of w) c) (job-turn history w s room enough 2 (inr (inl refl)))) ∙ job-turn history w s room enough 3 (inr (inr (inl refl))))
    steps g (inr (inr (inl e))) = subst Step e (sym (ap (λ (c : Course). job_step c.stop room 3 (mark_of w) (count_of w) c) (job-turn history w s room enough 3 (inr (inr (inl refl))))) ∙ job-course history w s room enough)
    steps g (inr (inr (inr x3))) = elim x3 [ ]

    -- the generations behind one
    abbrev behind : ℕ → List ℕ
    behind g = keep (λ (h : ℕ). ltb g h) generations

    -- the whole forecast goes on from where the plan stands as a generation's turn comes
    goes_on : (g : ℕ) → Among generations g → forecast_of w ≡ foretold_from (g ∷ behind g) w (foreseen g)
    unfolding keep foretold_from forecast_of
    goes_on g (inl e) = subst (λ (h : ℕ). forecast_of w ≡ foretold_from (h ∷ behind h) w (foreseen h)) e refl
    goes_on g (inr (inl e)) = subst (λ (h : ℕ). forecast_of w ≡ foretold_from (h ∷ behind h) w (foreseen h)) e refl
    goes_on g (inr (inr (inl e))) = subst (λ (h : ℕ). forecast_of w ≡ foretold_from (h ∷ behind h) w (foreseen h)) e refl
    goes_on g (inr (inr (inr x3))) = elim x3 [ ]

    -- LAW: a rewrite alone, in its turn
    alone-so : (g : ℕ) → Among generations g → NoneBefore g (forecast_of w).stop → AnswersSo (forecast_of w).stop g (rewrite_call (turn w g).world room g (mark_of w) (count_of w)).answer
    unfolding foretold_from
    alone-so g a none = by (stops-among (before g) w nothing_foretold refl)
      where
        c : Course
        c = rewrite_of (turn w g).world room g (mark_of w) (count_of w)

        answer : Given
        answer = (rewrite_call (turn w g).world room g (mark_of w) (count_of w)).answer

        t : Underway history w (turn w g) × CameTrue w (foreseen g) (turn w g)
        t = among-get (λ (h : ℕ). Underway history w (turn w h) × CameTrue w (foreseen h) (turn w h)) generations turns.0 g a

        -- the rewrite stops as the plan does
        same_stop : (foreseen g).stop ≡ going → c.stop ≡ (foretelling going w g (foreseen g)).stop
        same_stop e =
            let z = (true-turn g (among-get (λ (h : ℕ). h ≤ 255) generations (omega arith, (omega arith, (omega arith, tt))) g a) (turn w g) t.0
            (among-get (λ (h : ℕ). Exactly w (start_group w h) (found (turn w h).world (start_group w h))) generations (sound-moves history w s).groups g a) (foreseen g) t.1).stop in
            ap (λ (o : Stop). (job_step o room g (mark_of w) (count_of w) (turn w g)).stop) (sym e ∙ t.1.stop) ∙ ap (λ (d : Course). d.stop) (steps g a)
            ∙ sym z ∙ ap (λ (o : Stop). (foretelling o w g (foreseen g)).stop) e

        ends_with : (o : Stop) → (foretold_from (g ∷ behind g) w (foreseen g)).stop ≡ o → (forecast_of w).stop ≡ o
        ends_with o e = ap (λ (f : Forecast). f.stop) (goes_on g a) ∙ e

        by : ((foreseen g).stop ≡ going) ⊎ ((r : Refusal) × (h : ℕ) × Among (before g) h × ((foreseen g).stop ≡ stopped r h)) → AnswersSo (forecast_of w).stop g answer
        by (inr (r, h, m, q)) =
            let z = ends_with (stopped r h) (ap (λ (f : Forecast). f.stop) (stays-stopped (g ∷ behind g) w (foreseen g) r h q) ∙ q) in
            let n : g ≤ h = subst (NoneBefore g) z none in
            let l = ltb-true h g (among-get (λ (k : ℕ). ltb k g ≡ true) (before g) (all_pass (λ (k : ℕ). ltb k g) generations) h m) in
            absurd (omega arith)
        by (inl q) = turned (goes-or-stops w g (foreseen g) q)
          where
            onto : foretold_from (g ∷ behind g) w (foreseen g) ≡ foretold_from (behind g) w (foretelling going w g (foreseen g))
            onto = ap (λ (o : Stop). foretold_from (behind g) w (foretelling o w g (foreseen g))) q

            went : (foretelling going w g (foreseen g)).stop ≡ going
                → ((foretold_from (behind g) w (foretelling going w g (foreseen g))).stop ≡ going)
                ⊎ ((r : Refusal) × (h : ℕ) × Among (behind g) h × ((foretold_from (behind g) w (foretelling going w g (foreseen g))).stop ≡ stopped r h))
                → AnswersSo (forecast_of w).stop g answer
            went z (inl e) =
                subst (λ (o : Stop). AnswersSo o g answer) (sym (ends_with going (ap (λ (f : Forecast). f.stop) onto ∙ e)))
                (c.moved, ap (λ (o : Stop). (rewrite_answered o c.moved c.world).answer) (same_stop q ∙ z))
            went z (inr (r, h, m, e)) =
                subst (λ (o : Stop). AnswersSo o g answer) (sym (ends_with (stopped r h) (ap (λ (f : Forecast). f.stop) onto ∙ e)))
                (inr (ltb-true g h (among-get (λ (k : ℕ). ltb g k ≡ true) (behind g) (all_pass (λ (k : ℕ). ltb g k) generations) h m), c.moved, ap (λ (o : Stop). (rewrite_answered o c.moved c.world).answer) (same_stop q ∙ z)))

            turned : ((foretelling going w g (foreseen g)).stop ≡ going) ⊎ ((r : Refusal) × ((foretelling going w g (foreseen g)).stop ≡ stopped r g)) → AnswersSo (forecast_of w).stop g answer
            turned (inl z) = went z (stops-among (behind g) w (foretelling going w g (foreseen g)) z)
            turned (inr (r, z)) =
                subst (λ (o : Stop). AnswersSo o g answer) (sym (ends_with (stopped r g)
                (ap (λ (f : Forecast). f.stop) (onto ∙ stays-stopped (behind g) w (foretelling going w g (foreseen g)) r g z) ∙ z)))
                (inl (refl, ap (λ (o : Stop). (rewrite_answered o c.moved c.world).answer) (same_stop q ∙ z)))

    -- C: on a store of the invariant the plan foretells the job
    pub plan-foretells : Foretells w room
    unfolding planned_slots plan_call maintain_call decide
    plan-foretells = record {
      plan = rw (sound-fine w (engine history) s, le-ltb room (capacity_of w.table) enough) refl;
      stop = t.stop ∙ sym (ap (λ (d : Course). d.stop) (job-course history w s room enough));
      answer =
          subst (λ (a : After). EndsSo (forecast_of w).stop a.answer) (sym (job-as-before history w s room enough))
          (subst (λ (o : Stop). EndsSo o (maintain_call w).answer) (sym t.stop) (subst (λ (a : After). EndsSo (course_of w).stop a.answer) (sym call) (ended_so (course_of w).stop)));
      files = ap (λ (d : Course). (counts_of (records_of d.world)).files) (job-course history w s room enough) ∙ t.files;
      bytes = ap (λ (d : Course). (counts_of (records_of d.world)).bytes) (job-course history w s room enough) ∙ t.bytes;
      position = ap (λ (d : Course). d.world.state.next_position) (job-course history w s room enough) ∙ t.position;
      groups = λ g a. ap (λ (d : Course). group d.world g (mark_of w) (count_of w)) (job-turn history w s room enough g a) ∙ same g a;
      slots = λ g a.
          let u = (among-get (λ (h : ℕ). Underway history w (turn w h) × CameTrue w (foreseen h) (turn w h)) generations turns.0 g a).0 in
          ap (λ (d : Course). slots_taken d.world g (mark_of w) (count_of w)) (job-turn history w s room enough g a)
          ∙ ap (λ (ks : List ℕ). pick (too_few (turn w g).world ks) [] ks) (same g a)
          ∙ ap (λ (c : Settings). pick (ltb (length (group w g (mark_of w) (count_of w))) c.min_compaction_files) [] (group w g (mark_of w) (count_of w))) u.settings;
      rewrites = λ g a none.
          subst (λ (d : Course). AnswersSo (forecast_of w).stop g (rewrite_call d.world room g (mark_of w) (count_of w)).answer) (sym (job-turn history w s room enough g a)) (alone-so g a none);
    }
      where
        t : CameTrue w (forecast_of w) (course_of w)
        t = turns.1

        call : maintain_call w ≡ ended (course_of w).stop (course_of w)
        call = rw (sound-fine w (engine history) s) refl

        ended_so : (o : Stop) → EndsSo o (ended o (course_of w)).answer
        ended_so going = ((course_of w).moved, refl)
        ended_so (stopped r g) = ((course_of w).moved, refl)

        same : (g : ℕ) → Among generations g → group (turn w g).world g (mark_of w) (count_of w) ≡ group w g (mark_of w) (count_of w)
        same g a = turn-group history w s g a ∙ sym (mark-above history w s g (count_of w))

-- DEMAND 3: on any store that calls left, whatever calls these were
pub lived-plan-foretells : (l : Life) → Starts l → (calls : List Call) → (room : ℕ) → capacity_of (lived l calls).world.table ≤ room → Foretells (lived l calls).world room
lived-plan-foretells l s calls = plan-foretells (lived l calls).history (lived l calls).world (sound-lived l s calls)
