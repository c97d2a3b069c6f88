-- "Candidates .. are unclaimed files with live not 0, and ..", as facts; which of 4, 5, 7 refuses a group, and what rewriting it leaves.
use Rattle.std.specs.Prelude.{◌≡◌, refl, ◌⊎◌, ◌≤◌, ◌<◌, ◌&&◌, ◌∷◌, ◌+◌, ◌*◌, ◌/◌, ◌^◌, Err, Ok}
use Rattle.std.proofs.Common.{sym, ap, ◌∙◌, true≢false, inl, inr, arith, ne_eqb, ltb-true, ltb-false, lt-ltb, le-ltb, leb-true, le-leb}
use Rattle.std.proofs.lemmas.Bool.{eqb-false, not-true}
use Rattle.disk_location.specs.Locations.{masked_of}
use Rattle.rules.specs.Base.{Bool, true, false, List, [], ℕ, length, leb, ltb, larger, any}
use Rattle.rules.specs.Types.{Record, Settings, Claims, Refusal, SlotRoom, NoEmptySlot, PositionsSpent, Answer}
use Rattle.rules.specs.BaseLaws.{All}
use Rattle.rules.proofs.BaseLaws.{and-true, and-holds, and-false, or-true, or-holds, any-true, any-holds, any_false, any-clear, all_map}
use Rattle.rules.specs.Refusal.{◌gives◌, decide}
use Rattle.rules.proofs.RefusalLaws.{decide-append, after-refused, after-done}
use Rattle.rules.specs.Ops.{Op, file_bytes}
use Rattle.rules.specs.Install.{installed_all, room_tests, empty_of, position_tests}
use Rattle.rules.specs.World.{World}
use Rattle.rules.specs.Maintenance.{worth_it, is_candidate, source_tests, found, files_of, going, stopped, Course, group_tests, rewrite_group}
use Rattle.rules.specs.MaintenanceLaws.{WorthIt, Candidate, TooLong, positions_after, DecidedBy, SourcesPass, limit_tests}

-- worth it: one of the two
pub worth-it : (s : Settings) (files : ℕ) (r : Record) → worth_it s files r ≡ true → WorthIt s files r
unfolding worth_it
worth-it s files r e = go (or-true _ _ e)
  where
    go : (ltb (r.live * 100 / larger r.label.present_objects 1) s.file_compaction_percent ≡ true)
        ⊎ ((leb s.small_file_cleanup_threshold files && ltb (r.label.file_size * s.min_compaction_files) s.target_file_size) ≡ true) → WorthIt s files r
    go (inl h) = inl (ltb-true _ _ h)
    go (inr h) = let w = and-true _ _ h in inr (record { count = leb-true _ _ w.0; size = ltb-true _ _ w.1 })

-- and back
pub is-worth-it : (s : Settings) (files : ℕ) (r : Record) → WorthIt s files r → worth_it s files r ≡ true
unfolding worth_it
is-worth-it s files r (inl h) = rw (lt-ltb (r.live * 100 / larger r.label.present_objects 1) s.file_compaction_percent h)
is-worth-it s files r (inr w) =
    or-holds (ltb (r.live * 100 / larger r.label.present_objects 1) s.file_compaction_percent) _
    (inr (and-holds (leb s.small_file_cleanup_threshold files) _ (le-leb _ _ w.count) (lt-ltb _ _ w.size)))

-- a candidate is all of this
pub candidate : (s : Settings) (claims : Claims) (mark count slot : ℕ) (r : Record) → is_candidate s claims mark count slot r ≡ true
    → Candidate s claims mark count slot r
unfolding is_candidate
candidate s claims mark count slot r e =
    let w5 = and-true _ _ e in
    let w4 = and-true _ _ w5.0 in
    let w3 = and-true _ _ w4.0 in
    let w2 = and-true _ _ w3.0 in
    let some = eqb-false r.live 0 (not-true _ w3.1) in
    record { file = not-true _ w2.0; unclaimed = not-true _ w2.1; live = omega (arith, some); worth = worth-it s count r w4.1; below = ltb-true _ _ w5.1 }

-- and back
pub is-candidate : (s : Settings) (claims : Claims) (mark count slot : ℕ) (r : Record) → Candidate s claims mark count slot r
    → is_candidate s claims mark count slot r ≡ true
unfolding is_candidate
is-candidate s claims mark count slot r w =
    let some = w.live in
    rw (w.file, w.unclaimed, ne_eqb r.live 0 (λ z. omega arith), is-worth-it s count r w.worth, lt-ltb (masked_of r.label.lsn) mark w.below)

limits-decided : (w : World) (files : List (List Op)) → DecidedBy w files (decide (limit_tests w files))
unfolding decide room_tests position_tests
limits-decided w files =
    go (any long files) refl (ltb (empty_of w) (length files)) refl (ltb 0 (length files) && ltb (2 ^ 62) (positions_after w files)) refl
  where
    long : List Op → Bool
    long f = ltb w.settings.slot_bytes (64 + length (file_bytes f))

    fit : any long files ≡ false → All (λ (f : List Op). 64 + length (file_bytes f) ≤ w.settings.slot_bytes) files
    fit e = all_map _ _ files (λ f n. ltb-false w.settings.slot_bytes (64 + length (file_bytes f)) n) (any_false long files e)

    go : (a : Bool) → any long files ≡ a → (b : Bool) → ltb (empty_of w) (length files) ≡ b
        → (c : Bool) → (ltb 0 (length files) && ltb (2 ^ 62) (positions_after w files)) ≡ c
        → DecidedBy w files (decide (a gives SlotRoom ∷ b gives NoEmptySlot ∷ c gives PositionsSpent ∷ []))
    go true p b q c t = inl (refl, any-true long (TooLong w) (λ f n. ltb-true _ _ n) files p)
    go false p true q c t = inr (inl (refl, fit p, ltb-true _ _ q))
    go false p false q true t =
        let z = and-true _ _ t in
        inr (inr (refl, record { fits = fit p; slots = ltb-false _ _ q }, ltb-true _ _ z.0, ltb-true _ _ z.1))
    go false p false q false t = record {
      room = record { fits = fit p; slots = ltb-false _ _ q };
      positions = λ some. last some (and-false _ _ t);
    }
      where
        last : 0 < length files → (ltb 0 (length files) ≡ false) ⊎ (ltb (2 ^ 62) (positions_after w files) ≡ false) → positions_after w files ≤ 2 ^ 62
        last some (inl n) = absurd (true≢false (sym (lt-ltb 0 (length files) some) ∙ n))
        last some (inr n) = ltb-false _ _ n

decided-limits : (w : World) (files : List (List Op)) (a : Answer) → DecidedBy w files a → decide (limit_tests w files) ≡ a
unfolding decide room_tests position_tests
decided-limits w files a d = by a d
  where
    long : List Op → Bool
    long f = ltb w.settings.slot_bytes (64 + length (file_bytes f))

    short : All (λ (f : List Op). 64 + length (file_bytes f) ≤ w.settings.slot_bytes) files → any long files ≡ false
    short h = any-clear long files (all_map _ _ files (λ f n. le-ltb w.settings.slot_bytes (64 + length (file_bytes f)) n) h)

    three : (a b c : Bool) → any long files ≡ a → ltb (empty_of w) (length files) ≡ b → (ltb 0 (length files) && ltb (2 ^ 62) (positions_after w files)) ≡ c
        → decide (limit_tests w files) ≡ decide (a gives SlotRoom ∷ b gives NoEmptySlot ∷ c gives PositionsSpent ∷ [])
    three a b c p q t = rw (p, q, t)

    spare : (0 < length files → positions_after w files ≤ 2 ^ 62) → (ltb 0 (length files) && ltb (2 ^ 62) (positions_after w files)) ≡ false
    spare h = go (ltb 0 (length files)) refl
      where
        go : (b : Bool) → ltb 0 (length files) ≡ b → (b && ltb (2 ^ 62) (positions_after w files)) ≡ false
        go true e = le-ltb (2 ^ 62) (positions_after w files) (h (ltb-true 0 (length files) e))
        go false e = refl

    by : (a : Answer) → DecidedBy w files a → decide (limit_tests w files) ≡ a
    by (Ok _) e = three false false false (short e.room.fits) (le-ltb (empty_of w) (length files) e.room.slots) (spare e.positions)
    by (Err r) (inl (e, h)) = three true _ _ (any-holds long (TooLong w) (λ f n. lt-ltb w.settings.slot_bytes (64 + length (file_bytes f)) n) files h) refl refl ∙ ap Err (sym e)
    by (Err r) (inr (inl (e, h, m))) = three false true _ (short h) (lt-ltb (empty_of w) (length files) m) refl ∙ ap Err (sym e)
    by (Err r) (inr (inr (e, h, some, m))) =
        three false false true (short h.fits) (le-ltb (empty_of w) (length files) h.slots)
        (and-holds _ _ (lt-ltb 0 (length files) some) (lt-ltb (2 ^ 62) (positions_after w files) m)) ∙ ap Err (sym e)

-- at most one of these is said of files
pub decided-one : (w : World) (files : List (List Op)) (a b : Answer) → DecidedBy w files a → DecidedBy w files b → a ≡ b
decided-one w files a b d e = sym (decided-limits w files a d) ∙ decided-limits w files b e

-- LAW: where no file of a group is refused, the sizes of the new files, the empty slots and the base decide it, and nothing else
pub group-decided : (w : World) (slots : List ℕ) (files : List (List Op)) → SourcesPass w slots → DecidedBy w files (decide (group_tests w slots files))
unfolding group_tests
group-decided w slots files pass = rw (decide-append (source_tests w slots) (limit_tests w files) pass) (limits-decided w files)

-- LAW: "a group rewritten": its files are added and its operations counted
pub group-added : (generation : ℕ) (slots : List ℕ) (moved : ℕ) (w : World)
    → decide (group_tests w slots (files_of w.settings.target_file_size (found w slots))) ≡ Ok tt
    → rewrite_group generation slots moved w
    ≡ record { stop = going; moved = moved + length (found w slots); world = installed_all 0 generation w (files_of w.settings.target_file_size (found w slots)) }
unfolding rewrite_group
group-added generation slots moved w e = after-done {A = Course} (decide (group_tests w slots (files_of w.settings.target_file_size (found w slots)))) _ _ e

-- LAW: "or refused and nothing changed"
pub group-kept : (generation : ℕ) (slots : List ℕ) (moved : ℕ) (w : World) (r : Refusal)
    → decide (group_tests w slots (files_of w.settings.target_file_size (found w slots))) ≡ Err r
    → rewrite_group generation slots moved w ≡ record { stop = stopped r generation; moved = moved; world = w }
unfolding rewrite_group
group-kept generation slots moved w r e = after-refused {A = Course} (decide (group_tests w slots (files_of w.settings.target_file_size (found w slots)))) r _ _ e
