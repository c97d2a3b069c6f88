-- Request P5: a slot's own fault (8 to 13, then 15, slot by slot) beside reopening's order (8 to 13 over the slots, then 14, 15 and 6 over all).
use Rattle.std.proofs.Math.Path.{◌≡◌, ap}
use Rattle.std.specs.Prelude.{refl, ◌⊎◌, ◌<◌, ◌∷◌, ◌++◌, Err, Ok}
use Rattle.std.proofs.Common.{sym, ◌∙◌, subst, true≢false, inl, inr, arith}
use Rattle.rules.specs.Base.{Bool, true, false, List, [], map, ℕ, zero, suc, length, take, drop, ltb, pick, any, each}
use Rattle.rules.proofs.BaseLaws.{or-true, or-holds}
use Rattle.rules.specs.Refusal.{Test, ◌gives◌, number_of, decide, after}
use Rattle.rules.proofs.RefusalLaws.{clear-when, decide-clear, decide-early, decide-late, decide-first, decide-next, done-or-refused}
use Rattle.rules.proofs.Answers.{answer-one}
use Rattle.rules.specs.Label.{label_in}
use Rattle.rules.specs.Trailer.{trailer_tests}
use Rattle.rules.specs.SlotFile.{File, View, empty, damaged, holds, slot_tests, trailer_entries, object_part, view_by, view_in, views_in}
use Rattle.rules.specs.Condition1.{out_of_range}
use Rattle.rules.specs.Layout.{capacity_of}
use Rattle.rules.specs.Reopen.{view_tests, files_in, overlapping, not_rising, table_of, reopen_tests, given_up, opened, reopen_call}
use Rattle.rules.specs.World.{World, slots_of, refused, answer_given}
use Rattle.theory.specs.Types.{Refusal, TableRoom, Overlap, NotRising, Answer, LabelAnswer, Vacant, Five, Wrong}
use Rattle.theory.specs.Places.{view_at}
use Rattle.theory.proofs.Places.{holds-inj, not-empty, not-damaged}
use Rattle.theory.proofs.Files.{undamaged, no-damage-tests, overlap-apart, no-overlap}
use Rattle.theory.specs.Picture.{views_of}
use Rattle.faults.specs.Faults.{judged}
use Rattle.faults.specs.Judging.{judged-at}
use Rattle.check_theory.specs.Own.{OwnFault, EightToThirteen, AllGive, Lowest, over_all, LowestOwn, FifteenOwn}

given-such : (P : Refusal → Type 0) (ts : List Test) (r : Refusal) → AllGive P ts → decide ts ≡ Err r → P r
unfolding decide
given-such P [] r a e = absurd (let z : ◌≡◌ {A = ℕ} 0 1 = cc in omega arith)
given-such P (true gives q ∷ ts) r a e = let same : q ≡ r = cc in subst P same a.0
given-such P (false gives q ∷ ts) r a e = given-such P ts r a.1 e

-- a view's damage is one number
pub damaged-inj : {q r : Refusal} → damaged q ≡ damaged r → q ≡ r
damaged-inj h = cc

-- an empty slot shows no damage
pub empty-not : {r : Refusal} → empty ≡ damaged r → ⊥
empty-not h = let z : ◌≡◌ {A = ℕ} 0 1 = cc in omega arith

-- nor does one with a file
pub holds_not : {f : File} {r : Refusal} → holds f ≡ damaged r → ⊥
holds_not h = let z : ◌≡◌ {A = ℕ} 0 1 = cc in omega arith

view-early : (slot : List ℕ) (r : Refusal) → view_in slot ≡ damaged r → EightToThirteen r
unfolding view_in slot_tests trailer_tests
view-early slot r e = go (label_in (take 64 slot)) e
  where
    go : (l : LabelAnswer) → view_by l slot ≡ damaged r → EightToThirteen r
    go Vacant p = absurd (empty-not p)
    go Wrong p = subst EightToThirteen (damaged-inj p) (omega arith, omega arith)
    go (Five l) p = by (decide (slot_tests l slot)) refl p
      where
        by : (a : Answer) → decide (slot_tests l slot) ≡ a → after a damaged (holds (record { label = l; entries = trailer_entries l slot; objects = object_part l slot })) ≡ damaged r → EightToThirteen r
        by (Ok _) c q = absurd (holds_not q)
        by (Err n) c q =
            subst EightToThirteen (damaged-inj q)
            (given-such EightToThirteen (slot_tests l slot) n
            ((omega arith, omega arith), ((omega arith, omega arith), ((omega arith, omega arith), ((omega arith, omega arith), ((omega arith, omega arith), ((omega arith, omega arith), tt)))))) c)

-- LAW: what a slot's view shows of damage is one of 8 to 13
pub views-early : (n size : ℕ) (heap : List ℕ) (k : ℕ) (r : Refusal) → view_at (views_in n size heap) k ≡ damaged r → EightToThirteen r
unfolding views_in
views-early zero size heap k r e = absurd (empty-not e)
views-early (suc n) size heap zero r e = view-early (take size heap) r e
views-early (suc n) size heap (suc k) r e = views-early n size (drop size heap) k r e

-- ---- a slot by itself
-- damage is its own fault
shown-own : (views : List View) (k : ℕ) (r : Refusal) → view_at views k ≡ damaged r → view_at (map judged views) k ≡ damaged r
shown-own views k r e = judged-at views k ∙ ap judged e

-- a fault of 8 to 13 is damage
own-shown : (views : List View) (k : ℕ) (r : Refusal) → EightToThirteen r → view_at (map judged views) k ≡ damaged r → view_at views k ≡ damaged r
own-shown views k r early e = go (view_at views k) refl (sym (judged-at views k) ∙ e)
  where
    go : (v : View) → view_at views k ≡ v → judged v ≡ damaged r → view_at views k ≡ damaged r
    go empty is q = absurd (empty-not q)
    go (damaged n) is q = is ∙ q
    go (holds f) is q = by (not_rising f.entries) q
      where
        by : (t : Bool) → pick t (damaged NotRising) (holds f) ≡ damaged r → view_at views k ≡ damaged r
        by true p = absurd (let n : 15 ≡ number_of r = ap number_of (damaged-inj p) in let m = early.1 in omega arith)
        by false p = absurd (holds_not p)

-- a fault of 15: the slot holds a file that 15 refuses
own-fifteen : (views : List View) (k : ℕ) → ((r : Refusal) → view_at views k ≡ damaged r → EightToThirteen r) → view_at (map judged views) k ≡ damaged NotRising
    → (f : File) × (view_at views k ≡ holds f) × (not_rising f.entries ≡ true)
own-fifteen views k early e = go (view_at views k) refl (sym (judged-at views k) ∙ e)
  where
    go : (v : View) → view_at views k ≡ v → judged v ≡ damaged NotRising → (f : File) × (view_at views k ≡ holds f) × (not_rising f.entries ≡ true)
    go empty is q = absurd (empty-not q)
    go (damaged n) is q = absurd (let m = (early NotRising (is ∙ q)).1 in omega arith)
    go (holds f) is q = by (not_rising f.entries) refl q
      where
        by : (t : Bool) → not_rising f.entries ≡ t → pick t (damaged NotRising) (holds f) ≡ damaged NotRising → (f : File) × (view_at views k ≡ holds f) × (not_rising f.entries ≡ true)
        by true c p = (f, is, c)
        by false c p = absurd (holds_not p)

fifteen-own : (views : List View) (k : ℕ) (f : File) → view_at views k ≡ holds f → not_rising f.entries ≡ true → view_at (map judged views) k ≡ damaged NotRising
fifteen-own views k f e h = judged-at views k ∙ ap judged e ∙ ap (λ (t : Bool). pick t (damaged NotRising) (holds f)) h

-- one slot more in front
lower-on : (v : View) (vs : List View) (r : Refusal) → ((q : Refusal) → v ≡ damaged q → ⊥) → Lowest vs r → Lowest (v ∷ vs) r
lower-on v vs r n l = record { slot = suc l.slot; shows = l.shows; first = first }
  where
    first : (j : ℕ) (q : Refusal) → j < suc l.slot → view_at (v ∷ vs) j ≡ damaged q → ⊥
    first zero q h e = n q e
    first (suc j) q h e = l.first j q (omega arith) e

decided-lowest : (views : List View) (r : Refusal) → decide (each view_tests views) ≡ Err r → Lowest views r
unfolding each decide
decided-lowest [] r e = absurd (let z : ◌≡◌ {A = ℕ} 0 1 = cc in omega arith)
decided-lowest (empty ∷ vs) r e = lower-on empty vs r (λ q. empty-not) (decided-lowest vs r e)
decided-lowest (damaged n ∷ vs) r e = let same : n ≡ r = cc in record { slot = 0; shows = ap damaged same; first = λ j q h s. omega arith }
decided-lowest (holds f ∷ vs) r e = lower-on (holds f) vs r (λ q. holds_not) (decided-lowest vs r e)

lowest-decides : (views : List View) (r : Refusal) → Lowest views r → decide (each view_tests views) ≡ Err r
unfolding each decide
lowest-decides [] r l = absurd (empty-not l.shows)
lowest-decides (v ∷ vs) r l = go v l.slot l.shows l.first (lowest-decides vs r)
  where
    go : (v : View) (k : ℕ) → view_at (v ∷ vs) k ≡ damaged r → ((j : ℕ) (q : Refusal) → j < k → view_at (v ∷ vs) j ≡ damaged q → ⊥)
        → (Lowest vs r → decide (each view_tests vs) ≡ Err r) → decide (each view_tests (v ∷ vs)) ≡ Err r
    go empty zero s n ih = absurd (empty-not s)
    go empty (suc k) s n ih = ih (record { slot = k; shows = s; first = λ j q h e. n (suc j) q (omega arith) e })
    go (damaged q) zero s n ih = ap Err (damaged-inj s)
    go (damaged q) (suc k) s n ih = absurd (n 0 q (omega arith) refl)
    go (holds f) zero s n ih = absurd (holds_not s)
    go (holds f) (suc k) s n ih = ih (record { slot = k; shows = s; first = λ j q h e. n (suc j) q (omega arith) e })

-- ---- a file over all slots
-- some file passes: in which slot
pub any_found : (p : File → Bool) (vs : List View) → any p (files_in vs) ≡ true → (k : ℕ) × ((f : File) × (view_at vs k ≡ holds f) × (p f ≡ true))
unfolding files_in each any
any_found p [] h = absurd (true≢false (sym h))
any_found p (empty ∷ vs) h = let w = any_found p vs h in (suc w.0, w.1)
any_found p (damaged r ∷ vs) h = let w = any_found p vs h in (suc w.0, w.1)
any_found p (holds g ∷ vs) h = go (or-true (p g) (any p (files_in vs)) h) (any_found p vs)
  where
    go : (p g ≡ true) ⊎ (any p (files_in vs) ≡ true) → (any p (files_in vs) ≡ true → (k : ℕ) × ((f : File) × (view_at vs k ≡ holds f) × (p f ≡ true)))
        → (k : ℕ) × ((f : File) × (view_at (holds g ∷ vs) k ≡ holds f) × (p f ≡ true))
    go (inl a) ih = (0, (g, refl, a))
    go (inr a) ih = let w = ih a in (suc w.0, w.1)

-- and back
pub found-any : (p : File → Bool) (vs : List View) (k : ℕ) (f : File) → view_at vs k ≡ holds f → p f ≡ true → any p (files_in vs) ≡ true
unfolding files_in each any
found-any p [] k f e h = absurd (not-empty e)
found-any p (empty ∷ vs) zero f e h = absurd (not-empty e)
found-any p (empty ∷ vs) (suc k) f e h = found-any p vs k f e h
found-any p (damaged r ∷ vs) zero f e h = absurd (not-damaged e)
found-any p (damaged r ∷ vs) (suc k) f e h = found-any p vs k f e h
found-any p (holds g ∷ vs) zero f e h = or-holds (p g) (any p (files_in vs)) (inl (ap p (holds-inj e) ∙ h))
found-any p (holds g ∷ vs) (suc k) f e h = or-holds (p g) (any p (files_in vs)) (inr (found-any p vs k f e h))

-- a reopening in range answers what its tests decide
reopen-decides : (w : World) → out_of_range w.settings (length w.heap) w.table ≡ false → (reopen_call w).answer ≡ answer_given (decide (each view_tests (views_of w) ++ over_all w))
unfolding reopen_call decide reopen_tests given_up opened
reopen-decides w range = rw range (go (decide (each view_tests (views_of w) ++ over_all w)))
  where
    go : (a : Answer) → (after a (given_up w) (opened w (views_of w))).answer ≡ answer_given a
    go (Ok _) = refl
    go (Err r) = refl

module _ (w : World) (range : out_of_range w.settings (length w.heap) w.table ≡ false) where
  early : (k : ℕ) (r : Refusal) → view_at (views_of w) k ≡ damaged r → EightToThirteen r
  early k r e = views-early (slots_of w) w.settings.slot_bytes w.heap k r e

  decided : (r : Refusal) → (reopen_call w).answer ≡ refused r → decide (each view_tests (views_of w) ++ over_all w) ≡ Err r
  decided r e = answer-one (decide (each view_tests (views_of w) ++ over_all w)) (Err r) (sym (reopen-decides w range) ∙ e)

  -- request P5: reopening is refused with a number of 8 to 13 only as the lowest slot's own fault among these
  pub reopen-own : (r : Refusal) → (reopen_call w).answer ≡ refused r → EightToThirteen r → LowestOwn w r
  reopen-own r e in-range = go (done-or-refused (decide (each view_tests (views_of w))))
    where
      go : (decide (each view_tests (views_of w)) ≡ Ok tt) ⊎ ((q : Refusal) × (decide (each view_tests (views_of w)) ≡ Err q)) → LowestOwn w r
      go (inl c) =
          absurd (given-such (λ (q : Refusal). EightToThirteen q → ⊥) (over_all w) r ((λ p. omega arith), ((λ p. omega arith), ((λ p. omega arith), tt)))
          (sym (decide-late (each view_tests (views_of w)) (over_all w) c) ∙ decided r e) in-range)
      go (inr (q, c)) =
          let same : Err q ≡ Err r = sym (decide-early (each view_tests (views_of w)) (over_all w) q c) ∙ decided r e in
          let l = decided-lowest (views_of w) r (c ∙ same) in
          record {
            slot = l.slot;
            own = shown-own (views_of w) l.slot r l.shows;
            early = in-range;
            lowest = λ j p h o m. l.first j p h (own-shown (views_of w) j p m o);
          }

  -- request P5: and it is refused with that
  pub own-reopen : (r : Refusal) → LowestOwn w r → (reopen_call w).answer ≡ refused r
  own-reopen r l =
      let low : Lowest (views_of w) r = record {
        slot = l.slot;
        shows = own-shown (views_of w) l.slot r l.early l.own;
        first = λ j q h e. l.lowest j q h (shown-own (views_of w) j q e) (early j q e);
      } in
      reopen-decides w range ∙ ap answer_given (decide-early (each view_tests (views_of w)) (over_all w) r (lowest-decides (views_of w) r low))

  -- request P5: there is a lowest one where there is any
  pub own-lowest : (k : ℕ) (r : Refusal) → OwnFault w k r → EightToThirteen r → (q : Refusal) × LowestOwn w q
  own-lowest k r own in-range = go (done-or-refused (decide (each view_tests (views_of w))))
    where
      go : (decide (each view_tests (views_of w)) ≡ Ok tt) ⊎ ((q : Refusal) × (decide (each view_tests (views_of w)) ≡ Err q)) → (q : Refusal) × LowestOwn w q
      go (inl c) = absurd (undamaged (views_of w) (clear-when (each view_tests (views_of w)) c) k r (own-shown (views_of w) k r in-range own))
      go (inr (q, c)) =
          let l = decided-lowest (views_of w) q c in (
            q,
            record {
              slot = l.slot;
              own = shown-own (views_of w) l.slot q l.shows;
              early = early l.slot q l.shows;
              lowest = λ j p h o m. l.first j p h (own-shown (views_of w) j p m o);
            },
          )

  -- request P5: it is refused with 15 only if some slot's own fault is 15, none is of 8 to 13, and no two ranges meet
  pub reopen-fifteen : (reopen_call w).answer ≡ refused NotRising → FifteenOwn w
  unfolding decide
  reopen-fifteen e = go (done-or-refused (decide (each view_tests (views_of w))))
    where
      tests : (a b c : Bool) → overlapping (files_in (views_of w)) ≡ a → any (λ (f : File). not_rising f.entries) (files_in (views_of w)) ≡ b
          → decide (each view_tests (views_of w)) ≡ Ok tt → decide (a gives Overlap ∷ b gives NotRising ∷ c gives TableRoom ∷ []) ≡ Err NotRising → FifteenOwn w
      tests true b c p q none z = absurd (let n : ◌≡◌ {A = ℕ} 14 15 = ap (λ (x : Answer). (answer_given x).number) z in omega arith)
      tests false true c p q none z =
          let x = any_found (λ (f : File). not_rising f.entries) (views_of w) q in
          record {
            slot = x.0;
            own = fifteen-own (views_of w) x.0 x.1.0 x.1.1 x.1.2;
            none = λ k r o m. undamaged (views_of w) (clear-when (each view_tests (views_of w)) none) k r (own-shown (views_of w) k r m o);
            apart = overlap-apart (views_of w) p;
          }
      tests false false true p q none z = absurd (let n : ◌≡◌ {A = ℕ} 6 15 = ap (λ (x : Answer). (answer_given x).number) z in omega arith)
      tests false false false p q none z = absurd (let n : ◌≡◌ {A = ℕ} 0 15 = ap (λ (x : Answer). (answer_given x).number) z in omega arith)

      go : (decide (each view_tests (views_of w)) ≡ Ok tt) ⊎ ((q : Refusal) × (decide (each view_tests (views_of w)) ≡ Err q)) → FifteenOwn w
      go (inl c) =
          tests (overlapping (files_in (views_of w))) (any (λ (f : File). not_rising f.entries) (files_in (views_of w))) (ltb (capacity_of w.table) (length (table_of (files_in (views_of w)))))
          refl refl c (sym (decide-late (each view_tests (views_of w)) (over_all w) c) ∙ decided NotRising e)
      go (inr (q, c)) =
          let same : Err q ≡ Err NotRising = sym (decide-early (each view_tests (views_of w)) (over_all w) q c) ∙ decided NotRising e in
          let l = decided-lowest (views_of w) NotRising (c ∙ same) in
          let m = (early l.slot NotRising l.shows).1 in
          absurd (omega arith)

  -- request P5: and then it is
  pub fifteen-reopen : FifteenOwn w → (reopen_call w).answer ≡ refused NotRising
  fifteen-reopen x =
      let f = own-fifteen (views_of w) x.slot (early x.slot) x.own in
      reopen-decides w range
      ∙ ap answer_given
      (decide-late (each view_tests (views_of w)) (over_all w)
      (decide-clear (each view_tests (views_of w)) (no-damage-tests (views_of w) (λ k r e. x.none k r (shown-own (views_of w) k r e) (early k r e))))
      ∙ decide-next (overlapping (files_in (views_of w))) Overlap _ (no-overlap (views_of w) x.apart)
      ∙ decide-first (any (λ (g : File). not_rising g.entries) (files_in (views_of w))) NotRising _
      (found-any (λ (g : File). not_rising g.entries) (views_of w) x.slot f.0 f.1 f.2))
