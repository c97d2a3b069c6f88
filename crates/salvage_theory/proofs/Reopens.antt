-- Request P9, "Reopening afterwards is accepted, or is refused with 6. A heap that reopening accepts gets an empty report.": the report is
-- empty exactly of the heaps that reopening accepts or refuses with 6.
use Rattle.std.specs.Prelude.{◌≡◌, refl, ◌⊎◌, ◌≤◌, ◌∷◌, ◌++◌, Err, Ok}
use Rattle.std.proofs.Common.{sym, ◌∙◌, subst, inl, inr, arith}
use Rattle.std.proofs.Math.Path.{ap}
use Rattle.rules.specs.Base.{Bool, true, false, List, [], map, ℕ, suc, length, ltb, pick, any, each}
use Rattle.rules.proofs.BaseLaws.{or-false, or-clear}
use Rattle.rules.specs.Refusal.{Test, ◌gives◌, number_of, decide, after, NoneHolds}
use Rattle.rules.proofs.RefusalLaws.{decide-append}
use Rattle.rules.proofs.Answers.{answer-one}
use Rattle.rules.specs.Condition1.{out_of_range}
use Rattle.rules.specs.Layout.{capacity_of}
use Rattle.rules.specs.Stores.{made}
use Rattle.rules.specs.SlotFile.{View, empty, damaged, holds}
use Rattle.rules.specs.Reopen.{view_tests, files_in, overlapping, not_rising, table_of, reopen_tests, given_up, opened, reopen_call}
use Rattle.rules.specs.World.{World, Given, slots_of, accepted, refused, answer_given, unchanged}
use Rattle.theory.specs.Types.{Refusal, Limits, TableRoom, Overlap, NotRising, Answer}
use Rattle.theory.specs.Places.{view_at}
use Rattle.theory.proofs.Files.{undamaged, no-damage-tests, overlap-apart, no-overlap}
use Rattle.theory.specs.Picture.{views_of}
use Rattle.theory.proofs.Reopened.{passed}
use Rattle.faults.specs.Faults.{judged, judged_in}
use Rattle.check_theory.proofs.Own.{views-early}
use Rattle.losses.specs.Salvage.{report_of, emptying_of, salvage_call}
use Rattle.salvage_theory.specs.Types.{Loss}
use Rattle.salvage_theory.specs.Nothing.{NothingToGiveUp}
use Rattle.salvage_theory.proofs.Nothing.{nothing-peaceful, peaceful-nothing}
use Rattle.salvage_theory.specs.Cut.{gave_up}
use Rattle.salvage_theory.proofs.Cut.{salvage-reports, no_words, salvage-length, nothing_left}
use Rattle.salvage_theory.specs.Reopens.{some_falls, NoneOf8To15, AcceptedOr6, rescued}

-- no slot has a fault of its own: each shows what it shows by itself, and 15 refuses none
own-clear : (views : List View) → ((k : ℕ) (r : Refusal) → view_at (map judged views) k ≡ damaged r → ⊥) → (map judged views ≡ views) × (some_falls views ≡ false)
unfolding files_in each any
own-clear [] h = (refl, refl)
own-clear (empty ∷ vs) h = let w = own-clear vs (λ k. h (suc k)) in (ap (λ (us : List View). empty ∷ us) w.0, w.1)
own-clear (damaged r ∷ vs) h = absurd (h 0 r refl)
own-clear (holds f ∷ vs) h = go (not_rising f.entries) refl (own-clear vs (λ k. h (suc k))) (h 0 NotRising)
  where
    go : (t : Bool) → not_rising f.entries ≡ t → (map judged vs ≡ vs) × (some_falls vs ≡ false) → (pick (not_rising f.entries) (damaged NotRising) (holds f) ≡ damaged NotRising → ⊥)
        → (map judged (holds f ∷ vs) ≡ holds f ∷ vs) × (some_falls (holds f ∷ vs) ≡ false)
    go true e w n = absurd (n (ap (λ (t : Bool). pick t (damaged NotRising) (holds f)) e))
    go false e w n = (
      ap (λ (t : Bool). pick t (damaged NotRising) (holds f) ∷ map judged vs) e ∙ ap (λ (us : List View). holds f ∷ us) w.0,
      or-clear (not_rising f.entries) (some_falls vs) e w.1,
    )

-- and back
clear-own : (views : List View) → ((k : ℕ) (r : Refusal) → view_at views k ≡ damaged r → ⊥) → some_falls views ≡ false → map judged views ≡ views
unfolding files_in each any
clear-own [] h n = refl
clear-own (empty ∷ vs) h n = ap (λ (us : List View). empty ∷ us) (clear-own vs (λ k. h (suc k)) n)
clear-own (damaged r ∷ vs) h n = absurd (h 0 r refl)
clear-own (holds f ∷ vs) h n =
    let w = or-false (not_rising f.entries) (some_falls vs) n in
    ap (λ (t : Bool). pick t (damaged NotRising) (holds f) ∷ map judged vs) w.0 ∙ ap (λ (us : List View). holds f ∷ us) (clear-own vs (λ k. h (suc k)) w.1)

-- LAW: nothing is reported: none of 8 to 15 holds
pub nothing-none : (w : World) → report_of w.settings w.heap ≡ [] → NoneOf8To15 w
nothing-none w e =
    let p = nothing-peaceful (judged_in w.settings w.heap) e in
    let c = own-clear (views_of w) p.whole in
    let q = subst NothingToGiveUp c.0 p in
    record { whole = q.whole; clear = no-overlap (views_of w) q.apart; rising = c.1 }

-- LAW: and only then
pub none-nothing : (w : World) → NoneOf8To15 w → report_of w.settings w.heap ≡ []
none-nothing w n =
    peaceful-nothing (judged_in w.settings w.heap)
    (subst NothingToGiveUp (sym (clear-own (views_of w) n.whole n.rising)) (record { whole = n.whole; apart = overlap-apart (views_of w) n.clear }))

none-opens : (w : World) → out_of_range w.settings (length w.heap) w.table ≡ false → NoneOf8To15 w → AcceptedOr6 w
unfolding reopen_call decide reopen_tests given_up opened
none-opens w range n =
    rw (
      range,
      decide-append (each view_tests (views_of w)) (overlapping (files_in (views_of w)) gives Overlap
          ∷ some_falls (views_of w) gives NotRising
          ∷ ltb (capacity_of w.table) (length (table_of (files_in (views_of w)))) gives TableRoom
          ∷ []) (no-damage-tests (views_of w) n.whole),
      n.clear,
      n.rising,
    ) (go (ltb (capacity_of w.table) (length (table_of (files_in (views_of w))))))
  where
    go : (b : Bool) → ((after (pick b (Err TableRoom) (Ok tt)) (given_up w) (opened w (views_of w))).answer ≡ accepted [])
        ⊎ ((after (pick b (Err TableRoom) (Ok tt)) (given_up w) (opened w (views_of w))).answer ≡ refused TableRoom)
    go true = inr refl
    go false = inl refl

-- 8 to 13 slot by slot decide for 6: none of them holds, and what comes behind decides
six-late : (views : List View) (ts : List Test) → ((k : ℕ) (r : Refusal) → view_at views k ≡ damaged r → 8 ≤ number_of r)
    → decide (each view_tests views ++ ts) ≡ Err TableRoom → NoneHolds (each view_tests views) × (decide ts ≡ Err TableRoom)
unfolding each decide NoneHolds
six-late [] ts h e = (tt, e)
six-late (empty ∷ vs) ts h e = six-late vs ts (λ k. h (suc k)) e
six-late (damaged r ∷ vs) ts h e =
    let l = h 0 r refl in
    let n : number_of r ≡ 6 = ap (λ (a : Answer). (answer_given a).number) e in
    absurd (omega arith)
six-late (holds f ∷ vs) ts h e = six-late vs ts (λ k. h (suc k)) e

-- 14 and 15 do not hold either
six-last : (a b c : Bool) → decide (a gives Overlap ∷ b gives NotRising ∷ c gives TableRoom ∷ []) ≡ Err TableRoom → (a ≡ false) × (b ≡ false)
unfolding decide
six-last true b c e = absurd (let n : ◌≡◌ {A = ℕ} 14 6 = ap (λ (x : Answer). (answer_given x).number) e in omega arith)
six-last false true c e = absurd (let n : ◌≡◌ {A = ℕ} 15 6 = ap (λ (x : Answer). (answer_given x).number) e in omega arith)
six-last false false c e = (refl, refl)

-- what a reopening refused with 6 decided
six-decided : (w : World) → (reopen_call w).answer ≡ refused TableRoom → decide (reopen_tests w (views_of w)) ≡ Err TableRoom
unfolding reopen_call given_up opened decide
six-decided w h = go (out_of_range w.settings (length w.heap) w.table) h
  where
    go : (b : Bool) → (after (decide (b gives Limits ∷ [])) (unchanged w) (after (decide (reopen_tests w (views_of w))) (given_up w) (opened w (views_of w)))).answer ≡ refused TableRoom
        → decide (reopen_tests w (views_of w)) ≡ Err TableRoom
    go true e = absurd (let n : ◌≡◌ {A = ℕ} 1 6 = ap (λ (g : Given). g.number) e in omega arith)
    go false e = by (decide (reopen_tests w (views_of w))) e
      where
        by : (a : Answer) → (after a (given_up w) (opened w (views_of w))).answer ≡ refused TableRoom → a ≡ Err TableRoom
        by (Ok _) q = absurd (let n : ◌≡◌ {A = ℕ} 0 6 = ap (λ (g : Given). g.number) q in omega arith)
        by (Err r) q = answer-one (Err r) (Err TableRoom) q

opens-none : (w : World) → AcceptedOr6 w → NoneOf8To15 w
unfolding reopen_tests
opens-none w (inl h) = let p = passed w h in record { whole = p.whole; clear = p.clear; rising = p.once }
opens-none w (inr h) =
    let l = six-late (views_of w) _ (λ k r e. (views-early (slots_of w) w.settings.slot_bytes w.heap k r e).0) (six-decided w h) in
    let c = six-last (overlapping (files_in (views_of w))) (some_falls (views_of w)) _ l.1 in
    record { whole = undamaged (views_of w) l.0; clear = c.0; rising = c.1 }

-- LAW: an empty report: reopening accepts, or refuses with 6
pub nothing-opens : (w : World) → out_of_range w.settings (length w.heap) w.table ≡ false → report_of w.settings w.heap ≡ [] → AcceptedOr6 w
nothing-opens w range e = none-opens w range (nothing-none w e)

-- LAW: and only then
pub opens-nothing : (w : World) → AcceptedOr6 w → report_of w.settings w.heap ≡ []
opens-nothing w h = none-nothing w (opens-none w h)

module _ (w : World) (words : List ℕ) (range : out_of_range w.settings (length w.heap) w.table ≡ false) where
  -- a reopening of it is not refused with 1
  pub rescued-range : out_of_range w.settings (length (rescued w words).heap) w.table ≡ false
  rescued-range = ap (λ (n : ℕ). out_of_range w.settings n w.table) (salvage-length w.settings w.heap w.table range words) ∙ range

  -- request P9: "Reopening afterwards is accepted, or is refused with 6."
  pub reopens-or-table-room : AcceptedOr6 (rescued w words)
  reopens-or-table-room = nothing-opens (rescued w words) rescued-range (nothing_left w.settings w.heap w.table range words)

  -- request P9: with a table of any size, at the same settings
  pub reopens-with-any-table : (v : World) → v.settings ≡ w.settings → v.heap ≡ (rescued w words).heap
      → out_of_range v.settings (length v.heap) v.table ≡ false → AcceptedOr6 v
  reopens-with-any-table v e h again =
      nothing-opens v again ((λ i. report_of (e i) (h i)) ∙ nothing_left w.settings w.heap w.table range words)

  -- nothing is reported: nothing is written
  nothing_written : report_of w.settings w.heap ≡ []
      → salvage_call w.settings w.heap w.table words ≡ record { answer = accepted (0 ∷ []); report = words; heap = w.heap }
  unfolding emptying_of made
  nothing_written e =
      salvage-reports w.settings w.heap w.table words range
      ∙ ap (λ (xs : List Loss). gave_up xs words (made (emptying_of w.settings xs) w.heap)) e
      ∙ ap (λ (r : List ℕ). record { answer = accepted (0 ∷ []); report = r; heap = w.heap }) (no_words words)

  -- request P9: "A heap that reopening accepts gets an empty report.", and stays as it is
  pub nothing-to-give-up : (reopen_call w).answer ≡ accepted []
      → salvage_call w.settings w.heap w.table words ≡ record { answer = accepted (0 ∷ []); report = words; heap = w.heap }
  nothing-to-give-up h = nothing_written (opens-nothing w (inl h))

  -- request P9: so does one that it refuses with 6
  pub six-gives-nothing-up : (reopen_call w).answer ≡ refused TableRoom
      → salvage_call w.settings w.heap w.table words ≡ record { answer = accepted (0 ∷ []); report = words; heap = w.heap }
  six-gives-nothing-up h = nothing_written (opens-nothing w (inr h))
