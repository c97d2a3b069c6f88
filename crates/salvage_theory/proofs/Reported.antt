-- Request P9: the slots that are reported, one by one: "the first in that order or 14 for the second kind"; "always has room for 256 lines".
use Rattle.std.specs.Prelude.{◌≡◌, refl, ◌<◌, ◌≤◌, ◌∷◌, ◌*◌}
use Rattle.std.proofs.Common.{sym, ap, ◌∙◌, subst, inl, inr, arith, zero-add, get_or-set_same}
use Rattle.numbers.specs.Parts.{front_length}
use Rattle.rules.specs.Base.{Bool, true, false, List, [], map, ℕ, length, set, pick, each}
use Rattle.rules.specs.BaseLaws.{All}
use Rattle.rules.specs.Refusal.{number_of}
use Rattle.rules.specs.Settings.{slots_in}
use Rattle.rules.specs.Condition1.{out_of_range}
use Rattle.rules.proofs.Condition1Laws.{in-limits}
use Rattle.rules.specs.SlotFile.{File, View, empty, damaged, holds, views_in}
use Rattle.rules.specs.Reopen.{not_rising}
use Rattle.rules.specs.Layout.{Table}
use Rattle.theory.specs.Types.{Settings, Refusal, Overlap, NotRising}
use Rattle.theory.specs.Places.{view_at}
use Rattle.faults.specs.Faults.{judged, judged_in}
use Rattle.faults.specs.Judging.{judged-at}
use Rattle.check_theory.specs.Lists.{In, Different}
use Rattle.check_theory.proofs.Lists.{all_in, in-first}
use Rattle.check_theory.proofs.Own.{damaged-inj, empty-not, holds_not, views-early}
use Rattle.losses.specs.Salvage.{loss, first_kind, the_rest, in_order, second_kind, losses_in, report_of, loss_words, Salvaged, salvage_call}
use Rattle.salvage_theory.specs.Types.{Loss}
use Rattle.losses.specs.Lines.{words-length}
use Rattle.losses.specs.Few.{losses-few}
use Rattle.salvage_theory.proofs.KindLaws.{own_first}
use Rattle.salvage_theory.proofs.Next.{next-loss}
use Rattle.salvage_theory.specs.Lost.{Lost}
use Rattle.salvage_theory.proofs.Lost.{all-lost, lost-lt, lost-some}
use Rattle.salvage_theory.proofs.Rest.{judged-length}
use Rattle.salvage_theory.proofs.Cut.{salvage-reports}

-- ---- the number
-- 14 is no slot's own fault
judged-not : (views : List View) (k : ℕ) → ((r : Refusal) → view_at views k ≡ damaged r → number_of r ≤ 13) → view_at (map judged views) k ≡ damaged Overlap → ⊥
judged-not views k early e = go (view_at views k) refl (sym (judged-at views k) ∙ e)
  where
    go : (v : View) → view_at views k ≡ v → judged v ≡ damaged Overlap → ⊥
    go empty is q = empty-not q
    go (damaged r) is q = let n : number_of r ≡ 14 = ap number_of (damaged-inj q) in let m = early r is in omega arith
    go (holds f) is q = by (not_rising f.entries) q
      where
        by : (t : Bool) → pick t (damaged NotRising) (holds f) ≡ damaged Overlap → ⊥
        by true p = let n : ◌≡◌ {A = ℕ} 15 14 = ap number_of (damaged-inj p) in omega arith
        by false p = holds_not p

module _ (s : Settings) (heap : List ℕ) where
  -- LAW: "8, 9, 10, 11, 12, 13 or 15": no slot's own fault is 14
  pub own-not-overlap : (k : ℕ) → view_at (judged_in s heap) k ≡ damaged Overlap → ⊥
  own-not-overlap k e =
      judged-not (views_in (slots_in s (length heap)) s.slot_bytes heap) k
      (λ r q. (views-early (slots_in s (length heap)) s.slot_bytes heap k r q).1) e

  -- request P9: "every slot that fails 8, 9, 10, 11, 12, 13 or 15 by itself", with the first of these, is reported
  pub own-reported : (k : ℕ) (r : Refusal) → view_at (judged_in s heap) k ≡ damaged r → In (report_of s heap) (loss k r)
  unfolding losses_in
  own-reported k r e =
      let vs = judged_in s heap in
      in-first (first_kind 0 vs) (second_kind (in_order (the_rest 0 vs))) (loss k r) (subst (λ (n : ℕ). In (first_kind 0 vs) (loss n r)) (zero-add k) (own_first 0 vs k r e))

  -- request P9: and a number other than 14 is reported of no other slot
  pub reported-own : (x : Loss) → In (report_of s heap) x → (x.refusal ≡ Overlap → ⊥) → view_at (judged_in s heap) x.slot ≡ damaged x.refusal
  reported-own x i n = go (all_in (Lost (judged_in s heap)) (report_of s heap) (all-lost (judged_in s heap)) x i)
    where
      go : Lost (judged_in s heap) x → view_at (judged_in s heap) x.slot ≡ damaged x.refusal
      go (inl e) = e
      go (inr (q, w)) = absurd (n q)

  -- request P9: 14 is reported of sound slots
  pub overlap-sound : (x : Loss) → In (report_of s heap) x → x.refusal ≡ Overlap → (f : File) × (view_at (judged_in s heap) x.slot ≡ holds f)
  overlap-sound x i e = go (all_in (Lost (judged_in s heap)) (report_of s heap) (all-lost (judged_in s heap)) x i)
    where
      go : Lost (judged_in s heap) x → (f : File) × (view_at (judged_in s heap) x.slot ≡ holds f)
      go (inl q) = absurd (own-not-overlap x.slot (q ∙ ap damaged e))
      go (inr (q, w)) = w

-- ---- each slot once
slots-differ : (views : List View) (report : List Loss) → losses_in views ≡ report → Different (map (λ (x : Loss). x.slot) report)
slots-differ views [] e = tt
slots-differ views (x ∷ report) e =
    let next = next-loss views x report e in
    let low = lost-lt views x (subst (All (Lost views)) e (all-lost views)).0 in
    let later = subst (All (Lost (set views x.slot empty))) next (all-lost (set views x.slot empty)) in
    (others report low later, slots-differ (set views x.slot empty) report next)
  where
    others : (ys : List Loss) → x.slot < length views → All (Lost (set views x.slot empty)) ys → All (λ (k : ℕ). x.slot ≡ k → ⊥) (map (λ (y : Loss). y.slot) ys)
    others [] low a = tt
    others (y ∷ ys) low a = (
      λ q. lost-some (set views x.slot empty) y a.0 (ap (view_at (set views x.slot empty)) (sym q) ∙ get_or-set_same views x.slot empty empty low),
      others ys low a.1,
    )

module _ (s : Settings) (heap : List ℕ) where
  -- LAW: each slot is reported at most once
  pub reported-once : Different (map (λ (x : Loss). x.slot) (report_of s heap))
  reported-once = slots-differ (judged_in s heap) (report_of s heap) refl

  -- LAW: of the heap's slots alone
  pub reported-low : (x : Loss) → In (report_of s heap) x → x.slot < slots_in s (length heap)
  reported-low x i =
      let l = lost-lt (judged_in s heap) x (all_in (Lost (judged_in s heap)) (report_of s heap) (all-lost (judged_in s heap)) x i) in
      omega (arith, judged-length s heap)

  -- LAW: at most N lines
  pub report-slots : length (report_of s heap) ≤ slots_in s (length heap)
  report-slots = omega (arith, losses-few (judged_in s heap), judged-length s heap)

  module _ (table : Table) (range : out_of_range s (length heap) table ≡ false) where
    -- request P9: "the report always has room for 256 lines": there are no more
    pub report-room : length (report_of s heap) ≤ 256
    report-room = let n = report-slots in let m = (in-limits s (length heap) table range).heap.most in omega arith

    -- request P9: so every line is written, and the lent words keep their number
    pub report-fits : (words : List ℕ) → 2 * 256 ≤ length words → length (salvage_call s heap table words).report ≡ length words
    report-fits words h =
        let n = report-room in
        ap (λ (c : Salvaged). length c.report) (salvage-reports s heap table words range)
        ∙ front_length words (each loss_words (report_of s heap)) (omega (arith, words-length (report_of s heap)))
