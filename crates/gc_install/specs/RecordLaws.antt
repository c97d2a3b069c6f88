-- The file map as a file is added: live counts alone fall, no record comes or goes but the new one, and the other empty slots stay empty.
use Rattle.std.specs.Prelude.{◌≡◌, refl, ◌⊎◌, ◌≤◌, ◌<◌, ◌∷◌, ◌+◌, ◌-◌}
use Rattle.std.proofs.Common.{sym, ap₂, ◌∙◌, subst, ⊎_elim, le_of_suc-le-suc, not-suc-le-zero, zero-add, arith, get_or-take}
use Rattle.std.proofs.Math.Path.{ap}
use Rattle.std.proofs.Math.Nat.{min-le_left, le-min}
use Rattle.std.proofs.Math.ListN.{length-set, length-take}
use Rattle.std.proofs.Math.Seq.{get_or-set_same, get_or-set_other}
use Rattle.rules.specs.Base.{Bool, true, false, List, [], ℕ, zero, suc, length, set, take, pick}
use Rattle.rules.specs.declared.Label.{Label}
use Rattle.rules.specs.declared.Record.{Record}
use Rattle.rules.specs.declared.Settings.{Settings}
use Rattle.rules.specs.LabelLaws.{InBounds}
use Rattle.rules.proofs.LabelLaws.{lsn-some}
use Rattle.rules.specs.Layout.{Table, capacity_of}
use Rattle.rules.specs.FileMap.{empty_record, is_empty, record_at, with_live, slots_where, empty_slots, lowest_empty}
use Rattle.rules.proofs.FileMapLaws.{empty-is, is-empty, not-empty, empty-or-not, lowest-empty}
use Rattle.rules.specs.Condition1Laws.{GoodRecord}

-- ---- a record that may lose live ones: still a file's, or still empty
module _ (s : Settings) (heap_len : ℕ) (b after : Table) (same : capacity_of after ≡ capacity_of b) (slot : ℕ) (r q : Record)
    (kept : q ≡ with_live r q.live) (less : q.live ≤ r.live) (good : is_empty r ≡ false → GoodRecord s heap_len b slot r) where
  label : q.label ≡ r.label
  label = ap (λ (x : Record). x.label) kept

  -- an empty one
  pub still-empty : is_empty r ≡ true → is_empty q ≡ true
  still-empty e =
      let none = empty-is r e in
      let lost : q.live ≡ 0 = omega (arith, ap (λ (x : Record). x.live) none) in
      ap is_empty (kept ∙ ap₂ with_live none lost) ∙ is-empty

  -- a file's
  pub still-file : is_empty r ≡ false → is_empty q ≡ false
  still-file e =
      let some = lsn-some s.slot_bytes r.label (good e).bounds in
      not-empty q (omega (arith, ap (λ (l : Label). l.lsn) label))

  -- no more and no fewer
  pub still : is_empty q ≡ is_empty r
  still = ⊎_elim (λ e. still-empty e ∙ sym e) (λ e. still-file e ∙ sym e) (empty-or-not r)

  -- it passes refusal 1 again
  pub still-good : is_empty q ≡ false → GoodRecord s heap_len after slot q
  still-good e =
      let g = good (sym still ∙ e) in
      let size = ap (λ (l : Label). l.file_size) label in
      let present = ap (λ (l : Label). l.present_objects) label in
      record {
        place = g.place;
        bounds = subst (InBounds s.slot_bytes) (sym label) g.bounds;
        present = omega (arith, g.present);
        live = omega (arith, g.live);
        mark = omega (arith, ap (λ (x : Record). x.synced) kept, g.mark);
      }

-- ---- the empty slots
-- the same where no record changes from empty to not
same-slots : (i : ℕ) (rs qs : List Record) → length qs ≡ length rs → ((j : ℕ) → j < length rs → is_empty (record_at qs j) ≡ is_empty (record_at rs j))
    → slots_where (λ (i : ℕ) (r : Record). is_empty r) i qs ≡ slots_where (λ (i : ℕ) (r : Record). is_empty r) i rs
unfolding slots_where
same-slots i [] [] n h = refl
same-slots i [] (q ∷ qs) n h = absurd (omega arith)
same-slots i (r ∷ rs) [] n h = absurd (omega arith)
same-slots i (r ∷ rs) (q ∷ qs) n h =
    ap₂ (λ (t : Bool) (ks : List ℕ). pick t (i ∷ ks) ks) (h 0 (omega arith)) (same-slots (suc i) rs qs (omega arith) (λ j l. h (suc j) (omega arith)))

-- all but the first where that one does
first-gone : (i : ℕ) (rs qs : List Record) (k : ℕ) → length qs ≡ length rs → k < length rs → is_empty (record_at rs k) ≡ true → is_empty (record_at qs k) ≡ false
    → ((j : ℕ) → j < length rs → (j ≡ k → ⊥) → is_empty (record_at qs j) ≡ is_empty (record_at rs j)) → ((j : ℕ) → j < k → is_empty (record_at rs j) ≡ false)
    → slots_where (λ (i : ℕ) (r : Record). is_empty r) i rs ≡ (i + k) ∷ slots_where (λ (i : ℕ) (r : Record). is_empty r) i qs
unfolding slots_where
first-gone i [] qs k n l e f h b = absurd (not-suc-le-zero l)
first-gone i (r ∷ rs) [] k n l e f h b = absurd (omega arith)
first-gone i (r ∷ rs) (q ∷ qs) zero n l e f h b =
    let here : i ≡ i + 0 = omega arith in
    rw (e, f) (ap₂ (λ (m : ℕ) (ks : List ℕ). m ∷ ks) here (sym (same-slots (suc i) rs qs (omega arith) (λ j m. h (suc j) (omega arith) (λ z. omega arith)))))
first-gone i (r ∷ rs) (q ∷ qs) (suc k) n l e f h b =
    let there : suc i + k ≡ i + suc k = omega arith in
    rw (h 0 (omega arith) (λ z. omega arith), b 0 (omega arith))
    (first-gone (suc i) rs qs k (omega arith) (le_of_suc-le-suc l) e f (λ j m d. h (suc j) (omega arith) (λ z. d (omega arith))) (λ j m. b (suc j) (omega arith))
    ∙ ap (λ (m : ℕ). m ∷ slots_where (λ (i : ℕ) (r : Record). is_empty r) (suc i) qs) there)

-- the file map after a file was put into the lowest empty slot
module _ (n : ℕ) (rs qs : List Record) (new : Record) (long : length qs ≡ length rs) (some : is_empty new ≡ false)
    (same : (j : ℕ) → is_empty (record_at qs j) ≡ is_empty (record_at rs j)) (free : 0 < length (empty_slots n rs)) where
  -- the empty slots are the one that it took and those that are left
  pub empty-rest : empty_slots n rs ≡ lowest_empty n rs ∷ empty_slots n (set qs (lowest_empty n rs) new)
  unfolding empty_slots
  empty-rest =
      let low = lowest-empty n rs free in
      let k = lowest_empty n rs in
      let after = set qs k new in
      let room : k < length qs = omega (arith, low.room) in
      first-gone 0 (take n rs) (take n after) k
      (rw (length-take n after, length-take n rs, length-set qs k new, long) refl)
      (rw (length-take n rs) (le-min low.place low.room))
      (ap is_empty (get_or-take n rs k empty_record low.place) ∙ low.free)
      (ap is_empty (get_or-take n after k empty_record low.place ∙ get_or-set_same qs k new empty_record room) ∙ some)
      (λ j l d.
      let short : j < n = omega (arith, length-take n rs, min-le_left n (length rs)) in
      ap is_empty (get_or-take n after j empty_record short ∙ get_or-set_other qs k j new empty_record d) ∙ same j ∙ ap is_empty (sym (get_or-take n rs j empty_record short)))
      (λ j l. ap is_empty (get_or-take n rs j empty_record (omega (arith, low.place))) ∙ low.first j l)
      ∙ ap (λ (m : ℕ). m ∷ slots_where (λ (i : ℕ) (r : Record). is_empty r) 0 (take n after)) (zero-add k)
