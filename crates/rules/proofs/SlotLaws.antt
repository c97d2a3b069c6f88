-- Slots: their bytes after a write into one of them, and what they show.
use Rattle.std.specs.Prelude.{◌≡◌, refl, ◌⊎◌, ◌≤◌, ◌<◌, ◌∷◌, ◌++◌, ◌+◌, ◌-◌, ◌*◌}
use Rattle.std.proofs.Math.Path.{sym, ap}
use Rattle.std.proofs.Common.{◌∙◌, inl, inr, suc-mul, zero-mul, mul-le-mul_right, not-suc-le-zero, le_of_suc-le-suc, length-set, drop-drop, length-take-le, get_or-set_same, get_or-set_other, ext_get_or}
use native.Mathlib.Omega.{arith}
use Rattle.std.proofs.Math.ListN.{length-drop}
use Rattle.std.proofs.Math.Seq.{take-append-add}
use Rattle.rules.specs.Base.{List, [], ℕ, zero, suc, length, get_or, set, take, drop}
use Rattle.rules.proofs.BaseLaws.{order, same?}
use Rattle.numbers.specs.Parts.{front, put_at, drop-put}
use Rattle.rules.proofs.PartLaws.{put-part-before, put-part-behind, drop-take}
use Rattle.rules.specs.Label.{label_in}
use Rattle.rules.specs.SlotFile.{bytes_of_slot, View, empty, view_in, views_in}

-- a slot of the heap has S bytes
pub slot-length : (size : ℕ) (heap : List ℕ) (k : ℕ) → k * size + size ≤ length heap → length (bytes_of_slot size heap k) ≡ size
unfolding bytes_of_slot
slot-length size heap k fit = length-take-le size (drop (k * size) heap) (omega (arith, length-drop (k * size) heap))

-- slots stand one behind the other
pub slots_apart : (size j k : ℕ) → j < k → j * size + size ≤ k * size
slots_apart size j k h = omega (arith, suc-mul j size, mul-le-mul_right size h)

module _ (size : ℕ) (heap : List ℕ) (k : ℕ) (bs : List ℕ) (within : k * size + size ≤ length heap) (fit : length bs ≤ size) where
  -- bytes put at the start of a slot: the slot has them in front; "bytes of the slot after the file stay"
  pub slot-written : bytes_of_slot size (put_at heap (k * size) bs) k ≡ front bs (bytes_of_slot size heap k)
  unfolding bytes_of_slot front
  slot-written =
      let n = length bs in
      let at = k * size in
      let all : size ≡ n + (size - n) = omega arith in
      let rest : drop (at + n) heap ≡ drop n (drop at heap) = sym (drop-drop n at heap) in
      ap (take size) (drop-put heap at bs (omega arith))
      ∙ ap (λ (m : ℕ). take m (bs ++ drop (at + n) heap)) all
      ∙ take-append-add bs (drop (at + n) heap) (size - n)
      ∙ ap (λ (s : List ℕ). bs ++ take (size - n) s) rest
      ∙ ap (λ (s : List ℕ). bs ++ s) (sym (drop-take n size (drop at heap) fit (omega (arith, length-drop at heap))))

  -- every other slot is as it was
  pub slot-other : (j : ℕ) → (j ≡ k → ⊥) → bytes_of_slot size (put_at heap (k * size) bs) j ≡ bytes_of_slot size heap j
  unfolding bytes_of_slot
  slot-other j apart = go (order j k)
    where
      go : (j < k) ⊎ ((j ≡ k) ⊎ (k < j)) → take size (drop (j * size) (put_at heap (k * size) bs)) ≡ take size (drop (j * size) heap)
      go (inl h) = put-part-before heap (k * size) bs size (j * size) (omega arith) (slots_apart size j k h)
      go (inr (inl e)) = absurd (apart e)
      go (inr (inr h)) = let far = slots_apart size k j h in ap (take size) (put-part-behind heap (k * size) bs (j * size) (omega arith) (omega arith))

-- ---- views
pub views-length : (n size : ℕ) (heap : List ℕ) → length (views_in n size heap) ≡ n
unfolding views_in
views-length zero size heap = refl
views-length (suc n) size heap = ap suc (views-length n size (drop size heap))

-- the view of slot k
pub views-at : (n size : ℕ) (heap : List ℕ) (k : ℕ) → k < n → get_or (views_in n size heap) k empty ≡ view_in (bytes_of_slot size heap k)
unfolding views_in bytes_of_slot
views-at zero size heap k h = absurd (not-suc-le-zero h)
views-at (suc n) size heap zero h = let none : 0 * size ≡ 0 = zero-mul size in rw none
views-at (suc n) size heap (suc k) h =
    let there : size + k * size ≡ suc k * size = omega (arith, suc-mul k size) in
    views-at n size (drop size heap) k (le_of_suc-le-suc h) ∙ ap (λ (s : List ℕ). view_in (take size s)) (drop-drop (k * size) size heap ∙ ap (λ (m : ℕ). drop m heap) there)

-- bytes put at the start of slot k change its view alone
pub views-written : (n size : ℕ) (heap : List ℕ) (k : ℕ) (bs : List ℕ) → k < n → n * size ≤ length heap → length bs ≤ size
    → views_in n size (put_at heap (k * size) bs) ≡ set (views_in n size heap) k (view_in (front bs (bytes_of_slot size heap k)))
views-written n size heap k bs low whole fit =
    ext_get_or empty (views_in n size (put_at heap (k * size) bs)) (set (views_in n size heap) k new)
    (views-length n size (put_at heap (k * size) bs) ∙ sym (length-set (views_in n size heap) k new ∙ views-length n size heap))
    (λ j h. at j (rw views-length at h) (same? j k))
  where
    new : View
    new = view_in (front bs (bytes_of_slot size heap k))

    within : k * size + size ≤ length heap
    within = omega (arith, slots_apart size k n low)

    at : (j : ℕ) → j < n → (j ≡ k) ⊎ (j ≡ k → ⊥) → get_or (views_in n size (put_at heap (k * size) bs)) j empty ≡ get_or (set (views_in n size heap) k new) j empty
    at j h (inl e) =
        rw e (views-at n size (put_at heap (k * size) bs) k low ∙ ap view_in (slot-written size heap k bs within fit)
        ∙ sym (get_or-set_same (views_in n size heap) k new empty (omega (arith, views-length n size heap))))
    at j h (inr apart) =
        views-at n size (put_at heap (k * size) bs) j h ∙ ap view_in (slot-other size heap k bs within fit j apart)
        ∙ sym (views-at n size heap j h) ∙ sym (get_or-set_other (views_in n size heap) k j new empty apart)

-- "First byte 0 means the slot is empty, whatever follows."
pub view-emptied : (slot : List ℕ) → view_in (front (0 ∷ []) slot) ≡ empty
unfolding view_in label_in front
view-emptied slot = refl
