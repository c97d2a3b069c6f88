-- Request P9, "Only the first label byte of reported slots changes": the heap after stores of 0 there, byte by byte and slot by slot.
use Rattle.std.specs.Prelude.{◌≡◌, ◌⊎◌, ◌<◌, ◌∷◌, ◌*◌}
use Rattle.std.proofs.Math.Path.{refl}
use Rattle.std.proofs.Common.{sym, ap, ◌∙◌, subst, inl, inr}
use native.Mathlib.Omega.{arith}
use Rattle.std.proofs.Math.ListN.{length-set}
use Rattle.std.proofs.Math.Seq.{get_or-set_same, get_or-set_other}
use Rattle.numbers.specs.LittleEndian.{Bytes}
use Rattle.rules.specs.Base.{List, [], map, ℕ, zero, suc, length, get_or, set}
use Rattle.rules.proofs.BaseLaws.{same?}
use Rattle.rules.specs.FileMapLaws.{Among}
use Rattle.rules.specs.Settings.{slots_in}
use Rattle.rules.specs.SettingsLaws.{InRanges, HeapInRange}
use Rattle.rules.proofs.SettingsLaws.{heap-whole}
use Rattle.rules.specs.SlotFile.{View, empty, views_in}
use Rattle.rules.specs.Stores.{made}
use Rattle.rules.proofs.WrittenLaws.{views-emptied}
use Rattle.rules.specs.PruneLaws.{emptying}
use Rattle.theory.specs.Types.{Settings}
use Rattle.faults.specs.Faults.{judged, judged_in}

-- ---- bytes
module _ (size : ℕ) where
  -- LAW: a byte that begins none of these slots stays
  pub other_byte : (ks heap : List ℕ) (i : ℕ) → ((k : ℕ) → Among ks k → i ≡ k * size → ⊥) → get_or (made (emptying size ks) heap) i 0 ≡ get_or heap i 0
  unfolding made
  other_byte [] heap i n = refl
  other_byte (k ∷ ks) heap i n =
      other_byte ks (set heap (k * size) 0) i (λ j a. n j (inr a)) ∙ get_or-set_other heap (k * size) i 0 0 (λ e. n k (inl refl) e)

  -- a byte that is 0 stays so
  zero-stays : (ks heap : List ℕ) (i : ℕ) → get_or heap i 0 ≡ 0 → get_or (made (emptying size ks) heap) i 0 ≡ 0
  unfolding made
  zero-stays [] heap i e = e
  zero-stays (k ∷ ks) heap i e = zero-stays ks (set heap (k * size) 0) i (go (same? i (k * size)))
    where
      past : (bytes : List ℕ) (j : ℕ) → get_or (set bytes j 0) j 0 ≡ 0
      past [] j = refl
      past (b ∷ bytes) zero = refl
      past (b ∷ bytes) (suc j) = past bytes j

      go : (i ≡ k * size) ⊎ (i ≡ k * size → ⊥) → get_or (set heap (k * size) 0) i 0 ≡ 0
      go (inl q) = ap (λ (j : ℕ). get_or (set heap (k * size) 0) j 0) q ∙ past heap (k * size)
      go (inr n) = get_or-set_other heap (k * size) i 0 0 n ∙ e

  -- LAW: the first byte of each of them is 0
  pub first_byte : (ks heap : List ℕ) (k : ℕ) → Among ks k → k * size < length heap → get_or (made (emptying size ks) heap) (k * size) 0 ≡ 0
  unfolding made
  first_byte [] heap k a h = absurd a
  first_byte (j ∷ ks) heap k (inl e) h =
      zero-stays ks (set heap (j * size) 0) (k * size)
      (ap (λ (m : ℕ). get_or (set heap (j * size) 0) (m * size) 0) (sym e) ∙ get_or-set_same heap (j * size) 0 0 (subst (λ (m : ℕ). m * size < length heap) (sym e) h))
  first_byte (j ∷ ks) heap k (inr a) h = first_byte ks (set heap (j * size) 0) k a (omega (arith, length-set heap (j * size) 0))

  -- bytes stay bytes
  pub bytes-stay : (ks heap : List ℕ) → Bytes heap → Bytes (made (emptying size ks) heap)
  unfolding made
  bytes-stay [] heap b = b
  bytes-stay (k ∷ ks) heap b = bytes-stay ks (set heap (k * size) 0) (λ i. one heap (k * size) b i)
    where
      one : (heap : List ℕ) (j : ℕ) → Bytes heap → (i : ℕ) → get_or (set heap j 0) i 0 < 256
      one [] j b i = b i
      one (x ∷ xs) zero b zero = omega arith
      one (x ∷ xs) zero b (suc i) = b (suc i)
      one (x ∷ xs) (suc j) b zero = b 0
      one (x ∷ xs) (suc j) b (suc i) = one xs j (λ n. b (suc n)) i

-- ---- slots
judged-set : (views : List View) (k : ℕ) → map judged (set views k empty) ≡ set (map judged views) k empty
judged-set [] k = refl
judged-set (v ∷ vs) zero = refl
judged-set (v ∷ vs) (suc k) = ap (λ (us : List View). judged v ∷ us) (judged-set vs k)

-- LAW: a first label byte set to 0: the slot is empty, and every other is judged as before
pub judged-emptied : (s : Settings) (heap : List ℕ) (k : ℕ) → InRanges s → HeapInRange s (length heap) → k < slots_in s (length heap)
    → judged_in s (set heap (k * s.slot_bytes) 0) ≡ set (judged_in s heap) k empty
judged-emptied s heap k r h l =
    let p = r.slot-low in
    let n = heap-whole s (length heap) h in
    ap (λ (m : ℕ). map judged (views_in (slots_in s m) s.slot_bytes (set heap (k * s.slot_bytes) 0))) (length-set heap (k * s.slot_bytes) 0)
    ∙ ap (map judged) (views-emptied (slots_in s (length heap)) s.slot_bytes heap k l (omega arith) (omega arith))
    ∙ judged-set (views_in (slots_in s (length heap)) s.slot_bytes heap) k
