-- What a slot that holds a file tells: the file is its label's and trailer's, within 8's to 13's bounds.
use Rattle.std.specs.Prelude.{◌≡◌, refl, ◌∷◌, Err, Ok}
use Rattle.std.proofs.Common.{subst, inl, inr, arith, eqb-true}
use Rattle.std.proofs.lemmas.Bool.{not-false}
use Rattle.rules.specs.Base.{false, not, List, [], ℕ, length, take, eqb, any}
use Rattle.rules.specs.Types.{Entry, Label, LabelAnswer, Vacant, Five, Wrong, Answer, EntryPosition, PresentCount}
use Rattle.rules.specs.Refusal.{◌gives◌, decide, after, NoneHolds}
use Rattle.rules.proofs.RefusalLaws.{clear-when, none_first, none_rest}
use Rattle.rules.specs.BaseLaws.{All}
use Rattle.rules.proofs.BaseLaws.{any_false}
use Rattle.rules.specs.TableLaws.{Has}
use Rattle.rules.specs.Trailer.{trailer_tests, misplaced}
use Rattle.rules.specs.TrailerLaws.{WellPlaced}
use Rattle.rules.proofs.TrailerLaws.{placed}
use Rattle.rules.specs.Label.{label_in}
use Rattle.rules.proofs.LabelLaws.{in_bounds}
use Rattle.rules.specs.SlotFile.{object_part, trailer_part, trailer_entries, File, empty, damaged, holds, slot_tests, view_by, view_in}
use Rattle.rules.specs.SeenLaws.{Seen}

-- 12 does not hold: each entry stands where it may
inside-all : (offset : ℕ) (es : List Entry) → any (misplaced offset) es ≡ false → (x l : ℕ) → Has es x l → WellPlaced offset l
inside-all offset es e = go es (any_false (misplaced offset) es e)
  where
    go : (ds : List Entry) → All (λ (d : Entry). misplaced offset d ≡ false) ds → (x l : ℕ) → Has ds x l → WellPlaced offset l
    go [] a x l h = absurd h
    go (d ∷ ds) a x l (inl (p, q)) = subst (WellPlaced offset) q (placed offset d a.0)
    go (d ∷ ds) a x l (inr h) = go ds a.1 x l h

seen_by : (slot : List ℕ) (r : Label) → label_in (take 64 slot) ≡ Five r → decide (slot_tests r slot) ≡ Ok tt
    → Seen slot (record { label = r; entries = trailer_entries r slot; objects = object_part r slot })
unfolding slot_tests NoneHolds
seen_by slot r is clear =
    let n = clear-when (slot_tests r slot) clear in
    let rest =
    any (misplaced r.trailer_offset) (trailer_entries r slot) gives EntryPosition
    ∷ not (eqb r.present_objects (length (trailer_entries r slot))) gives PresentCount
    ∷ [] in
    let m = none_rest (trailer_tests (trailer_part r slot)) rest n.1 in
    record {
      label = is;
      entries = refl;
      objects = refl;
      bounds = in_bounds (length slot) r n.0;
      trailer = none_first (trailer_tests (trailer_part r slot)) rest n.1;
      inside = inside-all r.trailer_offset (trailer_entries r slot) m.0;
      present = eqb-true _ _ (not-false _ m.1.0);
    }

-- a slot that shows a file has it
pub seen : (slot : List ℕ) (f : File) → view_in slot ≡ holds f → Seen slot f
unfolding view_in
seen slot f e = go (label_in (take 64 slot)) refl e
  where
    empty-not : empty ≡ holds f → ⊥
    empty-not p = let z : ◌≡◌ {A = ℕ} 0 1 = cc in omega arith

    by : (r : Label) → label_in (take 64 slot) ≡ Five r → (a : Answer) → decide (slot_tests r slot) ≡ a
        → after a damaged (holds (record { label = r; entries = trailer_entries r slot; objects = object_part r slot })) ≡ holds f → Seen slot f
    by r is (Err q) d p = absurd (let z : ◌≡◌ {A = ℕ} 0 1 = cc in omega arith)
    by r is (Ok _) d p =
        let same : record { label = r; entries = trailer_entries r slot; objects = object_part r slot } ≡ f = cc in
        rw same at (seen_by slot r is d)

    go : (l : LabelAnswer) → label_in (take 64 slot) ≡ l → view_by l slot ≡ holds f → Seen slot f
    go Vacant is p = absurd (empty-not p)
    go Wrong is p = absurd (let z : ◌≡◌ {A = ℕ} 0 1 = cc in omega arith)
    go (Five r) is p = by r is (decide (slot_tests r slot)) refl p
