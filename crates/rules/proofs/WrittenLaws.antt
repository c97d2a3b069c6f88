-- A file that was written is seen in its slot as it was given, and its objects are read back.
use Rattle.std.specs.Prelude.{◌≡◌, refl, ◌≤◌, ◌<◌, ◌∷◌, ◌++◌, ◌+◌, ◌-◌, ◌*◌, ◌^◌}
use Rattle.std.proofs.Common.{sym, ◌∙◌, inl, inr, take-append-drop, take_at, drop_at}
use Rattle.std.proofs.Math.Path.{ap}
use mathlib.Core.List.{append_assoc}
use native.Mathlib.Omega.{arith}
use Rattle.std.proofs.Math.Nat.{sub-zero}
use borrow.Author.Tests.{le-ltb, eq-eqb}
use Rattle.std.proofs.Math.ListN.{length-append}
use Rattle.std.proofs.Math.Seq.{take-append_seam, drop-append_seam}
use Rattle.std.proofs.lemmas.List.{drop-append-le}
use Rattle.rules.specs.Base.{false, not, List, [], ℕ, length, set, take, drop, any}
use Rattle.rules.specs.Types.{Entry}
use Rattle.numbers.specs.Parts.{front, put_at, front_length}
use Rattle.rules.specs.Refusal.{NoneHolds}
use Rattle.rules.proofs.RefusalLaws.{decide-clear, none-append}
use Rattle.rules.specs.TableLaws.{Has}
use Rattle.rules.specs.Object.{object_bytes, stored_at}
use Rattle.rules.specs.ObjectLaws.{stored_object}
use Rattle.rules.proofs.ObjectLaws.{stored_back, stored-good}
use Rattle.rules.specs.Trailer.{trailer_bytes, trailer_tests, entries_in, misplaced}
use Rattle.rules.specs.TrailerLaws.{WellPlaced}
use Rattle.rules.proofs.TrailerLaws.{trailer-clear, trailer-back, may-stand}
use Rattle.rules.specs.Ops.{put, Op, objects_of, entries_of, file_bytes}
use Rattle.rules.specs.OpsLaws.{Stands}
use Rattle.rules.proofs.OpsLaws.{file-length, entries-of-length, entries-of-fits, entries-of-placed, stands-bytes, stands-inside}
use Rattle.rules.specs.Label.{label_bytes, out_of_bounds}
use Rattle.rules.specs.LabelLaws.{LabelFits}
use Rattle.rules.proofs.LabelLaws.{bounds-in, lsn-some, label-length, label-back}
use Rattle.rules.specs.SlotFile.{bytes_of_slot, empty, holds, slot_tests, view_in, views_in}
use Rattle.rules.proofs.SlotLaws.{slot-length, slots_apart, views-written, view-emptied}
use Rattle.rules.proofs.PartLaws.{put_one}
use Rattle.rules.specs.Stores.{made, file_stores}
use Rattle.rules.proofs.StoreLaws.{file-made}
use Rattle.rules.specs.Install.{new_label}
use Rattle.rules.specs.Read.{object_tests}
use Rattle.rules.specs.WrittenLaws.{Writable, slot_file, file_of_ops}

-- 12 does not hold where each entry stands where it may
none-misplaced : (offset : ℕ) (es : List Entry) → ((x l : ℕ) → Has es x l → WellPlaced offset l) → any (misplaced offset) es ≡ false
unfolding any
none-misplaced offset [] low = refl
none-misplaced offset (e ∷ es) low = rw (may-stand offset e (low e.id e.location (inl (refl, refl)))) (none-misplaced offset es (λ x l h. low x l (inr h)))

module _ (S lsn generation : ℕ) (ops : List Op) (w : Writable S lsn generation ops) where
  -- it fits: "64 + file_size" is not over S
  pub written-fits : length (slot_file lsn generation ops) ≤ S
  unfolding new_label
  written-fits =
      let size = w.bounds.size in
      let many = w.some in
      omega (arith, length-append (label_bytes (new_label lsn generation ops)) (file_bytes ops), label-length (new_label lsn generation ops), file-length ops)

  label-fits : LabelFits (new_label lsn generation ops)
  unfolding new_label
  label-fits =
      let size = w.bounds.size in
      let offset = w.bounds.offset in
      let low = w.bounds.lsn in
      let g = w.bounds.generation in
      let s = w.slot in
      let n = file-length ops in
      record { lsn = omega arith; offset = omega arith; size = omega arith; present = omega arith; generation = omega arith }

  module _ (slot : List ℕ) (l : length slot ≡ S) where
    behind : List ℕ
    behind = drop (length (slot_file lsn generation ops)) slot

    whole : front (slot_file lsn generation ops) slot ≡ label_bytes (new_label lsn generation ops) ++ (file_bytes ops ++ behind)
    unfolding front behind
    whole = append_assoc (label_bytes (new_label lsn generation ops)) (file_bytes ops) _

    label-part : take 64 (front (slot_file lsn generation ops) slot) ≡ label_bytes (new_label lsn generation ops)
    label-part = ap (take 64) whole ∙ take_at (label_bytes (new_label lsn generation ops)) (file_bytes ops ++ behind) 64 (label-length (new_label lsn generation ops))

    -- "a 64-byte label, then the file"
    pub file-part : take (length (file_bytes ops)) (drop 64 (front (slot_file lsn generation ops) slot)) ≡ file_bytes ops
    file-part =
        ap (take (length (file_bytes ops))) (ap (drop 64) whole ∙ drop_at (label_bytes (new_label lsn generation ops)) (file_bytes ops ++ behind) 64 (label-length (new_label lsn generation ops)))
        ∙ take-append_seam (file_bytes ops) behind

    object-part : take (length (objects_of ops)) (take (length (file_bytes ops)) (drop 64 (front (slot_file lsn generation ops) slot))) ≡ objects_of ops
    unfolding file_bytes
    object-part = ap (take (length (objects_of ops))) file-part ∙ take-append_seam (objects_of ops) (trailer_bytes (entries_of 0 ops))

    trailer-part : drop (length (objects_of ops)) (take (length (file_bytes ops)) (drop 64 (front (slot_file lsn generation ops) slot))) ≡ trailer_bytes (entries_of 0 ops)
    unfolding file_bytes
    trailer-part = ap (drop (length (objects_of ops))) file-part ∙ drop-append_seam (objects_of ops) (trailer_bytes (entries_of 0 ops))

    few : length (entries_of 0 ops) < 2 ^ 64
    unfolding new_label
    few = let n : length ops < 2 ^ 64 = label-fits.present in omega (arith, entries-of-length 0 ops)

    entries-part : entries_in (drop (length (objects_of ops)) (take (length (file_bytes ops)) (drop 64 (front (slot_file lsn generation ops) slot)))) ≡ entries_of 0 ops
    unfolding new_label
    entries-part =
        let end = w.bounds.end in
        ap entries_in trailer-part ∙ trailer-back (entries_of 0 ops) few (entries-of-fits 0 ops w.ids (omega arith))

    -- none of 8 to 13 refuses it
    slot-clear : NoneHolds (slot_tests (new_label lsn generation ops) (front (slot_file lsn generation ops) slot))
    unfolding slot_tests NoneHolds new_label out_of_bounds
    slot-clear =
        let n : length (front (slot_file lsn generation ops) slot) ≡ S = front_length slot (slot_file lsn generation ops) (omega (arith, written-fits)) ∙ l in
        let many = w.some in
        let t = drop (length (objects_of ops)) (take (length (file_bytes ops)) (drop 64 (front (slot_file lsn generation ops) slot))) in (
          rw n (bounds-in S (new_label lsn generation ops) w.bounds),
          none-append (trailer_tests t) _ (rw trailer-part (trailer-clear (entries_of 0 ops) (omega (arith, entries-of-length 0 ops)) few)) (
            rw entries-part (none-misplaced (length (objects_of ops)) (entries_of 0 ops) (entries-of-placed ops)),
            (rw (entries-part, eq-eqb (length ops) (length (entries_of 0 ops)) (sym (entries-of-length 0 ops))), tt),
          ),
        )

    -- the slot holds the file that was written
    pub view-written : view_in (front (slot_file lsn generation ops) slot) ≡ holds (file_of_ops lsn generation ops)
    unfolding view_in new_label
    view-written =
        rw (
          label-part,
          label-back (new_label lsn generation ops) (lsn-some S (new_label lsn generation ops) w.bounds) label-fits,
          decide-clear _ slot-clear,
          entries-part,
          object-part,
        )

-- ---- in the heap
-- a file's stores put label and file at the front of its slot
pub slot-made : (size : ℕ) (heap : List ℕ) (k lsn generation : ℕ) (ops : List Op) → k * size + size ≤ length heap → Writable size lsn generation ops
    → made (file_stores (k * size) (label_bytes (new_label lsn generation ops)) (file_bytes ops)) heap ≡ put_at heap (k * size) (slot_file lsn generation ops)
slot-made size heap k lsn generation ops within w =
    let label = label_bytes (new_label lsn generation ops) in
    let fit = written-fits size lsn generation ops w in
    file-made (k * size) label (file_bytes ops) heap (label-length (new_label lsn generation ops)) (omega (arith, length-append label (file_bytes ops), label-length (new_label lsn generation ops)))

-- a file's stores change the view of its slot alone, to the file that was written
pub views-made : (n size : ℕ) (heap : List ℕ) (k lsn generation : ℕ) (ops : List Op) → k < n → n * size ≤ length heap → Writable size lsn generation ops
    → views_in n size (made (file_stores (k * size) (label_bytes (new_label lsn generation ops)) (file_bytes ops)) heap)
    ≡ set (views_in n size heap) k (holds (file_of_ops lsn generation ops))
views-made n size heap k lsn generation ops low whole w =
    let fit = written-fits size lsn generation ops w in
    let within : k * size + size ≤ length heap = omega (arith, slots_apart size k n low) in
    ap (views_in n size) (slot-made size heap k lsn generation ops within w)
    ∙ views-written n size heap k (slot_file lsn generation ops) low whole fit
    ∙ ap (set (views_in n size heap) k) (view-written size lsn generation ops w (bytes_of_slot size heap k) (slot-length size heap k within))

-- a first label byte set to 0 empties the view of its slot, and no other
pub views-emptied : (n size : ℕ) (heap : List ℕ) (k : ℕ) → k < n → n * size ≤ length heap → 0 < size
    → views_in n size (set heap (k * size) 0) ≡ set (views_in n size heap) k empty
views-emptied n size heap k low whole some =
    ap (views_in n size) (put_one heap (k * size) 0 (omega (arith, slots_apart size k n low)))
    ∙ views-written n size heap k (0 ∷ []) low whole (omega arith)
    ∙ ap (set (views_in n size heap) k) (view-emptied (bytes_of_slot size heap k))

-- ---- objects
-- an object that stands in the object bytes of a file is read there, at its position, as it was put
pub object-in : (file : List ℕ) (t p x : ℕ) (body rest : List ℕ) → p ≤ length (take t file) → drop p (take t file) ≡ object_bytes x body ++ rest → x < 2 ^ 64 → length body < 2 ^ 64
    → (behind : ℕ) × (stored_at p (drop p file) ≡ stored_object p x body behind)
object-in file t p x body rest low here id size = (
  length (rest ++ drop t file),
  ap (λ (s : List ℕ). stored_at p (drop p s)) (sym (take-append-drop t file))
      ∙ ap (stored_at p) (drop-append-le p (take t file) (drop t file) low ∙ ap (λ (s : List ℕ). s ++ drop t file) here ∙ append_assoc (object_bytes x body) rest (drop t file))
      ∙ stored_back p x body (rest ++ drop t file) id size,
)

-- a put stands so in the file that was written
pub object-written : (ops : List Op) (x : ℕ) (body : List ℕ) (p : ℕ) → Stands 0 ops x (put body) p → x < 2 ^ 64 → length body < 2 ^ 64
    → (behind : ℕ) × (stored_at p (drop p (file_bytes ops)) ≡ stored_object p x body behind)
unfolding file_bytes
object-written ops x body p h id size =
    let v = stands-bytes 0 ops x body p h in
    let first : take (length (objects_of ops)) (file_bytes ops) ≡ objects_of ops = take-append_seam (objects_of ops) (trailer_bytes (entries_of 0 ops)) in
    let low : p ≤ length (objects_of ops) = omega (arith, (stands-inside 0 ops x (put body) p h).1) in
    let here : drop p (objects_of ops) ≡ object_bytes x body ++ v.0 = ap (λ (n : ℕ). drop n (objects_of ops)) (sym (sub-zero p)) ∙ v.1 in
    object-in (file_bytes ops) (length (objects_of ops)) p x body v.0 (omega (arith, ap length first)) (ap (drop p) first ∙ here) id size

-- none of 16, 10, 17 refuses it
pub read-clear : (p x : ℕ) (body : List ℕ) (behind : ℕ) → NoneHolds (object_tests x (stored_object p x body behind))
unfolding object_tests NoneHolds
read-clear p x body behind = (
  le-ltb (20 + length body + behind) 20 (omega arith),
  (
    le-ltb (20 + length body + behind) (20 + length body) (omega arith),
    (
      stored-good p x body behind,
      (ap not (eq-eqb x x refl), tt),
    ),
  ),
)
