-- The marked entries of a group stand at their places: an object's bytes in the heap are those that its slot's object bytes have.
use Rattle.std.specs.Prelude.{◌≡◌, ◌≤◌, ◌<◌, ◌++◌, ◌+◌, ◌-◌, ◌*◌, ◌^◌}
use Rattle.std.proofs.Math.Path.{refl}
use Rattle.std.proofs.Common.{sym, ap, ◌∙◌, subst, append_assoc, mul-le-mul, length-append, length-drop, take-append-drop, drop-drop, length-take-le}
use native.Mathlib.Omega.{arith}
use Rattle.std.proofs.lemmas.List.{take-append-le, drop-append-le}
use Rattle.numbers.specs.LittleEndian.{le_value}
use borrow.Author.Tests.{ne_eqb}
use Rattle.disk_location.specs.Locations.{position_of}
use Rattle.rules.specs.declared.Loaded.{Loaded}
use Rattle.rules.specs.declared.Loaded.TheVariants.{At, DeletedAt}
use Rattle.rules.specs.Base.{List, ℕ, length, get_or, take, drop}
use Rattle.rules.specs.Ops.{put, delete}
use Rattle.rules.specs.Object.{stored_at}
use Rattle.rules.specs.SlotFile.{bytes_of_slot, object_part}
use Rattle.rules.specs.declared.Label.{Label}
use Rattle.gc_files.specs.Places.{length_at, moving_at, op_at, Whole, place_for, InFile, Placeable}

-- n bytes of a part that stands in the heap from `at` on
part-piece : (part rest heap : List ℕ) (at p n : ℕ) → part ++ rest ≡ drop at heap → p + n ≤ length part → take n (drop p part) ≡ take n (drop (at + p) heap)
part-piece part rest heap at p n e fit =
    sym (take-append-le n (drop p part) rest (omega (arith, length-drop p part)))
    ∙ ap (take n) (sym (drop-append-le p part rest (omega arith)) ∙ ap (drop p) e ∙ drop-drop p at heap)

-- an object that lies within the part
pub record ObjectThere (part heap : List ℕ) (at p : ℕ) : Type 0 where
  pub size : length_at heap (at + p) ≡ (stored_at p (drop p part)).size
  pub body : take (length_at heap (at + p)) (drop (at + p + 20) heap) ≡ (stored_at p (drop p part)).body
  pub inside : at + p + (20 + length_at heap (at + p)) ≤ length heap
  pub bytes : take (20 + length_at heap (at + p)) (drop (at + p) heap) ≡ take (20 + length_at heap (at + p)) (drop p part)

pub object-there : (part rest heap : List ℕ) (at p : ℕ) → part ++ rest ≡ drop at heap → 20 + (stored_at p (drop p part)).size ≤ (stored_at p (drop p part)).room
    → ObjectThere part heap at p
unfolding stored_at
object-there part rest heap at p e room =
    let n = le_value (take 8 (drop 12 (drop p part))) in
    let lies : p + (20 + n) ≤ length part = omega (arith, room, length-drop p part) in
    let there : at + (p + 12) ≡ at + p + 12 = omega arith in
    let behind : at + (p + 20) ≡ at + p + 20 = omega arith in
    let size : length_at heap (at + p) ≡ n =
    sym (ap le_value (ap (take 8) (drop-drop 12 p part) ∙ part-piece part rest heap at (p + 12) 8 e (omega arith) ∙ ap (λ (k : ℕ). take 8 (drop k heap)) there)) in
    let body : take n (drop (at + p + 20) heap) ≡ take n (drop 20 (drop p part)) =
    sym (ap (take n) (drop-drop 20 p part) ∙ part-piece part rest heap at (p + 20) n e (omega arith) ∙ ap (λ (k : ℕ). take n (drop k heap)) behind) in
    record {
      size = size;
      body = ap (λ (k : ℕ). take k (drop (at + p + 20) heap)) size ∙ body;
      inside = omega (arith, size, ap length e, length-append part rest, length-drop at heap);
      bytes = sym (part-piece part rest heap at p (20 + length_at heap (at + p)) e (omega (arith, size)));
    }

-- a front of a front
front_of : (xs rest ys more zs : List ℕ) → xs ++ rest ≡ ys → ys ++ more ≡ zs → xs ++ (rest ++ more) ≡ zs
front_of xs rest ys more zs e f = sym (append_assoc xs rest more) ∙ ap (λ (l : List ℕ). l ++ more) e ∙ f

-- the object bytes of slot k's file stand in the heap, from behind its label on
pub object-part-stands : (r : Label) (size : ℕ) (heap : List ℕ) (k : ℕ) → 64 ≤ size → k * size + size ≤ length heap
    → (rest : List ℕ) × (object_part r (bytes_of_slot size heap k) ++ rest ≡ drop (k * size + 64) heap)
unfolding bytes_of_slot
object-part-stands r size heap k wide whole =
    let d = drop (k * size) heap in
    let slot = take size d in
    let long : length slot ≡ size = length-take-le size d (omega (arith, length-drop (k * size) heap)) in
    let file = take r.file_size (drop 64 slot) in
    let third : drop 64 slot ++ drop size d ≡ drop (k * size + 64) heap =
    sym (drop-append-le 64 slot (drop size d) (omega arith)) ∙ ap (drop 64) (take-append-drop size d) ∙ drop-drop 64 (k * size) heap in
    let second = front_of file _ _ _ _ (take-append-drop r.file_size (drop 64 slot)) third in
    (_, front_of (take r.trailer_offset file) _ _ _ _ (take-append-drop r.trailer_offset file) second)

-- ---- one marked entry
-- its slot begins within 256 slots, and its object within a slot's bytes behind that
module _ {size : ℕ} {lsns : List ℕ} {loaded : Loaded} {mark : ℕ} (small : size ≤ 2 ^ 20) (p : Placeable lsns loaded mark) where
  pub mark-far : (mark - 1) * size ≤ 255 * 2 ^ 20
  mark-far = let few : mark - 1 ≤ 255 = omega (arith, p.slot) in mul-le-mul few small

  pub place-told : (mark ≡ 0 → ⊥) → (l : ℕ) → loaded ≡ At l
      → (get_or lsns (mark - 1) 0 ≤ position_of l) × ((mark - 1) * size + 64 + (position_of l - get_or lsns (mark - 1) 0) < 2 ^ 32)
  place-told some l object =
      let within = subst (InFile (get_or lsns (mark - 1) 0)) object (p.file (omega (arith, some))) in
      (within.0, omega (arith, mark-far, within.1))

module _ (size : ℕ) (heap lsns : List ℕ) (location k : ℕ) (mark : ℕ) (e : mark ≡ k + 1) where
  -- a delete
  pub place-delete : (id : ℕ) → op_at heap id (place_for size lsns (DeletedAt location) mark) ≡ record { id = id; content = delete }
  unfolding place_for moving_at
  place-delete id = rw (e, ne_eqb (k + 1) 0 (λ z. omega arith)) refl

  -- an object of the file in slot k, which lies within its object bytes
  pub place-object : (id : ℕ) (r : Label) → 64 ≤ size → k * size + size ≤ length heap
      → let o = stored_at (position_of location - get_or lsns k 0) (drop (position_of location - get_or lsns k 0) (object_part r (bytes_of_slot size heap k))) in
      20 + o.size ≤ o.room → o.size < 2 ^ 20
      → (op_at heap id (place_for size lsns (At location) mark) ≡ record { id = id; content = put o.body }) × Whole heap (place_for size lsns (At location) mark)
  unfolding place_for moving_at
  place-object id r wide whole room short =
      let stands = object-part-stands r size heap k wide whole in
      let there = object-there (object_part r (bytes_of_slot size heap k)) stands.0 heap (k * size + 64) (position_of location - get_or lsns k 0) stands.1 room in
      let back : k + 1 - 1 ≡ k = omega arith in
      rw (e, ne_eqb (k + 1) 0 (λ z. omega arith), back) (
        rw (ne_eqb (k * size + 64 + (position_of location - get_or lsns k 0)) 1 (λ z. omega arith)) (ap (λ (b : List ℕ). record { id = id; content = put b }) there.body),
        record { inside = there.inside; short = omega (arith, there.size) },
      )
