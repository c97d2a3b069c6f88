-- Objects: their length, and that what was written is read back.
use Rattle.std.specs.Prelude.{◌≡◌, ◌⊎◌, ◌≤◌, ◌<◌, ◌∷◌, ◌++◌, ◌+◌, ◌-◌, ◌^◌}
use Rattle.std.proofs.Math.Path.{refl}
use Rattle.std.proofs.Common.{sym, ap, ◌∙◌, append_assoc, inl, inr, arith, not-suc-le-zero, eq-eqb, length-append, length-drop, take_at, drop_at}
use Rattle.rules.specs.Base.{false, List, [], ℕ, zero, suc, length, take, drop}
use Rattle.numbers.specs.LittleEndian.{le_bytes, le_value, le-length, le-round}
use Rattle.checksum.specs.Checksum.{crc32, object_sum}
use Rattle.rules.proofs.BaseLaws.{zero-or-more}
use Rattle.rules.proofs.PartLaws.{field}
use Rattle.rules.specs.Object.{object_bytes, Stored, stored_at, bad_checksum, objects_from}
use Rattle.rules.specs.ObjectLaws.{stored_object}

-- a checksum fits its 4 bytes
pub crc-below : (bs : List ℕ) → crc32 bs < 2 ^ 32
unfolding crc32
crc-below bs = omega arith

-- an object's, too
pub object-sum-below : (id : ℕ) (body : List ℕ) → object_sum id body < 2 ^ 32
unfolding object_sum
object-sum-below id body = crc-below ((le_bytes 8 (length body) ++ le_bytes 8 id) ++ body)

-- "so the header is 20"
pub object-length : (id : ℕ) (body : List ℕ) → length (object_bytes id body) ≡ 20 + length body
unfolding object_bytes
object-length id body = simp (length-append, le-length) (omega arith)

-- what was written is read back, whatever follows
pub stored_back : (position id : ℕ) (body rest : List ℕ) → id < 2 ^ 64 → length body < 2 ^ 64
    → stored_at position (object_bytes id body ++ rest) ≡ stored_object position id body (length rest)
unfolding stored_at object_bytes
stored_back position id body rest id_fits size_fits =
    let a = le_bytes 4 (object_sum id body) in
    let b = le_bytes 8 id in
    let c = le_bytes 8 (length body) in
    let whole : (((a ++ b) ++ c) ++ body) ++ rest ≡ a ++ (b ++ (c ++ (body ++ rest))) = simp append_assoc in
    let after12 : a ++ (b ++ (c ++ (body ++ rest))) ≡ (a ++ b) ++ (c ++ (body ++ rest)) = sym (append_assoc a b _) in
    let after20 : a ++ (b ++ (c ++ (body ++ rest))) ≡ ((a ++ b) ++ c) ++ (body ++ rest) = simp append_assoc in
    let la : length a ≡ 4 = le-length 4 (object_sum id body) in
    let lb : length b ≡ 8 = le-length 8 id in
    let lc : length c ≡ 8 = le-length 8 (length body) in
    let lab : length (a ++ b) ≡ 12 = omega (arith, length-append a b) in
    let labc : length ((a ++ b) ++ c) ≡ 20 = omega (arith, length-append (a ++ b) c) in
    let sum_is : le_value (take 4 (a ++ (b ++ (c ++ (body ++ rest))))) ≡ object_sum id body =
    ap le_value (take_at a (b ++ (c ++ (body ++ rest))) 4 la) ∙ le-round 4 (object_sum id body) (object-sum-below id body) in
    let id_is : le_value (take 8 (drop 4 (a ++ (b ++ (c ++ (body ++ rest)))))) ≡ id =
    ap le_value (field a b (c ++ (body ++ rest)) 4 8 la lb) ∙ le-round 8 id id_fits in
    let size_is : le_value (take 8 (drop 12 (a ++ (b ++ (c ++ (body ++ rest)))))) ≡ length body =
    ap (λ (s : List ℕ). le_value (take 8 (drop 12 s))) after12 ∙ ap le_value (field (a ++ b) c (body ++ rest) 12 8 lab lc) ∙ le-round 8 (length body) size_fits in
    let body_is : take (le_value (take 8 (drop 12 (a ++ (b ++ (c ++ (body ++ rest))))))) (drop 20 (a ++ (b ++ (c ++ (body ++ rest))))) ≡ body =
    ap (λ (n : ℕ). take n (drop 20 (a ++ (b ++ (c ++ (body ++ rest)))))) size_is
    ∙ ap (λ (s : List ℕ). take (length body) (drop 20 s)) after20
    ∙ field ((a ++ b) ++ c) body rest 20 (length body) labc refl in
    let room_is : length (a ++ (b ++ (c ++ (body ++ rest)))) ≡ 20 + length body + length rest = ap length after20 ∙ omega (arith, length-append ((a ++ b) ++ c) (body ++ rest), length-append body rest) in
    rw whole (λ i. record { position = position; checksum = sum_is i; id = id_is i; size = size_is i; room = room_is i; body = body_is i })

-- and its checksum is right
pub stored-good : (position id : ℕ) (body : List ℕ) (behind : ℕ) → bad_checksum (stored_object position id body behind) ≡ false
unfolding bad_checksum
stored-good position id body behind = rw (eq-eqb (object_sum id body) (object_sum id body) refl)

-- what is read at a position of bytes stands there, and has all of them behind it
module _ (position : ℕ) (bytes : List ℕ) where
  pub stored-position : (stored_at position bytes).position ≡ position
  unfolding stored_at
  stored-position = refl

  pub stored-room : (stored_at position bytes).room ≡ length bytes
  unfolding stored_at
  stored-room = refl

-- ---- the walk over object bytes, one object on
pub objects-none : (k position : ℕ) → objects_from k position [] ≡ []
unfolding objects_from
objects-none zero position = refl
objects-none (suc k) position = refl

objects-end : (k position : ℕ) (bytes : List ℕ) → length bytes ≡ 0 → objects_from k position bytes ≡ []
objects-end k position [] e = objects-none k position
objects-end k position (b ∷ bs) e = absurd (omega arith)

-- the first object, then those behind it
pub objects-next : (k position : ℕ) (bytes : List ℕ) → 0 < length bytes
    → objects_from (suc k) position bytes ≡ stored_at position bytes ∷ objects_from k (position + (20 + (stored_at position bytes).size)) (drop (20 + (stored_at position bytes).size) bytes)
unfolding objects_from
objects-next k position [] h = absurd (not-suc-le-zero h)
objects-next k position (b ∷ bs) h = refl

-- the same, of an object that was written
pub objects-put : (k position id : ℕ) (body rest : List ℕ) → id < 2 ^ 64 → length body < 2 ^ 64
    → objects_from (suc k) position (object_bytes id body ++ rest) ≡ stored_object position id body (length rest) ∷ objects_from k (position + (20 + length body)) rest
objects-put k position id body rest id_fits size_fits =
    let back = stored_back position id body rest id_fits size_fits in
    let some : 0 < length (object_bytes id body ++ rest) = omega (arith, length-append (object_bytes id body) rest, object-length id body) in
    let past : drop (20 + length body) (object_bytes id body ++ rest) ≡ rest = drop_at (object_bytes id body) rest (20 + length body) (object-length id body) in
    objects-next k position (object_bytes id body ++ rest) some ∙ rw (back, past)

-- any count as great as the bytes serves: every object takes 20 bytes at least
pub objects-enough : (k j position : ℕ) (bytes : List ℕ) → length bytes ≤ k → length bytes ≤ j → objects_from k position bytes ≡ objects_from j position bytes
objects-enough zero j position bytes a b = objects-end zero position bytes (omega arith) ∙ sym (objects-end j position bytes (omega arith))
objects-enough (suc k) zero position bytes a b = objects-end (suc k) position bytes (omega arith) ∙ sym (objects-end zero position bytes (omega arith))
objects-enough (suc k) (suc j) position bytes a b = go (zero-or-more (length bytes))
    (objects-enough k j (position + (20 + (stored_at position bytes).size)) (drop (20 + (stored_at position bytes).size) bytes))
  where
    n : ℕ
    n = 20 + (stored_at position bytes).size

    go : (length bytes ≡ 0) ⊎ (0 < length bytes) → (length (drop n bytes) ≤ k → length (drop n bytes) ≤ j → objects_from k (position + n) (drop n bytes) ≡ objects_from j (position + n) (drop n bytes))
        → objects_from (suc k) position bytes ≡ objects_from (suc j) position bytes
    go (inl e) ih = objects-end (suc k) position bytes e ∙ sym (objects-end (suc j) position bytes e)
    go (inr h) ih =
        let left = length-drop n bytes in
        objects-next k position bytes h
        ∙ ap (λ (t : List Stored). stored_at position bytes ∷ t) (ih (omega arith) (omega arith))
        ∙ sym (objects-next j position bytes h)
