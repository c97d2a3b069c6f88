-- Bytes that begin with an object: what is read there is right, so the bytes are the object's own.
use Rattle.std.specs.Prelude.{◌≡◌, ◌≤◌, ◌<◌, ◌∷◌, ◌++◌, ◌+◌, ◌^◌}
use Rattle.std.proofs.Common.{sym, ap, ap₂, ◌∙◌, subst, append_assoc, arith, length-drop, take-append-drop, drop-drop, get_or-drop, length-take-le, eqb-true}
use Rattle.std.proofs.lemmas.Bool.{not-false}
use Rattle.rules.specs.Base.{false, List, [], ℕ, zero, suc, length, take, drop, get_or, eqb}
use Rattle.numbers.specs.LittleEndian.{Bytes, le_bytes, le_value, le-unique, le_below}
use Rattle.checksum.specs.Checksum.{object_sum}
use Rattle.rules.specs.Object.{object_bytes, stored_at, bad_checksum}

-- of bytes, any part is bytes
pub part_bytes : (a n b : ℕ) (bs : List ℕ) → Bytes bs → Bytes (drop b (take n (drop a bs)))
part_bytes a n b bs h i = subst (λ (m : ℕ). m < 256) (sym (get_or-drop b (take n (drop a bs)) i 0)) (below n (drop a bs) (λ j. subst (λ (m : ℕ). m < 256) (sym (get_or-drop a bs j 0)) (h (a + j))) (b + i))
  where
    below : (m : ℕ) (xs : List ℕ) → Bytes xs → (j : ℕ) → get_or (take m xs) j 0 < 256
    below zero xs g j = omega arith
    below (suc m) [] g j = g j
    below (suc m) (x ∷ xs) g zero = g 0
    below (suc m) (x ∷ xs) g (suc j) = below m xs (λ k. g (suc k)) j

-- n bytes from `at` on are those of the number that they say, and it has no more
pub number-bytes : (at n : ℕ) (bs : List ℕ) → Bytes bs → at + n ≤ length bs
    → (take n (drop at bs) ≡ le_bytes n (le_value (take n (drop at bs)))) × (le_value (take n (drop at bs)) < 256 ^ n)
number-bytes at n bs h l =
    let part = take n (drop at bs) in
    let count : length part ≡ n = length-take-le n (drop at bs) (omega (arith, length-drop at bs)) in
    let all : Bytes part = part_bytes at n 0 bs h in
    (sym (ap (λ (m : ℕ). le_bytes m (le_value part)) (sym count) ∙ le-unique part all), subst (λ (m : ℕ). le_value part < 256 ^ m) count (le_below part all))

-- n bytes from `at` on, then what is left
pub cut : (at n : ℕ) (bs : List ℕ) → drop at bs ≡ take n (drop at bs) ++ drop (at + n) bs
cut at n bs = sym (take-append-drop n (drop at bs)) ∙ ap (λ (x : List ℕ). take n (drop at bs) ++ x) (drop-drop n at bs)

-- header and body lie within the bytes, and checksum, id and body are as said
pub record Reads (position : ℕ) (bytes : List ℕ) (id : ℕ) (body : List ℕ) : Type 0 where
  pub room : 20 + (stored_at position bytes).size ≤ length bytes
  pub checksum : bad_checksum (stored_at position bytes) ≡ false
  pub its-id : (stored_at position bytes).id ≡ id
  pub its-body : (stored_at position bytes).body ≡ body

-- the bytes begin with that object's
pub record Begins (bytes : List ℕ) (id : ℕ) (body : List ℕ) : Type 0 where
  pub rest : List ℕ
  pub is : bytes ≡ object_bytes id body ++ rest
  pub id-fits : id < 2 ^ 64
  pub size_fits : length body < 2 ^ 64

-- LAW: header and body within, checksum and id right: the bytes begin with the object's
pub reads-begins : (position : ℕ) (bytes : List ℕ) (id : ℕ) (body : List ℕ) → Bytes bytes → Reads position bytes id body → Begins bytes id body
unfolding stored_at bad_checksum object_bytes
reads-begins position bytes id body h r =
    let size = le_value (take 8 (drop 12 bytes)) in
    let room : 20 + size ≤ length bytes = r.room in
    let n4 = number-bytes 0 4 bytes h (omega arith) in
    let n8 = number-bytes 4 8 bytes h (omega arith) in
    let n12 = number-bytes 12 8 bytes h (omega arith) in
    let body_is : take size (drop 20 bytes) ≡ body = r.its-body in
    let id_is : le_value (take 8 (drop 4 bytes)) ≡ id = r.its-id in
    let count : length body ≡ size = ap length (sym body_is) ∙ length-take-le size (drop 20 bytes) (omega (arith, length-drop 20 bytes)) in
    let sum_is : le_value (take 4 bytes) ≡ object_sum id body =
    eqb-true (le_value (take 4 bytes)) (object_sum (le_value (take 8 (drop 4 bytes))) (take size (drop 20 bytes))) (not-false (eqb (le_value (take 4 bytes)) (object_sum (le_value (take 8 (drop 4 bytes))) (take size (drop 20 bytes)))) r.checksum)
    ∙ ap₂ object_sum id_is body_is in
    let a : take 4 bytes ≡ le_bytes 4 (object_sum id body) = n4.0 ∙ ap (le_bytes 4) sum_is in
    let b : take 8 (drop 4 bytes) ≡ le_bytes 8 id = n8.0 ∙ ap (le_bytes 8) id_is in
    let c : take 8 (drop 12 bytes) ≡ le_bytes 8 (length body) = n12.0 ∙ ap (le_bytes 8) (sym count) in
    let d20 : drop 20 bytes ≡ body ++ drop (20 + size) bytes = cut 20 size bytes ∙ ap (λ (x : List ℕ). x ++ drop (20 + size) bytes) body_is in
    let d12 : drop 12 bytes ≡ le_bytes 8 (length body) ++ (body ++ drop (20 + size) bytes) = cut 12 8 bytes ∙ ap₂ (λ (x y : List ℕ). x ++ y) c d20 in
    let d4 : drop 4 bytes ≡ le_bytes 8 id ++ (le_bytes 8 (length body) ++ (body ++ drop (20 + size) bytes)) = cut 4 8 bytes ∙ ap₂ (λ (x y : List ℕ). x ++ y) b d12 in
    let whole : bytes ≡ le_bytes 4 (object_sum id body) ++ (le_bytes 8 id ++ (le_bytes 8 (length body) ++ (body ++ drop (20 + size) bytes))) = cut 0 4 bytes ∙ ap₂ (λ (x y : List ℕ). x ++ y) a d4 in
    record {
      rest = drop (20 + size) bytes;
      is = whole ∙ simp append_assoc;
      id-fits = omega (arith, id_is, n8.1);
      size_fits = omega (arith, count, n12.1);
    }
