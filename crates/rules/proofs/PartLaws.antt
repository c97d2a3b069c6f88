-- Parts of lists of bytes: fields, and writes in another order. No word of the paper is here.
use Rattle.std.specs.Prelude.{◌≡◌, ◌≤◌, ◌<◌, ◌∷◌, ◌++◌, ◌+◌, ◌-◌}
use Rattle.std.proofs.Common.{sym, ap, ap₂, ◌∙◌, append_assoc, arith, length-append, length-drop, take-append-drop, take_at, drop_at, take-take, take-add, drop-drop, length-take-le}
use Rattle.std.proofs.lemmas.List.{take-append-le, drop-append-le}
use Rattle.rules.specs.Base.{List, [], ℕ, zero, suc, length, set, take, drop, replicate}
use Rattle.numbers.specs.LittleEndian.{Bytes}
use Rattle.numbers.specs.Parts.{put_at, put_step, put-none}

-- a field behind k elements
pub field : (xs ys zs : List ℕ) (k n : ℕ) → length xs ≡ k → length ys ≡ n → take n (drop k (xs ++ (ys ++ zs))) ≡ ys
field xs ys zs k n p q = rw (drop_at xs (ys ++ zs) k p) (take_at ys zs n q)

-- bytes behind bytes are bytes
pub bytes-append : (xs ys : List ℕ) → Bytes xs → Bytes ys → Bytes (xs ++ ys)
bytes-append [] ys p q i = q i
bytes-append (x ∷ xs) ys p q zero = p 0
bytes-append (x ∷ xs) ys p q (suc i) = bytes-append xs ys (λ j. p (suc j)) q i

-- zeros are bytes
pub bytes-zeros : (n : ℕ) → Bytes (replicate n 0)
bytes-zeros zero i = omega arith
bytes-zeros (suc n) zero = omega arith
bytes-zeros (suc n) (suc i) = bytes-zeros n i

-- what stands in front, written last
pub put-before : (s : List ℕ) (at : ℕ) (xs ys : List ℕ) → at + length xs ≤ length s → put_at (put_at s (at + length xs) ys) at xs ≡ put_at s at (xs ++ ys)
unfolding put_at
put-before s at xs ys fit =
    let n = at + length xs in
    let rest = drop (n + length ys) s in
    let short : length (take n s) ≡ n = length-take-le n s fit in
    let before : take at (take n s ++ (ys ++ rest)) ≡ take at s = take-append-le at (take n s) (ys ++ rest) (omega arith) ∙ take-take at n s (omega arith) in
    let behind : drop n (take n s ++ (ys ++ rest)) ≡ ys ++ rest = drop_at (take n s) (ys ++ rest) n short in
    let last : at + length (xs ++ ys) ≡ n + length ys = omega (arith, length-append xs ys) in
    rw (before, behind, last) (ap (λ (t : List ℕ). take at s ++ t) (sym (append_assoc xs ys rest)))

part-front : (n i : ℕ) (xs ys : List ℕ) → i + n ≤ length xs → take n (drop i (xs ++ ys)) ≡ take n (drop i xs)
part-front n i xs ys fit =
    ap (take n) (drop-append-le i xs ys (omega arith)) ∙ take-append-le n (drop i xs) ys (omega (arith, length-drop i xs))

-- a part before the place is as it was
pub put-part-before : (h : List ℕ) (at : ℕ) (bs : List ℕ) (n i : ℕ) → at ≤ length h → i + n ≤ at → take n (drop i (put_at h at bs)) ≡ take n (drop i h)
unfolding put_at
put-part-before h at bs n i fit before =
    let short : i + n ≤ length (take at h) = omega (arith, length-take-le at h fit) in
    part-front n i (take at h) (bs ++ drop (at + length bs) h) short
    ∙ sym (part-front n i (take at h) (drop at h) short)
    ∙ ap (λ (s : List ℕ). take n (drop i s)) (take-append-drop at h)

-- and one behind what was written
pub put-part-behind : (h : List ℕ) (at : ℕ) (bs : List ℕ) (i : ℕ) → at ≤ length h → at + length bs ≤ i → drop i (put_at h at bs) ≡ drop i h
unfolding put_at
put-part-behind h at bs i fit behind =
    let e = at + length bs in
    let there : i ≡ e + (i - e) = omega arith in
    let seam : length (take at h ++ bs) ≡ e = omega (arith, length-append (take at h) bs, length-take-le at h fit) in
    ap₂ drop there (sym (append_assoc (take at h) bs (drop e h)))
    ∙ sym (drop-drop (i - e) e ((take at h ++ bs) ++ drop e h))
    ∙ ap (drop (i - e)) (drop_at (take at h ++ bs) (drop e h) e seam)
    ∙ drop-drop (i - e) e h
    ∙ ap (λ (k : ℕ). drop k h) (sym there)

-- the front of what was taken, left out
pub drop-take : (m n : ℕ) (s : List ℕ) → m ≤ n → m ≤ length s → drop m (take n s) ≡ take (n - m) (drop m s)
drop-take m n s low fit =
    let both : n ≡ m + (n - m) = omega arith in
    ap (λ (k : ℕ). drop m (take k s)) both ∙ ap (drop m) (take-add m (n - m) s) ∙ drop_at (take m s) (take (n - m) (drop m s)) m (length-take-le m s fit)

-- one element stored
pub put_one : (s : List ℕ) (i b : ℕ) → i < length s → set s i b ≡ put_at s i (b ∷ [])
put_one s i b h = sym (put-none (set s i b) (i + 1)) ∙ put_step s i b [] h
