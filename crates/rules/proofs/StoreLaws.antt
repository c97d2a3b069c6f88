-- A run of single-byte stores against a writer's contract, `put_at` of numbers.
use Rattle.std.specs.Prelude.{◌≡◌, refl, ◌≤◌, ◌∷◌, ◌++◌, ◌+◌, ◌-◌}
use Rattle.std.proofs.Common.{sym, ap, ◌∙◌, length-set, length-drop, take-append-drop, length-take-le, arith, add-one}
use Rattle.rules.specs.Base.{List, [], ℕ, suc, length, set, take, drop, zero}
use Rattle.numbers.specs.Parts.{put_at, put_step, put-none, put-length}
use Rattle.rules.proofs.PartLaws.{put-before}
use Rattle.rules.specs.Stores.{Store, made, stores_of, file_stores}

-- one run behind the other
pub made-append : (xs ys : List Store) (heap : List ℕ) → made (xs ++ ys) heap ≡ made ys (made xs heap)
unfolding made
made-append [] ys heap = refl
made-append (x ∷ xs) ys heap = made-append xs ys (set heap x.at x.byte)

-- bytes stored one by one are the bytes put there
pub made-run : (at : ℕ) (bs heap : List ℕ) → at + length bs ≤ length heap → made (stores_of at bs) heap ≡ put_at heap at bs
unfolding made stores_of
made-run at [] heap fit = sym (put-none heap at)
made-run at (b ∷ bs) heap fit =
    made-run (suc at) bs (set heap at b) (omega (arith, length-set heap at b))
    ∙ ap (λ (k : ℕ). put_at (set heap at b) k bs) (sym (add-one at))
    ∙ put_step heap at b bs (omega arith)

-- stores keep the heap's length
pub made-length : (ss : List Store) (heap : List ℕ) → length (made ss heap) ≡ length heap
unfolding made
made-length [] heap = refl
made-length (s ∷ ss) heap = made-length ss (set heap s.at s.byte) ∙ length-set heap s.at s.byte

-- a store for each byte
pub stores-length : (at : ℕ) (bs : List ℕ) → length (stores_of at bs) ≡ length bs
unfolding stores_of
stores-length at [] = refl
stores-length at (b ∷ bs) = ap suc (stores-length (suc at) bs)

-- the first k stores are those of the first k bytes
pub stores-take : (k at : ℕ) (bs : List ℕ) → take k (stores_of at bs) ≡ stores_of at (take k bs)
unfolding stores_of
stores-take zero at bs = refl
stores-take (suc k) at [] = refl
stores-take (suc k) at (b ∷ bs) = ap (λ (ss : List Store). record { at = at; byte = b } ∷ ss) (stores-take k (suc at) bs)

-- a file's stores, in whatever order, put label and file there
pub file-made : (start : ℕ) (label file heap : List ℕ) → length label ≡ 64 → start + (64 + length file) ≤ length heap
    → made (file_stores start label file) heap ≡ put_at heap start (label ++ file)
unfolding file_stores
file-made start label file heap l fit =
    let first = take 1 label in
    let others = drop 1 label in
    let whole : first ++ others ≡ label = take-append-drop 1 label in
    let one : length first ≡ 1 = length-take-le 1 label (omega arith) in
    let rest : length others ≡ 63 = omega (arith, length-drop 1 label) in
    let h1 = put_at heap (start + 64) file in
    let n1 : length h1 ≡ length heap = put-length heap (start + 64) file (omega arith) in
    let h2 = put_at h1 (suc start) others in
    let n2 : length h2 ≡ length heap = put-length h1 (suc start) others (omega arith) ∙ n1 in
    let behind : suc start ≡ start + length first = omega arith in
    let end : start + 64 ≡ start + length label = omega arith in
    made-append (stores_of (start + 64) file) (stores_of (suc start) others ++ stores_of start first) heap
    ∙ ap (made (stores_of (suc start) others ++ stores_of start first)) (made-run (start + 64) file heap (omega arith))
    ∙ made-append (stores_of (suc start) others) (stores_of start first) h1
    ∙ ap (made (stores_of start first)) (made-run (suc start) others h1 (omega arith))
    ∙ made-run start first h2 (omega arith)
    ∙ ap (λ (k : ℕ). put_at (put_at h1 k others) start first) behind
    ∙ put-before h1 start first others (omega arith)
    ∙ ap (put_at h1 start) whole
    ∙ ap (λ (k : ℕ). put_at (put_at heap k file) start label) end
    ∙ put-before heap start label file (omega arith)
