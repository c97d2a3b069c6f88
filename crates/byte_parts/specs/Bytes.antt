-- Words on lists of bytes.
use Rattle.std.specs.Prelude.{Bool, true, false, List, [], ◌∷◌, ℕ, suc, take, drop, eqb}

-- the part from a up to e
unfoldable pub slice : ℕ → ℕ → List ℕ → List ℕ
slice a e xs = drop a (take e xs)

-- 0 where the first one is the one sought, else one more than in what follows
unfoldable pub index_after : Bool → ℕ → ℕ
index_after true n = 0
index_after false n = suc n

-- where x first stands, or the length
unfoldable pub index_of : ℕ → List ℕ → ℕ
index_of x [] = 0
index_of x (b ∷ bs) = index_after (eqb b x) (index_of x bs)
