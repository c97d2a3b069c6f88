-- Choices and lists: no word of the paper is here.
pub use Rattle.std.specs.Prelude.{Bool, true, false, not, ◌&&◌, ◌||◌, List, [], ◌∷◌, ◌++◌, map, ℕ, zero, suc, ◌+◌, ◌-◌, ◌*◌, ◌/◌, ◌%◌, ◌^◌, length, get_or, take, drop, set, replicate, leb, ltb, eqb}
pub use Rattle.numbers.specs.Choice.{pick}

-- from low to high, both counted
abbrev pub within : ℕ → ℕ → ℕ → Bool
within low high n = leb low n && leb n high

-- some element passes
unfoldable pub any : {A : Type 0} → (A → Bool) → List A → Bool
any f [] = false
any f (x ∷ xs) = f x || any f xs

-- all are 0
unfoldable pub zeros : List ℕ → Bool
zeros ns = not (any (λ (n : ℕ). not (eqb n 0)) ns)

-- the elements that pass, in order
unfoldable pub keep : {A : Type 0} → (A → Bool) → List A → List A
keep f [] = []
keep f (x ∷ xs) = pick (f x) (x ∷ keep f xs) (keep f xs)

-- what each element gives, one behind the other
unfoldable pub each : {A B : Type 0} → (A → List B) → List A → List B
each f [] = []
each f (x ∷ xs) = f x ++ each f xs

-- summed over the elements
unfoldable pub sum : {A : Type 0} → (A → ℕ) → List A → ℕ
sum f [] = 0
sum f (x ∷ xs) = f x + sum f xs

-- max
abbrev pub larger : ℕ → ℕ → ℕ
larger a b = pick (leb a b) b a

-- the greatest over the elements, or 0
unfoldable pub greatest : {A : Type 0} → (A → ℕ) → List A → ℕ
greatest f [] = 0
greatest f (x ∷ xs) = larger (f x) (greatest f xs)

-- ns, and zeros behind it to the length n
unfoldable pub padded : ℕ → List ℕ → List ℕ
padded n ns = ns ++ replicate (n - length ns) 0
