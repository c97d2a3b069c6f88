-- What holds of all elements of a list, and of those among it: no word of the paper is here.
use Rattle.std.specs.Prelude.{◌≡◌, refl, ◌∷◌}
use Rattle.std.proofs.Common.{subst, inl, inr}
use Rattle.rules.specs.Base.{Bool, true, false, List, [], map, ℕ, zero, suc, get_or, set, replicate, pick, keep, each}
use Rattle.rules.specs.BaseLaws.{All}
use Rattle.rules.proofs.BaseLaws.{all_append}
use Rattle.rules.specs.FileMapLaws.{Among}

-- those that are kept, changed
pub all-kept : {A B : Type 0} (Q : A → Type 0) (P : B → Type 0) (f : A → Bool) (g : A → B) (xs : List A) → ((x : A) → Q x → f x ≡ true → P (g x))
    → All Q xs → All P (map g (keep f xs))
unfolding keep
all-kept Q P f g [] h a = tt
all-kept Q P f g (x ∷ xs) h a = go (f x) refl (all-kept Q P f g xs h a.1)
  where
    go : (b : Bool) → f x ≡ b → All P (map g (keep f xs)) → All P (map g (pick b (x ∷ keep f xs) (keep f xs)))
    go true e ih = (h x a.0 e, ih)
    go false e ih = ih

-- all that are kept pass
pub all_pass : {A : Type 0} (f : A → Bool) (xs : List A) → All (λ (x : A). f x ≡ true) (keep f xs)
unfolding keep
all_pass f [] = tt
all_pass f (x ∷ xs) = go (f x) refl (all_pass f xs)
  where
    go : (b : Bool) → f x ≡ b → All (λ (y : _). f y ≡ true) (keep f xs) → All (λ (y : _). f y ≡ true) (pick b (x ∷ keep f xs) (keep f xs))
    go true e ih = (e, ih)
    go false e ih = ih

-- one element changed
pub all_set : {A : Type 0} (P : A → Type 0) (xs : List A) (i : ℕ) (a : A) → All P xs → P a → All P (set xs i a)
all_set P [] i a h p = tt
all_set P (x ∷ xs) zero a h p = (p, h.1)
all_set P (x ∷ xs) (suc i) a h p = (h.0, all_set P xs i a h.1 p)

-- one element, or what stands for none
pub all-get : {A : Type 0} (P : A → Type 0) (xs : List A) (i : ℕ) (d : A) → All P xs → P d → P (get_or xs i d)
all-get P [] i d h p = p
all-get P (x ∷ xs) zero d h p = h.0
all-get P (x ∷ xs) (suc i) d h p = all-get P xs i d h.1 p

-- the same element again and again
pub all_replicate : {A : Type 0} (P : A → Type 0) (n : ℕ) (a : A) → P a → All P (replicate n a)
all_replicate P zero a p = tt
all_replicate P (suc n) a p = (p, all_replicate P n a p)

-- of every number, so of these
pub every : (P : ℕ → Type 0) (ks : List ℕ) → ((k : ℕ) → P k) → All P ks
every P [] h = tt
every P (k ∷ ks) h = (h k, every P ks h)

-- of what each gives
pub all-each : {A B : Type 0} (P : B → Type 0) (f : A → List B) (xs : List A) → All (λ (x : A). All P (f x)) xs → All P (each f xs)
unfolding each
all-each P f [] a = tt
all-each P f (x ∷ xs) a = all_append P (f x) (each f xs) a.0 (all-each P f xs a.1)

-- of those among them, so of all
pub among-all : (P : ℕ → Type 0) (ks : List ℕ) → ((k : ℕ) → Among ks k → P k) → All P ks
among-all P [] h = tt
among-all P (k ∷ ks) h = (h k (inl refl), among-all P ks (λ j a. h j (inr a)))

-- one thing makes another, for those among them
pub all_among : (P Q : ℕ → Type 0) (ks : List ℕ) → ((k : ℕ) → Among ks k → P k → Q k) → All P ks → All Q ks
all_among P Q [] h a = tt
all_among P Q (k ∷ ks) h a = (h k (inl refl) a.0, all_among P Q ks (λ j b. h j (inr b)) a.1)

-- of all, so of one among them
pub among-get : (P : ℕ → Type 0) (ks : List ℕ) → All P ks → (k : ℕ) → Among ks k → P k
among-get P [] a k b = absurd b
among-get P (m ∷ ms) a k (inl q) = subst P q a.0
among-get P (m ∷ ms) a k (inr b) = among-get P ms a.1 k b
