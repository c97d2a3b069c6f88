-- Request P9, "taken by ascending masked lsn, equal ones by ascending slot": the order of the second kind, from outside; one file left out.
use Rattle.std.specs.Prelude.{◌≡◌, ◌⊎◌, ◌<◌, ◌∷◌}
use Rattle.rules.specs.Base.{List, [], ℕ, eqb, pick}
use Rattle.rules.specs.BaseLaws.{All}
use Rattle.losses.specs.Salvage.{Sound, start_of}
pub use Rattle.losses.specs.Few.{order-length}

-- "by ascending masked lsn, equal ones by ascending slot": x stands before y
abbrev pub Before : Sound → Sound → Type 0
Before x y = (start_of x < start_of y) ⊎ ((start_of x ≡ start_of y) × (x.slot < y.slot))

-- each stands before all behind it
abbrev pub Ordered : List Sound → Type 0
Ordered [] = Unit {0}
Ordered (x ∷ xs) = All (Before x) xs × Ordered xs

-- each has a lower slot than all behind it
abbrev pub BySlot : List Sound → Type 0
BySlot [] = Unit {0}
BySlot (x ∷ xs) = All (λ (y : Sound). x.slot < y.slot) xs × BySlot xs

-- no two have the same slot
abbrev pub OneEach : List Sound → Type 0
OneEach [] = Unit {0}
OneEach (x ∷ xs) = All (λ (y : Sound). x.slot ≡ y.slot → ⊥) xs × OneEach xs

-- ---- one slot left out
-- the files but that of slot k
abbrev pub without : ℕ → List Sound → List Sound
without k [] = []
without k (x ∷ xs) = pick (eqb x.slot k) (without k xs) (x ∷ without k xs)
