-- "numbers in groups of seven bits, low group first, top bit set on all but the last, shortest form only, at most 64 bits"
use Rattle.std.specs.Prelude.{List, [], ◌∷◌, Bool, true, false, ℕ, zero, suc, ◌+◌, ◌-◌, ◌*◌, ◌/◌, ◌%◌, ◌^◌, ltb, drop, None, Some}
use Rattle.numbers.specs.Choice.{pick}
use Rattle.numbers.specs.Answers.{Number}

-- the last group, or one with its top bit set and more
abbrev pub or_last : Bool → ℕ → List ℕ → List ℕ
or_last true n more = n ∷ []
or_last false n more = (n % 128 + 128) ∷ more

-- n in at most k groups
unfoldable pub groups_of : ℕ → ℕ → List ℕ
groups_of zero n = []
groups_of (suc k) n = or_last (ltb n 128) n (groups_of k (n / 128))

-- what the front of a list says: a number and its count of groups
pub data Groups : Type 0 where
  said : ℕ → ℕ → Groups
  bad : Groups

-- a group with its top bit set, before what follows says v: a v of 0 is not the shortest form
abbrev pub before : ℕ → Groups → Groups
before b bad = bad
before b (said zero n) = bad
before b (said (suc v) n) = said (b - 128 + 128 * suc v) (suc n)

-- the last group, or one before what follows
abbrev pub or_before : Bool → ℕ → Groups → Groups
or_before true b g = said b 1
or_before false b g = before b g

-- the number at the front of a list, in at most k groups
unfoldable pub read_groups : ℕ → List ℕ → Groups
read_groups zero bs = bad
read_groups (suc k) [] = bad
read_groups (suc k) (b ∷ bs) = or_before (ltb b 128) b (read_groups k bs)

-- "at most 64 bits", and the position after it
abbrev pub bounded : ℕ → Groups → Number
bounded at (said v n) = pick (ltb v (2 ^ 64)) (Some (v, at + n)) None
bounded at bad = None

-- the number that stands in s at `at`, in at most k groups
unfoldable pub number_in : ℕ → List ℕ → ℕ → Number
number_in k s at = bounded at (read_groups k (drop at s))

-- a number in groups, then what follows it; `none` where there is none
abbrev pub saying : {A : Type 0} → A → Number → (ℕ → ℕ → A) → A
saying none (Some (v, next)) f = f v next
saying none None f = none
