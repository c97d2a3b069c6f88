-- "numbers in decimal", "a number past 2^64 - 1".
use Rattle.std.specs.Prelude.{Bool, true, ◌&&◌, List, [], ◌∷◌, ℕ, ◌+◌, ◌-◌, ◌*◌, ◌^◌, leb, ltb, None, Some}
use Rattle.numbers.specs.Choice.{pick}
use Rattle.script.specs.Answers.{Parsed}

-- `0` to `9`
abbrev pub is_digit : ℕ → Bool
is_digit b = leb 48 b && leb b 57

-- all are digits
unfoldable pub all_digits : List ℕ → Bool
all_digits [] = true
all_digits (b ∷ bs) = is_digit b && all_digits bs

-- the value of digits behind the number n
unfoldable pub value_from : ℕ → List ℕ → ℕ
value_from n [] = n
value_from n (b ∷ bs) = value_from (n * 10 + (b - 48)) bs

-- a word's number: of one digit or more, below 2^64
unfoldable pub number_of : List ℕ → Parsed
number_of [] = None
number_of (b ∷ bs) = pick (all_digits (b ∷ bs) && ltb (value_from 0 (b ∷ bs)) (2 ^ 64)) (Some (value_from 0 (b ∷ bs))) None

-- a number with one digit more
unfoldable pub longer_by : ℕ → ℕ → Parsed
longer_by n b = pick (is_digit b && ltb (n * 10 + (b - 48)) (2 ^ 64)) (Some (n * 10 + (b - 48))) None
