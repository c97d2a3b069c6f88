-- "Positions": raw locations, the batch bit and the shard number, in plain arithmetic.
use Rattle.std.specs.Prelude.{ℕ, zero, suc, ◌+◌, ◌*◌, ◌/◌, ◌%◌, ◌^◌, Bool, true, false, ltb, eqb, None, Some}
use Rattle.numbers.specs.Choice.{pick}
use Rattle.disk_location.specs.Answers.{Located, RelativeLocated}

-- 1 for a delete
abbrev pub bit_of : Bool → ℕ
bit_of true = 1
bit_of false = 0

-- "twice the position, plus 1 for a delete"
abbrev pub raw_of : ℕ → Bool → ℕ
raw_of position delete = position * 2 + bit_of delete

-- the position of a raw location
abbrev pub position_of : ℕ → ℕ
position_of raw = raw / 2

-- its delete mark
abbrev pub delete_of : ℕ → Bool
delete_of raw = eqb (raw % 2) 1

-- "20 refuses a position or sum of 2^63 or more, and absolute raw 0"
abbrev pub located_at : ℕ → Bool → Located
located_at position delete =
    pick (ltb position (2 ^ 63))
    (pick (eqb (raw_of position delete) 0) None (Some (record { 0 = raw_of position delete })))
    None

-- "20 refuses a position of 2^63 or more"; "relative raw 0 is fine"
abbrev pub relative_at : ℕ → Bool → RelativeLocated
relative_at position delete = pick (ltb position (2 ^ 63)) (Some (record { 0 = raw_of position delete })) None

-- what an answer is by the paper: 0 and the raw location, or a refusal's number
pub record Told : Type 0 where
  pub number : ℕ
  pub raw : ℕ

abbrev pub told : Located → Told
told (Some l) = record { number = 0; raw = l.0 }
told None = record { number = 20; raw = 0 }

abbrev pub relative_told : RelativeLocated → Told
relative_told (Some l) = record { number = 0; raw = l.0 }
relative_told None = record { number = 20; raw = 0 }

-- "clearing one bit", 2^62: what stands below it and what stands above
unfoldable pub masked_of : ℕ → ℕ
masked_of x = x % 2 ^ 62 + x / 2 ^ 63 * 2 ^ 63

-- "carries the batch bit, 2^62": the bit is there, whether it was before or not
unfoldable pub batch_of : ℕ → ℕ
batch_of x = masked_of x + 2 ^ 62

-- how many binary digits x has, at most k: halving until nothing is left
unfoldable pub digits_in : ℕ → ℕ → ℕ
digits_in zero x = zero
digits_in (suc k) zero = zero
digits_in (suc k) (suc n) = suc (digits_in k (suc n / 2))

-- "the shard number is how many bits the length needs"
abbrev pub shard_of : ℕ → ℕ
shard_of x = digits_in 64 x
