-- "bytes as hex pairs with no spaces".
use Rattle.std.specs.Prelude.{Bool, true, false, ◌&&◌, List, [], ◌∷◌, ℕ, ◌+◌, ◌*◌, ◌/◌, ◌%◌, length, leb, ltb, eqb}
use Rattle.numbers.specs.Choice.{pick}

-- `0` to `9`, `A` to `F`, `a` to `f`
unfoldable pub is_hex_digit : ℕ → Bool
is_hex_digit b = pick (leb b 57) (leb 48 b) (pick (leb b 70) (leb 65 b) (pick (leb 97 b) (leb b 102) false))

-- every byte is a digit
unfoldable pub all_hex : List ℕ → Bool
all_hex [] = true
all_hex (b ∷ bs) = is_hex_digit b && all_hex bs

-- pairs of digits
unfoldable pub is_hex : List ℕ → Bool
is_hex w = eqb (length w % 2) 0 && all_hex w

-- what a digit says: `0` is 48, `A` is 65 and `a` is 97
unfoldable pub nibble_of : ℕ → ℕ
nibble_of b = pick (leb b 57) (b % 16) ((b % 16 + 9) % 16)

-- the bytes that pairs say
unfoldable pub bytes_of : List ℕ → List ℕ
bytes_of [] = []
bytes_of (a ∷ []) = []
bytes_of (a ∷ b ∷ ds) = (nibble_of a * 16 + nibble_of b) ∷ bytes_of ds

-- the digit of a number below 16
unfoldable pub glyph_of : ℕ → ℕ
glyph_of n = pick (ltb n 10) (48 + n) (87 + n)

-- the pairs of bytes
unfoldable pub text_of : List ℕ → List ℕ
text_of [] = []
text_of (b ∷ bs) = glyph_of (b / 16) ∷ glyph_of (b % 16) ∷ text_of bs
