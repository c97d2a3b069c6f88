-- What a line asks for.
use Rattle.std.specs.Prelude.{◌≡◌, ◌≤◌, Bool, true, false, ◌&&◌, ◌||◌, List, [], ◌∷◌, ℕ, zero, suc, ◌/◌, length, drop, replicate, leb, None, Some}
use Rattle.numbers.specs.Choice.{pick}
use Rattle.numbers.specs.Parts.{front}
use Rattle.script.specs.Answers.{Parsed}
use Rattle.script.specs.declared.Keyword.{Keyword}
use Rattle.script.specs.declared.Keyword.TheVariants.{Blank, Bad}
use Rattle.script.specs.declared.Order.{Order}
use Rattle.script.specs.declared.Shape.{Shape}
use Rattle.script.specs.Decimal.{number_of}
use Rattle.script.specs.Hex.{is_hex, bytes_of}
use Rattle.script.specs.Names.{same_bytes, keyword_of}
use Rattle.script.specs.Shapes.{shape_of}
use Rattle.script.specs.Words.{before_comment, has_comment, words_of, none}

-- a command: its keyword, nine numbers and its bytes
pub record Asked : Type 0 where
  pub keyword : Keyword
  pub numbers : List ℕ
  pub bytes : List ℕ

-- nine zeros
abbrev pub no_numbers : List ℕ
no_numbers = replicate 9 0

-- a keyword alone
abbrev pub bare : Keyword → Asked
bare k = record { keyword = k; numbers = no_numbers; bytes = [] }

-- ---- numbers
-- a number is said
abbrev pub is_said : Parsed → Bool
is_said (Some n) = true
is_said None = false

-- the number that is said
abbrev pub said_in : Parsed → ℕ
said_in (Some n) = n
said_in None = 0

-- the first n words are there and are numbers
unfoldable pub numbered : ℕ → List (List ℕ) → Bool
numbered zero ws = true
numbered (suc n) [] = false
numbered (suc n) (w ∷ ws) = is_said (number_of w) && numbered n ws

-- the numbers of the first n words
unfoldable pub numbers_in : ℕ → List (List ℕ) → List ℕ
numbers_in zero ws = []
numbers_in (suc n) [] = []
numbers_in (suc n) (w ∷ ws) = said_in (number_of w) ∷ numbers_in n ws

-- the first n words of a text are numbers, and the other words stand from `next` on
pub record Behind (n : ℕ) (ws : List (List ℕ)) (text values : List ℕ) (next : ℕ) : Type 0 where
  pub tested : numbered n ws ≡ true
  pub said : values ≡ front (numbers_in n ws) no_numbers
  pub rest : words_of (drop next text) ≡ drop n ws
  pub within : next ≤ length text

-- ---- bytes
-- `-`, or hex pairs that fit the room
unfoldable pub says_bytes : ℕ → List ℕ → Bool
says_bytes room w = same_bytes w (45 ∷ []) || (leb (length w / 2) room && is_hex w)

-- the words behind the numbers are as they have to be: none, or one of bytes
unfoldable pub ends_well : ℕ → Bool → List (List ℕ) → Bool
ends_well room false ws = none ws
ends_well room true [] = false
ends_well room true (w ∷ ws) = says_bytes room w && none ws

-- the bytes that they say; `-` says none
unfoldable pub bytes_in : Bool → List (List ℕ) → List ℕ
bytes_in false ws = []
bytes_in true [] = []
bytes_in true (w ∷ ws) = bytes_of w

-- ---- a line
-- a keyword with its numbers, given the words behind them
unfoldable pub ended_by : ℕ → Bool → Keyword → List ℕ → List (List ℕ) → Asked
ended_by room bytes k n ws = pick (ends_well room bytes ws) (record { keyword = k; numbers = n; bytes = bytes_in bytes ws }) (bare Bad)

-- a keyword of a shape, given the words behind it
unfoldable pub shaped_by : ℕ → Keyword → Shape → List (List ℕ) → Asked
shaped_by room k s ws = pick (numbered s.numbers ws) (ended_by room s.bytes k (front (numbers_in s.numbers ws) no_numbers) (drop s.numbers ws)) (bare Bad)

-- the words of a line, which has a comment or not
unfoldable pub asked_in : ℕ → Bool → List (List ℕ) → Asked
asked_in room comment [] = bare (pick comment Blank Bad)
asked_in room comment (w ∷ ws) = shaped_by room (keyword_of w) (shape_of (keyword_of w)) ws

-- a line, where there is room for so many bytes
unfoldable pub asked_by : ℕ → List ℕ → Asked
asked_by room line = asked_in room (has_comment line) (words_of (before_comment line))

-- the order for it: its bytes stand in the buffer
unfoldable pub order_for : Asked → Order
order_for a = record { keyword = a.keyword; numbers = a.numbers; length = length a.bytes }
