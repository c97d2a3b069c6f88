-- Words of a line: runs of bytes that are not blank.
use Rattle.std.specs.Prelude.{Bool, true, false, not, ◌&&◌, ◌||◌, List, [], ◌∷◌, ℕ, suc, ◌+◌, length, take, drop, eqb, ltb}
use Rattle.std.specs.Bool.{beq}
use Rattle.byte_parts.specs.Bytes.{index_of}
use Rattle.numbers.specs.Choice.{pick}
use Rattle.script.specs.declared.words.Word.{Word}

-- space, tab, carriage return
unfoldable pub is_blank : ℕ → Bool
is_blank b = eqb b 32 || (eqb b 9 || eqb b 13)

-- how many bytes at the front are all blank, or all not
unfoldable pub run_of : Bool → List ℕ → ℕ
run_of blank [] = 0
run_of blank (b ∷ bs) = pick (beq (is_blank b) blank) (suc (run_of blank bs)) 0

-- a line without a word: blanks alone, up to its end or its comment
unfoldable pub no_word : List ℕ → Bool
no_word [] = true
no_word (b ∷ bs) = eqb b 35 || (is_blank b && no_word bs)

-- the line up to its first `#`
unfoldable pub before_comment : List ℕ → List ℕ
before_comment line = take (index_of 35 line) line

-- there is a `#`
unfoldable pub has_comment : List ℕ → Bool
has_comment line = ltb (index_of 35 line) (length line)

-- the first byte is one of a word
unfoldable pub goes_on : List ℕ → Bool
goes_on [] = false
goes_on (b ∷ bs) = not (is_blank b)

-- a byte in front of words: the first of a word that goes on, or a word of its own
unfoldable pub joined : Bool → ℕ → List (List ℕ) → List (List ℕ)
joined true b (w ∷ ws) = (b ∷ w) ∷ ws
joined true b [] = (b ∷ []) ∷ []
joined false b ws = (b ∷ []) ∷ ws

-- the words
unfoldable pub words_of : List ℕ → List (List ℕ)
words_of [] = []
words_of (b ∷ bs) = pick (is_blank b) (words_of bs) (joined (goes_on bs) b (words_of bs))

-- there are none
unfoldable pub none : List (List ℕ) → Bool
none [] = true
none (w ∷ ws) = false

-- where a word ends that starts at a place
unfoldable pub word_from : List ℕ → ℕ → Word
word_from s start = record { start = start; end = start + run_of false (drop start s) }

-- where the next word stands
unfoldable pub next_word : List ℕ → ℕ → Word
next_word s from = word_from s (from + run_of true (drop from s))
