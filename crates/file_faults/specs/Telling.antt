-- Lines told one behind the other, each into its four words of the lent listing.
use Rattle.std.specs.Prelude.{◌≡◌, ◌∷◌, ◌+◌, ◌*◌, ◌/◌}
use Rattle.numbers.specs.Parts.{put_at}
use Rattle.rules.specs.Base.{List, [], ℕ, suc, length, ltb, pick}
use Rattle.file_faults.specs.Types.{Fault}
use Rattle.faults.specs.Faults.{line_words}

-- line k in its four words, if the listing has them
unfoldable pub put_line : ℕ → Fault → List ℕ → List ℕ
put_line k x words = pick (ltb k (length words / 4)) (put_at words (4 * k) (line_words x)) words

-- lines from line k on
unfoldable pub told_from : ℕ → List Fault → List ℕ → List ℕ
told_from k [] words = words
told_from k (x ∷ xs) words = told_from (suc k) xs (put_line k x words)

-- behind k lines these were told; so many there are now
pub record Tells (k : ℕ) (xs : List Fault) (before after : List ℕ) (n : ℕ) : Type 0 where
  pub count : n ≡ k + length xs
  pub words : after ≡ told_from k xs before

-- of all lines behind k the first are told, n lines stand there, and the rest is still to be told
pub record Going (k : ℕ) (all : List Fault) (before : List ℕ) (n : ℕ) (rest : List Fault) (now : List ℕ) : Type 0 where
  pub count : n + length rest ≡ k + length all
  pub words : told_from n rest now ≡ told_from k all before
