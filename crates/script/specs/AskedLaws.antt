-- What holds of what a line asks for.
use Rattle.std.specs.Prelude.{◌≡◌, refl, Bool, true, false, ◌&&◌, ◌||◌, List, [], ◌∷◌, ◌⊎◌, ℕ, ◌/◌, ◌≤◌, length, take, drop, eqb, leb}
use Rattle.std.proofs.Common.{sym, ap, ◌∙◌, true≢false, inl, inr, arith, leb-true}
use Rattle.byte_parts.specs.Bytes.{index_of, index_after}
use Rattle.numbers.specs.Choice.{pick}
use Rattle.numbers.specs.Parts.{front}
use Rattle.script.specs.declared.Keyword.{Keyword}
use Rattle.script.specs.declared.Keyword.TheVariants.{Blank, Bad}
use Rattle.script.specs.declared.Shape.{Shape}
use Rattle.script.specs.Hex.{is_hex, bytes_of}
use Rattle.script.specs.Names.{same_bytes, keyword_of}
use Rattle.script.specs.Shapes.{shape_of}
use Rattle.script.specs.Words.{is_blank, no_word, before_comment, has_comment, goes_on, joined, words_of, none}
use Rattle.script.specs.Asked.{no_numbers, bare, numbered, numbers_in, says_bytes, ends_well, bytes_in, ended_by, shaped_by, asked_in, asked_by}

-- two digits a byte
pub bytes-length : (w : List ℕ) → length (bytes_of w) ≡ length w / 2
unfolding bytes_of
bytes-length [] = refl
bytes-length (a ∷ []) = refl
bytes-length (a ∷ b ∷ ds) = omega (arith, bytes-length ds)

no_longer : (t : Bool) → (t && false) ≡ true → ⊥
no_longer true e = true≢false (sym e)
no_longer false e = true≢false (sym e)

-- `-` is one byte
dash-short : (w : List ℕ) → same_bytes w (45 ∷ []) ≡ true → length w ≤ 1
unfolding same_bytes
dash-short [] e = omega arith
dash-short (a ∷ []) e = omega arith
dash-short (a ∷ b ∷ w) e = absurd (no_longer (eqb a 45) e)

-- a word of bytes fits the room
pub says-fit : (room : ℕ) (w : List ℕ) → says_bytes room w ≡ true → length w / 2 ≤ room
unfolding says_bytes
says-fit room w e = go (same_bytes w (45 ∷ [])) (leb (length w / 2) room) refl refl e
  where
    go : (t u : Bool) → same_bytes w (45 ∷ []) ≡ t → leb (length w / 2) room ≡ u → (t || (u && is_hex w)) ≡ true → length w / 2 ≤ room
    go true u s l e = omega (arith, dash-short w s)
    go false true s l e = leb-true _ _ l
    go false false s l e = absurd (true≢false (sym e))

ended-fits : (room : ℕ) (bytes : Bool) (k : Keyword) (n : List ℕ) (ws : List (List ℕ)) → length (ended_by room bytes k n ws).bytes ≤ room
unfolding ended_by ends_well bytes_in
ended-fits room false k n ws = go (none ws)
  where
    go : (t : Bool) → length (pick t (record { keyword = k; numbers = n; bytes = [] }) (bare Bad)).bytes ≤ room
    go true = omega arith
    go false = omega arith
ended-fits room true k n [] = omega arith
ended-fits room true k n (w ∷ ws) = go (says_bytes room w) refl (none ws)
  where
    go : (t : Bool) → says_bytes room w ≡ t → (u : Bool) → length (pick (t && u) (record { keyword = k; numbers = n; bytes = bytes_of w }) (bare Bad)).bytes ≤ room
    go true e true = omega (arith, bytes-length w, says-fit room w e)
    go true e false = omega arith
    go false e u = omega arith

shaped-fits : (room : ℕ) (k : Keyword) (s : Shape) (ws : List (List ℕ)) → length (shaped_by room k s ws).bytes ≤ room
unfolding shaped_by
shaped-fits room k s ws = go (numbered s.numbers ws)
  where
    n : List ℕ
    n = front (numbers_in s.numbers ws) no_numbers

    go : (t : Bool) → length (pick t (ended_by room s.bytes k n (drop s.numbers ws)) (bare Bad)).bytes ≤ room
    go true = ended-fits room s.bytes k n (drop s.numbers ws)
    go false = omega arith

words-fit : (room : ℕ) (comment : Bool) (ws : List (List ℕ)) → length (asked_in room comment ws).bytes ≤ room
unfolding asked_in
words-fit room comment [] = omega arith
words-fit room comment (w ∷ ws) = shaped-fits room (keyword_of w) (shape_of (keyword_of w)) ws

-- the bytes of a line fit the room
pub asked-fits : (room : ℕ) (line : List ℕ) → length (asked_by room line).bytes ≤ room
unfolding asked_by
asked-fits room line = words-fit room (has_comment line) (words_of (before_comment line))

-- ---- a line without a word
no_words : (s : List ℕ) → no_word s ≡ true → words_of (take (index_of 35 s) s) ≡ []
unfolding no_word words_of index_of index_after
no_words [] h = refl
no_words (b ∷ bs) h = go (eqb b 35) (is_blank b) refl (no_words bs) h
  where
    go : (t u : Bool) → is_blank b ≡ u → (no_word bs ≡ true → words_of (take (index_of 35 bs) bs) ≡ []) → t || (u && no_word bs) ≡ true → words_of (take (index_after t (index_of 35 bs)) (b ∷ bs)) ≡ []
    go true u q more h = refl
    go false true q more h =
        let rest = take (index_of 35 bs) bs in
        ap (λ (x : Bool). pick x (words_of rest) (joined (goes_on rest) b (words_of rest))) q ∙ more h
    go false false q more h = absurd (true≢false (sym h))

either : (comment : Bool) → (pick comment Blank Bad ≡ Blank) ⊎ (pick comment Blank Bad ≡ Bad)
either true = inl refl
either false = inr refl

-- LAW: an empty line, blanks alone or a comment ask for nothing
pub wordless-asked : (room : ℕ) (line : List ℕ) → no_word line ≡ true → ((asked_by room line).keyword ≡ Blank) ⊎ ((asked_by room line).keyword ≡ Bad)
unfolding asked_by asked_in before_comment
wordless-asked room line h = rw (no_words line h) (either (has_comment line))
