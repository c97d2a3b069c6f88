-- What is printed as pairs of digits reads back as the same bytes.
use Rattle.std.specs.Prelude.{◌≡◌, refl, Bool, true, false, List, [], ◌∷◌, ℕ, suc, ◌+◌, ◌*◌, ◌/◌, ◌%◌, ◌<◌, ◌≤◌, get_or, leb, ltb}
use Rattle.std.proofs.Common.{ap₂, arith, ltb-true, ltb-false, le-leb}
use Rattle.std.proofs.lemmas.Bool.{lt-leb}
use Rattle.numbers.specs.Choice.{pick}
use Rattle.script.specs.Hex.{nibble_of, glyph_of, bytes_of, text_of}

nibble-glyph : (n : ℕ) → n < 16 → nibble_of (glyph_of n) ≡ n
unfolding nibble_of glyph_of
nibble-glyph n h = go (ltb n 10) refl
  where
    go : (t : Bool) → ltb n 10 ≡ t → pick (leb (pick t (48 + n) (87 + n)) 57) (pick t (48 + n) (87 + n) % 16) ((pick t (48 + n) (87 + n) % 16 + 9) % 16) ≡ n
    go true e = let m : n < 10 = ltb-true _ _ e in let l : 48 + n ≤ 57 = omega arith in rw (le-leb (48 + n) 57 l) (omega arith)
    go false e = let l : 57 < 87 + n = omega arith in let m : 10 ≤ n = ltb-false _ _ e in rw (lt-leb (87 + n) 57 l) (omega arith)

pub text-read : (bs : List ℕ) → ((k : ℕ) → get_or bs k 0 < 256) → bytes_of (text_of bs) ≡ bs
unfolding bytes_of text_of
text-read [] h = refl
text-read (b ∷ bs) h =
    let small : b < 256 = h 0 in
    let high = nibble-glyph (b / 16) (omega arith) in
    let low = nibble-glyph (b % 16) (omega arith) in
    let whole : nibble_of (glyph_of (b / 16)) * 16 + nibble_of (glyph_of (b % 16)) ≡ b = rw (high, low) (omega arith) in
    ap₂ ◌∷◌ whole (text-read bs (λ (k : ℕ). h (suc k)))
