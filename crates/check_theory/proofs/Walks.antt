-- Request P5: which object of a walk can pass T, and where the lines stand in the lent listing.
use Rattle.std.specs.Prelude.{◌≡◌, refl, ◌<◌, ◌≤◌, ◌∷◌, ◌++◌, ◌+◌, ◌*◌, ◌/◌}
use Rattle.std.proofs.Common.{sym, ◌∙◌, subst, append_assoc, drop_of_length-le, get_or-take, drop-drop, ltb-true}
use Rattle.std.proofs.Math.Path.{ap}
use native.Mathlib.Omega.{arith}
use Rattle.std.proofs.Math.ListN.{length-take}
use Rattle.std.proofs.Math.Seq.{take_at, drop_at}
use Rattle.numbers.specs.Parts.{front, front_length}
use Rattle.rules.specs.Base.{true, List, [], ℕ, zero, suc, length, get_or, take, drop, each}
use Rattle.rules.specs.Refusal.{number_of}
use Rattle.rules.specs.Object.{Stored, stored_at, objects_from, objects_in}
use Rattle.rules.proofs.ObjectLaws.{objects-none}
use Rattle.check_theory.specs.Types.{Place, Nowhere, Object, Fault}
use Rattle.faults.specs.Faults.{passes, place_words, line_words, listing}
use Rattle.check_theory.specs.Walks.{OnlyLast, fitting}

from_last : (k position : ℕ) (bytes : List ℕ) → OnlyLast (objects_from k position bytes)
unfolding objects_from stored_at
from_last zero position bytes = tt
from_last (suc k) position [] = tt
from_last (suc k) position (b ∷ bs) =
    let o = stored_at position (b ∷ bs) in
    let end = 20 + o.size in (
      λ h.
          let past = ltb-true (length (b ∷ bs)) end h in
          let long : length (b ∷ bs) ≤ end = omega arith in
          ap (objects_from k (position + end)) (drop_of_length-le (b ∷ bs) {i = end} long) ∙ objects-none k (position + end),
      from_last k (position + end) (drop end (b ∷ bs)),
    )

split-last : (before : List Stored) (o : Stored) (behind : List Stored) → OnlyLast (before ++ (o ∷ behind)) → passes o ≡ true → behind ≡ []
split-last [] o behind l h = l.0 h
split-last (c ∷ before) o behind l h = split-last before o behind l.1 h

-- LAW: only the last object of a walk can pass T
pub only-last-passes : (bytes : List ℕ) (before : List Stored) (o : Stored) (behind : List Stored)
    → objects_in bytes ≡ before ++ (o ∷ behind) → passes o ≡ true → behind ≡ []
unfolding objects_in
only-last-passes bytes before o behind e h = split-last before o behind (subst OnlyLast e (from_last (length bytes) 0 bytes)) h

-- four words to a line
line-words : (x : Fault) (ys : List ℕ) → (take 4 (line_words x ++ ys) ≡ line_words x) × (drop 4 (line_words x ++ ys) ≡ ys) × (length (line_words x ++ ys) ≡ 4 + length ys)
line-words x ys = go x.place
  where
    go : (p : Place)
        → (take 4 (x.slot ∷ number_of x.refusal ∷ (place_words p ++ ys)) ≡ x.slot ∷ number_of x.refusal ∷ place_words p)
        × (drop 4 (x.slot ∷ number_of x.refusal ∷ (place_words p ++ ys)) ≡ ys)
        × (length (x.slot ∷ number_of x.refusal ∷ (place_words p ++ ys)) ≡ 4 + length ys)
    go Nowhere = (refl, refl, omega arith)
    go (Object n) = (refl, refl, omega arith)

lines-length : (xs : List Fault) → length (each line_words xs) ≡ 4 * length xs
unfolding each
lines-length [] = refl
lines-length (x ∷ xs) = omega (arith, (line-words x (each line_words xs)).2, lines-length xs)

lines_fit : (faults : List Fault) (buffer : List ℕ) → length (each line_words (fitting faults buffer)) ≤ length buffer
lines_fit faults buffer = omega (arith, lines-length (fitting faults buffer), length-take (length buffer / 4) faults)

-- line i among lines
line_at : (xs : List Fault) (rest : List ℕ) (d : Fault) (i : ℕ) → i < length xs → take 4 (drop (4 * i) (each line_words xs ++ rest)) ≡ line_words (get_or xs i d)
unfolding each
line_at [] rest d i h = absurd (let z : i < 0 = h in omega arith)
line_at (x ∷ xs) rest d zero h = ap (take 4) (append_assoc (line_words x) (each line_words xs) rest) ∙ (line-words x (each line_words xs ++ rest)).0
line_at (x ∷ xs) rest d (suc i) h =
    let all = line_words x ++ (each line_words xs ++ rest) in
    let n : 4 * suc i ≡ 4 + 4 * i = omega arith in
    ap (λ (m : ℕ). take 4 (drop m ((line_words x ++ each line_words xs) ++ rest))) n
    ∙ ap (λ (s : List ℕ). take 4 (drop (4 + 4 * i) s)) (append_assoc (line_words x) (each line_words xs) rest)
    ∙ ap (take 4) (sym (drop-drop (4 * i) 4 all))
    ∙ ap (λ (s : List ℕ). take 4 (drop (4 * i) s)) (line-words x (each line_words xs ++ rest)).1
    ∙ line_at xs rest d i (omega arith)

module _ (faults : List Fault) (buffer : List ℕ) where
  -- LAW: as many words as before
  pub listing-length : length (listing faults buffer) ≡ length buffer
  unfolding listing
  listing-length = front_length buffer (each line_words (fitting faults buffer)) (lines_fit faults buffer)

  -- LAW: "gives the lines that fit, in order": the first words are theirs, four to a line
  pub listing-lines : take (4 * length (fitting faults buffer)) (listing faults buffer) ≡ each line_words (fitting faults buffer)
  unfolding listing front
  listing-lines = take_at (each line_words (fitting faults buffer)) _ (4 * length (fitting faults buffer)) (lines-length (fitting faults buffer))

  -- LAW: every word behind them is as it was
  pub listing-stays : drop (4 * length (fitting faults buffer)) (listing faults buffer) ≡ drop (4 * length (fitting faults buffer)) buffer
  unfolding listing front
  listing-stays =
      drop_at (each line_words (fitting faults buffer)) _ (4 * length (fitting faults buffer)) (lines-length (fitting faults buffer))
      ∙ ap (λ (n : ℕ). drop n buffer) (lines-length (fitting faults buffer))

  -- LAW: line i, where it fits, stands at words 4i to 4i + 3
  pub listing-line : (d : Fault) (i : ℕ) → i < length faults → 4 * i + 4 ≤ length buffer → take 4 (drop (4 * i) (listing faults buffer)) ≡ line_words (get_or faults i d)
  unfolding listing front
  listing-line d i h room =
      let low : i < length buffer / 4 = omega arith in
      line_at (fitting faults buffer) _ d i (omega (arith, length-take (length buffer / 4) faults)) ∙ ap line_words (get_or-take (length buffer / 4) faults i d low)
