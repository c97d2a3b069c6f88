-- Lines told one behind the other, each into its four words of the lent listing.
use Rattle.std.specs.Prelude.{◌≡◌, Bool, true, false, ◌⊎◌, ◌≤◌, ◌<◌, ◌∷◌, ◌++◌, ◌+◌, ◌-◌, ◌*◌, ◌/◌}
use Rattle.std.proofs.Math.Path.{refl, sym}
use Rattle.std.proofs.Common.{ap, ap₂, ◌∙◌, subst, inl, inr, zero-le, arith, add-zero, lt-ltb, le-ltb, length-append}
use Rattle.std.proofs.Math.Nat.{sub-zero}
use Rattle.std.proofs.Math.Seq.{take-nil}
use Rattle.numbers.specs.GroupLaws.{either_way}
use Rattle.numbers.specs.Parts.{put_at, put_front, put-none, put-put, put-length}
use Rattle.rules.specs.Base.{List, [], ℕ, suc, length, take, each}
use Rattle.rules.specs.Refusal.{number_of}
use Rattle.file_faults.specs.Types.{Place, Nowhere, Object, Fault}
use Rattle.std.specs.Option.{is_some, unwrap_or}
use Rattle.std.specs.Int.{from_bool}
use borrow.Rule.Slice.PartMut.{put_mid}
use lib.Seq.{drop-drop}
use Rattle.faults.specs.Faults.{line_if, place_words, line_words, listing}
use Rattle.file_faults.specs.Telling.{put_line, told_from, Tells, Going}

-- ---- one behind the other
told-append : (k : ℕ) (xs ys : List Fault) (words : List ℕ) → told_from k (xs ++ ys) words ≡ told_from (k + length xs) ys (told_from k xs words)
unfolding told_from
told-append k [] ys words = ap (λ (n : ℕ). told_from n ys words) (sym (add-zero k))
told-append k (x ∷ xs) ys words =
    let on : suc k + length xs ≡ k + suc (length xs) = omega arith in
    told-append (suc k) xs ys (put_line k x words) ∙ ap (λ (n : ℕ). told_from n ys (told_from (suc k) xs (put_line k x words))) on

-- nothing is told
pub tells_none : (k : ℕ) (words : List ℕ) → Tells k [] words words k
unfolding told_from
tells_none k words = record { count = sym (add-zero k); words = refl }

-- some lines, and then others
pub tells-then : {k : ℕ} {xs ys : List Fault} {words next last : List ℕ} {m n : ℕ} → Tells k xs words next m → Tells m ys next last n → Tells k (xs ++ ys) words last n
tells-then {k} {xs} {ys} {words} a b = record {
  count = omega (arith, a.count, b.count, length-append xs ys);
  words = b.words ∙ ap₂ (λ (j : ℕ) (w : List ℕ). told_from j ys w) a.count a.words ∙ sym (told-append k xs ys words);
}

-- the same lines
pub tells_as : {k : ℕ} {xs ys : List Fault} {words next : List ℕ} {n : ℕ} → xs ≡ ys → Tells k xs words next n → Tells k ys words next n
tells_as {k} {xs} {ys} {words} {next} {n} e t = subst (λ (zs : List Fault). Tells k zs words next n) e t

-- ---- what is left to tell
module _ {k : ℕ} {all : List Fault} {before : List ℕ} where
  -- all of it
  pub going_start : Going k all before k all before
  going_start = record { count = refl; words = refl }

  module _ {n : ℕ} {now : List ℕ} where
    -- the same lines
    pub going-as : {rest left : List Fault} → rest ≡ left → Going k all before n rest now → Going k all before n left now
    going-as e g = subst (λ (zs : List Fault). Going k all before n zs now) e g

    -- some of them are told
    pub going_on : {xs rest : List Fault} {m : ℕ} {next : List ℕ} → Going k all before n (xs ++ rest) now → Tells n xs now next m → Going k all before m rest next
    going_on {xs} {rest} g t = record {
      count = omega (arith, g.count, t.count, length-append xs rest);
      words = ap₂ (λ (j : ℕ) (w : List ℕ). told_from j rest w) t.count t.words ∙ sym (told-append n xs rest now) ∙ g.words;
    }

    -- all of them are
    pub going-last : {rest : List Fault} {m : ℕ} {next : List ℕ} → Going k all before n rest now → Tells n rest now next m → Tells k all before next m
    going-last {rest} g t = record { count = omega (arith, g.count, t.count); words = t.words ∙ g.words }

-- a place's two words, as the code has them
place-words : (p : Place) → from_bool (is_some p) ∷ unwrap_or p 0 ∷ [] ≡ place_words p
place-words Nowhere = refl
place-words (Object position) = refl

-- a line's four
pub line-words : (x : Fault) (n p q : ℕ) → n ≡ number_of x.refusal → p ≡ from_bool (is_some x.place) → q ≡ unwrap_or x.place 0 → x.slot ∷ n ∷ p ∷ q ∷ [] ≡ line_words x
line-words x n p q a b c = rw (a, b, c) (ap (λ (ws : List ℕ). x.slot ∷ number_of x.refusal ∷ ws) (place-words x.place))

-- a line has four
pub line-length : (x : Fault) → length (line_words x) ≡ 4
line-length x = ap (λ (ws : List ℕ). suc (suc (length ws))) (sym (place-words x.place))

-- the four copied into their part `words[at..at + 4]`
pub part-line : (words ys : List ℕ) (at n : ℕ) (x : Fault) → n ≡ 4 → ys ≡ line_words x → put_mid at n words ys ≡ put_at words at (line_words x)
unfolding put_at
part-line words ys at n x four e = rw (e, four, drop-drop 4 at words, line-length x) refl

module _ (k : ℕ) (x : Fault) (words : List ℕ) where
  line-fits : k < length words / 4 → put_line k x words ≡ put_at words (4 * k) (line_words x)
  unfolding put_line
  line-fits h = rw (lt-ltb k (length words / 4) h) refl

  line-past : length words / 4 ≤ k → put_line k x words ≡ words
  unfolding put_line
  line-past h = rw (le-ltb k (length words / 4) h) refl

  -- it is stored where there is room
  pub tells-here : (after : List ℕ) → k < length words / 4 → after ≡ put_at words (4 * k) (line_words x) → Tells k (x ∷ []) words after (k + 1)
  unfolding told_from
  tells-here after h e = record { count = omega arith; words = e ∙ sym (line-fits h) }

  -- and counted where there is none
  pub tells-past : length words / 4 ≤ k → Tells k (x ∷ []) words words (k + 1)
  unfolding told_from
  tells-past h = record { count = omega arith; words = sym (line-past h) }

-- a condition that does not hold
pub tells-if-not : {k : ℕ} {words : List ℕ} (t : Bool) (x : Fault) → t ≡ false → Tells k (line_if t x) words words k
tells-if-not {k} {words} t x e = tells_as (ap (λ (s : Bool). line_if s x) (sym e)) (tells_none k words)

-- one that does
pub tells-if : {k : ℕ} {words next : List ℕ} {n : ℕ} (t : Bool) (x : Fault) → t ≡ true → Tells k (x ∷ []) words next n → Tells k (line_if t x) words next n
tells-if t x e w = tells_as (ap (λ (s : Bool). line_if s x) (sym e)) w

-- ---- told from the first line on, it is the listing
told-past : (k : ℕ) (xs : List Fault) (words : List ℕ) → length words / 4 ≤ k → told_from k xs words ≡ words
unfolding told_from
told-past k [] words h = refl
told-past k (x ∷ xs) words h = ap (told_from (suc k) xs) (line-past k x words h) ∙ told-past (suc k) xs words (omega arith)

told-put : (k : ℕ) (xs : List Fault) (words : List ℕ) → k ≤ length words / 4
    → told_from k xs words ≡ put_at words (4 * k) (each line_words (take (length words / 4 - k) xs))
unfolding told_from each
told-put k [] words h =
    sym (ap (λ (ys : List Fault). put_at words (4 * k) (each line_words ys)) (take-nil (length words / 4 - k)) ∙ put-none words (4 * k))
told-put k (x ∷ xs) words h = go (told-put (suc k) xs (put_at words (4 * k) (line_words x))) (either_way k (length words / 4))
  where
    next : List ℕ
    next = put_at words (4 * k) (line_words x)

    go : (suc k ≤ length next / 4 → told_from (suc k) xs next ≡ put_at next (4 * suc k) (each line_words (take (length next / 4 - suc k) xs)))
        → (k < length words / 4) ⊎ (length words / 4 ≤ k)
        → told_from (suc k) xs (put_line k x words) ≡ put_at words (4 * k) (each line_words (take (length words / 4 - k) (x ∷ xs)))
    go ih (inl low) =
        let four = line-length x in
        let same : length next ≡ length words = put-length words (4 * k) (line_words x) (omega (arith, four)) in
        let more : length words / 4 - k ≡ suc (length words / 4 - suc k) = omega arith in
        let at : 4 * suc k ≡ 4 * k + length (line_words x) = omega (arith, four) in
        ap (told_from (suc k) xs) (line-fits k x words low)
        ∙ ih (omega (arith, same))
        ∙ ap₂ (λ (n j : ℕ). put_at next j (each line_words (take (n / 4 - suc k) xs))) same at
        ∙ put-put words (4 * k) (line_words x) (each line_words (take (length words / 4 - suc k) xs)) (omega arith)
        ∙ sym (ap (λ (n : ℕ). put_at words (4 * k) (each line_words (take n (x ∷ xs)))) more)
    go ih (inr past) =
        let none : length words / 4 - k ≡ 0 = omega arith in
        told-past k (x ∷ xs) words past
        ∙ sym (ap (λ (n : ℕ). put_at words (4 * k) (each line_words (take n (x ∷ xs)))) none ∙ put-none words (4 * k))

pub told-listing : (xs : List Fault) (words : List ℕ) → told_from 0 xs words ≡ listing xs words
unfolding listing
told-listing xs words =
    told-put 0 xs words zero-le
    ∙ ap (λ (n : ℕ). put_at words 0 (each line_words (take n xs))) (sub-zero (length words / 4))
    ∙ put_front words (each line_words (take (length words / 4) xs))
