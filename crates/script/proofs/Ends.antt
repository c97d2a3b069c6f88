-- What a line's words ask for, found step by step.
use mathlib.Core.Path.{◌≡◌, refl, sym, ap, ap₂, ◌∙◌}
use mathlib.Core.Bool.{Bool, true, false, ◌&&◌}
use mathlib.Core.List.{List, [], ◌∷◌}
use Prim.Native.Nat.{ℕ, ◌+◌, ◌-◌, ◌/◌, ◌≤◌}
use native.Mathlib.Nat.{sub-zero, zero-add}
use native.Mathlib.Omega.{arith}
use lib.ListN.{length, take, drop, length-drop}
use lib.Seq.{take_all, length-take-le}
use lib.Dec.{ltb}
use Rattle.byte_parts.specs.Bytes.{slice, index_of}
use Rattle.numbers.specs.Choice.{pick}
use Rattle.numbers.specs.Parts.{front, front_length}
use Rattle.script.specs.declared.Keyword.{Keyword}
use Rattle.script.specs.declared.Keyword.TheVariants.{Blank, Bad}
use Rattle.script.specs.declared.Order.{Order}
use Rattle.script.specs.declared.Shape.{Shape}
use Rattle.script.specs.Hex.{bytes_of}
use Rattle.script.specs.Names.{keyword_of}
use Rattle.script.specs.Shapes.{shape_of}
use Rattle.script.specs.Words.{before_comment, has_comment, words_of, none}
use Rattle.script.specs.Asked.{Asked, no_numbers, bare, numbered, numbers_in, says_bytes, ends_well, bytes_in, ended_by, shaped_by, asked_in, asked_by, order_for, Behind}
use Rattle.script.specs.AskedLaws.{bytes-length, asked-fits}

-- ---- the order for what is asked, and the buffer with its bytes
abbrev pub Given : Asked → List ℕ → Order → List ℕ → Type 0
Given a before r after = (r ≡ order_for a) × (after ≡ front a.bytes before)

-- a keyword alone leaves the buffer
pub given-bare : (a : Asked) (k : Keyword) (before : List ℕ) (r : Order) → a ≡ bare k → r ≡ order_for (bare k) → Given a before r before
unfolding front
given-bare a k before r e q = rw e (q, refl)

pub given-same : (a b : Asked) (before : List ℕ) (r : Order) (after : List ℕ) → b ≡ a → Given a before r after → Given b before r after
given-same a b before r after e g = rw e g

module _ (room : ℕ) (k : Keyword) (n : List ℕ) (ws : List (List ℕ)) where
  pub bytes-missing : ws ≡ [] → ended_by room true k n ws ≡ bare Bad
  unfolding ended_by ends_well
  bytes-missing e = rw e refl

  -- what the words behind the numbers leave
  ended_is : (t : Bool) → ends_well room true ws ≡ t → ended_by room true k n ws ≡ pick t (record { keyword = k; numbers = n; bytes = bytes_in true ws }) (bare Bad)
  unfolding ended_by
  ended_is t e = ap (λ (x : Bool). pick x (record { keyword = k; numbers = n; bytes = bytes_in true ws }) (bare Bad)) e

  module _ (w : List ℕ) (more : List (List ℕ)) (e : ws ≡ w ∷ more) where
    ends_is : ends_well room true ws ≡ (says_bytes room w && none more)
    unfolding ends_well
    ends_is = ap (ends_well room true) e

    pub bytes-wrong : says_bytes room w ≡ false → ended_by room true k n ws ≡ bare Bad
    bytes-wrong q = ended_is false (ends_is ∙ ap (λ (t : Bool). t && none more) q)

    pub bytes-not-last : says_bytes room w ≡ true → none more ≡ false → ended_by room true k n ws ≡ bare Bad
    bytes-not-last q p = ended_is false (ends_is ∙ ap₂ ◌&&◌ q p)

    pub bytes-last : says_bytes room w ≡ true → none more ≡ true → ended_by room true k n ws ≡ record { keyword = k; numbers = n; bytes = bytes_of w }
    unfolding bytes_in
    bytes-last q p = ended_is true (ends_is ∙ ap₂ ◌&&◌ q p) ∙ ap (λ (x : List (List ℕ)). record { keyword = k; numbers = n; bytes = bytes_in true x }) e

  pub plain-given : (before : List ℕ) (r : Order) → r ≡ order_for (ended_by 0 false k n ws) → Given (ended_by room false k n ws) before r before
  unfolding ended_by ends_well bytes_in front
  plain-given before r q = (q, go (none ws))
    where
      go : (t : Bool) → before ≡ front (pick t (record { keyword = k; numbers = n; bytes = [] }) (bare Bad)).bytes before
      go true = refl
      go false = refl

-- a word's bytes stand in the buffer, so many as its pairs
pub given-bytes : (a : Asked) (k : Keyword) (n s : List ℕ) (start end : ℕ) (before after : List ℕ) → start ≤ end → end ≤ length s
    → a ≡ record { keyword = k; numbers = n; bytes = bytes_of (take (end - start) (drop start s)) } → after ≡ front (bytes_of (take (end - start) (drop start s))) before
    → Given a before (record { keyword = k; numbers = n; length = (end - start) / 2 }) after
unfolding order_for
given-bytes a k n s start end before after h l e q =
    let w = take (end - start) (drop start s) in
    let size : length w ≡ end - start = length-take-le (end - start) (drop start s) (omega (arith, length-drop start s)) in
    rw e (ap (λ (m : ℕ). record { keyword = k; numbers = n; length = m }) (sym (bytes-length w ∙ ap (λ (m : ℕ). m / 2) size)), q)

-- ---- the words of a line
module _ (room : ℕ) (comment : Bool) (ws : List (List ℕ)) where
  pub asked-none : ws ≡ [] → asked_in room comment ws ≡ bare (pick comment Blank Bad)
  unfolding asked_in
  asked-none e = rw e refl

  module _ (w : List ℕ) (more : List (List ℕ)) (k : Keyword) (s : Shape) (e : ws ≡ w ∷ more) (q : k ≡ keyword_of w) (p : s ≡ shape_of k) where
    shaped : asked_in room comment ws ≡ shaped_by room k s more
    unfolding asked_in
    shaped = ap (asked_in room comment) e ∙ ap (λ (j : Keyword). shaped_by room j (shape_of j) more) (sym q) ∙ ap (λ (x : Shape). shaped_by room k x more) (sym p)

    pub asked-wrong : numbered s.numbers more ≡ false → asked_in room comment ws ≡ bare Bad
    unfolding shaped_by
    asked-wrong h = shaped ∙ ap (λ (t : Bool). pick t (ended_by room s.bytes k (front (numbers_in s.numbers more) no_numbers) (drop s.numbers more)) (bare Bad)) h

    pub asked-on : (bytes : Bool) (text values : List ℕ) (next : ℕ) → Behind s.numbers more text values next → s.bytes ≡ bytes
        → asked_in room comment ws ≡ ended_by room bytes k values (words_of (drop next text))
    unfolding shaped_by
    asked-on bytes text values next r b = shaped ∙ rw (r.tested, b, r.said, r.rest) refl

-- ---- the line up to its comment
pub asked-whole : (room : ℕ) (line : List ℕ) (e : ℕ) → e ≡ 0 + index_of 35 (slice 0 (length line) line)
    → asked_by room line ≡ asked_in room (ltb e (length line)) (words_of (take (e - 0) line))
unfolding asked_by before_comment has_comment slice
asked-whole room line e q =
    let same : e ≡ index_of 35 line = q ∙ zero-add (index_of 35 (take (length line) line)) ∙ ap (index_of 35) (take_all (length line) line (omega arith)) in
    rw (sub-zero e, same) refl

-- the order's bytes are within the buffer
pub given-within : (room : ℕ) (line before : List ℕ) (r : Order) (after : List ℕ) → room ≡ length before → Given (asked_by room line) before r after → r.length ≤ length after
unfolding order_for
given-within room line before r after h g =
    let fit = asked-fits room line in
    let size : r.length ≡ length (asked_by room line).bytes = ap (λ (o : Order). o.length) g.0 in
    let whole : length after ≡ length before = ap length g.1 ∙ front_length before (asked_by room line).bytes (omega arith) in
    omega arith
