-- The lent parts of the two buffers: what goes out, and what comes back.
use mathlib.Core.Path.{◌≡◌, refl, sym, ap, ◌∙◌}
use Prim.Native.Nat.{◌-◌, ◌≤◌}
use native.Mathlib.Omega.{arith}
use native.Mathlib.Nat.{sub-zero}
use borrow.Author.Tests.{ltb-false}
use lib.ListN.{drop_of_length-le, take-append-drop}
use lib.Seq.{take_all}
use Rattle.std.specs.Prelude.{◌++◌}
use Rattle.rules.specs.Base.{Bool, true, false, List, ℕ, length, take, drop, ltb, pick}
use Rattle.desk.specs.Types.{Bench, Turn}
use Rattle.desk.specs.Desk.{Desk, desk, Outcome, left, lent_of, put_back, on_lent}

-- the lesser of two serves as the first, where the first serves as the second from there on
least-serves : (f : ℕ → List ℕ) (a n r : ℕ) → (n ≤ a → f n ≡ f a) → r ≡ pick (ltb a n) a n → f r ≡ f a
least-serves f a n r past e = ap f e ∙ go (ltb a n) refl
  where
    go : (t : Bool) → ltb a n ≡ t → f (pick t a n) ≡ f a
    go true q = refl
    go false q = past (ltb-false a n q)

-- as much as is there of what is to be lent
pub least-take : (a : ℕ) (xs : List ℕ) (r : ℕ) → r ≡ pick (ltb a (length xs)) a (length xs) → take r xs ≡ take a xs
least-take a xs r e = least-serves (λ (k : ℕ). take k xs) a (length xs) r (λ h. take_all (length xs) xs (omega arith) ∙ sym (take_all a xs h)) e

least-drop : (a : ℕ) (xs : List ℕ) (r : ℕ) → r ≡ pick (ltb a (length xs)) a (length xs) → drop r xs ≡ drop a xs
least-drop a xs r e =
    least-serves (λ (k : ℕ). drop k xs) a (length xs) r (λ h. drop_of_length-le xs {i = length xs} (omega arith) ∙ sym (drop_of_length-le xs {i = a} h)) e

-- the lent parts, as `&s[0..h]` says them
pub lent-parts : (b : Bench) (heap table : List ℕ) (h w : ℕ)
    → h ≡ pick (ltb b.heap_len (length heap)) b.heap_len (length heap)
    → w ≡ pick (ltb b.table_words (length table)) b.table_words (length table)
    → desk b (take (h - 0) heap) (take (w - 0) table) ≡ lent_of (desk b heap table)
lent-parts b heap table h w eh ew =
    rw (least-take b.heap_len heap (h - 0) (sub-zero h ∙ eh), least-take b.table_words table (w - 0) (sub-zero w ∙ ew)) refl

-- a command on the lent parts, as `&mut s[0..h]` says them, which come back before what was not lent
pub lending : (f : Desk → Outcome) (b : Bench) (heap table : List ℕ) (h w : ℕ) (t : Turn) (hs ws : List ℕ)
    → h ≡ pick (ltb b.heap_len (length heap)) b.heap_len (length heap)
    → w ≡ pick (ltb b.table_words (length table)) b.table_words (length table)
    → left t hs ws ≡ f (desk b (take (h - 0) heap) (take (w - 0) table))
    → left t (hs ++ drop (h - 0) heap) (ws ++ drop (w - 0) table) ≡ on_lent f (desk b heap table)
lending f b heap table h w t hs ws eh ew e =
    let d = desk b heap table in
    let h0 = sub-zero h ∙ eh in
    let w0 = sub-zero w ∙ ew in
    let out = lent-parts b heap table h w eh ew in
    rw (least-drop b.heap_len heap (h - 0) h0, least-drop b.table_words table (w - 0) w0) (ap (put_back d) (e ∙ ap f out))

-- the same, where the table's part is lent to be read
pub lending-heap : (f : Desk → Outcome) (b : Bench) (heap table : List ℕ) (h w : ℕ) (t : Turn) (hs : List ℕ)
    → h ≡ pick (ltb b.heap_len (length heap)) b.heap_len (length heap)
    → w ≡ pick (ltb b.table_words (length table)) b.table_words (length table)
    → left t hs (take (w - 0) table) ≡ f (desk b (take (h - 0) heap) (take (w - 0) table))
    → left t (hs ++ drop (h - 0) heap) table ≡ on_lent f (desk b heap table)
lending-heap f b heap table h w t hs eh ew e =
    let both = lending f b heap table h w t hs (take (w - 0) table) eh ew e in
    let whole : left t (hs ++ drop (h - 0) heap) (take (w - 0) table ++ drop (w - 0) table) ≡ left t (hs ++ drop (h - 0) heap) table =
    rw (take-append-drop (w - 0) table) refl in
    sym whole ∙ both

-- the same, where both parts are lent to be read
pub lending-none : (f : Desk → Outcome) (b : Bench) (heap table : List ℕ) (h w : ℕ) (t : Turn)
    → h ≡ pick (ltb b.heap_len (length heap)) b.heap_len (length heap)
    → w ≡ pick (ltb b.table_words (length table)) b.table_words (length table)
    → left t (take (h - 0) heap) (take (w - 0) table) ≡ f (desk b (take (h - 0) heap) (take (w - 0) table))
    → left t heap table ≡ on_lent f (desk b heap table)
lending-none f b heap table h w t eh ew e =
    let one = lending-heap f b heap table h w t (take (h - 0) heap) eh ew e in
    let whole : left t (take (h - 0) heap ++ drop (h - 0) heap) table ≡ left t heap table = rw (take-append-drop (h - 0) heap) refl in
    sym whole ∙ one
