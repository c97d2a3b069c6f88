-- The count over records, and one turn and the end of the loop that marks them.
use mathlib.Core.Path.{◌≡◌, refl, sym, ap, ◌∙◌}
use mathlib.Core.Bool.{Bool, true, false, ◌||◌}
use mathlib.Core.List.{List, [], ◌∷◌}
use Prim.Native.Nat.{ℕ, zero, suc, ◌+◌, ◌<◌, ◌≤◌}
use native.Mathlib.Nat.{le_of_suc-le-suc, not-suc-le-zero}
use native.Mathlib.Numerals.{add-one}
use lib.ListN.{length, get_or, set, drop}
use Rattle.std.specs.List.{sum_by}
use Rattle.std.proofs.lemmas.List.Recursion.{is_sum_by}
use Rattle.rules.specs.Base.{any, sum, pick}
use Rattle.rules.specs.declared.Record.{Record}
use Rattle.rules.specs.FileMap.{empty_record}
use Rattle.rules.specs.Sync.{is_unsynced, unsynced_in, marked, marked_all}
use Rattle.rules.proofs.TurnLaws.{left-next, any-end}

-- ---- counting
pub counted : (rs : List Record) → sum_by (λ (r : Record). pick (is_unsynced r) 1 0) rs ≡ unsynced_in rs
unfolding unsynced_in sum
counted rs = sym (is_sum_by unsynced_in (λ (r : Record). pick (is_unsynced r) 1 0) refl (λ r rs. refl) rs)

-- ---- marking: the first i records marked, the others as they were
abbrev pub upto : ℕ → List Record → List Record
upto zero l = l
upto (suc i) [] = []
upto (suc i) (r ∷ l) = marked r ∷ upto i l

pub upto-here : (i : ℕ) (l : List Record) → get_or (upto i l) i empty_record ≡ get_or l i empty_record
upto-here zero l = refl
upto-here (suc i) [] = refl
upto-here (suc i) (r ∷ l) = upto-here i l

pub upto_next : (i : ℕ) (l : List Record) → i < length l → set (upto i l) i (marked (get_or l i empty_record)) ≡ upto (i + 1) l
upto_next i l h = go i l h ∙ ap (λ (j : ℕ). upto j l) (sym (add-one i))
  where
    go : (i : ℕ) (l : List Record) → i < length l → set (upto i l) i (marked (get_or l i empty_record)) ≡ upto (suc i) l
    go i [] h = absurd (not-suc-le-zero h)
    go zero (r ∷ l) h = refl
    go (suc i) (r ∷ l) h = ap (λ (k : List Record). marked r ∷ k) (go i l (le_of_suc-le-suc h))

pub upto-end : (i : ℕ) (l : List Record) → length l ≤ i → upto i l ≡ marked_all l
upto-end zero [] h = refl
upto-end zero (r ∷ l) h = absurd (not-suc-le-zero h)
upto-end (suc i) [] h = refl
upto-end (suc i) (r ∷ l) h = ap (λ (k : List Record). marked r ∷ k) (upto-end i l (le_of_suc-le-suc h))

-- whether a mark changed, among the first i records or the rest
pub changed-next : (rs : List Record) (i : ℕ) (c : Bool) → i < length rs
    → (c || any is_unsynced (drop i rs)) ≡ ((c || is_unsynced (get_or rs i empty_record)) || any is_unsynced (drop (i + 1) rs))
unfolding any
changed-next rs i c h = ap (λ (l : List Record). c || any is_unsynced l) (left-next rs i empty_record h) ∙ go c (is_unsynced (get_or rs i empty_record)) (any is_unsynced (drop (i + 1) rs))
  where
    go : (a b c : Bool) → (a || (b || c)) ≡ ((a || b) || c)
    go true b c = refl
    go false b c = refl

pub changed-end : (rs : List Record) (i : ℕ) (c : Bool) → length rs ≤ i → (c || any is_unsynced (drop i rs)) ≡ c
changed-end rs i c h = ap (λ (b : Bool). c || b) (any-end rs i h is_unsynced) ∙ go c
  where
    go : (b : Bool) → (b || false) ≡ b
    go true = refl
    go false = refl
