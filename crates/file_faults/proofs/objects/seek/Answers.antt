use Rattle.std.proofs.Common.{arith, rules, sym, ap, ◌∙◌, ◌≡◌, Option, None, Some, MatchOption, ℕ, ◌<◌, ◌≤◌, ◌+◌, ◌*◌, true, false, List, length, take, drop}
use lib.Seq.{take_all}
use Rattle.rules.specs.Base.{Bool, any}
use Rattle.rules.specs.declared.Entry.{Entry}
use Rattle.rules.specs.Trailer.{count_in, entries_in}
use Rattle.trailer.specs.Entries.{entries-count}
use Rattle.file_faults.proofs.Search.{around-behind, around-before, around-none}
use Rattle.file_faults.specs.Walks.{entered_as}
use Rattle.file_faults.proofs.objects.seek.Goals as goal

-- what a search of some entries found
abbrev Finds : Option ℕ → ℕ → ℕ → ℕ → List Entry → Type 0
Finds found to id position es = MatchOption found (any (entered_as id position) es ≡ false) (λ k. (k < to) × (any (entered_as id position) es ≡ true))

-- from a cursor to the end, and where there is none from the front to the cursor
both : {P : Type 0} (first found : Option ℕ) (s : List ℕ) (cursor n id position : ℕ) → 12 + 16 * count_in s ≤ length s → n ≡ count_in s → cursor ≤ count_in s
    → Finds first n id position (drop cursor (take n (entries_in s)))
    → MatchOption first P (λ k. found ≡ Some k)
    → (P → Finds found cursor id position (take cursor (entries_in s)))
    → Finds found (count_in s) id position (entries_in s)
both {P = P} first found s cursor n id position long count within behind kept front = go first found behind kept front
  where
    f : Entry → Bool
    f = entered_as id position

    es : List Entry
    es = entries_in s

    all : take n es ≡ es
    all = take_all n es (omega (arith, entries-count s long))

    last : (second : Option ℕ) → any f (drop cursor (take n es)) ≡ false → Finds second cursor id position (take cursor es) → Finds second (count_in s) id position es
    last None b h = around-none f cursor es h (ap (λ (ds : List Entry). any f (drop cursor ds)) (sym all) ∙ b)
    last (Some k) b h = (omega (arith, h), around-before f cursor es h.1)

    go : (a b : Option ℕ) → Finds a n id position (drop cursor (take n es)) → MatchOption a P (λ k. b ≡ Some k) → (P → Finds b cursor id position (take cursor es)) → Finds b (count_in s) id position es
    go None b h p next = last b h (next p)
    go (Some k) b h p next = rw p (omega (arith, h), around-behind f cursor es (ap (λ (ds : List Entry). any f (drop cursor ds)) (sym all) ∙ h.1))

pub returns : goal.returns
returns c =
    let a = c.args in
    both _ _ a.trailer.now a.cursor _ a.id a.position c.requires.trailer_in_bounds c.count-n.ensures c.requires.cursor_bound c.find.ensures c.or_else.ensures (λ p. search rules)
