-- The entries of each file chained: a file's word tells its first entry, and a link the next one. Entries are counted from 1 on; 0 is none.
use Rattle.std.specs.Prelude.{◌≡◌, ◌≤◌, ◌<◌, ◌∷◌, ◌-◌, ◌/◌, ◌%◌, ◌^◌}
use Rattle.rules.specs.Base.{List, [], map, ℕ, suc, length, get_or, eqb, pick}
use Rattle.rules.specs.Ops.{Op}
use Rattle.gc_files.specs.Places.{op_at, filed_ops}

-- the operations along a chain: the first of these entries is entry `at`, and the next one of the chain is `next`
unfoldable pub chain_from : ℕ → ℕ → List ℕ → List ℕ → List ℕ → List ℕ → List Op
chain_from next at heap [] ps ls = []
chain_from next at heap (x ∷ xs) [] ls = []
chain_from next at heap (x ∷ xs) (p ∷ ps) [] = []
chain_from next at heap (x ∷ xs) (p ∷ ps) (l ∷ ls) =
    pick (eqb next at)
    (pick (eqb p 0) [] (op_at heap x p ∷ chain_from l (suc at) heap xs ps ls))
    (chain_from next (suc at) heap xs ps ls)

-- all of them
abbrev pub chain_ops : ℕ → List ℕ → List ℕ → List ℕ → List ℕ → List Op
chain_ops first heap ids places links = chain_from first 1 heap ids places links

-- a file's word: its number, and from 32 bits on its first entry
abbrev pub number_in : ℕ → ℕ
number_in word = word % 2 ^ 32

abbrev pub first_in : ℕ → ℕ
first_in word = word / 2 ^ 32

-- the files of these words, in order
abbrev pub chains_in : List ℕ → List ℕ → List ℕ → List ℕ → List ℕ → List (List Op)
chains_in heap ids places links words = map (λ (w : ℕ). chain_ops (first_in w) heap ids places links) words

-- none, or one of n entries that is moved and stands behind the first `from`
pub record Leads (n : ℕ) (places : List ℕ) (from next : ℕ) : Type 0 where
  pub on : 0 < next → from < next
  pub low : 0 < next → next ≤ n
  pub moved : 0 < next → 0 < get_or places (next - 1) 0

-- the link of each entry that is moved leads on
abbrev pub Chained : ℕ → List ℕ → List ℕ → Type 0
Chained n places links = (k : ℕ) → k < n → 0 < get_or places k 0 → Leads n places (suc k) (get_or links k 0)

-- what the chaining asks for: a place and a file's number for each entry, none moved from `used` on; the files' numbers, of 32 bits, none twice
pub record Linkable (ids places numbers order : List ℕ) (used : ℕ) : Type 0 where
  pub wide : length ids ≤ length places
  pub numbered : length ids ≤ length numbers
  pub few : length ids ≤ 65536
  pub low : used ≤ length ids
  pub last : (k : ℕ) → 0 < get_or places k 0 → k < used
  pub small : (j : ℕ) → get_or order j 0 < 2 ^ 32
  pub distinct : (i j : ℕ) → i < length order → j < length order → get_or order i 0 ≡ get_or order j 0 → i ≡ j

-- what it leaves: each file's chain has the operations with its number, whatever the heap is, and every link leads on
pub record Linked (ids places numbers order links words : List ℕ) : Type 0 where
  pub wide : length ids ≤ length links
  pub files : (heap : List ℕ) → chains_in heap ids places links words ≡ map (λ (q : ℕ). filed_ops q heap ids places numbers) order
  pub firsts : (j : ℕ) → j < length words → Leads (length ids) places 0 (first_in (get_or words j 0))
  pub chained : Chained (length ids) places links

-- the word with this number among those of the files, or, behind them, none
pub record FileOf (words : List ℕ) (number j : ℕ) : Type 0 where
  pub low : j ≤ length words
  pub here : j < length words → number_in (get_or words j 0) ≡ number
  pub none : length words ≤ j → (k : ℕ) → k < length words → number_in (get_or words k 0) ≡ number → ⊥
