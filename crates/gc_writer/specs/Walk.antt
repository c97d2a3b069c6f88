-- The walk along the entries of one piece.
use Rattle.std.specs.Prelude.{◌≡◌, ◌⊎◌, ◌≤◌, ◌<◌, ◌-◌, ◌^◌}
use Rattle.std.proofs.Common.{ap, ◌∙◌, inl, inr, arith, eq-eqb, ne_eqb}
use Rattle.rules.specs.Base.{List, [], ℕ, suc, length, get_or, eqb, pick}
use Rattle.rules.proofs.BaseLaws.{zero-or-more}
use Rattle.rules.specs.Layout.{table_ids}
use Rattle.rules.specs.Ops.{Op}
use Rattle.batch.specs.Sizes.{size_in}
use Rattle.batch.specs.WalkLaws.{Stepped}
use Rattle.batch.specs.declared.Operation.{Operation}
use Rattle.gc_files.specs.Places.{moving_at, Standing}
use Rattle.gc_files.specs.PlaceLaws.{moving-told}
use Rattle.gc_chains.specs.Chains.{chain_ops, Leads, Chained}
use Rattle.gc_chains.specs.ChainLaws.{chain-none, chain-step}

-- the operations of the piece with this first entry, in heap, table, places and links
abbrev pub piece_ops : ℕ → (heap table places links : List ℕ) → List Op
piece_ops first heap table places links = chain_ops first heap (table_ids table) places links

-- what every walk asks for: a place and a link for each entry, each object in the heap, each link leads on
pub record Walking (heap ids places links : List ℕ) : Type 0 where
  pub wide : length ids ≤ length places
  pub linked : length ids ≤ length links
  pub standing : Standing heap places
  pub chained : Chained (length ids) places links

-- how many of n entries there are from entry i on
unfoldable pub ahead : ℕ → ℕ → ℕ
ahead n i = pick (eqb i 0) 0 (suc n - i)

-- a turn of the walk: the operation of entry i, the size of its object, and the entry at which the walk goes on
pub record Turned (heap ids places links : List ℕ) (i : ℕ) (o : Operation) (size next : ℕ) : Type 0 where
  pub some : 0 < get_or places (i - 1) 0
  pub is : o ≡ moving_at heap (get_or ids (i - 1) 0) (get_or places (i - 1) 0)
  pub short : o.len < 2 ^ 20
  pub long : size ≡ size_in o
  pub step : Stepped heap (chain_ops i heap ids places links) o (chain_ops next heap ids places links)
  pub less : ahead (length ids) next < ahead (length ids) i
  pub leads : Leads (length ids) places 0 next

-- fewer are left behind the next one
ahead-less : (n i next : ℕ) → 0 < i → i ≤ n → (0 < next → i < next) → ahead n next < ahead n i
unfolding ahead
ahead-less n i next some low on = rw (ne_eqb i 0 (λ e. omega arith)) (go (zero-or-more next))
  where
    go : (next ≡ 0) ⊎ (0 < next) → pick (eqb next 0) 0 (suc n - next) < suc n - i
    go (inl none) = rw (eq-eqb next 0 none) (omega arith)
    go (inr more) = rw (ne_eqb next 0 (λ e. omega arith)) (omega (arith, on more))

-- what a turn tells
pub turned : {heap ids places links : List ℕ} {i : ℕ} {o : Operation} {size next : ℕ} → Walking heap ids places links → 0 < i → Leads (length ids) places 0 i
    → o ≡ moving_at heap (get_or ids (i - 1) 0) (get_or places (i - 1) 0) → size ≡ size_in o → next ≡ get_or links (i - 1) 0 → Turned heap ids places links i o size next
turned {heap} {ids} {places} {links} {i} {next = next} walk more lead is long n =
    let wide = walk.wide in
    let linked = walk.linked in
    let low = lead.low more in
    let some = lead.moved more in
    let here : i ≡ suc (i - 1) = omega arith in
    let on = walk.chained (i - 1) (omega arith) some in
    let told = moving-told heap (get_or ids (i - 1) 0) (get_or places (i - 1) 0) some (walk.standing (i - 1)) in
    record {
      some = some;
      is = is;
      short = rw is told.short;
      long = long;
      step = rw (is, n) (record {
        next = ap (λ (k : ℕ). chain_ops k heap ids places links) here ∙ chain-step heap ids places links (i - 1) (omega arith) (omega arith) (omega arith) some on;
        inside = told.inside;
      });
      less = ahead-less (length ids) i next more low (λ z. omega (arith, on.on (rw n at z), n));
      leads = rw n (record { on = λ z. z; low = on.low; moved = on.moved });
    }

-- and its end: no entry is left
pub walk_end : (heap ids places links : List ℕ) (i : ℕ) → i ≡ 0 → chain_ops i heap ids places links ≡ []
walk_end heap ids places links i e = rw e (chain-none 0 heap ids places links)
