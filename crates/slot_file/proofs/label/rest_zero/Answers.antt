use mathlib.Core.Path.{◌≡◌, refl, ◌∙◌}
use mathlib.Core.Bool.{Bool, true, false, not, ◌&&◌, ◌||◌}
use mathlib.Core.List.{List, [], ◌∷◌}
use Prim.Native.Nat.{ℕ}
use lib.Dec.{eqb}
use lib.ListN.{drop}
use Rattle.std.proofs.Common.{rules, tests}
use Rattle.std.specs.List.{list_all}
use Rattle.std.proofs.lemmas.Iterator.{YieldsList-from_slice}
use Rattle.std.proofs.lemmas.Iterator.Adapters.{YieldsList-from_skip}
use Rattle.std.proofs.lemmas.Iterator.Search.{all_from_yields_List}
use Rattle.rules.specs.Base.{any, zeros}
use Rattle.slot_file.proofs.label.rest_zero.Goals as goal

all-zeros : (ns : List ℕ) → list_all (λ (n : ℕ). eqb n 0) ns ≡ zeros ns
unfolding zeros any
all-zeros [] = refl
all-zeros (n ∷ ns) = go (eqb n 0) (all-zeros ns)
  where
    go : (b : Bool) → list_all (λ (n : ℕ). eqb n 0) ns ≡ not (any (λ (n : ℕ). not (eqb n 0)) ns)
        → b && list_all (λ (n : ℕ). eqb n 0) ns ≡ not (not b || any (λ (n : ℕ). not (eqb n 0)) ns)
    go true h = h
    go false h = refl

pub returns : goal.returns
returns c =
    let s = c.args.s.now in
    let from = c.args.from in
    all_from_yields_List (λ (n : ℕ). eqb n 0) _ _ _ c.all.ensures.ran (YieldsList-from_skip from (YieldsList-from_slice s cc) (cc)) (λ x b q k. search (rules, tests))
    ∙ all-zeros (drop from s)
