use Prim.Native.Nat.{ℕ, ◌≤◌}
use mathlib.Core.List.{List}
use Rattle.rules.specs.declared.Settings.{Settings}
use Rattle.rules.specs.declared.State.{State}
use Rattle.gc_split.specs.declared.Totals.{Totals}
use mathlib.Core.Path.{◌≡◌, refl, sym, ◌∙◌}
use native.Mathlib.Omega.{arith}
use borrow.Author.Rules.{rules}
use lib.ListN.{length}
use lib.Seq.{length-take-le}
use Rattle.gc_rewrite.specs.Rewriting.{group-stopped, Decided, decided-files, decided-chainable, decided-rewritten}
use Rattle.std.proofs.lemmas.Result.{err_from_is_err_and}
use Rattle.gc_rewrite.proofs.rewrite_group.Goals as goal

pub decided-requires : goal.decided-requires
decided-requires c =
    record {
      passed = c.requires.passed_2;
      ready = c.requires.ready;
      filled = c.requires.filled;
      empty_value = c.empties-empty.ensures.counts;
      table_in_bounds = c.requires.table_in_bounds;
    }

pub returns-in_err-decision-clause-leaves : goal.returns-in_err-decision-clause-leaves
returns-in_err-decision-clause-leaves c =
    let left = group-stopped _ _ _ _ c.args.plan.now c.args.group.generation _ c.requires.passed_2 (sym c.in_err-decision.ensures.answers) in
    let p = err_from_is_err_and c.from_residual.result c.from_residual.ensures.1 in
    rw (p.1, p.2) left.course

-- the numbers stand within their list
within : (settings : Settings) (state : State) (heap table plan : List ℕ) (generation : ℕ) (places pieces order : List ℕ) (total : Totals)
    → Decided settings state heap table plan generation places pieces order total → length order ≡ 256 → total.files ≤ length order
within settings state heap table plan generation places pieces order total decided long =
    omega (arith, decided-files _ _ _ _ _ _ _ _ _ _ decided, long)

pub slice_bounds-put_in-end : goal.slice_bounds-put_in-end
slice_bounds-put_in-end c = sym (length-take-le _ _ (within _ _ _ _ _ _ _ _ _ _ c.in_ok-decision.ensures.splits (search rules)))

pub put_in-requires : goal.put_in-requires
put_in-requires c =
    record {
      chainable = decided-chainable _ _ _ _ _ _ _ _ _ _ c.in_ok-decision.ensures.splits;
      generation_bound = omega (arith, c.requires.generation_bound);
      listed = c.empties-empty.ensures.lists;
    }

pub returns : goal.returns
returns c =
    let left = decided-rewritten _ _ _ _ _ _ _ _ _ _ c.in_ok-decision.ensures.splits _ _ _ c.put_in.ensures in
    record {
      leaves = left.course;
      passed = left.limits;
      moved = left.count;
      length = search rules;
      keeps = left.kept;
    }
