use mathlib.Core.Path.{◌≡◌, sym, ap, ◌∙◌}
use Prim.Native.Nat.{ℕ}
use native.Mathlib.Omega.{arith}
use borrow.Author.Rules.{rules}
use mathlib.Core.List.{List}
use lib.ListN.{length, get_or, replicate, length-replicate}
use Rattle.rules.proofs.LayoutLaws.{ids-count}
use Rattle.rules.specs.World.{world}
use Rattle.as_numbers.specs.StateWords.{state_in}
use Rattle.limits.specs.Settled.{passed-bounded}
use Rattle.gc_candidates.specs.Plan.{plan-files, plan-length}
use Rattle.gc_group.proofs.Source.{ready}
use Rattle.gc_generation.specs.Generations.{generation-left, generation-rewritten}
use Rattle.gc_generation.proofs.rewrite_generation.Goals as goal

pub candidates_in-candidates-requires : goal.candidates_in-candidates-requires
candidates_in-candidates-requires c =
    let a = c.args in
    record {
      in_ranges = c.requires.passed_2.limits.settings;
      bounded = passed-bounded a.settings (length a.heap.now) a.table.now (state_in a.state.now) c.requires.passed_2;
    }

pub returns-then-group_count-settings : goal.returns-then-group_count-settings
returns-then-group_count-settings c =
    let a = c.args in record {
      leaves = generation-left (world a.settings (state_in a.state.now) a.claims a.heap.now a.table.now) a.asked.generation a.asked.mark a.asked.count
          _ c.candidates_in-candidates.ensures c.requires.generation_nonzero.0 (omega (arith, c.group_count.ensures, c.if-group_count-settings.true));
      passed = c.requires.passed_2;
      moved = omega arith;
    }

pub rewrite_group-requires : goal.rewrite_group-requires
rewrite_group-requires c =
    let a = c.args in
    let g = c.requires.generation_nonzero in
    let b = a.table.now in
    let blank = c.clear.ensures in
    let candidates : length c.candidates_in-candidates.result ≡ 256 = search rules in
    let records : length (state_in a.state.now).files.records ≡ 256 = omega (arith, candidates, ap length c.candidates_in-candidates.ensures, plan-length a.settings a.claims a.asked.mark a.asked.count (state_in a.state.now).files.records) in
    let long = ap length blank ∙ length-replicate (length a.places.now) 0 in record {
      passed_2 = c.requires.passed_2;
      ready = rw c.candidates_in-candidates.ensures
          (ready a.settings a.claims a.asked.mark a.asked.count (length a.heap.now) b (state_in a.state.now) a.asked.generation c.requires.passed_2 records g.0);
      filled = λ k e. plan-files a.settings a.claims a.asked.mark a.asked.count (state_in a.state.now).files.records k
          (omega (arith, e, g.0, ap (λ (ns : List ℕ). get_or ns k 0) c.candidates_in-candidates.ensures));
      generation_bound = g.1;
      table_in_bounds = (omega (arith, ids-count b, c.requires.table_in_bounds.0, long), omega (arith, ids-count b, c.requires.table_in_bounds.1), blank ∙ ap (λ (n : ℕ). replicate n 0) (sym long));
    }

pub returns : goal.returns
returns c =
    let a = c.args in record {
      leaves = c.rewrite_group.ensures.leaves a.claims
          ∙ generation-rewritten (world a.settings (state_in a.state.now) a.claims a.heap.now a.table.now) a.asked.generation a.asked.mark a.asked.count
          _ c.candidates_in-candidates.ensures c.requires.generation_nonzero.0 (omega (arith, c.group_count.ensures, c.if-group_count-settings.false));
      passed = c.rewrite_group.ensures.passed;
      moved = c.rewrite_group.ensures.moved;
    }
