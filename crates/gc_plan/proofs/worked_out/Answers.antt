use mathlib.Core.Path.{◌≡◌, refl, ap, ap₂, ◌∙◌}
use Prim.Native.Nat.{ℕ, ◌-◌}
use native.Mathlib.Omega.{arith}
use borrow.Author.Rules.{rules}
use lib.ListN.{length}
use Rattle.rules.specs.Settings.{slots_in}
use Rattle.rules.proofs.FileMapLaws.{empty-most}
use Rattle.rules.proofs.LayoutLaws.{ids-count}
use Rattle.rules.specs.TwoCalls as calls
use Rattle.rules.specs.World.{World, world}
use Rattle.limits.specs.Settled.{passed-bounded, passed-formed}
use Rattle.as_numbers.specs.StateWords.{state_in}
use Rattle.gc_candidates.specs.Plan.{plan_of, plan-length}
use Rattle.gc_group.proofs.Source.{ready}
use Rattle.gc_plan.specs.Plans.{candidates_of, due_in, plan-made, planned_generations}
use Rattle.gc_plan.proofs.Turns.{foretelling-start, foretelling-turn, foretelling-end}
use Rattle.gc_plan.proofs.worked_out.Goals as goal

pub count_in-count-requires : goal.count_in-count-requires
count_in-count-requires c =
    let a = c.args in
    passed-bounded a.settings (length a.heap.now) a.table.now (state_in a.state.now) c.requires.passed

pub candidates_in-candidates-requires : goal.candidates_in-candidates-requires
candidates_in-candidates-requires c =
    let a = c.args in
    record {
      in_ranges = c.requires.passed.limits.settings;
      bounded = passed-bounded a.settings (length a.heap.now) a.table.now (state_in a.state.now) c.requires.passed;
    }

pub empties-requires : goal.empties-requires
empties-requires c =
    let limits = c.requires.passed.limits in
    record {
      in_ranges = limits.settings;
      heap_in_range = limits.heap;
      frees_len = search rules;
    }

pub loop-generation-init : goal.loop-generation-init
loop-generation-init c =
    let a = c.args in
    let few = empty-most (slots_in a.settings (length a.heap.now)) (state_in a.state.now).files.records in
    λ k q. foretelling-start (world a.settings (state_in a.state.now) k a.heap.now a.table.now)
    (omega (arith, few, c.requires.passed.limits.heap.most)) _ _ (omega (arith, c.mark_in-mark.type_inv)) c.empties.ensures.counts c.mark_in-mark.ensures

pub foretell_in-f-requires : goal.foretell_in-f-requires
foretell_in-f-requires c =
    let a = c.args in
    let b = a.table.now in
    let long : length c.candidates_in-candidates.result ≡ 256 = search rules in
    let all : length (state_in a.state.now).files.records ≡ 256 =
    omega (arith, long, ap length c.candidates_in-candidates.ensures, plan-length a.settings a.claims c.mark_in-mark.result c.count_in-count.result (state_in a.state.now).files.records) in
    let found : c.candidates_in-candidates.result ≡ candidates_of (world a.settings (state_in a.state.now) a.claims a.heap.now a.table.now) =
    c.candidates_in-candidates.ensures
    ∙ ap₂ (λ (mark n : ℕ). plan_of a.settings a.claims mark n (state_in a.state.now).files.records) c.mark_in-mark.ensures c.count_in-count.ensures in
    let inv = c.loop-generation.invariant in
    let m = inv a.claims found in
    let limits = c.requires.passed.limits in record {
      in_ranges = limits.settings;
      ready = rw c.candidates_in-candidates.ensures
          (ready a.settings a.claims _ _ (length a.heap.now) b (state_in a.state.now) c.loop-generation.generation c.requires.passed all m.low);
      formed = passed-formed a.settings (length a.heap.now) b (state_in a.state.now) c.requires.passed;
      table_len_bound = (
        omega (arith, ids-count b, limits.table.most),
        omega (arith, ids-count b, c.requires.table_in_bounds.1, c.loop-generation.auto.pieces),
        omega (arith, ids-count b, c.requires.table_in_bounds.0, c.loop-generation.auto.places),
      );
      within = m.here.bounds;
    }

pub loop-generation-preserved : goal.loop-generation-preserved
loop-generation-preserved c =
    let a = c.args in
    λ k p. foretelling-turn (world a.settings (state_in a.state.now) k a.heap.now a.table.now) c.loop-generation.generation c.loop-generation.f (c.loop-generation.invariant k p)
    (omega arith) c.requires.passed.limits.settings _ p _ c.foretell_in-f.ensures

pub returns : goal.returns
unfolding planned_generations
returns c =
    let a = c.args in
    let found : c.candidates_in-candidates.result ≡ candidates_of (world a.settings (state_in a.state.now) a.claims a.heap.now a.table.now) =
    c.candidates_in-candidates.ensures
    ∙ ap₂ (λ (mark n : ℕ). plan_of a.settings a.claims mark n (state_in a.state.now).files.records) c.mark_in-mark.ensures c.count_in-count.ensures in
    let w = world a.settings (state_in a.state.now) a.claims a.heap.now a.table.now in
    let told = foretelling-end w c.loop-generation.generation c.loop-generation.f (c.loop-generation.invariant a.claims found) (omega arith) in
    plan-made w _
    c.mark_in-mark.ensures
    c.count_in-count.ensures
    (ap (λ (f : calls.Forecast). f.files) told)
    (ap (λ (f : calls.Forecast). f.bytes) told)
    (ap (λ (f : calls.Forecast). f.stop) told)
    (c.due.ensures ∙ ap (due_in a.settings.min_compaction_files) found)
