use Prim.Native.Nat.{ℕ, ◌≤◌}
use mathlib.Core.Path.{◌≡◌, sym, ap₂, ◌∙◌}
use native.Mathlib.Omega.{arith}
use borrow.Author.Rules.{rules}
use mathlib.Core.List.{List}
use lib.ListN.{length, get_or}
use Rattle.rules.specs.declared.Settings.{Settings}
use Rattle.rules.specs.Types.{Answer}
use Rattle.gc_decision.specs.Empties.{empty_in}
use Rattle.rules.specs.declared.FileMap.{FileMap}
use Rattle.rules.specs.Refusal.{decide}
use Rattle.rules.specs.Layout.{table_ids, used_entries}
use Rattle.rules.proofs.LayoutLaws.{ids-count}
use Rattle.limits.specs.Settled.{passed-formed}
use Rattle.as_numbers.specs.StateWords.{state_in}
use Rattle.gc_candidates.specs.Plan.{planned}
use Rattle.gc_group.specs.Source.{source}
use Rattle.gc_decision.specs.Decisions.{decision_tests, verdict}
use Rattle.rules.specs.declared.Refusal.{Refusal}
use Rattle.gc_decision.specs.declared.Decision.{Decision}
use Rattle.gc_decision.specs.Splits.{SplitUp}
use Rattle.std.specs.Prelude.{Result, Ok, Err, OnOk, IfOk}
use Rattle.gc_rewrite.specs.Rewriting.{group_decision, Decided}
use Rattle.gc_rewrite.proofs.decided.Goals as goal

pub decide_group-requires : goal.decide_group-requires
decide_group-requires c =
    let passed = c.requires.passed in
    let room = c.requires.table_in_bounds in
    let few : length (table_ids c.args.table.now) ≤ 65536 = omega (arith, passed.limits.table.most, ids-count c.args.table.now) in
    record {
      in_ranges = passed.limits.settings;
      ready = rw c.files_in-files.ensures c.requires.ready;
      formed = passed-formed _ _ _ _ passed;
      table_len_bound = (few, room.1, room.0, room.2);
    }

-- what was decided, by the words and the empty slots that they have
answers-are : (settings : Settings) (words heap table plan : List ℕ) (generation empty : ℕ) (files : FileMap) (answer : Answer) → files ≡ (state_in words).files
    → empty ≡ empty_in settings (state_in words).files heap
    → answer ≡ decide (decision_tests settings (source settings.slot_bytes heap files.records (used_entries table)) (planned plan generation) empty (get_or words 1800 0))
    → answer ≡ decide (group_decision settings (state_in words) heap table plan generation)
unfolding state_in
answers-are settings words heap table plan generation empty files answer is few decided =
    decided
    ∙ ap₂ (λ (m : FileMap) (n : ℕ). decide (decision_tests settings (source settings.slot_bytes heap m.records (used_entries table)) (planned plan generation) n (state_in words).next_position)) is few

-- of a decision that is no refusal
split-decided : (r : Result Decision Refusal) (a : Answer) {P : Type 0} (Q R : Decision → Type 0) → verdict r ≡ a → OnOk r P → IfOk r Q
    → ((d : Decision) → P → Q d → a ≡ Ok tt → R d) → IfOk r R
split-decided (Ok d) a Q R e p q f = f d p q (sym e)
split-decided (Err x) a Q R e p q f = tt

pub returns : goal.returns
returns c =
    let a = c.args in
    let answers = answers-are a.group.settings a.state.now a.heap.now a.table.now a.plan.now a.group.generation a.empty _ _ c.files_in-files.ensures c.requires.empty_value c.decide_group.ensures.answers in
    let room = c.requires.table_in_bounds in
    let done = c.decide_group.ensures in
    record {
      answers = answers;
      splits = split-decided _ _ (λ (d : Decision). SplitUp a.group.settings a.heap.now (table_ids a.table.now) c.decide_group.new.places c.decide_group.new.pieces d.order d.total)
          (λ (d : Decision). Decided a.group.settings (state_in a.state.now) a.heap.now a.table.now a.plan.now a.group.generation c.decide_group.new.places c.decide_group.new.pieces d.order d.total)
          answers done.places done.splits (λ d placed split clear. record {
            limits = c.requires.passed;
            filled = c.requires.filled;
            wide = search (room, rules);
            numbered = search (room, rules);
            clear = clear;
            placed = rw (← c.files_in-files.ensures) placed;
            split = split;
          });
    }
