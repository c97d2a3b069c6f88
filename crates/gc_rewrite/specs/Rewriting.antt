-- A group decided, chained, then rewritten: what each step asks for and leaves.
use Rattle.std.specs.Prelude.{◌≡◌, ◌≤◌, Result, Err, Ok, IfOk}
use Rattle.std.proofs.Math.Path.{sym, ap}
use Rattle.std.proofs.Common.{ap₂, ◌∙◌, subst, zero-add, arith}
use Rattle.rules.specs.Base.{false, List, ℕ, length, get_or, take}
use Rattle.rules.specs.declared.Settings.{Settings}
use Rattle.rules.specs.declared.State.{State}
use Rattle.rules.specs.declared.Claims.{Claims}
use Rattle.rules.specs.declared.Refusal.{Refusal}
use Rattle.rules.specs.Types.{Answer}
use Rattle.rules.specs.Refusal.{Test, decide}
use Rattle.rules.specs.Settings.{slots_in}
use Rattle.rules.specs.Ops.{Op}
use Rattle.rules.specs.Layout.{table_ids, used_entries}
use Rattle.rules.proofs.LayoutLaws.{ids-count, used-length}
use Rattle.rules.specs.FileMap.{is_empty, record_at}
use Rattle.rules.proofs.FileMapLaws.{empty-most}
use Rattle.rules.specs.Condition1Laws.{Passed}
use Rattle.rules.specs.Install.{installed_all}
use Rattle.rules.specs.Maintenance.{files_of, found, group_tests, rewrite_group}
use Rattle.rules.proofs.MaintenanceLaws.{group-added, group-kept}
use Rattle.rules.specs.World.{World, world}
use Rattle.gc_candidates.specs.Plan.{planned}
use Rattle.gc_group.specs.Source.{Source, source}
use Rattle.gc_split.specs.declared.Totals.{Totals}
use Rattle.gc_split.specs.Tally.{Tally, tally_of, closed_of, order_of, totals_for}
use Rattle.gc_split.proofs.TotalLaws.{split-totals}
use Rattle.gc_split.proofs.Distinct.{distinct-at}
use Rattle.gc_split.proofs.PieceLaws.{order-distinct}
use Rattle.gc_split.proofs.OrderLaws.{fragments-among, files-counted}
use Rattle.gc_files.specs.Places.{placed_ops}
use Rattle.gc_chains.specs.Chains.{Linkable, Linked}
use Rattle.gc_places.specs.Group.{GroupPlaced}
use Rattle.gc_decision.specs.Empties.{empty_in}
use Rattle.gc_decision.specs.Orders.{placed-count, order_small}
use Rattle.gc_decision.specs.Splits.{files_in, SplitUp}
use Rattle.gc_decision.specs.Fitting.{Fitting}
use Rattle.gc_decision.specs.Decisions.{decision_tests, decision-group, decision-fits}
use Rattle.gc_rewrite.specs.Courses.{course_given}
use Rattle.gc_rewrite.specs.Putting.{Puttable, Chainable, PutAll, Kept}

-- every slot of the group has a file
abbrev pub Filled : State → List ℕ → ℕ → Type 0
Filled t plan generation = (k : ℕ) → get_or plan k 0 ≡ generation → is_empty (record_at t.files.records k) ≡ false

module _ (s : Settings) (t : State) (heap table plan : List ℕ) (generation : ℕ) where
  -- what the group is read from
  abbrev from : Source
  from = source s.slot_bytes heap t.files.records (used_entries table)

  -- what it is decided by: the heap's empty slots, and the next position
  abbrev pub group_decision : List Test
  group_decision = decision_tests s from (planned plan generation) (empty_in s t.files heap) t.next_position

  -- what it leaves
  pub record Regrouped (answer : Result ℕ Refusal) (r : State) (heap' table' : List ℕ) : Type 0 where
    pub course : (c : Claims) → course_given generation answer (world s r c heap' table') ≡ rewrite_group generation (planned plan generation) 0 (world s t c heap table)
    pub limits : Passed s (length heap') table' r
    pub count : IfOk answer (λ (moved : ℕ). moved ≤ 65536)
    pub kept : Kept t r

  -- the tests are the group's own
  tests-are : (c : Claims) (a : Answer) → decide group_decision ≡ a
      → let w = world s t c heap table in decide (group_tests w (planned plan generation) (files_of s.target_file_size (found w (planned plan generation)))) ≡ a
  tests-are c a e = ap decide (sym (decision-group (world s t c heap table) (planned plan generation))) ∙ e

  -- a refusal: nothing is changed
  pub group-stopped : (r : Refusal) → Passed s (length heap) table t → decide group_decision ≡ Err r → Regrouped (Err r) t heap table
  group-stopped r limits e = record {
    course = λ c. sym (group-kept generation (planned plan generation) 0 (world s t c heap table) r (tests-are c (Err r) e));
    limits = limits;
    count = tt;
    kept = λ k some. some;
  }

  -- ---- no refusal
  module _ (places pieces order : List ℕ) (total : Totals) where
    -- the group's operations stand at their places, split into files
    pub record Decided : Type 0 where
      pub limits : Passed s (length heap) table t
      pub filled : Filled t plan generation
      pub wide : length (table_ids table) ≤ length places
      pub numbered : length (table_ids table) ≤ length pieces
      pub clear : decide group_decision ≡ Ok tt
      pub placed : GroupPlaced s.slot_bytes heap t.files.records plan generation table places
      pub split : SplitUp s heap (table_ids table) places pieces order total

    module _ (d : Decided) where
      -- the operations
      abbrev ops : List Op
      ops = placed_ops heap (table_ids table) places

      -- and their tally
      abbrev whole : Tally
      whole = tally_of s.target_file_size s.slot_bytes (placed_ops heap (table_ids table) places)

      -- room and positions for all files
      fitting : Fitting s.slot_bytes (empty_in s t.files heap) t.next_position (files_of s.target_file_size ops)
      fitting = subst (λ (os : List Op). Fitting s.slot_bytes (empty_in s t.files heap) t.next_position (files_of s.target_file_size os)) (sym d.placed.0)
          (decision-fits s from (planned plan generation) (empty_in s t.files heap) t.next_position d.clear)

      -- no more files than slots
      most : (closed_of s.slot_bytes whole).files ≤ 256
      most =
          omega (
            arith,
            fitting.room.slots,
            files-counted s.target_file_size s.slot_bytes ops,
            empty-most (slots_in s (length heap)) t.files.records,
            d.limits.limits.heap.most,
          )

      -- nor more that were cut
      cut-few : whole.totals.files ≤ 256
      cut-few = omega (arith, most, fragments-among s.slot_bytes whole)

      -- they are the pieces, in order
      filed : files_of s.target_file_size ops ≡ files_in heap (table_ids table) places pieces (order_of whole)
      filed = d.split.files cut-few

      -- the ids moved
      entries-are : total.entries ≡ length ops
      unfolding totals_for
      entries-are = ap (λ (u : Totals). u.entries) (d.split.closed ∙ split-totals s.target_file_size s.slot_bytes ops)

      -- how many files
      pub decided-files : total.files ≤ 256
      decided-files = omega (arith, most, ap (λ (u : Totals). u.files) d.split.closed)

      -- so all their numbers are in order
      same-order : take total.files order ≡ order_of whole
      same-order = d.split.ordered decided-files

      -- the group as its definition rewrites it
      rewritten : (c : Claims) → let w = world s t c heap table in
          course_given generation (Ok (length ops)) (installed_all 0 generation w (files_of s.target_file_size ops)) ≡ rewrite_group generation (planned plan generation) 0 w
      unfolding found
      rewritten c =
          let w = world s t c heap table in
          ap (λ (os : List Op). course_given generation (Ok (length os)) (installed_all 0 generation w (files_of s.target_file_size os))) d.placed.0
          ∙ ap (λ (n : ℕ). course_given generation (Ok n) (installed_all 0 generation w (files_of s.target_file_size (found w (planned plan generation))))) (sym (zero-add (length (found w (planned plan generation)))))
          ∙ sym (group-added generation (planned plan generation) 0 w (tests-are c (Ok tt) d.clear))

      -- what chaining their entries asks for
      decided-linkable : Linkable (table_ids table) places pieces (take total.files order) (length (used_entries table))
      decided-linkable = rw same-order (record {
        wide = d.wide;
        numbered = d.numbered;
        few = omega (arith, ids-count table, d.limits.limits.table.most);
        low = omega (arith, ids-count table, used-length table);
        last = d.placed.1.0;
        small = order_small whole d.split.bounds;
        distinct = distinct-at (order_of whole) (order-distinct s.target_file_size s.slot_bytes ops cut-few d.split.bounds.within.count_shards);
      })

      -- what adding them asks for, once they are chained
      decided-chained : (links words : List ℕ) → Linked (table_ids table) places pieces (take total.files order) links words → Puttable s t heap table places links words
      decided-chained links words l =
          let chains = filed ∙ ap (files_in heap (table_ids table) places pieces) (sym same-order) ∙ sym (l.files heap) in
          record {
            placing = record {
              limits = d.limits;
              wide = d.wide;
              linked = l.wide;
              chained = l.chained;
              used = d.placed.1.0;
              stand = d.placed.1.1.1.1;
              kept = λ i some. let k = d.placed.1.1.1.0 i some in (k.0, (k.1.0, d.filled k.1.0 k.1.1, k.1.3));
            };
            fitting = subst (Fitting s.slot_bytes (empty_in s t.files heap) t.next_position) chains fitting;
            firsts = l.firsts;
          }

      -- and before
      pub decided-chainable : Chainable s t heap table places pieces (take total.files order)
      decided-chainable = record { limits = d.limits; linkable = decided-linkable; puttable = decided-chained }

      -- and what it leaves
      pub decided-rewritten : (r : State) (heap' table' : List ℕ)
          → PutAll s generation t heap table (files_in heap (table_ids table) places pieces (take total.files order)) r heap' table'
          → Regrouped (Ok total.entries) r heap' table'
      decided-rewritten r heap' table' p = record {
        course = λ c.
            ap₂ (λ (n : ℕ) (w : World). course_given generation (Ok n) w) entries-are
            (p.worlds c ∙ ap (installed_all 0 generation (world s t c heap table)) (ap (files_in heap (table_ids table) places pieces) same-order ∙ sym filed))
            ∙ rewritten c;
        limits = p.limits;
        count = omega (arith, entries-are, placed-count heap (table_ids table) places, ids-count table, d.limits.limits.table.most);
        kept = p.kept;
      }
