use mathlib.Core.Path.{◌≡◌, sym, ap, ap₂, ◌∙◌, subst}
use mathlib.Core.List.{List}
use Prim.Native.Nat.{ℕ, ◌<◌}
use native.Mathlib.Omega.{arith}
use lib.ListN.{length, get_or, length-map}
use borrow.Author.Rules.{rules}
use Rattle.numbers.specs.Parts.{front}
use Rattle.rules.specs.declared.Record.{Record}
use Rattle.rules.proofs.BaseLaws.{replicate-at}
use Rattle.rules.specs.Layout.{table_locations, used_entries}
use Rattle.file_map.proofs.RecordTurns.{mapped-length}
use Rattle.gc_candidates.specs.Plan.{planned}
use Rattle.gc_group.specs.Source.{source}
use Rattle.gc_files.specs.Places.{places_for}
use Rattle.gc_places.specs.GroupLaws.{group-checked, marks-used, placeables, places-told}
use Rattle.std.proofs.lemmas.Result.{err_from_is_err_and}
use Rattle.gc_places.proofs.place_group.Goals as goal

pub returns-in_err-mark_group-clause-answers : goal.returns-in_err-mark_group-clause-answers
returns-in_err-mark_group-clause-answers c =
    let p = err_from_is_err_and c.from_residual.result c.from_residual.ensures.1 in
    rw (p.1, p.2) (sym c.in_err-mark_group.was ∙ c.mark_group.ensures.answers)

pub place_all-requires : goal.place_all-requires
place_all-requires c =
    let a = c.args in
    let done = c.in_ok-mark_group.was in
    let lsns = c.mark_group.ensures.lsns done in
    let marks = c.mark_group.ensures.marks done in
    let checked = group-checked a.group.settings a.heap.now a.m.records a.plan.now a.group.generation a.table.now (length a.marks.now) c.requires.in_ranges c.requires.ready
    (sym c.mark_group.ensures.answers ∙ done) c.requires.formed c.requires.table_in_bounds.0 (λ i. (c.type_inv.heap i).fits) in
    let all : length a.m.records ≡ 256 = search (mapped-length, rules) in
    let from = source a.group.settings.slot_bytes a.heap.now a.m.records (used_entries a.table.now) in
    let marked = marks-used from (length a.marks.now) (planned a.plan.now a.group.generation) in record {
      slot_bytes_bound = checked.high;
      placeables = placeables a.group.settings.max_object_size a.group.settings.slot_bytes a.heap.now a.m.records a.plan.now a.group.generation a.table.now (length a.marks.now) checked
          _ _ a.places.now (ap length lsns ∙ length-map a.m.records (λ (r : Record). r.label.lsn) ∙ all) lsns marks c.requires.table_in_bounds.1;
      formed = (
        checked.formed,
        λ i some. marked i (subst (λ (ms : List ℕ). 0 < get_or ms i 0) marks some),
        λ i some. absurd (omega (arith, ap (λ (ps : List ℕ). get_or ps i 0) c.requires.table_in_bounds.2 ∙ replicate-at {A = ℕ} (length a.places.now) i 0)),
      );
    }

pub returns : goal.returns
returns c =
    let a = c.args in
    let done = c.in_ok-mark_group.was in
    let lsns = c.mark_group.ensures.lsns done in
    let marks = c.mark_group.ensures.marks done in
    let checked = group-checked a.group.settings a.heap.now a.m.records a.plan.now a.group.generation a.table.now (length a.marks.now) c.requires.in_ranges c.requires.ready
    (sym c.mark_group.ensures.answers ∙ done) c.requires.formed c.requires.table_in_bounds.0 (λ i. (c.type_inv.heap i).fits) in record {
      answers = sym done ∙ c.mark_group.ensures.answers;
      places = λ e.
          places-told a.group.settings.max_object_size a.group.settings.slot_bytes a.heap.now a.m.records a.plan.now a.group.generation a.table.now (length a.marks.now) checked
          a.places.now _ c.requires.table_in_bounds.1 c.requires.table_in_bounds.2
          (c.place_all.ensures ∙ ap₂ (λ (ns ms : List ℕ). front (places_for a.group.settings.slot_bytes ns (table_locations a.table.now) ms) a.places.now) lsns marks);
    }
