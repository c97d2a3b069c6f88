use mathlib.Core.Path.{◌≡◌, sym, ap, ◌∙◌, subst}
use Prim.Native.Nat.{ℕ}
use native.Mathlib.Omega.{arith}
use lib.ListN.{length, replicate, length-replicate}
use Rattle.rules.specs.Layout.{used_entries}
use Rattle.gc_candidates.specs.Plan.{planned}
use Rattle.gc_group.specs.Source.{source}
use Rattle.gc_split.specs.declared.Totals.{Totals}
use mathlib.Core.Bool.{Bool, false, not}
use Rattle.std.specs.Prelude.{Option, Some, None, Ok, Err, is_some}
use Rattle.gc_course.specs.declared.Halt.{Halt}
use Rattle.gc_course.specs.Runs.{is_going}
use Rattle.gc_plan.specs.Forecasts.{Fits, fits-done, foretold-halted, foretold-few, foretold-group}
use Rattle.gc_plan.proofs.foretell.Goals as goal

-- nothing is foretold yet, or something is
told : (h : Option Halt) (b : Bool) → b ≡ is_some h → not b ≡ is_going h
told None b e = ap not e
told (Some h) b e = ap not e

pub returns-then-is_some : goal.returns-then-is_some
returns-then-is_some c =
    let a = c.args in
    foretold-halted a.group.settings (source a.group.settings.slot_bytes a.heap.now a.m.records (used_entries a.table.now)) a.group.generation (planned a.plan.now a.group.generation) a.f
    (sym (told a.f.halt _ c.is_some.ensures) ∙ ap not c.if-is_some.true)

pub returns-then-group_count-group : goal.returns-then-group_count-group
returns-then-group_count-group c =
    let a = c.args in
    foretold-few a.group.settings (source a.group.settings.slot_bytes a.heap.now a.m.records (used_entries a.table.now)) a.group.generation (planned a.plan.now a.group.generation) a.f
    (sym (told a.f.halt _ c.is_some.ensures) ∙ ap not c.if-is_some.false)
    (omega (arith, c.group_count.ensures, c.if-group_count-group.true))

pub decide_group-requires : goal.decide_group-requires
decide_group-requires c =
    let room = c.requires.table_len_bound in
    let blank = c.clear.ensures in
    let long = ap length blank ∙ length-replicate (length c.args.places.now) 0 in record {
      in_ranges = c.requires.in_ranges;
      ready = c.requires.ready;
      formed = c.requires.formed;
      table_len_bound = (room.0, room.1, omega (arith, room.2, long), blank ∙ ap (λ (n : ℕ). replicate n 0) (sym long));
    }

pub joined-requires : goal.joined-requires
joined-requires c =
    let a = c.args in
    let within = c.requires.within in
    let done = c.in-Ok.ensures in record {
      within = within;
      fits = subst (λ (t : Totals). Fits t a.f) (sym done.totals)
          (fits-done a.group.settings (source a.group.settings.slot_bytes a.heap.now a.m.records (used_entries a.table.now)) (planned a.plan.now a.group.generation) a.f c.requires.in_ranges within (sym done.answers));
    }

pub returns-in-Err : goal.returns-in-Err
returns-in-Err c =
    let a = c.args in
    foretold-group a.group.settings (source a.group.settings.slot_bytes a.heap.now a.m.records (used_entries a.table.now)) a.group.generation (planned a.plan.now a.group.generation) a.f
    (sym (told a.f.halt _ c.is_some.ensures) ∙ ap not c.if-is_some.false) (omega (arith, c.group_count.ensures, c.if-group_count-group.false)) (Err c.in-Err.refusal)
    (record { entries = 0; files = 0; positions = 0; large = false }) c.in-Err.ensures.answers (λ e. absurd (let z : ◌≡◌ {A = ℕ} 0 1 = cc in omega arith))

pub returns-in-Ok : goal.returns-in-Ok
returns-in-Ok c =
    let a = c.args in
    c.joined.ensures
    ∙ foretold-group a.group.settings (source a.group.settings.slot_bytes a.heap.now a.m.records (used_entries a.table.now)) a.group.generation (planned a.plan.now a.group.generation) a.f
    (sym (told a.f.halt _ c.is_some.ensures) ∙ ap not c.if-is_some.false) (omega (arith, c.group_count.ensures, c.if-group_count-group.false)) (Ok tt) _ c.in-Ok.ensures.answers (λ e. c.in-Ok.ensures.totals)
