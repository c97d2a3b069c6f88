use Rattle.std.specs.Prelude.{Some}
use Prim.Native.Nat.{ℕ, ◌-◌}
use mathlib.Core.Path.{sym, ap, ◌∙◌}
use native.Mathlib.Omega.{arith}
use mathlib.Core.List.{List, []}
use Rattle.rules.proofs.LayoutLaws.{used-length, ids-count}
use Rattle.rules.specs.Layout.{used_entries}
use Rattle.location_table.specs.LayoutLaws.{used-location, used-rising}
use Rattle.location_table.specs.EntryLaws.{IsFound, found-tells, gap-tells}
use Rattle.gc_group.specs.Marks.{marked}
use Rattle.gc_group.proofs.MarkLaws.{current-here, current-other, current-none, mark-first, mark-none}
use Rattle.gc_group.proofs.marks.mark_at.Goals as goal

pub location_at-requires : goal.location_at-requires
location_at-requires c =
    let tells : (let a = c.args in
    IsFound (used_entries a.table.now) (record { id = a.id; location = 0 }) c.in-Ok.i) =
    let a = c.args in
    found-tells (used_entries a.table.now) (used-rising a.table.now c.requires.formed.0) (record { id = a.id; location = 0 }) _
    (sym c.requires.formed.1 ∙ c.in-Ok.is) in
    omega (arith, tells.within, used-length c.args.table.now)

pub offset_bounds-marks-i : goal.offset_bounds-marks-i
offset_bounds-marks-i c =
    let tells : (let a = c.args in
    IsFound (used_entries a.table.now) (record { id = a.id; location = 0 }) c.in-Ok.i) =
    let a = c.args in
    found-tells (used_entries a.table.now) (used-rising a.table.now c.requires.formed.0) (record { id = a.id; location = 0 }) _
    (sym c.requires.formed.1 ∙ c.in-Ok.is) in
    omega (arith, tells.within, used-length c.args.table.now, ids-count c.args.table.now, c.requires.table_in_bounds)

pub bounds-marks-i : goal.bounds-marks-i
bounds-marks-i c =
    let tells : (let a = c.args in
    IsFound (used_entries a.table.now) (record { id = a.id; location = 0 }) c.in-Ok.i) =
    let a = c.args in
    found-tells (used_entries a.table.now) (used-rising a.table.now c.requires.formed.0) (record { id = a.id; location = 0 }) _
    (sym c.requires.formed.1 ∙ c.in-Ok.is) in
    omega (arith, tells.within, used-length c.args.table.now, ids-count c.args.table.now, c.requires.table_in_bounds)

pub returns-then-location_at-location : goal.returns-then-location_at-location
returns-then-location_at-location c =
    let tells : (let a = c.args in
    IsFound (used_entries a.table.now) (record { id = a.id; location = 0 }) c.in-Ok.i) =
    let a = c.args in
    found-tells (used_entries a.table.now) (used-rising a.table.now c.requires.formed.0) (record { id = a.id; location = 0 }) _
    (sym c.requires.formed.1 ∙ c.in-Ok.is) in
    let a = c.args in
    let table = used_entries a.table.now in
    let t = tells in
    let here = t.lookup-is ∙ ap Some (sym (c.location_at.ensures ∙ used-location a.table.now _ t.within) ∙ c.if-location_at-location.true) in
    sym (
    ap (λ (ids : List ℕ). marked a.mark ids table a.marks.now) (current-here table a.id a.location here)
    ∙ mark-first a.mark a.id [] 0 table a.marks.now _ (used-rising a.table.now c.requires.formed.0) t.within t.same
    ∙ mark-none a.mark table _)

pub returns-else-location_at-location : goal.returns-else-location_at-location
returns-else-location_at-location c =
    let tells : (let a = c.args in
    IsFound (used_entries a.table.now) (record { id = a.id; location = 0 }) c.in-Ok.i) =
    let a = c.args in
    found-tells (used_entries a.table.now) (used-rising a.table.now c.requires.formed.0) (record { id = a.id; location = 0 }) _
    (sym c.requires.formed.1 ∙ c.in-Ok.is) in
    let a = c.args in
    let table = used_entries a.table.now in
    let t = tells in
    let other = current-other table a.id a.location _ t.lookup-is
    (λ q. c.if-location_at-location.false (c.location_at.ensures ∙ used-location a.table.now _ t.within ∙ q)) in
    sym (ap (λ (ids : List ℕ). marked a.mark ids table a.marks.now) other ∙ mark-none a.mark table a.marks.now)

pub returns-in_default : goal.returns-in_default
returns-in_default c =
    let a = c.args in
    let table = used_entries a.table.now in
    let none = (gap-tells table (used-rising a.table.now c.requires.formed.0) (record { id = a.id; location = 0 }) _ (sym c.requires.formed.1 ∙ c.in_default.is)).lookup-is in
    sym (ap (λ (ids : List ℕ). marked a.mark ids table a.marks.now) (current-none table a.id a.location none) ∙ mark-none a.mark table a.marks.now)
