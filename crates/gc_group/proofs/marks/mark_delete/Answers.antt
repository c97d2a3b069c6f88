use Prim.Native.Nat.{ℕ, ◌+◌, ◌-◌}
use mathlib.Core.Path.{◌≡◌, sym, ap, ◌∙◌}
use mathlib.Core.List.{List}
use mathlib.Core.Bool.{true}
use Rattle.disk_location.specs.Answers.{Located}
use Rattle.disk_location.specs.Locations.{position_of, delete_of, raw_of, told}
use Rattle.rules.specs.Layout.{used_entries}
use Rattle.gc_group.specs.Marks.{current, marked}
use Rattle.gc_group.proofs.MarkLaws.{located-raw, delete-here, delete-not, mark-none}
use Rattle.gc_group.proofs.marks.mark_delete.Goals as goal

pub returns-then-is_delete : goal.returns-then-is_delete
returns-then-is_delete c =
    let a = c.args in
    let table = used_entries a.table.now in
    let d : delete_of a.e.location ≡ true = sym c.is_delete.ensures ∙ c.if-is_delete.true in
    let sum = position_of a.e.location + a.lsn in
    let raw : c.raw.result ≡ raw_of sum (delete_of a.e.location) =
    c.raw.ensures ∙ ap (λ (l : Located). (told l).raw) c.to_absolute.ensures ∙ located-raw sum (delete_of a.e.location) (c.requires.sum_fits d) in
    c.mark_at.ensures ∙ ap (λ (n : ℕ). marked a.mark (current table a.e.id n) table a.marks.now) raw
    ∙ sym (ap (λ (ids : List ℕ). marked a.mark ids table a.marks.now) (delete-here a.lsn table a.e d))

pub returns-else-is_delete : goal.returns-else-is_delete
returns-else-is_delete c =
    let a = c.args in
    let table = used_entries a.table.now in
    sym (
    ap (λ (ids : List ℕ). marked a.mark ids table a.marks.now) (delete-not a.lsn table a.e (sym c.is_delete.ensures ∙ c.if-is_delete.false))
    ∙ mark-none a.mark table a.marks.now)
