use Rattle.std.specs.Prelude.{Err, Ok}
use Prim.Native.Nat.{ℕ, ◌+◌}
use mathlib.Core.Path.{◌≡◌, sym, ap, ◌∙◌}
use mathlib.Core.Bool.{Bool, true}
use Rattle.numbers.specs.Choice.{pick}
use Rattle.disk_location.specs.Answers.{Located}
use Rattle.disk_location.specs.Locations.{position_of, delete_of, told, located_at}
use Rattle.rules.specs.declared.Refusal.TheVariants.{NotThere}
use Rattle.rules.specs.Layout.{used_entries}
use Rattle.gc_group.proofs.Checks.{entry-object, entry-great, entry-mapped, located-number}
use Rattle.gc_group.proofs.check.check_entry.Goals as goal

pub returns-then-not-is_delete : goal.returns-then-not-is_delete
returns-then-not-is_delete c =
    let a = c.args in
    sym (entry-object a.lsn (used_entries a.table.now) a.e (sym c.is_delete.ensures ∙ c.if-not-is_delete.true))

-- a delete: whether its sum is too great
number-is : (at lsn number : ℕ) (located : Located) → located ≡ located_at (position_of at + lsn) (delete_of at) → number ≡ (told located).number → delete_of at ≡ true
    → number ≡ (told (located_at (position_of at + lsn) true)).number
number-is at lsn number located is told_is d =
    told_is ∙ ap (λ (l : Located). (told l).number) (is ∙ ap (located_at (position_of at + lsn)) d)

pub returns-then-number-ne0 : goal.returns-then-number-ne0
returns-then-number-ne0 c =
    let a = c.args in
    let d = sym c.is_delete.ensures ∙ c.if-not-is_delete.false in
    let w = number-is a.e.location a.lsn _ _ c.to_absolute.ensures c.number.ensures d in
    sym (entry-great a.lsn (used_entries a.table.now) a.e d ((located-number _).1 (λ z. c.if-number-ne0.true (w ∙ z))))

pub returns-then-never_written : goal.returns-then-never_written
returns-then-never_written c =
    let a = c.args in
    let d = sym c.is_delete.ensures ∙ c.if-not-is_delete.false in
    let w = number-is a.e.location a.lsn _ _ c.to_absolute.ensures c.number.ensures d in
    sym (
    entry-mapped a.lsn (used_entries a.table.now) a.e d ((located-number _).0 (sym w ∙ c.if-number-ne0.false))
    ∙ ap (λ (t : Bool). pick t (Err NotThere) (Ok tt)) (sym c.never_written.ensures ∙ c.if-never_written.true))

pub returns : goal.returns
returns c =
    let a = c.args in
    let d = sym c.is_delete.ensures ∙ c.if-not-is_delete.false in
    let w = number-is a.e.location a.lsn _ _ c.to_absolute.ensures c.number.ensures d in
    sym (
    entry-mapped a.lsn (used_entries a.table.now) a.e d ((located-number _).0 (sym w ∙ c.if-number-ne0.false))
    ∙ ap (λ (t : Bool). pick t (Err NotThere) (Ok tt)) (sym c.never_written.ensures ∙ c.if-never_written.false))
