use Rattle.std.specs.Prelude.{Result, Err, Ok, is_err, ℕ}
use Prim.Native.Nat.{◌-◌}
use mathlib.Core.Path.{◌≡◌, sym, ap, ◌∙◌}
use native.Mathlib.Omega.{arith}
use mathlib.Core.Bool.{Bool}
use Rattle.numbers.specs.Choice.{pick}
use Rattle.rules.specs.declared.Refusal.TheVariants.{Checksum}
use mathlib.Core.List.{List}
use Rattle.rules.specs.declared.Entry.{Entry}
use Rattle.rules.specs.Table.{load, never_written}
use Rattle.rules.specs.TableLaws.{Rising}
use Rattle.location_table.specs.Places.{place}
use Rattle.stored_object.specs.Objects.{header-fits}
use Rattle.gc_group.specs.Checks.{never_at}
use Rattle.gc_group.proofs.Checks.{never-at, moved-large, moved-never, moved-short, moved_sum}
use Rattle.gc_group.proofs.check.check_object.Goals as goal

-- no place of its own
told : (found : Result ℕ ℕ) (b : Bool) → b ≡ is_err found → b ≡ never_at found
told (Ok k) b e = e
told (Err k) b e = e

pub returns-then-limit-h : goal.returns-then-limit-h
returns-then-limit-h c table r e =
    let a = c.args in
    sym (moved-large a.limit table a.objects.now a.position a.h c.requires (omega arith))

pub returns-then-is_err : goal.returns-then-is_err
returns-then-is_err c table r e =
    let a = c.args in
    sym (moved-never a.limit table a.objects.now a.position a.h c.requires c.if-limit-h.false (sym (told _ _ c.is_err.ensures.value ∙ ap never_at e ∙ never-at table r a.h.id) ∙ c.if-is_err.true))

pub overflow_sub-h : goal.overflow_sub-h
overflow_sub-h c =
    let a = c.args in
    omega (arith, (header-fits a.objects.now a.position a.h c.requires).0)

pub returns-then-h : goal.returns-then-h
returns-then-h c table r e =
    let a = c.args in
    sym (moved-short a.limit table a.objects.now a.position a.h c.requires c.if-limit-h.false (sym (told _ _ c.is_err.ensures.value ∙ ap never_at e ∙ never-at table r a.h.id) ∙ c.if-is_err.false)
    (omega (arith, (header-fits a.objects.now a.position a.h c.requires).0)))

pub bad_checksum-requires : goal.bad_checksum-requires
bad_checksum-requires c =
    let a = c.args in
    record {
      h_value = c.requires.header;
      size_bound = omega (arith, (header-fits a.objects.now a.position a.h c.requires).0);
    }

pub returns-then-bad_checksum : goal.returns-then-bad_checksum
returns-then-bad_checksum c table r e =
    let a = c.args in
    sym (
    moved_sum a.limit table a.objects.now a.position a.h c.requires c.if-limit-h.false (sym (told _ _ c.is_err.ensures.value ∙ ap never_at e ∙ never-at table r a.h.id) ∙ c.if-is_err.false)
    (omega (arith, (header-fits a.objects.now a.position a.h c.requires).0))
    ∙ ap (λ (t : Bool). pick t (Err Checksum) (Ok tt)) (sym c.bad_checksum.ensures ∙ c.if-bad_checksum.true))

pub returns : goal.returns
returns c table r e =
    let a = c.args in
    sym (
    moved_sum a.limit table a.objects.now a.position a.h c.requires c.if-limit-h.false (sym (told _ _ c.is_err.ensures.value ∙ ap never_at e ∙ never-at table r a.h.id) ∙ c.if-is_err.false)
    (omega (arith, (header-fits a.objects.now a.position a.h c.requires).0))
    ∙ ap (λ (t : Bool). pick t (Err Checksum) (Ok tt)) (sym c.bad_checksum.ensures ∙ c.if-bad_checksum.false))
