use Prim.Native.Nat.{ℕ, ◌/◌}
use mathlib.Core.Path.{refl, sym, ap, ◌∙◌}
use lib.Dec.{ltb}
use borrow.Author.Tests.{le-leb, lt-leb, lt-ltb, le-ltb}
use Rattle.rules.specs.Condition1.{bad_record}
use Rattle.limits.proofs.bad_record.Goals as goal

pub returns-then-is_empty : goal.returns-then-is_empty
unfolding bad_record
returns-then-is_empty c = rw (sym c.is_empty.ensures ∙ c.if-is_empty.true) refl

pub returns-then-heap-s : goal.returns-then-heap-s
unfolding bad_record
returns-then-heap-s c =
    let a = c.args in
    rw (sym c.is_empty.ensures ∙ c.if-is_empty.false, le-leb (a.heap / a.s.slot_bytes) a.slot c.if-heap-s.true) refl

pub returns-then-out_of_bounds : goal.returns-then-out_of_bounds
unfolding bad_record
returns-then-out_of_bounds c =
    let a = c.args in
    rw (sym c.is_empty.ensures ∙ c.if-is_empty.false, lt-leb (a.heap / a.s.slot_bytes) a.slot c.if-heap-s.false, sym c.out_of_bounds.ensures ∙ c.if-out_of_bounds.true) refl

pub returns-then-r : goal.returns-then-r
unfolding bad_record
returns-then-r c =
    let a = c.args in
    let r = a.r in
    rw (sym c.is_empty.ensures ∙ c.if-is_empty.false, lt-leb (a.heap / a.s.slot_bytes) a.slot c.if-heap-s.false, sym c.out_of_bounds.ensures ∙ c.if-out_of_bounds.false, lt-ltb r.label.file_size r.label.present_objects c.if-r.true) refl

pub returns-then-capacity-r : goal.returns-then-capacity-r
unfolding bad_record
returns-then-capacity-r c =
    let a = c.args in
    let r = a.r in
    let over = ap (λ (n : ℕ). ltb n r.live) (sym c.capacity.ensures) ∙ lt-ltb c.capacity.result r.live c.if-capacity-r.true in
    rw (sym c.is_empty.ensures ∙ c.if-is_empty.false, lt-leb (a.heap / a.s.slot_bytes) a.slot c.if-heap-s.false, sym c.out_of_bounds.ensures ∙ c.if-out_of_bounds.false, le-ltb r.label.file_size r.label.present_objects c.if-r.false, over) refl

pub returns : goal.returns
unfolding bad_record
returns c =
    let a = c.args in
    let r = a.r in
    let within = ap (λ (n : ℕ). ltb n r.live) (sym c.capacity.ensures) ∙ le-ltb c.capacity.result r.live c.if-capacity-r.false in
    rw (sym c.is_empty.ensures ∙ c.if-is_empty.false, lt-leb (a.heap / a.s.slot_bytes) a.slot c.if-heap-s.false, sym c.out_of_bounds.ensures ∙ c.if-out_of_bounds.false, le-ltb r.label.file_size r.label.present_objects c.if-r.false, within) refl
