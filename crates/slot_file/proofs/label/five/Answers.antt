use mathlib.Core.Path.{refl, sym, ap, ◌∙◌}
use Rattle.rules.specs.declared.LabelAnswer.TheVariants.{Five}
use Rattle.rules.specs.Label.{five_in}
use Rattle.slot_file.proofs.label.five.Goals as goal

-- each number as it was read, one behind the other
pub returns-in_default : goal.returns-in_default
unfolding five_in
returns-in_default c =
    rw (sym c.decode.ensures ∙ c.in_default.is) refl

pub returns-in_default-decode : goal.returns-in_default-decode
unfolding five_in
returns-in_default-decode c =
    rw (sym c.decode.ensures ∙ c.in-Some.is, sym c.decode-2.ensures ∙ c.in_default-decode.is) refl

pub returns-in_default-decode-2 : goal.returns-in_default-decode-2
unfolding five_in
returns-in_default-decode-2 c =
    rw (sym c.decode.ensures ∙ c.in-Some.is, sym c.decode-2.ensures ∙ c.in-Some-decode.is, sym c.decode-3.ensures ∙ c.in_default-decode-2.is) refl

pub returns-in_default-decode-3 : goal.returns-in_default-decode-3
unfolding five_in
returns-in_default-decode-3 c =
    rw (sym c.decode.ensures ∙ c.in-Some.is, sym c.decode-2.ensures ∙ c.in-Some-decode.is, sym c.decode-3.ensures ∙ c.in-Some-decode-2.is, sym c.decode-4.ensures ∙ c.in_default-decode-3.is) refl

pub returns-in_default-decode-4 : goal.returns-in_default-decode-4
unfolding five_in
returns-in_default-decode-4 c =
    rw (sym c.decode.ensures ∙ c.in-Some.is, sym c.decode-2.ensures ∙ c.in-Some-decode.is, sym c.decode-3.ensures ∙ c.in-Some-decode-2.is, sym c.decode-4.ensures ∙ c.in-Some-decode-3.is, sym c.decode-5.ensures ∙ c.in_default-decode-4.is) refl

-- the five numbers are read: zeros decide
pub returns-then-rest_zero : goal.returns-then-rest_zero
unfolding five_in
returns-then-rest_zero c =
    rw (sym c.decode.ensures ∙ c.in-Some.is, sym c.decode-2.ensures ∙ c.in-Some-decode.is, sym c.decode-3.ensures ∙ c.in-Some-decode-2.is, sym c.decode-4.ensures ∙ c.in-Some-decode-3.is, sym c.decode-5.ensures ∙ c.in-Some-decode-4.is, sym c.rest_zero.ensures ∙ c.if-rest_zero.true) (ap Five c.labelled.ensures)

pub returns : goal.returns
unfolding five_in
returns c =
    rw (sym c.decode.ensures ∙ c.in-Some.is, sym c.decode-2.ensures ∙ c.in-Some-decode.is, sym c.decode-3.ensures ∙ c.in-Some-decode-2.is, sym c.decode-4.ensures ∙ c.in-Some-decode-3.is, sym c.decode-5.ensures ∙ c.in-Some-decode-4.is, sym c.rest_zero.ensures ∙ c.if-rest_zero.false) refl
