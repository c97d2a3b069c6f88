use mathlib.Core.Path.{◌≡◌, refl, sym, ap, ◌∙◌}
use mathlib.Core.Bool.{Bool, true, false, not, true≢false}
use Prim.Native.Nat.{ℕ}
use borrow.Author.Tests.{eq-eqb, ne_eqb}
use Rattle.rules.specs.declared.Settings.{Settings}
use Rattle.limits.specs.declared.Rest.{Rest}
use Rattle.rules.specs.declared.FileMap.{FileMap}
use Rattle.rules.specs.Layout.{capacity_of, Table}
use Rattle.rules.specs.Condition1.{condition_one, not_the_states}
use Rattle.rules.proofs.Condition1Laws.{in-limits}
use Rattle.limits.specs.Settled.{state_of, the_states, the-states, bad-files}
use Rattle.limits.proofs.refused_apart.Goals as goal

-- ---- lengths and settings, as they were found
told : (s : Settings) (heap entries : ℕ) (table : Table) (rest : Rest) (found : Bool) → entries ≡ capacity_of table → found ≡ the_states s heap entries rest
    → the_states s heap (capacity_of table) rest ≡ found
told s heap entries table rest found counted told_is = sym (told_is ∙ ap (λ (n : ℕ). the_states s heap n rest) counted)

settled : (s : Settings) (heap : ℕ) (table : Table) (rest : Rest) (files : FileMap) → the_states s heap (capacity_of table) rest ≡ true
    → not_the_states s heap table (state_of rest files) ≡ false
settled s heap table rest files same = the-states s heap table rest files ∙ ap not same

-- a call that is refused owes no limits
refused : {A : Type 0} → true ≡ false → A
refused e = absurd (true≢false e)

pub returns-then-out_of_range : goal.returns-then-out_of_range
unfolding condition_one
returns-then-out_of_range c = record {
  answers = λ files bad. rw (sym c.out_of_range.ensures ∙ c.if-out_of_range.true) refl;
  within = refused;
}

pub returns-then-not-the_states : goal.returns-then-not-the_states
unfolding condition_one
returns-then-not-the_states c =
    let a = c.args in
    let other = told a.s a.heap _ a.table.now a.rest _ c.capacity.ensures c.the_states.ensures ∙ c.if-not-the_states.true in
    record {
      answers = λ files bad. rw (sym c.out_of_range.ensures ∙ c.if-out_of_range.false, the-states a.s a.heap a.table.now a.rest files ∙ ap not other) refl;
      within = refused;
    }

pub returns-then-not-in_form : goal.returns-then-not-in_form
unfolding condition_one
returns-then-not-in_form c =
    let a = c.args in
    record {
      answers = λ files bad. rw (sym c.out_of_range.ensures ∙ c.if-out_of_range.false, settled a.s a.heap a.table.now a.rest files (told a.s a.heap _ a.table.now a.rest _ c.capacity.ensures c.the_states.ensures ∙ c.if-not-the_states.false), sym c.in_form.ensures ∙ c.if-not-in_form.true) refl;
      within = refused;
    }

pub returns-then-rest-eq0 : goal.returns-then-rest-eq0
unfolding condition_one
returns-then-rest-eq0 c =
    let a = c.args in
    let none = eq-eqb c.args.rest.next_position 0 c.if-rest-eq0.true in
    record {
      answers = λ files bad. rw (sym c.out_of_range.ensures ∙ c.if-out_of_range.false, settled a.s a.heap a.table.now a.rest files (told a.s a.heap _ a.table.now a.rest _ c.capacity.ensures c.the_states.ensures ∙ c.if-not-the_states.false), sym c.in_form.ensures ∙ c.if-not-in_form.false, none) refl;
      within = refused;
    }

pub returns : goal.returns
unfolding condition_one
returns c =
    let a = c.args in
    let size = (in-limits a.s a.heap a.table.now (sym c.out_of_range.ensures ∙ c.if-out_of_range.false)).settings in
    let some = ne_eqb a.rest.next_position 0 c.if-rest-eq0.false in
    record {
      answers = λ files bad. rw (sym c.out_of_range.ensures ∙ c.if-out_of_range.false, settled a.s a.heap a.table.now a.rest files (told a.s a.heap _ a.table.now a.rest _ c.capacity.ensures c.the_states.ensures ∙ c.if-not-the_states.false), sym c.in_form.ensures ∙ c.if-not-in_form.false, some) (bad ∙ bad-files a.s a.heap a.table.now files.records size.slot-low size.slot-high);
      within = λ _. in-limits a.s a.heap a.table.now (sym c.out_of_range.ensures ∙ c.if-out_of_range.false);
    }
