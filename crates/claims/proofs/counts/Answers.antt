use mathlib.Core.Path.{◌≡◌, refl, sym, ap, ◌∙◌}
use mathlib.Core.Bool.{Bool}
use Prim.Native.Nat.{ℕ}
use lib.ListN.{length}
use Rattle.rules.specs.Layout.{Table}
use Rattle.rules.specs.declared.Settings.{Settings}
use Rattle.rules.specs.declared.State.{State}
use Rattle.rules.specs.Counts.{counts_call}
use Rattle.rules.specs.Refusal.{decide}
use Rattle.rules.specs.Condition1.{condition_one}
use Rattle.rules.proofs.Condition1Laws.{passed}
use Rattle.limits.specs.Settled.{passed-bounded}
use Rattle.claims.proofs.counts.Goals as goal

-- what is asked is the call's
asked : (s : Settings) (heap : ℕ) (table : Table) (state same : State) (answer : Bool) → answer ≡ condition_one s heap table same → same ≡ state
    → condition_one s heap table state ≡ answer
asked s heap table state same answer told is = sym (told ∙ ap (condition_one s heap table) is)

pub returns-then-refused_apart : goal.returns-then-refused_apart
unfolding counts_call decide
returns-then-refused_apart c =
    let a = c.args in
    λ claims. rw (asked a.s (length a.heap.now) a.table.now a.state _ _ (c.refused_apart.ensures.answers a.state.files c.bad_files-bad.ensures) c.rest_of.ensures ∙ c.if-refused_apart.true) refl

pub counts-requires : goal.counts-requires
counts-requires c =
    let a = c.args in
    let n = length a.heap.now in
    let b = a.table.now in
    passed-bounded a.s n b a.state (passed a.s n b a.state (asked a.s (length a.heap.now) a.table.now a.state _ _ (c.refused_apart.ensures.answers a.state.files c.bad_files-bad.ensures) c.rest_of.ensures ∙ c.if-refused_apart.false))

pub returns : goal.returns
unfolding counts_call decide
returns c =
    let a = c.args in
    λ claims. rw (c.counts.ensures, asked a.s (length a.heap.now) a.table.now a.state _ _ (c.refused_apart.ensures.answers a.state.files c.bad_files-bad.ensures) c.rest_of.ensures ∙ c.if-refused_apart.false) refl
