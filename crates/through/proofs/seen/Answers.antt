use Rattle.std.proofs.Common.{rules}
use mathlib.Core.Path.{◌≡◌, sym, ap, ap₂, ◌∙◌}
use mathlib.Core.Bool.{Bool}
use Prim.Native.Nat.{ℕ}
use Rattle.rules.specs.Types.{ReadAnswer}
use Rattle.rules.specs.Batch.{batch_in, is_malformed}
use Rattle.rules.specs.Condition1.{refused1}
use Rattle.rules.specs.Read.{read_of}
use Rattle.rules.specs.World.{World}
use Rattle.through.specs.Through.{last_in, as_read, answer_by}
use Rattle.through.specs.Pieces.{refused_first}
use Rattle.through.proofs.ThroughLaws.{read_first, through-refused, through-bad, through-last}
use Rattle.through.proofs.LastTurns.{pass-bad, pass-whole}
use Rattle.through.proofs.seen.Goals as goal

-- whether 1 holds
asked : (stored : ReadAnswer) (id : ℕ) (b : Bool) → b ≡ refused_first stored → (w : World) → stored ≡ read_of w id → refused1 w ≡ b
asked stored id b said w e = sym (said ∙ ap refused_first e ∙ read_first w id)

pub returns-then-refused_first : goal.returns-then-refused_first
returns-then-refused_first c =
    let a = c.args in
    λ w e. sym (through-refused w a.id a.batch.now (asked a.stored a.id c.refused_first.result c.refused_first.ensures w e ∙ c.if-refused_first.true))

pub returns-in_err-last : goal.returns-in_err-last
returns-in_err-last c =
    let a = c.args in
    let m = is_malformed (batch_in a.batch.now) in
    let bad = pass-bad m (last_in a.batch.now a.id) (sym c.last_on.ensures ∙ c.in_err-last.ensures.ok_part) in
    λ w e. search (rules, sym (through-bad w a.id a.batch.now (asked a.stored a.id c.refused_first.result c.refused_first.ensures w e ∙ c.if-refused_first.false) bad))

pub returns : goal.returns
returns c =
    let a = c.args in
    let m = is_malformed (batch_in a.batch.now) in
    let whole = pass-whole m (last_in a.batch.now a.id) _ (sym c.last_on.ensures ∙ c.in_ok-last.ensures.ok_part) in
    λ w e.
    c.answer_by.ensures
    ∙ ap₂ answer_by (sym whole.1) (c.as_read.ensures ∙ ap as_read e)
    ∙ sym (through-last w a.id a.batch.now (asked a.stored a.id c.refused_first.result c.refused_first.ensures w e ∙ c.if-refused_first.false) whole.0)
