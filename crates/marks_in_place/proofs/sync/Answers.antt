use mathlib.Core.Path.{◌≡◌, refl, sym, ap, ◌∙◌}
use Prim.Native.Nat.{ℕ}
use borrow.Author.Rules.{rules}
use Rattle.std.specs.Prelude.{[], ◌∷◌}
use Rattle.rules.specs.Base.{any, padded, pick}
use Rattle.rules.specs.Refusal.{decide}
use Rattle.rules.specs.Sync.{is_unsynced, too_long, sync_call}
use Rattle.as_numbers.specs.Shown.{given}
use Rattle.marks_in_place.proofs.sync.Goals as goal

pub returns-then-too_long : goal.returns-then-too_long
unfolding sync_call too_long decide padded
returns-then-too_long c = simp (sym c.too_long.ensures ∙ c.if-too_long.true) (refl, refl)

pub returns : goal.returns
unfolding sync_call too_long decide padded
returns c =
    let told : c.from.result ≡ pick (any is_unsynced c.args.list.now) 1 0 = search rules in
    simp (sym c.too_long.ensures ∙ c.if-too_long.false) (ap (λ (n : ℕ). given 0 (n ∷ [])) told, c.mark-changed.ensures.marks)
