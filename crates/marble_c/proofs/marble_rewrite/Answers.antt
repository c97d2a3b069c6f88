use mathlib.Core.Path.{refl, sym, ap, ◌∙◌}
use Prim.Native.Nat.{ℕ}
use native.Mathlib.Omega.{arith}
use lib.Seq.{get_or-set_same}
use Rattle.rules.specs.TwoCalls.{notes_left}
use Rattle.rules.specs.World.{Given}
use Rattle.as_numbers.specs.Numbered.{numbered}
use Rattle.marble_c.specs.Host.{shown_after}
use Rattle.marble_c.proofs.marble_rewrite.Goals as goal

pub returns : goal.returns
returns c =
    let a = c.args in
    let moved = get_or-set_same a.asked.now 3 c.rewrite_shown-told.result.value 0 (omega arith) in
    let told = ap (λ (g : Given). g.number) c.rewrite_shown-told.ensures in
    rw (moved, c.rewrite_shown-told.ensures, ← c.claims_in.ensures) (record {
      leaves = ap (shown_after 1) c.rewrite_in.ensures.leaves;
      asked = refl;
      places = c.rewrite_in.ensures.places ∙ ap (λ (n : ℕ). notes_left (numbered n) a.places.now) (sym told);
      pieces = c.rewrite_in.ensures.pieces ∙ ap (λ (n : ℕ). notes_left (numbered n) a.pieces.now) (sym told);
    })
