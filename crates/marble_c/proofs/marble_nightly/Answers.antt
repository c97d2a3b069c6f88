use mathlib.Core.Path.{sym, ap, ◌∙◌}
use Prim.Native.Nat.{ℕ}
use Rattle.rules.specs.TwoCalls.{notes_left}
use Rattle.rules.specs.World.{Given}
use Rattle.as_numbers.specs.Numbered.{numbered}
use Rattle.as_numbers.specs.Shown.{stop_after}
use Rattle.marble_c.proofs.marble_nightly.Goals as goal

pub returns : goal.returns
returns c =
    let a = c.args in
    let told = ap (λ (g : Given). g.number) c.maintain_shown-stopped.ensures in
    rw (c.maintain_shown-stopped.ensures, ← c.claims_in.ensures) (record {
      leaves = ap stop_after c.nightly_in.ensures.leaves;
      places = c.nightly_in.ensures.places ∙ ap (λ (n : ℕ). notes_left (numbered n) a.places.now) (sym told);
      pieces = c.nightly_in.ensures.pieces ∙ ap (λ (n : ℕ). notes_left (numbered n) a.pieces.now) (sym told);
    })
