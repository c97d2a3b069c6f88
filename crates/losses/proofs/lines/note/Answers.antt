use mathlib.Core.Path.{refl, ap}
use Rattle.losses.specs.Salvage.{loss}
use Rattle.losses.specs.Lines.{reports-one}
use Prim.Native.Nat.{ℕ}
use native.Mathlib.Omega.{arith}
use lib.ListN.{length-set}
use mathlib.Core.List.{[], ◌∷◌}
use Rattle.losses.proofs.lines.note.Goals as goal

pub bounds-report-second : goal.bounds-report-second
bounds-report-second c = simp length-set (omega arith)

pub returns : goal.returns
returns c =
    let a = c.args in
    reports-one a.count (loss a.slot a.refusal) a.report.now _ _ _ refl c.requires (ap (λ (n : ℕ). a.slot ∷ n ∷ []) c.refusal_number-number.ensures)
