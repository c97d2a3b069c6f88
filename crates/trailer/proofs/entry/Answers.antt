use mathlib.Core.Path.{sym, ap, ap₂, ◌∙◌}
use mathlib.Core.List.{List}
use Prim.Native.Nat.{◌*◌, ℕ, ◌+◌}
use lib.ListN.{take}
use lib.Seq.{drop-drop}
use Rattle.numbers.specs.LittleEndian.{le_value}
use Rattle.numbers.proofs.Lent.{read-in}
use Rattle.trailer.specs.Entries.{entries_at}
use native.Mathlib.Omega.{arith}
use Rattle.trailer.proofs.entry.Goals as goal

pub returns : goal.returns
returns c =
    let a = c.args in
    let s = a.trailer.now in
    let fit = c.requires in
    let id = read-in s (12 + 16 * a.k) 8 c.get-id.result (omega arith) c.get-id.ensures in
    let location = read-in s (12 + 16 * a.k + 8) 8 c.get-location.result (omega arith) c.get-location.ensures in
    ap₂ (λ (i l : ℕ). record { id = i; location = l }) id (location ∙ ap (λ (l : List ℕ). le_value (take 8 l)) (sym (drop-drop 8 (12 + 16 * a.k) s)))
    ∙ sym (entries_at s fit.trailer_in_bounds a.k fit.k_bound)
