use mathlib.Core.Path.{sym, ap, ◌∙◌}
use mathlib.Core.List.{List}
use lib.ListN.{take, length-drop}
use lib.Seq.{drop-drop}
use Rattle.rules.specs.Object.{stored_at}
use Rattle.numbers.specs.LittleEndian.{le_value}
use Rattle.numbers.proofs.Lent.{read-in}
use Prim.Native.Nat.{ℕ, ◌+◌}
use native.Mathlib.Omega.{arith}
use Rattle.stored_object.proofs.object.header.Goals as goal

pub returns : goal.returns
unfolding stored_at
returns c =
    let s = c.args.bytes.now in
    let at = c.args.position in
    let fit = c.requires in
    let sum = read-in s at 4 c.get-sum.result (omega arith) c.get-sum.ensures in
    let id = read-in s (at + 4) 8 c.get-id.result (omega arith) c.get-id.ensures ∙ ap (λ (l : List ℕ). le_value (take 8 l)) (sym (drop-drop 4 at s)) in
    let size = read-in s (at + 12) 8 c.get-size.result (omega arith) c.get-size.ensures ∙ ap (λ (l : List ℕ). le_value (take 8 l)) (sym (drop-drop 12 at s)) in
    let room = c.room.ensures ∙ sym (length-drop at s) in
    cc
