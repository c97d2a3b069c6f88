use mathlib.Core.Path.{◌≡◌, ap, ◌∙◌}
use lib.ListN.{take, drop, length-drop, length}
use lib.Seq.{take_all}
use native.Mathlib.Numerals.{add-one}
use Rattle.stores.specs.Runs.{made_then}
use Rattle.slot_writer.specs.Labels.{label_stores}
use native.Mathlib.Omega.{arith}
use Rattle.rules.proofs.LabelLaws.{label-length}
use Rattle.slot_writer.proofs.label.put.Goals as goal

pub returns : goal.returns
unfolding label_stores
returns c =
    let l = c.bytes_of-label.result in
    let size : length l ≡ 64 = ap length c.bytes_of-label.ensures ∙ label-length c.args.l in
    let tail : take 63 (drop 1 l) ≡ drop 1 l = take_all 63 (drop 1 l) (omega (arith, length-drop 1 l)) in
    rw (← c.bytes_of-label.ensures) (made_then (rw (add-one, tail) at c.put_bytes-behind.ensures) c.put_bytes.ensures)
