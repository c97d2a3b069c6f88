use mathlib.Core.Path.{sym}
use lib.ListN.{drop, length-drop, drop_of_length-le, length}
use lib.Seq.{take_all}
use Prim.Native.Nat.{◌-◌}
use native.Mathlib.Omega.{arith}
use Rattle.slot_file.proofs.slot.behind_label.Goals as goal

pub returns-then-slot-lt-LABEL_BYTES : goal.returns-then-slot-lt-LABEL_BYTES
returns-then-slot-lt-LABEL_BYTES c = sym (drop_of_length-le c.args.slot.now {i = 64} (omega arith))

pub returns : goal.returns
returns c =
    let s = c.args.slot.now in
    take_all (length s - 64) (drop 64 s) (omega (arith, length-drop 64 s))
