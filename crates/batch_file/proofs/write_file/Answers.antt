use Prim.Native.Nat.{◌+◌}
use native.Mathlib.Omega.{arith}
use Rattle.rules.specs.Ops.{file_bytes, settled}
use Rattle.rules.specs.Label.{label_bytes}
use Rattle.slot_writer.specs.Files.{file-then-label}
use Rattle.batch.specs.Reading.{ops_in}
use Rattle.batch_file.proofs.Lent.{lent-made}
use Rattle.batch_file.proofs.write_file.Goals as goal

pub returns : goal.returns
returns c =
    let a = c.args in
    let file = file_bytes (settled (ops_in a.batch.now)) in
    file-then-label a.start (label_bytes a.new) file
    (lent-made _ _ file (a.start + 64) _ _ (omega (arith, c.requires.batch_in_bounds)) c.put_file-rest.ensures)
    c.put.ensures
