use native.Mathlib.Omega.{arith}
use Rattle.rules.specs.Ops.{file_bytes, settled}
use Rattle.batch.specs.Reading.{ops_in}
use Rattle.batch_file.specs.Whole.{file-whole}
use Rattle.writepath.proofs.put_file.Goals as goal

pub returns : goal.returns
returns c =
    let a = c.args in
    file-whole a.start a.new (file_bytes (settled (ops_in a.batch.now))) (omega (arith, c.requires.batch_in_bounds)) c.write_file.ensures
