use native.Mathlib.Omega.{arith}
use Rattle.rules.specs.Ops.{file_bytes}
use Rattle.batch_file.specs.Whole.{file-whole}
use Rattle.rules.specs.Layout.{table_ids}
use Rattle.gc_chains.specs.Chains.{chain_ops}
use Rattle.gc_install.proofs.put_piece.Goals as goal

pub returns : goal.returns
returns c =
    let a = c.args in
    file-whole a.file.start a.new (file_bytes (chain_ops a.file.first a.heap.now (table_ids a.table.now) a.places.now a.links.now)) (omega (arith, c.requires.room, c.requires.inside)) c.write_piece.ensures
