use mathlib.Core.Path.{sym, ◌∙◌}
use native.Mathlib.Nat.{zero-add}
use native.Mathlib.Omega.{arith}
use borrow.Author.Rules.{rules}
use Rattle.rules.specs.Ops.{objects_of, entries_of, file_bytes, settled}
use Rattle.rules.proofs.OpsLaws.{file-length}
use Rattle.rules.specs.Trailer.{trailer_bytes}
use Rattle.stores.specs.Runs.{made-behind, made-length}
use Rattle.batch.specs.Reading.{ops_in}
use Rattle.batch_file.proofs.put_file.Goals as goal

pub put_objects-objects-requires : goal.put_objects-objects-requires
put_objects-objects-requires c =
    let sized = c.requires.sized in (
      c.requires.order_len.0,
      c.requires.order_len.1,
      sized.entries,
      omega (arith, c.requires.batch_in_bounds, file-length (settled (ops_in c.args.batch.now))),
      omega (arith, sized.objects, sized.small),
    )

pub put_trailer-requires : goal.put_trailer-requires
put_trailer-requires c =
    let sized = c.requires.sized in (
      search rules,
      c.put_objects-objects.ensures.again,
      c.put_objects-objects.ensures.summed,
      sized.entries,
      omega (arith, c.requires.batch_in_bounds, sized.entries, sized.objects, made-length c.put_objects-objects.ensures.made, file-length (settled (ops_in c.args.batch.now))),
      omega (arith, sized.objects, sized.small),
    )

pub returns : goal.returns
unfolding file_bytes
returns c =
    let ops = settled (ops_in c.args.batch.now) in
    made-behind 0 c.args.total (objects_of ops) (trailer_bytes (entries_of 0 ops)) (zero-add _ ∙ sym c.requires.sized.objects) c.put_objects-objects.ensures.made c.put_trailer.ensures
