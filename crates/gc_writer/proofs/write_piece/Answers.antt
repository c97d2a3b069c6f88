use Prim.Native.Nat.{◌+◌, ◌*◌}
use native.Mathlib.Omega.{arith}
use Rattle.slot_writer.specs.Files.{file-made}
use Rattle.rules.specs.Layout.{table_ids}
use Rattle.gc_chains.specs.Chains.{chain_ops}
use Rattle.gc_writer.specs.Elsewhere.{chain-elsewhere}
use Rattle.gc_writer.specs.Writing.{free-elsewhere, free_part, writing-free, writing-room, objects-elsewhere}
use Rattle.gc_writer.proofs.write_piece.Goals as goal

pub put_objects-objects-requires : goal.put_objects-objects-requires
put_objects-objects-requires c =
    let w = c.requires in
    let room = writing-room w in record {
      free = free_part (writing-free w) (c.args.file.start + 64) _ (omega arith) (omega (arith, w.objects, room));
      leads = w.leads;
      count_value = w.entries;
      links_len_bound = omega (arith, room, w.objects, w.small);
    }

pub overflow_add-trailer : goal.overflow_add-trailer
overflow_add-trailer c =
    let w = c.requires in
    omega (arith, writing-room w, w.inside)

pub put_trailer-behind_trailer-requires : goal.put_trailer-behind_trailer-requires
put_trailer-behind_trailer-requires c =
    let a = c.args in
    let w = c.requires in
    let made = c.put_objects-objects.ensures in
    let away = objects-elsewhere w made.made in
    let same = chain-elsewhere away a.file.first (table_ids a.table.now) a.places.now a.links.now w.apart in
    let room = writing-room w in
    rw same (record {
      free = free_part (free-elsewhere (writing-free w) away) (a.file.start + 64 + a.file.sizes.total) (12 + 16 * a.file.sizes.count) (omega arith) (omega arith);
      leads = w.leads;
      count_value = w.entries;
      checksum_value = made.summed;
      links_len_bound = omega (arith, room, w.objects, w.small);
    })

pub returns : goal.returns
returns c =
    let a = c.args in
    let w = c.requires in
    let made = c.put_objects-objects.ensures.made in
    let same = chain-elsewhere (objects-elsewhere w made) a.file.first (table_ids a.table.now) a.places.now a.links.now w.apart in
    let ops = chain_ops a.file.first a.heap.now (table_ids a.table.now) a.places.now a.links.now in
    file-made a.file.start ops a.new made (rw (same, w.objects) at c.put_trailer-behind_trailer.ensures) c.put.ensures
