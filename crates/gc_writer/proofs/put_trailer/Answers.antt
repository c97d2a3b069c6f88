use Prim.Native.Nat.{◌+◌, ◌*◌}
use native.Mathlib.Omega.{arith}
use Rattle.batch_file.specs.Summing.{trailer-of}
use Rattle.rules.specs.Layout.{table_ids}
use Rattle.gc_writer.specs.Elsewhere.{chain-elsewhere}
use Rattle.gc_writer.specs.Writing.{free-elsewhere, free_part, head-elsewhere}
use Rattle.gc_writer.proofs.put_trailer.Goals as goal

pub put_entries-requires : goal.put_entries-requires
put_entries-requires c =
    let a = c.args in
    let free = c.requires.free in
    let away = head-elsewhere a.at (12 + 16 * a.count) a.objects.checksum a.count (omega arith) c.put_head-rest.ensures in
    let same = chain-elsewhere away a.first (table_ids a.table.now) a.places.now a.links.now free.apart in
    rw same (record {
      free = free_part (free-elsewhere free away) (a.at + 12) _ (omega arith) (omega (arith, c.requires.count_value));
      leads = c.requires.leads;
      links_len_bound = c.requires.links_len_bound;
    })

pub returns : goal.returns
returns c =
    let a = c.args in
    let free = c.requires.free in
    let away = head-elsewhere a.at (12 + 16 * a.count) a.objects.checksum a.count (omega arith) c.put_head-rest.ensures in
    let same = chain-elsewhere away a.first (table_ids a.table.now) a.places.now a.links.now free.apart in
    trailer-of a.at _ c.requires.count_value c.requires.checksum_value c.put_head-rest.ensures (rw same at c.put_entries.ensures)
