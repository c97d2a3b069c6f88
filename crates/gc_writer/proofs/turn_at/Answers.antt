use mathlib.Core.Path.{refl}
use Prim.Native.Nat.{◌≤◌, ◌-◌}
use native.Mathlib.Omega.{arith}
use borrow.Author.Rules.{rules}
use lib.ListN.{length, get_or}
use Rattle.rules.specs.Layout.{table_ids}
use Rattle.rules.proofs.LayoutLaws.{ids-count}
use Rattle.gc_files.specs.PlaceLaws.{moving-told}
use Rattle.gc_writer.specs.Walk.{turned}
use Rattle.gc_writer.proofs.turn_at.Goals as goal

pub id_at-id-requires : goal.id_at-id-requires
id_at-id-requires c =
    search ((c.requires.leads.low c.requires.i_nonzero), ids-count c.args.table.now, rules)

pub bounds-places-k : goal.bounds-places-k
bounds-places-k c =
    omega (arith, (c.requires.leads.low c.requires.i_nonzero), c.requires.walking.wide, c.requires.i_nonzero)

pub moving_at-o-requires : goal.moving_at-o-requires
moving_at-o-requires c =
    record {
      place_nonzero = c.requires.leads.moved c.requires.i_nonzero;
      whole = c.requires.walking.standing (c.args.i - 1);
    }

pub size_of-size-requires : goal.size_of-size-requires
size_of-size-requires c =
    let a = c.args in
    let k = a.i - 1 in
    let told = moving-told a.heap.now (get_or (table_ids a.table.now) k 0) (get_or a.places.now k 0) (c.requires.leads.moved c.requires.i_nonzero) (c.requires.walking.standing k) in
    rw (c.moving_at-o.ensures, c.id_at-id.ensures) (omega (arith, told.short))

pub bounds-links-k : goal.bounds-links-k
bounds-links-k c =
    omega (arith, (c.requires.leads.low c.requires.i_nonzero), c.requires.walking.linked, c.requires.i_nonzero)

pub returns : goal.returns
returns c =
    turned c.requires.walking c.requires.i_nonzero c.requires.leads (rw c.id_at-id.ensures at c.moving_at-o.ensures) c.size_of-size.ensures refl
