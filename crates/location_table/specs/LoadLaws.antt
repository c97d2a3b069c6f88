-- What load tells of an entry that is known by its place.
use Rattle.std.specs.Prelude.{◌≡◌, refl, ◌<◌, Some}
use Rattle.std.proofs.Common.{sym, ap, ◌∙◌}
use Rattle.rules.specs.Base.{Bool, true, false, List, ℕ, length, get_or, pick}
use Rattle.rules.specs.declared.Entry.{Entry}
use Rattle.rules.specs.declared.Loaded.{Loaded}
use Rattle.rules.specs.declared.Loaded.TheVariants.{At, DeletedAt}
use Rattle.disk_location.specs.Locations.{delete_of}
use Rattle.rules.specs.Layout.{Table, table_ids, table_locations, used_entries}
use Rattle.rules.specs.Table.{lookup, loaded_of, load, no_entry}
use Rattle.rules.specs.TableLaws.{Rising}
use Rattle.location_table.specs.Tables.{Formed}
use Rattle.location_table.specs.EntryLaws.{rising-lt, place_found, found-tells}
use Rattle.location_table.specs.LayoutLaws.{used-id, used-location, used-rising}

-- an entry in order is found by its id
pub entry-lookup : (es : List Entry) → Rising 0 es → (i : ℕ) → i < length es → lookup es (get_or es i no_entry).id ≡ Some (get_or es i no_entry).location
entry-lookup es r i h =
    let e = get_or es i no_entry in
    (found-tells es r e i (place_found es i e.id (λ j l. rising-lt 0 es r j i l h) h refl)).lookup-is

-- LAW: of a used entry, what `loaded_at` gives for its place is what a load of its id gives
pub place-loads : (b : Table) → Formed b → (k : ℕ) → k < length (used_entries b) → loaded_of (Some (get_or (table_locations b) k 0)) ≡ load (used_entries b) (get_or (table_ids b) k 0)
place-loads b formed k h =
    ap (λ (l : ℕ). loaded_of (Some l)) (used-location b k h)
    ∙ ap loaded_of (sym (entry-lookup (used_entries b) (used-rising b formed) k h))
    ∙ ap (load (used_entries b)) (sym (used-id b k h))

-- a location that is held is a delete's or an object's
pub either-kind : (P : Loaded → Type 0) (l : ℕ) → P (DeletedAt l) → P (At l) → P (loaded_of (Some l))
either-kind P l deleted object = go (delete_of l)
  where
    go : (d : Bool) → P (pick d (DeletedAt l) (At l))
    go true = deleted
    go false = object
