-- "Reopen": on the views of the slots.
use Rattle.std.specs.Prelude.{◌&&◌, ◌||◌, ◌∷◌, ◌++◌, ◌+◌, ◌-◌}
use Rattle.rules.specs.Base.{Bool, true, false, List, [], map, ℕ, length, replicate, leb, ltb, eqb, pick, any, keep, each, greatest, within}
use Rattle.rules.specs.Types.{Entry, Label, Record, State, Refusal, Limits, TableRoom, Overlap, NotRising}
use Rattle.disk_location.specs.Locations.{masked_of, position_of}
use Rattle.rules.specs.Refusal.{Test, ◌gives◌, decide, after}
use Rattle.rules.specs.Trailer.{absolute}
use Rattle.rules.specs.SlotFile.{File, View, empty, damaged, holds, views_in}
use Rattle.rules.specs.Layout.{capacity_of, laid_out, cleared}
use Rattle.rules.specs.FileMap.{recorded, empty_record, no_files}
use Rattle.rules.specs.Claims.{no_claims}
use Rattle.rules.specs.Condition1.{out_of_range}
use Rattle.rules.specs.World.{World, slots_of, accepted, refused, After, unchanged}

-- "Per non-empty slot, ascending: 8, 9, 10, 11, 12, 13."
abbrev pub view_tests : View → List Test
view_tests empty = []
view_tests (damaged r) = true gives r ∷ []
view_tests (holds f) = []

-- the file of a view, if it holds one
abbrev pub file_of : View → List File
file_of empty = []
file_of (damaged r) = []
file_of (holds f) = f ∷ []

-- the files, ascending by slot
unfoldable pub files_in : List View → List File
files_in views = each file_of views

-- "masked ranges lsn..lsn+T, both ends counted"
abbrev pub in_range : Label → ℕ → Bool
in_range l position = within (masked_of l.lsn) (masked_of l.lsn + l.trailer_offset) position

-- two ranges that share a position
abbrev pub meets : Label → Label → Bool
meets l m = leb (masked_of l.lsn) (masked_of m.lsn + m.trailer_offset) && leb (masked_of m.lsn) (masked_of l.lsn + l.trailer_offset)

-- "Files' masked ranges .. must be disjoint": some two are not
unfoldable pub overlapping : List File → Bool
overlapping [] = false
overlapping (f ∷ fs) = any (λ (g : File). meets f.label g.label) fs || overlapping fs

-- "A repeated id in one trailer needs strictly rising positions": some later entry of an id is not above an earlier one
unfoldable pub not_rising : List Entry → Bool
not_rising [] = false
not_rising (e ∷ es) = any (λ (d : Entry). eqb d.id e.id && leb (position_of d.location) (position_of e.location)) es || not_rising es

-- an absolute location's position, the batch bit cleared
abbrev pub masked_position : Entry → ℕ
masked_position e = masked_of (position_of e.location)

-- an entry among those of other ids, ascending; of two of one id the later stays
unfoldable pub latest : Entry → List Entry → List Entry
latest n [] = n ∷ []
latest n (e ∷ es) =
    pick (ltb e.id n.id) (e ∷ latest n es)
    (pick (eqb e.id n.id) (pick (ltb (masked_position e) (masked_position n)) n e ∷ es) (n ∷ e ∷ es))

-- entry by entry, beside those met before
unfoldable pub latest_from : List Entry → List Entry → List Entry
latest_from met [] = met
latest_from met (e ∷ es) = latest_from (latest e met) es

-- each id once, ascending, at its greatest masked position
abbrev pub latest_of : List Entry → List Entry
latest_of es = latest_from [] es

-- "Each id maps to its entry of greatest masked position"
unfoldable pub table_of : List File → List Entry
table_of files = latest_of (each (λ (f : File). map (absolute f.label.lsn) f.entries) files)

-- "Then over all: 14, 15, 6."
unfoldable pub reopen_tests : World → List View → List Test
reopen_tests w views =
    each view_tests views
    ++ (overlapping (files_in views) gives Overlap
    ∷ any (λ (f : File). not_rising f.entries) (files_in views) gives NotRising
    ∷ ltb (capacity_of w.table) (length (table_of (files_in views))) gives TableRoom
    ∷ [])

-- "a file's live count is the ids mapped into it, deletes included"
unfoldable pub mapped_into : List Entry → Label → ℕ
mapped_into table l = length (keep (λ (e : Entry). in_range l (masked_position e)) table)

-- a slot's record: "the label's five numbers and the live count"; the mark is "set on reopening", and clear in an empty record
abbrev pub record_of : List Entry → View → Record
record_of table (holds f) = recorded f.label (mapped_into table f.label) 1
record_of table empty = empty_record
record_of table (damaged r) = empty_record

-- the file map: slots from N on are empty
unfoldable pub records_from : List Entry → List View → List Record
records_from table views = map (record_of table) views ++ replicate (256 - length views) empty_record

-- "Next position is greatest masked lsn + greatest file_size + 1, or 1 for no files."
unfoldable pub next_after : List File → ℕ
next_after files = greatest (λ (f : File). masked_of f.label.lsn) files + (greatest (λ (f : File). f.label.file_size) files + 1)

-- a state of the given settings and lengths
abbrev pub state_of : World → List Record → ℕ → State
state_of w records next = record {
  settings = w.settings;
  heap_len = length w.heap;
  table_len = capacity_of w.table;
  files = record { records = records };
  next_position = next;
}

-- "a reopening refused with any number but 1 zeroes the one buffer and hands back an empty file map, no claims and next position 1"
unfoldable pub given_up : World → Refusal → After
given_up w r = record {
  answer = refused r;
  world = record { settings = w.settings; state = state_of w no_files 1; claims = no_claims; heap = w.heap; table = cleared w.table };
}

-- "The heap is only read."; "a reopening not refused with 1 starts one without claims"
unfoldable pub opened : World → List View → After
opened w views =
    let table = table_of (files_in views) in
    record {
      answer = accepted [];
      world = record {
        settings = w.settings;
        state = state_of w (records_from table views) (next_after (files_in views));
        claims = no_claims;
        heap = w.heap;
        table = laid_out (capacity_of w.table) table;
      };
    }

-- the call: 1; then 8 to 13 by slot, 14, 15, 6; else opened
unfoldable pub reopen_call : World → After
reopen_call w =
    let views = views_in (slots_of w) w.settings.slot_bytes w.heap in
    after (decide (out_of_range w.settings (length w.heap) w.table gives Limits ∷ [])) (unchanged w)
    (after (decide (reopen_tests w views)) (given_up w) (opened w views))
