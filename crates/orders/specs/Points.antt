-- Single points of document 01, worked out: where a range ends, which of two counts, what a call leaves. One table and one statement, like lines P1 to P10.
use Rattle.std.specs.Prelude.{◌≡◌, refl, ◌∷◌, ◌++◌, ◌+◌, ◌-◌, ◌*◌, ◌^◌, None, Some}
use Rattle.rules.specs.Base.{false, not, List, [], map, ℕ, length, get_or, replicate, any, zeros, keep, each, sum, greatest, padded}
use Rattle.theory.specs.Types.{Settings, Label, Record, Slot, Claims}
use Rattle.numbers.specs.LittleEndian.{le_bytes, le_value}
use Rattle.numbers.specs.Groups.{groups_of, read_groups, number_in}
use Rattle.checksum.specs.Checksum.{shift_bit, shifts, crc_from, crc32, object_sum}
use Rattle.disk_location.specs.Locations.{masked_of, digits_in}
use Rattle.rules.specs.Refusal.{decide}
use Rattle.rules.specs.Settings.{defaults, in_ranges, heap_in_range, same_settings}
use Rattle.rules.specs.Object.{Stored, object_bytes, stored_at, objects_from, objects_in, bad_checksum}
use Rattle.rules.specs.Trailer.{listed, trailer_bytes, trailer_tests, entries_from, entries_in, misplaced}
use Rattle.rules.specs.Ops.{delete, Op, objects_of, entries_of, file_bytes, joined, settled}
use Rattle.rules.specs.Label.{label_bytes, five_in, label_in, out_of_bounds}
use Rattle.rules.specs.SlotFile.{bytes_of_slot, slot_tests, view_in, views_in}
use Rattle.rules.specs.Table.{lookup, insert, insert_all, full}
use Rattle.rules.specs.Layout.{Table, table_ids, table_locations, alternating, lengths_in_range, form_from, in_form, used_in, used_entries, laid_out}
use Rattle.rules.specs.FileMap.{empty_label, recorded, empty_record, is_empty, record_at, no_files, slots_where, empty_slots, lowest_empty, leads, lead_from, file_for, file_count}
use Rattle.rules.specs.Condition1.{out_of_range, not_the_states, bad_record, bad_from, condition_one, refused1}
use Rattle.rules.specs.Batch.{put_operation, operation_at, batch_from, batch_in, any_too_large}
use Rattle.rules.specs.Stores.{made, stores_of, file_stores}
use Rattle.rules.specs.Install.{new_label, new_record, losing, records_with, stores_for, table_with, next_with, installed, installed_all, room_tests, position_tests}
use Rattle.rules.specs.TableCalls.{TableAfter, load_call, store_call, compare_call, greater_call, with_stored}
use Rattle.rules.specs.Write.{too_many_ids, write_tests, written, write_call}
use Rattle.rules.specs.Read.{object_tests, read_of, read_call}
use Rattle.rules.specs.Claims.{no_claims, is_claimed, claim_set, claim_cleared, with_claims, claim_call, release_call}
use Rattle.rules.specs.Prune.{is_dead, emptied_from, prune_stores, pruned, prune_call}
use Rattle.rules.specs.Counts.{counts_of, counts_call}
use Rattle.rules.specs.Listing.{decimal, file_line}
use Rattle.rules.specs.Maintenance.{worth_it, cut_off, joining, split_from, files_of, is_candidate, group, start_group, moved_tests, delete_tests, deletes_of, file_tests, objects_found, deletes_found, found, group_tests, rewrite_group, groups_from, course_of, maintain_call}
use Rattle.rules.specs.Reopen.{files_in, overlapping, not_rising, latest, latest_from, table_of, reopen_tests, mapped_into, records_from, next_after, opened, given_up, reopen_call}
use Rattle.rules.specs.Positions.{relative_given}
use Rattle.rules.specs.World.{World, records_of, no_state, answer_given, After}
use Rattle.rules.specs.Lines.{Line, told, said, bit, mapping, object, agree}
use Rattle.orders.specs.Worlds.{none, one, two, no_form, labelled, summed, slot, holding, seen_at, mismatched, busy, idle, one_put, bad_header, filed, trailing, deleting, closed}

-- ---- settings, lengths, records
-- the six settings
abbrev pub six : ℕ → ℕ → ℕ → ℕ → ℕ → ℕ → Settings
six size percent least target threshold limit = record {
  slot_bytes = size;
  file_compaction_percent = percent;
  min_compaction_files = least;
  target_file_size = target;
  small_file_cleanup_threshold = threshold;
  max_object_size = limit;
}

-- the same of any
abbrev pub six_of : Settings → List ℕ
six_of s =
    s.slot_bytes
    ∷ s.file_compaction_percent
    ∷ s.min_compaction_files
    ∷ s.target_file_size
    ∷ s.small_file_cleanup_threshold
    ∷ s.max_object_size
    ∷ []

-- a label of another generation
abbrev pub aged : ℕ → Label
aged generation = record { lsn = 1; trailer_offset = 0; file_size = 64; present_objects = 1; generation = generation }

-- a record of an lsn, sizes and a live count, its mark clear
abbrev pub kept : ℕ → ℕ → ℕ → ℕ → ℕ → Record
kept lsn offset size present live = recorded (labelled lsn offset size present) live 0

-- the world of `idle` with another record, heap or table lent, the state as it was
abbrev pub lent : List ℕ → Table → World
lent heap table =
    let w = idle 1 in
    record { settings = w.settings; state = w.state; claims = w.claims; heap = heap; table = table }

-- one record in two slots of 128 bytes, and a table of one entry
abbrev pub bearing : Record → World
bearing r = holding (r ∷ []) 1 (replicate 256 0) (one 1 20)

-- the slot found, or 256 for none
abbrev pub slotted : Slot → ℕ
slotted (Some k) = k
slotted None = 256

-- a claim of slots 0 and 3
abbrev pub claimed : Claims
claimed = record { a = 9; b = 0; c = 0; d = 0 }

unfoldable pub limit_points : List Line
limit_points =
    -- "Range": the least of each setting and the greatest; then each in turn just outside
    record {
      ours =
          map (λ (s : Settings). bit (in_ranges s))
          (six 128 0 1 1 0 1
          ∷ six 1048576 100 256 1048576 256 1048576
          ∷ six 127 50 2 2048 64 1024
          ∷ six 1048577 50 2 2048 64 1024
          ∷ six 4096 101 2 2048 64 1024
          ∷ six 4096 50 0 2048 64 1024
          ∷ six 4096 50 257 2048 64 1024
          ∷ six 4096 50 2 0 64 1024
          ∷ six 4096 50 2 1048577 64 1024
          ∷ six 4096 50 2 2048 257 1024
          ∷ six 4096 50 2 2048 64 0
          ∷ six 4096 50 2 2048 64 1048577
          ∷ []);
      paper = 1 ∷ 1 ∷ 0 ∷ 0 ∷ 0 ∷ 0 ∷ 0 ∷ 0 ∷ 0 ∷ 0 ∷ 0 ∷ 0 ∷ [];
    }
    -- "Port's default", with request P10's percentage
    ∷ record { ours = six_of defaults; paper = 4096 ∷ 50 ∷ 2 ∷ 2048 ∷ 64 ∷ 1024 ∷ [] }
    -- "settings .. not those of the state": the same; then each in turn another
    ∷ record {
      ours =
          map (λ (s : Settings). bit (same_settings defaults s))
          (six 4096 50 2 2048 64 1024
          ∷ six 4097 50 2 2048 64 1024
          ∷ six 4096 51 2 2048 64 1024
          ∷ six 4096 50 3 2048 64 1024
          ∷ six 4096 50 2 2049 64 1024
          ∷ six 4096 50 2 2048 65 1024
          ∷ six 4096 50 2 2048 64 1025
          ∷ []);
      paper = 1 ∷ 0 ∷ 0 ∷ 0 ∷ 0 ∷ 0 ∷ 0 ∷ [];
    }
    -- "slots N = heap length / S, exact": none, not exact, one, not exact, 256, 257; tables of 0, 1 and 2 words, of 65,536 entries and of one more
    ∷ record {
      ours =
          map (λ (n : ℕ). bit (heap_in_range (six 128 0 1 1 0 1) n)) (0 ∷ 127 ∷ 128 ∷ 129 ∷ 32768 ∷ 32896 ∷ [])
          ++ map (λ (b : Table). bit (lengths_in_range b)) ([] ∷ (0 ∷ []) ∷ (0 ∷ 0 ∷ []) ∷ replicate 131072 0 ∷ replicate 131074 0 ∷ []);
      paper = 0 ∷ 0 ∷ 1 ∷ 0 ∷ 1 ∷ 0 ∷ 0 ∷ 0 ∷ 1 ∷ 1 ∷ 0 ∷ [];
    }
    -- "used entries first, ids strictly rising, unused entries 0 (location 0 means unused)": two ids; one of them 0; an id twice; falling ids; an unused
    -- entry with an id; a used one behind an unused one; none used
    ∷ record {
      ours =
          map (λ (b : Table). bit (in_form b))
          (two 5 40 6 40
          ∷ two 0 40 6 40
          ∷ two 5 40 5 42
          ∷ two 6 40 5 40
          ∷ two 5 40 6 0
          ∷ no_form
          ∷ none
          ∷ []);
      paper = 1 ∷ 1 ∷ 0 ∷ 0 ∷ 0 ∷ 0 ∷ 1 ∷ [];
    }
    -- "clearing one bit": with the bit or without, below 2^63 and above
    ∷ record {
      ours = masked_of 5 ∷ masked_of (2 ^ 62 + 5) ∷ masked_of (2 ^ 63 + 5) ∷ masked_of (2 ^ 63 + 2 ^ 62 + 5) ∷ [];
      paper = 5 ∷ 5 ∷ (2 ^ 63 + 5) ∷ (2 ^ 63 + 5) ∷ [];
    }
    -- "relative raw 0 is fine."
    ∷ record { ours = told (relative_given 0 false); paper = 0 ∷ 0 ∷ [] }
    -- "at most 64 bits": 2^64 - 1 in ten groups; a bit more; eleven groups
    ∷ record {
      ours = each (λ (s : List ℕ). said (number_in 10 s 0)) ((replicate 9 0xff ++ (0x01 ∷ [])) ∷ (replicate 9 0xff ++ (0x02 ∷ [])) ∷ (replicate 10 0x80 ++ (0x01 ∷ [])) ∷ []);
      paper = (2 ^ 64 - 1) ∷ [];
    }
    -- 8's bounds in slots of 128 bytes: "file_size over S − 64, T over file_size, masked lsn 0, lsn of 2^63 or more, or masked lsn + T of 2^62 or more";
    -- "generation at most 255"
    ∷ record {
      ours =
          map (λ (l : Label). bit (out_of_bounds 128 l))
          (labelled 1 20 64 1
          ∷ labelled 1 20 65 1
          ∷ labelled 1 64 64 1
          ∷ labelled 1 64 63 1
          ∷ labelled 0 20 64 1
          ∷ labelled (2 ^ 62) 20 64 1
          ∷ labelled (2 ^ 63 - 1) 0 64 1
          ∷ labelled (2 ^ 63 + 1) 0 64 1
          ∷ labelled (2 ^ 62 - 21) 20 64 1
          ∷ labelled (2 ^ 62 - 20) 20 64 1
          ∷ labelled (2 ^ 63 - 21) 20 64 1
          ∷ labelled (2 ^ 63 - 20) 20 64 1
          ∷ aged 255
          ∷ aged 256
          ∷ []);
      paper = 0 ∷ 1 ∷ 0 ∷ 1 ∷ 1 ∷ 1 ∷ 0 ∷ 1 ∷ 0 ∷ 1 ∷ 0 ∷ 1 ∷ 0 ∷ 1 ∷ [];
    }
    -- "An empty record is all zeros": and each of its seven numbers alone is not
    ∷ record {
      ours =
          map (λ (r : Record). bit (is_empty r))
          (empty_record
          ∷ kept 1 0 0 0 0
          ∷ kept 0 1 0 0 0
          ∷ kept 0 0 1 0 0
          ∷ kept 0 0 0 1 0
          ∷ kept 0 0 0 0 1
          ∷ recorded (record { lsn = 0; trailer_offset = 0; file_size = 0; present_objects = 0; generation = 1 }) 0 0
          ∷ recorded empty_label 0 1
          ∷ []);
      paper = 1 ∷ 0 ∷ 0 ∷ 0 ∷ 0 ∷ 0 ∷ 0 ∷ 0 ∷ [];
    }
    -- "1": nothing wrong; settings, heap length, table length not the state's; next position 0; a table not in form; an odd number of words;
    -- a heap that is not exact
    ∷ record {
      ours =
          map (λ (w : World). bit (refused1 w))
          (idle 1
          ∷ mismatched (idle 1)
          ∷ lent (replicate 128 0) (one 1 20)
          ∷ lent (replicate 256 0) (two 1 20 0 0)
          ∷ idle 0
          ∷ holding [] 1 (replicate 128 0) no_form
          ∷ lent (replicate 256 0) (1 ∷ 20 ∷ 0 ∷ [])
          ∷ holding [] 1 (replicate 129 0) none
          ∷ []);
      paper = 0 ∷ 1 ∷ 1 ∷ 1 ∷ 1 ∷ 1 ∷ 1 ∷ 1 ∷ [];
    }
    -- ".. a non-empty record at slot N or above, outside 8's bounds, or with present over file_size or live over the table's length": a record in the last
    -- slot; in the next; one of 65 bytes; present of file_size, and over it; live of the table's length and over present; over the table's length
    ∷ record {
      ours =
          map (λ (w : World). bit (refused1 w))
          (holding (empty_record ∷ kept 10 20 48 1 1 ∷ []) 1 (replicate 256 0) (one 1 20)
          ∷ holding (empty_record ∷ empty_record ∷ kept 10 20 48 1 1 ∷ []) 1 (replicate 256 0) (one 1 20)
          ∷ bearing (kept 10 20 65 1 1)
          ∷ bearing (kept 10 20 48 48 1)
          ∷ bearing (kept 10 20 48 49 1)
          ∷ bearing (kept 10 20 48 0 1)
          ∷ bearing (kept 10 20 48 2 2)
          ∷ []);
      paper = 0 ∷ 1 ∷ 1 ∷ 0 ∷ 1 ∷ 0 ∷ 1 ∷ [];
    }
    -- "the file with the greatest own location not above the one sought, the lowest slot of equals", raw and unmasked; "the lowest empty slot", of N; how
    -- many are files
    ∷ record {
      ours =
          let rs = kept 10 0 20 1 0 ∷ kept 10 0 20 1 1 ∷ kept 20 0 20 1 1 ∷ empty_record ∷ kept (2 ^ 62 + 5) 0 20 1 1 ∷ empty_record ∷ empty_record ∷ [] in
          map (λ (l : ℕ). slotted (file_for rs l)) (19 ∷ 20 ∷ 39 ∷ 40 ∷ (2 ^ 63 + 9) ∷ (2 ^ 63 + 10) ∷ [])
          ++ (lowest_empty 6 rs ∷ file_count rs ∷ empty_slots 6 rs);
      paper = 256 ∷ 0 ∷ 0 ∷ 2 ∷ 2 ∷ 4 ∷ 3 ∷ 4 ∷ 3 ∷ 5 ∷ [];
    }
    ∷ []

-- ---- calls on a file map
-- slots of 128 bytes: nothing live; nothing live and claimed; one live; empty. Bytes 7 and 9 stand first and last in each label.
abbrev pub standing : World
standing =
    let bytes : List ℕ = 7 ∷ (replicate 62 8 ++ (9 ∷ replicate 64 8)) in
    let w = holding (kept 10 20 48 2 0 ∷ kept 100 20 48 2 0 ∷ kept 200 0 30 1 1 ∷ []) 300 (bytes ++ (bytes ++ (bytes ++ bytes))) (one 1 20) in
    with_claims w (record { a = 2; b = 0; c = 0; d = 0 })

-- the answer; of each slot the lsn and the first and last byte of its label
abbrev pub labels : After → List ℕ
labels a =
    told a.answer
    ++ each (λ (k : ℕ). (record_at (records_of a.world) k).label.lsn ∷ get_or a.world.heap (128 * k) 0 ∷ get_or a.world.heap (128 * k + 63) 0 ∷ []) (0 ∷ 1 ∷ 2 ∷ 3 ∷ [])

-- the answer and the four words of the claim record
abbrev pub words : After → List ℕ
words a = told a.answer ++ (a.world.claims.a ∷ a.world.claims.b ∷ a.world.claims.c ∷ a.world.claims.d ∷ [])

-- the answer and the table
abbrev pub table_left : TableAfter → List ℕ
table_left a = told a.answer ++ a.table

unfoldable pub call_points : List Line
call_points =
    -- "Every unclaimed file with live 0: first label byte set to 0, record emptied. No other heap byte changes."; 1
    record {
      ours = labels (prune_call standing) ++ told (prune_call (mismatched standing)).answer;
      paper = 0 ∷ 0 ∷ 0 ∷ 9 ∷ 100 ∷ 7 ∷ 9 ∷ 200 ∷ 7 ∷ 9 ∷ 0 ∷ 7 ∷ 9 ∷ 1 ∷ [];
    }
    -- "Files, bytes, present, live, summed over files"; 1; a file's line, "slot lsn gen present live size"
    ∷ record {
      ours = told (counts_call standing).answer ++ (told (counts_call (mismatched standing)).answer ++ file_line 2 (kept 10 20 48 3 1));
      paper = 0 ∷ 3 ∷ 126 ∷ 5 ∷ 1 ∷ 1 ∷ 50 ∷ 32 ∷ 49 ∷ 48 ∷ 32 ∷ 48 ∷ 32 ∷ 51 ∷ 32 ∷ 49 ∷ 32 ∷ 52 ∷ 56 ∷ 10 ∷ [];
    }
    -- "a claim is set and cleared in place, slot by slot"; an empty slot is 21, and changes nothing
    ∷ record {
      ours = words (claim_call standing 0) ++ (words (claim_call standing 3) ++ words (release_call (with_claims standing (record { a = 3; b = 4; c = 5; d = 6 })) 1));
      paper = 0 ∷ 3 ∷ 0 ∷ 0 ∷ 0 ∷ 21 ∷ 2 ∷ 0 ∷ 0 ∷ 0 ∷ 0 ∷ 1 ∷ 4 ∷ 5 ∷ 6 ∷ [];
    }
    -- "store, compare-and-store, store-if-greater": a new id in its place; one that is there; a compare that differs; one that does not; a lower one; a
    -- greater one; and a load of id 0, and of a table of no entry
    ∷ record {
      ours =
          each table_left
          (store_call (two 5 40 0 0) 4 42
          ∷ store_call (one 5 40) 5 42
          ∷ compare_call (one 5 40) 5 41 42
          ∷ compare_call (one 5 40) 5 40 42
          ∷ greater_call (one 5 40) 5 38
          ∷ greater_call (one 5 40) 5 42
          ∷ load_call (one 0 40) 0
          ∷ load_call [] 5
          ∷ []);
      paper = 0 ∷ 4 ∷ 42 ∷ 5 ∷ 40 ∷ 0 ∷ 5 ∷ 42 ∷ 0 ∷ 40 ∷ 5 ∷ 40 ∷ 0 ∷ 5 ∷ 42 ∷ 0 ∷ 40 ∷ 5 ∷ 40 ∷ 0 ∷ 40 ∷ 5 ∷ 42 ∷ 0 ∷ 2 ∷ 40 ∷ 0 ∷ 40 ∷ 1 ∷ [];
    }
    -- "16 (header or body past file_size)": an object behind T and within file_size is found; a length of 2^32 is past it
    ∷ record {
      ours =
          each told
          ((read_call (holding (kept 10 0 48 1 1 ∷ []) 100 (slot (labelled 10 0 48 1) (object_bytes 5 [])) (one 5 20)) 5).answer
          ∷ (read_call (filed (bad_header 5 (2 ^ 32)) 20) 5).answer
          ∷ []);
      paper = 0 ∷ 2 ∷ 84 ∷ 0 ∷ 16 ∷ [];
    }
    -- "checksum 4, id 8, length 8, body; little-endian"; "the CRC-32 of IEEE 802.3 over length, id, body in that order"; a trailer's: "checksum 4, over all
    -- that follows it; entry count 8; per entry id 8 and raw relative location 8". An object of two bytes, a trailer of one delete.
    ∷ record {
      ours = object_bytes 7 (0x41 ∷ 0x42 ∷ []) ++ trailer_bytes (mapping 9 43 ∷ []);
      paper =
          79 ∷ 225 ∷ 163 ∷ 241 ∷ 7 ∷ 0 ∷ 0 ∷ 0 ∷ 0 ∷ 0 ∷ 0 ∷ 0 ∷ 2 ∷ 0 ∷ 0 ∷ 0 ∷ 0 ∷ 0 ∷ 0 ∷ 0 ∷ 65 ∷ 66
          ∷ 217 ∷ 223 ∷ 131 ∷ 91 ∷ 1 ∷ 0 ∷ 0 ∷ 0 ∷ 0 ∷ 0 ∷ 0 ∷ 0 ∷ 9 ∷ 0 ∷ 0 ∷ 0 ∷ 0 ∷ 0 ∷ 0 ∷ 0 ∷ 43 ∷ 0 ∷ 0 ∷ 0 ∷ 0 ∷ 0 ∷ 0 ∷ 0 ∷ [];
    }
    -- "Object: checksum 4, id 8, length 8, body": three, one behind the other, with position, id, length and body
    ∷ record {
      ours =
          each (λ (o : Stored). o.position ∷ o.id ∷ o.size ∷ o.body)
          (objects_in (object_bytes 1 [] ++ (object_bytes 2 (7 ∷ 8 ∷ []) ++ object_bytes 3 [])));
      paper = 0 ∷ 1 ∷ 0 ∷ 20 ∷ 2 ∷ 2 ∷ 7 ∷ 8 ∷ 42 ∷ 3 ∷ 0 ∷ [];
    }
    ∷ []

-- ---- new files
-- puts of no bytes, of two ids
abbrev pub bodiless : List (List Op)
bodiless = (object 1 0 ∷ []) ∷ (object 2 0 ∷ []) ∷ []

-- a delete
abbrev pub gone : ℕ → Op
gone id = record { id = id; content = delete }

-- the live counts of slots 0 and 1
abbrev pub lives_of : World → List ℕ
lives_of w = map (λ (r : Record). r.live) (record_at (records_of w) 0 ∷ record_at (records_of w) 1 ∷ [])

-- each file's count, then its ids
abbrev pub ids_of : List (List Op) → List ℕ
ids_of files = each (λ (f : List Op). length f ∷ map (λ (o : Op). o.id) f) files

-- slot 0: generation 0, with a trailer of 19 bytes; slot 1: generation 1, a delete of id 4; slot 2 is empty
abbrev pub halting : World
halting =
    let a = labelled 50 0 19 1 in
    let b : Label = record { lsn = 100; trailer_offset = 0; file_size = 28; present_objects = 1; generation = 1 } in
    holding (recorded a 1 1 ∷ recorded b 1 1 ∷ []) 300 (slot a (replicate 19 0) ++ (slot b (trailer_bytes (mapping 4 1 ∷ [])) ++ replicate 128 0)) (two 3 101 4 201)

-- deletes of ids 3 and 4 in one file; an empty slot behind it
abbrev pub both_deleted : World
both_deleted = holding (kept 50 0 44 2 2 ∷ []) 300 (trailing 50 2 (trailer_bytes (mapping 3 1 ∷ mapping 4 1 ∷ [])) ++ replicate 128 0) (two 3 101 4 101)

unfoldable pub file_points : List Line
file_points =
    -- "4 64 + file_size > S", of files of 48 bytes; "5 fewer empty slots than new files"; "base + sum of (T + 1) over them > 2^62"; 7 is of a new file
    record {
      ours =
          each told
          (answer_given (decide (room_tests 112 2 bodiless))
          ∷ answer_given (decide (room_tests 111 2 bodiless))
          ∷ answer_given (decide (room_tests 112 1 bodiless))
          ∷ answer_given (decide (position_tests (2 ^ 62 - 42) bodiless))
          ∷ answer_given (decide (position_tests (2 ^ 62 - 41) bodiless))
          ∷ answer_given (decide (position_tests (2 ^ 62 + 1) []))
          ∷ (write_call (busy (2 ^ 62 + 1)) []).answer
          ∷ []);
      paper = 0 ∷ 4 ∷ 5 ∷ 0 ∷ 7 ∷ 0 ∷ 0 ∷ [];
    }
    -- "3 a put of max_object_size or more, overridden ones included": 17 bytes, and then none
    ∷ record {
      ours = told (write_call (idle 100) (0x01 ∷ 0x01 ∷ 17 ∷ (replicate 17 0x41 ++ one_put 1))).answer;
      paper = 3 ∷ [];
    }
    -- "each replaced location's file, found before the new one is added, loses one live (0 stays 0, and a location with no file takes none)": the new file
    -- would be the one below; nothing was live; no file is below
    ∷ record {
      ours =
          each lives_of
          ((write_call (holding (kept (2 ^ 62 + 1) 20 48 1 1 ∷ []) 100 (replicate 256 0) (one 1 (2 ^ 63 + 1000))) (one_put 1)).world
          ∷ (write_call (holding (kept 10 20 48 1 0 ∷ []) 100 (replicate 256 0) (one 1 20)) (one_put 1)).world
          ∷ (write_call (holding (kept 10 20 48 1 1 ∷ []) 100 (replicate 256 0) (one 1 18)) (one_put 1)).world
          ∷ []);
      paper = 0 ∷ 1 ∷ 0 ∷ 1 ∷ 1 ∷ 1 ∷ [];
    }
    -- shards: "0 for length 0 and for a delete"; "an object adds 20 + length, a delete 0", so 40 stay under a target of 50; just the target is not cut; a
    -- shard that was cut restarts at 0
    ∷ record {
      ours =
          ids_of (files_of 50 (object 1 1 ∷ gone 2 ∷ object 3 0 ∷ gone 4 ∷ object 5 0 ∷ object 6 0 ∷ []))
          ++ (ids_of (files_of 160 (object 1 60 ∷ object 2 60 ∷ object 3 60 ∷ []))
          ++ ids_of (files_of 100 (object 1 60 ∷ object 2 60 ∷ object 3 60 ∷ object 4 60 ∷ object 5 60 ∷ [])));
      paper = 5 ∷ 2 ∷ 3 ∷ 4 ∷ 5 ∷ 6 ∷ 1 ∷ 1 ∷ 3 ∷ 1 ∷ 2 ∷ 3 ∷ 1 ∷ 5 ∷ 2 ∷ 1 ∷ 2 ∷ 2 ∷ 3 ∷ 4 ∷ [];
    }
    -- "delete entries: sum too great (20), id unmapped (18)", in a file with the batch bit: the sum is of the whole lsn
    ∷ record {
      ours =
          each told
          (answer_given (decide (delete_tests (2 ^ 62 + 1) [] (mapping 9 (2 ^ 63 - 1))))
          ∷ answer_given (decide (delete_tests (2 ^ 62 + 1) [] (mapping 9 (2 ^ 63 - 3))))
          ∷ []);
      paper = 20 ∷ 18 ∷ [];
    }
    -- a candidate: percentage 50, at least 2 files, target 100, threshold 3; of 2 or 3 files one with these live, present and size
    ∷ record {
      ours =
          let s = six 128 50 2 100 3 17 in
          map bit
          (worth_it s 2 (kept 1 0 10 100 49)
          ∷ worth_it s 2 (kept 1 0 10 2 1)
          ∷ worth_it s 2 (kept 1 0 10 0 1)
          ∷ worth_it s 3 (kept 1 0 49 2 1)
          ∷ worth_it s 2 (kept 1 0 49 2 1)
          ∷ worth_it s 3 (kept 1 0 50 2 1)
          ∷ []);
      paper = 1 ∷ 0 ∷ 0 ∷ 1 ∷ 0 ∷ 0 ∷ [];
    }
    -- "unclaimed files with live not 0": of slot 0 claimed, slot 1 not; nothing live; empty
    ∷ record {
      ours =
          let s = six 128 50 1 100 3 17 in
          map bit
          (is_candidate s claimed 2 1 0 (kept 1 0 10 100 49)
          ∷ is_candidate s claimed 2 1 1 (kept 1 0 10 100 49)
          ∷ is_candidate s claimed 2 1 1 (kept 1 0 10 100 0)
          ∷ is_candidate s claimed 2 1 1 empty_record
          ∷ []);
      paper = 0 ∷ 1 ∷ 0 ∷ 0 ∷ [];
    }
    -- request P7, "only files with masked lsn below the mark": the mark, one below it, one with the batch bit; "the threshold against that count": 3, and 2
    ∷ record {
      ours =
          let s = six 128 50 1 100 3 17 in
          map bit
          (is_candidate s claimed 5 1 1 (kept 5 0 10 100 49)
          ∷ is_candidate s claimed 5 1 1 (kept 4 0 10 100 49)
          ∷ is_candidate s claimed 5 1 1 (kept (2 ^ 62 + 4) 0 10 100 49)
          ∷ is_candidate s claimed 5 3 1 (kept 4 0 49 2 1)
          ∷ is_candidate s claimed 5 2 1 (kept 4 0 49 2 1)
          ∷ []);
      paper = 0 ∷ 1 ∷ 1 ∷ 1 ∷ 0 ∷ [];
    }
    -- "grouped by new generation min(g + 1, 3)": the slots of generations 1, 2 and 3
    ∷ record {
      ours =
          let w = holding (map (λ (g : ℕ). recorded (aged g) 1 1) (0 ∷ 1 ∷ 2 ∷ 3 ∷ 255 ∷ 0 ∷ [])) 100 (replicate 768 0) (one 1 20) in
          each (λ (g : ℕ). g ∷ start_group w g) (1 ∷ 2 ∷ 3 ∷ []);
      paper = 1 ∷ 0 ∷ 5 ∷ 2 ∷ 1 ∷ 3 ∷ 2 ∷ 3 ∷ 4 ∷ [];
    }
    -- "A refusal stops the call": generation 1 is refused with 9, and generation 2, with nothing wrong, stays; "the count of ids moved": two in one file
    ∷ record {
      ours = told (maintain_call halting).answer ++ (seen_at (maintain_call halting).world 1 ++ (seen_at (maintain_call halting).world 2 ++ told (maintain_call both_deleted).answer));
      paper = 9 ∷ 1 ∷ 0 ∷ 100 ∷ 1 ∷ 1 ∷ 100 ∷ 0 ∷ 0 ∷ 0 ∷ 0 ∷ 0 ∷ 2 ∷ [];
    }
    ∷ []

-- ---- reopening
-- a slot with 20 object bytes
abbrev pub placed : ℕ → List ℕ → List ℕ
placed lsn trailer = slot (labelled lsn 20 (20 + length trailer) 2) (replicate 20 0 ++ trailer)

-- deletes of ids 3 and 4 at T
abbrev pub at_t : List ℕ
at_t = trailer_bytes (mapping 3 41 ∷ mapping 4 41 ∷ [])

-- a state with a file and a claim, and bytes 1 in a slot
abbrev pub worn : Table → World
worn table =
    let w = busy 5 in
    record { settings = w.settings; state = w.state; claims = claimed; heap = replicate 128 1; table = table }

-- the answer, next position, claims, table, and the lsn in slot 0
abbrev pub handed : After → List ℕ
handed a = told a.answer ++ (a.world.state.next_position ∷ a.world.claims.a ∷ (record_at (records_of a.world) 0).label.lsn ∷ a.world.table)

unfoldable pub reopen_points : List Line
reopen_points =
    -- "masked ranges lsn..lsn+T, both ends counted, must be disjoint": 50..70 before 70, and behind it; before 71; 50 with the batch bit and without
    record {
      ours =
          each told
          ((reopen_call (closed (placed 50 at_t ++ deleting 70 3) (two 0 0 0 0))).answer
          ∷ (reopen_call (closed (deleting 70 3 ++ placed 50 at_t) (two 0 0 0 0))).answer
          ∷ (reopen_call (closed (placed 50 at_t ++ deleting 71 3) (two 0 0 0 0))).answer
          ∷ (reopen_call (closed (deleting (2 ^ 62 + 50) 3 ++ deleting 50 4) (two 0 0 0 0))).answer
          ∷ []);
      paper = 14 ∷ 14 ∷ 0 ∷ 14 ∷ [];
    }
    -- "A repeated id in one trailer needs strictly rising positions": an object at 0 and a delete at 20; both at 0
    ∷ record {
      ours =
          each told
          ((reopen_call (closed (placed 50 (trailer_bytes (mapping 3 0 ∷ mapping 3 41 ∷ []))) none)).answer
          ∷ (reopen_call (closed (placed 50 (trailer_bytes (mapping 3 0 ∷ mapping 3 1 ∷ []))) none)).answer
          ∷ []);
      paper = 0 ∷ 15 ∷ [];
    }
    -- "First byte 0 means the slot is empty, whatever follows."; "Later bytes are checksummed and otherwise ignored": a byte behind the entries, summed and
    -- not
    ∷ record {
      ours =
          each told
          ((reopen_call (closed (0 ∷ replicate 127 7) none)).answer
          ∷ (reopen_call (closed (trailing 50 1 (summed (listed (mapping 3 1 ∷ []) ++ (7 ∷ [])))) none)).answer
          ∷ (reopen_call (closed (trailing 50 1 (trailer_bytes (mapping 3 1 ∷ []) ++ (7 ∷ []))) none)).answer
          ∷ []);
      paper = 0 ∷ 0 ∷ 10 ∷ [];
    }
    -- "a reopening refused with any number but 1 zeroes the one buffer and hands back an empty file map, no claims and next position 1": a label with no
    -- zeros behind it is 8; and 1 leaves all
    ∷ record {
      ours = handed (reopen_call (worn (one 1 20))) ++ handed (reopen_call (worn (1 ∷ 20 ∷ 0 ∷ [])));
      paper = 8 ∷ 1 ∷ 0 ∷ 0 ∷ 0 ∷ 0 ∷ 1 ∷ 5 ∷ 9 ∷ 10 ∷ 1 ∷ 20 ∷ 0 ∷ [];
    }
    ∷ []

-- ---- a life: six slots of 256 bytes, in the first of which other bytes stood
abbrev pub blank : World
blank = record {
  settings = six 256 60 1 30 200 100;
  state = no_state;
  claims = no_claims;
  heap = 0 ∷ (replicate 255 0xee ++ replicate 1280 0);
  table = replicate 8 0;
}

-- 7 is put, 9 deleted, 7 put again, and 5; then 5 is put and 7 deleted; then 7 is put
abbrev pub three_writes : World → World
three_writes w =
    let first = (write_call w (0x07 ∷ 0x01 ∷ 0x01 ∷ 0x41 ∷ 0x09 ∷ 0x00 ∷ 0x07 ∷ 0x01 ∷ 0x02 ∷ 0x42 ∷ 0x43 ∷ 0x05 ∷ 0x01 ∷ 0x00 ∷ [])).world in
    let second = (write_call first (0x05 ∷ 0x01 ∷ 0x01 ∷ 0x01 ∷ 0x07 ∷ 0x00 ∷ [])).world in
    (write_call second (one_put 7)).world

-- next position, claims and table; of slots 0 to 3 lsn, T, file_size, present, generation and live
abbrev pub seen : World → List ℕ
seen w =
    w.state.next_position
    ∷ w.claims.a
    ∷ (w.table
    ++ each (λ (k : ℕ). let r = record_at (records_of w) k in
    r.label.lsn ∷ r.label.trailer_offset ∷ r.label.file_size ∷ r.label.present_objects ∷ r.label.generation ∷ r.live ∷ []) (0 ∷ 1 ∷ 2 ∷ 3 ∷ []))

-- what ids 4, 5, 7 and 9 read as
abbrev pub readings : World → List ℕ
readings w = each (λ (id : ℕ). told (read_call w id).answer) (4 ∷ 5 ∷ 7 ∷ 9 ∷ [])

-- the three writes; the bytes at the end of the first file
abbrev pub wrote_three : World → List ℕ
wrote_three w = seen w ++ (get_or w.heap 165 0 ∷ get_or w.heap 166 0 ∷ get_or w.heap 167 0 ∷ [])

-- slot 0 is claimed, and the store opened again
abbrev pub opened_again : World → World
opened_again w = (reopen_call (claim_call w 0).world).world

-- slot 0 is claimed, and maintenance called; the claim is released, and it is called again
abbrev pub maintained : World → List ℕ
maintained w =
    let first = maintain_call (claim_call w 0).world in
    let second = maintain_call (release_call first.world 0).world in
    told first.answer ++ (seen first.world ++ (told second.answer ++ seen second.world))

unfoldable pub life_points : List Line
life_points =
    record {
      ours =
          let w = three_writes (reopen_call blank).world in
          let v = opened_again w in
          wrote_three w ++ (seen v ++ (readings v ++ maintained v));
      paper =
          87 ∷ 0 ∷ 5 ∷ (2 ^ 63 + 88) ∷ 7 ∷ (2 ^ 63 + 132) ∷ 9 ∷ (2 ^ 63 + 87) ∷ 0 ∷ 0
          ∷ (2 ^ 62 + 1) ∷ 42 ∷ 102 ∷ 3 ∷ 0 ∷ 1
          ∷ (2 ^ 62 + 44) ∷ 21 ∷ 65 ∷ 2 ∷ 0 ∷ 1
          ∷ (2 ^ 62 + 66) ∷ 20 ∷ 48 ∷ 1 ∷ 0 ∷ 1
          ∷ 0 ∷ 0 ∷ 0 ∷ 0 ∷ 0 ∷ 0
          ∷ 0 ∷ 0xee ∷ 0xee
          -- opened again
          ∷ 169 ∷ 0 ∷ 5 ∷ (2 ^ 63 + 88) ∷ 7 ∷ (2 ^ 63 + 132) ∷ 9 ∷ (2 ^ 63 + 87) ∷ 0 ∷ 0
          ∷ (2 ^ 62 + 1) ∷ 42 ∷ 102 ∷ 3 ∷ 0 ∷ 1
          ∷ (2 ^ 62 + 44) ∷ 21 ∷ 65 ∷ 2 ∷ 0 ∷ 1
          ∷ (2 ^ 62 + 66) ∷ 20 ∷ 48 ∷ 1 ∷ 0 ∷ 1
          ∷ 0 ∷ 0 ∷ 0 ∷ 0 ∷ 0 ∷ 0
          ∷ 0 ∷ 0 ∷ 0 ∷ 2 ∷ 340 ∷ 1 ∷ 0 ∷ 2 ∷ 596 ∷ 0 ∷ 0 ∷ 1
          -- slot 0 claimed: 5 is moved
          ∷ 0 ∷ 1 ∷ 191 ∷ 1 ∷ 5 ∷ 338 ∷ 7 ∷ (2 ^ 63 + 132) ∷ 9 ∷ (2 ^ 63 + 87) ∷ 0 ∷ 0
          ∷ (2 ^ 62 + 1) ∷ 42 ∷ 102 ∷ 3 ∷ 0 ∷ 1
          ∷ 0 ∷ 0 ∷ 0 ∷ 0 ∷ 0 ∷ 0
          ∷ (2 ^ 62 + 66) ∷ 20 ∷ 48 ∷ 1 ∷ 0 ∷ 1
          ∷ 169 ∷ 21 ∷ 49 ∷ 1 ∷ 1 ∷ 1
          -- released: the delete of 9 is moved
          ∷ 0 ∷ 1 ∷ 192 ∷ 0 ∷ 5 ∷ 338 ∷ 7 ∷ (2 ^ 63 + 132) ∷ 9 ∷ 383 ∷ 0 ∷ 0
          ∷ 0 ∷ 0 ∷ 0 ∷ 0 ∷ 0 ∷ 0
          ∷ 191 ∷ 0 ∷ 28 ∷ 1 ∷ 1 ∷ 1
          ∷ (2 ^ 62 + 66) ∷ 20 ∷ 48 ∷ 1 ∷ 0 ∷ 1
          ∷ 169 ∷ 21 ∷ 49 ∷ 1 ∷ 1 ∷ 1
          ∷ [];
    }
    ∷ []

-- the table
unfoldable pub points : List Line
points = limit_points ++ (call_points ++ (file_points ++ (reopen_points ++ life_points)))

-- LAW: no row differs
pub points-hold : any (λ (l : Line). not (agree l.ours l.paper)) points ≡ false
unfolding limit_points call_points file_points reopen_points life_points points any zeros keep each sum greatest padded put_operation operation_at batch_from batch_in any_too_large out_of_range not_the_states bad_record bad_from condition_one is_empty no_files slots_where empty_slots lowest_empty leads lead_from file_for file_count new_label new_record losing records_with stores_for table_with next_with installed installed_all room_tests position_tests label_bytes five_in label_in out_of_bounds table_ids table_locations alternating lengths_in_range form_from in_form used_in used_entries laid_out worth_it cut_off joining split_from files_of object_bytes stored_at objects_from objects_in bad_checksum objects_of entries_of file_bytes joined settled decide files_in overlapping not_rising latest latest_from table_of reopen_tests mapped_into records_from next_after opened given_up reopen_call in_ranges heap_in_range same_settings bytes_of_slot slot_tests view_in views_in made stores_of file_stores lookup insert insert_all full listed trailer_bytes trailer_tests entries_from entries_in misplaced too_many_ids write_tests written write_call load_call store_call compare_call greater_call with_stored is_dead emptied_from prune_stores pruned is_claimed claim_set claim_cleared claim_call release_call is_candidate group moved_tests delete_tests deletes_of file_tests objects_found deletes_found found group_tests rewrite_group groups_from course_of maintain_call object_tests read_of le_bytes le_value groups_of read_groups number_in shift_bit shifts crc_from crc32 object_sum masked_of digits_in read_call counts_of counts_call prune_call decimal relative_given
points-hold = refl
