-- "Write."
use Rattle.std.specs.Prelude.{◌∷◌, ◌++◌, ◌^◌}
use Rattle.rules.specs.Base.{Bool, List, [], ℕ, length, ltb}
use Rattle.rules.specs.Types.{Entry, Limits, BatchBytes, ObjectSize, TableRoom}
use Rattle.rules.specs.Refusal.{Test, ◌gives◌, decide, after}
use Rattle.rules.specs.Ops.{Op, entries_of, settled}
use Rattle.rules.specs.Batch.{batch_in, is_malformed, ops_of, any_too_large}
use Rattle.rules.specs.Table.{insert_all}
use Rattle.rules.specs.Layout.{capacity_of}
use Rattle.rules.specs.Condition1.{refused1}
use Rattle.rules.specs.Install.{installed_all, room_tests, empty_of, position_tests}
use Rattle.rules.specs.World.{World, mappings, accepted, After, unchanged}

-- "An empty batch succeeds and changes nothing": it makes no file; any other makes one
abbrev pub new_files : List Op → List (List Op)
new_files [] = []
new_files (o ∷ os) = (o ∷ os) ∷ []

-- "6 more distinct ids than table entries": the table's and the batch's together
unfoldable pub too_many_ids : ℕ → List Entry → List Op → Bool
too_many_ids capacity table ops = ltb capacity (length (insert_all table (entries_of 0 ops)))

-- "Write decides 1 to 7 in order on the whole batch."
unfoldable pub write_tests : World → List ℕ → List Test
write_tests w bytes =
    let batch = batch_in bytes in
    let ops = settled (ops_of batch) in
    refused1 w gives Limits
    ∷ is_malformed batch gives BatchBytes
    ∷ any_too_large w.settings.max_object_size (ops_of batch) gives ObjectSize
    ∷ (room_tests w.settings.slot_bytes (empty_of w) (new_files ops)
    ++ (too_many_ids (capacity_of w.table) (mappings w) ops gives TableRoom
    ∷ position_tests w.state.next_position (new_files ops)))

-- "A file of a fresh batch carries the batch bit, 2^62"; "generation 0"
unfoldable pub written : World → List Op → World
written w ops = installed_all (2 ^ 62) 0 w (new_files ops)

-- the call
unfoldable pub write_call : World → List ℕ → After
write_call w bytes =
    after (decide (write_tests w bytes)) (unchanged w)
    (record { answer = accepted []; world = written w (settled (ops_of (batch_in bytes))) })
