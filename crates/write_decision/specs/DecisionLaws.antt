-- What a batch comes to, by what the tests in their order say.
use Rattle.std.specs.Prelude.{◌≡◌, refl, Some, None, Ok, Err, ◌≤◌, ◌<◌, ◌||◌, ◌∷◌, ◌++◌, ◌+◌, ◌^◌}
use Rattle.std.proofs.Common.{sym, ap₂, ◌∙◌, ⊎_elim, arith, lt-ltb, le-ltb}
use Rattle.std.proofs.Math.Path.{ap}
use Rattle.numbers.specs.GroupLaws.{either_way}
use Rattle.rules.specs.Base.{Bool, true, false, List, [], ℕ, length, get_or, drop, ltb, any, sum}
use Rattle.rules.specs.declared.Refusal.{Refusal}
use Rattle.rules.specs.declared.Refusal.TheVariants.{Limits, SlotRoom, NoEmptySlot, TableRoom, PositionsSpent}
use Rattle.rules.specs.declared.Record.{Record}
use Rattle.rules.specs.Refusal.{Test, ◌gives◌, decide, NoneHolds}
use Rattle.rules.proofs.RefusalLaws.{clear-when, decide-none, decide-first, decide-next, decide-early, decide-late}
use Rattle.rules.specs.Ops.{Op, objects_of, entries_of, file_bytes, settled}
use Rattle.rules.proofs.OpsLaws.{objects-nil, file-length}
use Rattle.rules.specs.Batch.{batch_in, ops_of}
use Rattle.rules.specs.Layout.{capacity_of}
use Rattle.rules.proofs.LayoutLaws.{used-length}
use Rattle.rules.specs.Table.{insert_all}
use Rattle.rules.specs.FileMap.{empty_slots, lowest_empty}
use Rattle.rules.proofs.FileMapLaws.{lowest-empty}
use Rattle.rules.specs.Condition1.{refused1}
use Rattle.rules.proofs.Condition1Laws.{passed}
use Rattle.rules.specs.Install.{new_slot, empty_of, room_tests, position_tests}
use Rattle.rules.specs.Write.{new_files, too_many_ids, write_tests}
use Rattle.rules.specs.World.{World, records_of, slots_of, mappings}
use Rattle.batch.specs.Reading.{ops_in}
use Rattle.batch.specs.ReadingLaws.{ops-of}
use Rattle.write_decision.specs.Sizes.{sizes_of}
use Rattle.write_decision.specs.SizeLaws.{Told, large-told}
use Rattle.write_decision.specs.declared.BatchSizes.{BatchSizes}
use Rattle.write_decision.specs.Decisions.{Decision, filed, decision_of, batch_tests, decision-refused, decision-done}

-- 4 to 7 for the one file of a batch that is not empty
abbrev pub file_tests : World → List Op → List Test
file_tests w ops =
    ltb w.settings.slot_bytes (64 + length (file_bytes ops)) gives SlotRoom
    ∷ ltb (empty_of w) 1 gives NoEmptySlot
    ∷ too_many_ids (capacity_of w.table) (mappings w) ops gives TableRoom
    ∷ ltb (2 ^ 62) (w.state.next_position + (length (objects_of ops) + 1)) gives PositionsSpent
    ∷ []

-- 4 to 7 for a batch that passed 1 to 3
late_tests : World → List Op → List Test
late_tests w ops =
    room_tests w.settings.slot_bytes (empty_of w) (new_files ops)
    ++ (too_many_ids (capacity_of w.table) (mappings w) ops gives TableRoom ∷ position_tests w.state.next_position (new_files ops))

-- one file is all files
or-none : (b : Bool) → (b || false) ≡ b
or-none true = refl
or-none false = refl

-- 4 to 7 of a batch that is not empty
late-some : (w : World) (ops : List Op) → 0 < length ops → decide (late_tests w ops) ≡ decide (file_tests w ops)
unfolding late_tests room_tests position_tests any sum
late-some w [] h = absurd (omega arith)
late-some w (o ∷ os) h =
    ap₂ (λ (b : Bool) (n : ℕ). decide (b gives SlotRoom ∷ ltb (empty_of w) 1 gives NoEmptySlot ∷ too_many_ids (capacity_of w.table) (mappings w) (o ∷ os) gives TableRoom ∷ ltb (2 ^ 62) (w.state.next_position + n) gives PositionsSpent ∷ []))
    (or-none (ltb w.settings.slot_bytes (64 + length (file_bytes (o ∷ os)))))
    (omega arith)

-- and of an empty one: a table in form has no more ids than entries
late-none : (w : World) → decide (late_tests w []) ≡ Ok tt
unfolding late_tests room_tests position_tests any too_many_ids entries_of insert_all decide
late-none w = rw (le-ltb (empty_of w) 0 (omega arith), le-ltb (capacity_of w.table) (length (mappings w)) (used-length w.table))

-- the lowest empty slot is none of the heap's: there is none
free-none : (n : ℕ) (rs : List Record) → n ≤ lowest_empty n rs → length (empty_slots n rs) < 1
free-none n rs h = ⊎_elim (λ l. absurd (let w = lowest-empty n rs l in omega (arith, w.place))) (λ l. omega arith) (either_way 0 (length (empty_slots n rs)))

-- the lowest is one of the heap's: there is one
free-some : (n : ℕ) (rs : List Record) → lowest_empty n rs < n → 1 ≤ length (empty_slots n rs)
unfolding lowest_empty
free-some n rs h = go (empty_slots n rs) h
  where
    go : (ks : List ℕ) → get_or ks 0 n < n → 1 ≤ length ks
    go [] h = absurd (omega arith)
    go (k ∷ ks) h = omega arith

-- a file that is larger than an empty one has an entry
large-some : (ops : List Op) → 76 < 64 + length (file_bytes ops) → 0 < length ops
large-some [] h = absurd (omega (arith, file-length [], ap length objects-nil))
large-some (o ∷ os) h = omega arith

-- a batch that is not empty makes a file
filed-some : (slot : ℕ) (ops : List Op) → 0 < length ops → filed slot ops ≡ Some (record { slot = slot; count = length ops; total = length (objects_of ops) })
filed-some slot [] h = absurd (omega arith)
filed-some slot (o ∷ os) h = refl

-- an empty one makes none
filed-none : (slot : ℕ) (ops : List Op) → length ops ≡ 0 → (ops ≡ []) × (filed slot ops ≡ None)
filed-none slot [] h = (refl, refl)
filed-none slot (o ∷ os) h = absurd (omega arith)

module _ (w : World) (bytes : List ℕ) where
  -- a refusal that is given
  given : (r : Refusal) → decide (write_tests w bytes) ≡ Err r → Err r ≡ decision_of w bytes
  given r e = sym (decision-refused w bytes r e)

  -- 1
  pub decision-1 : refused1 w ≡ true → Err Limits ≡ decision_of w bytes
  unfolding write_tests
  decision-1 e = given Limits (decide-first (refused1 w) Limits _ e)

  module _ (first : refused1 w ≡ false) where
    -- 1 does not hold: 2 to 7 are left
    rest : decide (write_tests w bytes) ≡ decide (batch_tests w.settings bytes ++ late_tests w (settled (ops_of (batch_in bytes))))
    unfolding write_tests late_tests
    rest = decide-next (refused1 w) Limits _ first

    -- 2, 3
    pub decision-batch : (r : Refusal) → decide (batch_tests w.settings bytes) ≡ Err r → Err r ≡ decision_of w bytes
    decision-batch r e = given r (rest ∙ decide-early (batch_tests w.settings bytes) _ r e)

    module _ (second : decide (batch_tests w.settings bytes) ≡ Ok tt) where
      -- 2 does not hold: the operations are those of the walk
      same : settled (ops_of (batch_in bytes)) ≡ settled (ops_in bytes)
      unfolding NoneHolds
      same = ap settled (ops-of bytes (clear-when (batch_tests w.settings bytes) second).0)

      -- nor does 3: 4 to 7 are left
      late : decide (write_tests w bytes) ≡ decide (late_tests w (settled (ops_in bytes)))
      late = rest ∙ decide-late (batch_tests w.settings bytes) _ second ∙ ap (λ (os : List Op). decide (late_tests w os)) same

      -- none is given
      done : decide (write_tests w bytes) ≡ Ok tt → Ok (filed (new_slot w) (settled (ops_in bytes))) ≡ decision_of w bytes
      done e = sym (decision-done w bytes e ∙ ap (λ (os : List Op). Ok (filed (new_slot w) os)) same)

      -- "An empty batch succeeds and changes nothing."
      pub decision-none : length (settled (ops_in bytes)) ≡ 0 → Ok None ≡ decision_of w bytes
      decision-none h =
          let n = filed-none (new_slot w) (settled (ops_in bytes)) h in
          ap Ok (sym n.1) ∙ done (late ∙ ap (λ (os : List Op). decide (late_tests w os)) n.0 ∙ late-none w)

      -- 4
      pub decision-4 : sizes_of w.settings.slot_bytes (mappings w) (settled (ops_in bytes)) ≡ None → Err SlotRoom ≡ decision_of w bytes
      decision-4 e =
          let over = large-told _ (mappings w) (settled (ops_in bytes)) e in
          let low = (passed w.settings _ w.table w.state first).limits.settings.slot-low in
          let some = large-some (settled (ops_in bytes)) (omega arith) in
          given SlotRoom (late ∙ late-some w (settled (ops_in bytes)) some ∙ decide-first _ SlotRoom _ (lt-ltb _ _ over))

      module _ (n : BatchSizes) (told : Told w.settings.slot_bytes (mappings w) (settled (ops_in bytes)) n) (some : 0 < n.count) where
        -- 4 does not hold: 5 to 7 are left
        behind-4 : decide (write_tests w bytes) ≡ decide (drop 1 (file_tests w (settled (ops_in bytes))))
        behind-4 = late ∙ late-some w (settled (ops_in bytes)) (omega (arith, told.entries)) ∙ decide-next _ SlotRoom _ (le-ltb _ _ told.fits)

        -- 5
        pub decision-5 : slots_of w ≤ new_slot w → Err NoEmptySlot ≡ decision_of w bytes
        decision-5 h = given NoEmptySlot (behind-4 ∙ decide-first _ NoEmptySlot _ (lt-ltb _ _ (free-none (slots_of w) (records_of w) h)))

        module _ (free : new_slot w < slots_of w) where
          -- nor does 5
          behind-5 : decide (write_tests w bytes) ≡ decide (drop 2 (file_tests w (settled (ops_in bytes))))
          behind-5 = behind-4 ∙ decide-next _ NoEmptySlot _ (le-ltb _ _ (free-some (slots_of w) (records_of w) free))

          -- 6
          pub decision-6 : too_many_ids (capacity_of w.table) (mappings w) (settled (ops_in bytes)) ≡ true → Err TableRoom ≡ decision_of w bytes
          decision-6 e = given TableRoom (behind-5 ∙ decide-first _ TableRoom _ e)

          module _ (room : too_many_ids (capacity_of w.table) (mappings w) (settled (ops_in bytes)) ≡ false) where
            -- nor does 6
            behind-6 : decide (write_tests w bytes) ≡ decide (ltb (2 ^ 62) (w.state.next_position + (n.total + 1)) gives PositionsSpent ∷ [])
            behind-6 =
                behind-5 ∙ decide-next _ TableRoom _ room
                ∙ ap (λ (t : ℕ). decide (ltb (2 ^ 62) (w.state.next_position + (t + 1)) gives PositionsSpent ∷ [])) (sym told.objects)

            -- 7
            pub decision-7 : ltb (2 ^ 62) (w.state.next_position + (n.total + 1)) ≡ true → Err PositionsSpent ≡ decision_of w bytes
            decision-7 e = given PositionsSpent (behind-6 ∙ decide-first _ PositionsSpent _ e)

            -- none of them
            pub decision-file : ltb (2 ^ 62) (w.state.next_position + (n.total + 1)) ≡ false → Ok (Some (record { slot = new_slot w; count = n.count; total = n.total })) ≡ decision_of w bytes
            decision-file e =
                let file : ℕ → ℕ → Decision = λ k t. Ok (Some (record { slot = new_slot w; count = k; total = t })) in
                ap₂ file told.entries told.objects
                ∙ ap Ok (sym (filed-some (new_slot w) (settled (ops_in bytes)) (omega (arith, told.entries))))
                ∙ done (behind-6 ∙ decide-next _ PositionsSpent _ e ∙ decide-none)
