-- The call in its parts: what is left once 1, and then once 8 to 15, are clear.
use Rattle.std.specs.Prelude.{◌≡◌, ◌∷◌, ◌%◌, Err}
use Rattle.rules.specs.Base.{List, [], ℕ, length, ltb}
use Rattle.rules.specs.Refusal.{◌gives◌, decide, after}
use Rattle.rules.specs.FileMap.{no_files}
use Rattle.rules.specs.Claims.{no_claims}
use Rattle.rules.specs.Layout.{Table, capacity_of, cleared}
use Rattle.rules.specs.SlotFile.{View, views_in}
use Rattle.rules.specs.Reopen.{files_in, table_of, reopen_tests, given_up, opened}
use Rattle.rules.specs.World.{World, world, slots_of, no_state, answer_given, After, leaving}
use Rattle.file_map.specs.Records.{state_by}
use Rattle.recovery.specs.declared.Reopened.{Reopened}
use Rattle.recovery.specs.Types.{Settings, Refusal, TableRoom}

-- "hands back an empty file map, no claims and next position 1"
abbrev pub handed_back : Settings → ℕ → ℕ → Refusal → Reopened
handed_back settings heap_len table_len r = record { answer = Err r; state = state_by settings heap_len table_len no_files 1; claims = no_claims }

-- what a reopening left, as its result and the lent table give it
abbrev pub leaves : Settings → Reopened → List ℕ → Table → After
leaves settings r heap table = leaving (answer_given r.answer) (world settings r.state r.claims heap table)

-- settings and buffers alone: past 1 the old state and claims count no more
abbrev pub bare : Settings → List ℕ → Table → World
bare settings heap table = world settings no_state no_claims heap table

-- a table that was cleared
pub record Blank (b : Table) : Type 0 where
  pub even : length b % 2 ≡ 0
  pub zero : b ≡ cleared b

-- the views of the slots are known
abbrev pub past_slots : World → List View → After
past_slots w views =
    after (decide (reopen_tests w views)) (given_up w) (opened w views)

-- 1 is clear
abbrev pub past_limits : World → After
past_limits w = past_slots w (views_in (slots_of w) w.settings.slot_bytes w.heap)

-- 8 to 15 are clear, too
abbrev pub past_tests : World → List View → After
past_tests w views =
    after (decide (ltb (capacity_of w.table) (length (table_of (files_in views))) gives TableRoom ∷ [])) (given_up w) (opened w views)
