-- Request P6: "Remember what has reached the flash."
use Rattle.std.specs.Prelude.{◌&&◌, ◌∷◌}
use Rattle.rules.specs.Base.{Bool, not, List, [], map, ℕ, length, ltb, eqb, pick, any, sum}
use Rattle.rules.specs.Types.{Record, Limits}
use Rattle.rules.specs.Refusal.{◌gives◌, decide, after}
use Rattle.rules.specs.FileMap.{recorded, is_empty}
use Rattle.rules.specs.World.{World, records_of, state_with, Given, accepted, refused, After}

-- a file's record whose mark is clear: "an empty record .. is never counted or marked"
unfoldable pub is_unsynced : Record → Bool
is_unsynced r = not (is_empty r) && eqb r.synced 0

-- "how many aren't synced"
unfoldable pub unsynced_in : List Record → ℕ
unsynced_in rs = sum (λ (r : Record). pick (is_unsynced r) 1 0) rs

-- a record "set by a sync call"
unfoldable pub marked : Record → Record
marked r = pick (is_unsynced r) (recorded r.label r.live 1) r

-- "then has them marked"
abbrev pub marked_all : List Record → List Record
marked_all rs = map marked rs

-- "1 for a list longer than 256"
unfoldable pub too_long : List Record → Bool
too_long rs = ltb 256 (length rs)

-- "The host lends its list of file records and asks how many aren't synced": 1, or how many
unfoldable pub unsynced_call : List Record → Given
unsynced_call rs = after (decide (too_long rs gives Limits ∷ [])) refused (accepted (unsynced_in rs ∷ []))

-- an answer, and the lent list after the call
pub record Synced : Type 0 where
  pub answer : Given
  pub records : List Record

-- "then has them marked. Sync gives whether any mark changed": 1, or 1 for yes and 0 for no
unfoldable pub sync_call : List Record → Synced
sync_call rs =
    after (decide (too_long rs gives Limits ∷ []))
    (λ r. record { answer = refused r; records = rs })
    (record { answer = accepted (pick (any is_unsynced rs) 1 0 ∷ []); records = marked_all rs })

-- the same of a state's own 256 records: nothing else changes
unfoldable pub sync_state : World → After
sync_state w = record {
  answer = (sync_call (records_of w)).answer;
  world = record {
    settings = w.settings;
    state = state_with w.state (sync_call (records_of w)).records w.state.next_position;
    claims = w.claims;
    heap = w.heap;
    table = w.table;
  };
}
