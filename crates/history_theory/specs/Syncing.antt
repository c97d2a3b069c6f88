-- Request P6: a sync of the state's own records, all of them or some.
use Rattle.std.specs.Prelude.{◌∷◌, ◌++◌, Err, Ok}
use Rattle.rules.specs.Base.{Bool, List, [], ℕ, take, drop, any, pick}
use Rattle.theory.specs.Types.{Record, Limits}
use Rattle.rules.specs.Refusal.{after}
use Rattle.rules.specs.World.{World, records_of, state_with, accepted, refused}
use Rattle.rules.specs.Sync.{is_unsynced, Synced, marked_all, sync_call}

-- the same store, every file's mark set
abbrev pub synced : World → World
synced w = record {
  settings = w.settings;
  state = state_with w.state (marked_all (records_of w)) w.state.next_position;
  claims = w.claims;
  heap = w.heap;
  table = w.table;
}

-- by whether the list is too long
abbrev pub synced_by : List Record → Bool → Synced
synced_by rs t =
    after (pick t (Err Limits) (Ok tt)) (λ r. record { answer = refused r; records = rs })
    (record { answer = accepted (pick (any is_unsynced rs) 1 0 ∷ []); records = marked_all rs })

-- ---- a host may lend fewer of the state's records: as many as `count` from slot `from` on
-- the store after such a sync
abbrev pub synced_from : ℕ → ℕ → World → World
synced_from from count w = record {
  settings = w.settings;
  state = state_with w.state (take from (records_of w) ++ ((sync_call (take count (drop from (records_of w)))).records ++ drop count (drop from (records_of w)))) w.state.next_position;
  claims = w.claims;
  heap = w.heap;
  table = w.table;
}
