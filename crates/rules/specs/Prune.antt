-- "Prune."
use Rattle.std.specs.Prelude.{◌&&◌, ◌∷◌, ◌*◌}
use Rattle.rules.specs.Base.{Bool, not, List, [], map, ℕ, suc, eqb, pick}
use Rattle.rules.specs.Types.{Record, Claims, Limits}
use Rattle.rules.specs.Refusal.{◌gives◌, decide, after}
use Rattle.rules.specs.Claims.{is_claimed}
use Rattle.rules.specs.FileMap.{empty_record, is_empty, slots_where}
use Rattle.rules.specs.Stores.{Store, made}
use Rattle.rules.specs.Condition1.{refused1}
use Rattle.rules.specs.World.{World, records_of, state_with, accepted, After, unchanged}

-- "Every unclaimed file with live 0"
unfoldable pub is_dead : Claims → ℕ → Record → Bool
is_dead claims slot r = not (is_empty r) && eqb r.live 0 && not (is_claimed claims slot)

-- "record emptied"
unfoldable pub emptied_from : Claims → ℕ → List Record → List Record
emptied_from claims i [] = []
emptied_from claims i (r ∷ rs) = pick (is_dead claims i r) empty_record r ∷ emptied_from claims (suc i) rs

-- "first label byte set to 0": one store for each file
unfoldable pub prune_stores : World → List Store
prune_stores w =
    map (λ (slot : ℕ). record { at = slot * w.settings.slot_bytes; byte = 0 }) (slots_where (is_dead w.claims) 0 (records_of w))

-- "No other heap byte changes."
unfoldable pub pruned : World → World
pruned w = record {
  settings = w.settings;
  state = state_with w.state (emptied_from w.claims 0 (records_of w)) w.state.next_position;
  claims = w.claims;
  heap = made (prune_stores w) w.heap;
  table = w.table;
}

-- the call: 1, or pruned
unfoldable pub prune_call : World → After
prune_call w = after (decide (refused1 w gives Limits ∷ [])) (unchanged w) (record { answer = accepted []; world = pruned w })
