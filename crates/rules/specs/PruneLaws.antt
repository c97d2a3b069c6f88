-- "Every unclaimed file with live 0", as facts; records and views after a prune.
use Rattle.std.specs.Prelude.{◌≡◌, ◌*◌}
use Rattle.rules.specs.Base.{false, List, map, ℕ, set}
use Rattle.rules.specs.Types.{Record, Claims}
use Rattle.rules.specs.Claims.{is_claimed}
use Rattle.rules.specs.FileMap.{is_empty}
use Rattle.rules.specs.Stores.{Store}

-- "Every unclaimed file with live 0"
pub record Dead (claims : Claims) (slot : ℕ) (r : Record) : Type 0 where
  pub file : is_empty r ≡ false
  pub live : r.live ≡ 0
  pub unclaimed : is_claimed claims slot ≡ false

-- ---- views
-- "first label byte set to 0", for each of these slots
abbrev pub emptying : ℕ → List ℕ → List Store
emptying size ks = map (λ (slot : ℕ). record { at = slot * size; byte = 0 }) ks
