-- One result.
use Rattle.std.specs.Prelude.{◌≡◌, ◌∷◌}
use Rattle.std.proofs.Common.{sym, ap, ◌∙◌}
use Rattle.rules.specs.Base.{List, [], get_or}
use Rattle.rules.specs.declared.Record.{Record}
use Rattle.rules.specs.World.{Given}
use Rattle.rules.specs.Sync.{unsynced_call, sync_call}
use Rattle.as_numbers.specs.declared.answers.One.{One}
use Rattle.as_numbers.specs.Shown.{given, shown}

-- a number and a value are told apart by what they show
same-one : (r s : One) → given r.number (r.value ∷ []) ≡ given s.number (s.value ∷ []) → r ≡ s
same-one r s e = ap (λ (g : Given). record { number = g.number; value = get_or g.values 0 0 }) e

-- any two answers that the contract of `unsynced` admits are equal
pub one-count : (list : List Record) (r s : One) → given r.number (r.value ∷ []) ≡ shown 1 (unsynced_call list) → given s.number (s.value ∷ []) ≡ shown 1 (unsynced_call list) → r ≡ s
one-count list r s p q = same-one r s (p ∙ sym q)

-- any two results that the contract of `sync` admits are equal: the answer, and the lent list
pub one-sync : (list after later : List Record) (r s : One)
    → (given r.number (r.value ∷ []) ≡ shown 1 (sync_call list).answer) × (after ≡ (sync_call list).records)
    → (given s.number (s.value ∷ []) ≡ shown 1 (sync_call list).answer) × (later ≡ (sync_call list).records)
    → (r ≡ s) × (after ≡ later)
one-sync list after later r s p q = (same-one r s (p.0 ∙ sym q.0), p.1 ∙ sym q.1)
