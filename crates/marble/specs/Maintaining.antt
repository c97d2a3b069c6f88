-- What the demands say of results of `plan`, `rewrite` and `nightly` that their contracts admit, on every store of demand 3, where the lent notes are long enough.
use Rattle.rules.specs.Types.{stopped_with}
use Rattle.std.specs.Prelude.{◌≡◌, ◌⊎◌, Err, Ok}
use Rattle.rules.specs.Base.{ℕ, sum}
use Rattle.rules.specs.declared.Refusal.{Refusal}
use Rattle.rules.specs.Maintenance.{group}
use Rattle.rules.specs.World.{World}
use Rattle.maintenance_theory.specs.Finished.{live_of, before}
use Rattle.maintenance_theory.specs.FirstRefused.{generations}
use Rattle.gc_nightly.specs.declared.Maintained.{Maintained}

-- the job moves the ids that are live in the files of all groups, as it starts; or a group stops it, after those of the generations before
abbrev pub GivesBut : (Refusal → ℕ → Type 0) → World → Maintained → Type 0
GivesBut refuses w r =
    (r.answer ≡ Ok (sum (live_of w) generations))
    ⊎ ((q : Refusal) × (g : ℕ) × (r.answer ≡ Err (stopped_with q g (sum (live_of w) (before g)))) × refuses q g)
