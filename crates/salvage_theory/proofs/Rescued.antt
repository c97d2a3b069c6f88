-- Request P9, "Demand 3 then starts afresh from what that reopening found, and only where P5's checker lists nothing."
use Rattle.std.specs.Prelude.{◌≡◌}
use Rattle.std.proofs.Common.{sym, subst}
use Rattle.numbers.specs.LittleEndian.{Bytes}
use Rattle.rules.specs.Base.{List, [], ℕ}
use Rattle.rules.specs.World.{World}
use Rattle.history_theory.specs.History.{Call, lived, Starts, Kept}
use Rattle.history_theory.specs.Clean.{Clean, resumed}
use Rattle.history_theory.proofs.Clean.{clean-starts, clean-history}
use Rattle.power_cuts.specs.Cuts.{CutAt, Event, lived_on, AllHappen, Survived}
use Rattle.power_cuts.proofs.PowerCut.{lived-cut, lived-on-kept, lived-on-cut}
use Rattle.check_theory.specs.Accepting.{list_of}
use Rattle.check_theory.proofs.CleanLists.{list-clean}
use Rattle.check_theory.proofs.Lives.{list-stays}
use Rattle.salvage_theory.proofs.FirstBytes.{salvage-bytes}
use Rattle.salvage_theory.specs.Rescued.{Afresh}

module _ (w : World) (words : List ℕ) (v : World) (r : Afresh w words v) where
  still-bytes : Bytes v.heap
  still-bytes = subst Bytes (sym r.heap) (salvage-bytes w.settings w.heap w.table words r.bytes)

  -- LAW: it is clean
  pub rescued-clean : Clean v
  rescued-clean = list-clean v r.range still-bytes r.listed

  -- request P9: a life may start from it
  pub rescued-starts : Starts (resumed v)
  rescued-starts = clean-starts v rescued-clean

  -- P9 and DEMAND 3: from what that reopening found, whatever calls are made
  pub rescued-history : (calls : List Call) → Kept (lived (resumed v) calls).world (lived (resumed v) calls).history
  rescued-history = clean-history v rescued-clean

  -- and power cut behind any store of the next one
  pub rescued-cut : (calls : List Call) (c : Call) (k : ℕ) (u : World) → CutAt k (lived (resumed v) calls).world c u → Survived k (lived (resumed v) calls).world c u
  rescued-cut = lived-cut (resumed v) rescued-starts

  -- and cuts among the calls
  pub rescued-history-cut : (events : List Event) → AllHappen (resumed v) events → Kept (lived_on (resumed v) events).world (lived_on (resumed v) events).history
  rescued-history-cut = lived-on-kept (resumed v) rescued-starts

  -- and the next cut
  pub rescued-cut-again : (events : List Event) → AllHappen (resumed v) events → (c : Call) (k : ℕ) (u : World) → CutAt k (lived_on (resumed v) events).world c u
      → Survived k (lived_on (resumed v) events).world c u
  rescued-cut-again = lived-on-cut (resumed v) rescued-starts

  -- request P9: the checker's list stays empty
  pub rescued-list : (calls : List Call) → list_of (lived (resumed v) calls).world ≡ []
  rescued-list = list-stays v r.range still-bytes r.listed
