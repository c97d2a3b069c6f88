-- The demands of lives of results: whatever the calls gave, as long as their contracts admit it.
use Rattle.std.proofs.Math.Path.{◌≡◌}
use Rattle.std.specs.Prelude.{◌∷◌, ◌++◌}
use Rattle.rules.specs.Base.{List, [], map, ℕ, any}
use Rattle.rules.specs.Ops.{Op, put, delete}
use Rattle.rules.specs.SettledLaws.{Last, silent, last}
use Rattle.rules.specs.World.{World, world}
use Rattle.history_theory.specs.Quiet.{claim, release, sync, plan}
use Rattle.history_theory.specs.Nightly.{job_calls}
use Rattle.history_theory.specs.History.{Call, write, rewrite, prune, reopen, quiet, Life}
use Rattle.power_cuts.specs.Cuts.{done, lived_on}
use Rattle.power_cuts.specs.Cuts as cuts
use Rattle.marble.specs.Results.{room_in, Result, wrote, planned, rewrote, maintained, pruned, claimed, released, reopened, answered, read, answered_through, read_through, counted, unsynced_counted, synced, checked, Event, gave, cut, next, lives, AllHappen}

-- the bytes that the last operation on an id leaves
abbrev pub body_last : Last → List ℕ
body_last silent = []
body_last (last delete) = []
body_last (last (put body)) = body

-- ---- lives of results are those of the definitions
-- the calls that a result comes from, on the store that the host had: the nightly job is several; a call that is only lent the store is none
abbrev pub the_calls : World → Result → List Call
the_calls w (wrote batch r heap table) = write batch ∷ []
the_calls w (planned before r after) = quiet (plan (room_in before)) ∷ []
the_calls w (rewrote before asked r heap table after) = rewrite (room_in before) asked.generation asked.mark asked.count ∷ []
the_calls w (maintained before r heap table after) = job_calls w (room_in before)
the_calls w (pruned r heap) = prune ∷ []
the_calls w (claimed slot r) = quiet (claim slot) ∷ []
the_calls w (released slot r) = quiet (release slot) ∷ []
the_calls w (reopened r table) = reopen ∷ []
the_calls w (answered id r) = []
the_calls w (read id part) = []
the_calls w (answered_through batch id r) = []
the_calls w (read_through batch id part) = []
the_calls w (counted r) = []
the_calls w (unsynced_counted r) = []
the_calls w (synced r records) = quiet sync ∷ []
the_calls w (checked before r after) = []

-- of the results of a life, one behind the other
unfoldable pub calls_of : Life → List Result → List Call
calls_of l [] = []
calls_of l (r ∷ rs) = the_calls l.world r ++ calls_of (next l (gave r)) rs

-- of its events: each call made to its end, and the cuts
abbrev the_events : World → Event → List cuts.Event
the_events w (gave r) = map done (the_calls w r)
the_events w (cut k c v r table) = cuts.cut k c v ∷ []

-- one behind the other
unfoldable pub events_of : Life → List Event → List cuts.Event
events_of l [] = []
events_of l (e ∷ es) = the_events l.world e ++ events_of (next l e) es

-- the events there, which happen and leave the same
pub record AllAlike (l : Life) (es : List Event) (ds : List cuts.Event) : Type 0 where
  pub happen : cuts.AllHappen l ds
  pub same : lives l es ≡ lived_on l ds

-- of the events that follow, where it is so from any history
abbrev pub HeardBehind : List Event → Type 0
HeardBehind es = (w : World) (h : List Op) → (lives (record { world = w; history = h }) es).history ≡ h ++ (lives (record { world = w; history = [] }) es).history
