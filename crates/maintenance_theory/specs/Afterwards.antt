-- C: where the ids of a rewritten group are after the group and after the call, and what is left of its files.
use Rattle.std.specs.Prelude.{◌≡◌, ◌<◌, ◌≤◌, Ok}
use Rattle.rules.specs.Base.{true, false, List, ℕ, suc}
use Rattle.rules.specs.Ops.{Op}
use Rattle.rules.specs.SlotFile.{File, empty, holds}
use Rattle.rules.specs.FileMap.{empty_record, record_at}
use Rattle.rules.specs.FileMapLaws.{Among}
use Rattle.rules.specs.Maintenance.{found, start_group, maintain_call}
use Rattle.rules.specs.World.{World, records_of, maintain_given, After}
use Rattle.theory.specs.Places.{view_at}
use Rattle.theory.specs.Picture.{views_of}
use Rattle.maintenance_theory.specs.Tally.{heard_in}
use Rattle.maintenance_theory.specs.Stopping.{Remain}
use Rattle.maintenance_theory.specs.Relocated.{Left}
use Rattle.maintenance_theory.specs.Finished.{before}
use Rattle.maintenance_theory.specs.Exactly.{Inside}
use Rattle.maintenance_theory.specs.FirstRefused.{generations, Due, with_finished, Passes}
use Rattle.maintenance_theory.specs.Arrived.{Arrived}

-- ---- the words
-- maintenance finishes generation g: it is due, and neither it nor one before it is refused
pub record Finishes (w : World) (g : ℕ) : Type 0 where
  pub generation : Among generations g
  pub due : Due w g
  pub passes : (h : ℕ) → Among generations h → h < suc g → Passes w h

-- what becomes of the ids in its files, and of the files: the call's answer and what it leaves are a
pub record RewroteAs (w : World) (g : ℕ) (a : After) : Type 0 where
  -- an id whose location, as the call starts, is in one of them is in a new file of g, in a slot that was empty: after the group, and after the call
  pub moved : (x : ℕ) → Inside w (start_group w g) x → Arrived g (with_finished w (before g)) (with_finished w (before (suc g))) x
  pub stays : (x : ℕ) → Inside w (start_group w g) x → Arrived g (with_finished w (before g)) a.world x
  -- they have no live entry, after the group and after the call
  pub dead : (k : ℕ) → Among (start_group w g) k → (record_at (records_of (with_finished w (before (suc g)))) k).live ≡ 0
  pub left : (k : ℕ) → Among (start_group w g) k → (record_at (records_of a.world) k).live ≡ 0
  -- on success their slots are empty
  pub emptied : (n : ℕ) → a.answer ≡ maintain_given (Ok n) → (k : ℕ) → Among (start_group w g) k
      → (view_at (views_of a.world) k ≡ empty) × (record_at (records_of a.world) k ≡ empty_record)

-- of the old call
abbrev pub Rewrote : World → ℕ → Type 0
Rewrote w g = RewroteAs w g (maintain_call w)

-- ---- one group, in the world in which it is rewritten
-- what becomes of the ids and of the files of a group ks that is rewritten
pub record Rewrites (history : List Op) (g : ℕ) (u v : World) (ks : List ℕ) : Type 0 where
  -- an id that the group did not find is left, one that it found has arrived in a new file
  pub left : (x : ℕ) → heard_in (found u ks) x ≡ false → Left u v x
  pub arrived : (x : ℕ) → heard_in (found u ks) x ≡ true → Arrived g u v x
  -- each file is where it was, none gains a live entry, and those of the group have none
  pub remain : Remain u v
  pub fewer : (k : ℕ) (c : File) → view_at (views_of u) k ≡ holds c → (record_at (records_of v) k).live ≤ (record_at (records_of u) k).live
  pub dead : (k : ℕ) → Among ks k → (record_at (records_of v) k).live ≡ 0
