-- On a store of the invariant each object ends at or before T, header and body: none runs into the trailer.
use Rattle.std.specs.Prelude.{◌≡◌, ◌≤◌, ◌+◌}
use Rattle.std.proofs.Common.{ap, arith, ltb-false, length-take, length-drop}
use Rattle.rules.specs.Base.{false, List, ℕ, length, drop}
use Rattle.disk_location.specs.Locations.{position_of}
use Rattle.rules.specs.Refusal.{NoneHolds}
use Rattle.rules.specs.Object.{stored_at, objects_in}
use Rattle.rules.specs.Read.{object_tests}
use Rattle.rules.specs.SlotFile.{File, bytes_of_slot, file_in}
use Rattle.rules.specs.SeenLaws.{Seen}
use Rattle.rules.specs.Condition1.{out_of_range}
use Rattle.rules.specs.World.{World}
use Rattle.theory.specs.Picture.{Said}
use Rattle.theory.specs.SoundWorld.{SoundWorld}
use Rattle.theory.proofs.SoundWorld.{shown}
use Rattle.history_theory.proofs.Moving.{objects-stand}
use Rattle.history_theory.proofs.Clean.{starts-clear}
use Rattle.history_theory.specs.Fresh.{Blank}
use Rattle.history_theory.specs.History.{Call, Life, lived, Starts, born}
use Rattle.history_theory.proofs.History.{sound-lived, born-starts}
use Rattle.history_theory.specs.Ends.{BodiesEnd}

-- 16 does not hold of what stands there, held against the object bytes
clear-ends : (objects : List ℕ) (x p : ℕ) → NoneHolds (object_tests x (stored_at p (drop p objects)))
    → p + (20 + (stored_at p (drop p objects)).size) ≤ length objects
unfolding object_tests NoneHolds stored_at
clear-ends objects x p n =
    let a : 20 + (stored_at p (drop p objects)).size ≤ length (drop p objects) = ltb-false _ _ n.1.0 in
    let b = length-drop p objects in
    omega arith

-- the object bytes of a file that a slot shows are T bytes at most
objects-most : (slot : List ℕ) (f : File) → Seen slot f → length f.objects ≤ f.label.trailer_offset
objects-most slot f s =
    let a = length-take f.label.trailer_offset (file_in f.label slot) in
    let b = ap length s.objects in
    omega arith

-- LAW: on any store of the invariant
pub bodies-end : (w : World) (told : ℕ → Said) → SoundWorld w told → BodiesEnd w
bodies-end w told s k f h x l e d =
    let whole = s.sound.whole k f h in
    let clear = starts-clear f.objects (objects_in f.objects) x (position_of l) (objects-stand f.objects) whole.walked (whole.stored x l e d) in
    let a = clear-ends f.objects x (position_of l) clear in
    let b = objects-most (bytes_of_slot w.settings.slot_bytes w.heap k) f (shown w k f h).1 in
    omega arith

-- LAW: whatever calls were made
pub lived-bodies-end : (l : Life) → Starts l → (calls : List Call) → BodiesEnd (lived l calls).world
lived-bodies-end l s calls = bodies-end (lived l calls).world _ (sound-lived l s calls)

-- LAW: and on every store of demand 3 that began with no file
pub any-bodies-end : (w : World) → out_of_range w.settings (length w.heap) w.table ≡ false → Blank w
    → (calls : List Call) → BodiesEnd (lived (born w) calls).world
any-bodies-end w range blank = lived-bodies-end (born w) (born-starts w range blank)
