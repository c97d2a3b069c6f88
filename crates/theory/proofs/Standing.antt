-- W: a file that a call adds stands in the lowest empty slot as it was meant, and nothing else of the heap changes.
use Rattle.std.specs.Prelude.{◌≡◌, ◌<◌, ◌*◌, ◌^◌}
use Rattle.std.proofs.Common.{arith}
use Rattle.rules.specs.Base.{List, ℕ, length}
use Rattle.numbers.specs.Parts.{put_at}
use Rattle.rules.proofs.SettingsLaws.{slot-within}
use Rattle.rules.specs.Ops.{put, Op}
use Rattle.rules.proofs.OpsLaws.{stands-entry, stands-inside, entries-of-placed}
use Rattle.rules.specs.WrittenLaws.{slot_file}
use Rattle.rules.proofs.WrittenLaws.{slot-made, object-written, read-clear}
use Rattle.rules.specs.Install.{new_slot, new_lsn, stores_for, installed}
use Rattle.rules.specs.World.{World}
use Rattle.theory.specs.Picture.{Said}
use Rattle.theory.proofs.Whole.{small-written}
use Rattle.theory.proofs.Told.{ids-fit}
use Rattle.theory.specs.SoundWorld.{SoundWorld}
use Rattle.theory.specs.Adding.{Fitting}
use Rattle.theory.proofs.Adding.{free-slot, writable, views_after}
use Rattle.theory.specs.Standing.{Stood}

module _ (w : World) (told : ℕ → Said) (s : SoundWorld w told) (bit g : ℕ) (os : List Op) (f : Fitting bit g w os) where
  heap-after : (installed bit g w os).heap ≡ put_at w.heap (new_slot w * w.settings.slot_bytes) (slot_file (new_lsn bit w) g os)
  unfolding installed stores_for
  heap-after =
      slot-made w.settings.slot_bytes w.heap (new_slot w) (new_lsn bit w) g os
      (slot-within w.settings (length w.heap) (new_slot w) s.tidy.limits.heap (free-slot w told s f.free).0) (writable w told s bit g os f)

  -- LAW: a file that fits stands so
  pub fitting-stands : Stood bit g w os
  fitting-stands = record {
    free = (free-slot w told s f.free).1;
    views = views_after w told s bit g os f;
    heap = heap-after;
    inside = entries-of-placed os;
    objects = λ x body p h.
        let a = stands-inside 0 os x (put body) p h in
        let b = a.1 in
        let c = f.positions in
        let n : length body < 2 ^ 64 = omega arith in
        let o = object-written os x body p h (ids-fit os f.ids 0 x _ (stands-entry 0 os x (put body) p h)) n in
        (o.0, o.1, read-clear p x body o.0);
    small = λ limit h. let c = f.positions in small-written limit (new_lsn bit w) g os f.ids (omega arith) h;
  }
