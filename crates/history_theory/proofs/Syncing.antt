-- Request P6: a sync of the state's own records, all of them or some.
use Rattle.std.specs.Prelude.{◌≡◌, ◌<◌, ◌≤◌, ◌∷◌}
use Rattle.std.proofs.Math.Path.{refl}
use Rattle.std.proofs.Common.{sym, subst, length-take, length-drop, le-ltb, ltb-true}
use native.Mathlib.Omega.{arith}
use Rattle.rules.specs.Base.{Bool, true, false, List, [], ℕ, length, take, drop, ltb, any, pick}
use Rattle.theory.specs.Types.{Record, Limits}
use Rattle.rules.specs.Refusal.{decide, after}
use Rattle.rules.specs.World.{World, records_of, accepted, refused, After}
use Rattle.rules.specs.Sync.{is_unsynced, marked_all, too_long, sync_call, sync_state}
use Rattle.theory.specs.Picture.{picture_of, Said}
use Rattle.theory.specs.Marks.{marked_from}
use Rattle.theory.proofs.Marks.{sound-marked, sound-some-marked, part_of}
use Rattle.theory.specs.SoundWorld.{bounds_of, SoundWorld}
use Rattle.history_theory.specs.Syncing.{synced, synced_by, synced_from}

-- a list of at most 256 is never refused: it is marked, and the answer says whether any mark changed
pub sync-taken : (rs : List Record) → length rs ≤ 256 → sync_call rs ≡ record { answer = accepted (pick (any is_unsynced rs) 1 0 ∷ []); records = marked_all rs }
unfolding sync_call too_long decide
sync-taken rs fits = rw (le-ltb 256 (length rs) fits) refl

-- LAW: "1 for a list longer than 256", and nothing changes
pub sync-refused : (rs : List Record) → ((sync_call rs).answer.number ≡ 0 → ⊥) → (256 < length rs) × (sync_call rs ≡ record { answer = refused Limits; records = rs })
unfolding sync_call too_long decide
sync-refused rs n = go (ltb 256 (length rs)) refl n
  where
    go : (t : Bool) → ltb 256 (length rs) ≡ t → ((synced_by rs t).answer.number ≡ 0 → ⊥)
        → (256 < length rs) × (synced_by rs t ≡ record { answer = refused Limits; records = rs })
    go true e m = (ltb-true 256 (length rs) e, refl)
    go false e m = absurd (m refl)

module _ (w : World) (told : ℕ → Said) (s : SoundWorld w told) where
  -- LAW: a sync is accepted, and sets every file's mark
  pub sync-accepted : sync_state w ≡ record { answer = accepted (pick (any is_unsynced (records_of w)) 1 0 ∷ []); world = synced w }
  unfolding sync_state
  sync-accepted =
      let fits : length (records_of w) ≤ 256 = let a = s.sound.sized in omega arith in
      rw (sync-taken (records_of w) fits) refl

  -- LAW: the invariant after it
  pub sound-synced : SoundWorld (sync_state w).world told
  sound-synced = subst (λ (a : After). SoundWorld a.world told) (sym sync-accepted) (
      record {
        tidy = record { limits = s.tidy.limits; settings = s.tidy.settings; heap_len = s.tidy.heap_len; table-len = s.tidy.table-len; form = s.tidy.form };
        sound = sound-marked (bounds_of w) (picture_of w) told s.sound;
      }
      )

-- LAW: it keeps the invariant, so demand 3 holds from there on with what was heard
pub sound-synced-from : (w : World) (told : ℕ → Said) → SoundWorld w told → (from count : ℕ) → SoundWorld (synced_from from count w) told
sound-synced-from w told s from count =
    let rs = records_of w in
    let part : length (take count (drop from rs)) ≤ 256 = let a = length-take count (drop from rs) in let b = length-drop from rs in let c = s.sound.sized in omega arith in
    rw (sync-taken (take count (drop from rs)) part) (record {
      tidy = record { limits = s.tidy.limits; settings = s.tidy.settings; heap_len = s.tidy.heap_len; table-len = s.tidy.table-len; form = s.tidy.form };
      sound = sound-some-marked (bounds_of w) (picture_of w) told s.sound (marked_from from count rs) (part_of from count rs);
    })
