-- A write on a store of the invariant: refused, nothing changes; accepted, the engine hears the batch.
use Rattle.std.specs.Prelude.{◌≡◌, ◌<◌, ◌∷◌, ◌++◌, ◌^◌, Err, Ok}
use Rattle.std.proofs.Math.Path.{refl, ap, subst}
use Rattle.std.proofs.Common.{sym, ◌∙◌, inr, zero-le}
use native.Mathlib.Omega.{arith}
use Rattle.rules.specs.Base.{Bool, List, [], ℕ, length, pick}
use Rattle.theory.specs.Types.{Answer}
use Rattle.rules.specs.Refusal.{decide, after}
use Rattle.rules.proofs.Answers.{known}
use Rattle.rules.specs.Ops.{Op, objects_of, entries_of, settled}
use Rattle.rules.specs.SettledLaws.{Last, last, or_earlier, last_on}
use Rattle.rules.proofs.SettledLaws.{settled-rising, settled-last, settled-all, last-append}
use Rattle.rules.specs.WrittenLaws.{file_of_ops}
use Rattle.rules.specs.Batch.{batch_in, ops_of}
use Rattle.rules.proofs.BatchLaws.{batch-ids}
use Rattle.rules.specs.Install.{new_lsn, installed, installed_all}
use Rattle.rules.specs.Write.{write_tests, written, write_call}
use Rattle.rules.specs.WriteLaws.{ops_in, Accepted}
use Rattle.rules.proofs.WriteLaws.{write-accepted}
use Rattle.rules.specs.World.{World, mappings, accepted, unchanged}
use Rattle.theory.proofs.SameIds.{room-absolute}
use Rattle.theory.specs.Picture.{Said, file_says, last_says}
use Rattle.theory.specs.Installed.{over}
use Rattle.theory.proofs.Told.{over_last, file-says}
use Rattle.theory.specs.SoundWorld.{SoundWorld}
use Rattle.theory.specs.Adding.{Fitting}
use Rattle.theory.proofs.Adding.{sound-installed}
use Rattle.history_theory.specs.Writing.{engine, heard}

-- the engine may be told in other words
pub sound-told : (w : World) (told said : ℕ → Said) → ((x : ℕ) → told x ≡ said x) → SoundWorld w told → SoundWorld w said
sound-told w told said h s =
    let p = s.sound in
    record {
      tidy = s.tidy;
      sound = record {
        filed = p.filed;
        whole = p.whole;
        sized = p.sized;
        started = p.started;
        above = p.above;
        newest = p.newest;
        room = p.room;
        narrow = p.narrow;
        counted = p.counted;
        says = λ x. p.says x ∙ h x;
      };
    }

-- a batch is heard behind what was heard before
heard-batch : (history ops : List Op) (x : ℕ) → over (last_says (last_on (settled ops) x)) (engine history x) ≡ engine (history ++ ops) x
heard-batch history ops x =
    over_last (last_on (settled ops) x) (last_on history x)
    ∙ ap (λ (l : Last). last_says (or_earlier l (last_on history x))) (settled-last ops x)
    ∙ ap last_says (sym (last-append history ops x))

module _ (w : World) (history : List Op) (s : SoundWorld w (engine history)) (bytes : List ℕ) where
  -- 4 to 7 as facts about the file of a batch
  pub fits-write : (o : Op) (os : List Op) → ops_in bytes ≡ o ∷ os → Accepted w bytes → Fitting (2 ^ 62) 0 w (o ∷ os)
  fits-write o os e a =
      let some : 0 < length (ops_in bytes) = subst (λ (l : List Op). 0 < length l) (sym e) (omega arith) in
      let q = a.ids in
      let m = room-absolute (mappings w) (entries_of 0 (ops_in bytes)) (new_lsn (2 ^ 62) w) in
      subst (Fitting (2 ^ 62) 0 w) e (record {
        some = some;
        rising = settled-rising (ops_of (batch_in bytes));
        ids = settled-all (λ (o : Op). o.id < 2 ^ 64) (ops_of (batch_in bytes)) (batch-ids bytes);
        kind = inr refl;
        aged = zero-le;
        slot = a.fits some;
        free = a.slot some;
        room = omega arith;
        positions = a.last some;
      })

  written-sound : (os : List Op) → ops_in bytes ≡ os → Accepted w bytes → SoundWorld (written w os) (engine (history ++ ops_of (batch_in bytes)))
  unfolding written installed_all last_on
  written-sound [] e a =
      sound-told w (engine history) (engine (history ++ ops_of (batch_in bytes)))
      (λ x. ap (λ (l : List Op). over (last_says (last_on l x)) (engine history x)) (sym e) ∙ heard-batch history (ops_of (batch_in bytes)) x) s
  written-sound (o ∷ os) e a =
      let f = fits-write o os e a in
      let n : length (objects_of (o ∷ os)) < 2 ^ 64 = let p = f.positions in omega arith in
      sound-told (installed (2 ^ 62) 0 w (o ∷ os)) (λ x. over (file_says (file_of_ops (new_lsn (2 ^ 62) w) 0 (o ∷ os)) x) (engine history x)) (engine (history ++ ops_of (batch_in bytes)))
      (λ x. ap (λ (t : Said). over t (engine history x)) (file-says (new_lsn (2 ^ 62) w) 0 (o ∷ os) f.rising f.ids n x)
      ∙ ap (λ (l : List Op). over (last_says (last_on l x)) (engine history x)) (sym e) ∙ heard-batch history (ops_of (batch_in bytes)) x)
      (sound-installed w (engine history) s (2 ^ 62) 0 (o ∷ os) f)

  -- LAW: a write keeps the invariant; the engine hears it if it is accepted
  pub sound-write : SoundWorld (write_call w bytes).world (engine (heard history bytes (write_call w bytes).answer))
  unfolding write_call
  sound-write = go (decide (write_tests w bytes)) refl
    where
      go : (a : Answer) → decide (write_tests w bytes) ≡ a
          → SoundWorld (after a (unchanged w) (record { answer = accepted []; world = written w (settled (ops_of (batch_in bytes))) })).world
          (engine (heard history bytes (after a (unchanged w) (record { answer = accepted []; world = written w (settled (ops_of (batch_in bytes))) })).answer))
      go (Err r) e = subst (λ (b : Bool). SoundWorld w (engine (pick b (history ++ ops_of (batch_in bytes)) history))) (sym (known r).some) s
      go (Ok _) e = written-sound (ops_in bytes) refl (write-accepted w bytes e)
