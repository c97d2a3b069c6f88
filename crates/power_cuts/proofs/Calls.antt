-- Request P8, call by call: a run cut before its end leaves what the engine said before the call, a run made whole what it says after it.
use Rattle.std.specs.Prelude.{◌≡◌, ◌<◌, ◌≤◌, ◌∷◌, ◌++◌, ◌^◌, Err, Ok}
use Rattle.std.proofs.Math.Path.{refl, subst}
use Rattle.std.proofs.Common.{sym, ap, ◌∙◌, not-suc-le-zero, take_all}
use mathlib.Core.List.{append-nil}
use Rattle.rules.specs.Base.{List, [], ℕ, length, take}
use Rattle.theory.specs.Types.{Answer}
use Rattle.rules.specs.Refusal.{decide, after}
use Rattle.rules.specs.Ops.{Op, settled}
use Rattle.rules.specs.Batch.{batch_in, ops_of}
use Rattle.rules.specs.Stores.{Store, made}
use Rattle.rules.specs.Install.{new_label, new_lsn, stores_for, installed_all}
use Rattle.rules.specs.Write.{new_files, write_tests, written, write_call}
use Rattle.rules.specs.WriteLaws.{ops_in}
use Rattle.rules.proofs.WriteLaws.{write-accepted}
use Rattle.rules.specs.World.{World, accepted, unchanged}
use Rattle.theory.specs.SoundWorld.{SoundWorld}
use Rattle.theory.proofs.SoundWorld.{sound-fine}
use Rattle.history_theory.specs.Writing.{engine}
use Rattle.history_theory.proofs.Writing.{fits-write, sound-write}
use Rattle.history_theory.specs.History.{Call, write, rewrite, prune, reopen, quiet, hears}
use Rattle.power_cuts.specs.Runs.{files_run, unless_refused, write_run, prune_run, run_of}
use Rattle.power_cuts.proofs.Runs.{run-made}
use Rattle.power_cuts.specs.Cuts.{Alike}
use Rattle.power_cuts.specs.Enduring.{StandsOn}
use Rattle.power_cuts.proofs.Enduring.{alike_self, endured-none}
use Rattle.power_cuts.proofs.HiddenBytes.{file-hidden}
use Rattle.power_cuts.proofs.Emptying.{prune-endured}
use Rattle.power_cuts.proofs.Rewriting.{alike-installed, rewrite-endured}

module _ (w : World) (history : List Op) (s : SoundWorld w (engine history)) where
  -- ---- write
  module _ (bytes : List ℕ) where
    -- settings and table size stay
    write-alike : Alike w (write_call w bytes).world
    unfolding write_call written installed_all
    write-alike = go (decide (write_tests w bytes)) refl
      where
        files : decide (write_tests w bytes) ≡ Ok tt → (os : List Op) → ops_in bytes ≡ os → Alike w (installed_all (2 ^ 62) 0 w (new_files os))
        files e [] q = alike_self w
        files e (o ∷ os) q = alike-installed w (engine history) s (2 ^ 62) 0 (o ∷ os) (fits-write w history s bytes o os q (write-accepted w bytes e))

        go : (a : Answer) → decide (write_tests w bytes) ≡ a
            → Alike w (after a (unchanged w) (record { answer = accepted []; world = installed_all (2 ^ 62) 0 w (new_files (settled (ops_of (batch_in bytes)))) })).world
        go (Err r) e = alike_self w
        go (Ok _) e = files e (ops_in bytes) refl

    -- the file is not seen yet
    write-early : (k : ℕ) → k < length (write_run w bytes) → StandsOn w (made (take k (write_run w bytes)) w.heap) (engine history)
    unfolding write_run files_run
    write-early k = go (decide (write_tests w bytes)) refl
      where
        files : decide (write_tests w bytes) ≡ Ok tt → (os : List Op) → ops_in bytes ≡ os → k < length (files_run (2 ^ 62) 0 w (new_files os))
            → StandsOn w (made (take k (files_run (2 ^ 62) 0 w (new_files os))) w.heap) (engine history)
        files e [] q h = absurd (not-suc-le-zero h)
        files e (o ∷ os) q h =
            let n : stores_for (new_label (new_lsn (2 ^ 62) w) 0 (o ∷ os)) w (o ∷ os) ++ [] ≡ stores_for (new_label (new_lsn (2 ^ 62) w) 0 (o ∷ os)) w (o ∷ os) = append-nil _ in
            subst (λ (ss : List Store). StandsOn w (made (take k ss) w.heap) (engine history)) (sym n)
            (file-hidden w (engine history) s (2 ^ 62) 0 (o ∷ os) (fits-write w history s bytes o os q (write-accepted w bytes e)) k
            (subst (λ (ss : List Store). k < length ss) n h))

        go : (a : Answer) → decide (write_tests w bytes) ≡ a → k < length (unless_refused a (files_run (2 ^ 62) 0 w (new_files (settled (ops_of (batch_in bytes))))))
            → StandsOn w (made (take k (unless_refused a (files_run (2 ^ 62) 0 w (new_files (settled (ops_of (batch_in bytes))))))) w.heap) (engine history)
        go (Err r) e h = absurd (not-suc-le-zero h)
        go (Ok _) e h = files e (ops_in bytes) refl h

    -- it is
    write-whole : (k : ℕ) → length (write_run w bytes) ≤ k → StandsOn w (made (take k (write_run w bytes)) w.heap) (engine (hears w history (write bytes)))
    write-whole k h = record {
      store = (write_call w bytes).world;
      alike = write-alike;
      bytes = run-made w (write bytes) ∙ ap (λ (ss : List Store). made ss w.heap) (sym (take_all k (write_run w bytes) h));
      sound = sound-write w history s bytes;
    }

  -- ---- prune
  prune-cut : (k : ℕ) → StandsOn w (made (take k (prune_run w)) w.heap) (engine history)
  unfolding prune_run decide
  prune-cut k = rw (sound-fine w (engine history) s) ((prune-endured w (engine history) s).cut k)

  -- ---- calls that store nothing
  none-cut : (k : ℕ) → StandsOn w (made (take k []) w.heap) (engine history)
  none-cut k = (endured-none w (engine history) s).cut k

  -- LAW: before its last store nothing of a call is seen
  pub cut-early : (c : Call) (k : ℕ) → k < length (run_of w c) → StandsOn w (made (take k (run_of w c)) w.heap) (engine history)
  cut-early (write bytes) k h = write-early bytes k h
  cut-early (rewrite room g mark count) k h = (rewrite-endured history w s room g mark count).cut k
  cut-early prune k h = prune-cut k
  cut-early reopen k h = none-cut k
  cut-early (quiet q) k h = none-cut k

  -- LAW: with its last store all of it is
  pub cut-whole : (c : Call) (k : ℕ) → length (run_of w c) ≤ k → StandsOn w (made (take k (run_of w c)) w.heap) (engine (hears w history c))
  cut-whole (write bytes) k h = write-whole bytes k h
  cut-whole (rewrite room g mark count) k h = (rewrite-endured history w s room g mark count).cut k
  cut-whole prune k h = prune-cut k
  cut-whole reopen k h = none-cut k
  cut-whole (quiet q) k h = none-cut k
