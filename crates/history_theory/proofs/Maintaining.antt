-- A group rewritten on a store of the invariant, refused or not: nothing else is said of any id.
use Rattle.std.specs.Prelude.{◌≡◌, ◌≤◌, ◌∷◌, ◌++◌, ◌+◌, Err, Ok}
use Rattle.std.proofs.Math.Path.{refl}
use Rattle.std.proofs.Common.{arith}
use Rattle.rules.specs.Base.{Bool, true, false, List, [], ℕ, length, ltb, pick, each}
use Rattle.theory.specs.Types.{Refusal, Answer}
use Rattle.rules.specs.BaseLaws.{All}
use Rattle.rules.proofs.BaseLaws.{all_map}
use Rattle.rules.specs.Refusal.{decide, after, NoneHolds}
use Rattle.rules.proofs.RefusalLaws.{clear-when, none_first, none_rest}
use Rattle.rules.specs.Ops.{Op}
use Rattle.rules.proofs.SettledLaws.{settled-rising}
use Rattle.rules.specs.Install.{installed_all, room_tests, empty_of, position_tests}
use Rattle.rules.proofs.InstallLaws.{room-clear, positions-clear}
use Rattle.rules.specs.Maintenance.{found_in, found, files_of, Stop, going, stopped, Course, group, source_tests, group_tests, rewrite_group, onward}
use Rattle.rules.specs.TwoCalls.{generation_rewritten, rewrite_call}
use Rattle.rules.specs.World.{World}
use Rattle.theory.specs.SoundWorld.{SoundWorld}
use Rattle.history_theory.specs.Writing.{engine}
use Rattle.theory.specs.Standing.{AllStood}
use Rattle.history_theory.specs.Moving.{Movable}
use Rattle.history_theory.proofs.Moving.{found-movable}
use Rattle.history_theory.specs.Shards.{PartOf}
use Rattle.history_theory.proofs.Shards.{sub-rising, sub-all, files-parts}
use Rattle.history_theory.specs.Rewriting.{Rewritable}
use Rattle.history_theory.proofs.Rewriting.{sound-rewritten}
use Rattle.history_theory.proofs.OneGeneration.{rewrite-leaves}

module _ (history : List Op) where
  -- what a group moves, in files
  pub files-rewritable : (w : World) → SoundWorld w (engine history) → (slots : List ℕ) (target : ℕ) → All (Rewritable (engine history)) (files_of target (found w slots))
  unfolding found
  files-rewritable w s slots target =
      all_map (PartOf (found w slots)) (Rewritable (engine history)) (files_of target (found w slots))
      (λ f p. record {
        rising = sub-rising p.0 (settled-rising (each (found_in w) slots));
        current = sub-all (Movable (engine history)) p.0 (found-movable w history s slots);
        some = p.1;
      })
      (files-parts target (found w slots))

  -- 4, 5 and 7 decided for the whole group: its files come into empty slots
  group-installed : (w : World) → SoundWorld w (engine history) → (g : ℕ) → g ≤ 255 → (files : List (List Op)) → All (Rewritable (engine history)) files
      → NoneHolds (room_tests w.settings.slot_bytes (empty_of w) files ++ position_tests w.state.next_position files)
      → AllStood 0 g w files × SoundWorld (installed_all 0 g w files) (engine history)
  unfolding installed_all
  group-installed w s g aged [] r n = (tt, s)
  group-installed w s g aged (f ∷ fs) r n =
      let tests = room_tests w.settings.slot_bytes (empty_of w) (f ∷ fs) in
      let a = room-clear w.settings.slot_bytes (empty_of w) (f ∷ fs) (none_first tests _ n) in
      let b = positions-clear w.state.next_position (f ∷ fs) (none_rest tests _ n) (omega arith) in
      sound-rewritten history g (f ∷ fs) w s aged r a.fits a.slots b

  -- none of a group's tests holds: each of its files stands, and the invariant holds again
  pub group-rewritten : (g : ℕ) → g ≤ 255 → (slots : List ℕ) (w : World) → SoundWorld w (engine history) → decide (group_tests w slots (files_of w.settings.target_file_size (found w slots))) ≡ Ok tt
      → AllStood 0 g w (files_of w.settings.target_file_size (found w slots)) × SoundWorld (installed_all 0 g w (files_of w.settings.target_file_size (found w slots))) (engine history)
  unfolding group_tests
  group-rewritten g aged slots w s e =
      group-installed w s g aged (files_of w.settings.target_file_size (found w slots)) (files-rewritable w s slots w.settings.target_file_size)
      (none_rest (source_tests w slots) _
      (clear-when (group_tests w slots (files_of w.settings.target_file_size (found w slots))) e))

  -- LAW: a group, rewritten or refused
  pub sound-group : (g : ℕ) → g ≤ 255 → (slots : List ℕ) (moved : ℕ) (w : World) → SoundWorld w (engine history) → SoundWorld (rewrite_group g slots moved w).world (engine history)
  unfolding rewrite_group
  sound-group g aged slots moved w s = go (decide (group_tests w slots (files_of w.settings.target_file_size (found w slots)))) refl
    where
      go : (a : Answer) → decide (group_tests w slots (files_of w.settings.target_file_size (found w slots))) ≡ a
          → SoundWorld (after {A = Course} a (λ (r : Refusal). record { stop = stopped r g; moved = moved; world = w })
          (record { stop = going; moved = moved + length (found w slots); world = installed_all 0 g w (files_of w.settings.target_file_size (found w slots)) })).world (engine history)
      go (Err r) e = s
      go (Ok _) e = (group-rewritten g aged slots w s e).1

  -- one generation: skipped, rewritten or refused
  pub sound-onward : (stop : Stop) (g : ℕ) → g ≤ 255 → (slots : List ℕ) (c : Course) → SoundWorld c.world (engine history) → SoundWorld (onward stop g slots c).world (engine history)
  sound-onward (stopped r n) g aged slots c s = s
  sound-onward going g aged slots c s = go (ltb (length slots) c.world.settings.min_compaction_files)
    where
      go : (b : Bool) → SoundWorld (pick b c (rewrite_group g slots c.moved c.world)).world (engine history)
      go true = s
      go false = sound-group g aged slots c.moved c.world s

  -- LAW: a rewrite keeps the invariant, whatever numbers it is given, and the engine hears nothing
  pub sound-rewrite : (w : World) → SoundWorld w (engine history) → (room g mark count : ℕ) → SoundWorld (rewrite_call w room g mark count).world (engine history)
  unfolding generation_rewritten
  sound-rewrite w s room g mark count =
      rewrite-leaves (λ (v : World). SoundWorld v (engine history)) w room g mark count s
      (λ low high. sound-onward going g (omega arith) (group w g mark count) (record { stop = going; moved = 0; world = w }) s)
