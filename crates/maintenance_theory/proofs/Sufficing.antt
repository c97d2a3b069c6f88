-- N: no store refuses maintenance for nothing: where there is room for all new files it succeeds.
use Rattle.std.specs.Prelude.{◌≡◌, refl, ◌≤◌, ◌∷◌, ◌+◌, Ok}
use Rattle.std.proofs.Common.{sym, subst, inl, inr, arith, le-ltb}
use Rattle.rules.specs.Base.{Bool, true, false, List, [], ℕ, length, ltb, pick, keep, sum}
use Rattle.theory.specs.Types.{Settings}
use Rattle.rules.specs.BaseLaws.{All}
use Rattle.rules.specs.Ops.{Op, file_bytes}
use Rattle.rules.specs.FileMapLaws.{Among}
use Rattle.rules.specs.Install.{installed, installed_all, empty_of}
use Rattle.rules.specs.Maintenance.{start_group, maintain_call}
use Rattle.rules.specs.World.{World, maintain_given}
use Rattle.theory.specs.SoundWorld.{SoundWorld}
use Rattle.history_theory.specs.Writing.{engine}
use Rattle.history_theory.proofs.Rewriting.{one_fewer, installed-numbers}
use Rattle.maintenance_theory.specs.Finished.{live_of, before}
use Rattle.maintenance_theory.specs.FirstRefused.{generations, new_files, finishing, finished_from, NoneRefused}
use Rattle.maintenance_theory.proofs.FirstRefused.{settings-finished, maintain-ends}
use Rattle.maintenance_theory.specs.Sufficing.{positions_of, if_due, Suffices}

-- ---- files take no more than their slots and positions
all_slots : (g : ℕ) (files : List (List Op)) (w : World) → empty_of w ≤ empty_of (installed_all 0 g w files) + length files
unfolding installed_all
all_slots g [] w = omega arith
all_slots g (f ∷ fs) w = let a = one_fewer 0 g w f in let b = all_slots g fs (installed 0 g w f) in omega arith

-- the next position grows by T + 1 of each
pub all-positions : (g : ℕ) (files : List (List Op)) (w : World) → (installed_all 0 g w files).state.next_position ≡ w.state.next_position + positions_of files
unfolding installed_all sum
all-positions g [] w = omega arith
all-positions g (f ∷ fs) w =
    let a = (installed-numbers [] g w f).1 in
    let b = all-positions g fs (installed 0 g w f) in
    omega arith

taken : (w : World) (gs : List ℕ) (v : World) → (empty_of v ≤ empty_of (finished_from w gs v) + sum (if_due w length) gs)
    × ((finished_from w gs v).state.next_position ≡ v.state.next_position + sum (if_due w positions_of) gs)
unfolding finished_from sum
taken w [] v = (omega arith, omega arith)
taken w (g ∷ gs) v =
    let a = taken w gs (finishing w g v) in
    let a0 = a.0 in
    let a1 = a.1 in
    let b = go (ltb (length (start_group w g)) w.settings.min_compaction_files) in
    let b0 = b.0 in
    let b1 = b.1 in
    (omega arith, omega arith)
  where
    go : (b : Bool) → (empty_of v ≤ empty_of (pick b v (installed_all 0 g v (new_files w g))) + pick b 0 (length (new_files w g)))
        × ((pick b v (installed_all 0 g v (new_files w g))).state.next_position ≡ v.state.next_position + pick b 0 (positions_of (new_files w g)))
    go true = (omega arith, omega arith)
    go false = (all_slots g (new_files w g) v, all-positions g (new_files w g) v)

-- those of a generation and of the ones before it are among those of all
up_to : (f : ℕ → ℕ) (g : ℕ) → Among generations g → sum f (before g) + f g ≤ sum f generations
unfolding keep sum
up_to f g (inl e) = subst (λ (h : ℕ). sum f (before h) + f h ≤ sum f generations) e (omega arith)
up_to f g (inr (inl e)) = subst (λ (h : ℕ). sum f (before h) + f h ≤ sum f generations) e (omega arith)
up_to f g (inr (inr (inl e))) = subst (λ (h : ℕ). sum f (before h) + f h ≤ sum f generations) e (omega arith)
up_to f g (inr (inr (inr x3))) = elim x3 [ ]

none-refused : (w : World) → Suffices w → NoneRefused w
none-refused w h g a due =
    let t = taken w (before g) w in
    let t0 = t.0 in
    let t1 = t.1 in
    let i = up_to (if_due w length) g a in
    let j = up_to (if_due w positions_of) g a in
    let few = le-ltb (length (start_group w g)) w.settings.min_compaction_files due in
    let m : if_due w length g ≡ length (new_files w g) = rw few refl in
    let n : if_due w positions_of g ≡ positions_of (new_files w g) = rw few refl in
    let b = h.slots in
    let c = h.positions in
    record {
      sizes = h.small g a due;
      enough = record {
        room = record {
          fits = subst (λ (s : Settings). All (λ (f : List Op). 64 + length (file_bytes f) ≤ s.slot_bytes) (new_files w g)) (sym (settings-finished w (before g) w)) (h.fits g a due);
          slots = omega arith;
        };
        positions = λ some. omega arith;
      };
    }

-- LAW: then maintenance succeeds
pub maintain-within : (history : List Op) (w : World) → SoundWorld w (engine history) → Suffices w → (maintain_call w).answer ≡ maintain_given (Ok (sum (live_of w) generations))
maintain-within history w s h = (maintain-ends history w s).moved (none-refused w h)
