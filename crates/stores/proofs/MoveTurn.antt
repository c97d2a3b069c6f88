-- One turn of the loop that moves bytes within the heap.
use mathlib.Core.Path.{◌≡◌, refl, ap, ◌∙◌}
use mathlib.Core.List.{List}
use mathlib.Core.Logic.{◌⊎◌, inl, inr, ⊎_elim}
use Prim.Native.Nat.{ℕ, suc, ◌+◌, ◌≤◌, ◌<◌}
use native.Mathlib.Omega.{arith}
use native.Mathlib.Numerals.{add-one}
use lib.ListN.{length, take, drop, get_or, set}
use lib.Seq.{drop-cons}
use Rattle.stores.specs.Runs.{set_apart}
use Rattle.numbers.specs.Parts.{put_at, put_step}

-- what is still to be moved, from where it stands
abbrev pub to_move : List ℕ → ℕ → ℕ → ℕ → List ℕ
to_move heap at from m = put_at heap at (take m (drop from heap))

pub move-turn : (heap : List ℕ) (at from m : ℕ) → at < length heap → from < length heap → (at ≤ from) ⊎ (from + suc m ≤ at)
    → to_move (set heap at (get_or heap from 0)) (at + 1) (from + 1) m ≡ to_move heap at from (suc m)
move-turn heap at from m h k apart =
    let b = get_or heap from 0 in
    let still : take m (drop (from + 1) (set heap at b)) ≡ take m (drop (from + 1) heap) =
    set_apart heap at (from + 1) m b (⊎_elim (λ e. inl (omega arith)) (λ e. inr (omega arith)) apart) in
    ap (put_at (set heap at b) (at + 1)) still
    ∙ put_step heap at b (take m (drop (from + 1) heap)) h
    ∙ ap (put_at heap at) (rw (add-one from, drop-cons heap from 0 k) refl)
