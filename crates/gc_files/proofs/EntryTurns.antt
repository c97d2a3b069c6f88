-- A turn of the loop over the entries of the table, its start and its end.
use mathlib.Core.Path.{◌≡◌, refl, sym, ap, ◌∙◌}
use Prim.Native.Nat.{◌≤◌, ◌<◌}
use native.Mathlib.Omega.{arith}
use lib.ListN.{length-set, take-append-drop}
use lib.Seq.{get_or-drop}
use Rattle.std.specs.Prelude.{◌++◌, ◌+◌}
use Rattle.rules.specs.Base.{List, ℕ, length, get_or, set, take, drop, eqb, pick}
use Rattle.rules.proofs.BaseLaws.{zero-or-more}
use mathlib.Core.Logic.{◌⊎◌, inl, inr}
use borrow.Author.Tests.{eq-eqb, ne_eqb}
use Rattle.rules.specs.Ops.{Op, size_of, shard_for}
use Rattle.batch.specs.SizeLaws.{size-bound}
use Rattle.gc_split.specs.Tally.{Tally, entering, taking, tally_from, Within}
use Rattle.gc_split.proofs.BoundLaws.{cut-within, take_within}
use Rattle.gc_split.proofs.PieceLaws.{take-cuts}
use Rattle.gc_files.specs.Places.{moving_at, op_at, placed_ops, Whole, entry_taken, entry_piece, pieces_along}
use Rattle.gc_files.specs.PlaceLaws.{moving-told, along-tally, along-pieces, placed-none, pieces_none}

-- an entry more at most
taken-within : (target slot_size : ℕ) (heap : List ℕ) (id place : ℕ) (t : Tally) → (1 < place → Whole heap place) → Within t → t.totals.entries < 65536
    → Within (entry_taken target slot_size heap id place t)
    × ((entry_taken target slot_size heap id place t).totals.entries ≤ t.totals.entries + 1)
    × (length (entry_taken target slot_size heap id place t).cuts ≡ length t.cuts)
unfolding entry_taken taking entering
taken-within target slot_size heap id place t whole within room = go (zero-or-more place)
  where
    n : ℕ
    n = shard_for (op_at heap id place).content

    size : ℕ
    size = size_of (op_at heap id place).content

    joined : Tally
    joined = taking target slot_size n size t

    go : (place ≡ 0) ⊎ (0 < place)
        → Within (pick (eqb place 0) t joined)
        × ((pick (eqb place 0) t joined).totals.entries ≤ t.totals.entries + 1)
        × (length (pick (eqb place 0) t joined).cuts ≡ length t.cuts)
    go (inl e) = rw (eq-eqb place 0 e) (within, omega arith, refl)
    go (inr some) =
        let told = moving-told heap id place some whole in
        let few = size-bound (moving_at heap id place) in
        let cut = cut-within target slot_size n t within in
        rw (ne_eqb place 0 (λ z. omega arith))
        (take_within target slot_size n size t within room (omega (arith, told.size, told.short)), omega (arith, cut.entries), take-cuts target slot_size n size t)

-- the entries before i are split, into the tally t and the numbers gs
pub record Along (target slot_size : ℕ) (heap xs ps old : List ℕ) (start t : Tally) (gs : List ℕ) (i : ℕ) : Type 0 where
  pub low : i ≤ length xs
  pub within : Within t
  pub entries : t.totals.entries ≤ start.totals.entries + i
  pub tallied : tally_from target slot_size (placed_ops heap (drop i xs) (drop i ps)) t ≡ tally_from target slot_size (placed_ops heap xs ps) start
  pub numbered : take i gs ++ pieces_along target slot_size heap (drop i xs) (drop i ps) (drop i gs) t ≡ pieces_along target slot_size heap xs ps old start
  pub long : length gs ≡ length old
  pub cuts : length t.cuts ≡ length start.cuts

pub along-start : (target slot_size : ℕ) (heap xs ps gs : List ℕ) (t : Tally) → Within t → Along target slot_size heap xs ps gs t t gs 0
along-start target slot_size heap xs ps gs t within = record { low = omega arith; within = within; entries = omega arith; tallied = refl; numbered = refl; long = refl; cuts = refl }

pub along-turn : (target slot_size : ℕ) (heap xs ps old : List ℕ) (start t t' : Tally) (gs gs' : List ℕ) (i : ℕ)
    → i < length xs → i < length ps → i < length gs → (1 < get_or ps i 0 → Whole heap (get_or ps i 0)) → t.totals.entries < 65536
    → Along target slot_size heap xs ps old start t gs i
    → t' ≡ entry_taken target slot_size heap (get_or xs i 0) (get_or ps i 0) t
    → gs' ≡ set gs i (entry_piece target slot_size heap (get_or xs i 0) (get_or ps i 0) (get_or gs i 0) t)
    → Along target slot_size heap xs ps old start t' gs' (i + 1)
along-turn target slot_size heap xs ps old start t t' gs gs' i h g k whole room along e f =
    let taken = taken-within target slot_size heap (get_or xs i 0) (get_or ps i 0) t whole along.within room in
    record {
      low = omega arith;
      within = rw e taken.0;
      entries = omega (arith, ap (λ (u : Tally). u.totals.entries) e, taken.1, along.entries);
      tallied = rw e (sym (along-tally target slot_size heap xs ps i h g t) ∙ along.tallied);
      numbered = rw (e, f) (sym (along-pieces target slot_size heap xs ps i h g gs k t) ∙ along.numbered);
      long = ap length f ∙ length-set gs i _ ∙ along.long;
      cuts = ap (λ (u : Tally). length u.cuts) e ∙ taken.2 ∙ along.cuts;
    }

-- no entry from i on is moved
pub along-end : (target slot_size : ℕ) (heap xs ps old : List ℕ) (start t : Tally) (gs : List ℕ) (i : ℕ) → ((k : ℕ) → i ≤ k → get_or ps k 0 ≡ 0)
    → Along target slot_size heap xs ps old start t gs i
    → (t ≡ tally_from target slot_size (placed_ops heap xs ps) start) × (gs ≡ pieces_along target slot_size heap xs ps old start)
unfolding tally_from
along-end target slot_size heap xs ps old start t gs i z along =
    let none : (k : ℕ) → get_or (drop i ps) k 0 ≡ 0 = λ k. get_or-drop i ps k 0 ∙ z (i + k) (omega arith) in (
      sym (ap (λ (ops : List Op). tally_from target slot_size ops t) (placed-none heap (drop i xs) (drop i ps) none)) ∙ along.tallied,
      sym (take-append-drop i gs) ∙ ap (λ (rest : List ℕ). take i gs ++ rest) (sym (pieces_none target slot_size heap (drop i xs) (drop i ps) (drop i gs) t none)) ∙ along.numbered,
    )
