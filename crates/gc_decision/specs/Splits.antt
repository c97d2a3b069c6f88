-- A group's operations at their places, split into files: what the split left.
use Rattle.std.specs.Prelude.{◌≡◌, ◌≤◌}
use Rattle.std.proofs.Common.{sym, ◌∙◌, subst, arith}
use Rattle.std.proofs.Math.Path.{ap}
use Rattle.numbers.specs.Parts.{front}
use Rattle.rules.specs.Base.{List, map, ℕ, length, take}
use Rattle.rules.specs.declared.Settings.{Settings}
use Rattle.rules.specs.Ops.{Op}
use Rattle.rules.specs.Maintenance.{files_of}
use Rattle.gc_split.specs.declared.Totals.{Totals}
use Rattle.gc_split.specs.Tally.{Tally, tally_from, tally_of, empty_tally, closing_rests, closed_of, rests_from, order_of, Within, Closable, Numbered}
use Rattle.gc_split.proofs.BoundLaws.{closable, numbered}
use Rattle.gc_files.specs.Places.{placed_ops, filed_ops, pieces_along, Splitting}
use Rattle.gc_files.specs.FileLaws.{files-filed}
use Rattle.gc_decision.specs.Orders.{Tallied, placed-short, placed-count, tallied, order_in, order-read, at_most, at-most-all, in_order}

-- the files with these numbers, in order
abbrev pub files_in : List ℕ → List ℕ → List ℕ → List ℕ → List ℕ → List (List Op)
files_in heap ids places pieces order = map (λ (q : ℕ). filed_ops q heap ids places pieces) order

-- what they come to in all
abbrev pub split_totals : Settings → List ℕ → List ℕ → List ℕ → Totals
split_totals s heap ids places = closed_of s.slot_bytes (tally_of s.target_file_size s.slot_bytes (placed_ops heap ids places))

module _ (s : Settings) (heap ids places : List ℕ) where
  -- the operations
  abbrev ops : List Op
  ops = placed_ops heap ids places

  -- and their tally
  abbrev whole : Tally
  whole = tally_of s.target_file_size s.slot_bytes (placed_ops heap ids places)

  -- what the split left: each entry's piece, all files' totals, and their numbers in order, where there is room for them
  pub record SplitUp (pieces order : List ℕ) (total : Totals) : Type 0 where
    pub closed : total ≡ closed_of s.slot_bytes whole
    pub bounds : Tallied whole
    pub ordered : total.files ≤ 256 → take total.files order ≡ order_of whole
    pub files : whole.totals.files ≤ 256 → files_of s.target_file_size ops ≡ files_in heap ids places pieces (order_of whole)

  module _ (old : List ℕ) (w : Splitting heap ids places old 0) where
    -- their tally is within bounds
    split-tallied : Tallied whole
    split-tallied = tallied s.target_file_size s.slot_bytes ops (placed-short heap ids places w.standing) (omega (arith, placed-count heap ids places, w.room))

    module _ (lent : Tally) (e : lent ≡ tally_from s.target_file_size s.slot_bytes ops empty_tally) where
      -- what the code lends is that tally
      told : lent ≡ whole
      unfolding tally_of
      told = e

      -- what closing it asks for
      pub split-closable : Closable lent.counts lent.sizes lent.totals
      split-closable = closable lent (subst Within (sym told) split-tallied.within)

      -- what numbering its files asks for
      pub split-numbered : (rests : List ℕ) → length rests ≡ 65 → Numbered lent.counts lent.rounds rests
      split-numbered rests room = numbered lent rests (subst Within (sym told) split-tallied.within) room

      -- it has 256 places for fragments
      split-room : length lent.cuts ≡ 256
      split-room = ap (λ (u : Tally). length u.cuts) told ∙ split-tallied.room

      -- closed, and its files' numbers in order
      module _ (total : Totals) (closed : total ≡ closing_rests s.slot_bytes lent.counts lent.sizes lent.totals) where
        -- all files' totals
        totals-are : total ≡ closed_of s.slot_bytes whole
        unfolding closed_of
        totals-are = closed ∙ ap (λ (u : Tally). closing_rests s.slot_bytes u.counts u.sizes u.totals) told

        -- as many numbers as there are files
        orders-are : total.files ≤ 256 → order_in total.files (rests_from 0 lent.counts lent.rounds) lent.cuts ≡ order_of whole
        orders-are few =
            let all : total.files ≡ (closed_of s.slot_bytes whole).files = ap (λ (u : Totals). u.files) totals-are in
            ap (λ (k : ℕ). order_in k (rests_from 0 lent.counts lent.rounds) lent.cuts) all
            ∙ ap (λ (u : Tally). order_in (closed_of s.slot_bytes whole).files (rests_from 0 u.counts u.rounds) u.cuts) told
            ∙ in_order s.target_file_size s.slot_bytes ops split-tallied (omega (arith, few, all))

        -- what the split left
        pub split-up : (pieces numbers : List ℕ)
            → pieces ≡ pieces_along s.target_file_size s.slot_bytes heap ids places old empty_tally
            → numbers ≡ front (order_in (at_most total.files (length lent.cuts)) (rests_from 0 lent.counts lent.rounds) lent.cuts) lent.cuts
            → SplitUp pieces numbers total
        split-up pieces numbers p o = record {
          closed = totals-are;
          bounds = split-tallied;
          ordered = λ few.
              let room : total.files ≤ length lent.cuts = omega (arith, few, split-room) in
              let rests = rests_from 0 lent.counts lent.rounds in
              ap (take total.files) o
              ∙ ap (λ (n : ℕ). take total.files (front (order_in n rests lent.cuts) lent.cuts)) (at-most-all total.files (length lent.cuts) room)
              ∙ order-read total.files rests lent.cuts room
              ∙ orders-are few;
          files = λ room.
              files-filed s.target_file_size s.slot_bytes heap ids places old w.pieces room
              ∙ ap (λ (gs : List ℕ). files_in heap ids places gs (order_of whole)) (sym p);
        }
