-- The order of the files that come out, as the code has it: what is left of the shards in one list of places, fragments in another.
use Rattle.std.specs.Prelude.{◌≡◌, ◌≤◌, ◌∷◌}
use Rattle.std.proofs.Common.{sym, ap, ◌∙◌, arith}
use Rattle.std.proofs.lemmas.List.{length-map}
use Rattle.rules.specs.Base.{Bool, true, false, List, [], ℕ, length, eqb, pick}
use Rattle.rules.specs.Ops.{Op}
use Rattle.rules.specs.Maintenance.{files_of}
use Rattle.gc_split.specs.declared.Totals.{Totals}
use Rattle.gc_split.specs.Tally.{Tally, closing, tally_of, closing_rests, closed_of, totals_for, order_of, pieces_of, in_piece}
use Rattle.gc_split.proofs.TotalLaws.{split-totals}
use Rattle.gc_split.proofs.PieceLaws.{split-files}

-- the fragments are among the files
closing-files : (slot_size : ℕ) (cs zs : List ℕ) (t : Totals) → t.files ≤ (closing_rests slot_size cs zs t).files
unfolding closing_rests closing
closing-files slot_size [] zs t = omega arith
closing-files slot_size (c ∷ cs) [] t = omega arith
closing-files slot_size (c ∷ cs) (z ∷ zs) t = go (eqb c 0) (closing-files slot_size cs zs)
  where
    go : (b : Bool) → ((u : Totals) → u.files ≤ (closing_rests slot_size cs zs u).files)
        → t.files ≤ (closing_rests slot_size cs zs (pick b t (closing slot_size z c t))).files
    go true ih = ih t
    go false ih = omega (arith, ih (closing slot_size z c t))

pub fragments-among : (slot_size : ℕ) (t : Tally) → t.totals.files ≤ (closed_of slot_size t).files
unfolding closed_of
fragments-among slot_size t = closing-files slot_size t.counts t.sizes t.totals

-- as many files as were counted
pub files-counted : (target slot_size : ℕ) (ops : List Op) → length (files_of target ops) ≡ (closed_of slot_size (tally_of target slot_size ops)).files
unfolding totals_for
files-counted target slot_size ops = sym (ap (λ (t : Totals). t.files) (split-totals target slot_size ops))

-- and each has its place in the order
pub order-counted : (target slot_size : ℕ) (ops : List Op) → (closed_of slot_size (tally_of target slot_size ops)).files ≤ 256
    → length (order_of (tally_of target slot_size ops)) ≡ (closed_of slot_size (tally_of target slot_size ops)).files
order-counted target slot_size ops room =
    let few : (tally_of target slot_size ops).totals.files ≤ 256 = omega (arith, fragments-among slot_size (tally_of target slot_size ops)) in
    let order = order_of (tally_of target slot_size ops) in
    sym (length-map order (λ (q : ℕ). in_piece q (pieces_of target slot_size ops) ops))
    ∙ sym (ap length (split-files target slot_size ops few))
    ∙ files-counted target slot_size ops
