-- A tally's numbers stay far below 2^64.
use Rattle.std.specs.Prelude.{◌≡◌, refl, ◌⊎◌, ◌≤◌, ◌<◌, ◌+◌, ◌*◌, ◌^◌}
use Rattle.std.proofs.Common.{◌∙◌, inl, inr, arith, length-set, get_or-set_same, get_or-set_other}
use Rattle.std.proofs.lemmas.List.{get_or-replicate, length-replicate}
use Rattle.std.proofs.Math.ListN.{get_or-eq_default}
use Rattle.std.proofs.Math.Seq.{set_out}
use Rattle.rules.specs.Base.{Bool, true, false, List, ℕ, length, get_or, set, replicate, ltb, pick}
use Rattle.rules.proofs.BaseLaws.{same?}
use Rattle.numbers.specs.GroupLaws.{either_way}
use Rattle.gc_split.specs.Tally.{Tally, closing, cutting, entering, taking, empty_tally, Within, Closable, Numbered}
use Rattle.gc_split.specs.BoundLaws.{Cut}

-- where one number is set, and it is not over the bound either
set_below : (xs : List ℕ) (n x m bound : ℕ) → x ≤ bound → get_or xs m 0 ≤ bound → get_or (set xs n x) m 0 ≤ bound
set_below xs n x m bound new old = go (same? m n) (either_way n (length xs))
  where
    go : (m ≡ n) ⊎ (m ≡ n → ⊥) → (n < length xs) ⊎ (length xs ≤ n) → get_or (set xs n x) m 0 ≤ bound
    go (inr d) h = rw (get_or-set_other xs n m x 0 d) old
    go (inl e) (inl h) = rw (e, get_or-set_same xs n x 0 h) new
    go (inl e) (inr h) = rw (set_out xs n x h) old

-- a cut
pub cut-within : (target slot_size n : ℕ) (t : Tally) → Within t → Cut t.totals.entries (cutting target slot_size n t)
unfolding cutting closing
cut-within target slot_size n t within = go (ltb target (get_or t.sizes n 0))
  where
    k : ℕ
    k = t.totals.entries

    cut : Tally
    cut = record {
      sizes = set t.sizes n 0;
      counts = set t.counts n 0;
      rounds = set t.rounds n (get_or t.rounds n 0 + 1);
      cuts = set t.cuts t.totals.files (65 * get_or t.rounds n 0 + n);
      totals = closing slot_size (get_or t.sizes n 0) (get_or t.counts n 0) t.totals;
    }

    go : (b : Bool) → Cut t.totals.entries (pick b cut t)
    go true = record {
      size_shards = length-set t.sizes n 0 ∙ within.size_shards;
      count_shards = length-set t.counts n 0 ∙ within.count_shards;
      round_shards = length-set t.rounds n (get_or t.rounds n 0 + 1) ∙ within.round_shards;
      sizes = λ m. set_below t.sizes n 0 m (k * 2 ^ 21) (omega arith) (within.sizes m);
      counts = λ m. set_below t.counts n 0 m k (omega arith) (within.counts m);
      rounds = λ m. set_below t.rounds n (get_or t.rounds n 0 + 1) m (k + 1) (omega (arith, within.rounds n)) (omega (arith, within.rounds m));
      files = omega (arith, within.files);
      positions = omega (arith, within.sizes n, within.positions, within.entries);
      entries = refl;
    }
    go false = record {
      size_shards = within.size_shards;
      count_shards = within.count_shards;
      round_shards = within.round_shards;
      sizes = within.sizes;
      counts = within.counts;
      rounds = λ m. omega (arith, within.rounds m);
      files = omega (arith, within.files);
      positions = omega (arith, within.positions);
      entries = refl;
    }

-- an entry joins
enter-within : (k n size : ℕ) (t : Tally) → Cut k t → k < 65536 → size ≤ 2 ^ 21 → Within (entering n size t)
unfolding entering
enter-within k n size t cut room short =
    let e = cut.entries in
    record {
      size_shards = length-set t.sizes n (get_or t.sizes n 0 + size) ∙ cut.size_shards;
      count_shards = length-set t.counts n (get_or t.counts n 0 + 1) ∙ cut.count_shards;
      round_shards = cut.round_shards;
      sizes = λ m. set_below t.sizes n (get_or t.sizes n 0 + size) m ((t.totals.entries + 1) * 2 ^ 21) (omega (arith, cut.sizes n)) (omega (arith, cut.sizes m));
      counts = λ m. set_below t.counts n (get_or t.counts n 0 + 1) m (t.totals.entries + 1) (omega (arith, cut.counts n)) (omega (arith, cut.counts m));
      rounds = λ m. omega (arith, cut.rounds m);
      files = omega (arith, cut.files);
      positions = omega (arith, cut.positions);
      entries = omega arith;
    }

-- cut off before or not
pub take_within : (target slot_size n size : ℕ) (t : Tally) → Within t → t.totals.entries < 65536 → size ≤ 2 ^ 21 → Within (taking target slot_size n size t)
unfolding taking
take_within target slot_size n size t within room short =
    enter-within t.totals.entries n size (cutting target slot_size n t) (cut-within target slot_size n t within) room short

-- before the first entry
none_below : (k n bound : ℕ) → get_or (replicate k 0) n 0 ≤ bound
none_below k n bound = go (either_way n k)
  where
    go : (n < k) ⊎ (k ≤ n) → get_or (replicate k 0) n 0 ≤ bound
    go (inl h) = rw (get_or-replicate {A = ℕ} k n 0 0 h) (omega arith)
    go (inr h) = rw (get_or-eq_default {A = ℕ} (replicate k 0) 0 {n = n} (omega (arith, length-replicate {A = ℕ} k 0))) (omega arith)

pub empty-within : Within empty_tally
empty-within = record {
  size_shards = length-replicate {A = ℕ} 65 0;
  count_shards = length-replicate {A = ℕ} 65 0;
  round_shards = length-replicate {A = ℕ} 65 0;
  sizes = λ n. none_below 65 n 0;
  counts = λ n. none_below 65 n 0;
  rounds = λ n. none_below 65 n 0;
  files = omega arith;
  positions = omega arith;
  entries = omega arith;
}

-- what is left can be closed and numbered
pub closable : (t : Tally) → Within t → Closable t.counts t.sizes t.totals
closable t within =
    let k = within.entries in
    record {
      shards = within.count_shards;
      same = within.size_shards;
      sizes = λ n. omega (arith, within.sizes n);
      counts = λ n. omega (arith, within.counts n);
      files = omega (arith, within.files);
      positions = omega (arith, within.positions);
    }

pub numbered : (t : Tally) (rests : List ℕ) → Within t → length rests ≡ 65 → Numbered t.counts t.rounds rests
numbered t rests within room =
    let k = within.entries in
    record { shards = within.count_shards; same = within.round_shards; room = room; rounds = λ n. omega (arith, within.rounds n) }
