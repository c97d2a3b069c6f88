-- A file that comes out is the operations of one piece, in order.
use Rattle.std.specs.Prelude.{◌≡◌, ◌<◌, ◌∷◌, ◌++◌, ◌+◌, ◌/◌, ◌%◌}
use Rattle.rules.specs.Base.{List, [], map, ℕ, length, get_or, set, take}
use Rattle.rules.specs.BaseLaws.{All}
use Rattle.rules.specs.Ops.{Op}
use Rattle.rules.specs.Maintenance.{no_entries, Split}
use Rattle.gc_split.specs.Distinct.{Distinct}
use Rattle.gc_split.specs.Tally.{Tally, piece_no, closing, piece_in}

-- the split's shards and fragments are pieces: those of the present rounds, and those that were cut
pub record Pieces (has : ℕ → List Op) (s : Split) (t : Tally) : Type 0 where
  pub shards : (n : ℕ) → n < 65 → (get_or s.shards n no_entries).ops ≡ has (piece_in n t)
  pub fragments : s.fragments ≡ map has (take t.totals.files t.cuts)
  pub fresh : (q : ℕ) → get_or t.rounds (q % 65) 0 < q / 65 → has q ≡ []
  pub past : All (λ (q : ℕ). q / 65 < get_or t.rounds (q % 65) 0) (take t.totals.files t.cuts)
  pub distinct : Distinct (take t.totals.files t.cuts)
  pub long : (length s.shards ≡ 65) × (length t.rounds ≡ 65)

-- what a cut makes of a split, and of its tally
abbrev pub cut_split : ℕ → Split → Split
cut_split n s = record { shards = set s.shards n no_entries; fragments = s.fragments ++ ((get_or s.shards n no_entries).ops ∷ []) }

abbrev pub cut_tally : ℕ → ℕ → Tally → Tally
cut_tally slot_size n t = record {
  sizes = set t.sizes n 0;
  counts = set t.counts n 0;
  rounds = set t.rounds n (get_or t.rounds n 0 + 1);
  cuts = set t.cuts t.totals.files (piece_no n (get_or t.rounds n 0));
  totals = closing slot_size (get_or t.sizes n 0) (get_or t.counts n 0) t.totals;
}
