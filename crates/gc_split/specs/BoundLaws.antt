-- A tally's numbers stay far below 2^64.
use Rattle.std.specs.Prelude.{◌≡◌, ◌≤◌, ◌+◌, ◌*◌, ◌^◌}
use Rattle.rules.specs.Base.{ℕ, length, get_or}
use Rattle.gc_split.specs.Tally.{Tally}

-- right after a cut, k entries so far
pub record Cut (k : ℕ) (t : Tally) : Type 0 where
  pub size_shards : length t.sizes ≡ 65
  pub count_shards : length t.counts ≡ 65
  pub round_shards : length t.rounds ≡ 65
  pub sizes : (n : ℕ) → get_or t.sizes n 0 ≤ k * 2 ^ 21
  pub counts : (n : ℕ) → get_or t.counts n 0 ≤ k
  pub rounds : (n : ℕ) → get_or t.rounds n 0 ≤ k + 1
  pub files : t.totals.files ≤ k + 1
  pub positions : t.totals.positions ≤ (k + 1) * 2 ^ 38
  pub entries : t.totals.entries ≡ k
