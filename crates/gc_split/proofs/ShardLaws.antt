-- The one list of the shards: what a store into a shard's size, entries or rounds leaves.
use Rattle.std.specs.Prelude.{◌≡◌, refl, ◌≤◌, ◌<◌, ◌+◌}
use Rattle.std.proofs.Common.{ap, ◌∙◌, arith, length-drop, length-take, take_all, get_or-take, get_or-drop, drop-set-lt}
use Rattle.std.proofs.Math.Nat.{min-le_right}
use Rattle.std.proofs.lemmas.List.{take-set-le, drop-set-add}
use Rattle.std.proofs.Math.Seq.{take-set-lt}
use Rattle.rules.specs.Base.{List, ℕ, length, get_or, set, take, drop}
use Rattle.gc_split.specs.declared.Totals.{Totals}
use Rattle.gc_split.specs.Tally.{sizes_in, counts_in, rounds_in, tally}

-- with rounds of 65 shards it is 195 long
pub shards-long : (s : List ℕ) → length (rounds_in s) ≡ 65 → length s ≡ 195
shards-long s h = omega (arith, h, length-drop 130 s)

-- the rounds are its last 65
pub all-rounds : (s : List ℕ) → length (rounds_in s) ≡ 65 → take 65 (drop 130 s) ≡ rounds_in s
all-rounds s h = take_all 65 (drop 130 s) (omega (arith, h))

-- with entries of 65 shards 130 long at least
pub counts-long : (s : List ℕ) → length (counts_in s) ≡ 65 → 130 ≤ length s
counts-long s h = omega (arith, h, length-take 65 (drop 65 s), min-le_right 65 (length (drop 65 s)), length-drop 65 s)

module _ (s : List ℕ) (n : ℕ) (h : n < 65) where
  -- where a shard's numbers stand
  pub size-at : get_or (sizes_in s) n 0 ≡ get_or s n 0
  size-at = get_or-take 65 s n 0 h

  pub count_at : get_or (counts_in s) n 0 ≡ get_or s (65 + n) 0
  count_at = get_or-take 65 (drop 65 s) n 0 h ∙ get_or-drop 65 s n 0

  pub round-at : get_or (rounds_in s) n 0 ≡ get_or s (130 + n) 0
  round-at = get_or-drop 130 s n 0

  module _ (x : ℕ) where
    -- its size stored
    pub size-put : (sizes_in (set s n x) ≡ set (sizes_in s) n x) × (counts_in (set s n x) ≡ counts_in s) × (rounds_in (set s n x) ≡ rounds_in s)
    size-put = (take-set-lt 65 s n x h, ap (take 65) (drop-set-lt 65 s n x h), drop-set-lt 130 s n x (omega arith))

    -- its entries stored
    pub count-put : (sizes_in (set s (65 + n) x) ≡ sizes_in s) × (counts_in (set s (65 + n) x) ≡ set (counts_in s) n x) × (rounds_in (set s (65 + n) x) ≡ rounds_in s)
    count-put = (
      take-set-le 65 s (65 + n) x (omega arith),
      ap (take 65) (drop-set-add 65 s n x) ∙ take-set-lt 65 (drop 65 s) n x h,
      drop-set-lt 130 s (65 + n) x (omega arith),
    )

    -- its rounds stored
    pub round-put : (sizes_in (set s (130 + n) x) ≡ sizes_in s) × (counts_in (set s (130 + n) x) ≡ counts_in s) × (rounds_in (set s (130 + n) x) ≡ set (rounds_in s) n x)
    round-put =
        let far : 130 + n ≡ 65 + (65 + n) = omega arith in (
          take-set-le 65 s (130 + n) x (omega arith),
          ap (λ (k : ℕ). take 65 (drop 65 (set s k x))) far ∙ ap (take 65) (drop-set-add 65 s (65 + n) x) ∙ take-set-le 65 (drop 65 s) (65 + n) x (omega arith),
          drop-set-add 130 s n x,
        )

-- a shard that restarts at 0, cut off once more
pub restarted : (s : List ℕ) (n : ℕ) → n < 65 → (round : ℕ) (cuts : List ℕ) (t : Totals)
    → tally (set (set (set s n 0) (65 + n) 0) (130 + n) round) cuts t
    ≡ record { sizes = set (sizes_in s) n 0; counts = set (counts_in s) n 0; rounds = set (rounds_in s) n round; cuts = cuts; totals = t }
restarted s n h round cuts t =
    let a = size-put s n h 0 in
    let b = count-put (set s n 0) n h 0 in
    let c = round-put (set (set s n 0) (65 + n) 0) n h round in
    rw (c.0, c.1, c.2, b.0, b.1, b.2, a.0, a.1, a.2) refl

-- a shard that an entry joined
pub entered : (s : List ℕ) (n : ℕ) → n < 65 → (size : ℕ) → let after = set (set s n (get_or s n 0 + size)) (65 + n) (get_or s (65 + n) 0 + 1) in
    (sizes_in after ≡ set (sizes_in s) n (get_or (sizes_in s) n 0 + size))
    × (counts_in after ≡ set (counts_in s) n (get_or (counts_in s) n 0 + 1))
    × (rounds_in after ≡ rounds_in s)
entered s n h size =
    let one = set s n (get_or s n 0 + size) in
    let a = size-put s n h (get_or s n 0 + size) in
    let b = count-put one n h (get_or s (65 + n) 0 + 1) in
    rw (size-at s n h, count_at s n h) (b.0 ∙ a.0, b.1 ∙ ap (λ (l : List ℕ). set l n (get_or s (65 + n) 0 + 1)) a.1, b.2 ∙ a.2)
