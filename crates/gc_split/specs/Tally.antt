-- The split by sizes alone: each shard's size and entries, how often it was cut off, and what the files come to. No operation is held.
use Rattle.std.specs.Prelude.{◌≡◌, ◌≤◌, ◌||◌, ◌∷◌, ◌++◌, ◌+◌, ◌*◌, ◌^◌}
use Rattle.rules.specs.Base.{false, List, [], ℕ, suc, length, get_or, set, replicate, take, drop, ltb, eqb, pick, any, sum}
use Rattle.rules.specs.Ops.{Op, size_of, shard_for, objects_of, file_bytes}
use Rattle.gc_split.specs.declared.Totals.{Totals}

-- where a split stands
pub record Tally : Type 0 where
  -- each shard's size
  pub sizes : List ℕ
  -- each shard's entries
  pub counts : List ℕ
  -- how often each shard was cut off
  pub rounds : List ℕ
  -- the fragments' numbers, as cut, as far as there are places
  pub cuts : List ℕ
  -- the entries so far, and the fragments' totals
  pub totals : Totals

-- the code lends one list for the shards: their sizes, behind these their entries, behind these how often each was cut off
abbrev pub sizes_in : List ℕ → List ℕ
sizes_in shards = take 65 shards

abbrev pub counts_in : List ℕ → List ℕ
counts_in shards = take 65 (drop 65 shards)

abbrev pub rounds_in : List ℕ → List ℕ
rounds_in shards = drop 130 shards

-- by what the code lends
abbrev pub tally : List ℕ → List ℕ → Totals → Tally
tally shards cuts totals = record { sizes = sizes_in shards; counts = counts_in shards; rounds = rounds_in shards; cuts = cuts; totals = totals }

-- ---- entry by entry
-- the number of what is in shard n after so many cuts
abbrev pub piece_no : ℕ → ℕ → ℕ
piece_no n round = 65 * round + n

-- a file more, of that many object bytes and entries: "64 + file_size > S", "sum of (T + 1)"
unfoldable pub closing : ℕ → ℕ → ℕ → Totals → Totals
closing slot_size size count t = record {
  entries = t.entries;
  files = t.files + 1;
  positions = t.positions + (size + 1);
  large = t.large || ltb slot_size (64 + (size + (12 + 16 * count)));
}

-- "a shard of size over target_file_size is cut off as a fragment and restarts at 0"
unfoldable pub cutting : ℕ → ℕ → ℕ → Tally → Tally
cutting target slot_size n t =
    pick (ltb target (get_or t.sizes n 0))
    (record {
      sizes = set t.sizes n 0;
      counts = set t.counts n 0;
      rounds = set t.rounds n (get_or t.rounds n 0 + 1);
      cuts = set t.cuts t.totals.files (piece_no n (get_or t.rounds n 0));
      totals = closing slot_size (get_or t.sizes n 0) (get_or t.counts n 0) t.totals;
    })
    t

-- an entry of that size joins shard n
unfoldable pub entering : ℕ → ℕ → Tally → Tally
entering n size t = record {
  sizes = set t.sizes n (get_or t.sizes n 0 + size);
  counts = set t.counts n (get_or t.counts n 0 + 1);
  rounds = t.rounds;
  cuts = t.cuts;
  totals = record { entries = t.totals.entries + 1; files = t.totals.files; positions = t.totals.positions; large = t.totals.large };
}

-- "Before an entry joins it", the shard is cut off or not
unfoldable pub taking : ℕ → ℕ → ℕ → ℕ → Tally → Tally
taking target slot_size n size t = entering n size (cutting target slot_size n t)

-- operation by operation
unfoldable pub tally_from : ℕ → ℕ → List Op → Tally → Tally
tally_from target slot_size [] t = t
tally_from target slot_size (o ∷ os) t = tally_from target slot_size os (taking target slot_size (shard_for o.content) (size_of o.content) t)

-- before the first entry, with places for 256 fragments
abbrev pub no_totals : Totals
no_totals = record { entries = 0; files = 0; positions = 0; large = false }

abbrev pub empty_tally : Tally
empty_tally = record { sizes = replicate 65 0; counts = replicate 65 0; rounds = replicate 65 0; cuts = replicate 256 0; totals = no_totals }

-- behind the last
unfoldable pub tally_of : ℕ → ℕ → List Op → Tally
tally_of target slot_size ops = tally_from target slot_size ops empty_tally

-- ---- the files that come out
-- the totals with what is left of each shard, by its entries and size: "The writer never writes an empty list."
unfoldable pub closing_rests : ℕ → List ℕ → List ℕ → Totals → Totals
closing_rests slot_size [] zs t = t
closing_rests slot_size (c ∷ cs) [] t = t
closing_rests slot_size (c ∷ cs) (z ∷ zs) t = closing_rests slot_size cs zs (pick (eqb c 0) t (closing slot_size z c t))

-- what is left of a shard, if anything
unfoldable pub rest_of : ℕ → ℕ → List ℕ
rest_of count piece = pick (eqb count 0) [] (piece ∷ [])

-- the numbers of what is left of the shards from n on, by their entries and rounds: "by ascending shard"
unfoldable pub rests_from : ℕ → List ℕ → List ℕ → List ℕ
rests_from n [] rs = []
rests_from n (c ∷ cs) [] = []
rests_from n (c ∷ cs) (r ∷ rs) = rest_of c (piece_no n r) ++ rests_from (suc n) cs rs

-- the files' numbers in order: ".. then fragments as cut"
unfoldable pub order_of : Tally → List ℕ
order_of t = rests_from 0 t.counts t.rounds ++ take t.totals.files t.cuts

-- all files' totals
unfoldable pub closed_of : ℕ → Tally → Totals
closed_of slot_size t = closing_rests slot_size t.counts t.sizes t.totals

-- what they are totals of
unfoldable pub totals_for : ℕ → ℕ → List (List Op) → Totals
totals_for slot_size entries files = record {
  entries = entries;
  files = length files;
  positions = sum (λ (f : List Op). length (objects_of f) + 1) files;
  large = any (λ (f : List Op). ltb slot_size (64 + length (file_bytes f))) files;
}

-- ---- which operation is in which file
-- the number of the piece that an entry of shard n is in, right after it joined
abbrev pub piece_in : ℕ → Tally → ℕ
piece_in n t = piece_no n (get_or t.rounds n 0)

-- of each operation
unfoldable pub pieces_from : ℕ → ℕ → List Op → Tally → List ℕ
pieces_from target slot_size [] t = []
pieces_from target slot_size (o ∷ os) t =
    let joined = taking target slot_size (shard_for o.content) (size_of o.content) t in
    piece_in (shard_for o.content) joined ∷ pieces_from target slot_size os joined

-- from the start
unfoldable pub pieces_of : ℕ → ℕ → List Op → List ℕ
pieces_of target slot_size ops = pieces_from target slot_size ops empty_tally

-- the operations of one piece, in order
unfoldable pub in_piece : ℕ → List ℕ → List Op → List Op
in_piece piece [] os = []
in_piece piece (p ∷ ps) [] = []
in_piece piece (p ∷ ps) (o ∷ os) = pick (eqb p piece) (o ∷ in_piece piece ps os) (in_piece piece ps os)

-- ---- bounds
-- 65 shards, and entries of at most 2^21 bytes each, not over 65,536 of them: every number stays far below 2^64
pub record Within (t : Tally) : Type 0 where
  pub size_shards : length t.sizes ≡ 65
  pub count_shards : length t.counts ≡ 65
  pub round_shards : length t.rounds ≡ 65
  pub sizes : (n : ℕ) → get_or t.sizes n 0 ≤ t.totals.entries * 2 ^ 21
  pub counts : (n : ℕ) → get_or t.counts n 0 ≤ t.totals.entries
  pub rounds : (n : ℕ) → get_or t.rounds n 0 ≤ t.totals.entries
  pub files : t.totals.files ≤ t.totals.entries
  pub positions : t.totals.positions ≤ t.totals.entries * 2 ^ 38
  pub entries : t.totals.entries ≤ 65536

-- so what is left, by entries cs and sizes zs, can be closed
pub record Closable (cs zs : List ℕ) (t : Totals) : Type 0 where
  pub shards : length cs ≡ 65
  pub same : length zs ≡ 65
  pub sizes : (n : ℕ) → get_or zs n 0 ≤ 2 ^ 40
  pub counts : (n : ℕ) → get_or cs n 0 ≤ 65536
  pub files : t.files ≤ 65536
  pub positions : t.positions ≤ 2 ^ 55

-- and, by rounds rs, numbered
pub record Numbered (cs rs places : List ℕ) : Type 0 where
  pub shards : length cs ≡ 65
  pub same : length rs ≡ 65
  pub room : length places ≡ 65
  pub rounds : (n : ℕ) → get_or rs n 0 ≤ 65536
