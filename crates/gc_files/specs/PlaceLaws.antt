-- A group's operations by their places: turns of the loops over them, and which of them are in which file.
use Rattle.std.specs.Prelude.{◌≡◌, refl, ◌⊎◌, ◌≤◌, ◌<◌, ◌∷◌, ◌++◌, ◌+◌, ◌^◌, Some}
use Rattle.std.proofs.Common.{sym, ap, ◌∙◌, append_assoc, inl, inr, arith, eq-eqb, ne_eqb, take-suc-set}
use Rattle.std.proofs.Math.Path.{ap₂}
use Rattle.std.proofs.Math.Numerals.{add-one}
use Rattle.std.proofs.Math.Seq.{drop-set-lt}
use Rattle.std.proofs.lemmas.List.{set-get_or}
use Rattle.numbers.specs.Parts.{put_at, put_step, put-none}
use Rattle.rules.specs.Base.{Bool, true, false, List, [], ℕ, length, get_or, set, take, drop, eqb, pick, suc}
use Rattle.rules.proofs.TurnLaws.{left-next}
use Rattle.rules.specs.Table.{loaded_of}
use Rattle.rules.specs.Ops.{put, delete, Op, size_of, shard_for}
use Rattle.gc_split.specs.Tally.{Tally, taking, tally_from, piece_in, pieces_from, in_piece}
use Rattle.disk_location.specs.Locations.{shard_of}
use Rattle.rules.proofs.BaseLaws.{same?, zero-or-more}
use Rattle.rules.specs.Layout.{used_entries}
use Rattle.batch.specs.declared.Operation.{Operation}
use Rattle.batch.specs.ReadingLaws.{piece-length}
use Rattle.batch.specs.Sizes.{size_in}
use Rattle.batch.specs.SizeLaws.{size_is, size-bound}
use Rattle.gc_files.specs.Places.{length_at, moving_at, Whole, OfUsed, place_for, places_for, op_at, placed_ops, filed_ops, entry_taken, entry_piece, pieces_along}

-- ---- a turn over all entries, and the end
module _ (target slot_size : ℕ) (heap xs ps : List ℕ) (i : ℕ) where
  pub along-tally : i < length xs → i < length ps → (t : Tally)
      → tally_from target slot_size (placed_ops heap (drop i xs) (drop i ps)) t
      ≡ tally_from target slot_size (placed_ops heap (drop (i + 1) xs) (drop (i + 1) ps)) (entry_taken target slot_size heap (get_or xs i 0) (get_or ps i 0) t)
  unfolding placed_ops entry_taken tally_from
  along-tally h g t = rw (left-next xs i 0 h, left-next ps i 0 g) (go (eqb (get_or ps i 0) 0))
    where
      op : Op
      op = op_at heap (get_or xs i 0) (get_or ps i 0)

      rest : List Op
      rest = placed_ops heap (drop (i + 1) xs) (drop (i + 1) ps)

      go : (b : Bool) → tally_from target slot_size (pick b rest (op ∷ rest)) t
          ≡ tally_from target slot_size rest (pick b t (taking target slot_size (shard_for op.content) (size_of op.content) t))
      go true = refl
      go false = refl

  pub along-pieces : i < length xs → i < length ps → (gs : List ℕ) → i < length gs → (t : Tally)
      → take i gs ++ pieces_along target slot_size heap (drop i xs) (drop i ps) (drop i gs) t
      ≡ take (i + 1) (set gs i (entry_piece target slot_size heap (get_or xs i 0) (get_or ps i 0) (get_or gs i 0) t))
      ++ pieces_along target slot_size heap (drop (i + 1) xs) (drop (i + 1) ps) (drop (i + 1) (set gs i (entry_piece target slot_size heap (get_or xs i 0) (get_or ps i 0) (get_or gs i 0) t)))
      (entry_taken target slot_size heap (get_or xs i 0) (get_or ps i 0) t)
  unfolding pieces_along
  along-pieces h g gs k t =
      let v = entry_piece target slot_size heap (get_or xs i 0) (get_or ps i 0) (get_or gs i 0) t in
      let next = entry_taken target slot_size heap (get_or xs i 0) (get_or ps i 0) t in
      let first : take (i + 1) (set gs i v) ≡ take i gs ++ (v ∷ []) = rw add-one (take-suc-set gs i v k) in
      let rest : drop (i + 1) (set gs i v) ≡ drop (i + 1) gs = drop-set-lt (i + 1) gs i v (omega arith) in
      rw (first, rest, left-next xs i 0 h, left-next ps i 0 g, left-next gs i 0 k)
      (sym (append_assoc (take i gs) (v ∷ []) (pieces_along target slot_size heap (drop (i + 1) xs) (drop (i + 1) ps) (drop (i + 1) gs) next)))

-- behind the used entries none is moved, or marked
pub none-behind : (table places : List ℕ) → OfUsed table places → (k : ℕ) → length (used_entries table) ≤ k → get_or places k 0 ≡ 0
none-behind table places u k h = go (zero-or-more (get_or places k 0))
  where
    go : (get_or places k 0 ≡ 0) ⊎ (0 < get_or places k 0) → get_or places k 0 ≡ 0
    go (inl z) = z
    go (inr some) = absurd (omega (arith, u k some))

-- entries of which none is moved
pub placed-none : (heap xs ps : List ℕ) → ((k : ℕ) → get_or ps k 0 ≡ 0) → placed_ops heap xs ps ≡ []
unfolding placed_ops
placed-none heap [] ps z = refl
placed-none heap (x ∷ xs) [] z = refl
placed-none heap (x ∷ xs) (p ∷ ps) z = rw (eq-eqb p 0 (z 0)) (placed-none heap xs ps (λ k. z (suc k)))

pub pieces_none : (target slot_size : ℕ) (heap xs ps gs : List ℕ) (t : Tally) → ((k : ℕ) → get_or ps k 0 ≡ 0) → pieces_along target slot_size heap xs ps gs t ≡ gs
unfolding pieces_along entry_piece entry_taken
pieces_none target slot_size heap [] ps gs t z = refl
pieces_none target slot_size heap (x ∷ xs) [] gs t z = refl
pieces_none target slot_size heap (x ∷ xs) (p ∷ ps) [] t z = refl
pieces_none target slot_size heap (x ∷ xs) (p ∷ ps) (g ∷ gs) t z =
    rw (eq-eqb p 0 (z 0)) (ap (λ (rest : List ℕ). g ∷ rest) (pieces_none target slot_size heap xs ps gs t (λ k. z (suc k))))

-- each entry has its piece
pub along-length : (target slot_size : ℕ) (heap xs ps gs : List ℕ) (t : Tally) → length (pieces_along target slot_size heap xs ps gs t) ≡ length gs
unfolding pieces_along
along-length target slot_size heap [] ps gs t = refl
along-length target slot_size heap (x ∷ xs) [] gs t = refl
along-length target slot_size heap (x ∷ xs) (p ∷ ps) [] t = refl
along-length target slot_size heap (x ∷ xs) (p ∷ ps) (g ∷ gs) t = ap suc (along-length target slot_size heap xs ps gs (entry_taken target slot_size heap x p t))

-- ---- the operations with one number are those of one piece
pub filed-piece : (target slot_size piece : ℕ) (heap xs ps gs : List ℕ) (t : Tally) → length xs ≤ length gs
    → filed_ops piece heap xs ps (pieces_along target slot_size heap xs ps gs t)
    ≡ in_piece piece (pieces_from target slot_size (placed_ops heap xs ps) t) (placed_ops heap xs ps)
unfolding filed_ops pieces_along placed_ops pieces_from in_piece entry_piece entry_taken
filed-piece target slot_size piece heap [] ps gs t h = refl
filed-piece target slot_size piece heap (x ∷ xs) [] gs t h = refl
filed-piece target slot_size piece heap (x ∷ xs) (p ∷ ps) [] t h = absurd (omega arith)
filed-piece target slot_size piece heap (x ∷ xs) (p ∷ ps) (g ∷ gs) t h = go (eqb p 0) (λ u. filed-piece target slot_size piece heap xs ps gs u (omega arith))
  where
    op : Op
    op = op_at heap x p

    joined : Tally
    joined = taking target slot_size (shard_for op.content) (size_of op.content) t

    ops : List Op
    ops = placed_ops heap xs ps

    left : Tally → List Op
    left u = filed_ops piece heap xs ps (pieces_along target slot_size heap xs ps gs u)

    go : (b : Bool) → ((u : Tally) → left u ≡ in_piece piece (pieces_from target slot_size ops u) ops)
        → pick b (left (pick b t joined))
        (pick (eqb (pick b g (piece_in (shard_for op.content) (pick b t joined))) piece) (op ∷ left (pick b t joined)) (left (pick b t joined)))
        ≡ in_piece piece (pieces_from target slot_size (pick b ops (op ∷ ops)) t) (pick b ops (op ∷ ops))
    go true ih = ih t
    go false ih = rw (ih joined) refl

-- ---- what the numbers of a placed operation tell
pub record MovingTold (heap : List ℕ) (id place : ℕ) : Type 0 where
  pub inside : (moving_at heap id place).start + (moving_at heap id place).len ≤ length heap
  pub short : (moving_at heap id place).len < 2 ^ 20
  pub shard : shard_for (op_at heap id place).content ≡ pick (moving_at heap id place).delete 0 (shard_of (moving_at heap id place).len)
  pub size : size_of (op_at heap id place).content ≡ size_in (moving_at heap id place)

moving-inside : (heap : List ℕ) (id place : ℕ) → 0 < place → (1 < place → Whole heap place)
    → ((moving_at heap id place).start + (moving_at heap id place).len ≤ length heap) × ((moving_at heap id place).len < 2 ^ 20)
unfolding moving_at
moving-inside heap id place some whole = go (same? place 1)
  where
    at : Bool → Operation
    at b = pick b (record { id = id; delete = true; start = 0; len = 0 }) (record { id = id; delete = false; start = place + 20; len = length_at heap place })

    go : (place ≡ 1) ⊎ (place ≡ 1 → ⊥) → ((at (eqb place 1)).start + (at (eqb place 1)).len ≤ length heap) × ((at (eqb place 1)).len < 2 ^ 20)
    go (inl e) = rw (eq-eqb place 1 e) (omega arith, omega arith)
    go (inr d) =
        let w = whole (omega (arith, d)) in
        rw (ne_eqb place 1 d) (omega (arith, w.inside), w.short)

pub moving-told : (heap : List ℕ) (id place : ℕ) → 0 < place → (1 < place → Whole heap place) → MovingTold heap id place
moving-told heap id place some whole =
    let o = moving_at heap id place in
    let w = moving-inside heap id place some whole in
    record { inside = w.0; short = w.1; shard = go o.delete (piece-length heap o.start o.len w.0); size = size_is heap o w.0 }
  where
    body : List ℕ
    body = take (moving_at heap id place).len (drop (moving_at heap id place).start heap)

    go : (d : Bool) → length body ≡ (moving_at heap id place).len → shard_for (pick d delete (put body)) ≡ pick d 0 (shard_of (moving_at heap id place).len)
    go true e = refl
    go false e = ap shard_of e

-- the shard and the size that were found of the operation at a place
pub record Measured (heap : List ℕ) (id place n z : ℕ) : Type 0 where
  pub shard : n ≡ shard_for (op_at heap id place).content
  pub size : z ≡ size_of (op_at heap id place).content
  pub most : z ≤ 2 ^ 21

pub measured : (heap : List ℕ) (id place : ℕ) → (place ≡ 0 → ⊥) → (1 < place → Whole heap place) → {o : Operation} {n z : ℕ} → o ≡ moving_at heap id place
    → n ≡ pick o.delete 0 (shard_of o.len) → z ≡ size_in o → Measured heap id place n z
measured heap id place moved whole is shard size =
    let some : 0 < place = omega (arith, moved) in
    let told = moving-told heap id place some whole in
    let long = rw is at size in record {
      shard = rw is at shard ∙ sym told.shard;
      size = long ∙ sym told.size;
      most = omega (arith, long, size-bound (moving_at heap id place), told.short);
    }

-- ---- a turn over the entries that are placed, and the end
module _ (size : ℕ) (lsns ls ms : List ℕ) (i : ℕ) where
  pub places-next : i < length ls → i < length ms
      → places_for size lsns (drop i ls) (drop i ms) ≡ place_for size lsns (loaded_of (Some (get_or ls i 0))) (get_or ms i 0) ∷ places_for size lsns (drop (i + 1) ls) (drop (i + 1) ms)
  unfolding places_for
  places-next h g = ap₂ (places_for size lsns) (left-next ls i 0 h) (left-next ms i 0 g)

-- where none is marked, places that are none stay so
pub places-none : (size : ℕ) (lsns ls ms s : List ℕ) (i : ℕ) → ((k : ℕ) → get_or ms k 0 ≡ 0) → ((k : ℕ) → i ≤ k → get_or s k 0 ≡ 0) → i + length ls ≤ length s
    → put_at s i (places_for size lsns ls ms) ≡ s
unfolding places_for place_for
places-none size lsns [] ms s i m p h = put-none s i
places-none size lsns (l ∷ ls) [] s i m p h = put-none s i
places-none size lsns (l ∷ ls) (n ∷ ms) s i m p h =
    let same : set s i 0 ≡ s = ap (set s i) (sym (p i (omega arith))) ∙ set-get_or s i 0 in
    rw (eq-eqb n 0 (m 0))
    (sym (put_step s i 0 (places_for size lsns ls ms) (omega arith))
    ∙ ap (λ (r : List ℕ). put_at r (i + 1) (places_for size lsns ls ms)) same
    ∙ places-none size lsns ls ms s (i + 1) (λ k. m (suc k)) (λ k q. p k (omega arith)) (omega arith))
