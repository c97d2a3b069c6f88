-- What the writers of a piece ask for.
use Rattle.std.specs.Prelude.{◌≡◌, ◌⊎◌, ◌≤◌, ◌<◌, ◌++◌, ◌+◌, ◌-◌, ◌*◌, ◌^◌}
use Rattle.std.proofs.Common.{ap, ◌∙◌, true≢false, inl, inr, arith, eq-eqb, ne_eqb, length-append}
use Rattle.numbers.specs.LittleEndian.{le_bytes, le-length}
use Rattle.rules.specs.Base.{true, false, List, ℕ, length, get_or, take, drop, eqb, pick}
use Rattle.rules.proofs.BaseLaws.{same?}
use Rattle.rules.specs.Object.{object_bytes}
use Rattle.rules.specs.Ops.{objects_of, file_bytes}
use Rattle.rules.proofs.OpsLaws.{file-length}
use Rattle.rules.specs.Stores.{stores_of}
use Rattle.stores.specs.Runs.{Made}
use Rattle.batch.specs.declared.Operation.{Operation}
use Rattle.batch.specs.Sizes.{size_in}
use Rattle.gc_files.specs.Places.{length_at, moving_at, Whole, Stands, AllStand}
use Rattle.gc_chains.specs.Chains.{chain_ops, Leads, Chained}
use Rattle.gc_writer.specs.Elsewhere.{Elsewhere, Off, Apart, apart-elsewhere, all-stand-elsewhere, made-elsewhere, among-stores, chain-elsewhere}
use Rattle.gc_writer.specs.Walk.{Walking, Turned}

-- n bytes of the heap from `at` on, off every object that is moved; the bytes of each are its own
pub record Free (at n : ℕ) (heap ids places links : List ℕ) : Type 0 where
  pub wide : length ids ≤ length places
  pub linked : length ids ≤ length links
  pub chained : Chained (length ids) places links
  pub apart : Apart at n heap places
  pub stand : AllStand heap ids places
  pub inside : at + n ≤ length heap

-- the slot of a piece: its file and its label fit, and no object that is moved lies in it; the bytes of each are its own
pub record Writing (start size : ℕ) (heap ids places links : List ℕ) (first count total : ℕ) : Type 0 where
  pub wide : length ids ≤ length places
  pub linked : length ids ≤ length links
  pub chained : Chained (length ids) places links
  pub apart : Apart start size heap places
  pub stand : AllStand heap ids places
  pub leads : Leads (length ids) places 0 first
  pub entries : count ≡ length (chain_ops first heap ids places links)
  pub objects : total ≡ length (objects_of (chain_ops first heap ids places links))
  pub inside : start + size ≤ length heap
  pub room : 64 + length (file_bytes (chain_ops first heap ids places links)) ≤ size
  pub small : size ≤ 2 ^ 20

-- ---- the bytes are free still
module _ {at n : ℕ} {heap ids places links : List ℕ} (free : Free at n heap ids places links) where
  pub free-walking : Walking heap ids places links
  free-walking = record { wide = free.wide; linked = free.linked; chained = free.chained; standing = λ i h. (free.apart i h).0 }

  -- after stores among them
  pub free-elsewhere : {after : List ℕ} → Elsewhere at n heap after → Free at n after ids places links
  free-elsewhere e = record {
    wide = free.wide;
    linked = free.linked;
    chained = free.chained;
    apart = apart-elsewhere e places free.apart;
    stand = all-stand-elsewhere e ids places free.apart free.stand;
    inside = omega (arith, e.long, free.inside);
  }

  -- and a part of them is
  pub free_part : (to m : ℕ) → at ≤ to → to + m ≤ at + n → Free to m heap ids places links
  free_part to m low high = record {
    wide = free.wide;
    linked = free.linked;
    chained = free.chained;
    apart = λ i h. ((free.apart i h).0, go i (free.apart i h).1);
    stand = free.stand;
    inside = omega (arith, free.inside);
  }
    where
      go : (i : ℕ) → Off at n heap (get_or places i 0) → Off to m heap (get_or places i 0)
      go i (inl h) = inl (omega arith)
      go i (inr h) = inr (omega arith)

  -- stores among them leave the bytes free, and the operations that are left
  pub free-put : (to : ℕ) (bytes : List ℕ) {k left : ℕ} {after : List ℕ} → at ≤ to → to + length bytes ≤ at + n → Made k (stores_of to bytes) heap after left
      → Free at n after ids places links × ((first : ℕ) → chain_ops first after ids places links ≡ chain_ops first heap ids places links)
  free-put to bytes low high put =
      let away = made-elsewhere at n (among-stores at n to bytes low high) put in (
        free-elsewhere away,
        λ first. chain-elsewhere away first ids places links free.apart,
      )

-- an object goes to free bytes, off its body
moving-off : (at n : ℕ) (heap : List ℕ) (id place to : ℕ) → 0 < place → (1 < place → Whole heap place × Off at n heap place)
    → at ≤ to → to + size_in (moving_at heap id place) ≤ at + n
    → (to + size_in (moving_at heap id place) ≤ (moving_at heap id place).start) ⊎ ((moving_at heap id place).start + (moving_at heap id place).len ≤ to)
unfolding moving_at
moving-off at n heap id place to some apart low high = go (same? place 1) high
  where
    o : Operation
    o = pick (eqb place 1) (record { id = id; delete = true; start = 0; len = 0 }) (record { id = id; delete = false; start = place + 20; len = length_at heap place })

    off : Off at n heap place → to + (20 + length_at heap place) ≤ at + n → (to + (20 + length_at heap place) ≤ place + 20) ⊎ (place + 20 + length_at heap place ≤ to)
    off (inl h) fit = inr (omega arith)
    off (inr h) fit = inl (omega arith)

    go : (place ≡ 1) ⊎ (place ≡ 1 → ⊥) → to + size_in o ≤ at + n → (to + size_in o ≤ o.start) ⊎ (o.start + o.len ≤ to)
    go (inl one) fit = rw (eq-eqb place 1 one) (inr (omega arith))
    go (inr other) fit = let there = rw (ne_eqb place 1 other) at fit in rw (ne_eqb place 1 other) (off (apart (omega (arith, other))).1 there)

pub turned-off : {at n : ℕ} {heap ids places links : List ℕ} {i : ℕ} {o : Operation} {size next : ℕ} → Free at n heap ids places links
    → Turned heap ids places links i o size next → (to : ℕ) → at ≤ to → to + size_in o ≤ at + n → (to + size_in o ≤ o.start) ⊎ (o.start + o.len ≤ to)
turned-off {at} {n} {heap} {ids} {places} {i = i} free t to low high =
    rw t.is (moving-off at n heap (get_or ids (i - 1) 0) (get_or places (i - 1) 0) to t.some (free.apart (i - 1)) low (rw t.is at high))

-- an object can be moved as it stands: its header lies before its body, and the bytes of both are its own
pub record Movable (heap : List ℕ) (o : Operation) : Type 0 where
  pub header : 20 ≤ o.start
  pub bytes : take (20 + o.len) (drop (o.start - 20) heap) ≡ object_bytes o.id (take o.len (drop o.start heap))

-- that of a place where it stands
moving-movable : (heap : List ℕ) (id place : ℕ) → 0 < place → (1 < place → Stands heap id place) → (moving_at heap id place).delete ≡ false
    → Movable heap (moving_at heap id place)
unfolding moving_at Stands
moving-movable heap id place some stands = go (same? place 1)
  where
    o : Operation
    o = pick (eqb place 1) (record { id = id; delete = true; start = 0; len = 0 }) (record { id = id; delete = false; start = place + 20; len = length_at heap place })

    go : (place ≡ 1) ⊎ (place ≡ 1 → ⊥) → o.delete ≡ false → Movable heap o
    go (inl one) kept = absurd (true≢false (rw (eq-eqb place 1 one) at kept))
    go (inr other) kept =
        let back : place + 20 - 20 ≡ place = omega arith in
        rw (ne_eqb place 1 other)
        (record { header = omega arith; bytes = ap (λ (p : ℕ). take (20 + length_at heap place) (drop p heap)) back ∙ stands (omega (arith, other)) })

pub turned-movable : {at n : ℕ} {heap ids places links : List ℕ} {i : ℕ} {o : Operation} {size next : ℕ} → Free at n heap ids places links
    → Turned heap ids places links i o size next → o.delete ≡ false → Movable heap o
turned-movable {heap = heap} {ids} {places} {i = i} free t kept =
    rw t.is (moving-movable heap (get_or ids (i - 1) 0) (get_or places (i - 1) 0) t.some (free.stand (i - 1)) (rw t.is at kept))

-- ---- writers that leave what is moved
-- the head of a trailer
pub head-elsewhere : (at n sum count : ℕ) {k left : ℕ} {heap after : List ℕ} → 12 ≤ n → Made k (stores_of at (le_bytes 4 sum ++ le_bytes 8 count)) heap after left
    → Elsewhere at n heap after
head-elsewhere at n sum count room made =
    let head = le_bytes 4 sum ++ le_bytes 8 count in
    let twelve : length head ≡ 12 = simp (length-append, le-length) in
    made-elsewhere at n (among-stores at n at head (omega arith) (omega (arith, twelve))) made

module _ {start size : ℕ} {heap ids places links : List ℕ} {first count total : ℕ} (w : Writing start size heap ids places links first count total) where
  -- the slot is free
  pub writing-free : Free start size heap ids places links
  writing-free = record { wide = w.wide; linked = w.linked; chained = w.chained; apart = w.apart; stand = w.stand; inside = w.inside }

  -- label, objects and trailer fit
  pub writing-room : 64 + (total + (12 + 16 * count)) ≤ size
  writing-room = omega (arith, w.room, w.entries, w.objects, file-length (chain_ops first heap ids places links))

  -- the objects
  pub objects-elsewhere : {k left : ℕ} {after : List ℕ} → Made k (stores_of (start + 64) (objects_of (chain_ops first heap ids places links))) heap after left
      → Elsewhere start size heap after
  objects-elsewhere made =
      made-elsewhere start size (among-stores start size (start + 64) _ (omega arith) (omega (arith, w.objects, writing-room))) made
