-- What is written into a slot leaves all that stands elsewhere.
use Rattle.std.specs.Prelude.{◌≡◌, ◌⊎◌, ◌≤◌, ◌<◌, ◌∷◌, ◌++◌, ◌+◌, ◌-◌, ◌*◌}
use Rattle.std.proofs.Math.Path.{refl, ap}
use Rattle.std.proofs.Common.{sym, ◌∙◌, inl, inr, ⊎_elim, mul-le-mul, arith, eq-eqb, ne_eqb, length-set, length-drop, drop-set-lt, take-take, drop-drop, length-take-le}
use Rattle.std.proofs.lemmas.List.{take-set-le}
use Rattle.numbers.specs.LittleEndian.{le_value}
use Rattle.rules.specs.Base.{List, [], ℕ, suc, length, get_or, take, drop, set}
use Rattle.rules.specs.BaseLaws.{All}
use Rattle.rules.proofs.BaseLaws.{order, same?, all_append, all_take}
use Rattle.rules.proofs.PartLaws.{drop-take}
use Rattle.rules.specs.Label.{label_bytes}
use Rattle.rules.specs.Object.{object_bytes}
use Rattle.rules.specs.Ops.{put}
use Rattle.rules.specs.Stores.{Store, made, stores_of, file_stores}
use Rattle.rules.specs.declared.Label.{Label}
use Rattle.rules.proofs.LabelLaws.{label-length}
use Rattle.stores.specs.Runs.{Made}
use Rattle.gc_files.specs.Places.{length_at, moving_at, op_at, Whole, Stands, AllStand, InSlot}
use Rattle.gc_chains.specs.Chains.{chain_ops}
use Rattle.gc_chains.specs.ChainLaws.{chain_same}

-- the bytes before `start` and those from `start + size` on are the same
pub record Elsewhere (start size : ℕ) (heap after : List ℕ) : Type 0 where
  pub long : length after ≡ length heap
  pub before : take start after ≡ take start heap
  pub behind : drop (start + size) after ≡ drop (start + size) heap

-- an object that ends before these bytes, or begins behind them
abbrev pub Off : ℕ → ℕ → List ℕ → ℕ → Type 0
Off start size heap place = (place + (20 + length_at heap place) ≤ start) ⊎ (start + size ≤ place)

-- each object that is moved lies in the heap, off these bytes
abbrev pub Apart : ℕ → ℕ → List ℕ → List ℕ → Type 0
Apart start size heap places = (i : ℕ) → 1 < get_or places i 0 → Whole heap (get_or places i 0) × Off start size heap (get_or places i 0)

-- ---- stores that leave all elsewhere
pub elsewhere-same : (start size : ℕ) (heap : List ℕ) → Elsewhere start size heap heap
elsewhere-same start size heap = record { long = refl; before = refl; behind = refl }

pub elsewhere-then : {start size : ℕ} {heap next last : List ℕ} → Elsewhere start size heap next → Elsewhere start size next last → Elsewhere start size heap last
elsewhere-then a b = record { long = b.long ∙ a.long; before = b.before ∙ a.before; behind = b.behind ∙ a.behind }

-- a store falls among these bytes
abbrev pub Falls : ℕ → ℕ → Store → Type 0
Falls start size s = (start ≤ s.at) × (s.at < start + size)

-- every store of a run does
abbrev pub Among : ℕ → ℕ → List Store → Type 0
Among start size run = All (Falls start size) run

run-elsewhere : (start size : ℕ) (run : List Store) (heap : List ℕ) → Among start size run → Elsewhere start size heap (made run heap)
unfolding made
run-elsewhere start size [] heap a = elsewhere-same start size heap
run-elsewhere start size (s ∷ ss) heap a =
    elsewhere-then
    (record {
      long = length-set heap s.at s.byte;
      before = take-set-le start heap s.at s.byte a.0.0;
      behind = drop-set-lt (start + size) heap s.at s.byte a.0.1;
    })
    (run-elsewhere start size ss (set heap s.at s.byte) a.1)

pub made-elsewhere : (start size : ℕ) {k left : ℕ} {run : List Store} {heap after : List ℕ} → Among start size run → Made k run heap after left
    → Elsewhere start size heap after
made-elsewhere start size {k} {left} {run} {heap} a m = rw m.heap (run-elsewhere start size (take k run) heap (all_take (Falls start size) k run a))

-- bytes one behind the other
pub among-stores : (start size at : ℕ) (bs : List ℕ) → start ≤ at → at + length bs ≤ start + size → Among start size (stores_of at bs)
unfolding stores_of
among-stores start size at [] low high = tt
among-stores start size at (b ∷ bs) low high = ((low, omega arith), among-stores start size (suc at) bs (omega arith) (omega arith))

-- a file and its label
pub among-file : (start size : ℕ) (new : Label) (file : List ℕ) → 64 + length file ≤ size → Among start size (file_stores start (label_bytes new) file)
unfolding file_stores
among-file start size new file room =
    let label = label_bytes new in
    let first : start + length (take 1 label) ≤ start + size = omega (arith, length-take-le 1 label (omega (arith, label-length new))) in
    let others : suc start + length (drop 1 label) ≤ start + size = omega (arith, label-length new, length-drop 1 label) in
    all_append (Falls start size) (stores_of (start + 64) file) (stores_of (suc start) (drop 1 label) ++ stores_of start (take 1 label))
    (among-stores start size (start + 64) file (omega arith) (omega arith))
    (all_append (Falls start size) (stores_of (suc start) (drop 1 label)) (stores_of start (take 1 label))
    (among-stores start size (suc start) (drop 1 label) (omega arith) others)
    (among-stores start size start (take 1 label) (omega arith) first))

pub file-elsewhere : (start size : ℕ) (new : Label) (file : List ℕ) {k left : ℕ} {heap after : List ℕ} → 64 + length file ≤ size
    → Made k (file_stores start (label_bytes new) file) heap after left → Elsewhere start size heap after
file-elsewhere start size new file room m = made-elsewhere start size (among-file start size new file room) m

-- ---- what stands elsewhere is the same
module _ {start size : ℕ} {heap after : List ℕ} (e : Elsewhere start size heap after) where
  pub bytes-elsewhere : (from n : ℕ) → from ≤ length heap → (from + n ≤ start) ⊎ (start + size ≤ from) → take n (drop from after) ≡ take n (drop from heap)
  bytes-elsewhere from n fit (inl h) =
      let short : (s : List ℕ) → from ≤ length s → take n (drop from s) ≡ take n (drop from (take start s)) =
      λ s low. sym (ap (take n) (drop-take from start s (omega arith) low) ∙ take-take n (start - from) (drop from s) (omega arith)) in
      short after (omega (arith, e.long)) ∙ ap (λ (s : List ℕ). take n (drop from s)) e.before ∙ sym (short heap fit)
  bytes-elsewhere from n fit (inr h) =
      let on : start + size + (from - (start + size)) ≡ from = omega arith in
      let past : (s : List ℕ) → drop from s ≡ drop (from - (start + size)) (drop (start + size) s) =
      λ s. ap (λ (k : ℕ). drop k s) (sym on) ∙ sym (drop-drop (from - (start + size)) (start + size) s) in
      ap (take n) (past after ∙ ap (drop (from - (start + size))) e.behind ∙ sym (past heap))

  -- an object's length
  pub length-elsewhere : (place : ℕ) → Whole heap place → Off start size heap place → length_at after place ≡ length_at heap place
  length-elsewhere place whole off =
      let inside = whole.inside in
      ap le_value (bytes-elsewhere (place + 12) 8 (omega arith) (⊎_elim (λ h. inl (omega arith)) (λ h. inr (omega arith)) off))

  pub whole-elsewhere : (place : ℕ) → Whole heap place → Off start size heap place → Whole after place
  whole-elsewhere place whole off =
      let same = length-elsewhere place whole off in
      record { inside = omega (arith, same, e.long, whole.inside); short = rw same whole.short }

  -- it is still off
  pub off-elsewhere : (place : ℕ) → Whole heap place → Off start size heap place → Off start size after place
  off-elsewhere place whole off = rw (length-elsewhere place whole off) off

  pub in-slot-elsewhere : (slot_size k place : ℕ) → Whole heap place → Off start size heap place → InSlot slot_size heap k place → InSlot slot_size after k place
  in-slot-elsewhere slot_size k place whole off there =
      record { behind = there.behind; inside = omega (arith, length-elsewhere place whole off, there.inside) }

  pub apart-elsewhere : (places : List ℕ) → Apart start size heap places → Apart start size after places
  apart-elsewhere places apart i h =
      let w = apart i h in
      (whole-elsewhere (get_or places i 0) w.0 w.1, off-elsewhere (get_or places i 0) w.0 w.1)

  -- an object's body
  body-elsewhere : (place : ℕ) → Whole heap place → Off start size heap place
      → take (length_at after place) (drop (place + 20) after) ≡ take (length_at heap place) (drop (place + 20) heap)
  body-elsewhere place whole off =
      let inside = whole.inside in
      ap (λ (n : ℕ). take n (drop (place + 20) after)) (length-elsewhere place whole off)
      ∙ bytes-elsewhere (place + 20) (length_at heap place) (omega arith) (⊎_elim (λ h. inl (omega arith)) (λ h. inr (omega arith)) off)

  -- its bytes still stand there
  pub stands-elsewhere : (id place : ℕ) → Whole heap place → Off start size heap place → Stands heap id place → Stands after id place
  unfolding Stands
  stands-elsewhere id place whole off stands =
      let inside = whole.inside in
      ap (λ (n : ℕ). take (20 + n) (drop place after)) (length-elsewhere place whole off)
      ∙ bytes-elsewhere place (20 + length_at heap place) (omega arith) off ∙ stands ∙ ap (object_bytes id) (sym (body-elsewhere place whole off))

  pub all-stand-elsewhere : (ids places : List ℕ) → Apart start size heap places → AllStand heap ids places → AllStand after ids places
  all-stand-elsewhere ids places apart stand i h = stands-elsewhere (get_or ids i 0) (get_or places i 0) (apart i h).0 (apart i h).1 (stand i h)

  -- the operation at a place
  op-elsewhere : (id place : ℕ) → 0 < place → (1 < place → Whole heap place × Off start size heap place) → op_at after id place ≡ op_at heap id place
  unfolding moving_at
  op-elsewhere id place some apart = go (same? place 1)
    where
      go : (place ≡ 1) ⊎ (place ≡ 1 → ⊥) → op_at after id place ≡ op_at heap id place
      go (inl one) = rw (eq-eqb place 1 one) refl
      go (inr other) =
          let w = apart (omega (arith, other)) in
          rw (ne_eqb place 1 other) (ap (λ (b : List ℕ). record { id = id; content = put b }) (body-elsewhere place w.0 w.1))

  -- the operations of every chain
  pub chain-elsewhere : (first : ℕ) (ids places links : List ℕ) → Apart start size heap places → chain_ops first after ids places links ≡ chain_ops first heap ids places links
  chain-elsewhere first ids places links apart = chain_same heap after first 1 ids places links (λ x i some. op-elsewhere x (get_or places i 0) some (apart i))

-- an object that lies in another slot is off
pub slots-off : (size : ℕ) (heap : List ℕ) (j k place : ℕ) → (j ≡ k → ⊥) → InSlot size heap j place → Off (k * size) size heap place
slots-off size heap j k place other there = go (order j k)
  where
    whole : size ≤ size
    whole = omega arith

    go : (j < k) ⊎ ((j ≡ k) ⊎ (k < j)) → Off (k * size) size heap place
    go (inl less) =
        let next : j + 1 ≤ k = omega arith in
        let far : (j + 1) * size ≤ k * size = mul-le-mul next whole in
        inl (omega (arith, far, there.inside))
    go (inr (inl same)) = absurd (other same)
    go (inr (inr more)) =
        let next : k + 1 ≤ j = omega arith in
        let far : (k + 1) * size ≤ j * size = mul-le-mul next whole in
        inr (omega (arith, far, there.behind))

-- and stays in its slot
pub slots-elsewhere : (size k : ℕ) {heap after : List ℕ} → Elsewhere (k * size) size heap after → (j place : ℕ) → (j ≡ k → ⊥) → Whole heap place → InSlot size heap j place
    → Whole after place × InSlot size after j place
slots-elsewhere size k {heap} e j place other whole there =
    let off = slots-off size heap j k place other there in
    (whole-elsewhere e place whole off, in-slot-elsewhere e size j place whole off there)
