-- Operations that stand in the heap: a number for each entry of the table. 0 where nothing is moved, 1 for a delete, else the place of an object.
use Rattle.std.specs.Prelude.{◌≡◌, ◌≤◌, ◌<◌, ◌∷◌, ◌+◌, ◌-◌, ◌*◌, ◌^◌, Some}
use Rattle.numbers.specs.LittleEndian.{le_value}
use Rattle.rules.specs.Base.{true, false, List, [], ℕ, length, get_or, take, drop, eqb, pick}
use Rattle.rules.specs.Object.{object_bytes}
use Rattle.rules.specs.Ops.{Op, size_of, shard_for}
use Rattle.rules.specs.declared.Loaded.{Loaded}
use Rattle.rules.specs.declared.Loaded.TheVariants.{At, DeletedAt, Never}
use Rattle.rules.specs.Layout.{Table, used_entries}
use Rattle.rules.specs.Table.{loaded_of}
use Rattle.disk_location.specs.Locations.{position_of}
use Rattle.batch.specs.declared.Operation.{Operation}
use Rattle.batch.specs.Reading.{op_in}
use Rattle.gc_split.specs.Tally.{Tally, taking, piece_in}

-- "length 8", behind checksum and id of an object
abbrev pub length_at : List ℕ → ℕ → ℕ
length_at heap place = le_value (take 8 (drop (place + 12) heap))

-- the operation on an id at a place, as numbers
unfoldable pub moving_at : List ℕ → ℕ → ℕ → Operation
moving_at heap id place =
    pick (eqb place 1)
    (record { id = id; delete = true; start = 0; len = 0 })
    (record { id = id; delete = false; start = place + 20; len = length_at heap place })

-- the operation
abbrev pub op_at : List ℕ → ℕ → ℕ → Op
op_at heap id place = op_in heap (moving_at heap id place)

-- the operations of ids at their places, in the order of the ids
unfoldable pub placed_ops : List ℕ → List ℕ → List ℕ → List Op
placed_ops heap [] ps = []
placed_ops heap (x ∷ xs) [] = []
placed_ops heap (x ∷ xs) (p ∷ ps) = pick (eqb p 0) (placed_ops heap xs ps) (op_at heap x p ∷ placed_ops heap xs ps)

-- those of one piece, where each has the number of its piece
unfoldable pub filed_ops : ℕ → List ℕ → List ℕ → List ℕ → List ℕ → List Op
filed_ops piece heap [] ps gs = []
filed_ops piece heap (x ∷ xs) [] gs = []
filed_ops piece heap (x ∷ xs) (p ∷ ps) [] = []
filed_ops piece heap (x ∷ xs) (p ∷ ps) (g ∷ gs) =
    pick (eqb p 0) (filed_ops piece heap xs ps gs) (pick (eqb g piece) (op_at heap x p ∷ filed_ops piece heap xs ps gs) (filed_ops piece heap xs ps gs))

-- an object lies in the heap, and is no longer than any
pub record Whole (heap : List ℕ) (place : ℕ) : Type 0 where
  pub inside : place + (20 + length_at heap place) ≤ length heap
  pub short : length_at heap place < 2 ^ 20

-- an object that lies in slot k, slots of that size, behind its label
pub record InSlot (size : ℕ) (heap : List ℕ) (k place : ℕ) : Type 0 where
  pub behind : k * size + 64 ≤ place
  pub inside : place + (20 + length_at heap place) ≤ k * size + size

-- each object lies in the heap
abbrev pub Standing : List ℕ → List ℕ → Type 0
Standing heap places = (k : ℕ) → 1 < get_or places k 0 → Whole heap (get_or places k 0)

-- the bytes of an object stand there, header and body
unfoldable pub Stands : List ℕ → ℕ → ℕ → Type 0
Stands heap id place = take (20 + length_at heap place) (drop place heap) ≡ object_bytes id (take (length_at heap place) (drop (place + 20) heap))

-- each object's, with the id of its entry
abbrev pub AllStand : List ℕ → List ℕ → List ℕ → Type 0
AllStand heap ids places = (k : ℕ) → 1 < get_or places k 0 → Stands heap (get_or ids k 0) (get_or places k 0)

-- ---- the split of placed operations
-- one entry joins its shard, if it is placed
unfoldable pub entry_taken : ℕ → ℕ → List ℕ → ℕ → ℕ → Tally → Tally
entry_taken target slot_size heap id place t =
    pick (eqb place 0) t (taking target slot_size (shard_for (op_at heap id place).content) (size_of (op_at heap id place).content) t)

-- and has the number of its piece; else the number that was there
unfoldable pub entry_piece : ℕ → ℕ → List ℕ → ℕ → ℕ → ℕ → Tally → ℕ
entry_piece target slot_size heap id place old t =
    pick (eqb place 0) old (piece_in (shard_for (op_at heap id place).content) (entry_taken target slot_size heap id place t))

-- entry by entry
unfoldable pub pieces_along : ℕ → ℕ → List ℕ → List ℕ → List ℕ → List ℕ → Tally → List ℕ
pieces_along target slot_size heap [] ps gs t = gs
pieces_along target slot_size heap (x ∷ xs) [] gs t = gs
pieces_along target slot_size heap (x ∷ xs) (p ∷ ps) [] t = []
pieces_along target slot_size heap (x ∷ xs) (p ∷ ps) (g ∷ gs) t =
    entry_piece target slot_size heap x p g t ∷ pieces_along target slot_size heap xs ps gs (entry_taken target slot_size heap x p t)

-- only used entries of the table are moved, or marked
abbrev pub OfUsed : Table → List ℕ → Type 0
OfUsed table places = (i : ℕ) → 0 < get_or places i 0 → i < length (used_entries table)

-- what the split of the table's entries asks for
pub record Splitting (heap xs ps gs : List ℕ) (entries : ℕ) : Type 0 where
  pub places : length xs ≤ length ps
  pub pieces : length xs ≤ length gs
  pub standing : Standing heap ps
  pub room : entries + length xs ≤ 65536

-- ---- where the operation of an entry stands, by what load tells of the entry
-- in slot k: slots of that size, files of these lsns
abbrev pub place_in : ℕ → List ℕ → Loaded → ℕ → ℕ
place_in size lsns (At l) k = k * size + 64 + (position_of l - get_or lsns k 0)
place_in size lsns (DeletedAt l) k = 1
place_in size lsns Never k = 0

-- in the slot of its mark, if it is marked
unfoldable pub place_for : ℕ → List ℕ → Loaded → ℕ → ℕ
place_for size lsns loaded mark = pick (eqb mark 0) 0 (place_in size lsns loaded (mark - 1))

-- of the entry at each location
unfoldable pub places_for : ℕ → List ℕ → List ℕ → List ℕ → List ℕ
places_for size lsns [] ms = []
places_for size lsns (l ∷ ls) [] = []
places_for size lsns (l ∷ ls) (m ∷ ms) = place_for size lsns (loaded_of (Some l)) m ∷ places_for size lsns ls ms

-- an object's position is one of a file of that lsn
abbrev pub InFile : ℕ → Loaded → Type 0
InFile lsn (At l) = (lsn ≤ position_of l) × (position_of l - lsn ≤ 2 ^ 20)
InFile lsn (DeletedAt l) = Unit {0}
InFile lsn Never = Unit {0}

-- a mark is of one of 256 slots, and an object is in the file of its mark
pub record Placeable (lsns : List ℕ) (loaded : Loaded) (mark : ℕ) : Type 0 where
  pub slots : length lsns ≡ 256
  pub slot : mark ≤ 256
  pub file : 0 < mark → InFile (get_or lsns (mark - 1) 0) loaded

-- of the entry at every location
pub record Placeables (lsns ls ms places : List ℕ) : Type 0 where
  pub marks : length ls ≤ length ms
  pub room : length ls ≤ length places
  pub each : (i : ℕ) → i < length ls → Placeable lsns (loaded_of (Some (get_or ls i 0))) (get_or ms i 0)
