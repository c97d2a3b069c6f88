-- "Each id takes its new location": a trailer's entries stored into the table.
use Rattle.std.specs.Prelude.{◌≡◌, refl, ◌<◌, ◌≤◌, ◌+◌, ◌*◌, ◌^◌, None, Some}
use Rattle.std.proofs.Math.Path.{ap}
use Rattle.rules.specs.Base.{false, List, map, ℕ, length, get_or, take, drop}
use Rattle.std.proofs.Common.{arith}
use Rattle.disk_location.specs.Locations.{position_of}
use Rattle.rules.specs.declared.Entry.{Entry}
use Rattle.rules.specs.Types.{Held}
use Rattle.rules.specs.Trailer.{absolute, count_in, entries_in}
use Rattle.rules.specs.Table.{lookup, insert, insert_all, full}
use Rattle.rules.proofs.TableLaws.{insert-all-length, insert-new, full-mapped, full-room}
use Rattle.rules.specs.Layout.{Table, used_entries, laid_out, capacity_of}
use Rattle.rules.proofs.TurnLaws.{left-next, left-none}
use Rattle.location_table.specs.Tables.{Formed}

-- the entries of a file with this lsn, as the table has them
abbrev pub taken : ℕ → List Entry → List Entry
taken lsn es = map (absolute lsn) es

-- the buffer after they are stored
abbrev pub with_taken : Table → ℕ → List Entry → Table
with_taken b lsn es = laid_out (capacity_of b) (insert_all (used_entries b) (taken lsn es))

-- every absolute position of the file's entries is one
abbrev pub Placed : ℕ → List Entry → Type 0
Placed lsn es = (k : ℕ) → position_of (get_or es k (record { id = 0; location = 0 })).location + lsn < 2 ^ 63

-- the trailer of a file in the heap, by where the file starts, its count of entries and T
abbrev pub trailer_at : List ℕ → ℕ → ℕ → ℕ → List ℕ
trailer_at heap start count total = take (12 + 16 * count) (drop (start + 64 + total) heap)

-- a file with this lsn that can be added by its trailer, to a file map with these lsns and live counts
pub record Installable (lsns lives : List ℕ) (b : Table) (heap : List ℕ) (start count total lsn : ℕ) : Type 0 where
  pub formed : Formed b
  pub even : length lsns ≤ length lives
  pub few : length lsns ≤ 256
  pub inside : start + 64 + total + (12 + 16 * count) ≤ length heap
  pub counted : count_in (trailer_at heap start count total) ≡ count
  pub placed : Placed lsn (entries_in (trailer_at heap start count total))
  pub some : 0 < lsn
  pub room : length (insert_all (used_entries b) (taken lsn (entries_in (trailer_at heap start count total)))) ≤ capacity_of b

-- a turn of the loop over the entries, and its end
module _ (lsn : ℕ) (t es : List Entry) (k : ℕ) where
  pub adding-next : (d : Entry) → k < length es
      → insert_all t (taken lsn (drop k es)) ≡ insert_all (insert t (absolute lsn (get_or es k d))) (taken lsn (drop (k + 1) es))
  unfolding insert_all
  adding-next d h = ap (λ (xs : List Entry). insert_all t (taken lsn xs)) (left-next es k d h)

  pub adding-end : length es ≤ k → insert_all t (taken lsn (drop k es)) ≡ t
  unfolding insert_all
  adding-end h = ap (λ (xs : List Entry). insert_all t (taken lsn xs)) (left-none es k h)

-- where all of them fit, the first does
pub room-now : (t : List Entry) (n : Entry) (rest : List Entry) (capacity : ℕ) → length (insert_all (insert t n) rest) ≤ capacity → full t capacity n.id ≡ false
room-now t n rest capacity fits = go (lookup t n.id) refl
  where
    go : (h : Held) → lookup t n.id ≡ h → full t capacity n.id ≡ false
    go (Some l) e = full-mapped t capacity n.id l e
    go None e = full-room t capacity n.id (omega (arith, insert-new t n e, (insert-all-length (insert t n) rest).0))
