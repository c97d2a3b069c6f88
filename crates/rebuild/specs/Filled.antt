-- Entries met one after the other by the table in its buffer.
use Rattle.std.proofs.Math.Path.{◌≡◌, refl, sym}
use Rattle.std.proofs.Common.{ap, ap₂, ◌∙◌, arith}
use Rattle.std.specs.Prelude.{◌≤◌, ◌<◌, ◌∷◌, ◌++◌, ◌+◌, ◌^◌, None, Some}
use borrow.Author.Tests.{le-leb, lt-leb, leb-true, leb-false}
use Rattle.rules.specs.Base.{Bool, true, false, List, [], map, ℕ, length, replicate, leb, pick}
use Rattle.rules.specs.BaseLaws.{All}
use Rattle.rules.proofs.BaseLaws.{and-true}
use Rattle.rules.specs.Table.{lookup, insert, unmapped, full}
use Rattle.rules.specs.TableCalls.{with_stored}
use Rattle.rules.specs.Layout.{Table, capacity_of, used_entries, laid_out, cleared}
use Rattle.rules.specs.LayoutLaws.{Used}
use Rattle.rules.proofs.LayoutLaws.{laid-out-capacity, laid-out-length, used-laid-out, used-located, used-length}
use Rattle.disk_location.specs.Locations.{position_of, raw_of, delete_of}
use Rattle.rules.specs.Trailer.{absolute}
use Rattle.rules.specs.SlotFile.{File}
use Rattle.rules.specs.Reopen.{latest, latest_from}
use Rattle.location_table.specs.Tables.{Formed}
use Rattle.rules.specs.TableLaws.{Rising}
use Rattle.rules.proofs.TableLaws.{insert-new}
use Rattle.rules.proofs.ReopenLaws.{from-rising}
use Rattle.location_table.specs.EntryLaws.{insert-fits}
use Rattle.location_table.specs.LayoutLaws.{used-rising, laid_out_lem, laid-out-formed}
pub use Rattle.rebuild.specs.Latest.{replaces}
use Rattle.rebuild.specs.Latest.{InUse, latest-insert, latest-keep, from-append, from-used, from-grows}
use Rattle.rebuild.specs.Types.{Entry, Held}

-- a file's entries at their absolute locations
abbrev pub rows_of : File → List Entry
rows_of f = map (absolute f.label.lsn) f.entries

-- a file's entries whose absolute positions stay below 2^63
pub record Placed (lsn : ℕ) (es : List Entry) : Type 0 where
  pub some : 0 < lsn
  pub low : All (λ (e : Entry). position_of e.location + lsn < 2 ^ 63) es

-- whether there is room for all ids, and the buffer: the latest entries laid out, or zeros
pub record Filled (b : Table) (es : List Entry) (room : Bool) (after : Table) : Type 0 where
  pub answer : room ≡ leb (length (latest_from (used_entries b) es)) (capacity_of b)
  pub left : after ≡ pick room (laid_out (capacity_of b) (latest_from (used_entries b) es)) (cleared b)

-- an absolute location is in use
raw-some : (p : ℕ) (d : Bool) → 0 < p → 0 < raw_of p d
raw-some p true h = omega arith
raw-some p false h = omega arith

pub rows-in-use : (lsn : ℕ) (es : List Entry) → 0 < lsn → All InUse (map (absolute lsn) es)
rows-in-use lsn [] h = tt
rows-in-use lsn (e ∷ es) h =
    (raw-some (position_of e.location + lsn) (delete_of e.location) (omega arith), rows-in-use lsn es h)

module _ (b : Table) (formed : Formed b) where
  -- no entry
  pub filled_none : Filled b [] true b
  unfolding latest_from
  filled_none = record {
    answer = sym (le-leb (length (used_entries b)) (capacity_of b) (used-length b));
    left = laid_out_lem b formed;
  }

  -- ---- one entry
  module _ (n : Entry) where
    -- it does not replace what the table has
    pub filled-kept : replaces (lookup (used_entries b) n.id) n.location ≡ false → Filled b (n ∷ []) true b
    unfolding latest_from
    filled-kept e =
        let same : latest n (used_entries b) ≡ used_entries b = latest-keep 0 n (used_entries b) (used-rising b formed) e in
        record { answer = rw same filled_none.answer; left = rw same filled_none.left }

    module _ (e : replaces (lookup (used_entries b) n.id) n.location ≡ true) where
      -- it does, and there is room
      pub filled-stored : full (used_entries b) (capacity_of b) n.id ≡ false → (after : Table) → after ≡ with_stored b n.id n.location → Filled b (n ∷ []) true after
      unfolding latest_from with_stored
      filled-stored room after at =
          let fits = insert-fits (used_entries b) (used-rising b formed) n (capacity_of b) (used-length b) room in
          record {
            answer = rw (latest-insert n (used_entries b) e) (sym (le-leb (length (insert (used_entries b) n)) (capacity_of b) fits));
            left = rw (latest-insert n (used_entries b) e) at;
          }

      -- a new id in a full table
      pub filled-full : full (used_entries b) (capacity_of b) n.id ≡ true → (after : Table) → after ≡ cleared b → Filled b (n ∷ []) false after
      unfolding latest_from full
      filled-full none after at =
          let w = and-true (unmapped (lookup (used_entries b) n.id)) (leb (capacity_of b) (length (used_entries b))) none in
          let most = leb-true (capacity_of b) (length (used_entries b)) w.1 in
          let more = insert-new (used_entries b) n (free (lookup (used_entries b) n.id) w.0) in
          record {
            answer = rw (latest-insert n (used_entries b) e) (sym (lt-leb (length (insert (used_entries b) n)) (capacity_of b) (omega arith)));
            left = at;
          }
        where
          free : (h : Held) → unmapped h ≡ true → h ≡ None
          free None q = refl
          free (Some l) q = absurd (let z : ◌≡◌ {A = ℕ} 0 1 = cc in omega arith)

  -- ---- many at once, by their count
  module _ (es : List Entry) (n : ℕ) (count : length (latest_from (used_entries b) es) ≡ n) where
    -- there is room
    pub filled-all : n ≤ capacity_of b → (after : Table) → after ≡ laid_out (capacity_of b) (latest_from (used_entries b) es) → Filled b es true after
    filled-all fits after at = record { answer = sym (le-leb (length (latest_from (used_entries b) es)) (capacity_of b) (omega arith)); left = at }

    -- there is none
    pub filled-over : capacity_of b < n → (after : Table) → after ≡ cleared b → Filled b es false after
    filled-over over after at = record { answer = sym (lt-leb (length (latest_from (used_entries b) es)) (capacity_of b) (omega arith)); left = at }

  -- ---- one after the other
  module _ (xs : List Entry) (m : Table) where
    -- there was no room: nor is there for more
    pub filled-stop : (ys : List Entry) → Filled b xs false m → Filled b (xs ++ ys) false m
    filled-stop ys w =
        let over = leb-false (length (latest_from (used_entries b) xs)) (capacity_of b) (sym w.answer) in
        let more = from-grows (latest_from (used_entries b) xs) ys in
        record {
          answer = rw (from-append (used_entries b) xs ys) (sym (lt-leb (length (latest_from (latest_from (used_entries b) xs) ys)) (capacity_of b) (omega arith)));
          left = w.left;
        }

    module _ (used : All InUse xs) (w : Filled b xs true m) where
      met-rising : Rising 0 (latest_from (used_entries b) xs)
      met-rising = from-rising (used_entries b) xs (used-rising b formed)

      met-used : Used (latest_from (used_entries b) xs)
      met-used = from-used (used_entries b) xs (used-rising b formed) (used-located b) used

      met-fits : length (latest_from (used_entries b) xs) ≤ capacity_of b
      met-fits = leb-true (length (latest_from (used_entries b) xs)) (capacity_of b) (sym w.answer)

      -- the form is kept
      pub filled-formed : Formed m
      filled-formed = rw w.left (laid-out-formed (capacity_of b) (latest_from (used_entries b) xs) met-used met-rising met-fits)

      -- what the table has then
      pub filled-used : used_entries m ≡ latest_from (used_entries b) xs
      filled-used = ap used_entries w.left ∙ used-laid-out (capacity_of b) (latest_from (used_entries b) xs) met-used

      filled-capacity : capacity_of m ≡ capacity_of b
      filled-capacity = ap capacity_of w.left ∙ laid-out-capacity (capacity_of b) (latest_from (used_entries b) xs) met-fits

      filled-cleared : cleared m ≡ cleared b
      filled-cleared =
          let many = ap length w.left ∙ laid-out-length (capacity_of b) (latest_from (used_entries b) xs) met-fits in
          let long : length m ≡ length b = omega (arith, many, formed.even) in
          ap (λ (n : ℕ). replicate n 0) long

      pub filled-then : (ys : List Entry) (room : Bool) (after : Table) → Filled m ys room after → Filled b (xs ++ ys) room after
      filled-then ys room after v = record {
        answer = v.answer ∙ ap₂ (λ (es : List Entry) (k : ℕ). leb (length es) k) all filled-capacity;
        left = v.left ∙ ap₂ (λ (t u : Table). pick room t u) (ap₂ laid_out filled-capacity all) filled-cleared;
      }
        where
          all : latest_from (used_entries m) ys ≡ latest_from (used_entries b) (xs ++ ys)
          all = ap (λ (es : List Entry). latest_from es ys) filled-used ∙ sym (from-append (used_entries b) xs ys)
