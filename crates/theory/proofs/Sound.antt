-- The invariant of a store, on its picture; and what makes a file whole.
use Rattle.std.specs.Prelude.{◌≡◌, ◌⊎◌, ◌+◌, ◌*◌, Some}
use Rattle.std.proofs.Common.{sym, ap, ◌∙◌, subst, true≢false, inl, inr}
use Rattle.rules.specs.Base.{true, false, List, ℕ}
use Rattle.rules.proofs.BaseLaws.{same?}
use Rattle.theory.specs.Types.{Entry}
use Rattle.rules.specs.SlotFile.{File, View, holds}
use Rattle.rules.specs.Table.{lookup}
use Rattle.rules.specs.Reopen.{files_in, in_range, table_of}
use Rattle.rules.specs.TableLaws.{Rising, Has}
use Rattle.rules.proofs.ReopenLaws.{latest-of-rising}
use Rattle.theory.specs.Newest.{masked_at, Newest}
use Rattle.theory.proofs.Newest.{newest-latest}
use Rattle.theory.specs.Places.{view_at, rows_of, Stands}
use Rattle.theory.proofs.Places.{has-stands, holds-inj, in-no-other}
use Rattle.theory.specs.Picture.{Picture, Said}
use Rattle.theory.specs.Sound.{Sound}

-- the table of files, by their rows
pub newest-table : (views : List View) (x : ℕ) → Newest (Has (rows_of views) x) (lookup (table_of (files_in views)) x)
unfolding table_of
newest-table views x = newest-latest (rows_of views) x

-- its ids rise
pub rising-table : (views : List View) → Rising 0 (table_of (files_in views))
unfolding table_of
rising-table views = latest-of-rising (rows_of views)

module _ (bounds : ℕ) (p : Picture) (told : ℕ → Said) (s : Sound bounds p told) where
  -- the table is in order
  pub table-rising : Rising 0 p.table
  table-rising = subst (Rising 0) (sym s.newest) (rising-table p.views)

  -- and holds each id's greatest entry
  pub table-newest : (x : ℕ) → Newest (Has (rows_of p.views) x) (lookup p.table x)
  table-newest x = subst (λ (t : List Entry). Newest (Has (rows_of p.views) x) (lookup t x)) (sym s.newest) (newest-table p.views x)

  -- what the table holds stands in a slot
  pub table-stands : (x l : ℕ) → lookup p.table x ≡ Some l → (k : ℕ) × Stands p.views x l k
  table-stands x l h = has-stands p.views x l (subst (Newest (Has (rows_of p.views) x)) h (table-newest x)).0

  -- LAW: a location that lies in a file's masked range is that of an entry of the file
  pub range-entry : (x l k : ℕ) (f : File) → lookup p.table x ≡ Some l → view_at p.views k ≡ holds f → in_range f.label (masked_at l) ≡ true
      → (r : ℕ) × Has f.entries x r × (l ≡ r + 2 * f.label.lsn)
  range-entry x l k f e h i = by (table-stands x l e)
    where
      by : (j : ℕ) × Stands p.views x l j → (r : ℕ) × Has f.entries x r × (l ≡ r + 2 * f.label.lsn)
      by (j, t) = at (same? k j)
        where
          at : (k ≡ j) ⊎ (k ≡ j → ⊥) → (r : ℕ) × Has f.entries x r × (l ≡ r + 2 * f.label.lsn)
          at (inr n) = absurd (true≢false (sym i ∙ in-no-other p.views p.records s.filed x l j k t f h n))
          at (inl q) =
              let c : t.file ≡ f = holds-inj (sym t.shows ∙ ap (view_at p.views) (sym q) ∙ h) in
              (t.raw, subst (λ (g : File). Has g.entries x t.raw) c t.entry, t.located ∙ ap (λ (g : File). t.raw + 2 * g.label.lsn) c)
