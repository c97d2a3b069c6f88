-- The table filled chunk by chunk: an entry of a trailer, or all entries of a slot's file.
use mathlib.Core.Path.{◌≡◌, sym, ap, ◌∙◌, subst}
use mathlib.Core.Bool.{Bool, true, false}
use mathlib.Core.List.{List, [], ◌∷◌, ◌++◌, map, append-nil}
use Prim.Native.Nat.{ℕ, ◌+◌, ◌^◌, ◌<◌, ◌≤◌}
use native.Mathlib.Omega.{arith}
use lib.ListN.{length, get_or, take, drop, length-map, take-append-drop}
use lib.Seq.{take_all}
use Rattle.rules.specs.Base.{each}
use Rattle.rules.specs.BaseLaws.{All}
use Rattle.rules.proofs.BaseLaws.{all_map, any_false, all_append, each_append}
use Rattle.rules.proofs.LabelLaws.{lsn-some}
use Rattle.rules.specs.Layout.{Table}
use Rattle.disk_location.specs.Locations.{masked_of, position_of}
use Rattle.rules.specs.Trailer.{absolute, misplaced}
use Rattle.rules.proofs.TrailerLaws.{placed}
use Rattle.rules.specs.SlotFile.{View, empty, damaged, holds, trailer_entries, view_in}
use Rattle.rules.specs.Reopen.{file_of, files_in}
use Rattle.rules.specs.Table.{no_entry}
use Rattle.location_table.specs.Tables.{Formed}
use Rattle.reopen_tests.specs.Shown.{FileAt, Sound, file-of}
use Rattle.rebuild.specs.Types.{Label, Entry}
use Rattle.rebuild.specs.Latest.{InUse}
use Rattle.rebuild.specs.Filled.{rows_of, Placed, Filled, filled-then, filled-stop, rows-in-use}
use Rattle.rebuild.proofs.CountTurns.{taken, taken-map}

module _ (b : Table) (formed : Formed b) (xs chunk : List Entry) (used : All InUse xs) (m : Table) (w : Filled b xs true m) (room : Bool) (after : Table) (v : Filled m chunk room after) where
  -- there was room: the chunk is in
  pub chunk_in : room ≡ true → (all : List Entry) → all ≡ xs ++ chunk → Filled b all true after
  chunk_in r all e = subst (λ (es : List Entry). Filled b es true after) (sym e) (subst (λ (t : Bool). Filled b (xs ++ chunk) t after) r (filled-then b formed xs m used w chunk room after v))

  -- there was none: nor for all
  pub chunk_out : room ≡ false → (all rest : List Entry) → all ≡ (xs ++ chunk) ++ rest → Filled b all false after
  chunk_out r all rest e =
      subst (λ (es : List Entry). Filled b es false after) (sym e)
      (filled-stop b formed (xs ++ chunk) after rest (subst (λ (t : Bool). Filled b (xs ++ chunk) t after) r (filled-then b formed xs m used w chunk room after v)))

pub filled-as : {b : Table} {xs ys : List Entry} {room : Bool} {after : Table} → xs ≡ ys → Filled b xs room after → Filled b ys room after
filled-as {b = b} {room = room} {after = after} e w = subst (λ (es : List Entry). Filled b es room after) e w

-- ---- the entries of a trailer
module _ (lsn : ℕ) (es : List Entry) (k : ℕ) (n : Entry) (h : k < length es) (is : n ≡ absolute lsn (get_or es k no_entry)) where
  pub entry_in : take (k + 1) (map (absolute lsn) es) ≡ take k (map (absolute lsn) es) ++ (n ∷ [])
  entry_in = taken-map (absolute lsn) no_entry es k h ∙ ap (λ (e : Entry). take k (map (absolute lsn) es) ++ (e ∷ [])) (sym is)

  pub entry-out : map (absolute lsn) es ≡ (take k (map (absolute lsn) es) ++ (n ∷ [])) ++ drop (k + 1) (map (absolute lsn) es)
  entry-out = sym (take-append-drop (k + 1) (map (absolute lsn) es)) ∙ ap (λ (l : List Entry). l ++ drop (k + 1) (map (absolute lsn) es)) entry_in

pub entry-end : (lsn : ℕ) (es : List Entry) (k : ℕ) → length es ≤ k → take k (map (absolute lsn) es) ≡ map (absolute lsn) es
entry-end lsn es k h = take_all k (map (absolute lsn) es) (omega (arith, length-map es (absolute lsn)))

-- 8's and 12's bounds keep every absolute position below 2^63
pub file-placed : (slot : List ℕ) (l : Label) → FileAt slot l → Placed l.lsn (trailer_entries l slot)
unfolding masked_of
file-placed slot l w = record {
  some = lsn-some (length slot) l w.bounds;
  low = all_map (λ (e : Entry). misplaced l.trailer_offset e ≡ false) (λ (e : Entry). position_of e.location + l.lsn < 2 ^ 63) (trailer_entries l slot)
      (λ e q. low (position_of e.location) (placed _ e q).inside) (any_false _ (trailer_entries l slot) w.positions);
}
  where
    low : (p : ℕ) → p ≤ l.trailer_offset → p + l.lsn < 2 ^ 63
    low p h =
        let end = w.bounds.end in
        let most = w.bounds.lsn in
        omega arith

-- ---- the entries of a slot
pub slot-rows : (slot : List ℕ) (l : Label) → FileAt slot l → each rows_of (file_of (view_in slot)) ≡ map (absolute l.lsn) (trailer_entries l slot)
unfolding each
slot-rows slot l w = ap (each rows_of) (file-of slot l w) ∙ append-nil _

-- of the files in all slots
abbrev pub rows_in : List View → List Entry
rows_in vs = each rows_of (files_in vs)

rows_append : (vs us : List View) → rows_in (vs ++ us) ≡ rows_in vs ++ rows_in us
unfolding files_in
rows_append vs us = ap (each rows_of) (each_append file_of vs us) ∙ each_append rows_of (each file_of vs) (each file_of us)

rows-one : (v : View) → rows_in (v ∷ []) ≡ each rows_of (file_of v)
unfolding files_in each
rows-one v = ap (each rows_of) (append-nil (file_of v))

module _ (views : List View) (k : ℕ) (h : k < length views) where
  pub slot-in : rows_in (take (k + 1) views) ≡ rows_in (take k views) ++ each rows_of (file_of (get_or views k empty))
  slot-in = ap rows_in (taken empty views k h) ∙ rows_append (take k views) (get_or views k empty ∷ []) ∙ ap (λ (l : List Entry). rows_in (take k views) ++ l) (rows-one (get_or views k empty))

  pub slot-out : rows_in views ≡ (rows_in (take k views) ++ each rows_of (file_of (get_or views k empty))) ++ rows_in (drop (k + 1) views)
  slot-out =
      ap rows_in (sym (take-append-drop (k + 1) views)) ∙ rows_append (take (k + 1) views) (drop (k + 1) views)
      ∙ ap (λ (l : List Entry). l ++ rows_in (drop (k + 1) views)) slot-in

pub slot-end : (views : List View) (k : ℕ) → length views ≤ k → rows_in (take k views) ≡ rows_in views
slot-end views k h = ap rows_in (take_all k views h)

pub views-in-use : (size : ℕ) (vs : List View) → All (Sound size) vs → All InUse (rows_in vs)
unfolding files_in each
views-in-use size [] a = tt
views-in-use size (empty ∷ vs) a = views-in-use size vs a.1
views-in-use size (damaged n ∷ vs) a = absurd a.0
views-in-use size (holds f ∷ vs) a =
    all_append InUse (rows_of f) (rows_in vs) (rows-in-use f.label.lsn f.entries (lsn-some size f.label a.0)) (views-in-use size vs a.1)
