-- Request P5: the order of the lines, and which are a slot's.
use Rattle.std.proofs.Math.Path.{◌≡◌, refl, ap, subst}
use Rattle.std.proofs.Common.{sym, ◌∙◌, append-nil, append_assoc, ltb-true, lt-ltb, eq-eqb, ne_eqb}
use Rattle.std.specs.Prelude.{◌<◌, ◌≤◌, ◌&&◌, ◌∷◌, ◌++◌, ◌+◌}
use native.Mathlib.Omega.{arith}
use Rattle.rules.specs.Base.{Bool, true, false, not, List, [], ℕ, zero, suc, length, take, ltb, eqb, pick, any, keep, each}
use Rattle.rules.specs.BaseLaws.{All}
use Rattle.rules.proofs.BaseLaws.{all_map, all_append}
use Rattle.disk_location.specs.Locations.{position_of, delete_of}
use Rattle.rules.specs.Object.{Stored, bad_checksum, objects_in}
use Rattle.rules.specs.SlotFile.{File, View, empty, damaged, holds}
use Rattle.rules.specs.Layout.{Table, capacity_of}
use Rattle.rules.specs.Reopen.{file_of, files_in, table_of}
use Rattle.theory.specs.Types.{Settings, Entry, Refusal, TableRoom, Checksum, Overlap, CutShort, OtherId}
use Rattle.theory.proofs.Lists.{all-each}
use Rattle.theory.specs.Places.{view_at}
use Rattle.faults.specs.Faults.{judged_in, line, line_if, passes, walked, entered, object_faults, entry_faults, file_faults, meets_earlier, slot_faults, faults_from, closing, faults_of}
use Rattle.check_theory.specs.Types.{Place, Nowhere, Object, Fault}
use Rattle.check_theory.proofs.Lists.{of-every}
use Rattle.check_theory.specs.Ids.{MoreIds}
use Rattle.check_theory.proofs.Ids.{more-ids, ids_more}
use Rattle.check_theory.specs.Order.{OfSlot, Ascends, lines_of}

if-slot : (k : ℕ) (c : Bool) (r : Refusal) (p : Place) → All (OfSlot k) (line_if c (line k r p))
if-slot k true r p = (refl, tt)
if-slot k false r p = tt

file-slot : (k : ℕ) (f : File) → All (OfSlot k) (file_faults k f)
unfolding file_faults object_faults entry_faults
file-slot k f =
    all_append (OfSlot k) (each (object_faults k f.entries) (objects_in f.objects)) (each (entry_faults k (walked f)) f.entries)
    (all-each (OfSlot k) (object_faults k f.entries) (objects_in f.objects)
    (of-every (λ (o : Stored). All (OfSlot k) (object_faults k f.entries o)) (objects_in f.objects) (λ o. object (passes o) (bad_checksum o) (not (any (entered o) f.entries)) (Object o.position))))
    (all-each (OfSlot k) (entry_faults k (walked f)) f.entries
    (of-every (λ (e : Entry). All (OfSlot k) (entry_faults k (walked f) e)) f.entries
    (λ e. if-slot k (not (delete_of e.location) && not (any (λ (o : Stored). entered o e) (walked f))) OtherId (Object (position_of e.location)))))
  where
    object : (p c t : Bool) (at : Place) → All (OfSlot k) (pick p (line k CutShort at ∷ []) (line_if c (line k Checksum at) ++ line_if t (line k OtherId at)))
    object true c t at = (refl, tt)
    object false c t at = all_append (OfSlot k) (line_if c (line k Checksum at)) (line_if t (line k OtherId at)) (if-slot k c Checksum at) (if-slot k t OtherId at)

slot-slot : (k : ℕ) (earlier : List File) (v : View) → All (OfSlot k) (slot_faults k earlier v)
unfolding slot_faults
slot-slot k earlier empty = tt
slot-slot k earlier (damaged r) = (refl, tt)
slot-slot k earlier (holds f) =
    all_append (OfSlot k) (file_faults k f) (line_if (meets_earlier earlier f) (line k Overlap Nowhere)) (file-slot k f) (if-slot k (meets_earlier earlier f) Overlap Nowhere)

from-lower : (n m : ℕ) (xs : List Fault) → n ≤ m → Ascends m xs → Ascends n xs
from-lower n m [] h a = tt
from-lower n m (x ∷ xs) h a = let b = a.0 in (omega arith, a.1)

slot-first : (k : ℕ) (xs ys : List Fault) → All (OfSlot k) xs → Ascends k ys → Ascends k (xs ++ ys)
slot-first k [] ys a b = b
slot-first k (x ∷ xs) ys a b = let e = a.0 in (omega arith, subst (λ (n : ℕ). Ascends n (xs ++ ys)) (sym a.0) (slot-first k xs ys a.1 b))

from-ascends : (n : ℕ) (earlier : List File) (vs : List View) (tail : List Fault) → Ascends (n + length vs) tail → Ascends n (faults_from n earlier vs ++ tail)
unfolding faults_from
from-ascends n earlier [] tail a = from-lower n (n + 0) tail (omega arith) a
from-ascends n earlier (v ∷ vs) tail a =
    let on = earlier ++ file_of v in
    let same : n + suc (length vs) ≡ suc n + length vs = omega arith in
    let rest = from-ascends (suc n) on vs tail (subst (λ (m : ℕ). Ascends m tail) same a) in
    subst (Ascends n) (sym (append_assoc (slot_faults n earlier v) (faults_from (suc n) on vs) tail))
    (slot-first n (slot_faults n earlier v) (faults_from (suc n) on vs ++ tail) (slot-slot n earlier v) (from-lower n (suc n) (faults_from (suc n) on vs ++ tail) (omega arith) rest))

-- request P5: "ascending by slot"
pub list-ascends : (s : Settings) (heap : List ℕ) (table : Table) → Ascends 0 (faults_of s heap table)
unfolding faults_of closing
list-ascends s heap table =
    let vs = judged_in s heap in
    from-ascends 0 [] vs (closing (capacity_of table) vs) (last (ltb (capacity_of table) (length (table_of (files_in vs)))) (length vs))
  where
    last : (c : Bool) (n : ℕ) → Ascends (0 + n) (line_if c (line n TableRoom Nowhere))
    last true n = (omega arith, tt)
    last false n = tt

lines-append : (k : ℕ) (xs ys : List Fault) → lines_of k (xs ++ ys) ≡ lines_of k xs ++ lines_of k ys
unfolding keep
lines-append k [] ys = refl
lines-append k (x ∷ xs) ys = go (eqb x.slot k) (lines-append k xs ys)
  where
    go : (t : Bool) → lines_of k (xs ++ ys) ≡ lines_of k xs ++ lines_of k ys
        → pick t (x ∷ lines_of k (xs ++ ys)) (lines_of k (xs ++ ys)) ≡ pick t (x ∷ lines_of k xs) (lines_of k xs) ++ lines_of k ys
    go true ih = ap (λ (zs : List Fault). x ∷ zs) ih
    go false ih = ih

lines-all : (k : ℕ) (xs : List Fault) → All (OfSlot k) xs → lines_of k xs ≡ xs
unfolding keep
lines-all k [] a = refl
lines-all k (x ∷ xs) a = rw (eq-eqb x.slot k a.0) (ap (λ (zs : List Fault). x ∷ zs) (lines-all k xs a.1))

lines_none : (k : ℕ) (xs : List Fault) → All (λ (x : Fault). x.slot ≡ k → ⊥) xs → lines_of k xs ≡ []
unfolding keep
lines_none k [] a = refl
lines_none k (x ∷ xs) a = rw (ne_eqb x.slot k a.0) (lines_none k xs a.1)

-- all lines from slot n on are of no slot below
later-none : (n k : ℕ) (xs : List Fault) → Ascends n xs → k < n → All (λ (x : Fault). x.slot ≡ k → ⊥) xs
later-none n k [] a h = tt
later-none n k (x ∷ xs) a h = let b = a.0 in ((λ e. omega arith), later-none x.slot k xs a.1 (omega arith))

slot-lines-from : (n : ℕ) (earlier : List File) (vs : List View) (tail : List Fault) → Ascends (n + length vs) tail → (k : ℕ) → k < length vs
    → lines_of (n + k) (faults_from n earlier vs ++ tail) ≡ slot_faults (n + k) (earlier ++ files_in (take k vs)) (view_at vs k)
unfolding faults_from files_in each
slot-lines-from n earlier [] tail a k h = absurd (let z : k < 0 = h in omega arith)
slot-lines-from n earlier (v ∷ vs) tail a zero h =
    let on = earlier ++ file_of v in
    let same : n + suc (length vs) ≡ suc n + length vs = omega arith in
    let rest = faults_from (suc n) on vs ++ tail in
    let up = from-ascends (suc n) on vs tail (subst (λ (m : ℕ). Ascends m tail) same a) in
    let zero_more : n + 0 ≡ n = omega arith in
    ap (λ (m : ℕ). lines_of m ((slot_faults n earlier v ++ faults_from (suc n) on vs) ++ tail)) zero_more
    ∙ ap (lines_of n) (append_assoc (slot_faults n earlier v) (faults_from (suc n) on vs) tail)
    ∙ lines-append n (slot_faults n earlier v) rest
    ∙ ap (λ (zs : List Fault). zs ++ lines_of n rest) (lines-all n (slot_faults n earlier v) (slot-slot n earlier v))
    ∙ ap (λ (zs : List Fault). slot_faults n earlier v ++ zs) (lines_none n rest (later-none (suc n) n rest up (omega arith)))
    ∙ append-nil (slot_faults n earlier v)
    ∙ ap (λ (m : ℕ). slot_faults m earlier v) (sym zero_more)
    ∙ ap (λ (es : List File). slot_faults (n + 0) es v) (sym (append-nil earlier))
slot-lines-from n earlier (v ∷ vs) tail a (suc k) h =
    let on = earlier ++ file_of v in
    let same : n + suc (length vs) ≡ suc n + length vs = omega arith in
    let rest = faults_from (suc n) on vs ++ tail in
    let one_more : n + suc k ≡ suc n + k = omega arith in
    ap (λ (m : ℕ). lines_of m ((slot_faults n earlier v ++ faults_from (suc n) on vs) ++ tail)) one_more
    ∙ ap (lines_of (suc n + k)) (append_assoc (slot_faults n earlier v) (faults_from (suc n) on vs) tail)
    ∙ lines-append (suc n + k) (slot_faults n earlier v) rest
    ∙ ap (λ (zs : List Fault). zs ++ lines_of (suc n + k) rest)
    (lines_none (suc n + k) (slot_faults n earlier v) (all_map (OfSlot n) (λ (x : Fault). x.slot ≡ suc n + k → ⊥) (slot_faults n earlier v) (λ x e q. omega arith) (slot-slot n earlier v)))
    ∙ slot-lines-from (suc n) on vs tail (subst (λ (m : ℕ). Ascends m tail) same a) k (omega arith)
    ∙ ap (λ (m : ℕ). slot_faults m (on ++ files_in (take k vs)) (view_at vs k)) (sym one_more)
    ∙ ap (λ (es : List File). slot_faults (n + suc k) es (view_at vs k)) (append_assoc earlier (file_of v) (files_in (take k vs)))

-- no line of the slots is of a slot behind them
earlier-none : (n : ℕ) (earlier : List File) (vs : List View) (k : ℕ) → n + length vs ≤ k → All (λ (x : Fault). x.slot ≡ k → ⊥) (faults_from n earlier vs)
unfolding faults_from
earlier-none n earlier [] k h = tt
earlier-none n earlier (v ∷ vs) k h =
    all_append (λ (x : Fault). x.slot ≡ k → ⊥) (slot_faults n earlier v) (faults_from (suc n) (earlier ++ file_of v) vs)
    (all_map (OfSlot n) (λ (x : Fault). x.slot ≡ k → ⊥) (slot_faults n earlier v) (λ x e q. omega arith) (slot-slot n earlier v))
    (earlier-none (suc n) (earlier ++ file_of v) vs k (omega arith))

module _ (s : Settings) (heap : List ℕ) (table : Table) where
  last-ascends : (n : ℕ) → n ≤ length (judged_in s heap) → Ascends n (closing (capacity_of table) (judged_in s heap))
  unfolding closing
  last-ascends n h = go (ltb (capacity_of table) (length (table_of (files_in (judged_in s heap)))))
    where
      go : (c : Bool) → Ascends n (line_if c (line (length (judged_in s heap)) TableRoom Nowhere))
      go true = (h, tt)
      go false = tt

  -- request P5: a slot's lines are those of what it shows by itself, behind the sound slots before it
  pub slot-lines : (k : ℕ) → k < length (judged_in s heap)
      → lines_of k (faults_of s heap table) ≡ slot_faults k (files_in (take k (judged_in s heap))) (view_at (judged_in s heap) k)
  unfolding faults_of
  slot-lines k h =
      let vs = judged_in s heap in
      let same : 0 + k ≡ k = omega arith in
      let none : 0 + length vs ≤ length vs = omega arith in
      subst (λ (m : ℕ). lines_of m (faults_of s heap table) ≡ slot_faults m (files_in (take k vs)) (view_at vs k)) same
      (slot-lines-from 0 [] vs (closing (capacity_of table) vs) (last-ascends (0 + length vs) none) k h)

  -- request P5: "the first failure of 8 to 13 and 15 is the only line"
  pub only-line : (k : ℕ) (r : Refusal) → k < length (judged_in s heap) → view_at (judged_in s heap) k ≡ damaged r
      → lines_of k (faults_of s heap table) ≡ line k r Nowhere ∷ []
  unfolding slot_faults
  only-line k r h e = slot-lines k h ∙ ap (slot_faults k (files_in (take k (judged_in s heap)))) e

  -- request P5: ".. with slot N": the lines of slot N are the closing one, or none
  pub closing_lines : lines_of (length (judged_in s heap)) (faults_of s heap table) ≡ closing (capacity_of table) (judged_in s heap)
  unfolding faults_of closing
  closing_lines =
      let vs = judged_in s heap in
      let n = length vs in
      let none : 0 + n ≤ n = omega arith in
      lines-append n (faults_from 0 [] vs) (closing (capacity_of table) vs)
      ∙ ap (λ (zs : List Fault). zs ++ lines_of n (closing (capacity_of table) vs)) (lines_none n (faults_from 0 [] vs) (earlier-none 0 [] vs n none))
      ∙ lines-all n (closing (capacity_of table) vs) (if-slot n (ltb (capacity_of table) (length (table_of (files_in vs)))) TableRoom Nowhere)

  -- request P5: "More distinct ids in sound slots than the table holds is one closing line 6"
  pub closing-when : MoreIds (capacity_of table) (judged_in s heap) → closing (capacity_of table) (judged_in s heap) ≡ line (length (judged_in s heap)) TableRoom Nowhere ∷ []
  unfolding closing
  closing-when m = rw (lt-ltb (capacity_of table) (length (table_of (files_in (judged_in s heap)))) (ids_more (judged_in s heap) (capacity_of table) m)) refl

  -- request P5: and only then
  pub closing-only-when : (x : Fault) (xs : List Fault) → closing (capacity_of table) (judged_in s heap) ≡ x ∷ xs → MoreIds (capacity_of table) (judged_in s heap)
  unfolding closing
  closing-only-when x xs e = go (ltb (capacity_of table) (length (table_of (files_in (judged_in s heap))))) refl e
    where
      go : (c : Bool) → ltb (capacity_of table) (length (table_of (files_in (judged_in s heap)))) ≡ c → line_if c (line (length (judged_in s heap)) TableRoom Nowhere) ≡ x ∷ xs
          → MoreIds (capacity_of table) (judged_in s heap)
      go true q z = more-ids (judged_in s heap) (capacity_of table) (ltb-true (capacity_of table) (length (table_of (files_in (judged_in s heap)))) q)
      go false q z = absurd (let y : ◌≡◌ {A = ℕ} 0 1 = cc in omega arith)
