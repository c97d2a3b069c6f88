-- A list of lines all of which are such, where no line without a position is: what that says slot by slot, and back.
use Rattle.std.specs.Prelude.{◌≡◌, refl, ◌∷◌, ◌++◌, ◌+◌}
use Rattle.std.proofs.Common.{sym, ap, ◌∙◌, subst, true≢false, append-nil, arith}
use Rattle.rules.specs.Base.{Bool, true, false, List, [], map, ℕ, zero, suc, length, ltb, pick, any, each}
use Rattle.rules.specs.BaseLaws.{All}
use Rattle.rules.proofs.BaseLaws.{all_map, all_both, all_append, or-false, or-clear, any_false, any-clear, any_append}
use Rattle.rules.specs.Refusal.{NoneHolds}
use Rattle.rules.specs.SlotFile.{File, View, empty, damaged, holds}
use Rattle.rules.specs.Layout.{Table, capacity_of}
use Rattle.rules.specs.Reopen.{file_of, files_in, meets, overlapping, not_rising, table_of}
use Rattle.theory.specs.Types.{Settings, TableRoom, Overlap, NotRising}
use Rattle.theory.specs.Places.{view_at}
use Rattle.theory.proofs.Places.{holds-inj, not-empty}
use Rattle.theory.proofs.Files.{no-file}
use Rattle.check_theory.specs.Types.{Fault, Nowhere}
use Rattle.faults.specs.Faults.{judged, line, line_if, file_faults, meets_earlier, slot_faults, faults_from, closing, faults_of}
use Rattle.check_theory.proofs.Lists.{all_first, all_rest}
use Rattle.check_theory.specs.Passing.{slot_views, Placed, Passing, Whole}

-- ---- a line that may be there
line-not : (P : Fault → Type 0) (c : Bool) (l : Fault) → (P l → ⊥) → All P (line_if c l) → c ≡ false
line-not P true l n a = absurd (n a.0)
line-not P false l n a = refl

no_line : (P : Fault → Type 0) (c : Bool) (l : Fault) → c ≡ false → All P (line_if c l)
no_line P true l e = absurd (true≢false e)
no_line P false l e = tt

-- ---- one earlier file more
module _ (earlier : List File) (f : File) where
  met : (g : File) → meets_earlier (earlier ++ (f ∷ [])) g ≡ false → (meets_earlier earlier g ≡ false) × (meets f.label g.label ≡ false)
  unfolding any
  met g e =
      let w = or-false (meets_earlier earlier g) _ (sym (any_append (λ (h : File). meets h.label g.label) earlier (f ∷ [])) ∙ e) in
      (w.0, (or-false (meets f.label g.label) false w.1).0)

  not-met : (g : File) → meets_earlier earlier g ≡ false → meets f.label g.label ≡ false → meets_earlier (earlier ++ (f ∷ [])) g ≡ false
  unfolding any
  not-met g a b =
      any_append (λ (h : File). meets h.label g.label) earlier (f ∷ [])
      ∙ or-clear (meets_earlier earlier g) _ a (or-clear (meets f.label g.label) false b refl)

  behind-both : (fs : List File) → any (meets_earlier (earlier ++ (f ∷ []))) fs ≡ false
      → (any (meets_earlier earlier) fs ≡ false) × (any (λ (g : File). meets f.label g.label) fs ≡ false)
  behind-both fs h =
      let a = any_false (meets_earlier (earlier ++ (f ∷ []))) fs h in (
        any-clear (meets_earlier earlier) fs (all_map _ (λ (g : File). meets_earlier earlier g ≡ false) fs (λ g e. (met g e).0) a),
        any-clear (λ (g : File). meets f.label g.label) fs (all_map _ (λ (g : File). meets f.label g.label ≡ false) fs (λ g e. (met g e).1) a),
      )

  both_behind : (fs : List File) → any (meets_earlier earlier) fs ≡ false → any (λ (g : File). meets f.label g.label) fs ≡ false
      → any (meets_earlier (earlier ++ (f ∷ []))) fs ≡ false
  both_behind fs a b =
      any-clear (meets_earlier (earlier ++ (f ∷ []))) fs
      (all_map (λ (g : File). (meets_earlier earlier g ≡ false) × (meets f.label g.label ≡ false)) (λ (g : File). meets_earlier (earlier ++ (f ∷ [])) g ≡ false) fs
      (λ g p. not-met g p.0 p.1)
      (all_both (λ (g : File). meets_earlier earlier g ≡ false) (λ (g : File). meets f.label g.label ≡ false) fs
      (any_false (meets_earlier earlier) fs a) (any_false (λ (g : File). meets f.label g.label) fs b)))

-- ---- the lines of the files
-- one slot more
lines-on : (P : Fault → Type 0) (slot : ℕ) (v : View) (vs : List View) → ((f : File) → v ≡ holds f → All P (file_faults slot f))
    → ((k : ℕ) (f : File) → view_at vs k ≡ holds f → All P (file_faults (suc slot + k) f)) → (k : ℕ) (f : File) → view_at (v ∷ vs) k ≡ holds f → All P (file_faults (slot + k) f)
lines-on P slot v vs h t zero f e = let n : slot ≡ slot + 0 = omega arith in subst (λ (m : ℕ). All P (file_faults m f)) n (h f e)
lines-on P slot v vs h t (suc k) f e = let n : suc slot + k ≡ slot + suc k = omega arith in subst (λ (m : ℕ). All P (file_faults m f)) n (t k f e)

-- and one less
lines-back : (P : Fault → Type 0) (slot : ℕ) (v : View) (vs : List View) → ((k : ℕ) (f : File) → view_at (v ∷ vs) k ≡ holds f → All P (file_faults (slot + k) f))
    → (k : ℕ) (f : File) → view_at vs k ≡ holds f → All P (file_faults (suc slot + k) f)
lines-back P slot v vs h k f e = let n : slot + suc k ≡ suc slot + k = omega arith in subst (λ (m : ℕ). All P (file_faults m f)) n (h (suc k) f e)

-- the first slot's
lines-here : (P : Fault → Type 0) (slot : ℕ) (f : File) (vs : List View) → ((k : ℕ) (g : File) → view_at (holds f ∷ vs) k ≡ holds g → All P (file_faults (slot + k) g))
    → All P (file_faults slot f)
lines-here P slot f vs h = let n : slot + 0 ≡ slot = omega arith in subst (λ (m : ℕ). All P (file_faults m f)) n (h 0 f refl)

-- ---- slot by slot
-- LAW: all lines are such: every slot passes
pub all-passing : (P : Fault → Type 0) → Placed P → (slot : ℕ) (earlier : List File) (views : List View)
    → All P (faults_from slot earlier (map judged views)) → Passing P slot earlier views
unfolding faults_from slot_faults files_in each any overlapping NoneHolds
all-passing P n slot earlier [] a = record { undamaged = tt; rising = refl; behind = refl; clear = refl; lines = λ k f e. absurd (not-empty e) }
all-passing P n slot earlier (empty ∷ vs) a =
    let p = all-passing P n (suc slot) earlier vs (subst (λ (es : List File). All P (faults_from (suc slot) es (map judged vs))) (append-nil earlier) a) in
    record {
      undamaged = p.undamaged;
      rising = p.rising;
      behind = p.behind;
      clear = p.clear;
      lines = lines-on P slot empty vs (λ f e. absurd (not-empty e)) p.lines;
    }
all-passing P n slot earlier (damaged r ∷ vs) a = absurd (n slot r a.0)
all-passing P n slot earlier (holds f ∷ vs) a = go (not_rising f.entries) refl (λ es b. all-passing P n (suc slot) es vs b) a
  where
    go : (t : Bool) → not_rising f.entries ≡ t
        → ((es : List File) → All P (faults_from (suc slot) es (map judged vs)) → Passing P (suc slot) es vs)
        → All P (slot_faults slot earlier (pick t (damaged NotRising) (holds f)) ++ faults_from (suc slot) (earlier ++ file_of (pick t (damaged NotRising) (holds f))) (map judged vs))
        → Passing P slot earlier (holds f ∷ vs)
    go true e ih b = absurd (n slot NotRising b.0)
    go false e ih b =
        let own = all_first P (file_faults slot f ++ line_if (meets_earlier earlier f) (line slot Overlap Nowhere)) (faults_from (suc slot) (earlier ++ (f ∷ [])) (map judged vs)) b in
        let p = ih (earlier ++ (f ∷ [])) (all_rest P (file_faults slot f ++ line_if (meets_earlier earlier f) (line slot Overlap Nowhere)) (faults_from (suc slot) (earlier ++ (f ∷ [])) (map judged vs)) b) in
        let w = behind-both earlier f (files_in vs) p.behind in
        let last = line-not P (meets_earlier earlier f) (line slot Overlap Nowhere) (n slot Overlap) (all_rest P (file_faults slot f) (line_if (meets_earlier earlier f) (line slot Overlap Nowhere)) own) in
        record {
          undamaged = p.undamaged;
          rising = or-clear (not_rising f.entries) (any (λ (g : File). not_rising g.entries) (files_in vs)) e p.rising;
          behind = or-clear (meets_earlier earlier f) (any (meets_earlier earlier) (files_in vs)) last w.0;
          clear = or-clear (any (λ (g : File). meets f.label g.label) (files_in vs)) (overlapping (files_in vs)) w.1 p.clear;
          lines = lines-on P slot (holds f) vs
              (λ g q. subst (λ (h : File). All P (file_faults slot h)) (holds-inj q) (all_first P (file_faults slot f) (line_if (meets_earlier earlier f) (line slot Overlap Nowhere)) own)) p.lines;
        }

-- LAW: every slot passes: all lines are such
pub passing-all : (P : Fault → Type 0) (slot : ℕ) (earlier : List File) (views : List View)
    → Passing P slot earlier views → All P (faults_from slot earlier (map judged views))
unfolding faults_from slot_faults files_in each any overlapping NoneHolds
passing-all P slot earlier [] p = tt
passing-all P slot earlier (empty ∷ vs) p =
    subst (λ (es : List File). All P (faults_from (suc slot) es (map judged vs))) (sym (append-nil earlier))
    (passing-all P (suc slot) earlier vs
    (record { undamaged = p.undamaged; rising = p.rising; behind = p.behind; clear = p.clear; lines = lines-back P slot empty vs p.lines }))
passing-all P slot earlier (damaged r ∷ vs) p = absurd (true≢false p.undamaged.0)
passing-all P slot earlier (holds f ∷ vs) p =
    let rises = or-false (not_rising f.entries) (any (λ (g : File). not_rising g.entries) (files_in vs)) p.rising in
    let back = or-false (meets_earlier earlier f) (any (meets_earlier earlier) (files_in vs)) p.behind in
    let apart = or-false (any (λ (g : File). meets f.label g.label) (files_in vs)) (overlapping (files_in vs)) p.clear in
    subst
    (λ (t : Bool). All P (slot_faults slot earlier (pick t (damaged NotRising) (holds f)) ++ faults_from (suc slot) (earlier ++ file_of (pick t (damaged NotRising) (holds f))) (map judged vs)))
    (sym rises.0)
    (all_append P (file_faults slot f ++ line_if (meets_earlier earlier f) (line slot Overlap Nowhere)) (faults_from (suc slot) (earlier ++ (f ∷ [])) (map judged vs))
    (all_append P (file_faults slot f) (line_if (meets_earlier earlier f) (line slot Overlap Nowhere)) (lines-here P slot f vs p.lines) (no_line P (meets_earlier earlier f) (line slot Overlap Nowhere) back.0))
    (passing-all P (suc slot) (earlier ++ (f ∷ [])) vs
    (record {
      undamaged = p.undamaged;
      rising = rises.1;
      behind = both_behind earlier f (files_in vs) back.1 apart.0;
      clear = apart.1;
      lines = lines-back P slot (holds f) vs p.lines;
    })))

-- no file comes before the first slot
pub none-behind : (views : List View) → any (meets_earlier []) (files_in views) ≡ false
unfolding any
none-behind views = no-file (meets_earlier []) views (λ k f e. refl)

-- ---- the whole list
-- no file that 15 refuses: every slot shows by itself what it shows
pub judged-same : (views : List View) → any (λ (f : File). not_rising f.entries) (files_in views) ≡ false → map judged views ≡ views
unfolding files_in each any
judged-same [] h = refl
judged-same (empty ∷ vs) h = ap (λ (us : List View). empty ∷ us) (judged-same vs h)
judged-same (damaged r ∷ vs) h = ap (λ (us : List View). damaged r ∷ us) (judged-same vs h)
judged-same (holds f ∷ vs) h =
    let w = or-false (not_rising f.entries) (any (λ (g : File). not_rising g.entries) (files_in vs)) h in
    rw w.0 (ap (λ (us : List View). holds f ∷ us) (judged-same vs w.1))

module _ (P : Fault → Type 0) (s : Settings) (heap : List ℕ) (table : Table) where
  -- LAW: it says that
  pub list-whole : Placed P → All P (faults_of s heap table) → Whole P s heap table
  unfolding faults_of closing
  list-whole n a =
      let from = faults_from 0 [] (map judged (slot_views s heap)) in
      let p = all-passing P n 0 [] (slot_views s heap) (all_first P from (closing (capacity_of table) (map judged (slot_views s heap))) a) in
      let same = judged-same (slot_views s heap) p.rising in
      record {
        slots = p;
        room = line-not P (ltb (capacity_of table) (length (table_of (files_in (slot_views s heap))))) (line (length (slot_views s heap)) TableRoom Nowhere) (n (length (slot_views s heap)) TableRoom)
            (subst (λ (vs : List View). All P (closing (capacity_of table) vs)) same (all_rest P from (closing (capacity_of table) (map judged (slot_views s heap))) a));
      }

  -- LAW: and only that
  pub whole-list : Whole P s heap table → All P (faults_of s heap table)
  unfolding faults_of closing
  whole-list w =
      let same = judged-same (slot_views s heap) w.slots.rising in
      all_append P (faults_from 0 [] (map judged (slot_views s heap))) (closing (capacity_of table) (map judged (slot_views s heap)))
      (passing-all P 0 [] (slot_views s heap) w.slots)
      (subst (λ (vs : List View). All P (closing (capacity_of table) vs)) (sym same) (no_line P (ltb (capacity_of table) (length (table_of (files_in (slot_views s heap))))) (line (length (slot_views s heap)) TableRoom Nowhere) w.room))
