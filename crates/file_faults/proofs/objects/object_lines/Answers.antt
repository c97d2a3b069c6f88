use mathlib.Core.Path.{◌≡◌, refl, sym, ap, ◌∙◌}
use mathlib.Core.Bool.{Bool, true, false, not}
use Rattle.std.proofs.Common.{Option, None, Some, MatchOption, is_some}
use mathlib.Core.List.{List, [], ◌∷◌, ◌++◌}
use Prim.Native.Nat.{ℕ, ◌+◌, ◌<◌, ◌-◌, ◌≤◌, zero-le}
use lib.ListN.{length, drop}
use Rattle.rules.specs.Base.{any}
use Rattle.stored_object.specs.declared.Header.{Header}
use Rattle.rules.specs.Object.{stored_at, bad_checksum}
use Rattle.rules.specs.Trailer.{count_in, entries_in}
use Rattle.stored_object.specs.Objects.{Walked, CutOff, told-by, header-begins, header-fits}
use Rattle.faults.specs.Faults.{line}
use Rattle.file_faults.specs.Types.{CutShort, Object, Fault}
use Rattle.file_faults.proofs.Telling.{tells_none, tells_as, going_start, going-as, going_on, going-last}
use Rattle.file_faults.specs.Walks.{object_lines, entered_as}
use Rattle.file_faults.proofs.Walks.{cut-passes, short-passes, lines_from, lines_start, lines_end, lines_cut, lines-on}
use native.Mathlib.Omega.{arith}
use Rattle.file_faults.proofs.objects.object_lines.Goals as goal
use Rattle.file_faults.proofs.objects.object_lines.Goals.{in-Some, in_default}

pub loop-listing-init : goal.loop-listing-init
loop-listing-init c = let a = c.args in
    (zero-le, zero-le, refl, going-as (sym (lines_start a.slot (entries_in a.trailer.now) a.objects.now)) going_start)

pub returns-in-End : goal.returns-in-End
returns-in-End c =
    let a = c.args in
    let past = told-by a.objects.now c.loop-listing.position _ (sym c.step.ensures ∙ c.in-End.is) in
    going-last (going-as (lines_end a.slot (entries_in a.trailer.now) a.objects.now c.loop-listing.position past) c.loop-listing.invariant.3) (tells_none c.loop-listing.told c.loop-listing.listing)

-- bytes too few for a header: 16, and the walk ends
cut_off : (slot : ℕ) (trailer objects : List ℕ) (position : ℕ) → CutOff objects position
    → lines_from slot (entries_in trailer) objects position ≡ line slot CutShort (Object position) ∷ []
cut_off slot trailer objects position cut =
    lines_cut slot (entries_in trailer) objects position cut.begins (cut-passes objects position cut)

pub note-requires : goal.note-requires
note-requires c =
    let a = c.args in
    let p = c.loop-listing.position in
    let cut : CutOff a.objects.now p = told-by a.objects.now p _ (sym c.step.ensures ∙ c.in-HeaderCut.is) in
    omega (arith, (going-as (cut_off a.slot a.trailer.now a.objects.now p cut) c.loop-listing.invariant.3).count, c.requires.objects_bound)

pub returns-in-HeaderCut : goal.returns-in-HeaderCut
returns-in-HeaderCut c =
    let a = c.args in
    let p = c.loop-listing.position in
    let cut : CutOff a.objects.now p = told-by a.objects.now p _ (sym c.step.ensures ∙ c.in-HeaderCut.is) in
    going-last (going-as (cut_off a.slot a.trailer.now a.objects.now p cut) c.loop-listing.invariant.3) (tells_as (ap (λ (x : Fault). x ∷ []) c.at_object.ensures) c.note.ensures)

-- its body passes T: 16, and the walk ends
too_short : (slot : ℕ) (trailer objects : List ℕ) (position : ℕ) (h : Header) → Walked objects position h → h.room - 20 < h.size
    → lines_from slot (entries_in trailer) objects position ≡ line slot CutShort (Object position) ∷ []
too_short slot trailer objects position h w short =
    let r = header-fits objects position h w in
    lines_cut slot (entries_in trailer) objects position (header-begins objects position h w)
    (short-passes objects position h w (omega arith))

-- it does not, and ends within
whole : (objects : List ℕ) (position : ℕ) (h : Header) → Walked objects position h → h.size ≤ h.room - 20
    → (20 + h.size ≤ h.room) × (position + (20 + h.size) ≤ length objects)
whole objects position h w low =
    let r = header-fits objects position h w in
    (omega arith, omega arith)

pub overflow_sub-h : goal.overflow_sub-h
overflow_sub-h c =
    let a = c.args in
    let p = c.loop-listing.position in
    let h = c.in-Here.h in
    let w : Walked a.objects.now p h = told-by _ _ _ (sym c.step.ensures ∙ c.in-Here.is) in
    omega (arith, (header-fits _ _ _ w).0)

pub note-requires-then-h : goal.note-requires-then-h
note-requires-then-h c =
    let a = c.args in
    let p = c.loop-listing.position in
    let h = c.in-Here.h in
    let w : Walked a.objects.now p h = told-by _ _ _ (sym c.step.ensures ∙ c.in-Here.is) in
    omega (arith, (going-as (too_short a.slot a.trailer.now a.objects.now p h w c.if-h.true) c.loop-listing.invariant.3).count, c.requires.objects_bound)

pub returns-then-h : goal.returns-then-h
returns-then-h c =
    let a = c.args in
    let p = c.loop-listing.position in
    let h = c.in-Here.h in
    let w : Walked a.objects.now p h = told-by _ _ _ (sym c.step.ensures ∙ c.in-Here.is) in
    going-last (going-as (too_short a.slot a.trailer.now a.objects.now p h w c.if-h.true) c.loop-listing.invariant.3) (tells_as (ap (λ (x : Fault). x ∷ []) c.at_object-then-h.ensures) c.note-then-h.ensures)

-- its lines, and those behind it
further : (slot : ℕ) (trailer objects : List ℕ) (p : ℕ) (h : Header) (missing : Bool) → Walked objects p h → 20 + h.size ≤ h.room
    → missing ≡ not (any (entered_as h.id p) (entries_in trailer))
    → lines_from slot (entries_in trailer) objects p
    ≡ object_lines slot p (bad_checksum (stored_at p (drop p objects))) missing ++ lines_from slot (entries_in trailer) objects (p + (20 + h.size))
further slot trailer objects p h missing w low said =
    let es = entries_in trailer in
    lines-on slot es objects p h w low
    ∙ ap (λ (t : Bool). object_lines slot p (bad_checksum (stored_at p (drop p objects))) t ++ lines_from slot es objects (p + (20 + h.size))) (sym said)

pub object_line-told-requires : goal.object_line-told-requires
object_line-told-requires c =
    let a = c.args in
    let p = c.loop-listing.position in
    let h = c.in-Here.h in
    let w : Walked a.objects.now p h = told-by _ _ _ (sym c.step.ensures ∙ c.in-Here.is) in
    record {
      walked = w;
      size_bound = (whole a.objects.now p h w c.if-h.false).0;
      count_bound = omega (arith, c.loop-listing.invariant.3.count, c.requires.objects_bound);
    }

pub overflow_add-position-in-Here : goal.overflow_add-position-in-Here
overflow_add-position-in-Here c =
    let a = c.args in
    let p = c.loop-listing.position in
    let h = c.in-Here.h in
    let w : Walked a.objects.now p h = told-by _ _ _ (sym c.step.ensures ∙ c.in-Here.is) in
    omega (arith, whole a.objects.now p h w c.if-h.false, c.well_formed)

pub loop-listing-smaller : goal.loop-listing-smaller
loop-listing-smaller c =
    let a = c.args in
    let p = c.loop-listing.position in
    let h = c.in-Here.h in
    let w : Walked a.objects.now p h = told-by _ _ _ (sym c.step.ensures ∙ c.in-Here.is) in
    omega (arith, whole a.objects.now p h w c.if-h.false)

-- no entry was found exactly where none stands there
is-missing : (found : Option ℕ) (missing entered : Bool) (n : ℕ) → is_some found ≡ not missing → MatchOption found (entered ≡ false) (λ k. (k < n) × (entered ≡ true)) → missing ≡ not entered
is-missing None true entered n e h = rw h refl
is-missing None false entered n e h = cc
is-missing (Some k) true entered n e h = cc
is-missing (Some k) false entered n e h = rw h.1 refl

pub loop-listing-preserved : goal.loop-listing-preserved
loop-listing-preserved c =
    let a = c.args in
    let p = c.loop-listing.position in
    let h = c.in-Here.h in
    let w : Walked a.objects.now p h = told-by _ _ _ (sym c.step.ensures ∙ c.in-Here.is) in
    let said = is-missing c.seek-found.result c.is_none.result _ _ c.is_none.ensures c.seek-found.ensures in
    let next : c.match-found.cursor ≤ count_in a.trailer.now
    = elim c.match-found.branch [ in-Some w ↦ omega (arith, (rw w.in-Some.is at c.seek-found.ensures).0, w.cursor-is) | in_default w ↦ omega (arith, c.loop-listing.invariant.1) ] in
    ((whole a.objects.now p h w c.if-h.false).1, next, c.object_line-told.auto.listing ∙ c.loop-listing.invariant.2, going_on (going-as (further a.slot a.trailer.now a.objects.now p h _ w (whole a.objects.now p h w c.if-h.false).0 said) c.loop-listing.invariant.3) c.object_line-told.ensures)
