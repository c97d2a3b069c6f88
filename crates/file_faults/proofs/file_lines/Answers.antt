use mathlib.Core.Path.{◌≡◌, sym, ap, ap₂, ◌∙◌, subst}
use mathlib.Core.List.{List}
use Prim.Native.Nat.{ℕ, ◌+◌, ◌*◌, ◌≤◌}
use lib.ListN.{length, length-append}
use Rattle.rules.specs.Base.{each}
use Rattle.rules.specs.Object.{objects_in}
use Rattle.rules.specs.SlotFile.{object_part, trailer_part}
use Rattle.rules.specs.Trailer.{count_in, entries_in}
use Rattle.reopen_tests.specs.Shown.{file_seen}
use Rattle.faults.specs.Faults.{object_faults, entry_faults, file_faults}
use Rattle.rules.specs.declared.Label.{Label}
use Rattle.file_faults.specs.Types.{Fault}
use Rattle.file_faults.proofs.Telling.{tells_as, tells-then}
use Rattle.file_faults.specs.Walks.{walked_from}
use Rattle.file_faults.proofs.Walks.{file-lines}
use native.Mathlib.Omega.{arith}
use Rattle.file_faults.proofs.file_lines.Goals as goal

-- the lines of a file's objects, and of its entries
abbrev of_objects : ℕ → List ℕ → List ℕ → List Fault
of_objects number trailer objects = each (object_faults number (entries_in trailer)) (objects_in objects)

abbrev of_entries : ℕ → List ℕ → List ℕ → List Fault
of_entries number trailer objects = each (entry_faults number (walked_from objects 0)) (entries_in trailer)

-- together they are all
in_all : (number : ℕ) (l : Label) (slot : List ℕ)
    → length (file_faults number (file_seen l slot)) ≡ length (of_objects number (trailer_part l slot) (object_part l slot)) + length (of_entries number (trailer_part l slot) (object_part l slot))
in_all number l slot =
    ap length (sym (file-lines number (file_seen l slot))) ∙ length-append (of_objects number (trailer_part l slot) (object_part l slot)) (of_entries number (trailer_part l slot) (object_part l slot))

-- of the parts that were lent
parts-are : (of : ℕ → List ℕ → List ℕ → List Fault) (number : ℕ) (trailer objects t o : List ℕ) → t ≡ trailer → o ≡ objects
    → of number t o ≡ of number trailer objects
parts-are of number trailer objects t o e f = ap₂ (of number) e f

pub object_part-objects-requires : goal.object_part-objects-requires
object_part-objects-requires c =
    let w = c.requires.file_at.bounds in
    record { file = w.size; objects = w.offset }

pub trailer_part-trailer-requires : goal.trailer_part-trailer-requires
trailer_part-trailer-requires c =
    let w = c.requires.file_at.bounds in
    record { file = w.size; objects = w.offset }

pub object_lines-told-requires : goal.object_lines-told-requires
object_lines-told-requires c =
    let a = c.args in record {
      trailer_in_bounds = subst (λ (s : List ℕ). 12 + 16 * count_in s ≤ length s) (sym c.trailer_part-trailer.ensures) c.requires.file_at.fits;
      objects_bound = omega (arith, c.requires.slot_bound, in_all a.number a.l a.slot.now, ap length (parts-are of_objects a.number _ _ _ _ c.trailer_part-trailer.ensures c.object_part-objects.ensures));
    }

pub entry_lines-requires : goal.entry_lines-requires
entry_lines-requires c =
    let a = c.args in record {
      trailer_in_bounds = subst (λ (s : List ℕ). 12 + 16 * count_in s ≤ length s) (sym c.trailer_part-trailer.ensures) c.requires.file_at.fits;
      trailer_bound = omega (arith, c.requires.slot_bound, in_all a.number a.l a.slot.now, ap length (parts-are of_objects a.number _ _ _ _ c.trailer_part-trailer.ensures c.object_part-objects.ensures), ap length (parts-are of_entries a.number _ _ _ _ c.trailer_part-trailer.ensures c.object_part-objects.ensures), c.object_lines-told.ensures.count);
    }

pub returns : goal.returns
returns c =
    let a = c.args in
    tells_as (file-lines a.number (file_seen a.l a.slot.now)) (tells-then (tells_as (parts-are of_objects a.number _ _ _ _ c.trailer_part-trailer.ensures c.object_part-objects.ensures) c.object_lines-told.ensures) (tells_as (parts-are of_entries a.number _ _ _ _ c.trailer_part-trailer.ensures c.object_part-objects.ensures) c.entry_lines.ensures))
