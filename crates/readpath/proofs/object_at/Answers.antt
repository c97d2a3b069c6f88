use mathlib.Core.Path.{◌≡◌, sym, ap, ◌∙◌}
use mathlib.Core.List.{List}
use Prim.Native.Nat.{ℕ}
use borrow.Author.Rules.{rules}
use lib.ListN.{drop}
use Rattle.rules.specs.SlotFile.{bytes_of_slot, file_in}
use Rattle.rules.specs.Object.{stored_at}
use Rattle.stored_object.specs.Answers.{BodyAnswer}
use Rattle.stored_object.specs.Objects.{body_of}
use Rattle.readpath.specs.ReadLaws.{file-length, body-in}
use Rattle.readpath.proofs.object_at.Goals as goal

-- what was read is the file's
told : (id position : ℕ) (file part : List ℕ) (r : BodyAnswer) → part ≡ file → r ≡ body_of id (stored_at position (drop position part))
    → body_of id (stored_at position (drop position file)) ≡ r
told id position file part r at said = sym (ap (λ (f : List ℕ). body_of id (stored_at position (drop position f))) at) ∙ sym said

pub overflow_add-result-2 : goal.overflow_add-result-2
overflow_add-result-2 c =
    let a = c.args in
    let lies = c.requires in
    let b = body-in a.id a.position (file_in a.l (bytes_of_slot a.slot_bytes a.heap.now a.slot)) _ _ (told a.id a.position (file_in a.l (bytes_of_slot a.slot_bytes a.heap.now a.slot)) _ _ c.file_part-file.ensures c.read.ensures ∙ c.in_ok-start.was) in
    let low = b.body in
    let fit = lies.file in
    let slot = lies.slot in
    let all = file-length a.slot_bytes a.l a.slot a.heap.now lies in
    search rules
