use mathlib.Core.Path.{sym, ap, refl, ◌∙◌}
use mathlib.Core.List.{List}
use Rattle.rules.specs.Base.{any}
use Rattle.rules.specs.Trailer.{entries_in}
use Rattle.rules.specs.Reopen.{not_rising}
use Rattle.reopen_tests.specs.Ascending.{file_falls}
use Rattle.reopen_tests.specs.Shown.{file_seen, shown-empty, shown-file, file-of}
use Rattle.reopen_tests.proofs.TestTurns.{any-one}
use Prim.Native.Nat.{ℕ}
use Rattle.reopen_tests.proofs.rising.slot_falls.Goals as goal

pub returns-then-no_file : goal.returns-then-no_file
unfolding any
returns-then-no_file c =
    let a = c.args in
    rw (shown-empty a.slot.now a.l c.requires (sym c.no_file.ensures ∙ c.if-no_file.true)) refl

pub trailer_part-requires : goal.trailer_part-requires
trailer_part-requires c =
    let a = c.args in
    let w = shown-file a.slot.now a.l c.requires (sym c.no_file.ensures ∙ c.if-no_file.false) in
    record { file = w.bounds.size; objects = w.bounds.offset }

pub falls-requires : goal.falls-requires
falls-requires c =
    let a = c.args in
    let w = shown-file a.slot.now a.l c.requires (sym c.no_file.ensures ∙ c.if-no_file.false) in
    rw c.trailer_part.ensures w.fits

pub returns : goal.returns
returns c =
    let a = c.args in
    let w = shown-file a.slot.now a.l c.requires (sym c.no_file.ensures ∙ c.if-no_file.false) in
    c.falls.ensures ∙ ap (λ (bytes : List ℕ). not_rising (entries_in bytes)) c.trailer_part.ensures
    ∙ sym (any-one file_falls (file_seen a.l a.slot.now)) ∙ ap (any file_falls) (sym (file-of a.slot.now a.l w))
