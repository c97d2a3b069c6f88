use mathlib.Core.Path.{sym, ap, ◌∙◌}
use mathlib.Core.Bool.{not}
use Rattle.stored_object.specs.Objects.{Walked, told-by, header-begins, header-fits}
use Rattle.file_faults.proofs.Walks.{cut-passes, short-passes, walked_end, walked-cut, gone-ended, gone-here}
use native.Mathlib.Omega.{arith}
use Rattle.file_faults.proofs.entries.none_here.Goals as goal

pub overflow_sub-o : goal.overflow_sub-o
overflow_sub-o c =
    let a = c.args in
    let w : Walked a.objects.now a.at c.in-Here.o = told-by _ _ _ (sym c.step.ensures ∙ c.in-Here.is) in
    omega (arith, (header-fits _ _ _ w).0)

pub returns-then-o : goal.returns-then-o
returns-then-o c =
    let a = c.args in
    let objects = a.objects.now in
    let h = c.in-Here.o in
    let w : Walked a.objects.now a.at c.in-Here.o = told-by _ _ _ (sym c.step.ensures ∙ c.in-Here.is) in
    let r = header-fits objects a.at h w in
    sym (ap not (gone-ended objects a.e a.at c.requires.2 (walked-cut objects a.at (header-begins objects a.at h w) (short-passes objects a.at h w (omega arith)))))

pub returns-in-End : goal.returns-in-End
returns-in-End c =
    let a = c.args in
    let objects = a.objects.now in
    let past = told-by objects a.at _ (sym c.step.ensures ∙ c.in-End.is) in
    sym (ap not (gone-ended objects a.e a.at c.requires.2 (walked_end objects a.at past)))

pub returns-in-HeaderCut : goal.returns-in-HeaderCut
returns-in-HeaderCut c =
    let a = c.args in
    let objects = a.objects.now in
    let cut = told-by objects a.at _ (sym c.step.ensures ∙ c.in-HeaderCut.is) in
    sym (ap not (gone-ended objects a.e a.at c.requires.2 (walked-cut objects a.at cut.begins (cut-passes objects a.at cut))))

pub returns-else-o : goal.returns-else-o
returns-else-o c =
    let a = c.args in
    let objects = a.objects.now in
    let h = c.in-Here.o in
    let w : Walked a.objects.now a.at c.in-Here.o = told-by _ _ _ (sym c.step.ensures ∙ c.in-Here.is) in
    let r = header-fits objects a.at h w in
    ap not (sym (gone-here objects a.e a.at c.requires.2 h w (omega arith) c.requires.0 c.requires.1))
