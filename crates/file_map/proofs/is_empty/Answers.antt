use mathlib.Core.Bool.{Bool, true, false, not, ◌&&◌, ◌||◌}
use mathlib.Core.Path.{◌≡◌, refl}
use lib.Dec.{eqb}
use Rattle.rules.specs.Base.{zeros, any}
use Rattle.rules.specs.FileMap.{is_empty}
use Rattle.file_map.proofs.is_empty.Goals as goal

-- all seven hold, or one does not
all-seven : (a b c d e f g : Bool)
    → (a && b && c && d && e && f && g) ≡ not (not a || (not b || (not c || (not d || (not e || (not f || (not g || false)))))))
all-seven false b c d e f g = refl
all-seven true false c d e f g = refl
all-seven true true false d e f g = refl
all-seven true true true false e f g = refl
all-seven true true true true false f g = refl
all-seven true true true true true false g = refl
all-seven true true true true true true false = refl
all-seven true true true true true true true = refl

pub returns : goal.returns
unfolding is_empty zeros any
returns c =
    let r = c.args.r in
    let l = r.label in
    all-seven (eqb l.lsn 0) (eqb l.trailer_offset 0) (eqb l.file_size 0) (eqb l.present_objects 0) (eqb l.generation 0) (eqb r.live 0)
    (eqb r.synced 0)
