use mathlib.Core.Bool.{Bool, true, false, ◌&&◌}
use mathlib.Core.Path.{◌≡◌, refl, ap, ◌∙◌}
use lib.Dec.{eqb}
use Rattle.rules.specs.Settings.{same_settings}
use Rattle.limits.specs.Settled.{the_states}
use Rattle.limits.proofs.the_states.Goals as goal

-- six tests from the right, as a derived equality has them, are the six from the left
all-six : (a b c d e f : Bool) → (a && (b && (c && (d && (e && f))))) ≡ (a && b && c && d && e && f)
all-six false b c d e f = refl
all-six true false c d e f = refl
all-six true true false d e f = refl
all-six true true true false e f = refl
all-six true true true true e f = refl

pub returns : goal.returns
unfolding the_states same_settings
returns c =
    let s = c.args.s in
    let t = c.args.rest in
    let same = c.eq.ensures ∙ all-six (eqb s.slot_bytes t.settings.slot_bytes) (eqb s.file_compaction_percent t.settings.file_compaction_percent) (eqb s.min_compaction_files t.settings.min_compaction_files) (eqb s.target_file_size t.settings.target_file_size) (eqb s.small_file_cleanup_threshold t.settings.small_file_cleanup_threshold) (eqb s.max_object_size t.settings.max_object_size) in
    ap (λ (b : Bool). b && eqb c.args.heap t.heap_len && eqb c.args.entries t.table_len) same
