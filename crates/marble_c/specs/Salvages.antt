-- What a salvage leaves, as a host in C has it.
use Rattle.std.specs.Prelude.{◌≡◌}
use Rattle.std.proofs.Common.{ap, ◌∙◌}
use Rattle.rules.specs.Base.{List, ℕ}
use Rattle.rules.specs.World.{Given}
use Rattle.losses.specs.Salvage.{Salvaged}
use Rattle.as_numbers.specs.Shown.{shown}

-- number and out-parameter, the report's words, the heap
abbrev pub rescue : Given → List ℕ → List ℕ → Salvaged
rescue answer report heap = record { answer = answer; report = report; heap = heap }

-- the out-parameter is 0 where the call is refused
abbrev pub shown_rescue : Salvaged → Salvaged
shown_rescue x = rescue (shown 1 x.answer) x.report x.heap

-- of a result and what it leaves
pub rescue-shown : (x y : Salvaged) (g : Given) → x ≡ y → g ≡ shown 1 x.answer → rescue g x.report x.heap ≡ shown_rescue y
rescue-shown x y g e f = ap (λ (h : Given). rescue h x.report x.heap) f ∙ ap shown_rescue e
