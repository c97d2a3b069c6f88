-- Request P9: a salvage cut behind any of its stores, and a second one.
use Rattle.numbers.specs.Parts.{front}
use Rattle.std.specs.Prelude.{◌∷◌}
use Rattle.rules.specs.Base.{List, [], ℕ, length, each}
use Rattle.rules.specs.World.{accepted}
use Rattle.losses.specs.Salvage.{loss_words, Salvaged}
use Rattle.salvage_theory.specs.Types.{Loss}

-- what a salvage in range answers and leaves, where this is the report and this the heap after its stores
abbrev pub gave_up : List Loss → List ℕ → List ℕ → Salvaged
gave_up report words heap = record { answer = accepted (length report ∷ []); report = front (each loss_words report) words; heap = heap }
