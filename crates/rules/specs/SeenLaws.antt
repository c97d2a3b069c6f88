-- What a slot that holds a file tells: the file is its label's and trailer's, within 8's to 13's bounds.
use Rattle.std.specs.Prelude.{◌≡◌}
use Rattle.rules.specs.Base.{List, ℕ, length, take}
use Rattle.rules.specs.Types.{Five}
use Rattle.rules.specs.Refusal.{NoneHolds}
use Rattle.rules.specs.TableLaws.{Has}
use Rattle.rules.specs.Trailer.{trailer_tests}
use Rattle.rules.specs.TrailerLaws.{WellPlaced}
use Rattle.rules.specs.Label.{label_in}
use Rattle.rules.specs.LabelLaws.{InBounds}
use Rattle.rules.specs.SlotFile.{object_part, trailer_part, trailer_entries, File}

-- the file in a slot
pub record Seen (slot : List ℕ) (f : File) : Type 0 where
  pub label : label_in (take 64 slot) ≡ Five f.label
  pub entries : trailer_entries f.label slot ≡ f.entries
  pub objects : object_part f.label slot ≡ f.objects
  pub bounds : InBounds (length slot) f.label
  pub trailer : NoneHolds (trailer_tests (trailer_part f.label slot))
  pub inside : (x l : ℕ) → Has f.entries x l → WellPlaced f.label.trailer_offset l
  pub present : f.label.present_objects ≡ length f.entries
