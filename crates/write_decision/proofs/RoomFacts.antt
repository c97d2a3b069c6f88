-- What is known of a batch that passed 1 to 3, and of its sizes where a slot has room for its file.
use Rattle.std.proofs.Common.{◌≡◌, ap, ◌∙◌, ℕ, ◌+◌, ◌^◌, ◌<◌, Bool, List, ltb, length, Some, arith}
use Rattle.rules.specs.declared.Settings.{Settings}
use Rattle.rules.specs.declared.State.{State}
use Rattle.rules.specs.Ops.{settled}
use Rattle.rules.proofs.OpsLaws.{file-length}
use Rattle.rules.proofs.SettledLaws.{settled-rising}
use Rattle.rules.specs.Layout.{Table, used_entries, capacity_of}
use Rattle.rules.specs.Write.{too_many_ids}
use Rattle.rules.specs.Condition1Laws.{Passed}
use Rattle.rules.proofs.Condition1Laws.{passed}
use Rattle.location_table.specs.Tables.{Formed}
use Rattle.limits.specs.Settled.{passed-formed}
use Rattle.batch.specs.Reading.{ops_in}
use Rattle.write_decision.specs.declared.BatchSizes.{BatchSizes}
use Rattle.write_decision.specs.NewIds.{new-few, too-many-new}
use Rattle.write_decision.specs.Sizes.{sizes_of}
use Rattle.write_decision.specs.SizeLaws.{Told, fits_told}
use Rattle.write_decision.specs.Decisions.{Parsed}

module _ {s : Settings} {t : State} {heap : List ℕ} {b : Table} {bytes : List ℕ} (p : Parsed s t heap b bytes) where
  pub clear : Passed s (length heap) b t
  clear = passed s (length heap) b t p.passed

  pub formed : Formed b
  formed = passed-formed s _ b t clear

  module _ {n : BatchSizes} (e : sizes_of s.slot_bytes (used_entries b) (settled (ops_in bytes)) ≡ Some n) where
    pub told : Told s.slot_bytes (used_entries b) (settled (ops_in bytes)) n
    told = fits_told s.slot_bytes (used_entries b) (settled (ops_in bytes)) n e

    -- its numbers are small
    pub sizes-small : (n.new < 2 ^ 63) × (n.total + 1 < 2 ^ 64)
    sizes-small =
        let high = clear.limits.settings.slot-high in
        let size = file-length (settled (ops_in bytes)) in
        let few = new-few (used_entries b) (settled (ops_in bytes)) in
        (omega (arith, told.ids, told.fits), omega (arith, told.objects, told.fits))

    -- its new ids say 6
    pub many : {r : Bool} → r ≡ ltb (capacity_of b) (length (used_entries b) + n.new) → r ≡ too_many_ids (capacity_of b) (used_entries b) (settled (ops_in bytes))
    many h =
        h ∙ ap (λ (k : ℕ). ltb (capacity_of b) (length (used_entries b) + k)) told.ids
        ∙ too-many-new b (settled (ops_in bytes)) formed (settled-rising (ops_in bytes))
