-- The files that a group comes to, by the numbers of the pieces.
use Rattle.std.specs.Prelude.{◌≡◌, ◌≤◌}
use Rattle.std.proofs.Common.{sym, ap, ◌∙◌}
use Rattle.std.proofs.Math.Path.{fun_ext}
use Rattle.rules.specs.Base.{List, map, ℕ, length}
use Rattle.rules.specs.Ops.{Op}
use Rattle.rules.specs.Maintenance.{files_of}
use Rattle.gc_split.specs.Tally.{tally_of, empty_tally, order_of, pieces_of}
use Rattle.gc_split.proofs.PieceLaws.{split-files}
use Rattle.gc_files.specs.Places.{placed_ops, filed_ops, pieces_along}
use Rattle.gc_files.specs.PlaceLaws.{filed-piece}

-- each file is the placed operations with one number, in order
pub files-filed : (target slot_size : ℕ) (heap ids places pieces : List ℕ) → length ids ≤ length pieces
    → (tally_of target slot_size (placed_ops heap ids places)).totals.files ≤ 256
    → files_of target (placed_ops heap ids places)
    ≡ map (λ (q : ℕ). filed_ops q heap ids places (pieces_along target slot_size heap ids places pieces empty_tally)) (order_of (tally_of target slot_size (placed_ops heap ids places)))
unfolding pieces_of
files-filed target slot_size heap ids places pieces wide room =
    split-files target slot_size (placed_ops heap ids places) room
    ∙ ap (λ (f : ℕ → List Op). map f (order_of (tally_of target slot_size (placed_ops heap ids places))))
    (fun_ext (λ q. sym (filed-piece target slot_size q heap ids places pieces empty_tally wide)))
