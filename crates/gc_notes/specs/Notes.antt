-- The lent notes: when they are too short, and how a call leaves them.
use Rattle.std.specs.Prelude.{◌≡◌, refl, ◌⊎◌, ◌≤◌, ◌<◌}
use Rattle.std.proofs.Common.{sym, ap, ◌∙◌, true≢false, inl, inr, arith, le-leb, lt-ltb, le-ltb, ltb-false, ne_eqb}
use Rattle.std.proofs.lemmas.Bool.{lt-leb}
use Rattle.rules.specs.Base.{true, false, List, ℕ, length, replicate, ltb}
use Rattle.numbers.specs.GroupLaws.{either_way}
use Rattle.rules.specs.Layout.{Table, capacity_of}
use Rattle.rules.specs.TwoCalls.{room_of, short, notes_left}
use Rattle.rules.specs.World.{Given}

module _ (places pieces : List ℕ) (table : Table) where
  -- too few places
  pub places-short : length places < capacity_of table → short (room_of places pieces) table ≡ true
  places-short h = go (either_way (length pieces) (length places))
    where
      go : (length pieces < length places) ⊎ (length places ≤ length pieces) → short (room_of places pieces) table ≡ true
      go (inl l) = rw (lt-leb (length places) (length pieces) l) (lt-ltb (length pieces) (capacity_of table) (omega arith))
      go (inr l) = rw (le-leb (length places) (length pieces) l) (lt-ltb (length places) (capacity_of table) h)

  -- places enough: the pieces decide
  pub pieces-decide : capacity_of table ≤ length places → short (room_of places pieces) table ≡ ltb (length pieces) (capacity_of table)
  pieces-decide h = go (either_way (length pieces) (length places))
    where
      go : (length pieces < length places) ⊎ (length places ≤ length pieces) → short (room_of places pieces) table ≡ ltb (length pieces) (capacity_of table)
      go (inl l) = rw (lt-leb (length places) (length pieces) l) refl
      go (inr l) =
          rw (le-leb (length places) (length pieces) l)
          (le-ltb (length places) (capacity_of table) h ∙ sym (le-ltb (length pieces) (capacity_of table) (omega arith)))

  -- not too short: a note of each kind for each entry
  pub long-enough : short (room_of places pieces) table ≡ false → (capacity_of table ≤ length places) × (capacity_of table ≤ length pieces)
  long-enough e = go (either_way (length places) (capacity_of table))
    where
      go : (length places < capacity_of table) ⊎ (capacity_of table ≤ length places) → (capacity_of table ≤ length places) × (capacity_of table ≤ length pieces)
      go (inl l) = absurd (true≢false (sym (places-short l) ∙ e))
      go (inr l) = (l, ltb-false (length pieces) (capacity_of table) (sym (pieces-decide l) ∙ e))

  -- and back
  pub enough-long : capacity_of table ≤ length places → capacity_of table ≤ length pieces → short (room_of places pieces) table ≡ false
  enough-long h l = pieces-decide h ∙ le-ltb (length pieces) (capacity_of table) l

-- a list of notes cleared after an answer other than 1
pub notes-cleared : (g : Given) (notes midway after : List ℕ) → (g.number ≡ 1 → ⊥) → length midway ≡ length notes → after ≡ replicate (length midway) 0
    → after ≡ notes_left g notes
notes-cleared g notes midway after h l e = rw (ne_eqb g.number 1 h) (e ∙ ap (λ (n : ℕ). replicate n 0) l)
