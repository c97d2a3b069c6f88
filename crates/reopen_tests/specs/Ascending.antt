-- 15, and the trailers for which it need not be asked.
use Rattle.std.specs.Prelude.{◌≡◌, refl, ◌<◌, ◌&&◌, ◌∷◌}
use Rattle.std.proofs.Common.{arith, ltb-true, ne_eqb}
use Rattle.rules.specs.Base.{Bool, true, false, List, [], ℕ, leb, ltb, eqb, any}
use Rattle.rules.specs.BaseLaws.{All}
use Rattle.rules.proofs.BaseLaws.{and-true, or-clear, all_map, any-clear}
use Rattle.reopen_tests.specs.Types.{Entry}
use Rattle.rules.specs.SlotFile.{File}
use Rattle.disk_location.specs.Locations.{position_of}
use Rattle.rules.specs.Reopen.{not_rising}

-- d, which comes later, is of e's id and not above it
abbrev pub repeats : Entry → Entry → Bool
repeats e d = eqb d.id e.id && leb (position_of d.location) (position_of e.location)

-- a file that 15 refuses
abbrev pub file_falls : File → Bool
file_falls f = not_rising f.entries

-- ids strictly rising, above a last one
unfoldable pub ascending_from : ℕ → List Entry → Bool
ascending_from last [] = true
ascending_from last (e ∷ es) = ltb last e.id && ascending_from e.id es

-- ids strictly rising
abbrev pub ascending : List Entry → Bool
ascending [] = true
ascending (e ∷ es) = ascending_from e.id es

-- every id there is above the last one
above : (last : ℕ) (es : List Entry) → ascending_from last es ≡ true → All (λ (d : Entry). last < d.id) es
unfolding ascending_from
above last [] a = tt
above last (e ∷ es) a =
    let w = and-true (ltb last e.id) (ascending_from e.id es) a in
    let h = ltb-true last e.id w.0 in
    (h, all_map (λ (d : Entry). e.id < d.id) (λ (d : Entry). last < d.id) es (λ d k. omega arith) (above e.id es w.1))

not-repeated : (e : Entry) (es : List Entry) → ascending_from e.id es ≡ true → any (repeats e) es ≡ false
not-repeated e es a =
    any-clear (repeats e) es
    (all_map (λ (d : Entry). e.id < d.id) (λ (d : Entry). repeats e d ≡ false) es (λ d k. rw (ne_eqb d.id e.id (λ q. omega arith)) refl) (above e.id es a))

-- where ids ascend none is repeated, so 15 is clear
pub ascending-rises : (es : List Entry) → ascending es ≡ true → not_rising es ≡ false
unfolding not_rising ascending_from
ascending-rises [] a = refl
ascending-rises (e ∷ es) a = or-clear (any (repeats e) es) (not_rising es) (not-repeated e es a) (ascending-rises es (on es a))
  where
    on : (ds : List Entry) → ascending_from e.id ds ≡ true → ascending ds ≡ true
    on [] b = refl
    on (d ∷ ds) b = (and-true (ltb e.id d.id) (ascending_from d.id ds) b).1
