-- "Positions"
use Rattle.std.specs.Prelude.{◌≡◌, refl, ◌⊎◌, ◌≤◌, ◌<◌, ◌∷◌, ◌+◌, ◌^◌, None, Some}
use Rattle.std.proofs.Common.{inl, inr, lt-ltb, le-ltb, le-leb}
use Rattle.std.proofs.lemmas.Bool.{lt-leb}
use Rattle.rules.specs.Base.{Bool, true, false, [], ℕ, leb, eqb}
use Rattle.rules.specs.Types.{Location}
use Rattle.numbers.specs.GroupLaws.{either_way}
use Rattle.disk_location.specs.Locations.{position_of, delete_of, raw_of, located_at, relative_at}
use Rattle.disk_location.specs.Answers.{Located, RelativeLocated}
use Rattle.rules.specs.Refusal.{Test, ◌gives◌, decide, after}
use Rattle.rules.proofs.RefusalLaws.{decide-first, decide-next, decide-none}
use Rattle.rules.proofs.Answers.{inverse-one}
use Rattle.rules.specs.World.{Given, accepted, refused}
use Rattle.rules.specs.Positions.{relative_given, absolute_given, to_absolute_given, located_given, located_of, relative_located_given, relative_of}

-- its contracts say what the paper says
pub located-given : (position : ℕ) (delete : Bool) → located_given (located_at position delete) ≡ absolute_given position delete
unfolding absolute_given
located-given position delete = go (either_way position (2 ^ 63)) (eqb (raw_of position delete) 0) refl
  where
    zero-raw : Test
    zero-raw = eqb (raw_of position delete) 0 gives Location

    go : (position < 2 ^ 63) ⊎ (2 ^ 63 ≤ position) → (t : Bool) → eqb (raw_of position delete) 0 ≡ t
        → located_given (located_at position delete)
        ≡ after (decide (leb (2 ^ 63) position gives Location ∷ eqb (raw_of position delete) 0 gives Location ∷ [])) refused (accepted (raw_of position delete ∷ []))
    go (inr h) t e = rw (le-ltb position (2 ^ 63) h, decide-first (leb (2 ^ 63) position) Location (zero-raw ∷ []) (le-leb (2 ^ 63) position h))
    go (inl h) true e =
        rw (lt-ltb position (2 ^ 63) h, decide-next (leb (2 ^ 63) position) Location (zero-raw ∷ []) (lt-leb (2 ^ 63) position h), decide-first (eqb (raw_of position delete) 0) Location [] e, e)
    go (inl h) false e =
        rw (lt-ltb position (2 ^ 63) h, decide-next (leb (2 ^ 63) position) Location (zero-raw ∷ []) (lt-leb (2 ^ 63) position h), decide-next (eqb (raw_of position delete) 0) Location [] e, decide-none, e)

-- of a relative location and an lsn, too
pub to-absolute-given : (raw lsn : ℕ) → located_given (located_at (position_of raw + lsn) (delete_of raw)) ≡ to_absolute_given raw lsn
unfolding to_absolute_given
to-absolute-given raw lsn = located-given (position_of raw + lsn) (delete_of raw)

-- so one number and value, one answer
pub located-one : (a b : Located) → located_given a ≡ located_given b → a ≡ b
located-one = inverse-one located_given (λ (g : Given). located_of g.values) go
  where
    go : (a : Located) → located_of (located_given a).values ≡ a
    go (Some l) = refl
    go None = refl

-- its contract says what the paper says
pub relative-located-given : (position : ℕ) (delete : Bool) → relative_located_given (relative_at position delete) ≡ relative_given position delete
unfolding relative_given
relative-located-given position delete = go (either_way position (2 ^ 63))
  where
    go : (position < 2 ^ 63) ⊎ (2 ^ 63 ≤ position)
        → relative_located_given (relative_at position delete) ≡ after (decide (leb (2 ^ 63) position gives Location ∷ [])) refused (accepted (raw_of position delete ∷ []))
    go (inr h) = rw (le-ltb position (2 ^ 63) h, decide-first (leb (2 ^ 63) position) Location [] (le-leb (2 ^ 63) position h))
    go (inl h) = rw (lt-ltb position (2 ^ 63) h, decide-next (leb (2 ^ 63) position) Location [] (lt-leb (2 ^ 63) position h), decide-none)

-- so one number and value, one answer
pub relative-one : (a b : RelativeLocated) → relative_located_given a ≡ relative_located_given b → a ≡ b
relative-one = inverse-one relative_located_given (λ (g : Given). relative_of g.values) go
  where
    go : (a : RelativeLocated) → relative_of (relative_located_given a).values ≡ a
    go (Some l) = refl
    go None = refl
