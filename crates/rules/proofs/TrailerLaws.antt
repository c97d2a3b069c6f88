-- The trailer: its length, and that what was written is read back.
use Rattle.std.specs.Prelude.{◌≡◌, ◌≤◌, ◌<◌, ◌∷◌, ◌++◌, ◌+◌, ◌*◌, ◌^◌}
use Rattle.std.proofs.Math.Path.{refl}
use Rattle.std.proofs.Common.{sym, ap, ap₂, ◌∙◌, true≢false, append_assoc, append-nil, inl, inr, arith, length-append, take_at, drop_at, drop-drop}
use borrow.Author.Tests.{eq-eqb, le-ltb, ltb-false}
use Rattle.rules.specs.Base.{Bool, true, false, not, List, [], ℕ, suc, length, take, drop, ltb, eqb, each, pick}
use Rattle.rules.specs.Types.{Entry}
use Rattle.numbers.specs.LittleEndian.{le_bytes, le_value, le-length, le-round}
use Rattle.checksum.specs.Checksum.{crc32}
use Rattle.disk_location.specs.Locations.{position_of, delete_of}
use Rattle.rules.specs.Refusal.{NoneHolds}
use Rattle.rules.proofs.PartLaws.{field}
use Rattle.rules.proofs.ObjectLaws.{crc-below}
use Rattle.rules.proofs.TableLaws.{entry-ext}
use Rattle.rules.specs.Trailer.{entry_bytes, listed, trailer_bytes, count_in, trailer_tests, entries_from, entries_in, misplaced}
use Rattle.rules.specs.TrailerLaws.{Fits, WellPlaced}

-- ---- lengths
pub entry_length : (e : Entry) → length (entry_bytes e) ≡ 16
entry_length e = omega (arith, length-append (le_bytes 8 e.id) (le_bytes 8 e.location), le-length 8 e.id, le-length 8 e.location)

-- 16 bytes an entry
pub entries-length : (es : List Entry) → length (each entry_bytes es) ≡ 16 * length es
unfolding each
entries-length [] = refl
entries-length (e ∷ es) = omega (arith, length-append (entry_bytes e) (each entry_bytes es), entry_length e, entries-length es)

-- count and entries
pub listed-length : (es : List Entry) → length (listed es) ≡ 8 + 16 * length es
unfolding listed
listed-length es = omega (arith, length-append (le_bytes 8 (length es)) (each entry_bytes es), le-length 8 (length es), entries-length es)

-- "checksum 4 ..; entry count 8; per entry id 8 and raw relative location 8"
pub trailer-length : (es : List Entry) → length (trailer_bytes es) ≡ 12 + 16 * length es
unfolding trailer_bytes
trailer-length es = omega (arith, length-append (le_bytes 4 (crc32 (listed es))) (listed es), le-length 4 (crc32 (listed es)), listed-length es)

-- ---- read back
-- the clauses of entries_from
entries_none : (bytes : List ℕ) → entries_from 0 bytes ≡ []
unfolding entries_from
entries_none bytes = refl

pub entries_next : (k : ℕ) (bytes : List ℕ) → 0 < length bytes
    → entries_from (suc k) bytes ≡ record { id = le_value (take 8 bytes); location = le_value (take 8 (drop 8 bytes)) } ∷ entries_from k (drop 16 bytes)
unfolding entries_from
entries_next k [] h = absurd (let z : ◌≤◌ 1 0 = h in omega arith)
entries_next k (b ∷ bs) h = refl

-- an entry that was written, whatever follows
pub entries-put : (k : ℕ) (e : Entry) (rest : List ℕ) → e.id < 2 ^ 64 → e.location < 2 ^ 64 → entries_from (suc k) (entry_bytes e ++ rest) ≡ e ∷ entries_from k rest
entries-put k e rest id_fits location_fits =
    let a = le_bytes 8 e.id in
    let b = le_bytes 8 e.location in
    let whole : (a ++ b) ++ rest ≡ a ++ (b ++ rest) = append_assoc a b rest in
    let la : length a ≡ 8 = le-length 8 e.id in
    let lb : length b ≡ 8 = le-length 8 e.location in
    let some : 0 < length ((a ++ b) ++ rest) = omega (arith, length-append (a ++ b) rest, entry_length e) in
    let id_is : le_value (take 8 ((a ++ b) ++ rest)) ≡ e.id = ap (λ (s : List ℕ). le_value (take 8 s)) whole ∙ ap le_value (take_at a (b ++ rest) 8 la) ∙ le-round 8 e.id id_fits in
    let location_is : le_value (take 8 (drop 8 ((a ++ b) ++ rest))) ≡ e.location =
    ap (λ (s : List ℕ). le_value (take 8 (drop 8 s))) whole ∙ ap le_value (field a b rest 8 8 la lb) ∙ le-round 8 e.location location_fits in
    let past : drop 16 ((a ++ b) ++ rest) ≡ rest = drop_at (a ++ b) rest 16 (entry_length e) in
    entries_next k ((a ++ b) ++ rest) some ∙ ap₂ (λ (d : Entry) (t : List ℕ). d ∷ entries_from k t) (entry-ext _ e id_is location_is) past

-- all entries that were written, whatever follows
pub entries-back : (es : List Entry) (rest : List ℕ) → Fits es → entries_from (length es) (each entry_bytes es ++ rest) ≡ es
unfolding each
entries-back [] rest f = entries_none rest
entries-back (e ∷ es) rest f =
    let here = f e.id e.location (inl (refl, refl)) in
    rw (append_assoc (entry_bytes e) (each entry_bytes es) rest)
    (entries-put (length es) e (each entry_bytes es ++ rest) here.0 here.1 ∙ ap (λ (ds : List Entry). e ∷ ds) (entries-back es rest (λ x l h. f x l (inr h))))

-- the count is the entries'
pub count-back : (es : List Entry) → length es < 2 ^ 64 → count_in (trailer_bytes es) ≡ length es
unfolding trailer_bytes listed
count-back es n =
    ap le_value (field (le_bytes 4 (crc32 (listed es))) (le_bytes 8 (length es)) (each entry_bytes es) 4 8 (le-length 4 (crc32 (listed es))) (le-length 8 (length es)))
    ∙ le-round 8 (length es) n

-- its checksum, what follows that, and its entries
sum_back : (es : List Entry) → le_value (take 4 (trailer_bytes es)) ≡ crc32 (listed es)
unfolding trailer_bytes
sum_back es = ap le_value (take_at (le_bytes 4 (crc32 (listed es))) (listed es) 4 (le-length 4 (crc32 (listed es)))) ∙ le-round 4 (crc32 (listed es)) (crc-below (listed es))

rest_back : (es : List Entry) → drop 4 (trailer_bytes es) ≡ listed es
unfolding trailer_bytes
rest_back es = drop_at (le_bytes 4 (crc32 (listed es))) (listed es) 4 (le-length 4 (crc32 (listed es)))

listed_back : (es : List Entry) → drop 12 (trailer_bytes es) ≡ each entry_bytes es
unfolding listed
listed_back es = sym (drop-drop 8 4 (trailer_bytes es)) ∙ ap (drop 8) (rest_back es) ∙ drop_at (le_bytes 8 (length es)) (each entry_bytes es) 8 (le-length 8 (length es))

-- none of 9, 10, 11 refuses a trailer that was written
pub trailer-clear : (es : List Entry) → 0 < length es → length es < 2 ^ 64 → NoneHolds (trailer_tests (trailer_bytes es))
unfolding trailer_tests NoneHolds
trailer-clear es some n =
    let sum = crc32 (listed es) in (
      le-ltb (length (trailer_bytes es)) 20 (omega (arith, trailer-length es)),
      (
        ap not (ap₂ (λ (a : ℕ) (b : List ℕ). eqb a (crc32 b)) (sum_back es) (rest_back es) ∙ eq-eqb sum sum refl),
        (le-ltb (length (trailer_bytes es)) (12 + 16 * count_in (trailer_bytes es)) (omega (arith, trailer-length es, count-back es n)), tt),
      ),
    )

-- its entries are read back
pub trailer-back : (es : List Entry) → length es < 2 ^ 64 → Fits es → entries_in (trailer_bytes es) ≡ es
unfolding entries_in
trailer-back es n f = rw (count-back es n, listed_back es) (rw append-nil at (entries-back es [] f))

module _ (offset : ℕ) (e : Entry) where
  -- where 12 does not hold of an entry, it stands so
  pub placed : misplaced offset e ≡ false → WellPlaced offset e.location
  unfolding misplaced
  placed h = go (delete_of e.location) refl h
    where
      go : (d : Bool) → delete_of e.location ≡ d → pick d (ltb offset (position_of e.location)) (ltb offset (position_of e.location + 20)) ≡ false
          → WellPlaced offset e.location
      go true q f = record { inside = ltb-false offset (position_of e.location) f; header = λ n. absurd (true≢false (sym q ∙ n)) }
      go false q f = let w = ltb-false offset (position_of e.location + 20) f in record { inside = omega arith; header = λ n. w }

  -- and the other way round
  pub may-stand : WellPlaced offset e.location → misplaced offset e ≡ false
  unfolding misplaced
  may-stand w = go (delete_of e.location) refl
    where
      go : (d : Bool) → delete_of e.location ≡ d → pick d (ltb offset (position_of e.location)) (ltb offset (position_of e.location + 20)) ≡ false
      go true q = le-ltb offset (position_of e.location) w.inside
      go false q = le-ltb offset (position_of e.location + 20) (w.header q)
