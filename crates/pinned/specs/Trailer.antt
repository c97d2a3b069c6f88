-- "Trailer: checksum 4, over all that follows it; entry count 8; per entry id 8 and raw relative location 8. .. Later bytes are checksummed and otherwise
-- ignored.": entries are read, and neither 9, 10 nor 11 is given, exactly if the bytes are those of the entries and of what comes later.
use Rattle.std.specs.Prelude.{◌≡◌, refl, ◌≤◌, ◌<◌, ◌∷◌, ◌++◌, ◌+◌, ◌*◌, ◌^◌}
use Rattle.std.proofs.Common.{sym, ap, ap₂, ◌∙◌, append_assoc, inl, inr, arith, length-append, length-drop, drop-drop, drop_at, take_at, ltb-false, le-ltb, eqb-true, eq-eqb}
use Rattle.std.proofs.lemmas.Bool.{not-false}
use Rattle.rules.specs.Base.{not, List, ℕ, zero, suc, length, take, drop, eqb, each}
use Rattle.theory.specs.Types.{Entry}
use Rattle.numbers.specs.LittleEndian.{Bytes, le_bytes, le_value, le-length, le-round}
use Rattle.checksum.specs.Checksum.{crc32}
use Rattle.rules.specs.Refusal.{NoneHolds}
use Rattle.rules.proofs.PartLaws.{field}
use Rattle.rules.proofs.ObjectLaws.{crc-below}
use Rattle.rules.specs.Trailer.{entry_bytes, listed, count_in, trailer_tests, entries_from, entries_in}
use Rattle.rules.specs.TrailerLaws.{Fits}
use Rattle.rules.proofs.TrailerLaws.{entries-length, entries_next, entries-back}
use Rattle.stored_object.specs.Begins.{number-bytes, cut}

-- none of 9, 10, 11 holds, and these are the entries
pub record Reads (trailer : List ℕ) (es : List Entry) : Type 0 where
  pub clear : NoneHolds (trailer_tests trailer)
  pub entries : entries_in trailer ≡ es

-- count and entries, and what comes later, behind the checksum of both; 20 bytes at least
pub record Bears (trailer : List ℕ) (es : List Entry) : Type 0 where
  pub later : List ℕ
  pub is : trailer ≡ le_bytes 4 (crc32 (listed es ++ later)) ++ (listed es ++ later)
  pub least : 20 ≤ length trailer
  pub count : length es < 2 ^ 64
  pub fits : Fits es

-- k entries, as they stand from `at` on
record Stand (k at : ℕ) (bs : List ℕ) (es : List Entry) : Type 0 where
  count : length es ≡ k
  is : drop at bs ≡ each entry_bytes es ++ drop (at + 16 * k) bs
  fits : Fits es

stand : (k at : ℕ) (bs : List ℕ) → Bytes bs → at + 16 * k ≤ length bs → Stand k at bs (entries_from k (drop at bs))
unfolding each entries_from
stand zero at bs h l = let e : at + 0 ≡ at = omega arith in record { count = refl; is = ap (λ (n : ℕ). drop n bs) (sym e); fits = λ x m a. absurd a }
stand (suc k) at bs h l =
    let eight : drop 8 (drop at bs) ≡ drop (at + 8) bs = drop-drop 8 at bs in
    let sixteen : drop 16 (drop at bs) ≡ drop (at + 16) bs = drop-drop 16 at bs in
    let a = number-bytes at 8 bs h (omega arith) in
    let b = number-bytes (at + 8) 8 bs h (omega arith) in
    let w = stand k (at + 16) bs h (omega arith) in
    let next : entries_from (suc k) (drop at bs) ≡ record { id = le_value (take 8 (drop at bs)); location = le_value (take 8 (drop (at + 8) bs)) } ∷ entries_from k (drop (at + 16) bs) =
    entries_next k (drop at bs) (omega (arith, length-drop at bs)) ∙ rw (eight, sixteen) in
    let half : at + 8 + 8 ≡ at + 16 = omega arith in
    let far : at + 16 + 16 * k ≡ at + 16 * suc k = omega arith in
    let whole : drop at bs
    ≡ le_bytes 8 (le_value (take 8 (drop at bs)))
    ++ (le_bytes 8 (le_value (take 8 (drop (at + 8) bs))) ++ (each entry_bytes (entries_from k (drop (at + 16) bs)) ++ drop (at + 16 * suc k) bs)) =
    cut at 8 bs
    ∙ ap₂ (λ (x y : List ℕ). x ++ y) a.0
    (cut (at + 8) 8 bs
    ∙ ap₂ (λ (x y : List ℕ). x ++ y) b.0
    (ap (λ (n : ℕ). drop n bs) half ∙ w.is ∙ ap (λ (n : ℕ). each entry_bytes (entries_from k (drop (at + 16) bs)) ++ drop n bs) far)) in
    rw next (record {
      count = ap suc w.count;
      is = whole ∙ simp append_assoc;
      fits = fitting (record { id = le_value (take 8 (drop at bs)); location = le_value (take 8 (drop (at + 8) bs)) }) (entries_from k (drop (at + 16) bs)) a.1 b.1 w.fits;
    })
  where
    fitting : (e : Entry) (es : List Entry) → e.id < 256 ^ 8 → e.location < 256 ^ 8 → Fits es → Fits (e ∷ es)
    fitting e es p q f x l (inl s) = (omega (arith, s.0), omega (arith, s.1))
    fitting e es p q f x l (inr a) = f x l a

reads-bears : (trailer : List ℕ) (es : List Entry) → Bytes trailer → Reads trailer es → Bears trailer es
unfolding trailer_tests NoneHolds entries_in listed
reads-bears trailer es h r =
    let least : 20 ≤ length trailer = ltb-false (length trailer) 20 r.clear.0 in
    let sum : le_value (take 4 trailer) ≡ crc32 (drop 4 trailer) = eqb-true _ _ (not-false (eqb (le_value (take 4 trailer)) (crc32 (drop 4 trailer))) r.clear.1.0) in
    let most : 12 + 16 * count_in trailer ≤ length trailer = ltb-false (length trailer) (12 + 16 * count_in trailer) r.clear.1.1.0 in
    let a = number-bytes 0 4 trailer h (omega arith) in
    let b = number-bytes 4 8 trailer h (omega arith) in
    let w = stand (count_in trailer) 12 trailer h most in
    let later = drop (12 + 16 * count_in trailer) trailer in
    let count : length es ≡ count_in trailer = ap length (sym r.entries) ∙ w.count in
    let entries : drop 12 trailer ≡ each entry_bytes es ++ later = w.is ∙ ap (λ (x : List Entry). each entry_bytes x ++ later) r.entries in
    let behind : drop 4 trailer ≡ (le_bytes 8 (length es) ++ each entry_bytes es) ++ later =
    cut 4 8 trailer ∙ ap₂ (λ (x y : List ℕ). x ++ y) (b.0 ∙ ap (le_bytes 8) (sym count)) entries ∙ sym (append_assoc (le_bytes 8 (length es)) (each entry_bytes es) later) in
    record {
      later = later;
      is = cut 0 4 trailer ∙ ap₂ (λ (x y : List ℕ). x ++ y) (a.0 ∙ ap (le_bytes 4) (sum ∙ ap crc32 behind)) behind;
      least = least;
      count = omega (arith, count, b.1);
      fits = rw (← r.entries) w.fits;
    }

bears-reads : (trailer : List ℕ) (es : List Entry) → Bears trailer es → Reads trailer es
unfolding trailer_tests NoneHolds entries_in listed
bears-reads trailer es b =
    let sum = crc32 (listed es ++ b.later) in
    let head = le_bytes 4 sum in
    let n = le_bytes 8 (length es) in
    let body = each entry_bytes es in
    let lh : length head ≡ 4 = le-length 4 sum in
    let ln : length n ≡ 8 = le-length 8 (length es) in
    let flat : trailer ≡ head ++ (n ++ (body ++ b.later)) = b.is ∙ ap (λ (x : List ℕ). head ++ x) (append_assoc n body b.later) in
    let d4 : drop 4 trailer ≡ listed es ++ b.later = ap (drop 4) b.is ∙ drop_at head (listed es ++ b.later) 4 lh in
    let d12 : drop 12 trailer ≡ body ++ b.later = sym (drop-drop 8 4 trailer) ∙ ap (drop 8) (d4 ∙ append_assoc n body b.later) ∙ drop_at n (body ++ b.later) 8 ln in
    let counted : count_in trailer ≡ length es = ap (λ (x : List ℕ). le_value (take 8 (drop 4 x))) flat ∙ ap le_value (field head n (body ++ b.later) 4 8 lh ln) ∙ le-round 8 (length es) b.count in
    let summed : le_value (take 4 trailer) ≡ crc32 (drop 4 trailer) =
    ap (λ (x : List ℕ). le_value (take 4 x)) b.is ∙ ap le_value (take_at head (listed es ++ b.later) 4 lh) ∙ le-round 4 sum (crc-below (listed es ++ b.later)) ∙ sym (ap crc32 d4) in
    let size : length trailer ≡ 12 + 16 * length es + length b.later =
    ap length flat ∙ omega (arith, length-append head (n ++ (body ++ b.later)), length-append n (body ++ b.later), length-append body b.later, entries-length es) in
    record {
      clear = (
        le-ltb (length trailer) 20 b.least,
        (ap not (eq-eqb (le_value (take 4 trailer)) (crc32 (drop 4 trailer)) summed), (le-ltb (length trailer) (12 + 16 * count_in trailer) (omega arith), tt)),
      );
      entries = rw (counted, d12) (entries-back es b.later b.fits);
    }

-- LAW: a trailer passes and gives these entries exactly if it bears them
pub trailer-exactly : (trailer : List ℕ) (es : List Entry) → Bytes trailer → (Reads trailer es → Bears trailer es) × (Bears trailer es → Reads trailer es)
trailer-exactly trailer es h = (reads-bears trailer es h, bears-reads trailer es)
