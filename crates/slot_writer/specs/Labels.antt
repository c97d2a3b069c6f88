-- A label's bytes and its stores.
use Rattle.std.specs.Prelude.{◌≡◌, refl, List, ◌++◌, ℕ, zero, suc, ◌-◌, length, take, drop, replicate}
use Rattle.std.proofs.Common.{sym, ap, ◌∙◌, append_assoc, arith}
use Rattle.std.proofs.Math.Nat.{sub-zero, suc-sub-suc}
use Rattle.numbers.specs.Groups.{groups_of}
use Rattle.numbers.specs.Parts.{front}
use Rattle.rules.specs.declared.Label.{Label}
use Rattle.rules.specs.Base.{padded}
use Rattle.rules.specs.Label.{label_bytes}
use Rattle.rules.specs.Stores.{Store, stores_of}

-- "lsn, trailer_offset, file_size, present_objects, generation as numbers in groups of seven bits"
unfoldable pub five_groups : Label → List ℕ
five_groups l =
    (((groups_of 10 l.lsn
    ++ groups_of 10 l.trailer_offset)
    ++ groups_of 10 l.file_size)
    ++ groups_of 10 l.present_objects)
    ++ groups_of 10 l.generation

-- "label bytes 2 to 64, then label byte 1"
unfoldable pub label_stores : ℕ → List ℕ → List Store
label_stores start label = stores_of (suc start) (drop 1 label) ++ stores_of start (take 1 label)

drop-same : (n m a : ℕ) → drop n (replicate m a) ≡ replicate (m - n) a
drop-same zero m a = rw (sub-zero m) refl
drop-same (suc n) zero a = let none : zero - suc n ≡ zero = omega arith in rw none refl
drop-same (suc n) (suc m) a = rw (suc-sub-suc m n) (drop-same n m a)

-- written in front of zeros, zeros behind it
front-zeros : (n : ℕ) (ns : List ℕ) → front ns (replicate n 0) ≡ padded n ns
unfolding front padded
front-zeros n ns = ap (λ (zs : List ℕ). ns ++ zs) (drop-same (length ns) n 0)

five-nested : (l : Label) → label_bytes l ≡ padded 64 (five_groups l)
unfolding label_bytes five_groups
five-nested l = ap (padded 64) (nested (groups_of 10 l.lsn) (groups_of 10 l.trailer_offset) (groups_of 10 l.file_size) (groups_of 10 l.present_objects) (groups_of 10 l.generation))
  where
    nested : (a b c d e : List ℕ) → a ++ (b ++ (c ++ (d ++ e))) ≡ (((a ++ b) ++ c) ++ d) ++ e
    nested a b c d e = simp append_assoc

-- five numbers put in front of 64 zeros are a label
pub label-made : (l : Label) → front (five_groups l) (replicate 64 0) ≡ label_bytes l
label-made l = front-zeros 64 (five_groups l) ∙ sym (five-nested l)
