-- "A slot is a 64-byte label, then the file. The label holds lsn, trailer_offset, file_size, present_objects, generation as numbers in groups of seven
-- bits ..; Zeros fill the 64 bytes. First byte 0 means the slot is empty, whatever follows.": read exactly if the bytes are its own.
use Rattle.std.specs.Prelude.{◌≡◌, refl, ◌⊎◌, ◌<◌, ◌++◌, ◌+◌, ◌-◌, None, Some}
use Rattle.std.proofs.Common.{ap, ◌∙◌, append_assoc, inl, inr, arith, length-append, eq-eqb}
use Rattle.std.proofs.lemmas.Bool.{eqb-false}
use Rattle.rules.specs.Base.{Bool, true, false, List, ℕ, length, drop, get_or, replicate, eqb, pick, zeros, padded}
use Rattle.rules.proofs.BaseLaws.{zero-or-more, zeros-is}
use Rattle.theory.specs.Types.{Label, LabelAnswer, Vacant, Five, Wrong}
use Rattle.numbers.specs.LittleEndian.{Bytes}
use Rattle.numbers.specs.Groups.{groups_of, number_in, saying}
use Rattle.numbers.specs.GroupLaws.{groups-last, Stands, number-stands}
use Rattle.numbers.specs.Answers.{Number}
use Rattle.rules.specs.Label.{label_bytes, five_in, label_in}
use Rattle.rules.specs.LabelLaws.{LabelFits}
use Rattle.rules.proofs.LabelLaws.{label-back}
use Rattle.pinned.specs.Parts.{front}

-- the bytes are those of a label whose lsn is not 0, each number of at most 64 bits
pub record Bears (s : List ℕ) (l : Label) : Type 0 where
  pub is : s ≡ label_bytes l
  pub lsn : 0 < l.lsn
  pub fits : LabelFits l

not_five : {A : Type 0} {l : Label} → Wrong ≡ Five l → A
not_five e = absurd (let z : ◌≡◌ {A = ℕ} 0 1 = cc in omega arith)

vacant-not : {A : Type 0} {l : Label} → Vacant ≡ Five l → A
vacant-not e = absurd (let z : ◌≡◌ {A = ℕ} 0 1 = cc in omega arith)

label_is : Label → LabelAnswer → Label
label_is d Vacant = d
label_is d Wrong = d
label_is d (Five l) = l

five-one : {l m : Label} → Five l ≡ Five m → l ≡ m
unfolding label_is
five-one {l} e = ap (label_is l) e

-- 64 bytes that are read as five numbers
five-bears : (s : List ℕ) (l : Label) → Bytes s → length s ≡ 64 → five_in s ≡ Five l → (s ≡ label_bytes l) × LabelFits l
unfolding five_in label_bytes padded
five-bears s l h n q = first (number_in 10 s 0) refl q
  where
    whole : (lsn a offset b size c present d generation e : ℕ) → Stands 10 s 0 a lsn → Stands 10 s a b offset → Stands 10 s b c size → Stands 10 s c d present → Stands 10 s d e generation
        → zeros (drop e s) ≡ true
        → Five (record { lsn = lsn; trailer_offset = offset; file_size = size; present_objects = present; generation = generation }) ≡ Five l → (s ≡ label_bytes l) × LabelFits l
    whole lsn a offset b size c present d generation e s1 s2 s3 s4 s5 z q =
        let g1 = groups_of 10 lsn in
        let g2 = groups_of 10 offset in
        let g3 = groups_of 10 size in
        let g4 = groups_of 10 present in
        let g5 = groups_of 10 generation in
        let five = g1 ++ (g2 ++ (g3 ++ (g4 ++ g5))) in
        let z0 : drop e s ≡ replicate (length (drop e s)) 0 = zeros-is (drop e s) z in
        let flat : s ≡ g1 ++ (g2 ++ (g3 ++ (g4 ++ (g5 ++ drop e s)))) =
        front s 0 lsn a s1
        ∙ ap (λ (x : List ℕ). g1 ++ x)
        (front s a offset b s2
        ∙ ap (λ (x : List ℕ). g2 ++ x) (front s b size c s3 ∙ ap (λ (x : List ℕ). g3 ++ x) (front s c present d s4 ∙ ap (λ (x : List ℕ). g4 ++ x) (front s d generation e s5)))) in
        let split : s ≡ five ++ drop e s = flat ∙ simp append_assoc in
        let count : length (drop e s) ≡ 64 - length five = omega (arith, ap length split, length-append five (drop e s)) in
        rw (← five-one q) (
          split ∙ ap (λ (x : List ℕ). five ++ x) (z0 ∙ ap (λ (k : ℕ). replicate k 0) count),
          record { lsn = s1.fits; offset = s2.fits; size = s3.fits; present = s4.fits; generation = s5.fits },
        )

    filled : (lsn a offset b size c present d generation e : ℕ) → Stands 10 s 0 a lsn → Stands 10 s a b offset → Stands 10 s b c size → Stands 10 s c d present → Stands 10 s d e generation
        → (t : Bool) → zeros (drop e s) ≡ t
        → pick t (Five (record { lsn = lsn; trailer_offset = offset; file_size = size; present_objects = present; generation = generation })) Wrong ≡ Five l
        → (s ≡ label_bytes l) × LabelFits l
    filled lsn a offset b size c present d generation e s1 s2 s3 s4 s5 false z q = not_five q
    filled lsn a offset b size c present d generation e s1 s2 s3 s4 s5 true z q = whole lsn a offset b size c present d generation e s1 s2 s3 s4 s5 z q

    fifth : (lsn a offset b size c present d : ℕ) → Stands 10 s 0 a lsn → Stands 10 s a b offset → Stands 10 s b c size → Stands 10 s c d present
        → (m : Number) → number_in 10 s d ≡ m
        → saying Wrong m (λ generation e. pick (zeros (drop e s)) (Five (record { lsn = lsn; trailer_offset = offset; file_size = size; present_objects = present; generation = generation })) Wrong) ≡ Five l
        → (s ≡ label_bytes l) × LabelFits l
    fifth lsn a offset b size c present d s1 s2 s3 s4 None e q = not_five q
    fifth lsn a offset b size c present d s1 s2 s3 s4 (Some (generation, e)) p q =
        filled lsn a offset b size c present d generation e s1 s2 s3 s4 (number-stands 10 s d generation e h p) (zeros (drop e s)) refl q

    fourth : (lsn a offset b size c : ℕ) → Stands 10 s 0 a lsn → Stands 10 s a b offset → Stands 10 s b c size → (m : Number) → number_in 10 s c ≡ m
        → saying Wrong m (λ present d.
        saying Wrong (number_in 10 s d) λ generation e.
        pick (zeros (drop e s)) (Five (record { lsn = lsn; trailer_offset = offset; file_size = size; present_objects = present; generation = generation })) Wrong) ≡ Five l
        → (s ≡ label_bytes l) × LabelFits l
    fourth lsn a offset b size c s1 s2 s3 None e q = not_five q
    fourth lsn a offset b size c s1 s2 s3 (Some (present, d)) p q = fifth lsn a offset b size c present d s1 s2 s3 (number-stands 10 s c present d h p) (number_in 10 s d) refl q

    third : (lsn a offset b : ℕ) → Stands 10 s 0 a lsn → Stands 10 s a b offset → (m : Number) → number_in 10 s b ≡ m
        → saying Wrong m (λ size c.
        saying Wrong (number_in 10 s c) λ present d.
        saying Wrong (number_in 10 s d) λ generation e.
        pick (zeros (drop e s)) (Five (record { lsn = lsn; trailer_offset = offset; file_size = size; present_objects = present; generation = generation })) Wrong) ≡ Five l
        → (s ≡ label_bytes l) × LabelFits l
    third lsn a offset b s1 s2 None e q = not_five q
    third lsn a offset b s1 s2 (Some (size, c)) p q = fourth lsn a offset b size c s1 s2 (number-stands 10 s b size c h p) (number_in 10 s c) refl q

    second : (lsn a : ℕ) → Stands 10 s 0 a lsn → (m : Number) → number_in 10 s a ≡ m
        → saying Wrong m (λ offset b.
        saying Wrong (number_in 10 s b) λ size c.
        saying Wrong (number_in 10 s c) λ present d.
        saying Wrong (number_in 10 s d) λ generation e.
        pick (zeros (drop e s)) (Five (record { lsn = lsn; trailer_offset = offset; file_size = size; present_objects = present; generation = generation })) Wrong) ≡ Five l
        → (s ≡ label_bytes l) × LabelFits l
    second lsn a s1 None e q = not_five q
    second lsn a s1 (Some (offset, b)) p q = third lsn a offset b s1 (number-stands 10 s a offset b h p) (number_in 10 s b) refl q

    first : (m : Number) → number_in 10 s 0 ≡ m
        → saying Wrong m (λ lsn a.
        saying Wrong (number_in 10 s a) λ offset b.
        saying Wrong (number_in 10 s b) λ size c.
        saying Wrong (number_in 10 s c) λ present d.
        saying Wrong (number_in 10 s d) λ generation e.
        pick (zeros (drop e s)) (Five (record { lsn = lsn; trailer_offset = offset; file_size = size; present_objects = present; generation = generation })) Wrong) ≡ Five l
        → (s ≡ label_bytes l) × LabelFits l
    first None e q = not_five q
    first (Some (lsn, a)) p q = second lsn a (number-stands 10 s 0 lsn a h p) (number_in 10 s a) refl q

-- a label of lsn 0 would begin with 0
lsn-some : (l : Label) → (get_or (label_bytes l) 0 0 ≡ 0 → ⊥) → 0 < l.lsn
unfolding label_bytes padded
lsn-some l d = go (zero-or-more l.lsn)
  where
    go : (l.lsn ≡ 0) ⊎ (0 < l.lsn) → 0 < l.lsn
    go (inr p) = p
    go (inl e) = absurd (d (rw (e, groups-last 9 0 (omega arith)) refl))

five-when : (s : List ℕ) (l : Label) → Bytes s → length s ≡ 64 → label_in s ≡ Five l → Bears s l
unfolding label_in
five-when s l h n q = go (eqb (get_or s 0 0) 0) refl q
  where
    go : (t : Bool) → eqb (get_or s 0 0) 0 ≡ t → pick t Vacant (five_in s) ≡ Five l → Bears s l
    go true e q = vacant-not q
    go false e q =
        let w = five-bears s l h n q in
        record { is = w.0; lsn = lsn-some l (λ z. eqb-false (get_or s 0 0) 0 e (ap (λ (x : List ℕ). get_or x 0 0) w.0 ∙ z)); fits = w.1 }

-- LAW: 64 bytes are read as a label exactly if they are its own
pub label-exactly : (s : List ℕ) (l : Label) → Bytes s → length s ≡ 64 → (label_in s ≡ Five l → Bears s l) × (Bears s l → label_in s ≡ Five l)
label-exactly s l h n = (five-when s l h n, λ b. ap label_in b.is ∙ label-back l b.lsn b.fits)

-- LAW: a first byte of 0 means empty, whatever follows
pub vacant-first : (s : List ℕ) → get_or s 0 0 ≡ 0 → label_in s ≡ Vacant
unfolding label_in
vacant-first s e = rw (eq-eqb (get_or s 0 0) 0 e)
