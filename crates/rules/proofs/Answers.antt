-- Two answers with one number and the same values are one answer: so a contract that settles number and values settles the answer.
use Rattle.std.specs.Prelude.{◌≡◌, refl, ◌-◌, Err, None, Ok, Some}
use Rattle.std.proofs.Common.{sym, ap, ◌∙◌}
use Rattle.rules.specs.Types.{Refusal, Limits, BatchBytes, ObjectSize, SlotRoom, NoEmptySlot, TableRoom, PositionsSpent, LabelBytes, TrailerShort, Checksum, EntryCount, EntryPosition, PresentCount, Overlap, NotRising, CutShort, OtherId, NotThere, EqualLocation, Location, Claim, Generation, Answer, ReadAnswer, Found, Deleted, NeverWritten, MaintainAnswer, RewriteAnswer, CountsAnswer, At, DeletedAt, Never, LoadAnswer, GreaterAnswer, CompareAnswer, Swapped, Differs, stopped_with}
use Rattle.rules.specs.World.{Given, answer_given, read_given, maintain_given, rewrite_given, counts_given, load_given, greater_given, compare_given}
use Rattle.rules.specs.Answers.{Known, by_number, answer_of, value_at, read_values, counts_at, load_values, held_values, compare_values}

-- what can be got back from its image has one image only
pub inverse-one : {A B : Type 0} (f : A → B) (back : B → A) → ((a : A) → back (f a) ≡ a) → (a b : A) → f a ≡ f b → a ≡ b
inverse-one f back e a b p = sym (e a) ∙ ap back p ∙ e b

-- every refusal is known by its number
pub known : (r : Refusal) → Known r
known Limits = record { back = refl; some = refl }
known BatchBytes = record { back = refl; some = refl }
known ObjectSize = record { back = refl; some = refl }
known SlotRoom = record { back = refl; some = refl }
known NoEmptySlot = record { back = refl; some = refl }
known TableRoom = record { back = refl; some = refl }
known PositionsSpent = record { back = refl; some = refl }
known LabelBytes = record { back = refl; some = refl }
known TrailerShort = record { back = refl; some = refl }
known Checksum = record { back = refl; some = refl }
known EntryCount = record { back = refl; some = refl }
known EntryPosition = record { back = refl; some = refl }
known PresentCount = record { back = refl; some = refl }
known Overlap = record { back = refl; some = refl }
known NotRising = record { back = refl; some = refl }
known CutShort = record { back = refl; some = refl }
known OtherId = record { back = refl; some = refl }
known NotThere = record { back = refl; some = refl }
known EqualLocation = record { back = refl; some = refl }
known Location = record { back = refl; some = refl }
known Claim = record { back = refl; some = refl }
known Generation = record { back = refl; some = refl }

-- so one number, one answer
pub answer-one : (a b : Answer) → answer_given a ≡ answer_given b → a ≡ b
answer-one = inverse-one answer_given answer_of go
  where
    go : (a : Answer) → answer_of (answer_given a) ≡ a
    go (Ok _) = refl
    go (Err r) = rw ((known r).some, (known r).back)

-- one number, kind and part, one answer
pub read_one : (a b : ReadAnswer) → read_given a ≡ read_given b → a ≡ b
read_one = inverse-one read_given (λ (g : Given). by_number g Err (read_values g)) go
  where
    go : (a : ReadAnswer) → by_number (read_given a) Err (read_values (read_given a)) ≡ a
    go (Ok (Found a b)) = refl
    go (Ok Deleted) = refl
    go (Ok NeverWritten) = refl
    go (Err r) = rw ((known r).some, (known r).back)

-- maintain: one number, generation and count, one answer
pub maintain-one : (a b : MaintainAnswer) → maintain_given a ≡ maintain_given b → a ≡ b
maintain-one = inverse-one maintain_given (λ (g : Given). by_number g (λ (r : Refusal). Err (stopped_with r (value_at g 0) (value_at g 1))) (Ok (value_at g 0))) go
  where
    go : (a : MaintainAnswer) → by_number (maintain_given a) (λ (r : Refusal). Err (stopped_with r (value_at (maintain_given a) 0) (value_at (maintain_given a) 1))) (Ok (value_at (maintain_given a) 0)) ≡ a
    go (Ok n) = refl
    go (Err s) = rw ((known s.refusal).some, (known s.refusal).back)

-- rewrite: one number and count, one answer
pub rewrite-one : (a b : RewriteAnswer) → rewrite_given a ≡ rewrite_given b → a ≡ b
rewrite-one = inverse-one rewrite_given (λ (g : Given). by_number g Err (Ok (value_at g 0))) go
  where
    go : (a : RewriteAnswer) → by_number (rewrite_given a) Err (Ok (value_at (rewrite_given a) 0)) ≡ a
    go (Ok n) = refl
    go (Err r) = rw ((known r).some, (known r).back)

-- one number and four counts, one answer
pub counts-one : (a b : CountsAnswer) → counts_given a ≡ counts_given b → a ≡ b
counts-one = inverse-one counts_given (λ (g : Given). by_number g Err (Ok (counts_at g))) go
  where
    go : (a : CountsAnswer) → by_number (counts_given a) Err (Ok (counts_at (counts_given a))) ≡ a
    go (Ok c) = refl
    go (Err r) = rw ((known r).some, (known r).back)

-- one number, kind and location, one answer
pub load_one : (a b : LoadAnswer) → load_given a ≡ load_given b → a ≡ b
load_one = inverse-one load_given (λ (g : Given). by_number g Err (Ok (load_values g))) go
  where
    go : (a : LoadAnswer) → by_number (load_given a) Err (Ok (load_values (load_given a))) ≡ a
    go (Ok (At l)) = refl
    go (Ok (DeletedAt l)) = refl
    go (Ok Never) = refl
    go (Err r) = rw ((known r).some, (known r).back)

-- one number and location, one answer
pub greater-one : (a b : GreaterAnswer) → greater_given a ≡ greater_given b → a ≡ b
greater-one = inverse-one greater_given (λ (g : Given). by_number g Err (Ok (held_values g.values))) go
  where
    go : (a : GreaterAnswer) → by_number (greater_given a) Err (Ok (held_values (greater_given a).values)) ≡ a
    go (Ok (Some l)) = refl
    go (Ok None) = refl
    go (Err r) = rw ((known r).some, (known r).back)

-- one number and location, one answer
pub compare-one : (a b : CompareAnswer) → compare_given a ≡ compare_given b → a ≡ b
compare-one = inverse-one compare_given (λ (g : Given). by_number g Err (compare_values g.values)) go
  where
    go : (a : CompareAnswer) → by_number (compare_given a) Err (compare_values (compare_given a).values) ≡ a
    go (Ok Swapped) = refl
    go (Ok (Differs l)) = refl
    go (Err r) = rw ((known r).some, (known r).back)
