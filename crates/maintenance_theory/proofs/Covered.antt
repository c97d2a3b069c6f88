-- What a group moves comes out in its files: no operation is lost between the shards.
use Rattle.std.specs.Prelude.{◌≡◌, refl, ◌⊎◌, ◌<◌, ◌∷◌, ◌++◌}
use Rattle.std.proofs.Common.{sym, ◌∙◌, true≢false, inl, inr, ⊎_elim, arith, length-set}
use Rattle.std.proofs.lemmas.List.{length-replicate}
use Rattle.rules.specs.Base.{Bool, true, false, List, [], map, ℕ, zero, suc, length, get_or, set, replicate, ltb, pick, keep}
use Rattle.rules.specs.BaseLaws.{Some}
use Rattle.rules.proofs.BaseLaws.{same?, or-holds}
use Rattle.rules.specs.Ops.{Op, shard_for}
use Rattle.rules.proofs.OpsLaws.{shard-most}
use Rattle.rules.specs.SettledLaws.{last_on}
use Rattle.rules.specs.Maintenance.{Shard, no_entries, Split, cut_off, joining, split_from, has_entries, files_of}
use Rattle.maintenance_theory.specs.Tally.{heard_in}
use Rattle.maintenance_theory.proofs.Tally.{heard-append, heard-cons, heard-later}
use Rattle.maintenance_theory.specs.Covered.{InShard, InFile, InSplit}

-- ---- lists of which one element is such
some_left : {A : Type 0} (P : A → Type 0) (xs ys : List A) → Some P xs → Some P (xs ++ ys)
some_left P [] ys h = absurd h
some_left P (x ∷ xs) ys (inl a) = inl a
some_left P (x ∷ xs) ys (inr a) = inr (some_left P xs ys a)

some_right : {A : Type 0} (P : A → Type 0) (xs ys : List A) → Some P ys → Some P (xs ++ ys)
some_right P [] ys h = h
some_right P (x ∷ xs) ys h = inr (some_right P xs ys h)

-- with one element changed it is another, or it was that one
some-set : {A : Type 0} (P : A → Type 0) (xs : List A) (n : ℕ) (a d : A) → Some P xs → P (get_or xs n d) ⊎ Some P (set xs n a)
some-set P [] n a d h = absurd h
some-set P (x ∷ xs) zero a d (inl h) = inl h
some-set P (x ∷ xs) zero a d (inr h) = inr (inr h)
some-set P (x ∷ xs) (suc n) a d (inl h) = inr (inl h)
some-set P (x ∷ xs) (suc n) a d (inr h) = ⊎_elim inl (λ z. inr (inr z)) (some-set P xs n a d h)

some-here : {A : Type 0} (P : A → Type 0) (xs : List A) (n : ℕ) (a : A) → n < length xs → P a → Some P (set xs n a)
some-here P [] n a l h = absurd (omega arith)
some-here P (x ∷ xs) zero a l h = inl h
some-here P (x ∷ xs) (suc n) a l h = inr (some-here P xs n a (omega arith) h)

cut-length : (target n : ℕ) (s : Split) → length (cut_off target n s).shards ≡ length s.shards
unfolding cut_off
cut-length target n s = go (ltb target (get_or s.shards n no_entries).size)
  where
    go : (b : Bool) → length (pick b (record { shards = set s.shards n no_entries; fragments = s.fragments ++ ((get_or s.shards n no_entries).ops ∷ []) }) s).shards ≡ length s.shards
    go true = length-set s.shards n no_entries
    go false = refl

cut_keeps : (x target n : ℕ) (s : Split) → InSplit x s → InSplit x (cut_off target n s)
unfolding cut_off
cut_keeps x target n s h = go (ltb target (get_or s.shards n no_entries).size) h
  where
    go : (b : Bool) → InSplit x s → InSplit x (pick b (record { shards = set s.shards n no_entries; fragments = s.fragments ++ ((get_or s.shards n no_entries).ops ∷ []) }) s)
    go false h = h
    go true (inl h) =
        ⊎_elim (λ a. inr (some_right (InFile x) s.fragments ((get_or s.shards n no_entries).ops ∷ []) (inl a))) inl
        (some-set (InShard x) s.shards n no_entries no_entries h)
    go true (inr h) = inr (some_left (InFile x) s.fragments ((get_or s.shards n no_entries).ops ∷ []) h)

joins : (x : ℕ) (o : Op) (os : List Op) → (o.id ≡ x) ⊎ (heard_in os x ≡ true) → heard_in (os ++ (o ∷ [])) x ≡ true
joins x o os h = heard-append os (o ∷ []) x ∙ or-holds (heard_in (o ∷ []) x) (heard_in os x) (⊎_elim (λ e. inl (heard-cons o [] x (inl e))) inr h)

join-length : (o : Op) (n : ℕ) (s : Split) → length (joining o n s).shards ≡ length s.shards
unfolding joining
join-length o n s = length-set s.shards n _

join-keeps : (x : ℕ) (o : Op) (n : ℕ) (s : Split) → n < length s.shards → (o.id ≡ x) ⊎ InSplit x s → InSplit x (joining o n s)
unfolding joining
join-keeps x o n s l (inl e) = inl (some-here (InShard x) s.shards n _ l (joins x o (get_or s.shards n no_entries).ops (inl e)))
join-keeps x o n s l (inr (inr h)) = inr h
join-keeps x o n s l (inr (inl h)) =
    inl (⊎_elim (λ a. some-here (InShard x) s.shards n _ l (joins x o (get_or s.shards n no_entries).ops (inr a))) (λ a. a)
    (some-set (InShard x) s.shards n _ no_entries h))

split-keeps : (x target : ℕ) (os : List Op) (s : Split) → length s.shards ≡ 65 → InSplit x s ⊎ (heard_in os x ≡ true) → InSplit x (split_from target os s)
unfolding split_from last_on
split-keeps x target [] s n (inl h) = h
split-keeps x target [] s n (inr h) = absurd (true≢false (sym h))
split-keeps x target (o ∷ os) s n h =
    let k = shard_for o.content in
    let m = shard-most o.content in
    let c = cut-length target k s in
    let j = join-length o k (cut_off target k s) in
    let keeps : (o.id ≡ x) ⊎ InSplit x s → InSplit x (joining o k (cut_off target k s))
    = λ a. join-keeps x o k (cut_off target k s) (omega arith) (⊎_elim inl (λ b. inr (cut_keeps x target k s b)) a) in
    split-keeps x target os (joining o k (cut_off target k s)) (j ∙ c ∙ n) (either keeps h)
  where
    either : ((o.id ≡ x) ⊎ InSplit x s → InSplit x (joining o (shard_for o.content) (cut_off target (shard_for o.content) s)))
        → InSplit x s ⊎ (heard_in (o ∷ os) x ≡ true) → InSplit x (joining o (shard_for o.content) (cut_off target (shard_for o.content) s)) ⊎ (heard_in os x ≡ true)
    either keeps (inl h) = inl (keeps (inr h))
    either keeps (inr h) = ⊎_elim (λ e. inl (keeps (inl e))) (λ e. inr (sym (heard-later o os x e) ∙ h)) (same? o.id x)

with_entries : (x : ℕ) (shards : List Shard) → Some (InShard x) shards → Some (InFile x) (keep has_entries (map (λ (c : Shard). c.ops) shards))
unfolding keep last_on
with_entries x [] h = absurd h
with_entries x (c ∷ shards) h = go c.ops (⊎_elim inl (λ a. inr (with_entries x shards a)) h)
  where
    go : (f : List Op) → (heard_in f x ≡ true) ⊎ Some (InFile x) (keep has_entries (map (λ (c : Shard). c.ops) shards))
        → Some (InFile x) (pick (has_entries f) (f ∷ keep has_entries (map (λ (c : Shard). c.ops) shards)) (keep has_entries (map (λ (c : Shard). c.ops) shards)))
    go [] (inl a) = absurd (true≢false (sym a))
    go [] (inr a) = a
    go (o ∷ os) (inl a) = inl a
    go (o ∷ os) (inr a) = inr a

-- LAW: every operation is in a file
pub files-cover : (x target : ℕ) (ops : List Op) → heard_in ops x ≡ true → Some (InFile x) (files_of target ops)
unfolding files_of
files-cover x target ops h =
    let start : Split = record { shards = replicate 65 no_entries; fragments = [] } in
    let end : Split = split_from target ops start in
    ⊎_elim (λ a. some_left (InFile x) (keep has_entries (map (λ (c : Shard). c.ops) end.shards)) end.fragments (with_entries x end.shards a))
    (some_right (InFile x) (keep has_entries (map (λ (c : Shard). c.ops) end.shards)) end.fragments)
    (split-keeps x target ops start (length-replicate {0} {A = Shard} 65 no_entries) (inr h))
