-- The files that come out of a group: each is a selection of what is moved, in order, and not empty.
use Rattle.std.specs.Prelude.{◌≡◌, refl, ◌∷◌, ◌++◌, ◌+◌}
use Rattle.std.proofs.Common.{subst, append_assoc, append-nil, arith, length-append, ltb-true}
use Rattle.rules.specs.Base.{Bool, true, false, List, [], map, ℕ, suc, get_or, set, replicate, ltb, pick, keep}
use Rattle.rules.specs.BaseLaws.{All}
use Rattle.rules.proofs.BaseLaws.{all_map, all_append}
use Rattle.rules.specs.Ops.{Op, shard_for}
use Rattle.rules.specs.OpsLaws.{RisingOps, ops-rise}
use Rattle.rules.proofs.OpsLaws.{ops-lower}
use Rattle.rules.specs.Maintenance.{Shard, no_entries, Split, cut_off, joining, split_from, has_entries, files_of}
use Rattle.theory.proofs.Lists.{all_set, all-get, all_replicate}
use Rattle.history_theory.specs.Shards.{Sub, sub-nil, sub-keep, sub-skip, PartOf, ShardOf, SplitOf}

sub-empty : (b : List Op) → Sub [] b
sub-empty [] = sub-nil
sub-empty (o ∷ b) = sub-skip (sub-empty b)

sub-snoc : {a b : List Op} (o : Op) → Sub a b → Sub (a ++ (o ∷ [])) (b ++ (o ∷ []))
sub-snoc o sub-nil = sub-keep sub-nil
sub-snoc o (sub-keep s) = sub-keep (sub-snoc o s)
sub-snoc o (sub-skip s) = sub-skip (sub-snoc o s)

sub-append : {a b : List Op} (c : List Op) → Sub a b → Sub a (b ++ c)
sub-append c sub-nil = sub-empty c
sub-append c (sub-keep s) = sub-keep (sub-append c s)
sub-append c (sub-skip s) = sub-skip (sub-append c s)

-- a selection of rising ids rises
pub sub-rising : {a b : List Op} {f : ℕ} → Sub a b → RisingOps f b → RisingOps f a
sub-rising sub-nil r = r
sub-rising (sub-keep s) (ops-rise p r) = ops-rise p (sub-rising s r)
sub-rising {a} {f = f} (sub-skip {o = o} s) (ops-rise p r) = ops-lower (suc o.id) f a (omega arith) (sub-rising s r)

-- what holds of all holds of a selection
pub sub-all : {a b : List Op} (P : Op → Type 0) → Sub a b → All P b → All P a
sub-all P sub-nil h = h
sub-all P (sub-keep s) h = (h.0, sub-all P s h.1)
sub-all P (sub-skip s) h = sub-all P s h.1

none_of : (ops : List Op) → ShardOf ops no_entries
none_of ops = (sub-empty ops, λ h. absurd (omega arith))

cut_off_lem : (target n : ℕ) (ops : List Op) (s : Split) → SplitOf ops s → SplitOf ops (cut_off target n s)
unfolding cut_off
cut_off_lem target n ops s h = go (ltb target (get_or s.shards n no_entries).size) refl
  where
    go : (b : Bool) → ltb target (get_or s.shards n no_entries).size ≡ b
        → SplitOf ops (pick b (record { shards = set s.shards n no_entries; fragments = s.fragments ++ ((get_or s.shards n no_entries).ops ∷ []) }) s)
    go false e = h
    go true e =
        let p = all-get (ShardOf ops) s.shards n no_entries h.shards (none_of ops) in
        let l = ltb-true target (get_or s.shards n no_entries).size e in
        record {
          shards = all_set (ShardOf ops) s.shards n no_entries h.shards (none_of ops);
          fragments = all_append (PartOf ops) s.fragments ((get_or s.shards n no_entries).ops ∷ []) h.fragments ((p.0, p.1 (omega arith)), tt);
        }

join-in : (o : Op) (n : ℕ) (ops : List Op) (s : Split) → SplitOf ops s → SplitOf (ops ++ (o ∷ [])) (joining o n s)
unfolding joining
join-in o n ops s h =
    let p = all-get (ShardOf ops) s.shards n no_entries h.shards (none_of ops) in
    let l = length-append (get_or s.shards n no_entries).ops (o ∷ []) in
    record {
      shards =
          all_set (ShardOf (ops ++ (o ∷ []))) s.shards n _
          (all_map (ShardOf ops) (ShardOf (ops ++ (o ∷ []))) s.shards (λ c q. (sub-append (o ∷ []) q.0, q.1)) h.shards)
          (sub-snoc o p.0, λ z. omega arith);
      fragments = all_map (PartOf ops) (PartOf (ops ++ (o ∷ []))) s.fragments (λ c q. (sub-append (o ∷ []) q.0, q.1)) h.fragments;
    }

split_from_lem : (target : ℕ) (ops os : List Op) (s : Split) → SplitOf ops s → SplitOf (ops ++ os) (split_from target os s)
unfolding split_from
split_from_lem target ops [] s h = rw (append-nil ops) h
split_from_lem target ops (o ∷ os) s h =
    subst (λ (l : List Op). SplitOf l (split_from target os (joining o (shard_for o.content) (cut_off target (shard_for o.content) s)))) (append_assoc ops (o ∷ []) os)
    (split_from_lem target (ops ++ (o ∷ [])) os (joining o (shard_for o.content) (cut_off target (shard_for o.content) s))
    (join-in o (shard_for o.content) ops (cut_off target (shard_for o.content) s) (cut_off_lem target (shard_for o.content) ops s h)))

with_entries : (ops : List Op) (shards : List Shard) → All (ShardOf ops) shards → All (PartOf ops) (keep has_entries (map (λ (s : Shard). s.ops) shards))
unfolding keep
with_entries ops [] h = tt
with_entries ops (c ∷ shards) h = go c.ops h.0.0 (with_entries ops shards h.1)
  where
    go : (file : List Op) → Sub file ops → All (PartOf ops) (keep has_entries (map (λ (s : Shard). s.ops) shards))
        → All (PartOf ops) (pick (has_entries file) (file ∷ keep has_entries (map (λ (s : Shard). s.ops) shards)) (keep has_entries (map (λ (s : Shard). s.ops) shards)))
    go [] s ih = ih
    go (o ∷ os) s ih = ((s, omega arith), ih)

-- LAW: every file is a selection of what is moved
pub files-parts : (target : ℕ) (ops : List Op) → All (PartOf ops) (files_of target ops)
unfolding files_of
files-parts target ops =
    let start : Split = record { shards = replicate 65 no_entries; fragments = [] } in
    let s = split_from_lem target [] ops start (record { shards = all_replicate (ShardOf []) 65 no_entries (none_of []); fragments = tt }) in
    let end : Split = split_from target ops start in
    all_append (PartOf ops) (keep has_entries (map (λ (c : Shard). c.ops) end.shards)) end.fragments (with_entries ops end.shards s.shards) s.fragments
