-- Operations, and the file that they make: lengths, positions, and that it is read back.
use Rattle.std.specs.Prelude.{◌≡◌, refl, ◌≤◌, ◌<◌, ◌∷◌, ◌++◌, ◌+◌, ◌-◌, ◌*◌, ◌/◌, ◌^◌}
use Rattle.std.proofs.Common.{sym, ap, ap₂, ◌∙◌, subst, true≢false, inl, inr, arith, length-append}
use Rattle.std.proofs.Math.Seq.{drop-append-add}
use Rattle.rules.specs.Base.{Bool, true, false, List, [], map, ℕ, zero, suc, length, drop, each}
use Rattle.rules.specs.Types.{Entry}
use Rattle.disk_location.specs.Locations.{position_of, delete_of, raw_of, digits_in}
use Rattle.disk_location.proofs.LocationLaws.{position-raw, delete-raw}
use Rattle.rules.specs.TableLaws.{Rising, rise, rise-end, Has}
use Rattle.rules.specs.Object.{object_bytes, Stored, objects_from, objects_in}
use Rattle.rules.specs.ObjectLaws.{stored_object}
use Rattle.rules.proofs.ObjectLaws.{object-length, objects-none, objects-put}
use Rattle.rules.specs.Trailer.{trailer_bytes}
use Rattle.rules.specs.TrailerLaws.{Fits, WellPlaced}
use Rattle.rules.proofs.TrailerLaws.{trailer-length}
use Rattle.rules.specs.Ops.{Content, put, delete, Op, is_delete, size_of, shard_for, content_bytes, objects_of, entries_of, file_bytes}
use Rattle.rules.specs.OpsLaws.{RisingOps, ops-end, ops-rise, IdsFit, Stands, Of, stored_here, stored_of}

-- from a lower one on, too
pub ops-lower : (f g : ℕ) (ops : List Op) → g ≤ f → RisingOps f ops → RisingOps g ops
ops-lower f g [] h r = ops-end
ops-lower f g (o ∷ os) h (ops-rise a r) = let low : g ≤ o.id = omega arith in ops-rise low r

-- ---- lengths
pub content-length : (id : ℕ) (c : Content) → length (content_bytes id c) ≡ size_of c
content-length id (put body) = object-length id body
content-length id delete = refl

-- the first operation's bytes, then the others'
pub objects-cons : (o : Op) (os : List Op) → objects_of (o ∷ os) ≡ content_bytes o.id o.content ++ objects_of os
unfolding objects_of each
objects-cons o os = refl

-- none
pub objects-nil : objects_of [] ≡ []
unfolding objects_of each
objects-nil = refl

-- T
pub objects-length : (o : Op) (os : List Op) → length (objects_of (o ∷ os)) ≡ size_of o.content + length (objects_of os)
objects-length o os = ap length (objects-cons o os) ∙ omega (arith, length-append (content_bytes o.id o.content) (objects_of os), content-length o.id o.content)

-- "present_objects is the entry count, deletes included"
pub entries-of-length : (position : ℕ) (ops : List Op) → length (entries_of position ops) ≡ length ops
unfolding entries_of
entries-of-length position [] = refl
entries-of-length position (o ∷ os) = ap suc (entries-of-length (position + size_of o.content) os)

-- file_size
pub file-length : (ops : List Op) → length (file_bytes ops) ≡ length (objects_of ops) + (12 + 16 * length ops)
unfolding file_bytes
file-length ops =
    omega (arith, length-append (objects_of ops) (trailer_bytes (entries_of 0 ops)), trailer-length (entries_of 0 ops), entries-of-length 0 ops)

-- ---- entries
pub entries-of-ids : (position : ℕ) (ops : List Op) → map (λ (e : Entry). e.id) (entries_of position ops) ≡ map (λ (o : Op). o.id) ops
unfolding entries_of
entries-of-ids position [] = refl
entries-of-ids position (o ∷ os) = ap (λ (ids : List ℕ). o.id ∷ ids) (entries-of-ids (position + size_of o.content) os)

-- rising ids make rising entries
pub entries-of-rising : (position f : ℕ) (ops : List Op) → RisingOps f ops → Rising f (entries_of position ops)
unfolding entries_of
entries-of-rising position f [] r = rise-end
entries-of-rising position f (o ∷ os) (ops-rise a r) = rise a (entries-of-rising (position + size_of o.content) (suc o.id) os r)

-- it has its entry
pub stands-entry : (q : ℕ) (ops : List Op) (x : ℕ) (c : Content) (p : ℕ) → Stands q ops x c p → Has (entries_of q ops) x (raw_of p (is_delete c))
unfolding entries_of
stands-entry q [] x c p h = absurd h
stands-entry q (o ∷ os) x c p (inl (a, b, e)) = inl (a, ap₂ (λ (n : ℕ) (d : Content). raw_of n (is_delete d)) e b)
stands-entry q (o ∷ os) x c p (inr h) = inr (stands-entry (q + size_of o.content) os x c p h)

-- and each entry is an operation's
pub entry-stands : (q : ℕ) (ops : List Op) (x l : ℕ) → Has (entries_of q ops) x l → Of q ops x l
unfolding entries_of
entry-stands q [] x l h = absurd h
entry-stands q (o ∷ os) x l (inl (a, b)) =
    let at : position_of l ≡ q = ap position_of (sym b) ∙ position-raw q (is_delete o.content) in
    record { content = o.content; stands = inl (a, refl, sym at); location = sym b ∙ ap (λ (n : ℕ). raw_of n (is_delete o.content)) (sym at) }
entry-stands q (o ∷ os) x l (inr h) =
    let w = entry-stands (q + size_of o.content) os x l h in
    record { content = w.content; stands = inr w.stands; location = w.location }

-- it stands within the object bytes
pub stands-inside : (q : ℕ) (ops : List Op) (x : ℕ) (c : Content) (p : ℕ) → Stands q ops x c p → (q ≤ p) × (p + size_of c ≤ q + length (objects_of ops))
stands-inside q [] x c p h = absurd h
stands-inside q (o ∷ os) x c p (inl (a, b, e)) = (omega (arith, e), omega (arith, e, objects-length o os, ap size_of b))
stands-inside q (o ∷ os) x c p (inr h) =
    let w = stands-inside (q + size_of o.content) os x c p h in
    (omega (arith, w.0), omega (arith, w.1, objects-length o os))

-- "entry position" is at most T
pub entries-of-inside : (q : ℕ) (ops : List Op) (x l : ℕ) → Has (entries_of q ops) x l → (q ≤ position_of l) × (position_of l ≤ q + length (objects_of ops))
entries-of-inside q ops x l h =
    let w = entry-stands q ops x l h in
    let v = stands-inside q ops x w.content (position_of l) w.stands in
    (v.0, omega (arith, v.1))

-- no entry is misplaced: behind an object's position there is room for its header
pub entries-of-placed : (ops : List Op) (x l : ℕ) → Has (entries_of 0 ops) x l → WellPlaced (length (objects_of ops)) l
entries-of-placed ops x l h =
    let w = entry-stands 0 ops x l h in
    let v = stands-inside 0 ops x w.content (position_of l) w.stands in
    record { inside = omega (arith, v.1); header = go w.content w.location v.1 }
  where
    go : (c : Content) → l ≡ raw_of (position_of l) (is_delete c) → position_of l + size_of c ≤ 0 + length (objects_of ops)
        → delete_of l ≡ false → position_of l + 20 ≤ length (objects_of ops)
    go (put body) e b d = omega arith
    go delete e b d = absurd (true≢false (sym (delete-raw (position_of l) true) ∙ ap delete_of (sym e) ∙ d))

raw-below : (p : ℕ) (d : Bool) → p < 2 ^ 63 → raw_of p d < 2 ^ 64
raw-below p true h = omega arith
raw-below p false h = omega arith

-- entries have 64 bits
pub entries-of-fits : (q : ℕ) (ops : List Op) → IdsFit ops → q + length (objects_of ops) < 2 ^ 63 → Fits (entries_of q ops)
unfolding entries_of
entries-of-fits q [] f n x l h = absurd h
entries-of-fits q (o ∷ os) f n x l (inl (a, b)) =
    let t = objects-length o os in
    let low : q < 2 ^ 63 = omega arith in
    let w = raw-below q (is_delete o.content) low in
    let id : x < 2 ^ 64 = subst (λ (m : ℕ). m < 2 ^ 64) a f.0 in
    (id, subst (λ (m : ℕ). m < 2 ^ 64) b w)
entries-of-fits q (o ∷ os) f n x l (inr h) = entries-of-fits (q + size_of o.content) os f.1 (omega (arith, objects-length o os)) x l h

-- the walk over object bytes that were written finds exactly the puts, at their positions
objects-from-back : (k position : ℕ) (ops : List Op) → IdsFit ops → length (objects_of ops) ≤ k → length (objects_of ops) < 2 ^ 64
    → objects_from k position (objects_of ops) ≡ stored_of position ops
unfolding stored_of
objects-from-back k position [] f short n = ap (objects_from k position) objects-nil ∙ objects-none k position
objects-from-back k position (o ∷ os) f short n =
    ap (objects_from k position) (objects-cons o os)
    ∙ go k o.content (omega (arith, objects-length o os)) (omega (arith, objects-length o os)) (λ j q less. objects-from-back j q os f.1 less (omega (arith, objects-length o os)))
  where
    go : (k : ℕ) (c : Content) → size_of c + length (objects_of os) ≤ k → size_of c + length (objects_of os) < 2 ^ 64
        → ((j q : ℕ) → length (objects_of os) ≤ j → objects_from j q (objects_of os) ≡ stored_of q os)
        → objects_from k position (content_bytes o.id c ++ objects_of os) ≡ stored_here position o.id c (length (objects_of os)) ++ stored_of (position + size_of c) os
    go k delete less fits ih = let here : position + 0 ≡ position = omega arith in rw here (ih k position (omega arith))
    go zero (put body) less fits ih = absurd (omega arith)
    go (suc k) (put body) less fits ih =
        objects-put k position o.id body (objects_of os) f.0 (omega arith)
        ∙ ap (λ (t : List Stored). stored_object position o.id body (length (objects_of os)) ∷ t) (ih k (position + (20 + length body)) (omega arith))

-- of the whole object bytes
pub objects-back : (ops : List Op) → IdsFit ops → length (objects_of ops) < 2 ^ 64 → objects_in (objects_of ops) ≡ stored_of 0 ops
unfolding objects_in
objects-back ops f n = objects-from-back (length (objects_of ops)) 0 ops f (omega arith) n

-- an object's bytes are at its position
pub stands-bytes : (q : ℕ) (ops : List Op) (x : ℕ) (body : List ℕ) (p : ℕ) → Stands q ops x (put body) p
    → (rest : List ℕ) × (drop (p - q) (objects_of ops) ≡ object_bytes x body ++ rest)
stands-bytes q [] x body p h = absurd h
stands-bytes q (o ∷ os) x body p (inl (a, b, e)) =
    let none : p - q ≡ 0 = omega (arith, e) in
    (objects_of os, ap (λ (n : ℕ). drop n (objects_of (o ∷ os))) none ∙ objects-cons o os ∙ ap₂ (λ (n : ℕ) (c : Content). content_bytes n c ++ objects_of os) a b)
stands-bytes q (o ∷ os) x body p (inr h) =
    let w = stands-bytes (q + size_of o.content) os x body p h in
    let low = stands-inside (q + size_of o.content) os x (put body) p h in
    let there : p - q ≡ size_of o.content + (p - (q + size_of o.content)) = omega (arith, low.0) in
    (w.0, ap₂ drop there (objects-cons o os) ∙ past (content_bytes o.id o.content) (objects_of os) (size_of o.content) _ (content-length o.id o.content) ∙ w.1)
  where
    past : (xs ys : List ℕ) (n k : ℕ) → length xs ≡ n → drop (n + k) (xs ++ ys) ≡ drop k ys
    past xs ys n k e = rw (← e) (drop-append-add xs ys k)

-- ---- 65 shards
digits-most : (k x : ℕ) → digits_in k x ≤ k
unfolding digits_in
digits-most zero x = omega arith
digits-most (suc k) zero = omega arith
digits-most (suc k) (suc n) = omega (arith, digits-most k (suc n / 2))

-- "the shard number is how many bits the length needs": 64 at most
pub shard-most : (c : Content) → shard_for c < 65
shard-most (put body) = omega (arith, digits-most 64 (length body))
shard-most delete = omega arith
