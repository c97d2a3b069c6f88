-- "Table. Load .., store, compare-and-store, store-if-greater.", load in three ways (request P1): of each call the answer, the refusal, and every load afterwards.
use Rattle.std.specs.Prelude.{◌≡◌, refl, ◌⊎◌, ◌≤◌, ◌<◌, ◌&&◌, ◌||◌, ◌∷◌, None, Some}
use Rattle.std.proofs.Common.{sym, ap, ◌∙◌, inl, inr, arith, leb-true, leb-false, eq-eqb, ne_eqb, lt-ltb, le-ltb}
use Rattle.std.proofs.lemmas.Bool.{not-false}
use Rattle.rules.specs.Base.{Bool, true, false, List, [], ℕ, length, leb, eqb, pick}
use Rattle.rules.proofs.BaseLaws.{and-true, and-holds, or-clear, same?}
use Rattle.theory.specs.Types.{Entry, Held, At, DeletedAt, Limits, TableRoom, NotThere, EqualLocation, Location}
use Rattle.rules.proofs.RefusalLaws.{decide-none, decide-first, decide-next}
use Rattle.disk_location.specs.Locations.{delete_of}
use Rattle.rules.specs.Table.{lookup, loaded_of, load, insert, unmapped, full}
use Rattle.rules.specs.TableLaws.{Rising}
use Rattle.rules.proofs.TableLaws.{mapped-one, mapped-not, lookup-insert-same, lookup-insert-other, rising-insert, lookup-has, has-lookup, insert-new, insert-old, full-when, full-mapped, full-room}
use Rattle.rules.specs.Layout.{Table, lengths_in_range, in_form, capacity_of, used_entries, laid_out}
use Rattle.rules.specs.LayoutLaws.{Used}
use Rattle.rules.proofs.LayoutLaws.{lengths-in-range, range-lengths-in, laid-out-capacity, laid-out-even, used-laid-out, form-laid-out, used-located, used-length, form-rising}
use Rattle.rules.specs.World.{accepted, refused, loaded_given}
use Rattle.rules.specs.TableCalls.{TableAfter, not_form, same, with_stored, load_call, store_call, compare_call, greater_call}

-- where an id is, if it is mapped
abbrev pub held_in : Table → ℕ → Held
held_in b id = lookup (used_entries b) id

-- "a new id in a full table"
abbrev pub NewInFull : Table → ℕ → Type 0
NewInFull b id = (held_in b id ≡ None) × (capacity_of b ≤ length (used_entries b))

-- what a load gives of a location: its kind, 1 with the delete mark and 2 without, and the location
abbrev pub kind_at : Bool → ℕ
kind_at true = 1
kind_at false = 2

-- the table afterwards: in form and as long, this id at this location, every other where it was
pub record Took (b : Table) (id raw : ℕ) (t : Table) : Type 0 where
  pub form : not_form t ≡ false
  pub capacity : capacity_of t ≡ capacity_of b
  pub here : (load_call t id).answer ≡ accepted (kind_at (delete_of raw) ∷ raw ∷ [])
  pub others : (y : ℕ) → (y ≡ id → ⊥) → (load_call t y).answer ≡ (load_call b y).answer

-- ---- load
-- LAW: 1; else kind 1 or 2 and the location of a mapped id, by its delete mark; kind 0 for an unmapped one; the table stays
pub record Load (b : Table) (id : ℕ) : Type 0 where
  pub limits : not_form b ≡ true → load_call b id ≡ same b (refused Limits)
  pub mapped : not_form b ≡ false → (l : ℕ) → held_in b id ≡ Some l → load_call b id ≡ same b (accepted (kind_at (delete_of l) ∷ l ∷ []))
  pub never : not_form b ≡ false → held_in b id ≡ None → load_call b id ≡ same b (accepted (0 ∷ []))

load-loaded : (b : Table) (id : ℕ) → not_form b ≡ false → load_call b id ≡ same b (loaded_given (load (used_entries b) id))
unfolding load_call
load-loaded b id f = rw (decide-next (not_form b) Limits [] f, decide-none)

load-limits : (b : Table) (id : ℕ) → not_form b ≡ true → load_call b id ≡ same b (refused Limits)
unfolding load_call
load-limits b id f = rw (decide-first (not_form b) Limits [] f)

-- what is given of a mapped id
given-mapped : (l : ℕ) → loaded_given (loaded_of (Some l)) ≡ accepted (kind_at (delete_of l) ∷ l ∷ [])
given-mapped l = go (delete_of l)
  where
    go : (d : Bool) → loaded_given (pick d (DeletedAt l) (At l)) ≡ accepted (kind_at d ∷ l ∷ [])
    go true = refl
    go false = refl

pub load-facts : (b : Table) (id : ℕ) → Load b id
load-facts b id = record {
  limits = load-limits b id;
  mapped = λ f l h. load-loaded b id f ∙ ap (λ (x : Held). same b (loaded_given (loaded_of x))) h ∙ ap (same b) (given-mapped l);
  never = λ f h. load-loaded b id f ∙ ap (λ (x : Held). same b (loaded_given (loaded_of x))) h;
}

-- ---- a store
in-form : (b : Table) → not_form b ≡ false → (lengths_in_range b ≡ true) × (in_form b ≡ true)
in-form b f = and-true (lengths_in_range b) (in_form b) (not-false (lengths_in_range b && in_form b) f)

form_in : (b : Table) → lengths_in_range b ≡ true → in_form b ≡ true → not_form b ≡ false
form_in b l f = rw (and-holds (lengths_in_range b) (in_form b) l f)

used-insert : (es : List Entry) (n : Entry) → Rising 0 es → Used es → 0 < n.location → Used (insert es n)
used-insert es n r u some x l h = go (same? n.id x)
  where
    at : lookup (insert es n) x ≡ Some l
    at = has-lookup 0 (insert es n) (rising-insert 0 es n (omega arith) r) x l h

    go : (n.id ≡ x) ⊎ (n.id ≡ x → ⊥) → 0 < l
    go (inl e) =
        let q : n.location ≡ l = mapped-one (sym (lookup-insert-same es n) ∙ ap (lookup (insert es n)) e ∙ at) in
        omega arith
    go (inr d) = u x l (lookup-has es x l (sym (lookup-insert-other es n x d) ∙ at))

-- stored where the id is mapped or there is room
took : (b : Table) (id raw : ℕ) → not_form b ≡ false → (raw ≡ 0 → ⊥) → (NewInFull b id → ⊥) → Took b id raw (with_stored b id raw)
unfolding with_stored
took b id raw f some room = record {
  form = form-after;
  capacity = capacity-after;
  here = ap (λ (x : TableAfter). x.answer) (load-loaded t id form-after) ∙ ap (λ (h : Held). loaded_given (loaded_of h)) (ap (λ (x : List Entry). lookup x id) entries-after ∙ lookup-insert-same (used_entries b) n) ∙ given-mapped raw;
  others = λ y d.
      ap (λ (x : TableAfter). x.answer) (load-loaded t y form-after)
      ∙ ap (λ (h : Held). loaded_given (loaded_of h)) (ap (λ (x : List Entry). lookup x y) entries-after ∙ lookup-insert-other (used_entries b) n y (λ e. d (sym e)))
      ∙ sym (ap (λ (x : TableAfter). x.answer) (load-loaded b y f));
}
  where
    n : Entry
    n = record { id = id; location = raw }

    es : List Entry
    es = insert (used_entries b) n

    t : Table
    t = laid_out (capacity_of b) es

    rising : Rising 0 (used_entries b)
    rising = form-rising b (in-form b f).1

    used : Used es
    used = used-insert (used_entries b) n rising (used-located b) (omega (arith, some))

    length-by : (h : Held) → held_in b id ≡ h → length es ≤ capacity_of b
    length-by (Some l) e = omega (arith, insert-old 0 (used_entries b) rising n l e, used-length b)
    length-by None e = by-room (leb (capacity_of b) (length (used_entries b))) refl
      where
        by-room : (c : Bool) → leb (capacity_of b) (length (used_entries b)) ≡ c → length (insert (used_entries b) (record { id = id; location = raw })) ≤ capacity_of b
        by-room true q = absurd (room (e, leb-true (capacity_of b) (length (used_entries b)) q))
        by-room false q = omega (arith, insert-new (used_entries b) (record { id = id; location = raw }) e, leb-false (capacity_of b) (length (used_entries b)) q)

    fits : length es ≤ capacity_of b
    fits = length-by (held_in b id) refl

    capacity-after : capacity_of t ≡ capacity_of b
    capacity-after = laid-out-capacity (capacity_of b) es fits

    entries-after : used_entries t ≡ es
    entries-after = used-laid-out (capacity_of b) es used

    form-after : not_form t ≡ false
    form-after =
        let w = lengths-in-range b (in-form b f).0 in
        form_in t
        (range-lengths-in t (record { even = laid-out-even (capacity_of b) es fits; some = omega (arith, capacity-after, w.some); most = omega (arith, capacity-after, w.most) }))
        (form-laid-out (capacity_of b) es used (rising-insert 0 (used_entries b) n (omega arith) rising))

-- full or not, as facts
not_full : (b : Table) (id : ℕ) → (NewInFull b id → ⊥) → full (used_entries b) (capacity_of b) id ≡ false
not_full b id room = go (held_in b id) refl
  where
    go : (h : Held) → held_in b id ≡ h → full (used_entries b) (capacity_of b) id ≡ false
    go (Some l) e = full-mapped (used_entries b) (capacity_of b) id l e
    go None e = by-room (leb (capacity_of b) (length (used_entries b))) refl
      where
        by-room : (c : Bool) → leb (capacity_of b) (length (used_entries b)) ≡ c → full (used_entries b) (capacity_of b) id ≡ false
        by-room true q = absurd (room (e, leb-true (capacity_of b) (length (used_entries b)) q))
        by-room false q = full-room (used_entries b) (capacity_of b) id (leb-false (capacity_of b) (length (used_entries b)) q)

-- LAW: 1; 20 of raw 0; 6 of a new id in a full table; else stored
pub record Store (b : Table) (id raw : ℕ) : Type 0 where
  pub limits : not_form b ≡ true → store_call b id raw ≡ same b (refused Limits)
  pub location : not_form b ≡ false → raw ≡ 0 → store_call b id raw ≡ same b (refused Location)
  pub room : not_form b ≡ false → (raw ≡ 0 → ⊥) → NewInFull b id → store_call b id raw ≡ same b (refused TableRoom)
  pub answer : not_form b ≡ false → (raw ≡ 0 → ⊥) → (NewInFull b id → ⊥) → (store_call b id raw).answer ≡ accepted []
  pub took : not_form b ≡ false → (raw ≡ 0 → ⊥) → (NewInFull b id → ⊥) → Took b id raw (store_call b id raw).table

pub store-facts : (b : Table) (id raw : ℕ) → Store b id raw
unfolding store_call
store-facts b id raw = record {
  limits = λ f. rw (decide-first (not_form b) Limits _ f);
  location = λ f z. rw (decide-next (not_form b) Limits _ f, decide-first (eqb raw 0) Location _ (eq-eqb raw 0 z));
  room = λ f some full. rw (decide-next (not_form b) Limits _ f, decide-next (eqb raw 0) Location _ (ne_eqb raw 0 some), decide-first _ TableRoom [] (full-when (used_entries b) (capacity_of b) id full.0 full.1));
  answer = λ f some room. rw (decide-next (not_form b) Limits _ f, decide-next (eqb raw 0) Location _ (ne_eqb raw 0 some), decide-next _ TableRoom [] (not_full b id room), decide-none);
  took = λ f some room. rw (decide-next (not_form b) Limits _ f, decide-next (eqb raw 0) Location _ (ne_eqb raw 0 some), decide-next _ TableRoom [] (not_full b id room), decide-none) (took b id raw f some room);
}

-- LAW: 1; 20 of either raw 0; 18 of an unmapped id; a compare that differs stores nothing and gives the current location; else stored
pub record Compare (b : Table) (id old raw : ℕ) : Type 0 where
  pub limits : not_form b ≡ true → compare_call b id old raw ≡ same b (refused Limits)
  pub location : not_form b ≡ false → (old ≡ 0) ⊎ (raw ≡ 0) → compare_call b id old raw ≡ same b (refused Location)
  pub unmapped : not_form b ≡ false → (old ≡ 0 → ⊥) → (raw ≡ 0 → ⊥) → held_in b id ≡ None → compare_call b id old raw ≡ same b (refused NotThere)
  pub differs : not_form b ≡ false → (old ≡ 0 → ⊥) → (raw ≡ 0 → ⊥) → (l : ℕ) → held_in b id ≡ Some l → (l ≡ old → ⊥) → compare_call b id old raw ≡ same b (accepted (l ∷ []))
  pub answer : not_form b ≡ false → (old ≡ 0 → ⊥) → (raw ≡ 0 → ⊥) → held_in b id ≡ Some old → (compare_call b id old raw).answer ≡ accepted []
  pub took : not_form b ≡ false → (old ≡ 0 → ⊥) → (raw ≡ 0 → ⊥) → held_in b id ≡ Some old → Took b id raw (compare_call b id old raw).table

either-zero : (old raw : ℕ) → (old ≡ 0) ⊎ (raw ≡ 0) → (eqb old 0 || eqb raw 0) ≡ true
either-zero old raw (inl e) = rw (eq-eqb old 0 e)
either-zero old raw (inr e) = rw (eq-eqb raw 0 e) (go (eqb old 0))
  where
    go : (t : Bool) → (t || true) ≡ true
    go true = refl
    go false = refl

not_new : (b : Table) (id l : ℕ) → held_in b id ≡ Some l → NewInFull b id → ⊥
not_new b id l h w = mapped-not (sym h ∙ w.0)

pub compare-facts : (b : Table) (id old raw : ℕ) → Compare b id old raw
unfolding compare_call
compare-facts b id old raw = record {
  limits = λ f. rw (decide-first (not_form b) Limits _ f);
  location = λ f z. rw (decide-next (not_form b) Limits _ f, decide-first (eqb old 0 || eqb raw 0) Location _ (either-zero old raw z));
  unmapped = λ f p q h. rw (decide-next (not_form b) Limits _ f, decide-next (eqb old 0 || eqb raw 0) Location _ (both p q), h, decide-first true NotThere [] refl);
  differs = λ f p q l h d. rw (decide-next (not_form b) Limits _ f, decide-next (eqb old 0 || eqb raw 0) Location _ (both p q), h, decide-next false NotThere [] refl, decide-none, ne_eqb l old d);
  answer = λ f p q h. rw (decide-next (not_form b) Limits _ f, decide-next (eqb old 0 || eqb raw 0) Location _ (both p q), h, decide-next false NotThere [] refl, decide-none, eq-eqb old old refl);
  took = λ f p q h.
      rw (decide-next (not_form b) Limits _ f, decide-next (eqb old 0 || eqb raw 0) Location _ (both p q), h, decide-next false NotThere [] refl, decide-none, eq-eqb old old refl)
      (took b id raw f q (not_new b id old h));
}
  where
    both : (old ≡ 0 → ⊥) → (raw ≡ 0 → ⊥) → (eqb old 0 || eqb raw 0) ≡ false
    both p q = or-clear (eqb old 0) (eqb raw 0) (ne_eqb old 0 p) (ne_eqb raw 0 q)

-- LAW: 1; 20 of raw 0; 19 of an equal one; 6 of a new id in a full table; a lower one is not stored; a greater one and a new one are; and it gives the
-- location held before, or nothing
pub record Greater (b : Table) (id raw : ℕ) : Type 0 where
  pub limits : not_form b ≡ true → greater_call b id raw ≡ same b (refused Limits)
  pub location : not_form b ≡ false → raw ≡ 0 → greater_call b id raw ≡ same b (refused Location)
  pub equal : not_form b ≡ false → (raw ≡ 0 → ⊥) → held_in b id ≡ Some raw → greater_call b id raw ≡ same b (refused EqualLocation)
  pub room : not_form b ≡ false → (raw ≡ 0 → ⊥) → NewInFull b id → greater_call b id raw ≡ same b (refused TableRoom)
  pub lower : not_form b ≡ false → (raw ≡ 0 → ⊥) → (l : ℕ) → held_in b id ≡ Some l → raw < l → greater_call b id raw ≡ same b (accepted (l ∷ []))
  pub answer : not_form b ≡ false → (raw ≡ 0 → ⊥) → (l : ℕ) → held_in b id ≡ Some l → l < raw → (greater_call b id raw).answer ≡ accepted (l ∷ [])
  pub took : not_form b ≡ false → (raw ≡ 0 → ⊥) → (l : ℕ) → held_in b id ≡ Some l → l < raw → Took b id raw (greater_call b id raw).table
  pub new-answer : not_form b ≡ false → (raw ≡ 0 → ⊥) → held_in b id ≡ None → (NewInFull b id → ⊥) → (greater_call b id raw).answer ≡ accepted []
  pub new-took : not_form b ≡ false → (raw ≡ 0 → ⊥) → held_in b id ≡ None → (NewInFull b id → ⊥) → Took b id raw (greater_call b id raw).table

pub greater-facts : (b : Table) (id raw : ℕ) → Greater b id raw
unfolding greater_call
greater-facts b id raw = record {
  limits = λ f. rw (decide-first (not_form b) Limits _ f);
  location = λ f z. rw (decide-next (not_form b) Limits _ f, decide-first (eqb raw 0) Location _ (eq-eqb raw 0 z));
  equal = λ f some h. rw (decide-next (not_form b) Limits _ f, decide-next (eqb raw 0) Location _ (ne_eqb raw 0 some), h, decide-first (eqb raw raw) EqualLocation _ (eq-eqb raw raw refl));
  room = λ f some w.
      rw (decide-next (not_form b) Limits _ f, decide-next (eqb raw 0) Location _ (ne_eqb raw 0 some), w.0, decide-next false EqualLocation _ refl, decide-first _ TableRoom [] (full-when (used_entries b) (capacity_of b) id w.0 w.1));
  lower = λ f some l h less.
      rw (
        decide-next (not_form b) Limits _ f,
        decide-next (eqb raw 0) Location _ (ne_eqb raw 0 some),
        h,
        decide-next (eqb l raw) EqualLocation _ (ne_eqb l raw (λ e. omega arith)),
        decide-next _ TableRoom [] (full-mapped (used_entries b) (capacity_of b) id l h),
        decide-none,
        le-ltb l raw (omega arith),
      );
  answer = λ f some l h more.
      rw (
        decide-next (not_form b) Limits _ f,
        decide-next (eqb raw 0) Location _ (ne_eqb raw 0 some),
        h,
        decide-next (eqb l raw) EqualLocation _ (ne_eqb l raw (λ e. omega arith)),
        decide-next _ TableRoom [] (full-mapped (used_entries b) (capacity_of b) id l h),
        decide-none,
      );
  took = λ f some l h more.
      rw (
        decide-next (not_form b) Limits _ f,
        decide-next (eqb raw 0) Location _ (ne_eqb raw 0 some),
        h,
        decide-next (eqb l raw) EqualLocation _ (ne_eqb l raw (λ e. omega arith)),
        decide-next _ TableRoom [] (full-mapped (used_entries b) (capacity_of b) id l h),
        decide-none,
        lt-ltb l raw more,
      ) (took b id raw f some (not_new b id l h));
  new-answer = λ f some h room.
      rw (decide-next (not_form b) Limits _ f, decide-next (eqb raw 0) Location _ (ne_eqb raw 0 some), h, decide-next false EqualLocation _ refl, decide-next _ TableRoom [] (not_full b id room), decide-none);
  new-took = λ f some h room.
      rw (decide-next (not_form b) Limits _ f, decide-next (eqb raw 0) Location _ (ne_eqb raw 0 some), h, decide-next false EqualLocation _ refl, decide-next _ TableRoom [] (not_full b id room), decide-none)
      (took b id raw f some room);
}
