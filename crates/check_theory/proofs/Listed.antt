-- Request P5, line by line: a line is in the list exactly if what it says is wrong.
use Rattle.std.specs.Prelude.{◌≡◌, ◌<◌, ◌&&◌, ◌∷◌, ◌++◌, ◌+◌}
use Rattle.std.proofs.Math.Path.{refl, subst}
use Rattle.std.proofs.Common.{sym, ap, ◌∙◌, append-nil, append_assoc, inl, inr, ⊎_elim, get_or-take, ltb-true, lt-ltb, leb-true, leb-false, eq-eqb, ne_eqb}
use Rattle.std.proofs.Math.Bool.{true≢false}
use native.Mathlib.Omega.{arith}
use Rattle.std.proofs.Math.ListN.{length-take}
use Rattle.std.proofs.lemmas.Bool.{not-true}
use Rattle.rules.specs.Base.{Bool, true, false, not, List, [], map, ℕ, zero, suc, length, take, leb, eqb, pick, any, keep, each}
use Rattle.rules.specs.BaseLaws.{All}
use Rattle.rules.proofs.BaseLaws.{all_map, all_append, and-true, and-holds}
use Rattle.disk_location.specs.Locations.{masked_of, position_of, delete_of}
use Rattle.checksum.specs.Checksum.{object_sum}
use Rattle.rules.specs.Object.{Stored, bad_checksum, objects_in}
use Rattle.rules.specs.SlotFile.{File, View, empty, damaged, holds}
use Rattle.rules.specs.TableLaws.{Has}
use Rattle.rules.specs.Layout.{Table, capacity_of}
use Rattle.rules.specs.Reopen.{file_of, files_in, meets, not_rising}
use Rattle.theory.specs.Types.{Settings, Entry, Refusal, TableRoom, Checksum, Overlap, NotRising, CutShort, OtherId}
use Rattle.theory.proofs.Lists.{all-each}
use Rattle.theory.specs.Places.{view_at, Apart}
use Rattle.theory.proofs.Places.{not-empty, not-damaged, holds-lt}
use Rattle.history_theory.specs.Moving.{StandsIn}
use Rattle.history_theory.proofs.Moving.{objects-stand}
use Rattle.faults.specs.Faults.{judged, judged_in, line, line_if, passes, walked, entered, object_faults, entry_faults, file_faults, meets_earlier, slot_faults, faults_from, closing, faults_of}
use Rattle.faults.specs.Judging.{judged-at}
use Rattle.check_theory.specs.Types.{Nowhere, Object, Fault}
use Rattle.check_theory.specs.Lists.{In}
use Rattle.check_theory.proofs.Lists.{in-self, all_in, in-first, in_rest, in-each, in-keep, keep-in}
use Rattle.check_theory.specs.Passing.{slot_views}
use Rattle.check_theory.proofs.Objects.{has_all, entered-has, has-entered, entered-starts, starts-entered}
use Rattle.check_theory.proofs.Wrong.{total-is, room-left}
use Rattle.check_theory.proofs.Own.{any_found, found-any}
use Rattle.check_theory.proofs.Order.{closing-when, closing-only-when}
use Rattle.check_theory.specs.Listed.{SoundAt, IsWrong, own, cut, sum, unentered, unstored, overlap, room}

-- ---- slot by slot
-- the first slot's lines
lines-here : (n : ℕ) (earlier : List File) (v : View) → slot_faults (n + 0) (earlier ++ []) v ≡ slot_faults n earlier v
lines-here n earlier v =
    let same : n + 0 ≡ n = omega arith in
    ap (λ (m : ℕ). slot_faults m (earlier ++ []) v) same ∙ ap (λ (es : List File). slot_faults n es v) (append-nil earlier)

-- a later one's
lines-there : (n k : ℕ) (earlier fs gs : List File) (v : View) → slot_faults (n + suc k) (earlier ++ (fs ++ gs)) v ≡ slot_faults (suc n + k) ((earlier ++ fs) ++ gs) v
lines-there n k earlier fs gs v =
    let same : n + suc k ≡ suc n + k = omega arith in
    ap (λ (m : ℕ). slot_faults m (earlier ++ (fs ++ gs)) v) same ∙ ap (λ (es : List File). slot_faults (suc n + k) es v) (sym (append_assoc earlier fs gs))

all_slots : (P : Fault → Type 0) (n : ℕ) (earlier : List File) (vs : List View)
    → ((k : ℕ) → k < length vs → All P (slot_faults (n + k) (earlier ++ files_in (take k vs)) (view_at vs k))) → All P (faults_from n earlier vs)
unfolding faults_from files_in each
all_slots P n earlier [] h = tt
all_slots P n earlier (v ∷ vs) h =
    all_append P (slot_faults n earlier v) (faults_from (suc n) (earlier ++ file_of v) vs) (subst (All P) (lines-here n earlier v) (h 0 (omega arith)))
    (all_slots P (suc n) (earlier ++ file_of v) vs (λ k l. subst (All P) (lines-there n k earlier (file_of v) (files_in (take k vs)) (view_at vs k)) (h (suc k) (omega arith))))

in-slots : (x : Fault) (n : ℕ) (earlier : List File) (vs : List View) (k : ℕ) → k < length vs
    → In (slot_faults (n + k) (earlier ++ files_in (take k vs)) (view_at vs k)) x → In (faults_from n earlier vs) x
unfolding faults_from files_in each
in-slots x n earlier [] k h i = absurd (let z : k < 0 = h in omega arith)
in-slots x n earlier (v ∷ vs) zero h i =
    in-first (slot_faults n earlier v) (faults_from (suc n) (earlier ++ file_of v) vs) x (subst (λ (xs : List Fault). In xs x) (lines-here n earlier v) i)
in-slots x n earlier (v ∷ vs) (suc k) h i =
    in_rest (slot_faults n earlier v) (faults_from (suc n) (earlier ++ file_of v) vs) x
    (in-slots x (suc n) (earlier ++ file_of v) vs k (omega arith) (subst (λ (xs : List Fault). In xs x) (lines-there n k earlier (file_of v) (files_in (take k vs)) (view_at vs k)) i))

-- ---- a sound slot's file is the slot's
sound-shows : (views : List View) (k : ℕ) (f : File) → view_at (map judged views) k ≡ holds f → view_at views k ≡ holds f
sound-shows views k f e = go (view_at views k) refl (sym (judged-at views k) ∙ e)
  where
    go : (v : View) → view_at views k ≡ v → judged v ≡ holds f → view_at views k ≡ holds f
    go empty is q = absurd (not-empty q)
    go (damaged r) is q = absurd (not-damaged q)
    go (holds g) is q = by (not_rising g.entries) q
      where
        by : (t : Bool) → pick t (damaged NotRising) (holds g) ≡ holds f → view_at views k ≡ holds f
        by true p = absurd (not-damaged p)
        by false p = is ∙ p

-- ---- ranges that meet
met-when : (f g : File) → (Apart f g → ⊥) → meets f.label g.label ≡ true
met-when f g n =
    and-holds (leb (masked_of f.label.lsn) (masked_of g.label.lsn + g.label.trailer_offset)) (leb (masked_of g.label.lsn) (masked_of f.label.lsn + f.label.trailer_offset))
    (go (leb (masked_of f.label.lsn) (masked_of g.label.lsn + g.label.trailer_offset)) refl (λ h. n (inr h)))
    (go (leb (masked_of g.label.lsn) (masked_of f.label.lsn + f.label.trailer_offset)) refl (λ h. n (inl h)))
  where
    go : {a b : ℕ} (t : Bool) → leb a b ≡ t → (b < a → ⊥) → leb a b ≡ true
    go true e m = e
    go false e m = absurd (m (leb-false _ _ e))

when-met : (f g : File) → meets f.label g.label ≡ true → Apart f g → ⊥
when-met f g e d =
    let w = and-true (leb (masked_of f.label.lsn) (masked_of g.label.lsn + g.label.trailer_offset)) (leb (masked_of g.label.lsn) (masked_of f.label.lsn + f.label.trailer_offset)) e in
    let a = leb-true (masked_of f.label.lsn) (masked_of g.label.lsn + g.label.trailer_offset) w.0 in
    let b = leb-true (masked_of g.label.lsn) (masked_of f.label.lsn + f.label.trailer_offset) w.1 in
    ⊎_elim (λ h. omega arith) (λ h. omega arith) d

-- a test that is never passed
never : (t : Bool) → (t ≡ true → ⊥) → t ≡ false
never true n = absurd (n refl)
never false n = refl

-- a damaged slot is one of the slots
pub damaged-lt : (views : List View) (k : ℕ) (r : Refusal) → view_at views k ≡ damaged r → k < length views
damaged-lt [] k r h = absurd (let z : ◌≡◌ {A = ℕ} 0 1 = cc in omega arith)
damaged-lt (v ∷ vs) zero r h = omega arith
damaged-lt (v ∷ vs) (suc k) r h = let w = damaged-lt vs k r h in omega arith

-- an entry that a trailer has
has_in : (es : List Entry) (x l : ℕ) → Has es x l → In es (record { id = x; location = l })
has_in [] x l h = absurd h
has_in (e ∷ es) x l (inl (a, b)) = inl (λ i. record { id = a i; location = b i })
has_in (e ∷ es) x l (inr h) = inr (has_in es x l h)

module _ (s : Settings) (heap : List ℕ) (table : Table) where
  -- T, for a walked object
  cut-total : (k : ℕ) (f : File) (o : Stored) → SoundAt s heap k f → In (objects_in f.objects) o → o.room < 20 + o.size → f.label.trailer_offset < o.position + (20 + o.size)
  cut-total k f o e i h =
      let total = total-is s heap k f (sound-shows (slot_views s heap) k f e) in
      let left = room-left f.objects o (all_in (StandsIn f.objects) (objects_in f.objects) (objects-stand f.objects) o i) in
      omega arith

  total-cut : (k : ℕ) (f : File) (o : Stored) → SoundAt s heap k f → In (objects_in f.objects) o → f.label.trailer_offset < o.position + (20 + o.size) → o.room < 20 + o.size
  total-cut k f o e i h =
      let total = total-is s heap k f (sound-shows (slot_views s heap) k f e) in
      let left = room-left f.objects o (all_in (StandsIn f.objects) (objects_in f.objects) (objects-stand f.objects) o i) in
      omega arith

  -- ---- every line is of something wrong
  object-wrong : (k : ℕ) (f : File) → SoundAt s heap k f → (o : Stored) → In (objects_in f.objects) o → All (IsWrong s heap table) (object_faults k f.entries o)
  unfolding object_faults walked bad_checksum
  object-wrong k f e o i = go (passes o) refl
    where
      in-walk : passes o ≡ false → In (keep (λ (c : Stored). not (passes c)) (objects_in f.objects)) o
      in-walk p = in-keep (λ (c : Stored). not (passes c)) (objects_in f.objects) o i (ap not p)

      ten : passes o ≡ false → (t : Bool) → eqb o.checksum (object_sum o.id o.body) ≡ t → All (IsWrong s heap table) (line_if (not t) (line k Checksum (Object o.position)))
      ten p true c = tt
      ten p false c = (sum k f o e (in-walk p) (λ q. true≢false (sym (eq-eqb _ _ q) ∙ c)), tt)

      seventeen : passes o ≡ false → (t : Bool) → any (entered o) f.entries ≡ t → All (IsWrong s heap table) (line_if (not t) (line k OtherId (Object o.position)))
      seventeen p true c = tt
      seventeen p false c = (unentered k f o e (in-walk p) (λ q. true≢false (sym (has-entered o f.entries q) ∙ c)), tt)

      go : (p : Bool) → passes o ≡ p → All (IsWrong s heap table) (pick p (line k CutShort (Object o.position) ∷ [])
          (line_if (not (eqb o.checksum (object_sum o.id o.body))) (line k Checksum (Object o.position)) ++ line_if (not (any (entered o) f.entries)) (line k OtherId (Object o.position))))
      go true p = (cut k f o e i (cut-total k f o e i (ltb-true o.room (20 + o.size) p)), tt)
      go false p =
          all_append (IsWrong s heap table) (line_if (not (eqb o.checksum (object_sum o.id o.body))) (line k Checksum (Object o.position))) (line_if (not (any (entered o) f.entries)) (line k OtherId (Object o.position)))
          (ten p (eqb o.checksum (object_sum o.id o.body)) refl) (seventeen p (any (entered o) f.entries) refl)

  entry-wrong : (k : ℕ) (f : File) → SoundAt s heap k f → (x l : ℕ) → Has f.entries x l → All (IsWrong s heap table) (entry_faults k (walked f) (record { id = x; location = l }))
  unfolding entry_faults
  entry-wrong k f e x l h = go (delete_of l) refl (any (λ (o : Stored). entered o (record { id = x; location = l })) (walked f)) refl
    where
      go : (d : Bool) → delete_of l ≡ d → (t : Bool) → any (λ (o : Stored). entered o (record { id = x; location = l })) (walked f) ≡ t
          → All (IsWrong s heap table) (line_if (not d && not t) (line k OtherId (Object (position_of l))))
      go true c t q = tt
      go false c true q = tt
      go false c false q = (unstored k f x l e h c (λ z. true≢false (sym (starts-entered (walked f) (record { id = x; location = l }) c z) ∙ q)), tt)

  slot-wrong : (k : ℕ) → All (IsWrong s heap table) (slot_faults k (files_in (take k (judged_in s heap))) (view_at (judged_in s heap) k))
  unfolding slot_faults file_faults
  slot-wrong k = go (view_at (judged_in s heap) k) refl
    where
      meeting : (g : File) → SoundAt s heap k g → (t : Bool) → meets_earlier (files_in (take k (judged_in s heap))) g ≡ t → All (IsWrong s heap table) (line_if t (line k Overlap Nowhere))
      meeting g e false q = tt
      meeting g e true q =
          let w = any_found (λ (f : File). meets f.label g.label) (take k (judged_in s heap)) q in
          let low = holds-lt (take k (judged_in s heap)) w.0 w.1.0 w.1.1 in
          let short = length-take k (judged_in s heap) in
          let before : w.0 < k = omega arith in
          (overlap w.0 k w.1.0 g (sym (get_or-take k (judged_in s heap) w.0 empty before) ∙ w.1.1) e before (when-met w.1.0 g w.1.2), tt)

      go : (v : View) → view_at (judged_in s heap) k ≡ v → All (IsWrong s heap table) (slot_faults k (files_in (take k (judged_in s heap))) v)
      go empty e = tt
      go (damaged r) e = (own k r e, tt)
      go (holds f) e =
          let os = objects_in f.objects in
          all_append (IsWrong s heap table) (file_faults k f) (line_if (meets_earlier (files_in (take k (judged_in s heap))) f) (line k Overlap Nowhere))
          (all_append (IsWrong s heap table) (each (object_faults k f.entries) os) (each (entry_faults k (walked f)) f.entries)
          (all-each (IsWrong s heap table) (object_faults k f.entries) os (all_map (In os) (λ (o : Stored). All (IsWrong s heap table) (object_faults k f.entries o)) os (object-wrong k f e) (in-self os)))
          (all-each (IsWrong s heap table) (entry_faults k (walked f)) f.entries (has_all (λ (c : Entry). All (IsWrong s heap table) (entry_faults k (walked f) c)) f.entries (entry-wrong k f e))))
          (meeting f e (meets_earlier (files_in (take k (judged_in s heap))) f) refl)

  closing-wrong : All (IsWrong s heap table) (closing (capacity_of table) (judged_in s heap))
  closing-wrong = go (closing (capacity_of table) (judged_in s heap)) refl
    where
      go : (xs : List Fault) → closing (capacity_of table) (judged_in s heap) ≡ xs → All (IsWrong s heap table) (closing (capacity_of table) (judged_in s heap))
      go [] e = subst (All (IsWrong s heap table)) (sym e) tt
      go (x ∷ xs) e =
          let m = closing-only-when s heap table x xs e in
          subst (All (IsWrong s heap table)) (sym (closing-when s heap table m)) (room m, tt)

  -- request P5: a line is in the list only if what it says is wrong
  pub listed-only-when : (x : Fault) → In (faults_of s heap table) x → IsWrong s heap table x
  unfolding faults_of
  listed-only-when x i =
      all_in (IsWrong s heap table) (faults_of s heap table)
      (all_append (IsWrong s heap table) (faults_from 0 [] (judged_in s heap)) (closing (capacity_of table) (judged_in s heap))
      (all_slots (IsWrong s heap table) 0 [] (judged_in s heap)
      (λ k h. let n : k ≡ 0 + k = omega arith in subst (λ (m : ℕ). All (IsWrong s heap table) (slot_faults m (files_in (take k (judged_in s heap))) (view_at (judged_in s heap) k))) n (slot-wrong k)))
      closing-wrong) x i

  -- ---- everything wrong has its line
  in-slot : (k : ℕ) (x : Fault) → k < length (judged_in s heap) → In (slot_faults k (files_in (take k (judged_in s heap))) (view_at (judged_in s heap) k)) x → In (faults_of s heap table) x
  unfolding faults_of
  in-slot k x h i =
      let n : k ≡ 0 + k = omega arith in
      in-first (faults_from 0 [] (judged_in s heap)) (closing (capacity_of table) (judged_in s heap)) x
      (in-slots x 0 [] (judged_in s heap) k h (subst (λ (m : ℕ). In (slot_faults m (files_in (take k (judged_in s heap))) (view_at (judged_in s heap) k)) x) n i))

  in-sound : (k : ℕ) (f : File) (x : Fault) → SoundAt s heap k f → In (slot_faults k (files_in (take k (judged_in s heap))) (holds f)) x → In (faults_of s heap table) x
  in-sound k f x e i = in-slot k x (holds-lt (judged_in s heap) k f e) (subst (λ (v : View). In (slot_faults k (files_in (take k (judged_in s heap))) v) x) (sym e) i)

  in-objects : (k : ℕ) (f : File) (o : Stored) (x : Fault) → SoundAt s heap k f → In (objects_in f.objects) o → In (object_faults k f.entries o) x → In (faults_of s heap table) x
  unfolding slot_faults file_faults
  in-objects k f o x e i h =
      let os = each (object_faults k f.entries) (objects_in f.objects) in
      let es = each (entry_faults k (walked f)) f.entries in
      in-sound k f x e
      (in-first (os ++ es) (line_if (meets_earlier (files_in (take k (judged_in s heap))) f) (line k Overlap Nowhere)) x
      (in-first os es x (in-each (object_faults k f.entries) (objects_in f.objects) o x i h)))

  -- request P5: what is wrong is in the list
  pub listed-when : {x : Fault} → IsWrong s heap table x → In (faults_of s heap table) x
  unfolding faults_of slot_faults file_faults object_faults entry_faults bad_checksum walked
  listed-when (own k r e) =
      in-slot k (line k r Nowhere) (damaged-lt (judged_in s heap) k r e)
      (subst (λ (v : View). In (slot_faults k (files_in (take k (judged_in s heap))) v) (line k r Nowhere)) (sym e) (inl refl))
  listed-when (cut k f o e i h) =
      let x = line k CutShort (Object o.position) in
      let more = line_if (bad_checksum o) (line k Checksum (Object o.position)) ++ line_if (not (any (entered o) f.entries)) (line k OtherId (Object o.position)) in
      in-objects k f o x e i
      (subst (λ (p : Bool). In (pick p (x ∷ []) more) x) (sym (lt-ltb o.room (20 + o.size) (total-cut k f o e i h))) (inl refl))
  listed-when (sum k f o e i h) =
      let x = line k Checksum (Object o.position) in
      let w = keep-in (λ (c : Stored). not (passes c)) (objects_in f.objects) o i in
      let more = line_if (not (any (entered o) f.entries)) (line k OtherId (Object o.position)) in
      in-objects k f o x e w.0
      (subst (λ (p : Bool). In (pick p (line k CutShort (Object o.position) ∷ []) (line_if (bad_checksum o) x ++ more)) x) (sym (not-true (passes o) w.1))
      (subst (λ (b : Bool). In (line_if (not b) x ++ more) x) (sym (ne_eqb o.checksum (object_sum o.id o.body) h)) (inl refl)))
  listed-when (unentered k f o e i h) =
      let x = line k OtherId (Object o.position) in
      let w = keep-in (λ (c : Stored). not (passes c)) (objects_in f.objects) o i in
      let ten = line_if (bad_checksum o) (line k Checksum (Object o.position)) in
      in-objects k f o x e w.0
      (subst (λ (p : Bool). In (pick p (line k CutShort (Object o.position) ∷ []) (ten ++ line_if (not (any (entered o) f.entries)) x)) x) (sym (not-true (passes o) w.1))
      (in_rest ten (line_if (not (any (entered o) f.entries)) x) x
      (subst (λ (b : Bool). In (line_if (not b) x) x) (sym (never (any (entered o) f.entries) (λ t. h (entered-has o f.entries t)))) (inl refl))))
  listed-when (unstored k f i l e h d n) =
      let x = line k OtherId (Object (position_of l)) in
      let c : Entry = record { id = i; location = l } in
      let os = each (object_faults k f.entries) (objects_in f.objects) in
      let es = each (entry_faults k (walked f)) f.entries in
      in-sound k f x e
      (in-first (os ++ es) (line_if (meets_earlier (files_in (take k (judged_in s heap))) f) (line k Overlap Nowhere)) x
      (in_rest os es x (in-each (entry_faults k (walked f)) f.entries c x (has_in f.entries i l h)
      (subst (λ (t : Bool). In (line_if t x) x)
      (sym (and-holds (not (delete_of l)) (not (any (λ (o : Stored). entered o c) (walked f))) (ap not d) (ap not (never (any (λ (o : Stored). entered o c) (walked f)) (λ t. n (entered-starts (walked f) c t))))))
      (inl refl)))))
  listed-when (overlap j k f g p q h n) =
      let x = line k Overlap Nowhere in
      in-sound k g x q
      (in_rest (file_faults k g) (line_if (meets_earlier (files_in (take k (judged_in s heap))) g) x) x
      (subst (λ (t : Bool). In (line_if t x) x)
      (sym (found-any (λ (c : File). meets c.label g.label) (take k (judged_in s heap)) j f (get_or-take k (judged_in s heap) j empty h ∙ p) (met-when f g n))) (inl refl)))
  listed-when (room m) =
      in_rest (faults_from 0 [] (judged_in s heap)) (closing (capacity_of table) (judged_in s heap)) (line (length (judged_in s heap)) TableRoom Nowhere)
      (subst (λ (xs : List Fault). In xs (line (length (judged_in s heap)) TableRoom Nowhere)) (sym (closing-when s heap table m)) (inl refl))
