-- Files of current contents added one after another: nothing else is said of any id.
use Rattle.std.specs.Prelude.{◌≡◌, ◌<◌, ◌≤◌, min, ◌∷◌, ◌+◌, ◌*◌, ◌^◌, None, Some}
use Rattle.std.proofs.Math.Path.{refl}
use Rattle.std.proofs.Common.{sym, ap, ◌∙◌, subst, inl, inr, zero-le, length-take, length-set, get_or-take, get_or-set_other, ltb-true, ltb-false, eqb-true}
use native.Mathlib.Omega.{arith}
use Rattle.std.proofs.Math.ListN.{get_or-eq_default}
use Rattle.rules.specs.Base.{Bool, true, false, List, [], ℕ, zero, suc, length, set, take, ltb, eqb, pick, sum}
use Rattle.theory.specs.Types.{Record, Settings, Held}
use Rattle.rules.specs.BaseLaws.{All}
use Rattle.rules.proofs.BaseLaws.{all_map}
use Rattle.rules.specs.Settings.{slots_in}
use Rattle.rules.specs.Ops.{Content, put, delete, size_of, Op, objects_of, entries_of, file_bytes}
use Rattle.rules.specs.OpsLaws.{Stands}
use Rattle.rules.proofs.OpsLaws.{entry-stands}
use Rattle.rules.specs.SettledLaws.{Last, silent, last, or_earlier, last_on}
use Rattle.rules.proofs.StoreLaws.{made-length}
use Rattle.rules.specs.WrittenLaws.{file_of_ops}
use Rattle.rules.specs.Table.{lookup}
use Rattle.rules.specs.TableLaws.{Has}
use Rattle.rules.specs.FileMap.{empty_record, is_empty, record_at, with_live, slots_where, empty_slots}
use Rattle.rules.proofs.FileMapLaws.{empty-is, is-empty}
use Rattle.rules.specs.Install.{new_label, new_record, losing, new_slot, new_lsn, records_with, stores_for, next_with, installed, installed_all, empty_of}
use Rattle.rules.specs.InstallLaws.{Less}
use Rattle.rules.proofs.InstallLaws.{losing-length, losing-record}
use Rattle.rules.specs.World.{World, records_of, mappings, slots_of}
use Rattle.theory.proofs.Entries.{insert-all-old, absolute-has}
use Rattle.theory.specs.Losing.{rows_for}
use Rattle.theory.specs.Picture.{picture_of, Said, unheard, file_says, held_says, picture_says, last_says}
use Rattle.theory.proofs.Sound.{table-rising}
use Rattle.theory.specs.Installed.{over}
use Rattle.theory.proofs.Told.{file-says}
use Rattle.theory.specs.SoundWorld.{bounds_of, SoundWorld}
use Rattle.theory.specs.Adding.{Fitting}
use Rattle.theory.proofs.Adding.{sound-installed}
use Rattle.theory.specs.Standing.{AllStood}
use Rattle.theory.proofs.Standing.{fitting-stands}
use Rattle.history_theory.specs.Writing.{engine}
use Rattle.history_theory.proofs.Writing.{sound-told}
use Rattle.history_theory.specs.Moving.{Movable}
use Rattle.history_theory.specs.Rewriting.{empty_test, Rewritable}

where-cons : (i : ℕ) (r : Record) (rs : List Record) (b : Bool) → is_empty r ≡ b
    → length (slots_where empty_test i (r ∷ rs)) ≡ pick b (suc (length (slots_where empty_test (suc i) rs))) (length (slots_where empty_test (suc i) rs))
unfolding slots_where
where-cons i r rs true e = rw e refl
where-cons i r rs false e = rw e refl

where-more : (i : ℕ) (r q : Record) (rs qs : List Record) → (is_empty r ≡ true → is_empty q ≡ true)
    → length (slots_where empty_test (suc i) rs) ≤ suc (length (slots_where empty_test (suc i) qs))
    → length (slots_where empty_test i (r ∷ rs)) ≤ suc (length (slots_where empty_test i (q ∷ qs)))
where-more i r q rs qs h le = go (is_empty r) refl (is_empty q) refl
  where
    go : (a : Bool) → is_empty r ≡ a → (b : Bool) → is_empty q ≡ b → length (slots_where empty_test i (r ∷ rs)) ≤ suc (length (slots_where empty_test i (q ∷ qs)))
    go true e true d = let m = where-cons i r rs true e in let n = where-cons i q qs true d in omega arith
    go true e false d = absurd (let z : ◌≡◌ {A = Bool} true false = sym (h e) ∙ d in let y : ◌≡◌ {A = ℕ} 0 1 = cc in omega arith)
    go false e true d = let m = where-cons i r rs false e in let n = where-cons i q qs true d in omega arith
    go false e false d = let m = where-cons i r rs false e in let n = where-cons i q qs false d in omega arith

-- every empty record of rs is empty in qs too
where-all : (i : ℕ) (rs qs : List Record) → length rs ≡ length qs → ((j : ℕ) → is_empty (record_at rs j) ≡ true → is_empty (record_at qs j) ≡ true)
    → length (slots_where empty_test i rs) ≤ length (slots_where empty_test i qs)
unfolding slots_where
where-all i [] qs n h = zero-le
where-all i (r ∷ rs) [] n h = absurd (omega arith)
where-all i (r ∷ rs) (q ∷ qs) n h = go (where-all (suc i) rs qs (omega arith) (λ j. h (suc j))) (is_empty r) refl (is_empty q) refl
  where
    go : length (slots_where empty_test (suc i) rs) ≤ length (slots_where empty_test (suc i) qs) → (a : Bool) → is_empty r ≡ a → (b : Bool) → is_empty q ≡ b
        → length (slots_where empty_test i (r ∷ rs)) ≤ length (slots_where empty_test i (q ∷ qs))
    go le true e true d = let m = where-cons i r rs true e in let k = where-cons i q qs true d in omega arith
    go le true e false d = absurd (let z : ◌≡◌ {A = Bool} true false = sym (h 0 e) ∙ d in let y : ◌≡◌ {A = ℕ} 0 1 = cc in omega arith)
    go le false e true d = let m = where-cons i r rs false e in let k = where-cons i q qs true d in omega arith
    go le false e false d = let m = where-cons i r rs false e in let k = where-cons i q qs false d in omega arith

-- but for the record at k
where-one : (i : ℕ) (rs qs : List Record) (k : ℕ) → length rs ≡ length qs → ((j : ℕ) → (j ≡ k → ⊥) → is_empty (record_at rs j) ≡ true → is_empty (record_at qs j) ≡ true)
    → length (slots_where empty_test i rs) ≤ suc (length (slots_where empty_test i qs))
unfolding slots_where
where-one i [] qs k n h = zero-le
where-one i (r ∷ rs) [] k n h = absurd (omega arith)
where-one i (r ∷ rs) (q ∷ qs) zero n h =
    go (where-all (suc i) rs qs (omega arith) (λ j. h (suc j) (λ z. omega arith))) (is_empty r) refl (is_empty q) refl
  where
    go : length (slots_where empty_test (suc i) rs) ≤ length (slots_where empty_test (suc i) qs) → (a : Bool) → is_empty r ≡ a → (b : Bool) → is_empty q ≡ b
        → length (slots_where empty_test i (r ∷ rs)) ≤ suc (length (slots_where empty_test i (q ∷ qs)))
    go le true e true d = let m = where-cons i r rs true e in let k = where-cons i q qs true d in omega arith
    go le true e false d = let m = where-cons i r rs true e in let k = where-cons i q qs false d in omega arith
    go le false e true d = let m = where-cons i r rs false e in let k = where-cons i q qs true d in omega arith
    go le false e false d = let m = where-cons i r rs false e in let k = where-cons i q qs false d in omega arith
where-one i (r ∷ rs) (q ∷ qs) (suc k) n h =
    where-more i r q rs qs (h 0 (λ z. omega arith)) (where-one (suc i) rs qs k (omega arith) (λ j d. h (suc j) (λ z. d (omega arith))))

-- an empty record loses nothing
less-empty : (r q : Record) → Less r q → is_empty r ≡ true → is_empty q ≡ true
less-empty r q l e =
    let z : r ≡ empty_record = empty-is r e in
    let a : r.live ≡ 0 = ap (λ (c : Record). c.live) z in
    let b = l.less in
    let d : q.live ≡ 0 = omega arith in
    ap is_empty (l.same ∙ ap (with_live r) d ∙ ap (λ (c : Record). with_live c 0) z) ∙ is-empty

-- LAW: a file takes one empty slot
pub one_fewer : (bit g : ℕ) (w : World) (os : List Op) → empty_of w ≤ suc (empty_of (installed bit g w os))
unfolding installed empty_slots records_with
one_fewer bit g w os =
    let n = made-length (stores_for (new_label (new_lsn bit w) g os) w os) w.heap in
    let rs = records_of w in
    let qs = set (losing (mappings w) os (records_of w)) (new_slot w) (new_record (new_lsn bit w) g os) in
    let c : length (slots_where empty_test 0 (take (slots_of w) qs)) ≡ empty_of (installed bit g w os)
    = ap (λ (m : ℕ). length (slots_where empty_test 0 (take (slots_in w.settings m) qs))) (sym n) in
    let l : length qs ≡ length rs = length-set (losing (mappings w) os (records_of w)) (new_slot w) (new_record (new_lsn bit w) g os) ∙ losing-length (mappings w) os (records_of w) in
    let a = length-take (slots_of w) rs in
    let b = length-take (slots_of w) qs in
    let d = where-one 0 (take (slots_of w) rs) (take (slots_of w) qs) (new_slot w) (a ∙ ap (λ (m : ℕ). min (slots_of w) m) (sym l) ∙ sym b) (λ j e. still j e (ltb j (slots_of w)) refl) in
    omega arith
  where
    still : (j : ℕ) → (j ≡ new_slot w → ⊥) → (b : Bool) → ltb j (slots_of w) ≡ b → is_empty (record_at (take (slots_of w) (records_of w)) j) ≡ true
        → is_empty (record_at (take (slots_of w) (set (losing (mappings w) os (records_of w)) (new_slot w) (new_record (new_lsn bit w) g os))) j) ≡ true
    still j e true h i =
        let t = ltb-true j (slots_of w) h in
        let qs = set (losing (mappings w) os (records_of w)) (new_slot w) (new_record (new_lsn bit w) g os) in
        ap is_empty (get_or-take (slots_of w) qs j empty_record t ∙ get_or-set_other (losing (mappings w) os (records_of w)) (new_slot w) j (new_record (new_lsn bit w) g os) empty_record e)
        ∙ less-empty (record_at (records_of w) j) (record_at (losing (mappings w) os (records_of w)) j) (losing-record (mappings w) os (records_of w) j)
        (sym (ap is_empty (get_or-take (slots_of w) (records_of w) j empty_record t)) ∙ i)
    still j e false h i =
        let t = ltb-false j (slots_of w) h in
        let qs = set (losing (mappings w) os (records_of w)) (new_slot w) (new_record (new_lsn bit w) g os) in
        let l = length-take (slots_of w) qs in
        ap is_empty (get_or-eq_default (take (slots_of w) qs) empty_record {n = j} (omega arith)) ∙ is-empty

-- ---- what holds of all operations holds of the one that is said, and of the one that stands
op-is : (o : Op) (x : ℕ) (c : Content) → o.id ≡ x → o.content ≡ c → ◌≡◌ {A = Op} o (record { id = x; content = c })
op-is o x c p q = λ i. record { id = p i; content = q i }

-- of the last operation on an id
pub last-all : (P : Op → Type 0) (os : List Op) → All P os → (x : ℕ) (c : Content) → last_on os x ≡ last c → P (record { id = x; content = c })
unfolding last_on
last-all P [] a x c e = absurd (let z : ◌≡◌ {A = ℕ} 0 1 = cc in omega arith)
last-all P (o ∷ os) a x c e = go (last-all P os a.1 x c) (last_on os x) refl (eqb o.id x) refl e
  where
    go : (last_on os x ≡ last c → P (record { id = x; content = c })) → (l : Last) → last_on os x ≡ l → (b : Bool) → eqb o.id x ≡ b → or_earlier l (pick b (last o.content) silent) ≡ last c → P (record { id = x; content = c })
    go ih (last d) h b q e = ih (h ∙ e)
    go ih silent h true q e = let d : o.content ≡ c = cc in subst P (op-is o x c (eqb-true o.id x q) d) a.0
    go ih silent h false q e = absurd (let z : ◌≡◌ {A = ℕ} 0 1 = cc in omega arith)

stands-all : (P : Op → Type 0) (q : ℕ) (os : List Op) → All P os → (x : ℕ) (c : Content) (p : ℕ) → Stands q os x c p → P (record { id = x; content = c })
stands-all P q [] a x c p h = absurd h
stands-all P q (o ∷ os) a x c p (inl (i, d, e)) = subst P (op-is o x c i d) a.0
stands-all P q (o ∷ os) a x c p (inr h) = stands-all P (q + size_of o.content) os a.1 x c p h

-- an operation says something
pub heard-of : (c : Content) → unheard ≡ last_says (last c) → ⊥
heard-of (put b) e = let z : ◌≡◌ {A = ℕ} 0 1 = cc in omega arith
heard-of delete e = let z : ◌≡◌ {A = ℕ} 0 1 = cc in omega arith

over-last-word : (c : Content) (t : Said) → over (last_says (last c)) t ≡ last_says (last c)
over-last-word (put b) t = refl
over-last-word delete t = refl

module _ (history : List Op) where
  -- nothing else is said
  pub still-said : (file : List Op) → Rewritable (engine history) file → length (objects_of file) < 2 ^ 64 → (lsn g x : ℕ)
      → over (file_says (file_of_ops lsn g file) x) (engine history x) ≡ engine history x
  still-said file r n lsn g x =
      ap (λ (t : Said). over t (engine history x))
      (file-says lsn g file r.rising (all_map (Movable (engine history)) (λ (o : Op). o.id < 2 ^ 64) file (λ o m. m.1) r.current) n x)
      ∙ go (last_on file x) refl
    where
      go : (l : Last) → last_on file x ≡ l → over (last_says l) (engine history x) ≡ engine history x
      go silent e = refl
      go (last c) e = over-last-word c (engine history x) ∙ sym (last-all (Movable (engine history)) file r.current x c e).0

  -- no id is new to the table
  all-mapped : (w : World) → SoundWorld w (engine history) → (file : List Op) → Rewritable (engine history) file → (lsn x l : ℕ) → Has (rows_for lsn 0 file) x l
      → (m : ℕ) × (lookup (mappings w) x ≡ Some m)
  unfolding picture_says
  all-mapped w s file r lsn x l h = go (lookup (mappings w) x) refl
    where
      a : (q : ℕ) × Has (entries_of 0 file) x q × (l ≡ q + 2 * lsn)
      a = absolute-has lsn (entries_of 0 file) x l h

      go : (o : Held) → lookup (mappings w) x ≡ o → (m : ℕ) × (lookup (mappings w) x ≡ Some m)
      go (Some m) e = (m, e)
      go None e =
          let d = entry-stands 0 file x a.0 a.1 in
          let t = stands-all (Movable (engine history)) 0 file r.current x d.content _ d.stands in
          absurd (heard-of d.content (sym (ap (λ (c : Held). held_says (picture_of w) c x) e) ∙ s.sound.says x ∙ t.0))

  -- a file of current contents fits where there is room for it
  pub fits-file : (w : World) → SoundWorld w (engine history) → (g : ℕ) (file : List Op) → Rewritable (engine history) file → g ≤ 255
      → 64 + length (file_bytes file) ≤ w.settings.slot_bytes → 0 < empty_of w → w.state.next_position + (length (objects_of file) + 1) ≤ 2 ^ 62 → Fitting 0 g w file
  fits-file w s g file r aged slot free positions = record {
    some = r.some;
    rising = r.rising;
    ids = all_map (Movable (engine history)) (λ (o : Op). o.id < 2 ^ 64) file (λ o m. m.1) r.current;
    kind = inl refl;
    aged = aged;
    slot = slot;
    free = free;
    room =
        let a = insert-all-old (mappings w) (rows_for (new_lsn 0 w) 0 file) (table-rising (bounds_of w) (picture_of w) (engine history) s.sound)
        (λ x l h. all-mapped w s file r (new_lsn 0 w) x l h) in
        let b = s.sound.room in
        omega arith;
    positions = positions;
  }

  -- settings stay, and the next position grows by T + 1
  pub installed-numbers : (g : ℕ) (w : World) (file : List Op)
      → ((installed 0 g w file).settings ≡ w.settings) × ((installed 0 g w file).state.next_position ≡ w.state.next_position + (length (objects_of file) + 1))
  unfolding installed next_with
  installed-numbers g w file = (refl, refl)

  -- LAW: files of current contents, in as many empty slots
  pub sound-rewritten : (g : ℕ) (files : List (List Op)) (w : World) → SoundWorld w (engine history) → g ≤ 255 → All (Rewritable (engine history)) files
      → All (λ (f : List Op). 64 + length (file_bytes f) ≤ w.settings.slot_bytes) files → length files ≤ empty_of w
      → w.state.next_position + sum (λ (f : List Op). length (objects_of f) + 1) files ≤ 2 ^ 62 → AllStood 0 g w files × SoundWorld (installed_all 0 g w files) (engine history)
  unfolding installed_all sum
  sound-rewritten g [] w s aged r slot free positions = (tt, s)
  sound-rewritten g (f ∷ fs) w s aged r slot free positions =
      let fit = fits-file w s g f r.0 aged slot.0 (omega arith) (omega arith) in
      let n : length (objects_of f) < 2 ^ 64 = omega arith in
      let e = installed-numbers g w f in
      let e1 = e.1 in
      let d = one_fewer 0 g w f in
      let rest = sound-rewritten g fs (installed 0 g w f)
      (sound-told (installed 0 g w f) (λ x. over (file_says (file_of_ops (new_lsn 0 w) g f) x) (engine history x)) (engine history)
      (λ x. still-said f r.0 n (new_lsn 0 w) g x) (sound-installed w (engine history) s 0 g f fit))
      aged r.1
      (subst (λ (c : Settings). All (λ (f : List Op). 64 + length (file_bytes f) ≤ c.slot_bytes) fs) (sym e.0) slot.1)
      (omega arith) (omega arith) in
      ((fitting-stands w (engine history) s 0 g f fit, rest.0), rest.1)
