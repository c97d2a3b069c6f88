-- DEMAND 3 from any clean heap: one that a reopening accepts and whose files are whole, whoever wrote them.
use Rattle.std.specs.Prelude.{◌≡◌, refl, ◌⊎◌, ◌<◌, ◌≤◌, ◌∷◌, ◌+◌, ◌-◌, ◌*◌, ◌%◌, ◌^◌, None, Some}
use Rattle.std.proofs.Common.{sym, ◌∙◌, inl, inr, length-take, get_or-drop, eq-eqb, ne_eqb}
use Rattle.std.proofs.Math.Path.{ap, subst}
use Rattle.std.proofs.Math.Nat.{pow-le-pow_right}
use native.Mathlib.Omega.{arith}
use Rattle.std.proofs.lemmas.Bool.{eqb-false}
use Rattle.rules.specs.Base.{Bool, true, false, List, [], map, ℕ, zero, suc, length, take, drop, eqb, pick}
use Rattle.theory.specs.Types.{Entry, Record, ReadAnswer, Answer, Held, Slot}
use Rattle.numbers.specs.LittleEndian.{Bytes, le_below}
use Rattle.disk_location.specs.Locations.{position_of, delete_of}
use Rattle.rules.specs.BaseLaws.{All}
use Rattle.rules.proofs.BaseLaws.{same?}
use Rattle.rules.specs.Refusal.{NoneHolds, after}
use Rattle.rules.proofs.RefusalLaws.{decide-clear}
use Rattle.rules.specs.Object.{Stored, stored_at, objects_in}
use Rattle.rules.specs.Trailer.{entries_from, entries_in, count_in}
use Rattle.rules.specs.Ops.{Content, put, delete}
use Rattle.rules.specs.SettledLaws.{Last, silent, last, or_earlier, last_on}
use Rattle.rules.specs.SlotFile.{bytes_of_slot, File, View, holds}
use Rattle.rules.specs.Table.{lookup, unmapped}
use Rattle.rules.specs.TableLaws.{Has}
use Rattle.rules.proofs.TableLaws.{lookup-here, lookup-next, has-lookup}
use Rattle.rules.specs.Layout.{capacity_of, laid_out, used_entries}
use Rattle.rules.proofs.LayoutLaws.{laid-out-capacity, laid-out-even, used-laid-out, form-laid-out}
use Rattle.rules.specs.Condition1.{out_of_range}
use Rattle.rules.specs.FileMap.{record_at, file_for}
use Rattle.rules.specs.Read.{object_tests, read_of, part_of}
use Rattle.rules.specs.Reopen.{files_in, table_of, mapped_into, record_of, opened, reopen_call}
use Rattle.rules.proofs.ReopenLaws.{records-from-length}
use Rattle.rules.specs.World.{World, records_of, mappings, slots_of, After}
use Rattle.rules.proofs.SlotLaws.{views-length}
use Rattle.theory.specs.Newest.{Newest}
use Rattle.theory.specs.Places.{view_at, rows_of, Stands}
use Rattle.theory.proofs.Places.{not-empty, has-stands, record-holds, own-file}
use Rattle.theory.proofs.Files.{next-positive, next-above, record-from}
use Rattle.theory.specs.Picture.{views_of, picture_of, Said, gone, body, broken, place_says, view_says, slot_says, held_says, picture_says, last_says}
use Rattle.theory.proofs.Says.{held-says}
use Rattle.theory.specs.Sound.{StartsAt}
use Rattle.theory.proofs.Sound.{newest-table, rising-table, table-stands}
use Rattle.theory.specs.Reopened.{Passed}
use Rattle.theory.proofs.Reopened.{passed, shown-made, rows-used, filed-reopened}
use Rattle.theory.specs.SoundWorld.{bounds_of, SoundWorld}
use Rattle.theory.proofs.SoundWorld.{shown}
use Rattle.history_theory.specs.Writing.{engine}
use Rattle.history_theory.proofs.Writing.{sound-told}
use Rattle.history_theory.specs.Reading.{Reads}
use Rattle.history_theory.proofs.Reading.{told-read}
use Rattle.history_theory.specs.Moving.{StandsIn}
use Rattle.history_theory.proofs.Moving.{objects-stand}
use Rattle.history_theory.proofs.Again.{reopen-accepted}
use Rattle.history_theory.specs.Fresh.{Blank}
use Rattle.history_theory.proofs.Fresh.{views-blank, fresh-opens}
use Rattle.history_theory.specs.History.{Call, lived, Starts, Kept}
use Rattle.history_theory.proofs.History.{lived-kept}
use Rattle.history_theory.specs.Clean.{Clean, content_by, content_of, heard_at, resumed}

-- ---- ids of a trailer of bytes have 64 bits
bytes_take : (n : ℕ) (bs : List ℕ) → Bytes bs → Bytes (take n bs)
bytes_take zero bs h i = omega arith
bytes_take (suc n) [] h i = h i
bytes_take (suc n) (b ∷ bs) h zero = h 0
bytes_take (suc n) (b ∷ bs) h (suc i) = bytes_take n bs (λ j. h (suc j)) i

bytes_drop : (n : ℕ) (bs : List ℕ) → Bytes bs → Bytes (drop n bs)
bytes_drop n bs h i = subst (λ (m : ℕ). m < 256) (sym (get_or-drop n bs i 0)) (h (n + i))

ids-narrow : (k : ℕ) (bs : List ℕ) → Bytes bs → (x l : ℕ) → Has (entries_from k bs) x l → x < 2 ^ 64
unfolding entries_from
ids-narrow zero bs h x l a = absurd a
ids-narrow (suc k) [] h x l a = absurd a
ids-narrow (suc k) (b ∷ bs) h x l (inl (e, q)) =
    let n = le_below (take 8 (b ∷ bs)) (bytes_take 8 (b ∷ bs) h) in
    let m = length-take 8 (b ∷ bs) in
    let some : 0 < 256 = omega arith in
    let short : length (take 8 (b ∷ bs)) ≤ 8 = omega arith in
    let p : 256 ^ length (take 8 (b ∷ bs)) ≤ 256 ^ 8 = pow-le-pow_right some short in
    omega arith
ids-narrow (suc k) (b ∷ bs) h x l (inr a) = ids-narrow k (drop 16 (b ∷ bs)) (bytes_drop 16 (b ∷ bs) h) x l a

shown-narrow : (w : World) → Bytes w.heap → (k : ℕ) (f : File) → view_at (views_of w) k ≡ holds f → (x l : ℕ) → Has f.entries x l → x < 2 ^ 64
unfolding entries_in bytes_of_slot
shown-narrow w h k f e x l a =
    let heap = drop (k * w.settings.slot_bytes) w.heap in
    let slot = take w.settings.slot_bytes heap in
    let file = take f.label.file_size (drop 64 slot) in
    let trailer = drop f.label.trailer_offset file in
    let a1 : Bytes slot = bytes_take w.settings.slot_bytes heap (bytes_drop (k * w.settings.slot_bytes) w.heap h) in
    let a2 : Bytes file = bytes_take f.label.file_size (drop 64 slot) (bytes_drop 64 slot a1) in
    ids-narrow (count_in trailer) (drop 12 trailer) (bytes_drop 12 trailer (bytes_drop f.label.trailer_offset file a2))
    x l (subst (λ (es : List Entry). Has es x l) (sym (shown w k f e).1.entries) a)

-- ---- what a store of the invariant says is what reads give
-- an object that the walk finds, by its place
pub starts-clear : (objects : List ℕ) (os : List Stored) (x p : ℕ) → All (StandsIn objects) os → All (λ (o : Stored). NoneHolds (object_tests o.id o)) os → StartsAt os x p
    → NoneHolds (object_tests x (stored_at p (drop p objects)))
starts-clear objects [] x p a b h = absurd h
starts-clear objects (o ∷ os) x p a b (inl (i, e)) =
    subst (λ (n : ℕ). NoneHolds (object_tests n (stored_at p (drop p objects)))) i
    (subst (λ (c : Stored). NoneHolds (object_tests o.id c)) (a.0.0 ∙ ap (λ (n : ℕ). stored_at n (drop n objects)) e) b.0)
starts-clear objects (o ∷ os) x p a b (inr h) = starts-clear objects os x p a.1 b.1 h

module _ (w : World) (told : ℕ → Said) (s : SoundWorld w told) where
  -- a mapped id is put or deleted
  mapped-says : (x l : ℕ) → lookup (mappings w) x ≡ Some l → (c : Content) × (held_says (picture_of w) (Some l) x ≡ last_says (last c))
  mapped-says x l e =
      let m = go (delete_of l) refl (table-stands (bounds_of w) (picture_of w) told s.sound x l e) in
      (m.0, held-says (picture_of w) l x (delete_of l) refl ∙ m.1)
    where
      go : (d : Bool) → delete_of l ≡ d → (k : ℕ) × Stands (views_of w) x l k → (c : Content) × (pick d gone (slot_says (picture_of w) (file_for (records_of w) l) l x) ≡ last_says (last c))
      go true d z = (delete, refl)
      go false d (k, t) =
          let f = t.file in
          let q = t.located in
          let n : (record_at (records_of w) k).label.lsn ≡ f.label.lsn = ap (λ (r : Record). r.label.lsn) (record-holds (views_of w) (records_of w) s.sound.filed k f t.shows) in
          let m : position_of l - (record_at (records_of w) k).label.lsn ≡ position_of t.raw = omega arith in
          let y = eqb-false (l % 2) 1 d in
          let u : delete_of t.raw ≡ false = ne_eqb (t.raw % 2) 1 (λ z. y (omega arith)) in
          let h = s.sound.whole k f t.shows in
          let c = starts-clear f.objects (objects_in f.objects) x (position_of t.raw) (objects-stand f.objects) h.walked (h.stored x t.raw t.entry u) in
          let o = stored_at (position_of t.raw) (drop (position_of t.raw) f.objects) in (
            put o.body,
            ap (λ (i : Slot). slot_says (picture_of w) i l x) (own-file (views_of w) (records_of w) s.sound.filed x l k t)
                ∙ ap (λ (v : View). view_says v (position_of l - (record_at (records_of w) k).label.lsn) x) t.shows
                ∙ ap (λ (i : ℕ). place_says f i x) m
                ∙ ap (λ (a : Answer). after a broken (body o.body)) (decide-clear (object_tests x o) c),
          )

  read-content : (x : ℕ) (c : Content) → told x ≡ last_says (last c) → content_of w x ≡ c
  read-content x c e = go c (read_of w x) (told-read w told s x (last c) e)
    where
      go : (c : Content) (a : ReadAnswer) → Reads w a (last c) → content_by a (part_of a w.heap) ≡ c
      go delete a h = ap (λ (b : ReadAnswer). content_by b (part_of b w.heap)) h
      go (put b) a h = ap (λ (d : ReadAnswer). content_by d (part_of a w.heap)) h.1 ∙ ap put h.2

-- the last word of operations that say the same of one id
last-each : (f : ℕ → Content) (t : List Entry) (x : ℕ) → last_on (map (λ (e : Entry). record { id = e.id; content = f e.id }) t) x ≡ pick (unmapped (lookup t x)) silent (last (f x))
unfolding last_on lookup
last-each f [] x = refl
last-each f (e ∷ t) x = go (last-each f t x) (same? e.id x)
  where
    early : (b : Bool) → e.id ≡ x → or_earlier (pick b silent (last (f x))) (pick (eqb e.id x) (last (f e.id)) silent) ≡ last (f x)
    early false q = refl
    early true q = rw (eq-eqb e.id x q) (ap (λ (n : ℕ). last (f n)) q)

    late : (b : Bool) → (e.id ≡ x → ⊥) → or_earlier (pick b silent (last (f x))) (pick (eqb e.id x) (last (f e.id)) silent) ≡ pick b silent (last (f x))
    late false n = refl
    late true n = rw (ne_eqb e.id x n) refl

    go : last_on (map (λ (e : Entry). record { id = e.id; content = f e.id }) t) x ≡ pick (unmapped (lookup t x)) silent (last (f x)) → (e.id ≡ x) ⊎ (e.id ≡ x → ⊥)
        → or_earlier (last_on (map (λ (e : Entry). record { id = e.id; content = f e.id }) t) x) (pick (eqb e.id x) (last (f e.id)) silent) ≡ pick (unmapped (lookup (e ∷ t) x)) silent (last (f x))
    go ih (inl q) = ap (λ (l : Last). or_earlier l (pick (eqb e.id x) (last (f e.id)) silent)) ih ∙ early (unmapped (lookup t x)) q ∙ sym (ap (λ (h : Held). pick (unmapped h) silent (last (f x))) (lookup-here e t x q))
    go ih (inr n) = ap (λ (l : Last). or_earlier l (pick (eqb e.id x) (last (f e.id)) silent)) ih ∙ late (unmapped (lookup t x)) n ∙ sym (ap (λ (h : Held). pick (unmapped h) silent (last (f x))) (lookup-next e t x n))

-- LAW: what a store of the invariant says of each id is what its reads give, heard at the start
pub sound-heard : (w : World) (told : ℕ → Said) → SoundWorld w told → SoundWorld w (engine (heard_at w))
unfolding picture_says
sound-heard w told s = sound-told w told (engine (heard_at w)) (λ x. go x (lookup (mappings w) x) refl) s
  where
    go : (x : ℕ) (h : Held) → lookup (mappings w) x ≡ h → told x ≡ engine (heard_at w) x
    go x None e =
        sym (s.sound.says x) ∙ ap (λ (h : Held). held_says (picture_of w) h x) e
        ∙ sym (ap last_says (last-each (content_of w) (mappings w) x ∙ ap (λ (h : Held). pick (unmapped h) silent (last (content_of w x))) e))
    go x (Some l) e =
        let m = mapped-says w told s x l e in
        let t : told x ≡ last_says (last m.0) = sym (s.sound.says x) ∙ ap (λ (h : Held). held_says (picture_of w) h x) e ∙ m.1 in
        t ∙ ap (λ (c : Content). last_says (last c)) (sym (read-content w told s x m.0 t))
        ∙ sym (ap last_says (last-each (content_of w) (mappings w) x ∙ ap (λ (h : Held). pick (unmapped h) silent (last (content_of w x))) e))

-- ---- the store that a reopening makes of a clean heap
module _ (w : World) (c : Clean w) (p : Passed w) where
  used : used_entries (laid_out (capacity_of w.table) (table_of (files_in (views_of w)))) ≡ table_of (files_in (views_of w))
  used = used-laid-out (capacity_of w.table) (table_of (files_in (views_of w))) (rows-used (views_of w) (shown-made (slots_of w) w.settings.slot_bytes w.heap))

  sound-opened : SoundWorld (opened w (views_of w)).world (picture_says (picture_of (opened w (views_of w)).world))
  unfolding opened
  sound-opened =
      let t = table_of (files_in (views_of w)) in
      let a = laid-out-capacity (capacity_of w.table) t p.room in
      let b = laid-out-even (capacity_of w.table) t p.room in
      let lo = p.limits.table.some in
      let hi = p.limits.table.most in
      let made = shown-made (slots_of w) w.settings.slot_bytes w.heap in
      let n = views-length (slots_of w) w.settings.slot_bytes w.heap in
      let most = p.limits.heap.most in
      record {
        tidy = record {
          limits = record { settings = p.limits.settings; heap = p.limits.heap; table = record { even = b; some = omega arith; most = omega arith } };
          settings = refl;
          heap_len = refl;
          table-len = a;
          form = form-laid-out (capacity_of w.table) t (rows-used (views_of w) made) (rising-table (views_of w));
        };
        sound = record {
          filed = filed-reopened w p;
          whole = c.whole;
          sized = records-from-length t (views_of w) (omega arith);
          started = next-positive (views_of w);
          above = λ k f h. next-above (views_of w) k f h (made k f h);
          newest = used;
          room = subst (λ (es : List Entry). length es ≤ capacity_of (laid_out (capacity_of w.table) t)) (sym used) (let r = p.room in omega arith);
          narrow = λ x l h. narrow x l (subst (λ (es : List Entry). Has es x l) used h);
          counted = λ k f h. ap (λ (r : Record). r.live) (record-from t (views_of w) k ∙ ap (record_of t) h) ∙ ap (λ (es : List Entry). mapped_into es f.label) (sym used);
          says = λ x. refl;
        };
      }
    where
      narrow : (x l : ℕ) → Has (table_of (files_in (views_of w))) x l → x < 2 ^ 64
      narrow x l h =
          let m = subst (Newest (Has (rows_of (views_of w)) x)) (has-lookup 0 (table_of (files_in (views_of w))) (rising-table (views_of w)) x l h) (newest-table (views_of w) x) in
          let z = has-stands (views_of w) x l m.0 in
          shown-narrow w c.bytes z.0 z.1.file z.1.shows x z.1.raw z.1.entry

-- LAW: a life may start from any clean heap
pub clean-starts : (w : World) → Clean w → Starts (resumed w)
clean-starts w c =
    let p = passed w c.reopens in
    sound-heard (reopen_call w).world _ (subst (λ (a : After). SoundWorld a.world (picture_says (picture_of a.world))) (sym p.is) (sound-opened w c p))

-- DEMAND 3: so reads, reopenings and whatever calls are made on it
pub clean-history : (w : World) → Clean w → (calls : List Call) → Kept (lived (resumed w) calls).world (lived (resumed w) calls).history
clean-history w c = lived-kept (resumed w) (clean-starts w c)

-- ---- which heaps are clean
-- LAW: that of any store of the invariant: whatever calls were made, wherever power was cut
pub sound-clean : (w : World) (told : ℕ → Said) → SoundWorld w told → Bytes w.heap → Clean w
sound-clean w told s bytes = record { bytes = bytes; reopens = ap (λ (a : After). a.answer) (reopen-accepted w told s); whole = s.sound.whole }

-- LAW: one whose slots all begin with byte 0
pub blank-clean : (w : World) → out_of_range w.settings (length w.heap) w.table ≡ false → Blank w → Bytes w.heap → Clean w
blank-clean w range blank bytes = record {
  bytes = bytes;
  reopens = ap (λ (a : After). a.answer) (fresh-opens w range blank);
  whole = λ k f e. absurd (not-empty (sym (views-blank w range blank k) ∙ e));
}
