-- C: what maintenance moves are exactly the ids whose current location is in a file of a rewritten group; the count is their number.
use Rattle.std.specs.Prelude.{◌≡◌, ◌⊎◌, ◌<◌, ◌≤◌, ◌&&◌, ◌∷◌, ◌++◌, ◌+◌, ◌^◌, Err, None, Ok, Some}
use Rattle.std.proofs.Math.Path.{refl, sym, ap}
use Rattle.std.proofs.Common.{◌∙◌, subst, true≢false, inl, inr, ⊎_elim, arith}
use borrow.Author.Tests.{eqb-true, eq-eqb}
use Rattle.rules.specs.Base.{Bool, true, false, not, List, [], ℕ, length, ltb, pick, any, keep, each, sum}
use Rattle.theory.specs.Types.{Entry, Record, Refusal, Answer, Held, Slot, stopped_with}
use Rattle.rules.specs.BaseLaws.{All}
use Rattle.rules.proofs.BaseLaws.{all_map, or-true, or-holds}
use Rattle.rules.specs.Refusal.{decide, after}
use Rattle.rules.specs.Ops.{Content, Op}
use Rattle.rules.specs.OpsLaws.{RisingOps}
use Rattle.rules.specs.SettledLaws.{Last, silent, last, last_on}
use Rattle.rules.proofs.SettledLaws.{settled-all, settled-rising, settled-last}
use Rattle.rules.specs.SlotFile.{File, holds}
use Rattle.rules.specs.Table.{lookup, unmapped}
use Rattle.rules.specs.TableLaws.{Rising}
use Rattle.rules.proofs.TableLaws.{mapped-one, has-lookup}
use Rattle.rules.specs.FileMap.{record_at, file_for, file_count}
use Rattle.rules.specs.FileMapLaws.{Among}
use Rattle.rules.proofs.FileMapLaws.{not-empty}
use Rattle.rules.specs.Condition1.{out_of_range}
use Rattle.rules.specs.Install.{installed_all}
use Rattle.rules.specs.InstallLaws.{is_at}
use Rattle.rules.specs.Maintenance.{objects_found, deletes_found, found_in, found, slot_of, files_of, Stop, going, stopped, Course, start_group, group_tests, rewrite_group, onward, groups_from, course_of, ended, maintain_call}
use Rattle.rules.specs.Prune.{pruned}
use Rattle.rules.specs.Reopen.{in_range}
use Rattle.rules.specs.World.{World, records_of, mappings, maintain_given}
use Rattle.theory.specs.Newest.{masked_at}
use Rattle.theory.proofs.Places as places
use Rattle.theory.specs.Places.{view_at}
use Rattle.theory.proofs.Places.{record-holds, found-in-range}
use Rattle.theory.specs.Picture.{views_of, picture_of, held_says, picture_says, last_says}
use Rattle.theory.proofs.Sound.{table-rising, table-stands}
use Rattle.theory.specs.SoundWorld.{bounds_of, SoundWorld}
use Rattle.theory.proofs.SoundWorld.{sound-fine}
use Rattle.history_theory.specs.Writing.{engine}
use Rattle.history_theory.proofs.Pruning.{file-slot}
use Rattle.history_theory.specs.Moving.{Movable}
use Rattle.history_theory.proofs.Moving.{found-movable}
use Rattle.history_theory.proofs.Rewriting.{last-all, heard-of}
use Rattle.maintenance_theory.specs.Tally.{known, heard_in}
use Rattle.maintenance_theory.proofs.Tally.{keep_same, count-heard}
use Rattle.maintenance_theory.proofs.Groups.{groups-apart, both_ways}
use Rattle.maintenance_theory.specs.Moved.{InRangeOf}
use Rattle.maintenance_theory.proofs.Moved.{found_inside, heard-each}
use Rattle.maintenance_theory.specs.Stopping.{Underway}
use Rattle.maintenance_theory.proofs.Stopping.{underway-first, still-files, onward-well}
use Rattle.maintenance_theory.specs.Relocated.{Left, Anew}
use Rattle.maintenance_theory.proofs.Relocated.{group-relocates}
use Rattle.maintenance_theory.specs.Finished.{before}
use Rattle.history_theory.specs.Fresh.{Blank}
use Rattle.history_theory.specs.History.{Call, Life, lived, Starts, born}
use Rattle.history_theory.proofs.History.{sound-lived, born-starts}
use Rattle.theory.proofs.Lists.{all-each, all_among, among-get}
use Rattle.maintenance_theory.specs.Exactly.{InSlots, Inside, Exactly, turn, goes_on, rewritten, ids_moved, Moves, Same}

-- ---- tests and facts
is-at : (k : ℕ) (o : Slot) → is_at k o ≡ true → o ≡ Some k
is-at k (Some j) h = ap Some (eqb-true j k h)
is-at k None h = absurd (true≢false (sym h))

any-slot : (p : ℕ → Bool) (ks : List ℕ) → any p ks ≡ true → (k : ℕ) × Among ks k × (p k ≡ true)
unfolding any
any-slot p [] h = absurd (true≢false (sym h))
any-slot p (k ∷ ks) h = go (or-true (p k) (any p ks) h) (any-slot p ks)
  where
    go : (p k ≡ true) ⊎ (any p ks ≡ true) → (any p ks ≡ true → (j : ℕ) × Among ks j × (p j ≡ true)) → (j : ℕ) × Among (k ∷ ks) j × (p j ≡ true)
    go (inl q) ih = (k, inl refl, q)
    go (inr q) ih = let z = ih q in (z.0, inr z.1, z.2)

slot-any : (p : ℕ → Bool) (ks : List ℕ) (k : ℕ) → Among ks k → p k ≡ true → any p ks ≡ true
unfolding any
slot-any p [] k a h = absurd a
slot-any p (j ∷ ks) k (inl q) h = or-holds (p j) (any p ks) (inl (ap p q ∙ h))
slot-any p (j ∷ ks) k (inr a) h = or-holds (p j) (any p ks) (inr (slot-any p ks k a h))

-- ---- a group in the world in which it is rewritten
module _ (w : World) (history : List Op) (s : SoundWorld w (engine history)) where
  rises : Rising 0 (mappings w)
  rises = table-rising (bounds_of w) (picture_of w) (engine history) s.sound

  -- the file that lookup finds is the one in whose range a location is
  range-file : (x l k : ℕ) (f : File) → view_at (views_of w) k ≡ holds f → lookup (mappings w) x ≡ Some l → is_at k (file_for (records_of w) l) ≡ in_range f.label (masked_at l)
  range-file x l k f h e =
      let t = table-stands (bounds_of w) (picture_of w) (engine history) s.sound x l e in
      found-in-range (views_of w) (records_of w) s.sound.filed x l t.0 k t.1 f h

  -- what is found is mapped
  said-mapped : (x : ℕ) (c : Content) → engine history x ≡ last_says (last c) → (l : ℕ) × (lookup (mappings w) x ≡ Some l)
  unfolding picture_says
  said-mapped x c told = go (lookup (mappings w) x) refl
    where
      go : (h : Held) → lookup (mappings w) x ≡ h → (l : ℕ) × (lookup (mappings w) x ≡ Some l)
      go (Some l) e = (l, e)
      go None e = absurd (heard-of c (sym (ap (λ (m : Held). held_says (picture_of w) m x) e) ∙ s.sound.says x ∙ told))

  -- where it is mapped to
  abbrev Placed : List ℕ → Op → Type 0
  Placed ks o = (l : ℕ) → lookup (mappings w) o.id ≡ Some l → InSlots w ks l

  placed-in : (ks : List ℕ) (k : ℕ) → Among ks k → 0 < (record_at (records_of w) k).label.lsn → All (Placed ks) (found_in w k)
  placed-in ks k a some =
      let z = file-slot w (engine history) s k (not-empty (record_at (records_of w) k) some) in
      let e = record-holds (views_of w) (records_of w) s.sound.filed k z.0 z.1 in
      all_map (InRangeOf (mappings w) z.0.label) (Placed ks) (found_in w k)
      (λ o h l q. (k, a, is-at k (file_for (records_of w) l) (range-file o.id l k z.0 z.1 q ∙ h l q)))
      (subst (λ (r : Record). All (InRangeOf (mappings w) z.0.label) (objects_found (mappings w) r.label (slot_of w k) ++ deletes_found (mappings w) r.label (slot_of w k))) (sym e)
      (found_inside w history s k z.0 z.1))

  placed : (ks : List ℕ) → All (λ (k : ℕ). 0 < (record_at (records_of w) k).label.lsn) ks → All (Placed ks) (found w ks)
  unfolding found
  placed ks files =
      settled-all (Placed ks) (each (found_in w) ks)
      (all-each (Placed ks) (found_in w) ks (all_among (λ (k : ℕ). 0 < (record_at (records_of w) k).label.lsn) (λ (k : ℕ). All (Placed ks) (found_in w k)) ks (placed-in ks) files))

  found-only : (ks : List ℕ) → All (λ (k : ℕ). 0 < (record_at (records_of w) k).label.lsn) ks → (x : ℕ) → heard_in (found w ks) x ≡ true → Inside w ks x
  found-only ks files x h = go (last_on (found w ks) x) refl h
    where
      go : (o : Last) → last_on (found w ks) x ≡ o → known (last_on (found w ks) x) ≡ true → Inside w ks x
      go silent p q = absurd (true≢false (sym q ∙ ap known p))
      go (last c) p q =
          let m = said-mapped x c (last-all (Movable (engine history)) (found w ks) (found-movable w history s ks) x c p).0 in
          (m.0, m.1, last-all (Placed ks) (found w ks) (placed ks files) x c p m.0 m.1)

  -- as many operations as ids of the table
  heard-ids : (ks : List ℕ) (ops : List Op) → RisingOps 0 ops → ((x : ℕ) → heard_in ops x ≡ true → Inside w ks x) → length ops ≡ length (keep (λ (e : Entry). heard_in ops e.id) (mappings w))
  heard-ids ks ops up only = count-heard 0 0 (mappings w) ops rises up (λ x h. ap unmapped (only x h).1)

  found-rising : (ks : List ℕ) → RisingOps 0 (found w ks)
  unfolding found
  found-rising ks = settled-rising (each (found_in w) ks)

  found-every : (ks : List ℕ) → All (λ (k : ℕ). 0 < (record_at (records_of w) k).label.lsn) ks → (x : ℕ) → Inside w ks x → heard_in (found w ks) x ≡ true
  unfolding found
  found-every ks files x (l, e, (k, a, q)) =
      let f = file-slot w (engine history) s k (not-empty (record_at (records_of w) k) (among-get (λ (j : ℕ). 0 < (record_at (records_of w) j).label.lsn) ks files k a)) in
      ap known (settled-last (each (found_in w) ks) x)
      ∙ heard-each w history s ks files x l e
      ∙ slot-any (λ (j : ℕ). in_range (record_at (records_of w) j).label (masked_at l)) ks k a
      (ap (λ (r : Record). in_range r.label (masked_at l)) (record-holds (views_of w) (records_of w) s.sound.filed k f.0 f.1)
      ∙ sym (range-file x l k f.0 f.1 e) ∙ ap (is_at k) q ∙ eq-eqb k k refl)

  -- both ways, each once: so as many
  exactly : (ks : List ℕ) (ops : List Op) → RisingOps 0 ops → ((x : ℕ) → heard_in ops x ≡ true → Inside w ks x) → ((x : ℕ) → Inside w ks x → heard_in ops x ≡ true) → Exactly w ks ops
  exactly ks ops up only every = record {
    once = up;
    only = only;
    every = every;
    count =
        heard-ids ks ops up only
        ∙ keep_same (λ (e : Entry). heard_in ops e.id) (λ (e : Entry). any (λ (k : ℕ). is_at k (file_for (records_of w) e.location)) ks) (mappings w)
        (λ x l a. let e = has-lookup 0 (mappings w) rises x l a in both_ways _ _ (λ h. here x l e (only x h)) (λ h. every x (there x l e (any-slot _ ks h))));
  }
    where
      here : (x l : ℕ) → lookup (mappings w) x ≡ Some l → Inside w ks x → any (λ (k : ℕ). is_at k (file_for (records_of w) l)) ks ≡ true
      here x l e (m, d, (k, a, q)) =
          slot-any (λ (k : ℕ). is_at k (file_for (records_of w) l)) ks k a (ap (λ (n : ℕ). is_at k (file_for (records_of w) n)) (mapped-one (sym e ∙ d)) ∙ ap (is_at k) q ∙ eq-eqb k k refl)

      there : (x l : ℕ) → lookup (mappings w) x ≡ Some l → (k : ℕ) × Among ks k × (is_at k (file_for (records_of w) l) ≡ true) → Inside w ks x
      there x l e (k, a, q) = (l, e, (k, a, is-at k (file_for (records_of w) l) q))

  -- LAW: what a group of files moves, in the world in which it is rewritten
  pub moved-exactly : (ks : List ℕ) → All (λ (k : ℕ). 0 < (record_at (records_of w) k).label.lsn) ks → Exactly w ks (found w ks)
  moved-exactly ks files = exactly ks (found w ks) (found-rising ks) (found-only ks files) (found-every ks files)

-- a refused group changes nothing
refused-same : (g : ℕ) (ks : List ℕ) (moved : ℕ) (w : World) → goes_on (rewrite_group g ks moved w).stop ≡ false → (rewrite_group g ks moved w).world ≡ w
unfolding rewrite_group
refused-same g ks moved w = go (decide (group_tests w ks (files_of w.settings.target_file_size (found w ks))))
  where
    course : Answer → Course
    course a = after {A = Course} a (λ (r : Refusal). record { stop = stopped r g; moved = moved; world = w })
        (record { stop = going; moved = moved + length (found w ks); world = installed_all 0 g w (files_of w.settings.target_file_size (found w ks)) })

    go : (a : Answer) → goes_on (course a).stop ≡ false → (course a).world ≡ w
    go (Ok _) e = absurd (true≢false e)
    go (Err r) e = refl

-- a group adds what it found, or nothing
group-adds : (g : ℕ) (ks : List ℕ) (moved : ℕ) (w : World) → (rewrite_group g ks moved w).moved ≡ moved + pick (goes_on (rewrite_group g ks moved w).stop) (length (found w ks)) 0
unfolding rewrite_group
group-adds g ks moved w = go (decide (group_tests w ks (files_of w.settings.target_file_size (found w ks))))
  where
    course : Answer → Course
    course a = after {A = Course} a (λ (r : Refusal). record { stop = stopped r g; moved = moved; world = w })
        (record { stop = going; moved = moved + length (found w ks); world = installed_all 0 g w (files_of w.settings.target_file_size (found w ks)) })

    go : (a : Answer) → (course a).moved ≡ moved + pick (goes_on (course a).stop) (length (found w ks)) 0
    go (Ok _) = refl
    go (Err r) = omega arith

-- a turn adds the ids that it found, where the group is rewritten
turn-adds : (start : World) (stop : Stop) (g : ℕ) (c : Course) (n : ℕ) → length (found c.world (start_group start g)) ≡ n
    → (onward stop g (start_group start g) c).moved ≡ c.moved + pick (goes_on stop && (not (ltb (length (start_group start g)) c.world.settings.min_compaction_files) && goes_on (rewrite_group g (start_group start g) c.moved c.world).stop)) n 0
turn-adds start (stopped r h) g c n m = omega arith
turn-adds start going g c n m = go (ltb (length (start_group start g)) c.world.settings.min_compaction_files)
  where
    go : (b : Bool) → (pick b c (rewrite_group g (start_group start g) c.moved c.world)).moved ≡ c.moved + pick (not b && goes_on (rewrite_group g (start_group start g) c.moved c.world).stop) n 0
    go true = omega arith
    go false = group-adds g (start_group start g) c.moved c.world ∙ ap (λ (k : ℕ). c.moved + pick (goes_on (rewrite_group g (start_group start g) c.moved c.world).stop) k 0) m

module _ (history : List Op) (start : World) (st : SoundWorld start (engine history)) where
  -- another group's files keep their ids, and get none
  same-group : (g h : ℕ) → (h ≡ g → ⊥) → h ≤ 255 → (c : Course) → Underway history start c
      → Same c.world (rewrite_group h (start_group start h) c.moved c.world).world (start_group start g)
  same-group g h n aged c u x = (there (group-relocates history c.world u.sound h aged (start_group start h) c.moved x), back (group-relocates history c.world u.sound h aged (start_group start h) c.moved x))
    where
      v : World
      v = (rewrite_group h (start_group start h) c.moved c.world).world

      there : Left c.world v x ⊎ (Anew c.world v x × (heard_in (found c.world (start_group start h)) x ≡ true)) → Inside c.world (start_group start g) x → Inside v (start_group start g) x
      there (inl y) (l, e, (k, a, q)) = (l, y.table ∙ e, (k, a, y.file l e ∙ q))
      there (inr y) (l, e, (k, a, q)) =
          let i = (moved-exactly c.world history u.sound (start_group start h) (still-files history start st h c u)).only x y.1 in
          let j : i.2.0 ≡ k = mapped-one (sym i.2.2 ∙ ap (file_for (records_of c.world)) (mapped-one (sym i.1 ∙ e)) ∙ q) in
          absurd (n (groups-apart start h g (2 ^ 62) (file_count (records_of start)) k (subst (Among (start_group start h)) j i.2.1) a))

      back : Left c.world v x ⊎ (Anew c.world v x × (heard_in (found c.world (start_group start h)) x ≡ true)) → Inside v (start_group start g) x → Inside c.world (start_group start g) x
      back (inl y) (l, e, (k, a, q)) = let z = sym y.table ∙ e in (l, z, (k, a, sym (y.file l z) ∙ q))
      back (inr y) (l, e, (k, a, q)) =
          let j : y.0.slot ≡ k = mapped-one (sym y.0.file ∙ ap (file_for (records_of v)) (mapped-one (sym y.0.table ∙ e)) ∙ q) in
          let f = file-slot c.world (engine history) u.sound k (not-empty (record_at (records_of c.world) k) (among-get (λ (m : ℕ). 0 < (record_at (records_of c.world) m).label.lsn) (start_group start g) (still-files history start st g c u) k a)) in
          absurd (places.not-empty (sym y.0.free ∙ ap (view_at (views_of c.world)) j ∙ f.1))

  same-onward : (stop : Stop) (g h : ℕ) → (h ≡ g → ⊥) → h ≤ 255 → (c : Course) → Underway history start c → Same start c.world (start_group start g)
      → Same start (onward stop h (start_group start h) c).world (start_group start g)
  same-onward (stopped r m) g h n aged c u y = y
  same-onward going g h n aged c u y = go (ltb (length (start_group start h)) c.world.settings.min_compaction_files)
    where
      go : (b : Bool) → Same start (pick b c (rewrite_group h (start_group start h) c.moved c.world)).world (start_group start g)
      go true = y
      go false = λ x. let z = same-group g h n aged c u x in (λ i. z.0 ((y x).0 i), λ i. (y x).1 (z.1 i))

  same-groups : (g : ℕ) (hs : List ℕ) → All (λ (h : ℕ). (h ≤ 255) × (h ≡ g → ⊥)) hs → (c : Course) → Underway history start c → Same start c.world (start_group start g)
      → Underway history start (groups_from hs start c) × Same start (groups_from hs start c).world (start_group start g)
  unfolding groups_from
  same-groups g [] a c u y = (u, y)
  same-groups g (h ∷ hs) a c u y =
      same-groups g hs a.1 (onward c.stop h (start_group start h) c) (onward-well history start st c.stop h a.0.0 c refl u)
      (same-onward c.stop g h a.0.1 a.0.0 c u y)

  -- a group in its turn, by the table and the records as the call starts
  turn-exactly : (g : ℕ) → All (λ (h : ℕ). (h ≤ 255) × (h ≡ g → ⊥)) (before g) → Underway history start (turn start g) × Exactly start (start_group start g) (found (turn start g).world (start_group start g))
  turn-exactly g a =
      let z = same-groups g (before g) a (record { stop = going; moved = 0; world = start }) (underway-first history start st) (λ x. (λ i. i, λ i. i)) in
      let m = moved-exactly (turn start g).world history z.0.sound (start_group start g) (still-files history start st g (turn start g) z.0) in
      (z.0, exactly start history st (start_group start g) (found (turn start g).world (start_group start g)) m.once (λ x h. (z.1 x).1 (m.only x h)) (λ x i. m.every x ((z.1 x).0 i)))

  -- an id that a turn does not move keeps its location
  turn-leaves : (stop : Stop) (g : ℕ) → g ≤ 255 → (c : Course) → Underway history start c → (x : ℕ)
      → ((goes_on stop && (not (ltb (length (start_group start g)) c.world.settings.min_compaction_files) && goes_on (rewrite_group g (start_group start g) c.moved c.world).stop)) ≡ true
      → heard_in (found c.world (start_group start g)) x ≡ true → ⊥)
      → lookup (mappings (onward stop g (start_group start g) c).world) x ≡ lookup (mappings c.world) x
  turn-leaves (stopped r m) g aged c u x n = refl
  turn-leaves going g aged c u x n = go (ltb (length (start_group start g)) c.world.settings.min_compaction_files) n
    where
      v : Course
      v = rewrite_group g (start_group start g) c.moved c.world

      by : (b : Bool) → goes_on v.stop ≡ b → (goes_on v.stop ≡ true → heard_in (found c.world (start_group start g)) x ≡ true → ⊥) → lookup (mappings v.world) x ≡ lookup (mappings c.world) x
      by false e n = ap (λ (y : World). lookup (mappings y) x) (refused-same g (start_group start g) c.moved c.world e)
      by true e n = ⊎_elim (λ y. y.table) (λ y. absurd (n e y.1)) (group-relocates history c.world u.sound g aged (start_group start g) c.moved x)

      go : (b : Bool) → ((not b && goes_on v.stop) ≡ true → heard_in (found c.world (start_group start g)) x ≡ true → ⊥) → lookup (mappings (pick b c v).world) x ≡ lookup (mappings c.world) x
      go true n = refl
      go false n = by (goes_on v.stop) refl n

  ended-table : (stop : Stop) (c : Course) (x : ℕ) → lookup (mappings (ended stop c).world) x ≡ lookup (mappings c.world) x
  unfolding pruned
  ended-table going c x = refl
  ended-table (stopped r g) c x = refl

  -- C: what maintenance moves on a store of the invariant
  pub sound-moves : Moves start
  unfolding maintain_call decide course_of groups_from keep sum
  sound-moves = record {
    groups = (t1.1, (t2.1, (t3.1, tt)));
    counts = rw (sound-fine start (engine history) st) (by (course_of start).stop);
    others = λ x n. rw (sound-fine start (engine history) st) (
        ended-table (course_of start).stop (course_of start) x
        ∙ turn-leaves (turn start 3).stop 3 (omega arith) (turn start 3) t3.0 x (λ r h. n.1.1.0 r (t3.1.only x h))
        ∙ turn-leaves (turn start 2).stop 2 (omega arith) (turn start 2) t2.0 x (λ r h. n.1.0 r (t2.1.only x h))
        ∙ turn-leaves (turn start 1).stop 1 (omega arith) (turn start 1) t1.0 x (λ r h. n.0 r (t1.1.only x h)));
  }
    where
      t1 : Underway history start (turn start 1) × Exactly start (start_group start 1) (found (turn start 1).world (start_group start 1))
      t1 = turn-exactly 1 tt

      t2 : Underway history start (turn start 2) × Exactly start (start_group start 2) (found (turn start 2).world (start_group start 2))
      t2 = turn-exactly 2 ((omega arith, λ z. omega arith), tt)

      t3 : Underway history start (turn start 3) × Exactly start (start_group start 3) (found (turn start 3).world (start_group start 3))
      t3 = turn-exactly 3 ((omega arith, λ z. omega arith), ((omega arith, λ z. omega arith), tt))

      total : (course_of start).moved ≡ sum (ids_moved start) (1 ∷ 2 ∷ 3 ∷ [])
      total =
          let a : (turn start 2).moved ≡ 0 + ids_moved start 1 = turn-adds start (turn start 1).stop 1 (turn start 1) _ t1.1.count in
          let b : (turn start 3).moved ≡ (turn start 2).moved + ids_moved start 2 = turn-adds start (turn start 2).stop 2 (turn start 2) _ t2.1.count in
          let c : (course_of start).moved ≡ (turn start 3).moved + ids_moved start 3 = turn-adds start (turn start 3).stop 3 (turn start 3) _ t3.1.count in
          omega arith

      by : (o : Stop) → ((ended o (course_of start)).answer ≡ maintain_given (Ok (sum (ids_moved start) (1 ∷ 2 ∷ 3 ∷ []))))
          ⊎ ((r : Refusal) × (g : ℕ) × ((ended o (course_of start)).answer ≡ maintain_given (Err (stopped_with r g (sum (ids_moved start) (1 ∷ 2 ∷ 3 ∷ []))))))
      by going = inl (ap (λ (n : ℕ). maintain_given (Ok n)) total)
      by (stopped r g) = inr (r, g, ap (λ (n : ℕ). maintain_given (Err (stopped_with r g n))) total)

-- C: on any store of the invariant, whatever calls were made
pub lived-maintenance-moves : (l : Life) → Starts l → (calls : List Call) → Moves (lived l calls).world
lived-maintenance-moves l s calls = sound-moves (lived l calls).history (lived l calls).world (sound-lived l s calls)

-- C: so on every store of demand 3 that began with no file
pub any-maintenance-moves : (w : World) → out_of_range w.settings (length w.heap) w.table ≡ false → Blank w → (calls : List Call) → Moves (lived (born w) calls).world
any-maintenance-moves w range blank = lived-maintenance-moves (born w) (born-starts w range blank)
