-- Request P6: the marks say nothing of the files. A store whose records are marked is sound as before.
use Rattle.std.specs.Prelude.{◌≡◌, ◌⊎◌, ◌≤◌, ◌&&◌, ◌||◌, ◌∷◌, ◌+◌, ◌-◌, None, Some}
use Rattle.std.proofs.Math.Path.{refl, ap}
use Rattle.std.proofs.Common.{sym, ◌∙◌, true≢false, inl, inr, zero-add, arith, ne_eqb}
use Rattle.std.proofs.lemmas.List.{length-map}
use Rattle.std.proofs.lemmas.Bool.{eqb-false}
use Rattle.rules.specs.Base.{Bool, true, false, not, List, [], map, ℕ, zero, suc, eqb, pick, any, sum}
use Rattle.theory.specs.Types.{Label, Record, Held, Slot}
use Rattle.disk_location.specs.Locations.{position_of}
use Rattle.rules.specs.SlotFile.{View, empty, damaged, holds}
use Rattle.rules.specs.Table.{lookup}
use Rattle.rules.specs.FileMap.{recorded, empty_record, is_empty, record_at, file_for}
use Rattle.rules.proofs.FileMapLaws.{is-empty, file-same}
use Rattle.rules.specs.Sync.{is_unsynced, unsynced_in, marked, marked_all}
use Rattle.theory.specs.Places.{view_at, Agrees}
use Rattle.theory.specs.Losing.{live_at}
use Rattle.theory.specs.Picture.{Picture, Said, view_says, slot_says, held_says, picture_says}
use Rattle.theory.proofs.Says.{held_same}
use Rattle.theory.specs.Sound.{Sound}
use Rattle.theory.specs.Marks.{without_mark, SomeMarked, marked_from, with_records, marked_picture}

-- ---- one record
-- by cases: it is marked anew, or stays as it is
pub by-mark : (P : Record → Type 0) (r : Record) → (is_unsynced r ≡ true → P (recorded r.label r.live 1)) → (is_unsynced r ≡ false → P r) → P (marked r)
unfolding marked
by-mark P r new old = go (is_unsynced r) refl
  where
    go : (t : Bool) → is_unsynced r ≡ t → P (pick t (recorded r.label r.live 1) r)
    go true e = new e
    go false e = old e

-- the label stays
pub marked-label : (r : Record) → (marked r).label ≡ r.label
marked-label r = by-mark (λ (q : Record). q.label ≡ r.label) r (λ e. refl) (λ e. refl)

-- and the live count
pub marked-live : (r : Record) → (marked r).live ≡ r.live
marked-live r = by-mark (λ (q : Record). q.live ≡ r.live) r (λ e. refl) (λ e. refl)

-- "an empty record has it clear and is never counted or marked"
pub marked_empty : marked empty_record ≡ empty_record
unfolding is_unsynced
marked_empty =
    by-mark (λ (q : Record). q ≡ empty_record) empty_record
    (λ e. absurd (true≢false (sym e ∙ ap (λ (b : Bool). not b && true) is-empty))) (λ e. refl)

-- a file's record is set, whatever its mark was
pub marked-set : (r : Record) → is_empty r ≡ false → r.synced ≤ 1 → marked r ≡ recorded r.label r.live 1
unfolding is_unsynced
marked-set r some fits =
    by-mark (λ (q : Record). q ≡ recorded r.label r.live 1) r (λ e. refl)
    (λ e.
    let c : eqb r.synced 0 ≡ false = rw some at e in
    let n = eqb-false r.synced 0 c in
    let one : r.synced ≡ 1 = omega (arith, n) in
    ap (recorded r.label r.live) one)

-- no file's record is left unmarked
pub marked-synced : (r : Record) → is_unsynced (marked r) ≡ false
unfolding is_unsynced
marked-synced r = by-mark (λ (q : Record). is_unsynced q ≡ false) r (λ e. end (not (is_empty (recorded r.label r.live 1)))) (λ e. e)
  where
    end : (t : Bool) → (t && false) ≡ false
    end true = refl
    end false = refl

-- ---- the list
pub marked-at : (rs : List Record) (k : ℕ) → record_at (marked_all rs) k ≡ marked (record_at rs k)
marked-at [] k = sym marked_empty
marked-at (r ∷ rs) zero = refl
marked-at (r ∷ rs) (suc k) = marked-at rs k

-- after a sync none is counted
pub none-unsynced : (rs : List Record) → unsynced_in (marked_all rs) ≡ 0
unfolding unsynced_in sum
none-unsynced [] = refl
none-unsynced (r ∷ rs) = rw (marked-synced r, zero-add) (none-unsynced rs)

-- LAW: "Sync gives whether any mark changed" is whether any was counted before
pub any-counted : (rs : List Record) → any is_unsynced rs ≡ not (eqb (unsynced_in rs) 0)
unfolding unsynced_in sum any
any-counted [] = refl
any-counted (r ∷ rs) = go (is_unsynced r) (any-counted rs)
  where
    go : (t : Bool) → any is_unsynced rs ≡ not (eqb (unsynced_in rs) 0) → (t || any is_unsynced rs) ≡ not (eqb (pick t 1 0 + unsynced_in rs) 0)
    go true h = rw (ne_eqb (1 + unsynced_in rs) 0 (λ z. omega arith))
    go false h = rw zero-add h

-- LAW: a sync changes nothing else
pub marks-alone : (rs : List Record) → map without_mark (marked_all rs) ≡ map without_mark rs
marks-alone [] = refl
marks-alone (r ∷ rs) = λ i. recorded (marked-label r i) (marked-live r i) 0 ∷ marks-alone rs i

-- all of them
pub all_of : (rs : List Record) → SomeMarked rs (marked_all rs)
all_of rs = record { size = length-map rs marked; each = λ k. inl (marked-at rs k) }

-- one more in front
more_of : (r q : Record) (rs qs : List Record) → (q ≡ marked r) ⊎ (q ≡ r) → SomeMarked rs qs → SomeMarked (r ∷ rs) (q ∷ qs)
more_of r q rs qs h s = record { size = ap suc s.size; each = each }
  where
    each : (k : ℕ) → (record_at (q ∷ qs) k ≡ marked (record_at (r ∷ rs) k)) ⊎ (record_at (q ∷ qs) k ≡ record_at (r ∷ rs) k)
    each zero = h
    each (suc k) = s.each k

pub part_of : (from count : ℕ) (rs : List Record) → SomeMarked rs (marked_from from count rs)
part_of zero zero rs = record { size = refl; each = λ k. inr refl }
part_of zero (suc count) [] = record { size = refl; each = λ k. inr refl }
part_of zero (suc count) (r ∷ rs) = more_of r (marked r) rs (marked_from 0 count rs) (inl refl) (part_of zero count rs)
part_of (suc from) zero [] = record { size = refl; each = λ k. inr refl }
part_of (suc from) (suc count) [] = record { size = refl; each = λ k. inr refl }
part_of (suc from) count (r ∷ rs) = more_of r r rs (marked_from from count rs) (inr refl) (part_of from count rs)

module _ (bounds : ℕ) (p : Picture) (told : ℕ → Said) (s : Sound bounds p told) (qs : List Record) (some : SomeMarked p.records qs) where
  label-at : (k : ℕ) → (record_at qs k).label ≡ (record_at p.records k).label
  label-at k = go (some.each k)
    where
      go : (record_at qs k ≡ marked (record_at p.records k)) ⊎ (record_at qs k ≡ record_at p.records k) → (record_at qs k).label ≡ (record_at p.records k).label
      go (inl e) = ap (λ (r : Record). r.label) e ∙ marked-label (record_at p.records k)
      go (inr e) = ap (λ (r : Record). r.label) e

  live_at_lem : (k : ℕ) → live_at qs k ≡ live_at p.records k
  live_at_lem k = go (some.each k)
    where
      go : (record_at qs k ≡ marked (record_at p.records k)) ⊎ (record_at qs k ≡ record_at p.records k) → live_at qs k ≡ live_at p.records k
      go (inl e) = ap (λ (r : Record). r.live) e ∙ marked-live (record_at p.records k)
      go (inr e) = ap (λ (r : Record). r.live) e

  -- every location's file is found as before
  file-found : (location : ℕ) → file_for qs location ≡ file_for p.records location
  file-found location = file-same qs p.records some.size (λ j. ap (λ (l : Label). l.lsn) (label-at j)) location

  -- a slot's record is as it was, but for the mark
  agrees-marked : (v : View) (r : Record) → Agrees v r → Agrees v (marked r)
  agrees-marked empty r h = ap marked h ∙ marked_empty
  agrees-marked (damaged n) r h = h
  agrees-marked (holds f) r h =
      by-mark (λ (q : Record). (q ≡ recorded f.label q.live q.synced) × (q.synced ≤ 1)) r
      (λ e. (ap (λ (l : Label). recorded l r.live 1) (ap (λ (q : Record). q.label) h.0), omega arith)) (λ e. h)

  agrees_at : (k : ℕ) → Agrees (view_at p.views k) (record_at qs k)
  agrees_at k = go (some.each k)
    where
      go : (record_at qs k ≡ marked (record_at p.records k)) ⊎ (record_at qs k ≡ record_at p.records k) → Agrees (view_at p.views k) (record_at qs k)
      go (inl e) = rw e (agrees-marked (view_at p.views k) (record_at p.records k) (s.filed.agree k))
      go (inr e) = rw e (s.filed.agree k)

  says-marked : (x : ℕ) → picture_says (with_records p qs) x ≡ picture_says p x
  unfolding picture_says
  says-marked x = held (lookup p.table x)
    where
      found : (o : Slot) (l : ℕ) → slot_says (with_records p qs) o l x ≡ slot_says p o l x
      found None l = refl
      found (Some k) l = ap (λ (c : Label). view_says (view_at p.views k) (position_of l - c.lsn) x) (label-at k)

      held : (o : Held) → held_says (with_records p qs) o x ≡ held_says p o x
      held None = refl
      held (Some l) =
          held_same (with_records p qs) p l x (ap (λ (o : Slot). slot_says (with_records p qs) o l x) (file-found l) ∙ found (file_for p.records l) l)

  -- LAW: the invariant does not hang on the marks, of whichever records they are set
  pub sound-some-marked : Sound bounds (with_records p qs) told
  sound-some-marked = record {
    filed = record {
      fits = let a = some.size in let b = s.filed.fits in omega arith;
      agree = agrees_at;
      made = s.filed.made;
      single = s.filed.single;
      apart = s.filed.apart;
    };
    whole = s.whole;
    sized = some.size ∙ s.sized;
    started = s.started;
    above = s.above;
    newest = s.newest;
    room = s.room;
    narrow = s.narrow;
    counted = λ k f h. live_at_lem k ∙ s.counted k f h;
    says = λ x. says-marked x ∙ s.says x;
  }

-- LAW: so where all are
pub sound-marked : (bounds : ℕ) (p : Picture) (told : ℕ → Said) → Sound bounds p told → Sound bounds (marked_picture p) told
sound-marked bounds p told s = sound-some-marked bounds p told s (marked_all p.records) (all_of p.records)
