-- Demand 3: whatever calls were made, reads give the last accepted put, and a reopening finds the store as it was.
use Rattle.std.specs.Prelude.{◌≡◌, ◌<◌, ◌∷◌, ◌+◌}
use Rattle.std.proofs.Common.{sym, ap, ◌∙◌, subst}
use Rattle.rules.specs.Base.{false, List, [], map, ℕ, length}
use Rattle.theory.specs.Types.{Record}
use Rattle.disk_location.specs.Locations.{masked_of}
use Rattle.rules.specs.Condition1.{out_of_range}
use Rattle.rules.specs.Ops.{Op}
use Rattle.rules.specs.FileMap.{is_empty, record_at}
use Rattle.rules.specs.World.{World, records_of, After}
use Rattle.theory.proofs.Places.{not-empty, record-holds}
use Rattle.theory.specs.Picture.{views_of}
use Rattle.theory.specs.Marks.{without_mark}
use Rattle.theory.proofs.Marks.{marks-alone}
use Rattle.theory.specs.SoundWorld.{SoundWorld, SmallWorld}
use Rattle.history_theory.specs.Writing.{engine}
use Rattle.history_theory.proofs.Writing.{sound-write}
use Rattle.history_theory.proofs.Reading.{sound-read}
use Rattle.history_theory.proofs.Maintaining.{sound-rewrite}
use Rattle.history_theory.proofs.Small.{small-write, small-rewrite, small-pruned, small_same}
use Rattle.history_theory.proofs.Pruning.{file-slot, prune-accepted, sound-prune}
use Rattle.history_theory.specs.Quiet.{quietly}
use Rattle.history_theory.proofs.Quiet.{undisturbed}
use Rattle.history_theory.specs.Again.{again}
use Rattle.history_theory.proofs.Again.{reopen-accepted, sound-again}
use Rattle.history_theory.specs.Fresh.{Blank}
use Rattle.history_theory.proofs.Fresh.{views-blank, fresh-opens, sound-fresh}
use Rattle.history_theory.specs.History.{Call, write, rewrite, prune, reopen, quiet, called, hears, Life, lived, Kept, Starts, born}

-- a file by its record
above-record : (w : World) (history : List Op) → SoundWorld w (engine history) → (k : ℕ) → is_empty (record_at (records_of w) k) ≡ false
    → masked_of (record_at (records_of w) k).label.lsn + (record_at (records_of w) k).label.trailer_offset < w.state.next_position
above-record w history s k h =
    let f = file-slot w (engine history) s k h in
    subst (λ (r : Record). masked_of r.label.lsn + r.label.trailer_offset < w.state.next_position)
    (sym (record-holds (views_of w) (records_of w) s.sound.filed k f.0 f.1)) (s.sound.above k f.0 f.1)

-- reopened, too
above-again : (w : World) (history : List Op) → SoundWorld w (engine history) → (k : ℕ) → is_empty (record_at (records_of w) k) ≡ false
    → masked_of (record_at (records_of w) k).label.lsn + (record_at (records_of w) k).label.trailer_offset < (again w).state.next_position
above-again w history s k h =
    let f = file-slot w (engine history) s k h in
    subst (λ (r : Record). masked_of r.label.lsn + r.label.trailer_offset < (again w).state.next_position)
    (sym (record-holds (views_of w) (records_of w) s.sound.filed k f.0 f.1)) ((sound-again w (engine history) s).sound.above k f.0 f.1)

pub sound-kept : (w : World) (history : List Op) → SoundWorld w (engine history) → Kept w history
sound-kept w history s =
    let e = reopen-accepted w (engine history) s in
    record {
      reads = sound-read w history s;
      reopens = ap (λ (a : After). a.answer) e;
      same-table = ap (λ (a : After). a.world.table) e;
      same-records = ap (λ (a : After). map without_mark (records_of a.world)) e ∙ marks-alone (records_of w);
      all-marked = ap (λ (a : After). records_of a.world) e;
      above = above-record w history s;
      above-reopened = λ k h.
          subst (λ (a : After). masked_of (record_at (records_of w) k).label.lsn + (record_at (records_of w) k).label.trailer_offset < a.world.state.next_position) (sym e)
          (above-again w history s k h);
    }

-- each call keeps the invariant
pub sound-called : (w : World) (history : List Op) (c : Call) → SoundWorld w (engine history) → SoundWorld (called w c).world (engine (hears w history c))
sound-called w history (write bytes) s = sound-write w history s bytes
sound-called w history (rewrite room g mark count) s = sound-rewrite history w s room g mark count
sound-called w history prune s = sound-prune w (engine history) s
sound-called w history reopen s =
    subst (λ (a : After). SoundWorld a.world (engine history)) (sym (reopen-accepted w (engine history) s)) (sound-again w (engine history) s)
sound-called w history (quiet q) s = (undisturbed w q).sound (engine history) s

-- and a small store small
small-called : (w : World) (history : List Op) (c : Call) → SoundWorld w (engine history) → SmallWorld w → SmallWorld (called w c).world
small-called w history (write bytes) s small = small-write w history s small bytes
small-called w history (rewrite room g mark count) s small = small-rewrite w history s small room g mark count
small-called w history prune s small = subst (λ (a : After). SmallWorld a.world) (sym (prune-accepted w (engine history) s)) (small-pruned w history s small)
small-called w history reopen s small = subst (λ (a : After). SmallWorld a.world) (sym (reopen-accepted w (engine history) s)) small
small-called w history (quiet q) s small = small_same w (quietly w q).world (undisturbed w q).settings (undisturbed w q).heap small

-- LAW: the invariant holds whatever calls were made
pub sound-lived : (l : Life) → Starts l → (calls : List Call) → Starts (lived l calls)
unfolding lived
sound-lived l s [] = s
sound-lived l s (c ∷ cs) =
    sound-lived (record { world = (called l.world c).world; history = hears l.world l.history c }) (sound-called l.world l.history c s) cs

-- LAW: and a small store stays one
pub small-lived : (l : Life) → Starts l → SmallWorld l.world → (calls : List Call) → SmallWorld (lived l calls).world
unfolding lived
small-lived l s small [] = small
small-lived l s small (c ∷ cs) =
    small-lived (record { world = (called l.world c).world; history = hears l.world l.history c }) (sound-called l.world l.history c s)
    (small-called l.world l.history c s small) cs

-- DEMAND 3: from any store of the invariant make any calls, refused ones among them
pub lived-kept : (l : Life) → Starts l → (calls : List Call) → Kept (lived l calls).world (lived l calls).history
lived-kept l s calls = sound-kept (lived l calls).world (lived l calls).history (sound-lived l s calls)

module _ (w : World) (range : out_of_range w.settings (length w.heap) w.table ≡ false) (blank : Blank w) where
  -- it is such a start, and small
  pub born-starts : Starts (born w)
  born-starts = subst (λ (a : After). SoundWorld a.world (engine [])) (sym (fresh-opens w range blank)) (sound-fresh w range blank)

  -- no file is there
  pub born-small : SmallWorld (born w).world
  born-small = subst (λ (a : After). SmallWorld a.world) (sym (fresh-opens w range blank)) (λ k f e. absurd (not-empty (sym (views-blank w range blank k) ∙ e)))

  -- DEMAND 3: reopen a heap whose slots all begin with byte 0, in range; then make any calls, refused ones among them
  pub any-history : (calls : List Call) → Kept (lived (born w) calls).world (lived (born w) calls).history
  any-history = lived-kept (born w) born-starts
