-- Request P1, "In demand 3 "nothing" splits accordingly; an id deleted without ever being put is "deleted"": what a read tells of an id, whatever calls were made.
use Rattle.std.specs.Prelude.{◌≡◌, refl, ◌∷◌, None, Ok, Some}
use Rattle.std.proofs.Common.{sym, ap, ap₂, ◌∙◌, arith, eq-eqb}
use Rattle.rules.specs.Base.{Bool, List, [], ℕ, pick}
use Rattle.theory.specs.Types.{Held, ReadAnswer, Deleted, NeverWritten}
use Rattle.rules.specs.BaseLaws.{All}
use Rattle.rules.specs.Ops.{put, delete, Op}
use Rattle.rules.specs.Batch.{batch_in, ops_of}
use Rattle.rules.specs.SettledLaws.{Last, silent, last, or_earlier, said_by, last_on}
use Rattle.rules.proofs.SettledLaws.{said-other}
use Rattle.rules.specs.Table.{lookup}
use Rattle.rules.specs.Read.{read_of}
use Rattle.rules.specs.Reopen.{reopen_call}
use Rattle.rules.specs.Write.{write_call}
use Rattle.rules.specs.World.{World, mappings, accepted}
use Rattle.theory.proofs.SoundWorld.{sound-fine}
use Rattle.history_theory.specs.Writing.{engine}
use Rattle.history_theory.specs.Reading.{Reads}
use Rattle.history_theory.proofs.Reading.{sound-read}
use Rattle.theory.specs.Reopened.{Mentioned}
use Rattle.theory.proofs.Reopened.{reopened-means}
use Rattle.history_theory.specs.History.{Call, called, hears, Life, lived, Starts}
use Rattle.history_theory.proofs.History.{sound-called, sound-lived}
use Rattle.history_theory.specs.Writes.{deleted, got, left_by, Unheard}
use Rattle.history_theory.proofs.Writes.{lived-write, reads-stay}
use Rattle.history_theory.specs.Clean.{Clean, resumed}
use Rattle.history_theory.proofs.Clean.{clean-starts}
use Rattle.pinned.specs.Read.{never-exactly}

-- ---- no operation on an id
abbrev pub NoneOn : ℕ → List Op → Type 0
NoneOn x ops = All (λ (o : Op). o.id ≡ x → ⊥) ops

-- an operation is heard
last-not : {A : Type 0} (t : Last) (o : Op) → or_earlier t (last o.content) ≡ silent → A
last-not silent o e = absurd (let z : ◌≡◌ {A = ℕ} 0 1 = cc in omega arith)
last-not (last c) o e = absurd (let z : ◌≡◌ {A = ℕ} 0 1 = cc in omega arith)

-- silent: neither the later ones nor the first
both-silent : (a b : Last) → or_earlier a b ≡ silent → a ≡ silent
both-silent silent b e = refl
both-silent (last c) b e = e

silent-none : (ops : List Op) (x : ℕ) → last_on ops x ≡ silent → NoneOn x ops
unfolding last_on
silent-none [] x e = tt
silent-none (o ∷ os) x e =
    (λ q. last-not (last_on os x) o (sym (ap (λ (b : Bool). or_earlier (last_on os x) (pick b (last o.content) silent)) (eq-eqb o.id x q)) ∙ e), silent-none os x (both-silent (last_on os x) (said_by o x) e))

none-silent : (ops : List Op) (x : ℕ) → NoneOn x ops → last_on ops x ≡ silent
unfolding last_on
none-silent [] x n = refl
none-silent (o ∷ os) x n = ap₂ or_earlier (none-silent os x n.1) (said-other o x n.0)

-- ---- what a read tells
pub record Told (l : Life) (id : ℕ) : Type 0 where
  -- never written exactly if the engine heard no operation on the id
  pub never : (read_of l.world id ≡ Ok NeverWritten → NoneOn id l.history) × (NoneOn id l.history → read_of l.world id ≡ Ok NeverWritten)
  -- deleted exactly if the last one it heard is a delete
  pub gone : (read_of l.world id ≡ Ok Deleted → last_on l.history id ≡ last delete) × (last_on l.history id ≡ last delete → read_of l.world id ≡ Ok Deleted)

by_last : (w : World) (a : ReadAnswer) (t : Last) → Reads w a t → (a ≡ Ok NeverWritten → t ≡ silent) × (a ≡ Ok Deleted → t ≡ last delete)
by_last w a silent e = (λ p. refl, λ p. absurd (let q : (Ok NeverWritten) ≡ (Ok Deleted) = sym e ∙ p in let z : ◌≡◌ {A = ℕ} 0 1 = cc in omega arith))
by_last w a (last delete) e = (λ p. absurd (let q : (Ok Deleted) ≡ (Ok NeverWritten) = sym e ∙ p in let z : ◌≡◌ {A = ℕ} 0 1 = cc in omega arith), λ p. refl)
by_last w a (last (put b)) e = (
  λ p. absurd (let q = sym e.1 ∙ p in let z : ◌≡◌ {A = ℕ} 0 1 = cc in omega arith),
  λ p. absurd (let q = sym e.1 ∙ p in let z : ◌≡◌ {A = ℕ} 0 1 = cc in omega arith),
)

by-silent : (w : World) (a : ReadAnswer) (t : Last) → t ≡ silent → Reads w a t → a ≡ Ok NeverWritten
by-silent w a silent e r = r
by-silent w a (last c) e r = absurd (let z : ◌≡◌ {A = ℕ} 0 1 = cc in omega arith)

by-delete : (w : World) (a : ReadAnswer) (t : Last) → t ≡ last delete → Reads w a t → a ≡ Ok Deleted
by-delete w a silent e r = absurd (let z : ◌≡◌ {A = ℕ} 0 1 = cc in omega arith)
by-delete w a (last delete) e r = r
by-delete w a (last (put b)) e r = absurd (let z : ◌≡◌ {A = ℕ} 0 1 = cc in omega arith)

-- LAW: on any store of the invariant, so after any calls, maintenance, prune and reopening among them
pub lived-told : (l : Life) → Starts l → (calls : List Call) (id : ℕ) → Told (lived l calls) id
lived-told l s calls id =
    let m = lived l calls in
    let r = sound-read m.world m.history (sound-lived l s calls) id in
    record {
      never = (
        λ e. silent-none m.history id ((by_last m.world (read_of m.world id) (last_on m.history id) r).0 e),
        λ n. by-silent m.world (read_of m.world id) (last_on m.history id) (none-silent m.history id n) r,
      );
      gone = ((by_last m.world (read_of m.world id) (last_on m.history id) r).1, λ e. by-delete m.world (read_of m.world id) (last_on m.history id) e r);
    }

-- LAW: at the start from a clean heap no operation was heard exactly on the ids in no trailer that the reopening found
pub first_found : (w : World) → Clean w → (x : ℕ)
    → (NoneOn x (resumed w).history → (l : ℕ) → Mentioned w x l → ⊥) × (((l : ℕ) → Mentioned w x l → ⊥) → NoneOn x (resumed w).history)
unfolding lived
first_found w c x = (λ n. there (told.never.1 n), λ n. told.never.0 (exactly.1 (none n (lookup (mappings v) x) refl)))
  where
    v : World
    v = (reopen_call w).world

    told : Told (lived (resumed w) []) x
    told = lived-told (resumed w) (clean-starts w c) [] x

    exactly : (read_of v x ≡ Ok NeverWritten → lookup (mappings v) x ≡ None) × (lookup (mappings v) x ≡ None → read_of v x ≡ Ok NeverWritten)
    exactly = never-exactly v x (sound-fine v (engine (resumed w).history) (clean-starts w c))

    there : read_of v x ≡ Ok NeverWritten → (l : ℕ) → Mentioned w x l → ⊥
    there e l = (reopened-means w c.reopens).unmentioned x l (exactly.0 e)

    none : ((l : ℕ) → Mentioned w x l → ⊥) → (h : Held) → lookup (mappings v) x ≡ h → lookup (mappings v) x ≡ None
    none n None e = e
    none n (Some l) e = absurd (n l ((reopened-means w c.reopens).mentioned x l e))

-- ---- deletes
-- LAW: an id whose last operation in an accepted batch is a delete reads deleted, put before or not
pub delete-reads : (l : Life) → Starts l → (calls : List Call) (batch : List ℕ) → (write_call (lived l calls).world batch).answer ≡ accepted []
    → (id : ℕ) → last_on (ops_of (batch_in batch)) id ≡ last delete → got (write_call (lived l calls).world batch).world id ≡ deleted
delete-reads l s calls batch e id d = (lived-write l s calls batch e).reads id ∙ ap (λ (t : Last). left_by t (got (lived l calls).world id)) d

-- LAW: and it stays so while no write comes: maintenance that moves the delete, prune, reopening
pub delete-stays : (l : Life) → Starts l → (calls : List Call) → All Unheard calls → (id : ℕ) → got l.world id ≡ deleted → got (lived l calls).world id ≡ deleted
unfolding lived
delete-stays l s [] q id e = e
delete-stays l s (c ∷ cs) q id e =
    delete-stays (record { world = (called l.world c).world; history = hears l.world l.history c }) (sound-called l.world l.history c s) cs q.1 id
    (reads-stay l.world l.history s c q.0 id ∙ e)
