-- Calls in a reader's words: where the file of an accepted write stands, what is read and reopened after it; that every other call leaves reads as they were; that refused calls change nothing.
use Rattle.std.specs.Prelude.{◌≡◌, refl, ◌<◌, ◌∷◌, ◌++◌, ◌^◌, Err, Ok}
use Rattle.std.proofs.Common.{sym, ap, ◌∙◌, subst, arith}
use Rattle.rules.specs.Base.{false, List, [], ℕ, length}
use Rattle.theory.specs.Types.{Limits, Answer, ReadAnswer}
use Rattle.rules.specs.Refusal.{◌gives◌, decide, after}
use Rattle.rules.specs.Condition1.{out_of_range, refused1}
use Rattle.rules.specs.Prune.{pruned, prune_call}
use Rattle.rules.specs.Ops.{put, delete, Op, settled}
use Rattle.rules.specs.SettledLaws.{Last, silent, last, or_earlier, last_on}
use Rattle.rules.proofs.SettledLaws.{last-append}
use Rattle.rules.specs.Batch.{batch_in, ops_of}
use Rattle.rules.specs.Read.{read_of, part_of}
use Rattle.rules.specs.Install.{installed, installed_all}
use Rattle.rules.specs.Write.{write_tests, written, write_call}
use Rattle.rules.specs.WriteLaws.{ops_in}
use Rattle.rules.proofs.WriteLaws.{write-accepted}
use Rattle.rules.specs.World.{World, records_of, Given, accepted, After, unchanged}
use Rattle.theory.specs.SoundWorld.{SoundWorld}
use Rattle.theory.proofs.Reopened.{refused-not}
use Rattle.theory.specs.Standing.{Stood}
use Rattle.theory.proofs.Standing.{fitting-stands}
use Rattle.history_theory.specs.Writing.{engine, heard}
use Rattle.history_theory.proofs.Writing.{fits-write, sound-write}
use Rattle.history_theory.specs.Reading.{Reads}
use Rattle.history_theory.proofs.Reading.{sound-read}
use Rattle.history_theory.proofs.OneGeneration.{rewrite-refused}
use Rattle.history_theory.proofs.Again.{reopen-accepted}
use Rattle.history_theory.proofs.Quiet.{undisturbed}
use Rattle.history_theory.specs.Fresh.{Blank}
use Rattle.history_theory.specs.History.{Call, write, rewrite, prune, reopen, quiet, called, hears, Life, lived, Starts, born}
use Rattle.history_theory.proofs.History.{sound-called, sound-lived, born-starts}
use Rattle.history_theory.specs.Writes.{never, bytes, got_by, got, left_by, Wrote, Unheard, Plain}

-- a read by the engine's last word
pub got_last : (w : World) (history : List Op) → SoundWorld w (engine history) → (id : ℕ) → got w id ≡ left_by (last_on history id) never
got_last w history s id = go (last_on history id) (read_of w id) (sound-read w history s id)
  where
    go : (l : Last) (a : ReadAnswer) → Reads w a l → got_by a (part_of a w.heap) ≡ left_by l never
    go silent a e = ap (λ (b : ReadAnswer). got_by b (part_of b w.heap)) e
    go (last delete) a e = ap (λ (b : ReadAnswer). got_by b (part_of b w.heap)) e
    go (last (put body)) a e = ap (λ (b : ReadAnswer). got_by b (part_of a w.heap)) e.1 ∙ ap bytes e.2

-- the later word over the earlier
left_over : (a b : Last) → left_by (or_earlier a b) never ≡ left_by a (left_by b never)
left_over silent b = refl
left_over (last (put body)) b = refl
left_over (last delete) b = refl

-- none of 1 to 7 held
accepted-done : (w : World) (batch : List ℕ) → (write_call w batch).answer ≡ accepted [] → decide (write_tests w batch) ≡ Ok tt
unfolding write_call
accepted-done w batch e = go (decide (write_tests w batch)) e
  where
    go : (a : Answer) → (after a (unchanged w) (record { answer = accepted []; world = written w (settled (ops_of (batch_in batch))) })).answer ≡ accepted [] → a ≡ Ok tt
    go (Ok _) e = refl
    go (Err r) e = absurd (refused-not r (ap (λ (g : Given). g.number) e))

-- so its file was added
file-stands : (w : World) (history : List Op) → SoundWorld w (engine history) → (batch : List ℕ) → decide (write_tests w batch) ≡ Ok tt
    → 0 < length (ops_in batch) → ((write_call w batch).world ≡ installed (2 ^ 62) 0 w (ops_in batch)) × Stood (2 ^ 62) 0 w (ops_in batch)
unfolding write_call written installed_all
file-stands w history s batch e some = rw e (go (ops_in batch) refl some)
  where
    go : (os : List Op) → ops_in batch ≡ os → 0 < length os → (written w os ≡ installed (2 ^ 62) 0 w os) × Stood (2 ^ 62) 0 w os
    go [] q h = absurd (omega arith)
    go (o ∷ os) q h = (refl, fitting-stands w (engine history) s (2 ^ 62) 0 (o ∷ os) (fits-write w history s batch o os q (write-accepted w batch e)))

-- LAW: an accepted write on a store of the invariant
pub write-means : (w : World) (history : List Op) → SoundWorld w (engine history) → (batch : List ℕ) → (write_call w batch).answer ≡ accepted [] → Wrote w batch
write-means w history s batch e =
    let ops = ops_of (batch_in batch) in
    let after_write : SoundWorld (write_call w batch).world (engine (history ++ ops_of (batch_in batch)))
    = subst (λ (g : Given). SoundWorld (write_call w batch).world (engine (heard history batch g))) e (sound-write w history s batch) in
    let again = reopen-accepted (write_call w batch).world (engine (history ++ ops_of (batch_in batch))) after_write in
    record {
      stands = file-stands w history s batch (accepted-done w batch e);
      reads = λ id.
          got_last (write_call w batch).world (history ++ ops) after_write id
          ∙ ap (λ (l : Last). left_by l never) (last-append history ops id)
          ∙ left_over (last_on ops id) (last_on history id)
          ∙ ap (left_by (last_on ops id)) (sym (got_last w history s id));
      reopens = ap (λ (a : After). a.answer) again;
      same-table = ap (λ (a : After). a.world.table) again;
      same-records = ap (λ (a : After). records_of a.world) again;
    }

-- LAW: so on any store of the invariant, whatever calls were made
pub lived-write : (l : Life) → Starts l → (calls : List Call) (batch : List ℕ) → (write_call (lived l calls).world batch).answer ≡ accepted [] → Wrote (lived l calls).world batch
lived-write l s calls batch e = write-means (lived l calls).world (lived l calls).history (sound-lived l s calls) batch e

-- LAW: and on every store of demand 3 that began with no file
pub any-write : (w : World) → out_of_range w.settings (length w.heap) w.table ≡ false → Blank w
    → (calls : List Call) (batch : List ℕ) → (write_call (lived (born w) calls).world batch).answer ≡ accepted [] → Wrote (lived (born w) calls).world batch
any-write w range blank = lived-write (born w) (born-starts w range blank)

-- so the engine hears nothing of it
pub hears-nothing : (w : World) (history : List Op) (c : Call) → Unheard c → hears w history c ≡ history
hears-nothing w history (write batch) q = absurd q
hears-nothing w history (rewrite room g mark count) q = refl
hears-nothing w history prune q = refl
hears-nothing w history reopen q = refl
hears-nothing w history (quiet p) q = refl

-- LAW: what is read stays as it was, whether the call is accepted or refused
pub reads-stay : (w : World) (history : List Op) → SoundWorld w (engine history) → (c : Call) → Unheard c → (id : ℕ) → got (called w c).world id ≡ got w id
reads-stay w history s c q id =
    got_last (called w c).world history
    (subst (λ (h : List Op). SoundWorld (called w c).world (engine h)) (hears-nothing w history c q) (sound-called w history c s)) id
    ∙ sym (got_last w history s id)

-- LAW: so on any store of the invariant, whatever calls were made
pub lived-reads-stay : (l : Life) → Starts l → (calls : List Call) (c : Call) → Unheard c → (id : ℕ) → got (called (lived l calls).world c).world id ≡ got (lived l calls).world id
lived-reads-stay l s calls c = reads-stay (lived l calls).world (lived l calls).history (sound-lived l s calls) c

-- LAW: and on every store of demand 3 that began with no file
pub any-reads-stay : (w : World) → out_of_range w.settings (length w.heap) w.table ≡ false → Blank w
    → (calls : List Call) (c : Call) → Unheard c → (id : ℕ) → got (called (lived (born w) calls).world c).world id ≡ got (lived (born w) calls).world id
any-reads-stay w range blank = lived-reads-stay (born w) (born-starts w range blank)

or-unchanged : (w v : World) (a : Answer) → ((after a (unchanged w) (record { answer = accepted []; world = v })).answer.number ≡ 0 → ⊥)
    → (after a (unchanged w) (record { answer = accepted []; world = v })).world ≡ w
or-unchanged w v (Ok _) n = absurd (n refl)
or-unchanged w v (Err r) n = refl

-- LAW: "A refusal changes no state or buffer", on any world
pub refused-unchanged : (w : World) (c : Call) → Plain c → ((called w c).answer.number ≡ 0 → ⊥) → (called w c).world ≡ w
unfolding write_call prune_call
refused-unchanged w (write batch) p n = or-unchanged w (written w (settled (ops_of (batch_in batch)))) (decide (write_tests w batch)) n
refused-unchanged w (rewrite room g mark count) p n = rewrite-refused w room g mark count n
refused-unchanged w prune p n = or-unchanged w (pruned w) (decide (refused1 w gives Limits ∷ [])) n
refused-unchanged w reopen p n = absurd p
refused-unchanged w (quiet q) p n = (undisturbed w q).refused n
