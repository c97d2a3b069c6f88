-- "Claim, release. 21 for a slot out of range, an empty slot, a claimed one (claim) or an unclaimed one (release)."; "a claim is set and cleared in place, slot
-- by slot; a reopening not refused with 1 starts one without claims".
use Rattle.std.specs.Prelude.{◌≡◌, refl, ◌<◌, ◌||◌, ◌∷◌, ◌+◌, ◌^◌, Err, Ok}
use Rattle.std.proofs.Common.{ap, ◌∙◌, arith, leb-false}
use Rattle.std.proofs.lemmas.Bool.{lt-leb, not-false}
use Rattle.rules.specs.Base.{Bool, true, false, not, List, [], ℕ, length, leb, ltb, pick}
use Rattle.rules.proofs.BaseLaws.{or-false, or-clear}
use Rattle.theory.specs.Types.{Refusal, Answer, Limits, Claim, stopped_with}
use Rattle.rules.specs.Refusal.{Test, ◌gives◌, decide, after, NoneHolds}
use Rattle.rules.proofs.RefusalLaws.{decide-none, decide-first, decide-next, clear-when}
use Rattle.rules.specs.FileMap.{is_empty, record_at}
use Rattle.rules.specs.Condition1.{refused1, out_of_range}
use Rattle.rules.proofs.Condition1Laws.{passed}
use Rattle.rules.specs.Claims.{no_claims, is_claimed, claim_set, claim_cleared, with_claims, not_a_file, claim_call, release_call}
use Rattle.rules.proofs.ClaimLaws.{claimed-set, claimed-set-other, claimed-cleared, claimed-cleared-other}
use Rattle.rules.specs.Ops.{Op, settled}
use Rattle.rules.specs.Batch.{batch_in, ops_of}
use Rattle.rules.specs.Install.{installed, installed_all}
use Rattle.rules.specs.Write.{new_files, written, write_tests, write_call}
use Rattle.rules.specs.Prune.{pruned, prune_call}
use Rattle.rules.specs.Maintenance.{files_of, found, Stop, going, stopped, Course, group, start_group, group_tests, rewrite_group, onward, groups_from, course_of, ended, maintain_call}
use Rattle.rules.specs.TwoCalls.{refused_noting, mark_of, count_of, rewrite_tests, generation_rewritten, rewrite_of, rewrite_answered, rewrite_call, job_step, job_from, job_of, job_ended, nightly_call}
use Rattle.rules.specs.Read.{read_call}
use Rattle.rules.specs.Counts.{counts_call}
use Rattle.rules.specs.Reopen.{reopen_tests, given_up, opened, reopen_call}
use Rattle.rules.specs.SlotFile.{View, views_in}
use Rattle.rules.specs.World.{World, records_of, slots_of, maintain_given, accepted, After, unchanged, leaving}
use Rattle.pinned.specs.Answered.{answered}

-- a file below N, claimed or not
pub record FileAt (w : World) (slot : ℕ) (claimed : Bool) : Type 0 where
  pub below : slot < slots_of w
  pub file : is_empty (record_at (records_of w) slot) ≡ false
  pub claim : is_claimed w.claims slot ≡ claimed

-- all is as it was but for the claim of one slot
pub record OnlyClaim (w : World) (slot : ℕ) (claimed : Bool) (v : World) : Type 0 where
  pub here : is_claimed v.claims slot ≡ claimed
  pub others : (t : ℕ) → (t ≡ slot → ⊥) → is_claimed v.claims t ≡ is_claimed w.claims t
  pub settings : v.settings ≡ w.settings
  pub state : v.state ≡ w.state
  pub heap : v.heap ≡ w.heap
  pub table : v.table ≡ w.table

not-claimable : (w : World) (slot : ℕ) (c : Bool) → (not_a_file w slot || c) ≡ false → (slot < slots_of w) × (is_empty (record_at (records_of w) slot) ≡ false) × (c ≡ false)
not-claimable w slot c e =
    let a = or-false (not_a_file w slot) c e in
    let b = or-false (leb (slots_of w) slot) (is_empty (record_at (records_of w) slot)) a.0 in
    (leb-false (slots_of w) slot b.0, b.1, a.1)

claimable : (w : World) (slot : ℕ) (c : Bool) → slot < slots_of w → is_empty (record_at (records_of w) slot) ≡ false → c ≡ false → (not_a_file w slot || c) ≡ false
claimable w slot c l f e = or-clear (not_a_file w slot) c (or-clear (leb (slots_of w) slot) (is_empty (record_at (records_of w) slot)) (lt-leb (slots_of w) slot l) f) e

-- a slot below N is one of the 256
in_words : (w : World) (slot : ℕ) → refused1 w ≡ false → slot < slots_of w → slot < 256
in_words w slot f l = let p = passed w.settings (length w.heap) w.table w.state f in omega (arith, p.limits.heap.most)

-- ---- claim
claim-known : (w : World) (slot : ℕ) → (claim_call w slot).answer ≡ accepted [] → NoneHolds (refused1 w gives Limits ∷ (not_a_file w slot || is_claimed w.claims slot) gives Claim ∷ [])
unfolding claim_call
claim-known w slot e =
    let ts = refused1 w gives Limits ∷ (not_a_file w slot || is_claimed w.claims slot) gives Claim ∷ [] in
    clear-when ts (answered (decide ts) w (record { answer = accepted []; world = with_claims w (claim_set w.claims slot) }) e)

claim-done : (w : World) (slot : ℕ) → refused1 w ≡ false → (not_a_file w slot || is_claimed w.claims slot) ≡ false
    → claim_call w slot ≡ record { answer = accepted []; world = with_claims w (claim_set w.claims slot) }
unfolding claim_call
claim-done w slot f e = rw (decide-next (refused1 w) Limits _ f, decide-next (not_a_file w slot || is_claimed w.claims slot) Claim [] e, decide-none)

-- LAW: a claim is accepted exactly for an unclaimed file below N
pub claim-exactly : (w : World) (slot : ℕ) → refused1 w ≡ false
    → ((claim_call w slot).answer ≡ accepted [] → FileAt w slot false) × (FileAt w slot false → (claim_call w slot).answer ≡ accepted [])
unfolding NoneHolds
claim-exactly w slot f = (
  λ e. let n = not-claimable w slot (is_claimed w.claims slot) (claim-known w slot e).1.0 in record { below = n.0; file = n.1; claim = n.2 },
  λ at. ap (λ (a : After). a.answer) (claim-done w slot f (claimable w slot (is_claimed w.claims slot) at.below at.file at.claim)),
)

-- LAW: then the slot is claimed, and nothing else changes
pub claim-sets : (w : World) (slot : ℕ) → refused1 w ≡ false → FileAt w slot false → OnlyClaim w slot true (claim_call w slot).world
claim-sets w slot f at =
    let l = in_words w slot f at.below in
    rw (claim-done w slot f (claimable w slot (is_claimed w.claims slot) at.below at.file at.claim))
    (record { here = claimed-set w.claims slot l; others = λ t d. claimed-set-other w.claims slot t l d; settings = refl; state = refl; heap = refl; table = refl })

-- LAW: else it is 1 or 21, and nothing changes
pub claim-refused : (w : World) (slot : ℕ) → refused1 w ≡ false → (FileAt w slot false → ⊥) → claim_call w slot ≡ unchanged w Claim
unfolding claim_call
claim-refused w slot f not_at = go (not_a_file w slot || is_claimed w.claims slot) refl
  where
    go : (b : Bool) → (not_a_file w slot || is_claimed w.claims slot) ≡ b
        → after (decide (refused1 w gives Limits ∷ (not_a_file w slot || is_claimed w.claims slot) gives Claim ∷ [])) (unchanged w) (record { answer = accepted []; world = with_claims w (claim_set w.claims slot) })
        ≡ unchanged w Claim
    go true e = rw (decide-next (refused1 w) Limits _ f, decide-first (not_a_file w slot || is_claimed w.claims slot) Claim [] e)
    go false e = let n = not-claimable w slot (is_claimed w.claims slot) e in absurd (not_at (record { below = n.0; file = n.1; claim = n.2 }))

-- ---- release
release-known : (w : World) (slot : ℕ) → (release_call w slot).answer ≡ accepted [] → NoneHolds (refused1 w gives Limits ∷ (not_a_file w slot || not (is_claimed w.claims slot)) gives Claim ∷ [])
unfolding release_call
release-known w slot e =
    let ts = refused1 w gives Limits ∷ (not_a_file w slot || not (is_claimed w.claims slot)) gives Claim ∷ [] in
    clear-when ts (answered (decide ts) w (record { answer = accepted []; world = with_claims w (claim_cleared w.claims slot) }) e)

release-done : (w : World) (slot : ℕ) → refused1 w ≡ false → (not_a_file w slot || not (is_claimed w.claims slot)) ≡ false
    → release_call w slot ≡ record { answer = accepted []; world = with_claims w (claim_cleared w.claims slot) }
unfolding release_call
release-done w slot f e = rw (decide-next (refused1 w) Limits _ f, decide-next (not_a_file w slot || not (is_claimed w.claims slot)) Claim [] e, decide-none)

-- LAW: a release is accepted exactly for a claimed file below N
pub release-exactly : (w : World) (slot : ℕ) → refused1 w ≡ false
    → ((release_call w slot).answer ≡ accepted [] → FileAt w slot true) × (FileAt w slot true → (release_call w slot).answer ≡ accepted [])
unfolding NoneHolds
release-exactly w slot f = (
  λ e.
      let n = not-claimable w slot (not (is_claimed w.claims slot)) (release-known w slot e).1.0 in
      record { below = n.0; file = n.1; claim = not-false (is_claimed w.claims slot) n.2 },
  λ at. ap (λ (a : After). a.answer) (release-done w slot f (claimable w slot (not (is_claimed w.claims slot)) at.below at.file (ap not at.claim))),
)

-- LAW: then the slot is not claimed, and nothing else changes
pub release-clears : (w : World) (slot : ℕ) → refused1 w ≡ false → FileAt w slot true → OnlyClaim w slot false (release_call w slot).world
release-clears w slot f at =
    let l = in_words w slot f at.below in
    rw (release-done w slot f (claimable w slot (not (is_claimed w.claims slot)) at.below at.file (ap not at.claim)))
    (record { here = claimed-cleared w.claims slot l; others = λ t d. claimed-cleared-other w.claims slot t l d; settings = refl; state = refl; heap = refl; table = refl })

-- LAW: else it is 1 or 21, and nothing changes
pub release-refused : (w : World) (slot : ℕ) → refused1 w ≡ false → (FileAt w slot true → ⊥) → release_call w slot ≡ unchanged w Claim
unfolding release_call
release-refused w slot f not_at = go (not_a_file w slot || not (is_claimed w.claims slot)) refl
  where
    go : (b : Bool) → (not_a_file w slot || not (is_claimed w.claims slot)) ≡ b
        → after (decide (refused1 w gives Limits ∷ (not_a_file w slot || not (is_claimed w.claims slot)) gives Claim ∷ [])) (unchanged w) (record { answer = accepted []; world = with_claims w (claim_cleared w.claims slot) })
        ≡ unchanged w Claim
    go true e = rw (decide-next (refused1 w) Limits _ f, decide-first (not_a_file w slot || not (is_claimed w.claims slot)) Claim [] e)
    go false e =
        let n = not-claimable w slot (not (is_claimed w.claims slot)) e in
        absurd (not_at (record { below = n.0; file = n.1; claim = not-false (is_claimed w.claims slot) n.2 }))

-- LAW: 1, and nothing changes
pub claim-limits : (w : World) (slot : ℕ) → refused1 w ≡ true → (claim_call w slot ≡ unchanged w Limits) × (release_call w slot ≡ unchanged w Limits)
unfolding claim_call release_call
claim-limits w slot f = (rw (decide-first (refused1 w) Limits _ f), rw (decide-first (refused1 w) Limits _ f))

-- ---- no other call changes a claim, but a reopening that is not refused with 1
installed-claims : (bit g : ℕ) (w : World) (files : List (List Op)) → (installed_all bit g w files).claims ≡ w.claims
unfolding installed_all installed
installed-claims bit g w [] = refl
installed-claims bit g w (f ∷ fs) = installed-claims bit g (installed bit g w f) fs

-- LAW: a write leaves every claim
pub write-claims : (w : World) (bytes : List ℕ) → (write_call w bytes).world.claims ≡ w.claims
unfolding write_call written
write-claims w bytes = go (decide (write_tests w bytes))
  where
    go : (a : Answer) → (after a (unchanged w) (record { answer = accepted []; world = installed_all (2 ^ 62) 0 w (new_files (settled (ops_of (batch_in bytes)))) })).world.claims ≡ w.claims
    go (Err r) = refl
    go (Ok _) = installed-claims (2 ^ 62) 0 w (new_files (settled (ops_of (batch_in bytes))))

-- LAW: a prune leaves every claim
pub prune-claims : (w : World) → (prune_call w).world.claims ≡ w.claims
unfolding prune_call pruned
prune-claims w = go (decide (refused1 w gives Limits ∷ []))
  where
    go : (a : Answer) → (after a (unchanged w) (record { answer = accepted []; world = pruned w })).world.claims ≡ w.claims
    go (Err r) = refl
    go (Ok _) = refl

group-claims : (g : ℕ) (slots : List ℕ) (moved : ℕ) (w : World) → (rewrite_group g slots moved w).world.claims ≡ w.claims
unfolding rewrite_group
group-claims g slots moved w = go (decide (group_tests w slots files))
  where
    files : List (List Op)
    files = files_of w.settings.target_file_size (found w slots)

    go : (a : Answer)
        → (after {A = Course} a (λ (r : Refusal). record { stop = stopped r g; moved = moved; world = w }) (record { stop = going; moved = moved + length (found w slots); world = installed_all 0 g w files })).world.claims
        ≡ w.claims
    go (Err r) = refl
    go (Ok _) = installed-claims 0 g w files

onward-claims : (stop : Stop) (g : ℕ) (slots : List ℕ) (c : Course) → (onward stop g slots c).world.claims ≡ c.world.claims
onward-claims (stopped r h) g slots c = refl
onward-claims going g slots c = go (ltb (length slots) c.world.settings.min_compaction_files)
  where
    go : (b : Bool) → (pick b c (rewrite_group g slots c.moved c.world)).world.claims ≡ c.world.claims
    go true = refl
    go false = group-claims g slots c.moved c.world

groups-claims : (gs : List ℕ) (start : World) (c : Course) → (groups_from gs start c).world.claims ≡ c.world.claims
unfolding groups_from
groups-claims [] start c = refl
groups-claims (g ∷ gs) start c = groups-claims gs start (onward c.stop g (start_group start g) c) ∙ onward-claims c.stop g (start_group start g) c

ended-claims : (stop : Stop) (c : Course) → (ended stop c).world.claims ≡ c.world.claims
unfolding pruned
ended-claims going c = refl
ended-claims (stopped r g) c = refl

-- LAW: maintenance leaves every claim
pub maintain-claims : (w : World) → (maintain_call w).world.claims ≡ w.claims
unfolding maintain_call course_of
maintain-claims w = go (decide (refused1 w gives Limits ∷ []))
  where
    start : Course
    start = record { stop = going; moved = 0; world = w }

    end : Course
    end = groups_from (1 ∷ 2 ∷ 3 ∷ []) w start

    go : (a : Answer) → (after {A = After} a (λ (r : Refusal). record { answer = maintain_given (Err (stopped_with r 0 0)); world = w }) (ended end.stop end)).world.claims ≡ w.claims
    go (Err r) = refl
    go (Ok _) = ended-claims end.stop end ∙ groups-claims (1 ∷ 2 ∷ 3 ∷ []) w start

-- of one generation
rewritten-claims : (w : World) (room g mark count : ℕ) → (rewrite_of w room g mark count).world.claims ≡ w.claims
unfolding rewrite_of generation_rewritten
rewritten-claims w room g mark count = go (decide (rewrite_tests w room g))
  where
    start : Course
    start = record { stop = going; moved = 0; world = w }

    go : (a : Answer) → (after {A = Course} a (λ (r : Refusal). record { stop = stopped r g; moved = 0; world = w }) (onward going g (group w g mark count) start)).world.claims ≡ w.claims
    go (Err r) = refl
    go (Ok _) = onward-claims going g (group w g mark count) start

-- LAW: a rewrite leaves every claim
pub rewrite-claims : (w : World) (room g mark count : ℕ) → (rewrite_call w room g mark count).world.claims ≡ w.claims
rewrite-claims w room g mark count = go (rewrite_of w room g mark count).stop ∙ rewritten-claims w room g mark count
  where
    c : Course
    c = rewrite_of w room g mark count

    go : (stop : Stop) → (rewrite_answered stop c.moved c.world).world.claims ≡ c.world.claims
    go going = refl
    go (stopped r h) = refl

job-claims : (gs : List ℕ) (room mark count : ℕ) (c : Course) → (job_from gs room mark count c).world.claims ≡ c.world.claims
unfolding job_from
job-claims [] room mark count c = refl
job-claims (g ∷ gs) room mark count c = job-claims gs room mark count (job_step c.stop room g mark count c) ∙ go c.stop
  where
    go : (stop : Stop) → (job_step stop room g mark count c).world.claims ≡ c.world.claims
    go going = rewritten-claims c.world room g mark count
    go (stopped r h) = refl

-- LAW: and so does the nightly job
pub nightly-claims : (w : World) (room : ℕ) → (nightly_call w room).world.claims ≡ w.claims
unfolding nightly_call job_of pruned
nightly-claims w room = go (decide (refused_noting w room gives Limits ∷ []))
  where
    start : Course
    start = record { stop = going; moved = 0; world = w }

    end : Course
    end = job_from (1 ∷ 2 ∷ 3 ∷ []) room (mark_of w) (count_of w) start

    last : (a : Answer) → (after {A = After} a (λ (r : Refusal). leaving (maintain_given (Err (stopped_with r 0 end.moved))) end.world) (leaving (maintain_given (Ok end.moved)) (pruned end.world))).world.claims ≡ end.world.claims
    last (Err r) = refl
    last (Ok _) = refl

    by : (stop : Stop) → (job_ended stop end).world.claims ≡ end.world.claims
    by going = last (decide (refused1 end.world gives Limits ∷ []))
    by (stopped r g) = refl

    go : (a : Answer) → (after {A = After} a (λ (r : Refusal). leaving (maintain_given (Err (stopped_with r 0 0))) w) (job_ended end.stop end)).world.claims ≡ w.claims
    go (Err r) = refl
    go (Ok _) = by end.stop ∙ job-claims (1 ∷ 2 ∷ 3 ∷ []) room (mark_of w) (count_of w) start

-- LAW: a read and the counts leave all
pub reads-claims : (w : World) (id : ℕ) → ((read_call w id).world ≡ w) × ((counts_call w).world ≡ w)
unfolding read_call counts_call
reads-claims w id = (refl, refl)

-- LAW: a reopening that is not refused with 1 leaves none
pub reopen-claims : (w : World) → out_of_range w.settings (length w.heap) w.table ≡ false → (reopen_call w).world.claims ≡ no_claims
unfolding reopen_call given_up opened
reopen-claims w f = rw (decide-next (out_of_range w.settings (length w.heap) w.table) Limits [] f, decide-none) (go (decide (reopen_tests w views)))
  where
    views : List View
    views = views_in (slots_of w) w.settings.slot_bytes w.heap

    go : (a : Answer) → (after a (given_up w) (opened w views)).world.claims ≡ no_claims
    go (Err r) = refl
    go (Ok _) = refl
