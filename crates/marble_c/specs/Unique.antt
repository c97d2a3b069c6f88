-- "Show that any two results it admits are equal", for each call of a host in C: number, out-parameters, words of state and claim record, buffers.
use Rattle.std.specs.Prelude.{◌≡◌, ◌∷◌}
use Rattle.std.proofs.Common.{sym, ap, ◌∙◌}
use Rattle.rules.specs.Base.{List, [], ℕ, length, get_or, set}
use Rattle.rules.specs.declared.Settings.{Settings}
use Rattle.rules.specs.declared.Claims.{Claims}
use Rattle.rules.specs.declared.Record.{Record}
use Rattle.rules.specs.Claims.{no_claims, claim_call, release_call}
use Rattle.rules.specs.Counts.{counts_call}
use Rattle.rules.specs.Prune.{prune_call}
use Rattle.rules.specs.Read.{read_call}
use Rattle.rules.specs.Reopen.{reopen_call}
use Rattle.rules.specs.Sync.{unsynced_call, sync_call}
use Rattle.rules.specs.TableCalls.{TableAfter, load_call, store_call, compare_call, greater_call}
use Rattle.rules.specs.TwoCalls.{room_of, notes_left, nightly_call}
use Rattle.rules.specs.World.{Given, After, world, leaving}
use Rattle.rules.specs.Write.{write_call}
use Rattle.through.specs.Through.{through_call}
use Rattle.faults.specs.Faults.{check_call}
use Rattle.losses.specs.Salvage.{Salvaged, salvage_call}
use Rattle.as_numbers.specs.ClaimWords.{claims-one}
use Rattle.as_numbers.specs.Numbered.{numbered}
use Rattle.as_numbers.specs.Shown.{given, shown, stop_after, shown_table}
use Rattle.as_numbers.specs.StateLaws.{state-one}
use Rattle.as_numbers.specs.StateWords.{state_in}
use Rattle.marble_c.specs.Host.{world_in, plan_shown, shown_after, rewrite_asked}
use Rattle.marble_c.specs.Salvages.{shown_rescue}

-- what a call gave and left: its number, its out-parameters, the words and the buffers
pub record Left : Type 0 where
  pub number : ℕ
  pub values : List ℕ
  pub state : List ℕ
  pub claims : List ℕ
  pub heap : List ℕ
  pub table : List ℕ

-- arrays have the lengths of their types
pub record Sized (l : Left) : Type 0 where
  pub state : length l.state ≡ 1801
  pub claims : length l.claims ≡ 4

-- the same, as the calls' definitions say it
abbrev pub said : Settings → Left → After
said s l = leaving (given l.number l.values) (world_in s l.state l.claims l.heap l.table)

-- what settles this settles every word
left_one : (s : Settings) (a : After) (l m : Left) → Sized l → Sized m → said s l ≡ a → said s m ≡ a → l ≡ m
left_one s a l m p q e f =
    let both = e ∙ sym f in
    let state = state-one l.state m.state p.state q.state (ap (λ (x : After). x.world.state) both) in
    let claims = claims-one l.claims m.claims p.claims q.claims (ap (λ (x : After). x.world.claims) both) in
    λ i. record {
      number = (both i).answer.number;
      values = (both i).answer.values;
      state = state i;
      claims = claims i;
      heap = (both i).world.heap;
      table = (both i).world.table;
    }

-- ---- calls on a store: settings, the words and the buffers before
module _ (s : Settings) (state claims heap table : List ℕ) where
  -- what each contract says
  abbrev pub Reopens : Left → Type 0
  Reopens l = said s l ≡ reopen_call (world_in s state claims heap table)

  abbrev pub ClaimsSlot : ℕ → Left → Type 0
  ClaimsSlot slot l = said s l ≡ claim_call (world_in s state claims heap table) slot

  abbrev pub Releases : ℕ → Left → Type 0
  Releases slot l = said s l ≡ release_call (world_in s state claims heap table) slot

  abbrev pub Prunes : Left → Type 0
  Prunes l = said s l ≡ prune_call (world_in s state claims heap table)

  -- any two are equal
  pub reopen-one : (l m : Left) → Sized l → Sized m → Reopens l → Reopens m → l ≡ m
  reopen-one = left_one s (reopen_call (world_in s state claims heap table))

  pub claim-one : (slot : ℕ) (l m : Left) → Sized l → Sized m → ClaimsSlot slot l → ClaimsSlot slot m → l ≡ m
  claim-one slot = left_one s (claim_call (world_in s state claims heap table) slot)

  pub release-one : (slot : ℕ) (l m : Left) → Sized l → Sized m → Releases slot l → Releases slot m → l ≡ m
  release-one slot = left_one s (release_call (world_in s state claims heap table) slot)

  pub prune-one : (l m : Left) → Sized l → Sized m → Prunes l → Prunes m → l ≡ m
  prune-one = left_one s (prune_call (world_in s state claims heap table))

-- ---- calls that are lent notes too: places and pieces
-- as they are left, by the call's number
abbrev pub NotesLeft : List ℕ → List ℕ → ℕ → List ℕ → List ℕ → Type 0
NotesLeft places pieces r ps qs = (ps ≡ notes_left (numbered r) places) × (qs ≡ notes_left (numbered r) pieces)

-- one number, one list of each
notes-one : (places pieces : List ℕ) (r q : ℕ) (ps qs us vs : List ℕ) → r ≡ q → NotesLeft places pieces r ps qs → NotesLeft places pieces q us vs → (ps ≡ us) × (qs ≡ vs)
notes-one places pieces r q ps qs us vs e a b = (
  a.0 ∙ ap (λ (n : ℕ). notes_left (numbered n) places) e ∙ sym b.0,
  a.1 ∙ ap (λ (n : ℕ). notes_left (numbered n) pieces) e ∙ sym b.1,
)

module _ (s : Settings) (state claims heap table places pieces : List ℕ) where
  -- the words of a plan; what a rewrite was asked, with the ids moved told behind it
  abbrev pub PlansOut : ℕ → List ℕ → List ℕ → List ℕ → Type 0
  PlansOut r words ps qs = (given r words ≡ plan_shown (world_in s state claims heap table) (room_of places pieces)) × NotesLeft places pieces r ps qs

  abbrev pub RewritesOut : List ℕ → List ℕ → Left → List ℕ → List ℕ → Type 0
  RewritesOut asked told l ps qs =
      (said s l ≡ shown_after 1 (rewrite_asked (world_in s state claims heap table) (room_of places pieces) asked))
      × ((told ≡ set asked 3 (get_or told 3 0)) × NotesLeft places pieces l.number ps qs)

  abbrev pub NightlyOut : Left → List ℕ → List ℕ → Type 0
  NightlyOut l ps qs = (said s l ≡ stop_after (nightly_call (world_in s state claims heap table) (room_of places pieces))) × NotesLeft places pieces l.number ps qs

  -- any two are equal
  pub plan-one : (r q : ℕ) (ws vs ps qs us ts : List ℕ) → PlansOut r ws ps qs → PlansOut q vs us ts → (r ≡ q) × (ws ≡ vs) × (ps ≡ us) × (qs ≡ ts)
  plan-one r q ws vs ps qs us ts a b =
      let both = a.0 ∙ sym b.0 in
      let n = ap (λ (g : Given). g.number) both in
      let notes = notes-one places pieces r q ps qs us ts n a.1 b.1 in
      (n, ap (λ (g : Given). g.values) both, notes.0, notes.1)

  -- where the values that are said are those told
  pub rewrite-one : (asked told sold : List ℕ) (l m : Left) (ps qs us ts : List ℕ) → l.values ≡ get_or told 3 0 ∷ [] → m.values ≡ get_or sold 3 0 ∷ [] → Sized l → Sized m
      → RewritesOut asked told l ps qs → RewritesOut asked sold m us ts → (l ≡ m) × (told ≡ sold) × (ps ≡ us) × (qs ≡ ts)
  rewrite-one asked told sold l m ps qs us ts x y p q a b =
      let same = left_one s (shown_after 1 (rewrite_asked (world_in s state claims heap table) (room_of places pieces) asked)) l m p q a.0 b.0 in
      let moved : get_or told 3 0 ≡ get_or sold 3 0 = ap (λ (vs : List ℕ). get_or vs 0 0) (sym x ∙ ap (λ (z : Left). z.values) same ∙ y) in
      let notes = notes-one places pieces l.number m.number ps qs us ts (ap (λ (z : Left). z.number) same) a.1.1 b.1.1 in
      (same, a.1.0 ∙ ap (set asked 3) moved ∙ sym b.1.0, notes.0, notes.1)

  pub nightly-one : (l m : Left) (ps qs us ts : List ℕ) → Sized l → Sized m → NightlyOut l ps qs → NightlyOut m us ts → (l ≡ m) × (ps ≡ us) × (qs ≡ ts)
  nightly-one l m ps qs us ts p q a b =
      let same = left_one s (stop_after (nightly_call (world_in s state claims heap table) (room_of places pieces))) l m p q a.0 b.0 in
      let notes = notes-one places pieces l.number m.number ps qs us ts (ap (λ (z : Left). z.number) same) a.1 b.1 in
      (same, notes.0, notes.1)

-- ---- calls that are not lent the claim record
module _ (s : Settings) (state heap table : List ℕ) where
  -- state words and buffers after
  abbrev pub Writes : List ℕ → ℕ → List ℕ → List ℕ → List ℕ → Type 0
  Writes batch r ws hs ts = (c : Claims) → leaving (given r []) (world s (state_in ws) c hs ts) ≡ write_call (world s (state_in state) c heap table) batch

  pub write-one : (batch : List ℕ) (r q : ℕ) (ws vs hs ks ts us : List ℕ) → length ws ≡ 1801 → length vs ≡ 1801
      → Writes batch r ws hs ts → Writes batch q vs ks us → (r ≡ q) × (ws ≡ vs) × (hs ≡ ks) × (ts ≡ us)
  write-one batch r q ws vs hs ks ts us m n e f =
      let both = e no_claims ∙ sym (f no_claims) in (
        ap (λ (x : After). x.answer.number) both,
        state-one ws vs m n (ap (λ (x : After). x.world.state) both),
        ap (λ (x : After). x.world.heap) both,
        ap (λ (x : After). x.world.table) both,
      )

  -- number and out-parameters
  abbrev pub ReadsOut : ℕ → ℕ → List ℕ → Type 0
  ReadsOut id r values = (c : Claims) → given r values ≡ shown 3 (read_call (world s (state_in state) c heap table) id).answer

  abbrev pub ReadsThroughOut : List ℕ → ℕ → ℕ → List ℕ → Type 0
  ReadsThroughOut batch id r values = (c : Claims) → given r values ≡ shown 4 (through_call (world s (state_in state) c heap table) batch id).answer

  abbrev pub CountsOut : ℕ → List ℕ → Type 0
  CountsOut r values = (c : Claims) → given r values ≡ shown 4 (counts_call (world s (state_in state) c heap table)).answer

  pub read_one : (id r q : ℕ) (vs us : List ℕ) → ReadsOut id r vs → ReadsOut id q us → given r vs ≡ given q us
  read_one id r q vs us e f = e no_claims ∙ sym (f no_claims)

  pub through-one : (batch : List ℕ) (id r q : ℕ) (vs us : List ℕ) → ReadsThroughOut batch id r vs → ReadsThroughOut batch id q us → given r vs ≡ given q us
  through-one batch id r q vs us e f = e no_claims ∙ sym (f no_claims)

  pub counts-one : (r q : ℕ) (vs us : List ℕ) → CountsOut r vs → CountsOut q us → given r vs ≡ given q us
  counts-one r q vs us e f = e no_claims ∙ sym (f no_claims)

-- ---- the calls on a lent list of records: number, out-parameter and the list after
module _ (list : List Record) where
  abbrev pub CountsUnsynced : ℕ → List ℕ → Type 0
  CountsUnsynced r values = given r values ≡ shown 1 (unsynced_call list)

  abbrev pub Syncs : ℕ → List ℕ → List Record → Type 0
  Syncs r values after = (given r values ≡ shown 1 (sync_call list).answer) × (after ≡ (sync_call list).records)

  pub unsynced-one : (r q : ℕ) (vs us : List ℕ) → CountsUnsynced r vs → CountsUnsynced q us → given r vs ≡ given q us
  unsynced-one r q vs us e f = e ∙ sym f

  pub sync-one : (r q : ℕ) (vs us : List ℕ) (after ends : List Record) → Syncs r vs after → Syncs q us ends → (given r vs ≡ given q us) × (after ≡ ends)
  sync-one r q vs us after ends e f = (e.0 ∙ sym f.0, e.1 ∙ sym f.1)

-- ---- check, which is lent no state: number, out-parameter and the lent listing after
module _ (s : Settings) (heap table listing : List ℕ) where
  abbrev pub ChecksOut : ℕ → List ℕ → List ℕ → Type 0
  ChecksOut r values after =
      (given r values ≡ shown 1 (check_call s heap table listing).answer) × (after ≡ (check_call s heap table listing).listing)

  pub check-one : (r q : ℕ) (vs us after ends : List ℕ) → ChecksOut r vs after → ChecksOut q us ends → (given r vs ≡ given q us) × (after ≡ ends)
  check-one r q vs us after ends e f = (e.0 ∙ sym f.0, e.1 ∙ sym f.1)

-- ---- salvage, which is lent no state: number, out-parameter, the lent report and the heap after
module _ (s : Settings) (heap table report : List ℕ) where
  abbrev pub SalvagesOut : Salvaged → Type 0
  SalvagesOut l = l ≡ shown_rescue (salvage_call s heap table report)

  pub salvage-one : (l m : Salvaged) → SalvagesOut l → SalvagesOut m → l ≡ m
  salvage-one l m e f = e ∙ sym f

-- ---- the table's calls: its buffer before
module _ (table : List ℕ) (id : ℕ) where
  abbrev pub Loads : ℕ → List ℕ → Type 0
  Loads r values = given r values ≡ shown 2 (load_call table id).answer

  abbrev pub Stores : ℕ → TableAfter → Type 0
  Stores location t = t ≡ store_call table id location

  abbrev pub Compares : ℕ → ℕ → TableAfter → Type 0
  Compares old location t = t ≡ shown_table 1 (compare_call table id old location)

  abbrev pub StoresGreater : ℕ → TableAfter → Type 0
  StoresGreater location t = t ≡ shown_table 1 (greater_call table id location)

  pub load_one : (r q : ℕ) (vs us : List ℕ) → Loads r vs → Loads q us → given r vs ≡ given q us
  load_one r q vs us e f = e ∙ sym f

  -- number, out-parameter and the buffer after
  pub store-one : (location : ℕ) (t u : TableAfter) → Stores location t → Stores location u → t ≡ u
  store-one location t u e f = e ∙ sym f

  pub compare-one : (old location : ℕ) (t u : TableAfter) → Compares old location t → Compares old location u → t ≡ u
  compare-one old location t u e f = e ∙ sym f

  pub greater-one : (location : ℕ) (t u : TableAfter) → StoresGreater location t → StoresGreater location u → t ≡ u
  greater-one location t u e f = e ∙ sym f
