-- The files of a group, added one after the other.
use Rattle.std.specs.Prelude.{◌≡◌, refl, ◌≤◌, ◌<◌, ◌∷◌, ◌+◌, ◌^◌}
use Rattle.std.proofs.Math.Path.{sym, ap}
use Rattle.std.proofs.Common.{◌∙◌, subst, arith, length-drop}
use Rattle.rules.specs.Base.{false, List, ℕ, length, get_or, drop}
use Rattle.rules.proofs.TurnLaws.{left-next, left-none}
use Rattle.rules.specs.declared.Settings.{Settings}
use Rattle.rules.specs.declared.State.{State}
use Rattle.rules.specs.declared.Claims.{Claims}
use Rattle.rules.specs.Claims.{no_claims}
use Rattle.rules.specs.Settings.{slots_in}
use Rattle.rules.specs.Ops.{Op, file_bytes}
use Rattle.rules.specs.Layout.{table_ids, used_entries}
use Rattle.rules.specs.FileMap.{is_empty, record_at, lowest_empty}
use Rattle.rules.specs.Condition1Laws.{Passed}
use Rattle.rules.specs.Install.{installed, installed_all}
use Rattle.rules.specs.World.{World, world, records_of}
use Rattle.rules.proofs.InstallLaws.{installed-lsn}
use Rattle.rules.proofs.LabelLaws.{lsn-some}
use Rattle.rules.proofs.FileMapLaws.{not-empty}
use Rattle.gc_chains.specs.Chains.{chain_ops, first_in, chains_in, Leads, Linkable, Linked}
use Rattle.gc_install.specs.Placing.{Placing}
use Rattle.gc_decision.specs.Empties.{empties_in, empty_in, Listed, listed_at}
use Rattle.gc_decision.specs.Fitting.{Fitting, span, first_fits, first-room, first-positions, fitting-rest}

-- what adding the files with these words asks for
pub record Puttable (s : Settings) (t : State) (heap table places links words : List ℕ) : Type 0 where
  pub placing : Placing s t heap table places links
  pub fitting : Fitting s.slot_bytes (empty_in s t.files heap) t.next_position (chains_in heap (table_ids table) places links words)
  pub firsts : (j : ℕ) → j < length words → Leads (length (table_ids table)) places 0 (first_in (get_or words j 0))

-- the same before their entries are chained, of the files with these numbers
pub record Chainable (s : Settings) (t : State) (heap table places pieces order : List ℕ) : Type 0 where
  pub limits : Passed s (length heap) table t
  pub linkable : Linkable (table_ids table) places pieces order (length (used_entries table))
  pub puttable : (links words : List ℕ) → Linked (table_ids table) places pieces order links words → Puttable s t heap table places links words

-- a slot that had a file has one
abbrev pub Kept : State → State → Type 0
Kept t r = (k : ℕ) → is_empty (record_at t.files.records k) ≡ false → is_empty (record_at r.files.records k) ≡ false

-- what adding them leaves
pub record PutAll (s : Settings) (generation : ℕ) (t : State) (heap table : List ℕ) (files : List (List Op)) (r : State) (heap' table' : List ℕ) : Type 0 where
  pub worlds : (c : Claims) → world s r c heap' table' ≡ installed_all 0 generation (world s t c heap table) files
  pub limits : Passed s (length heap') table' r
  pub kept : Kept t r

-- one of them was added
pub record Added (s : Settings) (generation : ℕ) (places links : List ℕ) (t : State) (heap table : List ℕ) (q : ℕ) (r : State) (heap' table' : List ℕ) : Type 0 where
  pub worlds : (c : Claims) → world s r c heap' table' ≡ installed 0 generation (world s t c heap table) (chain_ops q heap (table_ids table) places links)
  pub placing : Placing s r heap' table' places links
  pub filed : (p : ℕ) → chain_ops p heap' (table_ids table') places links ≡ chain_ops p heap (table_ids table) places links
  pub slot : ℕ
  pub frees : empties_in s t.files heap ≡ slot ∷ empties_in s r.files heap'
  pub next : r.next_position ≡ t.next_position + span (chain_ops q heap (table_ids table) places links)
  pub same_heap : length heap' ≡ length heap
  pub same_ids : table_ids table' ≡ table_ids table

-- ---- file by file
module _ (s : Settings) (generation : ℕ) (places links words : List ℕ) (t : State) (heap table : List ℕ) where
  -- the files from f on are still to be added
  pub record Put (f : ℕ) (r : State) (heap' table' : List ℕ) : Type 0 where
    pub low : f ≤ length words
    pub placing : Placing s r heap' table' places links
    pub filed : (q : ℕ) → chain_ops q heap' (table_ids table') places links ≡ chain_ops q heap (table_ids table) places links
    pub fitting : Fitting s.slot_bytes (empty_in s r.files heap') r.next_position (chains_in heap (table_ids table) places links (drop f words))
    pub left : (c : Claims) → installed_all 0 generation (world s r c heap' table') (chains_in heap (table_ids table) places links (drop f words))
        ≡ installed_all 0 generation (world s t c heap table) (chains_in heap (table_ids table) places links words)
    pub frees : empties_in s r.files heap' ≡ drop f (empties_in s t.files heap)
    pub kept : Kept t r
    pub same_heap : length heap' ≡ length heap
    pub same_ids : table_ids table' ≡ table_ids table

  -- before the first
  pub put-start : Puttable s t heap table places links words → Put 0 t heap table
  put-start w = record { low = omega arith; placing = w.placing; filed = λ q. refl; fitting = w.fitting; left = λ c. refl; frees = refl; kept = λ k some. some; same_heap = refl; same_ids = refl }

  module _ (f : ℕ) (r : State) (heap' table' : List ℕ) (w : Put f r heap' table') (h : f < length words) (p : ℕ) (is : p ≡ first_in (get_or words f 0)) where
    -- the files behind it
    rest : List (List Op)
    rest = chains_in heap (table_ids table) places links (drop (f + 1) words)

    -- the file with the first entry p comes first
    step : chains_in heap (table_ids table) places links (drop f words) ≡ chain_ops p heap (table_ids table) places links ∷ rest
    unfolding rest
    step = ap (chains_in heap (table_ids table) places links) (left-next words f 0 h) ∙ ap (λ (q : ℕ). chain_ops q heap (table_ids table) places links ∷ rest) (sym is)

    -- all of them fit
    fits : Fitting s.slot_bytes (empty_in s r.files heap') r.next_position (chain_ops p heap (table_ids table) places links ∷ rest)
    fits = subst (Fitting s.slot_bytes (empty_in s r.files heap') r.next_position) step w.fitting

    -- what it asks for
    pub put-asks : let ops = chain_ops p heap' (table_ids table') places links in
        (64 + length (file_bytes ops) ≤ s.slot_bytes) × (0 < empty_in s r.files heap') × (r.next_position + span ops ≤ 2 ^ 62)
    put-asks = rw (w.filed p) (first_fits _ _ _ _ _ fits, first-room _ _ _ _ _ fits, first-positions _ _ _ _ _ fits)

    -- an empty slot is left for it: the one at its own number
    next-free : (f < length (empties_in s t.files heap)) × (empties_in s r.files heap' ≡ get_or (empties_in s t.files heap) f 0 ∷ drop (f + 1) (empties_in s t.files heap))
    next-free =
        let some = first-room _ _ _ _ _ fits in
        let here : f < length (empties_in s t.files heap) = omega (arith, some, ap length w.frees, length-drop f (empties_in s t.files heap)) in
        (here, w.frees ∙ left-next (empties_in s t.files heap) f 0 here)

    -- which is the lowest
    pub put-slot : (frees : List ℕ) → Listed (empties_in s t.files heap) frees → (f < length frees) × (get_or frees f 0 ≡ lowest_empty (slots_in s (length heap')) r.files.records)
    unfolding lowest_empty
    put-slot frees l =
        let n = next-free in
        (omega (arith, n.0, l.room), listed_at (empties_in s t.files heap) frees l f n.0 ∙ sym (ap (λ (ks : List ℕ). get_or ks 0 (slots_in s (length heap'))) n.1))

    -- and what is left after it
    pub put-turn : (q : State) (heap'' table'' : List ℕ) → Added s generation places links r heap' table' p q heap'' table''
        → Put (f + 1) q heap'' table''
    unfolding installed_all rest
    put-turn q heap'' table'' a = record {
      low = omega arith;
      placing = a.placing;
      filed = λ n. a.filed n ∙ w.filed n;
      fitting = fitting-rest _ _ _ _ _ fits (empty_in s q.files heap'') q.next_position (omega (arith, ap length a.frees)) (a.next ∙ ap (λ (ops : List Op). r.next_position + span ops) same);
      left = λ c.
          ap (λ (v : World). installed_all 0 generation v rest) (a.worlds c ∙ ap (installed 0 generation (world s r c heap' table')) same)
          ∙ ap (installed_all 0 generation (world s r c heap' table')) (sym step)
          ∙ w.left c;
      frees = ap (drop 1) (sym a.frees ∙ next-free.1);
      kept = λ k some.
          ap (λ (v : World). is_empty (record_at (records_of v) k)) (a.worlds no_claims)
          ∙ not-empty (record_at (records_of (installed 0 generation (world s r no_claims heap' table') (chain_ops p heap' (table_ids table') places links))) k)
          (installed-lsn 0 generation (world s r no_claims heap' table') (chain_ops p heap' (table_ids table') places links) w.placing.limits.next k
          (lsn-some s.slot_bytes (record_at r.files.records k).label (w.placing.limits.records k (w.kept k some)).bounds));
      same_heap = a.same_heap ∙ w.same_heap;
      same_ids = a.same_ids ∙ w.same_ids;
    }
      where
        same : chain_ops p heap' (table_ids table') places links ≡ chain_ops p heap (table_ids table) places links
        same = w.filed p

  -- none is left
  pub put-end : (f : ℕ) (r : State) (heap' table' : List ℕ) → Put f r heap' table' → length words ≤ f
      → PutAll s generation t heap table (chains_in heap (table_ids table) places links words) r heap' table'
  unfolding installed_all
  put-end f r heap' table' w past = record {
    worlds = λ c. ap (λ (o : List ℕ). installed_all 0 generation (world s r c heap' table') (chains_in heap (table_ids table) places links o)) (sym (left-none words f past)) ∙ w.left c;
    limits = w.placing.limits;
    kept = w.kept;
  }
