-- What holds between the files of a group: every object still to be moved stands in a file, and the slot that the next file takes is none.
use Rattle.std.specs.Prelude.{◌≡◌, ◌≤◌, ◌<◌, ◌∷◌, ◌+◌, ◌-◌, ◌*◌, ◌^◌}
use Rattle.std.proofs.Math.Path.{refl, ap}
use Rattle.std.proofs.Common.{sym, ◌∙◌, subst, true≢false, arith, take_all}
use Rattle.rules.specs.Base.{false, List, ℕ, length, get_or}
use Rattle.rules.specs.declared.Settings.{Settings}
use Rattle.rules.specs.declared.State.{State}
use Rattle.rules.specs.Claims.{no_claims}
use Rattle.rules.specs.Settings.{slots_in}
use Rattle.rules.proofs.SettingsLaws.{slot-within}
use Rattle.rules.specs.Ops.{Op, objects_of, file_bytes}
use Rattle.rules.specs.Label.{label_bytes}
use Rattle.rules.specs.Layout.{Table, table_ids, used_entries}
use Rattle.rules.proofs.LayoutLaws.{ids-count}
use Rattle.rules.specs.FileMap.{is_empty, record_at, empty_slots, lowest_empty}
use Rattle.rules.specs.FileMapLaws.{Lowest}
use Rattle.rules.proofs.FileMapLaws.{lowest-empty}
use Rattle.rules.specs.Condition1Laws.{Passed}
use Rattle.rules.specs.Stores.{Store, made, file_stores}
use Rattle.rules.specs.Install.{new_label, new_lsn, installed, stores_for}
use Rattle.rules.specs.World.{World, world}
use Rattle.stores.specs.Runs.{Made}
use Rattle.limits.specs.Settled.{passed-formed}
use Rattle.install.specs.Standing.{Addable}
use Rattle.gc_files.specs.Places.{Whole, AllStand, InSlot}
use Rattle.gc_chains.specs.Chains.{chain_ops, Leads, Chained}
use Rattle.gc_chains.specs.ChainLaws.{chain-few}
use Rattle.gc_writer.specs.Elsewhere.{Elsewhere, Apart, file-elsewhere, all-stand-elsewhere, chain-elsewhere, slots-off, slots-elsewhere}
use Rattle.gc_writer.specs.Walk.{Walking}
use Rattle.gc_writer.specs.Writing.{Writing}
use Rattle.gc_install.specs.IdLaws.{ids_in, There, stored-fits}
use Rattle.gc_install.specs.ChainedLaws.{chain-there, chain-fit}
use Rattle.gc_install.specs.Rewriting.{Rewritten, passed-installed}

-- refusal 1 does not hold; places are of used entries, and each object that is to be moved stands, its bytes its own, in a slot that has a file
pub record Placing (s : Settings) (t : State) (heap : List ℕ) (table : Table) (places links : List ℕ) : Type 0 where
  pub limits : Passed s (length heap) table t
  pub wide : length (table_ids table) ≤ length places
  pub linked : length (table_ids table) ≤ length links
  pub chained : Chained (length (table_ids table)) places links
  pub used : (i : ℕ) → 0 < get_or places i 0 → i < length (used_entries table)
  pub stand : AllStand heap (table_ids table) places
  pub kept : (i : ℕ) → 1 < get_or places i 0 → Whole heap (get_or places i 0)
      × ((k : ℕ) × (is_empty (record_at t.files.records k) ≡ false) × InSlot s.slot_bytes heap k (get_or places i 0))

-- the sizes of a piece ask for no more
pub placing-walking : (s : Settings) (t : State) (heap : List ℕ) (table : Table) (places links : List ℕ) → Placing s t heap table places links → Walking heap (table_ids table) places links
placing-walking s t heap table places links p = record { wide = p.wide; linked = p.linked; standing = λ i h. (p.kept i h).0; chained = p.chained }

-- 4, 5 and 7 do not refuse the file of this piece
pub record Fits (s : Settings) (t : State) (heap : List ℕ) (ops : List Op) (generation : ℕ) : Type 0 where
  pub young : generation ≤ 255
  pub room : 64 + length (file_bytes ops) ≤ s.slot_bytes
  pub free : 0 < length (empty_slots (slots_in s (length heap)) t.files.records)
  pub last : t.next_position + (length (objects_of ops) + 1) ≤ 2 ^ 62

-- what is left after it was added
pub record Left (s : Settings) (t : State) (heap : List ℕ) (table : Table) (places links : List ℕ) (ops : List Op) (r : State) (heap' : List ℕ) (table' : Table) : Type 0 where
  pub placing : Placing s r heap' table' places links
  pub same : table_ids table' ≡ table_ids table
  pub filed : (q : ℕ) → chain_ops q heap' (table_ids table') places links ≡ chain_ops q heap (table_ids table) places links
  pub frees : empty_slots (slots_in s (length heap)) t.files.records ≡ lowest_empty (slots_in s (length heap)) t.files.records ∷ empty_slots (slots_in s (length heap')) r.files.records
  pub next : r.next_position ≡ t.next_position + (length (objects_of ops) + 1)

module _ (s : Settings) (t : State) (heap : List ℕ) (table : Table) (places links : List ℕ) (p : Placing s t heap table places links) (first generation : ℕ)
    (f : Fits s t heap (chain_ops first heap (table_ids table) places links) generation) where
  -- the slot that it takes
  lowest : Lowest (slots_in s (length heap)) t.files.records (lowest_empty (slots_in s (length heap)) t.files.records)
  lowest = lowest-empty (slots_in s (length heap)) t.files.records f.free

  -- no file stands in it
  other : (k : ℕ) → is_empty (record_at t.files.records k) ≡ false → k ≡ lowest_empty (slots_in s (length heap)) t.files.records → ⊥
  other k e q = true≢false (sym lowest.free ∙ ap (λ (j : ℕ). is_empty (record_at t.files.records j)) (sym q) ∙ e)

  -- so no object that is moved lies in it
  apart : Apart (lowest_empty (slots_in s (length heap)) t.files.records * s.slot_bytes) s.slot_bytes heap places
  apart i h =
      let w = p.kept i h in
      let slot = lowest_empty (slots_in s (length heap)) t.files.records in
      (w.0, slots-off s.slot_bytes heap w.1.0 slot (get_or places i 0) (other w.1.0 w.1.1) w.1.2)

  -- each operation is on an id of the table
  there : There (ids_in (used_entries table)) (chain_ops first heap (table_ids table) places links)
  there = chain-there first heap table places links p.used

  -- the file may be written there
  module _ (slot count total : ℕ) (is : slot ≡ lowest_empty (slots_in s (length heap)) t.files.records)
      (entries : count ≡ length (chain_ops first heap (table_ids table) places links)) (objects : total ≡ length (objects_of (chain_ops first heap (table_ids table) places links))) where
    pub piece-writing : Leads (length (table_ids table)) places 0 first → Writing (slot * s.slot_bytes) s.slot_bytes heap (table_ids table) places links first count total
    piece-writing leads = record {
      wide = p.wide;
      linked = p.linked;
      chained = p.chained;
      apart = rw is apart;
      stand = p.stand;
      leads = leads;
      entries = entries;
      objects = objects;
      inside = slot-within s (length heap) slot p.limits.limits.heap (omega (arith, is, lowest.place));
      room = f.room;
      small = omega (arith, p.limits.limits.settings.slot-high);
    }

    -- and added
    pub piece-addable : ((i : ℕ) → i < length (table_ids table) → get_or (table_ids table) i 0 < 2 ^ 64) → Addable 0 (chain_ops first heap (table_ids table) places links) s t heap table slot count total
    piece-addable fit = record {
      limits = p.limits;
      plain = omega arith;
      ids = chain-fit first heap (table_ids table) places links fit;
      entries = entries;
      objects = objects;
      fits = f.room;
      lowest = is;
      free = omega (arith, is, lowest.place);
      room = λ lsn. stored-fits table (passed-formed s (length heap) table t p.limits) lsn (chain_ops first heap (table_ids table) places links) there;
      last = omega (arith, objects, f.last);
    }

  -- what holds once it was added
  module _ (r : State) (heap' : List ℕ) (table' : Table)
      (e : world s r no_claims heap' table' ≡ installed 0 generation (world s t no_claims heap table) (chain_ops first heap (table_ids table) places links)) where
    after : Rewritten (world s t no_claims heap table) (chain_ops first heap (table_ids table) places links) (world s r no_claims heap' table')
    after = subst (Rewritten (world s t no_claims heap table) (chain_ops first heap (table_ids table) places links)) (sym e)
        (passed-installed generation (world s t no_claims heap table) (chain_ops first heap (table_ids table) places links) (record {
          passed = p.limits;
          young = f.young;
          fits = f.room;
          free = f.free;
          last = f.last;
          there = there;
          few = omega (arith, chain-few first 1 heap (table_ids table) places links, ids-count table);
        }))

    -- all else stands
    elsewhere : Elsewhere (lowest_empty (slots_in s (length heap)) t.files.records * s.slot_bytes) s.slot_bytes heap heap'
    unfolding installed stores_for
    elsewhere =
        let ops = chain_ops first heap (table_ids table) places links in
        let new = new_label (new_lsn 0 (world s t no_claims heap table)) generation ops in
        let start = lowest_empty (slots_in s (length heap)) t.files.records * s.slot_bytes in
        let run = file_stores start (label_bytes new) (file_bytes ops) in
        let whole : Made (length run) run heap heap' (length run - length run) =
        record { heap = ap (λ (w : World). w.heap) e ∙ ap (λ (ss : List Store). made ss heap) (sym (take_all (length run) run (omega arith))); rest = refl } in
        file-elsewhere start s.slot_bytes new (file_bytes ops) f.room whole

    -- LAW: the same holds again, and the other files' operations are as they were
    pub piece-left : Left s t heap table places links (chain_ops first heap (table_ids table) places links) r heap' table'
    piece-left =
        let same = after.ids in
        record {
          placing = record {
            limits = after.passed;
            wide = rw same p.wide;
            linked = rw same p.linked;
            chained = rw same p.chained;
            used = λ i h. omega (arith, after.used, p.used i h);
            stand = rw same (all-stand-elsewhere elsewhere (table_ids table) places apart p.stand);
            kept = λ i h.
                let w = p.kept i h in
                let slot = lowest_empty (slots_in s (length heap)) t.files.records in
                let v = slots-elsewhere s.slot_bytes slot elsewhere w.1.0 (get_or places i 0) (other w.1.0 w.1.1) w.0 w.1.2 in
                (v.0, (w.1.0, after.files w.1.0 w.1.1, v.1));
          };
          same = same;
          filed = λ q. ap (λ (xs : List ℕ). chain_ops q heap' xs places links) same ∙ chain-elsewhere elsewhere q (table_ids table) places links apart;
          frees = after.empty;
          next = after.next;
        }
