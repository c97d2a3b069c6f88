-- The table as document 01 has it, "two equal-length u64 buffers: ids, locations", and the four calls on it: the definitions that were proved of
-- the code before request P12, with what load tells since request P1.
use Rattle.std.specs.Prelude.{◌&&◌, ◌||◌, ◌∷◌}
use Rattle.rules.specs.Base.{Bool, not, List, [], map, ℕ, length, eqb, pick, padded, within}
use Rattle.rules.specs.declared.Entry.{Entry}
use Rattle.rules.specs.declared.Refusal.{Refusal}
use Rattle.rules.specs.declared.Refusal.TheVariants.{Limits, TableRoom, NotThere, EqualLocation, Location}
use Rattle.rules.specs.Refusal.{◌gives◌, decide, after}
use Rattle.rules.specs.Table.{lookup, load, insert, unmapped, mapped_to, full}
use Rattle.rules.specs.Layout.{form_from, used_in}
use Rattle.rules.specs.TableCalls.{below}
use Rattle.rules.specs.World.{Given, accepted, refused, loaded_given, held_given}

-- "two equal-length u64 buffers: ids, locations"
pub record Buffers : Type 0 where
  pub ids : List ℕ
  pub locations : List ℕ

-- "table entries 1..65,536"
unfoldable pub lengths_in_range : Buffers → Bool
lengths_in_range b = eqb (length b.ids) (length b.locations) && within 1 65536 (length b.ids)

-- "the table's length"
abbrev pub capacity_of : Buffers → ℕ
capacity_of b = length b.ids

-- "a table .. in the form above"
unfoldable pub in_form : Buffers → Bool
in_form b = form_from 0 b.ids b.locations

-- the used entries
unfoldable pub used_entries : Buffers → List Entry
used_entries b = used_in b.ids b.locations

-- buffers of n entries that hold just these
unfoldable pub laid_out : ℕ → List Entry → Buffers
laid_out n es = record {
  ids = padded n (map (λ (e : Entry). e.id) es);
  locations = padded n (map (λ (e : Entry). e.location) es);
}

-- a table call's answer and the buffers after it
pub record TableAfter : Type 0 where
  pub answer : Given
  pub table : Buffers

-- "their 1": lengths out of range, or not in form
abbrev pub not_form : Buffers → Bool
not_form b = not (lengths_in_range b && in_form b)

-- buffers unchanged
abbrev pub same : Buffers → Given → TableAfter
same b g = record { answer = g; table = b }

-- the buffers after a store
unfoldable pub with_stored : Buffers → ℕ → ℕ → Buffers
with_stored b id raw = laid_out (capacity_of b) (insert (used_entries b) (record { id = id; location = raw }))

-- "Load": never written, deleted at a raw location, or at one
unfoldable pub load_call : Buffers → ℕ → TableAfter
load_call b id = same b (after (decide (not_form b gives Limits ∷ [])) refused (loaded_given (load (used_entries b) id)))

-- "store"
unfoldable pub store_call : Buffers → ℕ → ℕ → TableAfter
store_call b id raw =
    after (decide (not_form b gives Limits ∷ eqb raw 0 gives Location ∷ full (used_entries b) (capacity_of b) id gives TableRoom ∷ []))
    (λ (r : Refusal). same b (refused r))
    (record { answer = accepted []; table = with_stored b id raw })

-- "compare-and-store": "A compare that differs stores nothing and gives the current location; on an unmapped id it is 18."
unfoldable pub compare_call : Buffers → ℕ → ℕ → ℕ → TableAfter
compare_call b id old raw =
    let held = lookup (used_entries b) id in
    after (decide (not_form b gives Limits ∷ (eqb old 0 || eqb raw 0) gives Location ∷ unmapped held gives NotThere ∷ []))
    (λ (r : Refusal). same b (refused r))
    (pick (mapped_to held old) (record { answer = accepted []; table = with_stored b id raw }) (same b (held_given held)))

-- "Store-if-greater gives the location held before or nothing, and doesn't store a lower one; equal is 19."
unfoldable pub greater_call : Buffers → ℕ → ℕ → TableAfter
greater_call b id raw =
    let held = lookup (used_entries b) id in
    after (decide (not_form b gives Limits ∷ eqb raw 0 gives Location ∷ mapped_to held raw gives EqualLocation ∷ full (used_entries b) (capacity_of b) id gives TableRoom ∷ []))
    (λ (r : Refusal). same b (refused r))
    (record { answer = held_given held; table = pick (below held raw) (with_stored b id raw) b })
