-- Request P5, "Check what the PC tool made": everything wrong with a heap, as a list of lines.
use Rattle.std.specs.Prelude.{◌&&◌, ◌∷◌, ◌++◌, ◌+◌, ◌/◌}
use Rattle.rules.specs.Base.{Bool, not, List, [], map, ℕ, suc, length, take, ltb, eqb, pick, any, keep, each}
use Rattle.faults.specs.Types.{Settings, Entry, Refusal, Limits, TableRoom, Checksum, Overlap, NotRising, CutShort, OtherId, Place, Nowhere, Object, Fault}
use Rattle.numbers.specs.Parts.{front}
use Rattle.disk_location.specs.Locations.{position_of, delete_of}
use Rattle.rules.specs.Refusal.{number_of, ◌gives◌, decide, after}
use Rattle.rules.specs.Settings.{slots_in}
use Rattle.rules.specs.Object.{Stored, bad_checksum, objects_in}
use Rattle.rules.specs.SlotFile.{File, View, empty, damaged, holds, views_in}
use Rattle.rules.specs.Reopen.{file_of, files_in, meets, not_rising, table_of}
use Rattle.rules.specs.Layout.{Table, capacity_of}
use Rattle.rules.specs.Condition1.{out_of_range}
use Rattle.rules.specs.World.{Given, accepted, refused}

-- ---- a slot's own fault
-- "In a slot the first failure of 8 to 13 and 15": what a slot shows by itself, 15 behind 8 to 13
abbrev pub judged : View → View
judged empty = empty
judged (damaged r) = damaged r
judged (holds f) = pick (not_rising f.entries) (damaged NotRising) (holds f)

-- every slot by itself; "Call a slot without a line of 8 to 13 or 15 sound": one that holds a file here
abbrev pub judged_in : Settings → List ℕ → List View
judged_in s heap = map judged (views_in (slots_in s (length heap)) s.slot_bytes heap)

-- ---- the lines
-- a line
abbrev pub line : ℕ → Refusal → Place → Fault
line slot r place = record { slot = slot; refusal = r; place = place }

-- a line where its condition holds
abbrev pub line_if : Bool → Fault → List Fault
line_if condition l = pick condition (l ∷ []) []

-- "one whose header or body passes T"
abbrev pub passes : Stored → Bool
passes o = ltb o.room (20 + o.size)

-- "the objects are walked from 0 by their lengths"; one that passes T "ends the walk and doesn't count as walked": it is the last
unfoldable pub walked : File → List Stored
walked f = keep (λ (o : Stored). not (passes o)) (objects_in f.objects)

-- an "object entry of its id at that position"
abbrev pub entered : Stored → Entry → Bool
entered o e = eqb e.id o.id && not (delete_of e.location) && eqb (position_of e.location) o.position

-- "each giving 10 for a bad checksum and then 17 for no object entry of its id at that position; one whose header or body passes T gives 16 alone"
unfoldable pub object_faults : ℕ → List Entry → Stored → List Fault
object_faults slot entries o =
    pick (passes o) (line slot CutShort (Object o.position) ∷ [])
    (line_if (bad_checksum o) (line slot Checksum (Object o.position))
    ++ line_if (not (any (entered o) entries)) (line slot OtherId (Object o.position)))

-- "17 .. for each object entry at whose position no walked object of its id starts"
unfoldable pub entry_faults : ℕ → List Stored → Entry → List Fault
entry_faults slot objects e =
    line_if (not (delete_of e.location) && not (any (λ (o : Stored). entered o e) objects)) (line slot OtherId (Object (position_of e.location)))

-- a sound slot's lines but the last: object by object, "then .. in entry order"
unfoldable pub file_faults : ℕ → File → List Fault
file_faults slot f = each (object_faults slot f.entries) (objects_in f.objects) ++ each (entry_faults slot (walked f)) f.entries

-- "a sound slot whose range meets an earlier sound one's gets 14 last"
abbrev pub meets_earlier : List File → File → Bool
meets_earlier earlier f = any (λ (g : File). meets g.label f.label) earlier

-- a slot's lines, behind the earlier sound files
unfoldable pub slot_faults : ℕ → List File → View → List Fault
slot_faults slot earlier empty = []
slot_faults slot earlier (damaged r) = line slot r Nowhere ∷ []
slot_faults slot earlier (holds f) = file_faults slot f ++ line_if (meets_earlier earlier f) (line slot Overlap Nowhere)

-- "ascending by slot"
unfoldable pub faults_from : ℕ → List File → List View → List Fault
faults_from slot earlier [] = []
faults_from slot earlier (v ∷ vs) = slot_faults slot earlier v ++ faults_from (suc slot) (earlier ++ file_of v) vs

-- "More distinct ids in sound slots than the table holds is one closing line 6 with slot N."
unfoldable pub closing : ℕ → List View → List Fault
closing room views = line_if (ltb room (length (table_of (files_in views)))) (line (length views) TableRoom Nowhere)

-- "lists everything wrong"
unfoldable pub faults_of : Settings → List ℕ → Table → List Fault
faults_of s heap table = faults_from 0 [] (judged_in s heap) ++ closing (capacity_of table) (judged_in s heap)

-- ---- the call
-- a position's two words: whether there is one, and which
abbrev pub place_words : Place → List ℕ
place_words Nowhere = 0 ∷ 0 ∷ []
place_words (Object position) = 1 ∷ position ∷ []

-- four words to a line: slot, number, whether it has a position, the position
abbrev pub line_words : Fault → List ℕ
line_words x = x.slot ∷ number_of x.refusal ∷ place_words x.place

-- "A listing buffer too small gives the lines that fit, in order"; what is left over stays
unfoldable pub listing : List Fault → List ℕ → List ℕ
listing faults buffer = front (each line_words (take (length buffer / 4) faults)) buffer

-- an answer, and the lent listing after it
pub record Checked : Type 0 where
  pub answer : Given
  pub listing : List ℕ

-- "Like reopening, this call .. go[es] by labels and take[s] no state, also for 1. Refusals: 1 only."; "the full number of faults"
unfoldable pub check_call : Settings → List ℕ → Table → List ℕ → Checked
check_call s heap table buffer =
    after (decide (out_of_range s (length heap) table gives Limits ∷ [])) (λ (r : Refusal). record { answer = refused r; listing = buffer })
    (record { answer = accepted (length (faults_of s heap table) ∷ []); listing = listing (faults_of s heap table) buffer })
