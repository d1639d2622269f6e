-- What a client has looked at, and the rows that it keeps.
use Rattle.std.specs.Prelude.{◌≡◌, ℕ, zero, suc, ◌+◌, ◌<◌, ◌≤◌, ◌==◌, if◌then◌else◌, Bool, false, ◌⊎◌, List, [], ◌∷◌, map, length, slice_index, Option, Some, None}
use mathlib.Core.Option.{some}
use lib.ListN.{get_elem?}
use Rattle.qws_base.specs.Sides.{Sides}
use Rattle.qws_base.specs.Points.{any_holds, point_of, pixel_count}
use Rattle.qws_base.specs.Windows.{owns}
use Rattle.region_table.specs.Numbers.{stamp_at, row_size, row_word, IsTableWord}
use Rattle.region_table.specs.Packing.{unpacked}
use Rattle.region_table.specs.Tables.{row_of, origin_from}
use Rattle.region_table.specs.Layouts.{layout_of_table}
use Rattle.region_table.specs.declared.tables.Row.{Row}
use Rattle.turn_logs.specs.declared.items.Item.{Item}
use Rattle.fb_words.specs.declared.known.Looked.{Looked}
use Rattle.fb_words.specs.declared.known.KeptClip.{KeptClip}
use Rattle.fb_words.specs.declared.known.Mode.{Mode}
use Rattle.fb_words.specs.declared.known.Mode.TheVariants.{Idle, Refused, Reading}
use Rattle.fb_words.specs.declared.known.Client.{Client}
use Rattle.turn_logs.specs.Tables.{table_of, owner_in, revision_in, origin_in, count_in, rect_in, RectHas, IsOnScreen, IsTable}

-- ---- looked words

-- the value that a word was found with
abbrev pub look_of : List Looked → ℕ → Option ℕ
look_of [] i = None
look_of (l ∷ looked) i = if l.word == i then Some l.value else look_of looked i

abbrev pub with_first : Option ℕ → Option (List ℕ) → Option (List ℕ)
with_first (Some v) (Some vs) = Some (v ∷ vs)
with_first (Some v) None = None
with_first None vs = None

-- the values of n words from word i on, where all were looked at
abbrev pub looks_of : List Looked → ℕ → ℕ → Option (List ℕ)
looks_of looked i zero = Some []
looks_of looked i (suc n) = with_first (look_of looked i) (looks_of looked (i + 1) n)

-- ---- a whole row that was looked at

abbrev pub rects_of : List Looked → ℕ → Option ℕ → Option (List ℕ)
rects_of looked s None = None
rects_of looked s (Some n) = looks_of looked (row_word s + 4) n

abbrev pub clip_of : ℕ → Option ℕ → Option ℕ → Option (List ℕ) → Option KeptClip
clip_of s (Some revision) (Some origin) (Some rects) = Some (record { slot = s; revision = revision; origin = origin; rects = rects })
clip_of s (Some revision) (Some origin) None = None
clip_of s (Some revision) None rects = None
clip_of s None origin rects = None

abbrev pub is_value : ℕ → Option ℕ → Bool
is_value v None = false
is_value v (Some n) = n == v

-- the row of the slot, where the looked words spell it whole and the client owns it
abbrev pub spelled : ℕ → ℕ → List Looked → Option KeptClip
spelled number s looked =
    if is_value (number + 1) (look_of looked (row_word s))
    then clip_of s (look_of looked (row_word s + 1)) (look_of looked (row_word s + 2)) (rects_of looked s (look_of looked (row_word s + 3)))
    else None

-- each word of the clip's row was looked at, and by them the client owns it
pub record IsLookedRow (number : ℕ) (looked : List Looked) (clip : KeptClip) : Type 0 where
  pub owner : look_of looked (row_word clip.slot) ≡ Some (number + 1)
  pub revision : look_of looked (row_word clip.slot + 1) ≡ Some clip.revision
  pub origin : look_of looked (row_word clip.slot + 2) ≡ Some clip.origin
  pub count : look_of looked (row_word clip.slot + 3) ≡ Some (length clip.rects)
  pub rects : (j word : ℕ) → get_elem? clip.rects j ≡ some word → look_of looked (row_word clip.slot + 4 + j) ≡ Some word

-- looks of one word after another are those of all; the looked words spell a row exactly where each of its words was looked
-- at, and the client owns it
pub record LookedLaw : Type 0 where
  pub together : (looked : List Looked) (i : ℕ) (values : List ℕ) → ((j value : ℕ) → get_elem? values j ≡ some value → look_of looked (i + j) ≡ Some value) → looks_of looked i (length values) ≡ Some values
  pub row : (number : ℕ) (looked : List Looked) (clip : KeptClip) → IsLookedRow number looked clip → spelled number clip.slot looked ≡ Some clip
  pub back : (number slot : ℕ) (looked : List Looked) (clip : KeptClip) → spelled number slot looked ≡ Some clip → (clip.slot ≡ slot) × IsLookedRow number looked clip

-- the row of the turn's slot
abbrev pub row_seen : ℕ → Mode → Option KeptClip
row_seen number Idle = None
row_seen number Refused = None
row_seen number (Reading stamp None looked log) = None
row_seen number (Reading stamp (Some s) looked log) = spelled number s looked

-- ---- kept clips

-- the latest that was stored for a slot
abbrev pub stored : List KeptClip → ℕ → Option KeptClip
stored [] s = None
stored (clip ∷ clips) s = if clip.slot == s then Some clip else stored clips s

abbrev pub if_slot : ℕ → Option KeptClip → Option KeptClip → Option KeptClip
if_slot s None other = other
if_slot s (Some clip) other = if clip.slot == s then Some clip else other

-- What the client keeps for a slot: the row that its open turn has looked at whole and that it owns, else the latest that
-- an earlier turn stored.
abbrev pub kept : Client → ℕ → Option KeptClip
kept p s = if_slot s (row_seen p.number p.mode) (stored p.clips s)

-- the word isn't of the slot's row
abbrev pub IsOutsideRow : ℕ → ℕ → Type 0
IsOutsideRow slot word = (word < row_word slot) ⊎ (row_word slot + row_size ≤ word)

-- q keeps for each slot what p keeps
abbrev pub KeepsClips : Client → Client → Type 0
KeepsClips p q = (slot : ℕ) → kept q slot ≡ kept p slot

-- the same of each client, place by place
abbrev pub EachKeepsClips : List Client → List Client → Type 0
EachKeepsClips ps qs = (k : ℕ) (p q : Client) → get_elem? ps k ≡ some p → get_elem? qs k ≡ some q → KeepsClips p q

-- the clips after a turn: the row that it looked at is stored
abbrev pub with_row : Option KeptClip → List KeptClip → List KeptClip
with_row None clips = clips
with_row (Some clip) clips = clip ∷ clips

-- ---- what holds of a kept clip

-- it is the row of its slot in a table, which client c owns
pub record IsRowIn (t : List ℕ) (c : ℕ) (clip : KeptClip) : Type 0 where
  pub owner : owner_in t clip.slot ≡ c + 1
  pub origin : origin_in t clip.slot ≡ clip.origin
  pub count : count_in t clip.slot ≡ length clip.rects
  pub rects : (j word : ℕ) → get_elem? clip.rects j ≡ some word → rect_in t clip.slot j ≡ word

-- its rectangles are at most 256, on the screen and disjoint
pub record IsSound (size : Sides) (clip : KeptClip) : Type 0 where
  pub few : length clip.rects ≤ 256
  pub inside : (j word : ℕ) → get_elem? clip.rects j ≡ some word → IsOnScreen size (unpacked word)
  pub apart : (j k v w p : ℕ) → p < pixel_count size → get_elem? clip.rects j ≡ some v → get_elem? clip.rects k ≡ some w → RectHas size v p → RectHas size w p → j ≡ k

-- a kept clip of client c, where t is the last closed table: if its revision is the row's, it is the row
pub record IsClip (size : Sides) (t : List ℕ) (c : ℕ) (clip : KeptClip) : Type 0 where
  pub slot_in : clip.slot < 33
  pub revision : 1 ≤ clip.revision
  pub at_most : clip.revision ≤ revision_in t clip.slot
  pub same : clip.revision ≡ revision_in t clip.slot → IsRowIn t c clip
  pub sound : IsSound size clip

-- ---- what a turn knows of the present table

abbrev pub LooksTrue : List ℕ → List Looked → Type 0
LooksTrue words looked = (k : ℕ) (l : Looked) → get_elem? looked k ≡ some l → IsTableWord l.word × (slice_index words l.word ≡ l.value)

abbrev pub stamp_in : Mode → Option ℕ
stamp_in Idle = None
stamp_in Refused = None
stamp_in (Reading stamp slot looked log) = stamp

abbrev pub slot_in : Mode → Option ℕ
slot_in Idle = None
slot_in Refused = None
slot_in (Reading stamp slot looked log) = slot

abbrev pub log_in : Mode → List Item
log_in Idle = []
log_in Refused = []
log_in (Reading stamp slot looked log) = log

abbrev pub looked_in : Mode → List Looked
looked_in Idle = []
looked_in Refused = []
looked_in (Reading stamp slot looked log) = looked

-- there is a table, the present one, whose words the turn has looked at; what the client keeps is judged by it
pub record Sees (p : Client) : Type 0 where
  pub table : List ℕ
  pub admitted : ℕ
  pub few : admitted ≤ 16
  pub is_table : IsTable p.setting.size admitted (slice_index table stamp_at) table
  pub looks : LooksTrue table (looked_in p.mode)
  pub seen : p.seen ≤ slice_index table stamp_at
  pub clips : (k : ℕ) (clip : KeptClip) → get_elem? p.clips k ≡ some clip → IsClip p.setting.size table p.number clip

-- A client that sees a table keeps for each slot a clip of the slot, which is judged by the table.
abbrev pub KeptLaw : Type 0
KeptLaw = (p : Client) (sees : Sees p) (slot : ℕ) (clip : KeptClip) → kept p slot ≡ Some clip
    → (clip.slot ≡ slot) × IsClip p.setting.size sees.table p.number clip

-- ---- kept clips as rows of a table

-- the row that a clip of client c is
abbrev pub row_of_clip : ℕ → KeptClip → Row
row_of_clip c clip = record { owner = Some c; revision = clip.revision; origin = origin_from clip.origin; rects = map unpacked clip.rects }

-- The looked words of a table are true. A row that they spell is judged by the table, and has its row's revision. A clip with the
-- row's revision is the row of its slot in the table that the words spell, and its rectangles have the slot's pixels.
pub record RowLaw : Type 0 where
  pub true_in : (t : List ℕ) (looked : List Looked) (i v : ℕ) → LooksTrue t looked → look_of looked i ≡ Some v → IsTableWord i × (slice_index t i ≡ v)
  pub judged : (size : Sides) (admitted stamp number : ℕ) (t : List ℕ) (looked : List Looked) (clip : KeptClip) → IsTable size admitted stamp t → LooksTrue t looked → clip.slot < 33 → IsLookedRow number looked clip
      → IsClip size t number clip × (clip.revision ≡ revision_in t clip.slot)
  pub row : (size : Sides) (t : List ℕ) (c : ℕ) (clip : KeptClip) → IsClip size t c clip → clip.revision ≡ revision_in t clip.slot → row_of (table_of t) clip.slot ≡ row_of_clip c clip
  pub pixels : (size : Sides) (admitted stamp : ℕ) (t : List ℕ) (c : ℕ) (clip : KeptClip) → IsTable size admitted stamp t → IsClip size t c clip → clip.revision ≡ revision_in t clip.slot
      → (p : ℕ) → p < pixel_count size → owns (layout_of_table size (table_of t)) clip.slot p ≡ any_holds (map unpacked clip.rects) (point_of size.w p)
