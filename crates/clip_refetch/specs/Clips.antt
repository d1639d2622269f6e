-- A painter's clip, and what a refresh makes of it.
use Rattle.std.specs.Prelude.{◌≡◌, ℕ, ◌+◌, ◌<◌, ◌≤◌, ◌⊎◌, true, List, [], map, length, All, Some}
use mathlib.Core.Option.{some}
use lib.ListN.{get_elem?}
use Rattle.qws_base.specs.Points.{any_holds, point_of, pixel_count, origin_zero, IsPlaced}
use Rattle.qws_base.specs.RectPixels.{AreDisjoint}
use Rattle.qws_base.specs.Windows.{owns}
use Rattle.qws_base.specs.declared.points.Point.{Point}
use Rattle.qws_base.specs.declared.points.Rect.{Rect}
use Rattle.region_table.specs.Numbers.{row_word, pixel_word}
use Rattle.region_table.specs.Packing.{unpacked}
use Rattle.region_table.specs.Tables.{origin_from, row_of}
use Rattle.region_table.specs.Layouts.{layout_of_table}
use Rattle.fb_words.specs.declared.known.KeptClip.{KeptClip}
use Rattle.fb_words.specs.declared.known.Looked.{Looked}
use Rattle.fb_words.specs.declared.known.Client.{Client}
use Rattle.turn_logs.specs.Tables.{table_of, IsOnScreen}
use Rattle.fb_words.specs.Clips.{look_of, looked_in, stamp_in, slot_in, kept, Sees}
use Rattle.fb_words.specs.Rights.{Owns}
use Rattle.fb_words.specs.Looks.{OnlyLooks}
use Rattle.fb_words.specs.Steps.{after_look}
use Rattle.clip_refetch.specs.declared.clips.Look.{Look}
use Rattle.clip_refetch.specs.declared.clips.Look.TheVariants.{Current, Fetched, Gone}

-- a clip: its slot, its revision, the slot's origin and its pixels
pub record ClipView : Type 0 where
  pub slot : ℕ
  pub revision : ℕ
  pub origin : Point
  pub rects : List Rect

-- a new clip: no published revision is 0
abbrev pub new_clip : ℕ → ClipView
new_clip slot = record { slot = slot; revision = 0; origin = origin_zero; rects = [] }

-- a row that a client keeps, as a clip
abbrev pub clip_seen : KeptClip → ClipView
clip_seen row = record { slot = row.slot; revision = row.revision; origin = origin_from row.origin; rects = map unpacked row.rects }

-- the clip is what the client keeps for its slot
pub record IsStored (p : Client) (clip : ClipView) : Type 0 where
  pub row : KeptClip
  pub is_kept : kept p clip.slot ≡ Some row
  pub same : clip ≡ clip_seen row

-- it has revision 0, or is what the client keeps for its slot
abbrev pub IsKnown : Client → ClipView → Type 0
IsKnown p clip = (clip.revision ≡ 0) ⊎ IsStored p clip

-- In the table, the clip is the row of its slot, which the client owns. Its rectangles are at most 256, lie on the screen and don't
-- overlap, and the slot's pixels are those that one of them has.
pub record IsPublishedIn (p : Client) (t : List ℕ) (clip : ClipView) : Type 0 where
  pub row : row_of (table_of t) clip.slot ≡ record { owner = Some p.number; revision = clip.revision; origin = clip.origin; rects = clip.rects }
  pub placed : IsPlaced clip.origin
  pub few : length clip.rects ≤ 256
  pub inside : All (IsOnScreen p.setting.size) clip.rects
  pub apart : AreDisjoint p.setting.size clip.rects
  pub pixels : (k : ℕ) → k < pixel_count p.setting.size → owns (layout_of_table p.setting.size (table_of t)) clip.slot k ≡ any_holds clip.rects (point_of p.setting.size.w k)

-- so it is in each table that the client may see
abbrev pub IsPublished : Client → ClipView → Type 0
IsPublished p clip = (sees : Sees p) → IsPublishedIn p sees.table clip

-- each pixel of the clip may be read and written
abbrev pub OwnsPixels : Client → ClipView → Type 0
OwnsPixels p clip = (k : ℕ) → k < pixel_count p.setting.size → any_holds clip.rects (point_of p.setting.size.w k) ≡ true → Owns p (pixel_word k)

-- the clip is the published row; where its slot is the turn's, it is kept, and its pixels may be painted
pub record IsFresh (p : Client) (clip : ClipView) : Type 0 where
  pub revision : look_of (looked_in p.mode) (row_word clip.slot + 1) ≡ Some clip.revision
  pub published : IsPublished p clip
  pub kept_then : slot_in p.mode ≡ Some clip.slot → IsStored p clip
  pub owns : slot_in p.mode ≡ Some clip.slot → OwnsPixels p clip

-- a clip that is kept, and whose revision the turn has looked at, is the published row
abbrev pub FreshLaw : Type 0
FreshLaw = (q : Client) (clip : ClipView) (stamp : ℕ) → stamp_in q.mode ≡ Some stamp → IsStored q clip → look_of (looked_in q.mode) (row_word clip.slot + 1) ≡ Some clip.revision → IsFresh q clip

-- the rectangles are those of so many looked words, one after another
pub record AreFetched (looked : List Looked) (first count : ℕ) (rects : List Rect) : Type 0 where
  pub words : List ℕ
  pub long : length words ≡ count
  pub found : (j word : ℕ) → get_elem? words j ≡ some word → look_of looked (first + j) ≡ Some word
  pub are : rects ≡ map unpacked words

-- q is p after looks at words of a slot's row
abbrev pub LooksAtRow : ℕ → Client → Client → Type 0
LooksAtRow slot p q = OnlyLooks (row_word slot) (row_word slot + 260) p q

-- the looked revision differs from the clip's, and the owner word isn't the client's
pub record IsGone (p q : Client) (clip : ClipView) (owner_word : ℕ) : Type 0 where
  pub revision : ℕ
  pub looked : look_of (looked_in q.mode) (row_word clip.slot + 1) ≡ Some revision
  pub differs : revision ≡ clip.revision → ⊥
  pub owner : look_of (looked_in q.mode) (row_word clip.slot) ≡ Some owner_word
  pub another : owner_word ≡ p.number + 1 → ⊥

-- What a refresh answers. Current: the looked revision is the clip's, and nothing else was looked at. Fetched: it differs, and
-- the owner word is the client's. Gone: it differs, and the owner word isn't the client's.
abbrev pub Refreshes : Client → Client → ClipView → ClipView → Look → Type 0
Refreshes p q clip clip' Current =
    (q ≡ after_look p (row_word clip.slot + 1) clip.revision) × (clip' ≡ clip) × IsFresh q clip' × IsStored q clip'
Refreshes p q clip clip' (Fetched was now) =
    (was ≡ clip.revision) × (now ≡ clip'.revision) × (now ≡ was → ⊥) × (look_of (looked_in q.mode) (row_word clip.slot) ≡ Some (p.number + 1)) × IsFresh q clip'
Refreshes p q clip clip' (Gone owner_word) = IsGone p q clip owner_word × (clip' ≡ clip) × IsKnown q clip'
