-- The clips that a client keeps as it paints.
use Rattle.std.specs.Prelude.{◌≡◌, ℕ, ◌+◌, ◌<◌, true, false, List, [], ◌∷◌, ◌++◌, length, slice_index_or, Option, Some, None}
use Rattle.qws_base.specs.Sheets.{Sheet}
use Rattle.fb_words.specs.declared.known.PaintCall.{PaintCall}
use Rattle.fb_words.specs.declared.known.Call.TheVariants.{Paint as OwnPaint}
use Rattle.fb_words.specs.declared.known.Client.{Client}
use Rattle.fb_words.specs.Views.{PassView, paints_in}
use Rattle.clip_refetch.specs.Clips.{ClipView, new_clip, IsKnown}
use Rattle.shared_painter.specs.Answers.{IsBack}
use Rattle.client_session.specs.Looking.{is_painted, looked_revision, IsLatest, LooksAtRevisionAlone}

-- the clip of a slot: a new one where none was made
abbrev pub clip_or_new : ℕ → Option ClipView → ClipView
clip_or_new slot None = new_clip slot
clip_or_new slot (Some clip) = clip

abbrev pub clip_of : List (Option ClipView) → ℕ → ClipView
clip_of clips slot = clip_or_new slot (slice_index_or clips slot None)

-- the clip has the revision that the latest paint of its slot that was answered Painted looked at
abbrev pub IsOfLatest : List PaintCall → ClipView → Type 0
IsOfLatest paints clip = (j : ℕ) (q : PaintCall) → IsLatest paints clip.slot (length paints) j q → looked_revision q ≡ Some clip.revision

-- the clip is its slot's, is known to the client, and is of the latest paint
pub record IsKeptFor (p : Client) (slot : ℕ) (clip : ClipView) : Type 0 where
  pub of_slot : clip.slot ≡ slot
  pub known : IsKnown p clip
  pub of_latest : IsOfLatest (paints_in p.own) clip

-- a clip for each slot
pub record AreKept (p : Client) (clips : List (Option ClipView)) : Type 0 where
  pub long : length clips ≡ 33
  pub each : (slot : ℕ) → slot < 33 → IsKeptFor p slot (clip_of clips slot)

-- The pass has made one paint more, of the clip's slot. After Painted the clip has the looked revision, and after Gone it is as
-- before; where the looked revision was the clip's, the paint looked at no other word of the row.
pub record HasDrawn (before after : PassView) (clip clip' : ClipView) (sheet : Sheet) (tag : ℕ) : Type 0 where
  pub call : PaintCall
  pub own : after.client.own ≡ before.client.own ++ OwnPaint call ∷ []
  pub of_slot : call.slot ≡ clip.slot
  pub tagged : call.tag ≡ tag
  pub drawn : call.sheet ≡ sheet
  pub painted : is_painted call.reply ≡ true → looked_revision call ≡ Some clip'.revision
  pub gone : is_painted call.reply ≡ false → clip' ≡ clip
  pub current : looked_revision call ≡ Some clip.revision → LooksAtRevisionAlone call
