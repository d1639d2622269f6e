-- What a paint answers, and what it leaves.
use Rattle.std.specs.Prelude.{◌≡◌, ◌≢◌, ℕ, ◌+◌, ◌<◌, ◌≤◌, ◌^◌, ◌==◌, ◌⊎◌, not, false, [], length, Result, Ok, Err, Option, None, Some}
use Rattle.qws_base.specs.Sheets.{Sheet}
use Rattle.qws_base.specs.declared.journals.BookEntry.{BookEntry}
use Rattle.qws_base.specs.declared.replies.PaintReply.{PaintReply}
use Rattle.qws_base.specs.declared.replies.PaintReply.TheVariants.{Painted, Gone}
use Rattle.region_table.specs.Numbers.{row_word}
use Rattle.fb_words.specs.declared.known.Client.{Client}
use Rattle.fb_words.specs.declared.known.Mode.TheVariants.{Idle}
use Rattle.fb_words.specs.Clips.{look_of, looked_in, stamp_in, slot_in, log_in, kept, KeepsClips}
use Rattle.fb_words.specs.Steps.{CarriesAtEnd, paint_call, after_leave}
use Rattle.fb_words.specs.Views.{PassView, books_in}
use Rattle.display_lock.specs.Turns.{turned_away}
use Rattle.clip_refetch.specs.Clips.{ClipView, IsStored, IsKnown, IsFresh, IsGone}
use Rattle.shared_painter.specs.declared.painters.Painted.{Painted as PaintedAnswer}
use Rattle.shared_painter.specs.declared.painters.Done.{Done}
use Rattle.shared_painter.specs.declared.painters.PaintStop.{PaintStop}
use Rattle.shared_painter.specs.declared.painters.PaintStop.TheVariants.{BookFull, Busy, Gone as GoneStop}

-- ---- a closed turn

abbrev pub entry_of : ℕ → ClipView → ℕ → PaintReply → BookEntry
entry_of stamp clip tag reply = record { stamp = stamp; slot = clip.slot; tag = tag; reply = reply }

-- One paint turn was opened and closed with the entry; `turn` is its client as it ended. Its stamp is at least what was seen
-- before, its log carries the paint, and nothing else has changed.
pub record Closes (before after : PassView) (turn : Client) (entry : BookEntry) (sheet : Sheet) : Type 0 where
  pub rest : turn ≡ record before.client { mode = turn.mode }
  pub stamped : stamp_in turn.mode ≡ Some entry.stamp
  pub seen : before.client.seen ≤ entry.stamp
  pub carries : CarriesAtEnd turn entry sheet
  pub pass : after ≡ record before { client = after_leave turn (paint_call turn entry sheet) }

-- of the table, the turn has looked at the stamp, the slot's revision and the cursor's words alone
abbrev pub LooksAtRevision : Client → ℕ → Type 0
LooksAtRevision turn slot = (x value : ℕ) → look_of (looked_in turn.mode) x ≡ Some value → (x ≡ 1) ⊎ (x ≡ row_word slot + 1) ⊎ ((2 ≤ x) × (x < 1028))

-- ---- in a turn

-- of p, the turn's client as it began, q has painted a sheet on the clip, which is the published row
pub record PaintsInTurn (p q : Client) (clip clip' : ClipView) (sheet : Sheet) (done : Done) : Type 0 where
  pub rest : q ≡ record p { mode = q.mode }
  pub turn_slot : slot_in q.mode ≡ Some clip.slot
  pub carries : (e : BookEntry) → e.slot ≡ clip.slot → e.reply ≡ Painted done.pixels → CarriesAtEnd q e sheet
  pub fresh : IsFresh q clip'
  pub is_kept : IsStored q clip'
  pub slot : clip'.slot ≡ clip.slot
  pub fetched : done.fetched ≡ not (clip'.revision == clip.revision)
  pub looks : done.fetched ≡ false → (clip' ≡ clip) × LooksAtRevision q clip.slot

-- q has found that the clip's slot has another owner, and has read and written no pixel
pub record FindsGone (p q : Client) (clip clip' : ClipView) (sheet : Sheet) : Type 0 where
  pub rest : q ≡ record p { mode = q.mode }
  pub carries : (e : BookEntry) → e.slot ≡ clip.slot → e.reply ≡ Gone → CarriesAtEnd q e sheet
  pub empty : log_in q.mode ≡ []
  pub owner_word : ℕ
  pub gone : IsGone p q clip owner_word
  pub clip_is : clip' ≡ clip
  pub known : IsKnown q clip

abbrev pub EndsAs : Client → Client → ClipView → ClipView → Sheet → Option Done → Type 0
EndsAs p q clip clip' sheet (Some done) = PaintsInTurn p q clip clip' sheet done
EndsAs p q clip clip' sheet None = FindsGone p q clip clip' sheet

-- ---- the answers

-- The turn has painted. The clip is the published row, of the revision that was looked at, and what the pass keeps; it was
-- fetched exactly where that revision isn't the one before, and else no other word of the row was looked at.
pub record HasPainted (before after : PassView) (clip clip' : ClipView) (sheet : Sheet) (tag : ℕ) (painted : PaintedAnswer) : Type 0 where
  pub turn : Client
  pub closes : Closes before after turn (entry_of painted.stamp clip tag (Painted painted.pixels)) sheet
  pub fresh : IsFresh turn clip'
  pub is_kept : IsStored after.client clip'
  pub slot : clip'.slot ≡ clip.slot
  pub fetched : painted.fetched ≡ not (clip'.revision == clip.revision)
  pub looks : painted.fetched ≡ false → (clip' ≡ clip) × LooksAtRevision turn clip.slot

-- the turn has found another revision and another owner, and has read and written no pixel
pub record HasGone (before after : PassView) (clip : ClipView) (sheet : Sheet) (tag stamp : ℕ) : Type 0 where
  pub turn : Client
  pub closes : Closes before after turn (entry_of stamp clip tag Gone) sheet
  pub owner_word : ℕ
  pub gone : IsGone before.client turn clip owner_word
  pub empty : log_in turn.mode ≡ []
  pub known : IsKnown after.client clip

-- BookFull: the book holds its limit, and no step was made. Busy: the enter found the word. Gone: as above.
abbrev pub HasStopped : PassView → PassView → ClipView → Sheet → ℕ → PaintStop → Type 0
HasStopped before after clip sheet tag (BookFull held) = (held ≡ length (books_in before.client.own)) × (before.book_limit ≤ held) × (after ≡ before)
HasStopped before after clip sheet tag (Busy found) = (2 ^ 32 ≤ found) × (after ≡ turned_away before found) × KeepsClips before.client after.client
HasStopped before after clip sheet tag (GoneStop stamp) = HasGone before after clip sheet tag stamp

-- after each stop the clip is as before
abbrev pub HasAnswered : PassView → PassView → ClipView → ClipView → Sheet → ℕ → Result PaintedAnswer PaintStop → Type 0
HasAnswered before after clip clip' sheet tag (Ok painted) = HasPainted before after clip clip' sheet tag painted
HasAnswered before after clip clip' sheet tag (Err stop) = (clip' ≡ clip) × HasStopped before after clip sheet tag stop

-- what is kept for other slots stays
abbrev pub KeepsOthers : ℕ → Client → Client → Type 0
KeepsOthers slot p q = (other : ℕ) → other ≢ slot → kept q other ≡ kept p other

-- The pass is in no turn. Its screen, its number and its limits are as before.
pub record IsBack (before after : PassView) : Type 0 where
  pub idle : after.client.mode ≡ Idle
  pub screen : after.screen ≡ before.screen
  pub setting : after.client.setting ≡ before.client.setting
  pub number : after.client.number ≡ before.client.number
  pub step_limit : after.client.step_limit ≡ before.client.step_limit
  pub book_limit : after.book_limit ≡ before.book_limit
