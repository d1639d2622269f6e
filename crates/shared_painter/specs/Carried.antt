-- When painting the pixels of a fresh clip carries the paint.
use Rattle.std.specs.Prelude.{◌≡◌, ℕ, [], length}
use Rattle.std.specs.List.{filter}
use Rattle.qws_base.specs.Scenes.{has_ink}
use Rattle.qws_base.specs.Sheets.{Sheet}
use Rattle.qws_base.specs.declared.journals.BookEntry.{BookEntry}
use Rattle.qws_base.specs.declared.replies.PaintReply.TheVariants.{Painted}
use Rattle.fb_words.specs.declared.known.Client.{Client}
use Rattle.fb_words.specs.Clips.{log_in}
use Rattle.fb_words.specs.Steps.{CarriesAtEnd}
use Rattle.clip_refetch.specs.Clips.{ClipView, IsFresh}
use Rattle.shared_painter.specs.Painted.{PaintsPixels, cut_pixels}

-- A client whose log was empty, and who has painted a sheet on the pixels of a fresh clip that the sheet reaches, has carried the
-- paint that is answered by the number of pixels with ink.
abbrev pub CarriedLaw : Type 0
CarriedLaw = (p q : Client) (clip : ClipView) (sheet : Sheet) (e : BookEntry) (count : ℕ) → log_in p.mode ≡ [] → q.setting ≡ p.setting → IsFresh q clip
    → PaintsPixels clip.origin sheet (cut_pixels q.setting.size.w clip.origin sheet.reach clip.rects) p q
    → count ≡ length (filter (has_ink q.setting.size.w clip.origin sheet) (cut_pixels q.setting.size.w clip.origin sheet.reach clip.rects))
    → e.slot ≡ clip.slot → e.reply ≡ Painted count → CarriesAtEnd q e sheet
