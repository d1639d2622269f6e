-- What a paint leaves of its clip.
use Rattle.std.proofs.Common.{◌≡◌, ℕ, ◌+◌, ◌<◌, ◌≤◌, ◌⊎◌, inl, inr, ⊎_elim, not, ◌==◌, true, false, eq-eqb, ◌∷◌, ◌++◌, [], refl, sym, ap, subst, ◌∙◌, arith, Option, Some}
use Rattle.qws_base.proofs.ListLemmas.{some_same}
use Rattle.qws_base.specs.Sheets.{Sheet}
use Rattle.qws_base.specs.declared.replies.PaintReply.TheVariants.{Painted, Gone}
use Rattle.region_table.specs.Numbers.{row_word}
use Rattle.fb_words.specs.declared.known.PaintCall.{PaintCall}
use Rattle.fb_words.specs.declared.known.Call.TheVariants.{Paint as OwnPaint}
use Rattle.fb_words.specs.declared.known.Client.{Client}
use Rattle.fb_words.specs.Clips.{look_of, looked_in, IsOutsideRow}
use Rattle.fb_words.specs.Steps.{paint_call}
use Rattle.fb_words.specs.Views.{PassView}
use Rattle.clip_refetch.specs.Clips.{ClipView}
use Rattle.shared_painter.specs.Answers.{Closes, HasPainted, HasGone, HasStopped, LooksAtRevision, entry_of}
use Rattle.shared_painter.specs.declared.painters.PaintStop.{PaintStop}
use Rattle.shared_painter.specs.declared.painters.PaintStop.TheVariants.{Gone as GoneStop}
use Rattle.shared_painter.specs.declared.painters.Painted.{Painted as PaintedAnswer}
use Rattle.client_session.specs.Looking.{looked_revision, LooksAtRevisionAlone}
use Rattle.client_session.specs.Keeping.{HasDrawn}

-- the calls after a turn that was closed
own_after : (before after : PassView) (turn : Client) (e : Rattle.qws_base.specs.declared.journals.BookEntry.BookEntry) (sheet : Sheet) → Closes before after turn e sheet
    → after.client.own ≡ before.client.own ++ OwnPaint (paint_call turn e sheet) ∷ []
own_after before after turn e sheet h =
    ap (λ (p : PassView). p.client.own) h.pass ∙ ap (λ (p : Client). p.own ++ OwnPaint (paint_call turn e sheet) ∷ []) h.rest

outside : (turn : Client) (slot : ℕ) → LooksAtRevision turn slot → (x value : ℕ) → look_of (looked_in turn.mode) x ≡ Some value → IsOutsideRow slot x ⊎ (x ≡ row_word slot + 1)
outside turn slot looks x value at = ⊎_elim (λ (h : x ≡ 1). inl (inl (omega arith)))
    (λ t. ⊎_elim (λ (h : x ≡ row_word slot + 1). inr h) (λ (h : (2 ≤ x) × (x < 1028)). let b = h.1 in inl (inl (omega arith))) t) (looks x value at)

pub painted_drawn : (first before after : PassView) (clip clip' : ClipView) (sheet : Sheet) (tag : ℕ) (painted : PaintedAnswer) → before.client.own ≡ first.client.own
    → HasPainted before after clip clip' sheet tag painted → HasDrawn first after clip clip' sheet tag
painted_drawn first before after clip clip' sheet tag painted same h =
    let call : PaintCall = paint_call h.turn (entry_of painted.stamp clip tag (Painted painted.pixels)) sheet in
    let revision : looked_revision call ≡ Some clip'.revision = subst (λ (s : ℕ). look_of (looked_in h.turn.mode) (row_word s + 1) ≡ Some clip'.revision) h.slot h.fresh.revision in record {
      call = call;
      own = own_after before after h.turn _ sheet h.closes ∙ ap (λ l. l ++ OwnPaint call ∷ []) same;
      of_slot = refl;
      tagged = refl;
      drawn = refl;
      painted = λ _. revision;
      gone = λ never. absurd (Rattle.std.proofs.Common.true≢false never);
      current = λ is.
          let equal : clip'.revision ≡ clip.revision = some_same clip'.revision clip.revision (sym revision ∙ is) in
          let kept = h.fetched ∙ ap not (eq-eqb clip'.revision clip.revision equal) in outside h.turn clip.slot (h.looks kept).1;
    }

gone_drawn : (first before after : PassView) (clip : ClipView) (sheet : Sheet) (tag stamp : ℕ) → before.client.own ≡ first.client.own
    → HasGone before after clip sheet tag stamp → HasDrawn first after clip clip sheet tag
gone_drawn first before after clip sheet tag stamp same h =
    let call : PaintCall = paint_call h.turn (entry_of stamp clip tag Gone) sheet in record {
      call = call;
      own = own_after before after h.turn _ sheet h.closes ∙ ap (λ l. l ++ OwnPaint call ∷ []) same;
      of_slot = refl;
      tagged = refl;
      drawn = refl;
      painted = λ never. absurd (Rattle.std.proofs.Common.true≢false (sym never));
      gone = λ _. refl;
      current = λ is. absurd (h.gone.differs (some_same h.gone.revision clip.revision (sym h.gone.looked ∙ is)));
    }

pub stopped_drawn : (first before after : PassView) (clip clip' : ClipView) (sheet : Sheet) (tag stamp : ℕ) (stop : PaintStop) → before.client.own ≡ first.client.own → stop ≡ GoneStop stamp
    → (clip' ≡ clip) × HasStopped before after clip sheet tag stop → HasDrawn first after clip clip' sheet tag
stopped_drawn first before after clip clip' sheet tag stamp stop same is h =
    subst (λ k. HasDrawn first after clip k sheet tag) (sym h.0) (gone_drawn first before after clip sheet tag stamp same (subst (HasStopped before after clip sheet tag) is h.1))
