use Rattle.std.proofs.Common.{◌≡◌, ℕ, List, Option, ◌∙◌, subst}
use Rattle.std.specs.Prelude.{MatchOption}
use Rattle.script_grammar.specs.Session.{Session}
use Rattle.session_journal.specs.declared.files.File.{File}
use Rattle.session_replay.specs.declared.replays.Replay.{Replay}
use Rattle.session_replay.specs.Files.{named_by}
use Rattle.session_replay.specs.Steps.{IsReplay, AreAllMade}
use Rattle.session_replay.specs.Verdicts.{AreDue, IsFirstUndue, ArePixelsOf, IsFirstOther, AreGoodLines, named_picture}
use Rattle.session_replay.proofs.Judged.{good_lines, picture_is, raster_fits}
use Rattle.session_replay.proofs.checks.check.Goals as goal

pub first_other-requires : goal.first_other-requires
first_other-requires c =
    let session : Session = c.args.script.now in
    let file : File = c.args.file.now in
    let replay : Replay = c.first_undue.new.replay in
    let lines : List (List ℕ) = c.as_slice-lines.result.now in
    let due : AreDue session lines × IsReplay session (named_by session lines) replay =
    subst (λ (o : Option ℕ). MatchOption o (AreDue session lines × IsReplay session (named_by session lines) replay) (IsFirstUndue session lines)) c.in_default.is c.in_ok-k.ensures in
    let size_is : file.size ≡ session.size = c.is_same.ensures.0 c.if-not-is_same.false ∙ c.size.ensures in
    let shown_is : c.as_slice.result.now ≡ named_picture session file = picture_is session file replay lines c.as_slice.result.now c.as_slice-lines.ensures due (c.as_slice.ensures ∙ c.in_ok-picture.ensures) in
    raster_fits session file c.as_slice-2.result.now c.as_slice.result.now c.as_slice-2.ensures c.requires size_is shown_is

pub returns-in-Some-first_other : goal.returns-in-Some-first_other
returns-in-Some-first_other c =
    let session : Session = c.args.script.now in
    let file : File = c.args.file.now in
    let replay : Replay = c.first_undue.new.replay in
    let lines : List (List ℕ) = c.as_slice-lines.result.now in
    let due : AreDue session lines × IsReplay session (named_by session lines) replay =
    subst (λ (o : Option ℕ). MatchOption o (AreDue session lines × IsReplay session (named_by session lines) replay) (IsFirstUndue session lines)) c.in_default.is c.in_ok-k.ensures in
    let size_is : file.size ≡ session.size = c.is_same.ensures.0 c.if-not-is_same.false ∙ c.size.ensures in
    let shown_is : c.as_slice.result.now ≡ named_picture session file = picture_is session file replay lines c.as_slice.result.now c.as_slice-lines.ensures due (c.as_slice.ensures ∙ c.in_ok-picture.ensures) in
    let made : AreAllMade replay.callers.items = subst AreAllMade c.deref.ensures.value (c.all_made.ensures.0 c.if-not-all_made.false) in
    let good : AreGoodLines session file = good_lines session file replay lines c.as_slice-lines.ensures size_is due made in
    record {
      lines = good;
      bad = subst (λ (r : List ℕ). IsFirstOther (named_picture session file) r c.in-Some-first_other.p) c.as_slice-2.ensures
          (subst (λ (s : List ℕ). IsFirstOther s c.as_slice-2.result.now c.in-Some-first_other.p) shown_is c.in-Some-first_other.ensures);
    }

pub returns : goal.returns
returns c =
    let session : Session = c.args.script.now in
    let file : File = c.args.file.now in
    let replay : Replay = c.first_undue.new.replay in
    let lines : List (List ℕ) = c.as_slice-lines.result.now in
    let due : AreDue session lines × IsReplay session (named_by session lines) replay =
    subst (λ (o : Option ℕ). MatchOption o (AreDue session lines × IsReplay session (named_by session lines) replay) (IsFirstUndue session lines)) c.in_default.is c.in_ok-k.ensures in
    let size_is : file.size ≡ session.size = c.is_same.ensures.0 c.if-not-is_same.false ∙ c.size.ensures in
    let shown_is : c.as_slice.result.now ≡ named_picture session file = picture_is session file replay lines c.as_slice.result.now c.as_slice-lines.ensures due (c.as_slice.ensures ∙ c.in_ok-picture.ensures) in
    let made : AreAllMade replay.callers.items = subst AreAllMade c.deref.ensures.value (c.all_made.ensures.0 c.if-not-all_made.false) in
    let good : AreGoodLines session file = good_lines session file replay lines c.as_slice-lines.ensures size_is due made in
    record {
      lines = good;
      pixels = subst (ArePixelsOf (named_picture session file)) c.as_slice-2.ensures (subst (λ (s : List ℕ). ArePixelsOf s c.as_slice-2.result.now) shown_is (c.in-None.ensures {u = tt}));
    }
