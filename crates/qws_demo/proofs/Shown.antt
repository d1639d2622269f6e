-- What is shown and kept is shown.
use Rattle.std.proofs.Common.{◌≡◌, ◌∙◌, ℕ, List, Option, None, Some, ap}
use Rattle.qws_base.specs.Histories.{Entry}
use Rattle.server_desk.specs.DeskViews.{ClosedView}
use Rattle.server_desk.specs.Sessions.{history_in}
use Rattle.session_journal.specs.Texts.{file_bytes}
use Rattle.session_replay.specs.Files.{file_of}
use Rattle.qws_demo.specs.Headline.{Shows, Headline}
use Rattle.qws_demo.specs.Kept.{ShowsKept, KeepsShown}

shown : (limit : ℕ) (read written : List ℕ) (kept : Option ClosedView) → ShowsKept limit read written kept → Shows limit read written
shown limit read written kept is = record {
  within = is.within;
  session = is.session;
  spelled = is.spelled;
  file = file_of is.session (history_in is.closed.journal is.file.kept.clients);
  is_file = is.file.file;
  run = is.file.named;
  ordered = λ few. is.file.text ∙ ap (λ (h : List Entry). file_bytes (file_of is.session h)) (is.file.ordered few);
}

pub headline_shown : (limit : ℕ) (left rest before now : Option (List ℕ)) (kept : Option ClosedView) → KeepsShown limit left rest before now kept → Headline limit left rest before now
headline_shown limit None rest before now kept is = tt
headline_shown limit (Some bytes) rest None now kept is = tt
headline_shown limit (Some bytes) rest (Some old) now kept is = (is.0, is.1, is.2, shown limit bytes is.0 kept is.3)
