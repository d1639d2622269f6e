-- The file of a run.
use Rattle.std.proofs.Common.{◌≡◌, ℕ, ◌*◌, List, ◌++◌, map, length, ap, sym, ◌∙◌, arith, append_assoc}
use lib.Chars.{codes}
use Rattle.std.specs.List.{flat_map}
use Rattle.std.proofs.lemmas.List.{length-map}
use Rattle.std.proofs.lemmas.List.FromFn.{length-range_with_len}
use Rattle.qws_base.specs.Sides.{Sides}
use Rattle.qws_base.specs.Points.{pixels, pixel_count}
use Rattle.qws_base.specs.Scenes.{Setting}
use Rattle.qws_base.specs.States.{State}
use Rattle.qws_base.specs.Shown.{shown_picture, shown_pixel}
use Rattle.qws_base.specs.Histories.{Entry, client_of_entry, world_after}
use Rattle.script_grammar.specs.Session.{Session, session_setting}
use Rattle.script_grammar.specs.Limits.{IsSession}
use Rattle.script_grammar.specs.declared.lines.CallLine.{CallLine}
use Rattle.session_journal.specs.Texts.{told_call, comments, line_text, head_text, colour_bytes, file_bytes}
use Rattle.session_journal.specs.Grammar.{IsFile}
use Rattle.session_journal.proofs.LineLemmas.{raster_length}
use Rattle.session_replay.specs.declared.replays.Replay.{Replay}
use Rattle.session_replay.specs.Runs.{in_order}
use Rattle.session_replay.specs.Files.{shown_after, file_of}
use Rattle.session_replay.specs.Steps.{IsReplay, IsCommented}
use Rattle.session_replay.proofs.Counts.{few_calls}
use Rattle.session_replay.proofs.LineOrder.{in_order_clients}

-- the picture of a replay is the one that is shown after its history
pub replay_shows : (session : Session) (h : List Entry) (replay : Replay) → IsReplay session h replay → shown_picture replay.canvas.setting replay.core.state.cursor replay.canvas.scene ≡ shown_after session h
replay_shows session h replay behind =
    let setting : Setting = session_setting session in
    ap (λ (s : Setting). shown_picture s replay.core.state.cursor replay.canvas.scene) behind.world.setting
    ∙ ap (λ (s : State). shown_picture setting s.cursor replay.canvas.scene) behind.world.state
    ∙ ap (λ (scene : List ℕ). shown_picture setting (world_after setting h).state.cursor scene) behind.world.scene

pub finished : (session : Session) (h : List Entry) (text : List ℕ) (size : Sides) (shown new : List ℕ) → IsCommented h text → size ≡ session.size → shown ≡ shown_after session h → new ≡ text ++ (head_text size ++ flat_map colour_bytes shown) → new ≡ file_bytes (file_of session h)
finished session h text size shown new commented size_is shown_is written =
    let lines : List ℕ = flat_map line_text (comments (map told_call h)) in
    written
    ∙ ap (λ (t : List ℕ). t ++ (head_text size ++ flat_map colour_bytes shown)) commented.text_is
    ∙ ap (λ (s : Sides). (codes "P6\n" ++ lines) ++ (head_text s ++ flat_map colour_bytes shown)) size_is
    ∙ ap (λ (p : List ℕ). (codes "P6\n" ++ lines) ++ (head_text session.size ++ flat_map colour_bytes p)) shown_is
    ∙ append_assoc (codes "P6\n") lines (head_text session.size ++ flat_map colour_bytes (shown_after session h))

pub shown_length : (session : Session) (h : List Entry) → length (shown_after session h) ≡ session.size.w * session.size.h
shown_length session h =
    let setting : Setting = session_setting session in
    length-map (pixels session.size) (shown_pixel setting (world_after setting h).state.cursor (world_after setting h).scene) ∙ length-range_with_len 0 (pixel_count session.size)

-- as many entries as lines
pub in_order_length : (session : Session) → length (in_order session) ≡ length session.calls
in_order_length session =
    sym (length-map (in_order session) client_of_entry) ∙ ap length (in_order_clients session) ∙ length-map session.calls (λ (l : CallLine). l.client)

-- the text is in the grammar of files
pub is_file : (session : Session) (text bytes : List ℕ) → IsSession session → IsCommented (in_order session) text → bytes ≡ file_bytes (file_of session (in_order session)) → IsFile bytes (file_of session (in_order session))
is_file session text bytes limits commented is = record {
  text = is;
  comments = commented.lines (omega (arith, few_calls session limits, in_order_length session));
  size = limits.screen;
  raster = raster_length (shown_after session (in_order session)) ∙ ap (λ (n : ℕ). 3 * n) (shown_length session (in_order session));
}
