-- Verdicts: there is one, and which files hold.
use Rattle.std.proofs.Common.{◌≡◌, ℕ, ◌+◌, ◌*◌, ◌<◌, List, [], ◌++◌, map, length, append-nil, refl, ap, sym, ◌∙◌, subst, inl, inr}
use Rattle.std.proofs.lemmas.Bool.{cases_order}
use Rattle.std.specs.List.{flat_map}
use Rattle.qws_base.specs.Sides.{Sides}
use Rattle.qws_base.specs.Points.{pixel_count}
use Rattle.qws_base.specs.Shown.{shown_picture}
use Rattle.qws_base.specs.Histories.{Entry, calls_of}
use Rattle.script_grammar.specs.Session.{Session}
use Rattle.script_grammar.specs.Limits.{IsSession}
use Rattle.session_journal.specs.Texts.{told_call, comments, colour_bytes}
use Rattle.session_journal.specs.Commented.{commented_client}
use Rattle.session_journal.specs.declared.files.File.{File}
use Rattle.session_replay.specs.Runs.{IsRunOf}
use Rattle.session_replay.specs.Files.{shown_after, file_of, named_by, IsFileOf}
use Rattle.session_replay.specs.Steps.{IsReplay, AreAllMade}
use Rattle.session_replay.specs.declared.replays.Replay.{Replay}
use Rattle.session_replay.specs.Verdicts.{IsDue, AreDue, AreMade, IsBadLine, IsPixelOf, ArePixelsOf, named_picture, AreGoodLines, AreGoodPixels}
use Rattle.session_replay.specs.Laws.{IsNamed, OneVerdict}
use Rattle.session_replay.specs.declared.verdicts.Verdict.TheVariants.{Holds, BadScreen, BadEntry, BadPixel}
use Rattle.session_replay.proofs.Named.{named_legal, named_whole}
use Rattle.session_replay.proofs.Finishing.{replay_shows, shown_length}
use Rattle.session_replay.proofs.Running.{run_few, whole_length}
use Rattle.session_replay.proofs.Due.{due_lines, run_due, front_named, named_known, made_all}
use Rattle.session_replay.proofs.Pixels.{pixels_whole, pixels_each}

-- ---- runs are named

pub run_is_named : (session : Session) (h : List Entry) → IsSession session → IsRunOf session h → IsNamed session h
run_is_named session h limits run =
    let all : h ≡ h ++ [] = sym (append-nil h) in
    let named_back : named_by session (comments (map told_call h)) ≡ h = front_named session h [] limits (subst (IsRunOf session) all run) in
    record {
      named = named_back;
      file = record { file_is = ap (file_of session) (sym named_back); run = subst (IsRunOf session) (sym named_back) run };
      few = run_few session h limits run;
      pixels = shown_length session h;
    }

-- ---- one verdict

-- the first that isn't so is one
first_one : (P : ℕ → Type 0) (a b : ℕ) → ((j : ℕ) → j < a → P j) → ¬ P a → ((j : ℕ) → j < b → P j) → ¬ P b → a ≡ b
first_one P a b to_a not_a to_b not_b = elim (cases_order a b) [
  | inl same ↦ same
  | inr apart ↦ elim apart [ inl low ↦ absurd (not_a (to_b a low)) | inr high ↦ absurd (not_b (to_a b high)) ]
]

one_line : (session : Session) (lines : List (List ℕ)) (a b : ℕ) → IsBadLine session lines a → IsBadLine session lines b → a ≡ b
one_line session lines a b one two = elim one [
  | inl first ↦ elim two [
    | inl second ↦ first.1 ∙ ap (λ k. k + 1) (first_one (IsDue session lines) first.0 second.0 first.2.before first.2.undue second.2.before second.2.undue) ∙ sym second.1
    | inr left ↦ absurd (first.2.undue (left.1.due first.0 first.2.within))
  ]
  | inr left ↦ elim two [
    | inl second ↦ absurd (second.2.undue (left.1.due second.0 second.2.within))
    | inr more ↦ left.0 ∙ sym more.0
  ]
]

-- good lines have no bad one
no_bad : (session : Session) (file : File) (line : ℕ) → AreGoodLines session file → ¬ IsBadLine session file.lines line
no_bad session file line good = λ bad. elim bad [
  | inl first ↦ first.2.undue (good.due first.0 first.2.within)
  | inr left ↦ left.1.left good.made
]

same_screen : (file : File) (w h v g : ℕ) → file.size ≡ record { w = w; h = h } → file.size ≡ record { w = v; h = g } → BadScreen w h ≡ BadScreen v g
same_screen file w h v g one two =
    let columns : w ≡ v = ap (λ (s : Sides). s.w) (sym one ∙ two) in
    let rows : h ≡ g = ap (λ (s : Sides). s.h) (sym one ∙ two) in
    ap (λ n. BadScreen n h) columns ∙ ap (BadScreen v) rows

pub one : (session : Session) → OneVerdict session
one session file Holds Holds v u = refl
one session file Holds (BadScreen w h) v u = absurd (u.other v.lines.size_is)
one session file Holds (BadEntry line) v u = absurd (no_bad session file line v.lines u.bad)
one session file Holds (BadPixel p) v u = absurd (u.bad.other (v.pixels p u.bad.within))
one session file (BadScreen w h) Holds v u = absurd (v.other u.lines.size_is)
one session file (BadScreen w h) (BadScreen a b) v u = same_screen file w h a b v.size_is u.size_is
one session file (BadScreen w h) (BadEntry line) v u = absurd (v.other u.size_is)
one session file (BadScreen w h) (BadPixel p) v u = absurd (v.other u.lines.size_is)
one session file (BadEntry line) Holds v u = absurd (no_bad session file line u.lines v.bad)
one session file (BadEntry line) (BadScreen w h) v u = absurd (u.other v.size_is)
one session file (BadEntry line) (BadEntry other) v u = ap BadEntry (one_line session file.lines line other v.bad u.bad)
one session file (BadEntry line) (BadPixel p) v u = absurd (no_bad session file line u.lines v.bad)
one session file (BadPixel p) Holds v u = absurd (v.bad.other (u.pixels p v.bad.within))
one session file (BadPixel p) (BadScreen w h) v u = absurd (u.other v.lines.size_is)
one session file (BadPixel p) (BadEntry line) v u = absurd (no_bad session file line v.lines u.bad)
one session file (BadPixel p) (BadPixel q) v u =
    ap BadPixel (first_one (IsPixelOf (named_picture session file) file.raster) p q v.bad.before v.bad.other u.bad.before u.bad.other)

-- ---- which files hold

is_run : (session : Session) (lines : List (List ℕ)) → IsSession session → AreMade session (named_by session lines) → IsRunOf session (named_by session lines)
is_run session lines limits made = record {
  legal = named_legal session (map commented_client lines);
  whole = λ client known. named_whole session (map commented_client lines) client (made client known);
  no_other = named_known session (map commented_client lines) limits;
}

-- three parts that agree are the file
file_parts : (file : File) (size : Sides) (lines : List (List ℕ)) (raster : List ℕ) → file.size ≡ size → file.lines ≡ lines → file.raster ≡ raster → file ≡ record { size = size; lines = lines; raster = raster }
file_parts file size lines raster size_is lines_are raster_is =
    let with : Sides → List (List ℕ) → List ℕ → File = λ s ls bytes. record { size = s; lines = ls; raster = bytes } in
    ap (λ (s : Sides). with s file.lines file.raster) size_is ∙ ap (λ (ls : List (List ℕ)). with size ls file.raster) lines_are ∙ ap (with size lines) raster_is

pub held : (session : Session) (file : File) → IsSession session → length file.raster ≡ 3 * pixel_count file.size → AreGoodPixels session file → IsFileOf session file
held session file limits long good =
    let h : List Entry = named_by session file.lines in
    let pixels : length file.raster ≡ 3 * length (shown_after session h) =
    long ∙ ap (λ (s : Sides). 3 * pixel_count s) good.lines.size_is ∙ ap (λ n. 3 * n) (sym (shown_length session h)) in
    record {
      file_is = file_parts file session.size (comments (map told_call h)) (flat_map colour_bytes (shown_after session h)) good.lines.size_is (due_lines session file.lines good.lines.due) (pixels_whole (shown_after session h) file.raster pixels good.pixels);
      run = is_run session file.lines limits good.lines.made;
    }

pub holds : (session : Session) (file : File) → IsSession session → IsFileOf session file → AreGoodPixels session file
holds session file limits is =
    let h : List Entry = named_by session file.lines in
    let lines : file.lines ≡ comments (map told_call h) = ap (λ (f : File). f.lines) is.file_is in
    let raster : file.raster ≡ flat_map colour_bytes (shown_after session h) = ap (λ (f : File). f.raster) is.file_is in
    record {
      lines = record {
        size_is = ap (λ (f : File). f.size) is.file_is;
        due = subst (AreDue session) (sym lines) (run_due session h limits is.run);
        made = λ client known. whole_length session (calls_of h client) client (is.run.whole client known);
      };
      pixels = subst (ArePixelsOf (shown_after session h)) (sym raster) (pixels_each (shown_after session h));
    }

-- ---- what a replay tells of a file

pub good_lines : (session : Session) (file : File) (replay : Replay) (lines : List (List ℕ)) → lines ≡ file.lines → file.size ≡ session.size → AreDue session lines × IsReplay session (named_by session lines) replay → AreAllMade replay.callers.items → AreGoodLines session file
good_lines session file replay lines same size_is due made =
    let behind : IsReplay session (named_by session file.lines) replay = subst (λ (ls : List (List ℕ)). IsReplay session (named_by session ls) replay) same due.1 in
    record {
      size_is = size_is;
      due = subst (AreDue session) same due.0;
      made = made_all session (named_by session file.lines) replay.callers.items behind.callers made;
    }

pub picture_is : (session : Session) (file : File) (replay : Replay) (lines : List (List ℕ)) (shown : List ℕ) → lines ≡ file.lines → AreDue session lines × IsReplay session (named_by session lines) replay
    → shown ≡ shown_picture replay.canvas.setting replay.core.state.cursor replay.canvas.scene → shown ≡ named_picture session file
picture_is session file replay lines shown same due shown_is =
    shown_is ∙ replay_shows session (named_by session file.lines) replay (subst (λ (ls : List (List ℕ)). IsReplay session (named_by session ls) replay) same due.1)

-- as many bytes as the shown picture has
pub raster_fits : (session : Session) (file : File) (raster shown : List ℕ) → raster ≡ file.raster → length file.raster ≡ 3 * pixel_count file.size → file.size ≡ session.size → shown ≡ named_picture session file → length raster ≡ 3 * length shown
raster_fits session file raster shown raster_is long size_is shown_is =
    ap length raster_is ∙ long ∙ ap (λ (s : Sides). 3 * pixel_count s) size_is
    ∙ ap (λ n. 3 * n) (sym (ap length shown_is ∙ shown_length session (named_by session file.lines)))
