-- What one call more makes of the calls that a client has made.
use Rattle.std.proofs.Common.{◌≡◌, ℕ, zero, suc, ◌+◌, ◌<◌, ◌≤◌, not, true, false, Bool, cond, List, [], ◌∷◌, ◌++◌, map, length, refl, sym, ap, subst, ◌∙◌, arith, true≢false, Option, Some, None}
use Rattle.std.specs.Prelude.{slice_get}
use Rattle.std.specs.List.{filter}
use Rattle.qws_base.proofs.ListLemmas.{some_same}
use Rattle.qws_base.specs.Histories.{Entry}
use Rattle.qws_base.specs.Histories.Entry.{Step as StepEntry, Paint as PaintEntry}
use Rattle.fb_words.specs.declared.known.Call.{Call as OwnCall}
use Rattle.fb_words.specs.declared.known.Call.TheVariants.{Step as OwnStep, Paint as OwnPaint}
use Rattle.fb_words.specs.Desks.{call_entry}
use Rattle.fb_words.specs.Views.{steps_in, paints_in, books_in}
use Rattle.script_grammar.specs.Session.{Session, is_paint}
use Rattle.script_grammar.specs.declared.lines.CallLine.{CallLine}
use Rattle.script_grammar.specs.declared.lines.LineCall.{LineCall}
use Rattle.script_grammar.specs.declared.lines.LineCall.TheVariants.{Create, Destroy, Region, Move, Raise, Lower, Shape, Cursor, Show, Join, Leave, Send, Take, Known, Fill, Tile, Blit, Line, Polyline, Polygon, Text}
use Rattle.script_names.specs.Naming.{Naming, names_after, learned_by_entry}
use Rattle.script_names.specs.Meaning.{meaning}
use Rattle.script_names.specs.declared.calls.Call.{Call}
use Rattle.script_names.specs.declared.calls.Call.TheVariants.{Step, Paint}
use Rattle.session_script.specs.Calls.{IsCallOf, IsCallsFrom, IsFrontFrom}

-- ---- one entry more

pub record IsLonger (said : Session) (client k : ℕ) (slots : Naming) (lines : List CallLine) (es : List Entry) (line : CallLine) (e : Entry) : Type 0 where
  pub front : IsFrontFrom said client k slots lines (es ++ e ∷ [])
  pub names : names_after slots lines (es ++ e ∷ []) ≡ learned_by_entry (names_after slots lines es) line.call e

none_some : {A : Type 0} (x : A) → ◌≡◌ {A = Option A} None (Some x) → ⊥
none_some x e = cc

module _ (said : Session) (client : ℕ) where
  pub longer : (k : ℕ) (slots : Naming) (lines : List CallLine) (es : List Entry) (line : CallLine) (e : Entry) → IsFrontFrom said client k slots lines es → slice_get lines (length es) ≡ Some line
      → IsCallOf client (k + length es) (meaning said (names_after slots lines es) line.call) e → IsLonger said client k slots lines es line e
  longer k slots [] [] line e front at is = absurd (none_some line at)
  longer k slots [] (x ∷ es) line e front at is = absurd front
  longer k slots (l ∷ lines) [] line e front at is =
      let same : l ≡ line = some_same l line at in record {
        front = (subst (λ (n : ℕ). IsCallOf client n (meaning said slots l.call) e) (omega arith) (subst (λ (x : CallLine). IsCallOf client (k + 0) (meaning said slots x.call) e) (sym same) is), nothing lines);
        names = none_left lines ∙ ap (λ (x : CallLine). learned_by_entry slots x.call e) same;
      }
    where
      nothing : (ls : List CallLine) → IsFrontFrom said client (k + 1) (learned_by_entry slots l.call e) ls []
      nothing [] = tt
      nothing (x ∷ ls) = tt

      none_left : (ls : List CallLine) → names_after (learned_by_entry slots l.call e) ls [] ≡ learned_by_entry slots l.call e
      none_left [] = refl
      none_left (x ∷ ls) = refl
  longer k slots (l ∷ lines) (x ∷ es) line e front at is =
      let next = longer (k + 1) (learned_by_entry slots l.call x) lines es line e front.1 at (subst (λ (n : ℕ). IsCallOf client n (meaning said (names_after (learned_by_entry slots l.call x) lines es) line.call) e) (omega arith) is) in
      record { front = (front.0, next.front); names = next.names }

  -- as many entries as lines are all
  pub all_made : (k : ℕ) (slots : Naming) (lines : List CallLine) (es : List Entry) → IsFrontFrom said client k slots lines es → length es ≡ length lines → IsCallsFrom said client k slots lines es
  all_made k slots [] [] front many = tt
  all_made k slots [] (x ∷ es) front many = front
  all_made k slots (l ∷ lines) [] front many = absurd (omega arith)
  all_made k slots (l ∷ lines) (x ∷ es) front many = (front.0, all_made (k + 1) (learned_by_entry slots l.call x) lines es front.1 (omega arith))

-- ---- how many of the calls are commands, and how many are paints

abbrev pub paints : Call → Bool
paints (Step command) = false
paints (Paint slot paint) = true

pub kind : (said : Session) (slots : Naming) (call : LineCall) → paints (meaning said slots call) ≡ is_paint call
kind said slots (Create name layer) = refl
kind said slots (Destroy window) = refl
kind said slots (Region window origin rects) = refl
kind said slots (Move window origin) = refl
kind said slots (Raise window) = refl
kind said slots (Lower window) = refl
kind said slots (Shape w h cells) = refl
kind said slots (Cursor at) = refl
kind said slots (Show shown) = refl
kind said slots (Join channel) = refl
kind said slots (Leave channel) = refl
kind said slots (Send channel message payload) = refl
kind said slots Take = refl
kind said slots (Known channel) = refl
kind said slots (Fill window rect ink) = refl
kind said slots (Tile window rect image) = refl
kind said slots (Blit window at image alpha) = refl
kind said slots (Line window from to colour) = refl
kind said slots (Polyline window colour points) = refl
kind said slots (Polygon window ink points) = refl
kind said slots (Text window font at ink written) = refl

of_step : (client k : ℕ) (call : Call) (s : Rattle.fb_words.specs.declared.known.StepCall.StepCall) → IsCallOf client k call (call_entry client (OwnStep s)) → paints call ≡ false
of_step client k (Step command) s is = refl
of_step client k (Paint slot paint) s is = absurd is

of_paint : (client k : ℕ) (call : Call) (p : Rattle.fb_words.specs.declared.known.PaintCall.PaintCall) → IsCallOf client k call (call_entry client (OwnPaint p)) → paints call ≡ true
of_paint client k (Step command) p is = absurd is
of_paint client k (Paint slot paint) p is = refl

-- ---- the number of a kind of lines

kept : (test : CallLine → Bool) (l : CallLine) (lines : List CallLine) → test l ≡ true → length (filter test (l ∷ lines)) ≡ suc (length (filter test lines))
kept test l lines is = ap (λ (b : Bool). length (cond b (l ∷ filter test lines) (filter test lines))) is

left_out : (test : CallLine → Bool) (l : CallLine) (lines : List CallLine) → test l ≡ false → length (filter test (l ∷ lines)) ≡ length (filter test lines)
left_out test l lines is = ap (λ (b : Bool). length (cond b (l ∷ filter test lines) (filter test lines))) is

some_step : (test : CallLine → Bool) (l : CallLine) (lines : List CallLine) (b : Bool) → test l ≡ b → (0 < length (filter test lines)) → 0 < length (filter test (l ∷ lines))
some_step test l lines true e r = let more = kept test l lines e in omega arith
some_step test l lines false e r = let same = left_out test l lines e in omega arith

some_left : (test : CallLine → Bool) (lines : List CallLine) (k : ℕ) (line : CallLine) → slice_get lines k ≡ Some line → test line ≡ true → 0 < length (filter test lines)
some_left test [] k line at is = absurd (none_some line at)
some_left test (l ∷ lines) zero line at is = let more = kept test l lines (ap test (some_same l line at) ∙ is) in omega arith
some_left test (l ∷ lines) (suc k) line at is = some_step test l lines (test l) refl (some_left test lines k line at is)

abbrev pub commands : CallLine → Bool
commands line = not (is_paint line.call)

abbrev pub draws : CallLine → Bool
draws line = is_paint line.call

module _ (said : Session) (client : ℕ) where
  -- before a command, fewer were made than there are
  pub steps_left : (k : ℕ) (slots : Naming) (lines : List CallLine) (own : List OwnCall) (line : CallLine) → IsFrontFrom said client k slots lines (map (call_entry client) own) → slice_get lines (length own) ≡ Some line
      → is_paint line.call ≡ false → length (steps_in own) < length (filter commands lines)
  steps_left k slots lines [] line front at is = some_left commands lines 0 line at (ap not is)
  steps_left k slots [] (OwnStep s ∷ own) line front at is = absurd front
  steps_left k slots [] (OwnPaint p ∷ own) line front at is = absurd front
  steps_left k slots (l ∷ lines) (OwnStep s ∷ own) line front at is =
      let mine : is_paint l.call ≡ false = sym (kind said slots l.call) ∙ of_step client k (meaning said slots l.call) s front.0 in
      let r = steps_left (k + 1) (learned_by_entry slots l.call (call_entry client (OwnStep s))) lines own line front.1 at is in
      let more = kept commands l lines (ap not mine) in omega arith
  steps_left k slots (l ∷ lines) (OwnPaint p ∷ own) line front at is =
      let mine : is_paint l.call ≡ true = sym (kind said slots l.call) ∙ of_paint client k (meaning said slots l.call) p front.0 in
      let r = steps_left (k + 1) (learned_by_entry slots l.call (call_entry client (OwnPaint p))) lines own line front.1 at is in
      let same = left_out commands l lines (ap not mine) in omega arith

  -- before a paint, too
  pub paints_left : (k : ℕ) (slots : Naming) (lines : List CallLine) (own : List OwnCall) (line : CallLine) → IsFrontFrom said client k slots lines (map (call_entry client) own) → slice_get lines (length own) ≡ Some line
      → is_paint line.call ≡ true → length (books_in own) < length (filter draws lines)
  paints_left k slots lines [] line front at is = some_left draws lines 0 line at is
  paints_left k slots [] (OwnStep s ∷ own) line front at is = absurd front
  paints_left k slots [] (OwnPaint p ∷ own) line front at is = absurd front
  paints_left k slots (l ∷ lines) (OwnStep s ∷ own) line front at is =
      let mine : is_paint l.call ≡ false = sym (kind said slots l.call) ∙ of_step client k (meaning said slots l.call) s front.0 in
      let r = paints_left (k + 1) (learned_by_entry slots l.call (call_entry client (OwnStep s))) lines own line front.1 at is in
      let same = left_out draws l lines mine in omega arith
  paints_left k slots (l ∷ lines) (OwnPaint p ∷ own) line front at is =
      let mine : is_paint l.call ≡ true = sym (kind said slots l.call) ∙ of_paint client k (meaning said slots l.call) p front.0 in
      let r = paints_left (k + 1) (learned_by_entry slots l.call (call_entry client (OwnPaint p))) lines own line front.1 at is in
      let more = kept draws l lines mine in omega arith

kinds_step : (l : CallLine) (lines : List CallLine) (b : Bool) → is_paint l.call ≡ b → length (filter commands lines) + length (filter draws lines) ≡ length lines
    → length (filter commands (l ∷ lines)) + length (filter draws (l ∷ lines)) ≡ length (l ∷ lines)
kinds_step l lines true e r = let a = left_out commands l lines (ap not e) in let b = kept draws l lines e in omega arith
kinds_step l lines false e r = let a = kept commands l lines (ap not e) in let b = left_out draws l lines e in omega arith

-- commands and paints are all
pub all_kinds : (lines : List CallLine) → length (filter commands lines) + length (filter draws lines) ≡ length lines
all_kinds [] = refl
all_kinds (l ∷ lines) = kinds_step l lines (is_paint l.call) refl (all_kinds lines)
