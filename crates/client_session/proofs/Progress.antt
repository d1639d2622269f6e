-- How a client's calls go on.
use Rattle.std.proofs.Common.{◌≡◌, ℕ, zero, suc, ◌+◌, ◌<◌, ◌≤◌, true, false, List, [], ◌∷◌, ◌++◌, map, length, refl, sym, ap, subst, ◌∙◌, arith, Option, Some, None, Result, Ok, Err}
use Rattle.std.specs.Prelude.{slice_get, OnOk, OnErr}
use Rattle.std.specs.Option.{option_map}
use Rattle.std.proofs.lemmas.List.{length-map, map-append, length-append}
use Rattle.std.proofs.lemmas.Option.{slice_get_within}
use Rattle.qws_base.proofs.ListLemmas.{some_same}
use Rattle.qws_base.specs.Histories.{Entry}
use Rattle.qws_base.specs.declared.commands.Command.{Command}
use Rattle.qws_base.specs.declared.replies.Reply.{Reply}
use Rattle.fb_words.specs.declared.known.Call.{Call as OwnCall}
use Rattle.fb_words.specs.declared.known.Call.TheVariants.{Step as OwnStep, Paint as OwnPaint}
use Rattle.fb_words.specs.declared.known.StepCall.{StepCall}
use Rattle.fb_words.specs.declared.known.Client.{Client}
use Rattle.fb_words.specs.Desks.{call_entry}
use Rattle.fb_words.specs.Views.{PassView, steps_in, paints_in, books_in}
use Rattle.gfx_painters.specs.declared.paints.Paint.{Paint as SomePaint}
use Rattle.gfx_painters.specs.Paints.{paint_sheet}
use Rattle.script_grammar.specs.Session.{Session, is_paint, call_line, lines_by, step_count, paint_count}
use Rattle.script_grammar.specs.Limits.{IsSession}
use Rattle.script_grammar.specs.declared.lines.CallLine.{CallLine}
use Rattle.script_names.specs.Naming.{no_names, naming, learned, learned_by_entry}
use Rattle.script_names.specs.Meaning.{meaning}
use Rattle.script_names.specs.declared.calls.Call.{Call}
use Rattle.script_names.specs.declared.calls.Call.TheVariants.{Step, Paint}
use Rattle.session_script.specs.Named.{NamesView}
use Rattle.session_script.specs.Calls.{IsCallOf, IsFront, IsWhole, names_by}
use Rattle.server_desk.specs.Answers.{steps_made}
use Rattle.client_session.specs.Keeping.{HasDrawn}
use Rattle.client_session.specs.Runs.{own_entries, IsAt, IsWithinLimits, MeansNow}
use Rattle.shared_painter.specs.Answers.{IsBack}
use Rattle.client_session.proofs.Making.{longer, all_made, all_kinds, paints, kind, steps_left, paints_left}
use Rattle.client_session.proofs.Slots.{AreSlots, NamesSlot, learned_slots, slot_in, meant_low, call_within}

-- what a function makes of something that is there
record IsMadeOf {A B : Type 0} (f : A → B) (o : Option A) (y : B) : Type 0 where
  x : A
  there : o ≡ Some x
  made : f x ≡ y

made_of : {A B : Type 0} (f : A → B) (o : Option A) (y : B) → option_map f o ≡ Some y → IsMadeOf f o y
made_of {A} {B} f None y e = absurd (let h : ⊥ = (let z : ◌≡◌ {A = Option B} None (Some y) = e in cc) in h)
made_of f (Some x) y e = record { x = x; there = refl; made = some_same (f x) y e }

-- the client's next line, and what it means
pub record IsNext (said : Session) (p : Client) (call : Call) : Type 0 where
  pub line : CallLine
  pub there : slice_get (lines_by p.number said.calls) (length p.own) ≡ Some line
  pub means : meaning said (names_by said (own_entries p) p.number) line.call ≡ call

line_at : (said : Session) (p : Client) (k : ℕ) (names : NamesView) → IsAt said p k names → call_line said names.client k ≡ slice_get (lines_by p.number said.calls) (length p.own)
line_at said p k names h = ap (λ (c : ℕ). slice_get (lines_by c said.calls) k) h.client ∙ ap (λ (n : ℕ). slice_get (lines_by p.number said.calls) n) (sym h.many)

pub next : (said : Session) (p : Client) (k : ℕ) (names : NamesView) (call : Call) → IsAt said p k names → MeansNow said names k call → IsNext said p call
next said p k names call h means =
    let it = made_of (λ (line : CallLine). meaning said (naming names.slots) line.call) (call_line said names.client k) call means in record {
      line = it.x;
      there = sym (line_at said p k names h) ∙ it.there;
      means = ap (λ n. meaning said n it.x.call) (sym h.learned) ∙ it.made;
    }

-- ---- before a call

pub step_room : (said : Session) (p : Client) (k : ℕ) (names : NamesView) (command : Command) → IsAt said p k names → MeansNow said names k (Step command) → steps_made p < step_count said p.number
step_room said p k names command h means =
    let it = next said p k names (Step command) h means in
    steps_left said p.number 0 no_names (lines_by p.number said.calls) p.own it.line h.front it.there (sym (kind said _ it.line.call) ∙ ap paints it.means)

pub paint_room : (said : Session) (p : Client) (k slot : ℕ) (names : NamesView) (paint : SomePaint) → IsAt said p k names → MeansNow said names k (Paint slot paint) → length (books_in p.own) < paint_count said p.number
paint_room said p k slot names paint h means =
    let it = next said p k names (Paint slot paint) h means in
    paints_left said p.number 0 no_names (lines_by p.number said.calls) p.own it.line h.front it.there (sym (kind said _ it.line.call) ∙ ap paints it.means)

pub paint_low : (said : Session) (k slot : ℕ) (names : NamesView) (paint : SomePaint) → IsSession said → AreSlots (naming names.slots) → MeansNow said names k (Paint slot paint) → slot < 33
paint_low said k slot names paint limits low means =
    let it = made_of (λ (line : CallLine). meaning said (naming names.slots) line.call) (call_line said names.client k) (Paint slot paint) means in
    subst (λ (s : ℕ). s < 33) (ap slot_in it.made) (meant_low said (naming names.slots) said.assets _ it.x.call low (call_within said names.client k it.x limits it.there))

-- ---- after a call

entries_more : (p q : Client) (made : OwnCall) → q.number ≡ p.number → q.own ≡ p.own ++ made ∷ [] → own_entries q ≡ own_entries p ++ call_entry p.number made ∷ []
entries_more p q made same own = ap (λ (l : List OwnCall). map (call_entry q.number) l) own ∙ ap (λ (n : ℕ). map (call_entry n) (p.own ++ made ∷ [])) same ∙ map-append (call_entry p.number) p.own (made ∷ [])

pub record HasGrown (said : Session) (p q : Client) (line : CallLine) (made : OwnCall) : Type 0 where
  pub front : IsFront said (own_entries q) q.number
  pub names : names_by said (own_entries q) q.number ≡ learned_by_entry (names_by said (own_entries p) p.number) line.call (call_entry p.number made)

pub grown : (said : Session) (p q : Client) (call : Call) (made : OwnCall) (it : IsNext said p call) → IsFront said (own_entries p) p.number → q.number ≡ p.number → q.own ≡ p.own ++ made ∷ []
    → IsCallOf p.number (length p.own) call (call_entry p.number made) → HasGrown said p q it.line made
grown said p q call made it front same own is =
    let many : length (own_entries p) ≡ length p.own = length-map p.own (call_entry p.number) in
    let lines = lines_by p.number said.calls in
    let more = longer said p.number 0 no_names lines (own_entries p) it.line (call_entry p.number made) front (ap (slice_get lines) many ∙ it.there)
    (subst (λ (n : ℕ). IsCallOf p.number n (meaning said (names_by said (own_entries p) p.number) it.line.call) (call_entry p.number made)) (let z : length p.own ≡ 0 + length (own_entries p) = omega arith in z)
    (subst (λ (c : Call). IsCallOf p.number (length p.own) c (call_entry p.number made)) (sym it.means) is)) in
    let entries = entries_more p q made same own in record {
      front = subst (λ (n : ℕ). IsFront said (own_entries q) n) (sym same) (subst (λ (l : List Entry). IsFront said l p.number) (sym entries) more.front);
      names = ap (λ (n : ℕ). names_by said (own_entries q) n) same ∙ ap (λ (l : List Entry). names_by said l p.number) entries ∙ more.names;
    }

-- after a paint
pub at_paint : (said : Session) (before after : PassView) (k slot : ℕ) (names : NamesView) (paint : SomePaint) (clip clip' : Rattle.clip_refetch.specs.Clips.ClipView) → IsAt said before.client k names → MeansNow said names k (Paint slot paint)
    → clip.slot ≡ slot → after.client.number ≡ before.client.number → HasDrawn before after clip clip' (paint_sheet paint) k → IsAt said after.client (k + 1) names
at_paint said before after k slot names paint clip clip' h means is_slot same drawn =
    let p = before.client in
    let it = next said p k names (Paint slot paint) h means in
    let more = grown said p after.client (Paint slot paint) (OwnPaint drawn.call) it h.front same drawn.own (refl, drawn.of_slot ∙ is_slot, drawn.tagged ∙ sym h.many, drawn.drawn) in record {
      client = h.client ∙ sym same;
      many = ap length drawn.own ∙ length-append p.own (OwnPaint drawn.call ∷ []) ∙ ap (λ (n : ℕ). n + 1) h.many;
      front = more.front;
      learned = h.learned ∙ sym more.names;
      slots = h.slots;
    }

-- after a command
pub step_grown : (said : Session) (p q : Client) (k : ℕ) (names : NamesView) (command : Command) (s : StepCall) (h : IsAt said p k names) (means : MeansNow said names k (Step command))
    → s.command ≡ command → q.number ≡ p.number → q.own ≡ p.own ++ OwnStep s ∷ [] → HasGrown said p q (next said p k names (Step command) h means).line (OwnStep s)
step_grown said p q k names command s h means is same own = grown said p q (Step command) (OwnStep s) (next said p k names (Step command) h means) h.front same own (refl, is)

pub at_step : (said : Session) (p q : Client) (k : ℕ) (names names' : NamesView) (command : Command) (s : StepCall) → IsAt said p k names → MeansNow said names k (Step command)
    → s.command ≡ command → q.number ≡ p.number → q.own ≡ p.own ++ OwnStep s ∷ [] → NamesSlot s.reply → names'.client ≡ names.client
    → option_map (λ (line : CallLine). learned (naming names.slots) line.call s.reply) (call_line said names.client k) ≡ Some (naming names'.slots) → IsAt said q (k + 1) names'
at_step said p q k names names' command s h means is same own low client told =
    let it = next said p k names (Step command) h means in
    let more = step_grown said p q k names command s h means is same own in
    let learnt = made_of (λ (line : CallLine). learned (naming names.slots) line.call s.reply) (call_line said names.client k) (naming names'.slots) told in
    let line : learnt.x ≡ it.line = some_same learnt.x it.line (sym learnt.there ∙ line_at said p k names h ∙ it.there) in record {
      client = client ∙ h.client ∙ sym same;
      many = ap length own ∙ length-append p.own (OwnStep s ∷ []) ∙ ap (λ (n : ℕ). n + 1) h.many;
      front = more.front;
      learned = sym learnt.made ∙ ap (λ (l : CallLine). learned (naming names.slots) l.call s.reply) line ∙ ap (λ n. learned n it.line.call s.reply) h.learned ∙ sym more.names;
      slots = subst AreSlots learnt.made (learned_slots (naming names.slots) learnt.x.call s.reply h.slots low);
    }

-- at the end
pub whole_at : (said : Session) (p : Client) (k : ℕ) (names : NamesView) → IsAt said p k names → k ≡ length (lines_by p.number said.calls) → IsWhole said (own_entries p) p.number
whole_at said p k names h all = all_made said p.number 0 no_names (lines_by p.number said.calls) (own_entries p) h.front (length-map p.own (call_entry p.number) ∙ h.many ∙ all)

-- ---- the limits

pub has_line : (said : Session) (names : NamesView) (k : ℕ) (call : Call) → MeansNow said names k call → k < length (lines_by names.client said.calls)
has_line said names k call means =
    let it = made_of (λ (line : CallLine). meaning said (naming names.slots) line.call) (call_line said names.client k) call means in
    slice_get_within (lines_by names.client said.calls) k it.x it.there

pub all_lines : (said : Session) (client : ℕ) → step_count said client + paint_count said client ≡ length (lines_by client said.calls)
all_lines said client = all_kinds (lines_by client said.calls)

pub within_after : (said : Session) (before after : PassView) → IsBack before after → IsWithinLimits said before → IsWithinLimits said after
within_after said before after back h = record {
  steps = subst (λ (n : ℕ). step_count said n ≤ after.client.step_limit) (sym back.number) (subst (λ (l : ℕ). step_count said before.client.number ≤ l) (sym back.step_limit) h.steps);
  paints = subst (λ (n : ℕ). paint_count said n ≤ after.book_limit) (sym back.number) (subst (λ (l : ℕ). paint_count said before.client.number ≤ l) (sym back.book_limit) h.paints);
}

-- ---- what the answers of calls say

pub on_ok : {T E : Type 0} {A B : Type 0} (r : Result T E) → (A → B) → OnOk r A → OnOk r B
on_ok (Ok x) f a = f a
on_ok (Err e) f a = tt

pub on_err : {T E : Type 0} {B : Type 0} (r : Result T E) → B → OnErr r B
on_err (Ok x) b = tt
on_err (Err e) b = b
