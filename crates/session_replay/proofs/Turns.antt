-- What a run holds after one more line.
use Rattle.std.proofs.Common.{◌≡◌, ℕ, ◌+◌, ◌<◌, ◌^◌, List, [], ◌∷◌, ◌++◌, length, map, suc, get_or, set, Some, Bool, true, false, cond, ◌==◌, refl, ap, sym, ◌∙◌, subst, arith, append-nil, append_assoc, length-append, inl, inr}
use Rattle.std.specs.Prelude.{slice_get, All}
use lib.Chars.{codes}
use Rattle.std.specs.List.{flat_map, filter}
use Rattle.std.proofs.lemmas.List.{map-append, get_or-set_other, get_or-set_same, length-set}
use Rattle.std.proofs.lemmas.List.Concat.{flat_map-append}
use Rattle.std.proofs.lemmas.List.Elements.{All-push}
use Rattle.std.proofs.lemmas.Bool.{cases_eq, eq-eqb}
use Rattle.std.proofs.lemmas.Bool.Decides.{nat_tests}
use Rattle.qws_base.specs.Scenes.{Setting}
use Rattle.qws_base.specs.Histories.{Entry, World, client_of_entry, calls_of, next_world, opening_world, world_after}
use Rattle.qws_base.specs.Histories.Entry.{Step as StepEntry, Paint as PaintEntry}
use Rattle.window_core.specs.CoreViews.{CoreView}
use Rattle.pixel_model.specs.Drawn.{Drawn}
use Rattle.script_grammar.specs.Session.{Session, session_setting, lines_by, call_line}
use Rattle.script_names.specs.Naming.{Naming, naming, no_names, learned_by_entry, names_after}
use Rattle.script_grammar.specs.declared.lines.CallLine.{CallLine}
use Rattle.script_grammar.specs.declared.lines.LineCall.{LineCall}
use Rattle.session_replay.specs.declared.answers.Answer.{Answer}
use Rattle.session_replay.specs.declared.callers.Caller.{Caller}
use Rattle.session_journal.specs.Texts.{Told, told_call, comment, comments, entries_of, line_text, reply_words, paint_words}
use Rattle.session_journal.specs.Grammar.{IsComment}
use Rattle.session_journal.proofs.LineLemmas.{comments_behind-more}
use Rattle.session_replay.specs.Steps.{answer_of, answer_words, learned_by_answer, IsCaller, AreCallers, IsWorld, IsCommented, IsNextWorld}
use Rattle.session_replay.proofs.Named.{world_more, calls_more}

-- ---- the world

pub world_next : (session : Session) (h : List Entry) (e : Entry) (core new_core : CoreView) (canvas new_canvas : Drawn) → IsWorld session h core canvas → new_core.size ≡ core.size → new_core.backdrop ≡ core.backdrop → new_canvas.setting ≡ canvas.setting → IsNextWorld (session_setting session) (world_after (session_setting session) h) e new_core.state new_canvas.scene → IsWorld session (h ++ e ∷ []) new_core new_canvas
world_next session h e core new_core canvas new_canvas is size backdrop setting next =
    let setting_is : Setting = session_setting session in
    let after : world_after setting_is (h ++ e ∷ []) ≡ next_world setting_is (world_after setting_is h) e = world_more setting_is (opening_world setting_is) h e in
    record {
      size = size ∙ is.size;
      backdrop = backdrop ∙ is.backdrop;
      setting = setting ∙ is.setting;
      state = next.state_is ∙ ap (λ (w : World). w.state) (sym after);
      scene = next.scene_is ∙ ap (λ (w : World). w.scene) (sym after);
    }

-- ---- the comments

-- a client's entries are as many as are told of it
pub told_entries : (client : ℕ) (h : List Entry) → entries_of client (map told_call h) ≡ length (calls_of h client)
told_entries client [] = refl
told_entries client (e ∷ h) = one_more e (told_entries client h)
  where
    same : (b : Bool) (es : List Entry) (ts : List Told) (t : Told) → length ts ≡ length es → length (cond b (t ∷ ts) ts) ≡ length (cond b (e ∷ es) es)
    same true es ts t is = ap suc is
    same false es ts t is = is

    one_more : (f : Entry) → entries_of client (map told_call h) ≡ length (calls_of h client) → length (cond ((told_call f).client == client) (told_call f ∷ filter (λ t. t.client == client) (map told_call h)) (filter (λ t. t.client == client) (map told_call h))) ≡ length (cond (client_of_entry f == client) (e ∷ calls_of h client) (calls_of h client))
    one_more (StepEntry c command reply) is = same (c == client) (calls_of h client) (filter (λ t. t.client == client) (map told_call h)) (told_call (StepEntry c command reply)) is
    one_more (PaintEntry c slot tag sheet reply) is = same (c == client) (calls_of h client) (filter (λ t. t.client == client) (map told_call h)) (told_call (PaintEntry c slot tag sheet reply)) is

-- the comment of an entry behind a history, with its answer's words
pub comment_of : (h : List Entry) (e : Entry) (client made : ℕ) (answer : Answer) → client_of_entry e ≡ client → made ≡ length (calls_of h client) → answer ≡ answer_of e
    → comment client made (answer_words answer) ≡ comment (told_call e).client (entries_of (told_call e).client (map told_call h)) (told_call e).words
comment_of h e client made answer by_client number answered =
    by_kind e answered by_client
    ∙ ap (λ (n : ℕ). comment (told_call e).client n (told_call e).words) (number ∙ ap (λ (c : ℕ). length (calls_of h c)) (sym (by_client' e)) ∙ sym (told_entries (told_call e).client h))
  where
    same_client : (f : Entry) → client_of_entry f ≡ (told_call f).client
    same_client (StepEntry c command reply) = refl
    same_client (PaintEntry c slot tag sheet reply) = refl

    by_client' : (f : Entry) → (told_call e).client ≡ client
    by_client' f = sym (same_client e) ∙ by_client

    by_kind : (f : Entry) → answer ≡ answer_of f → client_of_entry f ≡ client → comment client made (answer_words answer) ≡ comment (told_call f).client made (told_call f).words
    by_kind (StepEntry c command reply) is own = ap (λ (a : Answer). comment client made (answer_words a)) is ∙ ap (λ (k : ℕ). comment k made (reply_words reply)) (sym own)
    by_kind (PaintEntry c slot tag sheet reply) is own = ap (λ (a : Answer). comment client made (answer_words a)) is ∙ ap (λ (k : ℕ). comment k made (paint_words reply)) (sym own)

-- the comments of one entry more
pub comments_more : (h : List Entry) (e : Entry) → comments (map told_call (h ++ e ∷ [])) ≡ comments (map told_call h) ++ comment (told_call e).client (entries_of (told_call e).client (map told_call h)) (told_call e).words ∷ []
comments_more h e = ap comments (map-append told_call h (e ∷ [])) ∙ comments_behind-more [] (map told_call h) (told_call e)

pub commented_next : (h : List Entry) (e : Entry) (text new : List ℕ) (client made : ℕ) (answer : Answer) → IsCommented h text → client_of_entry e ≡ client → made ≡ length (calls_of h client) → answer ≡ answer_of e
    → new ≡ text ++ line_text (comment client made (answer_words answer)) → (length h < 2 ^ 32 → IsComment (comment client made (answer_words answer))) → IsCommented (h ++ e ∷ []) new
commented_next h e text new client made answer is by_client number answered written fits =
    let line : List ℕ = comment client made (answer_words answer) in
    let all : comments (map told_call (h ++ e ∷ [])) ≡ comments (map told_call h) ++ line ∷ [] =
    comments_more h e ∙ ap (λ (l : List ℕ). comments (map told_call h) ++ l ∷ []) (sym (comment_of h e client made answer by_client number answered)) in
    record {
      text_is = written ∙ ap (λ (t : List ℕ). t ++ line_text line) is.text_is ∙ append_assoc (codes "P6\n") (flat_map line_text (comments (map told_call h))) (line_text line)
          ∙ ap (λ (t : List ℕ). codes "P6\n" ++ t) (ap (λ (l : List ℕ). flat_map line_text (comments (map told_call h)) ++ l) (sym (append-nil (line_text line))) ∙ sym (flat_map-append line_text (comments (map told_call h)) (line ∷ [])) ∙ ap (flat_map line_text) (sym all));
      lines = λ few.
          let long : length (h ++ e ∷ []) ≡ length h + 1 = length-append h (e ∷ []) in
          let less : length h < 2 ^ 32 = omega (arith, long, few) in
          subst (All IsComment) (sym all) (All-push IsComment (comments (map told_call h)) line (is.lines less) (fits less));
    }

-- ---- the callers

learned_same : (slots : Naming) (call : LineCall) (e : Entry) → learned_by_entry slots call e ≡ learned_by_answer slots call (answer_of e)
learned_same slots call (StepEntry client command reply) = refl
learned_same slots call (PaintEntry client slot tag sheet reply) = refl

-- one more entry gives the names of its line
names_snoc : (slots : Naming) (lines : List CallLine) (entries : List Entry) (line : CallLine) (e : Entry) → slice_get lines (length entries) ≡ Some line → names_after slots lines (entries ++ e ∷ []) ≡ learned_by_entry (names_after slots lines entries) line.call e
names_snoc slots [] entries line e found = cc
names_snoc slots (l ∷ []) [] line e found = let is : l ≡ line = cc in ap (λ (x : CallLine). learned_by_entry slots x.call e) is
names_snoc slots (l ∷ m ∷ lines) [] line e found = let is : l ≡ line = cc in ap (λ (x : CallLine). learned_by_entry slots x.call e) is
names_snoc slots (l ∷ lines) (f ∷ entries) line e found = names_snoc (learned_by_entry slots l.call f) lines entries line e found

other_caller : (session : Session) (h : List Entry) (e : Entry) (client : ℕ) (caller : Caller) → (client_of_entry e == client) ≡ false → IsCaller session h client caller → IsCaller session (h ++ e ∷ []) client caller
other_caller session h e client caller other is =
    let same : calls_of (h ++ e ∷ []) client ≡ calls_of h client = calls_more h e client ∙ ap (λ b. calls_of h client ++ cond b (e ∷ []) []) other ∙ append-nil (calls_of h client) in
    record {
      client_is = is.client_is;
      slots = is.slots ∙ ap (λ (cs : List Entry). names_after no_names (lines_by client session.calls) cs) (sym same);
      made = is.made ∙ ap length (sym same);
      calls = is.calls;
    }

own_caller : (session : Session) (h : List Entry) (e : Entry) (client : ℕ) (caller new : Caller) (line : CallLine) → client_of_entry e ≡ client → call_line session client (length (calls_of h client)) ≡ Some line → IsCaller session h client caller → new.names.client ≡ client → new.calls ≡ caller.calls → new.made ≡ caller.made + 1 → naming new.names.slots ≡ learned_by_entry (naming caller.names.slots) line.call e → IsCaller session (h ++ e ∷ []) client new
own_caller session h e client caller new line own found is stays all more learns =
    let same : calls_of (h ++ e ∷ []) client ≡ calls_of h client ++ e ∷ [] = calls_more h e client ∙ ap (λ b. calls_of h client ++ cond b (e ∷ []) []) (eq-eqb (client_of_entry e) client own) in
    record {
      client_is = stays;
      slots = learns ∙ ap (λ (ps : Naming). learned_by_entry ps line.call e) is.slots ∙ sym (names_snoc no_names (lines_by client session.calls) (calls_of h client) line e found) ∙ ap (names_after no_names (lines_by client session.calls)) (sym same);
      made = more ∙ omega (arith, is.made, ap length same ∙ length-append (calls_of h client) (e ∷ []));
      calls = all ∙ is.calls;
    }

pub callers_next : (session : Session) (h : List Entry) (e : Entry) (line : CallLine) (callers : List Caller) (client : ℕ) (caller new : Caller) (answer : Answer) → AreCallers session h callers → client < session.clients → caller ≡ get_or callers client caller
    → client_of_entry e ≡ client → call_line session client (length (calls_of h client)) ≡ Some line → answer ≡ answer_of e → new.names.client ≡ caller.names.client → new.calls ≡ caller.calls → new.made ≡ caller.made + 1 → naming new.names.slots ≡ learned_by_answer (naming caller.names.slots) line.call answer
    → AreCallers session (h ++ e ∷ []) (set callers client new)
callers_next session h e line callers client caller new answer are within at own found answered stays all more learns =
    let mine : IsCaller session h client caller = subst (IsCaller session h client) (sym at) (are.each client caller within) in
    record {
      many = length-set callers client new ∙ are.many;
      each = λ c d known. elim (cases_eq c client) [
        | inl same ↦ subst (λ (x : Caller). IsCaller session (h ++ e ∷ []) c x) (sym (ap (λ (k : ℕ). get_or (set callers client new) k d) same ∙ get_or-set_same callers client new d (omega (arith, are.many))))
            (subst (λ (k : ℕ). IsCaller session (h ++ e ∷ []) k new) (sym same) (own_caller session h e client caller new line own found mine (stays ∙ mine.client_is) all more
            (learns ∙ ap (learned_by_answer (naming caller.names.slots) line.call) answered ∙ sym (learned_same (naming caller.names.slots) line.call e))))
        | inr apart ↦ subst (λ (x : Caller). IsCaller session (h ++ e ∷ []) c x) (sym (get_or-set_other callers client c new d apart)) (other_caller session h e c (get_or callers c d) (let e_client : client_of_entry e ≡ client = own in grind (arith, nat_tests)) (are.each c d known))
      ];
    }
