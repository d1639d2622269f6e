-- Comment lines that are due, and the history that they name.
use Rattle.std.proofs.Common.{◌≡◌, ℕ, ◌+◌, ◌<◌, ◌≤◌, ◌^◌, List, [], ◌∷◌, ◌++◌, map, length, take, get_or, Option, None, Some, refl, ap, sym, ◌∙◌, subst, arith, add-one, append-nil, append_assoc, length-append, inl, inr, suc, zero}
use Rattle.std.specs.Prelude.{All}
use Rattle.std.specs.Option.{option_map, option_to_list}
use Rattle.std.proofs.lemmas.Bool.{cases_lt}
use Rattle.std.proofs.lemmas.List.{take_more, map-append, length-map, get_or_append_left}
use Rattle.std.proofs.Math.Seq.{take-length, take-append_seam, get_or-append_seam}
use Rattle.std.proofs.lemmas.List.Elements.{All-nil, All-push}
use Rattle.std.proofs.lemmas.Option.{slice_get_past, slice_get-get_or}
use Rattle.qws_base.specs.Histories.{Entry, client_of_entry, calls_of}
use Rattle.qws_base.specs.Histories.Entry.{Step as StepEntry, Paint as PaintEntry}
use Rattle.script_grammar.specs.Session.{Session, lines_by}
use Rattle.script_grammar.specs.Limits.{IsSession}
use Rattle.session_journal.specs.Texts.{Told, told_call, comment, comments, comments_behind, entries_of}
use Rattle.session_journal.specs.Commented.{commented_client}
use Rattle.session_journal.proofs.CommentLemmas.{client_back}
use Rattle.session_replay.specs.Runs.{entry_behind, next_entry, named, IsRunOf}
use Rattle.session_replay.specs.Files.{named_by}
use Rattle.session_replay.specs.declared.callers.Caller.{Caller}
use Rattle.session_replay.specs.declared.answers.Answer.{Answer}
use Rattle.session_replay.specs.declared.replays.Replay.{Replay}
use Rattle.session_replay.specs.Steps.{IsCaller, AreCallers, AreAllMade, IsReplay, GoesOn, HasLeft, HasNone, answer_of, answer_words}
use Rattle.session_replay.specs.Verdicts.{next_comment, IsDue, AreDue, AreMade}
use Rattle.session_replay.proofs.Counts.{known_clients, no_lines}
use Rattle.session_replay.proofs.Named.{named_more, kept}
use Rattle.session_replay.proofs.LineOrder.{no_line}
use Rattle.session_replay.proofs.Turns.{told_entries, comments_more}
use Rattle.session_replay.proofs.Going.{next_client, caller_is}
use Rattle.session_replay.proofs.Running.{known_entry, run_next, run_named}

-- ---- next calls

-- a client of no lines, or none left, has no next call
pub none_next : (session : Session) (h : List Entry) (client : ℕ) → IsSession session → (client < session.clients → length (lines_by client session.calls) ≤ length (calls_of h client)) → next_entry session h client ≡ None
none_next session h client limits none = ap (option_map (entry_behind session h client)) (slice_get_past (lines_by client session.calls) (length (calls_of h client)) by_client)
  where
    by_client : length (lines_by client session.calls) ≤ length (calls_of h client)
    by_client = elim (cases_lt client session.clients) [
      | inl known ↦ none known
      | inr above ↦ omega (arith, ap length (no_lines session.clients client session.calls (known_clients session limits) above))
    ]

-- the entry of a client's next call, where it has one
abbrev pub entry_next : Session → List Entry → ℕ → Entry
entry_next session h client = entry_behind session h client (get_or (lines_by client session.calls) (length (calls_of h client)) no_line)

pub some_next : (session : Session) (h : List Entry) (client : ℕ) → length (calls_of h client) < length (lines_by client session.calls) → next_entry session h client ≡ Some (entry_next session h client)
some_next session h client left = ap (option_map (entry_behind session h client)) (slice_get-get_or (lines_by client session.calls) (length (calls_of h client)) no_line left)

-- a client with a next call is one of the session
pub next_known : (session : Session) (h : List Entry) (client : ℕ) (e : Entry) → IsSession session → next_entry session h client ≡ Some e → client < session.clients
next_known session h client e limits is = elim (cases_lt client session.clients) [
  | inl known ↦ known
  | inr above ↦ absurd (let none = none_next session h client limits (λ known. absurd (omega (arith, known, above))) in let h : ⊥ = cc in h)
]

-- named histories have entries of the session's clients alone
pub named_known : (session : Session) (clients : List ℕ) → IsSession session → All (λ e. client_of_entry e < session.clients) (named session clients)
named_known session clients limits =
    kept (All (λ e. client_of_entry e < session.clients)) session
    (λ h c e is all. All-push (λ (f : Entry). client_of_entry f < session.clients) h e all (subst (λ k. k < session.clients) (sym (next_client session h c e is)) (next_known session h c e limits is)))
    [] clients (All-nil (λ e. client_of_entry e < session.clients))

-- ---- what callers tell of next calls

no_caller : Caller
no_caller = record { names = record { client = 0; slots = [] }; made = 0; calls = 0 }

pub none_left : (session : Session) (h : List Entry) (callers : List Caller) (client : ℕ) → IsSession session → AreCallers session h callers → HasNone callers client → next_entry session h client ≡ None
none_left session h callers client limits are none =
    none_next session h client limits
    (λ known.
    let mine : IsCaller session h client (get_or callers client no_caller) = are.each client no_caller known in
    let done = none (omega (arith, known, are.many)) no_caller in
    omega (arith, mine.made, mine.calls, done))

pub one_left : (session : Session) (h : List Entry) (callers : List Caller) (client : ℕ) → AreCallers session h callers → HasLeft callers client → length (calls_of h client) < length (lines_by client session.calls)
one_left session h callers client are has =
    let mine : IsCaller session h client (get_or callers client no_caller) = are.each client no_caller (omega (arith, has.known, are.many)) in
    let left = has.left no_caller in
    omega (arith, mine.made, mine.calls, left)

pub made_all : (session : Session) (h : List Entry) (callers : List Caller) → AreCallers session h callers → AreAllMade callers → AreMade session h
made_all session h callers are made = λ client known.
    let mine : IsCaller session h client (get_or callers client no_caller) = are.each client no_caller known in
    let done : (get_or callers client no_caller).made ≡ (get_or callers client no_caller).calls = made client no_caller (omega (arith, known, are.many)) in
    sym mine.made ∙ done ∙ mine.calls

pub all_made : (session : Session) (h : List Entry) (callers : List Caller) → AreCallers session h callers → AreMade session h → AreAllMade callers
all_made session h callers are made = λ client d below.
    let known : client < session.clients = omega (arith, below, are.many) in
    let mine : IsCaller session h client (get_or callers client d) = are.each client d known in
    mine.made ∙ made client known ∙ sym mine.calls

-- ---- the comment of an entry

told_client : (e : Entry) → (told_call e).client ≡ client_of_entry e
told_client (StepEntry client command reply) = refl
told_client (PaintEntry client slot tag sheet reply) = refl

abbrev pub due_comment : List Entry → Entry → List ℕ
due_comment h e = comment (told_call e).client (entries_of (told_call e).client (map told_call h)) (told_call e).words

-- by the client that makes the call
comment_by : (h : List Entry) (e : Entry) (client : ℕ) → client_of_entry e ≡ client → due_comment h e ≡ comment client (length (calls_of h client)) (told_call e).words
comment_by h e client by =
    let same : (told_call e).client ≡ client = told_client e ∙ by in
    ap (λ (n : ℕ). comment (told_call e).client n (told_call e).words) (told_entries (told_call e).client h)
    ∙ ap (λ (c : ℕ). comment c (length (calls_of h c)) (told_call e).words) same

pub next_is : (session : Session) (h : List Entry) (client : ℕ) (e : Entry) → next_entry session h client ≡ Some e → next_comment session h client ≡ Some (due_comment h e)
next_is session h client e is =
    ap (option_map (λ (f : Entry). comment client (length (calls_of h client)) (told_call f).words)) is
    ∙ ap Some (sym (comment_by h e client (next_client session h client e is)))

-- by its answer
words_of_answer : (e : Entry) → (told_call e).words ≡ answer_words (answer_of e)
words_of_answer (StepEntry client command reply) = refl
words_of_answer (PaintEntry client slot tag sheet reply) = refl

pub next_by_answer : (session : Session) (h : List Entry) (client made : ℕ) (e : Entry) (answer : Answer) → next_entry session h client ≡ Some e → made ≡ length (calls_of h client) → answer ≡ answer_of e → next_comment session h client ≡ Some (comment client made (answer_words answer))
next_by_answer session h client made e answer is number answered =
    ap (option_map (λ (f : Entry). comment client (length (calls_of h client)) (told_call f).words)) is
    ∙ ap (λ (n : ℕ). Some (comment client n (told_call e).words)) (sym number)
    ∙ ap (λ (ws : List ℕ). Some (comment client made ws)) (words_of_answer e ∙ ap answer_words (sym answered))

-- ---- lines that are due name a history whose comments they are

-- one line more
pub named_line : (session : Session) (lines : List (List ℕ)) (k : ℕ) → k < length lines
    → named_by session (take (k + 1) lines) ≡ named_by session (take k lines) ++ option_to_list (next_entry session (named_by session (take k lines)) (commented_client (get_or lines k [])))
named_line session lines k below =
    let clients : List (List ℕ) → List ℕ = map commented_client in
    ap (λ (ls : List (List ℕ)). named session (clients ls)) (take_more lines k [] below)
    ∙ ap (named session) (map-append commented_client (take k lines) (get_or lines k [] ∷ []))
    ∙ named_more session [] (clients (take k lines)) (commented_client (get_or lines k []))

-- what a call tells of the line that it is held against: the text that is due there, and what the replay is behind then
pub record Tells (session : Session) (lines : List (List ℕ)) (k : ℕ) (text : List ℕ) (after : Replay) : Type 0 where
  pub comment_is : next_comment session (named_by session (take k lines)) (commented_client (get_or lines k [])) ≡ Some text
  pub behind : IsReplay session (named_by session (take (k + 1) lines)) after

pub call_tells : (session : Session) (lines : List (List ℕ)) (k : ℕ) (line : List ℕ) (client : ℕ) (before after : Replay) (caller : Caller) (answer : Answer) (text : List ℕ) → k < length lines → line ≡ get_or lines k [] → client ≡ commented_client line
    → IsReplay session (named_by session (take k lines)) before → HasLeft before.callers.items client → caller ≡ get_or before.callers.items client caller → GoesOn session client before after answer → text ≡ comment client caller.made (answer_words answer)
    → Tells session lines k text after
call_tells session lines k line client before after caller answer text below line_is client_is replay has at goes text_is =
    let h : List Entry = named_by session (take k lines) in
    let named_there : client ≡ commented_client (get_or lines k []) = client_is ∙ ap commented_client line_is in
    let e : Entry = entry_next session h client in
    let next : next_entry session h client ≡ Some e = some_next session h client (one_left session h before.callers.items client replay.callers has) in
    let made = goes h e next replay in
    let mine : IsCaller session h client caller = caller_is session h client before.callers.items caller replay.callers (omega (arith, has.known, replay.callers.many)) at in
    record {
      comment_is = subst (λ n. next_comment session h n ≡ Some text) named_there (next_by_answer session h client caller.made e answer next mine.made made.1 ∙ ap Some (sym text_is));
      behind = subst (λ (g : List Entry). IsReplay session g after)
          (sym (named_line session lines k below ∙ ap (λ n. h ++ option_to_list (next_entry session h n)) (sym named_there) ∙ ap (λ (o : Option Entry). h ++ option_to_list o) next)) made.0;
    }

pub due_if : (session : Session) (lines : List (List ℕ)) (k : ℕ) (line text : List ℕ) (after : Replay) → line ≡ get_or lines k [] → Tells session lines k text after → text ≡ line → IsDue session lines k
due_if session lines k line text after line_is tells same = tells.comment_is ∙ ap Some (same ∙ line_is)

some_texts : (one two : List ℕ) → ◌≡◌ {A = Option (List ℕ)} (Some one) (Some two) → one ≡ two
some_texts one two same = cc

pub undue_if : (session : Session) (lines : List (List ℕ)) (k : ℕ) (line text : List ℕ) (after : Replay) → line ≡ get_or lines k [] → Tells session lines k text after → ¬ (text ≡ line) → ¬ IsDue session lines k
undue_if session lines k line text after line_is tells other = λ due. other (some_texts text (get_or lines k []) (sym tells.comment_is ∙ due) ∙ sym line_is)

-- a line of a client that has no call left isn't due
pub undue_none : (session : Session) (lines : List (List ℕ)) (k : ℕ) (line : List ℕ) (replay : Replay) → IsSession session → IsReplay session (named_by session (take k lines)) replay → line ≡ get_or lines k [] → HasNone replay.callers.items (commented_client line) → ¬ IsDue session lines k
undue_none session lines k line replay limits behind line_is none = λ due.
    let h : List Entry = named_by session (take k lines) in
    let nothing : next_entry session h (commented_client line) ≡ None = none_left session h replay.callers.items (commented_client line) limits behind.callers none in
    let no_comment : next_comment session h (commented_client line) ≡ None = ap (option_map (λ (f : Entry). comment (commented_client line) (length (calls_of h (commented_client line))) (told_call f).words)) nothing in
    none_some_text (get_or lines k []) (sym (subst (λ (l : List ℕ). next_comment session h (commented_client l) ≡ None) line_is no_comment) ∙ due)
  where
    none_some_text : (text : List ℕ) → ◌≡◌ {A = Option (List ℕ)} None (Some text) → ⊥
    none_some_text text same = cc

-- what a line that is due tells
record DueOf (session : Session) (h : List Entry) (client : ℕ) (line : List ℕ) : Type 0 where
  entry : Entry
  next : next_entry session h client ≡ Some entry
  line_is : line ≡ due_comment h entry

due_of : (session : Session) (h : List Entry) (client : ℕ) (line : List ℕ) → next_comment session h client ≡ Some line → DueOf session h client line
due_of session h client line is = by_next (next_entry session h client) refl is
  where
    by_next : (o : Option Entry) → next_entry session h client ≡ o → option_map (λ (f : Entry). comment client (length (calls_of h client)) (told_call f).words) o ≡ Some line → DueOf session h client line
    by_next None found made = absurd (let h : ⊥ = cc in h)
    by_next (Some e) found made =
        let same : comment client (length (calls_of h client)) (told_call e).words ≡ line = cc in
        record { entry = e; next = found; line_is = sym same ∙ sym (comment_by h e client (next_client session h client e found)) }

due_front : (session : Session) (lines : List (List ℕ)) (k : ℕ) → k ≤ length lines → AreDue session lines → take k lines ≡ comments (map told_call (named_by session (take k lines)))
due_front session lines zero within due = refl
due_front session lines (suc k) within due =
    let below : k < length lines = omega arith in
    let h : List Entry = named_by session (take k lines) in
    let line : List ℕ = get_or lines k [] in
    let here : DueOf session h (commented_client line) line = due_of session h (commented_client line) line (due k below) in
    let more : named_by session (take (k + 1) lines) ≡ h ++ here.entry ∷ [] = named_line session lines k below ∙ ap (λ (o : Option Entry). h ++ option_to_list o) here.next in
    rw (← add-one) (
    take_more lines k [] below
    ∙ ap (λ (ls : List (List ℕ)). ls ++ line ∷ []) (due_front session lines k (omega arith) due)
    ∙ ap (λ (l : List ℕ). comments (map told_call h) ++ l ∷ []) here.line_is
    ∙ sym (comments_more h here.entry)
    ∙ ap (λ (g : List Entry). comments (map told_call g)) (sym more))

pub due_lines : (session : Session) (lines : List (List ℕ)) → AreDue session lines → lines ≡ comments (map told_call (named_by session lines))
due_lines session lines due =
    sym (take-length lines)
    ∙ due_front session lines (length lines) (omega arith) due
    ∙ ap (λ (ls : List (List ℕ)). comments (map told_call (named_by session ls))) (take-length lines)

-- ---- the comments of a run are due

-- a comment names the client of its entry
names_client : (before : List Told) (e : Entry) → client_of_entry e < 2 ^ 32 → commented_client (comment (told_call e).client (entries_of (told_call e).client before) (told_call e).words) ≡ client_of_entry e
names_client before (StepEntry client command reply) low = client_back client (entries_of client before) (told_call (StepEntry client command reply)).words low
names_client before (PaintEntry client slot tag sheet reply) low = client_back client (entries_of client before) (told_call (PaintEntry client slot tag sheet reply)).words low

clients_told : (before : List Told) (h : List Entry) → All (λ e. client_of_entry e < 2 ^ 32) h → map commented_client (comments_behind before (map told_call h)) ≡ map client_of_entry h
clients_told before [] small = refl
clients_told before (e ∷ h) small =
    ap (λ (k : ℕ). k ∷ map commented_client (comments_behind (before ++ told_call e ∷ []) (map told_call h))) (names_client before e (small 0 e (omega arith)))
    ∙ ap (λ (ks : List ℕ). client_of_entry e ∷ ks) (clients_told (before ++ told_call e ∷ []) h (λ k d below. small (suc k) d (omega (arith, below))))

comments_append : (before front rest : List Told) → comments_behind before (front ++ rest) ≡ comments_behind before front ++ comments_behind (before ++ front) rest
comments_append before [] rest = ap (λ (b : List Told). comments_behind b rest) (sym (append-nil before))
comments_append before (t ∷ front) rest =
    ap (λ (ls : List (List ℕ)). comment t.client (entries_of t.client before) t.words ∷ ls)
    (comments_append (before ++ t ∷ []) front rest ∙ ap (λ (b : List Told). comments_behind (before ++ t ∷ []) front ++ comments_behind b rest) (append_assoc before (t ∷ []) front))

comments_length : (before entries : List Told) → length (comments_behind before entries) ≡ length entries
comments_length before [] = refl
comments_length before (t ∷ entries) = ap suc (comments_length (before ++ t ∷ []) entries)

-- the comments around an entry
around : (front rest : List Entry) (e : Entry) → comments (map told_call (front ++ e ∷ rest)) ≡ comments (map told_call front) ++ due_comment front e ∷ comments_behind (map told_call front ++ told_call e ∷ []) (map told_call rest)
around front rest e =
    ap comments (map-append told_call front (e ∷ rest)) ∙ comments_append [] (map told_call front) (map told_call (e ∷ rest))

front_length : (front : List Entry) → length (comments (map told_call front)) ≡ length front
front_length front = comments_length [] (map told_call front) ∙ length-map front told_call

small_front : (n : ℕ) (front rest : List Entry) → n ≤ 16 → All (λ e. client_of_entry e < n) (front ++ rest) → All (λ e. client_of_entry e < 2 ^ 32) front
small_front n front rest few each = λ k d below.
    let at : client_of_entry (get_or (front ++ rest) k d) < n = each k d (omega (arith, below, length-append front rest)) in
    let same : client_of_entry (get_or (front ++ rest) k d) ≡ client_of_entry (get_or front k d) = ap client_of_entry (get_or_append_left front rest d k below) in
    omega (arith, at, same, few)

-- the comments of a front of a run name it
pub front_named : (session : Session) (front rest : List Entry) → IsSession session → IsRunOf session (front ++ rest) → named_by session (comments (map told_call front)) ≡ front
front_named session front rest limits run =
    ap (named session) (clients_told [] front (small_front session.clients front rest limits.clients run.no_other))
    ∙ run_named session [] front rest run

due_seam : (session : Session) (first later : List (List ℕ)) (line : List ℕ) → next_comment session (named_by session first) (commented_client line) ≡ Some line → IsDue session (first ++ line ∷ later) (length first)
due_seam session first later line due =
    let all : List (List ℕ) = first ++ line ∷ later in
    subst (λ (ls : List (List ℕ)). next_comment session (named_by session ls) (commented_client (get_or all (length first) [])) ≡ Some (get_or all (length first) [])) (sym (take-append_seam first (line ∷ later)))
    (subst (λ (l : List ℕ). next_comment session (named_by session first) (commented_client l) ≡ Some l) (sym (get_or-append_seam first line later [])) due)

due_at : (session : Session) (front rest : List Entry) (e : Entry) → IsSession session → IsRunOf session (front ++ e ∷ rest) → IsDue session (comments (map told_call (front ++ e ∷ rest))) (length front)
due_at session front rest e limits run =
    let first : List (List ℕ) = comments (map told_call front) in
    let later : List (List ℕ) = comments_behind (map told_call front ++ told_call e ∷ []) (map told_call rest) in
    let line : List ℕ = due_comment front e in
    let low : client_of_entry e < 2 ^ 32 = omega (arith, known_entry session.clients front rest e run.no_other, limits.clients) in
    let due : next_comment session (named_by session first) (commented_client line) ≡ Some line =
    ap (λ (g : List Entry). next_comment session g (commented_client line)) (front_named session front (e ∷ rest) limits run)
    ∙ ap (next_comment session front) (names_client (map told_call front) e low)
    ∙ next_is session front (client_of_entry e) e (run_next session front rest e run) in
    subst (λ (ls : List (List ℕ)). IsDue session ls (length front)) (sym (around front rest e))
    (subst (IsDue session (first ++ line ∷ later)) (front_length front) (due_seam session first later line due))

due_from : (session : Session) (front rest : List Entry) (k : ℕ) → IsSession session → IsRunOf session (front ++ rest) → length front ≤ k → k < length (front ++ rest) → IsDue session (comments (map told_call (front ++ rest))) k
due_from session front [] k limits run from below = absurd (omega (arith, from, below, length-append front []))
due_from session front (e ∷ rest) k limits run from below = elim (cases_lt (length front) k) [
  | inl later ↦
      let all : front ++ e ∷ rest ≡ (front ++ e ∷ []) ++ rest = sym (append_assoc front (e ∷ []) rest) in
      subst (λ (h : List Entry). IsDue session (comments (map told_call h)) k) (sym all)
      (due_from session (front ++ e ∷ []) rest k limits (subst (IsRunOf session) all run) (omega (arith, later, length-append front (e ∷ []))) (omega (arith, below, ap length all)))
  | inr here ↦
      let same : length front ≡ k = omega (arith, here, from) in
      subst (IsDue session (comments (map told_call (front ++ e ∷ rest)))) same (due_at session front rest e limits run)
]

pub run_due : (session : Session) (h : List Entry) → IsSession session → IsRunOf session h → AreDue session (comments (map told_call h))
run_due session h limits run = λ k below. due_from session [] h k limits run (omega arith) (omega (arith, below, front_length h))
