-- The history in the order of the lines, line by line.
use Rattle.std.proofs.Common.{◌≡◌, ℕ, ◌+◌, ◌<◌, ◌≤◌, List, [], ◌∷◌, ◌++◌, map, length, take, get_or, Option, Some, Bool, true, false, cond, ◌==◌, refl, ap, sym, ◌∙◌, subst, arith, add-one, suc, zero}
use Rattle.std.specs.Prelude.{slice_get, All}
use Rattle.std.specs.List.{filter}
use Rattle.std.specs.Option.{option_map, option_to_list}
use Rattle.std.proofs.lemmas.List.{take_more, map-append, take-map, get_or-map, length-map, length-take}
use Rattle.std.proofs.Math.Seq.{take-length}
use Rattle.std.proofs.lemmas.List.Elements.{All-cons, All-nil}
use Rattle.std.proofs.lemmas.Bool.{eq-eqb}
use Rattle.qws_base.specs.Histories.{Entry, client_of_entry, calls_of, world_after}
use Rattle.script_grammar.specs.Session.{Session, session_setting, is_by, lines_by, call_line}
use Rattle.script_grammar.specs.Limits.{IsSession}
use Rattle.script_grammar.specs.declared.lines.CallLine.{CallLine}
use Rattle.script_grammar.specs.declared.lines.LineCall.TheVariants.{Create}
use Rattle.session_replay.specs.Runs.{entry_behind, next_entry, named, in_order, IsRunOf}
use Rattle.session_replay.proofs.Counts.{known_clients}
use Rattle.session_replay.proofs.Named.{named_more, named_legal, named_whole, entry_client}

-- a line where there is none
abbrev pub no_line : CallLine
no_line = record { client = 0; call = Create [] 0 }

-- the clients of the first lines, in order
abbrev pub first_clients : Session → ℕ → List ℕ
first_clients session j = map (λ line. line.client) (take j session.calls)

-- the history of the first lines
abbrev pub front : Session → ℕ → List Entry
front session j = named session (first_clients session j)

-- line j; past the last one some line that says nothing
abbrev pub line_at : Session → ℕ → CallLine
line_at session j = get_or session.calls j no_line

-- the elements that pass, and the one that passes at a place
pub kth : {X : Type 0} (p : X → Bool) (xs : List X) (j : ℕ) (d : X) → j < length xs → p (get_or xs j d) ≡ true → slice_get (filter p xs) (length (filter p (take j xs))) ≡ Some (get_or xs j d)
kth p [] j d below passes = absurd (omega arith)
kth p (x ∷ xs) zero d below passes = ap (λ b. slice_get (cond b (x ∷ filter p xs) (filter p xs)) 0) passes
kth p (x ∷ xs) (suc j) d below passes = by_test (p x) (kth p xs j d (omega arith) passes)
  where
    by_test : (b : Bool) → slice_get (filter p xs) (length (filter p (take j xs))) ≡ Some (get_or xs j d) → slice_get (cond b (x ∷ filter p xs) (filter p xs)) (length (cond b (x ∷ filter p (take j xs)) (filter p (take j xs)))) ≡ Some (get_or xs j d)
    by_test true found = found
    by_test false found = found

-- a client has as many calls as lines where the clients stand in the same order
pub same_count : (client : ℕ) (h : List Entry) (lines : List CallLine) → map client_of_entry h ≡ map (λ l. l.client) lines → length (calls_of h client) ≡ length (filter (is_by client) lines)
same_count client [] [] same = refl
same_count client [] (l ∷ lines) same = cc
same_count client (e ∷ h) [] same = cc
same_count client (e ∷ h) (l ∷ lines) same =
    let first : client_of_entry e ≡ l.client = cc in
    let rest : map client_of_entry h ≡ map (λ (l : CallLine). l.client) lines = cc in
    one_more (client_of_entry e == client) (l.client == client) (calls_of h client) (filter (is_by client) lines) (ap (λ k. k == client) first) (same_count client h lines rest)
  where
    one_more : (b d : Bool) (es : List Entry) (ls : List CallLine) → b ≡ d → length es ≡ length ls → length (cond b (e ∷ es) es) ≡ length (cond d (l ∷ ls) ls)
    one_more true true es ls same_test many = ap suc many
    one_more false false es ls same_test many = many
    one_more true false es ls same_test many = cc
    one_more false true es ls same_test many = cc

-- the line of a client's next call, where the lines before have made their calls
pub next_line_is : (session : Session) (j : ℕ) → j < length session.calls → map client_of_entry (front session j) ≡ first_clients session j → call_line session (line_at session j).client (length (calls_of (front session j) (line_at session j).client)) ≡ Some (line_at session j)
next_line_is session j below same =
    let line : CallLine = line_at session j in
    ap (slice_get (lines_by line.client session.calls)) (same_count line.client (front session j) (take j session.calls) same)
    ∙ kth (is_by line.client) session.calls j no_line below (eq-eqb line.client line.client refl)

-- one more line
pub front_more : (session : Session) (j : ℕ) → j < length session.calls → map client_of_entry (front session j) ≡ first_clients session j → front session (j + 1) ≡ front session j ++ entry_behind session (front session j) (line_at session j).client (line_at session j) ∷ []
front_more session j below same =
    let line : CallLine = line_at session j in
    ap (named session) (ap (map (λ (l : CallLine). l.client)) (take_more session.calls j no_line below) ∙ map-append (λ (l : CallLine). l.client) (take j session.calls) (line ∷ []))
    ∙ named_more session [] (first_clients session j) line.client
    ∙ ap (λ (o : Option Entry). front session j ++ option_to_list o) (ap (option_map (entry_behind session (front session j) line.client)) (next_line_is session j below same))

pub front_clients : (session : Session) (j : ℕ) → j ≤ length session.calls → map client_of_entry (front session j) ≡ first_clients session j
front_clients session zero within = refl
front_clients session (suc j) within =
    let line : CallLine = line_at session j in
    let so_far = front_clients session j (omega arith) in
    let below : j < length session.calls = omega arith in
    rw (← add-one) (
    ap (map client_of_entry) (front_more session j below so_far)
    ∙ map-append client_of_entry (front session j) _
    ∙ ap (λ (cs : List ℕ). cs ++ client_of_entry (entry_behind session (front session j) line.client line) ∷ []) so_far
    ∙ ap (λ c. first_clients session j ++ c ∷ []) (entry_client (session_setting session) (world_after (session_setting session) (front session j)) line.client (length (calls_of (front session j) line.client)) _)
    ∙ sym (ap (map (λ (l : CallLine). l.client)) (take_more session.calls j no_line below) ∙ map-append (λ (l : CallLine). l.client) (take j session.calls) (line ∷ [])))

-- all lines
pub all_front : (session : Session) → front session (length session.calls) ≡ in_order session
all_front session = ap (λ (ls : List CallLine). named session (map (λ (l : CallLine). l.client) ls)) (take-length session.calls)

pub in_order_clients : (session : Session) → map client_of_entry (in_order session) ≡ map (λ l. l.client) session.calls
in_order_clients session =
    ap (map client_of_entry) (sym (all_front session)) ∙ front_clients session (length session.calls) (omega arith) ∙ ap (map (λ (l : CallLine). l.client)) (take-length session.calls)

others : (clients : ℕ) (h : List Entry) (lines : List CallLine) → map client_of_entry h ≡ map (λ l. l.client) lines → All (λ l. l.client < clients) lines → All (λ e. client_of_entry e < clients) h
others clients [] lines same each = All-nil (λ e. client_of_entry e < clients)
others clients (e ∷ h) [] same each = cc
others clients (e ∷ h) (l ∷ lines) same each =
    let first : client_of_entry e ≡ l.client = cc in
    let rest : map client_of_entry h ≡ map (λ (l : CallLine). l.client) lines = cc in
    All-cons (λ e. client_of_entry e < clients) e h (subst (λ c. c < clients) (sym first) (each 0 l (omega arith)))
    (others clients h lines rest (λ k d below. each (suc k) d (omega arith)))

-- the calls in the order of the lines are a run of the session
pub in_order_run : (session : Session) → IsSession session → IsRunOf session (in_order session)
in_order_run session limits = record {
  legal = named_legal session (map (λ (l : CallLine). l.client) session.calls);
  whole = λ client below. named_whole session (map (λ (l : CallLine). l.client) session.calls) client (same_count client (in_order session) session.calls (in_order_clients session));
  no_other = others session.clients (in_order session) session.calls (in_order_clients session) (known_clients session limits);
}

-- ---- the same, by the list of clients

pub order_front : (session : Session) (order : List ℕ) (j : ℕ) → order ≡ map (λ line. line.client) session.calls → named session (take j order) ≡ front session j
order_front session order j is = ap (named session) (ap (take j) is ∙ take-map (λ (l : CallLine). l.client) j session.calls)

pub order_client : (session : Session) (order : List ℕ) (j : ℕ) (d : ℕ) → order ≡ map (λ line. line.client) session.calls → j < length order → get_or order j d ≡ (line_at session j).client
order_client session order j d is below =
    ap (λ (l : List ℕ). get_or l j d) is ∙ get_or-map (λ (l : CallLine). l.client) session.calls j no_line d (omega (arith, ap length is, length-map session.calls (λ (l : CallLine). l.client)))

pub order_within : (session : Session) (order : List ℕ) (j : ℕ) → order ≡ map (λ line. line.client) session.calls → j < length order → j < length session.calls
order_within session order j is below = omega (arith, ap length is, length-map session.calls (λ (l : CallLine). l.client))

-- the entry of the client at a place
pub order_next : (session : Session) (order : List ℕ) (j d : ℕ) → order ≡ map (λ line. line.client) session.calls → j < length order
    → next_entry session (named session (take j order)) (get_or order j d) ≡ Some (entry_behind session (front session j) (line_at session j).client (line_at session j))
order_next session order j d is below =
    let within = order_within session order j is below in
    let line : CallLine = line_at session j in
    ap (λ (h : List Entry). next_entry session h (get_or order j d)) (order_front session order j is)
    ∙ ap (next_entry session (front session j)) (order_client session order j d is below)
    ∙ ap (option_map (entry_behind session (front session j) line.client)) (next_line_is session j within (front_clients session j (omega arith)))

-- one more
pub order_more : (session : Session) (order : List ℕ) (j d : ℕ) → order ≡ map (λ line. line.client) session.calls → j < length order
    → named session (take (j + 1) order) ≡ named session (take j order) ++ entry_behind session (front session j) (line_at session j).client (line_at session j) ∷ []
order_more session order j d is below =
    ap (named session) (take_more order j d below) ∙ named_more session [] (take j order) (get_or order j d)
    ∙ ap (λ (o : Option Entry). named session (take j order) ++ option_to_list o) (order_next session order j d is below)

pub order_length : (session : Session) (order : List ℕ) (j : ℕ) → order ≡ map (λ line. line.client) session.calls → j ≤ length order → length (named session (take j order)) ≡ j
order_length session order j is within =
    let same = ap length is ∙ length-map session.calls (λ (l : CallLine). l.client) in
    let clients = front_clients session j (omega (arith, same)) in
    ap length (order_front session order j is)
    ∙ sym (length-map (front session j) client_of_entry) ∙ ap length clients ∙ length-map (take j session.calls) (λ (l : CallLine). l.client)
    ∙ omega (arith, same, length-take j session.calls)

-- below the end that is told
pub line_within : (j end many : ℕ) → j < end → end ≡ many → j < many
line_within j end many below is = omega (arith, below, is)

-- the clients of one line more
pub clients_more : (session : Session) (j client : ℕ) (before new : List ℕ) → j < length session.calls → before ≡ first_clients session j → client ≡ (line_at session j).client → new ≡ before ++ client ∷ [] → new ≡ first_clients session (j + 1)
clients_more session j client before new below so_far is more =
    more ∙ ap (λ (cs : List ℕ). cs ++ client ∷ []) so_far ∙ ap (λ (k : ℕ). first_clients session j ++ k ∷ []) is
    ∙ sym (ap (map (λ (l : CallLine). l.client)) (take_more session.calls j no_line below) ∙ map-append (λ (l : CallLine). l.client) (take j session.calls) (line_at session j ∷ []))

-- the entry of line j
abbrev pub order_entry : Session → ℕ → Entry
order_entry session j = entry_behind session (front session j) (line_at session j).client (line_at session j)
