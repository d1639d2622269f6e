-- When a client is ready for its next call, and what is told of it.
use Rattle.std.proofs.Common.{◌≡◌, ℕ, ◌+◌, ◌<◌, ◌≤◌, ◌^◌, List, [], ◌∷◌, ◌++◌, map, length, take, get_or, Option, None, Some, ◌==◌, ap, sym, ◌∙◌, subst, arith, length-append}
use Rattle.std.specs.Option.{option_to_list}
use Rattle.std.proofs.lemmas.List.{length-take-le}
use Rattle.std.proofs.lemmas.Option.{slice_get_within}
use Rattle.qws_base.specs.Histories.{Entry, client_of_entry, calls_of, world_after}
use Rattle.script_grammar.specs.Session.{Session, session_setting, lines_by, call_line}
use Rattle.script_grammar.specs.Limits.{IsSession}
use Rattle.script_names.specs.Meaning.{meaning}
use Rattle.script_grammar.specs.declared.lines.CallLine.{CallLine}
use Rattle.session_replay.specs.declared.callers.Caller.{Caller}
use Rattle.session_replay.specs.declared.replays.Replay.{Replay}
use Rattle.session_replay.specs.Runs.{next_entry, entry_behind, names_in, named_from, named}
use Rattle.session_replay.specs.Steps.{IsCaller, AreCallers, IsReplay, IsReady, caller_at}
use Rattle.session_replay.proofs.Named.{is_next, entry_client}
use Rattle.session_replay.proofs.Calls.{few_filtered}
use Rattle.session_replay.proofs.Counts.{known_clients}
use Rattle.session_replay.proofs.Revisions.{can_rise}
use Rattle.session_replay.proofs.Bare.{world_screen, world_bare}
use Rattle.session_replay.proofs.LineOrder.{no_line, line_at, front, order_client, order_within, order_next, order_length}

-- the entry of a client's next call is the client's
pub next_client : (session : Session) (h : List Entry) (client : ℕ) (e : Entry) → next_entry session h client ≡ Some e → client_of_entry e ≡ client
next_client session h client e is =
    let next = is_next session h client e is in
    ap client_of_entry next.is_entry ∙ entry_client (session_setting session) (world_after (session_setting session) h) client (length (calls_of h client)) (meaning session (names_in session h client) next.line.call)

pub caller_is : (session : Session) (h : List Entry) (client : ℕ) (callers : List Caller) (caller : Caller) → AreCallers session h callers → client < session.clients → caller ≡ get_or callers client caller → IsCaller session h client caller
caller_is session h client callers caller are known at = subst (IsCaller session h client) (sym at) (are.each client caller known)

-- the next line of a caller
pub caller_line : (session : Session) (h : List Entry) (client : ℕ) (caller : Caller) (line : CallLine) → IsCaller session h client caller → call_line session client (length (calls_of h client)) ≡ Some line → call_line session caller.names.client caller.made ≡ Some line
caller_line session h client caller line mine is =
    ap (λ n. call_line session caller.names.client n) mine.made ∙ ap (λ k. call_line session k (length (calls_of h client))) mine.client_is ∙ is

-- ---- the client of a line

pub order_known : (session : Session) (order : List ℕ) (j d : ℕ) → IsSession session → order ≡ map (λ line. line.client) session.calls → j < length order → get_or order j d < session.clients
order_known session order j d limits is below =
    let within = order_within session order j is below in
    let low : (line_at session j).client < session.clients = known_clients session limits j no_line within in
    omega (arith, low, order_client session order j d is below)

-- how many calls it has made
pub order_few : (session : Session) (order : List ℕ) (j client : ℕ) → order ≡ map (λ line. line.client) session.calls → j < length order → length (calls_of (named session (take j order)) client) ≤ j
order_few session order j client is below =
    omega (arith, few_filtered (λ (e : Entry). client_of_entry e == client) (named session (take j order)), order_length session order j is (omega (arith, below)))

-- ---- ready for the next call

pub named_length : (session : Session) (clients : List ℕ) → length (named session clients) ≤ length clients
named_length session clients = omega (arith, from [] clients)
  where
    one_more : (h : List Entry) (o : Option Entry) → length (h ++ option_to_list o) ≤ length h + 1
    one_more h None = omega (arith, length-append h [])
    one_more h (Some e) = omega (arith, length-append h (e ∷ []))

    from : (h : List Entry) (clients : List ℕ) → length (named_from session h clients) ≤ length h + length clients
    from h [] = omega arith
    from h (c ∷ clients) = omega (arith, from (h ++ option_to_list (next_entry session h c)) clients, one_more h (next_entry session h c))

-- behind a named history a client with a call left is ready for it
pub ready : (session : Session) (clients : List ℕ) (client : ℕ) (replay : Replay) → IsSession session → client < session.clients → length (calls_of (named session clients) client) < length (lines_by client session.calls) → length clients + 2 < 2 ^ 64 → IsReplay session (named session clients) replay → IsReady session client replay (caller_at replay client)
ready session clients client replay limits known left few behind =
    let h : List Entry = named session clients in
    let mine : IsCaller session h client (caller_at replay client) = behind.callers.each client (record { names = record { client = 0; slots = [] }; made = 0; calls = 0 }) known in
    record {
      within = omega (arith, known, behind.callers.many);
      sixteen = omega (arith, known, limits.clients);
      named = mine.client_is;
      left = omega (arith, left, mine.made);
      few = omega (arith, few, mine.made, few_filtered (λ (e : Entry). client_of_entry e == client) h, named_length session clients);
      room = can_rise session h replay.core replay.canvas (omega (arith, few, named_length session clients)) behind.world;
      screen = world_screen session h replay.core replay.canvas behind.world;
      bare = world_bare session h replay.core replay.canvas behind.world;
    }

-- so is the client of a line
pub order_ready : (session : Session) (order : List ℕ) (j d : ℕ) (replay : Replay) → IsSession session → order ≡ map (λ line. line.client) session.calls → j < length order → j + 2 < 2 ^ 64 → IsReplay session (named session (take j order)) replay → IsReady session (get_or order j d) replay (caller_at replay (get_or order j d))
order_ready session order j d replay limits is below few behind =
    let h : List Entry = named session (take j order) in
    let client : ℕ = get_or order j d in
    let next = is_next session h client (entry_behind session (front session j) (line_at session j).client (line_at session j)) (order_next session order j d is below) in
    let left : length (calls_of h client) < length (lines_by client session.calls) = slice_get_within (lines_by client session.calls) (length (calls_of h client)) next.line next.is_line in
    let long : length (take j order) ≡ j = length-take-le j order (omega (arith, below)) in
    ready session (take j order) client replay limits (order_known session order j d limits is below) left (omega (arith, few, long)) behind
