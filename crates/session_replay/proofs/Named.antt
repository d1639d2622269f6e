-- What holds of each history that a session names.
use Rattle.std.proofs.Common.{◌≡◌, ℕ, ◌+◌, ◌<◌, ◌≤◌, List, [], ◌∷◌, ◌++◌, length, take, Option, None, Some, Bool, true, false, cond, ◌==◌, refl, ap, sym, ◌∙◌, subst, arith, append-nil, length-append, add-zero, suc}
use Rattle.std.specs.Option.{option_map, option_to_list}
use Rattle.std.proofs.lemmas.List.{take_more}
use Rattle.std.proofs.Math.Seq.{take-length}
use Rattle.std.proofs.lemmas.List.Elements.{filter-append}
use Rattle.std.proofs.lemmas.Option.{slice_get_within, get_or_from_slice_get}
use Rattle.std.proofs.lemmas.Bool.Decides.{nat_tests}
use Rattle.qws_base.specs.Scenes.{Setting}
use Rattle.qws_base.specs.Histories.{Entry, World, client_of_entry, calls_of, next_world, Answers, world_from, world_after, opening_world, IsLegalFrom, IsLegal}
use Rattle.script_grammar.specs.Session.{Session, session_setting, lines_by, call_line}
use Rattle.script_names.specs.Meaning.{meaning}
use Rattle.script_names.specs.Naming.{Naming, no_names, learned_by_entry, names_after}
use Rattle.script_grammar.specs.declared.lines.CallLine.{CallLine}
use Rattle.script_names.specs.declared.calls.Call.{Call}
use Rattle.script_names.specs.declared.calls.Call.TheVariants.{Step, Paint}
use Rattle.session_script.specs.Calls.{IsCallOf, IsCallsFrom, IsWhole}
use Rattle.session_replay.specs.Runs.{entry_in, names_in, entry_behind, next_entry, named_from, named}

-- ---- histories that grow at their end

pub world_more : (setting : Setting) (world : World) (h : List Entry) (e : Entry) → world_from setting world (h ++ e ∷ []) ≡ next_world setting (world_from setting world h) e
world_more setting world [] e = refl
world_more setting world (f ∷ h) e = world_more setting (next_world setting world f) h e

legal_more : (setting : Setting) (world : World) (h : List Entry) (e : Entry) → IsLegalFrom setting world h → Answers setting (world_from setting world h) e → IsLegalFrom setting world (h ++ e ∷ [])
legal_more setting world [] e legal answers = (answers, tt)
legal_more setting world (f ∷ h) e legal answers = (legal.0, legal_more setting (next_world setting world f) h e legal.1 answers)

pub named_more : (session : Session) (h : List Entry) (clients : List ℕ) (client : ℕ) → named_from session h (clients ++ client ∷ []) ≡ named_from session h clients ++ option_to_list (next_entry session (named_from session h clients) client)
named_more session h [] client = refl
named_more session h (c ∷ clients) client = named_more session (h ++ option_to_list (next_entry session h c)) clients client

-- a property that each next entry keeps is one of all named histories
pub kept : (P : List Entry → Type 0) (session : Session) → ((h : List Entry) (client : ℕ) (e : Entry) → next_entry session h client ≡ Some e → P h → P (h ++ e ∷ [])) → (h : List Entry) (clients : List ℕ) → P h → P (named_from session h clients)
kept P session next h [] p = p
kept P session next h (c ∷ clients) p = kept P session next (h ++ option_to_list (next_entry session h c)) clients (by_option (next_entry session h c) refl)
  where
    by_option : (o : Option Entry) → next_entry session h c ≡ o → P (h ++ option_to_list o)
    by_option None is = subst P (sym (append-nil h)) p
    by_option (Some e) is = next h c e is p

-- ---- entries of calls

-- the line of a next entry
pub record IsNext (session : Session) (h : List Entry) (client : ℕ) (e : Entry) : Type 0 where
  pub line : CallLine
  pub is_line : call_line session client (length (calls_of h client)) ≡ Some line
  pub is_entry : e ≡ entry_behind session h client line

pub is_next : (session : Session) (h : List Entry) (client : ℕ) (e : Entry) → next_entry session h client ≡ Some e → IsNext session h client e
is_next session h client e is = by_option (call_line session client (length (calls_of h client))) refl is
  where
    by_option : (o : Option CallLine) → call_line session client (length (calls_of h client)) ≡ o → option_map (entry_behind session h client) o ≡ Some e → IsNext session h client e
    by_option None found made = cc
    by_option (Some line) found made = record { line = line; is_line = found; is_entry = cc }

pub entry_client : (setting : Setting) (world : World) (client k : ℕ) (call : Call) → client_of_entry (entry_in setting world client k call) ≡ client
entry_client setting world client k (Step command) = refl
entry_client setting world client k (Paint slot paint) = refl

entry_answers : (setting : Setting) (world : World) (client k : ℕ) (call : Call) → Answers setting world (entry_in setting world client k call)
entry_answers setting world client k (Step command) = refl
entry_answers setting world client k (Paint slot paint) = refl

entry_is_call : (setting : Setting) (world : World) (client k : ℕ) (call : Call) → IsCallOf client k call (entry_in setting world client k call)
entry_is_call setting world client k (Step command) = (refl, refl)
entry_is_call setting world client k (Paint slot paint) = (refl, refl, refl, refl)

-- ---- each named history is legal

pub named_legal : (session : Session) (clients : List ℕ) → IsLegal (session_setting session) (named session clients)
named_legal session clients =
    kept (IsLegal (session_setting session)) session
    (λ h c e is legal.
    let next = is_next session h c e is in
    let setting : Setting = session_setting session in
    legal_more setting (opening_world setting) h e legal
    (subst (Answers setting (world_after setting h)) (sym next.is_entry)
    (entry_answers setting (world_after setting h) c (length (calls_of h c)) (meaning session (names_in session h c) next.line.call))))
    [] clients tt

-- ---- a client's calls

pub calls_more : (h : List Entry) (e : Entry) (client : ℕ) → calls_of (h ++ e ∷ []) client ≡ calls_of h client ++ cond (client_of_entry e == client) (e ∷ []) []
calls_more h e client = filter-append (λ (e : Entry). client_of_entry e == client) h (e ∷ [])

calls_snoc : (session : Session) (client k : ℕ) (slots : Naming) (lines : List CallLine) (entries : List Entry) (line : CallLine) (e : Entry) → IsCallsFrom session client k slots lines entries → IsCallOf client (k + length entries) (meaning session (names_after slots lines entries) line.call) e → IsCallsFrom session client k slots (lines ++ line ∷ []) (entries ++ e ∷ [])
calls_snoc session client k slots [] [] line e so_far is = (subst (λ m. IsCallOf client m (meaning session slots line.call) e) (add-zero k) is, tt)
calls_snoc session client k slots [] (f ∷ entries) line e so_far is = absurd so_far
calls_snoc session client k slots (l ∷ lines) [] line e so_far is = absurd so_far
calls_snoc session client k slots (l ∷ lines) (f ∷ entries) line e so_far is =
    let n : k + suc (length entries) ≡ (k + 1) + length entries = omega arith in (
      so_far.0,
      calls_snoc session client (k + 1) (learned_by_entry slots l.call f) lines entries line e so_far.1
          (subst (λ m. IsCallOf client m (meaning session (names_after (learned_by_entry slots l.call f) lines entries) line.call) e) n is),
    )

-- only as many lines as entries give names
names_front : (slots : Naming) (lines : List CallLine) (entries : List Entry) → names_after slots (take (length entries) lines) entries ≡ names_after slots lines entries
names_front slots [] [] = refl
names_front slots [] (e ∷ entries) = refl
names_front slots (l ∷ lines) [] = refl
names_front slots (l ∷ lines) (e ∷ entries) = names_front (learned_by_entry slots l.call e) lines entries

-- the first of a client's calls stand in the history
pub record IsSoFar (session : Session) (client : ℕ) (h : List Entry) : Type 0 where
  pub calls : IsCallsFrom session client 0 no_names (take (length (calls_of h client)) (lines_by client session.calls)) (calls_of h client)
  pub within : length (calls_of h client) ≤ length (lines_by client session.calls)

so_far_same : (session : Session) (client : ℕ) (h new : List Entry) → calls_of new client ≡ calls_of h client → IsSoFar session client h → IsSoFar session client new
so_far_same session client h new same so_far = record {
  calls = subst (λ (cs : List Entry). IsCallsFrom session client 0 no_names (take (length cs) (lines_by client session.calls)) cs) (sym same) so_far.calls;
  within = subst (λ (cs : List Entry). length cs ≤ length (lines_by client session.calls)) (sym same) so_far.within;
}

so_far_own : (session : Session) (client : ℕ) (h new : List Entry) (line : CallLine) (e : Entry) → calls_of new client ≡ calls_of h client ++ e ∷ [] → call_line session client (length (calls_of h client)) ≡ Some line → IsCallOf client (length (calls_of h client)) (meaning session (names_in session h client) line.call) e → IsSoFar session client h → IsSoFar session client new
so_far_own session client h new line e own found is so_far =
    let cs : List Entry = calls_of h client in
    let lines : List CallLine = lines_by client session.calls in
    let n : ℕ = length cs in
    let long : length (cs ++ e ∷ []) ≡ n + 1 = length-append cs (e ∷ []) in
    let below : n < length lines = slice_get_within lines n line found in
    let front : take (n + 1) lines ≡ take n lines ++ line ∷ [] = take_more lines n line below ∙ ap (λ (l : CallLine). take n lines ++ l ∷ []) (get_or_from_slice_get lines n line line found) in
    let snoc = calls_snoc session client 0 no_names (take n lines) cs line e so_far.calls (subst (λ (ps : Naming). IsCallOf client (0 + n) (meaning session ps line.call) e) (sym (names_front no_names lines cs)) (subst (λ m. IsCallOf client m (meaning session (names_in session h client) line.call) e) (let zero_n : n ≡ 0 + n = omega arith in zero_n) is)) in
    record {
      calls = subst (λ (all : List Entry). IsCallsFrom session client 0 no_names (take (length all) lines) all) (sym own)
          (subst (λ m. IsCallsFrom session client 0 no_names (take m lines) (cs ++ e ∷ [])) (sym long) (subst (λ (ls : List CallLine). IsCallsFrom session client 0 no_names ls (cs ++ e ∷ [])) (sym front) snoc));
      within = omega (arith, ap length own, long);
    }

named_so_far : (session : Session) (client : ℕ) (clients : List ℕ) → IsSoFar session client (named session clients)
named_so_far session client clients =
    kept (IsSoFar session client) session
    (λ h c e is so_far. step h c e (is_next session h c e is) so_far (c == client) refl)
    [] clients (record { calls = tt; within = omega arith })
  where
    step : (h : List Entry) (c : ℕ) (e : Entry) → IsNext session h c e → IsSoFar session client h → (b : Bool) → (c == client) ≡ b → IsSoFar session client (h ++ e ∷ [])
    step h c e next so_far true same =
        let is : c ≡ client = grind (arith, nat_tests) in
        let made : client_of_entry e ≡ c = ap client_of_entry next.is_entry ∙ entry_client (session_setting session) (world_after (session_setting session) h) c (length (calls_of h c)) (meaning session (names_in session h c) next.line.call) in
        so_far_own session client h (h ++ e ∷ []) next.line e
        (calls_more h e client ∙ ap (λ k. calls_of h client ++ cond (k == client) (e ∷ []) []) made ∙ ap (λ b. calls_of h client ++ cond b (e ∷ []) []) same)
        (subst (λ k. call_line session k (length (calls_of h k)) ≡ Some next.line) is next.is_line)
        (subst (λ k. IsCallOf k (length (calls_of h k)) (meaning session (names_in session h k) next.line.call) e) is
        (subst (IsCallOf c (length (calls_of h c)) (meaning session (names_in session h c) next.line.call)) (sym next.is_entry) (entry_is_call (session_setting session) (world_after (session_setting session) h) c (length (calls_of h c)) (meaning session (names_in session h c) next.line.call))))
        so_far
    step h c e next so_far false other =
        let made : client_of_entry e ≡ c = ap client_of_entry next.is_entry ∙ entry_client (session_setting session) (world_after (session_setting session) h) c (length (calls_of h c)) (meaning session (names_in session h c) next.line.call) in
        so_far_same session client h (h ++ e ∷ [])
        (calls_more h e client ∙ ap (λ k. calls_of h client ++ cond (k == client) (e ∷ []) []) made ∙ ap (λ b. calls_of h client ++ cond b (e ∷ []) []) other ∙ append-nil (calls_of h client))
        so_far

-- a client's calls are whole where they are as many as its lines
pub named_whole : (session : Session) (clients : List ℕ) (client : ℕ) → length (calls_of (named session clients) client) ≡ length (lines_by client session.calls) → IsWhole session (calls_of (named session clients) client) client
named_whole session clients client many =
    let so_far = named_so_far session client clients in
    subst (λ (ls : List CallLine). IsCallsFrom session client 0 no_names ls (calls_of (named session clients) client)) (ap (λ n. take n (lines_by client session.calls)) many ∙ take-length (lines_by client session.calls)) so_far.calls
