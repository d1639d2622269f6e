-- A run of a session is the history in which the clients of its entries make their next calls.
use Rattle.std.proofs.Common.{◌≡◌, ◌==◌, ℕ, ◌+◌, ◌<◌, ◌^◌, List, [], ◌∷◌, ◌++◌, map, length, Option, Some, cond, refl, ap, sym, ◌∙◌, subst, arith, append-nil, append_assoc, add-zero, length-append, suc}
use Rattle.std.specs.Prelude.{All, slice_get}
use Rattle.std.specs.Option.{option_map, option_to_list}
use Rattle.std.proofs.lemmas.Bool.{eq-eqb}
use Rattle.std.proofs.Math.Seq.{get_or-append_seam}
use Rattle.std.proofs.lemmas.List.Elements.{filter-append}
use Rattle.qws_base.specs.Scenes.{Setting}
use Rattle.qws_base.specs.Histories.{Entry, World, client_of_entry, calls_of, next_world, world_from, world_after, opening_world, Answers, IsLegalFrom}
use Rattle.qws_base.specs.Histories.Entry.{Step as StepEntry, Paint as PaintEntry}
use Rattle.script_grammar.specs.Session.{Session, session_setting, lines_by}
use Rattle.script_grammar.specs.Limits.{IsSession}
use Rattle.script_grammar.specs.declared.lines.CallLine.{CallLine}
use Rattle.script_grammar.proofs.Law.{few}
use Rattle.script_names.specs.Meaning.{meaning}
use Rattle.script_names.specs.Naming.{Naming, no_names, learned_by_entry, names_after}
use Rattle.script_names.specs.declared.calls.Call.{Call}
use Rattle.script_names.specs.declared.calls.Call.TheVariants.{Step, Paint}
use Rattle.session_script.specs.Calls.{IsCallOf, IsCallsFrom, IsWhole}
use Rattle.session_replay.specs.Runs.{entry_in, entry_behind, next_entry, named_from, IsRunOf}
use Rattle.session_replay.proofs.Counts.{few_entries}

-- ---- the entry behind a front

-- each reply is the one that the world gives there
answers_at : (setting : Setting) (world : World) (front rest : List Entry) (e : Entry) → IsLegalFrom setting world (front ++ e ∷ rest) → Answers setting (world_from setting world front) e
answers_at setting world [] rest e legal = legal.0
answers_at setting world (f ∷ front) rest e legal = answers_at setting (next_world setting world f) front rest e legal.1

-- the line of an entry among a client's calls
record CallAt (session : Session) (client k : ℕ) (slots : Naming) (lines : List CallLine) (entries : List Entry) (e : Entry) : Type 0 where
  line : CallLine
  is_line : slice_get lines (length entries) ≡ Some line
  is_call : IsCallOf client (k + length entries) (meaning session (names_after slots lines entries) line.call) e

call_at : (session : Session) (client k : ℕ) (slots : Naming) (lines : List CallLine) (entries more : List Entry) (e : Entry) → IsCallsFrom session client k slots lines (entries ++ e ∷ more) → CallAt session client k slots lines entries e
call_at session client k slots [] [] more e calls = absurd calls
call_at session client k slots [] (f ∷ entries) more e calls = absurd calls
call_at session client k slots (line ∷ lines) [] more e calls = record {
  line = line;
  is_line = refl;
  is_call = subst (λ n. IsCallOf client n (meaning session slots line.call) e) (sym (add-zero k)) calls.0;
}
call_at session client k slots (line ∷ lines) (f ∷ entries) more e calls =
    let later : CallAt session client (k + 1) (learned_by_entry slots line.call f) lines entries e = call_at session client (k + 1) (learned_by_entry slots line.call f) lines entries more e calls.1 in
    let n : (k + 1) + length entries ≡ k + suc (length entries) = omega arith in
    record {
      line = later.line;
      is_line = later.is_line;
      is_call = subst (λ m. IsCallOf client m (meaning session (names_after (learned_by_entry slots line.call f) lines entries) later.line.call) e) n later.is_call;
    }

-- a call with the reply that the world gives is the entry of the call there
entry_is : (setting : Setting) (world : World) (client k : ℕ) (call : Call) (e : Entry) → IsCallOf client k call e → Answers setting world e → entry_in setting world client k call ≡ e
entry_is setting world client k (Step command) (StepEntry c made reply) is answers = let by = is.0 in let same = is.1 in cc
entry_is setting world client k (Step command) (PaintEntry c slot tag sheet reply) is answers = absurd is
entry_is setting world client k (Paint slot paint) (StepEntry c made reply) is answers = absurd is
entry_is setting world client k (Paint slot paint) (PaintEntry c painted tag sheet reply) is answers = let by = is.0 in let there = is.1 in let number = is.2 in let drawn = is.3 in cc

-- a client's calls around its entry
calls_around : (front rest : List Entry) (e : Entry) → calls_of (front ++ e ∷ rest) (client_of_entry e) ≡ calls_of front (client_of_entry e) ++ e ∷ calls_of rest (client_of_entry e)
calls_around front rest e =
    let client : ℕ = client_of_entry e in
    filter-append (λ (f : Entry). client_of_entry f == client) front (e ∷ rest)
    ∙ ap (λ b. calls_of front client ++ cond b (e ∷ calls_of rest client) (calls_of rest client)) (eq-eqb client client refl)

pub known_entry : (n : ℕ) (front rest : List Entry) (e : Entry) → All (λ f. client_of_entry f < n) (front ++ e ∷ rest) → client_of_entry e < n
known_entry n front rest e each =
    let within : length front < length (front ++ e ∷ rest) = omega (arith, length-append front (e ∷ rest)) in
    subst (λ (f : Entry). client_of_entry f < n) (get_or-append_seam front e rest e) (each (length front) e within)

-- behind each front of a run, the next entry of the client of the entry there is that entry
pub run_next : (session : Session) (front rest : List Entry) (e : Entry) → IsRunOf session (front ++ e ∷ rest) → next_entry session front (client_of_entry e) ≡ Some e
run_next session front rest e run =
    let setting : Setting = session_setting session in
    let client : ℕ = client_of_entry e in
    let lines : List CallLine = lines_by client session.calls in
    let before : List Entry = calls_of front client in
    let calls : IsCallsFrom session client 0 no_names lines (before ++ e ∷ calls_of rest client) =
    subst (IsCallsFrom session client 0 no_names lines) (calls_around front rest e) (run.whole client (known_entry session.clients front rest e run.no_other)) in
    let there : CallAt session client 0 no_names lines before e = call_at session client 0 no_names lines before (calls_of rest client) e calls in
    let n : 0 + length before ≡ length before = omega arith in
    let is_call : IsCallOf client (length before) (meaning session (names_after no_names lines before) there.line.call) e =
    subst (λ m. IsCallOf client m (meaning session (names_after no_names lines before) there.line.call) e) n there.is_call in
    ap (option_map (entry_behind session front client)) there.is_line
    ∙ ap Some (entry_is setting (world_after setting front) client (length before) (meaning session (names_after no_names lines before) there.line.call) e is_call (answers_at setting (opening_world setting) front rest e run.legal))

-- so the clients of a run's entries name it
pub run_named : (session : Session) (front middle rest : List Entry) → IsRunOf session (front ++ (middle ++ rest)) → named_from session front (map client_of_entry middle) ≡ front ++ middle
run_named session front [] rest run = sym (append-nil front)
run_named session front (e ∷ middle) rest run =
    let more : front ++ (e ∷ (middle ++ rest)) ≡ (front ++ e ∷ []) ++ (middle ++ rest) = sym (append_assoc front (e ∷ []) (middle ++ rest)) in
    ap (λ (o : Option Entry). named_from session (front ++ option_to_list o) (map client_of_entry middle)) (run_next session front (middle ++ rest) e run)
    ∙ run_named session (front ++ e ∷ []) middle rest (subst (IsRunOf session) more run)
    ∙ append_assoc front (e ∷ []) middle

-- ---- how many entries a run has

-- as many of a client as it has lines
calls_length : (session : Session) (client k : ℕ) (slots : Naming) (lines : List CallLine) (entries : List Entry) → IsCallsFrom session client k slots lines entries → length entries ≡ length lines
calls_length session client k slots [] [] calls = refl
calls_length session client k slots [] (e ∷ entries) calls = absurd calls
calls_length session client k slots (line ∷ lines) [] calls = absurd calls
calls_length session client k slots (line ∷ lines) (e ∷ entries) calls = ap suc (calls_length session client (k + 1) (learned_by_entry slots line.call e) lines entries calls.1)

pub whole_length : (session : Session) (entries : List Entry) (client : ℕ) → IsWhole session entries client → length entries ≡ length (lines_by client session.calls)
whole_length session entries client whole = calls_length session client 0 no_names (lines_by client session.calls) entries whole

pub run_few : (session : Session) (h : List Entry) → IsSession session → IsRunOf session h → length h < 2 ^ 32
run_few session h limits run =
    few_entries session.clients h limits.clients run.no_other
    (λ client known. omega (arith, whole_length session (calls_of h client) client (run.whole client known), (few session limits).calls client))
