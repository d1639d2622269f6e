-- The session that is closed is a run of the script, and its file is that of the run.
use Rattle.std.proofs.Common.{◌≡◌, ℕ, zero, suc, ◌<◌, ◌≤◌, ◌^◌, ◌==◌, true, false, Bool, cond, List, [], ◌∷◌, length, map, get_or, refl, sym, ap, subst, ◌∙◌, ⊎_elim, arith, eq-eqb}
use Rattle.std.specs.Prelude.{All, slice_index_or}
use Rattle.std.specs.List.{filter, range_with_len}
use Rattle.std.proofs.lemmas.List.{length-map}
use Rattle.std.proofs.lemmas.List.FromFn.{length-map-range_with_len}
use mathlib.Core.Option.{some}
use mathlib.Core.Logic.{dite}
use lib.ListN.{get_elem?}
use Rattle.qws_base.specs.Histories.{Entry, client_of_entry, calls_of}
use Rattle.qws_base.specs.Scenes.{Setting, setting_of}
use Rattle.qws_base.specs.declared.colours.Depth.{Depth}
use Rattle.qws_base.specs.Points.{pixel_count}
use Rattle.fb_words.specs.declared.known.Client.{Client}
use Rattle.fb_words.specs.Desks.{call_entry}
use Rattle.fb_words.specs.Views.{ScreenView, PassView, client_of}
use Rattle.script_grammar.specs.Session.{Session, session_setting}
use Rattle.session_script.specs.Calls.{IsWhole}
use Rattle.server_desk.specs.DeskViews.{DeskView, ClosedView, connected}
use Rattle.server_desk.specs.Sessions.{IsSessionOf, CallsAreOwn, history_in, clients_of}
use Rattle.session_journal.specs.Merging.{step_of, paints_of}
use Rattle.session_journal.specs.Texts.{Told, told, told_call, file_of_entries, file_bytes}
use Rattle.session_journal.specs.Grammar.{IsFile}
use Rattle.qws_base.specs.Sides.{Sides}
use Rattle.session_journal.specs.declared.histories.Entry.{Entry as BareEntry}
use Rattle.session_journal.specs.declared.files.File.{File}
use Rattle.qws_base.specs.Merges.{merged}
use Rattle.session_replay.specs.Runs.{IsRunOf, in_order}
use Rattle.session_replay.specs.Laws.{IsNamed}
use Rattle.session_replay.specs.Files.{file_of, shown_after}
use Rattle.client_session.specs.Runs.{own_entries}
use Rattle.session_run.specs.Sessions.{IsClosedRun, IsRunFile}
use Rattle.session_run.proofs.Running.{IsDone, item_there}
use Rattle.session_run.proofs.Merging.{bare, merged_bare, same_told}

-- ---- no other client

head_gone : (c : ℕ) (e : Entry) (h : List Entry) → client_of_entry e ≡ c → calls_of (e ∷ h) c ≡ [] → ⊥
head_gone c e h is none = absurd (let long = ap length (sym (ap (λ (b : Bool). cond b (e ∷ calls_of h c) (calls_of h c)) (eq-eqb (client_of_entry e) c is)) ∙ none) in omega arith)

tail_none : (c : ℕ) (e : Entry) (h : List Entry) (b : Bool) → (client_of_entry e == c) ≡ b → calls_of (e ∷ h) c ≡ [] → calls_of h c ≡ []
tail_none c e h true is none = absurd (let long = ap length (sym (ap (λ (b : Bool). cond b (e ∷ calls_of h c) (calls_of h c)) is) ∙ none) in omega arith)
tail_none c e h false is none = sym (ap (λ (b : Bool). cond b (e ∷ calls_of h c) (calls_of h c)) is) ∙ none

no_other : (n : ℕ) (h : List Entry) → ((c : ℕ) → n ≤ c → calls_of h c ≡ []) → (k : ℕ) (d : Entry) → k < length h → client_of_entry (get_or h k d) < n
no_other n [] none k d below = absurd (omega arith)
no_other n (e ∷ h) none zero d below = dite (native.Mathlib.Decide.dec_lt (client_of_entry e) n) (λ lt. lt) (λ ge. absurd (head_gone (client_of_entry e) e h refl (none (client_of_entry e) (omega arith))))
no_other n (e ∷ h) none (suc k) d below = no_other n h (λ c le. tail_none c e h (client_of_entry e == c) refl (none c le)) k d (omega arith)

-- ---- the run

pub run_of : (said : Session) (screen : ScreenView) (n : ℕ) (passes : List PassView) (closed : ClosedView) → screen.setting ≡ session_setting said → n ≡ said.clients → length passes ≡ n
    → ((k : ℕ) (p : PassView) → get_elem? passes k ≡ some p → IsDone screen said k p) → IsSessionOf screen.setting (clients_of n passes) closed → CallsAreOwn passes (history_in closed.journal (clients_of n passes)) → IsClosedRun said closed
run_of said screen n passes closed setting clients many done session own =
    let here : IsSessionOf (session_setting said) (clients_of n passes) closed = subst (λ (s : Setting). IsSessionOf s (clients_of n passes) closed) setting session in
    let h : List Entry = history_in closed.journal (clients_of n passes) in
    let long : length (clients_of n passes) ≡ n = length-map-range_with_len (λ c. client_of c (map (λ (p : PassView). p.client) passes)) 0 n in record {
      clients = clients_of n passes;
      session = here;
      run = record {
        legal = here.legal;
        whole = λ client lt.
            let p = item_there passes client (omega arith) in
            let is = done client p.0 p.1 in
            let calls : calls_of h client ≡ own_entries p.0.client = ap (calls_of h) (sym is.number) ∙ own client p.0 p.1 in
            subst (λ (l : List Entry). IsWhole said l client) (sym calls) is.whole;
        no_other = λ k d below. subst (λ m. client_of_entry (get_or h k d) < m) (long ∙ clients) (no_other (length (clients_of n passes)) h (λ c le. here.no_others c le) k d below);
      };
    }

-- ---- the file

pub told_history : (said : Session) (closed : ClosedView) (run : IsClosedRun said closed) → map told (merged (map step_of closed.journal) (map paints_of closed.books)) ≡ map told_call (history_in closed.journal run.clients)
told_history said closed run =
    ap (λ (l : List BareEntry). map told l) (merged_bare closed.journal run.clients closed.books run.session.as_many run.session.books) ∙ same_told (history_in closed.journal run.clients)

pub same_file : (said : Session) (closed : ClosedView) (run : IsClosedRun said closed) → file_of_entries closed.size (map told (merged (map step_of closed.journal) (map paints_of closed.books))) closed.shown ≡ file_of said (history_in closed.journal run.clients)
same_file said closed run =
    ap (λ s. file_of_entries s (map told (merged (map step_of closed.journal) (map paints_of closed.books))) closed.shown) run.session.size
    ∙ ap (λ (l : List Told). file_of_entries said.size l closed.shown) (told_history said closed run)
    ∙ ap (λ (l : List ℕ). file_of_entries said.size (map told_call (history_in closed.journal run.clients)) l) run.session.shown

pub same_length : (said : Session) (closed : ClosedView) (run : IsClosedRun said closed) → length (merged (map step_of closed.journal) (map paints_of closed.books)) ≡ length (history_in closed.journal run.clients)
same_length said closed run = ap length (merged_bare closed.journal run.clients closed.books run.session.as_many run.session.books) ∙ length-map (history_in closed.journal run.clients) bare

pub run_file : (said : Session) (closed : ClosedView) (run : IsClosedRun said closed) (bytes : List ℕ) (size : Sides) (history : List BareEntry) (shown : List ℕ)
    → size ≡ closed.size → history ≡ merged (map step_of closed.journal) (map paints_of closed.books) → shown ≡ closed.shown → bytes ≡ file_bytes (file_of_entries size (map told history) shown)
    → (length history < 2 ^ 32 → length shown ≡ pixel_count size → IsFile bytes (file_of_entries size (map told history) shown)) → IsNamed said (history_in closed.journal run.clients)
    → (said.clients ≤ 1 → history_in closed.journal run.clients ≡ in_order said) → IsRunFile said bytes closed
run_file said closed run bytes size history shown is_size is_history is_shown text file named ordered =
    let same : file_of_entries size (map told history) shown ≡ file_of said (history_in closed.journal run.clients) = (λ i. file_of_entries (is_size i) (map told (is_history i)) (is_shown i)) ∙ same_file said closed run in
    let long : length history ≡ length (history_in closed.journal run.clients) = ap length is_history ∙ same_length said closed run in
    let few = named.few in
    let pixels : length shown ≡ pixel_count size = ap length (is_shown ∙ run.session.shown) ∙ named.pixels ∙ ap pixel_count (sym (is_size ∙ run.session.size)) in record {
      kept = run;
      file = subst (IsFile bytes) same (file (subst (λ n. n < 2 ^ 32) (sym long) few) pixels);
      text = text ∙ ap file_bytes same;
      ordered = ordered;
      named = named.file;
    }

-- the screen is the one that the script says
pub said_setting : (said : Session) (setting : Setting) (size : Sides) (depth : Depth) (backdrop : ℕ) → setting ≡ setting_of size depth backdrop → size ≡ said.size → depth ≡ said.depth → backdrop ≡ said.backdrop → setting ≡ session_setting said
said_setting said setting size depth backdrop made is_size is_depth is_backdrop = made ∙ (λ i. setting_of (is_size i) (is_depth i) (is_backdrop i))

-- and as many clients are connected as it says
pub said_clients : (said : Session) (parts shared desk : DeskView) → connected parts ≡ connected shared → shared ≡ desk → connected desk ≡ said.clients → connected parts ≡ said.clients
said_clients said parts shared desk same is many = same ∙ ap (λ (d : DeskView). connected d) is ∙ many
