-- Between turns, the line of a word is what all logs have on it.
use Rattle.std.proofs.Common.{◌≡◌, ℕ, zero, suc, ◌<◌, ◌≤◌, ◌==◌, if◌then◌else◌, Bool, true, false, List, [], ◌∷◌, ◌++◌, map, length, append-nil, sym, refl, ap, ◌∙◌, subst, arith}
use Rattle.std.specs.List.{flat_map}
use mathlib.Core.List.{append_assoc}
use mathlib.Core.Option.{some}
use lib.ListN.{get_elem?}
use Rattle.fb_words.specs.declared.known.Mode.TheVariants.{Idle}
use Rattle.fb_words.specs.declared.known.Call.{Call}
use Rattle.fb_words.specs.declared.known.Call.TheVariants.{Step, Paint}
use Rattle.fb_words.specs.declared.known.Client.{Client}
use Rattle.fb_words.specs.declared.known.Closed.{Closed}
use Rattle.fb_words.specs.declared.known.Server.{Server}
use Rattle.turn_logs.specs.Lines.{on}
use Rattle.fb_words.specs.Rule.{LooksOk}
use Rattle.turn_logs.specs.Lists.{upto}
use Rattle.fb_words.specs.Segments.{call_items, open_items, client_items, nth_log, turn_log, server_items, segment}
use Rattle.turn_logs.specs.Sessions.{ClosedTurn, logs_of}
use Rattle.fb_words.specs.Turns.{LineLaw}
use Rattle.fb_words.proofs.ByNumber.{drawn_of, drawn_at, nth_served, served_at, turns_are}
use Rattle.turn_logs.proofs.Joining.{on-append, joined_none, upto_same}
use Rattle.fb_words.proofs.Painting.{late_none, open_log_at, length_logs}

logs_of-append : (a b : List ClosedTurn) → logs_of (a ++ b) ≡ logs_of a ++ logs_of b
logs_of-append [] b = refl
logs_of-append (t ∷ a) b = ap (λ l. Rattle.turn_logs.specs.Sessions.log_of t ++ l) (logs_of-append a b) ∙ sym (append_assoc (Rattle.turn_logs.specs.Sessions.log_of t) (logs_of a) (logs_of b))

on_logs : (x : ℕ) (a b : List ClosedTurn) → on x (logs_of (a ++ b)) ≡ on x (logs_of a) ++ on x (logs_of b)
on_logs x a b = ap (on x) (logs_of-append a b) ∙ on-append x (logs_of a) (logs_of b)

on_upto : (x : ℕ) (f : ℕ → List ClosedTurn) (n : ℕ) → on x (logs_of (upto f n)) ≡ upto (λ e. on x (logs_of (f e))) n
on_upto x f zero = refl
on_upto x f (suc n) = on_logs x (upto f n) (f (suc n)) ∙ ap (λ z. z ++ on x (logs_of (f (suc n)))) (on_upto x f n)

drawn_items : (c e : ℕ) (own : List Call) → logs_of (flat_map (drawn_of c e) own) ≡ flat_map (call_items e) own
drawn_items c e [] = refl
drawn_items c e (Step s ∷ own) = drawn_items c e own
drawn_items c e (Paint t ∷ own) = logs_of-append (drawn_of c e (Paint t)) (flat_map (drawn_of c e) own) ∙ ap (λ z. logs_of (drawn_of c e (Paint t)) ++ z) (drawn_items c e own) ∙ ap (λ z. z ++ flat_map (call_items e) own) (go (t.stamp == e))
  where
    go : (b : Bool) → logs_of (if b then Rattle.turn_logs.specs.Sessions.Drawn c t.slot t.tag t.sheet t.reply t.log ∷ [] else []) ≡ (if b then t.log else [])
    go true = append-nil t.log
    go false = refl

each_client : (x e : ℕ) (cs : List Client) → ((c : ℕ) (p : Client) → get_elem? cs c ≡ some p → p.mode ≡ Idle) → on x (logs_of (flat_map (drawn_at e) cs)) ≡ flat_map (λ p. on x (client_items e p)) cs
each_client x e [] idle = refl
each_client x e (p ∷ cs) idle = on_logs x (drawn_at e p) (flat_map (drawn_at e) cs)
    ∙ ap (λ z. z ++ on x (logs_of (flat_map (drawn_at e) cs))) (ap (on x) (drawn_items p.number e p.own ∙ sym (ap (λ m. flat_map (call_items e) p.own ++ open_items e m) (idle 0 p refl) ∙ append-nil (flat_map (call_items e) p.own))))
    ∙ ap (λ z. on x (client_items e p) ++ z) (each_client x e cs (λ c q at. idle (suc c) q at))

served_items : (tables : List (List ℕ)) (n : ℕ) (ts : List Closed) (k : ℕ) → k < length ts → logs_of (nth_served tables n ts k) ≡ nth_log (map turn_log ts ++ [] ∷ []) k
served_items tables n [] k lt = absurd (omega arith)
served_items tables n (t ∷ ts) zero lt = append-nil t.log
served_items tables n (t ∷ ts) (suc k) lt = served_items tables n ts k (omega arith)

server_at : (s : Server) (e : ℕ) → s.log ≡ [] → e ≤ length s.closed → logs_of (served_at s e) ≡ server_items s e
server_at s zero none le = refl
server_at s (suc k) none le = served_items s.tables (suc k) s.closed k (omega arith) ∙ ap (λ l. nth_log (map turn_log s.closed ++ l ∷ []) k) (sym none)

pub line_law : LineLaw
line_law s cs x none ok = let E = length s.closed in
    let f : ℕ → List ClosedTurn = λ e. served_at s e ++ flat_map (drawn_at e) cs in
    let idle : (c : ℕ) (p : Client) → get_elem? cs c ≡ some p → p.mode ≡ Idle = (λ c p at. (ok c p at).0) in
    let late : flat_map (λ p. on x (client_items (suc E) p)) cs ≡ [] = joined_none (λ p. on x (client_items (suc E) p)) cs
    (λ c p at. late_none [] E x (suc E) p (omega arith) (ok c p at).1 (subst (LooksOk [] E) (sym (idle c p at)) tt)) in
    let last : segment x s cs (suc E) ≡ [] = ap (λ z. on x (server_items s (suc E)) ++ z) late ∙ append-nil (on x (server_items s (suc E)))
    ∙ ap (on x) (ap (nth_log (map turn_log s.closed ++ s.log ∷ [])) (sym (length_logs s)) ∙ open_log_at (map turn_log s.closed) s.log ∙ none) in
    ap (λ z. upto (segment x s cs) E ++ z) last ∙ append-nil (upto (segment x s cs) E)
    ∙ sym (ap (λ l. on x (logs_of l)) (turns_are s cs) ∙ on_upto x f E ∙ upto_same (λ e. on x (logs_of (f e))) (segment x s cs) E (λ e le.
    on_logs x (served_at s e) (flat_map (drawn_at e) cs) ∙ ap (λ z. on x z ++ on x (logs_of (flat_map (drawn_at e) cs))) (server_at s e none le) ∙ ap (λ z. on x (server_items s e) ++ z) (each_client x e cs idle)))
