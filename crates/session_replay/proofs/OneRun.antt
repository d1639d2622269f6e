-- When a session has one run alone: in the order of the lines, or of one client.
use Rattle.std.proofs.Common.{◌≡◌, ◌==◌, ℕ, ◌<◌, ◌≤◌, List, [], ◌∷◌, map, length, true, cond, append-nil, refl, ap, sym, ◌∙◌, subst, arith, suc, inl, inr}
use Rattle.std.specs.Prelude.{All}
use Rattle.std.specs.List.{filter}
use Rattle.std.proofs.lemmas.Bool.{cases_lt}
use Rattle.std.proofs.lemmas.Bool.Decides.{nat_tests}
use Rattle.std.proofs.lemmas.List.Elements.{All-head, All-tail}
use Rattle.qws_base.specs.Histories.{Entry, client_of_entry, calls_of}
use Rattle.script_grammar.specs.Session.{Session}
use Rattle.script_grammar.specs.Limits.{IsSession}
use Rattle.script_grammar.specs.declared.lines.CallLine.{CallLine}
use Rattle.session_replay.specs.Runs.{named, in_order, IsRunOf}
use Rattle.session_replay.specs.Laws.{IsInOrder}
use Rattle.session_replay.proofs.Counts.{known_clients}
use Rattle.session_replay.proofs.LineOrder.{in_order_run, in_order_clients}
use Rattle.session_replay.proofs.Running.{run_named, whole_length}

-- a run is that of its clients' order
run_of_order : (session : Session) (h : List Entry) → IsRunOf session h → map client_of_entry h ≡ map (λ line. line.client) session.calls → h ≡ in_order session
run_of_order session h run same = sym (run_named session [] h [] (subst (IsRunOf session) (sym (append-nil h)) run)) ∙ ap (named session) same

-- ---- one client

none_below : {A : Type 0} (of : A → ℕ) (xs : List A) → All (λ x. of x < 0) xs → length xs ≡ 0
none_below of [] each = refl
none_below of (x ∷ xs) each = absurd (let low = All-head (λ x. of x < 0) x xs each in omega arith)

-- all are the first client's
all_first : {A : Type 0} (of : A → ℕ) (xs : List A) → All (λ x. of x < 1) xs → length (filter (λ x. of x == 0) xs) ≡ length xs
all_first of [] each = refl
all_first of (x ∷ xs) each =
    ap (λ b. length (cond b (x ∷ filter (λ x. of x == 0) xs) (filter (λ x. of x == 0) xs))) (first (of x) (All-head (λ x. of x < 1) x xs each))
    ∙ ap suc (all_first of xs (All-tail (λ x. of x < 1) x xs each))
  where
    first : (n : ℕ) → n < 1 → (n == 0) ≡ true
    first n low = grind (arith, nat_tests)

same_clients : {A B : Type 0} (f : A → ℕ) (g : B → ℕ) (xs : List A) (ys : List B) → All (λ x. f x < 1) xs → All (λ y. g y < 1) ys → length xs ≡ length ys → map f xs ≡ map g ys
same_clients f g [] [] all each long = refl
same_clients f g [] (y ∷ ys) all each long = absurd (omega (arith, long))
same_clients f g (x ∷ xs) [] all each long = absurd (omega (arith, long))
same_clients f g (x ∷ xs) (y ∷ ys) all each long =
    let a = All-head (λ x. f x < 1) x xs all in
    let b = All-head (λ y. g y < 1) y ys each in
    let same : f x ≡ g y = omega (arith, a, b) in
    ap (λ n. n ∷ map f xs) same ∙ ap (λ (ns : List ℕ). g y ∷ ns) (same_clients f g xs ys (All-tail (λ x. f x < 1) x xs all) (All-tail (λ y. g y < 1) y ys each) (omega (arith, long)))

fewer : {A : Type 0} (of : A → ℕ) (n m : ℕ) (xs : List A) → n ≤ m → All (λ x. of x < n) xs → All (λ x. of x < m) xs
fewer of n m xs few each = λ k d below. let low = each k d below in omega (arith, low, few)

same_length : (session : Session) (h : List Entry) → IsSession session → IsRunOf session h → session.clients ≤ 1 → length h ≡ length session.calls
same_length session h limits run one = elim (cases_lt 0 session.clients) [
  | inl some ↦
      sym (all_first client_of_entry h (fewer client_of_entry session.clients 1 h one run.no_other))
      ∙ whole_length session (calls_of h 0) 0 (run.whole 0 some)
      ∙ all_first (λ (l : CallLine). l.client) session.calls (fewer (λ (l : CallLine). l.client) session.clients 1 session.calls one (known_clients session limits))
  | inr none ↦
      let zero_clients : session.clients ≤ 0 = none in
      none_below client_of_entry h (fewer client_of_entry session.clients 0 h zero_clients run.no_other)
      ∙ sym (none_below (λ (l : CallLine). l.client) session.calls (fewer (λ (l : CallLine). l.client) session.clients 0 session.calls zero_clients (known_clients session limits)))
]

alone : (session : Session) (h : List Entry) → IsSession session → session.clients ≤ 1 → IsRunOf session h → h ≡ in_order session
alone session h limits one run =
    run_of_order session h run
    (same_clients client_of_entry (λ (l : CallLine). l.client) h session.calls (fewer client_of_entry session.clients 1 h one run.no_other) (fewer (λ (l : CallLine). l.client) session.clients 1 session.calls one (known_clients session limits))
    (same_length session h limits run one))

pub line_order : (session : Session) → IsSession session → IsInOrder session
line_order session limits = record {
  run = in_order_run session limits;
  order = in_order_clients session;
  only = λ h run same. run_of_order session h run same;
  alone = λ one h run. alone session h limits one run;
}
