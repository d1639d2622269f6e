-- How many calls a session has, and how many entries a history, where each client has few.
use Rattle.std.proofs.Common.{◌≡◌, ◌==◌, ℕ, ◌+◌, ◌*◌, ◌<◌, ◌≤◌, ◌^◌, List, [], ◌∷◌, ◌++◌, length, Bool, true, false, cond, refl, ap, ◌∙◌, arith, suc, zero}
use Rattle.std.specs.Prelude.{All, nat_lt}
use Rattle.std.specs.List.{filter}
use Rattle.std.proofs.lemmas.List.Elements.{All-cons, All-nil, All-head, All-tail}
use Rattle.std.proofs.lemmas.Bool.Decides.{nat_tests}
use Rattle.qws_base.specs.Histories.{Entry, client_of_entry, calls_of}
use Rattle.script_grammar.specs.Session.{Session, Asset, lines_by}
use Rattle.script_grammar.specs.Limits.{IsSession, IsCallLine, EachBehind}
use Rattle.script_grammar.specs.declared.lines.CallLine.{CallLine}
use Rattle.script_grammar.proofs.Law.{few}

-- ---- few of each client are few in all

counted_step : {A : Type 0} (x : A) (a b c : Bool) (xs ys zs : List A) → (b ≡ false → c ≡ false → a ≡ false) → length xs ≤ length ys + length zs → length (cond a (x ∷ xs) xs) ≤ length (cond b (x ∷ ys) ys) + length (cond c (x ∷ zs) zs)
counted_step x false true true xs ys zs none few = omega (arith, few)
counted_step x false true false xs ys zs none few = omega (arith, few)
counted_step x false false true xs ys zs none few = omega (arith, few)
counted_step x false false false xs ys zs none few = omega (arith, few)
counted_step x true true true xs ys zs none few = omega (arith, few)
counted_step x true true false xs ys zs none few = omega (arith, few)
counted_step x true false true xs ys zs none few = omega (arith, few)
counted_step x true false false xs ys zs none few = absurd (let e : true ≡ false = none refl refl in let h : ⊥ = cc in h)

not_below : (m n : ℕ) → nat_lt m n ≡ false → (m == n) ≡ false → nat_lt m (suc n) ≡ false
not_below m n above apart = grind (arith, nat_tests)

-- those below n + 1 are those below n, and n's
counted_more : {A : Type 0} (of : A → ℕ) (n : ℕ) (xs : List A) → length (filter (λ x. nat_lt (of x) (suc n)) xs) ≤ length (filter (λ x. nat_lt (of x) n) xs) + length (filter (λ x. of x == n) xs)
counted_more of n [] = omega arith
counted_more of n (x ∷ xs) =
    counted_step x (nat_lt (of x) (suc n)) (nat_lt (of x) n) (of x == n) (filter (λ x. nat_lt (of x) (suc n)) xs) (filter (λ x. nat_lt (of x) n) xs) (filter (λ x. of x == n) xs)
    (not_below (of x) n) (counted_more of n xs)

below_none : (m : ℕ) → nat_lt m 0 ≡ false
below_none m = grind (arith, nat_tests)

counted_none : {A : Type 0} (of : A → ℕ) (xs : List A) → length (filter (λ x. nat_lt (of x) 0) xs) ≡ 0
counted_none of [] = refl
counted_none of (x ∷ xs) = ap (λ b. length (cond b (x ∷ filter (λ x. nat_lt (of x) 0) xs) (filter (λ x. nat_lt (of x) 0) xs))) (below_none (of x)) ∙ counted_none of xs

counted_below : {A : Type 0} (of : A → ℕ) (most n : ℕ) (xs : List A) → ((c : ℕ) → c < n → length (filter (λ x. of x == c) xs) ≤ most) → length (filter (λ x. nat_lt (of x) n) xs) ≤ n * most
counted_below of most zero xs few = omega (arith, counted_none of xs)
counted_below of most (suc n) xs few = omega (arith, counted_below of most n xs (λ c low. few c (omega (arith, low))), counted_more of n xs, few n (omega arith))

is_below : (m n : ℕ) → m < n → nat_lt m n ≡ true
is_below m n low = grind (arith, nat_tests)

all_below : {A : Type 0} (of : A → ℕ) (n : ℕ) (xs : List A) → All (λ x. of x < n) xs → length (filter (λ x. nat_lt (of x) n) xs) ≡ length xs
all_below of n [] each = refl
all_below of n (x ∷ xs) each =
    ap (λ b. length (cond b (x ∷ filter (λ x. nat_lt (of x) n) xs) (filter (λ x. nat_lt (of x) n) xs))) (is_below (of x) n (All-head (λ x. of x < n) x xs each))
    ∙ ap suc (all_below of n xs (All-tail (λ x. of x < n) x xs each))

few_in_all : {A : Type 0} (of : A → ℕ) (most n : ℕ) (xs : List A) → All (λ x. of x < n) xs → ((c : ℕ) → c < n → length (filter (λ x. of x == c) xs) ≤ most) → length xs ≤ n * most
few_in_all of most n xs each few = omega (arith, all_below of n xs each, counted_below of most n xs few)

-- ---- the lines of a session

clients_behind : (n : ℕ) (assets : List Asset) (before lines : List CallLine) → EachBehind (IsCallLine n assets) before lines → All (λ l. l.client < n) lines
clients_behind n assets before [] each = All-nil (λ l. l.client < n)
clients_behind n assets before (line ∷ lines) each = All-cons (λ l. l.client < n) line lines each.0.client (clients_behind n assets (before ++ line ∷ []) lines each.1)

-- each line is one of a client of the session
pub known_clients : (session : Session) → IsSession session → All (λ l. l.client < session.clients) session.calls
known_clients session limits = clients_behind session.clients session.assets [] session.calls limits.calls

all_few : (n many : ℕ) → n ≤ 16 → many ≤ n * 65536 → many < 2 ^ 32
all_few n many clients within = omega arith

pub few_calls : (session : Session) → IsSession session → length session.calls < 2 ^ 32
few_calls session limits =
    all_few session.clients (length session.calls) limits.clients
    (few_in_all (λ (l : CallLine). l.client) 65536 session.clients session.calls (known_clients session limits) (λ client known. (few session limits).calls client))

pub few_entries : (n : ℕ) (h : List Entry) → n ≤ 16 → All (λ e. client_of_entry e < n) h → ((client : ℕ) → client < n → length (calls_of h client) ≤ 65536) → length h < 2 ^ 32
few_entries n h clients known each = all_few n (length h) clients (few_in_all client_of_entry 65536 n h known each)

-- no client but those of the session has a line
pub no_lines : (n client : ℕ) (lines : List CallLine) → All (λ l. l.client < n) lines → n ≤ client → lines_by client lines ≡ []
no_lines n client [] each above = refl
no_lines n client (line ∷ lines) each above =
    ap (λ b. cond b (line ∷ lines_by client lines) (lines_by client lines)) (other (All-head (λ l. l.client < n) line lines each))
    ∙ no_lines n client lines (All-tail (λ l. l.client < n) line lines each) above
  where
    other : line.client < n → (line.client == client) ≡ false
    other low = grind (arith, nat_tests)
