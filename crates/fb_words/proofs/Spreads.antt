-- How the views share out the world, when a seat steps, is cut in two, or takes in another.
use Rattle.std.proofs.Common.{◌≡◌, ℕ, zero, suc, ◌+◌, ◌<◌, ◌≤◌, ◌≢◌, ◌==◌, nat_lt, if◌then◌else◌, eq-eqb, ne_eqb, List, [], ◌∷◌, length, get_or, set, length-set, sym, refl, ap, ◌∙◌, subst, ⊎_elim, arith, Option, Some, None}
use Rattle.std.proofs.lemmas.Bool.Decides.{nat_tests}
use mathlib.Core.Option.{some, some-injective, some-ne-none}
use lib.ListN.{get_elem?}
use Rattle.atomic_table.specs.Table.{Me, keeps, Allows}
use Rattle.atomic_table.proofs.Lists.{at_set, set_here, set_else}
use Rattle.fb_words.specs.declared.known.Client.{Client}
use Rattle.fb_words.specs.declared.known.Server.{Server}
use Rattle.fb_words.specs.declared.known.View.{View}
use Rattle.qws_base.specs.Scenes.{Setting}
use Rattle.turn_logs.specs.Lists.{total}
use Rattle.fb_words.specs.Views.{is_client, alone, head_view}
use Rattle.fb_words.specs.Rule.{Parts, clients_in, a_server, servers_in, IsServer, Spread, Fits, Holds}
use Rattle.fb_words.specs.Steps.{SitOnce}
use Rattle.turn_logs.proofs.Joining.{place_within}
use Rattle.turn_logs.proofs.Totals.{total_set, total_one, total_two}

pub is_itself : (p : Client) → is_client p.number p ≡ 1
is_itself p = ap (λ b. if b then 1 else 0) (eq-eqb p.number p.number refl)

pub not_itself : (c : ℕ) (p : Client) → p.number ≢ c → is_client c p ≡ 0
not_itself c p n = ap (λ b. if b then 1 else 0) (ne_eqb p.number c n)

pub at_most_one : (c n : ℕ) → (if nat_lt c n then 1 else 0) ≤ 1
at_most_one c n = grind (arith, nat_tests)

-- a part that a view holds is counted there
pub counted : (v : View) (k : ℕ) (p : Client) → get_elem? v.clients k ≡ some p → 1 ≤ clients_in p.number v
counted v k p e = let one = total_one (is_client p.number) v.clients k p e in let me = is_itself p in omega arith

-- no other view has a client that this one has
pub other_lacks : (views : List View) (w : Parts) (id j : ℕ) (v u : View) (k : ℕ) (p : Client) → Spread views w → j ≢ id
    → get_elem? views id ≡ some v → get_elem? views j ≡ some u → get_elem? u.clients k ≡ some p → clients_in p.number v ≡ 0
other_lacks views w id j v u k p s n here there e =
    let two = total_two (clients_in p.number) views id j v u n here there in let one = s.one_client p.number in let most = at_most_one p.number (length w.clients) in
    let has = counted u k p e in omega arith

is_server_else : (o o' : Option Server) (s t : Server) → a_server o + a_server o' ≤ 1 → (a_server o ≡ 0 → s ≡ t) → IsServer o' s → IsServer o' t
is_server_else o None s t few same is = tt
is_server_else None (Some x) s t few same is = is ∙ same refl
is_server_else (Some y) (Some x) s t few same is = absurd (omega arith)

-- what the seat with the view v may change of the world, when v becomes v'
pub record Moves (v v' : View) (w w' : Parts) : Type 0 where
  pub as_many_servers : servers_in v' ≡ servers_in v
  pub as_many_clients : (c : ℕ) → clients_in c v' ≡ clients_in c v
  pub as_long : length w'.clients ≡ length w.clients
  pub server_is : IsServer v'.server w'.server
  pub server_same : servers_in v ≡ 0 → w.server ≡ w'.server
  pub client_is : (k : ℕ) (p : Client) → get_elem? v'.clients k ≡ some p → get_elem? w'.clients p.number ≡ some p
  pub client_same : (p : Client) → clients_in p.number v ≡ 0 → get_elem? w.clients p.number ≡ some p → get_elem? w'.clients p.number ≡ some p

pub spread_set : (views : List View) (w w' : Parts) (id : ℕ) (v v' : View) → Spread views w → get_elem? views id ≡ some v → Moves v v' w w' → Spread (set views id v') w'
spread_set views w w' id v v' s here m = record {
  one_server = let t = total_set servers_in views id v v' here in let one = s.one_server in let same = m.as_many_servers in omega arith;
  one_client = λ c. let t = total_set (clients_in c) views id v v' here in let one = s.one_client c in let same = m.as_many_clients c in
      let e : total (clients_in c) (set views id v') ≡ total (clients_in c) views = omega arith in e ∙ one ∙ ap (λ n. if nat_lt c n then 1 else 0) (sym m.as_long);
  server_is = λ j u e. ⊎_elim
      (λ (t : (j ≡ id) × (v' ≡ u)). subst (λ x. IsServer x.server w'.server) t.1 m.server_is)
      (λ (t : (j ≢ id) × (get_elem? views j ≡ some u)). is_server_else v.server u.server w.server w'.server
      (let two = total_two servers_in views id j v u t.0 here t.1 in let one = s.one_server in omega arith) m.server_same (s.server_is j u t.1))
      (at_set views id j v' u e);
  client_is = λ j u e k p at. ⊎_elim
      (λ (t : (j ≡ id) × (v' ≡ u)). m.client_is k p (subst (λ x. get_elem? x.clients k ≡ some p) (sym t.1) at))
      (λ (t : (j ≢ id) × (get_elem? views j ≡ some u)). m.client_same p (other_lacks views w id j v u k p s t.0 here t.1 at) (s.client_is j u t.1 k p at))
      (at_set views id j v' u e);
}

abbrev pub with_client : Parts → Client → Parts
with_client w q = record w { clients = set w.clients q.number q }

pub only_one : (p : Client) (k : ℕ) (q : Client) → get_elem? (p ∷ []) k ≡ some q → p ≡ q
only_one p zero q e = some-injective p q e
only_one p (suc k) q e = absurd (some-ne-none q (sym e))

is_apart : (p q : Client) → is_client q.number p + 0 ≡ 0 → q.number ≢ p.number
is_apart p q none e = let one = ap (λ n. is_client n p) (sym e) in let me = is_itself p in omega arith

client_moves : (w : Parts) (p q : Client) → q.number ≡ p.number → get_elem? w.clients p.number ≡ some p → Moves (alone p) (alone q) w (with_client w q)
client_moves w p q same at = record {
  as_many_servers = refl;
  as_many_clients = λ c. ap (λ n. (if n == c then 1 else 0) + 0) same;
  as_long = length-set w.clients q.number q;
  server_is = tt;
  server_same = λ _. refl;
  client_is = λ k r e. let is = only_one q k r e in subst (λ x. get_elem? (set w.clients q.number q) x.number ≡ some x) is
      (set_here w.clients q.number q (subst (λ n. n < length w.clients) (sym same) (place_within w.clients p.number p at)));
  client_same = λ r none e. set_else w.clients q.number r.number q (λ eq. is_apart p r none (eq ∙ same)) ∙ e;
}

abbrev Empty : Type 0
Empty = Unit {0}

-- A step of a seat that holds one client part alone: it owes a fact about the words and the world
pub client_steps : (key : Setting) (slots id : ℕ) (p : Client) (i : ℕ) (f : ℕ → ℕ) (tells : ℕ → Me Empty View → Type 0)
    → ((words : List ℕ) (w : Parts) → Fits key words w → get_elem? w.clients p.number ≡ some p → get_or words i 0 < 18446744073709551616
    → (q : Client) × (q.number ≡ p.number) × Fits key (set words i (f (get_or words i 0))) (with_client w q) × tells (get_or words i 0) (alone q, []))
    → Allows (Holds key) slots id (alone p, []) i f tells
client_steps key slots id p i f tells owes s holds _ at small =
    let w = holds.parts in
    let mine : get_elem? w.clients p.number ≡ some p = holds.spread.client_is id (alone p) at 0 p refl in
    let r = owes s.words w holds.fits mine small in
    let q : Client = r.0 in (
      alone q,
      keeps,
      tt,
      record { parts = with_client w q; spread = spread_set s.views w (with_client w q) id (alone p) (alone q) holds.spread at (client_moves w p q r.1 mine); fits = r.2 },
      r.3,
    )

-- the clients ps, wherever they stand, are those of cs
abbrev pub SitIn : List Client → List Client → Type 0
SitIn cs ps = (k : ℕ) (p : Client) → get_elem? ps k ≡ some p → get_elem? cs p.number ≡ some p

-- A step of the head's seat that changes the server part alone
pub server_steps : (key : Setting) (slots id : ℕ) (s : Server) (ps : List Client) (i : ℕ) (f : ℕ → ℕ) (tells : ℕ → Me Empty View → Type 0)
    → ((words : List ℕ) (cs : List Client) → Fits key words record { server = s; clients = cs } → SitIn cs ps → SitOnce ps → get_or words i 0 < 18446744073709551616
    → (t : Server) × Fits key (set words i (f (get_or words i 0))) record { server = t; clients = cs } × tells (get_or words i 0) (head_view t ps, []))
    → Allows (Holds key) slots id (head_view s ps, []) i f tells
server_steps key slots id s ps i f tells owes st holds _ at small =
    let w = holds.parts in let v = head_view s ps in
    let is : s ≡ w.server = holds.spread.server_is id v at in
    let sit : SitIn w.clients ps = holds.spread.client_is id v at in
    let same : w ≡ record { server = s; clients = w.clients } = ap (λ x. let y : Parts = record { server = x; clients = w.clients } in y) (sym is) in
    let single : SitOnce ps = (λ c. let one = holds.spread.one_client c in let most = at_most_one c (length w.clients) in let here = total_one (clients_in c) st.views id v at in omega arith) in
    let r = owes st.words w.clients (subst (λ x. Fits key st.words x) same holds.fits) sit single small in
    let t : Server = r.0 in let w' : Parts = record { server = t; clients = w.clients } in (
      head_view t ps,
      keeps,
      tt,
      record {
        parts = w';
        spread = spread_set st.views w w' id v (head_view t ps) holds.spread at record {
          as_many_servers = refl;
          as_many_clients = λ c. refl;
          as_long = refl;
          server_is = refl;
          server_same = λ e. absurd (omega arith);
          client_is = sit;
          client_same = λ p _ e. e;
        };
        fits = r.1;
      },
      r.2,
    )
