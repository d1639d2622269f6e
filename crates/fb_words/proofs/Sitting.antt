-- A client's seat leaves the head's, or its part goes to the head's. The world stays, or gains a client.
use Rattle.turn_logs.proofs.Joining.{joined-append, upto_same}
use Rattle.turn_logs.specs.Lists.{total}
use Rattle.fb_words.specs.Segments.{client_items, server_items, segment, line, first_value, LineOk}
use Rattle.turn_logs.specs.Lines.{on, Shows}
use Rattle.std.proofs.Common.{◌≡◌, ℕ, zero, suc, ◌+◌, ◌<◌, ◌≤◌, ◌≢◌, ◌⊎◌, ◌==◌, nat_lt, if◌then◌else◌, ne_eqb, Bool, true, false, List, [], ◌∷◌, ◌++◌, length, set, length-append, sym, refl, ap, ◌∙◌, subst, inl, inr, ⊎_elim, arith, Option, Some, None, append-nil, slice_index}
use Rattle.std.specs.List.{flat_map}
use Rattle.std.proofs.lemmas.Bool.Decides.{nat_tests}
use mathlib.Core.Option.{some, some-ne-none}
use lib.ListN.{get_elem?}
use Rattle.atomic_table.specs.Table.{Me, Splits, Joins}
use Rattle.atomic_table.proofs.Lists.{at_set, set_else, at_longer, at_snoc, at_last}
use Rattle.fb_words.specs.declared.known.Client.{Client}
use Rattle.fb_words.specs.declared.known.Server.{Server}
use Rattle.fb_words.specs.declared.known.Closed.{Closed}
use Rattle.fb_words.specs.declared.known.View.{View}
use Rattle.qws_base.specs.Sides.{Sides}
use Rattle.qws_base.specs.Scenes.{Setting}
use Rattle.turn_logs.specs.Tables.{IsTable}
use Rattle.qws_base.specs.declared.journals.BookEntry.{BookEntry}
use Rattle.fb_words.specs.Views.{is_client, alone, busy, reading, only, head_view, without, client_of, nothing, both_views, the_server, steps_in, books_in}
use Rattle.fb_words.specs.Rule.{Parts, clients_in, a_server, servers_in, IsServer, Spread, SeatOk, OrderOk, step_call, steps_of, ClipsOk, LooksOk, Fits, Holds, OpenRights, PaintsOk}
use Rattle.fb_words.specs.Steps.{fresh, with_limit}
use Rattle.turn_logs.proofs.Totals.{total_set, total_snoc, total_append, total_two}
use Rattle.fb_words.proofs.Places.{each_of}
use Rattle.fb_words.proofs.Spreads.{SitIn, only_one}

abbrev one_if : ℕ → ℕ → ℕ
one_if c n = if nat_lt c n then 1 else 0

-- The seat with the view v keeps l, and a new seat has the client q, which stood in v
pub record Leaves (v l : View) (q : Client) (w : Parts) : Type 0 where
  pub server_same : l.server ≡ v.server
  pub clients : (c : ℕ) → clients_in c l + is_client c q ≡ clients_in c v
  pub still : (k : ℕ) (p : Client) → get_elem? l.clients k ≡ some p → get_elem? w.clients p.number ≡ some p
  pub away : get_elem? w.clients q.number ≡ some q

pub spread_split : (views : List View) (w : Parts) (id : ℕ) (v l : View) (q : Client) → Spread views w → get_elem? views id ≡ some v → Leaves v l q w → Spread (set views id l ++ alone q ∷ []) w
spread_split views w id v l q s here m = record {
  one_server = let t = total_set servers_in views id v l here in let u = total_snoc servers_in (set views id l) (alone q) in let one = s.one_server in
      let same : servers_in l ≡ servers_in v = ap a_server m.server_same in omega arith;
  one_client = λ c. let t = total_set (clients_in c) views id v l here in let u = total_snoc (clients_in c) (set views id l) (alone q) in let cut = m.clients c in
      let e : total (clients_in c) (set views id l ++ alone q ∷ []) ≡ total (clients_in c) views = omega arith in e ∙ s.one_client c;
  server_is = λ j u e. ⊎_elim
      (λ (old : get_elem? (set views id l) j ≡ some u). ⊎_elim
      (λ (t : (j ≡ id) × (l ≡ u)). subst (λ x. IsServer x.server w.server) t.1 (rw m.server_same (s.server_is id v here)))
      (λ (t : (j ≢ id) × (get_elem? views j ≡ some u)). s.server_is j u t.1)
      (at_set views id j l u old))
      (λ (new : alone q ≡ u). subst (λ x. IsServer x.server w.server) new tt)
      (at_snoc (set views id l) (alone q) u j e);
  client_is = λ j u e k p at. ⊎_elim
      (λ (old : get_elem? (set views id l) j ≡ some u). ⊎_elim
      (λ (t : (j ≡ id) × (l ≡ u)). m.still k p (subst (λ x. get_elem? x.clients k ≡ some p) (sym t.1) at))
      (λ (t : (j ≢ id) × (get_elem? views j ≡ some u)). s.client_is j u t.1 k p at)
      (at_set views id j l u old))
      (λ (new : alone q ≡ u). let is = only_one q k p (subst (λ x. get_elem? x.clients k ≡ some p) (sym new) at) in subst (λ x. get_elem? w.clients x.number ≡ some x) is m.away)
      (at_snoc (set views id l) (alone q) u j e);
}

-- what is left, and what goes
pub still_there : (c : ℕ) (ps : List Client) (k : ℕ) (p : Client) → get_elem? (without c ps) k ≡ some p → (j : ℕ) × (get_elem? ps j ≡ some p)
still_there c [] k p e = absurd (some-ne-none p (sym e))
still_there c (x ∷ xs) k p e = go (x.number == c) k e (λ k e. still_there c xs k p e)
  where
    go : (b : Bool) (k : ℕ) → get_elem? (if b then xs else x ∷ without c xs) k ≡ some p → ((k : ℕ) → get_elem? (without c xs) k ≡ some p → (j : ℕ) × (get_elem? xs j ≡ some p))
        → (j : ℕ) × (get_elem? (x ∷ xs) j ≡ some p)
    go true k e r = (suc k, e)
    go false zero e r = (0, e)
    go false (suc k) e r = let t = r k e in (suc t.0, t.1)

pub client_of_here : (c : ℕ) (ps : List Client) → 1 ≤ total (is_client c) ps → ((k : ℕ) × (get_elem? ps k ≡ some (client_of c ps))) × ((client_of c ps).number ≡ c)
client_of_here c [] h = absurd (omega arith)
client_of_here c (x ∷ xs) h = go (x.number == c) refl h (client_of_here c xs)
  where
    go : (b : Bool) → (x.number == c) ≡ b → 1 ≤ (if b then 1 else 0) + total (is_client c) xs
        → (1 ≤ total (is_client c) xs → ((k : ℕ) × (get_elem? xs k ≡ some (client_of c xs))) × ((client_of c xs).number ≡ c))
        → ((k : ℕ) × (get_elem? (x ∷ xs) k ≡ some (if b then x else client_of c xs))) × ((if b then x else client_of c xs).number ≡ c)
    go true is h r = ((0, refl), grind (arith, nat_tests))
    go false is h r = let t = r (omega arith) in ((suc t.0.0, t.0.1), t.1)

pub cut_counts : (c d : ℕ) (ps : List Client) → 1 ≤ total (is_client c) ps → total (is_client d) (without c ps) + is_client d (client_of c ps) ≡ total (is_client d) ps
cut_counts c d [] h = absurd (omega arith)
cut_counts c d (x ∷ xs) h = go (x.number == c) refl h (cut_counts c d xs)
  where
    go : (b : Bool) → (x.number == c) ≡ b → 1 ≤ (if b then 1 else 0) + total (is_client c) xs
        → (1 ≤ total (is_client c) xs → total (is_client d) (without c xs) + is_client d (client_of c xs) ≡ total (is_client d) xs)
        → total (is_client d) (if b then xs else x ∷ without c xs) + is_client d (if b then x else client_of c xs) ≡ is_client d x + total (is_client d) xs
    go true is h r = omega arith
    go false is h r = let t = r (omega arith) in omega arith

pub rises : (key : Setting) (id c : ℕ) (s : Server) (ps : List Client) → 1 ≤ total (is_client c) ps
    → Splits (Holds key) id (head_view s ps) (head_view s (without c ps)) (alone (client_of c ps))
rises key id c s ps here st holds at = let w = holds.parts in let there = client_of_here c ps here in let q = client_of c ps in
    let sit : SitIn w.clients ps = holds.spread.client_is id (head_view s ps) at in record {
      parts = w;
      spread = spread_split st.views w id (head_view s ps) (head_view s (without c ps)) q holds.spread at record {
        server_same = refl;
        clients = λ d. cut_counts c d ps here;
        still = λ k p e. let r = still_there c ps k p e in sit r.0 p r.1;
        away = sit there.0.0 q there.0.1;
      };
      fits = holds.fits;
    }

-- A join: the other seat is spent
at_both : {A : Type 0} (l m : List A) (k : ℕ) (a : A) → get_elem? (l ++ m) k ≡ some a → ((j : ℕ) × (get_elem? l j ≡ some a)) ⊎ ((j : ℕ) × (get_elem? m j ≡ some a))
at_both [] m k a e = inr (k, e)
at_both (x ∷ xs) m zero a e = inl (0, e)
at_both (x ∷ xs) m (suc k) a e = ⊎_elim (λ (t : (j : ℕ) × (get_elem? xs j ≡ some a)). inl (suc t.0, t.1)) (λ (t : (j : ℕ) × (get_elem? m j ≡ some a)). inr t) (at_both xs m k a e)

pub sits : (key : Setting) (id other : ℕ) (v : View) (q : Client) → Joins (Holds key) id v other (alone q) (both_views v (alone q)) nothing
sits key id other v q st holds at apart there = let w = holds.parts in let s = holds.spread in let b = both_views v (alone q) in
    let views = set st.views id b in
    let was : get_elem? st.views other ≡ some (alone q) = sym (set_else st.views id other b apart) ∙ there in record {
      parts = w;
      spread = record {
        one_server = let t = total_set servers_in st.views id v b at in let u = total_set servers_in views other (alone q) nothing there in let one = s.one_server in omega arith;
        one_client = λ c. let t = total_set (clients_in c) st.views id v b at in let u = total_set (clients_in c) views other (alone q) nothing there in
            let sum = total_append (is_client c) v.clients (q ∷ []) in
            let e : total (clients_in c) (set views other nothing) ≡ total (clients_in c) st.views = omega arith in e ∙ s.one_client c;
        server_is = λ j u e. ⊎_elim
            (λ (t : (j ≡ other) × (nothing ≡ u)). subst (λ x. IsServer x.server w.server) t.1 tt)
            (λ (t : (j ≢ other) × (get_elem? views j ≡ some u)). ⊎_elim
            (λ (r : (j ≡ id) × (b ≡ u)). subst (λ x. IsServer x.server w.server) r.1 (s.server_is id v at))
            (λ (r : (j ≢ id) × (get_elem? st.views j ≡ some u)). s.server_is j u r.1)
            (at_set st.views id j b u t.1))
            (at_set views other j nothing u e);
        client_is = λ j u e k p e'. ⊎_elim
            (λ (t : (j ≡ other) × (nothing ≡ u)). absurd (some-ne-none p (sym (subst (λ x. get_elem? x.clients k ≡ some p) (sym t.1) e'))))
            (λ (t : (j ≢ other) × (get_elem? views j ≡ some u)). ⊎_elim
            (λ (r : (j ≡ id) × (b ≡ u)). ⊎_elim
            (λ (x : (i : ℕ) × (get_elem? v.clients i ≡ some p)). s.client_is id v at x.0 p x.1)
            (λ (x : (i : ℕ) × (get_elem? (q ∷ []) i ≡ some p)). s.client_is other (alone q) was x.0 p x.1)
            (at_both v.clients (q ∷ []) k p (subst (λ x. get_elem? x.clients k ≡ some p) (sym r.1) e')))
            (λ (r : (j ≢ id) × (get_elem? st.views j ≡ some u)). s.client_is j u r.1 k p e')
            (at_set st.views id j b u t.1))
            (at_set views other j nothing u e);
      };
      fits = holds.fits;
    }

-- no closed turn names a client that isn't admitted
none_yet : (c n : ℕ) (ts : List Closed) → ((k : ℕ) (t : Closed) → get_elem? ts k ≡ some t → t.client ≢ c) → steps_of c n ts ≡ []
none_yet c n [] away = refl
none_yet c n (t ∷ ts) away = let r = none_yet c (n + 1) ts (λ k u e. away (suc k) u e) in
    ap (λ b. if b then step_call (n + 1) t ∷ steps_of c (n + 1) ts else steps_of c (n + 1) ts) (ne_eqb t.client c (away 0 t refl)) ∙ r

admitted_line : (x : ℕ) (s : Server) (cs : List Client) (limit : ℕ) → line x (with_limit s limit) (cs ++ fresh s.setting (length s.limits) limit ∷ []) ≡ line x s cs
admitted_line x s cs limit = let q = fresh s.setting (length s.limits) limit in
    upto_same (segment x (with_limit s limit) (cs ++ q ∷ [])) (segment x s cs) (suc (length s.closed))
    (λ e le. ap (λ z. on x (server_items s e) ++ z) (joined-append (λ r. on x (client_items e r)) cs (q ∷ []) ∙ append-nil (flat_map (λ r. on x (client_items e r)) cs)))

more_admitted : (size : Sides) (n m stamp : ℕ) (t : List ℕ) → n ≤ m → IsTable size n stamp t → IsTable size m stamp t
more_admitted size n m stamp t le ok = record {
  stamp_is = ok.stamp_is;
  revisions = ok.revisions;
  few = ok.few;
  inside = ok.inside;
  apart = ok.apart;
  owners = λ s lt. let o = ok.owners s lt in omega arith;
  unowned = ok.unowned;
  origins = ok.origins;
  cursor = ok.cursor;
}

-- Admission: the parts gain a client
admit_fits : (key : Setting) (words : List ℕ) (s : Server) (cs : List Client) (limit : ℕ) → Fits key words record { server = s; clients = cs } → length s.limits < 16
    → Fits key words record { server = with_limit s limit; clients = cs ++ fresh s.setting (length s.limits) limit ∷ [] }
admit_fits key words s cs limit f room = let q = fresh s.setting (length s.limits) limit in let m = f.as_many in
    let grown = length-append s.limits (limit ∷ []) in record {
      setting = record { long = f.setting.long; screen = f.setting.screen; colour = f.setting.colour; server = f.setting.server };
      gate = let sum = total_snoc busy cs q in let is = f.gate in omega arith;
      apart = λ writing. let sum = total_snoc reading cs q in let none = f.apart writing in omega arith;
      as_many = grown ∙ ap (λ n. n + 1) m ∙ sym (length-append cs (q ∷ []));
      few = rw (length-append cs (q ∷ [])) (omega arith);
      seats = each_of (SeatOk key (with_limit s limit)) cs q
          (λ c p e. let ok = f.seats c p e in record { setting_is = ok.setting_is; number_is = ok.number_is; limit_is = at_longer s.limits (limit ∷ []) c p.step_limit ok.limit_is })
          record { setting_is = f.setting.server; number_is = m; limit_is = at_last s.limits limit (length cs) m };
      closed = let ok = f.closed in record {
        long = ok.long;
        first = ok.first;
        well = λ e t at. more_admitted key.size (length s.limits) (length (s.limits ++ limit ∷ [])) e t (omega arith) (ok.well e t at);
        next = ok.next;
        order = each_of (λ c p. OrderOk (length s.closed) p) cs q ok.order record { rises = λ j k a b lt e d. absurd (some-ne-none a (sym e)); seen_own = λ k a e. absurd (some-ne-none a (sym e)); seen_within = omega arith };
        own_steps = each_of (λ c p. steps_in p.own ≡ steps_of c 0 s.closed) cs q ok.own_steps
            (sym (none_yet (length cs) 0 s.closed (λ k t e. let n = ok.named k t e in (λ eq. absurd (omega arith)))));
        named = λ k t e. let n = ok.named k t e in omega arith;
        paints = each_of (PaintsOk key s.tables) cs q ok.paints (λ k a e. absurd (some-ne-none a (sym e)));
        steps = ok.steps;
      };
      tables = let ok = f.tables in record { wide = ok.wide; shown = ok.shown; last = ok.last };
      clips = each_of (ClipsOk key.size (with_limit s limit)) cs q f.clips (λ k clip t e at. absurd (some-ne-none clip (sym e)));
      looks = each_of (λ c p. LooksOk words (length s.closed) p.mode) cs q f.looks tt;
      rights = each_of (λ c p. OpenRights key.size s.present c p.mode) cs q f.rights tt;
      quiet = f.quiet;
      lines = λ x far lt. subst (LineOk key x (slice_index words x)) (sym (admitted_line x s cs limit)) (f.lines x far lt);
      picks = λ x. subst (Shows (first_value key x)) (sym (admitted_line x s cs limit)) (f.picks x);
    }

-- a new client's seat leaves the head's
pub admits : (key : Setting) (id limit : ℕ) (s : Server) (ps : List Client) → length s.limits < 16
    → Splits (Holds key) id (head_view s ps) (head_view (with_limit s limit) ps) (alone (fresh s.setting (length s.limits) limit))
admits key id limit s ps room st holds at = let w = holds.parts in let v = head_view s ps in let cs = w.clients in
    let is : s ≡ w.server = holds.spread.server_is id v at in
    let same : w ≡ record { server = s; clients = cs } = ap (λ x. let y : Parts = record { server = x; clients = cs } in y) (sym is) in
    let f : Fits key st.words record { server = s; clients = cs } = subst (λ x. Fits key st.words x) same holds.fits in
    let q = fresh s.setting (length s.limits) limit in let l = head_view (with_limit s limit) ps in
    let w' : Parts = record { server = with_limit s limit; clients = cs ++ q ∷ [] } in
    let old = holds.spread in let m = f.as_many in
    let one_more : (c : ℕ) → is_client c q + one_if c (length cs) ≡ one_if c (length (cs ++ q ∷ [])) = (λ c. grown c (length s.limits) (length cs) (length (cs ++ q ∷ [])) m (length-append cs (q ∷ []))) in record {
      parts = w';
      spread = record {
        one_server = let t = total_set servers_in st.views id v l at in let u = total_snoc servers_in (set st.views id l) (alone q) in let one = old.one_server in omega arith;
        one_client = λ c. let t = total_set (clients_in c) st.views id v l at in let u = total_snoc (clients_in c) (set st.views id l) (alone q) in let one = old.one_client c in let more = one_more c in omega arith;
        server_is = λ j u e. ⊎_elim
            (λ (o : get_elem? (set st.views id l) j ≡ some u). ⊎_elim
            (λ (t : (j ≡ id) × (l ≡ u)). subst (λ x. IsServer x.server (with_limit s limit)) t.1 refl)
            (λ (t : (j ≢ id) × (get_elem? st.views j ≡ some u)). lacks_server u.server (with_limit s limit) (let two = total_two servers_in st.views id j v u t.0 at t.1 in let one = old.one_server in omega arith))
            (at_set st.views id j l u o))
            (λ (new : alone q ≡ u). subst (λ x. IsServer x.server (with_limit s limit)) new tt)
            (at_snoc (set st.views id l) (alone q) u j e);
        client_is = λ j u e k p e'. ⊎_elim
            (λ (o : get_elem? (set st.views id l) j ≡ some u). ⊎_elim
            (λ (t : (j ≡ id) × (l ≡ u)). at_longer cs (q ∷ []) p.number p (old.client_is id v at k p (subst (λ x. get_elem? x.clients k ≡ some p) (sym t.1) e')))
            (λ (t : (j ≢ id) × (get_elem? st.views j ≡ some u)). at_longer cs (q ∷ []) p.number p (old.client_is j u t.1 k p e'))
            (at_set st.views id j l u o))
            (λ (new : alone q ≡ u). let is_q = only_one q k p (subst (λ x. get_elem? x.clients k ≡ some p) (sym new) e') in
            subst (λ x. get_elem? (cs ++ q ∷ []) x.number ≡ some x) is_q (at_last cs q (length s.limits) (sym m)))
            (at_snoc (set st.views id l) (alone q) u j e);
      };
      fits = admit_fits key st.words s cs limit f room;
    }
  where
    grown : (c n k j : ℕ) → n ≡ k → j ≡ k + 1 → (if n == c then 1 else 0) + (if nat_lt c k then 1 else 0) ≡ (if nat_lt c j then 1 else 0)
    grown c n k j e d = grind (arith, nat_tests)

    lacks_server : (o : Option Server) (t : Server) → a_server o ≡ 0 → IsServer o t
    lacks_server None t e = tt
    lacks_server (Some s) t e = absurd (omega arith)

-- the same for seats that are known to hold the server part, or one client part
pub admits_seat : (key : Setting) (id limit : ℕ) (v : View) → v ≡ head_view (the_server v) v.clients → length (the_server v).limits < 16
    → Splits (Holds key) id v (head_view (with_limit (the_server v) limit) v.clients) (alone (fresh (the_server v).setting (length (the_server v).limits) limit))
admits_seat key id limit v is room = let P : View → Type 0 = λ u. Splits (Holds key) id u (head_view (with_limit (the_server v) limit) v.clients) (alone (fresh (the_server v).setting (length (the_server v).limits) limit)) in
    subst P (sym is) (admits key id limit (the_server v) v.clients room)

pub rises_seat : (key : Setting) (id c : ℕ) (v : View) → v ≡ head_view (the_server v) v.clients → 1 ≤ total (is_client c) v.clients
    → Splits (Holds key) id v record v { clients = without c v.clients } (alone (client_of c v.clients))
rises_seat key id c v is here = let P : View → Type 0 = λ u. Splits (Holds key) id u record u { clients = without c v.clients } (alone (client_of c v.clients)) in
    subst P (sym is) (rises key id c (the_server v) v.clients here)

pub sits_seat : (key : Setting) (id other : ℕ) (v u : View) → u ≡ alone (only u.clients) → Joins (Holds key) id v other u (both_views v u) nothing
sits_seat key id other v u is = let P : View → Type 0 = λ x. Joins (Holds key) id v other x (both_views v x) nothing in subst P (sym is) (sits key id other v (only u.clients))

pub risen_ok : (m me : Me (Unit {0}) View) (c n seen : ℕ) (book : List BookEntry) → m ≡ (alone (client_of c me.0.clients), []) → 1 ≤ total (is_client c) me.0.clients → n ≡ c → book ≡ books_in (client_of c me.0.clients).own → seen ≡ (client_of c me.0.clients).seen
    → (m ≡ (alone (only m.0.clients), [])) × (n ≡ (only m.0.clients).number) × (book ≡ books_in (only m.0.clients).own) × (seen ≡ (only m.0.clients).seen)
risen_ok m me c n seen book is here same books saw = let P : Me (Unit {0}) View → Type 0 = λ x. (x ≡ (alone (only x.0.clients), [])) × (n ≡ (only x.0.clients).number) × (book ≡ books_in (only x.0.clients).own) × (seen ≡ (only x.0.clients).seen) in
    subst P (sym is) (refl, same ∙ sym (client_of_here c me.0.clients here).1, books, saw)
