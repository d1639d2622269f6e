-- A desk that closes finds a whole session.
use Rattle.std.proofs.Common.{◌≡◌, ◌≢◌, ℕ, zero, suc, ◌+◌, ◌<◌, List, [], ◌∷◌, map, length, sym, refl, ap, ◌∙◌, subst, arith, eq-eqb, if◌then◌else◌}
use Rattle.std.specs.List.{range_with_len}
use Rattle.std.proofs.lemmas.List.{length-map}
use Rattle.std.proofs.lemmas.List.FromFn.{length-range_with_len}
use mathlib.Core.Option.{some, some-injective, some-ne-none}
use lib.ListN.{get_elem?}
use Rattle.qws_base.specs.Scenes.{Setting}
use Rattle.qws_base.specs.Books.{BookView}
use Rattle.qws_base.specs.Histories.{World, world_after, IsLegal, calls_of}
use Rattle.qws_base.specs.Shown.{shown_picture}
use Rattle.turn_logs.proofs.Totals.{from_map, total_two}
use Rattle.turn_logs.proofs.Joining.{place_within}
use Rattle.fb_words.specs.declared.known.Client.{Client}
use Rattle.fb_words.specs.declared.known.Closed.{Closed}
use Rattle.fb_words.specs.declared.known.Server.{Server}
use Rattle.fb_words.specs.declared.known.ServerMode.TheVariants.{Closing}
use Rattle.fb_words.specs.Views.{PassView, HeadView, is_client, client_of}
use Rattle.fb_words.specs.Steps.{AllHere, AllIdle, AllSit, SitOnce, Knows, arranged, after_announce, after_settle}
use Rattle.fb_words.specs.Desks.{AreKeptTurns, IsWhole, WholeLaw, history_of, journal_of}
use Rattle.fb_words.proofs.Serving.{in_order, sits_as}
use Rattle.fb_words.proofs.Sitting.{client_of_here}
use Rattle.display_lock.specs.Turns.{withdrawn}
use mathlib.Core.Logic.{dite}
use native.Mathlib.Decide.{ℕ_discrete}
use Rattle.qws_base.specs.declared.journals.JournalEntry.{JournalEntry}
use Rattle.fb_words.specs.Rule.{OrderOk}
use Rattle.server_desk.proofs.Called.{number_within, journal_count}
use Rattle.server_desk.specs.DeskViews.{ClosedView}
use Rattle.server_desk.specs.Sessions.{clients_of, book_among, books_among, history_in, IsBookOf, IsSessionOf, CallsAreOwn}
use Rattle.server_desk.specs.Reading.{IsPicture, ShowsWhole}
use Rattle.server_desk.specs.Grabs.{GrabsAreShown}
use Rattle.server_desk.proofs.Grabbed.{grabs_shown}
use Rattle.turn_logs.specs.Sessions.{SessionLaw, PictureLaw}

-- ---- the turn in which the picture is read

-- the head with these clients, whose server is announced
abbrev pub closing_head : HeadView → List Client → HeadView
closing_head h ps = record h { server = record h.server { mode = Closing }; sitting = ps }

pub is_closing_head : (h sat back announced : HeadView) (ps : List Client) → sat ≡ record h { sitting = ps } → back ≡ withdrawn sat → announced ≡ record back { server = after_announce back.server } → announced ≡ closing_head h ps
is_closing_head h sat back announced ps is_sat is_back is_announced =
    is_announced ∙ ap (λ (x : HeadView). record x { server = after_announce x.server }) is_back ∙ ap (λ (x : HeadView). let y : HeadView = withdrawn x in record y { server = after_announce y.server }) is_sat

pub sat_here : (h sat : HeadView) (ps : List Client) → sat ≡ record h { sitting = ps } → AllHere sat.server sat.sitting → AllHere h.server ps
sat_here h sat ps is here = subst (λ (x : HeadView). AllHere x.server x.sitting) is here

pub announced_here : (h announced : HeadView) (ps : List Client) → announced ≡ closing_head h ps → AllHere h.server ps → AllHere announced.server announced.sitting
announced_here h announced ps is here = subst (λ (x : HeadView). AllHere x.server x.sitting) (sym is) here

pub settled_here : (h announced settled : HeadView) (ps : List Client) → announced ≡ closing_head h ps → settled ≡ record announced { server = after_settle announced.server 4294967296 } → AllHere h.server ps → AllHere settled.server settled.sitting
settled_here h announced settled ps is is_settled here = subst (λ (x : HeadView). AllHere x.server x.sitting) (sym is_settled) (announced_here h announced ps is here)

pub whole_so : WholeLaw → (h announced : HeadView) (ps : List Client) → announced ≡ closing_head h ps → h.server.log ≡ [] → AllIdle ps → AllHere h.server ps
    → (AllHere announced.server announced.sitting → Knows announced.server (arranged (length announced.server.limits) announced.sitting)) → AreKeptTurns h.server.setting.size h.server.closed h.server.tables
    → IsWhole h.server (arranged (length h.server.limits) ps)
whole_so law h announced ps is quiet idle here known kept =
    let P : HeadView → Type 0 = λ x. AllHere x.server x.sitting → Knows x.server (arranged (length x.server.limits) x.sitting) in
    let x : HeadView = closing_head h ps in
    let w = law x.server ps quiet idle here (subst P is known here) kept in
    record { merge = w.merge; legal = w.legal; state = w.state; calls = w.calls; no_others = w.no_others; shows = w.shows }

pub grabs_so : SessionLaw → PictureLaw → (h announced : HeadView) (ps : List Client) → announced ≡ closing_head h ps → h.server.log ≡ [] → AllIdle ps → AllHere h.server ps
    → (AllHere announced.server announced.sitting → Knows announced.server (arranged (length announced.server.limits) announced.sitting)) → AreKeptTurns h.server.setting.size h.server.closed h.server.tables
    → GrabsAreShown h.server.setting h.server.closed (history_of h.server (arranged (length h.server.limits) ps))
grabs_so session picture h announced ps is quiet idle here known kept =
    let P : HeadView → Type 0 = λ x. AllHere x.server x.sitting → Knows x.server (arranged (length x.server.limits) x.sitting) in
    let x : HeadView = closing_head h ps in
    grabs_shown session picture x.server ps quiet idle here (subst P is known here) kept

pub shows_so : (h announced settled : HeadView) (ps : List Client) (shown : List ℕ) → announced ≡ closing_head h ps → settled ≡ record announced { server = after_settle announced.server 4294967296 }
    → IsWhole h.server (arranged (length h.server.limits) ps) → IsPicture settled shown → ShowsWhole h.server (arranged (length h.server.limits) ps) shown
shows_so h announced settled ps shown is is_settled whole picture =
    let y : HeadView = record (closing_head h ps) { server = after_settle (closing_head h ps).server 4294967296 } in
    let same : settled ≡ y = is_settled ∙ ap (λ (x : HeadView). record x { server = after_settle x.server 4294967296 }) is in
    let p : IsPicture y shown = subst (λ (x : HeadView). IsPicture x shown) same picture in
    p.colours ∙ whole.shows p.words p.written

-- ---- the session

-- client c stands at place c
arranged_at : (n c : ℕ) (ps : List Client) (p : Client) → get_elem? (arranged n ps) c ≡ some p → (c < n) × (client_of c ps ≡ p)
arranged_at n c ps p at =
    let long : length (arranged n ps) ≡ n = length-map (range_with_len 0 n) (λ c. client_of c ps) ∙ length-range_with_len 0 n in
    let low : c < n = let z = place_within (arranged n ps) c p at in omega arith in
    let from = from_map (λ c. client_of c ps) (range_with_len 0 n) c p at in
    let is : from.0 ≡ c = some-injective from.0 c (sym from.1 ∙ in_order n 0 c low ∙ ap (λ (k : ℕ). some k) (let z : 0 + c ≡ c = omega arith in z)) in
    (low, ap (λ k. client_of k ps) (sym is) ∙ from.2)

numbered : (s : Server) (ps : List Client) (c : ℕ) → AllHere s ps → c < length s.limits → (client_of c ps).number ≡ c
numbered s ps c here low = let at = here c low in (client_of_here c ps (sits_as ps c at.0 at.1 at.2 at.3)).1

books_at : (passes : List PassView) (n c : ℕ) (b : BookView) → get_elem? (books_among passes n) c ≡ some b → c < n → book_among passes c ≡ b
books_at passes n c b at low =
    let from = from_map (book_among passes) (range_with_len 0 n) c b at in
    let is : from.0 ≡ c = some-injective from.0 c (sym from.1 ∙ in_order n 0 c low ∙ ap (λ (k : ℕ). some k) (let z : 0 + c ≡ c = omega arith in z)) in
    ap (book_among passes) (sym is) ∙ from.2

pub session_so : (s : Server) (setting : Setting) (passes : List PassView) (n : ℕ) (closed : ClosedView) → s.setting ≡ setting → n ≡ length s.limits → closed.size ≡ setting.size → closed.journal ≡ journal_of s.closed → closed.books ≡ books_among passes n
    → AllHere s (map (λ p. p.client) passes) → AllSit s (map (λ p. p.client) passes) → IsWhole s (clients_of (length s.limits) passes) → ShowsWhole s (clients_of (length s.limits) passes) closed.shown → IsSessionOf setting (clients_of n passes) closed
session_so s setting passes n closed is_setting many size journal books here sits whole shown =
    let ps : List Client = map (λ p. p.client) passes in
    let cs : List Client = arranged (length s.limits) ps in
    let merge : history_of s cs ≡ history_in closed.journal cs = whole.merge ∙ ap (λ j. history_in j cs) (sym journal) in
    let r : IsSessionOf s.setting cs closed = record {
      size = size ∙ sym (ap (λ (x : Setting). x.size) is_setting);
      numbers = λ c p at. let a = arranged_at (length s.limits) c ps p at in ap (λ (q : Client). q.number) (sym a.1) ∙ numbered s ps c here a.0;
      as_many = ap (λ (l : List BookView). length l) books ∙ length-map (range_with_len 0 n) (book_among passes) ∙ length-range_with_len 0 n ∙ many ∙ sym (length-map (range_with_len 0 (length s.limits)) (λ c. client_of c ps) ∙ length-range_with_len 0 (length s.limits));
      books = λ c p b at at_b.
          let a = arranged_at (length s.limits) c ps p at in
          let is_book : book_among passes c ≡ b = books_at passes n c b (ap (λ (l : List BookView). get_elem? l c) (sym books) ∙ at_b) (let z = a.0 in omega arith) in
          let made : IsBookOf (client_of c ps) (book_among passes c) = record { number = sym (numbered s ps c here a.0); entries = refl } in
          subst (λ (q : Client). IsBookOf q b) a.1 (subst (λ x. IsBookOf (client_of c ps) x) is_book made);
      order = λ c p at.
          let a = arranged_at (length s.limits) c ps p at in
          let seat = here c a.0 in
          let found = client_of_here c ps (sits_as ps c seat.0 seat.1 seat.2 seat.3) in
          let counted : length closed.journal ≡ length s.closed = ap (λ (l : List JournalEntry). length l) journal ∙ journal_count 1 s.closed in
          subst (λ (n : ℕ). OrderOk n p) (sym counted) (subst (λ (q : Client). OrderOk (length s.closed) q) a.1 (sits found.0.0 (client_of c ps) found.0.1).order);
      legal = subst (λ h. IsLegal s.setting h) merge whole.legal;
      shown = shown ∙ ap (λ h. let world : World = world_after s.setting h in shown_picture s.setting world.state.cursor world.scene) merge;
      calls = λ c p at. ap (λ h. calls_of h c) (sym merge) ∙ whole.calls c p at;
      no_others = λ c past. ap (λ h. calls_of h c) (sym merge) ∙ whole.no_others c past;
    } in
    subst (λ (x : Setting). IsSessionOf x (clients_of n passes) closed) is_setting (subst (λ k. IsSessionOf s.setting (clients_of k passes) closed) (sym many) r)

-- ---- own calls

is_itself : (p : Client) → is_client p.number p ≡ 1
is_itself p = ap (λ b. if b then 1 else 0) (eq-eqb p.number p.number refl)

-- a client that sits once is the one with its number
the_one : (ps : List Client) (k : ℕ) (p : Client) → SitOnce ps → get_elem? ps k ≡ some p → client_of p.number ps ≡ p
the_one ps k p once at =
    let here = client_of_here p.number ps (sits_as ps p.number k p at refl) in
    let q : Client = client_of p.number ps in
    let one = is_itself p in
    let other : is_client p.number q ≡ 1 = ap (λ b. if b then 1 else 0) (eq-eqb q.number p.number here.1) in
    dite (ℕ_discrete here.0.0 k)
    (λ (eq : here.0.0 ≡ k). some-injective q p (sym here.0.1 ∙ ap (get_elem? ps) eq ∙ at))
    (λ (ne : here.0.0 ≢ k). absurd (let both = total_two (is_client p.number) ps k here.0.0 p q ne at here.0.1 in let most = once p.number in omega arith))

at_map : {A B : Type 0} (f : A → B) (l : List A) (k : ℕ) (a : A) → get_elem? l k ≡ some a → get_elem? (map f l) k ≡ some (f a)
at_map f [] k a at = absurd (some-ne-none a (sym at))
at_map f (x ∷ l) zero a at = ap (λ y. some (f y)) (some-injective x a at)
at_map f (x ∷ l) (suc k) a at = at_map f l k a at

at_range : (n c : ℕ) (ps : List Client) → c < n → get_elem? (arranged n ps) c ≡ some (client_of c ps)
at_range n c ps low = at_map (λ i. client_of i ps) (range_with_len 0 n) c c (in_order n 0 c low ∙ ap (λ (k : ℕ). some k) (let z : 0 + c ≡ c = omega arith in z))

pub calls_so : (s : Server) (setting : Setting) (passes : List PassView) (n : ℕ) (closed : ClosedView) → n ≡ length s.limits → AllSit s (map (λ p. p.client) passes) → SitOnce (map (λ p. p.client) passes)
    → IsSessionOf setting (clients_of n passes) closed → CallsAreOwn passes (history_in closed.journal (clients_of n passes))
calls_so s setting passes n closed many sits once session k p at =
    let ps : List Client = map (λ p. p.client) passes in
    let here : get_elem? ps k ≡ some p.client = at_map (λ (p : PassView). p.client) passes k p at in
    let low = number_within s p.client (sits k p.client here) in
    let is = the_one ps k p.client once here in
    session.calls p.client.number p.client (at_range n p.client.number ps (omega arith) ∙ ap (λ (q : Client). some q) is)

-- what was read before a command, in the history of the journal and the clients
pub grabs_there : (s : Server) (setting : Setting) (passes : List PassView) (n : ℕ) (journal : List JournalEntry) (closed : List Closed) → s.setting ≡ setting → n ≡ length s.limits → journal ≡ journal_of s.closed → s.closed ≡ closed
    → IsWhole s (clients_of (length s.limits) passes) → GrabsAreShown s.setting s.closed (history_of s (clients_of (length s.limits) passes)) → GrabsAreShown setting closed (history_in journal (clients_of n passes))
grabs_there s setting passes n journal closed is_setting many is_journal is_closed whole grabs =
    let merge : history_of s (clients_of (length s.limits) passes) ≡ history_in journal (clients_of n passes) = whole.merge ∙ ap (λ j. history_in j (clients_of (length s.limits) passes)) (sym is_journal) ∙ ap (λ k. history_in journal (clients_of k passes)) (sym many) in
    subst (λ (x : Setting). GrabsAreShown x closed (history_in journal (clients_of n passes))) is_setting
    (subst (λ l. GrabsAreShown s.setting l (history_in journal (clients_of n passes))) is_closed (subst (λ h. GrabsAreShown s.setting s.closed h) merge grabs))
