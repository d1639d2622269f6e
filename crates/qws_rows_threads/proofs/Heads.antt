-- What a head needs to end a turn, and has after it.
use Rattle.std.proofs.Common.{◌≡◌, Bool, true, false, ◌==◌, if◌then◌else◌, ℕ, zero, suc, ◌+◌, ◌≤◌, List, [], ◌∷◌, ◌++◌, map, length, length-append, set, refl, sym, ap, ◌∙◌, subst, arith}
use Rattle.std.proofs.lemmas.List.{length-set, get_or-set_same}
use mathlib.Core.Option.{some, some-injective}
use lib.ListN.{get_elem?}
use Rattle.turn_logs.proofs.Totals.{total_map}
use Rattle.qws_base.specs.Sides.{Sides, IsScreen}
use Rattle.qws_base.specs.States.{is_refused}
use Rattle.qws_base.specs.Scenes.{Setting}
use Rattle.qws_base.specs.declared.journals.JournalEntry.{JournalEntry}
use Rattle.fb_words.specs.declared.known.Client.{Client}
use Rattle.fb_words.specs.declared.known.Server.{Server}
use Rattle.turn_logs.specs.declared.items.Item.TheVariants.{Pick}
use Rattle.turn_logs.specs.Tables.{opening_table, IsTable, Follows, table_of}
use Rattle.region_table.specs.Numbers.{is_table_word}
use Rattle.fb_words.specs.Views.{ScreenView, HeadView, is_client, opening_server}
use Rattle.turn_logs.specs.Lists.{total}
use Rattle.fb_words.specs.Steps.{IsNextTable, CarriesAtGive, with_step, stepped, closed_turn, after_give, with_limit, after_read}
use Rattle.turn_logs.proofs.FirstTable.{length-opening, first_table}
use Rattle.qws_rows_threads.specs.Tokens.{IsReadyIn, IsReady, IsHead, with_stamp, IsStamped}
use Rattle.turn_logs.proofs.Stamping.{cursor_words, table_like, follows_like, follows_itself, same_cursor, stamped}
use Rattle.turn_logs.proofs.Standing.{refused_carried}
use Rattle.turn_logs.proofs.Joining.{one_pick}

at_last : {A : Type 0} (l : List A) (a : A) (n : ℕ) → length l ≡ n → get_elem? (l ++ a ∷ []) n ≡ some a
at_last [] a zero e = refl
at_last [] a (suc n) e = absurd (omega arith)
at_last (x ∷ xs) a zero e = absurd (omega arith)
at_last (x ∷ xs) a (suc n) e = at_last xs a n (omega arith)

-- at the opening
pub ready_first : (size : Sides) (admitted : ℕ) → IsScreen size → IsReadyIn size admitted 0 (opening_table ∷ []) opening_table []
ready_first size admitted screen = record {
  long = refl;
  wide = length-opening;
  before = opening_table;
  last = refl;
  is_table = let first = first_table size screen in table_like size 0 admitted 0 0 opening_table opening_table (omega arith) first.stamp_is (λ i is ne. refl) first;
  follows = follows_itself opening_table;
  cursor = refl;
  unput = tt;
}

pub stamped_table : (s : Server) (number : ℕ) → IsReady s → length s.closed + 1 ≡ number → IsTable s.setting.size (length s.limits) (length s.closed + 1) (set s.present 1 number)
stamped_table s number ready is = let wide : length s.present ≡ 10632 = ready.wide in
    table_like s.setting.size (length s.limits) (length s.limits) (length s.closed) (length s.closed + 1) s.present (set s.present 1 number) (omega arith)
    (get_or-set_same s.present 1 number 0 (omega arith) ∙ sym is) (stamped s.present number) ready.is_table

pub next_table : (s : Server) (number : ℕ) → IsReady s → length s.closed + 1 ≡ number → IsNextTable (with_stamp s number)
next_table s number ready is = record {
  is_table = stamped_table s number ready is;
  follows = λ t at. subst (λ b. Follows b (set s.present 1 number)) (some-injective ready.before t (sym ready.last ∙ at)) (follows_like s.setting.size (length s.limits) (length s.closed) ready.before s.present (set s.present 1 number) ready.is_table (stamped s.present number) ready.follows);
}

-- the cursor is that of the last closed table
pub stamped_cursor : (s : Server) (number : ℕ) (ready : IsReady s) → (table_of ready.before).cursor ≡ (table_of (set s.present 1 number)).cursor
stamped_cursor s number ready = ready.cursor ∙ same_cursor s.setting.size s.present (set s.present 1 number) (cursor_words s.present (set s.present 1 number) (stamped s.present number)) ready.is_table.cursor

pub carries_refused : (s : Server) (number : ℕ) (e : JournalEntry) → IsReady s → is_refused e.reply ≡ true → CarriesAtGive (with_stamp s number) e
carries_refused s number e ready refused = λ t at. let is = some-injective ready.before t (sym ready.last ∙ at) in
    refused_carried s.setting (table_of t) (table_of (set s.present 1 number)) e.command e.reply s.log ready.unput refused (subst (λ b. (table_of b).cursor ≡ (table_of (set s.present 1 number)).cursor) is (stamped_cursor s number ready))

-- after the turn
pub ready_again : (s : Server) (number : ℕ) (n : ℕ) → IsReady s → length s.closed + 1 ≡ number → n ≡ length s.closed + 1
    → IsReadyIn s.setting.size (length s.limits) n (s.tables ++ set s.present 1 number ∷ []) (set s.present 1 number) []
ready_again s number n ready is count = let t = set s.present 1 number in subst (λ k. IsReadyIn s.setting.size (length s.limits) k (s.tables ++ t ∷ []) t []) (sym count) (record {
  long = length-append s.tables (t ∷ []) ∙ ap (λ k. k + 1) ready.long;
  wide = length-set s.present 1 number ∙ ready.wide;
  before = t;
  last = at_last s.tables t (length s.closed + 1) ready.long;
  is_table = stamped_table s number ready is;
  follows = follows_itself t;
  cursor = refl;
  unput = tt;
})

-- clients that sit keep their numbers
pub still_sits : (c : ℕ) (e : JournalEntry) (ps : List Client) → total (is_client c) (map (with_step e) ps) ≡ total (is_client c) ps
still_sits c e ps = total_map (is_client c) (is_client c) (with_step e) ps (λ p. number_stays p (p.number == e.client))
  where
    number_stays : (p : Client) (b : Bool) → is_client c (if b then stepped e p else p) ≡ is_client c p
    number_stays p true = refl
    number_stays p false = refl

pub next_number : (screen : ScreenView) (number : ℕ) (h : HeadView) → IsStamped screen number h → number ≡ length h.server.closed + 1
next_number screen number h is = sym is.is_head.1 ∙ ap (λ (x : HeadView). length x.server.closed + 1) (sym is.stamp)

pub client_sits : (screen : ScreenView) (number : ℕ) (h : HeadView) (c : ℕ) → IsStamped screen number h → c ≡ 2 → 1 ≤ total (is_client c) h.sitting
client_sits screen number h c is two = subst (λ n. 1 ≤ total (is_client n) h.sitting) (sym two) (subst (λ (x : HeadView). 1 ≤ total (is_client 2) x.sitting) (sym is.stamp) is.is_head.2)

pub may_end : (screen : ScreenView) (number : ℕ) (h : HeadView) → IsStamped screen number h → IsNextTable h.server
may_end screen number h is = let s = is.before.server in subst (λ (x : HeadView). IsNextTable x.server) (sym is.stamp) (next_table s number is.is_head.3 is.is_head.1)

pub may_carry : (screen : ScreenView) (number : ℕ) (h : HeadView) (e : JournalEntry) → IsStamped screen number h → is_refused e.reply ≡ true → CarriesAtGive h.server e
may_carry screen number h e is refused = subst (λ (x : HeadView). CarriesAtGive x.server e) (sym is.stamp) (carries_refused is.before.server number e is.is_head.3 refused)

pub served : (screen : ScreenView) (number : ℕ) (h after : HeadView) (e : JournalEntry) → IsStamped screen number h
    → after ≡ record h { server = after_give h.server e; sitting = map (with_step e) h.sitting } → IsHead screen (number + 1) after
served screen number h after e is given =
    let step : HeadView → HeadView = λ x. record x { server = after_give x.server e; sitting = map (with_step e) x.sitting } in
    let old = is.before in let ok = is.is_head in
    let count : length (old.server.closed ++ closed_turn old.server e ∷ []) ≡ length old.server.closed + 1 = length-append old.server.closed (closed_turn old.server e ∷ []) in
    let sits = ok.2 in let same = still_sits 2 e old.sitting in let next = ok.1 in
    subst (IsHead screen (number + 1)) (sym (given ∙ ap step is.stamp)) (ok.0, omega arith, omega arith, ready_again old.server number _ ok.3 ok.1 count)

-- ---- a new screen

module _ (screen : ScreenView) (setting : Setting) (h h1 h2 h3 h4 : HeadView) (a b c : ℕ) (p : Client) where
  pub first_head : IsScreen setting.size → h ≡ record { screen = screen; server = opening_server setting; sitting = [] }
      → h1 ≡ record h { server = with_limit h.server a } → h2 ≡ record h1 { server = with_limit h1.server b } → h3 ≡ record h2 { server = with_limit h2.server c }
      → h4 ≡ record h3 { sitting = h3.sitting ++ p ∷ [] } → p.number ≡ length h2.server.limits → IsHead screen 1 h4
  first_head sides e e1 e2 e3 e4 number =
      let admit : ℕ → HeadView → HeadView = λ limit x. record x { server = with_limit x.server limit } in
      let two : h2 ≡ admit b (admit a record { screen = screen; server = opening_server setting; sitting = [] }) = e2 ∙ ap (admit b) (e1 ∙ ap (admit a) e) in
      let all = e4 ∙ ap (λ (x : HeadView). record x { sitting = x.sitting ++ p ∷ [] }) (e3 ∙ ap (admit c) two) in
      let here : p.number ≡ 2 = number ∙ ap (λ (x : HeadView). length x.server.limits) two in
      let sits : is_client 2 p ≡ 1 = ap (λ n. if n == 2 then 1 else 0) here in
      subst (IsHead screen 1) (sym all) (refl, refl, omega arith, ready_first setting.size 3 sides)

-- a read of one word more
pub read_more : (s : Server) (x v : ℕ) → IsReady s → IsReady (after_read s x v)
read_more s x v ready = go (is_table_word x)
  where
    go : (b : Bool) → IsReadyIn s.setting.size (length s.limits) (length s.closed) s.tables s.present (if b then s.log else s.log ++ Pick x v ∷ [])
    go true = ready
    go false = record {
      long = ready.long;
      wide = ready.wide;
      before = ready.before;
      last = ready.last;
      is_table = ready.is_table;
      follows = ready.follows;
      cursor = ready.cursor;
      unput = one_pick s.log x v ready.unput;
    }

pub read_head : (screen : ScreenView) (number : ℕ) (h after : HeadView) (x v : ℕ) → after ≡ record h { server = after_read h.server x v } → IsHead screen number h → IsHead screen number after
read_head screen number h after x v is ok = subst (IsHead screen number) (sym is) (ok.0, ok.1, ok.2, read_more h.server x v ok.3)
