-- A step of a client that changes no word but the gate keeps the words and the world in step.
use Rattle.region_table.specs.Numbers.{IsLineWord}
use Rattle.turn_logs.proofs.Joining.{joined_set_same, upto_same}
use Rattle.turn_logs.specs.Lists.{total}
use Rattle.fb_words.specs.Segments.{call_items, open_items, client_items, server_items, segment, line, first_value, LineOk}
use Rattle.turn_logs.specs.Lines.{on, Shows}
use Rattle.std.proofs.Common.{◌≡◌, ℕ, ◌+◌, ◌-◌, ◌%◌, ◌^◌, ◌<◌, ◌≤◌, zero-le, nat_lt, if◌then◌else◌, Bool, true, false, List, [], ◌∷◌, ◌++◌, length, get_or, set, length-set, sym, refl, ap, ◌∙◌, subst, arith, None, suc}
use Rattle.std.specs.List.{flat_map}
use Rattle.std.proofs.lemmas.List.{get_or-set_other, get_or-set_same}
use Rattle.std.proofs.lemmas.Bool.{false≢true}
use Rattle.std.proofs.lemmas.Bool.Decides.{nat_tests}
use mathlib.Core.Option.{some, none, some-ne-none}
use lib.ListN.{get_elem?}
use Rattle.atomic_table.specs.Table.{Me, step, Allows}
use Rattle.qws_base.specs.Scenes.{Setting}
use Rattle.fb_words.specs.declared.known.Mode.{Mode}
use Rattle.fb_words.specs.declared.known.Mode.TheVariants.{Idle, Refused, Reading}
use Rattle.fb_words.specs.declared.known.ServerMode.{ServerMode}
use Rattle.fb_words.specs.declared.known.ServerMode.TheVariants.{Resting, Closing, Writing}
use Rattle.fb_words.specs.declared.known.Client.{Client}
use Rattle.fb_words.specs.declared.known.Server.{Server}
use Rattle.fb_words.specs.declared.known.View.{View}
use Rattle.fb_words.specs.Views.{busy, reading, busy_mode, reading_mode, shut, is_writing, steps_in, alone, only}
use Rattle.fb_words.specs.Rule.{ClosedOk, Parts, SeatOk, OrderOk, steps_of, TablesOk, ClipsOk, LooksOk, Fits, Holds, OpenRights, PaintsOk}
use Rattle.fb_words.specs.Steps.{after_enter, entered, after_retreat, retreated}
use Rattle.fb_words.proofs.Places.{each_set}
use Rattle.turn_logs.proofs.Totals.{total_set, total_one}
use Rattle.region_table.proofs.Words.{table_positive, line_far, not_both}
use Rattle.fb_words.proofs.Spreads.{with_client, client_steps}

-- the words but the gate are the same
pub record SameWords (words ws : List ℕ) : Type 0 where
  pub long : length ws ≡ length words
  pub same : (i : ℕ) → 1 ≤ i → get_or ws i 0 ≡ get_or words i 0

pub gate_set : (words : List ℕ) (n : ℕ) → SameWords words (set words 0 n)
gate_set words n = record { long = length-set words 0 n; same = λ i some. get_or-set_other words 0 i n 0 (λ eq. absurd (omega arith)) }

pub gate_now : (key : Setting) (words : List ℕ) (w : Parts) (n : ℕ) → Fits key words w → get_or (set words 0 n) 0 0 ≡ n
gate_now key words w n f = let long = f.setting.long in get_or-set_same words 0 n 0 (omega arith)

-- ---- parts that a step leaves as they were

pub tables_same : (words ws : List ℕ) (s : Server) → SameWords words ws → TablesOk words s → TablesOk ws s
tables_same words ws s same ok = record {
  wide = ok.wide;
  shown = λ i t. same.same i (table_positive i t) ∙ ok.shown i t;
  last = ok.last;
}

pub looks_same : (words ws : List ℕ) (closed : ℕ) (m : Mode) → SameWords words ws → LooksOk words closed m → LooksOk ws closed m
looks_same words ws closed Idle same ok = tt
looks_same words ws closed Refused same ok = tt
looks_same words ws closed (Reading stamp slot looked log) same ok = ((λ k l e. let t = ok.0 k l e in (t.0, same.same l.word (table_positive l.word t.0) ∙ t.1)), ok.1, ok.2)

-- a word that is in no table changes
pub looks_kept : (words : List ℕ) (x v closed : ℕ) (m : Mode) → IsLineWord x → LooksOk words closed m → LooksOk (set words x v) closed m
looks_kept words x v closed Idle far ok = tt
looks_kept words x v closed Refused far ok = tt
looks_kept words x v closed (Reading stamp slot looked log) far ok = ((λ k l e. let t = ok.0 k l e in (t.0, get_or-set_other words x l.word v 0 (not_both l.word x t.0 far) ∙ t.1)), ok.1, ok.2)

pub tables_kept : (words : List ℕ) (x v : ℕ) (s : Server) → IsLineWord x → TablesOk words s → TablesOk (set words x v) s
tables_kept words x v s far ok = record {
  wide = ok.wide;
  shown = λ i t. get_or-set_other words x i v 0 (not_both i x t far) ∙ ok.shown i t;
  last = ok.last;
}

-- what is said of one client part, when p becomes q
pub record Still (key : Setting) (ws : List ℕ) (s : Server) (p q : Client) : Type 0 where
  pub number : q.number ≡ p.number
  pub setting : q.setting ≡ p.setting
  pub limit : q.step_limit ≡ p.step_limit
  pub order : OrderOk (length s.closed) q
  pub steps : steps_in q.own ≡ steps_in p.own
  pub clips : ClipsOk key.size s p.number q
  pub looks : LooksOk ws (length s.closed) q.mode
  pub rights : OpenRights key.size s.present p.number q.mode
  pub paints : PaintsOk key s.tables p.number q
  pub items : (e : ℕ) → client_items e q ≡ client_items e p

-- where the calls and the clips are as before
pub same_calls : (key : Setting) (words ws : List ℕ) (w : Parts) (p q : Client) → Fits key words w → get_elem? w.clients p.number ≡ some p
    → q.number ≡ p.number → q.setting ≡ p.setting → q.step_limit ≡ p.step_limit → q.own ≡ p.own → q.seen ≡ p.seen → q.clips ≡ p.clips → LooksOk ws (length w.server.closed) q.mode
    → OpenRights key.size w.server.present p.number q.mode → ((e : ℕ) → open_items e q.mode ≡ open_items e p.mode) → Still key ws w.server p q
same_calls key words ws w p q f at number setting limit own seen clips looks rights items = let ok = f.closed.order p.number p at in record {
  number = number;
  setting = setting;
  limit = limit;
  order = record {
    rises = λ j k a b lt e d. ok.rises j k a b lt (subst (λ l. get_elem? l j ≡ some a) own e) (subst (λ l. get_elem? l k ≡ some b) own d);
    seen_own = λ k a e. rw seen (ok.seen_own k a (subst (λ l. get_elem? l k ≡ some a) own e));
    seen_within = rw seen ok.seen_within;
  };
  steps = ap steps_in own;
  clips = λ k clip t e. f.clips p.number p at k clip t (subst (λ l. get_elem? l k ≡ some clip) clips e);
  looks = looks;
  rights = rights;
  paints = λ k a e. f.closed.paints p.number p at k a (subst (λ l. get_elem? l k ≡ some a) own e);
  items = λ e. ap (λ l. flat_map (call_items e) l ++ open_items e q.mode) own ∙ ap (λ l. flat_map (call_items e) p.own ++ l) (items e);
}

-- the calls of one client change
pub closed_client : (key : Setting) (s : Server) (cs : List Client) (p q : Client) → ClosedOk key s.limits s.closed s.tables cs
    → OrderOk (length s.closed) q → steps_in q.own ≡ steps_of p.number 0 s.closed → PaintsOk key s.tables p.number q → ClosedOk key s.limits s.closed s.tables (set cs p.number q)
closed_client key s cs p q ok order steps paints = record {
  long = ok.long;
  first = ok.first;
  well = ok.well;
  next = ok.next;
  order = each_set (λ c r. OrderOk (length s.closed) r) cs p.number q (λ c r _ e. ok.order c r e) order;
  own_steps = each_set (λ c r. steps_in r.own ≡ steps_of c 0 s.closed) cs p.number q (λ c r _ e. ok.own_steps c r e) steps;
  named = ok.named;
  paints = each_set (PaintsOk key s.tables) cs p.number q (λ c r _ e. ok.paints c r e) paints;
  steps = ok.steps;
}

-- one client part changes, and the gate with it
pub fits_client : (key : Setting) (words ws : List ℕ) (w : Parts) (p q : Client) → Fits key words w → get_elem? w.clients p.number ≡ some p → SameWords words ws
    → get_or ws 0 0 + busy p ≡ get_or words 0 0 + busy q → (is_writing w.server.mode ≡ true → reading q ≤ reading p) → Still key ws w.server p q → Fits key ws (with_client w q)
fits_client key words ws w p q f at same gate apart own = let s = w.server in let cs = w.clients in
    let stays : (x : ℕ) → line x s (set cs p.number q) ≡ line x s cs = (λ x. upto_same (segment x s (set cs p.number q)) (segment x s cs) (suc (length s.closed))
    (λ e le. ap (λ z. on x (server_items s e) ++ z) (joined_set_same (λ r. on x (client_items e r)) cs p.number p q at (ap (on x) (own.items e))))) in
    let P : ℕ → Type 0 = λ n. Fits key ws record w { clients = set cs n q } in subst P (sym own.number) record {
      setting = record { long = same.long ∙ f.setting.long; screen = f.setting.screen; colour = f.setting.colour; server = f.setting.server };
      gate = let sum = total_set busy cs p.number p q at in let is = f.gate in omega arith;
      apart = λ writing. let none = f.apart writing in let less = apart writing in let sum = total_set reading cs p.number p q at in omega arith;
      as_many = f.as_many ∙ sym (length-set cs p.number q);
      few = rw (length-set cs p.number q) f.few;
      seats = each_set (SeatOk key s) cs p.number q (λ c r _ e. f.seats c r e)
          (let ok = f.seats p.number p at in record { setting_is = own.setting ∙ ok.setting_is; number_is = own.number ∙ ok.number_is; limit_is = ok.limit_is ∙ ap some (sym own.limit) });
      closed = closed_client key s cs p q f.closed own.order (own.steps ∙ f.closed.own_steps p.number p at) own.paints;
      tables = tables_same words ws s same f.tables;
      clips = each_set (ClipsOk key.size s) cs p.number q (λ c r _ e. f.clips c r e) own.clips;
      looks = each_set (λ c r. LooksOk ws (length s.closed) r.mode) cs p.number q (λ c r _ e. looks_same words ws (length s.closed) r.mode same (f.looks c r e)) own.looks;
      rights = each_set (λ c r. OpenRights key.size s.present c r.mode) cs p.number q (λ c r _ e. f.rights c r e) own.rights;
      quiet = f.quiet;
      lines = λ x far lt. let old = f.lines x far (rw (sym same.long) lt) in let lo = line_far x far in
          subst (λ z. LineOk key x z (line x s (set cs p.number q))) (sym (same.same x (omega arith))) (subst (LineOk key x (get_or words x 0)) (sym (stays x)) old);
      picks = λ x. subst (Shows (first_value key x)) (sym (stays x)) (f.picks x);
    }

few_busy : (l : List Client) → total busy l ≤ length l
few_busy [] = omega arith
few_busy (p ∷ ps) = let r = few_busy ps in let one = busy_one p.mode in omega arith
  where
    busy_one : (m : Mode) → busy_mode m ≤ 1
    busy_one Idle = omega arith
    busy_one Refused = omega arith
    busy_one (Reading stamp slot looked log) = omega arith

-- there are so few clients that the gate does not wrap
pub gate_small : (key : Setting) (words : List ℕ) (w : Parts) → Fits key words w → get_or words 0 0 ≤ shut w.server.mode + 16
gate_small key words w f = let is = f.gate in let few = few_busy w.clients in let most = f.few in omega arith

pub shut_most : (m : ServerMode) → shut m ≤ 4294967296
shut_most Resting = omega arith
shut_most Closing = omega arith
shut_most Writing = omega arith

low_is_open : (m : ServerMode) (n k : ℕ) → n ≡ shut m + k → n < 4294967296 → is_writing m ≡ true → ⊥
low_is_open Resting n k e low is = false≢true is
low_is_open Closing n k e low is = false≢true is
low_is_open Writing n k e low is = omega arith

-- enter
module _ (key : Setting) (words : List ℕ) (w : Parts) (p : Client) (f : Fits key words w) (at : get_elem? w.clients p.number ≡ some p) (idle : p.mode ≡ Idle) where
  abbrev n : ℕ
  n = get_or words 0 0

  enters_as : (m : Mode) (t : List ℕ) → busy_mode m ≡ 1 → (is_writing w.server.mode ≡ true → reading_mode m ≡ 0) → LooksOk (set words 0 (n + 1)) (length w.server.closed) m → OpenRights key.size w.server.present p.number m → ((e : ℕ) → open_items e m ≡ []) → Fits key (set words 0 (n + 1)) (with_client w record p { mode = m; turned = t })
  enters_as m t one apart looks rights empty = let q : Client = record p { mode = m; turned = t } in
      fits_client key words (set words 0 (n + 1)) w p q f at (gate_set words (n + 1))
      (let z : busy_mode p.mode ≡ 0 = ap busy_mode idle in let now = gate_now key words w (n + 1) f in omega arith) (λ writing. let z = apart writing in omega arith)
      (same_calls key words (set words 0 (n + 1)) w p q f at refl refl refl refl refl refl looks rights (λ e. empty e ∙ ap (open_items e) (sym idle)))

  enters_fit : (b : Bool) → nat_lt n 4294967296 ≡ b → Fits key (set words 0 (n + 1)) (with_client w record p { mode = (if b then Reading None None [] [] else Refused); turned = (if b then p.turned else p.turned ++ n ∷ []) })
  enters_fit true low = enters_as (Reading None None [] []) p.turned refl (λ writing. absurd (low_is_open w.server.mode n (total busy w.clients) f.gate (grind (arith, nat_tests)) writing)) ((λ k l e. absurd (some-ne-none l (sym e))), tt, tt) refl (λ e. refl)
  enters_fit false low = enters_as Refused (p.turned ++ n ∷ []) refl (λ writing. refl) tt tt (λ e. refl)

abbrev Mine : Type 0
Mine = Me (Unit {0}) View

abbrev pub part_of : Mine → Client
part_of me = only me.0.clients

abbrev pub IsAlone : Mine → Type 0
IsAlone me = me ≡ (alone (part_of me), [])

pub enters : (key : Setting) (slots id : ℕ) (me : Mine) → IsAlone me → (part_of me).mode ≡ Idle → Allows (Holds key) slots id me 0 (λ n. (n + 1) % 2 ^ 64) (entered (step slots 0 1 0 none) me)
enters key slots id me is idle = let P : Mine → Type 0 = λ m. Allows (Holds key) slots id m 0 (λ n. (n + 1) % 2 ^ 64) (entered (step slots 0 1 0 none) m) in let p = part_of me in
    subst P (sym is) (client_steps key slots id p 0 (λ n. (n + 1) % 2 ^ 64) (entered (step slots 0 1 0 none) (alone p, []))
    (λ words w f at _. let n : ℕ = get_or words 0 0 in let small = gate_small key words w f in let most = shut_most w.server.mode in let more : (n + 1) % 2 ^ 64 ≡ n + 1 = omega arith in
    (after_enter p n, refl, rw more (enters_fit key words w p f at idle (nat_lt n 4294967296) refl), refl)))

-- retreat
pub retreats : (key : Setting) (slots id : ℕ) (me : Mine) → IsAlone me → (part_of me).mode ≡ Refused → Allows (Holds key) slots id me 0 (λ n. (n + (2 ^ 64 - 1)) % 2 ^ 64) (retreated (step slots 0 1 0 none) me)
retreats key slots id me is refused = let P : Mine → Type 0 = λ m. Allows (Holds key) slots id m 0 (λ n. (n + (2 ^ 64 - 1)) % 2 ^ 64) (retreated (step slots 0 1 0 none) m) in let p = part_of me in
    subst P (sym is) (client_steps key slots id p 0 (λ n. (n + (2 ^ 64 - 1)) % 2 ^ 64) (retreated (step slots 0 1 0 none) (alone p, []))
    (λ words w f at small. let n : ℕ = get_or words 0 0 in let fits : n < 18446744073709551616 = small in let g = f.gate in let is_busy : busy p ≡ 1 = ap busy_mode refused in let one = total_one busy w.clients p.number p at in
    let less : (n + 18446744073709551615) % 18446744073709551616 ≡ n - 1 = omega arith in (
      after_retreat p,
      refl,
      rw less (fits_client key words (set words 0 (n - 1)) w p (after_retreat p) f at (gate_set words (n - 1))
          (let now = gate_now key words w (n - 1) f in omega arith) (λ _. zero-le)
          (same_calls key words (set words 0 (n - 1)) w p (after_retreat p) f at refl refl refl refl refl refl tt tt (λ e. ap (open_items e) (sym refused)))),
      refl,
    )))
