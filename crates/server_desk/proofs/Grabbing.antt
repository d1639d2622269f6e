-- Words read one after another at the begin of a turn, and the closed turn that begins so.
use Rattle.std.proofs.Common.{◌≡◌, ℕ, zero, suc, ◌+◌, if◌then◌else◌, false, List, [], ◌∷◌, ◌++◌, map, length, length-append, sym, refl, ap, ◌∙◌, subst, arith, Result, Ok, Err, Vec, Global}
use Rattle.std.specs.Prelude.{IfOk}
use mathlib.Core.Option.{some}
use lib.ListN.{get_elem?}
use Rattle.qws_base.specs.Colours.{shown_colour}
use Rattle.qws_base.specs.declared.colours.Depth.{Depth}
use Rattle.qws_base.specs.declared.journals.JournalEntry.{JournalEntry}
use Rattle.region_table.specs.Numbers.{pixel_word, is_table_word}
use Rattle.turn_logs.specs.declared.items.Item.{Item}
use Rattle.turn_logs.specs.declared.items.Item.TheVariants.{Pick}
use Rattle.turn_logs.specs.Lines.{OnlyPicks}
use Rattle.turn_logs.specs.Phases.{IsTrueLog}
use Rattle.fb_words.specs.declared.known.Client.{Client}
use Rattle.fb_words.specs.declared.known.Closed.{Closed}
use Rattle.server_desk.specs.declared.answers.Answer.{Answer}
use Rattle.server_desk.specs.declared.answers.CallStop.{CallStop}
use Rattle.fb_words.specs.Views.{HeadView}
use Rattle.fb_words.specs.Steps.{ReadTells, after_read}
use Rattle.fb_words.specs.ServerLogs.{LogLaw}
use Rattle.step_turns.specs.Written.{GoesOn}
use Rattle.server_desk.specs.Grabs.{picks_from, IsGrabOf, HasGrabbed}
use Rattle.server_desk.specs.Readings.{HasRead}
use Rattle.server_desk.specs.Serving.{HasServed, turn_with}

picks_more : (p : ℕ) (vs : List ℕ) (v q : ℕ) → q ≡ p + length vs → picks_from p (vs ++ v ∷ []) ≡ picks_from p vs ++ Pick (pixel_word q) v ∷ []
picks_more p [] v q is = ap (λ k. let l : List Item = Pick (pixel_word k) v ∷ [] in l) (let z : p ≡ q = omega arith in z)
picks_more p (u ∷ vs) v q is = ap (λ l. Pick (pixel_word p) u ∷ l) (picks_more (p + 1) vs v q (omega arith))

only_picks : (p : ℕ) (vs : List ℕ) → OnlyPicks (picks_from p vs)
only_picks p [] = tt
only_picks p (v ∷ vs) = only_picks (p + 1) vs

pub none_read : LogLaw → (first : HeadView) (depth : Depth) (shown : List ℕ) → first.server.log ≡ [] → shown ≡ [] → HasRead first first depth shown 0
none_read law first depth shown fresh none = record {
  values = [];
  many = refl;
  head = ap (λ (l : List Item). record first { server = record first.server { log = l } }) fresh;
  only = subst OnlyPicks (sym fresh) tt;
  true_log = subst IsTrueLog (sym fresh) law.opens;
  colours = none;
}

map-append : {A B : Type 0} (f : A → B) (l m : List A) → map f (l ++ m) ≡ map f l ++ map f m
map-append f [] m = refl
map-append f (x ∷ l) m = ap (λ t. f x ∷ t) (map-append f l m)

pub one_more_read : LogLaw → (first now next : HeadView) (depth : Depth) (shown shown' : List ℕ) (p n : ℕ) → is_table_word (10632 + p) ≡ false → HasRead first now depth shown p
    → next ≡ record now { server = after_read now.server (10632 + p) n } → ReadTells now.server now.sitting (10632 + p) n → shown' ≡ shown ++ shown_colour depth n ∷ [] → HasRead first next depth shown' (p + 1)
one_more_read law first now next depth shown shown' p n line has is tells more =
    let many = has.many in
    let log : (after_read now.server (10632 + p) n).log ≡ now.server.log ++ Pick (10632 + p) n ∷ [] = ap (λ b. let l : List Item = if b then now.server.log else now.server.log ++ Pick (10632 + p) n ∷ [] in l) line in
    let now_log : now.server.log ≡ picks_from 0 has.values = ap (λ (h : HeadView). h.server.log) has.head in
    let all : (after_read now.server (10632 + p) n).log ≡ picks_from 0 (has.values ++ n ∷ []) = log ∙ ap (λ (l : List Item). l ++ Pick (10632 + p) n ∷ []) now_log ∙ sym (picks_more 0 has.values n p (omega arith)) in
    let next_log : next.server.log ≡ picks_from 0 (has.values ++ n ∷ []) = ap (λ (h : HeadView). h.server.log) is ∙ all in
    record {
      values = has.values ++ n ∷ [];
      many = length-append has.values (n ∷ []) ∙ omega arith;
      head = is ∙ ap (λ (l : List Item). record now { server = record now.server { log = l } }) all ∙ ap (λ (h : HeadView). record h { server = record h.server { log = picks_from 0 (has.values ++ n ∷ []) } }) has.head;
      only = subst OnlyPicks (sym next_log) (only_picks 0 (has.values ++ n ∷ []));
      true_log = subst (λ (h : HeadView). IsTrueLog h.server.log) (sym is) (law.reads now.server now.sitting (10632 + p) n (omega arith) tells has.true_log);
      colours = more ∙ ap (λ l. l ++ shown_colour depth n ∷ []) has.colours ∙ sym (map-append (shown_colour depth) has.values (n ∷ []));
    }

last_at : {A : Type 0} (l : List A) (a : A) (k : ℕ) → k ≡ length l → get_elem? (l ++ a ∷ []) k ≡ some a
last_at [] a zero is = refl
last_at [] a (suc k) is = absurd (omega arith)
last_at (x ∷ l) a zero is = absurd (omega arith)
last_at (x ∷ l) a (suc k) is = last_at l a k (omega arith)

-- the closed turn of a head that has read first
pub grab_of : (head after first now turned : HeadView) (e : JournalEntry) (depth : Depth) (count number : ℕ) (shown : List ℕ) (served : HasServed head after e) → number ≡ length head.server.closed + 1
    → HasRead first now depth shown count → GoesOn now.server.log turned.server.log → served.log ≡ turned.server.log → HasGrabbed after depth count number shown
grab_of head after first now turned e depth count number shown served numbered read grows logged =
    let t : Closed = turn_with e served.log in
    let closed : after.server.closed ≡ head.server.closed ++ t ∷ [] = ap (λ (h : HeadView). h.server.closed) served.head in
    record {
      grab = record {
        place = length head.server.closed;
        number_is = numbered;
        turn = t;
        there = ap (λ (l : List Closed). get_elem? l (length head.server.closed)) closed ∙ last_at head.server.closed t (length head.server.closed) refl;
        values = read.values;
        begins = record { many = read.many; rest = grows.added; log_is = logged ∙ grows.log ∙ ap (λ (h : HeadView). h.server.log ++ grows.added) read.head };
        colours = read.colours;
      };
    }

-- it stays where a client rises
pub grab_stays : (r : Result (Answer × Vec ℕ Global) CallStop) (stepped next risen : HeadView) (others : List Client) (depth : Depth) (count : ℕ) → next ≡ stepped → risen ≡ record next { sitting = others }
    → IfOk r (λ both. HasGrabbed stepped depth count both.0.number both.1.items) → IfOk r (λ both. IsGrabOf risen.server.closed depth count both.0.number both.1.items)
grab_stays (Ok both) stepped next risen others depth count same rose grab =
    subst (λ (l : List Closed). IsGrabOf l depth count both.0.number both.1.items) (sym (ap (λ (h : HeadView). h.server.closed) rose ∙ ap (λ (h : HeadView). h.server.closed) same)) grab.grab
grab_stays (Err stop) stepped next risen others depth count same rose grab = tt
