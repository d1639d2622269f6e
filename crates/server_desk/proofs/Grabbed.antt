-- What was read at the begin of a closed turn is the picture before its command.
use Rattle.std.proofs.Common.{◌≡◌, ◌≢◌, ℕ, zero, suc, ◌+◌, ◌-◌, ◌<◌, ◌≤◌, ◌==◌, nat_lt, if◌then◌else◌, true, false, List, [], ◌∷◌, ◌++◌, map, length, append_assoc, append-nil, sym, refl, ap, ◌∙◌, subst, arith, eq-eqb, ne_eqb}
use Rattle.std.specs.Prelude.{slice_index, slice_index_or}
use Rattle.std.specs.List.{flat_map}
use Rattle.std.proofs.lemmas.List.{get_or-map, length-map}
use Rattle.std.proofs.lemmas.List.FromFn.{fill_by_all}
use mathlib.Core.Option.{some}
use mathlib.Core.Logic.{dite}
use native.Mathlib.Decide.{ℕ_discrete}
use lib.ListN.{get_elem?}
use Rattle.qws_base.specs.Colours.{shown_colour}
use Rattle.qws_base.specs.Points.{pixel_count}
use Rattle.qws_base.specs.Scenes.{Setting}
use Rattle.qws_base.specs.Histories.{world_after, opening_world}
use Rattle.region_table.specs.Numbers.{pixel_word}
use Rattle.region_table.specs.Opening.{opening_table as first_table}
use Rattle.turn_logs.specs.declared.items.Item.{Item}
use Rattle.turn_logs.specs.declared.items.Item.TheVariants.{Pick, Put}
use Rattle.turn_logs.specs.Lines.{on, Shows}
use Rattle.turn_logs.specs.Lists.{upto}
use Rattle.turn_logs.specs.Tables.{table_of}
use Rattle.turn_logs.specs.Carries.{words_after}
use Rattle.turn_logs.specs.Sessions.{ClosedTurn, Served, Drawn, entry_of, log_of, logs_of, table_after, stamp_after, SessionLaw, PictureLaw}
use Rattle.turn_logs.proofs.Joining.{on-append, shows_split, place_within}
use Rattle.fb_words.specs.declared.known.Call.{Call}
use Rattle.fb_words.specs.declared.known.Client.{Client}
use Rattle.fb_words.specs.declared.known.Server.{Server}
use Rattle.fb_words.specs.Segments.{line, first_value}
use Rattle.fb_words.specs.Rule.{CallOk}
use Rattle.fb_words.specs.Steps.{AllIdle, AllHere, Knows, arranged}
use Rattle.fb_words.specs.Desks.{AreKeptTurns, history_of}
use Rattle.fb_words.proofs.ByNumber.{drawn_at, served_at, turns_by, turns_are}
use Rattle.fb_words.proofs.Desks.{arranged_idle, arranged_numbers, turns_upto, carried_to, served_is}
use Rattle.fb_words.proofs.Whole.{line_law}
use Rattle.server_desk.specs.Grabs.{picks_from, step_count, GrabsAreShown}

-- ---- lists

logs_append : (a b : List ClosedTurn) → logs_of (a ++ b) ≡ logs_of a ++ logs_of b
logs_append [] b = refl
logs_append (t ∷ a) b = ap (λ l. log_of t ++ l) (logs_append a b) ∙ sym (append_assoc (log_of t) (logs_of a) (logs_of b))

map-append : {A B : Type 0} (f : A → B) (l m : List A) → map f (l ++ m) ≡ map f l ++ map f m
map-append f [] m = refl
map-append f (x ∷ l) m = ap (λ t. f x ∷ t) (map-append f l m)

shows_front : (v : ℕ) (l m : List Item) → Shows v (l ++ m) → Shows v l
shows_front v [] m shows = tt
shows_front v (Pick w u ∷ l) m shows = (shows.0, shows_front v l m shows.1)
shows_front v (Put w u ∷ l) m shows = shows_front u l m shows

-- the pieces after number e: the next one, and the rest
split_upto : {B : Type 0} (f : ℕ → List B) (e n : ℕ) → e < n → (rest : List B) × (upto f n ≡ upto f e ++ (f (suc e) ++ rest))
split_upto f e zero low = absurd (omega arith)
split_upto {B} f e (suc n) low = dite (ℕ_discrete e n)
    (λ (eq : e ≡ n). ([], ap (λ k. upto f k ++ f (suc k)) (sym eq) ∙ ap (λ l. upto f e ++ l) (sym (append-nil (f (suc e))))))
    (λ (ne : e ≢ n).
    let r : (rest : List B) × (upto f n ≡ upto f e ++ (f (suc e) ++ rest)) = split_upto f e n (omega arith) in
    (r.0 ++ f (suc n), ap (λ l. l ++ f (suc n)) r.1 ∙ append_assoc (upto f e) (f (suc e) ++ r.0) (f (suc n)) ∙ ap (λ l. upto f e ++ l) (append_assoc (f (suc e)) r.0 (f (suc n)))))

-- ---- picks

-- the value that stands for a pixel among Picks that show a value is that value
picked_at : (q : ℕ) (vs : List ℕ) (p w : ℕ) (tail : List Item) → q ≤ p → p < q + length vs → Shows w (on (pixel_word p) (picks_from q vs) ++ tail) → slice_index vs (p - q) ≡ w
picked_at q [] p w tail low high shows = absurd (omega arith)
picked_at q (v ∷ vs) p w tail low high shows = dite (ℕ_discrete q p)
    (λ (eq : q ≡ p).
    let here : (pixel_word q == pixel_word p) ≡ true = eq-eqb (pixel_word q) (pixel_word p) (ap pixel_word eq) in
    let first : Shows w (Pick (pixel_word q) v ∷ on (pixel_word p) (picks_from (q + 1) vs) ++ tail) = subst (λ b. Shows w ((if b then Pick (pixel_word q) v ∷ on (pixel_word p) (picks_from (q + 1) vs) else on (pixel_word p) (picks_from (q + 1) vs)) ++ tail)) here shows in
    ap (slice_index (v ∷ vs)) (let z : p - q ≡ 0 = omega arith in z) ∙ first.0)
    (λ (ne : q ≢ p).
    let away : (pixel_word q == pixel_word p) ≡ false = ne_eqb (pixel_word q) (pixel_word p) (λ same. ne (omega arith)) in
    let later : Shows w (on (pixel_word p) (picks_from (q + 1) vs) ++ tail) = subst (λ b. Shows w ((if b then Pick (pixel_word q) v ∷ on (pixel_word p) (picks_from (q + 1) vs) else on (pixel_word p) (picks_from (q + 1) vs)) ++ tail)) away shows in
    ap (slice_index (v ∷ vs)) (let z : p - q ≡ suc (p - (q + 1)) = omega arith in z) ∙ picked_at (q + 1) vs p w tail (omega arith) (omega arith) later)

-- ---- steps

count_steps : (stamp : ℕ) (turns : List ClosedTurn) → stamp_after stamp turns ≡ stamp + step_count (map entry_of turns)
count_steps stamp [] = omega arith
count_steps stamp (Served c d r t l ∷ turns) = let rest = count_steps (stamp + 1) turns in omega arith
count_steps stamp (Drawn c s g h r l ∷ turns) = count_steps stamp turns

-- ---- the picture before a command

opening_pixel : (setting : Setting) (p : ℕ) → first_value setting (pixel_word p) ≡ setting.backdrop
opening_pixel setting p = let far : nat_lt (10632 + p) 10632 ≡ false = grind (arith, Rattle.std.proofs.lemmas.Bool.Decides.nat_tests) in ap (λ b. if b then 0 else setting.backdrop) far

module _ (session : SessionLaw) (picture : PictureLaw) (s : Server) (ps : List Client) (none : s.log ≡ []) (idle : AllIdle ps) (here : AllHere s ps)
    (known : Knows s (arranged (length s.limits) ps)) (kept : AreKeptTurns s.setting.size s.closed s.tables) where
  abbrev cs : List Client
  cs = arranged (length s.limits) ps

  own : (c : ℕ) (p : Client) → get_elem? cs c ≡ some p → (k : ℕ) (a : Call) → get_elem? p.own k ≡ some a → CallOk s.setting s.tables p.number a
  own c p at k a e = subst (λ n. CallOk s.setting s.tables n a) (sym (arranged_numbers s ps here c p at)) (known.0.paints c p at k a e)

  lines : (x : ℕ) → line x record s { log = [] } cs ≡ on x (logs_of (turns_by s cs))
  lines x = line_law record s { log = [] } cs x refl (λ c p at. (arranged_idle (length s.limits) ps idle c p at, known.0.order c p at)) ∙ ap (λ l. on x (logs_of l)) (turns_are s cs)

  all_shown : (x : ℕ) → Shows (first_value s.setting x) (on x (logs_of (turns_by s cs)))
  all_shown x = subst (Shows (first_value s.setting x)) (lines x) (subst (λ l. Shows (first_value s.setting x) (line x record s { log = l } cs)) none (known.1 x))

  pub grabs_shown : GrabsAreShown s.setting s.closed (history_of s cs)
  grabs_shown e turn values at begins =
      let low : e < length s.closed = place_within s.closed e turn at in
      let first : ℕ → ℕ = first_value s.setting in
      let f : ℕ → List ClosedTurn = λ k. served_at s k ++ flat_map (drawn_at k) cs in
      let a : List ClosedTurn = turns_upto s cs e in
      let to = carried_to s cs known kept own e (omega arith) in
      let split = split_upto f e (length s.closed) low in
      let table = table_of (slice_index_or s.tables (suc e) []) in
      let one : ClosedTurn = Served turn.client turn.command turn.reply table turn.log in
      let rest : List ClosedTurn = flat_map (drawn_at (suc e)) cs ++ split.0 in
      let turns : turns_by s cs ≡ a ++ (one ∷ rest) = split.1 ∙ ap (λ l. a ++ ((l ++ flat_map (drawn_at (suc e)) cs) ++ split.0)) (served_is s.tables (suc e) s.closed e turn at) in
      let logs : logs_of (turns_by s cs) ≡ logs_of a ++ (turn.log ++ logs_of rest) = ap logs_of turns ∙ logs_append a (one ∷ rest) in
      let tail : List Item = begins.rest ++ logs_of rest in
      let read : logs_of (turns_by s cs) ≡ logs_of a ++ (picks_from 0 values ++ tail) = logs ∙ ap (λ l. logs_of a ++ (l ++ logs_of rest)) begins.log_is ∙ ap (λ l. logs_of a ++ l) (append_assoc (picks_from 0 values) begins.rest (logs_of rest)) in
      let parts : (x : ℕ) → Shows (first x) (on x (logs_of a) ++ (on x (picks_from 0 values) ++ on x tail)) =
      (λ x. subst (Shows (first x)) (on-append x (logs_of a) (picks_from 0 values ++ tail) ∙ ap (λ l. on x (logs_of a) ++ l) (on-append x (picks_from 0 values) tail))
      (subst (λ l. Shows (first x) (on x l)) read (all_shown x))) in
      let law = session s.setting (opening_world s.setting) 0 first_table first a
      (picture.opens s.setting first (λ p within. opening_pixel s.setting p))
      (λ x. shows_front (first x) (on x (logs_of a)) (on x (picks_from 0 values) ++ on x tail) (parts x)) to.carried in
      let words : ℕ → ℕ = words_after first (logs_of a) in
      let is_value : (p : ℕ) → p < length values → slice_index values p ≡ words (pixel_word p) =
      (λ p within. ap (slice_index values) (let z : p ≡ p - 0 = omega arith in z)
      ∙ picked_at 0 values p (words (pixel_word p)) (on (pixel_word p) tail) (omega arith) (omega arith)
      (shows_split (first (pixel_word p)) (on (pixel_word p) (logs_of a)) (on (pixel_word p) (picks_from 0 values) ++ on (pixel_word p) tail) (parts (pixel_word p)))) in
      let many = begins.many in
      record {
        before = map entry_of a;
        after = map entry_of rest;
        split = ap (map entry_of) (turns_are s cs) ∙ ap (map entry_of) turns ∙ map-append entry_of a (one ∷ rest);
        steps = let z = count_steps 0 a in let y = to.stamp in omega arith;
        picture = fill_by_all (λ p. shown_colour s.setting.depth (words (pixel_word p))) (map (shown_colour s.setting.depth) values) (pixel_count s.setting.size) 0
            (length-map values (shown_colour s.setting.depth) ∙ many)
            (λ p within. get_or-map (shown_colour s.setting.depth) values p 0 0 (omega arith) ∙ ap (shown_colour s.setting.depth) (is_value p (omega arith)))
            ∙ picture.shows s.setting (world_after s.setting (map entry_of a)) (stamp_after 0 a) (table_after first_table a) words law.1;
      }
