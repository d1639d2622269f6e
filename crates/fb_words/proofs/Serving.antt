-- A step of the head on the gate keeps the words and the world in step.
use Rattle.fb_words.proofs.Painting.{late_none, open_log_at, length_logs}
use Rattle.turn_logs.proofs.Joining.{on-append, on_here, on_there, joined_none, joined-append, upto_same, upto_more, written-append, shows-append, shows_split}
use Rattle.turn_logs.specs.declared.items.Item.{Item}
use Rattle.turn_logs.specs.Lists.{upto, total}
use Rattle.fb_words.specs.Segments.{call_items, open_items, client_items, nth_log, turn_log, server_items, segment, line, first_value, PicksOk, LineOk}
use Rattle.turn_logs.specs.Lines.{item_word, on, written, Shows}
use Rattle.turn_logs.specs.Carries.{CarriesStep}
use Rattle.qws_base.specs.Colours.{IsSceneColour}
use Rattle.qws_base.specs.Points.{pixel_count}
use Rattle.std.proofs.lemmas.List.FromFn.{length-range_with_len}
use Rattle.std.specs.List.{flat_map, range_with_len}
use mathlib.Core.List.{map-append}
use Rattle.std.proofs.Common.{◌≡◌, ℕ, zero, suc, ◌+◌, ◌-◌, ◌*◌, ◌%◌, ◌^◌, ◌<◌, ◌≤◌, ◌==◌, eq-eqb, ne_eqb, if◌then◌else◌, Bool, true, false, List, [], ◌∷◌, ◌++◌, ◌≢◌, map, length, get_or, set, length-set, length-append, append-nil, bit_or, sym, refl, ap, ◌∙◌, subst, arith, ⊎_elim, ◌⊎◌, inl, inr, lt_of_not-le}
use Rattle.std.specs.Int.{bit_at}
use Rattle.std.proofs.lemmas.Nat.{or_disjoint}
use Rattle.std.proofs.lemmas.Nat.Bits.{and_pow}
use Rattle.std.proofs.lemmas.List.{length-map, get_or-set_other, get_or-set_same}
use Rattle.std.proofs.lemmas.Bool.{false≢true}
use Rattle.std.proofs.lemmas.Bool.Decides.{nat_tests}
use mathlib.Core.Option.{some, none, some-injective}
use mathlib.Core.Logic.{dite}
use native.Mathlib.Decide.{ℕ_discrete, dec_le}
use lib.ListN.{get_elem?}
use Rattle.atomic_table.specs.Table.{step, keeps, Me, Allows}
use Rattle.atomic_table.proofs.Lists.{at_map, at_last, at_longer}
use Rattle.qws_base.specs.Sides.{Sides}
use Rattle.qws_base.specs.Scenes.{Setting}
use Rattle.turn_logs.specs.Tables.{IsTable, Follows, table_of}
use Rattle.region_table.specs.Numbers.{first_pixel, IsLineWord, IsTableWord}
use Rattle.fb_words.specs.Clips.{IsClip}
use Rattle.fb_words.specs.declared.known.KeptClip.{KeptClip}
use Rattle.qws_base.specs.declared.journals.JournalEntry.{JournalEntry}
use Rattle.turn_logs.specs.declared.items.Item.TheVariants.{Pick, Put}
use Rattle.fb_words.specs.declared.known.Mode.{Mode}
use Rattle.fb_words.specs.declared.known.Mode.TheVariants.{Idle, Refused, Reading}
use Rattle.fb_words.specs.declared.known.ServerMode.{ServerMode}
use Rattle.fb_words.specs.declared.known.ServerMode.TheVariants.{Resting, Closing, Writing}
use Rattle.fb_words.specs.declared.known.Call.{Call}
use Rattle.fb_words.specs.declared.known.Call.TheVariants.{Step, Paint}
use Rattle.fb_words.specs.declared.known.Client.{Client}
use Rattle.fb_words.specs.declared.known.Closed.{Closed}
use Rattle.fb_words.specs.declared.known.Server.{Server}
use Rattle.fb_words.specs.declared.known.View.{View}
use Rattle.fb_words.specs.Views.{is_client, busy, reading, busy_mode, reading_mode, shut, is_writing, is_closing, steps_in, books_in, head_view, the_server, both_views, client_of, without}
use Rattle.fb_words.specs.Rule.{ClosedOk, Parts, clients_in, Spread, SeatOk, OrderOk, MayFollow, mark, step_call, steps_of, TablesOk, ClipsOk, LooksOk, Fits, Holds, OpenRights, PaintOk, CallOk, PaintsOk, StepsOk, LinesOk}
use Rattle.fb_words.specs.Steps.{after_announce, announced, after_settle, settled, after_withdraw, withdrew, was_read, wrote, after_give, closed_turn, own_step, stepped, with_step, given, IsNextTable, told, AllSit, AllHere, arranged, Knows, CarriesAtGive, IsBetweenTurns}
use Rattle.fb_words.proofs.Places.{each_of, there}
use Rattle.turn_logs.proofs.Totals.{total_one, total_map, from_map, set_same}
use Rattle.region_table.proofs.Words.{table_is, table_positive, table_below, line_is, line_far, not_both}
use Rattle.fb_words.proofs.Rows.{clip_follows}
use Rattle.fb_words.proofs.Spreads.{SitIn, server_steps, Moves, spread_set}
use Rattle.turn_logs.proofs.Joining.{place_within}
use Rattle.fb_words.proofs.Sitting.{client_of_here}
use Rattle.fb_words.proofs.Gate.{gate_set, gate_now, gate_small, SameWords, tables_same, looks_same, looks_kept, tables_kept}

-- what the rule says of the clients that sit with the head
sits_well : (key : Setting) (words : List ℕ) (s : Server) (cs ps : List Client) → Fits key words record { server = s; clients = cs } → SitIn cs ps → AllSit s ps
sits_well key words s cs ps f sit k p e = let at = sit k p e in let ok = f.seats p.number p at in record {
  setting = ok.setting_is ∙ sym f.setting.server;
  limit = ok.limit_is;
  seen = (f.closed.order p.number p at).seen_within;
  own_steps = f.closed.own_steps p.number p at;
  order = f.closed.order p.number p at;
  clips = subst (λ k. ClipsOk k.size s p.number p) (sym f.setting.server) (f.clips p.number p at);
  paints = subst (λ k. PaintsOk k s.tables p.number p) (sym f.setting.server) (f.closed.paints p.number p at);
}

-- where no item counts, the total is 0
total_none : {A : Type 0} (f : A → ℕ) (l : List A) → ((k : ℕ) (a : A) → get_elem? l k ≡ some a → f a ≡ 0) → total f l ≡ 0
total_none f [] each = refl
total_none f (x ∷ xs) each = let r = total_none f xs (λ k a e. each (suc k) a e) in let h = each zero x refl in omega arith

all_idle : (s : Server) (cs ps : List Client) → length s.limits ≡ length cs → SitIn cs ps → AllHere s ps → total busy ps ≡ 0 → total busy cs ≡ 0
all_idle s cs ps long sit here idle = total_none busy cs (λ c q e.
    let h = here c (rw long (place_within cs c q e)) in
    let mine : get_elem? cs c ≡ some h.1 = subst (λ n. get_elem? cs n ≡ some h.1) h.3 (sit h.0 h.1 h.2) in
    let same : h.1 ≡ q = some-injective h.1 q (sym mine ∙ e) in
    let one = total_one busy ps h.0 h.1 h.2 in let z : busy_mode h.1.mode ≡ 0 = omega arith in ap busy (sym same) ∙ z)

no_reader : (l : List Client) → total busy l ≡ 0 → total reading l ≡ 0
no_reader [] e = refl
no_reader (p ∷ ps) e = let r = no_reader ps (omega arith) in let one = less p.mode in omega arith
  where
    less : (m : Mode) → reading_mode m ≤ busy_mode m
    less Idle = omega arith
    less Refused = omega arith
    less (Reading stamp slot looked log) = omega arith

-- where no client reads, nothing is said of its open turn
pub quiet_looks : (words : List ℕ) (closed : ℕ) (m : Mode) → reading_mode m ≡ 0 → LooksOk words closed m
quiet_looks words closed Idle quiet = tt
quiet_looks words closed Refused quiet = tt
quiet_looks words closed (Reading stamp slot looked log) quiet = absurd (omega arith)

pub quiet_rights : (size : Sides) (t : List ℕ) (c : ℕ) (m : Mode) → reading_mode m ≡ 0 → OpenRights size t c m
quiet_rights size t c Idle quiet = tt
quiet_rights size t c Refused quiet = tt
quiet_rights size t c (Reading stamp slot looked log) quiet = absurd (omega arith)

pub reading_one : (cs : List Client) (c : ℕ) (p : Client) → total reading cs ≡ 0 → get_elem? cs c ≡ some p → reading_mode p.mode ≡ 0
reading_one cs c p none_reads e = let one = total_one reading cs c p e in omega arith

-- the gate word is in no line
lines_gate : (key : Setting) (words ws : List ℕ) (s : Server) (cs : List Client) → SameWords words ws → LinesOk key words s cs → LinesOk key ws s cs
lines_gate key words ws s cs same ok x far lt = let lo = line_far x far in subst (λ z. LineOk key x z (line x s cs)) (sym (same.same x (omega arith))) (ok x far (rw (sym same.long) lt))

-- the gate changes with the server's mode
fits_mode : (key : Setting) (words : List ℕ) (s : Server) (cs : List Client) (m : ServerMode) (t : List ℕ) (n : ℕ) → Fits key words record { server = s; clients = cs } → is_writing s.mode ≡ false
    → n + shut s.mode ≡ get_or words 0 0 + shut m → (is_writing m ≡ true → total reading cs ≡ 0) → Fits key (set words 0 n) record { server = record s { mode = m; turned = t }; clients = cs }
fits_mode key words s cs m t n f idle gate apart = let same = gate_set words n in record {
  setting = record { long = same.long ∙ f.setting.long; screen = f.setting.screen; colour = f.setting.colour; server = f.setting.server };
  gate = let is = f.gate in gate_now key words record { server = s; clients = cs } n f ∙ (omega arith);
  apart = apart;
  as_many = f.as_many;
  few = f.few;
  seats = λ c p e. let ok = f.seats c p e in record { setting_is = ok.setting_is; number_is = ok.number_is; limit_is = ok.limit_is };
  closed = f.closed;
  tables = let ok = tables_same words (set words 0 n) s same f.tables in record { wide = ok.wide; shown = ok.shown; last = λ _. ok.last idle };
  clips = f.clips;
  looks = λ c p e. looks_same words (set words 0 n) (length s.closed) p.mode same (f.looks c p e);
  rights = f.rights;
  quiet = λ _. f.quiet idle;
  lines = lines_gate key words (set words 0 n) s cs same f.lines;
  picks = f.picks;
}

-- ---- what is known where all clients sit

same_lists : {A : Type 0} (l m : List A) → length l ≡ length m → ((k : ℕ) (a : A) → get_elem? l k ≡ some a → get_elem? m k ≡ some a) → l ≡ m
same_lists [] [] long each = refl
same_lists [] (y ∷ m) long each = absurd (omega arith)
same_lists (x ∷ l) [] long each = absurd (omega arith)
same_lists {A} (x ∷ l) (y ∷ m) long each = ap (λ (z : A). z ∷ l) (sym (some-injective y x (each 0 x refl))) ∙ ap (λ t. y ∷ t) (same_lists l m (omega arith) (λ k a e. each (suc k) a e))

pub in_order : (n i k : ℕ) → k < n → get_elem? (range_with_len i n) k ≡ some (i + k)
in_order zero i k lt = absurd (omega arith)
in_order (suc n) i zero lt = ap some (let z : i ≡ i + 0 = omega arith in z)
in_order (suc n) i (suc k) lt = in_order n (i + 1) k (omega arith) ∙ ap some (let z : i + 1 + k ≡ i + suc k = omega arith in z)

pub sits_as : (ps : List Client) (c k : ℕ) (p : Client) → get_elem? ps k ≡ some p → p.number ≡ c → 1 ≤ total (is_client c) ps
sits_as ps c k p e same = let one = total_one (is_client c) ps k p e in let me : is_client c p ≡ 1 = ap (λ b. if b then 1 else 0) (eq-eqb p.number c same) in omega arith

pub all_arranged : (s : Server) (cs ps : List Client) → length s.limits ≡ length cs → SitIn cs ps → AllHere s ps → cs ≡ arranged (length s.limits) ps
all_arranged s cs ps long sit here = same_lists cs (arranged (length s.limits) ps)
    (sym long ∙ sym (length-range_with_len 0 (length s.limits)) ∙ sym (length-map (range_with_len 0 (length s.limits)) (λ c. client_of c ps)))
    (λ c q e. let small : c < length s.limits = rw long (place_within cs c q e) in let h = here c small in
    let found = client_of_here c ps (sits_as ps c h.0 h.1 h.2 h.3) in
    let at_c : get_elem? cs c ≡ some (client_of c ps) = subst (λ n. get_elem? cs n ≡ some (client_of c ps)) found.1 (sit found.0.0 (client_of c ps) found.0.1) in
    at_map (λ c. client_of c ps) (range_with_len 0 (length s.limits)) c c (in_order (length s.limits) 0 c small ∙ ap some (let z : 0 + c ≡ c = omega arith in z)) ∙ sym at_c ∙ e)

knows_of : (words : List ℕ) (s : Server) (cs : List Client) → Fits s.setting words record { server = s; clients = cs } → Knows s cs
knows_of words s cs f = (f.closed, f.picks)

knows_all : (key : Setting) (words : List ℕ) (s : Server) (cs ps : List Client) → Fits key words record { server = s; clients = cs } → SitIn cs ps → AllHere s ps → Knows s (arranged (length s.limits) ps)
knows_all key words s cs ps f sit here = subst (Knows s) (all_arranged s cs ps f.as_many sit here)
    (knows_of words s cs (subst (λ k. Fits k words record { server = s; clients = cs }) (sym f.setting.server) f))

-- ---- announce

no_bit : (n : ℕ) → n < 2 ^ 32 → bit_at n 32 ≡ 0
no_bit n small = omega arith

sets_bit : (n : ℕ) → n < 2 ^ 32 → bit_or n 4294967296 ≡ n + 4294967296
sets_bit n small = or_disjoint n (2 ^ 32) (and_pow n 32 ∙ ap (λ b. b * 2 ^ 32) (no_bit n small))

abbrev not_written : (m : ServerMode) → m ≡ Resting → shut m ≡ 0
not_written m e = ap shut e

announces : (key : Setting) (slots id : ℕ) (s : Server) (ps : List Client) → s.mode ≡ Resting
    → Allows (Holds key) slots id (head_view s ps, []) 0 (λ n. bit_or n 4294967296) (announced (step slots 0 4294967296 0 none) (head_view s ps, []))
announces key slots id s ps resting = server_steps key slots id s ps 0 (λ n. bit_or n 4294967296) (announced (step slots 0 4294967296 0 none) (head_view s ps, []))
    (λ words cs f sit _ _. let n : ℕ = get_or words 0 0 in let open_gate : shut s.mode ≡ 0 = ap shut resting in
    let small = gate_small key words record { server = s; clients = cs } f in let low : n < 4294967296 = omega arith in (
      after_announce s,
      rw (sets_bit n low) (fits_mode key words s cs Closing s.turned (n + 4294967296) f (ap is_writing resting) (omega arith) (λ e. absurd (false≢true e))),
      (refl, low),
    ))

-- ---- settle

same_gate : (key : Setting) (words : List ℕ) (s t : Server) (cs : List Client) → Fits key (set words 0 (get_or words 0 0)) record { server = t; clients = cs } → Fits key words record { server = t; clients = cs }
same_gate key words s t cs f = subst (λ x. Fits key x record { server = t; clients = cs }) (set_same words 0) f

settles : (key : Setting) (slots id : ℕ) (s : Server) (ps : List Client) → s.mode ≡ Closing → total busy ps ≡ 0
    → Allows (Holds key) slots id (head_view s ps, []) 0 (λ n. n) (settled (step slots 0 0 0 none) (head_view s ps, []))
settles key slots id s ps closing idle = server_steps key slots id s ps 0 (λ n. n) (settled (step slots 0 0 0 none) (head_view s ps, []))
    (λ words cs f sit _ _. let n : ℕ = get_or words 0 0 in let is = f.gate in let door : shut s.mode ≡ 4294967296 = ap shut closing in (
      after_settle s n,
      go words cs f n refl (n == 4294967296) refl,
      (refl, (λ here. let none_busy = all_idle s cs ps f.as_many sit here idle in omega arith), (λ here. knows_all key words s cs ps f sit here), between words cs f),
    ))
  where
    between : (words : List ℕ) (cs : List Client) → Fits key words record { server = s; clients = cs } → IsBetweenTurns s
    between words cs f = let idle = ap is_writing closing in record {
      empty = f.quiet idle;
      last = f.tables.last idle;
      wide = f.tables.wide;
      is_table = subst (λ k. IsTable k.size (length s.limits) (length s.closed) s.present) (sym f.setting.server) (f.closed.well (length s.closed) s.present (f.tables.last idle));
    }

    go : (words : List ℕ) (cs : List Client) (f : Fits key words record { server = s; clients = cs }) (n : ℕ) → n ≡ get_or words 0 0 → (b : Bool) → (n == 4294967296) ≡ b
        → Fits key (set words 0 n) record { server = record s { mode = (if b then Writing else Closing); turned = (if b then s.turned else s.turned ++ n ∷ []) }; clients = cs }
    go words cs f n is true hit = let door : shut s.mode ≡ 4294967296 = ap shut closing in let found : n ≡ 4294967296 = grind (arith, nat_tests) in let g = f.gate in
        fits_mode key words s cs Writing s.turned n f (ap is_writing closing) (omega arith) (λ _. no_reader cs (omega arith))
    go words cs f n is false miss = let door : shut s.mode ≡ 4294967296 = ap shut closing in
        fits_mode key words s cs Closing (s.turned ++ n ∷ []) n f (ap is_writing closing) (omega arith) (λ e. absurd (false≢true e))

-- ---- withdraw

withdraws : (key : Setting) (slots id : ℕ) (s : Server) (ps : List Client) → s.mode ≡ Closing
    → Allows (Holds key) slots id (head_view s ps, []) 0 (λ n. (n + (2 ^ 64 - 4294967296)) % 2 ^ 64) (withdrew (step slots 0 4294967296 0 none) (head_view s ps, []))
withdraws key slots id s ps closing = server_steps key slots id s ps 0 (λ n. (n + (2 ^ 64 - 4294967296)) % 2 ^ 64) (withdrew (step slots 0 4294967296 0 none) (head_view s ps, []))
    (λ words cs f sit _ small. let n : ℕ = get_or words 0 0 in let fits : n < 18446744073709551616 = small in let g = f.gate in let door : shut s.mode ≡ 4294967296 = ap shut closing in
    let less : (n + (2 ^ 64 - 4294967296)) % 2 ^ 64 ≡ n - 4294967296 = omega arith in (
      after_withdraw s,
      rw less (fits_mode key words s cs Resting s.turned (n - 4294967296) f (ap is_writing closing) (omega arith) (λ e. absurd (false≢true e))),
      refl,
    ))

-- ---- a load that tells

tells : (key : Setting) (slots id : ℕ) (s : Server) (ps : List Client) → Allows (Holds key) slots id (head_view s ps, []) 0 (λ n. n) (told (step slots 0 0 0 none) (head_view s ps, []))
tells key slots id s ps = server_steps key slots id s ps 0 (λ n. n) (told (step slots 0 0 0 none) (head_view s ps, []))
    (λ words cs f sit once _. (s, subst (λ x. Fits key x record { server = s; clients = cs }) (sym (set_same words 0)) f, (refl, sits_well key words s cs ps f sit, once, (let many = f.as_many in let few = f.few in omega arith), λ here. knows_all key words s cs ps f sit here)))

-- ---- give

pub steps_of_more : (c n : ℕ) (ts : List Closed) (t : Closed) → steps_of c n (ts ++ t ∷ []) ≡ steps_of c n ts ++ steps_of c (n + length ts) (t ∷ [])
steps_of_more c n [] t = rw (let z : n + 0 ≡ n = omega arith in z) refl
steps_of_more c n (u ∷ ts) t = let r = steps_of_more c (n + 1) ts t in
    let same : n + 1 + length ts ≡ n + length (u ∷ ts) = omega arith in go (u.client == c) (r ∙ ap (λ k. steps_of c (n + 1) ts ++ steps_of c k (t ∷ [])) same)
  where
    go : (b : Bool) → steps_of c (n + 1) (ts ++ t ∷ []) ≡ steps_of c (n + 1) ts ++ steps_of c (n + length (u ∷ ts)) (t ∷ [])
        → (if b then step_call (n + 1) u ∷ steps_of c (n + 1) (ts ++ t ∷ []) else steps_of c (n + 1) (ts ++ t ∷ []))
        ≡ (if b then step_call (n + 1) u ∷ steps_of c (n + 1) ts else steps_of c (n + 1) ts) ++ steps_of c (n + length (u ∷ ts)) (t ∷ [])
    go true e = ap (λ l. step_call (n + 1) u ∷ l) e
    go false e = e

-- a client's part after a give: by whether it is the entry's
pub by_number : (e : JournalEntry) (p : Client) (P : Client → Type 0) → (p.number ≡ e.client → P (stepped e p)) → (p.number ≢ e.client → P p) → P (with_step e p)
by_number e p P same other = dite (ℕ_discrete p.number e.client)
    (λ is. subst (λ b. P (if b then stepped e p else p)) (sym (eq-eqb p.number e.client is)) (same is))
    (λ not. subst (λ b. P (if b then stepped e p else p)) (sym (ne_eqb p.number e.client not)) (other not))

pub same_number : (e : JournalEntry) (p : Client) → (with_step e p).number ≡ p.number
same_number e p = by_number e p (λ q. q.number ≡ p.number) (λ _. refl) (λ _. refl)

pub same_mode : (e : JournalEntry) (p : Client) → (with_step e p).mode ≡ p.mode
same_mode e p = by_number e p (λ q. q.mode ≡ p.mode) (λ _. refl) (λ _. refl)

pub steps_more : (l : List Call) (a : Call) → steps_in (l ++ a ∷ []) ≡ steps_in l ++ steps_in (a ∷ [])
steps_more [] a = refl
steps_more (Step s ∷ l) a = ap (λ t. s ∷ t) (steps_more l a)
steps_more (Paint p ∷ l) a = steps_more l a

pub books_more : (l : List Call) (a : Call) → books_in (l ++ a ∷ []) ≡ books_in l ++ books_in (a ∷ [])
books_more [] a = refl
books_more (Step s ∷ l) a = books_more l a
books_more (Paint p ∷ l) a = ap (λ t. Rattle.fb_words.specs.Views.book_entry p ∷ t) (books_more l a)

-- a call that has seen more than all before it
pub order_more : (closed to : ℕ) (p q : Client) (a : Call) → OrderOk closed p → q.own ≡ p.own ++ a ∷ [] → q.seen ≡ mark a → p.seen ≤ q.seen → ((b : Call) → mark b ≤ p.seen → MayFollow b a) → q.seen ≤ to → OrderOk to q
order_more closed to p q a ok own seen later follows within = record {
  rises = λ j k b c lt e d. each_of (λ k c. (j : ℕ) (b : Call) → j < k → get_elem? (p.own ++ a ∷ []) j ≡ some b → MayFollow b c) p.own a
      (λ k c d j b lt e. each_of (λ j b. j < k → MayFollow b c) p.own a (λ j b e lt. ok.rises j k b c lt e d) (λ lt. let w = place_within p.own k c d in absurd (omega arith)) j b e lt)
      (λ j b lt e. each_of (λ j b. j < length p.own → MayFollow b a) p.own a (λ j b e lt. follows b (ok.seen_own j b e)) (λ lt. absurd (omega arith)) j b e lt)
      k c (subst (λ l. get_elem? l k ≡ some c) own d) j b lt (subst (λ l. get_elem? l j ≡ some b) own e);
  seen_own = λ k b e. each_of (λ k b. mark b ≤ q.seen) p.own a (λ k b e. let o = ok.seen_own k b e in omega arith) (omega arith) k b (subst (λ l. get_elem? l k ≡ some b) own e);
  seen_within = within;
}

given_order : (s : Server) (e : JournalEntry) (p : Client) → e.number ≡ length s.closed + 1 → OrderOk (length s.closed) p → OrderOk (length (after_give s e).closed) (with_step e p)
given_order s e p next ok = let long = length-append s.closed (closed_turn s e ∷ []) in let within = ok.seen_within in by_number e p (OrderOk (length (after_give s e).closed))
    (λ is. order_more (length s.closed) (length (after_give s e).closed) p (stepped e p) (Step (own_step e)) ok refl refl (omega arith) (λ b le. omega arith) (omega arith))
    (λ not. record { rises = ok.rises; seen_own = ok.seen_own; seen_within = omega arith })

given_steps : (s : Server) (e : JournalEntry) (c : ℕ) (p : Client) → e.number ≡ length s.closed + 1 → p.number ≡ c → steps_in p.own ≡ steps_of c 0 s.closed → steps_in (with_step e p).own ≡ steps_of c 0 (after_give s e).closed
given_steps s e c p next number ok = let t = closed_turn s e in by_number e p (λ q. steps_in q.own ≡ steps_of c 0 (s.closed ++ t ∷ []))
    (λ is. let is_c : e.client ≡ c = sym is ∙ number in
    steps_more p.own (Step (own_step e)) ∙ ap (λ l. l ++ own_step e ∷ []) ok
    ∙ ap (λ l. steps_of c 0 s.closed ++ l) (ap (λ n. step_call n t ∷ []) (let z : e.number ≡ 0 + length s.closed + 1 = omega arith in z) ∙ ap (λ b. if b then step_call (0 + length s.closed + 1) t ∷ [] else []) (sym (eq-eqb e.client c is_c)))
    ∙ sym (steps_of_more c 0 s.closed t))
    (λ not. let not_c : e.client ≢ c = (λ eq. not (number ∙ sym eq)) in
    ok ∙ sym (append-nil (steps_of c 0 s.closed)) ∙ ap (λ b. steps_of c 0 s.closed ++ (if b then step_call (0 + length s.closed + 1) t ∷ [] else [])) (sym (ne_eqb e.client c not_c)) ∙ sym (steps_of_more c 0 s.closed t))

given_tables : (words ws : List ℕ) (s : Server) (e : JournalEntry) → SameWords words ws → length s.tables ≡ length s.closed + 1 → TablesOk words s → TablesOk ws (after_give s e)
given_tables words ws s e same long ok = let n = length-append s.closed (closed_turn s e ∷ []) in record {
  wide = ok.wide;
  shown = λ i t. same.same i (table_positive i t) ∙ ok.shown i t;
  last = λ _. at_last s.tables s.present (length (after_give s e).closed) (omega arith);
}

given_clips : (size : Sides) (s : Server) (e : JournalEntry) (c : ℕ) (p : Client) → length s.tables ≡ length s.closed + 1 → ((t : List ℕ) → get_elem? s.tables (length s.closed) ≡ some t → Follows t s.present)
    → ClipsOk size s c p → ClipsOk size (after_give s e) c (with_step e p)
given_clips size s e c p long follows clips = by_number e p (ClipsOk size (after_give s e) c) (λ _. now) (λ _. now)
  where
    now : (k : ℕ) (clip : KeptClip) (t : List ℕ) → get_elem? p.clips k ≡ some clip → get_elem? (s.tables ++ s.present ∷ []) (length (s.closed ++ closed_turn s e ∷ [])) ≡ some t → IsClip size t c clip
    now k clip t at at_t = let n = length-append s.closed (closed_turn s e ∷ []) in
        let last_at : get_elem? (s.tables ++ s.present ∷ []) (length (s.closed ++ closed_turn s e ∷ [])) ≡ some s.present = at_last s.tables s.present (length (s.closed ++ closed_turn s e ∷ [])) (omega arith) in
        let is : s.present ≡ t = some-injective s.present t (sym last_at ∙ at_t) in
        let u = there s.tables (length s.closed) (omega arith) in
        subst (λ x. IsClip size x c clip) is (clip_follows size c u.0 s.present clip (follows u.0 u.1) (clips k clip u.0 at u.1))

-- ---- the lines and the turns after a give

nth_front : (ls ms : List (List Item)) (k : ℕ) → k < length ls → nth_log (ls ++ ms) k ≡ nth_log ls k
nth_front [] ms k lt = absurd (omega arith)
nth_front (l ∷ ls) ms zero lt = refl
nth_front (l ∷ ls) ms (suc k) lt = nth_front ls ms k (omega arith)

early_logs : (s : Server) (l : List Item) (e : ℕ) → e ≤ length s.closed → server_items record s { log = l } e ≡ server_items s e
early_logs s l zero le = refl
early_logs s l (suc k) le = let n = length_logs s in nth_front (map turn_log s.closed) (l ∷ []) k (omega arith) ∙ sym (nth_front (map turn_log s.closed) (s.log ∷ []) k (omega arith))

open_log : (s : Server) → server_items s (suc (length s.closed)) ≡ s.log
open_log s = ap (λ k. nth_log (map turn_log s.closed ++ s.log ∷ []) k) (sym (length_logs s)) ∙ open_log_at (map turn_log s.closed) s.log

server_line : (x : ℕ) (s : Server) (cs : List Client) (i : Item) → ((c : ℕ) (r : Client) → get_elem? cs c ≡ some r → on x (client_items (suc (length s.closed)) r) ≡ [])
    → line x record s { log = s.log ++ i ∷ [] } cs ≡ line x s cs ++ on x (i ∷ [])
server_line x s cs i late = let E = length s.closed in let s' : Server = record s { log = s.log ++ i ∷ [] } in
    let quiet = joined_none (λ r. on x (client_items (suc E) r)) cs late in
    upto_more (segment x s' cs) (segment x s cs) (on x (i ∷ [])) (suc E)
    (λ e lt. ap (λ l. on x l ++ flat_map (λ p. on x (client_items e p)) cs) (early_logs s (s.log ++ i ∷ []) e (omega arith)))
    (ap (λ z. on x (server_items s' (suc E)) ++ z) quiet ∙ append-nil (on x (server_items s' (suc E))) ∙ ap (on x) (open_log s') ∙ on-append x s.log (i ∷ [])
    ∙ ap (λ z. z ++ on x (i ∷ [])) (sym (ap (λ z. on x (server_items s (suc E)) ++ z) quiet ∙ append-nil (on x (server_items s (suc E))) ∙ ap (on x) (open_log s))))

turns_before : (s : Server) (e : JournalEntry) (k : ℕ) → k ≤ length s.closed → nth_log (map turn_log (s.closed ++ closed_turn s e ∷ []) ++ [] ∷ []) k ≡ nth_log (map turn_log s.closed ++ s.log ∷ []) k
turns_before s e k le = let ls = map turn_log s.closed in let n = length_logs s in let grown = map-append turn_log s.closed (closed_turn s e ∷ []) in
    ap (λ l. nth_log (l ++ [] ∷ []) k) grown ∙ nth_front (ls ++ s.log ∷ []) ([] ∷ []) k (let m = length-append ls (s.log ∷ []) in omega arith)

same_logs : (s : Server) (e : JournalEntry) (k : ℕ) → k ≤ suc (length s.closed) → server_items (after_give s e) k ≡ server_items s k
same_logs s e zero le = refl
same_logs s e (suc k) le = turns_before s e k (omega arith)

same_items : (e : JournalEntry) (k : ℕ) (p : Client) → client_items k (with_step e p) ≡ client_items k p
same_items e k p = by_number e p (λ q. client_items k q ≡ client_items k p)
    (λ _. ap (λ l. l ++ open_items k p.mode) (joined-append (call_items k) p.own (Step (own_step e) ∷ []) ∙ append-nil (flat_map (call_items k) p.own))) (λ _. refl)

same_joined : (x : ℕ) (e : JournalEntry) (k : ℕ) (cs : List Client) → flat_map (λ p. on x (client_items k p)) (map (with_step e) cs) ≡ flat_map (λ p. on x (client_items k p)) cs
same_joined x e k [] = refl
same_joined x e k (p ∷ cs) = ap (λ z. on x z ++ flat_map (λ p. on x (client_items k p)) (map (with_step e) cs)) (same_items e k p) ∙ ap (λ z. on x (client_items k p) ++ z) (same_joined x e k cs)

given_line : (x : ℕ) (s : Server) (cs : List Client) (e : JournalEntry) → ((c : ℕ) (r : Client) → get_elem? cs c ≡ some r → on x (client_items (suc (suc (length s.closed))) r) ≡ [])
    → line x (after_give s e) (map (with_step e) cs) ≡ line x s cs
given_line x s cs e late = let E = length s.closed in let s' = after_give s e in let cs' = map (with_step e) cs in
    let longer : length s'.closed ≡ suc E = length-append s.closed (closed_turn s e ∷ []) ∙ (omega arith) in
    ap (λ n. upto (segment x s' cs') (suc n)) longer
    ∙ ap (λ z. upto (segment x s' cs') (suc E) ++ z) (ap (λ l. on x l ++ flat_map (λ p. on x (client_items (suc (suc E)) p)) cs') (ap (server_items s') (ap suc (sym longer)) ∙ open_log s') ∙ same_joined x e (suc (suc E)) cs ∙ joined_none (λ r. on x (client_items (suc (suc E)) r)) cs late)
    ∙ append-nil (upto (segment x s' cs') (suc E))
    ∙ upto_same (segment x s' cs') (segment x s cs) (suc E) (λ k le. ap (λ l. on x l ++ flat_map (λ p. on x (client_items k p)) cs') (same_logs s e k le) ∙ ap (λ z. on x (server_items s k) ++ z) (same_joined x e k cs))

-- closed turns under one table more
given_call : (key : Setting) (s : Server) (t : List ℕ) (c : ℕ) (a : Call) → length s.tables ≡ length s.closed + 1 → mark a ≤ length s.closed → CallOk key s.tables c a → CallOk key (s.tables ++ t ∷ []) c a
given_call key s t c (Step q) long le ok = tt
given_call key s t c (Paint q) long le ok = λ u at. each_of (λ k u. k ≡ q.stamp → PaintOk key u c q) s.tables t
    (λ k u at eq. ok u (subst (λ j. get_elem? s.tables j ≡ some u) eq at)) (λ eq. absurd (omega arith)) q.stamp u at refl

given_paints : (key : Setting) (s : Server) (e : JournalEntry) (c : ℕ) (p : Client) → length s.tables ≡ length s.closed + 1 → OrderOk (length s.closed) p → PaintsOk key s.tables c p → PaintsOk key (after_give s e).tables c (with_step e p)
given_paints key s e c p long order ok = by_number e p (PaintsOk key (after_give s e).tables c)
    (λ _. each_of (λ k a. CallOk key (s.tables ++ s.present ∷ []) c a) p.own (Step (own_step e)) old tt) (λ _. old)
  where
    old : (k : ℕ) (a : Call) → get_elem? p.own k ≡ some a → CallOk key (s.tables ++ s.present ∷ []) c a
    old k a at = given_call key s s.present c a long (let m = order.seen_own k a at in let w = order.seen_within in omega arith) (ok k a at)

given_carried : (key : Setting) (s : Server) (e : JournalEntry) → length s.tables ≡ length s.closed + 1 → ((t : List ℕ) → get_elem? s.tables (length s.closed) ≡ some t → CarriesStep key (table_of t) (table_of s.present) e.command e.reply s.log)
    → StepsOk key s.closed s.tables → StepsOk key (after_give s e).closed (after_give s e).tables
given_carried key s e long carries ok k turn t u at_turn at_t at_u = each_of (λ j turn. j ≡ k → CarriesStep key (table_of t) (table_of u) turn.command turn.reply turn.log) s.closed (closed_turn s e)
    (λ j turn at eq. let w = place_within s.closed j turn at in
    let t_old : get_elem? s.tables k ≡ some t = earlier_table k t (omega arith) at_t in let u_old : get_elem? s.tables (k + 1) ≡ some u = earlier_table (k + 1) u (omega arith) at_u in
    ok k turn t u (subst (λ i. get_elem? s.closed i ≡ some turn) eq at) t_old u_old)
    (λ eq. let t_old : get_elem? s.tables k ≡ some t = earlier_table k t (omega arith) at_t in
    let last : get_elem? (s.tables ++ s.present ∷ []) (k + 1) ≡ some s.present = at_last s.tables s.present (k + 1) (omega arith) in
    let is : s.present ≡ u = some-injective s.present u (sym last ∙ at_u) in
    subst (λ x. CarriesStep key (table_of t) (table_of x) e.command e.reply s.log) is (carries t (subst (λ i. get_elem? s.tables i ≡ some t) (sym eq) t_old)))
    k turn at_turn refl
  where
    earlier_table : (i : ℕ) (x : List ℕ) → i < length s.tables → get_elem? (s.tables ++ s.present ∷ []) i ≡ some x → get_elem? s.tables i ≡ some x
    earlier_table i x lt at = each_of (λ j x. j ≡ i → get_elem? s.tables i ≡ some x) s.tables s.present (λ j x at eq. subst (λ y. get_elem? s.tables y ≡ some x) eq at) (λ eq. absurd (omega arith)) i x at refl

-- one more closed turn
given_closed : (key : Setting) (s : Server) (cs : List Client) (e : JournalEntry) → ClosedOk key s.limits s.closed s.tables cs → ((c : ℕ) (p : Client) → get_elem? cs c ≡ some p → p.number ≡ c)
    → e.number ≡ length s.closed + 1 → e.client < length s.limits → IsTable key.size (length s.limits) (length s.closed + 1) s.present → ((t : List ℕ) → get_elem? s.tables (length s.closed) ≡ some t → Follows t s.present)
    → ((t : List ℕ) → get_elem? s.tables (length s.closed) ≡ some t → CarriesStep key (table_of t) (table_of s.present) e.command e.reply s.log)
    → ClosedOk key s.limits (after_give s e).closed (after_give s e).tables (map (with_step e) cs)
given_closed key s cs e ok numbers next inside table follows carries = let n = length-append s.closed (closed_turn s e ∷ []) in let m = length-append s.tables (s.present ∷ []) in let long = ok.long in record {
  long = omega arith;
  first = at_longer s.tables (s.present ∷ []) 0 _ ok.first;
  well = each_of (IsTable key.size (length s.limits)) s.tables s.present ok.well (subst (λ k. IsTable key.size (length s.limits) k s.present) (sym long) table);
  next = λ k t u at_t at_u. each_of (λ j u. (k : ℕ) (t : List ℕ) → j ≡ k + 1 → get_elem? (s.tables ++ s.present ∷ []) k ≡ some t → Follows t u) s.tables s.present
      (λ j u at_u k t eq at_t. each_of (λ k t. j ≡ k + 1 → Follows t u) s.tables s.present
      (λ k t at_t eq. ok.next k t u at_t (subst (λ i. get_elem? s.tables i ≡ some u) eq at_u))
      (λ eq. let w = place_within s.tables j u at_u in absurd (omega arith)) k t at_t eq)
      (λ k t eq at_t. each_of (λ k t. length s.tables ≡ k + 1 → Follows t s.present) s.tables s.present
      (λ k t at_t eq. follows t (subst (λ i. get_elem? s.tables i ≡ some t) (let z : k ≡ length s.closed = omega arith in z) at_t))
      (λ eq. absurd (omega arith)) k t at_t eq)
      (k + 1) u at_u k t refl at_t;
  order = λ c q at. let r = from_map (with_step e) cs c q at in subst (OrderOk (length (after_give s e).closed)) r.2 (given_order s e r.0 next (ok.order c r.0 r.1));
  own_steps = λ c q at. let r = from_map (with_step e) cs c q at in subst (λ x. steps_in x.own ≡ steps_of c 0 (after_give s e).closed) r.2 (given_steps s e c r.0 next (numbers c r.0 r.1) (ok.own_steps c r.0 r.1));
  named = each_of (λ k t. t.client < length s.limits) s.closed (closed_turn s e) ok.named inside;
  paints = λ c q at. let r = from_map (with_step e) cs c q at in subst (PaintsOk key (after_give s e).tables c) r.2 (given_paints key s e c r.0 ok.long (ok.order c r.0 r.1) (ok.paints c r.0 r.1));
  steps = given_carried key s e ok.long carries ok.steps;
}

fits_give : (key : Setting) (words : List ℕ) (s : Server) (cs : List Client) (e : JournalEntry) (n : ℕ) → Fits key words record { server = s; clients = cs } → s.mode ≡ Writing → e.number ≡ length s.closed + 1
    → n + 4294967296 ≡ get_or words 0 0 → e.client < length s.limits → IsNextTable s → CarriesAtGive s e → Fits key (set words 0 n) record { server = after_give s e; clients = map (with_step e) cs }
fits_give key words s cs e n f writing next gate inside table carries = let same = gate_set words n in
    let stays : (x : ℕ) → line x (after_give s e) (map (with_step e) cs) ≡ line x s cs =
    (λ x. given_line x s cs e (λ c r at. late_none words (length s.closed) x (suc (suc (length s.closed))) r (omega arith) (f.closed.order c r at) (f.looks c r at))) in
    let quiet = f.apart (ap is_writing writing) in
    let here : IsTable key.size (length s.limits) (length s.closed + 1) s.present = subst (λ x. IsTable x.size (length s.limits) (length s.closed + 1) s.present) f.setting.server table.is_table in record {
      setting = record { long = same.long ∙ f.setting.long; screen = f.setting.screen; colour = f.setting.colour; server = f.setting.server };
      gate = let is = f.gate in let door : shut s.mode ≡ 4294967296 = ap shut writing in
          let sum = total_map busy busy (with_step e) cs (λ p. ap busy_mode (same_mode e p)) in gate_now key words record { server = s; clients = cs } n f ∙ (omega arith);
      apart = λ never. absurd (false≢true never);
      as_many = f.as_many ∙ sym (length-map cs (with_step e));
      few = rw (length-map cs (with_step e)) f.few;
      seats = λ c q at. let r = from_map (with_step e) cs c q at in let ok = f.seats c r.0 r.1 in subst (SeatOk key (after_give s e) c) r.2
          (by_number e r.0 (SeatOk key (after_give s e) c) (λ _. record { setting_is = ok.setting_is; number_is = ok.number_is; limit_is = ok.limit_is }) (λ _. record { setting_is = ok.setting_is; number_is = ok.number_is; limit_is = ok.limit_is }));
      closed = given_closed key s cs e f.closed (λ c p at. (f.seats c p at).number_is) next inside here table.follows
          (λ t at. subst (λ k. CarriesStep k (table_of t) (table_of s.present) e.command e.reply s.log) f.setting.server (carries t at));
      tables = given_tables words (set words 0 n) s e same f.closed.long f.tables;
      clips = λ c q at. let r = from_map (with_step e) cs c q at in subst (ClipsOk key.size (after_give s e) c) r.2 (given_clips key.size s e c r.0 f.closed.long table.follows (f.clips c r.0 r.1));
      looks = λ c q at. let r = from_map (with_step e) cs c q at in subst (λ x. LooksOk (set words 0 n) (length (after_give s e).closed) x.mode) r.2
          (quiet_looks (set words 0 n) (length (after_give s e).closed) (with_step e r.0).mode (ap reading_mode (same_mode e r.0) ∙ reading_one cs c r.0 quiet r.1));
      rights = λ c q at. let r = from_map (with_step e) cs c q at in subst (λ x. OpenRights key.size s.present c x.mode) r.2
          (quiet_rights key.size s.present c (with_step e r.0).mode (ap reading_mode (same_mode e r.0) ∙ reading_one cs c r.0 quiet r.1));
      quiet = λ _. refl;
      lines = λ x far lt. let lo = line_far x far in
          subst (λ z. LineOk key x z (line x (after_give s e) (map (with_step e) cs))) (sym (same.same x (omega arith))) (subst (LineOk key x (get_or words x 0)) (sym (stays x)) (f.lines x far (rw (sym same.long) lt)));
      picks = λ x. subst (Shows (first_value key x)) (sym (stays x)) (f.picks x);
    }

gives_moves : (s : Server) (ps cs : List Client) (e : JournalEntry) → SitIn cs ps → 1 ≤ clients_in e.client (head_view s ps)
    → Moves (head_view s ps) (head_view (after_give s e) (map (with_step e) ps)) record { server = s; clients = cs } record { server = after_give s e; clients = map (with_step e) cs }
gives_moves s ps cs e sit here = record {
  as_many_servers = refl;
  as_many_clients = λ c. total_map (is_client c) (is_client c) (with_step e) ps (λ p. ap (λ n. if n == c then 1 else 0) (same_number e p));
  as_long = length-map cs (with_step e);
  server_is = refl;
  server_same = λ none. absurd (omega arith);
  client_is = λ k q at. let r = from_map (with_step e) ps k q at in
      subst (λ x. get_elem? (map (with_step e) cs) x.number ≡ some x) r.2
      (rw (same_number e r.0) (at_map (with_step e) cs r.0.number r.0 (sit k r.0 r.1)));
  client_same = λ p none at. let not : p.number ≢ e.client = (λ eq. let z : clients_in e.client (head_view s ps) ≡ 0 = ap (λ n. clients_in n (head_view s ps)) (sym eq) ∙ none in absurd (omega arith)) in
      at_map (with_step e) cs p.number p at ∙ ap some (by_number e p (λ q. q ≡ p) (λ eq. absurd (not eq)) (λ _. refl));
}

gives : (key : Setting) (slots id : ℕ) (s : Server) (ps : List Client) (e : JournalEntry) → s.mode ≡ Writing → e.number ≡ length s.closed + 1 → 1 ≤ clients_in e.client (head_view s ps) → IsNextTable s → CarriesAtGive s e
    → Allows (Holds key) slots id (head_view s ps, []) 0 (λ n. (n + (2 ^ 64 - 4294967296)) % 2 ^ 64) (given e (step slots 0 4294967296 0 none) (head_view s ps, []))
gives key slots id s ps e writing next here table carries st holds _ at small =
    let w = holds.parts in let v = head_view s ps in let cs = w.clients in
    let is : s ≡ w.server = holds.spread.server_is id v at in
    let same : w ≡ record { server = s; clients = cs } = ap (λ x. let y : Parts = record { server = x; clients = cs } in y) (sym is) in
    let f : Fits key st.words record { server = s; clients = cs } = subst (λ x. Fits key st.words x) same holds.fits in
    let there = client_of_here e.client ps here in
    let inside : e.client < length s.limits = (let ok = f.seats (client_of e.client ps).number (client_of e.client ps) (holds.spread.client_is id v at there.0.0 (client_of e.client ps) there.0.1) in
    subst (λ c. c < length s.limits) there.1 (place_within s.limits (client_of e.client ps).number (client_of e.client ps).step_limit ok.limit_is)) in
    let n : ℕ = get_or st.words 0 0 in let fits : n < 18446744073709551616 = small in
    let door : shut s.mode ≡ 4294967296 = ap shut writing in let g = f.gate in
    let less : (n + (2 ^ 64 - 4294967296)) % 2 ^ 64 ≡ n - 4294967296 = omega arith in
    let w' : Parts = record { server = after_give s e; clients = map (with_step e) cs } in (
      head_view (after_give s e) (map (with_step e) ps),
      keeps,
      tt,
      record {
        parts = w';
        spread = spread_set st.views record { server = s; clients = cs } w' id v (head_view (after_give s e) (map (with_step e) ps)) (subst (λ x. Spread st.views x) same holds.spread) at (gives_moves s ps cs e (holds.spread.client_is id v at) here);
        fits = rw less (fits_give key st.words s cs e (n - 4294967296) f writing next (omega arith) inside table carries);
      },
      refl,
    )

-- ---- read and write, of table words

fits_table : (key : Setting) (words : List ℕ) (s : Server) (cs : List Client) (i v : ℕ) → IsTableWord i → s.mode ≡ Writing → Fits key words record { server = s; clients = cs }
    → Fits key (set words i v) record { server = record s { present = set s.present i v }; clients = cs }
fits_table key words s cs i v t writing f = let old = f.tables in let quiet = f.apart (ap is_writing writing) in let lo = table_positive i t in let hi = table_below i t in record {
  setting = record { long = length-set words i v ∙ f.setting.long; screen = f.setting.screen; colour = f.setting.colour; server = f.setting.server };
  gate = get_or-set_other words i 0 v 0 (λ eq. absurd (omega arith)) ∙ f.gate;
  apart = f.apart;
  as_many = f.as_many;
  few = f.few;
  seats = λ c p e. let ok = f.seats c p e in record { setting_is = ok.setting_is; number_is = ok.number_is; limit_is = ok.limit_is };
  closed = f.closed;
  tables = record {
    wide = length-set s.present i v ∙ old.wide;
    shown = λ j t'. dite (ℕ_discrete j i)
        (λ eq. rw eq (let w = f.setting.long in let z = old.wide in get_or-set_same words i v 0 (omega arith) ∙ sym (get_or-set_same s.present i v 0 (omega arith))))
        (λ ne. get_or-set_other words i j v 0 ne ∙ old.shown j t' ∙ sym (get_or-set_other s.present i j v 0 ne));
    last = λ no. absurd (false≢true (sym no ∙ ap is_writing writing));
  };
  clips = f.clips;
  looks = λ c p e. quiet_looks (set words i v) (length s.closed) p.mode (reading_one cs c p quiet e);
  rights = λ c p e. quiet_rights key.size (set s.present i v) c p.mode (reading_one cs c p quiet e);
  quiet = f.quiet;
  lines = λ x far lt. subst (λ z. LineOk key x z (line x s cs)) (sym (get_or-set_other words i x v 0 (λ eq. not_both i x t far (sym eq)))) (f.lines x far (rw (sym (length-set words i v)) lt));
  picks = f.picks;
}

-- ---- read and write, of line words

-- the server's item i on the word x, where it shows what the line of x has written
served_picks : (key : Setting) (words : List ℕ) (s : Server) (cs : List Client) (x : ℕ) (i : Item) → Fits key words record { server = s; clients = cs } → item_word i ≡ x
    → Shows (written (first_value key x) (line x s cs)) (i ∷ []) → PicksOk key record s { log = s.log ++ i ∷ [] } cs
served_picks key words s cs x i f same shows y = let E = length s.closed in let first = first_value key y in
    let gained = server_line y s cs i (λ c r e. late_none words E y (suc E) r (omega arith) (f.closed.order c r e) (f.looks c r e)) in
    dite (ℕ_discrete y x)
    (λ (eq : y ≡ x). let whole = gained ∙ ap (λ z. line y s cs ++ z) (on_here y i (same ∙ sym eq)) in
    subst (Shows first) (sym whole) (shows-append first (line y s cs) (i ∷ []) (f.picks y) (subst (λ z. Shows (written (first_value key z) (line z s cs)) (i ∷ [])) (sym eq) shows)))
    (λ (ne : y ≢ x). let whole = gained ∙ ap (λ z. line y s cs ++ z) (on_there y i (λ eq. ne (sym eq ∙ same))) ∙ append-nil (line y s cs) in subst (Shows first) (sym whole) (f.picks y))

fits_line : (key : Setting) (words : List ℕ) (s : Server) (cs : List Client) (x v : ℕ) → IsLineWord x → IsSceneColour key.depth v → s.mode ≡ Writing → Fits key words record { server = s; clients = cs }
    → Fits key (set words x v) record { server = record s { log = s.log ++ Put x v ∷ [] }; clients = cs }
fits_line key words s cs x v far colour writing f = let quiet = f.apart (ap is_writing writing) in let i = Put x v in let E = length s.closed in let lo = line_far x far in
    let tables = tables_kept words x v s far f.tables in record {
      setting = record { long = length-set words x v ∙ f.setting.long; screen = f.setting.screen; colour = f.setting.colour; server = f.setting.server };
      gate = get_or-set_other words x 0 v 0 (λ eq. absurd (omega arith)) ∙ f.gate;
      apart = f.apart;
      as_many = f.as_many;
      few = f.few;
      seats = λ c p e. let ok = f.seats c p e in record { setting_is = ok.setting_is; number_is = ok.number_is; limit_is = ok.limit_is };
      closed = f.closed;
      tables = record { wide = tables.wide; shown = tables.shown; last = tables.last };
      clips = f.clips;
      looks = λ c p e. looks_kept words x v E p.mode far (f.looks c p e);
      rights = f.rights;
      quiet = λ no. absurd (false≢true (sym no ∙ ap is_writing writing));
      lines = λ y far_y hi. let inside : y < length words = rw (sym (length-set words x v)) hi in let old = f.lines y far_y inside in let first = first_value key y in
          let gained = server_line y s cs i (λ c r e. late_none words E y (suc E) r (omega arith) (f.closed.order c r e) (f.looks c r e)) in
          dite (ℕ_discrete y x)
          (λ (eq : y ≡ x). let at_x : on y (i ∷ []) ≡ i ∷ [] = on_here y i (sym eq) in let whole = gained ∙ ap (λ z. line y s cs ++ z) at_x in record {
            is_written = subst (λ z. get_or (set words z v) y 0 ≡ v) eq (get_or-set_same words y v 0 inside) ∙ sym (written-append first (line y s cs) (i ∷ [])) ∙ ap (written first) (sym whole);
            colour = subst (IsSceneColour key.depth) (sym (subst (λ z. get_or (set words z v) y 0 ≡ v) eq (get_or-set_same words y v 0 inside))) colour;
          })
          (λ (ne : y ≢ x). let whole = gained ∙ ap (λ z. line y s cs ++ z) (on_there y i (λ eq. ne (sym eq))) ∙ append-nil (line y s cs) in record {
            is_written = get_or-set_other words x y v 0 ne ∙ old.is_written ∙ ap (written first) (sym whole);
            colour = rw (get_or-set_other words x y v 0 ne) old.colour;
          });
      picks = served_picks key words s cs x i f refl tt;
    }

fits_read : (key : Setting) (words : List ℕ) (s : Server) (cs : List Client) (x : ℕ) → IsLineWord x → x < length words → s.mode ≡ Writing → Fits key words record { server = s; clients = cs }
    → Fits key words record { server = record s { log = s.log ++ Pick x (get_or words x 0) ∷ [] }; clients = cs }
fits_read key words s cs x far within writing f = let n : ℕ = get_or words x 0 in let i = Pick x n in let E = length s.closed in let tables = f.tables in record {
  setting = record { long = f.setting.long; screen = f.setting.screen; colour = f.setting.colour; server = f.setting.server };
  gate = f.gate;
  apart = f.apart;
  as_many = f.as_many;
  few = f.few;
  seats = λ c p e. let ok = f.seats c p e in record { setting_is = ok.setting_is; number_is = ok.number_is; limit_is = ok.limit_is };
  closed = f.closed;
  tables = record { wide = tables.wide; shown = tables.shown; last = tables.last };
  clips = f.clips;
  looks = f.looks;
  rights = f.rights;
  quiet = λ no. absurd (false≢true (sym no ∙ ap is_writing writing));
  lines = λ y far_y hi. let old = f.lines y far_y hi in let first = first_value key y in
      let gained = server_line y s cs i (λ c r e. late_none words E y (suc E) r (omega arith) (f.closed.order c r e) (f.looks c r e)) in
      dite (ℕ_discrete y x)
      (λ (eq : y ≡ x). let whole = gained ∙ ap (λ z. line y s cs ++ z) (on_here y i (sym eq)) in record {
        is_written = old.is_written ∙ sym (written-append first (line y s cs) (i ∷ [])) ∙ ap (written first) (sym whole);
        colour = old.colour;
      })
      (λ (ne : y ≢ x). let whole = gained ∙ ap (λ z. line y s cs ++ z) (on_there y i (λ eq. ne (sym eq))) ∙ append-nil (line y s cs) in
      subst (LineOk key y (get_or words y 0)) (sym whole) old);
  picks = served_picks key words s cs x i f refl ((f.lines x far within).is_written, tt);
}

-- a table word, or a line word
word_kind : (x : ℕ) → 1 ≤ x → IsTableWord x ⊎ IsLineWord x
word_kind x lo = dite (dec_le 10632 x) (λ hi. inr (inr hi)) (λ not. let b = lt_of_not-le not in dite (dec_le 2052 x) (λ hi. inl (inr (hi, omega arith)))
    (λ not2. let c = lt_of_not-le not2 in dite (dec_le 1028 x) (λ hi. inr (inl (hi, c))) (λ not3. let d = lt_of_not-le not3 in inl (inl (lo, omega arith)))))

-- the last piece of a line is the server's open log
line_ends : (x : ℕ) (s : Server) (cs : List Client) → ((c : ℕ) (r : Client) → get_elem? cs c ≡ some r → on x (client_items (suc (length s.closed)) r) ≡ [])
    → line x s cs ≡ upto (segment x s cs) (length s.closed) ++ on x s.log
line_ends x s cs late = let E = length s.closed in
    ap (λ z. upto (segment x s cs) E ++ z)
    (ap (λ z. on x (server_items s (suc E)) ++ z) (joined_none (λ r. on x (client_items (suc E) r)) cs late) ∙ append-nil (on x (server_items s (suc E))) ∙ ap (on x) (open_log s))

own_item : (key : Setting) (words : List ℕ) (s : Server) (cs : List Client) (x : ℕ) → Fits key words record { server = s; clients = cs } → IsLineWord x → x < length words
    → (v : ℕ) × Shows v (on x s.log) × (get_or words x 0 ≡ written v (on x s.log)) × (v ≡ written (first_value key x) (line x record s { log = [] } cs))
own_item key words s cs x f far within = let E = length s.closed in let first = first_value key x in let before = upto (segment x s cs) E in
    let s' : Server = record s { log = [] } in
    let late : (c : ℕ) (r : Client) → get_elem? cs c ≡ some r → on x (client_items (suc E) r) ≡ [] = (λ c r e. late_none words E x (suc E) r (omega arith) (f.closed.order c r e) (f.looks c r e)) in
    let whole = line_ends x s cs late in
    let empty : line x s' cs ≡ before = line_ends x s' cs late ∙ append-nil (upto (segment x s' cs) E)
    ∙ upto_same (segment x s' cs) (segment x s cs) E (λ e le. ap (λ l. on x l ++ flat_map (λ p. on x (client_items e p)) cs) (early_logs s [] e (omega arith))) in
    (written first before, shows_split first before (on x s.log) (subst (Shows first) whole (f.picks x)), (f.lines x far within).is_written ∙ ap (written first) whole ∙ written-append first before (on x s.log), ap (written first) (sym empty))

reads : (key : Setting) (slots id : ℕ) (s : Server) (ps : List Client) (i : ℕ) → 1 ≤ i → i < first_pixel + pixel_count key.size → s.mode ≡ Writing
    → Allows (Holds key) slots id (head_view s ps, []) i (λ n. n) (was_read (step slots i 0 0 none) (head_view s ps, []))
reads key slots id s ps i lo hi writing = server_steps key slots id s ps i (λ n. n) (was_read (step slots i 0 0 none) (head_view s ps, []))
    (λ words cs f sit _ _. ⊎_elim
    (λ (t : IsTableWord i). (
      s,
      subst (λ x. Fits key x record { server = s; clients = cs }) (sym (set_same words i)) f,
      (
        ap (λ b. let r : Server = record s { log = (if b then s.log else s.log ++ Pick i (get_or words i 0) ∷ []) } in let y : Me (Unit {0}) View = (head_view r ps, []) in y) (sym (table_is i t)),
        record { present = λ _. f.tables.shown i t; colour = λ l. absurd (not_both i i t l refl); written_is = λ l _. absurd (not_both i i t l refl); own_log = λ l. absurd (not_both i i t l refl) },
      ),
    ))
    (λ (l : IsLineWord i). let here : i < length words = (let long = f.setting.long in omega arith) in let old = f.lines i l here in (
      record s { log = s.log ++ Pick i (get_or words i 0) ∷ [] },
      subst (λ x. Fits key x record { server = record s { log = s.log ++ Pick i (get_or words i 0) ∷ [] }; clients = cs }) (sym (set_same words i)) (fits_read key words s cs i l here writing f),
      (
        ap (λ b. let r : Server = record s { log = (if b then s.log else s.log ++ Pick i (get_or words i 0) ∷ []) } in let y : Me (Unit {0}) View = (head_view r ps, []) in y) (sym (line_is i l)),
        record {
          present = λ t. absurd (not_both i i t l refl);
          colour = λ _. subst (λ k. IsSceneColour k.depth (get_or words i 0)) (sym f.setting.server) old.colour;
          written_is = λ _ here. old.is_written ∙ ap (λ k. written (first_value k i) (line i s cs)) (sym f.setting.server) ∙ ap (λ c. written (first_value s.setting i) (line i s c)) (all_arranged s cs ps f.as_many sit here);
          own_log = λ l. let o = own_item key words s cs i f l here in
              (o.0, o.1, o.2, λ all. o.3 ∙ ap (λ k. written (first_value k i) (line i record s { log = [] } cs)) (sym f.setting.server) ∙ ap (λ c. written (first_value s.setting i) (line i record s { log = [] } c)) (all_arranged s cs ps f.as_many sit all));
        },
      ),
    ))
    (word_kind i lo))

writes : (key : Setting) (slots id : ℕ) (s : Server) (ps : List Client) (i v : ℕ) → 1 ≤ i → (IsLineWord i → IsSceneColour s.setting.depth v) → s.mode ≡ Writing
    → Allows (Holds key) slots id (head_view s ps, []) i (λ _. v) (λ _. wrote (step slots i v 0 none) (head_view s ps, []) v)
writes key slots id s ps i v lo colour writing = server_steps key slots id s ps i (λ _. v) (λ _. wrote (step slots i v 0 none) (head_view s ps, []) v)
    (λ words cs f sit _ _. ⊎_elim
    (λ (t : IsTableWord i). let r : Server = record s { present = set s.present i v } in
    (r, fits_table key words s cs i v t writing f, ap (λ b. let r : Server = record s { present = (if b then set s.present i v else s.present); log = (if b then s.log else s.log ++ Put i v ∷ []) } in let y : Me (Unit {0}) View = (head_view r ps, []) in y) (sym (table_is i t))))
    (λ (l : IsLineWord i). let r : Server = record s { log = s.log ++ Put i v ∷ [] } in (
      r,
      fits_line key words s cs i v l (subst (λ k. IsSceneColour k.depth v) f.setting.server (colour l)) writing f,
      ap (λ b. let r : Server = record s { present = (if b then set s.present i v else s.present); log = (if b then s.log else s.log ++ Put i v ∷ []) } in let y : Me (Unit {0}) View = (head_view r ps, []) in y) (sym (line_is i l)),
    ))
    (word_kind i lo))

-- ---- the same for a seat that is known to hold the server part

abbrev Mine : Type 0
Mine = Me (Unit {0}) View

abbrev pub IsHead : Mine → Type 0
IsHead me = me ≡ (head_view (the_server me.0) me.0.clients, [])

pub announces_seat : (key : Setting) (slots id : ℕ) (me : Mine) → IsHead me → (the_server me.0).mode ≡ Resting → Allows (Holds key) slots id me 0 (λ n. bit_or n 4294967296) (announced (step slots 0 4294967296 0 none) me)
announces_seat key slots id me is resting = let P : Mine → Type 0 = λ m. Allows (Holds key) slots id m 0 (λ n. bit_or n 4294967296) (announced (step slots 0 4294967296 0 none) m) in
    subst P (sym is) (announces key slots id (the_server me.0) me.0.clients resting)

pub settles_seat : (key : Setting) (slots id : ℕ) (me : Mine) → IsHead me → total busy me.0.clients ≡ 0 → (the_server me.0).mode ≡ Closing → Allows (Holds key) slots id me 0 (λ n. n) (settled (step slots 0 0 0 none) me)
settles_seat key slots id me is idle closing = let P : Mine → Type 0 = λ m. Allows (Holds key) slots id m 0 (λ n. n) (settled (step slots 0 0 0 none) m) in
    subst P (sym is) (settles key slots id (the_server me.0) me.0.clients closing idle)

pub withdraws_seat : (key : Setting) (slots id : ℕ) (me : Mine) → IsHead me → (the_server me.0).mode ≡ Closing
    → Allows (Holds key) slots id me 0 (λ n. (n + (2 ^ 64 - 4294967296)) % 2 ^ 64) (withdrew (step slots 0 4294967296 0 none) me)
withdraws_seat key slots id me is closing = let P : Mine → Type 0 = λ m. Allows (Holds key) slots id m 0 (λ n. (n + (2 ^ 64 - 4294967296)) % 2 ^ 64) (withdrew (step slots 0 4294967296 0 none) m) in
    subst P (sym is) (withdraws key slots id (the_server me.0) me.0.clients closing)

pub tells_seat : (key : Setting) (slots id : ℕ) (me : Mine) → IsHead me → Allows (Holds key) slots id me 0 (λ n. n) (told (step slots 0 0 0 none) me)
tells_seat key slots id me is = let P : Mine → Type 0 = λ m. Allows (Holds key) slots id m 0 (λ n. n) (told (step slots 0 0 0 none) m) in subst P (sym is) (tells key slots id (the_server me.0) me.0.clients)

pub gives_seat : (key : Setting) (slots id : ℕ) (me : Mine) (e : JournalEntry) → IsHead me → (the_server me.0).mode ≡ Writing → e.number ≡ length (the_server me.0).closed + 1 → 1 ≤ total (is_client e.client) me.0.clients → IsNextTable (the_server me.0) → CarriesAtGive (the_server me.0) e
    → Allows (Holds key) slots id me 0 (λ n. (n + (2 ^ 64 - 4294967296)) % 2 ^ 64) (given e (step slots 0 4294967296 0 none) me)
gives_seat key slots id me e is writing next here table carries = let P : Mine → Type 0 = λ m. Allows (Holds key) slots id m 0 (λ n. (n + (2 ^ 64 - 4294967296)) % 2 ^ 64) (given e (step slots 0 4294967296 0 none) m) in
    subst P (sym is) (gives key slots id (the_server me.0) me.0.clients e writing next here table carries)

pub reads_seat : (key : Setting) (slots id : ℕ) (me : Mine) (i : ℕ) → IsHead me → (the_server me.0).mode ≡ Writing → 1 ≤ i → i < first_pixel + pixel_count key.size → Allows (Holds key) slots id me i (λ n. n) (was_read (step slots i 0 0 none) me)
reads_seat key slots id me i is writing lo hi = let P : Mine → Type 0 = λ m. Allows (Holds key) slots id m i (λ n. n) (was_read (step slots i 0 0 none) m) in
    subst P (sym is) (reads key slots id (the_server me.0) me.0.clients i lo hi writing)

pub writes_seat : (key : Setting) (slots id : ℕ) (me : Mine) (i v : ℕ) → IsHead me → (the_server me.0).mode ≡ Writing → 1 ≤ i → (IsLineWord i → IsSceneColour (the_server me.0).setting.depth v)
    → Allows (Holds key) slots id me i (λ _. v) (λ _. wrote (step slots i v 0 none) me v)
writes_seat key slots id me i v is writing lo colour = let P : Mine → Type 0 = λ m. Allows (Holds key) slots id m i (λ _. v) (λ _. wrote (step slots i v 0 none) m v) in
    subst P (sym is) (writes key slots id (the_server me.0) me.0.clients i v lo colour writing)
