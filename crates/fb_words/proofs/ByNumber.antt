-- All closed turns number by number.
use Rattle.std.proofs.Common.{◌≡◌, ℕ, zero, suc, ◌+◌, ◌==◌, if◌then◌else◌, Bool, true, false, List, [], ◌∷◌, ◌++◌, map, length, take, drop, append_assoc, append-nil, sym, refl, ap, ◌∙◌, arith}
use Rattle.std.specs.List.{flat_map, filter, range_with_len}
use Rattle.std.specs.Prelude.{slice_index_or}
use Rattle.qws_base.specs.Merges.{Stamped, numbered, stamped, merged_at}
use Rattle.turn_logs.specs.Lists.{upto}
use Rattle.turn_logs.specs.Tables.{table_of}
use Rattle.turn_logs.specs.Sessions.{ClosedTurn, Served, Drawn}
use Rattle.turn_logs.proofs.Joining.{upto_same}
use Rattle.fb_words.specs.declared.known.Call.{Call}
use Rattle.fb_words.specs.declared.known.Call.TheVariants.{Step as OwnStep, Paint as OwnPaint}
use Rattle.fb_words.specs.declared.known.Client.{Client}
use Rattle.fb_words.specs.declared.known.Closed.{Closed}
use Rattle.fb_words.specs.declared.known.Server.{Server}
use Rattle.fb_words.specs.Views.{paints_in}
use Rattle.fb_words.specs.Turns.{served_from, drawn, drawn_by, turns_of}

-- the paints of client c with stamp e
abbrev pub drawn_of : ℕ → ℕ → Call → List ClosedTurn
drawn_of c e (OwnStep t) = []
drawn_of c e (OwnPaint t) = if t.stamp == e then Drawn c t.slot t.tag t.sheet t.reply t.log ∷ [] else []

abbrev pub drawn_at : ℕ → Client → List ClosedTurn
drawn_at e p = flat_map (drawn_of p.number e) p.own

abbrev pub nth_served : List (List ℕ) → ℕ → List Closed → ℕ → List ClosedTurn
nth_served tables n [] k = []
nth_served tables n (t ∷ ts) zero = Served t.client t.command t.reply (table_of (slice_index_or tables n [])) t.log ∷ []
nth_served tables n (t ∷ ts) (suc k) = nth_served tables n ts k

-- the server's turn with number e; there is none with 0
abbrev pub served_at : Server → ℕ → List ClosedTurn
served_at s zero = []
served_at s (suc k) = nth_served s.tables (suc k) s.closed k

-- for each number the server's turn, then the paints with that stamp, by client and in each client's order
abbrev pub turns_by : Server → List Client → List ClosedTurn
turns_by s cs = upto (λ e. served_at s e ++ flat_map (drawn_at e) cs) (length s.closed)

-- ---- the merge says the same

-- one piece more
flat_more : {B : Type 0} (f : ℕ → List B) (a n : ℕ) → flat_map f (range_with_len a (suc n)) ≡ flat_map f (range_with_len a n) ++ f (a + n)
flat_more f a zero = append-nil (f a) ∙ ap f (let z : a ≡ a + 0 = omega arith in z)
flat_more f a (suc n) = ap (λ l. f a ++ l) (flat_more f (a + 1) n) ∙ sym (append_assoc (f a) (flat_map f (range_with_len (a + 1) n)) (f (a + 1 + n)))
    ∙ ap (λ k. (f a ++ flat_map f (range_with_len (a + 1) n)) ++ f k) (let z : a + 1 + n ≡ a + suc n = omega arith in z)

flat_upto : {B : Type 0} (f : ℕ → List B) (n : ℕ) → flat_map f (range_with_len 0 (suc n)) ≡ upto f n
flat_upto f zero = append-nil (f 0)
flat_upto f (suc n) = flat_more f 0 (suc n) ∙ ap (λ l. l ++ f (0 + suc n)) (flat_upto f n) ∙ ap (λ k. upto f n ++ f k) (let z : 0 + suc n ≡ suc n = omega arith in z)

served_long : (tables : List (List ℕ)) (n : ℕ) (ts : List Closed) → length (served_from tables n ts) ≡ length ts
served_long tables n [] = refl
served_long tables n (t ∷ ts) = let r = served_long tables (n + 1) ts in omega arith

nth_is : (tables : List (List ℕ)) (n : ℕ) (ts : List Closed) (k : ℕ) → take 1 (drop k (served_from tables n ts)) ≡ nth_served tables (n + k) ts k
nth_is tables n [] zero = refl
nth_is tables n [] (suc k) = refl
nth_is tables n (t ∷ ts) zero = ap (λ m. let l : List ClosedTurn = Served t.client t.command t.reply (table_of (slice_index_or tables m [])) t.log ∷ [] in l) (let z : n ≡ n + 0 = omega arith in z)
nth_is tables n (t ∷ ts) (suc k) = nth_is tables (n + 1) ts k ∙ ap (λ m. nth_served tables m ts k) (let z : n + 1 + k ≡ n + suc k = omega arith in z)

numbered_is : (s : Server) (e : ℕ) → numbered (served_from s.tables 1 s.closed) e ≡ served_at s e
numbered_is s zero = refl
numbered_is s (suc k) = nth_is s.tables 1 s.closed k ∙ ap (λ m. nth_served s.tables m s.closed k) (let z : 1 + k ≡ suc k = omega arith in z)

stamped_is : (c e : ℕ) (own : List Call) → stamped e (map (drawn c) (paints_in own)) ≡ flat_map (drawn_of c e) own
stamped_is c e [] = refl
stamped_is c e (OwnStep t ∷ own) = stamped_is c e own
stamped_is c e (OwnPaint t ∷ own) = go (t.stamp == e) (stamped_is c e own)
  where
    go : (b : Bool) → stamped e (map (drawn c) (paints_in own)) ≡ flat_map (drawn_of c e) own
        → map (λ (s : Stamped ClosedTurn). s.entry) (if b then drawn c t ∷ filter (λ s. s.stamp == e) (map (drawn c) (paints_in own)) else filter (λ s. s.stamp == e) (map (drawn c) (paints_in own)))
        ≡ (if b then Drawn c t.slot t.tag t.sheet t.reply t.log ∷ [] else []) ++ flat_map (drawn_of c e) own
    go true rest = ap (λ l. Drawn c t.slot t.tag t.sheet t.reply t.log ∷ l) rest
    go false rest = rest

books_are : (e : ℕ) (cs : List Client) → flat_map (stamped e) (map drawn_by cs) ≡ flat_map (drawn_at e) cs
books_are e [] = refl
books_are e (p ∷ cs) = ap (λ l. l ++ flat_map (stamped e) (map drawn_by cs)) (stamped_is p.number e p.own) ∙ ap (λ l. drawn_at e p ++ l) (books_are e cs)

pub turns_are : (s : Server) (cs : List Client) → turns_of s cs ≡ turns_by s cs
turns_are s cs =
    let journal : List ClosedTurn = served_from s.tables 1 s.closed in
    let books : List (List (Stamped ClosedTurn)) = map drawn_by cs in
    flat_upto (merged_at journal books) (length journal)
    ∙ ap (upto (merged_at journal books)) (served_long s.tables 1 s.closed)
    ∙ upto_same (merged_at journal books) (λ e. served_at s e ++ flat_map (drawn_at e) cs) (length s.closed)
    (λ e le. ap (λ l. l ++ flat_map (stamped e) books) (numbered_is s e) ∙ ap (λ l. served_at s e ++ l) (books_are e cs))
