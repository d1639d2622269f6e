-- The words as they are made meet the rule.
use Rattle.qws_base.specs.declared.colours.Depth.TheVariants.{Full, Narrow}
use Rattle.qws_base.specs.declared.colours.Depth.{Depth}
use Rattle.fb_words.specs.Segments.{first_value}
use Rattle.region_table.proofs.Words.{table_below}
use Rattle.turn_logs.proofs.FirstTable.{table_at, long_table, length-opening, at_opening, first_table}
use Rattle.region_table.specs.Opening.{opening_row_word, opening_word}
use Rattle.std.proofs.Common.{◌≡◌, ℕ, zero, suc, nat_lt, ◌%◌, true, false, if◌then◌else◌, ◌+◌, ◌-◌, ◌*◌, ◌<◌, ◌++◌, List, get_or, replicate, length, take, length-append, ap, ◌∙◌, [], ◌∷◌, refl, sym, subst, arith, ⊎_elim, ◌≤◌, Bool}
use Rattle.std.proofs.lemmas.Bool.Decides.{nat_tests}
use Rattle.std.proofs.lemmas.Bool.{false≢true}
use Rattle.std.proofs.lemmas.List.{length-replicate, take_all, get_or-append_right, get_or-replicate}
use Rattle.std.proofs.lemmas.List.FromFn.{map-range_with_len_more}
use Rattle.std.proofs.Math.ListN.{get_or-append}
use mathlib.Core.Option.{some, some-injective, some-ne-none}
use lib.ListN.{get_elem?}
use Rattle.atomic_table.specs.Table.{Me, opening}
use Rattle.atomic_table.specs.Seated.{TableId}
use Rattle.qws_base.specs.Sides.{IsScreen}
use Rattle.qws_base.specs.Colours.{IsSceneColour}
use Rattle.qws_base.specs.Points.{pixel_count}
use Rattle.qws_base.specs.Scenes.{Setting}
use Rattle.fb_words.specs.declared.known.View.{View}
use Rattle.turn_logs.specs.Tables.{opening_words, opening_table, IsTable}
use Rattle.region_table.specs.Numbers.{first_pixel, IsLineWord}
use Rattle.fb_words.specs.Views.{HeadView, the_server, opening_server}
use Rattle.turn_logs.specs.Lists.{total}
use Rattle.fb_words.specs.Rule.{clients_in, IsServer, Holds, opening_view}

module _ (key : Setting) where
  first_one : (k : ℕ) (v : View) → get_elem? (opening_view key ∷ []) k ≡ some v → opening_view key ≡ v
  first_one zero v e = some-injective (opening_view key) v e
  first_one (suc k) v e = absurd (some-ne-none v (sym e))

  no_one : (c : ℕ) → total (clients_in c) (opening_view key ∷ []) ≡ (if nat_lt c 0 then 1 else 0)
  no_one c = grind (arith, nat_tests)

abbrev words_of : ℕ → Setting → List ℕ
words_of n key = opening_words n ++ replicate (pixel_count key.size) key.backdrop

long_words : (n : ℕ) (key : Setting) → length (words_of n key) ≡ n + pixel_count key.size
long_words n key = length-append (opening_words n) (replicate (pixel_count key.size) key.backdrop) ∙ ap (λ k. k + length (replicate (pixel_count key.size) key.backdrop)) (long_table n) ∙ ap (λ k. n + k) (length-replicate (pixel_count key.size) key.backdrop)

at_table : (n : ℕ) (key : Setting) (i : ℕ) → i < n → get_or (words_of n key) i 0 ≡ opening_word i
at_table n key i lt = get_or-append (opening_words n) (replicate (pixel_count key.size) key.backdrop) 0 i (rw (long_table n) lt) ∙ table_at n i lt

only_table : (e : ℕ) (t : List ℕ) → get_elem? (opening_table ∷ []) e ≡ some t → (e ≡ 0) × (opening_table ≡ t)
only_table zero t at = (refl, some-injective opening_table t at)
only_table (suc e) t at = absurd (some-ne-none t (sym at))

-- the opening value of a line word
first_line : (n : ℕ) (key : Setting) (x : ℕ) → n ≡ first_pixel → IsLineWord x → x < n + pixel_count key.size → get_or (words_of n key) x 0 ≡ first_value key x
first_line n key x is far lt = ⊎_elim
    (λ (a : (1028 ≤ x) × (x < 2052)). let hi = a.1 in let below : nat_lt x 10632 ≡ true = grind (arith, nat_tests) in let low : nat_lt x 2052 ≡ true = grind (arith, nat_tests) in
    at_table n key x (omega arith) ∙ ap (λ b. if b then 0 else opening_row_word ((x - 2052) % 260)) low ∙ ap (λ b. if b then 0 else key.backdrop) (sym below))
    (λ (b : 10632 ≤ x). let above : nat_lt x 10632 ≡ false = grind (arith, nat_tests) in
    get_or-append_right (opening_words n) (replicate (pixel_count key.size) key.backdrop) n x 0 (long_table n) (omega arith) ∙ get_or-replicate (pixel_count key.size) (x - n) key.backdrop 0 (omega arith)
    ∙ ap (λ b. if b then 0 else key.backdrop) (sym above))
    far

zero_colour : (d : Depth) → IsSceneColour d 0
zero_colour Full = omega arith
zero_colour Narrow = omega arith

first_colour : (key : Setting) (x : ℕ) → IsSceneColour key.depth key.backdrop → IsSceneColour key.depth (first_value key x)
first_colour key x colour = go (nat_lt x 10632)
  where
    go : (b : Bool) → IsSceneColour key.depth (if b then 0 else key.backdrop)
    go true = zero_colour key.depth
    go false = colour

opens_at : (n : ℕ) (key : Setting) → n ≡ first_pixel → 0 < n → IsScreen key.size → IsSceneColour key.depth key.backdrop → Holds key (opening (words_of n key) [] (opening_view key))
opens_at n key is positive screen colour = record {
  parts = record { server = opening_server key; clients = [] };
  spread = record {
    one_server = refl;
    one_client = λ c. no_one key c;
    server_is = λ id v e. subst (λ x. IsServer x.server (opening_server key)) (first_one key id v e) refl;
    client_is = λ id v e k p at. absurd (some-ne-none p (sym (subst (λ x. get_elem? x.clients k ≡ some p) (sym (first_one key id v e)) at)));
  };
  fits = record {
    setting = record { long = long_words n key ∙ ap (λ k. k + pixel_count key.size) is; screen = screen; colour = colour; server = refl };
    gate = at_table n key 0 positive;
    apart = λ e. absurd (false≢true e);
    as_many = refl;
    few = omega arith;
    seats = λ c p e. absurd (some-ne-none p (sym e));
    closed = record {
      long = refl;
      first = refl;
      well = λ e t at. let o = only_table e t at in subst (IsTable key.size 0 e) o.1 (subst (λ k. IsTable key.size 0 k opening_table) (sym o.0) (first_table key.size screen));
      next = λ e t u at_t at_u. absurd (let o = only_table (e + 1) u at_u in let z = o.0 in omega arith);
      order = λ c p e. absurd (some-ne-none p (sym e));
      own_steps = λ c p e. absurd (some-ne-none p (sym e));
      named = λ k t e. absurd (some-ne-none t (sym e));
      paints = λ c p e. absurd (some-ne-none p (sym e));
      steps = λ e turn t u at_turn. absurd (some-ne-none turn (sym at_turn));
    };
    tables = record {
      wide = length-opening;
      shown = λ i t. let lt = table_below i t in at_table n key i (rw is lt) ∙ sym (at_opening i lt);
      last = λ _. refl;
    };
    clips = λ c p e. absurd (some-ne-none p (sym e));
    looks = λ c p e. absurd (some-ne-none p (sym e));
    rights = λ c p e. absurd (some-ne-none p (sym e));
    quiet = λ _. refl;
    lines = λ x far lt. let v = first_line n key x is far (subst (λ k. x < k) (long_words n key) lt) in record { is_written = v; colour = subst (IsSceneColour key.depth) (sym v) (first_colour key x colour) };
    picks = λ x. tt;
  };
}

pub same_pixels : (l : List ℕ) (a b v : ℕ) (key : Setting) → a ≡ key.size.w → b ≡ key.size.h → v ≡ key.backdrop → l ++ replicate (a * b) v ≡ l ++ replicate (pixel_count key.size) key.backdrop
same_pixels l a b v key w h c = ap (λ n. l ++ replicate (n * b) v) w ∙ ap (λ n. l ++ replicate (key.size.w * n) v) h ∙ ap (λ n. l ++ replicate (pixel_count key.size) n) c

pub opens : (key : Setting) (l : List ℕ) (a b v : ℕ) → l ≡ opening_words first_pixel ++ replicate (a * b) v → a ≡ key.size.w → b ≡ key.size.h → v ≡ key.backdrop → IsScreen key.size → IsSceneColour key.depth key.backdrop
    → Holds key (opening l [] (opening_view key))
opens key l a b v made w h c screen colour = by_count first_pixel refl made
  where
    by_count : (n : ℕ) → n ≡ first_pixel → l ≡ opening_words n ++ replicate (a * b) v → Holds key (opening l [] (opening_view key))
    by_count n is made = subst (λ l. Holds key (opening l [] (opening_view key))) (sym (made ∙ same_pixels (opening_words n) a b v key w h c)) (opens_at n key is (let z : n ≡ 10632 = is in omega arith) screen colour)

pub new_head : (made : Setting) (to : Setting) (me : Me (Unit {0}) View) (t u : TableId) → me ≡ (opening_view made, []) → t ≡ u → made ≡ to
    → (let h : HeadView = record { screen = record { table = t; setting = (the_server me.0).setting }; server = the_server me.0; sitting = me.0.clients } in h)
    ≡ record { screen = record { table = u; setting = made }; server = opening_server to; sitting = [] }
new_head made to me t u view same is =
    ap (λ (m : Me (Unit {0}) View). let h : HeadView = record { screen = record { table = t; setting = (the_server m.0).setting }; server = the_server m.0; sitting = m.0.clients } in h) view
    ∙ ap (λ x. let h : HeadView = record { screen = record { table = x; setting = made }; server = opening_server made; sitting = [] } in h) same
    ∙ ap (λ x. let h : HeadView = record { screen = record { table = u; setting = made }; server = opening_server x; sitting = [] } in h) is

pub one_more : (n v : ℕ) (l : List ℕ) → l ≡ opening_words n → v ≡ opening_word n → l ++ v ∷ [] ≡ opening_words (n + 1)
one_more n v l so_far now = ap (λ k. k ++ v ∷ []) so_far ∙ ap (λ k. opening_words n ++ k ∷ []) now ∙ sym (map-range_with_len_more opening_word 0 n n (omega arith))

pub filled : (n p b k : ℕ) (l : List ℕ) → l ≡ opening_words n → k ≡ length l → take (n + p) l ++ replicate (n + p - k) b ≡ opening_words n ++ replicate p b
filled n p b k l is as_long = let long : length l ≡ n = ap length is ∙ long_table n in let few : n + p - k ≡ p = omega arith in
    ap (λ j. take (n + p) l ++ replicate j b) few ∙ ap (λ j. j ++ replicate p b) (take_all (n + p) l (omega arith) ∙ is)

pub long_opening : (l : List ℕ) (key : Setting) (a b v : ℕ) → l ≡ opening_words first_pixel ++ replicate (a * b) v → a ≡ key.size.w → b ≡ key.size.h → length l ≡ first_pixel + pixel_count key.size
long_opening l key a b v is w h = by_count first_pixel l is
  where
    by_count : (n : ℕ) (l : List ℕ) → l ≡ opening_words n ++ replicate (a * b) v → length l ≡ n + pixel_count key.size
    by_count n l is = ap length is ∙ length-append (opening_words n) (replicate (a * b) v) ∙ ap (λ k. k + length (replicate (a * b) v)) (long_table n) ∙ ap (λ k. n + k) (length-replicate (a * b) v)
        ∙ ap (λ k. n + k * b) w ∙ ap (λ k. n + key.size.w * k) h
