-- Each generated call is within the limits of sessions.
use Rattle.std.proofs.Common.{◌≡◌, ℕ, ◌+◌, ◌*◌, ◌-◌, ◌/◌, ◌%◌, ◌<◌, ◌≤◌, ◌^◌, zero, suc, pos, [], ◌∷◌, length, Bool, true, false, cond, nat_lt, refl, arith}
use Rattle.std.specs.Prelude.{All, ◌==◌}
use Rattle.std.proofs.lemmas.Int.{ints}
use Rattle.std.proofs.lemmas.List.Elements.{All-nil, All-cons}
use Rattle.qws_base.specs.Points.{IsPlaced}
use Rattle.gfx_fills.specs.Parts.{IsPlacedRect}
use Rattle.script_grammar.specs.Session.{fonts_of, images_of}
use Rattle.script_grammar.specs.Limits.{IsShort, IsSigned, IsSignedPoint, IsAsked, IsName, IsCall, IsWritten}
use borrow.Author.Tests.{ltb-true}
use Rattle.session_maker.specs.Draws.{drawn, draw, state_after}
use Rattle.session_maker.specs.Kinds.{Drawn, name, window_count, point_drawn, rect_drawn, corners_drawn, kind_drawn, first_drawn, later_drawn, call_drawn}
use Rattle.session_maker.specs.Made.{made_assets}

drawn_below : (n y : ℕ) → 0 < n → drawn n y < n
unfolding drawn
drawn_below n y some = omega arith

pub name_is : (i : ℕ) → i < 3 → IsName (name i)
name_is zero h = refl
name_is (suc zero) h = refl
name_is (suc (suc zero)) h = refl
name_is (suc (suc (suc n))) h = absurd (omega arith)

signed_is : (n : ℕ) → n ≤ 32767 → IsSigned (pos n)
signed_is n h = record { low = omega (arith, ints); high = omega (arith, ints) }

-- a point of draws
point_is : (x k across down : ℕ) → 0 < across → 0 < down → across ≤ 4096 → down ≤ 4096 → IsSignedPoint (point_drawn x k across down)
point_is x k across down a b most few =
    let one = drawn_below across (state_after (k + 1) x) a in
    let two = drawn_below down (state_after (k + 1 + 1) x) b in
    record { x = signed_is (draw x k across) (omega arith); y = signed_is (draw x (k + 1) down) (omega arith) }

placed_is : (x k across down : ℕ) → 0 < across → 0 < down → across ≤ 4096 → down ≤ 4096 → IsPlaced (point_drawn x k across down)
placed_is x k across down a b most few =
    let one = drawn_below across (state_after (k + 1) x) a in
    let two = drawn_below down (state_after (k + 1 + 1) x) b in
    record { low_x = omega (arith, ints); high_x = omega (arith, ints); low_y = omega (arith, ints); high_y = omega (arith, ints) }

rect_is : (x : ℕ) → IsPlacedRect (rect_drawn x)
rect_is x =
    let w = drawn_below 60 (state_after 3 x) (omega arith) in
    let h = drawn_below 40 (state_after 4 x) (omega arith) in
    record {
      corner = placed_is x 0 100 80 (omega arith) (omega arith) (omega arith) (omega arith);
      some_w = omega arith;
      most_w = omega arith;
      some_h = omega arith;
      most_h = omega arith;
    }

corners_are : (x k : ℕ) → All IsPlaced (corners_drawn x k)
corners_are x k =
    let corner : (j : ℕ) → IsPlaced (point_drawn x j 120 100) = λ j. placed_is x j 120 100 (omega arith) (omega arith) (omega arith) (omega arith) in
    All-cons IsPlaced (point_drawn x k 120 100) (point_drawn x (k + 2) 120 100 ∷ point_drawn x (k + 4) 120 100 ∷ []) (corner k)
    (All-cons IsPlaced (point_drawn x (k + 2) 120 100) (point_drawn x (k + 4) 120 100 ∷ []) (corner (k + 2))
    (All-cons IsPlaced (point_drawn x (k + 4) 120 100) [] (corner (k + 4)) (All-nil IsPlaced)))

colour_is : (x k : ℕ) → draw x k 16777216 < 2 ^ 24
colour_is x k = drawn_below 16777216 (state_after (k + 1) x) (omega arith)

-- a call that the fonts and images allow
abbrev pub IsMade : Drawn → Type 0
IsMade d = IsCall (fonts_of made_assets) (length (images_of made_assets)) d.call

chosen : (b : Bool) (one two : Drawn) → IsMade one → IsMade two → IsMade (cond b one two)
chosen true one two is other = is
chosen false one two is other = other

kind_is : (kind i x : ℕ) → i < 3 → IsMade (kind_drawn kind i x)
kind_is kind i x h =
    let n = name_is i h in
    let move = point_is x 0 280 200 (omega arith) (omega arith) (omega arith) (omega arith) in
    let cursor = point_is x 0 320 240 (omega arith) (omega arith) (omega arith) (omega arith) in
    let from = placed_is x 0 120 100 (omega arith) (omega arith) (omega arith) (omega arith) in
    let to = placed_is x 2 120 100 (omega arith) (omega arith) (omega arith) (omega arith) in
    let at = placed_is x 0 100 80 (omega arith) (omega arith) (omega arith) (omega arith) in
    let written : IsWritten (fonts_of made_assets) 0 (65 ∷ 65 ∷ []) = record {
      number = omega arith;
      declared = omega arith;
      some = omega arith;
      most = omega arith;
      each = All-cons IsShort 65 (65 ∷ []) (omega arith) (All-cons IsShort 65 [] (omega arith) (All-nil IsShort));
      has = refl;
    } in
    chosen (kind == 0) _ _ (n, move) (
    chosen (kind == 1) _ _ n (
    chosen (kind == 2) _ _ n (
    chosen (kind == 3) _ _ cursor (
    chosen (kind == 4) _ _ (n, rect_is x, colour_is x 4) (
    chosen (kind == 5) _ _ (n, rect_is x, colour_is x 4) (
    chosen (kind == 6) _ _ (n, rect_is x, (colour_is x 5, drawn_below 256 (state_after 5 x) (omega arith))) (
    chosen (kind == 7) _ _ (n, from, to, colour_is x 4) (
    chosen (kind == 8) _ _ (n, colour_is x 0, record { count = record { least = omega arith; most = omega arith }; placed = corners_are x 1 }) (
    chosen (kind == 9) _ _ (n, at, colour_is x 2, written) (
    chosen (kind == 10) _ _ (n, rect_is x, omega arith, omega arith) tt))))))))))

first_is : (k x : ℕ) → k < 6 → IsMade (first_drawn k x)
first_is k x h =
    let create = name_is (k / 2) (omega arith) in
    let region = name_is ((k - 1) / 2) (omega arith) in
    let layer = drawn_below 2 (state_after 1 x) (omega arith) in
    let w = drawn_below 100 (state_after 3 x) (omega arith) in
    let h2 = drawn_below 80 (state_after 4 x) (omega arith) in
    chosen (k % 2 == 0) _ _ (create, omega arith)
    (region, point_is x 0 280 200 (omega arith) (omega arith) (omega arith) (omega arith), All-cons IsAsked _ [] (record { x = signed_is 0 (omega arith); y = signed_is 0 (omega arith); w = omega arith; h = omega arith }) (All-nil IsAsked), omega arith)

later_is : (client x : ℕ) → IsMade (later_drawn client x)
later_is client x = kind_is (draw x 1 12) (draw x 0 (window_count client)) (state_after 2 x) (let below = drawn_below (window_count client) (state_after 1 x) (omega arith) in omega arith)

call_cases : (client k x : ℕ) (b : Bool) → nat_lt k (2 * window_count client) ≡ b → IsMade (cond b (first_drawn k x) (later_drawn client x))
call_cases client k x true is = first_is k x (let below : k < 2 * window_count client = ltb-true k (2 * window_count client) is in omega arith)
call_cases client k x false is = later_is client x

pub call_is : (client k x : ℕ) → IsMade (call_drawn client k x)
call_is client k x = call_cases client k x (nat_lt k (2 * window_count client)) refl
