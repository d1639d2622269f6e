-- The windows stay arranged.
use Rattle.std.proofs.Common.{◌≡◌, ℕ, ◌<◌, ◌≤◌, Bool, true, false, not, ◌&&◌, nat_lt, if◌then◌else◌, cond, Option, None, Some, List, [], ◌∷◌, ◌++◌, map, length, refl, sym, ap, ◌∙◌, subst, arith}
use Rattle.std.specs.Prelude.{◌≢◌, All, AllPairs}
use mathlib.Core.Path.{fun_ext}
use Rattle.std.specs.List.{filter, find, range_with_len}
use Rattle.std.specs.Option.{option_map, option_map_or}
use Rattle.std.proofs.lemmas.Bool.{false≢true, not-true}
use Rattle.std.proofs.lemmas.List.Elements.{All-nil, All-cons, All-append, All-filter, All-weaker, filter_passes}
use Rattle.std.proofs.lemmas.List.Kept.{AllPairs-cons, AllPairs-filter}
use Rattle.qws_base.specs.Sides.{Sides}
use Rattle.qws_base.specs.Points.{is_on_screen, pixels, point_of}
use Rattle.qws_base.specs.Regions.{rect_count, is_corner}
use Rattle.qws_base.specs.Windows.{has_slot, is_live, covers, owner_at, is_slot, allocated_points}
use Rattle.qws_base.specs.States.{State, is_refused}
use Rattle.qws_base.specs.Stacking.{slots, free_slot, is_above, is_below, with_front, with_back, new_window, windows_without, with_region, with_origin, windows_raised, windows_lowered}
use Rattle.qws_base.specs.Refusals.{first_of, when, no_window, not_yours, bad_layer, off_screen, bad_region, too_complex, rects_needed}
use Rattle.qws_base.specs.Steps.{answer, effect, unless, found_or, completed}
use Rattle.qws_base.specs.Arranged.{IsWindow, IsArranged, ArrangedLaw}
use Rattle.qws_base.specs.declared.points.Point.{Point}
use Rattle.qws_base.specs.declared.points.Rect.{Rect}
use Rattle.qws_base.specs.declared.windows.WindowView.{WindowView}
use Rattle.qws_base.specs.declared.commands.Command.{Command}
use Rattle.qws_base.specs.declared.commands.Command.TheVariants.{Create, Destroy, Region, Move, Raise, Lower, CursorShape, CursorMove, CursorShow, Join, Leave, Send, Take, IsRegistered}
use Rattle.qws_base.specs.declared.replies.Reply.{Reply}
use Rattle.qws_base.specs.declared.replies.Reply.TheVariants.{Created, Done, Refused}
use Rattle.qws_base.specs.declared.replies.Refusal.{Refusal}
use Rattle.qws_base.specs.declared.replies.Refusal.TheVariants.{NoSlot, BadLayer, TooComplex}
use Rattle.qws_base.proofs.ListLemmas.{pairs_head, pairs_tail, pairs_nil, each_both, each_map, pairs_map, pairs_append, parted_across, none_passes, all_pass, none_of_any, found, absent, found_member, passed_over}
use Rattle.qws_base.proofs.StepLaws.{made}

-- the order of layers, and slots that differ
abbrev pub NotBelow : WindowView → WindowView → Type 0
NotBelow v w = w.layer ≤ v.layer

abbrev pub Differ : WindowView → WindowView → Type 0
Differ v w = v.slot ≢ w.slot

-- arranged, but for the number of rectangles
pub record AreListed (windows : List WindowView) : Type 0 where
  pub each : All IsWindow windows
  pub once : AllPairs Differ windows
  pub layered : AllPairs NotBelow windows

pub listed : (size : Sides) (windows : List WindowView) → IsArranged size windows → AreListed windows
listed size windows a = record { each = a.each; once = a.once; layered = a.layered }

-- ---- a window put between two parts

between : (R : WindowView → WindowView → Type 0) (first second : WindowView → Bool) (new : WindowView) (xs : List WindowView) → AllPairs R xs → All (λ x. All (R x) (filter second xs)) (filter first xs) → All (λ x. R x new) (filter first xs) → All (R new) (filter second xs) → AllPairs R (filter first xs ++ new ∷ filter second xs)
between R first second new xs h across before after =
    pairs_append R (filter first xs) (new ∷ filter second xs) (AllPairs-filter R first xs h)
    (AllPairs-cons R new (filter second xs) after (AllPairs-filter R second xs h))
    (each_both (λ x. R x new) (λ x. All (R x) (filter second xs)) (λ x. All (R x) (new ∷ filter second xs)) (λ x r s. All-cons (R x) new (filter second xs) r s) (filter first xs) before across)

-- the two tests leave no window out of order, and none passes both
pub record AreTests (layer : ℕ) (first second : WindowView → Bool) : Type 0 where
  pub other : (w : WindowView) → first w ≡ true → second w ≡ false
  pub high : (w : WindowView) → first w ≡ true → layer ≤ w.layer
  pub low : (w : WindowView) → second w ≡ true → w.layer ≤ layer

pub put_listed : (first second : WindowView → Bool) (new : WindowView) (xs : List WindowView) → AreTests new.layer first second → IsWindow new → All (λ w. w.slot ≢ new.slot) xs → AreListed xs → AreListed (filter first xs ++ new ∷ filter second xs)
put_listed first second new xs tests fits others l = record {
  each = All-append IsWindow (filter first xs) (new ∷ filter second xs) (All-filter first IsWindow xs l.each) (All-cons IsWindow new (filter second xs) fits (All-filter second IsWindow xs l.each));
  once = between Differ first second new xs l.once
      (parted_across Differ (λ x y d. λ e. d (sym e)) first second tests.other xs l.once)
      (All-filter first (λ w. Differ w new) xs others)
      (All-filter second (Differ new) xs (All-weaker (λ w. Differ w new) (Differ new) (λ w d. λ e. d (sym e)) xs others));
  layered = between NotBelow first second new xs l.layered
      (All-weaker (λ w. first w ≡ true) (λ x. All (NotBelow x) (filter second xs)) (λ x h. All-weaker (λ w. second w ≡ true) (NotBelow x) (λ w k. let a = tests.high x h in let b = tests.low w k in omega arith) (filter second xs) (filter_passes second xs)) (filter first xs) (filter_passes first xs))
      (All-weaker (λ w. first w ≡ true) (λ x. NotBelow x new) (λ x h. tests.high x h) (filter first xs) (filter_passes first xs))
      (All-weaker (λ w. second w ≡ true) (NotBelow new) (λ w k. tests.low w k) (filter second xs) (filter_passes second xs));
}

pub above_is : (layer : ℕ) (w : WindowView) → is_above layer w ≡ true → layer < w.layer
above_is layer w h = grind arith

pub not_above_is : (layer : ℕ) (w : WindowView) → is_above layer w ≡ false → w.layer ≤ layer
not_above_is layer w h = grind arith

pub below_is : (layer : ℕ) (w : WindowView) → is_below layer w ≡ true → w.layer < layer
below_is layer w h = grind arith

pub not_below_is : (layer : ℕ) (w : WindowView) → is_below layer w ≡ false → layer ≤ w.layer
not_below_is layer w h = grind arith

pub front_tests : (layer : ℕ) → AreTests layer (is_above layer) (λ w. not (is_above layer w))
front_tests layer = record {
  other = λ w h. ap not h;
  high = λ w h. let l = above_is layer w h in omega arith;
  low = λ w h. not_above_is layer w (not-true (is_above layer w) h);
}

pub back_tests : (layer : ℕ) → AreTests layer (λ w. not (is_below layer w)) (is_below layer)
back_tests layer = record {
  other = λ w h. not-true (is_below layer w) h;
  high = λ w h. not_below_is layer w (not-true (is_below layer w) h);
  low = λ w h. let l = below_is layer w h in omega arith;
}

-- ---- the lists of windows after the commands

pub without_listed : (slot : ℕ) (xs : List WindowView) → AreListed xs → AreListed (windows_without slot xs)
without_listed slot xs l = record {
  each = All-filter (λ w. not (has_slot slot w)) IsWindow xs l.each;
  once = AllPairs-filter Differ (λ w. not (has_slot slot w)) xs l.once;
  layered = AllPairs-filter NotBelow (λ w. not (has_slot slot w)) xs l.layered;
}

pub slot_is : (slot : ℕ) (w : WindowView) → has_slot slot w ≡ true → w.slot ≡ slot
slot_is slot w h = grind arith

pub slot_differs : (slot : ℕ) (w : WindowView) → has_slot slot w ≡ false → w.slot ≢ slot
slot_differs slot w h = λ e. grind arith

pub no_other : (slot : ℕ) (v : WindowView) (xs : List WindowView) → v.slot ≡ slot → All (λ w. w.slot ≢ v.slot) (windows_without slot xs)
no_other slot v xs same =
    All-weaker (λ w. not (has_slot slot w) ≡ true) (λ w. w.slot ≢ v.slot) (λ w h. λ e. slot_differs slot w (not-true (has_slot slot w) h) (e ∙ same))
    (windows_without slot xs) (filter_passes (λ w. not (has_slot slot w)) xs)

-- the window of a slot, put elsewhere
record AreMoved (slot : ℕ) (xs : List WindowView) (v : WindowView) : Type 0 where
  pub fits : IsWindow v
  pub same : v.slot ≡ slot

moved_from : (slot : ℕ) (xs : List WindowView) (v : WindowView) → AreListed xs → find (has_slot slot) xs ≡ Some v → AreMoved slot xs v
moved_from slot xs v l e = let it = found_member IsWindow (has_slot slot) xs v l.each e in record { fits = it.0; same = slot_is slot v it.1 }

raised_listed : (slot : ℕ) (xs : List WindowView) (v : Option WindowView) → find (has_slot slot) xs ≡ v → AreListed xs → AreListed (option_map_or (λ w. with_front w (windows_without slot xs)) v xs)
raised_listed slot xs None e l = l
raised_listed slot xs (Some v) e l =
    let it = moved_from slot xs v l e in
    put_listed (is_above v.layer) (λ w. not (is_above v.layer w)) v (windows_without slot xs) (front_tests v.layer) it.fits (no_other slot v xs it.same) (without_listed slot xs l)

lowered_listed : (slot : ℕ) (xs : List WindowView) (v : Option WindowView) → find (has_slot slot) xs ≡ v → AreListed xs → AreListed (option_map_or (λ w. with_back w (windows_without slot xs)) v xs)
lowered_listed slot xs None e l = l
lowered_listed slot xs (Some v) e l =
    let it = moved_from slot xs v l e in
    put_listed (λ w. not (is_below v.layer w)) (is_below v.layer) v (windows_without slot xs) (back_tests v.layer) it.fits (no_other slot v xs it.same) (without_listed slot xs l)

-- a change of each window that keeps its slot and layer
record IsChange (f : WindowView → WindowView) : Type 0 where
  pub slot : (w : WindowView) → (f w).slot ≡ w.slot
  pub layer : (w : WindowView) → (f w).layer ≡ w.layer
  pub fits : (w : WindowView) → IsWindow w → IsWindow (f w)

changed_listed : (f : WindowView → WindowView) (xs : List WindowView) → IsChange f → AreListed xs → AreListed (map f xs)
changed_listed f xs c l = record {
  each = each_map IsWindow IsWindow f c.fits xs l.each;
  once = pairs_map Differ Differ f (λ v w d. λ e. d (sym (c.slot v) ∙ e ∙ c.slot w)) xs l.once;
  layered = pairs_map NotBelow NotBelow f (λ v w n. let a = c.layer v in let b = c.layer w in omega (arith, a, b)) xs l.layered;
}

either : (b : Bool) (v w : WindowView) → v.slot ≡ w.slot → v.layer ≡ w.layer → let it : WindowView = if b then v else w in (it.slot ≡ w.slot) × (it.layer ≡ w.layer)
either true v w s l = (s, l)
either false v w s l = (refl, refl)

either_fits : (b : Bool) (v w : WindowView) → IsWindow v → IsWindow w → IsWindow (if b then v else w)
either_fits true v w p q = p
either_fits false v w p q = q

region_change : (slot : ℕ) (origin : Point) (rects : List Rect) → off_screen origin ≡ None → bad_region rects ≡ None → IsChange (with_region slot origin rects)
region_change slot origin rects placed requested = record {
  slot = λ w. (either (has_slot slot w) (record w { origin = origin; rects = rects }) w refl refl).0;
  layer = λ w. (either (has_slot slot w) (record w { origin = origin; rects = rects }) w refl refl).1;
  fits = λ w p. either_fits (has_slot slot w) (record w { origin = origin; rects = rects }) w (record { slot = p.slot; layer = p.layer; placed = placed; requested = requested }) p;
}

origin_change : (slot : ℕ) (origin : Point) → off_screen origin ≡ None → IsChange (with_origin slot origin)
origin_change slot origin placed = record {
  slot = λ w. (either (has_slot slot w) (record w { origin = origin }) w refl refl).0;
  layer = λ w. (either (has_slot slot w) (record w { origin = origin }) w refl refl).1;
  fits = λ w p. either_fits (has_slot slot w) (record w { origin = origin }) w (record { slot = p.slot; layer = p.layer; placed = placed; requested = p.requested }) p;
}

-- ---- a new window

-- parted by a layer, layered windows are as they were
none_above : (layer : ℕ) (v : WindowView) (xs : List WindowView) → is_above layer v ≡ false → All (NotBelow v) xs → All (λ w. is_above layer w ≡ false) xs
none_above layer v xs h k = All-weaker (NotBelow v) (λ w. is_above layer w ≡ false) (λ w l. let m = not_above_is layer v h in not_above layer w (omega arith)) xs k
  where
    not_above : (layer : ℕ) (w : WindowView) → w.layer ≤ layer → is_above layer w ≡ false
    not_above layer w l = grind arith

joined_by : (layer : ℕ) (v : WindowView) (xs : List WindowView) (b : Bool) → is_above layer v ≡ b → All (NotBelow v) xs → filter (is_above layer) xs ++ filter (λ w. not (is_above layer w)) xs ≡ xs
    → cond b (v ∷ filter (is_above layer) xs) (filter (is_above layer) xs) ++ cond (not b) (v ∷ filter (λ w. not (is_above layer w)) xs) (filter (λ w. not (is_above layer w)) xs) ≡ v ∷ xs
joined_by layer v xs true is below rest = ap (λ ys. v ∷ ys) rest
joined_by layer v xs false is below rest =
    let none = none_above layer v xs is below in
    ap (λ ys. ys ++ v ∷ filter (λ w. not (is_above layer w)) xs) (none_passes (is_above layer) xs none)
    ∙ ap (λ ys. v ∷ ys) (all_pass (λ w. not (is_above layer w)) xs (All-weaker (λ w. is_above layer w ≡ false) (λ w. not (is_above layer w) ≡ true) (λ w e. ap not e) xs none))

joined : (layer : ℕ) (xs : List WindowView) → AllPairs NotBelow xs → filter (is_above layer) xs ++ filter (λ w. not (is_above layer w)) xs ≡ xs
joined layer [] h = refl
joined layer (v ∷ xs) h = joined_by layer v xs (is_above layer v) refl (pairs_head NotBelow v xs h) (joined layer xs (pairs_tail NotBelow v xs h))

-- a window without rectangles owns no point, and changes no owner
same_owner : (slot client layer : ℕ) (xs : List WindowView) (p : Point) → AllPairs NotBelow xs → owner_at (with_front (new_window slot client layer) xs) p ≡ owner_at xs p
same_owner slot client layer xs p h =
    ap (λ (w : Option WindowView). option_map (λ v. v.slot) w)
    (passed_over (covers p) (filter (is_above layer) xs) (filter (λ w. not (is_above layer w)) xs) (new_window slot client layer) refl
    ∙ ap (find (covers p)) (joined layer xs h))

same_needed : (size : Sides) (slot client layer other : ℕ) (xs : List WindowView) → AllPairs NotBelow xs → rects_needed size (with_front (new_window slot client layer) xs) other ≡ rects_needed size xs other
same_needed size slot client layer other xs h =
    ap (rect_count size) (fun_ext (λ p. ap (λ o. is_on_screen size p && is_slot other o) (same_owner slot client layer xs p h)))

created_arranged : (size : Sides) (client layer : ℕ) (xs : List WindowView) (slot : Option ℕ) → find (λ s. not (is_live xs s)) (range_with_len 0 32) ≡ slot → layer ≤ 1 → IsArranged size xs → IsArranged size (option_map_or (λ s. with_front (new_window s client layer) xs) slot xs)
created_arranged size client layer xs None e low a = a
created_arranged size client layer xs (Some slot) e low a =
    let it = found (λ s. not (is_live xs s)) 0 32 slot e in
    let in_range = it.high in
    let new : WindowView = new_window slot client layer in
    let free : All (λ w. w.slot ≢ slot) xs = All-weaker (λ w. has_slot slot w ≡ false) (λ w. w.slot ≢ slot) (λ w h. slot_differs slot w h) xs (none_of_any (has_slot slot) xs (not-true (is_live xs slot) it.passes)) in
    let l : AreListed (with_front new xs) = put_listed (is_above layer) (λ w. not (is_above layer w)) new xs (front_tests layer) (record { slot = omega arith; layer = low; placed = refl; requested = refl }) free (listed size xs a) in
    record { each = l.each; once = l.once; layered = l.layered; simple = λ other below. subst (λ n. n ≤ 256) (sym (same_needed size slot client layer other xs a.layered)) (a.simple other below) }

-- ---- the step

simple_from : (size : Sides) (xs : List WindowView) → too_complex size xs ≡ None → (slot : ℕ) → slot < 32 → rects_needed size xs slot ≤ 256
unfolding slots
simple_from size xs e slot low = few (rects_needed size xs slot) (absent (λ s. TooComplex s (rects_needed size xs s)) (λ s. nat_lt 256 (rects_needed size xs s)) 0 32 e slot (omega arith) (omega arith))
  where
    few : (n : ℕ) → nat_lt 256 n ≡ false → n ≤ 256
    few n h = grind arith

arranged_from : (size : Sides) (xs : List WindowView) → AreListed xs → too_complex size xs ≡ None → IsArranged size xs
arranged_from size xs l e = record { each = l.each; once = l.once; layered = l.layered; simple = simple_from size xs e }

-- an accepted command has no cause
no_cause : (causes : List (Option Refusal)) (reply : Reply) → is_refused (unless causes reply) ≡ false → first_of causes ≡ None
no_cause causes reply h = by (first_of causes) h
  where
    by : (cause : Option Refusal) → is_refused (option_map_or (λ c. Refused c) cause reply) ≡ false → cause ≡ None
    by None e = refl
    by (Some cause) e = absurd (false≢true (sym e))

-- a list of causes without a first has none
none_first : (cause : Option Refusal) (causes : List (Option Refusal)) → first_of (cause ∷ causes) ≡ None → (cause ≡ None) × (first_of causes ≡ None)
none_first None causes e = (refl, e)
none_first (Some cause) causes e = cc

third_none : (first second third : Option Refusal) → first_of (first ∷ second ∷ third ∷ []) ≡ None → third ≡ None
third_none first second third e =
    (none_first third [] (none_first second (third ∷ []) (none_first first (second ∷ third ∷ []) e).1).1).0

layer_low : (layer : ℕ) → bad_layer layer ≡ None → layer ≤ 1
layer_low layer e = by (nat_lt 1 layer) refl e
  where
    by : (b : Bool) → nat_lt 1 layer ≡ b → when b (BadLayer layer) ≡ None → layer ≤ 1
    by true is h = cc
    by false is h = grind arith

effect_arranged : (size : Sides) (state : State) (client : ℕ) (command : Command) → is_refused (answer size state client command) ≡ false → IsArranged size state.windows → IsArranged size (effect state client command).windows
unfolding slots
effect_arranged size state client (Create layer) e a = created_arranged size client layer state.windows (free_slot state.windows) refl (layer_low layer (none_first (bad_layer layer) [] (no_cause (bad_layer layer ∷ []) (found_or NoSlot (λ slot. Created slot) (free_slot state.windows)) e)).0) a
effect_arranged size state client (Destroy slot) e a =
    let xs : List WindowView = windows_without slot state.windows in
    arranged_from size xs (without_listed slot state.windows (listed size state.windows a))
    (third_none (no_window state.windows slot) (not_yours state.windows client slot) (too_complex size xs)
    (no_cause (no_window state.windows slot ∷ not_yours state.windows client slot ∷ too_complex size xs ∷ []) Done e))
effect_arranged size state client (Region slot origin rects) e a =
    let xs : List WindowView = map (with_region slot origin rects) state.windows in
    let window : Option Refusal = no_window state.windows slot in
    let owner : Option Refusal = not_yours state.windows client slot in
    let placed = none_first (off_screen origin) (bad_region rects ∷ window ∷ owner ∷ too_complex size xs ∷ [])
    (no_cause (off_screen origin ∷ bad_region rects ∷ window ∷ owner ∷ too_complex size xs ∷ []) Done e) in
    let requested = none_first (bad_region rects) (window ∷ owner ∷ too_complex size xs ∷ []) placed.1 in
    arranged_from size xs
    (changed_listed (with_region slot origin rects) state.windows (region_change slot origin rects placed.0 requested.0) (listed size state.windows a))
    (third_none window owner (too_complex size xs) requested.1)
effect_arranged size state client (Move slot origin) e a =
    let xs : List WindowView = map (with_origin slot origin) state.windows in
    let window : Option Refusal = no_window state.windows slot in
    let owner : Option Refusal = not_yours state.windows client slot in
    let placed = none_first (off_screen origin) (window ∷ owner ∷ too_complex size xs ∷ [])
    (no_cause (off_screen origin ∷ window ∷ owner ∷ too_complex size xs ∷ []) Done e) in
    arranged_from size xs
    (changed_listed (with_origin slot origin) state.windows (origin_change slot origin placed.0) (listed size state.windows a))
    (third_none window owner (too_complex size xs) placed.1)
effect_arranged size state client (Raise slot) e a =
    let xs : List WindowView = windows_raised slot state.windows in
    arranged_from size xs (raised_listed slot state.windows (find (has_slot slot) state.windows) refl (listed size state.windows a))
    (third_none (no_window state.windows slot) (not_yours state.windows client slot) (too_complex size xs)
    (no_cause (no_window state.windows slot ∷ not_yours state.windows client slot ∷ too_complex size xs ∷ []) Done e))
effect_arranged size state client (Lower slot) e a =
    let xs : List WindowView = windows_lowered slot state.windows in
    arranged_from size xs (lowered_listed slot state.windows (find (has_slot slot) state.windows) refl (listed size state.windows a))
    (third_none (no_window state.windows slot) (not_yours state.windows client slot) (too_complex size xs)
    (no_cause (no_window state.windows slot ∷ not_yours state.windows client slot ∷ too_complex size xs ∷ []) Done e))
effect_arranged size state client (CursorShape w h cells) e a = a
effect_arranged size state client (CursorMove x y) e a = a
effect_arranged size state client (CursorShow shown) e a = a
effect_arranged size state client (Join channel) e a = a
effect_arranged size state client (Leave channel) e a = a
effect_arranged size state client (Send channel message payload) e a = a
effect_arranged size state client Take e a = a
effect_arranged size state client (IsRegistered channel) e a = a

step_arranged : (size : Sides) (state accepted : State) (refused : Bool) → (refused ≡ false → IsArranged size accepted.windows) → IsArranged size state.windows → IsArranged size (made state accepted refused).windows
step_arranged size state accepted false h a = h refl
step_arranged size state accepted true h a = a

-- no window needs no rectangle
none_needed : (size : Sides) (slot : ℕ) → rects_needed size [] slot ≡ 0
none_needed size slot = ap length (none_passes (λ p. is_corner size (allocated_points size [] slot) (point_of size.w p)) (pixels size) (no_corner (pixels size)))
  where
    never : (a b c : Bool) → ((a && false) && b) && c ≡ false
    never true b c = refl
    never false b c = refl

    no_corner : (ks : List ℕ) → All (λ p. is_corner size (allocated_points size [] slot) (point_of size.w p) ≡ false) ks
    no_corner ks = λ k d l. never (is_on_screen size (point_of size.w _)) _ _

pub arranged_law : ArrangedLaw
arranged_law = record {
  opens = λ size. record { each = All-nil IsWindow; once = pairs_nil Differ; layered = pairs_nil NotBelow; simple = λ slot low. subst (λ n. n ≤ 256) (sym (none_needed size slot)) (omega arith) };
  stays = λ size state client command a. step_arranged size state (completed size state (effect state client command)) (is_refused (answer size state client command)) (λ e. effect_arranged size state client command e a) a;
}
