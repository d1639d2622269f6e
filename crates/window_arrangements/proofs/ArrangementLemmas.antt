-- What a change of one window leaves of the requests.
use Rattle.std.proofs.Common.{◌≡◌, ℕ, ◌+◌, ◌<◌, Bool, true, false, not, ◌||◌, cond, Some, List, [], ◌∷◌, ◌++◌, map, length, get_or, set, refl, sym, ap, ◌∙◌, subst, arith}
use Rattle.std.specs.Prelude.{◌≢◌, nat_le, nat_lt, All, AllPairs}
use Rattle.std.specs.List.{filter, find, list_any}
use Rattle.std.specs.Option.{option_map_or}
use Rattle.std.proofs.lemmas.Bool.{false≢true}
use Rattle.std.proofs.lemmas.List.{get_or-set_same, get_or-set_other}
use Rattle.std.proofs.lemmas.List.Elements.{All-nil, All-cons, All-head, All-tail, All-append, All-filter, All-weaker, All-map, filter_passes, filter-append}
use Rattle.qws_base.specs.Sides.{Sides}
use Rattle.qws_base.specs.Points.{any_holds, is_on_screen, holds, shifted}
use Rattle.qws_base.specs.Regions.{IsRegionOf}
use Rattle.qws_base.specs.Windows.{covers, has_slot}
use Rattle.qws_base.specs.Stacking.{new_window, free_slot, is_above, is_below, with_front, with_back, windows_created, windows_without, windows_raised, windows_lowered, with_region, with_origin}
use Rattle.qws_base.specs.declared.points.Point.{Point}
use Rattle.qws_base.specs.declared.points.Rect.{Rect}
use Rattle.qws_base.specs.declared.windows.WindowView.{WindowView}
use Rattle.qws_base.proofs.ListLemmas.{pairs_head, pairs_tail, found_member}
use Rattle.region_alloc.specs.Allocations.{of_slot, AreRequestsOf}
use Rattle.region_alloc.specs.Changes.{ChangesOneSlot}
use Rattle.window_stack.specs.Stacks.{stack_of}
use Rattle.window_stack.proofs.StackLemmas.{free_without}
use Rattle.window_arrangements.specs.Lists.{is_from}
use Rattle.window_arrangements.specs.Arrangements.{IsRequestOf, OthersAsk}

-- ---- tests

pub slot_is : (slot : ℕ) (w : WindowView) → has_slot slot w ≡ true → w.slot ≡ slot
slot_is slot w h = grind arith

pub slot_differs : (slot : ℕ) (w : WindowView) → has_slot slot w ≡ false → w.slot ≢ slot
slot_differs slot w h = λ e. grind arith

pub its_slot : (w : WindowView) → has_slot w.slot w ≡ true
its_slot w = grind arith

not_true : (b : Bool) → not b ≡ true → b ≡ false
not_true true h = sym h
not_true false h = refl

filter_alike : (p q : WindowView → Bool) → ((w : WindowView) → p w ≡ q w) → (ws : List WindowView) → filter p ws ≡ filter q ws
filter_alike p q e [] = refl
filter_alike p q e (w ∷ ws) = ap (λ b. cond b (w ∷ filter p ws) (filter p ws)) (e w) ∙ ap (λ vs. cond (q w) (w ∷ vs) vs) (filter_alike p q e ws)

above_from : (layer : ℕ) (w : WindowView) → is_from (layer + 1) w ≡ is_above layer w
above_from layer w = by (w.layer)
  where
    by : (n : ℕ) → nat_le (layer + 1) n ≡ nat_lt layer n
    by n = grind arith

from_not_below : (layer : ℕ) (w : WindowView) → is_from layer w ≡ not (is_below layer w)
from_not_below layer w = by (w.layer)
  where
    by : (n : ℕ) → nat_le layer n ≡ not (nat_lt n layer)
    by n = grind arith

not_from_below : (layer : ℕ) (w : WindowView) → not (is_from layer w) ≡ is_below layer w
not_from_below layer w = by (w.layer)
  where
    by : (n : ℕ) → not (nat_le layer n) ≡ nat_lt n layer
    by n = grind arith

-- put behind the windows of its layer and above, or of higher layers
abbrev pub put_at : ℕ → WindowView → List WindowView → List WindowView
put_at layer w ws = filter (is_from layer) ws ++ w ∷ filter (λ v. not (is_from layer v)) ws

pub put_front : (w : WindowView) (ws : List WindowView) → put_at (w.layer + 1) w ws ≡ with_front w ws
put_front w ws =
    ap (λ vs. vs ++ w ∷ filter (λ v. not (is_from (w.layer + 1) v)) ws) (filter_alike (is_from (w.layer + 1)) (is_above w.layer) (above_from w.layer) ws)
    ∙ ap (λ vs. filter (is_above w.layer) ws ++ w ∷ vs) (filter_alike (λ v. not (is_from (w.layer + 1) v)) (λ v. not (is_above w.layer v)) (λ v. ap not (above_from w.layer v)) ws)

pub put_back : (w : WindowView) (ws : List WindowView) → put_at w.layer w ws ≡ with_back w ws
put_back w ws =
    ap (λ vs. vs ++ w ∷ filter (λ v. not (is_from w.layer v)) ws) (filter_alike (is_from w.layer) (λ v. not (is_below w.layer v)) (from_not_below w.layer) ws)
    ∙ ap (λ vs. filter (λ v. not (is_below w.layer v)) ws ++ w ∷ vs) (filter_alike (λ v. not (is_from w.layer v)) (is_below w.layer) (not_from_below w.layer) ws)

-- ---- the windows without one

kept_by : (slot : ℕ) (w : WindowView) (ws : List WindowView) (here : Bool) → has_slot slot w ≡ here → cond (not here) (w ∷ windows_without slot ws) (windows_without slot ws) ≡ windows_without slot (w ∷ ws)
kept_by slot w ws here e = ap (λ b. cond (not b) (w ∷ windows_without slot ws) (windows_without slot ws)) (sym e)

-- where a change leaves what doesn't have the slot, and the slot of what has it, the others are as before
changed_others_by : (slot : ℕ) (f : WindowView → WindowView) (w : WindowView) (ws : List WindowView) (here : Bool) → has_slot slot w ≡ here → has_slot slot (f w) ≡ here → (here ≡ false → f w ≡ w)
    → windows_without slot (map f ws) ≡ windows_without slot ws → windows_without slot (f w ∷ map f ws) ≡ windows_without slot (w ∷ ws)
changed_others_by slot f w ws true is after same rest = sym (kept_by slot (f w) (map f ws) true after) ∙ rest ∙ kept_by slot w ws true is
changed_others_by slot f w ws false is after same rest =
    sym (kept_by slot (f w) (map f ws) false after) ∙ ap (λ v. v ∷ windows_without slot (map f ws)) (same refl) ∙ ap (λ vs. w ∷ vs) rest ∙ kept_by slot w ws false is

record LeavesOthers (slot : ℕ) (f : WindowView → WindowView) : Type 0 where
  pub slot_stays : (w : WindowView) → has_slot slot (f w) ≡ has_slot slot w
  pub others_stay : (w : WindowView) → has_slot slot w ≡ false → f w ≡ w

changed_others : (slot : ℕ) (f : WindowView → WindowView) → LeavesOthers slot f → (ws : List WindowView) → windows_without slot (map f ws) ≡ windows_without slot ws
changed_others slot f l [] = refl
changed_others slot f l (w ∷ ws) = changed_others_by slot f w ws (has_slot slot w) refl (l.slot_stays w) (l.others_stay w) (changed_others slot f l ws)

region_leaves : (slot : ℕ) (origin : Point) (rects : List Rect) → LeavesOthers slot (with_region slot origin rects)
region_leaves slot origin rects = record {
  slot_stays = λ w. by_slot w (has_slot slot w) refl;
  others_stay = λ w h. ap (λ b. let v : WindowView = cond b (record w { origin = origin; rects = rects }) w in v) h;
}
  where
    by_slot : (w : WindowView) (here : Bool) → has_slot slot w ≡ here → has_slot slot (let v : WindowView = cond here (record w { origin = origin; rects = rects }) w in v) ≡ here
    by_slot w true e = e
    by_slot w false e = e

origin_leaves : (slot : ℕ) (origin : Point) → LeavesOthers slot (with_origin slot origin)
origin_leaves slot origin = record {
  slot_stays = λ w. by_slot w (has_slot slot w) refl;
  others_stay = λ w h. ap (λ b. let v : WindowView = cond b (record w { origin = origin }) w in v) h;
}
  where
    by_slot : (w : WindowView) (here : Bool) → has_slot slot w ≡ here → has_slot slot (let v : WindowView = cond here (record w { origin = origin }) w in v) ≡ here
    by_slot w true e = e
    by_slot w false e = e

pub region_others : (slot : ℕ) (origin : Point) (rects : List Rect) (ws : List WindowView) → windows_without slot (map (with_region slot origin rects) ws) ≡ windows_without slot ws
region_others slot origin rects ws = changed_others slot (with_region slot origin rects) (region_leaves slot origin rects) ws

pub origin_others : (slot : ℕ) (origin : Point) (ws : List WindowView) → windows_without slot (map (with_origin slot origin) ws) ≡ windows_without slot ws
origin_others slot origin ws = changed_others slot (with_origin slot origin) (origin_leaves slot origin) ws

-- none is left to go
pub without_twice : (slot : ℕ) (ws : List WindowView) → windows_without slot (windows_without slot ws) ≡ windows_without slot ws
without_twice slot [] = refl
without_twice slot (w ∷ ws) = by (has_slot slot w) refl (without_twice slot ws)
  where
    by : (here : Bool) → has_slot slot w ≡ here → windows_without slot (windows_without slot ws) ≡ windows_without slot ws
        → windows_without slot (cond (not here) (w ∷ windows_without slot ws) (windows_without slot ws)) ≡ cond (not here) (w ∷ windows_without slot ws) (windows_without slot ws)
    by true e rest = rest
    by false e rest = ap (λ b. cond (not b) (w ∷ windows_without slot (windows_without slot ws)) (windows_without slot (windows_without slot ws))) e ∙ ap (λ vs. w ∷ vs) rest

-- ---- what the others ask for

pub others_same : (size : Sides) (slot : ℕ) (before after : List WindowView) → windows_without slot after ≡ windows_without slot before → OthersAsk size slot before after
others_same size slot before after e requests asked =
    subst (λ ws. AreRequestsOf size ws requests) (sym e)
    (All-filter (λ w. not (has_slot slot w)) (λ w. (p : Point) → is_on_screen size p ≡ true → any_holds (of_slot requests w.slot) p ≡ covers p w) before asked)

put_rest : (P : WindowView → Type 0) (slot layer : ℕ) (w : WindowView) (ws : List WindowView) → has_slot slot w ≡ true → All P ws → All P (windows_without slot (put_at layer w ws))
put_rest P slot layer w ws h all =
    subst (All P) (sym (filter-append (λ v. not (has_slot slot v)) (filter (is_from layer) ws) (w ∷ filter (λ v. not (is_from layer v)) ws)))
    (All-append P (windows_without slot (filter (is_from layer) ws)) (windows_without slot (w ∷ filter (λ v. not (is_from layer v)) ws))
    (All-filter (λ v. not (has_slot slot v)) P (filter (is_from layer) ws) (All-filter (is_from layer) P ws all))
    (subst (All P) (kept_by slot w (filter (λ v. not (is_from layer v)) ws) true h)
    (All-filter (λ v. not (has_slot slot v)) P (filter (λ v. not (is_from layer v)) ws) (All-filter (λ v. not (is_from layer v)) P ws all))))

pub others_beside : (size : Sides) (slot layer : ℕ) (w : WindowView) (before : List WindowView) → has_slot slot w ≡ true → OthersAsk size slot before (put_at layer w (windows_without slot before))
others_beside size slot layer w before h requests asked =
    put_rest (λ v. (p : Point) → is_on_screen size p ≡ true → any_holds (of_slot requests v.slot) p ≡ covers p v) slot layer w (windows_without slot before) h
    (All-filter (λ v. not (has_slot slot v)) (λ v. (p : Point) → is_on_screen size p ≡ true → any_holds (of_slot requests v.slot) p ≡ covers p v) before asked)

-- ---- what the window asks for

abbrev Asks : Sides → ℕ → List Rect → WindowView → Type 0
Asks size slot request w = has_slot slot w ≡ true → (p : Point) → is_on_screen size p ≡ true → any_holds request p ≡ covers p w

no_other_asks : (size : Sides) (slot : ℕ) (request : List Rect) (ws : List WindowView) → All (Asks size slot request) (windows_without slot ws)
no_other_asks size slot request ws =
    All-weaker (λ w. not (has_slot slot w) ≡ true) (Asks size slot request) (λ w h e. absurd (false≢true (sym (not_true (has_slot slot w) h) ∙ e)))
    (windows_without slot ws) (filter_passes (λ w. not (has_slot slot w)) ws)

pub gone_asks : (size : Sides) (slot : ℕ) (request : List Rect) (ws : List WindowView) → IsRequestOf size slot (windows_without slot ws) request
gone_asks = no_other_asks

pub put_asks : (size : Sides) (slot layer : ℕ) (w : WindowView) (request : List Rect) (ws : List WindowView) → ((p : Point) → is_on_screen size p ≡ true → any_holds request p ≡ covers p w) → IsRequestOf size slot (put_at layer w (windows_without slot ws)) request
put_asks size slot layer w request ws asks =
    All-append (Asks size slot request) (filter (is_from layer) (windows_without slot ws)) (w ∷ filter (λ v. not (is_from layer v)) (windows_without slot ws))
    (All-filter (is_from layer) (Asks size slot request) (windows_without slot ws) (no_other_asks size slot request ws))
    (All-cons (Asks size slot request) w (filter (λ v. not (is_from layer v)) (windows_without slot ws)) (λ h. asks)
    (All-filter (λ v. not (is_from layer v)) (Asks size slot request) (windows_without slot ws) (no_other_asks size slot request ws)))

pub region_asks : (size : Sides) (slot : ℕ) (origin : Point) (rects request : List Rect) (ws : List WindowView) → ((p : Point) → any_holds request p ≡ list_any (λ r. holds (shifted origin r) p) rects) → IsRequestOf size slot (map (with_region slot origin rects) ws) request
region_asks size slot origin rects request ws asks =
    All-map (Asks size slot request) (with_region slot origin rects) ws (λ k d l. by (get_or ws k d) (has_slot slot (get_or ws k d)) refl)
  where
    by : (w : WindowView) (here : Bool) → has_slot slot w ≡ here → Asks size slot request (let v : WindowView = cond here (record w { origin = origin; rects = rects }) w in v)
    by w true e = λ h p on. asks p
    by w false e = λ h. absurd (false≢true (sym e ∙ h))

-- of windows with slots of their own, the one that a search by slot finds is the only one that has it
only_by : (slot : ℕ) (v : WindowView) (ws : List WindowView) (window : WindowView) (here : Bool) → AllPairs (λ a b. a.slot ≢ b.slot) (v ∷ ws) → has_slot slot v ≡ here → cond here (Some v) (find (has_slot slot) ws) ≡ Some window
    → (find (has_slot slot) ws ≡ Some window → All (λ w. has_slot slot w ≡ true → w ≡ window) ws) → All (λ w. has_slot slot w ≡ true → w ≡ window) (v ∷ ws)
only_by slot v ws window true once is f rest =
    All-cons (λ w. has_slot slot w ≡ true → w ≡ window) v ws (λ h. ap (λ o. option_map_or (λ x. x) o v) f)
    (All-weaker (λ w. v.slot ≢ w.slot) (λ w. has_slot slot w ≡ true → w ≡ window) (λ w apart h. absurd (apart (slot_is slot v is ∙ sym (slot_is slot w h)))) ws (pairs_head (λ a b. a.slot ≢ b.slot) v ws once))
only_by slot v ws window false once is f rest =
    All-cons (λ w. has_slot slot w ≡ true → w ≡ window) v ws (λ h. absurd (false≢true (sym is ∙ h))) (rest f)

only_one : (slot : ℕ) (ws : List WindowView) (window : WindowView) → AllPairs (λ v w. v.slot ≢ w.slot) ws → find (has_slot slot) ws ≡ Some window → All (λ w. has_slot slot w ≡ true → w ≡ window) ws
only_one slot [] window once e = All-nil (λ w. has_slot slot w ≡ true → w ≡ window)
only_one slot (v ∷ ws) window once e = only_by slot v ws window (has_slot slot v) once refl e (only_one slot ws window (pairs_tail (λ a b. a.slot ≢ b.slot) v ws once))

pub origin_asks : (size : Sides) (slot : ℕ) (origin : Point) (request : List Rect) (ws : List WindowView) (window : WindowView) → AllPairs (λ v w. v.slot ≢ w.slot) ws → find (has_slot slot) ws ≡ Some window
    → ((p : Point) → any_holds request p ≡ list_any (λ r. holds (shifted origin r) p) window.rects) → IsRequestOf size slot (map (with_origin slot origin) ws) request
origin_asks size slot origin request ws window once e asks =
    All-map (Asks size slot request) (with_origin slot origin) ws (λ k d l. by (get_or ws k d) (has_slot slot (get_or ws k d)) refl (only_one slot ws window once e k d l))
  where
    by : (w : WindowView) (here : Bool) → has_slot slot w ≡ here → (has_slot slot w ≡ true → w ≡ window) → Asks size slot request (let v : WindowView = cond here (record w { origin = origin }) w in v)
    by w true is same = λ h p on. asks p ∙ ap (λ (v : WindowView). list_any (λ r. holds (shifted origin r) p) v.rects) (sym (same is))
    by w false is same = λ h. absurd (false≢true (sym is ∙ h))

-- the window's own request, as it was
pub kept_asks : (size : Sides) (requests : List (List Rect)) (ws : List WindowView) (window : WindowView) → AreRequestsOf size ws requests → find (has_slot window.slot) ws ≡ Some window
    → (p : Point) → is_on_screen size p ≡ true → any_holds (of_slot requests window.slot) p ≡ covers p window
kept_asks size requests ws window asked e =
    (found_member (λ w. (p : Point) → is_on_screen size p ≡ true → any_holds (of_slot requests w.slot) p ≡ covers p w) (has_slot window.slot) ws window asked e).0

-- ---- the requests, with another one

asked_by : (P : WindowView → Type 0) (slot : ℕ) (w : WindowView) (ws : List WindowView) (here : Bool) → has_slot slot w ≡ here → (here ≡ true → P w) → All P (cond (not here) (w ∷ windows_without slot ws) (windows_without slot ws))
    → (All P (windows_without slot ws) → All P ws) → All P (w ∷ ws)
asked_by P slot w ws true is own others rest = All-cons P w ws (own refl) (rest others)
asked_by P slot w ws false is own others rest = All-cons P w ws (All-head P w (windows_without slot ws) others) (rest (All-tail P w (windows_without slot ws) others))

-- what holds of the window of a slot and of all others holds of all
of_all : (P : WindowView → Type 0) (slot : ℕ) (ws : List WindowView) → All (λ w. has_slot slot w ≡ true → P w) ws → All P (windows_without slot ws) → All P ws
of_all P slot [] own others = All-nil P
of_all P slot (w ∷ ws) own others =
    asked_by P slot w ws (has_slot slot w) refl (λ h. All-head (λ v. has_slot slot v ≡ true → P v) w ws own h) others
    (of_all P slot ws (All-tail (λ v. has_slot slot v ≡ true → P v) w ws own))

pub other_request : (requests : List (List Rect)) (slot other : ℕ) (request : List Rect) → other ≢ slot → of_slot (set requests slot request) other ≡ of_slot requests other
other_request requests slot other request differs = get_or-set_other requests slot other request [] differs

pub own_request : (requests : List (List Rect)) (slot : ℕ) (request : List Rect) → slot < length requests → of_slot (set requests slot request) slot ≡ request
own_request requests slot request low = get_or-set_same requests slot request [] low

pub asked_again : (size : Sides) (slot : ℕ) (before after : List WindowView) (requests : List (List Rect)) (request : List Rect) → slot < length requests
    → AreRequestsOf size before requests → OthersAsk size slot before after → IsRequestOf size slot after request → AreRequestsOf size after (set requests slot request)
asked_again size slot before after requests request low asked others own =
    of_all (λ w. (p : Point) → is_on_screen size p ≡ true → any_holds (of_slot (set requests slot request) w.slot) p ≡ covers p w) slot after
    (All-weaker (Asks size slot request) (λ w. has_slot slot w ≡ true → (p : Point) → is_on_screen size p ≡ true → any_holds (of_slot (set requests slot request) w.slot) p ≡ covers p w)
    (λ w asks h p on. ap (λ s. any_holds (of_slot (set requests slot request) s) p) (slot_is slot w h) ∙ ap (λ rs. any_holds rs p) (own_request requests slot request low) ∙ asks h p on) after own)
    (each (windows_without slot after) (filter_passes (λ w. not (has_slot slot w)) after) (others requests asked))
  where
    each : (ws : List WindowView) → All (λ w. not (has_slot slot w) ≡ true) ws → All (λ w. (p : Point) → is_on_screen size p ≡ true → any_holds (of_slot requests w.slot) p ≡ covers p w) ws
        → All (λ w. (p : Point) → is_on_screen size p ≡ true → any_holds (of_slot (set requests slot request) w.slot) p ≡ covers p w) ws
    each ws passes asks = λ k d l p on.
        ap (λ rs. any_holds rs p) (other_request requests slot (get_or ws k d).slot request (slot_differs slot (get_or ws k d) (not_true (has_slot slot (get_or ws k d)) (passes k d l)))) ∙ asks k d l p on

-- ---- the lists of windows

pub raised_is : (ws others : List WindowView) (window copy : WindowView) → find (has_slot window.slot) ws ≡ Some window → others ≡ windows_without window.slot ws → copy ≡ window
    → put_at (window.layer + 1) copy others ≡ windows_raised window.slot ws
raised_is ws others window copy found e same =
    ap (λ v. put_at (window.layer + 1) v others) same ∙ ap (put_at (window.layer + 1) window) e ∙ put_front window (windows_without window.slot ws)
    ∙ sym (ap (λ o. option_map_or (λ w. with_front w (windows_without window.slot ws)) o ws) found)

pub lowered_is : (ws others : List WindowView) (window copy : WindowView) → find (has_slot window.slot) ws ≡ Some window → others ≡ windows_without window.slot ws → copy ≡ window
    → put_at window.layer copy others ≡ windows_lowered window.slot ws
lowered_is ws others window copy found e same =
    ap (λ v. put_at window.layer v others) same ∙ ap (put_at window.layer window) e ∙ put_back window (windows_without window.slot ws)
    ∙ sym (ap (λ o. option_map_or (λ w. with_back w (windows_without window.slot ws)) o ws) found)

pub created_is : (ws others : List WindowView) (slot client layer : ℕ) → free_slot ws ≡ Some slot → others ≡ windows_without slot ws
    → put_at (layer + 1) (new_window slot client layer) others ≡ windows_created client layer ws
created_is ws others slot client layer free e =
    ap (put_at (layer + 1) (new_window slot client layer)) (e ∙ free_without ws slot free) ∙ put_front (new_window slot client layer) ws
    ∙ sym (ap (λ o. option_map_or (λ s. with_front (new_window s client layer) ws) o ws) free)

-- ---- one slot's change

either_true : (a b : Bool) → a ≡ true → (a || b) ≡ true
either_true a b e = ap (λ c. c || b) e

or_true : (a b : Bool) → b ≡ true → (a || b) ≡ true
or_true true b e = refl
or_true false b e = e

pub changes_one : (size : Sides) (slot : ℕ) (changed before : List Rect) (windows stack after : List WindowView) (requests : List (List Rect)) (request : List Rect) → slot < length requests
    → stack ≡ stack_of windows → windows_without slot after ≡ windows_without slot (stack_of windows) → before ≡ of_slot requests slot
    → IsRegionOf changed (λ p. any_holds before p || any_holds request p) → ChangesOneSlot size slot changed stack requests after (set requests slot request)
changes_one size slot changed before windows stack after requests request low stacked others is region = record {
  others = others ∙ ap (windows_without slot) (sym stacked);
  kept = λ other differs. other_request requests slot other request differs;
  before = λ p on h. region.points p ∙ either_true (any_holds before p) (any_holds request p) (ap (λ rs. any_holds rs p) is ∙ h);
  after = λ p on h. region.points p ∙ or_true (any_holds before p) (any_holds request p) (sym (ap (λ rs. any_holds rs p) (own_request requests slot request low)) ∙ h);
}
