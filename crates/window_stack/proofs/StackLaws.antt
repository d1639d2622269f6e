-- What a command does to windows, it does to their stack.
use Rattle.std.proofs.Common.{◌≡◌, ℕ, ◌≤◌, Bool, true, false, not, ◌||◌, cond, Option, None, Some, List, [], ◌∷◌, ◌++◌, map, refl, sym, ap, ◌∙◌}
use Rattle.std.specs.Prelude.{◌≢◌}
use mathlib.Core.Path.{fun_ext}
use Rattle.std.specs.List.{filter, find}
use Rattle.std.specs.Option.{option_map, option_map_or}
use Rattle.std.proofs.lemmas.List.{map-append}
use Rattle.qws_base.specs.Sides.{Sides}
use Rattle.qws_base.specs.Windows.{has_slot, is_live}
use Rattle.qws_base.specs.Stacking.{slots, free_slot, new_window, is_above, is_below, with_front, with_back, windows_without, with_region, with_origin}
use Rattle.qws_base.specs.Arranged.{IsWindow, IsArranged}
use Rattle.qws_base.specs.declared.points.Point.{Point}
use Rattle.qws_base.specs.declared.points.Rect.{Rect}
use Rattle.qws_base.specs.declared.windows.WindowView.{WindowView}
use Rattle.qws_base.proofs.ListLemmas.{each_map, pairs_map}
use Rattle.window_stack.specs.Stacks.{stacked, stack_of, IsStack, StackLaw}

-- ---- a test that sees no more of a window than its stack does

kept : (p : WindowView → Bool) → ((w : WindowView) → p (stacked w) ≡ p w) → (ws : List WindowView) → stack_of (filter p ws) ≡ filter p (stack_of ws)
kept p same [] = refl
kept p same (w ∷ ws) = by (p w) (p (stacked w)) (same w) (kept p same ws)
  where
    by : (b c : Bool) → c ≡ b → stack_of (filter p ws) ≡ filter p (stack_of ws) → stack_of (cond b (w ∷ filter p ws) (filter p ws)) ≡ cond c (stacked w ∷ filter p (stack_of ws)) (filter p (stack_of ws))
    by true c e h = ap (λ vs. stacked w ∷ vs) h ∙ sym (ap (λ d. cond d (stacked w ∷ filter p (stack_of ws)) (filter p (stack_of ws))) e)
    by false c e h = h ∙ sym (ap (λ d. cond d (stacked w ∷ filter p (stack_of ws)) (filter p (stack_of ws))) e)

first : (p : WindowView → Bool) → ((w : WindowView) → p (stacked w) ≡ p w) → (ws : List WindowView) → find p (stack_of ws) ≡ option_map stacked (find p ws)
first p same [] = refl
first p same (w ∷ ws) = by (p w) (p (stacked w)) (same w) (first p same ws)
  where
    by : (b c : Bool) → c ≡ b → find p (stack_of ws) ≡ option_map stacked (find p ws) → cond c (Some (stacked w)) (find p (stack_of ws)) ≡ option_map stacked (cond b (Some w) (find p ws))
    by true c e h = ap (λ d. cond d (Some (stacked w)) (find p (stack_of ws))) e
    by false c e h = ap (λ d. cond d (Some (stacked w)) (find p (stack_of ws))) e ∙ h

some_one : (slot : ℕ) (ws : List WindowView) → is_live (stack_of ws) slot ≡ is_live ws slot
some_one slot [] = refl
some_one slot (w ∷ ws) = ap (λ b. has_slot slot w || b) (some_one slot ws)

-- ---- the moves

front : (w : WindowView) (ws : List WindowView) → stack_of (with_front w ws) ≡ with_front (stacked w) (stack_of ws)
front w ws =
    map-append stacked (filter (is_above w.layer) ws) (w ∷ filter (λ v. not (is_above w.layer v)) ws)
    ∙ ap (λ vs. vs ++ stacked w ∷ stack_of (filter (λ v. not (is_above w.layer v)) ws)) (kept (is_above w.layer) (λ v. refl) ws)
    ∙ ap (λ vs. filter (is_above w.layer) (stack_of ws) ++ stacked w ∷ vs) (kept (λ v. not (is_above w.layer v)) (λ v. refl) ws)

back : (w : WindowView) (ws : List WindowView) → stack_of (with_back w ws) ≡ with_back (stacked w) (stack_of ws)
back w ws =
    map-append stacked (filter (λ v. not (is_below w.layer v)) ws) (w ∷ filter (is_below w.layer) ws)
    ∙ ap (λ vs. vs ++ stacked w ∷ stack_of (filter (is_below w.layer) ws)) (kept (λ v. not (is_below w.layer v)) (λ v. refl) ws)
    ∙ ap (λ vs. filter (λ v. not (is_below w.layer v)) (stack_of ws) ++ stacked w ∷ vs) (kept (is_below w.layer) (λ v. refl) ws)

gone : (slot : ℕ) (ws : List WindowView) → stack_of (windows_without slot ws) ≡ windows_without slot (stack_of ws)
gone slot ws = kept (λ v. not (has_slot slot v)) (λ v. refl) ws

free : (ws : List WindowView) → free_slot (stack_of ws) ≡ free_slot ws
free ws = ap (λ (test : ℕ → Bool). find test slots) (fun_ext (λ slot. ap not (some_one slot ws)))

-- a window that a search found goes to its new place, in the windows and in the stack
moved : (place : WindowView → List WindowView → List WindowView) → ((w : WindowView) (ws : List WindowView) → stack_of (place w ws) ≡ place (stacked w) (stack_of ws)) → (slot : ℕ) (ws : List WindowView) (found : Option WindowView)
    → stack_of (option_map_or (λ w. place w (windows_without slot ws)) found ws) ≡ option_map_or (λ w. place w (windows_without slot (stack_of ws))) (option_map stacked found) (stack_of ws)
moved place same slot ws None = refl
moved place same slot ws (Some w) = same w (windows_without slot ws) ∙ ap (place (stacked w)) (gone slot ws)

made : (client layer : ℕ) (ws : List WindowView) (slot : Option ℕ) → stack_of (option_map_or (λ k. with_front (new_window k client layer) ws) slot ws) ≡ option_map_or (λ k. with_front (new_window k client layer) (stack_of ws)) slot (stack_of ws)
made client layer ws None = refl
made client layer ws (Some slot) = front (new_window slot client layer) ws

-- a change that a stack doesn't see
unseen : (f : WindowView → WindowView) → ((w : WindowView) → stacked (f w) ≡ stacked w) → (ws : List WindowView) → stack_of (map f ws) ≡ stack_of ws
unseen f same [] = refl
unseen f same (w ∷ ws) = ap (λ v. v ∷ stack_of (map f ws)) (same w) ∙ ap (λ vs. stacked w ∷ vs) (unseen f same ws)

region_same : (slot : ℕ) (origin : Point) (rects : List Rect) (w : WindowView) → stacked (with_region slot origin rects w) ≡ stacked w
region_same slot origin rects w = by (has_slot slot w)
  where
    by : (b : Bool) → stacked (cond b (record w { origin = origin; rects = rects }) w) ≡ stacked w
    by true = refl
    by false = refl

origin_same : (slot : ℕ) (origin : Point) (w : WindowView) → stacked (with_origin slot origin w) ≡ stacked w
origin_same slot origin w = by (has_slot slot w)
  where
    by : (b : Bool) → stacked (cond b (record w { origin = origin }) w) ≡ stacked w
    by true = refl
    by false = refl

client_same : (found : Option WindowView) → option_map (λ (w : WindowView). w.owner) (option_map stacked found) ≡ option_map (λ (w : WindowView). w.owner) found
client_same None = refl
client_same (Some w) = refl

pub stack_law : StackLaw
stack_law = record {
  created = λ client layer ws. made client layer ws (free_slot ws) ∙ sym (ap (λ slot. option_map_or (λ k. with_front (new_window k client layer) (stack_of ws)) slot (stack_of ws)) (free ws));
  without = gone;
  raised = λ slot ws. moved with_front front slot ws (find (has_slot slot) ws) ∙ sym (ap (λ found. option_map_or (λ w. with_front w (windows_without slot (stack_of ws))) found (stack_of ws)) (first (has_slot slot) (λ v. refl) ws));
  lowered = λ slot ws. moved with_back back slot ws (find (has_slot slot) ws) ∙ sym (ap (λ found. option_map_or (λ w. with_back w (windows_without slot (stack_of ws))) found (stack_of ws)) (first (has_slot slot) (λ v. refl) ws));
  region_set = λ slot origin rects ws. unseen (with_region slot origin rects) (region_same slot origin rects) ws;
  origin_set = λ slot origin ws. unseen (with_origin slot origin) (origin_same slot origin) ws;
  live = λ ws slot. some_one slot ws;
  free = free;
  client = λ ws slot. ap (option_map (λ (w : WindowView). w.owner)) (first (has_slot slot) (λ v. refl) ws) ∙ client_same (find (has_slot slot) ws);
}

pub arranged_stack : (size : Sides) (windows : List WindowView) → IsArranged size windows → IsStack (stack_of windows)
arranged_stack size windows a = record {
  each = each_map IsWindow IsWindow stacked (λ w fits. record { slot = fits.slot; layer = fits.layer; placed = refl; requested = refl }) windows a.each;
  once = pairs_map (λ v w. v.slot ≢ w.slot) (λ v w. v.slot ≢ w.slot) stacked (λ v w ne. ne) windows a.once;
  layered = pairs_map (λ v w. w.layer ≤ v.layer) (λ v w. w.layer ≤ v.layer) stacked (λ v w low. low) windows a.layered;
}
