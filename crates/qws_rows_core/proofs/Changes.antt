-- One request is replaced.
use Rattle.std.proofs.Common.{◌≡◌, ℕ, ◌<◌, Bool, true, false, ◌||◌, List, [], length, get_or, set, refl, sym, ap, ◌∙◌}
use Rattle.std.specs.Prelude.{◌≢◌}
use Rattle.std.proofs.lemmas.Bool.{false≢true}
use Rattle.std.proofs.lemmas.List.{get_or_default, get_or-set_same, get_or-set_other}
use Rattle.qws_base.specs.Sides.{Sides}
use Rattle.qws_base.specs.Points.{any_holds}
use Rattle.qws_base.specs.Regions.{IsRegionOf}
use Rattle.qws_base.specs.Stacking.{windows_without}
use Rattle.qws_base.specs.declared.points.Point.{Point}
use Rattle.qws_base.specs.declared.points.Rect.{Rect}
use Rattle.qws_base.specs.declared.windows.WindowView.{WindowView}
use Rattle.region_alloc.specs.Allocations.{of_slot}
use Rattle.region_alloc.specs.Changes.{ChangesOneSlot}

left : (a b : Bool) → a ≡ true → (a || b) ≡ true
left true b h = refl
left false b h = absurd (false≢true h)

right : (a b : Bool) → b ≡ true → (a || b) ≡ true
right true b h = refl
right false b h = h

pub replaced : (size : Sides) (slot : ℕ) (changed request old : List Rect) (stack stack' : List WindowView) (requests requests' : List (List Rect)) → slot < length requests → windows_without slot stack' ≡ windows_without slot stack → old ≡ get_or requests slot old → requests' ≡ set requests slot request
    → IsRegionOf changed (λ p. any_holds old p || any_holds request p) → ChangesOneSlot size slot changed stack requests stack' requests'
replaced size slot changed request old stack stack' requests requests' low others e f region = record {
  others = others;
  kept = λ other ne. ap (λ lists. of_slot lists other) f ∙ get_or-set_other requests slot other request [] ne;
  before = λ p on h. region.points p ∙ left (any_holds old p) (any_holds request p) (ap (λ rects. any_holds rects p) (e ∙ get_or_default requests slot old [] low) ∙ h);
  after = λ p on h. region.points p ∙ right (any_holds old p) (any_holds request p) (ap (λ rects. any_holds rects p) (sym (ap (λ lists. of_slot lists slot) f ∙ get_or-set_same requests slot request [] low)) ∙ h);
}
