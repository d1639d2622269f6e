-- When two rectangles are equal, as a test.
use Rattle.std.specs.Prelude.{Bool, ◌&&◌, ◌==◌}
use Rattle.std.specs.Ordering.{int_eq}
use Rattle.std.specs.Cmp.{IsEquivalence}
use Rattle.std.proofs.lemmas.Cmp.{on_equiv, and_equiv, nat_eq_equiv, int_eq_equiv}
use Rattle.qws_base.specs.declared.points.Rect.{Rect}

-- the four numbers of two rectangles are equal
abbrev pub same_rect : Rect → Rect → Bool
same_rect a b = int_eq a.x b.x && (int_eq a.y b.y && (a.w == b.w && a.h == b.h))

pub same_rect_equiv : IsEquivalence same_rect
same_rect_equiv =
    and_equiv (on_equiv (λ r. r.x) int_eq_equiv) (and_equiv (on_equiv (λ r. r.y) int_eq_equiv) (and_equiv (on_equiv (λ r. r.w) nat_eq_equiv) (on_equiv (λ r. r.h) nat_eq_equiv)))
