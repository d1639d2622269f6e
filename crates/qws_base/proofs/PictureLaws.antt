-- What a sheet by points has at a point.
use Rattle.std.specs.Prelude.{ℕ, ◌≡◌, ◌+◌, ◌*◌, ◌/◌, ◌%◌, pos, ◌+ℤ◌, ◌-ℤ◌, nat_abs, Bool, true, false, slice_index_or, if◌then◌else◌, refl}
use Rattle.std.proofs.Common.{◌∙◌, ap, arith}
use Rattle.std.proofs.lemmas.Bool.{and_parts}
use Rattle.std.proofs.lemmas.List.FromFn.{get_or-map-range_with_len}
use Rattle.std.proofs.lemmas.Nat.{mul-add-lt, div-mul-add, mod-mul-add}
use Rattle.qws_base.specs.declared.points.Point.{Point}
use Rattle.qws_base.specs.declared.points.Rect.{Rect}
use Rattle.qws_base.specs.declared.inks.Ink.{Ink}
use Rattle.qws_base.specs.declared.inks.Ink.TheVariants.{Skip}
use Rattle.qws_base.specs.Points.{spans, holds}
use Rattle.qws_base.specs.Sheets.{sheet_of, ink_at, place_in}
use Rattle.qws_base.proofs.Integers.{spanned}

at_place : (r : Rect) (f : Point → Ink) (p : Point) → holds r p ≡ true → slice_index_or (sheet_of r f).inks (place_in r p) Skip ≡ f p
at_place r f p h =
    let parts = and_parts (spans r.x r.w p.x) (spans r.y r.h p.y) h in
    let x = spanned r.x p.x r.w parts.0 in
    let y = spanned r.y p.y r.h parts.1 in
    let dx : ℕ = nat_abs (p.x -ℤ r.x) in
    let dy : ℕ = nat_abs (p.y -ℤ r.y) in
    let g : ℕ → Ink = λ k. f (record { x = r.x +ℤ pos (k % r.w); y = r.y +ℤ pos (k / r.w) }) in
    get_or-map-range_with_len g 0 (r.w * r.h) (dy * r.w + dx) (dy * r.w + dx) Skip (mul-add-lt dy r.w dx r.h y.below x.below) (omega arith)
    ∙ ap (λ c. f (record { x = r.x +ℤ pos c; y = r.y +ℤ pos ((dy * r.w + dx) / r.w) })) (mod-mul-add dy r.w dx x.below)
    ∙ ap (λ c. f (record { x = r.x +ℤ pos dx; y = r.y +ℤ pos c })) (div-mul-add dy r.w dx x.below)
    ∙ ap (λ c. f (record { x = c; y = r.y +ℤ pos dy })) x.same
    ∙ ap (λ c. f (record { x = p.x; y = c })) y.same

by_test : (b : Bool) (r : Rect) (f : Point → Ink) (p : Point) → holds r p ≡ b → (if b then slice_index_or (sheet_of r f).inks (place_in r p) Skip else Skip) ≡ (if b then f p else Skip)
by_test true r f p h = at_place r f p h
by_test false r f p h = refl

-- a sheet by points has at each point of its rectangle what the points have
pub ink_of_sheet : (r : Rect) (f : Point → Ink) (p : Point) → ink_at (sheet_of r f) p ≡ (if holds r p then f p else Skip)
ink_of_sheet r f p = by_test (holds r p) r f p refl
