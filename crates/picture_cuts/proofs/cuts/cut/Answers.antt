use Rattle.std.proofs.Common.{◌≡◌, ℕ, arith, ℤ, ap, ◌∙◌, to_z, of_z, w32, ◌+ℤ◌}
use Rattle.std.proofs.lemmas.Int.{ints}
use Rattle.qws_base.specs.declared.points.Rect.{Rect}
use Rattle.picture_cuts.specs.Cuts.{shared_span}
use Rattle.picture_cuts.proofs.cuts.cut.Goals as goal

pub returns : goal.returns
returns c =
    let at : (z : ℤ) → ℤ = λ z. to_z w32 (of_z w32 z) in
    let rx : to_z w32 (of_z w32 c.args.rect.x) ≡ c.args.rect.x = omega (arith, ints) in
    let ry : to_z w32 (of_z w32 c.args.rect.y) ≡ c.args.rect.y = omega (arith, ints) in
    let ox : to_z w32 (of_z w32 c.args.origin.x) ≡ c.args.origin.x = omega (arith, ints) in
    let oy : to_z w32 (of_z w32 c.args.origin.y) ≡ c.args.origin.y = omega (arith, ints) in
    let mx : to_z w32 (of_z w32 c.args.reach.x) ≡ c.args.reach.x = omega (arith, ints) in
    let my : to_z w32 (of_z w32 c.args.reach.y) ≡ c.args.reach.y = omega (arith, ints) in
    let x : c.shared_span-x.result ≡ shared_span c.args.rect.x c.args.rect.w (c.args.origin.x +ℤ c.args.reach.x) c.args.reach.w = c.shared_span-x.ensures
    ∙ ap (λ a. shared_span a c.args.rect.w (at c.args.origin.x +ℤ at c.args.reach.x) c.args.reach.w) rx
    ∙ ap (λ a. shared_span c.args.rect.x c.args.rect.w (a +ℤ at c.args.reach.x) c.args.reach.w) ox
    ∙ ap (λ a. shared_span c.args.rect.x c.args.rect.w (c.args.origin.x +ℤ a) c.args.reach.w) mx in
    let y : c.shared_span-y.result ≡ shared_span c.args.rect.y c.args.rect.h (c.args.origin.y +ℤ c.args.reach.y) c.args.reach.h = c.shared_span-y.ensures
    ∙ ap (λ a. shared_span a c.args.rect.h (at c.args.origin.y +ℤ at c.args.reach.y) c.args.reach.h) ry
    ∙ ap (λ a. shared_span c.args.rect.y c.args.rect.h (a +ℤ at c.args.reach.y) c.args.reach.h) oy
    ∙ ap (λ a. shared_span c.args.rect.y c.args.rect.h (c.args.origin.y +ℤ a) c.args.reach.h) my in
    let first : to_z w32 (of_z w32 c.shared_span-x.result.0) ≡ c.shared_span-x.result.0 = omega (arith, ints) in
    let top : to_z w32 (of_z w32 c.shared_span-y.result.0) ≡ c.shared_span-y.result.0 = omega (arith, ints) in
    ap (λ a. let r : Rect = record { x = a; y = to_z w32 (of_z w32 c.shared_span-y.result.0); w = c.shared_span-x.result.1; h = c.shared_span-y.result.1 } in r) first
    ∙ ap (λ a. let r : Rect = record { x = c.shared_span-x.result.0; y = a; w = c.shared_span-x.result.1; h = c.shared_span-y.result.1 } in r) top
    ∙ ap (λ (p : ℤ × ℕ). let r : Rect = record { x = p.0; y = c.shared_span-y.result.0; w = p.1; h = c.shared_span-y.result.1 } in r) x
    ∙ ap (λ (q : ℤ × ℕ). let s : ℤ × ℕ = shared_span c.args.rect.x c.args.rect.w (c.args.origin.x +ℤ c.args.reach.x) c.args.reach.w in let r : Rect = record { x = s.0; y = q.0; w = s.1; h = q.1 } in r) y
