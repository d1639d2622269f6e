-- Whether the cells of a cursor lie on the pixels of rectangles.
use Rattle.std.proofs.Common.{◌≡◌, ℕ, ◌+◌, ◌*◌, ◌/◌, ◌%◌, ◌<◌, ◌⊎◌, ⊎_elim, inl, inr, Bool, true, false, ◌&&◌, ◌||◌, if◌then◌else◌, Option, Some, None, List, [], ◌∷◌, sym, refl, ap, ◌∙◌, subst, arith, ℤ, pos, ◌+ℤ◌, ◌-ℤ◌, ◌≤ℤ◌, nat_abs}
use Rattle.std.specs.Prelude.{All, int_le}
use Rattle.std.specs.Option.{option_map}
use Rattle.std.proofs.lemmas.Int.{ints}
use Rattle.std.proofs.lemmas.Bool.{false≢true, true≢false, and_parts, and_from}
use Rattle.std.proofs.lemmas.Nat.{div-add-mod'}
use Rattle.std.proofs.lemmas.List.Elements.{All-nil, All-head, All-tail}
use Rattle.qws_base.specs.Sides.{Sides}
use Rattle.qws_base.specs.Points.{spans, holds, any_holds, point_of, pixel_at, pixel_count, is_on_screen, minus, shifted}
use Rattle.qws_base.specs.RectPixels.{IsWithin}
use Rattle.qws_base.specs.Scenes.{source_in}
use Rattle.qws_base.specs.Shown.{cell_at}
use Rattle.qws_base.specs.Windows.{Layout, layout_of, owns, origin_of}
use Rattle.qws_base.specs.declared.points.Point.{Point}
use Rattle.qws_base.specs.declared.points.Rect.{Rect}
use Rattle.qws_base.specs.declared.windows.Cursor.{Cursor}
use Rattle.qws_base.specs.declared.windows.WindowView.{WindowView}
use Rattle.qws_base.proofs.PixelLemmas.{pixel_at as at_pixel}
use Rattle.turn_logs.specs.Carries.{ShownCell, shown_cell}
use Rattle.turn_logs.proofs.Options.{some_is, none_some}
use Rattle.turn_logs.proofs.Lifting.{Lies, lies}
use Rattle.step_regions.specs.Carried.{CarriesFor, IsCarried, slot_carried, source}
use Rattle.step_regions.specs.declared.moves.CarriedPixels.{CarriedPixels}
use Rattle.qws_base.specs.States.{is_refused, moved_slot}
use Rattle.qws_base.specs.declared.commands.Command.TheVariants.{Move}
use Rattle.window_core.specs.CoreViews.{PlanView}
use Rattle.step_turns.specs.Changes.{IsClear}
use Rattle.step_turns.specs.Covers.{shares, meets, any_meets, place_of}

-- ---- rectangles

-- a place in both stretches is shared
shared : (a b at : ℤ) (n m : ℕ) → spans a n at ≡ true → spans b m at ≡ true → shares a n b m ≡ true
shared a b at n m e f = grind (arith, ints)

pub met : (r s : Rect) (p : Point) → holds r p ≡ true → holds s p ≡ true → meets s r ≡ true
met r s p in_r in_s =
    let a = and_parts (spans r.x r.w p.x) (spans r.y r.h p.y) in_r in
    let b = and_parts (spans s.x s.w p.x) (spans s.y s.h p.y) in_s in
    and_from (shares r.x r.w s.x s.w) (shares r.y r.h s.y s.h) (shared r.x s.x p.x r.w s.w a.0 b.0) (shared r.y s.y p.y r.h s.h a.1 b.1)

pub unmet : (s : Rect) (rects : List Rect) (p : Point) → any_meets s rects ≡ false → holds s p ≡ true → any_holds rects p ≡ false
unmet s [] p none in_s = refl
unmet s (r ∷ rects) p none in_s = go (holds r p) refl (meets s r) refl (λ e. unmet s rects p e in_s) none
  where
    go : (b : Bool) → holds r p ≡ b → (m : Bool) → meets s r ≡ m → (any_meets s rects ≡ false → any_holds rects p ≡ false) → (m || any_meets s rects) ≡ false → (b || any_holds rects p) ≡ false
    go b is true m_is rest e = absurd (true≢false e)
    go true is false m_is rest e = absurd (true≢false (sym (met r s p is in_s) ∙ m_is))
    go false is false m_is rest e = rest e

-- ---- cells

-- a cell lies in the place of its cursor
pub cell_in_place : (size : Sides) (cursor : Cursor) (p : ℕ) (cell : ShownCell) → shown_cell size cursor p ≡ Some cell → (cursor.shown ≡ true) × (holds (place_of cursor) (point_of size.w p) ≡ true)
cell_in_place size cursor p cell is =
    let on : Lies cursor.x cursor.y cursor.w cursor.h (p % size.w) (p / size.w) cursor.shown (cell_at cursor) cell = lies cursor.x cursor.y cursor.w cursor.h _ _ cursor.shown (cell_at cursor) cell is in
    (on.is_shown, and_from _ _ (spanned cursor.x cell.column cursor.w _ on.column_in on.column_at) (spanned cursor.y cell.row cursor.h _ on.row_in on.row_at))
  where
    spanned : (low d n at : ℕ) → d < n → at ≡ low + d → spans (pos low) n (pos at) ≡ true
    spanned low d n at lt is = grind (arith, ints)

-- ---- sources

source_there : (size : Sides) (before after : Layout) (slot p : ℕ) (o : Option ℕ) (n : ℕ) → source_in size before after slot p o ≡ Some n → o ≡ Some n
source_there size before after slot p None n e = none_some n e
source_there size before after slot p (Some q) n e = go (owns after slot p && owns before slot q) e
  where
    go : (b : Bool) → (if b then Some q else None) ≡ Some n → (let o : Option ℕ = Some q in o) ≡ Some n
    go true e = e
    go false e = none_some n e

point_there : (size : Sides) (z : Point) (n : ℕ) → pixel_at size z ≡ Some n → (n < pixel_count size) × (point_of size.w n ≡ z)
point_there size z n e = go (is_on_screen size z) refl e
  where
    go : (b : Bool) → is_on_screen size z ≡ b → (if b then Some (nat_abs z.y * size.w + nat_abs z.x) else None) ≡ Some n → (n < pixel_count size) × (point_of size.w n ≡ z)
    go false is e = none_some n e
    go true is e =
        let at = at_pixel size z is in
        let whole : at.pixel / size.w * size.w + at.pixel % size.w ≡ at.pixel = div-add-mod' at.pixel size.w in
        let number : nat_abs z.y * size.w + nat_abs z.x ≡ at.pixel = ap (λ (q : Point). nat_abs q.y * size.w + nat_abs q.x) (sym at.point) ∙ whole in
        let same : at.pixel ≡ n = sym number ∙ some_is (nat_abs z.y * size.w + nat_abs z.x) n e in
        subst (λ k. (k < pixel_count size) × (point_of size.w k ≡ z)) same (at.below, at.point)

-- the source of a carried pixel lies back by the distance
pub source_point : (size : Sides) (before after : List WindowView) (slot : ℕ) (d : Point) (region : List Rect) (falling : Bool) (by q : ℕ) → IsCarried size before after slot d region falling by → q < pixel_count size → any_holds region (point_of size.w q) ≡ true
    → (source falling by q < pixel_count size) × (point_of size.w (source falling by q) ≡ minus (point_of size.w q) d)
source_point size before after slot d region falling by q is lt held =
    point_there size (minus (point_of size.w q) d) (source falling by q)
    (source_there size (layout_of size before) (layout_of size after) slot q (pixel_at size (minus (point_of size.w q) d)) (source falling by q)
    (is.carries q lt ∙ ap (λ b. if b then Some (source falling by q) else None) held))

-- a place and the one moved by a distance
holds_moved : (r : Rect) (p d : Point) → holds r (minus p d) ≡ true → holds (shifted d r) p ≡ true
holds_moved r p d e =
    let parts = and_parts (spans r.x r.w (p.x -ℤ d.x)) (spans r.y r.h (p.y -ℤ d.y)) e in
    and_from (spans (d.x +ℤ r.x) r.w p.x) (spans (d.y +ℤ r.y) r.h p.y) (one r.x p.x d.x r.w parts.0) (one r.y p.y d.y r.h parts.1)
  where
    one : (a at by : ℤ) (n : ℕ) → spans a n (at -ℤ by) ≡ true → spans (by +ℤ a) n at ≡ true
    one a at by n e = grind (arith, ints)

-- ---- clear

none_met : (shown a b c : Bool) → (shown && ((a || b) || c)) ≡ false → shown ≡ true → (a ≡ false) × (b ≡ false) × (c ≡ false)
none_met true false false false e on = (refl, refl, refl)
none_met true true b c e on = absurd (true≢false e)
none_met true false true c e on = absurd (true≢false e)
none_met true false false true e on = absurd (true≢false e)
none_met false a b c e on = absurd (false≢true on)

pub clear_so : (size : Sides) (before after : List WindowView) (slot : Option ℕ) (cursor : Cursor) (carried : CarriedPixels) (bared : List Rect) (moved : Rect) → CarriesFor size before after slot carried.region carried.falling carried.by
    → ((s : ℕ) → slot ≡ Some s → moved ≡ shifted (minus (origin_of after s) (origin_of before s)) (place_of cursor))
    → (cursor.shown && ((any_meets (place_of cursor) carried.region || any_meets (place_of cursor) bared) || any_meets moved carried.region)) ≡ false → IsClear size cursor carried bared
clear_so size before after slot cursor carried bared moved carries moves none p cell lt lies_on =
    let on = cell_in_place size cursor p cell lies_on in
    let each = none_met cursor.shown (any_meets (place_of cursor) carried.region) (any_meets (place_of cursor) bared) (any_meets moved carried.region) none on.0 in (
      unmet (place_of cursor) carried.region (point_of size.w p) each.0 on.1,
      unmet (place_of cursor) bared (point_of size.w p) each.1 on.1,
      λ q lt_q held same. no_source slot carries moves each.2 on.1 q lt_q held same,
    )
  where
    no_source : (o : Option ℕ) → CarriesFor size before after o carried.region carried.falling carried.by → ((s : ℕ) → o ≡ Some s → moved ≡ shifted (minus (origin_of after s) (origin_of before s)) (place_of cursor))
        → any_meets moved carried.region ≡ false → holds (place_of cursor) (point_of size.w p) ≡ true
        → (q : ℕ) → q < pixel_count size → any_holds carried.region (point_of size.w q) ≡ true → source carried.falling carried.by q ≡ p → ⊥
    no_source None none moves off in_place q lt_q held same = false≢true (sym (ap (λ (l : List Rect). any_holds l (point_of size.w q)) none) ∙ held)
    no_source (Some s) is moves off in_place q lt_q held same =
        let d : Point = minus (origin_of after s) (origin_of before s) in
        let from = source_point size before after s d carried.region carried.falling carried.by q is lt_q held in
        let back : holds (place_of cursor) (minus (point_of size.w q) d) ≡ true = subst (λ (z : Point). holds (place_of cursor) z ≡ true) (sym (ap (point_of size.w) same) ∙ from.1) in_place in
        let there : holds moved (point_of size.w q) ≡ true = subst (λ (r : Rect). holds r (point_of size.w q) ≡ true) (sym (moves s refl)) (holds_moved (place_of cursor) (point_of size.w q) d back) in
        true≢false (sym held ∙ unmet moved carried.region (point_of size.w q) off there)

-- ---- covered

-- stretches that share a place have one in both
common : (a b : ℤ) (n m : ℕ) → shares a n b m ≡ true → (at : ℤ) × (spans a n at ≡ true) × (spans b m at ≡ true)
common a b n m e = go (int_le a b) refl
  where
    go : (t : Bool) → int_le a b ≡ t → (at : ℤ) × (spans a n at ≡ true) × (spans b m at ≡ true)
    go true is = (b, grind (arith, ints), grind (arith, ints))
    go false is = (a, grind (arith, ints), grind (arith, ints))

or_right : (a b : Bool) → b ≡ true → (a || b) ≡ true
or_right true b e = refl
or_right false b e = e

-- rectangles that meet have a point in common
met_point : (s : Rect) (rects : List Rect) → any_meets s rects ≡ true → (p : Point) × (any_holds rects p ≡ true) × (holds s p ≡ true)
met_point s [] e = absurd (false≢true e)
met_point s (r ∷ rects) e = go (meets s r) refl (λ h. met_point s rects h) e
  where
    go : (b : Bool) → meets s r ≡ b → (any_meets s rects ≡ true → (p : Point) × (any_holds rects p ≡ true) × (holds s p ≡ true)) → (b || any_meets s rects) ≡ true
        → (p : Point) × ((holds r p || any_holds rects p) ≡ true) × (holds s p ≡ true)
    go false is rest e = let one = rest e in (one.0, or_right (holds r one.0) (any_holds rects one.0) one.1, one.2)
    go true is rest e =
        let parts = and_parts (shares r.x r.w s.x s.w) (shares r.y r.h s.y s.h) is in
        let x = common r.x s.x r.w s.w parts.0 in
        let y = common r.y s.y r.h s.h parts.1 in
        let p : Point = record { x = x.0; y = y.0 } in
        (p, ap (λ b. b || any_holds rects p) (and_from (spans r.x r.w x.0) (spans r.y r.h y.0) x.1 y.1), and_from (spans s.x s.w x.0) (spans s.y s.h y.0) x.2 y.2)

inside : (a at : ℤ) (n m : ℕ) → pos 0 ≤ℤ a → (a +ℤ pos n) ≤ℤ pos m → spans a n at ≡ true → spans (pos 0) m at ≡ true
inside a at n m low high e = grind (arith, ints)

-- a point of rectangles on the screen is that of a pixel
on_screen_in : (size : Sides) (rects : List Rect) (p : Point) → All (IsWithin size) rects → any_holds rects p ≡ true → is_on_screen size p ≡ true
on_screen_in size [] p all e = absurd (false≢true e)
on_screen_in size (r ∷ rects) p all e = go (holds r p) refl (λ h. on_screen_in size rects p (All-tail (IsWithin size) r rects all) h) e
  where
    go : (b : Bool) → holds r p ≡ b → (any_holds rects p ≡ true → is_on_screen size p ≡ true) → (b || any_holds rects p) ≡ true → is_on_screen size p ≡ true
    go false is rest e = rest e
    go true is rest e =
        let within = All-head (IsWithin size) r rects all in
        let parts = and_parts (spans r.x r.w p.x) (spans r.y r.h p.y) is in
        and_from (spans (pos 0) size.w p.x) (spans (pos 0) size.h p.y) (inside r.x p.x r.w size.w within.from_left within.to_right parts.0) (inside r.y p.y r.h size.h within.from_top within.to_bottom parts.1)

-- a shown cell lies on each point of the place
cell_over : (size : Sides) (cursor : Cursor) (p : ℕ) → cursor.shown ≡ true → holds (place_of cursor) (point_of size.w p) ≡ true → (cell : ShownCell) × (shown_cell size cursor p ≡ Some cell)
cell_over size cursor p shown in_place = go (cursor.shown && holds (place_of cursor) (point_of size.w p)) refl (and_from cursor.shown (holds (place_of cursor) (point_of size.w p)) shown in_place)
  where
    go : (b : Bool) → (cursor.shown && holds (place_of cursor) (point_of size.w p)) ≡ b → b ≡ true → (cell : ShownCell) × (shown_cell size cursor p ≡ Some cell)
    go false is e = absurd (false≢true e)
    go true is e = let at : ℕ × ℕ = (nat_abs ((point_of size.w p).x -ℤ pos cursor.x), nat_abs ((point_of size.w p).y -ℤ pos cursor.y)) in (record { column = at.0; row = at.1; value = cell_at cursor at }, ap (λ b. option_map (λ (k : ℕ × ℕ). let c : ShownCell = record { column = k.0; row = k.1; value = cell_at cursor k } in c) (if b then Some at else None)) is)

-- a pixel of rectangles on which a shown cell lies
record IsHit (size : Sides) (cursor : Cursor) (rects : List Rect) : Type 0 where
  pixel : ℕ
  cell : ShownCell
  below : pixel < pixel_count size
  lies_on : shown_cell size cursor pixel ≡ Some cell
  held : any_holds rects (point_of size.w pixel) ≡ true

hit : (size : Sides) (cursor : Cursor) (rects : List Rect) → All (IsWithin size) rects → cursor.shown ≡ true → any_meets (place_of cursor) rects ≡ true → IsHit size cursor rects
hit size cursor rects within shown meet =
    let z = met_point (place_of cursor) rects meet in
    let at = at_pixel size z.0 (on_screen_in size rects z.0 within z.1) in
    let over = cell_over size cursor at.pixel shown (subst (λ (p : Point). holds (place_of cursor) p ≡ true) (sym at.point) z.2) in
    record { pixel = at.pixel; cell = over.0; below = at.below; lies_on = over.1; held = subst (λ (p : Point). any_holds rects p ≡ true) (sym at.point) z.1 }

moved_back : (r : Rect) (p d : Point) → holds (shifted d r) p ≡ true → holds r (minus p d) ≡ true
moved_back r p d e =
    let parts = and_parts (spans (d.x +ℤ r.x) r.w p.x) (spans (d.y +ℤ r.y) r.h p.y) e in
    and_from (spans r.x r.w (p.x -ℤ d.x)) (spans r.y r.h (p.y -ℤ d.y)) (one r.x p.x d.x r.w parts.0) (one r.y p.y d.y r.h parts.1)
  where
    one : (a at by : ℤ) (n : ℕ) → spans (by +ℤ a) n at ≡ true → spans a n (at -ℤ by) ≡ true
    one a at by n e = grind (arith, ints)

some_met : (shown a b c : Bool) → (shown && ((a || b) || c)) ≡ true → (shown ≡ true) × ((a ≡ true) ⊎ ((b ≡ true) ⊎ (c ≡ true)))
some_met true true b c e = (refl, inl refl)
some_met true false true c e = (refl, inr (inl refl))
some_met true false false c e = (refl, inr (inr e))
some_met false a b c e = absurd (false≢true e)

-- carried pixels are on the screen
pub carried_within : (size : Sides) (before after : List WindowView) (slot : Option ℕ) (carried : CarriedPixels) → CarriesFor size before after slot carried.region carried.falling carried.by → All (IsWithin size) carried.region
carried_within size before after None carried none = subst (All (IsWithin size)) (sym none) (All-nil (IsWithin size))
carried_within size before after (Some s) carried is = is.within

pub covered_so : (size : Sides) (before after : List WindowView) (slot : Option ℕ) (cursor : Cursor) (carried : CarriedPixels) (bared : List Rect) (moved : Rect) → CarriesFor size before after slot carried.region carried.falling carried.by → All (IsWithin size) bared
    → ((s : ℕ) → slot ≡ Some s → moved ≡ shifted (minus (origin_of after s) (origin_of before s)) (place_of cursor))
    → (cursor.shown && ((any_meets (place_of cursor) carried.region || any_meets (place_of cursor) bared) || any_meets moved carried.region)) ≡ true → IsClear size cursor carried bared → ⊥
covered_so size before after slot cursor carried bared moved carries within moves some_one clear =
    let which = some_met cursor.shown (any_meets (place_of cursor) carried.region) (any_meets (place_of cursor) bared) (any_meets moved carried.region) some_one in
    ⊎_elim
    (λ (a : any_meets (place_of cursor) carried.region ≡ true). let h = hit size cursor carried.region (carried_within size before after slot carried carries) which.0 a in true≢false (sym h.held ∙ (clear h.pixel h.cell h.below h.lies_on).0))
    (λ (rest : (any_meets (place_of cursor) bared ≡ true) ⊎ (any_meets moved carried.region ≡ true)). ⊎_elim
    (λ (b : any_meets (place_of cursor) bared ≡ true). let h = hit size cursor bared within which.0 b in true≢false (sym h.held ∙ (clear h.pixel h.cell h.below h.lies_on).1))
    (λ (c : any_meets moved carried.region ≡ true). from_source slot carries moves which.0 c)
    rest)
    which.1
  where
    from_source : (o : Option ℕ) → CarriesFor size before after o carried.region carried.falling carried.by → ((s : ℕ) → o ≡ Some s → moved ≡ shifted (minus (origin_of after s) (origin_of before s)) (place_of cursor))
        → cursor.shown ≡ true → any_meets moved carried.region ≡ true → ⊥
    from_source None none moves shown meet = false≢true (sym (ap (λ (l : List Rect). any_meets moved l) none) ∙ meet)
    from_source (Some s) is moves shown meet =
        let d : Point = minus (origin_of after s) (origin_of before s) in
        let z = met_point moved carried.region meet in
        let at = at_pixel size z.0 (on_screen_in size carried.region z.0 is.within z.1) in
        let q : ℕ = at.pixel in
        let held : any_holds carried.region (point_of size.w q) ≡ true = subst (λ (p : Point). any_holds carried.region p ≡ true) (sym at.point) z.1 in
        let there : holds (shifted d (place_of cursor)) (point_of size.w q) ≡ true = subst (λ (p : Point). holds (shifted d (place_of cursor)) p ≡ true) (sym at.point) (subst (λ (r : Rect). holds r z.0 ≡ true) (moves s refl) z.2) in
        let from = source_point size before after s d carried.region carried.falling carried.by q is at.below held in
        let over = cell_over size cursor (source carried.falling carried.by q) shown (subst (λ (p : Point). holds (place_of cursor) p ≡ true) (sym from.1) (moved_back (place_of cursor) (point_of size.w q) d there)) in
        (clear (source carried.falling carried.by q) over.0 from.0 over.1).2 q at.below held refl

-- ---- what is judged

pub judged : (cursor k : Cursor) (carried bared l m n : List Rect) (place moved : Rect) (on_carried on_bared on_source : Bool) → k ≡ cursor → place ≡ place_of cursor → l ≡ carried → m ≡ bared → n ≡ carried
    → on_carried ≡ any_meets place l → on_bared ≡ any_meets place m → on_source ≡ any_meets moved n
    → (k.shown && ((on_carried || on_bared) || on_source)) ≡ (cursor.shown && ((any_meets (place_of cursor) carried || any_meets (place_of cursor) bared) || any_meets moved carried))
judged cursor k carried bared l m n place moved on_carried on_bared on_source same is_place is_l is_m is_n a b c =
    ap (λ (x : Cursor). x.shown && ((on_carried || on_bared) || on_source)) same
    ∙ ap (λ t. cursor.shown && ((t || on_bared) || on_source)) (a ∙ ap (λ (s : Rect). any_meets s l) is_place ∙ ap (λ (x : List Rect). any_meets (place_of cursor) x) is_l)
    ∙ ap (λ t. cursor.shown && ((any_meets (place_of cursor) carried || t) || on_source)) (b ∙ ap (λ (s : Rect). any_meets s m) is_place ∙ ap (λ (x : List Rect). any_meets (place_of cursor) x) is_m)
    ∙ ap (λ t. cursor.shown && ((any_meets (place_of cursor) carried || any_meets (place_of cursor) bared) || t)) (c ∙ ap (λ (x : List Rect). any_meets moved x) is_n)

-- the slot that a move carries is the command's
pub moved_same : (plan : PlanView) (slot : ℕ) (origin : Point) (s : ℕ) → plan.command ≡ Move slot origin → slot_carried plan ≡ Some s → slot ≡ s
moved_same plan slot origin s is moves = go (is_refused plan.reply) moves
  where
    go : (b : Bool) → (if b then None else moved_slot plan.command) ≡ Some s → slot ≡ s
    go true e = none_some s e
    go false e = some_is slot s (sym (ap moved_slot is) ∙ e)
