-- The items of a sheet on the pixels of a slot carry its paint.
use Rattle.std.proofs.Common.{◌≡◌, ◌≢◌, ℕ, zero, suc, ◌+◌, ◌<◌, ◌≤◌, ◌==◌, ◌*◌, ◌/◌, ◌%◌, ◌⊎◌, cond, eq-eqb, ne_eqb, if◌then◌else◌, Bool, true, false, not, ◌&&◌, List, [], ◌∷◌, ◌++◌, length, append-nil, sym, refl, ap, ◌∙◌, subst, arith, Option, Some, None}
use Rattle.std.specs.List.{flat_map}
use mathlib.Core.Option.{some, some-injective, some-ne-none}
use mathlib.Core.Logic.{dite}
use native.Mathlib.Decide.{ℕ_discrete}
use lib.ListN.{get_elem?}
use Rattle.std.proofs.lemmas.Nat.{div-add-mod'}
use Rattle.qws_base.specs.Points.{pixel_count}
use Rattle.qws_base.specs.Inks.{ink_after, is_skip}
use Rattle.qws_base.specs.Windows.{owns}
use Rattle.qws_base.specs.Sheets.{Sheet}
use Rattle.qws_base.specs.Scenes.{Setting, ink_on, has_ink}
use Rattle.qws_base.specs.declared.points.Point.{Point}
use Rattle.qws_base.specs.declared.inks.Ink.{Ink}
use Rattle.qws_base.specs.declared.windows.Cursor.{Cursor}
use Rattle.qws_base.specs.declared.replies.PaintReply.TheVariants.{Painted}
use Rattle.region_table.specs.Numbers.{pixel_word, saved_word}
use Rattle.turn_logs.specs.declared.items.Item.{Item}
use Rattle.turn_logs.specs.declared.items.Item.TheVariants.{Pick, Put}
use Rattle.turn_logs.specs.Lines.{on}
use Rattle.turn_logs.specs.Carries.{FirstPicks, last_put, ShownCell, shown_cell, scene_word, under_cell, PixelCarried, CarriesPaint}
use Rattle.turn_logs.specs.Pixels.{ink_items, pixel_items, AreToPaint, PixelsLaw}
use Rattle.qws_base.proofs.CountLemmas.{counted}
use Rattle.turn_logs.proofs.Joining.{on_joined, joined_none}
use Rattle.turn_logs.proofs.Lifting.{on_yes, on_no, Lies, lies}

-- one item of a list has a piece
one_of : {A B : Type 0} (f : A → List B) (l : List A) (k : ℕ) (a : A) → get_elem? l k ≡ some a → ((j : ℕ) (b : A) → get_elem? l j ≡ some b → j ≢ k → f b ≡ []) → flat_map f l ≡ f a
one_of f [] k a at none = absurd (some-ne-none a (sym at))
one_of f (x ∷ l) zero a at none = ap (λ t. f x ++ t) (joined_none f l (λ j b e. none (suc j) b e (λ same. absurd (omega arith)))) ∙ append-nil (f x) ∙ ap f (some-injective x a at)
one_of f (x ∷ l) (suc k) a at none = ap (λ t. t ++ flat_map f l) (none 0 x refl (λ same. absurd (omega arith))) ∙ one_of f l k a at (λ j b e away. none (suc j) b e (λ same. away (omega arith)))

module _ (setting : Setting) (cursor : Cursor) (few_w : cursor.w ≤ 32) (few_h : cursor.h ≤ 32) where
  abbrev cell : ℕ → Option ShownCell
  cell p = shown_cell setting.size cursor p

  on_it : (p : ℕ) (c : ShownCell) → cell p ≡ Some c → Lies cursor.x cursor.y cursor.w cursor.h (p % setting.size.w) (p / setting.size.w) cursor.shown (Rattle.qws_base.specs.Shown.cell_at cursor) c
  on_it p c is = lies cursor.x cursor.y cursor.w cursor.h (p % setting.size.w) (p / setting.size.w) cursor.shown (Rattle.qws_base.specs.Shown.cell_at cursor) c is

  -- one cell lies on one pixel
  same_pixel : (p q : ℕ) (c d : ShownCell) → cell p ≡ Some c → cell q ≡ Some d → c.column ≡ d.column → c.row ≡ d.row → p ≡ q
  same_pixel p q c d is_c is_d columns rows =
      let a = on_it p c is_c in let b = on_it q d is_d in
      let across : p % setting.size.w ≡ q % setting.size.w = a.column_at ∙ ap (λ k. cursor.x + k) columns ∙ sym b.column_at in
      let along : p / setting.size.w ≡ q / setting.size.w = a.row_at ∙ ap (λ k. cursor.y + k) rows ∙ sym b.row_at in
      sym (div-add-mod' p setting.size.w) ∙ ap (λ k. k * setting.size.w + p % setting.size.w) along ∙ ap (λ k. q / setting.size.w * setting.size.w + k) across ∙ div-add-mod' q setting.size.w

  -- the words of a pixel are of no other
  away_pixel : (p q : ℕ) (found : Option ShownCell) (ink : Ink) (v : ℕ) → cell q ≡ found → q ≢ p → on (pixel_word p) (ink_items setting.depth q found ink v) ≡ []
  away_pixel p q None ink v is ne = on_no (pixel_word p) (Pick (pixel_word q) v) (Put (pixel_word q) (ink_after setting.depth ink v) ∷ []) (λ same. ne (omega arith)) ∙ on_no (pixel_word p) (Put (pixel_word q) (ink_after setting.depth ink v)) [] (λ same. ne (omega arith))
  away_pixel p q (Some c) ink v is ne = let a = (on_it q c is).column_in in let b = (on_it q c is).row_in in let s : ℕ = saved_word c.column c.row in let over : Item = Put (pixel_word q) (under_cell setting.depth (Some c) (ink_after setting.depth ink v)) in
      on_no (pixel_word p) (Pick s v) (Put s (ink_after setting.depth ink v) ∷ over ∷ []) (λ same. absurd (omega arith))
      ∙ on_no (pixel_word p) (Put s (ink_after setting.depth ink v)) (over ∷ []) (λ same. absurd (omega arith)) ∙ on_no (pixel_word p) over [] (λ same. ne (omega arith))

  away_saved : (p q : ℕ) (mine : ShownCell) (found : Option ShownCell) (ink : Ink) (v : ℕ) → cell p ≡ Some mine → cell q ≡ found → q ≢ p → on (saved_word mine.column mine.row) (ink_items setting.depth q found ink v) ≡ []
  away_saved p q mine None ink v at is ne = let a = (on_it p mine at).column_in in let b = (on_it p mine at).row_in in let x : ℕ = saved_word mine.column mine.row in
      on_no x (Pick (pixel_word q) v) (Put (pixel_word q) (ink_after setting.depth ink v) ∷ []) (λ same. absurd (omega arith)) ∙ on_no x (Put (pixel_word q) (ink_after setting.depth ink v)) [] (λ same. absurd (omega arith))
  away_saved p q mine (Some c) ink v at is ne = let a = (on_it p mine at).column_in in let b = (on_it p mine at).row_in in let e = (on_it q c is).column_in in let d = (on_it q c is).row_in in
      let x : ℕ = saved_word mine.column mine.row in let s : ℕ = saved_word c.column c.row in let over : Item = Put (pixel_word q) (under_cell setting.depth (Some c) (ink_after setting.depth ink v)) in
      let apart : s ≢ x = (λ same. ne (same_pixel q p c mine is at (omega arith) (omega arith))) in
      on_no x (Pick s v) (Put s (ink_after setting.depth ink v) ∷ over ∷ []) apart ∙ on_no x (Put s (ink_after setting.depth ink v)) (over ∷ []) apart ∙ on_no x over [] (λ same. absurd (omega arith))

  away : (p q : ℕ) (found mine : Option ShownCell) (ink : Ink) (v : ℕ) → cell p ≡ mine → cell q ≡ found → q ≢ p
      → (on (scene_word p mine) (ink_items setting.depth q found ink v) ≡ []) × (on (pixel_word p) (ink_items setting.depth q found ink v) ≡ [])
  away p q found None ink v at is ne = (away_pixel p q found ink v is ne, away_pixel p q found ink v is ne)
  away p q found (Some c) ink v at is ne = (away_saved p q c found ink v at is ne, away_pixel p q found ink v is ne)

  -- the items of an ink on its pixel carry it
  carries_ink : (p v : ℕ) (found : Option ShownCell) (ink : Ink) → cell p ≡ found
      → FirstPicks v (on (scene_word p found) (ink_items setting.depth p found ink v)) × (last_put (on (scene_word p found) (ink_items setting.depth p found ink v)) ≡ Some (ink_after setting.depth ink v))
      × (last_put (on (pixel_word p) (ink_items setting.depth p found ink v)) ≡ Some (under_cell setting.depth found (ink_after setting.depth ink v)))
  carries_ink p v None ink is = let x : ℕ = pixel_word p in let w : ℕ = ink_after setting.depth ink v in
      let all : on x (Pick x v ∷ Put x w ∷ []) ≡ Pick x v ∷ Put x w ∷ [] = on_yes x (Pick x v) (Put x w ∷ []) refl ∙ ap (λ l. Pick x v ∷ l) (on_yes x (Put x w) [] refl) in
      (subst (FirstPicks v) (sym all) refl, ap last_put all, ap last_put all)
  carries_ink p v (Some c) ink is = let a = (on_it p c is).column_in in let b = (on_it p c is).row_in in
      let x : ℕ = saved_word c.column c.row in let y : ℕ = pixel_word p in let w : ℕ = ink_after setting.depth ink v in let over : Item = Put y (under_cell setting.depth (Some c) w) in
      let all : on x (Pick x v ∷ Put x w ∷ over ∷ []) ≡ Pick x v ∷ Put x w ∷ [] =
      on_yes x (Pick x v) (Put x w ∷ over ∷ []) refl ∙ ap (λ l. Pick x v ∷ l) (on_yes x (Put x w) (over ∷ []) refl ∙ ap (λ l. Put x w ∷ l) (on_no x over [] (λ same. absurd (omega arith)))) in
      let top : on y (Pick x v ∷ Put x w ∷ over ∷ []) ≡ over ∷ [] =
      on_no y (Pick x v) (Put x w ∷ over ∷ []) (λ same. absurd (omega arith)) ∙ on_no y (Put x w) (over ∷ []) (λ same. absurd (omega arith)) ∙ on_yes y over [] refl in
      (subst (FirstPicks v) (sym all) refl, ap last_put all, ap last_put top)

  module _ (mine : ℕ → Bool) (origin : Point) (sheet : Sheet) (v : ℕ → ℕ) (ps : List ℕ) (are : AreToPaint setting.size mine (has_ink setting.size.w origin sheet) ps) where
    abbrev ink : ℕ → Ink
    ink p = ink_on setting.size.w origin sheet p

    abbrev items : ℕ → List Item
    items p = pixel_items setting cursor origin sheet v p

    abbrev log : List Item
    log = flat_map items ps

    -- another pixel's items are on no word of this one
    else_none : (p q : ℕ) → q ≢ p → (on (scene_word p (cell p)) (items q) ≡ []) × (on (pixel_word p) (items q) ≡ [])
    else_none p q ne = go (is_skip (ink q))
      where
        go : (b : Bool) → (on (scene_word p (cell p)) (if b then [] else ink_items setting.depth q (cell q) (ink q) (v q)) ≡ []) × (on (pixel_word p) (if b then [] else ink_items setting.depth q (cell q) (ink q) (v q)) ≡ [])
        go true = (refl, refl)
        go false = away p q (cell q) (cell p) (ink q) (v q) refl refl ne

    all_none : (p : ℕ) → items p ≡ [] ⊎ (mine p ≡ false) → (on (scene_word p (cell p)) log ≡ []) × (on (pixel_word p) log ≡ [])
    all_none p why = (
      on_joined (scene_word p (cell p)) items ps ∙ joined_none (λ q. on (scene_word p (cell p)) (items q)) ps (λ k q at. (each k q at).0),
      on_joined (pixel_word p) items ps ∙ joined_none (λ q. on (pixel_word p) (items q)) ps (λ k q at. (each k q at).1),
    )
      where
        each : (k q : ℕ) → get_elem? ps k ≡ some q → (on (scene_word p (cell p)) (items q) ≡ []) × (on (pixel_word p) (items q) ≡ [])
        each k q at = dite (ℕ_discrete q p)
            (λ (eq : q ≡ p). Rattle.std.proofs.Common.⊎_elim
            (λ (none : items p ≡ []). let e : items q ≡ [] = ap items eq ∙ none in (ap (on (scene_word p (cell p))) e, ap (on (pixel_word p)) e))
            (λ (not_mine : mine p ≡ false). absurd (let m : mine p ≡ true = ap mine (sym eq) ∙ (are.each k q at).1 in cc))
            why)
            (λ (ne : q ≢ p). else_none p q ne)

    one_has : (p : ℕ) → p < pixel_count setting.size → mine p ≡ true → has_ink setting.size.w origin sheet p ≡ true → (on (scene_word p (cell p)) log ≡ on (scene_word p (cell p)) (items p)) × (on (pixel_word p) log ≡ on (pixel_word p) (items p))
    one_has p within is inked = let at = are.all p within is inked in
        let apart : (j q : ℕ) → get_elem? ps j ≡ some q → j ≢ at.0 → q ≢ p = (λ j q at_q ne same. ne (are.once j at.0 p (at_q ∙ ap (λ (k : ℕ). some k) same) at.1)) in (
          on_joined (scene_word p (cell p)) items ps ∙ one_of (λ q. on (scene_word p (cell p)) (items q)) ps at.0 p at.1 (λ j q at_q ne. (else_none p q (apart j q at_q ne)).0),
          on_joined (pixel_word p) items ps ∙ one_of (λ q. on (pixel_word p) (items q)) ps at.0 p at.1 (λ j q at_q ne. (else_none p q (apart j q at_q ne)).1),
        )

    pixel : (p : ℕ) → p < pixel_count setting.size → (m s : Bool) → mine p ≡ m → is_skip (ink p) ≡ s → PixelCarried setting.depth log p (cell p) (ink p) (m && not s)
    pixel p within false s is skip = let none = all_none p (Rattle.std.proofs.Common.inr is) in (ap last_put none.0, ap last_put none.1)
    pixel p within true true is skip = let none = all_none p (Rattle.std.proofs.Common.inl (ap (λ b. if b then [] else ink_items setting.depth p (cell p) (ink p) (v p)) skip)) in (ap last_put none.0, ap last_put none.1)
    pixel p within true false is skip =
        let has = one_has p within is (ap not skip) in
        let here : items p ≡ ink_items setting.depth p (cell p) (ink p) (v p) = ap (λ b. if b then [] else ink_items setting.depth p (cell p) (ink p) (v p)) skip in
        let carries = carries_ink p (v p) (cell p) (ink p) refl in
        let a = has.0 ∙ ap (on (scene_word p (cell p))) here in let b = has.1 ∙ ap (on (pixel_word p)) here in
        (v p, subst (FirstPicks (v p)) (sym a) carries.0, ap last_put a ∙ carries.1, ap last_put b ∙ carries.2)

    paint_carried : (count : ℕ) → CarriesPaint setting cursor mine origin sheet (Painted count) log
    paint_carried count = record { pixels = λ p within. pixel p within (mine p) (is_skip (ink p)) refl refl }

pub pixels_law : PixelsLaw
pixels_law = record {
  carried = λ setting cursor mine origin sheet count v ps few_w few_h are. paint_carried setting cursor few_w few_h mine origin sheet v ps are count;
  counted = λ size layout slot sheet ps are. counted (pixel_count size) (owns layout slot) (has_ink size.w (layout.origin slot) sheet) ps are.each are.all are.once;
}
