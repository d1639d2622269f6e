-- Lists of pixels and of their colours that grow.
use Rattle.std.proofs.Common.{◌≡◌, ℕ, ◌+◌, ◌*◌, ◌<◌, List, [], ◌∷◌, ◌++◌, map, length, take, get_or, append-nil, append_assoc, sym, ap, ◌∙◌, nat_abs}
use Rattle.std.specs.List.{range_with_len}
use Rattle.std.proofs.lemmas.Grind.{flat_map-append}
use Rattle.std.proofs.lemmas.List.{map-append, take_more}
use Rattle.qws_base.specs.RectPixels.{rect_pixels, rects_pixels}
use Rattle.qws_base.specs.declared.points.Rect.{Rect}
use Rattle.qws_base.proofs.PixelRows.{range_more, rows_of, row_more}

pub stretch_more : (front old new : List ℕ) (first j x : ℕ) → old ≡ front ++ range_with_len first j → new ≡ old ++ x ∷ [] → x ≡ first + j → new ≡ front ++ range_with_len first (j + 1)
stretch_more front old new first j x is more x_is =
    more ∙ ap (λ l. l ++ x ∷ []) is ∙ append_assoc front (range_with_len first j) (x ∷ []) ∙ ap (λ n. front ++ (range_with_len first j ++ n ∷ [])) x_is ∙ ap (λ l. front ++ l) (sym (range_more first j))

pub rows_more : (width : ℕ) (r : Rect) (front old new : List ℕ) (i first : ℕ) → old ≡ front ++ rows_of width r i → new ≡ old ++ range_with_len first r.w → first ≡ (nat_abs r.y + i) * width + nat_abs r.x → new ≡ front ++ rows_of width r (i + 1)
rows_more width r front old new i first is more first_is =
    more ∙ ap (λ l. l ++ range_with_len first r.w) is ∙ append_assoc front (rows_of width r i) (range_with_len first r.w) ∙ ap (λ l. front ++ l) (sym (row_more width r i first first_is))

pub rects_more : (width : ℕ) (rects : List Rect) (front old new : List ℕ) (i : ℕ) (d : Rect) → i < length rects → old ≡ front ++ rects_pixels width (take i rects) → new ≡ old ++ rect_pixels width (get_or rects i d) → new ≡ front ++ rects_pixels width (take (i + 1) rects)
rects_more width rects front old new i d below is more =
    more ∙ ap (λ l. l ++ rect_pixels width (get_or rects i d)) is ∙ append_assoc front (rects_pixels width (take i rects)) (rect_pixels width (get_or rects i d))
    ∙ ap (λ l. front ++ (rects_pixels width (take i rects) ++ l)) (sym (append-nil (rect_pixels width (get_or rects i d))))
    ∙ ap (λ l. front ++ l) (sym (flat_map-append (rect_pixels width) (take i rects) (get_or rects i d ∷ [])) ∙ ap (rects_pixels width) (sym (take_more rects i d below)))

pub colours_more : (f g : ℕ → ℕ) (ps old new : List ℕ) (k d c : ℕ) → k < length ps → map f old ≡ map g (take k ps) → new ≡ old ++ c ∷ [] → f c ≡ g (get_or ps k d) → map f new ≡ map g (take (k + 1) ps)
colours_more f g ps old new k d c below is more c_is =
    ap (map f) more ∙ map-append f old (c ∷ []) ∙ ap (λ (l : List ℕ). l ++ f c ∷ []) is ∙ ap (λ (v : ℕ). map g (take k ps) ++ v ∷ []) c_is
    ∙ sym (map-append g (take k ps) (get_or ps k d ∷ [])) ∙ ap (map g) (sym (take_more ps k d below))
