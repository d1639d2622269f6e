use Rattle.std.proofs.Common.{◌∙◌, ℕ, List, sym, ap, map, ◌++◌, ◌∷◌, [], arith}
use Rattle.std.specs.List.{range_with_len}
use Rattle.std.proofs.lemmas.List.FromFn.{map-range_with_len_more}
use Rattle.qws_base.specs.Scenes.{Setting}
use Rattle.qws_base.specs.Shown.{shown_pixel}
use Rattle.pixel_model.proofs.shows.show.Goals as goal

pub loop-p-preserved : goal.loop-p-preserved
loop-p-preserved c =
    let setting : Setting = record { size = c.args.size; depth = c.args.depth; backdrop = 0 } in
    let f : ℕ → ℕ = shown_pixel setting c.args.cursor.now c.args.cells.now in
    c.in_ok-push.ensures.items
    ∙ ap (λ (l : List ℕ). l ++ c.shown_colour_at-colour.result ∷ []) c.loop-p.invariant
    ∙ ap (λ (v : ℕ). map f (range_with_len 0 c.loop-p.p) ++ v ∷ []) c.shown_colour_at-colour.ensures
    ∙ sym (map-range_with_len_more f 0 c.loop-p.p c.loop-p.p (omega arith))
