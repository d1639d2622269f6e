use Rattle.std.proofs.Common.{◌≡◌, ℕ, ◌<◌, List, length, map, take, get_or, set, sym, refl, ap, ◌∙◌, subst, arith}
use Rattle.std.proofs.lemmas.List.{get_or-map, get_or_default, length-map, take_all}
use Rattle.qws_base.specs.Colours.{scene_colour}
use Rattle.qws_base.specs.Points.{pixel_count}
use Rattle.pixel_model.specs.Drawn.{Drawn}
use Rattle.canvas_steps.specs.Laid.{laid}
use Rattle.canvas_steps.proofs.Laying.{laid_more}
use Rattle.canvas_steps.proofs.patches.lay_colours.Goals as goal

pub loop-k-init : goal.loop-k-init
loop-k-init c = refl

pub lay-requires : goal.lay-requires
lay-requires c =
    let test = c.loop-k-test.true in
    subst (λ (d : Drawn). get_or c.args.pixels.now c.loop-k.k 0 < pixel_count d.setting.size) (sym c.loop-k.invariant) (c.requires.pixels c.loop-k.k 0 (omega arith))

pub loop-k-preserved : goal.loop-k-preserved
loop-k-preserved c =
    let test = c.loop-k-test.true in
    let old : Drawn = c.args.canvas.now in
    let k : ℕ = c.loop-k.k in
    let ps : List ℕ = c.args.pixels.now in
    let f : ℕ → ℕ = scene_colour old.setting.depth in
    let vs : List ℕ = map f c.args.colours.now in
    let long : length vs ≡ length ps = length-map c.args.colours.now f ∙ c.requires.colours in
    let put : c.index-colours-k.result ≡ get_or c.args.colours.now k 0 = c.index-colours-k.is ∙ get_or_default c.args.colours.now k _ 0 (omega (arith, c.requires.colours)) in
    let on : Drawn → ℕ → Drawn = λ d v. record d { scene = set d.scene (get_or ps k 0) (scene_colour d.setting.depth v) } in
    c.lay.ensures ∙ ap (λ (d : Drawn). on d c.index-colours-k.result) c.loop-k.invariant ∙ ap (on (record old { scene = laid (take k ps) (take k vs) old.scene })) put
    ∙ ap (λ (v : ℕ). let d : Drawn = record old { scene = set (laid (take k ps) (take k vs) old.scene) (get_or ps k 0) v } in d) (sym (get_or-map f c.args.colours.now k 0 0 (omega (arith, c.requires.colours))))
    ∙ ap (λ (s : List ℕ). let d : Drawn = record old { scene = s } in d) (sym (laid_more ps vs old.scene k 0 0 (omega arith) long))

pub returns : goal.returns
returns c =
    let past = c.loop-k-test.false in
    let old : Drawn = c.args.canvas.now in
    let ps : List ℕ = c.args.pixels.now in
    let vs : List ℕ = map (scene_colour old.setting.depth) c.args.colours.now in
    let long : length vs ≡ length ps = length-map c.args.colours.now (scene_colour old.setting.depth) ∙ c.requires.colours in
    c.loop-k.invariant ∙ ap (λ (l : List ℕ). let d : Drawn = record old { scene = laid l (take c.loop-k.k vs) old.scene } in d) (take_all c.loop-k.k ps (omega arith))
    ∙ ap (λ (l : List ℕ). let d : Drawn = record old { scene = laid ps l old.scene } in d) (take_all c.loop-k.k vs (omega (arith, long)))
