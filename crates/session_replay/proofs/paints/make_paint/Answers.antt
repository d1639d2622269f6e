use Rattle.std.proofs.Common.{◌≡◌, ℕ, List, Bool, true, length, cond, ap, sym, ◌∙◌, subst}
use Rattle.std.specs.List.{find}
use Rattle.std.specs.Option.{option_map}
use Rattle.qws_base.specs.Sides.{Sides}
use Rattle.qws_base.specs.Sheets.{Sheet}
use Rattle.qws_base.specs.Regions.{IsRegionOf}
use Rattle.qws_base.specs.Windows.{has_slot, is_own, origin_of, layout_of, allocated_points}
use Rattle.qws_base.specs.Scenes.{by_pixels, pixel_after_paint, inked}
use Rattle.qws_base.specs.declared.windows.WindowView.{WindowView}
use Rattle.qws_base.specs.declared.replies.PaintReply.{PaintReply}
use Rattle.qws_base.specs.declared.replies.PaintReply.TheVariants.{Painted, Gone}
use Rattle.pixel_model.specs.Drawn.{Drawn}
use Rattle.gfx_painters.specs.Paints.{paint_sheet}
use Rattle.session_replay.proofs.Painted.{own_slot, own_found, origin_is, region_within, painted_scene, painted_count}
use Rattle.session_replay.proofs.paints.make_paint.Goals as goal

pub returns-in_default-clause-scene : goal.returns-in_default-clause-scene
returns-in_default-clause-scene c =
    absurd (own_found c.windows-windows.result.now c.args.client c.args.slot (sym c.has_own.ensures ∙ c.if-not-has_own.false) (sym c.slot_origin.ensures.value ∙ c.in_default.is))

pub returns-in_default-clause-reply : goal.returns-in_default-clause-reply
returns-in_default-clause-reply c =
    absurd (own_found c.windows-windows.result.now c.args.client c.args.slot (sym c.has_own.ensures ∙ c.if-not-has_own.false) (sym c.slot_origin.ensures.value ∙ c.in_default.is))

pub region-requires : goal.region-requires
region-requires c =
    let ws : List WindowView = c.args.core.now.state.windows in
    let own : is_own ws c.args.client c.args.slot ≡ true =
    ap (λ (w : List WindowView). is_own w c.args.client c.args.slot) (sym c.windows-windows.ensures.windows) ∙ sym c.has_own.ensures ∙ c.if-not-has_own.false in
    own_slot ws c.args.client c.args.slot c.windows-windows.ensures.served.windows.each own

pub paint_plain-pixels-requires-clause-on_screen : goal.paint_plain-pixels-requires-clause-on_screen
paint_plain-pixels-requires-clause-on_screen c =
    let ws : List WindowView = c.args.core.now.state.windows in
    let is : IsRegionOf c.region.result.now (allocated_points c.args.canvas.now.setting.size ws c.args.slot) =
    subst (λ (s : Sides). IsRegionOf c.region.result.now (allocated_points s ws c.args.slot)) (sym c.requires.size) c.region.ensures in
    region_within c.args.canvas.now.setting.size ws c.args.slot c.region.result.now is

pub returns-clause-scene : goal.returns-clause-scene
returns-clause-scene c =
    let ws : List WindowView = c.args.core.now.state.windows in
    let setting = c.args.canvas.now.setting in
    let sheet : Sheet = paint_sheet c.args.paint.now in
    let own : is_own ws c.args.client c.args.slot ≡ true =
    ap (λ (w : List WindowView). is_own w c.args.client c.args.slot) (sym c.windows-windows.ensures.windows) ∙ sym c.has_own.ensures ∙ c.if-not-has_own.false in
    let is : IsRegionOf c.region.result.now (allocated_points setting.size ws c.args.slot) =
    subst (λ (s : Sides). IsRegionOf c.region.result.now (allocated_points s ws c.args.slot)) (sym c.requires.size) c.region.ensures in
    let at : c.in-Some.origin ≡ origin_of ws c.args.slot =
    origin_is ws c.args.slot c.in-Some.origin
    (ap (λ (w : List WindowView). option_map (λ (v : WindowView). v.origin) (find (has_slot c.args.slot) w)) (sym c.windows-windows.ensures.windows) ∙ sym c.in-Some.ensures.value) in
    ap (λ (d : Drawn). d.scene) c.paint_plain-pixels.ensures.canvas
    ∙ painted_scene setting ws c.args.slot c.region.result.now c.in-Some.origin sheet c.args.canvas.now.scene is at
    ∙ sym (ap (λ (b : Bool). cond b (by_pixels setting.size (pixel_after_paint setting (layout_of setting.size ws) c.args.slot sheet c.args.canvas.now.scene)) c.args.canvas.now.scene) own)

pub returns-clause-reply : goal.returns-clause-reply
returns-clause-reply c =
    let ws : List WindowView = c.args.core.now.state.windows in
    let size : Sides = c.args.canvas.now.setting.size in
    let sheet : Sheet = paint_sheet c.args.paint.now in
    let own : is_own ws c.args.client c.args.slot ≡ true =
    ap (λ (w : List WindowView). is_own w c.args.client c.args.slot) (sym c.windows-windows.ensures.windows) ∙ sym c.has_own.ensures ∙ c.if-not-has_own.false in
    let is : IsRegionOf c.region.result.now (allocated_points size ws c.args.slot) =
    subst (λ (s : Sides). IsRegionOf c.region.result.now (allocated_points s ws c.args.slot)) (sym c.requires.size) c.region.ensures in
    let at : c.in-Some.origin ≡ origin_of ws c.args.slot =
    origin_is ws c.args.slot c.in-Some.origin
    (ap (λ (w : List WindowView). option_map (λ (v : WindowView). v.origin) (find (has_slot c.args.slot) w)) (sym c.windows-windows.ensures.windows) ∙ sym c.in-Some.ensures.value) in
    let painted : ℕ → PaintReply = λ n. Painted n in
    let replied : Bool → PaintReply = λ b. cond b (Painted (length (inked size (layout_of size ws) c.args.slot sheet))) Gone in
    ap painted (c.paint_plain-pixels.ensures.count ∙ painted_count size ws c.args.slot c.region.result.now c.in-Some.origin sheet is at) ∙ sym (ap replied own)
