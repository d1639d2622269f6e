use Rattle.std.proofs.Common.{◌≡◌, ℕ, ◌∙◌, ap, subst, sym}
use Rattle.qws_base.specs.Sides.{IsScreen}
use Rattle.qws_base.specs.Colours.{IsSceneColour}
use Rattle.qws_base.specs.declared.colours.Depth.{Depth}
use Rattle.fb_words.proofs.Opening.{opens, long_opening, new_head}
use Rattle.fb_words.proofs.screen.Screen.new.Goals as goal

pub of_words-requires : goal.of_words-requires
of_words-requires c = let made = c.setting-setting.ensures.value in
    opens _ _ _ _ _ (c.as_slice.ensures.value ∙ c.in_ok-words.ensures)
    (c.w.ensures.value ∙ ap (λ s. s.size.w) (sym made)) (c.h.ensures.value ∙ ap (λ s. s.size.h) (sym made)) (c.from.ensures ∙ c.value.ensures.value ∙ ap (λ s. s.backdrop) c.setting.view_is)
    (subst IsScreen (ap (λ s. s.size) (sym made)) c.w.ensures.is_screen) (ap_colour (ap (λ s. s.depth) made) c.setting-setting.ensures.colour)
  where
    ap_colour : {d e : Depth} {v : ℕ} → d ≡ e → IsSceneColour e v → IsSceneColour d v
    ap_colour {v} same ok = subst (λ x. IsSceneColour x v) (sym same) ok

pub invariant_of-result : goal.invariant_of-result
invariant_of-result c = let made = c.setting-setting.ensures.value in (
  sym c.in_ok-table.ensures.5,
  c.in_ok-table.ensures.0 ∙ long_opening _ c.setting-setting.result _ _ _ (c.as_slice.ensures.value ∙ c.in_ok-words.ensures) (c.w.ensures.value ∙ ap (λ s. s.size.w) (sym made)) (c.h.ensures.value ∙ ap (λ s. s.size.h) (sym made)),
  c.in_ok-table.ensures.1,
)

pub returns-clause-head : goal.returns-clause-head
returns-clause-head c = new_head c.setting-setting.result _ _ _ _ c.in_ok-table.ensures.4 c.in_ok-table.ensures.2 c.setting-setting.ensures.value
