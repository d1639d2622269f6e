-- A turn that redraws the framebuffer carries its step.
use Rattle.std.proofs.Common.{◌≡◌, List, ◌++◌, append_assoc, sym, ap, ◌∙◌, subst}
use Rattle.turn_logs.specs.declared.items.Item.{Item}
use Rattle.turn_logs.specs.Carries.{CarriesStep}
use Rattle.turn_logs.specs.Phases.{PhaseLaw, CellsLaw, IsTrueLog, lift_items, drop_items}
use Rattle.scene_turns.specs.Changes.{ChangeLaw}
use Rattle.desk_turns.specs.Redraws.{RedrawnLaw}

pub redrawn_law : PhaseLaw → CellsLaw → ChangeLaw → RedrawnLaw
redrawn_law phases cells changes setting before after command reply falling by carried bared log old new asked redraws holds =
    let first : List Item = lift_items setting.size before.cursor redraws.lifted in
    let last : List Item = drop_items setting.depth setting.size after.cursor redraws.dropped in
    subst (CarriesStep setting before after command reply) (sym redraws.log)
    (phases setting before after command reply first (redraws.moved ++ redraws.filled) last redraws.lifted redraws.dropped
    (cells.lifts setting.size before.cursor redraws.lifted old)
    (changes setting before after command reply falling by carried bared redraws.moved redraws.filled redraws.carries redraws.fills asked)
    (cells.drops setting.depth setting.size after.cursor redraws.dropped new)
    (subst IsTrueLog redraws.log holds))

-- four logs one after the other
pub four_parts : (a b d e f x y z w : List Item) → b ≡ a ++ x → d ≡ b ++ y → e ≡ d ++ z → f ≡ e ++ w → f ≡ a ++ (x ++ ((y ++ z) ++ w))
four_parts a b d e f x y z w one two three four =
    four ∙ ap (λ l. l ++ w) (three ∙ ap (λ l. l ++ z) (two ∙ ap (λ l. l ++ y) one))
    ∙ ap (λ l. l ++ w) (append_assoc (a ++ x) y z) ∙ append_assoc (a ++ x) (y ++ z) w ∙ append_assoc a x ((y ++ z) ++ w)
