-- Logs that grow item by item.
use Rattle.std.proofs.Common.{◌≡◌, List, [], ◌∷◌, ◌++◌, append_assoc, refl, ap, ◌∙◌, false}
use Rattle.qws_base.specs.Inks.{is_skip}
use Rattle.qws_base.specs.declared.inks.Ink.{Ink}
use Rattle.qws_base.specs.declared.inks.Ink.TheVariants.{Skip, Copy, Xor, And, Or, Blend}
use Rattle.turn_logs.specs.declared.items.Item.{Item}
use Rattle.fb_words.specs.declared.known.Client.{Client}
use Rattle.fb_words.specs.Clips.{log_in}
use Rattle.fb_words.specs.Steps.{after_item}
use Rattle.fb_words.specs.Views.{reading}
use Rattle.fb_words.proofs.Going.{item_logged}

pub one_item : (p q : Client) (i : Item) → q ≡ after_item p i → reading p ≡ 1 → log_in q.mode ≡ log_in p.mode ++ i ∷ []
one_item p q i is reads = ap (λ (x : Client). log_in x.mode) is ∙ item_logged p.mode i reads

pub three_items : (p q r s : Client) (i j k : Item) (log : List Item) → log_in p.mode ≡ log → log_in q.mode ≡ log_in p.mode ++ i ∷ [] → log_in r.mode ≡ log_in q.mode ++ j ∷ [] → log_in s.mode ≡ log_in r.mode ++ k ∷ []
    → log_in s.mode ≡ log ++ i ∷ j ∷ k ∷ []
three_items p q r s i j k log a b d e =
    e ∙ ap (λ l. l ++ k ∷ []) (d ∙ ap (λ l. l ++ j ∷ []) (b ∙ ap (λ l. l ++ i ∷ []) a)) ∙ ap (λ l. l ++ k ∷ []) (append_assoc log (i ∷ []) (j ∷ [])) ∙ append_assoc log (i ∷ j ∷ []) (k ∷ [])

pub not_skip : (ink : Ink) → (ink ≡ Skip → ⊥) → is_skip ink ≡ false
not_skip Skip other = absurd (other refl)
not_skip (Copy c) other = refl
not_skip (Xor c) other = refl
not_skip (And c) other = refl
not_skip (Or c) other = refl
not_skip (Blend c a) other = refl

pub three_logs : (a b d e : List Item) (i j k : Item) → b ≡ a ++ i ∷ [] → d ≡ b ++ j ∷ [] → e ≡ d ++ k ∷ [] → e ≡ a ++ i ∷ j ∷ k ∷ []
three_logs a b d e i j k x y z = z ∙ ap (λ l. l ++ k ∷ []) (y ∙ ap (λ l. l ++ j ∷ []) x ∙ append_assoc a (i ∷ []) (j ∷ [])) ∙ append_assoc a (i ∷ j ∷ []) (k ∷ [])
