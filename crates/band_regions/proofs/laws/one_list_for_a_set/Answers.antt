use Rattle.band_regions.proofs.Lemmas.{sym, ap, ◌∙◌, any_holds, same_on_screen, same_lists}
use Rattle.qws_base.proofs.PixelLemmas.{same_everywhere}
use Rattle.band_regions.proofs.laws.one_list_for_a_set.Goals as goal

pub returns-clause-lists : goal.returns-clause-lists
returns-clause-lists c = λ size xs ys set other on off r s same. same_lists xs ys r.canonical s.canonical (λ p. r.points p ∙ same_on_screen size set other on off same p ∙ sym (s.points p))

pub returns-clause-pixels : goal.returns-clause-pixels
returns-clause-pixels c = λ size xs ys set other r s e. same_everywhere size set other (λ p. sym (r.points p) ∙ ap (λ zs. any_holds zs p) e ∙ s.points p)
