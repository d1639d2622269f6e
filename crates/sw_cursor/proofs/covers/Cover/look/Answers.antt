use Rattle.std.proofs.Common.{refl, sym, ap, ◌∙◌, arith}
use Rattle.qws_base.specs.Scenes.{Setting}
use Rattle.fb_words.specs.declared.known.Client.{Client}
use Rattle.fb_words.specs.Views.{ScreenView}
use Rattle.fb_words.proofs.Going.{none_looked, more_looked}
use Rattle.display_lock.specs.Turns.{client_in}
use Rattle.sw_cursor.proofs.Covered.{few_sides}
use Rattle.sw_cursor.proofs.covers.Cover.look.Goals as goal

pub overflow_cast-result-4 : goal.overflow_cast-result-4
overflow_cast-result-4 c = let few = few_sides (client_in c.look-shape.new.self) c.look-shape.result c.look-shape.ensures.present c.look-shape.ensures.found in
    let h = few.1 in omega arith

pub returns-clause-looks : goal.returns-clause-looks
returns-clause-looks c =
    let a = c.look-place.ensures in
    let b = c.look-shape.ensures in
    let p : Client = client_in c.args.turn.now in
    let one = more_looked 2 1028 p p (client_in c.look-place.new.self) 2 c.look-place.result (none_looked 2 1028 p) (omega arith, omega arith) a.pass a.owns a.away in
    more_looked 2 1028 p (client_in c.look-place.new.self) (client_in c.look-shape.new.self) 3 c.look-shape.result one (omega arith, omega arith) b.pass b.owns b.away

pub returns-clause-cover : goal.returns-clause-cover
returns-clause-cover c =
    let a = c.look-place.ensures in
    let b = c.look-shape.ensures in
    let few = few_sides (client_in c.look-shape.new.self) c.look-shape.result b.present b.found in
    record {
      depth_is = c.depth-depth.ensures ∙ ap (λ (s : ScreenView). s.setting.depth) c.screen.ensures
          ∙ sym (ap (λ (s : Setting). s.depth) (ap (λ (x : Client). x.setting) b.pass ∙ ap (λ (x : Client). x.setting) a.pass ∙ c.requires.open.3));
      place = c.look-place.result;
      place_found = b.stays _ _ a.found;
      x_is = refl;
      y_is = refl;
      shown_is = refl;
      shape = c.look-shape.result;
      shape_found = b.found;
      w_is = refl;
      h_is = refl;
      few_w = few.0;
      few_h = few.1;
    }
