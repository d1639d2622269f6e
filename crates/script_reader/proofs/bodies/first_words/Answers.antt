use Rattle.std.proofs.Common.{◌≡◌, ◌∙◌, sym, ap, subst, map, length, List, ℕ, Bor, Result, Err}
use Rattle.script_grammar.specs.Judging.{◌or_else◌}
use Rattle.script_grammar.specs.Reading.{Before, call_in}
use Rattle.script_grammar.specs.declared.lines.Cause.{Cause}
use Rattle.script_grammar.specs.declared.lines.Cause.TheVariants.{Form}
use Rattle.script_lines.specs.Counted.{IsCounted}
use Rattle.script_lines.specs.Stock.{stock_read, AddedBy}
use Rattle.script_reader.specs.Bodies.{unended_by_words}
use Rattle.script_reader.proofs.Behind.{none_yet, other_cause}
use Rattle.script_reader.proofs.Assets.{asset_added, asset_refused, judged_as, if_ok_more}
use Rattle.script_reader.proofs.bodies.first_words.Goals as goal

pub returns-in-Ok : goal.returns-in-Ok
returns-in-Ok c = λ said limits kept at.
    let body = c.args.body.now in
    let words = map (λ (w : Bor (List ℕ)). w.now) c.args.words.now in
    let none = none_yet said (ap length (sym kept.places) ∙ c.requires.no_calls) in
    let told = subst (λ r. AddedBy (stock_read body.fonts.items body.images.items words) body.fonts.items body.images.items c.next_asset.new.fonts.items c.next_asset.new.images.items r) c.in-Ok.is c.in_ok-read.ensures in
    let added = asset_added said words _ _ _ _ none kept.same_fonts kept.same_images told in (
      added.next,
      ap (λ (r : Result Before Cause). r or_else call_in said words) added.reads,
      record {
        same_head = added.same_head ∙ kept.same_head;
        same_fonts = added.with_fonts;
        same_images = added.with_images;
        counted = subst (λ calls. IsCounted body.counts calls) (sym added.same_calls) kept.counted;
        places = kept.places ∙ added.same_places;
      },
    )

pub returns-in-Form : goal.returns-in-Form
returns-in-Form c =
    let body = c.args.body.now in
    let words = map (λ (w : Bor (List ℕ)). w.now) c.args.words.now in
    let told = subst (λ r. AddedBy (stock_read body.fonts.items body.images.items words) body.fonts.items body.images.items c.next_asset.new.fonts.items c.next_asset.new.images.items r) (c.in-Err.is ∙ ap Err c.in-Form.is) c.in_ok-read.ensures in
    if_ok_more c.body_call.result _ _
    (λ read judges said limits kept at.
    let none = none_yet said (ap length (sym kept.places) ∙ c.requires.no_calls) in
    let refused = asset_refused said words _ _ Form none kept.same_fonts kept.same_images told.told in
    let same : call_in said words ≡ unended_by_words words said = sym (ap (λ (r : Result Before Cause). r or_else call_in said words) refused) in
    judged_as _ _ said _ _ read same
    (judges said limits (record { same_head = kept.same_head; same_fonts = kept.same_fonts ∙ sym told.same_fonts; same_images = kept.same_images ∙ sym told.same_images; counted = kept.counted; places = kept.places }) at))
    c.body_call.ensures

pub returns-in_default : goal.returns-in_default
returns-in_default c = λ said limits kept at.
    let body = c.args.body.now in
    let cause = c.in-Err.cause in
    let words = map (λ (w : Bor (List ℕ)). w.now) c.args.words.now in
    let none = none_yet said (ap length (sym kept.places) ∙ c.requires.no_calls) in
    let told = subst (λ r. AddedBy (stock_read body.fonts.items body.images.items words) body.fonts.items body.images.items c.next_asset.new.fonts.items c.next_asset.new.images.items r) c.in-Err.is c.in_ok-read.ensures in
    let refused = asset_refused said words _ _ cause none kept.same_fonts kept.same_images told.told in
    ap (λ (r : Result Before Cause). r or_else call_in said words) refused ∙ other_cause cause (call_in said words) c.in_default.not-Form
