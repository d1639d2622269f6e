use Rattle.std.proofs.Common.{◌∙◌, ap, length, List}
use Rattle.std.specs.List.{filter}
use Rattle.script_grammar.specs.Session.{Session, paint_count}
use Rattle.script_reader.specs.Places.{calls_start, is_place_by}
use Rattle.session_script.specs.Stored.{said_by}
use Rattle.script_reader.specs.declared.places.LinePlace.{LinePlace}
use Rattle.script_reader.proofs.Counts.{paints_counted}
use Rattle.session_script.proofs.script.Script.paints.Goals as goal

pub returns : goal.returns
returns c =
    let said = said_by c.self.inside.bytes.items in
    c.paint_places.ensures
    ∙ ap (λ (ps : List LinePlace). length (filter (λ (p : LinePlace). p.paints) (filter (is_place_by c.args.client) ps))) (c.deref.ensures.value ∙ c.self.invariant.0.places)
    ∙ paints_counted c.args.client (calls_start said) said.calls
    ∙ ap (λ (v : Session). paint_count v c.args.client) c.self.view_is
