use Rattle.std.proofs.Common.{◌≡◌, ◌<◌, ◌∙◌, [], refl, sym, ap, subst, arith, length, List, Some}
use Rattle.std.specs.Prelude.{slice_get}
use Rattle.std.specs.Option.{option_map}
use Rattle.std.proofs.lemmas.Option.{slice_get_read}
use Rattle.script_grammar.specs.Session.{Session}
use Rattle.script_grammar.specs.declared.lines.CallLine.{CallLine}
use Rattle.script_reader.specs.Places.{calls_start}
use Rattle.session_script.specs.Stored.{said_by}
use Rattle.script_reader.specs.declared.places.LinePlace.{LinePlace}
use Rattle.script_reader.proofs.Counts.{length-places, client_at}
use Rattle.session_script.proofs.Kept.{limits, below_at}
use Rattle.session_script.proofs.script.Script.client_of.Goals as goal

pub index-requires : goal.index-requires
index-requires c =
    let s = c.self.inside in
    let said = said_by s.bytes.items in
    omega (arith, c.requires, s.places.ok.0, ap length c.self.invariant.0.places, length-places (calls_start said) said.calls, ap (λ (v : Session). length v.calls) c.self.view_is)

pub returns-clause-client : goal.returns-clause-client
returns-clause-client c =
    let s = c.self.inside in
    let said = said_by s.bytes.items in
    let j = c.args.j in
    let small : j < length s.places.items = omega (arith, c.requires, ap length c.self.invariant.0.places, length-places (calls_start said) said.calls, ap (λ (v : Session). length v.calls) c.self.view_is) in
    let got : slice_get s.places.items j ≡ Some c.index.result.now = slice_get_read s.places.items _ j c.index.result.now refl small c.index.ensures in
    sym (ap (λ (v : Session). option_map (λ (l : CallLine). l.client) (slice_get v.calls j)) c.self.view_is)
    ∙ sym (client_at (calls_start said) j said.calls)
    ∙ sym (ap (λ (p : List LinePlace). option_map (λ (q : LinePlace). q.client) (slice_get p j)) c.self.invariant.0.places)
    ∙ ap (option_map (λ (q : LinePlace). q.client)) got

pub returns-clause-below : goal.returns-clause-below
returns-clause-below c =
    let s = c.self.inside in
    let said = said_by s.bytes.items in
    let j = c.args.j in
    let small : j < length s.places.items = omega (arith, c.requires, ap length c.self.invariant.0.places, length-places (calls_start said) said.calls, ap (λ (v : Session). length v.calls) c.self.view_is) in
    let got : slice_get s.places.items j ≡ Some c.index.result.now = slice_get_read s.places.items _ j c.index.result.now refl small c.index.ensures in
    subst (λ (v : Session). c.index.result.now.client < v.clients) c.self.view_is
    (below_at said.clients c.index.result.now.client j said.assets [] said.calls (limits c.self.invariant.0).calls
    (sym (client_at (calls_start said) j said.calls)
    ∙ sym (ap (λ (p : List LinePlace). option_map (λ (q : LinePlace). q.client) (slice_get p j)) c.self.invariant.0.places)
    ∙ ap (option_map (λ (q : LinePlace). q.client)) got))
