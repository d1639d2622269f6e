use Rattle.std.proofs.Common.{◌∙◌, ◌++◌, ◌∷◌, [], sym, ap, subst, map, length, arith, List, ℕ, Bor, Result}
use Rattle.script_grammar.specs.declared.lines.Cause.{Cause}
use Rattle.script_grammar.specs.declared.lines.CallLine.{CallLine}
use Rattle.script_lines.specs.Counted.{IsBehind, ReadBehind}
use Rattle.script_reader.specs.declared.places.LinePlace.{LinePlace}
use Rattle.script_reader.specs.declared.heads.Head.{Head}
use Rattle.script_reader.proofs.Behind.{call_ok, place_more}
use Rattle.script_reader.proofs.bodies.body_call.Goals as goal

pub returns-in_ok-push-in-Ok : goal.returns-in_ok-push-in-Ok
returns-in_ok-push-in-Ok c = λ said limits kept at.
    let body = c.args.body.now in
    let line = c.in-Ok.line in
    let paints = c.paints-paints.result in
    let words = map (λ (w : Bor (List ℕ)). w.now) c.args.words.now in
    let behind : IsBehind c.args.head.now.clients c.deref.result.now c.len-images.result body.counts said = record {
      same_clients = ap (λ (h : Head). h.clients) kept.same_head;
      same_fonts = kept.same_fonts ∙ sym c.deref.ensures.value;
      same_images = omega (arith, ap length kept.same_images, c.len-images.ensures, body.images.ok.0);
      counted = kept.counted;
    } in
    let read = subst (λ (r : Result CallLine Cause). ReadBehind said body.counts c.next_call.new.counts r words) c.in-Ok.is (c.in_ok-read.ensures said behind) in (
      record said { calls = said.calls ++ line ∷ [] },
      call_ok said words line read.0,
      record {
        same_head = kept.same_head;
        same_fonts = kept.same_fonts;
        same_images = kept.same_images;
        counted = read.1;
        places = c.in_ok-push-in-Ok.ensures.items
            ∙ ap (λ (p : List LinePlace). p ++ record { client = line.client; start = c.args.start; paints = paints } ∷ []) kept.places
            ∙ sym (place_more said line c.args.start paints at c.paints-paints.ensures);
      },
    )
