use Rattle.std.proofs.Common.{◌≡◌, ◌∙◌, ℕ, List, ap, string_bytes}
use Rattle.qws_base.specs.declared.points.Point.{Point}
use Rattle.qws_base.specs.declared.inks.Ink.TheVariants.{Xor}
use Rattle.script_grammar.specs.declared.lines.Window.TheVariants.{Named}
use Rattle.script_grammar.specs.declared.lines.LineCall.TheVariants.{Polygon}
use Rattle.session_maker.specs.Places.{points_of}
use Rattle.session_maker.specs.Kinds.{name, colour_drawn, corners_drawn, polygon_drawn}
use Rattle.session_maker.specs.Made.{line_text, call_text}
use Rattle.session_maker.proofs.LineTexts.{same_text}
use Rattle.session_maker.proofs.kinds.polygon_line.Goals as goal

pub returns-clause-text : goal.returns-clause-text
returns-clause-text c =
    let x : ℕ = c.args.draws.now.state in
    let named : c.window_name.result.now ≡ name c.args.window = c.window_name.ensures in
    let coloured : c.colour-c.result ≡ colour_drawn x 0 = c.colour-c.ensures.colour in
    let placed : points_of c.corners-corners.result ≡ corners_drawn x 1 =
    c.corners-corners.ensures.corners ∙ ap (λ (y : ℕ). corners_drawn y 0) c.colour-c.ensures.state in
    let line : List ℕ → ℕ → List Point → List ℕ = λ n k ps. line_text c.args.client (Polygon (Named n) (Xor k) ps) in
    let same : line c.window_name.result.now c.colour-c.result (points_of c.corners-corners.result) ≡ line (name c.args.window) (colour_drawn x 0) (corners_drawn x 1) =
    (λ i. line (named i) (coloured i) (placed i)) in
    same_text c.polygon_text.result string_bytes (line c.window_name.result.now c.colour-c.result (points_of c.corners-corners.result)) (call_text c.args.client (polygon_drawn c.args.window x)) c.polygon_text.ensures same
