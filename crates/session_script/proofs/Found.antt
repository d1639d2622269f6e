-- What was found in the bytes of a script is what is kept of it.
use Rattle.std.proofs.Common.{◌≡◌, ℕ, List, Ok, ◌∙◌, ap, sym}
use Rattle.script_grammar.specs.Session.{Session, fonts_of, images_of}
use Rattle.script_grammar.specs.Reading.{script_of}
use Rattle.script_reader.specs.Heads.{head_of}
use Rattle.script_reader.specs.Places.{call_places}
use Rattle.script_reader.specs.declared.heads.Head.{Head}
use Rattle.script_reader.specs.declared.bodies.Body.{Body}
use Rattle.script_reader.specs.Bodies.{IsFound}
use Rattle.session_script.specs.Stored.{said_by, or_empty, IsFoundIn}

said_is : (bytes : List ℕ) (said : Session) → script_of bytes ≡ Ok said → said_by bytes ≡ said
unfolding said_by
said_is bytes said reads = ap or_empty reads

pub found_in : {bytes : List ℕ} {head : Head} {body : Body} → IsFound bytes head body → IsFoundIn bytes head body.fonts.items body.images.items body.places.items
found_in {bytes} found =
    let same = said_is bytes found.said found.reads in
    record {
      script = found.reads ∙ ap Ok (sym same);
      head = sym found.kept.same_head ∙ ap head_of (sym same);
      fonts = sym found.kept.same_fonts ∙ ap (λ (s : Session). fonts_of s.assets) (sym same);
      images = sym found.kept.same_images ∙ ap (λ (s : Session). images_of s.assets) (sym same);
      places = found.kept.places ∙ ap call_places (sym same);
    }
