-- What is kept of a script beside its bytes.
use Rattle.std.specs.Prelude.{ℕ, ◌≡◌, List, [], Result, Ok, Err}
use Rattle.qws_base.specs.declared.colours.Depth.TheVariants.{Full}
use Rattle.glyph_masks.specs.Glyphs.{FontView}
use Rattle.gfx_fills.specs.Images.{ImageView}
use Rattle.script_grammar.specs.Session.{Session, fonts_of, images_of}
use Rattle.script_grammar.specs.Reading.{script_of}
use Rattle.script_grammar.specs.declared.lines.Cause.{Cause}
use Rattle.script_reader.specs.Places.{call_places}
use Rattle.script_reader.specs.declared.places.LinePlace.{LinePlace}
use Rattle.script_reader.specs.declared.heads.Head.{Head}
use Rattle.script_reader.specs.Heads.{head_of}

-- the session that was read, or one that says nothing
abbrev pub or_empty : Result Session (ℕ × Cause) → Session
or_empty (Ok said) = said
or_empty (Err bad) = record { depth = Full; size = record { w = 1; h = 1 }; backdrop = 0; clients = 0; assets = []; calls = [] }

-- what bytes say
unfoldable pub said_by : List ℕ → Session
said_by bytes = or_empty (script_of bytes)

-- what is found in bytes that are a script: the head, the fonts, the images and the places of its calls
pub record IsFoundIn (bytes : List ℕ) (heading : Head) (some_fonts : List FontView) (some_images : List ImageView) (line_places : List LinePlace) : Type 0 where
  pub script : script_of bytes ≡ Ok (said_by bytes)
  pub head : heading ≡ head_of (said_by bytes)
  pub fonts : some_fonts ≡ fonts_of (said_by bytes).assets
  pub images : some_images ≡ images_of (said_by bytes).assets
  pub places : line_places ≡ call_places (said_by bytes)
