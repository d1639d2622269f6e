-- Where the lines of calls begin among the bytes of a script.
use Rattle.std.specs.Prelude.{ℕ, ◌+◌, Bool, ◌==◌, List, [], ◌∷◌, ◌++◌, map, length}
use Rattle.std.specs.List.{filter, flat_map, range_with_len}
use Rattle.script_grammar.specs.Session.{Session, is_paint}
use Rattle.script_grammar.specs.Printing.{head_lines, asset_words, line_words, ended_line}
use Rattle.script_grammar.specs.declared.lines.CallLine.{CallLine}
use Rattle.script_reader.specs.declared.places.LinePlace.{LinePlace}

-- the places of lines that follow each other, the first of them beginning there
abbrev pub places_from : ℕ → List CallLine → List LinePlace
places_from start [] = []
places_from start (line ∷ lines) = record { client = line.client; start = start; paints = is_paint line.call } ∷ places_from (start + length (ended_line (line_words line))) lines

-- the first call begins behind the head, the fonts and the images
abbrev pub calls_start : Session → ℕ
calls_start said = length (flat_map ended_line (head_lines said ++ map asset_words said.assets))

abbrev pub call_places : Session → List LinePlace
call_places said = places_from (calls_start said) said.calls

-- the starts of a client's lines
abbrev pub is_place_by : ℕ → LinePlace → Bool
is_place_by client place = place.client == client

abbrev pub starts_by : List LinePlace → ℕ → List ℕ
starts_by places client = map (λ place. place.start) (filter (is_place_by client) places)

-- client by client
abbrev pub starts_of : ℕ → List LinePlace → List (List ℕ)
starts_of clients places = map (starts_by places) (range_with_len 0 clients)
