-- What the reader of options holds, as options.
use Rattle.std.specs.Prelude.{List, [], ◌∷◌, map, string_bytes}
use Rattle.program_words.specs.declared.options.Given.{Given}
use Rattle.program_words.specs.declared.options.Three.{Three}
use Rattle.program_words.specs.Forms.{GivenOption}

abbrev pub option_of : Given → GivenOption
option_of g = record { name = g.name.now; value = g.value.now; rest = map string_bytes g.rest.now }

abbrev pub options_of : Three → List GivenOption
options_of t = option_of t.first ∷ option_of t.second ∷ option_of t.third ∷ []
