-- A line of a form has few words, and none of them is empty.
use Rattle.std.specs.Prelude.{ℕ, ◌≡◌, ◌<◌, ◌≤◌, ◌⊎◌, true, false, List, length, Err, ⊤}
use Rattle.std.specs.List.{list_any}
use Rattle.script_grammar.specs.Session.{fonts_of, latest}
use Rattle.script_grammar.specs.Spelling.{words_of}
use Rattle.script_grammar.specs.Reading.{Before, Nothing, Deep, Sized, Within, Finished, is_blank, by_words}
use Rattle.script_grammar.specs.declared.lines.Cause.TheVariants.{Form}

-- a word is empty, or there are more than 300
abbrev pub IsOddText : List ℕ → Type 0
IsOddText text = (list_any is_blank (words_of text) ≡ true) ⊎ (300 < length (words_of text))

-- these are the words of a line, at most 300, and none is empty
pub record IsWordsOf (text : List ℕ) (words : List (List ℕ)) : Type 0 where
  pub same : words ≡ words_of text
  pub filled : list_any is_blank words ≡ false
  pub few : length words ≤ 300

-- lines may follow, and the latest font is one: it has at most 32 rows
abbrev pub IsOpen : Before → Type 0
IsOpen Nothing = ⊤
IsOpen (Deep depth) = ⊤
IsOpen (Sized depth size backdrop) = ⊤
IsOpen (Within said) = (latest (fonts_of said.assets)).height ≤ 32
IsOpen (Finished said) = ⊥

abbrev pub ManyWords : Type 0
ManyWords = (before : Before) (text : List ℕ) → IsOpen before → IsOddText text → by_words before text ≡ Err Form
