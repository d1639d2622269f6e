-- The fonts and images that the lines made so far, and what one more line adds.
use Rattle.std.specs.Prelude.{ℕ, ◌≡◌, Bool, true, false, List, [], ◌∷◌, ◌++◌, Result, Ok, Err}
use Rattle.glyph_masks.specs.Glyphs.{FontView}
use Rattle.gfx_fills.specs.Images.{ImageView}
use Rattle.script_grammar.specs.Session.{Asset, with_asset, fonts_of, images_of}
use Rattle.script_grammar.specs.Judging.{◌or_else◌}
use Rattle.script_grammar.specs.Lines.{font_read, glyph_read, image_read, asset_read}
use Rattle.script_grammar.specs.declared.lines.Cause.{Cause}
use Rattle.script_grammar.specs.declared.lines.Cause.TheVariants.{Form, Number, Range, Unknown, Repeated, Missing, Many, End}

abbrev pub is_form : Cause → Bool
is_form Form = true
is_form Number = false
is_form Range = false
is_form Unknown = false
is_form Repeated = false
is_form Missing = false
is_form Many = false
is_form End = false

-- the lines made these fonts and images
pub record IsStockOf (fonts : List FontView) (images : List ImageView) (before : List Asset) : Type 0 where
  pub same_fonts : fonts ≡ fonts_of before
  pub same_images : images ≡ images_of before

pub record IsSomeStock (fonts : List FontView) (images : List ImageView) : Type 0 where
  pub before : List Asset
  pub is : IsStockOf fonts images before

-- a line behind these fonts and images
abbrev pub stock_read : List FontView → List ImageView → List (List ℕ) → Result Asset Cause
stock_read fonts images words = font_read fonts words or_else glyph_read fonts words or_else image_read images words

-- a line was judged, and it was added
pub record IsAdded (judged : Result Asset Cause) (fonts : List FontView) (images : List ImageView) (more_fonts : List FontView) (more_images : List ImageView) : Type 0 where
  pub asset : Asset
  pub read : judged ≡ Ok asset
  pub fonts_with : more_fonts ≡ with_asset fonts asset
  pub images_with : more_images ≡ images ++ images_of (asset ∷ [])

-- or it is bad, and nothing was
pub record IsRefused (judged : Result Asset Cause) (cause : Cause) (fonts : List FontView) (images : List ImageView) (more_fonts : List FontView) (more_images : List ImageView) : Type 0 where
  pub told : judged ≡ Err cause
  pub same_fonts : more_fonts ≡ fonts
  pub same_images : more_images ≡ images

abbrev pub AddedBy : {A : Type 0} → Result Asset Cause → List FontView → List ImageView → List FontView → List ImageView → Result A Cause → Type 0
AddedBy judged fonts images more_fonts more_images (Ok done) = IsAdded judged fonts images more_fonts more_images
AddedBy judged fonts images more_fonts more_images (Err cause) = IsRefused judged cause fonts images more_fonts more_images

-- what is added to the fonts and images of some lines are those of these lines and one more
abbrev pub AddsToStock : Type 0
AddsToStock = (before : List Asset) (words : List (List ℕ)) (fonts : List FontView) (images : List ImageView) → IsAdded (stock_read (fonts_of before) (images_of before) words) (fonts_of before) (images_of before) fonts images → (asset : Asset) × (asset_read before words ≡ Ok asset) × IsStockOf fonts images (before ++ asset ∷ [])

-- and a refused line is one that the grammar refuses, with its cause
abbrev pub RefusesLine : Type 0
RefusesLine = (before : List Asset) (words : List (List ℕ)) (cause : Cause) → stock_read (fonts_of before) (images_of before) words ≡ Err cause → asset_read before words ≡ Err cause
