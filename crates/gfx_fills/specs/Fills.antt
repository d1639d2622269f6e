-- What a fill shows.
use Rattle.qws_base.specs.declared.points.Rect.{Rect}
use Rattle.qws_base.specs.declared.inks.Ink.{Ink}
use Rattle.qws_base.specs.Sheets.{Sheet, sheet_of}

-- a fill is seen as its rectangle and its ink
pub record FillView : Type 0 where
  pub rect : Rect
  pub ink : Ink

-- the ink at each point of the rectangle
abbrev pub fill_sheet : Rect → Ink → Sheet
fill_sheet rect ink = sheet_of rect (λ p. ink)
