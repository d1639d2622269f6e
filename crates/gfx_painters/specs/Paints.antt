-- What a paint shows: the sheet of its kind.
use Rattle.qws_base.specs.Sheets.{Sheet}
use Rattle.gfx_fills.specs.Fills.{fill_sheet}
use Rattle.gfx_fills.specs.Images.{tile_sheet, blit_sheet}
use Rattle.gfx_lines.specs.Strokes.{line_sheet, polyline_sheet}
use Rattle.gfx_polygons.specs.Polygons.{polygon_sheet}
use Rattle.glyph_masks.specs.Texts.{text_sheet}
use Rattle.gfx_painters.specs.declared.paints.Paint.{Paint}
use Rattle.gfx_painters.specs.declared.paints.Paint.TheVariants.{Fill, Tile, Blit, Line, Polyline, Polygon, Text}

abbrev pub paint_sheet : Paint → Sheet
paint_sheet (Fill fill) = fill_sheet fill.rect fill.ink
paint_sheet (Tile tile) = tile_sheet tile.rect tile.image
paint_sheet (Blit blit) = blit_sheet blit.at blit.image blit.alpha
paint_sheet (Line line) = line_sheet line
paint_sheet (Polyline polyline) = polyline_sheet polyline
paint_sheet (Polygon polygon) = polygon_sheet polygon
paint_sheet (Text text) = text_sheet text
