-- Images, and what tiles and blits of them show.
use Rattle.std.specs.Prelude.{ℕ, ◌≡◌, ◌+◌, ◌*◌, ◌/◌, ◌%◌, ◌<◌, ◌≤◌, ◌==◌, ◌-ℤ◌, nat_abs, List, length, slice_index, if◌then◌else◌}
use Rattle.qws_base.specs.declared.points.Point.{Point}
use Rattle.qws_base.specs.declared.points.Rect.{Rect}
use Rattle.qws_base.specs.declared.inks.Ink.{Ink}
use Rattle.qws_base.specs.declared.inks.Ink.TheVariants.{Skip, Blend}
use Rattle.qws_base.specs.Sheets.{Sheet, sheet_of}

-- an image is seen as its width, its height and its pixels by rows; a pixel is alpha * 2^24 + colour
pub record ImageView : Type 0 where
  pub w : ℕ
  pub h : ℕ
  pub pixels : List ℕ

-- 1 to 256 columns and rows, and a pixel for each place
pub record IsImageSize (w h count : ℕ) : Type 0 where
  pub some_w : 0 < w
  pub most_w : w ≤ 256
  pub some_h : 0 < h
  pub most_h : h ≤ 256
  pub whole : count ≡ w * h

abbrev pub IsImage : ImageView → Type 0
IsImage image = IsImageSize image.w image.h (length image.pixels)

abbrev pub pixel_of : ImageView → ℕ → ℕ → ℕ
pixel_of image column row = slice_index image.pixels (row * image.w + column)

-- 0 for transparent to 255 for opaque
abbrev pub alpha_of : ℕ → ℕ
alpha_of pixel = pixel / 16777216

abbrev pub colour_in : ℕ → ℕ
colour_in pixel = pixel % 16777216

-- a colour with an alpha: Skip where it is transparent
abbrev pub veil : ℕ → ℕ → Ink
veil c a = if a == 0 then Skip else Blend c a

abbrev pub pixel_ink : ℕ → Ink
pixel_ink pixel = veil (colour_in pixel) (alpha_of pixel)

-- the pixel with an alpha of its own and that of the whole
abbrev pub faded_ink : ℕ → ℕ → Ink
faded_ink alpha pixel = veil (colour_in pixel) ((alpha_of pixel * alpha + 127) / 255)

-- ---- tiles

pub record TileView : Type 0 where
  pub rect : Rect
  pub image : ImageView

-- the image again and again from the rectangle's corner on
abbrev pub tile_sheet : Rect → ImageView → Sheet
tile_sheet rect image = sheet_of rect (λ p. pixel_ink (pixel_of image (nat_abs (p.x -ℤ rect.x) % image.w) (nat_abs (p.y -ℤ rect.y) % image.h)))

-- ---- blits

pub record BlitView : Type 0 where
  pub at : Point
  pub image : ImageView
  pub alpha : ℕ

abbrev pub blit_rect : Point → ImageView → Rect
blit_rect at image = record { x = at.x; y = at.y; w = image.w; h = image.h }

-- the image once, with its corner at a point
abbrev pub blit_sheet : Point → ImageView → ℕ → Sheet
blit_sheet at image alpha = sheet_of (blit_rect at image) (λ p. faded_ink alpha (pixel_of image (nat_abs (p.x -ℤ at.x)) (nat_abs (p.y -ℤ at.y))))
