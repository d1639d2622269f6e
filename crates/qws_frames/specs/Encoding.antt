-- The bytes of the parts of a frame, as they are written one after the other.
use Rattle.std.specs.Prelude.{◌≡◌, ℕ, ◌+◌, ◌*◌, ◌<◌, ◌^◌, FitsSigned, List, [], ◌∷◌, ◌++◌, length, drop}
use Rattle.std.specs.List.{flat_map}
use Rattle.std.specs.Int.{w32, cast_unsigned}
use Rattle.byteorder.specs.Endian.{little_bytes}
use Rattle.qws_base.specs.declared.points.Rect.{Rect}
use Rattle.qws_frames.specs.Layout.{u16_at, words_at, IsFrame}

-- a type, the length of a simple part and that of a raw part
abbrev pub head_bytes : ℕ → ℕ → ℕ → List ℕ
head_bytes kind simple raw = (little_bytes 2 kind ++ little_bytes 2 simple) ++ little_bytes 4 raw

-- numbers of 32 bits
abbrev pub words_bytes : List ℕ → List ℕ
words_bytes words = flat_map (little_bytes 4) words

-- the four numbers of a rectangle
abbrev pub rect_words : Rect → List ℕ
rect_words r = cast_unsigned w32 r.x ∷ cast_unsigned w32 r.y ∷ r.w ∷ r.h ∷ []

abbrev pub rects_bytes : List Rect → List ℕ
rects_bytes rects = flat_map (λ r. words_bytes (rect_words r)) rects

-- a rectangle of numbers of 32 bits
pub record IsRect (r : Rect) : Type 0 where
  pub x : FitsSigned w32 r.x
  pub y : FitsSigned w32 r.y
  pub w : r.w < 2 ^ 32
  pub h : r.h < 2 ^ 32

-- ---- frames by the kinds of their parts

-- words alone
pub record IsPlain (kind : ℕ) (words bytes : List ℕ) : Type 0 where
  pub frame : IsFrame bytes kind (4 * length words) 0
  pub words_are : words_at 8 (length words) bytes ≡ words

-- a channel alone
pub record IsNamed (kind : ℕ) (channel bytes : List ℕ) : Type 0 where
  pub frame : IsFrame bytes kind 0 (length channel)
  pub channel_is : drop 8 bytes ≡ channel

-- words and two lengths, then a channel, a message and a payload
pub record IsLetter (kind : ℕ) (words channel message payload bytes : List ℕ) : Type 0 where
  pub frame : IsFrame bytes kind (4 * length words + 4) (length channel + length message + length payload)
  pub words_are : words_at 8 (length words) bytes ≡ words
  pub channel_length : u16_at (8 + 4 * length words) bytes ≡ length channel
  pub message_length : u16_at (10 + 4 * length words) bytes ≡ length message
  pub text : drop (12 + 4 * length words) bytes ≡ (channel ++ message) ++ payload
