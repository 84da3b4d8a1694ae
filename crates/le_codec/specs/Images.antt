-- What every block of a device has: a header, an image, and zeros that fill it up.
use Rattle.std.specs.Prelude.{◌≡◌, ℕ, ◌+◌, ◌-◌, ◌*◌, ◌/◌, ◌^◌, ◌<◌, Bool, ◌&&◌, ◌==◌, nat_le, List, ◌++◌, length, replicate, Option, Some, None, if◌then◌else◌}
use Rattle.std.specs.List.{list_all}
use Rattle.std.specs.Int.{w8, w16, w32, w64}
use Rattle.le_codec.specs.Fields.{◌>>=◌, le, number_at, slice_at}
use Rattle.le_codec.specs.Combine.{then_at, as_at}

-- the format byte of every image that is written today
abbrev pub first_format : ℕ
first_format = 1

-- the 16 bytes that begin every image: its kind, its format, how many things it has, its length, and its level
abbrev pub header : ℕ → ℕ → ℕ → ℕ → ℕ → List ℕ
header kind format count used level = le w8 kind ++ le w8 format ++ le w16 count ++ le w32 used ++ le w64 level

-- an image: a header, and the text of so many things, which fills it exactly
abbrev pub framed : ℕ → ℕ → ℕ → ℕ → List ℕ → List ℕ
framed kind format count level text = header kind format count (16 + length text) level ++ text

-- an image, and zero bytes up to the block's size
abbrev pub padded : List ℕ → ℕ → List ℕ
padded image size = image ++ replicate (size - length image) 0

-- the size of the block for so many bytes: the next multiple of 4,096
abbrev pub block_size : ℕ → ℕ
block_size used = (used + 4095) / 4096 * 4096

-- the bytes of an image's block
abbrev pub block_of : List ℕ → List ℕ
block_of image = padded image (block_size (length image))

-- a block has an image of this kind and format, with this count, level and text
pub record HoldsImage (kind format : ℕ) (block : List ℕ) (count level : ℕ) (text : List ℕ) : Type 0 where
  pub spelled : block ≡ block_of (framed kind format count level text)
  pub count_fits : count < 2 ^ 16
  pub level_fits : level < 2 ^ 64
  pub text_fits : 16 + length text < 2 ^ 32

-- ---- reading a header

-- what the 16 bytes say
pub record Head : Type 0 where
  pub kind : ℕ
  pub format : ℕ
  pub count : ℕ
  pub used : ℕ
  pub level : ℕ

abbrev pub head_text : Head → List ℕ
head_text h = le w8 h.kind ++ le w8 h.format ++ le w16 h.count ++ le w32 h.used ++ le w64 h.level

pub record HeadFits (h : Head) : Type 0 where
  pub kind : h.kind < 2 ^ 8
  pub format : h.format < 2 ^ 8
  pub count : h.count < 2 ^ 16
  pub used : h.used < 2 ^ 32
  pub level : h.level < 2 ^ 64

abbrev pub HeadParts : Type 0
HeadParts = ℕ × (ℕ × (ℕ × (ℕ × ℕ)))

abbrev pub head_of : HeadParts → Head
head_of p = record { kind = p.0; format = p.1.0; count = p.1.1.0; used = p.1.1.1.0; level = p.1.1.1.1 }

unfoldable pub head_at : List ℕ → Option (Head × List ℕ)
head_at = as_at head_of (then_at (number_at w8) (λ kind. then_at (number_at w8) (λ format. then_at (number_at w16) (λ count. then_at (number_at w32) (λ used. number_at w64)))))

-- ---- reading an image from its block

abbrev pub is_zero : ℕ → Bool
is_zero b = b == 0

-- the header is of this kind and format, and its length is that of the block
abbrev pub head_fits : ℕ → ℕ → ℕ → Head → Bool
head_fits kind format size h = (h.kind == kind) && (h.format == format) && nat_le 16 h.used && (block_size h.used == size)

-- the count, the level and the text of an image
abbrev pub Framed : Type 0
Framed = ℕ × (ℕ × List ℕ)

unfoldable pub image_at : ℕ → ℕ → List ℕ → Option Framed
image_at kind format block = do
  head ← head_at block
  fits ← (if head_fits kind format (length block) head.0 then Some head.0 else None)
  text ← slice_at (fits.used - 16) head.1
  if list_all is_zero text.1 then Some (fits.count, (fits.level, text.0)) else None
