-- What the types of an image stand for.
use Rattle.le_codec.specs.declared.image.Header.{Header}
use Rattle.le_codec.specs.declared.image.Image.{Image}
use Rattle.le_codec.specs.Images.{Head, Framed}

abbrev pub head_seen : Header → Head
head_seen h = record { kind = h.kind; format = h.format; count = h.count; used = h.used; level = h.level }

abbrev pub image_seen : Image → Framed
image_seen i = (i.count, (i.level, i.text.now))
