-- What leads to a page: where the page stands, and what is said of the versions below it.
use Rattle.std.specs.Prelude.{◌≡◌, ℕ, ◌<◌, ◌^◌, Bool, ◌==◌, List, ◌++◌}
use Rattle.std.specs.Int.{w32, w64}
use Rattle.stamp.specs.declared.name.Name.{Name}
use Rattle.le_codec.specs.Fields.{le}
use Rattle.row_page.specs.Greatest.{no_name, greatest_in, most_in}
use Rattle.device_layout.specs.declared.addr.Addr.{Addr}
use Rattle.device_layout.specs.declared.link.Link.{Link}

-- the 40 bytes of a link
abbrev pub link_text : Link → List ℕ
link_text l = le w64 l.addr.offset ++ le w32 l.addr.size ++ le w32 l.addr.sum ++ le w64 l.greatest.run ++ le w64 l.greatest.id ++ le w64 l.durable

pub record LinkFits (l : Link) : Type 0 where
  pub offset : l.addr.offset < 2 ^ 64
  pub size : l.addr.size < 2 ^ 32
  pub sum : l.addr.sum < 2 ^ 32
  pub run : l.greatest.run < 2 ^ 64
  pub id : l.greatest.id < 2 ^ 64
  pub durable : l.durable < 2 ^ 64

-- what leads to one empty leaf that is not stored: six zeros
abbrev pub nowhere : Link
nowhere = record { addr = record { offset = 0; size = 0; sum = 0 }; greatest = no_name; durable = 0 }

-- no block begins at 0
abbrev pub is_nowhere : Addr → Bool
is_nowhere a = a.offset == 0

-- the link says the greatest of these names, and the greatest of these durable stamps
pub record SaysOf (l : Link) (names : List Name) (durables : List ℕ) : Type 0 where
  pub greatest : l.greatest ≡ greatest_in names
  pub durable : l.durable ≡ most_in durables
