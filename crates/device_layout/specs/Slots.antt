-- The address in a slot.
use Rattle.std.specs.Prelude.{ℕ}
use Rattle.device_layout.specs.declared.addr.Addr.{Addr}
use Rattle.device_layout.specs.declared.slot.Slot.{Slot}

-- where the record's block stands, and its sum
abbrev pub addr_in : Slot → Addr
addr_in s = record { offset = s.offset; size = s.size; sum = s.sum }

-- the slot of the checkpoint of this number, whose record stands at this address
abbrev pub slot_at : ℕ → Addr → Slot
slot_at sequence a = record { sequence = sequence; offset = a.offset; size = a.size; sum = a.sum }
