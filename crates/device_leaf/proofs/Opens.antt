-- The slot of a device and the block of its record, and why a device reads as nothing.
use Rattle.std.specs.Prelude.{◌≡◌, ℕ, ◌+◌, ◌≤◌, List, length, Option, Some, None, Result, Ok, Err, IfOk, IfErr}
use Rattle.std.proofs.Common.{inl, inr, sym, ◌∙◌, subst, arith}
use Rattle.std.proofs.lemmas.Grind.{common_steps}
use Rattle.le_codec.specs.Images.{first_format}
use Rattle.le_codec.proofs.Heads.{length-framed}
use Rattle.disk_model.specs.Ranges.{range}
use Rattle.device_layout.specs.declared.slot.Slot.{Slot}
use Rattle.turtle.specs.Slots.{IsCorruptAt}
use Rattle.turtle.proofs.Choice.{chooses_one, chosen_in_form}
use Rattle.device_layout.specs.declared.addr.Addr.{Addr}
use Rattle.block_mgr.specs.Places.{IsThere, Spoils}
use Rattle.kv_model.specs.Content.{Content}
use Rattle.device_layout.specs.Slots.{addr_in}
use Rattle.stored.specs.Records.{Record, record_image, record_body}
use Rattle.stored.specs.Stored.{Stored, record_block, IsOn, IsBlank, Reads}
use Rattle.failure.specs.Counts.{Rose}
use Rattle.device_leaf.specs.Damage.{IsChosen}
use Rattle.device_leaf.proofs.Leaves.{there_not_spoilt}

pub range_length : (bytes : List ℕ) (at n : ℕ) → at + n ≤ length bytes → length (range bytes at n) ≡ n
range_length bytes at n within = grind (arith, common_steps)

-- ---- the slot, and the record's block

pub slot_is : (bytes : List ℕ) (slot : Slot) (s : Stored) → IsChosen bytes slot → IsOn bytes s → s.slot ≡ slot
slot_is bytes slot s chosen on = some_is s.slot slot (chooses_one bytes (Some s.slot) (Some slot) on.chosen chosen.chooses)
  where
    some_is : (x y : Slot) → Some x ≡ Some y → x ≡ y
    some_is x y e = cc

pub no_blank : (bytes : List ℕ) (slot : Slot) → IsChosen bytes slot → IsBlank bytes → ⊥
no_blank bytes slot chosen blank = none_some (chooses_one bytes None (Some slot) blank.shut chosen.chooses)
  where
    none_some : let none : Option Slot = None in none ≡ Some slot → ⊥
    none_some same = cc

pub record_bytes : (r : Record) → 16 ≤ length (record_image r)
record_bytes r = omega (arith, length-framed 5 first_format (length r.tables) 0 (record_body r))

-- the record's block spoils on no device that reads
pub spoilt_no_content : (bytes : List ℕ) (slot : Slot) (found : ℕ) → IsChosen bytes slot → Spoils bytes (addr_in slot) found → (content : Content) → Reads bytes content → ⊥
spoilt_no_content bytes slot found chosen spoils content (inl blank) = no_blank bytes slot chosen blank.0
spoilt_no_content bytes slot found chosen spoils content (inr (s, on, same)) =
    let is = slot_is bytes slot s chosen on in
    there_not_spoilt bytes (record_block s) found (record_bytes s.kept) on.whole.addressed.0 on.holds.0 (subst (λ (x : Slot). Spoils bytes (addr_in x) found) (sym is) spoils)

-- ---- the record

-- the block that the slot names
pub record IsRecordBlock (bytes : List ℕ) (slot : Slot) (block : List ℕ) : Type 0 where
  pub chosen : IsChosen bytes slot
  pub there : IsThere bytes (addr_in slot)
  pub is : block ≡ range bytes slot.offset slot.size

pub block_there : (bytes : List ℕ) (slot : Slot) (a : Addr) (items block : List ℕ) → a ≡ addr_in slot → block ≡ items → IsChosen bytes slot → IsThere bytes a × (items ≡ range bytes a.offset a.size) → IsRecordBlock bytes slot block
block_there bytes slot a items block is same chosen there = record {
  chosen = chosen;
  there = subst (λ (x : Addr). IsThere bytes x) is there.0;
  is = same ∙ subst (λ (x : Addr). items ≡ range bytes x.offset x.size) is there.1;
}

pub rose_sooner : (first second third : ℕ) → first ≤ second → Rose second third → Rose first third
rose_sooner first second third le rose = omega (arith, le, rose)

pub ok_map : {T E : Type 0} {P Q : T → Type 0} (r : Result T E) → IfOk r P → ((x : T) → P x → Q x) → IfOk r Q
ok_map (Ok x) is more = more x is
ok_map (Err e) is more = tt

pub corrupt_no_content : (bytes : List ℕ) (at : ℕ) → IsCorruptAt bytes at → (content : Content) → Reads bytes content → ⊥
corrupt_no_content bytes at corrupt content (inl blank) = chosen_in_form bytes None at blank.0.long blank.0.shut corrupt
corrupt_no_content bytes at corrupt content (inr (s, on, same)) = chosen_in_form bytes (Some s.slot) at on.long on.chosen corrupt

pub err_map : {T E : Type 0} {P Q : E → Type 0} (r : Result T E) → IfErr r P → ((e : E) → P e → Q e) → IfErr r Q
err_map (Ok x) is more = tt
err_map (Err e) is more = more e is
