-- The content and the number of what a device has.
use Rattle.std.proofs.Common.{◌≡◌, ℕ, ◌<◌, ◌≤◌, List, Option, Some, None, refl, sym, ap, ◌∙◌, inl, inr, arith}
use Rattle.device_layout.specs.declared.slot.Slot.{Slot}
use Rattle.turtle.proofs.Choice.{chooses_one}
use Rattle.kv_model.specs.Content.{Content, IsLayered, OpensAs, start}
use Rattle.stored.specs.Stored.{Stored, Reads}
use Rattle.stored.proofs.Device.{one_choice}
use Rattle.checkpoint_core.specs.Stands.{HasStill}
use Rattle.device_leaf.specs.Closings.{content_was}
use Rattle.ckpt_step.specs.Grounds.{number_of}
use Rattle.engine_store.specs.Devices.{IsNumberOf, last_number}

pub still_reads : (old : Option Stored) (c : List ℕ) → HasStill old c → Reads c (content_was old)
still_reads None c blank = inl (blank, refl)
still_reads (Some s) c on = inr (s, on, refl)

-- what was opened opens as the checkpoint that it was read from
pub start_opens : (content : Content) → IsLayered content → OpensAs content (start content).completed
start_opens content layered = record { layered = layered; oldest = refl; stable = refl; agrees = record { same_tables = refl; cores = λ t k. refl } }

-- ---- the number

pub numbered : (bytes : List ℕ) (old : Option Stored) → HasStill old bytes → IsNumberOf bytes (number_of old)
numbered bytes None blank = inl (blank, refl)
numbered bytes (Some s) on = inr (s.slot, on.chosen, sym on.whole.sequence)

-- of a device that reads
pub number_read : (bytes : List ℕ) (content : Content) → Reads bytes content → (n : ℕ) × IsNumberOf bytes n
number_read bytes content (inl blank) = (0, inl (blank.0, refl))
number_read bytes content (inr (s, on, same)) = (s.slot.sequence, inr (s.slot, on.chosen, refl))

-- there is one
pub one_number : (bytes : List ℕ) (old : Option Stored) (n : ℕ) → HasStill old bytes → IsNumberOf bytes n → n ≡ number_of old
one_number bytes None n has (inl (blank, none)) = none
one_number bytes (Some s) n has (inl (blank, none)) = let e : None ≡ Some s.slot = chooses_one bytes None (Some s.slot) blank.shut has.chosen in absurd (cc)
one_number bytes None n has (inr (slot, chosen, is)) = let e : None ≡ Some slot = chooses_one bytes None (Some slot) has.shut chosen in absurd (cc)
one_number bytes (Some s) n has (inr (slot, chosen, is)) =
    let one : slot ≡ s.slot = one_choice bytes slot s.slot chosen has.chosen in
    sym is ∙ (ap (λ (x : Slot). x.sequence) one ∙ sym has.whole.sequence)

-- a number that none may follow is the last one
pub most_number : (bytes : List ℕ) (old : Option Stored) (n : ℕ) → HasStill old bytes → IsNumberOf bytes n → last_number ≤ n → n ≡ last_number
most_number bytes None n has is last = absurd (omega (arith, last, one_number bytes None n has is))
most_number bytes (Some s) n has is last = omega (arith, last, one_number bytes (Some s) n has is, has.whole.is_record.sequence)

pub not_last : (bytes : List ℕ) (old : Option Stored) (n : ℕ) → HasStill old bytes → IsNumberOf bytes n → n < last_number → IsNumberOf bytes last_number → ⊥
not_last bytes old n has is less last = omega (arith, less, one_number bytes old n has is, one_number bytes old last_number has last)
