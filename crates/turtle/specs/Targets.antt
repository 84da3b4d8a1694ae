-- The place for the next slot.
use Rattle.std.specs.Prelude.{◌≡◌, ◌⊎◌, ◌↔◌, ℕ, false, List, [], ◌∷◌, Option, IsTrue}
use Rattle.disk_model.specs.Disk.{put, Only}
use Rattle.device_layout.specs.declared.slot.Slot.{Slot}
use Rattle.turtle.specs.declared.installing.Target.{Target}
use Rattle.turtle.specs.Slots.{IsOpen, IsTarget}

-- it is the place that is not chosen, and it is told whether its gate stands open
abbrev pub IsFree : List ℕ → Option Slot → Target → Type 0
IsFree bytes chosen t = (IsTrue t.is_open ↔ IsOpen bytes t.at) × IsTarget bytes chosen t.at

-- its gate was shut and nothing changed, or it was written shut and synced
abbrev pub IsShutNow : List ℕ → Target → List ℕ → (List ℕ → Type 0) → Type 0
IsShutNow seen t now images = (t.is_open ≡ false) × (now ≡ seen) ⊎ (IsTrue t.is_open × (now ≡ put seen t.at (0 ∷ [])) × Only now images)
