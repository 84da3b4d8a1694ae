-- Devices some of whose leaves are at fault.
use Rattle.std.specs.Prelude.{ℕ, List}
use Rattle.stored.specs.Stored.{IsBlank}
use Rattle.device_leaf.specs.declared.place.Place.{Place}
use Rattle.recover_open.specs.declared.wholes.Whole.{Whole}
use Rattle.recover_open.specs.Wholes.{SurveysWhole}
use Rattle.leaf_frame.specs.Leaf.{HeldLeaf}
use Rattle.device_read.specs.Readers.{Held, IsReaderOf}
use Rattle.device_read.specs.Leaves.{HasLeaf}

-- The device has the last checkpoint of a whole one, but that leaves may be at fault: it has all that stands above them, and the history, and each leaf that it has the whole one has too, with the same rows.
pub record IsSpoiltFrom (whole bytes : List ℕ) : Type 0 where
  pub held : Held
  pub opens : IsReaderOf bytes held
  pub blank : IsBlank bytes → IsBlank whole
  pub above : (place : Place) (w : Whole) → SurveysWhole bytes place w → (there : Place) × SurveysWhole whole there w
  pub leaves : (h : Held) (place i : ℕ) (leaf : HeldLeaf) → IsReaderOf bytes h → HasLeaf bytes h place i leaf → HasLeaf whole h place i leaf
