-- What a crash leaves of a device on which calls install checkpoints.
use Rattle.std.specs.Prelude.{◌≡◌, ◌⊎◌, ℕ, List, [], ◌∷◌, Some, None}
use Rattle.disk_model.specs.Crash.{Each}
use Rattle.wt_code.specs.declared.refusals.Refusal.TheVariants.{DiskFault}
use Rattle.kv_model.specs.Holds.{Member}
use Rattle.kv_model.specs.Machine.{Completed}
use Rattle.kv_model.specs.Content.{Content, IsLayered, OpensAs}
use Rattle.stored.specs.Stored.{Reads}
use Rattle.stored.specs.Opens.{Opens}
use Rattle.engine_store.specs.Devices.{Installed, may_open_to}

-- each image reads with one content, which is layered
abbrev pub EachReads : (List ℕ → Type 0) → Content → Type 0
EachReads images content = Each images (λ c. Reads c content) × IsLayered content

-- none of them was done
abbrev pub NoneDone : List Installed → Type 0
NoneDone [] = Unit {0}
NoneDone (i ∷ made) = (i.refused ≡ None → ⊥) × NoneDone made

-- a checkpoint that a fault at its gate stopped, with none done after it
abbrev pub Pending : List Installed → Completed → Type 0
Pending [] checkpoint = ⊥
Pending (i ∷ made) checkpoint = ((i.refused ≡ Some DiskFault) × (i.checkpoint ≡ checkpoint) × NoneDone made) ⊎ Pending made checkpoint

-- one of those that were installed, or were being installed
abbrev pub Among : List Installed → Completed → Type 0
Among [] checkpoint = ⊥
Among (i ∷ made) checkpoint = (i.checkpoint ≡ checkpoint) ⊎ Among made checkpoint

-- it opens to one of these
abbrev pub OpensToAny : List Completed → List ℕ → Type 0
OpensToAny these c = (k : Completed) × Member k these × Opens c k

-- The images read with one content, which opens to the last checkpoint: what the next run asks of them. Only after a fault at a gate each opens to one of some by itself: to the last one that was done, or to one that such a fault stopped since. first: what the device had as the run began.
abbrev pub OpensToLast : (List ℕ → Type 0) → Completed → Completed → List Installed → Type 0
OpensToLast images first last made =
    ((content : Content) × EachReads images content × OpensAs content last)
    ⊎ ((pending : Completed) × Pending made pending × Each images (OpensToAny (may_open_to (first ∷ []) made)))

-- it opens to the last checkpoint before the run, or to one of its own
abbrev pub OpensToOne : Completed → List Installed → List ℕ → Type 0
OpensToOne first made c = Opens c first ⊎ ((k : Completed) × Among made k × Opens c k)

-- since the moment of one that was done, what a crash left opens to it or to a later one
abbrev pub Stays : (ℕ → List ℕ → Type 0) → List Installed → Type 0
Stays since [] = Unit {0}
Stays since (i ∷ made) = (i.refused ≡ None → (c : List ℕ) → since i.at c → OpensToOne i.checkpoint made c) × Stays since made
