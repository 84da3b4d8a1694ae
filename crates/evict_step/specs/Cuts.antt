-- What a leaf is cut into, by which it may be evicted.
use Rattle.std.specs.Prelude.{◌≡◌, ◌≤◌, ℕ, true, false, List, Option, None, Some, option_and_then, option_map}
use Rattle.item.specs.declared.Change.{Change}
use Rattle.stamp.specs.declared.Name.{Name}
use Rattle.stamp.specs.declared.Version.{Version}
use Rattle.kv_model.specs.Holds.{Member}
use Rattle.kv_model.specs.Machine.{Machine}
use Rattle.row_page.specs.Rows.{Row}
use Rattle.leaf_rows.specs.Rows.{AreFit}
use Rattle.snapshot.specs.Matters.{AreUnended, IsUnended, SeesNoneLiving}
use Rattle.snapshot.specs.Past.{IsPast}
use Rattle.snapshot.specs.Sight.{Sight, is_seen}
use Rattle.txn_table.specs.Checkpoints.{EndedIsSeen}
use Rattle.reconcile.specs.declared.image.Image.{Image}
use Rattle.reconcile.specs.declared.image.Moved.{Moved}
use Rattle.reconcile.specs.declared.live.Live.TheVariants.{All}
use Rattle.reconcile.specs.Held.{IsReconciled, held_at, is_live, is_past, moved_of}
use Rattle.reconcile.specs.Images.{AreImages}
use Rattle.reconcile.specs.Moving.{InKeyOrder, versions_in}
use Rattle.leaf_frame.specs.Leaf.{HeldLeaf}
use Rattle.leaf_frame.specs.Updates.{HasUpdate, IsUnseen}
use Rattle.update_chain.specs.declared.update.Update.{Update}
use Rattle.tree_dir.specs.declared.leaf.Framed.{Framed}
use Rattle.call_steps.specs.declared.frame.Frame.{Frame}
use Rattle.engine_world.specs.Evicting.{IsEvictedTo}
use Rattle.engine_world.specs.Leaves.{frame_in}
use Rattle.engine_world.specs.Stands.{Engine, Stands}
use Rattle.engine_world.specs.Worlds.{World}
use Rattle.engine.specs.declared.running_checkpoint.RunningCheckpoint.{RunningCheckpoint}
use Rattle.engine.specs.Evictions.{KeepsLeaf, MayBeEvicted, framed_in}
use Rattle.engine.specs.Running.{RunsAs}
use Rattle.evict_step.specs.Backs.{AllFit}
use Rattle.evict_step.specs.declared.cut.CutOut.{CutOut}
use Rattle.evict_step.specs.declared.cut.CutOut.TheVariants.{Stays, Unresolved, Images}

-- what the leaf of this id holds in its frame
abbrev pub held_in : Engine → ℕ → Option HeldLeaf
held_in e id = option_and_then (λ (framed : Framed). option_map (λ (f : Frame). f.leaf) (frame_in e.pieces framed.frame)) (framed_in e id)

-- ---- what is told

-- The images have rows, and the history what moves, by which the leaf may be evicted, in every world for which the engine stands and in which this checkpoint runs, or none.
pub record AreCut (e : Engine) (running : Option RunningCheckpoint) (id : ℕ) (images : List Image) (moved : List Moved) : Type 0 where
  pub may : MayBeEvicted e id
  pub rows : List Row
  pub are : AreImages images rows
  pub fit : AreFit rows
  -- by key in ascending order, and each fits a row
  pub in_order : InKeyOrder moved
  pub moved_fit : AllFit moved
  pub evicted : (w : World) → Stands e w → RunsAs w.machine running → IsEvictedTo w.machine e.hub.dir.leaves may.leaf may.frame rows (λ key. versions_in key moved)

-- The leaf of this id holds a version of the transaction of this id, which has not ended.
pub record HoldsUnended (e : Engine) (m : Machine) (id by : ℕ) : Type 0 where
  pub held : HeldLeaf
  pub there : held_in e id ≡ Some held
  pub key : List ℕ
  pub version : Version Change
  pub has : Member version (held_at key held.page held.chains)
  pub name : version.window.name ≡ record { run = m.run; id = by }
  pub unended : IsUnended m by

-- and the id is the least of those that have an update in it
pub record IsLeastUnended (e : Engine) (m : Machine) (id by : ℕ) : Type 0 where
  pub holds : HoldsUnended e m id by
  pub least : (u : Update) (other : ℕ) → HasUpdate u holds.held.chains → u.version.window.name ≡ record { run = m.run; id = other } → IsUnended m other → by ≤ other

-- a version that is held is of a transaction of this id, which the snapshot does not see
pub record HoldsUnseen (s : Sight) (held : HeldLeaf) (id : ℕ) : Type 0 where
  pub key : List ℕ
  pub version : Version Change
  pub there : Member version (held_at key held.page held.chains)
  pub unseen : is_seen s version.window.name ≡ false
  pub is : version.window.name.id ≡ id

-- and of no update that it does not see the id is less
pub record HoldsLeastUnseen (s : Sight) (held : HeldLeaf) (id : ℕ) : Type 0 where
  pub holds : HoldsUnseen s held id
  pub least : (u : Update) → HasUpdate u held.chains → IsUnseen s u → id ≤ u.version.window.name.id

abbrev pub IsCutOut : Engine → Option RunningCheckpoint → ℕ → CutOut → Type 0
IsCutOut e running id (Stays why) = KeepsLeaf e id why
IsCutOut e running id (Unresolved by) = (w : World) → Stands e w → IsLeastUnended e w.machine id by
IsCutOut e running id (Images made) = AreCut e running id made.images.items made.moved.items

-- the least id that is unended in the leaf, if there is one
abbrev pub TellsUnended : Engine → ℕ → Option ℕ → Type 0
TellsUnended e id None = (w : World) → Stands e w → (by : ℕ) → HoldsUnended e w.machine id by → ⊥
TellsUnended e id (Some by) = (w : World) → Stands e w → IsLeastUnended e w.machine id by

-- ---- of what a frame holds

-- the snapshot sees each version that is held
abbrev pub AllHeldSeen : Sight → HeldLeaf → Type 0
AllHeldSeen s held = (key : List ℕ) (v : Version Change) → Member v (held_at key held.page held.chains) → is_seen s v.window.name ≡ true

-- no version is of a transaction that has not ended, and these move
pub record IsCutFrom (e : Engine) (running : Option RunningCheckpoint) (held : HeldLeaf) (images : List Image) (moved : List Moved) : Type 0 where
  pub rows : List Row
  pub are : AreImages images rows
  pub reconciled : IsReconciled (is_live All) held.page held.chains rows
  pub pin : ℕ
  pub floor : Name
  pub moves : (key : List ℕ) → versions_in key moved ≡ moved_of (is_live All) (is_past pin floor) (held_at key held.page held.chains)
  pub in_order : InKeyOrder moved
  pub moved_fit : AllFit moved
  pub past : (w : World) → Stands e w → RunsAs w.machine running → (table : ℕ) (key : List ℕ) → IsPast w.machine table key pin floor
  pub sight : Sight
  pub seen : AllHeldSeen sight held
  pub living : (w : World) → Stands e w → SeesNoneLiving w.machine sight

-- what a snapshot does not see is of transactions that have not ended, and this is the least id of those that have an update
pub record IsOfUnended (e : Engine) (held : HeldLeaf) (by : ℕ) : Type 0 where
  pub sight : Sight
  pub unseen : HoldsLeastUnseen sight held by
  pub ended : (w : World) → Stands e w → EndedIsSeen w.machine sight × AreUnended w.machine sight.list

-- of all that is held a snapshot sees that it is of transactions that have ended
pub record AllOfEnded (e : Engine) (held : HeldLeaf) : Type 0 where
  pub sight : Sight
  pub seen : AllHeldSeen sight held
  pub living : (w : World) → Stands e w → SeesNoneLiving w.machine sight

abbrev pub IsCutOf : Engine → Option RunningCheckpoint → HeldLeaf → CutOut → Type 0
IsCutOf e running held (Stays why) = ⊥
IsCutOf e running held (Unresolved by) = IsOfUnended e held by
IsCutOf e running held (Images made) = IsCutFrom e running held made.images.items made.moved.items
