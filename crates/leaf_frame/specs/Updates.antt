-- The updates of a leaf, of all keys.
use Rattle.std.specs.Prelude.{◌≡◌, ℕ, ◌≤◌, true, false, min, List, [], ◌∷◌, Option, Some, None, if◌then◌else◌}
use Rattle.std.specs.List.{AllByRecursion}
use Rattle.item.specs.declared.Change.{Change}
use Rattle.stamp.specs.declared.Name.{Name}
use Rattle.stamp.specs.declared.Version.{Version}
use Rattle.kv_model.specs.Holds.{Member}
use Rattle.snapshot.specs.Past.{is_below}
use Rattle.snapshot.specs.Sight.{Sight, is_seen}
use Rattle.update_chain.specs.declared.update.Update.{Update}
use Rattle.leaf_chains.specs.declared.slot.KeyChain.{KeyChain}
use Rattle.leaf_chains.specs.Slots.{chain_at}
use Rattle.reconcile.specs.Held.{held_at}
use Rattle.leaf_frame.specs.Leaf.{HeldLeaf}

-- the leaf has the update
abbrev pub HasUpdate : Update → List KeyChain → Type 0
HasUpdate u chains = (key : List ℕ) × Member u (chain_at key chains)

-- the snapshot does not see the update's name
abbrev pub IsUnseen : Sight → Update → Type 0
IsUnseen s u = is_seen s u.version.window.name ≡ false

-- the id of an update that is not seen, and of each such update the id is not below it
pub record IsLeastUnseen (s : Sight) (chains : List KeyChain) (id : ℕ) : Type 0 where
  pub update : Update
  pub there : HasUpdate update chains
  pub unseen : IsUnseen s update
  pub is : update.version.window.name.id ≡ id
  pub least : (u : Update) → HasUpdate u chains → IsUnseen s u → id ≤ u.version.window.name.id

-- each update is seen
abbrev pub AllSeen : Sight → List KeyChain → Type 0
AllSeen s chains = (u : Update) → HasUpdate u chains → is_seen s u.version.window.name ≡ true

-- this name is below that of no version that is held
abbrev pub NoneAbove : Name → HeldLeaf → Type 0
NoneAbove name leaf = (key : List ℕ) → AllByRecursion (λ (v : Version Change). is_below name v.window.name ≡ false) (held_at key leaf.page leaf.chains)

-- ---- one chain after the other

-- the lesser of two ids, where they are
abbrev pub lesser : Option ℕ → Option ℕ → Option ℕ
lesser None other = other
lesser (Some a) None = Some a
lesser (Some a) (Some b) = Some (min a b)

abbrev pub unseen_id : Sight → Update → Option ℕ
unseen_id s u = if is_seen s u.version.window.name then None else Some u.version.window.name.id

-- the least id of a chain's updates that are not seen
abbrev pub least_in : Sight → List Update → Option ℕ
least_in s [] = None
least_in s (u ∷ older) = lesser (unseen_id s u) (least_in s older)

abbrev pub least_of : Sight → List KeyChain → Option ℕ
least_of s [] = None
least_of s (c ∷ chains) = lesser (least_in s c.chain) (least_of s chains)
