-- A leaf that parts while others are at work: whether it may, why it does not, and the engine that is left.
use Rattle.std.specs.Prelude.{◌≡◌, ◌≢◌, ℕ, List, Some, slice_get}
use Rattle.stored.specs.TableTree.{Entry}
use Rattle.tree_dir.specs.declared.leaf.Leaf.{Leaf}
use Rattle.tree_dir.specs.Leaves.{leaf_named}
use Rattle.call_steps.specs.State.{State}
use Rattle.engine_world.specs.Parting.{leaf_ahead_of, table_walked}
use Rattle.engine_world.specs.Stands.{Engine}
use Rattle.engine.specs.declared.evicting.Stays.{Stays}
use Rattle.engine.specs.declared.evicting.Stays.TheVariants.{Coming, Walked}
use Rattle.engine.specs.Evictions.{KeepsLeaf, MayBeEvicted}
use Rattle.engine.specs.Frames.{HasGivenWay}

-- ---- whether it may

-- no call is on its way to the leaf of this id
abbrev pub NoneComes : ℕ → List State → Type 0
NoneComes id sessions = (session : ℕ) (a : State) → slice_get sessions session ≡ Some a → leaf_ahead_of a.stage ≢ Some id

-- no call goes over this table leaf by leaf
abbrev pub NoneWalks : ℕ → List State → Type 0
NoneWalks table sessions = (session : ℕ) (a : State) → slice_get sessions session ≡ Some a → table_walked a.stage ≢ Some table

-- the leaf of this id may be evicted, no call is on its way to it, and none goes over its table leaf by leaf
pub record MayPart (e : Engine) (id : ℕ) : Type 0 where
  pub may : MayBeEvicted e id
  pub uncalled : NoneComes id e.sessions
  pub unwalked : NoneWalks may.leaf.table e.sessions

-- ---- why it does not

-- the session's call is on its way to the leaf of this id
abbrev pub IsComingTo : ℕ → List State → ℕ → Type 0
IsComingTo id sessions session = (a : State) × (slice_get sessions session ≡ Some a) × (leaf_ahead_of a.stage ≡ Some id)

-- it goes over this table leaf by leaf
abbrev pub IsWalking : ℕ → List State → ℕ → Type 0
IsWalking table sessions session = (a : State) × (slice_get sessions session ≡ Some a) × (table_walked a.stage ≡ Some table)

-- why the leaf of this id does not part
abbrev pub KeepsWhole : Engine → ℕ → Stays → Type 0
KeepsWhole e id (Coming session) = IsComingTo id e.sessions session
KeepsWhole e id (Walked session) = (l : Leaf) × (leaf_named id e.hub.dir.leaves ≡ Some l) × IsWalking l.table e.sessions session
KeepsWhole e id why = KeepsLeaf e id why

-- ---- the engine that is left

-- the leaf was one that may part, and has given way to others with these entries
pub record HasParted (old new : Engine) (id : ℕ) (entries : List Entry) : Type 0 where
  pub may : MayPart old id
  pub way : HasGivenWay old new id entries
