-- Blocks that are held for a leaf that is written out, one for each entry, and then for the leaves in its place.
use Rattle.std.specs.Prelude.{◌≡◌, ℕ, ◌==◌, nat_lt, false, List, [], ◌∷◌, Option, None, Some, option_map, if◌then◌else◌}
use Rattle.std.specs.List.{AllByRecursion, fold}
use Rattle.device_layout.specs.declared.addr.Addr.{Addr}
use Rattle.stored.specs.TableTree.{Entry}
use Rattle.tree_dir.specs.declared.leaf.Leaf.{Leaf}
use Rattle.tree_dir.specs.Leaves.{Directory, leaf_under}
use Rattle.tree_write.specs.Captures.{AreDistinct}
use Rattle.tree_write.specs.Drafts.{addrs_to}
use Rattle.ckpt_step.specs.Lives.{has_at, is_live}
use Rattle.ckpt_step.specs.declared.lives.Lone.{Lone}

-- ---- one

-- one more of them, in the place of its offset
abbrev pub put_lone : Lone → List Lone → List Lone
put_lone x [] = x ∷ []
put_lone x (y ∷ lives) = if x.addr.offset == y.addr.offset then x ∷ lives else if nat_lt x.addr.offset y.addr.offset then x ∷ y ∷ lives else y ∷ put_lone x lives

-- without the one that begins at an offset
abbrev pub gone_at : List Lone → ℕ → List Lone
gone_at [] offset = []
gone_at (x ∷ lives) offset = if x.addr.offset == offset then lives else x ∷ gone_at lives offset

-- that one is of another leaf
abbrev pub named_at : List Lone → ℕ → ℕ → List Lone
named_at [] offset id = []
named_at (x ∷ lives) offset id = if x.addr.offset == offset then record { leaf = id; addr = x.addr } ∷ lives else x ∷ named_at lives offset id

-- ---- one for each entry

-- the block to which an entry leads, as one of a leaf
abbrev pub lone_to : ℕ → Entry → Lone
lone_to leaf e = record { leaf = leaf; addr = e.link.addr }

abbrev pub held_for : ℕ → List Lone → Entry → List Lone
held_for leaf lives e = put_lone (lone_to leaf e) lives

-- the blocks of these entries are held for a leaf
abbrev pub held_all : ℕ → List Lone → List Entry → List Lone
held_all leaf lives es = fold (held_for leaf) lives es

abbrev pub named_if : List Lone → ℕ → Option ℕ → List Lone
named_if lives offset None = lives
named_if lives offset (Some id) = named_at lives offset id

-- the block of an entry is that of the leaf of the table in which its key lies
abbrev pub named_for : Directory → ℕ → List Lone → Entry → List Lone
named_for dir table lives e = named_if lives e.link.addr.offset (option_map (λ (l : Leaf). l.id) (leaf_under table e.key dir.leaves))

abbrev pub named_all : Directory → ℕ → List Lone → List Entry → List Lone
named_all dir table lives es = fold (named_for dir table) lives es

-- no two of the entries lead to one place, and none to where one begins
pub record AreNewAt (lives : List Lone) (es : List Entry) : Type 0 where
  pub none : AllByRecursion (λ (e : Entry). has_at lives e.link.addr.offset ≡ false) es
  pub distinct : AreDistinct (addrs_to es)

-- ---- those of some leaves

-- the one that a leaf stands for
abbrev pub lone_as : Leaf → Lone
lone_as l = record { leaf = l.id; addr = l.entry.link.addr }

-- with that of a leaf, if it is one of them
abbrev pub with_live : List Lone → List Lone → Leaf → List Lone
with_live lives others l = if is_live lives l then put_lone (lone_as l) others else others

abbrev pub with_all_live : List Lone → List Lone → List Leaf → List Lone
with_all_live lives others leaves = fold (with_live lives) others leaves

-- ---- the block of the leaf itself

-- where it stands, if the leaf is one of them
abbrev pub own_of : List Lone → Option Leaf → Option Addr
own_of lives None = None
own_of lives (Some l) = if is_live lives l then Some l.entry.link.addr else None

abbrev pub gone_if : List Lone → Option Addr → List Lone
gone_if lives None = lives
gone_if lives (Some a) = gone_at lives a.offset

-- what is let go of
abbrev pub addrs_if : Option Addr → List Addr
addrs_if None = []
addrs_if (Some a) = a ∷ []
