-- A leaf that parts, or stays whole.
use Rattle.std.proofs.Common.{◌≡◌, ◌≢◌, ℕ, ap, sym, ◌∙◌, List, subst}
use Rattle.std.specs.Prelude.{Some, None, slice_get}
use Rattle.std.proofs.lemmas.Option.{same_Some}
use Rattle.row_page.specs.Rows.{Row}
use Rattle.stored.specs.TableTree.{Entry}
use Rattle.tree_dir.specs.declared.leaf.Framed.{Framed}
use Rattle.tree_dir.specs.declared.leaf.Leaf.{Leaf}
use Rattle.tree_dir.specs.Leaves.{GaveWay, IsDirectory, TakePlace, leaf_named, leaves_with}
use Rattle.call_steps.specs.State.{State}
use Rattle.call_turns.proofs.Walks.{named-is}
use Rattle.engine_world.specs.Leaves.{frame_in}
use Rattle.engine_world.specs.Parting.{IsBesideLeaf, IsPartedTo, LeavesPart, leaf_ahead_of}
use Rattle.engine_world.specs.Stands.{Engine, Stands}
use Rattle.engine_world.specs.Worlds.{Records, World}
use Rattle.engine.specs.declared.evicting.Stays.{Stays}
use Rattle.engine.specs.declared.evicting.Stays.TheVariants.{Away, Call, Pinned, Written, LastGeneration, Coming, Walked}
use Rattle.engine.specs.Evictions.{KeepsLeaf, MayBeEvicted}
use Rattle.engine.specs.Frames.{IsFramed}
use Rattle.engine.specs.Partings.{HasParted, IsComingTo, IsWalking, KeepsWhole, MayPart, NoneComes, NoneWalks}
use Rattle.engine.proofs.LeavesCome.{named-there}

-- ---- whether it may

-- it is the leaf of its id
pub leaf-at : (e : Engine) (id : ℕ) (l : Leaf) → leaf_named id e.hub.dir.leaves ≡ Some l → (may : MayBeEvicted e id) → may.leaf ≡ l
leaf-at e id l there may = same_Some may.leaf l (sym may.there ∙ there)

pub may-part : (e : Engine) (id : ℕ) (l : Leaf) → leaf_named id e.hub.dir.leaves ≡ Some l → MayBeEvicted e id → NoneComes id e.sessions → NoneWalks l.table e.sessions → MayPart e id
may-part e id l there may comes walks = record { may = may; uncalled = comes; unwalked = subst (λ (x : Leaf). NoneWalks x.table e.sessions) (sym (leaf-at e id l there may)) walks }

-- by the leaf as it was found
abbrev pub part-found : (e : Engine) (id : ℕ) → MayPart e id → MayBeEvicted e id → MayPart e id
part-found e id part may = record { may = may; uncalled = part.uncalled; unwalked = subst (λ (x : Leaf). NoneWalks x.table e.sessions) (leaf-at e id may.leaf may.there part.may) part.unwalked }

-- ---- why it does not

-- what keeps it in its frame keeps it whole
pub keeps-whole : (e : Engine) (id : ℕ) (why : Stays) → KeepsLeaf e id why → KeepsWhole e id why
keeps-whole e id Away keeps = keeps
keeps-whole e id (Call session) keeps = keeps
keeps-whole e id (Pinned word) keeps = keeps
keeps-whole e id (Written session) keeps = keeps
keeps-whole e id LastGeneration keeps = keeps
keeps-whole e id (Coming session) keeps = absurd keeps.2
keeps-whole e id (Walked session) keeps = absurd keeps.2

pub coming-not : (e : Engine) (id session : ℕ) → IsComingTo id e.sessions session → MayPart e id → ⊥
coming-not e id session comes may = may.uncalled session comes.0 comes.1 comes.2

pub walked-not : (e : Engine) (id : ℕ) (l : Leaf) (session : ℕ) → leaf_named id e.hub.dir.leaves ≡ Some l → IsWalking l.table e.sessions session → MayPart e id → ⊥
walked-not e id l session there walks may = may.unwalked session walks.0 walks.1 (walks.2 ∙ ap (λ (x : Leaf). Some x.table) (sym (leaf-at e id l there may.may)))

-- one that is not there
pub none-not : (e : Engine) (id : ℕ) → leaf_named id e.hub.dir.leaves ≡ None → MayBeEvicted e id → ⊥
none-not e id none may = let clash : None ≡ Some may.leaf = sym none ∙ may.there in absurd cc

-- ---- the engine that is left

pub framed-there : (e : Engine) (id : ℕ) → MayBeEvicted e id → IsFramed e.hub.dir.leaves id
framed-there e id may = (may.leaf, may.there, λ none. let clash : None ≡ Some may.framed = sym none ∙ may.placed in absurd cc)

beside-all : (e : Engine) (id : ℕ) (may : MayPart e id) (session : ℕ) (a : State) → slice_get e.sessions session ≡ Some a → IsBesideLeaf may.may.leaf may.may.framed.frame a
beside-all e id may session a at = record {
  aside = may.may.may.aside session a at;
  elsewhere = subst (λ (n : ℕ). leaf_ahead_of a.stage ≢ Some n) (sym (named-is id e.hub.dir.leaves may.may.leaf may.may.there)) (may.uncalled session a at);
  walks = may.unwalked session a at;
  unwritten = may.may.may.unwritten session a at;
}

-- nobody sees it
pub parted-stands : LeavesPart → (old new : Engine) (id : ℕ) (entries : List Entry) → TakePlace id entries old.hub.dir.leaves → IsDirectory new.hub.dir → (p : HasParted old new id entries) (w : World) (shelf : ℕ → List Row) (records : Records) → Stands old w
    → IsPartedTo w old.hub.dir new.hub.dir p.way.leaf p.may.may.frame (leaves_with p.way.leaf.table p.way.ids entries) shelf records → Stands new (record w { shelf = shelf; records = records })
parted-stands law old new id entries place is p w shelf records st to = subst (λ (e : Engine). Stands e (record w { shelf = shelf; records = records })) (sym p.way.is)
    (law old w p.way.leaf p.way.framed p.may.may.frame new.hub.dir entries p.way.ids shelf records st (named-there id old.hub.dir.leaves p.way.leaf p.way.there) p.way.placed filled p.way.next beside
    (subst (λ (n : ℕ). TakePlace n entries old.hub.dir.leaves) (sym id-is) place) (subst (λ (n : ℕ). GaveWay old.hub.dir new.hub.dir n entries p.way.ids) (sym id-is) p.way.gave) is to) where
      id-is : p.way.leaf.id ≡ id
      id-is = named-is id old.hub.dir.leaves p.way.leaf p.way.there

      leaf-is : p.may.may.leaf ≡ p.way.leaf
      leaf-is = leaf-at old id p.way.leaf p.way.there p.may.may

      framed-is : p.may.may.framed ≡ p.way.framed
      framed-is = same_Some p.may.may.framed p.way.framed (sym p.may.may.placed ∙ (ap (λ (l : Leaf). l.frame) leaf-is ∙ p.way.placed))

      filled : frame_in old.pieces p.way.framed.frame ≡ Some p.may.may.frame
      filled = ap (λ (g : Framed). frame_in old.pieces g.frame) (sym framed-is) ∙ p.may.may.filled

      beside : (session : ℕ) (a : State) → slice_get old.sessions session ≡ Some a → IsBesideLeaf p.way.leaf p.way.framed.frame a
      beside session a at = subst (λ (g : Framed). IsBesideLeaf p.way.leaf g.frame a) framed-is (subst (λ (l : Leaf). IsBesideLeaf l p.may.may.framed.frame a) leaf-is (beside-all old id p.may session a at))
