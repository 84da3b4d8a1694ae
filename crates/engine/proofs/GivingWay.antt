-- A leaf that gives way to others, while nobody is at work.
use Rattle.std.proofs.Common.{◌≡◌, ◌+◌, ℕ, refl, ap, sym, ◌∙◌, List, [], ◌∷◌, inl, inr, subst, arith}
use Rattle.std.specs.Prelude.{None, ◌==◌, Result, Ok, Err, OnOk, slice_set}
use Rattle.std.specs.List.{Contains}
use Rattle.std.proofs.lemmas.Bool.{cases_Bool}
use Rattle.std.proofs.lemmas.List.{length-set}
use Rattle.std.proofs.lemmas.List.Elements.{Contains-append_cases}
use Rattle.kv_model.specs.History.{Table}
use Rattle.row_page.specs.Rows.{Row}
use Rattle.stored.specs.TableTree.{Entry}
use Rattle.tree_dir.specs.declared.leaf.Leaf.{Leaf}
use Rattle.tree_dir.specs.Leaves.{Directory, GaveWay, IsDirectory, TakePlace, given_way, leaves_with}
use Rattle.tree_dir.proofs.Members.{head-in, later, split}
use Rattle.call_steps.specs.declared.frame.FramePiece.{FramePiece}
use Rattle.call_turns.proofs.Walks.{named-is}
use Rattle.engine_world.specs.GivingWay.{IsIdle, IsShelved, LeavesGiveWay, without_leaf}
use Rattle.call_steps.specs.Tables.{empty}
use Rattle.engine_world.specs.Leaves.{LeavesOwned, emptied, generation_at}
use Rattle.engine_world.specs.Stands.{Engine, Stands}
use Rattle.engine_world.specs.Worlds.{World}
use Rattle.engine.specs.Frames.{HasGivenWay}
use Rattle.engine.specs.Sound.{IsSound}
use Rattle.engine.proofs.LeafSizes.{PieceFits, leaves-set}
use Rattle.engine.proofs.LeavesCome.{named-there}
use Rattle.engine.proofs.Soundness.{seated-with}

-- ---- the leaves that are left

made-table : (table : ℕ) (ids : List ℕ) (entries : List Entry) (n : Leaf) → Contains (leaves_with table ids entries) n → n.table ≡ table
made-table table [] entries n there = absurd (omega (arith, there.1))
made-table table (id ∷ ids) [] n there = absurd (omega (arith, there.1))
made-table table (id ∷ ids) (x ∷ entries) n there = elim (split (record { id = id; table = table; entry = x; frame = None }) n (leaves_with table ids entries) there) [
  | inl here ↦ ap (λ (l : Leaf). l.table) (sym here)
  | inr more ↦ made-table table ids entries n more
]

-- each is of the table of one that was there
given-table : (id : ℕ) (ids : List ℕ) (entries : List Entry) (leaves : List Leaf) (n : Leaf) → Contains (given_way id ids entries leaves) n → (l : Leaf) × Contains leaves l × (n.table ≡ l.table)
given-table id ids entries [] n there = absurd (omega (arith, there.1))
given-table id ids entries (l ∷ leaves) n there = elim (cases_Bool (l.id == id)) [
  | inl is ↦ elim (Contains-append_cases (leaves_with l.table ids entries) leaves n (rw is at there)) [
    | inl made ↦ (l, head-in l leaves, made-table l.table ids entries n made)
    | inr old ↦ (n, later l n leaves old, refl)
  ]
  | inr isnt ↦ elim (split l n (given_way id ids entries leaves) (rw isnt at there)) [
    | inl here ↦ (l, head-in l leaves, ap (λ (x : Leaf). x.table) (sym here))
    | inr more ↦ let was = given-table id ids entries leaves n more in (was.0, later l was.0 leaves was.1, was.2)
  ]
]

given-owned : (known : List Table) (id : ℕ) (ids : List ℕ) (entries : List Entry) (leaves : List Leaf) → LeavesOwned known leaves → LeavesOwned known (given_way id ids entries leaves)
given-owned known id ids entries leaves owned n there = let was = given-table id ids entries leaves n there in let o = owned was.0 was.1 in (o.0, o.1, o.2, was.2 ∙ o.3)

-- ---- the engine that is left

-- by what it is made of
pub without-is : (e : Engine) (dir : Directory) (frame : ℕ) (pieces : List FramePiece) (states : List ℕ) → pieces ≡ slice_set e.pieces frame (emptied e.pieces frame) → states ≡ slice_set e.states frame (empty (generation_at e.pieces frame + 1))
    → without_leaf e dir frame ≡ record e { hub = record e.hub { dir = dir }; pieces = pieces; states = states }
without-is e dir frame pieces states p s = λ i. record e { hub = record e.hub { dir = dir }; pieces = sym p i; states = sym s i }

pub empty-fits : (pieces : List FramePiece) (frame : ℕ) → PieceFits (emptied pieces frame)
empty-fits pieces frame f is = absurd (cc)

pub way-sound : (e : Engine) (dir : Directory) (frame id : ℕ) (entries : List Entry) (ids : List ℕ) → GaveWay e.hub.dir dir id entries ids → IsSound e → IsSound (without_leaf e dir frame)
way-sound e dir frame id entries ids gave sound = record {
  count = sound.count;
  seated = seated-with e.hub (record e.hub { dir = dir }) e.sessions refl sound.seated;
  run = sound.run;
  built = sound.built;
  actors = sound.actors;
  states = length-set e.states frame (empty (generation_at e.pieces frame + 1)) ∙ (sound.states ∙ sym (length-set e.pieces frame (emptied e.pieces frame)));
  numbers = sound.numbers;
  owned = subst (LeavesOwned e.hub.tables.tables) (sym gave.leaves) (given-owned e.hub.tables.tables id ids entries e.hub.dir.leaves sound.owned);
  stamps = sound.stamps;
  sizes = record { leaves = leaves-set e.pieces frame (emptied e.pieces frame) sound.sizes.leaves (empty-fits e.pieces frame); sessions = sound.sizes.sessions; names = sound.sizes.names };
}

-- nobody sees it
pub way-stands : LeavesGiveWay → (old new : Engine) (id : ℕ) (entries : List Entry) → IsIdle old → TakePlace id entries old.hub.dir.leaves → IsDirectory new.hub.dir
    → (way : HasGivenWay old new id entries) (w : World) (shelf : ℕ → List Row) → Stands old w → w.machine.checkpoint ≡ None
    → IsShelved w.machine old.hub.dir new.hub.dir (leaves_with way.leaf.table way.ids entries) w.shelf shelf → Stands new (record w { shelf = shelf })
way-stands law old new id entries idle place is way w shelf st none shelved = subst (λ (e : Engine). Stands e (record w { shelf = shelf })) (sym way.is)
    (law old w way.leaf way.framed new.hub.dir entries way.ids shelf st idle none (named-there id old.hub.dir.leaves way.leaf way.there) way.placed way.next
    (subst (λ (n : ℕ). TakePlace n entries old.hub.dir.leaves) (sym id-is) place) (subst (λ (n : ℕ). GaveWay old.hub.dir new.hub.dir n entries way.ids) (sym id-is) way.gave) is shelved) where
      id-is : way.leaf.id ≡ id
      id-is = named-is id old.hub.dir.leaves way.leaf way.there

pub way-stands-if : {E : Type 0} → LeavesGiveWay → (old new : Engine) (id : ℕ) (entries : List Entry) → IsIdle old → TakePlace id entries old.hub.dir.leaves → (told : Result (Unit {0}) E) → OnOk told (IsDirectory new.hub.dir)
    → OnOk told ((way : HasGivenWay old new id entries) (w : World) (shelf : ℕ → List Row) → Stands old w → w.machine.checkpoint ≡ None → IsShelved w.machine old.hub.dir new.hub.dir (leaves_with way.leaf.table way.ids entries) w.shelf shelf → Stands new (record w { shelf = shelf }))
way-stands-if law old new id entries idle place (Ok done) is = way-stands law old new id entries idle place is
way-stands-if law old new id entries idle place (Err error) is = tt
