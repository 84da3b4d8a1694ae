-- A leaf gives way to what the last completed checkpoint has of it.
use Rattle.std.proofs.Common.{◌≡◌, ◌∙◌, ℕ, false, refl, List, Option, Some, ap, sym, subst, inl, inr}
use Rattle.std.specs.Prelude.{slice_get}
use Rattle.std.specs.List.{Contains}
use Rattle.call_steps.specs.declared.hub.Hub.{Hub}
use Rattle.call_turns.proofs.Walks.{named-is}
use Rattle.engine.proofs.LeavesCome.{named-there}
use Rattle.engine.specs.Frames.{HasGivenWay}
use Rattle.engine_world.specs.Stands.{Engine, Stands}
use Rattle.engine_world.specs.Worlds.{World}
use Rattle.kv_model.specs.AgreementLaws.{head_of}
use Rattle.kv_model.specs.History.{Table, line}
use Rattle.recover_open.specs.Bare.{tree_rows}
use Rattle.reconcile.specs.Shows.{shown_at}
use Rattle.stored.specs.Stored.{Stored}
use Rattle.stored.specs.TableTree.{Entry}
use Rattle.tree_dir.specs.declared.leaf.Leaf.{Leaf}
use Rattle.tree_dir.specs.GivingWay.{LeavesGiveWay}
use Rattle.tree_dir.specs.Leaves.{Directory, GaveWay, IsDirectory, TakePlace, leaves_with}
use Rattle.tree_write.specs.Writes.{LeadApart}
use Rattle.ckpt_step.specs.Floors.{AreLivesOn, Follows}
use Rattle.ckpt_step.specs.Giving.{Forgets, GroundsGiveWay, HasNewest, MayTakeOver, StandsStill}
use Rattle.ckpt_step.specs.Grounds.{StandsOn}
use Rattle.ckpt_step.specs.Lives.{NoneLive, is_live}
use Rattle.ckpt_step.specs.Parts.{IsParted, part_in}
use Rattle.ckpt_step.specs.Rooms.{Written, known_in}
use Rattle.ckpt_step.specs.Trees.{leaves_at}
use Rattle.ckpt_step.specs.declared.ground.Ground.{Ground}
use Rattle.ckpt_step.proofs.ByPlace.{place_one}
use Rattle.ckpt_step.proofs.GivingFollows.{IsOnly, device_then, follows_then, one_tree}
use Rattle.ckpt_step.proofs.GivingGround.{stands_then}
use Rattle.ckpt_step.proofs.GivingLeaves.{IsGiving, made}
use Rattle.ckpt_step.proofs.GivingShelf.{IsTreeOf, shelf_then, shelved}
use Rattle.ckpt_step.proofs.Lones.{later_dead}
use Rattle.ckpt_step.proofs.Members.{none_some, some_same}
use Rattle.ckpt_step.proofs.OldParts.{HasPart, part_at}
use Rattle.ckpt_step.proofs.OldTrees.{leaves_apart, leaves_there}
use Rattle.ckpt_step.proofs.StillTrees.{is_place, on_still}
use Rattle.ckpt_step.proofs.TableParts.{has_parts}

module _ (law : LeavesGiveWay) (seen : List ℕ) (images : List ℕ → Type 0) (e next : Engine) (w : World) (g g' : Ground) (old : Option Stored) (id : ℕ) (entries : List Entry) (way : HasGivenWay e next id entries) (stands : Stands e w) (now : IsDirectory next.hub.dir) (on : StandsOn seen images e.hub g old)
    (follows : Follows old e.hub g w) (device : AreLivesOn seen e.hub g w) (none : NoneLive g.lives e.hub.dir.leaves way.leaf.table) (newest : HasNewest old w.machine) (may : MayTakeOver e.hub.dir (known_in g.parts) id w.machine.oldest entries) (forgets : Forgets g g' id) where
  abbrev d : Directory
  d = e.hub.dir

  abbrev n : Directory
  n = next.hub.dir

  abbrev l : Leaf
  l = way.leaf

  abbrev had : Written
  had = known_in g.parts

  abbrev has : Written
  has = known_in g'.parts

  id_is : l.id ≡ id
  id_is = named-is id d.leaves l way.there

  giving : IsGiving d n l entries way.ids had has
  giving = record {
    was = stands.dir;
    now = now;
    there = there;
    place = place;
    gave = gave;
    stand = law d n l entries way.ids stands.dir now there place gave;
    later = on.written.later;
    others = λ other differ. forgets.others other (λ same. differ (same ∙ sym id_is));
    part = ap (λ (x : Leaf). part_in had x) (some_same (sym way.there ∙ may.place.there)) ∙ may.part;
  }
    where
      there : Contains d.leaves l
      there = named-there id d.leaves l way.there

      place : TakePlace l.id entries d.leaves
      place = subst (λ (k : ℕ). TakePlace k entries d.leaves) (sym id_is) may.place

      gave : GaveWay d n l.id entries way.ids
      gave = subst (λ (k : ℕ). GaveWay d n k entries way.ids) (sym id_is) way.gave

  -- ---- the tree of its table

  owned : (i : ℕ) × (t : Table) × (slice_get e.hub.tables.tables i ≡ Some t) × (l.table ≡ t.number)
  owned = stands.owned l giving.there

  dead : (x : Leaf) → Contains (made d n l entries way.ids had has giving) x → is_live g.lives x ≡ false
  dead x c = later_dead old g.lives d had on.since x (giving.stand.later x c)

  apart_at : LeadApart (leaves_at g.trees.items owned.0)
  apart_at = leaves_apart seen images g.place.blocks e.hub.tables.tables e.hub.tables.next stands.catalog.numbers g.lives d.leaves had g.trees.items old on.stands on.roots on.since.lone on.cells on.units owned.0

  found : HasPart old g.lives d.leaves had g.trees.items owned.1 owned.0
  found = elim (part_at old g.lives d.leaves had g.trees.items owned.1 owned.0 l (has_parts old e.hub.tables.tables g.lives d had g.trees.items owned.1 owned.0 on.roots on.written on.since owned.2 apart_at) giving.there owned.3 (none l giving.there refl)) [
    | inl one ↦ one
    | inr none ↦ absurd (none_some (sym none.none ∙ giving.part))
  ]

  own : IsTreeOf seen w.machine g.lives d.leaves l.table had found.place found.tree
  own = record {
    has = on_still old seen owned.1 found.place found.tree on.stands.seen_has found.has;
    is = is_place old owned.1 found.place found.tree found.has;
    apart = subst LeadApart (leaves_there g.trees.items owned.0 found.place found.at) apart_at;
    none = none;
    parted = subst (λ (k : ℕ). IsParted g.lives d.leaves k had found.place found.tree) (sym owned.3) found.parted;
    newest = λ key. subst (λ (k : ℕ). head_of (line w.machine.history k key) ≡ shown_at key (tree_rows found.tree)) (sym owned.3) ((newest owned.1 found.place found.tree found.has).newest key);
  }

  only : IsOnly old e.hub.tables.tables g.trees.items l.table found.place found.tree
  only i t p tree at stand there same =
      let number : t.number ≡ owned.1.number = same ∙ owned.3 in
      let index = place_one 1 e.hub.tables.tables e.hub.tables.next i owned.0 t owned.1 stands.catalog.numbers at owned.2 number in
      (some_same (sym stand ∙ (ap (λ (k : ℕ). slice_get g.trees.items k) index ∙ found.at)), one_tree old seen t owned.1 p found.place tree found.tree on.stands.seen_has there found.has number)

  -- ---- on which the next checkpoint stands

  standing : StandsStill seen images old e.hub (record e.hub { dir = n }) (record g { parts = g'.parts }) w (leaves_with l.table way.ids entries)
  standing = record {
    shelf = shelf_then d n l entries way.ids had has giving seen w.machine g.lives found.place found.tree own w.shelf;
    shelved = shelved d n l entries way.ids had has giving seen w.machine g.lives found.place found.tree own dead w.shelf may.durable;
    on = stands_then seen images e.hub n g g'.parts old l entries way.ids giving none dead on;
    since = device_then d n l entries way.ids had has giving seen w g.lives found.place found.tree own dead old e.hub.tables.tables g.trees.items g.floor follows only device;
    follows = follows_then d n l entries way.ids had has giving seen w g.lives found.place found.tree own dead old e.hub.tables.tables g.trees.items g.floor follows only;
  }

pub grounds_give_way : LeavesGiveWay → (seen : List ℕ) (images : List ℕ → Type 0) → GroundsGiveWay seen images
grounds_give_way law seen images e next w g g' old id entries way stands now on follows device none newest may forgets =
    subst (λ (hub : Hub). StandsStill seen images old e.hub hub g' w (leaves_with way.leaf.table way.ids entries)) (sym (ap (λ (x : Engine). x.hub) way.is))
    (subst (λ (x : Ground). StandsStill seen images old e.hub (record e.hub { dir = next.hub.dir }) x w (leaves_with way.leaf.table way.ids entries)) (sym forgets.same)
    (standing law seen images e next w g g' old id entries way stands now on follows device none newest may forgets))
