-- A leaf gave way to entries: the next checkpoint stands on the ground of before, less what it had of the leaf.
use Rattle.std.proofs.Common.{◌≡◌, ◌≢◌, ◌∙◌, ℕ, false, refl, List, Option, Some, None, sym, subst, ap, inl, inr, arith}
use Rattle.std.specs.Prelude.{slice_get}
use Rattle.std.specs.List.{Contains}
use Rattle.std.proofs.lemmas.Bool.{false≢true}
use Rattle.call_steps.specs.declared.hub.Hub.{Hub}
use Rattle.engine_world.proofs.Homes.{same-id}
use Rattle.kv_model.specs.History.{Table}
use Rattle.stored.specs.Stored.{Stored}
use Rattle.stored.specs.TableTree.{Entry}
use Rattle.tree_dir.specs.declared.leaf.Leaf.{Leaf}
use Rattle.tree_dir.specs.Leaves.{Directory}
use Rattle.tree_open.specs.declared.place.TreePlace.{TreePlace}
use Rattle.tree_write.specs.Steps.{links_in}
use Rattle.tree_write.specs.Writes.{LeadApart}
use Rattle.ckpt_step.specs.Grounds.{AreLedTo, AreRoots, AreSince, AreWritten, IsLedTo, StandsOn}
use Rattle.ckpt_step.specs.Lives.{NoneLive, is_live}
use Rattle.ckpt_step.specs.Parts.{part_in}
use Rattle.ckpt_step.specs.Rooms.{Rooms, Written, known_in}
use Rattle.ckpt_step.specs.declared.ground.Ground.{Ground}
use Rattle.ckpt_step.specs.declared.lives.Lone.{Lone}
use Rattle.ckpt_step.proofs.GivingLeaves.{IsGiving, below_next, made, other_id, same_in}
use Rattle.ckpt_step.proofs.GivingParts.{parted_then, parts_else}
use Rattle.ckpt_step.proofs.Members.{none_some}
use Rattle.ckpt_step.proofs.OutLives.{led_live}

module _ (d n : Directory) (l : Leaf) (entries : List Entry) (ids : List ℕ) (had has : Written) (g : IsGiving d n l entries ids had has) (known : List Table) (places : List TreePlace) (lives : List Lone) (none_live : NoneLive lives d.leaves l.table) (dead : (x : Leaf) → Contains (made d n l entries ids had has g) x → is_live lives x ≡ false) where
  roots_then : (old : Option Stored) → AreRoots known lives d.leaves had places old → AreRoots known lives n.leaves has places old
  roots_then None none = none
  roots_then (Some s) roots = record {
    few = roots.few;
    count = roots.count;
    trees = λ i t place at stands. let tree = roots.trees i t place at stands in (tree.0, tree.1, parted_then d n l entries ids had has g lives none_live t.number place tree.0 tree.2);
  }

  none_since : AreWritten known lives d had places → (i : ℕ) (t : Table) (x : Leaf) → slice_get known i ≡ Some t → slice_get places i ≡ None → Contains n.leaves x → x.table ≡ t.number → is_live lives x ≡ false → (part_in has x ≡ None) × (x.frame ≢ None)
  none_since were i t x at none c its mine = elim (g.stand.members x c) [
    | inl old ↦ let own = were.made_since i t x at none old.0 its mine in (same_in d n l entries ids had has g x c ∙ own.0, own.1)
    | inr new ↦ absurd (none_some (sym (were.made_since i t l at none g.there (sym (g.stand.own x new).0 ∙ its) (none_live l g.there refl)).0 ∙ g.part))
  ]

  written_then : AreWritten known lives d had places → AreWritten known lives n has places
  written_then were = record {
    later = λ id late. g.others id (λ same. omega (arith, late, g.stand.ids, below_next d n l entries ids had has g l g.there, same)) ∙ g.later id (omega (arith, late, g.stand.ids));
    made_since = none_since were;
  }

  since_then : (old : Option Stored) → AreSince old lives d had → AreSince old lives n has
  since_then old since = record {
    lone = since.lone;
    given = λ x there. (let low = since.given x there in omega (arith, low, g.stand.ids));
    leaf = λ x c live. elim (g.stand.members x c) [
      | inl was ↦ (let one = since.leaf x was.0 live in record { there = one.there; none = g.others x.id (other_id d n l entries ids had has g x c) ∙ one.none })
      | inr new ↦ absurd (false≢true (sym (dead x new) ∙ live))
    ];
    apart = λ x c live. elim (g.stand.members x c) [
      | inl was ↦ subst (λ (es : List Entry). LeadApart (links_in es)) (sym (parts_else d n l entries ids had has g x.table (λ same. false≢true (sym (none_live x was.0 same) ∙ live)))) (since.apart x was.0 live)
      | inr new ↦ absurd (false≢true (sym (dead x new) ∙ live))
    ];
  }

  -- one of them that gives way would be of a table of which none is
  led_then : (old : Option Stored) → AreSince old lives d had → AreLedTo known lives d.leaves → AreLedTo known lives n.leaves
  led_then old since led x mine = record { leaf = one.leaf; there = g.stand.others one.leaf one.there other; id = one.id; addr = one.addr; place = one.place; table = one.table; at = one.at; own = one.own }
    where
      one : IsLedTo known d.leaves x
      one = led x mine

      other : one.leaf.id ≡ l.id → ⊥
      other same = false≢true (sym (none_live one.leaf one.there (ap (λ (y : Leaf). y.table) (same-id d one.leaf l g.was one.there g.there same))) ∙ led_live known lives d.leaves x since.lone.distinct mine one)

pub stands_then : (seen : List ℕ) (images : List ℕ → Type 0) (hub : Hub) (n : Directory) (ground : Ground) (parts : Rooms) (old : Option Stored) (l : Leaf) (entries : List Entry) (ids : List ℕ) → (g : IsGiving hub.dir n l entries ids (known_in ground.parts) (known_in parts)) → NoneLive ground.lives hub.dir.leaves l.table → ((x : Leaf) → Contains (made hub.dir n l entries ids (known_in ground.parts) (known_in parts) g) x → is_live ground.lives x ≡ false) → StandsOn seen images hub ground old
    → StandsOn seen images (record hub { dir = n }) (record ground { parts = parts }) old
stands_then seen images hub n ground parts old l entries ids g none dead on = record {
  stands = on.stands;
  number = on.number;
  slot = on.slot;
  cells = on.cells;
  units = on.units;
  idle = on.idle;
  long = on.long;
  within = on.within;
  roots = roots_then hub.dir n l entries ids (known_in ground.parts) (known_in parts) g hub.tables.tables ground.trees.items ground.lives none dead old on.roots;
  history = on.history;
  written = written_then hub.dir n l entries ids (known_in ground.parts) (known_in parts) g hub.tables.tables ground.trees.items ground.lives none dead on.written;
  since = since_then hub.dir n l entries ids (known_in ground.parts) (known_in parts) g hub.tables.tables ground.trees.items ground.lives none dead old on.since;
  led = led_then hub.dir n l entries ids (known_in ground.parts) (known_in parts) g hub.tables.tables ground.trees.items ground.lives none dead old on.since on.led;
}
