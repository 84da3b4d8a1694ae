-- A leaf without rows goes out of its frame, and nothing is kept of what checkpoints wrote of it: the ground of a checkpoint stays.
use Rattle.std.proofs.Common.{◌≡◌, ◌∙◌, ◌<◌, ℕ, true, false, List, [], ◌∷◌, ◌++◌, Option, Some, None, refl, ap, sym, subst, inl, inr, arith}
use Rattle.std.specs.Prelude.{◌≢◌, ◌==◌, slice_get}
use Rattle.std.specs.List.{Contains}
use Rattle.std.proofs.lemmas.Bool.{cases_Bool, cases_eq}
use Rattle.call_steps.specs.declared.hub.Hub.{Hub}
use Rattle.engine.proofs.LeavesCome.{named-there}
use Rattle.engine_world.specs.Worlds.{World}
use Rattle.kv_model.specs.History.{Table}
use Rattle.kv_model.specs.Holds.{Member}
use Rattle.row_page.specs.Rows.{Row}
use Rattle.stored.specs.Stored.{Stored}
use Rattle.stored.specs.TableTree.{Entry, TableTree}
use Rattle.stored.specs.Tree.{join}
use Rattle.tree_dir.specs.declared.leaf.Leaf.{Leaf}
use Rattle.tree_dir.specs.Leaves.{IsDirectory, leaf_named, leaves_of}
use Rattle.tree_open.specs.declared.place.TreePlace.{TreePlace}
use Rattle.tree_write.specs.Drafts.{HasLeaves}
use Rattle.tree_write.specs.Steps.{links_in}
use Rattle.tree_write.specs.Writes.{LeadApart}
use Rattle.ckpt_step.specs.Floors.{AreLivesOn, AreOnDevice, Follows, FollowsFrom, IsAsItLies, IsLeafBefore}
use Rattle.ckpt_step.specs.Grounds.{AreRoots, AreSince, AreWritten, StandsOn}
use Rattle.ckpt_step.specs.Lives.{is_live}
use Rattle.ckpt_step.specs.Parts.{IsPart, IsParted, has_rows, own_part, part_in, part_leaves, part_of, parts_of}
use Rattle.ckpt_step.specs.Rooms.{Rooms, Written, known_in}
use Rattle.ckpt_step.specs.Stays.{let_go}
use Rattle.ckpt_step.specs.declared.ground.Ground.{Ground}
use Rattle.ckpt_step.specs.declared.lives.Lone.{Lone}
use Rattle.ckpt_step.proofs.GoingLeaves.{part_of_same, part_same, parts_same}
use Rattle.ckpt_step.proofs.LettingGo.{Was, after, dead_then, frame_of, it, led_now, live_then, out_of, part_now, under_then, was}
use Rattle.ckpt_step.proofs.LivesGoOn.{none_live_now, on_device}
use Rattle.ckpt_step.proofs.Members.{none_some}
use Rattle.ckpt_step.proofs.TableLeaves.{contains_of, in_table}
use Rattle.ckpt_step.proofs.WithParts.{in_alike, part_alike, part_none}

-- an entry that leads to no rows is no part
own_none : (e : Entry) → has_rows e.link ≡ false → own_part e ≡ None
own_none e none = elim (cases_Bool (e.link.greatest.id == 0)) [
  | inl is ↦ rw is refl
  | inr isnt ↦ absurd (let clash : true ≡ false = rw isnt at none in cc)
]

module _ (hub : Hub) (l : Leaf) (dir : IsDirectory hub.dir) (named : leaf_named l.id hub.dir.leaves ≡ Some l) (had has : Written) (gone : has l.id ≡ None) (others : (id : ℕ) → id ≢ l.id → has id ≡ had id) (bare : part_of had l ≡ []) (rowless : has_rows l.entry.link ≡ false) where
  abbrev WasIn : Leaf → Type 0
  WasIn n = Was hub l dir named n

  none_part : part_in has l ≡ None
  none_part = in_alike has (λ id. None) l gone ∙ own_none l.entry rowless

  -- of each leaf the checkpoint has what it had
  part_still : (x : Leaf) → Contains hub.dir.leaves x → part_of has x ≡ part_of had x
  part_still x there = elim (cases_eq x.id l.id) [
    | inl same ↦ subst (λ (y : Leaf). part_of has y ≡ part_of had y) (sym (it hub l dir named x there same)) (part_none has l none_part ∙ sym bare)
    | inr other ↦ part_alike has had x (others x.id other)
  ]

  part_then : (n : Leaf) (b : WasIn n) → part_of has n ≡ part_of had b.leaf
  part_then n b = sym (part_of_same has n b.leaf b.back) ∙ part_still b.leaf b.there

  parts_still : (some : List Leaf) → ((x : Leaf) → Member x some → Contains hub.dir.leaves x) → parts_of has some ≡ parts_of had some
  parts_still [] within = refl
  parts_still (x ∷ some) within = ap (λ (part : List Entry). part ++ parts_of has some) (part_still x (within x (inl refl))) ∙ ap (λ (rest : List Entry). part_of had x ++ rest) (parts_still some (λ y later. within y (inr later)))

  parts_then : (table : ℕ) → parts_of has (leaves_of table (after hub l dir named)) ≡ parts_of had (leaves_of table hub.dir.leaves)
  parts_then table =
      sym (parts_same has (leaves_of table (after hub l dir named)) (leaves_of table hub.dir.leaves) (out_of l.id table hub.dir.leaves))
      ∙ parts_still (leaves_of table hub.dir.leaves) (λ x among. contains_of hub.dir.leaves x (in_table table hub.dir.leaves x among).0)

  -- ---- trees by parts

  module _ (lives : List Lone) where
    parted_now : (table : ℕ) (place : TreePlace) (tree : TableTree) → IsParted lives hub.dir.leaves table had place tree → IsParted lives (after hub l dir named) table has place tree
    parted_now table place tree parted = record {
      joined = λ none. parted.joined (none_live_now lives (after hub l dir named) hub.dir.leaves table (out_of l.id table hub.dir.leaves) none) ∙ ap links_in (sym (parts_then table));
      among = λ n there its dead e mine.
          let b = was hub l dir named n there in
          parted.among b.leaf b.there (b.back.table ∙ its) (dead_then hub l dir named lives n b dead) e (subst (λ (part : List Entry). Member e part) (part_then n b) mine);
      parts = λ n there its dead.
          let b = was hub l dir named n there in
          subst (λ (part : List Entry). IsPart (after hub l dir named) table n part (part_leaves place tree part)) (sym (part_then n b))
          (part_now hub l dir named table n b (part_of had b.leaf) (part_leaves place tree (part_of had b.leaf)) (parted.parts b.leaf b.there (b.back.table ∙ its) (dead_then hub l dir named lives n b dead)));
    }

    roots_now : (places : List TreePlace) (old : Option Stored) → AreRoots hub.tables.tables lives hub.dir.leaves had places old → AreRoots hub.tables.tables lives (after hub l dir named) has places old
    roots_now places None none = none
    roots_now places (Some s) roots = record {
      few = roots.few;
      count = roots.count;
      trees = λ i t place at stands. let tree = roots.trees i t place at stands in (tree.0, tree.1, parted_now t.number place tree.0 tree.2);
    }

    -- a leaf that was written since is another one
    module _ (dead : is_live lives l ≡ false) where
      not_it : (n : Leaf) (b : WasIn n) → is_live lives n ≡ true → b.leaf.id ≢ l.id
      not_it n b live same =
          let is : is_live lives l ≡ true = ap (λ (x : Leaf). is_live lives x) (sym (it hub l dir named b.leaf b.there same)) ∙ live_then hub l dir named lives n b live in
          let clash : false ≡ true = sym dead ∙ is in cc

      since_now : (old : Option Stored) → AreSince old lives hub.dir had → AreSince old lives (let_go hub l.id).dir has
      since_now old since = record {
        lone = since.lone;
        given = since.given;
        leaf = λ n there live.
            let b = was hub l dir named n there in
            let own = since.leaf b.leaf b.there (live_then hub l dir named lives n b live) in
            record {
              there = subst (λ (k : ℕ). Member (record { leaf = k; addr = n.entry.link.addr }) lives) b.back.id (subst (λ (e : Entry). Member (record { leaf = b.leaf.id; addr = e.link.addr }) lives) b.back.entry own.there);
              none = ap has (sym b.back.id) ∙ (others b.leaf.id (not_it n b live) ∙ own.none);
            };
        apart = λ n there live.
            let b = was hub l dir named n there in
            subst (λ (k : ℕ). LeadApart (links_in (parts_of has (leaves_of k (after hub l dir named))))) b.back.table
            (subst (λ (es : List Entry). LeadApart (links_in es)) (sym (parts_then b.leaf.table)) (since.apart b.leaf b.there (live_then hub l dir named lives n b live)));
      }

    written_now : (places : List TreePlace) → ((i : ℕ) (t : Table) → slice_get hub.tables.tables i ≡ Some t → l.table ≡ t.number → slice_get places i ≢ None) → AreWritten hub.tables.tables lives hub.dir had places → AreWritten hub.tables.tables lives (let_go hub l.id).dir has places
    written_now places placed are = record {
      later = λ id late. others id (λ same. let c = named-there l.id hub.dir.leaves l named in let below : l.id < hub.dir.next = subst (λ (x : Leaf). x.id < hub.dir.next) c.2 (dir.below c.0 l c.1) in omega (arith, same, late, below)) ∙ are.later id late;
      made_since = λ i t n at none there its dead.
          let b = was hub l dir named n there in
          let own = are.made_since i t b.leaf at none b.there (b.back.table ∙ its) (dead_then hub l dir named lives n b dead) in
          let other : b.leaf.id ≢ l.id = λ same. placed i t at (ap (λ (x : Leaf). x.table) (sym (it hub l dir named b.leaf b.there same)) ∙ (b.back.table ∙ its)) none in
          (sym (part_same has n b.leaf b.back) ∙ (in_alike has had b.leaf (others b.leaf.id other) ∙ own.0), λ free. own.1 (frame_of hub l dir named n b other ∙ free));
    }

  -- ---- the shelf, on which it has no rows

  module _ (w : World) (shelf : ℕ → List Row) (here : shelf l.id ≡ []) (still : (id : ℕ) → id ≢ l.id → shelf id ≡ w.shelf id) where
    shelf_then : (n : Leaf) (b : WasIn n) → b.leaf.id ≢ l.id → w.shelf b.leaf.id ≡ shelf n.id
    shelf_then n b other = sym (still b.leaf.id other) ∙ ap shelf b.back.id

    lies_then : (n : Leaf) (b : WasIn n) → b.leaf.id ≢ l.id → IsAsItLies has n → IsAsItLies had b.leaf
    lies_then n b other (inl free) = inl (frame_of hub l dir named n b other ∙ free)
    lies_then n b other (inr none) = inr (sym (others b.leaf.id other) ∙ (ap has b.back.id ∙ none))

    leaf_now : (g : Ground) (table : ℕ) (n : Leaf) (b : WasIn n) (rows : List Row) → (b.leaf.id ≡ l.id → rows ≡ []) → IsLeafBefore w.machine w.shelf g.floor hub.dir.leaves had table b.leaf rows → IsLeafBefore w.machine shelf g.floor (after hub l dir named) has table n rows
    leaf_now g table n b rows none own = elim (cases_eq b.leaf.id l.id) [
      | inl it_is ↦ record {
        before = λ part is below. absurd (none_some (sym (sym (part_same has n b.leaf b.back) ∙ (ap (λ (x : Leaf). part_in has x) (it hub l dir named b.leaf b.there it_is) ∙ none_part)) ∙ is));
        same = λ lies. none it_is ∙ sym (ap shelf (sym b.back.id ∙ it_is) ∙ here);
      }
      | inr other ↦ record {
        before = λ part is below key under. own.before part (sym (in_alike has had b.leaf (others b.leaf.id other)) ∙ (part_same has n b.leaf b.back ∙ is)) below key (under_then hub l dir named table key n b under);
        same = λ lies. own.same (lies_then n b other lies) ∙ shelf_then n b other;
      }
    ]

    module _ (lives : List Lone) (dead : is_live lives l ≡ false) where
      follows_now : (g : Ground) (old : Option Stored) (known : List Table) (places : List TreePlace) → FollowsFrom old known lives hub.dir.leaves had places g.floor w → FollowsFrom old known lives (after hub l dir named) has places g.floor (record w { shelf = shelf })
      follows_now g old known places follows = record {
        respects = follows.respects;
        leaf = λ i t place tree n at stands has_tree there its gone_too.
            let b = was hub l dir named n there in
            subst (λ (part : List Entry). IsLeafBefore w.machine shelf g.floor (after hub l dir named) has t.number n (join (part_leaves place tree part))) (sym (part_then n b))
            (leaf_now g t.number n b (join (part_leaves place tree (part_of had b.leaf))) (λ same. ap (λ (x : Leaf). join (part_leaves place tree (part_of had x))) (it hub l dir named b.leaf b.there same) ∙ ap (λ (part : List Entry). join (part_leaves place tree part)) bare)
            (follows.leaf i t place tree b.leaf at stands has_tree b.there (b.back.table ∙ its) (dead_then hub l dir named lives n b gone_too)));
        since = λ n there live.
            let b = was hub l dir named n there in
            let other = not_it lives dead n b live in
            subst (λ (rows : List Row). IsLeafBefore w.machine shelf g.floor (after hub l dir named) has n.table n rows) (shelf_then n b other)
            (subst (λ (k : ℕ). IsLeafBefore w.machine shelf g.floor (after hub l dir named) has k n (w.shelf b.leaf.id)) b.back.table
            (leaf_now g b.leaf.table n b (w.shelf b.leaf.id) (λ same. absurd (other same)) (follows.since b.leaf b.there (live_then hub l dir named lives n b live))));
      }

      lives_now : (seen : List ℕ) → AreOnDevice seen lives hub.dir.leaves w.shelf → AreOnDevice seen lives (after hub l dir named) shelf
      lives_now seen device n there live =
          let b = was hub l dir named n there in
          let one = device b.leaf b.there (live_then hub l dir named lives n b live) in
          let same : w.shelf b.leaf.id ≡ shelf b.leaf.id = sym (still b.leaf.id (not_it lives dead n b live)) in
          on_device seen hub.dir.leaves (after hub l dir named) shelf b.leaf n (sym b.back.id) (sym b.back.entry) (sym b.back.table)
          (λ part. part_now hub l dir named b.leaf.table n b (b.leaf.entry ∷ []) (shelf b.leaf.id ∷ []) part)
          (record {
            is = subst (λ (rows : List Row). IsPart hub.dir.leaves b.leaf.table b.leaf (b.leaf.entry ∷ []) (rows ∷ [])) same one.is;
            on = subst (λ (rows : List Row). HasLeaves seen (b.leaf.entry ∷ []) (rows ∷ [])) same one.on;
          })

-- ---- the ground

pub stands_empty : (seen : List ℕ) (images : List ℕ → Type 0) (hub : Hub) (l : Leaf) (dir : IsDirectory hub.dir) (named : leaf_named l.id hub.dir.leaves ≡ Some l) (g : Ground) (parts : Rooms) (old : Option Stored) → known_in parts l.id ≡ None → ((id : ℕ) → id ≢ l.id → known_in parts id ≡ known_in g.parts id) → part_of (known_in g.parts) l ≡ [] → has_rows l.entry.link ≡ false
    → is_live g.lives l ≡ false → ((i : ℕ) (t : Table) → slice_get hub.tables.tables i ≡ Some t → l.table ≡ t.number → slice_get g.trees.items i ≢ None) → StandsOn seen images hub g old → StandsOn seen images (let_go hub l.id) (record g { parts = parts }) old
stands_empty seen images hub l dir named g parts old gone others bare rowless dead placed on = record {
  stands = on.stands;
  number = on.number;
  slot = on.slot;
  cells = on.cells;
  units = on.units;
  idle = on.idle;
  long = on.long;
  within = on.within;
  roots = roots_now hub l dir named (known_in g.parts) (known_in parts) gone others bare rowless g.lives g.trees.items old on.roots;
  history = on.history;
  written = written_now hub l dir named (known_in g.parts) (known_in parts) gone others bare rowless g.lives g.trees.items placed on.written;
  since = since_now hub l dir named (known_in g.parts) (known_in parts) gone others bare rowless g.lives dead old on.since;
  led = led_now hub l dir named hub.tables.tables g.lives on.led;
}

pub follows_empty : (hub : Hub) (l : Leaf) (dir : IsDirectory hub.dir) (named : leaf_named l.id hub.dir.leaves ≡ Some l) (g : Ground) (parts : Rooms) (old : Option Stored) (w : World) (shelf : ℕ → List Row) → known_in parts l.id ≡ None → ((id : ℕ) → id ≢ l.id → known_in parts id ≡ known_in g.parts id) → part_of (known_in g.parts) l ≡ [] → has_rows l.entry.link ≡ false
    → is_live g.lives l ≡ false → shelf l.id ≡ [] → ((id : ℕ) → id ≢ l.id → shelf id ≡ w.shelf id) → Follows old hub g w → Follows old (let_go hub l.id) (record g { parts = parts }) (record w { shelf = shelf })
follows_empty hub l dir named g parts old w shelf gone others bare rowless dead here still follows =
    follows_now hub l dir named (known_in g.parts) (known_in parts) gone others bare rowless w shelf here still g.lives dead g old hub.tables.tables g.trees.items follows

pub lives_empty : (seen : List ℕ) (hub : Hub) (l : Leaf) (dir : IsDirectory hub.dir) (named : leaf_named l.id hub.dir.leaves ≡ Some l) (g : Ground) (parts : Rooms) (w : World) (shelf : ℕ → List Row) → known_in parts l.id ≡ None → ((id : ℕ) → id ≢ l.id → known_in parts id ≡ known_in g.parts id) → part_of (known_in g.parts) l ≡ [] → has_rows l.entry.link ≡ false
    → is_live g.lives l ≡ false → shelf l.id ≡ [] → ((id : ℕ) → id ≢ l.id → shelf id ≡ w.shelf id) → AreLivesOn seen hub g w → AreLivesOn seen (let_go hub l.id) (record g { parts = parts }) (record w { shelf = shelf })
lives_empty seen hub l dir named g parts w shelf gone others bare rowless dead here still device =
    lives_now hub l dir named (known_in g.parts) (known_in parts) gone others bare rowless w shelf here still g.lives dead seen device
