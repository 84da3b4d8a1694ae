-- A leaf goes out of its frame: the ground of a checkpoint stays.
use Rattle.std.proofs.Common.{◌≡◌, ◌∙◌, ℕ, Bool, true, false, List, [], ◌∷◌, Option, Some, None, refl, ap, sym, subst, inl, inr}
use Rattle.std.specs.Prelude.{◌==◌, IfSome, if◌then◌else◌}
use Rattle.std.specs.List.{Contains}
use Rattle.std.proofs.lemmas.Bool.{cases_eq, ne_eqb}
use Rattle.call_steps.specs.declared.hub.Hub.{Hub}
use Rattle.engine.proofs.LeavesCome.{named-there}
use Rattle.engine.specs.Directories.{LeafGoesOn, LeavesGoOn}
use Rattle.engine_world.proofs.Homes.{same-id}
use Rattle.engine_world.proofs.LeavesChanged.{IsMild, contains-map, contains-source, under-from, under-to}
use Rattle.engine_world.specs.Worlds.{World}
use Rattle.kv_model.specs.History.{Table}
use Rattle.kv_model.specs.Holds.{Member}
use Rattle.row_page.specs.Rows.{Row}
use Rattle.stored.specs.Stored.{Stored}
use Rattle.stored.specs.TableTree.{Entry, TableTree, first_key}
use Rattle.stored.specs.Tree.{join}
use Rattle.tree_dir.specs.declared.leaf.Leaf.{Leaf}
use Rattle.tree_dir.specs.Leaves.{IsDirectory, changed, in_frame, leaf_named, leaf_under, leaves_of}
use Rattle.tree_open.specs.declared.place.TreePlace.{TreePlace}
use Rattle.tree_write.specs.Steps.{links_in}
use Rattle.tree_write.specs.Writes.{LeadApart}
use Rattle.ckpt_step.specs.Floors.{AreLivesOn, Follows, IsAsItLies, IsLeafBefore}
use Rattle.ckpt_step.specs.Grounds.{AreLedTo, AreRoots, AreSince, AreWritten, StandsOn}
use Rattle.ckpt_step.specs.Lives.{is_live}
use Rattle.ckpt_step.specs.Parts.{IsPart, IsParted, LieIn, has_rows, part_in, part_leaves, part_of, parts_of}
use Rattle.ckpt_step.specs.Rooms.{Written, known_in}
use Rattle.ckpt_step.specs.Stays.{GroundsLetGo, let_go}
use Rattle.ckpt_step.specs.declared.ground.Ground.{Ground}
use Rattle.ckpt_step.specs.declared.lives.Lone.{Lone}
use Rattle.ckpt_step.proofs.GoingLeaves.{part_of_same, part_same, parts_same}
use Rattle.ckpt_step.proofs.LivesGoOn.{live_on, none_live_now, on_device}
use Rattle.ckpt_step.proofs.Members.{none_some}
use Rattle.ckpt_step.proofs.WithParts.{in_alike, own_some}

-- ---- a leaf, once the one of an id is in no frame

abbrev pub out : ℕ → Leaf → Leaf
out id x = if x.id == id then in_frame None x else x

-- it goes on to what it was
pub out_back : (id : ℕ) (x : Leaf) → LeafGoesOn (out id x) x
out_back id x = by (x.id == id)
  where
    by : (b : Bool) → LeafGoesOn (if b then in_frame None x else x) x
    by true = record { id = refl; table = refl; entry = refl; stays = λ none. refl }
    by false = record { id = refl; table = refl; entry = refl; stays = λ none. none }

-- any other is as it was
pub out_other : (id : ℕ) (x : Leaf) → (x.id ≡ id → ⊥) → out id x ≡ x
out_other id x other = let isnt : (x.id == id) ≡ false = ne_eqb x.id id other in rw isnt refl

out_mild : (id : ℕ) → IsMild (out id)
out_mild id = record { id = λ x. sym (out_back id x).id; table = λ x. sym (out_back id x).table; key = λ x. ap (λ (e : Entry). e.key) (sym (out_back id x).entry) }

-- ---- leaves

-- those of a table go on to what they were
pub out_of : (id table : ℕ) (leaves : List Leaf) → LeavesGoOn (leaves_of table (changed id (in_frame None) leaves)) (leaves_of table leaves)
out_of id table [] = tt
out_of id table (x ∷ leaves) =
    subst (λ (n : ℕ). LeavesGoOn (if n == table then out id x ∷ leaves_of table (changed id (in_frame None) leaves) else leaves_of table (changed id (in_frame None) leaves)) (leaves_of table (x ∷ leaves))) (out_back id x).table (by (x.table == table) (out_of id table leaves))
  where
    by : (b : Bool) → LeavesGoOn (leaves_of table (changed id (in_frame None) leaves)) (leaves_of table leaves)
        → LeavesGoOn (if b then out id x ∷ leaves_of table (changed id (in_frame None) leaves) else leaves_of table (changed id (in_frame None) leaves)) (if b then x ∷ leaves_of table leaves else leaves_of table leaves)
    by true rest = (out_back id x, rest)
    by false rest = rest

module _ (hub : Hub) (l : Leaf) (dir : IsDirectory hub.dir) (named : leaf_named l.id hub.dir.leaves ≡ Some l) where
  abbrev pub leaves : List Leaf
  leaves = hub.dir.leaves

  abbrev pub after : List Leaf
  after = changed l.id (in_frame None) leaves

  -- what a leaf was
  pub record Was (n : Leaf) : Type 0 where
    pub leaf : Leaf
    pub there : Contains leaves leaf
    pub is : n ≡ out l.id leaf
    pub back : LeafGoesOn n leaf

  pub was : (n : Leaf) → Contains after n → Was n
  was n there =
      let one = contains-source (out l.id) leaves n there in
      record { leaf = one.0; there = one.1; is = sym one.2; back = subst (λ (x : Leaf). LeafGoesOn x one.0) one.2 (out_back l.id one.0) }

  -- it is the one that goes
  pub it : (x : Leaf) → Contains leaves x → x.id ≡ l.id → x ≡ l
  it x there same = same-id hub.dir x l dir there (named-there l.id leaves l named) same

  -- any other is in the frame that it was in
  pub frame_of : (n : Leaf) (b : Was n) → (b.leaf.id ≡ l.id → ⊥) → b.leaf.frame ≡ n.frame
  frame_of n b other = ap (λ (x : Leaf). x.frame) (sym (b.is ∙ out_other l.id b.leaf other))

  under_now : (table : ℕ) (key : List ℕ) (n : Leaf) (b : Was n) → leaf_under table key leaves ≡ Some b.leaf → leaf_under table key after ≡ Some n
  under_now table key n b found = under-to hub.dir dir (out l.id) (out_mild l.id) table key b.leaf found ∙ ap (λ (x : Leaf). Some x) (sym b.is)

  pub under_then : (table : ℕ) (key : List ℕ) (n : Leaf) (b : Was n) → leaf_under table key after ≡ Some n → leaf_under table key leaves ≡ Some b.leaf
  under_then table key n b found = under-from hub.dir dir (out l.id) (out_mild l.id) table key b.leaf b.there (found ∙ ap (λ (x : Leaf). Some x) b.is)

  -- ---- trees by parts

  lie_now : (table : ℕ) (n : Leaf) (b : Was n) (rows : List Row) → LieIn leaves table b.leaf rows → LieIn after table n rows
  lie_now table n b [] lie = tt
  lie_now table n b (r ∷ rows) lie = (under_now table r.0 n b lie.0, lie_now table n b rows lie.1)

  pub part_now : (table : ℕ) (n : Leaf) (b : Was n) (part : List Entry) (images : List (List Row)) → IsPart leaves table b.leaf part images → IsPart after table n part images
  part_now table n b part images is = record {
    fit = is.fit;
    climbs = is.climbs;
    begins = subst (λ (e : Entry). IfSome (first_key part) (λ key. key ≡ e.key)) b.back.entry is.begins;
    stay = is.stay;
    full = is.full;
    some = is.some;
    rows_fit = is.rows_fit;
    lie = lie_now table n b (join images) is.lie;
  }

  pub dead_then : (lives : List Lone) (n : Leaf) (b : Was n) → is_live lives n ≡ false → is_live lives b.leaf ≡ false
  dead_then lives n b dead = live_on lives n b.leaf b.back ∙ dead

  pub live_then : (lives : List Lone) (n : Leaf) (b : Was n) → is_live lives n ≡ true → is_live lives b.leaf ≡ true
  live_then lives n b live = live_on lives n b.leaf b.back ∙ live

  parted_now : (lives : List Lone) (written : Written) (table : ℕ) (place : TreePlace) (tree : TableTree) → IsParted lives leaves table written place tree → IsParted lives after table written place tree
  parted_now lives written table place tree parted = record {
    joined = λ none. parted.joined (none_live_now lives after leaves table (out_of l.id table leaves) none) ∙ ap links_in (parts_same written (leaves_of table after) (leaves_of table leaves) (out_of l.id table leaves));
    among = λ n there its dead e mine.
        let b = was n there in
        parted.among b.leaf b.there (b.back.table ∙ its) (dead_then lives n b dead) e (subst (λ (part : List Entry). Member e part) (sym (part_of_same written n b.leaf b.back)) mine);
    parts = λ n there its dead.
        let b = was n there in
        subst (λ (part : List Entry). IsPart after table n part (part_leaves place tree part)) (part_of_same written n b.leaf b.back)
        (part_now table n b (part_of written b.leaf) (part_leaves place tree (part_of written b.leaf)) (parted.parts b.leaf b.there (b.back.table ∙ its) (dead_then lives n b dead)));
  }

  roots_now : (lives : List Lone) (written : Written) (places : List TreePlace) (old : Option Stored) → AreRoots hub.tables.tables lives leaves written places old → AreRoots hub.tables.tables lives after written places old
  roots_now lives written places None none = none
  roots_now lives written places (Some s) roots = record {
    few = roots.few;
    count = roots.count;
    trees = λ i t place at stands. let tree = roots.trees i t place at stands in (tree.0, tree.1, parted_now lives written t.number place tree.0 tree.2);
  }

  since_now : (old : Option Stored) (lives : List Lone) (written : Written) → AreSince old lives hub.dir written → AreSince old lives (let_go hub l.id).dir written
  since_now old lives written since = record {
    lone = since.lone;
    given = since.given;
    leaf = λ n there live.
        let b = was n there in
        let own = since.leaf b.leaf b.there (live_then lives n b live) in
        record {
          there = subst (λ (k : ℕ). Member (record { leaf = k; addr = n.entry.link.addr }) lives) b.back.id (subst (λ (e : Entry). Member (record { leaf = b.leaf.id; addr = e.link.addr }) lives) b.back.entry own.there);
          none = ap (λ (k : ℕ). written k) (sym b.back.id) ∙ own.none;
        };
    apart = λ n there live.
        let b = was n there in
        subst (λ (k : ℕ). LeadApart (links_in (parts_of written (leaves_of k after)))) b.back.table
        (subst (λ (es : List Entry). LeadApart (links_in es)) (parts_same written (leaves_of b.leaf.table after) (leaves_of b.leaf.table leaves) (out_of l.id b.leaf.table leaves)) (since.apart b.leaf b.there (live_then lives n b live)));
  }

  pub led_now : (known : List Table) (lives : List Lone) → AreLedTo known lives leaves → AreLedTo known lives after
  led_now known lives led x mine =
      let one = led x mine in
      let back = out_back l.id one.leaf in
      record {
        leaf = out l.id one.leaf;
        there = contains-map (out l.id) leaves one.leaf one.there;
        id = sym back.id ∙ one.id;
        addr = ap (λ (e : Entry). e.link.addr) (sym back.entry) ∙ one.addr;
        place = one.place;
        table = one.table;
        at = one.at;
        own = sym back.table ∙ one.own;
      }

  -- ---- what is written of leaves

  module _ (written : Written) (unwritten : written l.id ≡ None) where
    -- one that is as it lies was so
    lies_then : (n : Leaf) (b : Was n) → IsAsItLies written n → IsAsItLies written b.leaf
    lies_then n b (inr none) = inr (ap (λ (id : ℕ). written id) b.back.id ∙ none)
    lies_then n b (inl free) = elim (cases_eq b.leaf.id l.id) [
      | inl same ↦ inr (ap (λ (id : ℕ). written id) same ∙ unwritten)
      | inr other ↦ inl (frame_of n b other ∙ free)
    ]

    written_now : (lives : List Lone) (places : List TreePlace) → has_rows l.entry.link ≡ true → AreWritten hub.tables.tables lives hub.dir written places → AreWritten hub.tables.tables lives (let_go hub l.id).dir written places
    written_now lives places rows are = record {
      later = are.later;
      made_since = λ i t n at none there its dead.
          let b = was n there in
          let own = are.made_since i t b.leaf at none b.there (b.back.table ∙ its) (dead_then lives n b dead) in (
            sym (part_same written n b.leaf b.back) ∙ own.0,
            λ free. elim (cases_eq b.leaf.id l.id) [
              | inl same ↦ none_some (sym own.0 ∙ (ap (λ (x : Leaf). part_in written x) (it b.leaf b.there same) ∙ (in_alike written (λ id. None) l unwritten ∙ own_some l.entry rows)))
              | inr other ↦ own.1 (frame_of n b other ∙ free)
            ],
          );
    }

  -- ---- the ground

  leaf_now : (g : Ground) (w : World) (table : ℕ) (n : Leaf) (b : Was n) (rows : List Row) → known_in g.parts l.id ≡ None → IsLeafBefore w.machine w.shelf g.floor leaves (known_in g.parts) table b.leaf rows → IsLeafBefore w.machine w.shelf g.floor after (known_in g.parts) table n rows
  leaf_now g w table n b rows unwritten own = record {
    before = λ part is below key under. own.before part (part_same (known_in g.parts) n b.leaf b.back ∙ is) below key (under_then table key n b under);
    same = λ lies. own.same (lies_then (known_in g.parts) unwritten n b lies) ∙ ap (λ (id : ℕ). w.shelf id) b.back.id;
  }

  follows_now : (old : Option Stored) (g : Ground) (w : World) → known_in g.parts l.id ≡ None → Follows old hub g w → Follows old (let_go hub l.id) g w
  follows_now old g w unwritten follows = record {
    respects = follows.respects;
    leaf = λ i t place tree n at stands has there its dead.
        let b = was n there in
        leaf_now g w t.number n b (join (part_leaves place tree (part_of (known_in g.parts) n))) unwritten
        (subst (λ (part : List Entry). IsLeafBefore w.machine w.shelf g.floor leaves (known_in g.parts) t.number b.leaf (join (part_leaves place tree part))) (part_of_same (known_in g.parts) n b.leaf b.back)
        (follows.leaf i t place tree b.leaf at stands has b.there (b.back.table ∙ its) (dead_then g.lives n b dead)));
    since = λ n there live.
        let b = was n there in
        let own = follows.since b.leaf b.there (live_then g.lives n b live) in
        subst (λ (k : ℕ). IsLeafBefore w.machine w.shelf g.floor after (known_in g.parts) k n (w.shelf n.id)) b.back.table
        (leaf_now g w b.leaf.table n b (w.shelf n.id) unwritten (subst (λ (k : ℕ). IsLeafBefore w.machine w.shelf g.floor leaves (known_in g.parts) b.leaf.table b.leaf (w.shelf k)) b.back.id own));
  }

  lives_now : (seen : List ℕ) (g : Ground) (w : World) → AreLivesOn seen hub g w → AreLivesOn seen (let_go hub l.id) g w
  lives_now seen g w device n there live =
      let b = was n there in
      on_device seen leaves after w.shelf b.leaf n (sym b.back.id) (sym b.back.entry) (sym b.back.table)
      (λ part. part_now b.leaf.table n b (b.leaf.entry ∷ []) (w.shelf b.leaf.id ∷ []) part) (device b.leaf b.there (live_then g.lives n b live))

  stands_now : (seen : List ℕ) (images : List ℕ → Type 0) (g : Ground) (old : Option Stored) → known_in g.parts l.id ≡ None → has_rows l.entry.link ≡ true → StandsOn seen images hub g old → StandsOn seen images (let_go hub l.id) g old
  stands_now seen images g old unwritten rows on = record {
    stands = on.stands;
    number = on.number;
    slot = on.slot;
    cells = on.cells;
    units = on.units;
    idle = on.idle;
    long = on.long;
    within = on.within;
    roots = roots_now g.lives (known_in g.parts) g.trees.items old on.roots;
    history = on.history;
    written = written_now (known_in g.parts) unwritten g.lives g.trees.items rows on.written;
    since = since_now old g.lives (known_in g.parts) on.since;
    led = led_now hub.tables.tables g.lives on.led;
  }

pub grounds_let_go : (seen : List ℕ) (images : List ℕ → Type 0) → GroundsLetGo seen images
grounds_let_go seen images hub g old l dir named unwritten rows on = (
  stands_now hub l dir named seen images g old unwritten rows on,
  (λ w follows. follows_now hub l dir named old g w unwritten follows),
  (λ w device. lives_now hub l dir named seen g w device),
)
