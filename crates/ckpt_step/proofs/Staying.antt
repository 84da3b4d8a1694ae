-- The ground of a checkpoint stays over what an engine does between checkpoints.
use Rattle.std.proofs.Common.{◌≡◌, ◌≢◌, ◌∙◌, ◌<◌, ◌≤◌, ℕ, zero, suc, true, false, List, [], ◌∷◌, length, Option, Some, None, refl, ap, sym, subst, inl, inr, arith}
use Rattle.std.specs.Prelude.{slice_get}
use Rattle.std.specs.List.{Contains}
use Rattle.std.specs.Option.{option_or}
use Rattle.std.proofs.lemmas.Bool.{cases_lt, false≢true}
use Rattle.std.proofs.lemmas.Option.{slice_get_within}
use Rattle.call_steps.specs.declared.hub.Hub.{Hub}
use Rattle.catalog.specs.Known.{AreTables}
use Rattle.device_layout.specs.declared.link.Link.{Link}
use Rattle.engine.specs.Directories.{HubGoesOn, LeafGoesOn}
use Rattle.engine_world.specs.Worlds.{World}
use Rattle.kv_model.specs.History.{Table, line}
use Rattle.kv_model.specs.Holds.{Member}
use Rattle.row_page.specs.Rows.{Row}
use Rattle.stamp.specs.declared.Name.{Name}
use Rattle.stored.specs.Stored.{Stored}
use Rattle.stored.specs.TableTree.{Entry, TableTree}
use Rattle.stored.specs.Tree.{join}
use Rattle.tree_dir.specs.declared.leaf.Leaf.{Leaf}
use Rattle.tree_dir.specs.Leaves.{IsDirectory, leaves_of}
use Rattle.tree_open.specs.declared.place.TreePlace.{TreePlace}
use Rattle.tree_write.specs.Steps.{links_in}
use Rattle.tree_write.specs.Writes.{LeadApart}
use Rattle.ckpt_step.specs.Floors.{AreLivesOn, Follows, GoesOn, IsLeafBefore, IsOnDevice, newest_before}
use Rattle.ckpt_step.specs.Grounds.{AreLedTo, AreRoots, AreSince, AreWritten, StandsOn}
use Rattle.ckpt_step.specs.Lives.{is_live}
use Rattle.ckpt_step.specs.Parts.{IsPart, IsParted, own_part, part_in, part_leaves, part_of, parts_of}
use Rattle.ckpt_step.specs.Rooms.{Written, known_in}
use Rattle.ckpt_step.specs.Stays.{GroundsStay}
use Rattle.ckpt_step.specs.declared.ground.Ground.{Ground}
use Rattle.ckpt_step.specs.declared.lives.Lone.{Lone}
use Rattle.ckpt_step.proofs.ByPlace.{place_one}
use Rattle.ckpt_step.proofs.GoingLeaves.{leaf_after, leaf_before, lies_was, of_there, part_of_same, part_on, part_same, parts_same, there_of, under_from}
use Rattle.ckpt_step.proofs.LivesGoOn.{known_or_not, live_on, none_live_then, on_device}
use Rattle.ckpt_step.proofs.Lones.{later_dead}
use Rattle.ckpt_step.proofs.Members.{get_within, none_some, some_same}

-- tables that keep their places are no fewer
pub no_fewer : (known next : List Table) → ((i : ℕ) (t : Table) → slice_get known i ≡ Some t → slice_get next i ≡ Some t) → length known ≤ length next
no_fewer [] next there = omega arith
no_fewer (t ∷ known) [] there = absurd (none_some (there zero t refl))
no_fewer (t ∷ known) (u ∷ next) there = let less = no_fewer known next (λ i x at. there (suc i) x at) in omega (arith, less)

module _ (hub next : Hub) (goes : HubGoesOn hub next) (was : IsDirectory hub.dir) (now : IsDirectory next.dir) (are : AreTables next.tables) where
  abbrev known : List Table
  known = hub.tables.tables

  few : length known ≤ length next.tables.tables
  few = no_fewer known next.tables.tables goes.tables

  -- a table of a place that there was
  known_at : (i : ℕ) (t : Table) → i < length known → slice_get next.tables.tables i ≡ Some t → slice_get known i ≡ Some t
  known_at i t lt at = let u = get_within known i lt in u.1 ∙ ap (λ (x : Table). Some x) (some_same (sym (goes.tables i u.0 u.1) ∙ at))

  -- a leaf of a table that there was
  record Before (n : Leaf) : Type 0 where
    leaf : Leaf
    there : Contains hub.dir.leaves leaf
    goes_on : LeafGoesOn leaf n

  before : (i : ℕ) (t : Table) (n : Leaf) → slice_get known i ≡ Some t → Contains next.dir.leaves n → n.table ≡ t.number → Before n
  before i t n at there its =
      let one = leaf_before (leaves_of t.number hub.dir.leaves) (leaves_of t.number next.dir.leaves) n (goes.dir.kept i t at) (there_of t.number next.dir.leaves n there its) in
      record { leaf = one.0; there = of_there t.number hub.dir.leaves one.0 one.1; goes_on = one.2 }

  -- ---- trees by parts

  -- a leaf of the directory that was written since is of a table that there was
  record BeforeSince (n : Leaf) : Type 0 where
    place : ℕ
    table : Table
    at : slice_get known place ≡ Some table
    own : n.table ≡ table.number
    was_it : Before n

  module _ (lives : List Lone) (old : Option Stored) (written : Written) (since : AreSince old lives hub.dir written) where
    made_dead : (n : Leaf) → Contains next.dir.leaves n → ((i : ℕ) (t : Table) → slice_get known i ≡ Some t → n.table ≡ t.number → ⊥) → is_live lives n ≡ false
    made_dead n there none = later_dead old lives hub.dir written since n (goes.dir.made n there none).0

    before_since : (n : Leaf) → Contains next.dir.leaves n → is_live lives n ≡ true → BeforeSince n
    before_since n there live = elim (known_or_not known n.table) [
      | inl one ↦ record { place = one.place; table = one.table; at = one.at; own = one.is; was_it = before one.place one.table n one.at there one.is }
      | inr none ↦ absurd (false≢true (sym (made_dead n there none) ∙ live))
    ]

    live_then : (n : Leaf) (b : Before n) → is_live lives n ≡ true → is_live lives b.leaf ≡ true
    live_then n b live = sym (live_on lives b.leaf n b.goes_on) ∙ live

    since_on : AreSince old lives next.dir written
    since_on = record {
      lone = since.lone;
      given = λ x there. (let low = since.given x there in omega (arith, low, goes.dir.ids));
      leaf = λ n there live.
          let b = (before_since n there live).was_it in
          let own = since.leaf b.leaf b.there (live_then n b live) in
          record {
            there = subst (λ (k : ℕ). Member (record { leaf = k; addr = n.entry.link.addr }) lives) (sym b.goes_on.id) (subst (λ (e : Entry). Member (record { leaf = b.leaf.id; addr = e.link.addr }) lives) (sym b.goes_on.entry) own.there);
            none = ap (λ (k : ℕ). written k) b.goes_on.id ∙ own.none;
          };
      apart = λ n there live.
          let one = before_since n there live in
          let b = one.was_it in
          let own = subst (λ (k : ℕ). LeadApart (links_in (parts_of written (leaves_of k hub.dir.leaves)))) (sym b.goes_on.table ∙ one.own) (since.apart b.leaf b.there (live_then n b live)) in
          subst (λ (k : ℕ). LeadApart (links_in (parts_of written (leaves_of k next.dir.leaves)))) (sym one.own)
          (subst (λ (es : List Entry). LeadApart (links_in es)) (sym (parts_same written (leaves_of one.table.number hub.dir.leaves) (leaves_of one.table.number next.dir.leaves) (goes.dir.kept one.place one.table one.at))) own);
    }

  led_on : (lives : List Lone) → AreLedTo known lives hub.dir.leaves → AreLedTo next.tables.tables lives next.dir.leaves
  led_on lives led x mine =
      let one = led x mine in
      let after = leaf_after (leaves_of one.table.number hub.dir.leaves) (leaves_of one.table.number next.dir.leaves) one.leaf (goes.dir.kept one.place one.table one.at) (there_of one.table.number hub.dir.leaves one.leaf one.there one.own) in
      record {
        leaf = after.0;
        there = of_there one.table.number next.dir.leaves after.0 after.1;
        id = after.2.id ∙ one.id;
        addr = ap (λ (e : Entry). e.link.addr) after.2.entry ∙ one.addr;
        place = one.place;
        table = one.table;
        at = goes.tables one.place one.table one.at;
        own = after.2.table ∙ one.own;
      }

  dead_then : (lives : List Lone) (n : Leaf) (b : Before n) → is_live lives n ≡ false → is_live lives b.leaf ≡ false
  dead_then lives n b dead = sym (live_on lives b.leaf n b.goes_on) ∙ dead

  parted_on : (lives : List Lone) (written : Written) (i : ℕ) (t : Table) (place : TreePlace) (tree : TableTree) → slice_get known i ≡ Some t → IsParted lives hub.dir.leaves t.number written place tree → IsParted lives next.dir.leaves t.number written place tree
  parted_on lives written i t place tree at parted = record {
    joined = λ none. parted.joined (none_live_then lives hub.dir.leaves next.dir.leaves t.number (goes.dir.kept i t at) none)
        ∙ ap links_in (sym (parts_same written (leaves_of t.number hub.dir.leaves) (leaves_of t.number next.dir.leaves) (goes.dir.kept i t at)));
    among = λ n there its dead e mine.
        let b = before i t n at there its in
        parted.among b.leaf b.there (sym b.goes_on.table ∙ its) (dead_then lives n b dead) e (subst (λ (part : List Entry). Member e part) (part_of_same written b.leaf n b.goes_on) mine);
    parts = λ n there its dead.
        let b = before i t n at there its in
        let same = part_of_same written b.leaf n b.goes_on in
        subst (λ (part : List Entry). IsPart next.dir.leaves t.number n part (part_leaves place tree part)) (sym same)
        (part_on hub.dir next.dir t.number (goes.dir.kept i t at) b.leaf n b.goes_on now there (part_of written b.leaf) (part_leaves place tree (part_of written b.leaf)) (parted.parts b.leaf b.there (sym b.goes_on.table ∙ its) (dead_then lives n b dead)));
  }

  roots_on : (lives : List Lone) (written : Written) (places : List TreePlace) (old : Option Stored) → AreRoots known lives hub.dir.leaves written places old → AreRoots next.tables.tables lives next.dir.leaves written places old
  roots_on lives written places None none = none
  roots_on lives written places (Some s) roots = record {
    few = omega (arith, roots.few, few);
    count = roots.count;
    trees = λ i t place at stands.
        let known_t = known_at i t (omega (arith, slice_get_within places i place stands, roots.few)) at in
        let tree = roots.trees i t place known_t stands in
        (tree.0, tree.1, parted_on lives written i t place tree.0 known_t tree.2);
  }

  -- ---- nothing of what came since

  -- no leaf of a table that came since is of one that there was
  other_table : (i : ℕ) (t : Table) (n : Leaf) → slice_get next.tables.tables i ≡ Some t → length known ≤ i → n.table ≡ t.number → (j : ℕ) (u : Table) → slice_get known j ≡ Some u → n.table ≡ u.number → ⊥
  other_table i t n at past its j u known_u same =
      let one = place_one 1 next.tables.tables next.tables.next i j t u are.numbers at (goes.tables j u known_u) (sym its ∙ same) in
      omega (arith, one, past, slice_get_within known j u known_u)

  none_since : (lives : List Lone) (written : Written) (places : List TreePlace) → AreWritten known lives hub.dir written places → (i : ℕ) (t : Table) (n : Leaf) → slice_get next.tables.tables i ≡ Some t → slice_get places i ≡ None → Contains next.dir.leaves n → n.table ≡ t.number → is_live lives n ≡ false
      → (part_in written n ≡ None) × (n.frame ≢ None)
  none_since lives written places are_written i t n at none there its dead = elim (cases_lt i (length known)) [
    | inl lt ↦
        let known_t = known_at i t lt at in
        let b = before i t n known_t there its in
        let own = are_written.made_since i t b.leaf known_t none b.there (sym b.goes_on.table ∙ its) (dead_then lives n b dead) in
        (part_same written b.leaf n b.goes_on ∙ own.0, λ unframed. own.1 (b.goes_on.stays unframed))
    | inr past ↦
        let made = goes.dir.made n there (λ j u known_u same. other_table i t n at (omega (arith, past)) its j u known_u same) in (
          ap (λ (o : Option (List Entry)). option_or o (own_part n.entry)) (are_written.later n.id made.0) ∙ ap (λ (link : Link). own_part (record { key = n.entry.key; link = link })) made.1,
          made.2,
        )
  ]

  written_on : (lives : List Lone) (written : Written) (places : List TreePlace) → AreWritten known lives hub.dir written places → AreWritten next.tables.tables lives next.dir written places
  written_on lives written places are_written = record {
    later = λ id late. are_written.later id (omega (arith, late, goes.dir.ids));
    made_since = none_since lives written places are_written;
  }

  -- ---- leaves

  leaf_on : (w v : World) (floor : Name) (written : Written) (i : ℕ) (t : Table) (n : Leaf) (b : Before n) (rows : List Row) → v.shelf ≡ w.shelf → slice_get known i ≡ Some t → ((table : ℕ) (key : List ℕ) → newest_before floor (line v.machine.history table key) ≡ newest_before floor (line w.machine.history table key))
      → IsLeafBefore w.machine w.shelf floor hub.dir.leaves written t.number b.leaf rows → IsLeafBefore v.machine v.shelf floor next.dir.leaves written t.number n rows
  leaf_on w v floor written i t n b rows shelf at newest own = record {
    before = λ part is below key under. newest t.number key ∙ own.before part (sym (part_same written b.leaf n b.goes_on) ∙ is) below key (under_from hub.dir next.dir t.number (goes.dir.kept i t at) b.leaf n b.goes_on was b.there key under);
    same = λ lies. own.same (lies_was written b.leaf n b.goes_on lies) ∙ (ap (λ (id : ℕ). w.shelf id) (sym b.goes_on.id) ∙ ap (λ (shelf : ℕ → List Row). shelf n.id) (sym shelf));
  }

  -- few_places: the checkpoint has no more trees than there were tables
  follows_on : (old : Option Stored) (g : Ground) (w v : World) → length g.trees.items ≤ length known → AreSince old g.lives hub.dir (known_in g.parts) → GoesOn w.machine v.machine → v.shelf ≡ w.shelf → Follows old hub g w → Follows old next g v
  follows_on old g w v few_places since on shelf follows =
      let moved = on g.floor follows.respects in
      record {
        respects = moved.0;
        leaf = λ i t place tree n at stands has there its dead.
            let known_t = known_at i t (omega (arith, slice_get_within g.trees.items i place stands, few_places)) at in
            let b = before i t n known_t there its in
            let own = follows.leaf i t place tree b.leaf known_t stands has b.there (sym b.goes_on.table ∙ its) (dead_then g.lives n b dead) in
            leaf_on w v g.floor (known_in g.parts) i t n b (join (part_leaves place tree (part_of (known_in g.parts) n))) shelf known_t moved.1
            (subst (λ (part : List Entry). IsLeafBefore w.machine w.shelf g.floor hub.dir.leaves (known_in g.parts) t.number b.leaf (join (part_leaves place tree part))) (sym (part_of_same (known_in g.parts) b.leaf n b.goes_on)) own);
        since = λ n there live.
            let one = before_since g.lives old (known_in g.parts) since n there live in
            let b = one.was_it in
            let own = follows.since b.leaf b.there (live_then g.lives old (known_in g.parts) since n b live) in
            let rows : w.shelf b.leaf.id ≡ v.shelf n.id = ap (λ (id : ℕ). w.shelf id) (sym b.goes_on.id) ∙ ap (λ (shelf : ℕ → List Row). shelf n.id) (sym shelf) in
            subst (λ (k : ℕ). IsLeafBefore v.machine v.shelf g.floor next.dir.leaves (known_in g.parts) k n (v.shelf n.id)) (sym one.own)
            (leaf_on w v g.floor (known_in g.parts) one.place one.table n b (v.shelf n.id) shelf one.at moved.1
            (subst (λ (rs : List Row). IsLeafBefore w.machine w.shelf g.floor hub.dir.leaves (known_in g.parts) one.table.number b.leaf rs) rows
            (subst (λ (k : ℕ). IsLeafBefore w.machine w.shelf g.floor hub.dir.leaves (known_in g.parts) k b.leaf (w.shelf b.leaf.id)) (sym b.goes_on.table ∙ one.own) own)));
      }

  -- what was written since is on the device
  lives_on : (seen : List ℕ) (old : Option Stored) (g : Ground) (w v : World) → AreSince old g.lives hub.dir (known_in g.parts) → v.shelf ≡ w.shelf → AreLivesOn seen hub g w → AreLivesOn seen next g v
  lives_on seen old g w v since shelf device n there live =
      let one = before_since g.lives old (known_in g.parts) since n there live in
      let b = one.was_it in
      let number : b.leaf.table ≡ one.table.number = sym b.goes_on.table ∙ one.own in
      subst (λ (s : ℕ → List Row). IsOnDevice seen next.dir.leaves s n) (sym shelf)
      (on_device seen hub.dir.leaves next.dir.leaves w.shelf b.leaf n b.goes_on.id b.goes_on.entry b.goes_on.table
      (λ part. subst (λ (k : ℕ). IsPart next.dir.leaves k n (b.leaf.entry ∷ []) (w.shelf b.leaf.id ∷ [])) (sym number)
      (part_on hub.dir next.dir one.table.number (goes.dir.kept one.place one.table one.at) b.leaf n b.goes_on now there (b.leaf.entry ∷ []) (w.shelf b.leaf.id ∷ []) (subst (λ (k : ℕ). IsPart hub.dir.leaves k b.leaf (b.leaf.entry ∷ []) (w.shelf b.leaf.id ∷ [])) number part)))
      (device b.leaf b.there (live_then g.lives old (known_in g.parts) since n b live)))

  few_of : (lives : List Lone) (written : Written) (places : List TreePlace) (old : Option Stored) → AreRoots known lives hub.dir.leaves written places old → length places ≤ length known
  few_of lives written places None none = let no_places = ap (λ (l : List TreePlace). length l) none in omega (arith, no_places)
  few_of lives written places (Some s) roots = roots.few

  stands_on : (seen : List ℕ) (images : List ℕ → Type 0) (g : Ground) (old : Option Stored) → StandsOn seen images hub g old → StandsOn seen images next g old
  stands_on seen images g old on = record {
    stands = on.stands;
    number = on.number;
    slot = on.slot;
    cells = on.cells;
    units = on.units;
    idle = on.idle;
    long = on.long;
    within = on.within;
    roots = roots_on g.lives (known_in g.parts) g.trees.items old on.roots;
    history = on.history;
    written = written_on g.lives (known_in g.parts) g.trees.items on.written;
    since = since_on g.lives old (known_in g.parts) on.since;
    led = led_on g.lives on.led;
  }

pub grounds_stay : (seen : List ℕ) (images : List ℕ → Type 0) → GroundsStay seen images
grounds_stay seen images hub next g old goes was now are on = (
  stands_on hub next goes was now are seen images g old on,
  (λ w v machine shelf follows. follows_on hub next goes was now are old g w v (few_of hub next goes was now are g.lives (known_in g.parts) g.trees.items old on.roots) on.since machine shelf follows),
  (λ w v shelf device. lives_on hub next goes was now are seen old g w v on.since shelf device),
)
