-- A leaf is evicted to a block of its own: the next checkpoint stands on the ground of before, with that block.
use Rattle.std.specs.Prelude.{◌≡◌, ℕ, ◌≤◌, true, false, List, [], ◌∷◌, length, Option, None, Some, Vec, slice_get, refl}
use Rattle.std.specs.declared.alloc.Global.{Global}
use Rattle.std.specs.List.{Contains}
use Rattle.std.proofs.Common.{inl, inr, sym, ◌∙◌, ap, subst, arith}
use Rattle.std.proofs.lemmas.Bool.{cases_Bool, false≢true}
use Rattle.disk_model.specs.Crash.{Keeps}
use Rattle.extent_list.specs.Space.{end_of}
use Rattle.block_mgr.specs.declared.cell.Cell.{Cell}
use Rattle.block_mgr.specs.Blocks.{Books, Has}
use Rattle.block_mgr.specs.Cells.{cell_at}
use Rattle.checkpoint_core.proofs.Holding.{in_use_same, still_long}
use Rattle.checkpoint_core.specs.Stands.{Stands as StandsHere, blocks_of}
use Rattle.device_layout.specs.declared.addr.Addr.{Addr}
use Rattle.device_layout.specs.declared.link.Link.{Link}
use Rattle.engine_world.proofs.Homes.{same-id}
use Rattle.engine_world.specs.Evicting.{led_out, with_rows}
use Rattle.engine_world.specs.Stands.{Engine, Stands}
use Rattle.engine_world.specs.Worlds.{World}
use Rattle.kv_model.specs.Holds.{Member}
use Rattle.kv_model.specs.History.{Table}
use Rattle.leaf_write.specs.Adds.{AreAdded, with_all_fresh}
use Rattle.row_page.specs.Rows.{Row}
use Rattle.stamp.specs.declared.Name.{Name}
use Rattle.stored.specs.Stored.{Stored}
use Rattle.tree_dir.specs.declared.leaf.Leaf.{Leaf}
use Rattle.tree_dir.specs.Leaves.{Directory, leaves_of}
use Rattle.tree_open.specs.declared.place.TreePlace.{TreePlace}
use Rattle.tree_write.specs.Captures.{MayWrite}
use Rattle.tree_write.specs.Drafts.{AreLiveLeaves}
use Rattle.tree_write.specs.Steps.{links_in}
use Rattle.tree_write.specs.Writes.{LeadApart}
use Rattle.ckpt_step.specs.declared.ground.Ground.{Ground}
use Rattle.ckpt_step.specs.declared.lives.Lone.{Lone}
use Rattle.ckpt_step.specs.CutOuts.{IsSameBut, LetGo}
use Rattle.ckpt_step.specs.Floors.{AreLivesOn, AreOnDevice, Follows, FollowsFrom}
use Rattle.ckpt_step.specs.Frees.{without, without_all}
use Rattle.ckpt_step.specs.Grounds.{AreLedTo, AreLone, AreRoots, AreSince, AreWritten, IsLedTo, StandsOn, start_cell}
use Rattle.ckpt_step.specs.Holding.{addrs_if, gone_at, gone_if, own_of}
use Rattle.ckpt_step.specs.Lives.{has_at, is_live}
use Rattle.ckpt_step.specs.Parts.{parts_of}
use Rattle.ckpt_step.specs.Rooms.{Written, known_in}
use Rattle.ckpt_step.proofs.DeadLones.{device_fewer, follows_fewer, live_fewer, roots_fewer, since_fewer, written_fewer}
use Rattle.ckpt_step.proofs.LeavesNow.{device_kept}
use Rattle.ckpt_step.proofs.LedLives.{IsImageLed, IsLed, device_led, follows_led, live_led, roots_led, since_led, written_led}
use Rattle.ckpt_step.proofs.LedOut.{led_leaves, led_there, stays_there, which}
use Rattle.ckpt_step.proofs.LonesMore.{gone_from, gone_none, none_of, of_none}
use Rattle.ckpt_step.proofs.Lones.{none_found_at}
use Rattle.ckpt_step.proofs.OldBlocks.{in_use_less}
use Rattle.ckpt_step.proofs.OutBlocks.{cells_less, cells_next, lone_next}
use Rattle.ckpt_step.proofs.OutLives.{led_live}
use Rattle.ckpt_step.proofs.OutWay.{table_apart, table_there}

-- new: no block of a leaf that was written since begins where the new one does
module _ (seen later : List ℕ) (images left : List ℕ → Type 0) (e : Engine) (w v : World) (g g' : Ground) (old : Option Stored) (l : Leaf) (link : Link) (rows : List Row) (next : List Lone) (stands : Stands e w) (on : StandsOn seen images e.hub g old) (follows : Follows old e.hub g v) (device : AreLivesOn seen e.hub g v)
    (o : IsLed e.hub.dir l link (known_in g.parts) (known_in g'.parts) g.lives next) (own : IsImageLed later v.machine e.hub.dir.leaves l link rows) (new : has_at g.lives link.addr.offset ≡ false)
    (books : Books) (added : AreAdded g.place.blocks (link.addr ∷ []) books) (may : MayWrite later left books old) (keeps : Keeps (Has g.place.blocks.cells) seen later) (within : end_of books.space ≤ length later) (held : books.is_held ≡ g.place.blocks.is_held)
    (lives_are : g'.lives ≡ gone_if next (own_of g.lives (Some l))) (blocks : LetGo books g'.place.blocks (addrs_if (own_of g.lives (Some l)))) (same : IsSameBut g g') where
  abbrev d : Directory
  d = e.hub.dir

  abbrev n : Directory
  n = record e.hub.dir { leaves = led_leaves e.hub.dir l link }

  abbrev had : Written
  had = known_in g.parts

  abbrev has : Written
  has = known_in g'.parts

  abbrev known : List Table
  known = e.hub.tables.tables

  owned : (i : ℕ) × (t : Table) × (slice_get known i ≡ Some t) × (l.table ≡ t.number)
  owned = stands.owned l o.there

  of_addr : (a : Addr) → Member a (link.addr ∷ []) → (x : Leaf) × Member x (led_out link l ∷ []) × (x.entry.link.addr ≡ a)
  of_addr a (inl is) = (led_out link l, inl refl, sym is)
  of_addr a (inr none) = absurd none

  to_addr : (x : Leaf) → Member x (led_out link l ∷ []) → Member x.entry.link.addr (link.addr ∷ [])
  to_addr x (inl is) = inl (ap (λ (y : Leaf). y.entry.link.addr) is)
  to_addr x (inr none) = absurd none

  -- ---- with its former block

  lone_now : AreLone old next
  lone_now = lone_next old g.lives on.since.lone g.place.blocks on.cells next (led_out link l ∷ []) o.more (link.addr ∷ []) added.placed added.distinct to_addr of_addr

  cells_now : (u : ℕ) → cell_at books.cells u ≡ start_cell old next u
  cells_now u =
      added.cells u
      ∙ (ap (λ (c : Cell). with_all_fresh u c (link.addr ∷ [])) (on.cells u) ∙ cells_next old g.lives on.since.lone g.place.blocks on.cells next (led_out link l ∷ []) o.more (link.addr ∷ []) added.placed added.distinct to_addr of_addr u)

  roots_now : AreRoots known next n.leaves has g.trees.items old
  roots_now = roots_led d l link had has g.lives next o known g.trees.items old on.roots

  written_now : AreWritten known next n has g.trees.items
  written_now = written_led d l link had has g.lives next o known g.trees.items on.written

  there_now : AreLiveLeaves g.place.blocks (links_in (parts_of had (leaves_of l.table d.leaves)))
  there_now = subst (λ (k : ℕ). AreLiveLeaves g.place.blocks (links_in (parts_of had (leaves_of k d.leaves)))) (sym owned.3) (table_there seen images e w g old stands on owned.0 owned.1 owned.2)

  apart_now : LeadApart (links_in (parts_of had (leaves_of l.table d.leaves)))
  apart_now = subst (λ (k : ℕ). LeadApart (links_in (parts_of had (leaves_of k d.leaves)))) (sym owned.3) (table_apart seen images e w g old stands on owned.0 owned.1 owned.2)

  since_now : AreSince old next n has
  since_now = since_led d l link had has g.lives next o own.leads g.place.blocks added.placed.0 there_now apart_now old on.since lone_now

  -- each but the leaf's former one is that of a leaf that is there
  led_now : (x : Lone) → Member x next → (Member x g.lives → x.addr ≡ l.entry.link.addr → is_live g.lives l ≡ true → ⊥) → IsLedTo known n.leaves x
  led_now x mine other = elim (o.more.from x mine) [
    | inl was ↦
        (let one = on.led x was in
        record { leaf = one.leaf; there = stays_there d l link o.was o.there one.leaf one.there (stays was one); id = one.id; addr = one.addr; place = one.place; table = one.table; at = one.at; own = one.own })
    | inr (m, own_one, same) ↦ elim own_one [
      | inl is ↦ record {
        leaf = led_out link l;
        there = led_there d l link o.was o.there;
        id = ap (λ (y : Leaf). y.id) (sym is) ∙ ap (λ (y : Lone). y.leaf) (sym same);
        addr = ap (λ (y : Leaf). y.entry.link.addr) (sym is) ∙ ap (λ (y : Lone). y.addr) (sym same);
        place = owned.0;
        table = owned.1;
        at = owned.2;
        own = owned.3;
      }
      | inr none ↦ absurd none
    ]
  ]
    where
      stays : Member x g.lives → (one : IsLedTo known d.leaves x) → one.leaf.id ≡ l.id → ⊥
      stays was one same =
          let it : one.leaf ≡ l = same-id d one.leaf l o.was one.there o.there same in
          other was (sym one.addr ∙ ap (λ (y : Leaf). y.entry.link.addr) it) (subst (λ (y : Leaf). is_live g.lives y ≡ true) it (led_live known g.lives d.leaves x on.since.lone.distinct was one))

  abbrev then_world : World
  then_world = with_rows l.id rows v

  follows_now : FollowsFrom old known next n.leaves has g.trees.items g.floor then_world
  follows_now = follows_led d l link had has g.lives next o later v rows own g.floor old known g.trees.items follows

  device_later : AreOnDevice later g.lives d.leaves v.shelf
  device_later = device_kept seen later g.place.blocks old g.lives d had on.since on.cells on.units on.within keeps v.shelf device

  device_now : AreOnDevice later next n.leaves then_world.shelf
  device_now = device_led d l link had has g.lives next o later v rows own device_later

  -- ---- the ground then

  -- what was written since, less the leaf's former block
  pub record AreLess (fewer : List Lone) : Type 0 where
    pub cells : (u : ℕ) → cell_at g'.place.blocks.cells u ≡ start_cell old fewer u
    pub used : StandsHere later left g'.place.blocks old
    pub roots : AreRoots known fewer n.leaves has g.trees.items old
    pub written : AreWritten known fewer n has g.trees.items
    pub since : AreSince old fewer n has
    pub led : AreLedTo known fewer n.leaves
    pub follow_on : FollowsFrom old known fewer n.leaves has g.trees.items g.floor then_world
    pub on_disk : AreOnDevice later fewer n.leaves then_world.shelf
    pub live : is_live fewer (led_out link l) ≡ true
    pub freed : is_live g.lives l ≡ true → has_at fewer l.entry.link.addr.offset ≡ false

  -- it was not written since
  all_stay : is_live g.lives l ≡ false → (u : ℕ) → cell_at g'.place.blocks.cells u ≡ cell_at books.cells u
  all_stay dead u = blocks.cells u ∙ ap (λ (a : List Addr). without_all u (cell_at books.cells u) a) (ap addrs_if (own_none dead))
    where
      own_none : is_live g.lives l ≡ false → own_of g.lives (Some l) ≡ None
      own_none dead = rw dead refl

  not_since : is_live g.lives l ≡ false → AreLess next
  not_since dead = record {
    cells = λ u. all_stay dead u ∙ cells_now u;
    used = record {
      seen_has = may.stands.seen_has;
      images_have = λ is. may.stands.images_have (sym blocks.synced ∙ is);
      in_use = in_use_same books.cells g'.place.blocks.cells (blocks_of old) (all_stay dead) may.stands.in_use;
    };
    roots = roots_now;
    written = written_now;
    since = since_now;
    led = λ x mine. led_now x mine (λ was at live. false≢true (sym dead ∙ live));
    follow_on = follows_now;
    on_disk = device_now;
    live = live_led d l link had has g.lives next o;
    freed = λ live. absurd (false≢true (sym dead ∙ live));
  }

  -- it was
  module _ (live : is_live g.lives l ≡ true) where
    abbrev mine : Lone
    mine = record { leaf = l.id; addr = l.entry.link.addr }

    mine_had : Member mine g.lives
    mine_had = (on.since.leaf l o.there live).there

    mine_in : Member mine next
    mine_in = o.more.keeps mine mine_had

    -- no leaf leads there any more
    gone_from_it : (x : Leaf) → Contains n.leaves x → x.id ≡ l.id → x.entry.link.addr.offset ≡ l.entry.link.addr.offset → ⊥
    gone_from_it x c same_id at = elim (which d l link o.was o.there x c) [
      | inl is ↦ none_of g.lives link.addr.offset new mine mine_had (sym at ∙ ap (λ (y : Leaf). y.entry.link.addr.offset) is)
      | inr old_one ↦ old_one.1 same_id
    ]

    own_some : own_of g.lives (Some l) ≡ Some l.entry.link.addr
    own_some = rw live refl

    one_goes : (u : ℕ) → cell_at g'.place.blocks.cells u ≡ without u (cell_at books.cells u) l.entry.link.addr
    one_goes u = blocks.cells u ∙ ap (λ (a : List Addr). without_all u (cell_at books.cells u) a) (ap addrs_if own_some)

    was_since : AreLess (gone_at next l.entry.link.addr.offset)
    was_since = record {
      cells = λ u. one_goes u ∙ (ap (λ (c : Cell). without u c l.entry.link.addr) (cells_now u) ∙ cells_less old next lone_now mine mine_in u);
      used = record {
        seen_has = may.stands.seen_has;
        images_have = λ is. may.stands.images_have (sym blocks.synced ∙ is);
        in_use = in_use_less later old books.cells g'.place.blocks.cells l.entry.link.addr may.stands.seen_has (λ u at. none_found_at old next lone_now u mine mine_in at) one_goes may.stands.in_use;
      };
      roots = roots_fewer old next lone_now mine mine_in n.leaves gone_from_it known has g.trees.items old roots_now;
      written = written_fewer old next lone_now mine mine_in n gone_from_it has known g.trees.items written_now;
      since = since_fewer old next lone_now mine mine_in n gone_from_it has since_now;
      led = λ x there. led_now x (gone_from l.entry.link.addr.offset next x there) (λ was at own. gone_none l.entry.link.addr.offset next lone_now.distinct x there (ap (λ (a : Addr). a.offset) at));
      follow_on = follows_fewer old next lone_now mine mine_in n.leaves gone_from_it old known has g.trees.items g.floor then_world follows_now;
      on_disk = device_fewer old next lone_now mine mine_in n.leaves gone_from_it later then_world.shelf device_now;
      live = live_fewer old next lone_now mine mine_in n.leaves gone_from_it (led_out link l) (led_there d l link o.was o.there) ∙ live_led d l link had has g.lives next o;
      freed = λ is. of_none (gone_at next l.entry.link.addr.offset) l.entry.link.addr.offset (gone_none l.entry.link.addr.offset next lone_now.distinct);
    }

  less : AreLess g'.lives
  less = elim (cases_Bool (is_live g.lives l)) [
    | inr dead ↦ (let none : own_of g.lives (Some l) ≡ None = rw dead refl in subst AreLess (sym (lives_are ∙ ap (gone_if next) none)) (not_since dead))
    | inl live ↦ subst AreLess (sym (lives_are ∙ ap (gone_if next) (own_some live))) (was_since live)
  ]

  pub stands_led : StandsOn later left (record e.hub { dir = n }) g' old
  stands_led = record {
    stands = less.used;
    number = same.number ∙ on.number;
    slot = same.slot ∙ on.slot;
    cells = less.cells;
    units = blocks.units may.units;
    idle = blocks.held ∙ (held ∙ on.idle);
    long = still_long old later may.stands.seen_has;
    within = omega (arith, within, blocks.end);
    history = ap (λ (v : Vec Addr Global). v.items) same.history ∙ on.history;
    roots = subst (λ (places : List TreePlace). AreRoots known g'.lives n.leaves has places old) (sym (ap (λ (p : Vec TreePlace Global). p.items) same.trees)) less.roots;
    written = subst (λ (places : List TreePlace). AreWritten known g'.lives n has places) (sym (ap (λ (p : Vec TreePlace Global). p.items) same.trees)) less.written;
    since = less.since;
    led = less.led;
  }

  pub follows_ground : Follows old (record e.hub { dir = n }) g' (with_rows l.id rows v)
  follows_ground =
      subst (λ (places : List TreePlace). FollowsFrom old known g'.lives n.leaves has places g'.floor then_world) (sym (ap (λ (p : Vec TreePlace Global). p.items) same.trees))
      (subst (λ (floor : Name). FollowsFrom old known g'.lives n.leaves has g.trees.items floor then_world) (sym same.floor) less.follow_on)

  pub device_ground : AreLivesOn later (record e.hub { dir = n }) g' (with_rows l.id rows v)
  device_ground = less.on_disk

  pub live_ground : is_live g'.lives (led_out link l) ≡ true
  live_ground = less.live

  pub freed_ground : is_live g.lives l ≡ true → has_at g'.lives l.entry.link.addr.offset ≡ false
  freed_ground = less.freed
