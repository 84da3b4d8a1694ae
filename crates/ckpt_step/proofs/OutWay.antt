-- A leaf that was written out gives way: the next checkpoint stands on the ground of before, with the blocks of the leaves in its place.
use Rattle.std.specs.Prelude.{◌≡◌, ℕ, ◌≤◌, true, false, List, [], ◌∷◌, ◌++◌, length, Option, None, Some, Vec, slice_get, refl}
use Rattle.std.specs.declared.alloc.Global.{Global}
use Rattle.std.specs.List.{AllByRecursion, Contains}
use Rattle.std.proofs.Common.{inl, inr, sym, ◌∙◌, ap, subst, arith}
use Rattle.std.proofs.lemmas.Bool.{cases_Bool, false≢true}
use Rattle.disk_model.specs.Crash.{Keeps}
use Rattle.extent_list.specs.Space.{end_of}
use Rattle.block_mgr.specs.declared.cell.Cell.{Cell}
use Rattle.block_mgr.specs.Blocks.{Books, Has}
use Rattle.block_mgr.specs.Cells.{cell_at}
use Rattle.checkpoint_core.proofs.Holding.{in_use_same, still_long}
use Rattle.checkpoint_core.specs.Stands.{Stands as StandsHere, blocks_of}
use Rattle.device_layout.specs.declared.addr.Addr.{Addr}
use Rattle.device_layout.specs.declared.link.Link.{Link}
use Rattle.engine_world.proofs.Homes.{same-id}
use Rattle.engine_world.specs.Stands.{Engine, Stands}
use Rattle.engine_world.specs.Worlds.{World}
use Rattle.kv_model.specs.Holds.{Member}
use Rattle.kv_model.specs.History.{Table}
use Rattle.leaf_write.specs.Adds.{AreAdded, with_all_fresh}
use Rattle.row_page.specs.Rows.{Row}
use Rattle.stamp.specs.declared.Name.{Name}
use Rattle.stored.specs.Stored.{Stored}
use Rattle.stored.specs.TableTree.{Entry, root_entry}
use Rattle.stored.specs.Tree.{join}
use Rattle.tree_dir.specs.declared.leaf.Leaf.{Leaf}
use Rattle.tree_dir.specs.Leaves.{Directory, leaves_of, leaves_with}
use Rattle.tree_open.specs.declared.place.TreePlace.{TreePlace}
use Rattle.tree_write.specs.Captures.{MayWrite}
use Rattle.tree_write.specs.Drafts.{AreLiveLeaves, HasLeaves, addrs_to}
use Rattle.tree_write.specs.Steps.{links_in}
use Rattle.tree_write.specs.Writes.{IsLiveLeaf, LeadApart}
use Rattle.ckpt_step.specs.declared.ground.Ground.{Ground}
use Rattle.ckpt_step.specs.declared.lives.Lone.{Lone}
use Rattle.ckpt_step.specs.CutOuts.{AreShelved, IsSameBut, LetGo}
use Rattle.ckpt_step.specs.Floors.{AreLivesOn, AreOnDevice, Follows, FollowsFrom}
use Rattle.ckpt_step.specs.Frees.{without, without_all}
use Rattle.ckpt_step.specs.Goings.{HasPartsAt}
use Rattle.ckpt_step.specs.Grounds.{AreLedTo, AreLone, AreRoots, AreSince, AreWritten, IsLedTo, StandsOn, start_cell}
use Rattle.ckpt_step.specs.Holding.{addrs_if, gone_at, gone_if, own_of}
use Rattle.ckpt_step.specs.Lives.{has_at, is_live}
use Rattle.ckpt_step.specs.Parts.{has_rows, part_of, parts_of}
use Rattle.ckpt_step.specs.Rooms.{Written, known_in}
use Rattle.ckpt_step.specs.Trees.{leaves_at}
use Rattle.ckpt_step.proofs.DeadLones.{device_fewer, follows_fewer, live_fewer, roots_fewer, since_fewer, written_fewer}
use Rattle.ckpt_step.proofs.GivingLeaves.{other_id}
use Rattle.ckpt_step.proofs.LeavesNow.{device_kept}
use Rattle.ckpt_step.proofs.Links.{some_rows}
use Rattle.ckpt_step.proofs.LonesMore.{gone_from, gone_none, of_none}
use Rattle.ckpt_step.proofs.Lones.{lone_old, none_found_at}
use Rattle.ckpt_step.proofs.Members.{all_of, map_member}
use Rattle.ckpt_step.proofs.OldBlocks.{in_use_less}
use Rattle.ckpt_step.proofs.OldParts.{part_at, unwritten_part}
use Rattle.ckpt_step.proofs.OldTrees.{are_live_leaves, leaves_apart, leaves_there, live_of_old}
use Rattle.ckpt_step.proofs.OutBlocks.{cells_less, cells_next, lone_next}
use Rattle.ckpt_step.proofs.OutFollows.{device_out, follows_out}
use Rattle.ckpt_step.proofs.OutLives.{IsOut, giving, led_live, live_new, over}
use Rattle.ckpt_step.proofs.OutParts.{roots_out, since_out, written_out}
use Rattle.ckpt_step.proofs.OutShelf.{AreImagesOut, shelf_out, shelved_out}
use Rattle.ckpt_step.proofs.TableLeaves.{contains_of, in_table}
use Rattle.ckpt_step.proofs.TableParts.{has_parts}
use Rattle.ckpt_step.proofs.UnderMade.{made_entry}
use Rattle.ckpt_step.proofs.WithParts.{part_none}
use Rattle.kv_model.specs.Machine.{of_some}

-- ---- what leads to the parts of a table is there

live_both : (books : Books) (xs ys : List Entry) → AreLiveLeaves books (links_in xs) → AreLiveLeaves books (links_in ys) → AreLiveLeaves books (links_in (xs ++ ys))
live_both books [] ys one two = two
live_both books (x ∷ xs) ys one two = (one.0, live_both books xs ys one.1 two)

live_parts : (books : Books) (had : Written) (leaves : List Leaf) → ((x : Leaf) → Member x leaves → AreLiveLeaves books (links_in (part_of had x))) → AreLiveLeaves books (links_in (parts_of had leaves))
live_parts books had [] each = tt
live_parts books had (x ∷ leaves) each = live_both books (part_of had x) (parts_of had leaves) (each x (inl refl)) (live_parts books had leaves (λ y there. each y (inr there)))

live_links : (books : Books) (es : List Entry) → ((e : Entry) → Member e es → IsLiveLeaf books e.link) → AreLiveLeaves books (links_in es)
live_links books [] each = tt
live_links books (e ∷ es) each = (each e (inl refl), live_links books es (λ x there. each x (inr there)))

module _ (seen : List ℕ) (images : List ℕ → Type 0) (e : Engine) (w : World) (g : Ground) (old : Option Stored) (stands : Stands e w) (on : StandsOn seen images e.hub g old) where
  abbrev had_of : Written
  had_of = known_in g.parts

  module _ (i : ℕ) (t : Table) (at : slice_get e.hub.tables.tables i ≡ Some t) where
    lead_at : LeadApart (leaves_at g.trees.items i)
    lead_at = leaves_apart seen images g.place.blocks e.hub.tables.tables e.hub.tables.next stands.catalog.numbers g.lives e.hub.dir.leaves (known_in g.parts) g.trees.items old on.stands on.roots on.since.lone on.cells on.units i

    links_at : AllByRecursion (λ (link : Link). IsLiveLeaf g.place.blocks link) (leaves_at g.trees.items i)
    links_at = are_live_leaves seen images g.place.blocks e.hub.tables.tables e.hub.tables.next stands.catalog.numbers g.lives e.hub.dir.leaves (known_in g.parts) g.trees.items old on.stands on.roots on.since.lone on.cells on.units i

    parts_at : HasPartsAt old g.lives e.hub.dir.leaves (known_in g.parts) g.trees.items t i
    parts_at = has_parts old e.hub.tables.tables g.lives e.hub.dir (known_in g.parts) g.trees.items t i on.roots on.written on.since at lead_at

    -- what leads to a leaf's part is in the live tree
    part_there : (x : Leaf) → Contains e.hub.dir.leaves x → x.table ≡ t.number → AreLiveLeaves g.place.blocks (links_in (part_of (known_in g.parts) x))
    part_there x c own = elim (cases_Bool (is_live g.lives x)) [
      | inr dead ↦ elim (part_at old g.lives e.hub.dir.leaves (known_in g.parts) g.trees.items t i x parts_at c own dead) [
        | inr none ↦ subst (λ (es : List Entry). AreLiveLeaves g.place.blocks (links_in es)) (sym (part_none (known_in g.parts) x none.none)) tt
        | inl one ↦ live_links g.place.blocks (part_of (known_in g.parts) x) (λ y mine.
            let link = one.parted.among x c own dead y mine in
            all_of (λ (k : Link). IsLiveLeaf g.place.blocks k) (leaves_at g.trees.items i) y.link links_at (subst (λ (m : List Link). Member y.link m) (sym (leaves_there g.trees.items i one.place one.at)) link.0))
      ]
      | inl live ↦ elim (unwritten_part (known_in g.parts) x (on.since.leaf x c live).none) [
        | inl none ↦ subst (λ (es : List Entry). AreLiveLeaves g.place.blocks (links_in es)) (sym (part_none (known_in g.parts) x none)) tt
        | inr one ↦
            let part : part_of (known_in g.parts) x ≡ x.entry ∷ [] = ap (λ (o : Option (List Entry)). of_some [] (λ (es : List Entry). es) o) one in
            let block = live_of_old old g.lives g.place.blocks x.entry.link.addr on.cells (lone_old old g.lives on.since.lone (record { leaf = x.id; addr = x.entry.link.addr }) (on.since.leaf x c live).there) in
            subst (λ (es : List Entry). AreLiveLeaves g.place.blocks (links_in es)) (sym part) (inr block, tt)
      ]
    ]

    pub table_there : AreLiveLeaves g.place.blocks (links_in (parts_of (known_in g.parts) (leaves_of t.number e.hub.dir.leaves)))
    table_there = live_parts g.place.blocks (known_in g.parts) (leaves_of t.number e.hub.dir.leaves) (λ x there. let one = in_table t.number e.hub.dir.leaves x there in part_there x (contains_of e.hub.dir.leaves x one.0) one.1)

    pub table_apart : LeadApart (links_in (parts_of (known_in g.parts) (leaves_of t.number e.hub.dir.leaves)))
    table_apart = parts_at.apart

-- leaves that are there with rows lead to rows
rows_lead : (bytes : List ℕ) (es : List Entry) (images : List (List Row)) → HasLeaves bytes es images → AllByRecursion (λ (rows : List Row). 1 ≤ length rows) images → (e : Entry) → Member e es → has_rows e.link ≡ true
rows_lead bytes [] images has some e there = absurd there
rows_lead bytes (x ∷ es) [] has some e there = absurd has
rows_lead bytes (x ∷ es) (rows ∷ images) has some e (inl same) = subst (λ (y : Entry). has_rows y.link ≡ true) (sym same) (some_rows (root_entry x.link) rows has.0.1.bears some.0)
rows_lead bytes (x ∷ es) (rows ∷ images) has some e (inr later) = rows_lead bytes es images has.1 some.1 e later

-- each address is that of a leaf
addr_leaf : (table : ℕ) (ids : List ℕ) (es : List Entry) → length ids ≡ length es → (a : Addr) → Member a (addrs_to es) → (n : Leaf) × Member n (leaves_with table ids es) × (n.entry.link.addr ≡ a)
addr_leaf table [] [] many a there = absurd there
addr_leaf table [] (e ∷ es) many a there = absurd (omega (arith, many))
addr_leaf table (id ∷ ids) [] many a there = absurd there
addr_leaf table (id ∷ ids) (e ∷ es) many a (inl same) = (record { id = id; table = table; entry = e; frame = None }, inl refl, sym same)
addr_leaf table (id ∷ ids) (e ∷ es) many a (inr later) = let rest = addr_leaf table ids es (omega (arith, many)) a later in (rest.0, inr rest.1, rest.2)

-- ---- once the blocks are there, and the leaf gave way

-- own: where the leaf's own block stands, which is let go of, if it was written since
module _ (seen later : List ℕ) (images left : List ℕ → Type 0) (e : Engine) (n : Directory) (w : World) (g g' : Ground) (old : Option Stored) (l : Leaf) (entries : List Entry) (ids : List ℕ) (next : List Lone) (stands : Stands e w) (on : StandsOn seen images e.hub g old) (follows : Follows old e.hub g w) (device : AreLivesOn seen e.hub g w)
    (o : IsOut e.hub.dir n l entries ids (known_in g.parts) (known_in g'.parts) g.lives next) (first : Leaf) (first_in : Member first (leaves_with l.table ids entries)) (rows : List (List Row)) (own : AreImagesOut later w.machine e.hub.dir.leaves l entries rows)
    (books : Books) (added : AreAdded g.place.blocks (addrs_to entries) books) (may : MayWrite later left books old) (keeps : Keeps (Has g.place.blocks.cells) seen later) (within : end_of books.space ≤ length later) (held : books.is_held ≡ g.place.blocks.is_held)
    (lives_are : g'.lives ≡ gone_if next (own_of g.lives (Some l))) (blocks : LetGo books g'.place.blocks (addrs_if (own_of g.lives (Some l)))) (same : IsSameBut g g') where
  abbrev d : Directory
  d = e.hub.dir

  abbrev had : Written
  had = known_in g.parts

  abbrev has : Written
  has = known_in g'.parts

  abbrev known : List Table
  known = e.hub.tables.tables

  owned : (i : ℕ) × (t : Table) × (slice_get known i ≡ Some t) × (l.table ≡ t.number)
  owned = stands.owned l o.there

  some_lead : (x : Entry) → Member x entries → has_rows x.link ≡ true
  some_lead = rows_lead later entries rows own.has own.part.some

  in_entries : (x : Leaf) → Contains (leaves_with l.table ids entries) x → Member x.entry entries
  in_entries x c = made_entry l.table ids entries x c

  of_addr : (a : Addr) → Member a (addrs_to entries) → (x : Leaf) × Member x (leaves_with l.table ids entries) × (x.entry.link.addr ≡ a)
  of_addr = addr_leaf l.table ids entries o.gave.fresh.many

  to_addr : (x : Leaf) → Member x (leaves_with l.table ids entries) → Member x.entry.link.addr (addrs_to entries)
  to_addr x there = map_member {A = Entry} {B = Addr} (λ y. y.link.addr) x.entry entries (in_entries x (contains_of (leaves_with l.table ids entries) x there))

  -- ---- with its own block

  lone_now : AreLone old next
  lone_now = lone_next old g.lives on.since.lone g.place.blocks on.cells next (leaves_with l.table ids entries) o.more (addrs_to entries) added.placed added.distinct to_addr of_addr

  cells_now : (u : ℕ) → cell_at books.cells u ≡ start_cell old next u
  cells_now u =
      added.cells u
      ∙ (ap (λ (c : Cell). with_all_fresh u c (addrs_to entries)) (on.cells u) ∙ cells_next old g.lives on.since.lone g.place.blocks on.cells next (leaves_with l.table ids entries) o.more (addrs_to entries) added.placed added.distinct to_addr of_addr u)

  roots_now : AreRoots known next n.leaves has g.trees.items old
  roots_now = roots_out d n l entries ids had has g.lives next o first first_in known g.trees.items old on.roots

  written_now : AreWritten known next n has g.trees.items
  written_now = written_out d n l entries ids had has g.lives next o first first_in known g.trees.items on.written

  there_now : AreLiveLeaves g.place.blocks (links_in (parts_of had (leaves_of l.table d.leaves)))
  there_now = subst (λ (k : ℕ). AreLiveLeaves g.place.blocks (links_in (parts_of had (leaves_of k d.leaves)))) (sym owned.3) (table_there seen images e w g old stands on owned.0 owned.1 owned.2)

  apart_now : LeadApart (links_in (parts_of had (leaves_of l.table d.leaves)))
  apart_now = subst (λ (k : ℕ). LeadApart (links_in (parts_of had (leaves_of k d.leaves)))) (sym owned.3) (table_apart seen images e w g old stands on owned.0 owned.1 owned.2)

  since_now : AreSince old next n has
  since_now = since_out d n l entries ids had has g.lives next o some_lead in_entries g.place.blocks added.placed added.distinct there_now apart_now old on.since lone_now

  -- each but the leaf's own is that of a leaf that is there
  led_now : (x : Lone) → Member x next → (Member x g.lives → x.addr ≡ l.entry.link.addr → is_live g.lives l ≡ true → ⊥) → IsLedTo known n.leaves x
  led_now x mine other = elim (o.more.from x mine) [
    | inl was ↦ (let one = on.led x was in record { leaf = one.leaf; there = o.stand.others one.leaf one.there (stays was one); id = one.id; addr = one.addr; place = one.place; table = one.table; at = one.at; own = one.own })
    | inr (m, own, same) ↦
        let c = contains_of (leaves_with l.table ids entries) m own in
        record {
          leaf = m;
          there = o.stand.news m c;
          id = ap (λ (y : Lone). y.leaf) (sym same);
          addr = ap (λ (y : Lone). y.addr) (sym same);
          place = owned.0;
          table = owned.1;
          at = owned.2;
          own = (o.stand.own m c).0 ∙ owned.3;
        }
  ]
    where
      stays : Member x g.lives → (one : IsLedTo known d.leaves x) → one.leaf.id ≡ l.id → ⊥
      stays was one same =
          let it : one.leaf ≡ l = same-id d one.leaf l o.was one.there o.there same in
          other was (sym one.addr ∙ ap (λ (y : Leaf). y.entry.link.addr) it) (subst (λ (y : Leaf). is_live g.lives y ≡ true) it (led_live known g.lives d.leaves x on.since.lone.distinct was one))

  abbrev pub shelf : ℕ → List Row
  shelf = shelf_out d n l entries ids had has g.lives next o later w.machine rows own w.shelf

  follows_now : FollowsFrom old known next n.leaves has g.trees.items g.floor (record w { shelf = shelf })
  follows_now = follows_out d n l entries ids had has g.lives next o later w rows own some_lead g.floor old known g.trees.items follows

  device_later : AreOnDevice later g.lives d.leaves w.shelf
  device_later = device_kept seen later g.place.blocks old g.lives d had on.since on.cells on.units on.within keeps w.shelf device

  device_now : AreOnDevice later next n.leaves shelf
  device_now = device_out d n l entries ids had has g.lives next o later w rows own some_lead device_later

  -- ---- the ground then

  -- what was written since, less the leaf's own block
  pub record AreLess (fewer : List Lone) : Type 0 where
    pub cells : (u : ℕ) → cell_at g'.place.blocks.cells u ≡ start_cell old fewer u
    pub used : StandsHere later left g'.place.blocks old
    pub roots : AreRoots known fewer n.leaves has g.trees.items old
    pub written : AreWritten known fewer n has g.trees.items
    pub since : AreSince old fewer n has
    pub led : AreLedTo known fewer n.leaves
    pub follow_on : FollowsFrom old known fewer n.leaves has g.trees.items g.floor (record w { shelf = shelf })
    pub on_disk : AreOnDevice later fewer n.leaves shelf
    pub live : (x : Leaf) → Contains (leaves_with l.table ids entries) x → is_live fewer x ≡ true
    pub freed : is_live g.lives l ≡ true → has_at fewer l.entry.link.addr.offset ≡ false

  -- it was not written since
  all_stay : is_live g.lives l ≡ false → (u : ℕ) → cell_at g'.place.blocks.cells u ≡ cell_at books.cells u
  all_stay dead u = blocks.cells u ∙ ap (λ (a : List Addr). without_all u (cell_at books.cells u) a) (ap addrs_if (own_none dead))
    where
      own_none : is_live g.lives l ≡ false → own_of g.lives (Some l) ≡ None
      own_none dead = rw dead refl

  not_since : is_live g.lives l ≡ false → AreLess next
  not_since dead = record {
    cells = λ u. all_stay dead u ∙ cells_now u;
    used = record {
      seen_has = may.stands.seen_has;
      images_have = λ is. may.stands.images_have (sym blocks.synced ∙ is);
      in_use = in_use_same books.cells g'.place.blocks.cells (blocks_of old) (all_stay dead) may.stands.in_use;
    };
    roots = roots_now;
    written = written_now;
    since = since_now;
    led = λ x mine. led_now x mine (λ was at live. false≢true (sym dead ∙ live));
    follow_on = follows_now;
    on_disk = device_now;
    live = λ x c. live_new d n l entries ids had has g.lives next o x c;
    freed = λ live. absurd (false≢true (sym dead ∙ live));
  }

  -- it was
  module _ (live : is_live g.lives l ≡ true) where
    abbrev mine : Lone
    mine = record { leaf = l.id; addr = l.entry.link.addr }

    mine_in : Member mine next
    mine_in = o.more.keeps mine (on.since.leaf l o.there live).there

    gone_id : (x : Leaf) → Contains n.leaves x → x.id ≡ l.id → x.entry.link.addr.offset ≡ l.entry.link.addr.offset → ⊥
    gone_id x c same_id at = other_id d n l entries ids (over d n l entries ids had has g.lives next o) has (giving d n l entries ids had has g.lives next o) x c same_id

    own_some : own_of g.lives (Some l) ≡ Some l.entry.link.addr
    own_some = rw live refl

    one_goes : (u : ℕ) → cell_at g'.place.blocks.cells u ≡ without u (cell_at books.cells u) l.entry.link.addr
    one_goes u = blocks.cells u ∙ ap (λ (a : List Addr). without_all u (cell_at books.cells u) a) (ap addrs_if own_some)

    was_since : AreLess (gone_at next l.entry.link.addr.offset)
    was_since = record {
      cells = λ u. one_goes u ∙ (ap (λ (c : Cell). without u c l.entry.link.addr) (cells_now u) ∙ cells_less old next lone_now mine mine_in u);
      used = record {
        seen_has = may.stands.seen_has;
        images_have = λ is. may.stands.images_have (sym blocks.synced ∙ is);
        in_use = in_use_less later old books.cells g'.place.blocks.cells l.entry.link.addr may.stands.seen_has (λ u at. none_found_at old next lone_now u mine mine_in at) one_goes may.stands.in_use;
      };
      roots = roots_fewer old next lone_now mine mine_in n.leaves gone_id known has g.trees.items old roots_now;
      written = written_fewer old next lone_now mine mine_in n gone_id has known g.trees.items written_now;
      since = since_fewer old next lone_now mine mine_in n gone_id has since_now;
      led = λ x there. led_now x (gone_from l.entry.link.addr.offset next x there) (λ was at own. gone_none l.entry.link.addr.offset next lone_now.distinct x there (ap (λ (a : Addr). a.offset) at));
      follow_on = follows_fewer old next lone_now mine mine_in n.leaves gone_id old known has g.trees.items g.floor (record w { shelf = shelf }) follows_now;
      on_disk = device_fewer old next lone_now mine mine_in n.leaves gone_id later shelf device_now;
      live = λ x c. live_fewer old next lone_now mine mine_in n.leaves gone_id x (o.stand.news x c) ∙ live_new d n l entries ids had has g.lives next o x c;
      freed = λ is. of_none (gone_at next l.entry.link.addr.offset) l.entry.link.addr.offset (gone_none l.entry.link.addr.offset next lone_now.distinct);
    }

  less : AreLess g'.lives
  less = elim (cases_Bool (is_live g.lives l)) [
    | inr dead ↦ (let none : own_of g.lives (Some l) ≡ None = rw dead refl in subst AreLess (sym (lives_are ∙ ap (gone_if next) none)) (not_since dead))
    | inl live ↦ subst AreLess (sym (lives_are ∙ ap (gone_if next) (own_some live))) (was_since live)
  ]

  pub stands_out : StandsOn later left (record e.hub { dir = n }) g' old
  stands_out = record {
    stands = less.used;
    number = same.number ∙ on.number;
    slot = same.slot ∙ on.slot;
    cells = less.cells;
    units = blocks.units may.units;
    idle = blocks.held ∙ (held ∙ on.idle);
    long = still_long old later may.stands.seen_has;
    within = omega (arith, within, blocks.end);
    history = ap (λ (v : Vec Addr Global). v.items) same.history ∙ on.history;
    roots = subst (λ (places : List TreePlace). AreRoots known g'.lives n.leaves has places old) (sym (ap (λ (v : Vec TreePlace Global). v.items) same.trees)) less.roots;
    written = subst (λ (places : List TreePlace). AreWritten known g'.lives n has places) (sym (ap (λ (v : Vec TreePlace Global). v.items) same.trees)) less.written;
    since = less.since;
    led = less.led;
  }

  pub follows_ground : Follows old (record e.hub { dir = n }) g' (record w { shelf = shelf })
  follows_ground =
      subst (λ (places : List TreePlace). FollowsFrom old known g'.lives n.leaves has places g'.floor (record w { shelf = shelf })) (sym (ap (λ (v : Vec TreePlace Global). v.items) same.trees))
      (subst (λ (floor : Name). FollowsFrom old known g'.lives n.leaves has g.trees.items floor (record w { shelf = shelf })) (sym same.floor) less.follow_on)

  pub device_ground : AreLivesOn later (record e.hub { dir = n }) g' (record w { shelf = shelf })
  device_ground = less.on_disk

  pub live_ground : (x : Leaf) → Contains (leaves_with l.table ids entries) x → is_live g'.lives x ≡ true
  live_ground = less.live

  pub freed_ground : is_live g.lives l ≡ true → has_at g'.lives l.entry.link.addr.offset ≡ false
  freed_ground = less.freed

  pub shelved_ground : AreShelved d n l (join rows) (leaves_with l.table ids entries) w.shelf shelf
  shelved_ground = shelved_out d n l entries ids had has g.lives next o later w.machine rows own w.shelf
