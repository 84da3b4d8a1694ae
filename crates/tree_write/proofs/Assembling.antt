-- A whole tree, of its leaves and its inner pages.
use Rattle.std.specs.Prelude.{◌≡◌, ℕ, suc, ◌<◌, ◌^◌, ◌≤◌, Bool, false, List, [], ◌∷◌, ◌++◌, length, map, Option, None, Result, Ok, Err, refl}
use Rattle.std.specs.List.{AllByRecursion}
use Rattle.std.proofs.Common.{inl, inr, sym, ◌∙◌, ap, subst, arith, eqb}
use Rattle.std.proofs.lemmas.Bool.{cases_Bool, cases_eq, eq-eqb, false≢true}
use Rattle.std.proofs.lemmas.List.{append-nil, map-append}
use Rattle.disk_model.specs.declared.disk.Disk.{Ghosts}
use Rattle.disk_model.proofs.Crash.{joined}
use Rattle.block_mgr.specs.Blocks.{Books}
use Rattle.block_mgr.specs.Cells.{cell_at}
use Rattle.device_layout.specs.declared.addr.Addr.{Addr}
use Rattle.device_layout.specs.declared.link.Link.{Link}
use Rattle.stamp.specs.declared.name.Name.{Name}
use Rattle.stamp.specs.Order.{is_before, later}
use Rattle.wt_code.specs.declared.store_error.StoreError.{StoreError}
use Rattle.wt_code.specs.declared.store_error.StoreError.TheVariants.{NoSpace}
use Rattle.row_page.specs.Rows.{AreRows, Row, RowFits, key_most}
use Rattle.row_page.specs.Greatest.{durables_of, greatest_in, most_in, names_of}
use Rattle.leaf_rows.specs.Rows.{AreFit}
use Rattle.reconcile.specs.declared.image.Image.{Image}
use Rattle.stored.specs.Blocks.{Block, IsAddressed, IsAt}
use Rattle.stored.specs.Links.{LinkFits, nowhere}
use Rattle.stored.specs.Records.{Root}
use Rattle.stored.specs.Stored.{Stored as Kept}
use Rattle.stored.specs.Tree.{AllBear, IsTree, Layer, bottom, inner_blocks, join, leaf_blocks, tree_blocks}
use Rattle.stored.specs.TableTree.{Bears, Climbs, Entry, Stay, TableTree, root_entry, table_kind}
use Rattle.checkpoint_core.specs.Finishes.{IsOld}
use Rattle.device_leaf.specs.NoHistory.{no_root}
use Rattle.tree_open.specs.declared.place.TreePlace.{TreePlace}
use Rattle.tree_open.specs.Trees.{HasTree, root_own}
use Rattle.tree_write.specs.Captures.{AreDistinct, Captures, IsPlaced, places_of}
use Rattle.tree_write.specs.Cuts.{AreFullLeaves, captured_blocks, risen_blocks}
use Rattle.tree_write.specs.Sizes.{LacksAll, WritesLeaves, WritesTree, page_count, page_sizes}
use Rattle.tree_write.specs.Drafts.{HasNoParts, IsCutBy, LeavesOf, PartsStopped, PartsWrite, PartsWritten, aligned, or_empty, rooted}
use Rattle.tree_write.specs.Steps.{AreSpelled, IsTop, LeavesStopped, LeavesWritten, RiseStopped, Rises, Rose, image_keys, keys_of, links_in, part_keys}
use Rattle.tree_write.specs.Writes.{AreOwn, IsNoPlace, KeepSame, LeadApart, MayWriteOver, TreeWrites}
use Rattle.tree_write.proofs.Aligning.{aligned_apart, own_back, tree_same_back, tree_writes_back}
use Rattle.tree_write.proofs.Joining.{captures_join, lacks_after, lacks_more, none_before}
use Rattle.tree_write.proofs.LeafKeys.{entries_fit, entries_of, from_empty, keys_length}
use Rattle.tree_write.proofs.Lists.{all_map}
use Rattle.tree_write.proofs.Tops.{reach, top_over}
use Rattle.tree_write.proofs.Trees.{OnceAddrs, Stored, cut_whole, is_cut_by, once_addrs, places_leaves, tree_all, tree_distinct}

-- ---- small facts

all_places : (P : Addr → Type 0) (blocks : List Block) → AllByRecursion (λ (b : Block). P b.place) blocks → AllByRecursion P (places_of blocks)
all_places P [] all = tt
all_places P (b ∷ blocks) all = (all.0, all_places P blocks all.1)

all_links : (es : List Entry) → AllByRecursion Stored es → AllByRecursion (λ (l : Link). l.addr.offset ≡ 0 → ⊥) (links_in es)
all_links [] all = tt
all_links (e ∷ es) all = (all.0, all_links es all.1)

addrs_of : (es : List Entry) → map {A = Entry} (λ e. e.link.addr) es ≡ map {A = Link} (λ l. l.addr) (links_in es)
addrs_of [] = refl
addrs_of (e ∷ es) = ap (λ (l : List Addr). e.link.addr ∷ l) (addrs_of es)

-- ---- entries of leaves, wherever these stand

abbrev NameFits : Name → Type 0
NameFits n = (n.run < 2 ^ 64) × (n.id < 2 ^ 64)

later_fits : (x y : Name) → NameFits x → NameFits y → NameFits (later x y)
later_fits x y one other = elim (cases_Bool (is_before x y)) [ inl is ↦ rw is other | inr isnt ↦ rw isnt one ]

row_names_fit : (rows : List Row) → AllByRecursion (λ (r : Row). RowFits [] key_most r) rows → NameFits (greatest_in (names_of rows))
row_names_fit [] fit = (omega arith, omega arith)
row_names_fit (r ∷ rows) fit =
    let name = fit.0.window.name in
    let run = name.run.1 in
    let id = name.id.1 in
    later_fits r.1.window.name (greatest_in (names_of rows)) (omega (arith, run), omega (arith, id)) (row_names_fit rows fit.1)

row_stamps_fit : (rows : List Row) → AllByRecursion (λ (r : Row). RowFits [] key_most r) rows → most_in (durables_of rows) < 2 ^ 64
row_stamps_fit [] fit = omega arith
row_stamps_fit (r ∷ rows) fit = let rest = row_stamps_fit rows fit.1 in let one = fit.0.window.durable in omega (arith, rest, one)

abbrev lead_leaf : List ℕ → List Row → Entry
lead_leaf key rows = record {
  key = key;
  link = record { addr = record { offset = 8192; size = 4096; sum = 0 }; greatest = greatest_in (names_of rows); durable = most_in (durables_of rows) };
}

abbrev lead_leaves : List Image → List (List Row) → List Entry
lead_leaves [] leaves = []
lead_leaves (i ∷ images) [] = []
lead_leaves (i ∷ images) (rows ∷ leaves) = lead_leaf i.low rows ∷ lead_leaves images leaves

abbrev lead_first : List Image → List (List Row) → List Entry
lead_first [] leaves = []
lead_first (i ∷ images) [] = []
lead_first (i ∷ images) (rows ∷ leaves) = lead_leaf [] rows ∷ lead_leaves images leaves

bears_leaf : (key : List ℕ) (rows : List Row) → AreRows rows → Bears (lead_leaf key rows) rows
bears_leaf key rows are = record { leaf = are; empty = λ is. absurd (false≢true is); says = record { greatest = refl; durable = refl } }

link_fits : (key : List ℕ) (rows : List Row) → AreRows rows → LinkFits (lead_leaf key rows).link
link_fits key rows are = let names = row_names_fit rows are.fit in record { offset = omega arith; size = omega arith; sum = omega arith; run = names.0; id = names.1; durable = row_stamps_fit rows are.fit }

record AreLeads (es : List Entry) (keys : List (List ℕ)) (leaves : List (List Row)) : Type 0 where
  pub are_keys : keys_of es ≡ keys
  pub bear : AllBear table_kind es leaves
  pub links : AllByRecursion (λ (e : Entry). LinkFits e.link) es

leads_more : (key : List ℕ) (rows : List Row) (es : List Entry) (keys : List (List ℕ)) (leaves : List (List Row)) → AreRows rows → AreLeads es keys leaves → AreLeads (lead_leaf key rows ∷ es) (key ∷ keys) (rows ∷ leaves)
leads_more key rows es keys leaves are leads = record { are_keys = ap (λ (l : List (List ℕ)). key ∷ l) leads.are_keys; bear = (bears_leaf key rows are, leads.bear); links = (link_fits key rows are, leads.links) }

leads_are : (images : List Image) (leaves : List (List Row)) → AreSpelled images leaves → AreLeads (lead_leaves images leaves) (image_keys images) leaves
leads_are [] [] spelled = record { are_keys = refl; bear = tt; links = tt }
leads_are [] (rows ∷ leaves) spelled = absurd spelled
leads_are (i ∷ images) [] spelled = absurd spelled
leads_are (i ∷ images) (rows ∷ leaves) spelled = leads_more i.low rows (lead_leaves images leaves) (image_keys images) leaves spelled.0.page.admitted (leads_are images leaves spelled.1)

first_are : (images : List Image) (leaves : List (List Row)) → AreSpelled images leaves → AreLeads (lead_first images leaves) (part_keys [] images) leaves
first_are [] [] spelled = record { are_keys = refl; bear = tt; links = tt }
first_are [] (rows ∷ leaves) spelled = absurd spelled
first_are (i ∷ images) [] spelled = absurd spelled
first_are (i ∷ images) (rows ∷ leaves) spelled = leads_more [] rows (lead_leaves images leaves) (image_keys images) leaves spelled.0.page.admitted (leads_are images leaves spelled.1)

spelled_length : (images : List Image) (leaves : List (List Row)) → AreSpelled images leaves → length images ≡ length leaves
spelled_length [] [] spelled = refl
spelled_length [] (rows ∷ leaves) spelled = absurd spelled
spelled_length (i ∷ images) [] spelled = absurd spelled
spelled_length (i ∷ images) (rows ∷ leaves) spelled = ap (λ (n : ℕ). suc n) (spelled_length images leaves spelled.1)

-- ---- a tree with rows

module _ (parts : List (List (List Row))) (leaves : List (List Row)) (are : leaves ≡ join parts) (full : AllByRecursion AreFullLeaves parts) (has : AllByRecursion (λ (l : List Row). 1 ≤ length l) leaves) (some : 1 ≤ length leaves) where
  cut_known : (root : Root) (layers : List (Layer Entry)) (es : List Entry) → IsTop root layers es → AllBear table_kind es leaves → Climbs es → Stay es leaves → IsCutBy parts root (join leaves) (record { layers = layers; leaves = leaves })
  cut_known root layers es top bear climbs stay = is_cut_by parts root layers es leaves are top bear climbs stay full has some

  module _ {D : Type 0} (g : Ghosts D) (old : Option Kept) (first books0 : Books) (start : D) (was : List Link) (may : MayWriteOver (g.seen start) (g.may_leave start) first books0 old was) (es : List Entry) (climbs : Climbs es) (stay : Stay es leaves)
      (addrs : List Addr) (mid : Books) (between : D) (wrote : LeavesWritten g old first books0 mid start between was leaves addrs es) (room : g.capacity between ≡ g.capacity start) where
    old_between : (c : List ℕ) → IsOld (g.may_leave between) old c → IsOld (g.may_leave start) old c
    old_between c (inl left) = wrote.captures.images c left
    old_between c (inr has) = inr has

    -- the inner pages have no room
    pub rise_failed : (addrs' : List Addr) (books' : Books) (end : D) (e : StoreError) → RiseStopped g old first mid books' between end es addrs' e → PartsStopped g old first was parts (join leaves) (addrs ++ addrs') books0 books' start end e
    rise_failed addrs' books' end e stop = record {
      blocks = leaf_blocks table_kind es leaves ++ stop.blocks;
      sizes = wrote.sizes ++ stop.sizes;
      listed = ap (λ (l : List Addr). addrs ++ l) stop.listed ∙ (ap (λ (l : List Addr). l ++ places_of stop.blocks) wrote.listed ∙ sym (map-append {A = Block} {B = Addr} (λ b. b.place) (leaf_blocks table_kind es leaves) stop.blocks));
      captures = λ safe. captures_join g old first (leaf_blocks table_kind es leaves) stop.blocks wrote.sizes stop.sizes books0 mid books' start between end room wrote.captures (stop.captures safe);
      left = joined g start between end _ _ wrote.captures.left stop.left old_between;
      lacks = λ is.
          let none = stop.lacks is in
          record {
            root = none.root;
            tree = record { layers = none.layers; leaves = leaves };
            sizes = wrote.sizes ++ page_sizes (page_count none.layers);
            cut = cut_known none.root none.layers es none.top wrote.bear climbs stay;
            writes = record { of_leaves = wrote.sizes; leaves = wrote.writes; is = refl };
            lacks = lacks_after books0.space mid.space (g.capacity start) wrote.sizes (page_sizes (page_count none.layers)) wrote.captures.places (subst (λ (k : ℕ). LacksAll mid.space k (page_sizes (page_count none.layers))) room none.lacks);
          };
    }

    module _ (addrs' : List Addr) (books' : Books) (end : D) (place : TreePlace) (rose : Rose g old first mid books' between end es addrs' place) where
      abbrev tree : TableTree
      tree = record { layers = rose.layers; leaves = leaves }

      abbrev risen : List Block
      risen = risen_blocks (root_own place.root) rose.layers

      cut : IsCutBy parts place.root (join leaves) tree
      cut = cut_known place.root rose.layers es rose.top wrote.bear climbs stay

      own_leaves : bottom (root_own place.root) rose.layers ≡ es
      own_leaves = rose.top.risen.bottom

      blocks_are : leaf_blocks table_kind es leaves ++ risen ≡ captured_blocks place.root tree
      blocks_are = ap (λ (l : List Entry). leaf_blocks table_kind l leaves ++ risen) (sym own_leaves)

      captures : Captures g old first (captured_blocks place.root tree) (wrote.sizes ++ page_sizes (page_count rose.layers)) books0 books' start end
      captures = subst (λ (l : List Block). Captures g old first l (wrote.sizes ++ page_sizes (page_count rose.layers)) books0 books' start end) blocks_are
          (captures_join g old first (leaf_blocks table_kind es leaves) risen wrote.sizes (page_sizes (page_count rose.layers)) books0 mid books' start between end room wrote.captures rose.captures)

      listed : addrs ++ addrs' ≡ places_of (captured_blocks place.root tree)
      listed = ap (λ (l : List Addr). addrs ++ l) rose.listed ∙ (ap (λ (l : List Addr). l ++ places_of risen) wrote.listed ∙ (sym (map-append {A = Block} {B = Addr} (λ b. b.place) (leaf_blocks table_kind es leaves) risen) ∙ ap places_of blocks_are))

      leaf_places : places_of (leaf_blocks table_kind es leaves) ≡ map {A = Entry} (λ e. e.link.addr) es
      leaf_places = places_leaves es leaves wrote.bear wrote.stored

      stand : place.addrs.items ≡ places_of (tree_blocks table_kind (root_entry place.root.link) tree)
      stand = rose.stand ∙ (ap (λ (l : List Addr). places_of (inner_blocks table_kind (root_own place.root) rose.layers) ++ l) (sym leaf_places)
          ∙ (sym (map-append {A = Block} {B = Addr} (λ b. b.place) (inner_blocks table_kind (root_own place.root) rose.layers) (leaf_blocks table_kind es leaves))
          ∙ ap (λ (l : List Entry). places_of (inner_blocks table_kind (root_own place.root) rose.layers ++ leaf_blocks table_kind l leaves)) (sym own_leaves)))

      placed0 : (a : Addr) → IsPlaced mid a → IsPlaced books0 a
      placed0 a placed = record { unit = placed.unit; units = placed.units; offset = placed.offset; size = placed.size; none = none_before placed.unit (cell_at books0.cells placed.unit) (places_of (leaf_blocks table_kind es leaves)) (sym (wrote.captures.cells placed.unit) ∙ placed.none) }

      distinct : LeadApart was → AreDistinct (addrs ++ addrs')
      distinct apart = subst AreDistinct (sym places_are) (tree_distinct first books0 may.live was (links_in es) (places_of risen) wrote.own (all_links es wrote.stored) apart
          (all_places (λ (x : Addr). IsPlaced books0 x) risen (all_map (λ (b : Block). IsPlaced mid b.place) (λ (b : Block). IsPlaced books0 b.place) risen (λ b placed. placed0 b.place placed) rose.placed))
          (subst (OnceAddrs first) places_are (subst (OnceAddrs first) (sym listed) (once_addrs first (captured_blocks place.root tree) captures.once))))
        where
          places_are : addrs ++ addrs' ≡ map {A = Link} (λ l. l.addr) (links_in es) ++ places_of risen
          places_are = ap (λ (l : List Addr). addrs ++ l) rose.listed ∙ ap (λ (l : List Addr). l ++ places_of risen) (wrote.listed ∙ (leaf_places ∙ addrs_of es))

      pub tree_written : PartsWritten g old first was parts (join leaves) (addrs ++ addrs') books0 books' start end place
      tree_written = record {
        tree = tree;
        sizes = wrote.sizes ++ page_sizes (page_count rose.layers);
        cut = cut;
        has = record {
          is = cut.tree;
          addressed = tree_all (λ (b : Block). IsAddressed b) place.root tree captures.addressed;
          holds = tree_all (λ (b : Block). IsAt (g.seen end) b) place.root tree captures.holds;
        };
        is = record { leaves = rose.links ∙ ap (λ (l : List Entry). map {A = Entry} (λ e. e.link) l) (sym own_leaves); addrs = stand };
        captures = captures;
        listed = listed;
        writes = record { of_leaves = wrote.sizes; leaves = wrote.writes; is = refl };
        own = subst (λ (l : List Link). AreOwn books0 was l) (sym rose.links) wrote.own;
        same = subst (λ (l : List Link). KeepSame (g.seen start) was l leaves) (sym rose.links) wrote.same;
        distinct = distinct;
      }

    -- so whatever the rise answers
    pub rise_answers : (addrs' : List Addr) (books' : Books) (end : D) (r : Result TreePlace StoreError) → Rises g old first mid books' between end es addrs' r → PartsWrite g old first was parts (join leaves) (addrs ++ addrs') books0 books' start end r
    rise_answers addrs' books' end (Ok place) rose = tree_written addrs' books' end place rose
    rise_answers addrs' books' end (Err e) stop = rise_failed addrs' books' end e stop

-- ---- the leaves have no room

pub leaves_failed : (images : List Image) (rows : List Row) (of : LeavesOf images rows) (fit : AreFit rows) {D : Type 0} (g : Ghosts D) (old : Option Kept) (first books0 : Books) (start : D) (was : List Link) (addrs : List Addr) (books' : Books) (end : D) (e : StoreError)
    → length images ≤ reach 41 → LeavesStopped g old first books0 books' start end was of.leaves addrs e → PartsStopped g old first was (of.leaves ∷ []) rows addrs books0 books' start end e
leaves_failed images rows of fit g old first books0 start was addrs books' end e few stop = record {
  blocks = stop.blocks;
  sizes = stop.sizes;
  listed = stop.listed;
  captures = stop.captures;
  left = stop.left;
  lacks = λ is. let why = stop.lacks is in no_place images of few why.0 why.1 why.2;
}
  where
    no_place : (images : List Image) (of : LeavesOf images rows) → length images ≤ reach 41 → (all : List ℕ) → WritesLeaves (g.seen start) was of.leaves all → LacksAll books0.space (g.capacity start) all → HasNoParts g old first was (of.leaves ∷ []) rows addrs books0 books' start end
    no_place [] of few all writes lacks = absurd (none of.leaves of.spelled writes)
      where
        none : (leaves : List (List Row)) → AreSpelled [] leaves → WritesLeaves (g.seen start) was leaves all → ⊥
        none [] spelled writes = subst (λ (l : List ℕ). LacksAll books0.space (g.capacity start) l) writes lacks
        none (l ∷ leaves) spelled writes = spelled
    no_place (i ∷ images) of few all writes lacks =
        let leaves = of.leaves in
        let es = lead_first (i ∷ images) leaves in
        let leads = first_are (i ∷ images) leaves of.spelled in
        let known = entries_of [] es (i ∷ images) leaves (omega arith) (omega arith) leads.are_keys of.spelled of.some (subst AreFit (sym of.whole) fit) (from_empty (join leaves)) in
        let long = keys_length [] es (i ∷ images) leads.are_keys in
        let top = top_over 41 0 es es [] (record { lead = tt; bottom = refl; full = tt; needed = tt }) refl (entries_fit es known.keys leads.links) known.climbs known.first (subst (λ (n : ℕ). n ≤ reach 41) (sym long) few) (omega arith) in
        let some : 1 ≤ length leaves = omega (arith, spelled_length (i ∷ images) leaves of.spelled) in
        record {
          root = top.root;
          tree = record { layers = top.above; leaves = leaves };
          sizes = all ++ page_sizes (page_count top.above);
          cut = subst (λ (l : List Row). IsCutBy (leaves ∷ []) top.root l (record { layers = top.above; leaves = leaves })) of.whole (is_cut_by (leaves ∷ []) top.root top.above es leaves (sym (append-nil leaves)) top.top leads.bear known.climbs known.stay (of.full, tt) of.some some);
          writes = record { of_leaves = all; leaves = writes; is = refl };
          lacks = lacks_more books0.space (g.capacity start) all (page_sizes (page_count top.above)) lacks;
        }

-- ---- a tree without rows

abbrev empty_tree : TableTree
empty_tree = record { layers = []; leaves = [] ∷ [] }

empty_is : IsTree table_kind 0 (root_entry nowhere) empty_tree
empty_is = record {
  levels = refl;
  lead = tt;
  bear = (record { leaf = record { fit = tt; ascend = tt; size = omega arith }; empty = λ is. (refl, refl); says = record { greatest = refl; durable = refl } }, tt);
  parts = (tt, (tt, tt));
}

empty_cut : (parts : List (List (List Row))) → join parts ≡ [] → AllByRecursion AreFullLeaves parts → IsCutBy parts no_root (join (join parts)) empty_tree
empty_cut parts none full = record {
  tree = empty_is;
  whole = sym (ap (λ (l : List (List Row)). join l) none);
  parted = sym (ap or_empty none);
  full_leaves = full;
  full_layers = tt;
  needed = tt;
  some = inl (ap (λ (l : List (List Row)). join l) none);
  nowhere = λ is. refl;
}

no_leaves : (leaves : List (List Row)) → AllBear table_kind [] leaves → leaves ≡ []
no_leaves [] bear = refl
no_leaves (rows ∷ leaves) bear = absurd bear

module _ {D : Type 0} (g : Ghosts D) (old : Option Kept) (first books books' : Books) (before after : D) (was : List Link) (parts : List (List (List Row))) (addrs : List Addr) (wrote : LeavesWritten g old first books books' before after was (join parts) addrs []) where
  none : join parts ≡ []
  none = no_leaves (join parts) wrote.bear

  sizes_none : wrote.sizes ≡ []
  sizes_none = subst (λ (l : List (List Row)). WritesLeaves (g.seen before) was l wrote.sizes) none wrote.writes

  captures_empty : (root : Root) → root ≡ no_root → Captures g old first (captured_blocks root empty_tree) wrote.sizes books books' before after
  captures_empty root is = subst (λ (r : Root). Captures g old first (captured_blocks r empty_tree) wrote.sizes books books' before after) (sym is) wrote.captures

  pub none_written : (place : TreePlace) → IsNoPlace place → AllByRecursion AreFullLeaves parts → PartsWritten g old first was parts (join (join parts)) addrs books books' before after place
  none_written place is full = record {
    tree = empty_tree;
    sizes = wrote.sizes;
    cut = subst (λ (r : Root). IsCutBy parts r (join (join parts)) empty_tree) (sym is.root) (empty_cut parts none full);
    has = subst (λ (r : Root). HasTree (g.seen after) r empty_tree) (sym is.root) (record { is = empty_is; addressed = tt; holds = tt });
    is = record {
      leaves = is.leaves ∙ ap (λ (r : Root). map {A = Entry} (λ e. e.link) (bottom (root_own r) [])) (sym is.root);
      addrs = is.addrs ∙ ap (λ (r : Root). places_of (tree_blocks table_kind (root_entry r.link) empty_tree)) (sym is.root);
    };
    captures = captures_empty place.root is.root;
    listed = wrote.listed ∙ ap (λ (r : Root). places_of (captured_blocks r empty_tree)) (sym is.root);
    writes = record { of_leaves = []; leaves = (None, [], inl refl, refl, refl); is = sizes_none };
    own = subst (λ (l : List Link). AreOwn books was l) (sym is.leaves) (inl refl, tt);
    same = subst (λ (l : List Link). KeepSame (g.seen before) was l ([] ∷ [])) (sym is.leaves) ((λ some leaf. absurd (some refl)), tt);
    distinct = λ apart. subst AreDistinct (sym wrote.listed) tt;
  }

-- an error that is not want of room
pub parts_failed : {D : Type 0} (g : Ghosts D) (old : Option Kept) (first books books' : Books) (before after : D) (was : List Link) (parts : List (List (List Row))) (leaves : List (List Row)) (rows : List Row) (addrs : List Addr) (es : List Entry) (e : StoreError)
    → LeavesWritten g old first books books' before after was leaves addrs es → (e ≡ NoSpace → ⊥) → PartsStopped g old first was parts rows addrs books books' before after e
parts_failed g old first books books' before after was parts leaves rows addrs es e wrote other = record { blocks = leaf_blocks table_kind es leaves; sizes = wrote.sizes; listed = wrote.listed; captures = λ safe. wrote.captures; left = wrote.captures.left; lacks = λ is. absurd (other is) }

-- ---- leaves as those of a whole tree

pub rooted_written : {D : Type 0} (g : Ghosts D) (old : Option Kept) (first books books' : Books) (before after : D) (was : List Link) (leaves : List (List Row)) (addrs : List Addr) (es : List Entry)
    → LeavesWritten g old first books books' before after was leaves addrs es → LeavesWritten g old first books books' before after was leaves addrs (rooted es)
rooted_written g old first books books' before after was leaves addrs [] wrote = wrote
rooted_written g old first books books' before after was [] addrs (e ∷ es) wrote = absurd wrote.bear
rooted_written g old first books books' before after was (rows ∷ leaves) addrs (e ∷ es) wrote = record {
  sizes = wrote.sizes;
  bear = let one = wrote.bear.0 in (record { leaf = one.leaf; empty = one.empty; says = one.says }, wrote.bear.1);
  stored = wrote.stored;
  captures = wrote.captures;
  listed = wrote.listed;
  writes = wrote.writes;
  own = wrote.own;
  same = wrote.same;
}

-- ---- a tree of one part

module _ {D : Type 0} (g : Ghosts D) (old : Option Kept) (first books books' : Books) (before after : D) (was : List Link) (leaves : List (List Row)) (rows : List Row) (addrs : List Addr) where
  tree_back : (t : TableTree) (sizes : List ℕ) → t.leaves ≡ or_empty (leaves ++ []) → WritesTree (g.seen before) (aligned was leaves) t sizes → WritesTree (g.seen before) was t sizes
  tree_back t sizes parted writes =
      let are : t.leaves ≡ or_empty leaves = parted ∙ ap or_empty (append-nil leaves) in
      record {
        of_leaves = writes.of_leaves;
        leaves = subst (λ (l : List (List Row)). WritesLeaves (g.seen before) was l writes.of_leaves) (sym are) (tree_writes_back (g.seen before) was leaves writes.of_leaves (subst (λ (l : List (List Row)). WritesLeaves (g.seen before) (aligned was leaves) l writes.of_leaves) are writes.leaves));
        is = writes.is;
      }

  -- it is the tree of the rows
  pub one_part : (r : Result TreePlace StoreError) → PartsWrite g old first (aligned was leaves) (leaves ∷ []) rows addrs books books' before after r → TreeWrites g old first was rows addrs books books' before after r
  one_part (Ok place) wrote =
      let are : wrote.tree.leaves ≡ or_empty leaves = wrote.cut.parted ∙ ap or_empty (append-nil leaves) in
      record {
        tree = wrote.tree;
        sizes = wrote.sizes;
        cut = cut_whole leaves place.root rows wrote.tree wrote.cut;
        has = wrote.has;
        is = wrote.is;
        captures = wrote.captures;
        listed = wrote.listed;
        writes = tree_back wrote.tree wrote.sizes wrote.cut.parted wrote.writes;
        own = own_back books was place.leaves.items leaves wrote.own;
        same = subst (λ (l : List (List Row)). KeepSame (g.seen before) was place.leaves.items l) (sym are) (tree_same_back (g.seen before) was place.leaves.items leaves (subst (λ (l : List (List Row)). KeepSame (g.seen before) (aligned was leaves) place.leaves.items l) are wrote.same));
        distinct = λ apart. wrote.distinct (aligned_apart was leaves apart);
      }
  one_part (Err e) stop = record {
    blocks = stop.blocks;
    sizes = stop.sizes;
    listed = stop.listed;
    captures = stop.captures;
    left = stop.left;
    lacks = λ is. let none = stop.lacks is in record { root = none.root; tree = none.tree; sizes = none.sizes; cut = cut_whole leaves none.root rows none.tree none.cut; writes = tree_back none.tree none.sizes none.cut.parted none.writes; lacks = none.lacks };
  }

-- ---- numbers of entries

pub some_there : (n : ℕ) (b : Bool) → b ≡ eqb n 0 → b ≡ false → 1 ≤ n
some_there n b is isnt = elim (cases_eq n 0) [
  | inl none ↦ absurd (false≢true (sym isnt ∙ (is ∙ eq-eqb n 0 none)))
  | inr some ↦ omega (arith, some)
]
