-- The trees of the checkpoint before, by place.
use Rattle.std.specs.Prelude.{◌≡◌, ℕ, zero, suc, ◌+◌, ◌*◌, ◌/◌, ◌≤◌, true, List, [], ◌∷◌, ◌++◌, length, map, Option, Some, None, option_map, slice_get, refl}
use Rattle.std.specs.List.{AllByRecursion}
use Rattle.std.proofs.Common.{inl, inr, sym, ◌∙◌, ap, subst, arith}
use Rattle.std.proofs.lemmas.Bool.{cases_eq, cases_lt, false≢true}
use Rattle.std.proofs.lemmas.List.{get_or_past, length-map}
use Rattle.std.proofs.lemmas.Option.{get_or_from_slice_get, slice_get-map, slice_get_within}
use Rattle.block_mgr.specs.declared.cell.Cell.{Cell}
use Rattle.block_mgr.specs.Blocks.{Books, Has, HasLive}
use Rattle.block_mgr.specs.Cells.{AreUnits, cell_at, nothing}
use Rattle.block_mgr.specs.Open.{found_cell}
use Rattle.block_mgr.proofs.HasLemmas.{used_some}
use Rattle.device_layout.specs.declared.addr.Addr.{Addr}
use Rattle.device_layout.specs.declared.link.Link.{Link}
use Rattle.kv_model.specs.Holds.{Member}
use Rattle.kv_model.specs.History.{Table}
use Rattle.catalog.specs.Known.{NumbersAscend}
use Rattle.stored.specs.Blocks.{Block, AreApart, Apart, IsAddressed, IsAt}
use Rattle.stored.specs.Records.{TableRoot}
use Rattle.stored.specs.Stored.{Stored, history_blocks, stored_blocks, tables_blocks}
use Rattle.stored.specs.TableTree.{Entry, TableTree, root_entry, table_kind}
use Rattle.stored.specs.Tree.{bottom, inner_blocks, leaf_blocks, tree_blocks}
use Rattle.checkpoint_core.specs.Stands.{Stands, body_blocks}
use Rattle.tree_open.specs.declared.place.TreePlace.{TreePlace}
use Rattle.tree_open.specs.Trees.{HasTree, IsPlaceOf, places as places_in, root_own}
use Rattle.tree_write.specs.Writes.{IsLiveLeaf, LeadApart}
use Rattle.ckpt_step.specs.Grounds.{AreLone, AreRoots, HasRoots, found_in, history_places, start_cell}
use Rattle.ckpt_step.specs.Halves.{AreOldBlocks, IsOldBlock, body_cell}
use Rattle.ckpt_step.specs.Lives.{addrs_in}
use Rattle.ckpt_step.specs.declared.lives.Lone.{Lone}
use Rattle.ckpt_step.specs.Trees.{HasTreeAt, IsPair, addrs_of, leaves_at, table_root}
use Rattle.ckpt_step.specs.Rooms.{Written}
use Rattle.tree_dir.specs.declared.leaf.Leaf.{Leaf}
use Rattle.ckpt_step.proofs.ByPlace.{place_one}
use Rattle.ckpt_step.proofs.Cells.{found_is, found_of, start_dead}
use Rattle.ckpt_step.proofs.Lones.{body_stays, lone_old, which_lone}
use Rattle.ckpt_step.proofs.Members.{all_made, all_met, all_of, flat_member, get_member, get_within, in_back, in_either, in_front, map_member, member_at, member_flat, member_map, none_some, some_same}
use Rattle.ckpt_step.proofs.Pairs.{apart_back, apart_front, block_of, lead_apart, leaf_listed, one_index, pair_apart, pair_blocks, pair_on, pair_tree, pairs_apart, root_blocks}

-- ---- the roots of the first tables

abbrev zipped : List Table → List TreePlace → List TableRoot
zipped [] places = []
zipped (t ∷ known) [] = []
zipped (t ∷ known) (p ∷ places) = table_root t p.root ∷ zipped known places

record Zipped (known : List Table) (places : List TreePlace) (i : ℕ) (r : TableRoot) : Type 0 where
  table : Table
  place : TreePlace
  known_at : slice_get known i ≡ Some table
  place_at : slice_get places i ≡ Some place
  is : r ≡ table_root table place.root

zipped_at : (known : List Table) (places : List TreePlace) (i : ℕ) (r : TableRoot) → slice_get (zipped known places) i ≡ Some r → Zipped known places i r
zipped_at [] places i r at = absurd (none_some at)
zipped_at (t ∷ known) [] i r at = absurd (none_some at)
zipped_at (t ∷ known) (p ∷ places) zero r at = record { table = t; place = p; known_at = refl; place_at = refl; is = sym (some_same at) }
zipped_at (t ∷ known) (p ∷ places) (suc i) r at = let later = zipped_at known places i r at in record { table = later.table; place = later.place; known_at = later.known_at; place_at = later.place_at; is = later.is }

zipped_many : (known : List Table) (places : List TreePlace) → length places ≤ length known → length (zipped known places) ≡ length places
zipped_many [] [] few = refl
zipped_many [] (p ∷ places) few = absurd (omega (arith, few))
zipped_many (t ∷ known) [] few = refl
zipped_many (t ∷ known) (p ∷ places) few = omega (arith, zipped_many known places (omega (arith, few)))

-- ---- what leads to leaves, by place

pub leaves_there : (places : List TreePlace) (i : ℕ) (p : TreePlace) → slice_get places i ≡ Some p → leaves_at places i ≡ p.leaves.items
leaves_there places i p at = get_or_from_slice_get (map {A = TreePlace} (λ q. q.leaves.items) places) i p.leaves.items [] (slice_get-map {A = TreePlace} (λ q. q.leaves.items) places i ∙ ap (λ (o : Option TreePlace). option_map (λ q. q.leaves.items) o) at)

pub leaves_past : (places : List TreePlace) (i : ℕ) → length places ≤ i → leaves_at places i ≡ []
leaves_past places i past = get_or_past (map {A = TreePlace} (λ q. q.leaves.items) places) i [] (omega (arith, past, length-map places (λ (q : TreePlace). q.leaves.items)))

-- a block of the checkpoint, which is not that of its record
pub record IsBody (old : Option Stored) (a : Addr) : Type 0 where
  pub unit : ℕ
  pub units : ℕ
  pub offset : a.offset ≡ 8192 + 4096 * unit
  pub size : a.size ≡ 4096 * units
  pub cell : found_cell (found_in old) unit ≡ body_cell units

body_old : (old : Option Stored) (lives : List Lone) → AreLone old lives → (a : Addr) → IsBody old a → IsOldBlock old lives a
body_old old lives lone a is = record { unit = is.unit; units = is.units; is_last = true; offset = is.offset; size = is.size; cell = body_stays old lives lone is.unit is.units is.cell }

since_old : (old : Option Stored) (lives : List Lone) → AreLone old lives → (a : Addr) → Member a (addrs_in lives) → IsOldBlock old lives a
since_old old lives lone a there = let x = member_map {A = Lone} (λ y. y.addr) a lives there in subst (λ (b : Addr). IsOldBlock old lives b) (sym x.2) (lone_old old lives lone x.0 x.1)

-- ---- the checkpoint before

module _ (seen : List ℕ) (images : List ℕ → Type 0) (books : Books) (known : List Table) (next : ℕ) (ascend : NumbersAscend 1 known next) (lives : List Lone) (leaves : List Leaf) (written : Written) (places : List TreePlace) (s : Stored) (stands : Stands seen images books (Some s)) (roots : HasRoots known lives leaves written places s)
    (lone : AreLone (Some s) lives) (cells : (u : ℕ) → cell_at books.cells u ≡ start_cell (Some s) lives u) (units : AreUnits books.cells books.space) where
  abbrev tables : List TableRoot
  tables = s.kept.tables

  abbrev blocks : List Block
  blocks = tables_blocks tables s.trees

  apart : Apart blocks
  apart = apart_front blocks (history_blocks s.kept s.history) stands.seen_has.whole.apart.1

  in_all : (b : Block) → Member b blocks → Member b (stored_blocks s)
  in_all b there = inr (in_front blocks (history_blocks s.kept s.history) b there)

  has : (b : Block) → Member b blocks → Has books.cells b.place.offset b.place.size
  has b there = all_of (λ (x : Block). Has books.cells x.place.offset x.place.size) (stored_blocks s) b stands.in_use (in_all b there)

  some_size : (b : Block) → Member b blocks → 1 ≤ b.place.size
  some_size b there = let used = has b there in omega (arith, used.2, used_some books.cells books.space used.0 units used.3)

  addressed : (b : Block) → Member b blocks → IsAddressed b
  addressed b there = all_of (λ (x : Block). IsAddressed x) (stored_blocks s) b stands.seen_has.whole.addressed (in_all b there)

  holds : (b : Block) → Member b blocks → IsAt seen b
  holds b there = all_of (λ (x : Block). IsAt seen x) (stored_blocks s) b stands.seen_has.holds (in_all b there)

  pub on_device : (t : Table) (p : TreePlace) (tree : TableTree) → HasTreeAt (Some s) t p tree → HasTree seen p.root tree
  on_device t p tree at = pair_on seen (table_root t p.root) tree tables s.trees at.0 stands.seen_has.whole.trees addressed holds

  pub own_apart : (t : Table) (p : TreePlace) (tree : TableTree) → HasTreeAt (Some s) t p tree → Apart (tree_blocks table_kind (root_entry p.root.link) tree)
  own_apart t p tree at = pair_apart (table_root t p.root) tree tables s.trees at.0 apart

  -- a place and its tree
  record At (i : ℕ) (p : TreePlace) : Type 0 where
    table : Table
    tree : TableTree
    known_at : slice_get known i ≡ Some table
    pair : IsPair (table_root table p.root) tree tables s.trees
    is : IsPlaceOf p tree

  at : (i : ℕ) (p : TreePlace) → slice_get places i ≡ Some p → At i p
  at i p is =
      let t = get_within known i (omega (arith, slice_get_within places i p is, roots.few)) in
      let tree = roots.trees i t.0 p t.1 is in
      record { table = t.0; tree = tree.0; known_at = t.1; pair = tree.1.0; is = tree.1.1 }

  -- the block of an address of a place
  record Listed (i : ℕ) (p : TreePlace) (a : Addr) : Type 0 where
    there : At i p
    block : Block
    own : Member block (root_blocks (table_root there.table p.root) there.tree)
    place : a ≡ block.place

  listed : (i : ℕ) (p : TreePlace) (a : Addr) → slice_get places i ≡ Some p → Member a p.addrs.items → Listed i p a
  listed i p a is there =
      let one = at i p is in
      let b = member_map {A = Block} (λ x. x.place) a (root_blocks (table_root one.table p.root) one.tree) (subst (λ (l : List Addr). Member a l) one.is.addrs there) in
      record { there = one; block = b.0; own = b.1; place = b.2 }

  in_blocks : (i : ℕ) (p : TreePlace) (a : Addr) (one : Listed i p a) → Member one.block blocks
  in_blocks i p a one = pair_blocks (table_root one.there.table p.root) one.there.tree tables s.trees one.block one.there.pair one.own

  -- ---- each is an old block

  old_body : (b : Block) → Member b (body_blocks s) → IsBody (Some s) b.place
  old_body b there =
      let used = all_of (λ (x : Block). Has books.cells x.place.offset x.place.size) (stored_blocks s) b stands.in_use (inr there) in
      elim (found_of used.0 s) [
        | inr none ↦ absurd (none.none b there used.1)
        | inl one ↦
            let cell : found_cell (found_in (Some s)) used.0 ≡ body_cell (one.block.place.size / 4096) = found_is used.0 s ∙ one.cell in
            record {
              unit = used.0;
              units = one.block.place.size / 4096;
              offset = used.1;
              size = used.2 ∙ ap (λ (c : Cell). 4096 * c.units) (cells used.0 ∙ body_stays (Some s) lives lone used.0 (one.block.place.size / 4096) cell);
              cell = cell;
            }
      ]

  body_addr : (i : ℕ) (p : TreePlace) (a : Addr) → slice_get places i ≡ Some p → Member a p.addrs.items → IsBody (Some s) a
  body_addr i p a is there = let one = listed i p a is there in subst (λ (x : Addr). IsBody (Some s) x) (sym one.place) (old_body one.block (in_front blocks (history_blocks s.kept s.history) one.block (in_blocks i p a one)))

  -- those of the history
  abbrev past : List Addr
  past = history_places (Some s)

  past_body : (a : Addr) → Member a past → IsBody (Some s) a
  past_body a there =
      let b = member_map {A = Block} (λ x. x.place) a (history_blocks s.kept s.history) there in
      subst (λ (x : Addr). IsBody (Some s) x) (sym b.2) (old_body b.0 (in_back blocks (history_blocks s.kept s.history) b.0 b.1))

  past_old : (a : Addr) → Member a past → IsOldBlock (Some s) lives a
  past_old a there = body_old (Some s) lives lone a (past_body a there)

  -- so is each of the trees and of the history
  pub before_body : (a : Addr) → Member a (addrs_of places ++ past) → IsBody (Some s) a
  before_body a there = elim (in_either (addrs_of places) past a there) [
    | inl of_tree ↦
        let p = member_flat {A = TreePlace} (λ q. q.addrs.items) places a of_tree in
        let i = member_at p.0 places p.1 in
        body_addr i.0 p.0 a i.1 p.2
    | inr older ↦ past_body a older
  ]

  old_addr : (i : ℕ) (p : TreePlace) (a : Addr) → slice_get places i ≡ Some p → Member a p.addrs.items → IsOldBlock (Some s) lives a
  old_addr i p a is there = body_old (Some s) lives lone a (body_addr i p a is there)

  within_addr : (i : ℕ) (p : TreePlace) (a : Addr) → slice_get places i ≡ Some p → Member a p.addrs.items → a.offset + a.size ≤ length seen
  within_addr i p a is there = let one = listed i p a is there in subst (λ (x : Addr). x.offset + x.size ≤ length seen) (sym one.place) (holds one.block (in_blocks i p a one)).within

  live_old : (a : Addr) → IsOldBlock (Some s) lives a → HasLive books.cells a.offset a.size
  live_old a o = let cell = cells o.unit ∙ o.cell in (o.unit, o.offset, o.size ∙ ap (λ (c : Cell). 4096 * c.units) (sym cell), ap (λ (c : Cell). c.is_live) cell)

  -- ---- each pair stands at a place

  record Stood (r : TableRoot) (tree : TableTree) : Type 0 where
    index : ℕ
    table : Table
    place : TreePlace
    known_at : slice_get known index ≡ Some table
    place_at : slice_get places index ≡ Some place
    root : r ≡ table_root table place.root
    is : IsPlaceOf place tree

  root_there : (i : ℕ) (r : TableRoot) → slice_get (zipped known places) i ≡ Some r → Member r tables
  root_there i r there =
      let z = zipped_at known places i r there in
      let tree = roots.trees i z.table z.place z.known_at z.place_at in
      subst (λ (x : TableRoot). Member x tables) (sym z.is) (get_member tables tree.1.0.0 (table_root z.table z.place.root) tree.1.0.1)

  root_one : (i j : ℕ) (r : TableRoot) → slice_get (zipped known places) i ≡ Some r → slice_get (zipped known places) j ≡ Some r → i ≡ j
  root_one i j r there also =
      let one = zipped_at known places i r there in
      let two = zipped_at known places j r also in
      place_one 1 known next i j one.table two.table ascend one.known_at two.known_at (ap (λ (x : TableRoot). x.table.number) (sym one.is ∙ two.is))

  stood : (r : TableRoot) (tree : TableTree) → IsPair r tree tables s.trees → Stood r tree
  stood r tree pair =
      let met = all_met (zipped known places) tables (omega (arith, zipped_many known places roots.few, roots.count)) root_there root_one r (get_member tables pair.0 r pair.1) in
      let z = zipped_at known places met.0 r met.1 in
      let other = roots.trees met.0 z.table z.place z.known_at z.place_at in
      let index : other.1.0.0 ≡ pair.0 = one_index tables other.1.0.0 pair.0 (table_root z.table z.place.root) r stands.seen_has.whole.is_record.once other.1.0.1 pair.1 (ap (λ (x : TableRoot). x.table.number) (sym z.is)) in
      let same : other.0 ≡ tree = some_same (sym other.1.0.2 ∙ (ap (λ (k : ℕ). slice_get s.trees k) index ∙ pair.2)) in
      record {
        index = met.0;
        table = z.table;
        place = z.place;
        known_at = z.known_at;
        place_at = z.place_at;
        root = z.is;
        is = subst (λ (x : TableTree). IsPlaceOf z.place x) same other.1.1;
      }

  of_tree : (b : Block) → Member b blocks → Member b.place (addrs_of places)
  of_tree b there =
      let of = block_of tables s.trees b there in
      let where_it = stood of.root of.tree of.pair in
      let own : Member b.place where_it.place.addrs.items =
      subst (λ (l : List Addr). Member b.place l) (sym where_it.is.addrs)
      (map_member {A = Block} (λ x. x.place) b (tree_blocks table_kind (root_entry where_it.place.root.link) of.tree) (subst (λ (x : TableRoot). Member b (root_blocks x of.tree)) where_it.root of.own)) in
      flat_member {A = TreePlace} (λ q. q.addrs.items) where_it.place places b.place (get_member places where_it.index where_it.place where_it.place_at) own

  block_at_unit : (u : ℕ) → (found_cell (found_in (Some s)) u).is_live ≡ true → (a : Addr) × Member a (addrs_of places ++ (past ++ addrs_in lives)) × (a.offset ≡ 8192 + 4096 * u)
  block_at_unit u live = elim (found_of u s) [
    | inr none ↦ absurd (false≢true (sym (start_dead u s) ∙ (ap (λ (c : Cell). c.is_live) (sym (found_is u s ∙ none.cell)) ∙ live)))
    | inl one ↦ elim (in_either blocks (history_blocks s.kept s.history) one.block one.there) [
      | inl own ↦ (one.block.place, in_front (addrs_of places) (past ++ addrs_in lives) one.block.place (of_tree one.block own), one.at)
      | inr older ↦ (
        one.block.place,
        in_back (addrs_of places) (past ++ addrs_in lives) one.block.place (in_front past (addrs_in lives) one.block.place (map_member {A = Block} (λ x. x.place) one.block (history_blocks s.kept s.history) older)),
        one.at,
      )
    ]
  ]

  pub old_blocks : AreOldBlocks (Some s) lives (addrs_of places ++ (past ++ addrs_in lives))
  old_blocks = record {
    each = λ a there. elim (in_either (addrs_of places) (past ++ addrs_in lives) a there) [
      | inl before ↦
          let p = member_flat {A = TreePlace} (λ q. q.addrs.items) places a before in
          let i = member_at p.0 places p.1 in
          old_addr i.0 p.0 a i.1 p.2
      | inr behind ↦ elim (in_either past (addrs_in lives) a behind) [
        | inl older ↦ past_old a older
        | inr since ↦ since_old (Some s) lives lone a since
      ]
    ];
    all = λ u live. elim (which_lone u lives) [
      | inl one ↦ (
        one.lone.addr,
        in_back (addrs_of places) (past ++ addrs_in lives) one.lone.addr (in_back past (addrs_in lives) one.lone.addr (map_member {A = Lone} (λ x. x.addr) one.lone lives one.there)),
        one.at,
      )
      | inr none ↦ block_at_unit u (ap (λ (c : Cell). c.is_live) (sym (none.cell (found_cell (found_in (Some s)) u))) ∙ live)
    ];
  }

  -- ---- leaves

  leaf_in : (i : ℕ) (p : TreePlace) (link : Link) → slice_get places i ≡ Some p → Member link p.leaves.items → (link.addr.offset ≡ 0 → ⊥) → Member link.addr p.addrs.items
  leaf_in i p link is there some =
      let one = at i p is in
      let own = bottom (root_own p.root) one.tree.layers in
      let e = member_map {A = Entry} (λ x. x.link) link own (subst (λ (l : List Link). Member link l) one.is.leaves there) in
      let tree = pair_tree (table_root one.table p.root) one.tree tables s.trees one.pair stands.seen_has.whole.trees in
      let leaf = leaf_listed own one.tree.leaves e.0 tree.bear e.1 (λ zero. some (ap (λ (x : Link). x.addr.offset) e.2 ∙ zero)) in
      let b = member_map {A = Block} (λ x. x.place) e.0.link.addr (leaf_blocks table_kind own one.tree.leaves) leaf in
      let all : Member b.0 (tree_blocks table_kind (root_entry p.root.link) one.tree) = in_back (inner_blocks table_kind (root_own p.root) one.tree.layers) (leaf_blocks table_kind own one.tree.leaves) b.0 b.1 in
      subst (λ (l : List Addr). Member link.addr l) (sym one.is.addrs)
      (subst (λ (x : Addr). Member x (places_in (tree_blocks table_kind (root_entry p.root.link) one.tree))) (sym (ap (λ (x : Link). x.addr) e.2 ∙ b.2)) (map_member {A = Block} (λ x. x.place) b.0 (tree_blocks table_kind (root_entry p.root.link) one.tree) all))

  live_leaves : (first : Books) → ((n k : ℕ) → HasLive books.cells n k → HasLive first.cells n k) → (i : ℕ) → AllByRecursion (λ (link : Link). IsLiveLeaf first link) (leaves_at places i)
  live_leaves first more i = elim (cases_lt i (length places)) [
    | inr past ↦ subst (λ (l : List Link). AllByRecursion (λ (link : Link). IsLiveLeaf first link) l) (sym (leaves_past places i past)) tt
    | inl lt ↦
        let p = get_within places i lt in
        subst (λ (l : List Link). AllByRecursion (λ (link : Link). IsLiveLeaf first link) l) (sym (leaves_there places i p.0 p.1)) (all_made (λ (link : Link). IsLiveLeaf first link) p.0.leaves.items (λ link there. elim (cases_eq link.addr.offset 0) [
          | inl none ↦ inl none
          | inr some ↦ inr (more link.addr.offset link.addr.size (live_old link.addr (old_addr i p.0 link.addr p.1 (leaf_in i p.0 link p.1 there some))))
        ]))
  ]

  lead : (i : ℕ) → LeadApart (leaves_at places i)
  lead i = elim (cases_lt i (length places)) [
    | inr past ↦ subst LeadApart (sym (leaves_past places i past)) tt
    | inl lt ↦
        let p = get_within places i lt in
        let one = at i p.0 p.1 in
        let own = bottom (root_own p.0.root) one.tree.layers in
        let tree = pair_tree (table_root one.table p.0.root) one.tree tables s.trees one.pair stands.seen_has.whole.trees in
        let inner = inner_blocks table_kind (root_own p.0.root) one.tree.layers in
        let leafs = leaf_blocks table_kind own one.tree.leaves in
        subst LeadApart (sym (leaves_there places i p.0 p.1 ∙ one.is.leaves)) (lead_apart own one.tree.leaves tree.bear (apart_back inner leafs (pair_apart (table_root one.table p.0.root) one.tree tables s.trees one.pair apart))
        (λ b there. some_size b (pair_blocks (table_root one.table p.0.root) one.tree tables s.trees b one.pair (in_back inner leafs b there))))
  ]

  -- blocks of two places begin elsewhere
  begins_once : (i j : ℕ) (p q : TreePlace) (x y : Addr) → slice_get places i ≡ Some p → Member x p.addrs.items → slice_get places j ≡ Some q → Member y q.addrs.items → x.offset ≡ y.offset → i ≡ j
  begins_once i j p q x y is there also its same =
      let one = listed i p x is there in
      let two = listed j q y also its in
      elim (cases_eq one.there.pair.0 two.there.pair.0) [
        | inl index ↦
            let equal : table_root one.there.table p.root ≡ table_root two.there.table q.root = some_same (sym one.there.pair.1 ∙ (ap (λ (k : ℕ). slice_get tables k) index ∙ two.there.pair.1)) in
            place_one 1 known next i j one.there.table two.there.table ascend one.there.known_at two.there.known_at (ap (λ (r : TableRoot). r.table.number) equal)
        | inr differ ↦
            let away = pairs_apart (table_root one.there.table p.root) (table_root two.there.table q.root) one.there.tree two.there.tree tables s.trees one.block two.block one.there.pair two.there.pair differ apart one.own two.own in
            absurd (meets one.block.place two.block.place away (some_size one.block (in_blocks i p x one)) (some_size two.block (in_blocks j q y two)) (ap (λ (z : Addr). z.offset) (sym one.place) ∙ (same ∙ ap (λ (z : Addr). z.offset) two.place)))
      ]
    where
      meets : (a b : Addr) → AreApart a b → 1 ≤ a.size → 1 ≤ b.size → a.offset ≡ b.offset → ⊥
      meets a b (inl before) some more same = omega (arith, before, some, same)
      meets a b (inr behind) some more same = omega (arith, behind, more, same)

-- ---- the same where there may be none

module _ (seen : List ℕ) (images : List ℕ → Type 0) (books : Books) (known : List Table) (next : ℕ) (ascend : NumbersAscend 1 known next) (lives : List Lone) (leaves : List Leaf) (written : Written) (places : List TreePlace) where
  nothing_at : places ≡ [] → (i : ℕ) (p : TreePlace) → slice_get places i ≡ Some p → ⊥
  nothing_at none i p is = none_some (subst (λ (l : List TreePlace). slice_get l i ≡ Some p) none is)

  nowhere_at : places ≡ [] → (i : ℕ) → leaves_at places i ≡ []
  nowhere_at none i = leaves_past places i (omega (arith, ap length none))

  pub are_old_blocks : (old : Option Stored) → Stands seen images books old → AreRoots known lives leaves written places old → AreLone old lives → ((u : ℕ) → cell_at books.cells u ≡ start_cell old lives u) → AreUnits books.cells books.space → AreOldBlocks old lives (addrs_of places ++ (history_places old ++ addrs_in lives))
  are_old_blocks None stands none lone cells units = record {
    each = λ a there. elim (in_either (addrs_of places) (addrs_in lives) a there) [
      | inl before ↦ absurd (subst (λ (l : List TreePlace). Member a (addrs_of l)) none before)
      | inr since ↦ since_old None lives lone a since
    ];
    all = λ u live. elim (which_lone u lives) [
      | inl one ↦ (one.lone.addr, in_back (addrs_of places) (addrs_in lives) one.lone.addr (map_member {A = Lone} (λ x. x.addr) one.lone lives one.there), one.at)
      | inr nobody ↦ absurd (false≢true (ap (λ (c : Cell). c.is_live) (sym (nobody.cell nothing)) ∙ live))
    ];
  }
  are_old_blocks (Some s) stands roots lone cells units = old_blocks seen images books known next ascend lives leaves written places s stands roots lone cells units

  pub are_live_leaves : (old : Option Stored) → Stands seen images books old → AreRoots known lives leaves written places old → AreLone old lives → ((u : ℕ) → cell_at books.cells u ≡ start_cell old lives u) → AreUnits books.cells books.space → (i : ℕ) → AllByRecursion (λ (link : Link). IsLiveLeaf books link) (leaves_at places i)
  are_live_leaves None stands none lone cells units i = subst (λ (l : List Link). AllByRecursion (λ (link : Link). IsLiveLeaf books link) l) (sym (nowhere_at none i)) tt
  are_live_leaves (Some s) stands roots lone cells units i = live_leaves seen images books known next ascend lives leaves written places s stands roots lone cells units books (λ n k live. live) i

  pub leaves_apart : (old : Option Stored) → Stands seen images books old → AreRoots known lives leaves written places old → AreLone old lives → ((u : ℕ) → cell_at books.cells u ≡ start_cell old lives u) → AreUnits books.cells books.space → (i : ℕ) → LeadApart (leaves_at places i)
  leaves_apart None stands none lone cells units i = subst LeadApart (sym (nowhere_at none i)) tt
  leaves_apart (Some s) stands roots lone cells units i = lead seen images books known next ascend lives leaves written places s stands roots lone cells units i

  pub leaf_listed_at : (old : Option Stored) → Stands seen images books old → AreRoots known lives leaves written places old → AreLone old lives → ((u : ℕ) → cell_at books.cells u ≡ start_cell old lives u) → AreUnits books.cells books.space
      → (i : ℕ) (p : TreePlace) (link : Link) → slice_get places i ≡ Some p → Member link p.leaves.items → (link.addr.offset ≡ 0 → ⊥) → Member link.addr p.addrs.items
  leaf_listed_at None stands none lone cells units i p link is there some = absurd (nothing_at none i p is)
  leaf_listed_at (Some s) stands roots lone cells units i p link is there some = leaf_in seen images books known next ascend lives leaves written places s stands roots lone cells units i p link is there some

  pub one_begins : (old : Option Stored) → Stands seen images books old → AreRoots known lives leaves written places old → AreLone old lives → ((u : ℕ) → cell_at books.cells u ≡ start_cell old lives u) → AreUnits books.cells books.space
      → (i j : ℕ) (p q : TreePlace) (x y : Addr) → slice_get places i ≡ Some p → Member x p.addrs.items → slice_get places j ≡ Some q → Member y q.addrs.items → x.offset ≡ y.offset → i ≡ j
  one_begins None stands none lone cells units i j p q x y is there also its same = absurd (nothing_at none i p is)
  one_begins (Some s) stands roots lone cells units i j p q x y is there also its same = begins_once seen images books known next ascend lives leaves written places s stands roots lone cells units i j p q x y is there also its same

  pub begins_body : (old : Option Stored) → Stands seen images books old → AreRoots known lives leaves written places old → AreLone old lives → ((u : ℕ) → cell_at books.cells u ≡ start_cell old lives u) → AreUnits books.cells books.space → (i : ℕ) (p : TreePlace) (a : Addr) → slice_get places i ≡ Some p → Member a p.addrs.items → IsBody old a
  begins_body None stands none lone cells units i p a is there = absurd (nothing_at none i p is)
  begins_body (Some s) stands roots lone cells units i p a is there = body_addr seen images books known next ascend lives leaves written places s stands roots lone cells units i p a is there

  pub bodies_before : (old : Option Stored) → Stands seen images books old → AreRoots known lives leaves written places old → AreLone old lives → ((u : ℕ) → cell_at books.cells u ≡ start_cell old lives u) → AreUnits books.cells books.space → (a : Addr) → Member a (addrs_of places ++ history_places old) → IsBody old a
  bodies_before None stands none lone cells units a there = elim (in_either (addrs_of places) [] a there) [
    | inl of_tree ↦ absurd (subst (λ (l : List TreePlace). Member a (addrs_of l)) none of_tree)
    | inr older ↦ absurd older
  ]
  bodies_before (Some s) stands roots lone cells units a there = before_body seen images books known next ascend lives leaves written places s stands roots lone cells units a there

  pub begins_old : (old : Option Stored) → Stands seen images books old → AreRoots known lives leaves written places old → AreLone old lives → ((u : ℕ) → cell_at books.cells u ≡ start_cell old lives u) → AreUnits books.cells books.space → (i : ℕ) (p : TreePlace) (a : Addr) → slice_get places i ≡ Some p → Member a p.addrs.items → IsOldBlock old lives a
  begins_old None stands none lone cells units i p a is there = absurd (nothing_at none i p is)
  begins_old (Some s) stands roots lone cells units i p a is there = old_addr seen images books known next ascend lives leaves written places s stands roots lone cells units i p a is there

  pub begins_within : (old : Option Stored) → Stands seen images books old → AreRoots known lives leaves written places old → AreLone old lives → ((u : ℕ) → cell_at books.cells u ≡ start_cell old lives u) → AreUnits books.cells books.space → (i : ℕ) (p : TreePlace) (a : Addr) → slice_get places i ≡ Some p → Member a p.addrs.items → a.offset + a.size ≤ length seen
  begins_within None stands none lone cells units i p a is there = absurd (nothing_at none i p is)
  begins_within (Some s) stands roots lone cells units i p a is there = within_addr seen images books known next ascend lives leaves written places s stands roots lone cells units i p a is there

pub live_of_old : (old : Option Stored) (lives : List Lone) (books : Books) (a : Addr) → ((u : ℕ) → cell_at books.cells u ≡ start_cell old lives u) → IsOldBlock old lives a → HasLive books.cells a.offset a.size
live_of_old old lives books a cells o = let cell = cells o.unit ∙ o.cell in (o.unit, o.offset, o.size ∙ ap (λ (c : Cell). 4096 * c.units) (sym cell), ap (λ (c : Cell). c.is_live) cell)
