-- What trees have above their leaves, which tells where their blocks stand.
use Rattle.std.specs.Prelude.{◌≡◌, ℕ, ◌+◌, ◌<◌, ◌≤◌, List, [], ◌∷◌, ◌++◌, length, map, take, refl}
use Rattle.std.specs.List.{flat_map}
use Rattle.std.proofs.Common.{sym, ◌∙◌, ap, subst, arith, get_or}
use Rattle.std.proofs.lemmas.List.{append_assoc, length-append, map-append, take_all}
use Rattle.device_layout.specs.declared.addr.Addr.{Addr}
use Rattle.device_layout.specs.declared.slot.Slot.{Slot}
use Rattle.block_mgr.specs.declared.found.Found.{Found}
use Rattle.stored.specs.Blocks.{Block}
use Rattle.stored.specs.Tree.{bottom, inner_blocks, tree_blocks}
use Rattle.stored.specs.TableTree.{Entry, TableTree, Climbs, table_kind, root_entry}
use Rattle.stored.specs.HistoryTree.{HistoryTree}
use Rattle.stored.specs.Records.{Root, TableRoot, Record}
use Rattle.stored.specs.Stored.{tables_blocks, history_blocks}
use Rattle.checkpoint_record.proofs.Lists.{take_step}
use Rattle.device_leaf.specs.Damage.{record_found}
use Rattle.tree_open.specs.declared.place.Upper.{Upper}
use Rattle.tree_open.specs.Trees.{InnerIs, HasTree, places, leaf_addr, leaf_addrs, root_own}
use Rattle.tree_open.proofs.Descent.{tree_read, one_inner, leaf_more}
use Rattle.hist_open.specs.declared.history.History.{History}
use Rattle.hist_open.specs.Trees.{HasHistory, IsRead}
use Rattle.hist_open.proofs.TreeLeaves.{one_history}
use Rattle.recover_open.specs.Wholes.{whole_found}
use Rattle.recover_open.specs.Bare.{HaveTrees, HaveUppers, AllClimb}
use Rattle.recover_open.specs.Damage.{found_there, upper_found, uppers_found, blocks_found}
use Rattle.recover_open.proofs.TreeLeaves.{tree_places}
use Rattle.recover_open.proofs.Places.{found_of, found_places, all_found}

-- ---- where the blocks stand

upper_is : (bytes : List ℕ) (root : Root) (u : Upper) (tree : TableTree) → InnerIs bytes root u.entries.items u.addrs.items → HasTree bytes root tree → upper_found u ≡ found_of (tree_blocks table_kind (root_entry root.link) tree)
upper_is bytes root u tree inner has =
    let own : List Entry = bottom (root_own root) tree.layers in
    let upper : List Addr = places (inner_blocks table_kind (root_own root) tree.layers) in
    let one = one_inner bytes root u.entries.items own u.addrs.items upper inner (tree_read bytes root tree has) in
    sym (map-append found_there u.addrs.items (leaf_addrs u.entries.items))
    ∙ ap (λ (l : List Addr). map found_there (l ++ leaf_addrs u.entries.items)) one.1
    ∙ ap (λ (es : List Entry). map found_there (upper ++ leaf_addrs es)) one.0
    ∙ ap (λ (l : List Addr). map found_there l) (sym (tree_places bytes root tree has))
    ∙ sym (found_places (tree_blocks table_kind (root_entry root.link) tree))

all_are : (bytes : List ℕ) (tables : List TableRoot) (uppers : List Upper) (trees : List TableTree) → HaveUppers bytes tables uppers → HaveTrees bytes tables trees → flat_map upper_found uppers ≡ found_of (tables_blocks tables trees)
all_are bytes [] [] [] have trees_there = refl
all_are bytes [] [] (tree ∷ trees) have trees_there = absurd trees_there
all_are bytes [] (u ∷ uppers) trees have trees_there = absurd have
all_are bytes (t ∷ tables) [] trees have trees_there = absurd have
all_are bytes (t ∷ tables) (u ∷ uppers) [] have trees_there = absurd trees_there
all_are bytes (t ∷ tables) (u ∷ uppers) (tree ∷ trees) have trees_there =
    let own : List Block = tree_blocks table_kind (root_entry t.root.link) tree in
    ap (λ (l : List Found). l ++ flat_map upper_found uppers) (upper_is bytes t.root u tree have.0 trees_there.0)
    ∙ ap (λ (l : List Found). found_of own ++ l) (all_are bytes tables uppers trees have.1 trees_there.1)
    ∙ sym (map-append {A = Block} (λ b. found_there b.place) own (tables_blocks tables trees))

-- the blocks of the trees are those that their upper parts tell of
pub uppers_are : (bytes : List ℕ) (slot : Slot) (tables : List TableRoot) (uppers : List Upper) (trees : List TableTree) → HaveUppers bytes tables uppers → HaveTrees bytes tables trees → uppers_found slot uppers ≡ blocks_found slot tables trees
uppers_are bytes slot tables uppers trees have trees_there = ap (λ (l : List Found). record_found slot ∷ l) (all_are bytes tables uppers trees have trees_there)

-- and with those of the history
pub wholes_are : (bytes : List ℕ) (slot : Slot) (r : Record) (uppers : List Upper) (h : History) (trees : List TableTree) (t : HistoryTree) → HaveUppers bytes r.tables uppers → HaveTrees bytes r.tables trees → IsRead bytes r.history h → HasHistory bytes r.history t
    → whole_found slot uppers h.addrs.items ≡ all_found slot r trees t
wholes_are bytes slot r uppers h trees t have trees_there read has =
    let tables : List Block = tables_blocks r.tables trees in
    let more : List Block = history_blocks r t in
    ap (λ (l : List Found). record_found slot ∷ (l ++ map found_there h.addrs.items)) (all_are bytes r.tables uppers trees have trees_there)
    ∙ ap (λ (l : List Addr). record_found slot ∷ (found_of tables ++ map found_there l)) (read.stand ∙ ap (λ (x : HistoryTree). places (history_blocks r x)) (one_history bytes r.history read.tree t read.has has))
    ∙ ap (λ (l : List Found). record_found slot ∷ (found_of tables ++ l)) (sym (found_places more))
    ∙ ap (λ (l : List Found). record_found slot ∷ l) (sym (map-append {A = Block} (λ b. found_there b.place) tables more))

-- one leaf more
pub found_leaf : (own : List Entry) (i : ℕ) (e : Entry) (a : Addr) (before found more : List Found) → i < length own → e ≡ get_or own i e → a ≡ e.link.addr → found ≡ before ++ map found_there (leaf_addrs (take i own)) → more ≡ found ++ map found_there (leaf_addr a)
    → more ≡ before ++ map found_there (leaf_addrs (take (i + 1) own))
found_leaf own i e a before found more lt is same were added =
    let step : leaf_addrs (take i own) ++ leaf_addr a ≡ leaf_addrs (take (i + 1) own) = leaf_more own i e a [] (leaf_addrs (take i own)) (leaf_addrs (take i own) ++ leaf_addr a) lt is same refl refl in
    added
    ∙ ap (λ (l : List Found). l ++ map found_there (leaf_addr a)) were
    ∙ append_assoc before (map found_there (leaf_addrs (take i own))) (map found_there (leaf_addr a))
    ∙ ap (λ (l : List Found). before ++ l) (sym (map-append found_there (leaf_addrs (take i own)) (leaf_addr a)))
    ∙ ap (λ (l : List Addr). before ++ map found_there l) step

-- ---- while they are read

have_push : (bytes : List ℕ) (tables : List TableRoot) (uppers : List Upper) (t : TableRoot) (u : Upper) → HaveUppers bytes tables uppers → InnerIs bytes t.root u.entries.items u.addrs.items → HaveUppers bytes (tables ++ t ∷ []) (uppers ++ u ∷ [])
have_push bytes [] [] t u have is = (is, tt)
have_push bytes [] (other ∷ uppers) t u have is = absurd have
have_push bytes (x ∷ tables) [] t u have is = absurd have
have_push bytes (x ∷ tables) (other ∷ uppers) t u have is = (have.0, have_push bytes tables uppers t u have.1 is)

pub have_none : (bytes : List ℕ) (tables : List TableRoot) (uppers : List Upper) → uppers ≡ [] → HaveUppers bytes (take 0 tables) uppers
have_none bytes tables uppers none = subst (λ (l : List Upper). HaveUppers bytes [] l) (sym none) tt

pub have_more : (bytes : List ℕ) (tables : List TableRoot) (i : ℕ) (t : TableRoot) (root : Root) (uppers all : List Upper) (u : Upper) → i < length tables → t ≡ get_or tables i t → root ≡ t.root → HaveUppers bytes (take i tables) uppers → InnerIs bytes root u.entries.items u.addrs.items
    → all ≡ uppers ++ u ∷ [] → HaveUppers bytes (take (i + 1) tables) all
have_more bytes tables i t root uppers all u lt is same have inner added =
    subst (λ (l : List Upper). HaveUppers bytes (take (i + 1) tables) l) (sym added) (subst (λ (l : List TableRoot). HaveUppers bytes l (uppers ++ u ∷ [])) (sym (take_step tables i t lt is))
    (have_push bytes (take i tables) uppers t u have (subst (λ (x : Root). InnerIs bytes x u.entries.items u.addrs.items) same inner)))

pub have_whole : (bytes : List ℕ) (tables : List TableRoot) (i : ℕ) (uppers : List Upper) → length tables ≤ i → HaveUppers bytes (take i tables) uppers → HaveUppers bytes tables uppers
have_whole bytes tables i uppers le have = subst (λ (l : List TableRoot). HaveUppers bytes l uppers) (take_all i tables le) have

climb_push : (uppers : List Upper) (u : Upper) → AllClimb uppers → Climbs u.entries.items → AllClimb (uppers ++ u ∷ [])
climb_push [] u all is = (is, tt)
climb_push (x ∷ uppers) u all is = (all.0, climb_push uppers u all.1 is)

pub climb_none : (uppers : List Upper) → uppers ≡ [] → AllClimb uppers
climb_none uppers none = subst (λ (l : List Upper). AllClimb l) (sym none) tt

pub climb_more : (uppers all : List Upper) (u : Upper) → AllClimb uppers → Climbs u.entries.items → all ≡ uppers ++ u ∷ [] → AllClimb all
climb_more uppers all u are is added = subst (λ (l : List Upper). AllClimb l) (sym added) (climb_push uppers u are is)

-- ---- while their leaves are read

climb_at : (front : List Upper) (u : Upper) (after : List Upper) → AllClimb (front ++ u ∷ after) → Climbs u.entries.items
climb_at [] u after all = all.0
climb_at (x ∷ front) u after all = climb_at front u after all.1

inner_at : (bytes : List ℕ) (tables : List TableRoot) (front : List Upper) (u : Upper) (after : List Upper) (t : TableRoot) → HaveUppers bytes tables (front ++ u ∷ after) → t ≡ get_or tables (length front) t → InnerIs bytes t.root u.entries.items u.addrs.items
inner_at bytes [] [] u after t have is = absurd have
inner_at bytes [] (x ∷ front) u after t have is = absurd have
inner_at bytes (y ∷ tables) [] u after t have is = subst (λ (x : TableRoot). InnerIs bytes x.root u.entries.items u.addrs.items) (sym is) have.0
inner_at bytes (y ∷ tables) (x ∷ front) u after t have is = inner_at bytes tables front u after t have.1 is

-- the upper part at hand, which is the first of those that are left
module _ (moved after left all : List Upper) (u : Upper) (next : left ≡ u ∷ after) (is : moved ++ left ≡ all) where
  whole : moved ++ u ∷ after ≡ all
  whole = ap (λ (l : List Upper). moved ++ l) (sym next) ∙ is

  pub upper_left : (moved ++ u ∷ []) ++ after ≡ all
  upper_left = append_assoc moved (u ∷ []) after ∙ whole

  pub upper_climbs : AllClimb all → Climbs u.entries.items
  upper_climbs climb = climb_at moved u after (subst (λ (l : List Upper). AllClimb l) (sym whole) climb)

  pub upper_within : (n : ℕ) → length all ≡ n → length moved < n
  upper_within n same = omega (arith, same, ap (λ (l : List Upper). length l) whole, length-append moved (u ∷ after))

  pub upper_there : (bytes : List ℕ) (tables : List TableRoot) (i : ℕ) (t : TableRoot) (root : Root) → HaveUppers bytes tables all → i ≡ length moved → t ≡ get_or tables i t → root ≡ t.root → InnerIs bytes root u.entries.items u.addrs.items
  upper_there bytes tables i t root have at it same = subst (λ (x : Root). InnerIs bytes x u.entries.items u.addrs.items) (sym same)
      (inner_at bytes tables moved u after t (subst (λ (l : List Upper). HaveUppers bytes tables l) (sym whole) have) (subst (λ (n : ℕ). t ≡ get_or tables n t) at it))
