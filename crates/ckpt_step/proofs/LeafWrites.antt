-- A leaf of the directory that is written behind a draft.
use Rattle.std.specs.Prelude.{◌≡◌, ℕ, ◌≤◌, IfSome, List, [], ◌∷◌, ◌++◌, length, drop, Option, refl}
use Rattle.std.specs.List.{AllByRecursion}
use Rattle.std.proofs.Common.{sym, ◌∙◌, ap, subst}
use Rattle.std.proofs.lemmas.List.{append-nil, map-append}
use Rattle.disk_model.specs.declared.disk.Disk.{Ghosts}
use Rattle.block_mgr.specs.Blocks.{Books}
use Rattle.device_layout.specs.declared.addr.Addr.{Addr}
use Rattle.device_layout.specs.declared.link.Link.{Link}
use Rattle.stamp.specs.declared.Name.{Name}
use Rattle.wt_code.specs.declared.store_error.StoreError.{StoreError}
use Rattle.wt_code.specs.declared.store_error.StoreError.TheVariants.{NoSpace}
use Rattle.row_page.specs.Rows.{Row, key_most}
use Rattle.reconcile.specs.declared.image.Image.{Image}
use Rattle.snapshot.specs.Sight.{Sight}
use Rattle.leaf_frame.specs.Leaf.{HeldLeaf}
use Rattle.frame_capture.specs.Capture.{IsCaptured}
use Rattle.stored.specs.Stored.{Stored}
use Rattle.stored.specs.TableTree.{Climbs, Entry, EntryFits, first_key, table_kind}
use Rattle.stored.specs.Tree.{AllBear}
use Rattle.tree_dir.specs.declared.leaf.Leaf.{Leaf}
use Rattle.tree_write.specs.Drafts.{AreFrom, AreLiveLeaves, Drafted, LeavesOf, addrs_to, aligned}
use Rattle.tree_write.specs.Steps.{LeavesStopped, keys_of, links_in, part_keys}
use Rattle.tree_write.proofs.Drafting.{draft_failed}
use Rattle.tree_write.proofs.LeafKeys.{part_stays}
use Rattle.tree_write.proofs.Trees.{places_leaves}
use Rattle.ckpt_step.specs.Drafting.{AreCutOf, MakesLeaf, StopsLeaf}
use Rattle.ckpt_step.specs.declared.parts.LeafPart.{LeafPart}
use Rattle.ckpt_step.proofs.OrderedByName.{all_back}

-- ---- the entries behind others

cons_first : {A : Type 0} {x y : A} {xs ys : List A} → x ∷ xs ≡ y ∷ ys → x ≡ y
cons_first same = cc

cons_rest : {A : Type 0} {x y : A} {xs ys : List A} → x ∷ xs ≡ y ∷ ys → xs ≡ ys
cons_rest same = cc

pub append_same : {A : Type 0} (xs ys zs : List A) → xs ++ ys ≡ xs ++ zs → ys ≡ zs
append_same [] ys zs same = same
append_same (x ∷ xs) ys zs same = append_same xs ys zs (cons_rest same)

abbrev entry_with : List ℕ → Addr → Name → ℕ → Entry
entry_with key addr greatest durable = record { key = key; link = record { addr = addr; greatest = greatest; durable = durable } }

-- an entry is its key, its address, and what it says of its leaf
entry_same : (e f : Entry) → e.key ≡ f.key → e.link.addr ≡ f.link.addr → e.link.greatest ≡ f.link.greatest → e.link.durable ≡ f.link.durable → e ≡ f
entry_same e f key addr greatest durable =
    ap (λ (k : List ℕ). entry_with k e.link.addr e.link.greatest e.link.durable) key
    ∙ (ap (λ (a : Addr). entry_with f.key a e.link.greatest e.link.durable) addr
    ∙ (ap (λ (n : Name). entry_with f.key f.link.addr n e.link.durable) greatest ∙ ap (λ (n : ℕ). entry_with f.key f.link.addr f.link.greatest n) durable))

-- entries of the same leaves, keys and addresses at first are the same at first
pub same_front : (es all : List Entry) (leaves images : List (List Row)) (keys : List (List ℕ)) (addrs : List Addr) → AllBear table_kind es leaves → AllBear table_kind all (leaves ++ images) → keys_of all ≡ keys_of es ++ keys → addrs_to all ≡ addrs_to es ++ addrs
    → all ≡ es ++ drop (length es) all
same_front [] all [] images keys addrs bear also same_keys same_addrs = refl
same_front [] all (rows ∷ leaves) images keys addrs bear also same_keys same_addrs = absurd bear
same_front (e ∷ es) all [] images keys addrs bear also same_keys same_addrs = absurd bear
same_front (e ∷ es) [] (rows ∷ leaves) images keys addrs bear also same_keys same_addrs = absurd also
same_front (e ∷ es) (f ∷ all) (rows ∷ leaves) images keys addrs bear also same_keys same_addrs =
    let one : f ≡ e = entry_same f e (cons_first same_keys) (cons_first same_addrs) (also.0.says.greatest ∙ sym bear.0.says.greatest) (also.0.says.durable ∙ sym bear.0.says.durable) in
    ap (λ (x : Entry). x ∷ all) one ∙ ap (λ (l : List Entry). e ∷ l) (same_front es all leaves images keys addrs bear.1 also.1 (cons_rest same_keys) (cons_rest same_addrs))

climbs_behind : (es own : List Entry) → Climbs (es ++ own) → Climbs own
climbs_behind [] own climbs = climbs
climbs_behind (e ∷ []) [] climbs = tt
climbs_behind (e ∷ []) (f ∷ own) climbs = climbs.1
climbs_behind (e ∷ f ∷ es) own climbs = climbs_behind (f ∷ es) own climbs.1

begins_at : (low : List ℕ) (own : List Entry) (images : List Image) → keys_of own ≡ part_keys low images → IfSome (first_key own) (λ key. key ≡ low)
begins_at low [] images keys = tt
begins_at low (e ∷ own) [] keys = absurd cc
begins_at low (e ∷ own) (i ∷ images) keys = cons_first keys

-- ---- a leaf is written

pub cut_of : (s : Sight) (held : HeldLeaf) (images : List Image) (rows : List Row) → IsCaptured s held rows → (of : LeavesOf images rows) → AreCutOf s held of.leaves
cut_of s held images rows is of = record { captured = subst (λ (l : List Row). IsCaptured s held l) (sym of.whole) is; full = of.full; some = of.some }

module _ {D : Type 0} (g : Ghosts D) (s : Sight) (held : HeldLeaf) (l : Leaf) (part : List Entry) (mid books' : Books) (es all : List Entry) (more more' : List LeafPart) (captured captured' : List Addr) (between after : D) (images : List Image) (rows : List Row) (is : IsCaptured s held rows) where
  abbrev Writes : Type 0
  Writes = (old : Option Stored) (first books : Books) (before : D) (links : List Link) (leaves : List (List Row)) (listed : List Addr)
      → Drafted g old first books mid before between links leaves listed es → AreLiveLeaves first (links_in part)
      → (of : LeavesOf images rows) × (addrs : List Addr) × (captured' ≡ captured ++ addrs) × Drafted g old first books books' before after (links ++ aligned (links_in part) of.leaves) (leaves ++ of.leaves) (listed ++ addrs) all

  pub makes_leaf : AreFrom l.entry.key rows → length l.entry.key ≤ key_most → keys_of all ≡ keys_of es ++ part_keys l.entry.key images → Climbs all → AllByRecursion EntryFits all
      → (p : LeafPart) → p.leaf ≡ l.id → p.entries.items ≡ drop (length es) all → more' ≡ more ++ p ∷ [] → Writes → MakesLeaf g s held l part mid books' es all more more' captured captured' between after
  makes_leaf from short keys climbs fits p of_leaf with_entries more_are writes old first books before links leaves listed draft live =
      let wrote = writes old first books before links leaves listed draft live in
      let of = wrote.0 in
      let addrs = wrote.1 in
      let own = drop (length es) all in
      let old_addrs : listed ≡ addrs_to es = draft.written.listed ∙ places_leaves es leaves draft.written.bear draft.written.stored in
      let new_addrs : listed ++ addrs ≡ addrs_to all = wrote.3.written.listed ∙ places_leaves all (leaves ++ of.leaves) wrote.3.written.bear wrote.3.written.stored in
      let split : all ≡ es ++ own = same_front es all leaves of.leaves (part_keys l.entry.key images) addrs draft.written.bear wrote.3.written.bear keys (sym new_addrs ∙ ap (λ (m : List Addr). m ++ addrs) old_addrs) in
      let own_keys : keys_of own ≡ part_keys l.entry.key images = append_same (keys_of es) (keys_of own) (part_keys l.entry.key images) (sym (map-append {A = Entry} {B = List ℕ} (λ e. e.key) es own) ∙ (ap keys_of (sym split) ∙ keys)) in (
        of.leaves,
        own,
        addrs,
        record {
          cut = cut_of s held images rows is of;
          entries = record {
            fit = all_back EntryFits es own (subst (λ (m : List Entry). AllByRecursion EntryFits m) split fits);
            climbs = climbs_behind es own (subst Climbs split climbs);
            begins = begins_at l.entry.key own images own_keys;
            stay = part_stays l.entry.key own images rows short own_keys of is.fit from;
          };
          es_are = split;
          made = p;
          of_leaf = of_leaf;
          with_entries = with_entries;
          more_are = more_are;
          captured_are = wrote.2;
        },
        subst (λ (m : List Entry). Drafted g old first books books' before after (links ++ aligned (links_in part) of.leaves) (leaves ++ of.leaves) (listed ++ addrs) m) split wrote.3,
      )

  -- it is written, but there is no memory to note its entries
  pub unnoted_leaf : (e : StoreError) → (e ≡ NoSpace → ⊥) → Writes → StopsLeaf g s held l part mid books' es all more more' captured captured' between after e
  unnoted_leaf e other writes old first books before links leaves listed draft live =
      let wrote = writes old first books before links leaves listed draft live in
      (wrote.0.leaves, wrote.1, wrote.2, (λ is. absurd (other is)), draft_failed g old first books books' before after (links ++ aligned (links_in part) wrote.0.leaves) (leaves ++ wrote.0.leaves) (listed ++ wrote.1) all wrote.3 e other)

  -- some of its images are captured
  pub stops_leaf : (e : StoreError)
      → ((old : Option Stored) (first books : Books) (before : D) (links : List Link) (leaves : List (List Row)) (listed : List Addr)
      → Drafted g old first books mid before between links leaves listed es → AreLiveLeaves first (links_in part)
      → (of : LeavesOf images rows) × (addrs : List Addr) × (captured' ≡ captured ++ addrs) × LeavesStopped g old first books books' before after (links ++ aligned (links_in part) of.leaves) (leaves ++ of.leaves) (listed ++ addrs) e)
      → StopsLeaf g s held l part mid books' es all more more' captured captured' between after e
  stops_leaf e writes old first books before links leaves listed draft live =
      let wrote = writes old first books before links leaves listed draft live in
      (wrote.0.leaves, wrote.1, wrote.2, (λ none. cut_of s held images rows is wrote.0), wrote.3)

-- nothing of it is captured
pub no_leaf : {D : Type 0} (g : Ghosts D) (s : Sight) (held : HeldLeaf) (l : Leaf) (part : List Entry) (mid : Books) (es all : List Entry) (more more' : List LeafPart) (captured captured' : List Addr) (between : D) (e : StoreError) → (e ≡ NoSpace → ⊥) → captured' ≡ captured
    → StopsLeaf g s held l part mid mid es all more more' captured captured' between between e
no_leaf g s held l part mid es all more more' captured captured' between e other same old first books before links leaves listed draft live = (
  [],
  [],
  same ∙ sym (append-nil captured),
  (λ is. absurd (other is)),
  subst (λ (m : List Link). LeavesStopped g old first books mid before between m (leaves ++ []) (listed ++ []) e) (sym (append-nil links))
      (subst (λ (m : List (List Row)). LeavesStopped g old first books mid before between links m (listed ++ []) e) (sym (append-nil leaves))
      (subst (λ (m : List Addr). LeavesStopped g old first books mid before between links leaves m e) (sym (append-nil listed)) (draft_failed g old first books mid before between links leaves listed es draft e other))),
)
