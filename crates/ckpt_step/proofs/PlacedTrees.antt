-- Trees by place, one more behind the others, and where their blocks stand.
use Rattle.std.specs.Prelude.{ℕ, List, Some, [], drop, length, refl, slice_get, suc, zero, ◌++◌, ◌∷◌, ◌≡◌, ◌≤◌, ◌⊎◌}
use Rattle.std.specs.List.{AllByRecursion}
use Rattle.std.proofs.Common.{ap, append_assoc, arith, inl, inr, subst, sym, ◌∙◌}
use Rattle.std.proofs.lemmas.Bool.{cases_lt}
use Rattle.std.proofs.lemmas.List.{append-nil}
use Rattle.disk_model.specs.Crash.{Keeps}
use Rattle.extent_list.specs.Space.{Space}
use Rattle.block_mgr.specs.declared.cell.Cell.{Cell}
use Rattle.block_mgr.specs.Blocks.{Has}
use Rattle.block_mgr.specs.Cells.{AreUnits}
use Rattle.block_mgr.proofs.HasLemmas.{used_some}
use Rattle.device_layout.specs.declared.addr.Addr.{Addr}
use Rattle.kv_model.specs.Holds.{Member}
use Rattle.stored.specs.Blocks.{AreApart, Block}
use Rattle.stored.specs.Records.{Root}
use Rattle.stored.specs.TableTree.{TableTree, root_entry, table_kind}
use Rattle.stored.specs.Tree.{tree_blocks}
use Rattle.checkpoint_core.specs.Stands.{AreInUse}
use Rattle.checkpoint_core.proofs.Holding.{holds_kept}
use Rattle.tree_open.specs.declared.place.TreePlace.{TreePlace}
use Rattle.tree_open.specs.Trees.{HasTree, IsPlaceOf}
use Rattle.ckpt_step.specs.Trees.{AreTreesAt, addrs_of, trees_blocks}
use Rattle.ckpt_step.proofs.Members.{flat_member, in_back, in_either, in_front, map_member, member_flat, member_map, none_some, some_same}

-- ---- lists

pub drop_at : {A : Type 0} (l : List A) (i : ℕ) (x : A) → slice_get l i ≡ Some x → drop i l ≡ x ∷ drop (suc i) l
drop_at [] i x at = absurd (none_some at)
drop_at (y ∷ l) zero x at = ap (λ z. z ∷ l) (some_same at)
drop_at (y ∷ l) (suc i) x at = drop_at l i x at

pub drop_none : {A : Type 0} (l : List A) (i : ℕ) → length l ≤ i → drop i l ≡ []
drop_none [] zero few = refl
drop_none [] (suc i) few = refl
drop_none (x ∷ l) zero few = absurd (omega (arith, few))
drop_none (x ∷ l) (suc i) few = drop_none l i (omega (arith, few))

pub all_front : {A : Type 0} (P : A → Type 0) (xs ys : List A) → AllByRecursion P (xs ++ ys) → AllByRecursion P xs
all_front P [] ys all = tt
all_front P (x ∷ xs) ys all = (all.0, all_front P xs ys all.1)

pub all_back : {A : Type 0} (P : A → Type 0) (xs ys : List A) → AllByRecursion P (xs ++ ys) → AllByRecursion P ys
all_back P [] ys all = all
all_back P (x ∷ xs) ys all = all_back P xs ys all.1

pub all_both : {A : Type 0} (P : A → Type 0) (xs ys : List A) → AllByRecursion P xs → AllByRecursion P ys → AllByRecursion P (xs ++ ys)
all_both P [] ys all more = more
all_both P (x ∷ xs) ys all more = (all.0, all_both P xs ys all.1 more)

pub in_append : {A : Type 0} (x : A) (xs : List A) (y : A) → Member x (xs ++ y ∷ []) → Member x xs ⊎ (x ≡ y)
in_append x xs y there = elim (in_either xs (y ∷ []) x there) [ inl before ↦ inl before | inr last ↦ elim last [ inl same ↦ inr same | inr none ↦ absurd none ] ]

-- ---- trees by place

pub tree_kept : (cells : List Cell) (bytes later : List ℕ) (root : Root) (tree : TableTree) → HasTree bytes root tree → AreInUse cells (tree_blocks table_kind (root_entry root.link) tree) → Keeps (Has cells) bytes later → HasTree later root tree
tree_kept cells bytes later root tree has used keeps = record { is = has.is; addressed = has.addressed; holds = holds_kept cells bytes later (tree_blocks table_kind (root_entry root.link) tree) has.holds used keeps }

pub trees_kept : (cells : List Cell) (bytes later : List ℕ) (places : List TreePlace) (trees : List TableTree) → AreTreesAt bytes places trees → AreInUse cells (trees_blocks places trees) → Keeps (Has cells) bytes later → AreTreesAt later places trees
trees_kept cells bytes later [] [] are used keeps = tt
trees_kept cells bytes later [] (tree ∷ trees) are used keeps = absurd are
trees_kept cells bytes later (p ∷ places) [] are used keeps = absurd are
trees_kept cells bytes later (p ∷ places) (tree ∷ trees) are used keeps =
    let own = tree_blocks table_kind (root_entry p.root.link) tree in (
      tree_kept cells bytes later p.root tree are.0 (all_front (λ (b : Block). Has cells b.place.offset b.place.size) own (trees_blocks places trees) used) keeps,
      are.1,
      trees_kept cells bytes later places trees are.2 (all_back (λ (b : Block). Has cells b.place.offset b.place.size) own (trees_blocks places trees) used) keeps,
    )

pub trees_more : (bytes : List ℕ) (places : List TreePlace) (trees : List TableTree) (p : TreePlace) (tree : TableTree) → AreTreesAt bytes places trees → HasTree bytes p.root tree → IsPlaceOf p tree → AreTreesAt bytes (places ++ p ∷ []) (trees ++ tree ∷ [])
trees_more bytes [] [] p tree are has is = (has, is, tt)
trees_more bytes [] (x ∷ trees) p tree are has is = absurd are
trees_more bytes (q ∷ places) [] p tree are has is = absurd are
trees_more bytes (q ∷ places) (x ∷ trees) p tree are has is = (are.0, are.1, trees_more bytes places trees p tree are.2 has is)

pub blocks_more : (bytes : List ℕ) (places : List TreePlace) (trees : List TableTree) (p : TreePlace) (tree : TableTree) → AreTreesAt bytes places trees → trees_blocks (places ++ p ∷ []) (trees ++ tree ∷ []) ≡ trees_blocks places trees ++ tree_blocks table_kind (root_entry p.root.link) tree
blocks_more bytes [] [] p tree are = append-nil (tree_blocks table_kind (root_entry p.root.link) tree)
blocks_more bytes [] (x ∷ trees) p tree are = absurd are
blocks_more bytes (q ∷ places) [] p tree are = absurd are
blocks_more bytes (q ∷ places) (x ∷ trees) p tree are =
    let own = tree_blocks table_kind (root_entry q.root.link) x in
    ap (λ (l : List Block). own ++ l) (blocks_more bytes places trees p tree are.2) ∙ sym (append_assoc own (trees_blocks places trees) (tree_blocks table_kind (root_entry p.root.link) tree))

-- where their blocks stand
pub block_addr : (bytes : List ℕ) (places : List TreePlace) (trees : List TableTree) (b : Block) → AreTreesAt bytes places trees → Member b (trees_blocks places trees) → Member b.place (addrs_of places)
block_addr bytes [] trees b are there = absurd there
block_addr bytes (p ∷ places) [] b are there = absurd there
block_addr bytes (p ∷ places) (tree ∷ trees) b are there =
    let own = tree_blocks table_kind (root_entry p.root.link) tree in
    elim (in_either own (trees_blocks places trees) b there) [
      | inl mine ↦ in_front p.addrs.items (addrs_of places) b.place (subst (λ (l : List Addr). Member b.place l) (sym are.1.addrs) (map_member {A = Block} (λ x. x.place) b own mine))
      | inr later ↦ in_back p.addrs.items (addrs_of places) b.place (block_addr bytes places trees b are.2 later)
    ]

pub addr_block : (bytes : List ℕ) (places : List TreePlace) (trees : List TableTree) (a : Addr) → AreTreesAt bytes places trees → Member a (addrs_of places) → (b : Block) × Member b (trees_blocks places trees) × (a ≡ b.place)
addr_block bytes [] trees a are there = absurd there
addr_block bytes (p ∷ places) [] a are there = absurd are
addr_block bytes (p ∷ places) (tree ∷ trees) a are there =
    let own = tree_blocks table_kind (root_entry p.root.link) tree in
    elim (in_either p.addrs.items (addrs_of places) a there) [
      | inl mine ↦ let b = member_map {A = Block} (λ x. x.place) a own (subst (λ (l : List Addr). Member a l) are.1.addrs mine) in (b.0, in_front own (trees_blocks places trees) b.0 b.1, b.2)
      | inr later ↦ let b = addr_block bytes places trees a are.2 later in (b.0, in_back own (trees_blocks places trees) b.0 b.1, b.2)
    ]

pub addrs_more : (places : List TreePlace) (p : TreePlace) (a : Addr) → (Member a (addrs_of (places ++ p ∷ [])) → Member a (addrs_of places) ⊎ Member a p.addrs.items) × (Member a (addrs_of places) ⊎ Member a p.addrs.items → Member a (addrs_of (places ++ p ∷ [])))
addrs_more places p a = (split, joined_)
  where
    split : Member a (addrs_of (places ++ p ∷ [])) → Member a (addrs_of places) ⊎ Member a p.addrs.items
    split there =
        let q = member_flat {A = TreePlace} (λ x. x.addrs.items) (places ++ p ∷ []) a there in
        elim (in_append q.0 places p q.1) [
          | inl before ↦ inl (flat_member {A = TreePlace} (λ x. x.addrs.items) q.0 places a before q.2)
          | inr same ↦ inr (subst (λ (x : TreePlace). Member a x.addrs.items) same q.2)
        ]

    joined_ : Member a (addrs_of places) ⊎ Member a p.addrs.items → Member a (addrs_of (places ++ p ∷ []))
    joined_ (inl before) = let q = member_flat {A = TreePlace} (λ x. x.addrs.items) places a before in flat_member {A = TreePlace} (λ x. x.addrs.items) q.0 (places ++ p ∷ []) a (in_front places (p ∷ []) q.0 q.1) q.2
    joined_ (inr last) = flat_member {A = TreePlace} (λ x. x.addrs.items) p (places ++ p ∷ []) a (in_back places (p ∷ []) p (inl refl)) last

-- two blocks in use that begin at two places
pub has_apart : (cells : List Cell) (space : Space) (x y : Addr) → AreUnits cells space → Has cells x.offset x.size → Has cells y.offset y.size → (x.offset ≡ y.offset → ⊥) → AreApart x y
has_apart cells space x y units (u, at, size, used) (v, also, other, too) differ = elim (cases_lt u v) [
  | inl below ↦ inl (omega (arith, at, size, also, units.apart u v below (used_some cells space v units too)))
  | inr not_below ↦ elim (cases_lt v u) [
    | inl above ↦ inr (omega (arith, at, also, other, units.apart v u above (used_some cells space u units used)))
    | inr not_above ↦ absurd (differ (omega (arith, at, also, not_below, not_above)))
  ]
]
