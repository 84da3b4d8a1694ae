-- The blocks of a tree in the order in which they are captured.
use Rattle.std.specs.Prelude.{suc, List, [], ◌∷◌, ◌++◌, length, refl}
use Rattle.std.specs.List.{AllByRecursion}
use Rattle.std.proofs.Common.{inl, inr, sym, subst}
use Rattle.device_layout.specs.declared.addr.Addr.{Addr}
use Rattle.kv_model.specs.Holds.{Member}
use Rattle.stored.specs.Blocks.{Block, AreApart, Apart}
use Rattle.stored.specs.Records.{Root}
use Rattle.stored.specs.TableTree.{Entry, TableTree, root_entry, table_kind}
use Rattle.stored.specs.Tree.{Layer, bottom, inner_blocks, join, leaf_blocks, page_blocks, tree_blocks}
use Rattle.tree_open.specs.Trees.{places as places_in, root_own}
use Rattle.tree_write.specs.Captures.{places_of}
use Rattle.tree_write.specs.Cuts.{captured_blocks, risen_blocks}
use Rattle.ckpt_step.proofs.Members.{all_made, in_back, in_either, in_front, map_member, member_map}
use Rattle.ckpt_step.proofs.Pairs.{apart_across, apart_back, apart_front}

risen_in : (own : List Entry) (layers : List (Layer Entry)) (b : Block) → Member b (risen_blocks own layers) → Member b (inner_blocks table_kind own layers)
risen_in own [] b there = there
risen_in own (pages ∷ layers) b there = elim (in_either (risen_blocks (join pages) layers) (page_blocks table_kind (suc (length layers)) own pages) b there) [
  | inl below ↦ in_back (page_blocks table_kind (suc (length layers)) own pages) (inner_blocks table_kind (join pages) layers) b (risen_in (join pages) layers b below)
  | inr here ↦ in_front (page_blocks table_kind (suc (length layers)) own pages) (inner_blocks table_kind (join pages) layers) b here
]

in_risen : (own : List Entry) (layers : List (Layer Entry)) (b : Block) → Member b (inner_blocks table_kind own layers) → Member b (risen_blocks own layers)
in_risen own [] b there = there
in_risen own (pages ∷ layers) b there = elim (in_either (page_blocks table_kind (suc (length layers)) own pages) (inner_blocks table_kind (join pages) layers) b there) [
  | inl here ↦ in_back (risen_blocks (join pages) layers) (page_blocks table_kind (suc (length layers)) own pages) b here
  | inr below ↦ in_front (risen_blocks (join pages) layers) (page_blocks table_kind (suc (length layers)) own pages) b (in_risen (join pages) layers b below)
]

module _ (root : Root) (t : TableTree) where
  abbrev leafs : List Block
  leafs = leaf_blocks table_kind (bottom (root_own root) t.layers) t.leaves

  abbrev inner : List Block
  inner = inner_blocks table_kind (root_own root) t.layers

  abbrev risen : List Block
  risen = risen_blocks (root_own root) t.layers

  captured_in : (b : Block) → Member b (captured_blocks root t) → Member b (tree_blocks table_kind (root_entry root.link) t)
  captured_in b there = elim (in_either leafs risen b there) [
    | inl leaf ↦ in_back inner leafs b leaf
    | inr above ↦ in_front inner leafs b (risen_in (root_own root) t.layers b above)
  ]

  in_captured : (b : Block) → Member b (tree_blocks table_kind (root_entry root.link) t) → Member b (captured_blocks root t)
  in_captured b there = elim (in_either inner leafs b there) [
    | inl above ↦ in_back leafs risen b (in_risen (root_own root) t.layers b above)
    | inr leaf ↦ in_front leafs risen b leaf
  ]

  pub both_listed : (a : Addr) → (Member a (places_of (captured_blocks root t)) → Member a (places_in (tree_blocks table_kind (root_entry root.link) t))) × (Member a (places_in (tree_blocks table_kind (root_entry root.link) t)) → Member a (places_of (captured_blocks root t)))
  both_listed a = (
    (λ there. let b = member_map {A = Block} (λ x. x.place) a (captured_blocks root t) there in subst (λ (x : Addr). Member x (places_in (tree_blocks table_kind (root_entry root.link) t))) (sym b.2) (map_member {A = Block} (λ x. x.place) b.0 (tree_blocks table_kind (root_entry root.link) t) (captured_in b.0 b.1))),
    (λ there. let b = member_map {A = Block} (λ x. x.place) a (tree_blocks table_kind (root_entry root.link) t) there in subst (λ (x : Addr). Member x (places_of (captured_blocks root t))) (sym b.2) (map_member {A = Block} (λ x. x.place) b.0 (captured_blocks root t) (in_captured b.0 b.1))),
  )

pub apart_join : (xs ys : List Block) → Apart xs → Apart ys → ((b c : Block) → Member b xs → Member c ys → AreApart b.place c.place) → Apart (xs ++ ys)
apart_join [] ys apart more across = more
apart_join (x ∷ xs) ys apart more across = (both xs apart.0, apart_join xs ys apart.1 more (λ b c there also. across b c (inr there) also))
  where
    both : (zs : List Block) → AllByRecursion (λ (c : Block). AreApart x.place c.place) zs → AllByRecursion (λ (c : Block). AreApart x.place c.place) (zs ++ ys)
    both [] all = all_made (λ (c : Block). AreApart x.place c.place) ys (λ c there. across x c (inl refl) there)
    both (z ∷ zs) all = (all.0, both zs all.1)

pub turned : (x y : Addr) → AreApart x y → AreApart y x
turned x y (inl is) = inr is
turned x y (inr is) = inl is

swapped : (xs ys : List Block) → Apart (xs ++ ys) → Apart (ys ++ xs)
swapped xs ys apart = apart_join ys xs (apart_back xs ys apart) (apart_front xs ys apart) (λ b c there also. turned c.place b.place (apart_across xs ys c b apart also there))

fallen : (own : List Entry) (layers : List (Layer Entry)) → Apart (risen_blocks own layers) → Apart (inner_blocks table_kind own layers)
fallen own [] apart = apart
fallen own (pages ∷ layers) apart =
    let page = page_blocks table_kind (suc (length layers)) own pages in
    let above = risen_blocks (join pages) layers in
    apart_join page (inner_blocks table_kind (join pages) layers) (apart_back above page apart) (fallen (join pages) layers (apart_front above page apart))
    (λ b c there also. turned c.place b.place (apart_across above page c b apart (in_risen (join pages) layers c also) there))

pub tree_apart : (root : Root) (t : TableTree) → Apart (captured_blocks root t) → Apart (tree_blocks table_kind (root_entry root.link) t)
tree_apart root t apart =
    apart_join (inner root t) (leafs root t) (fallen (root_own root) t.layers (apart_back (leafs root t) (risen root t) apart)) (apart_front (leafs root t) (risen root t) apart)
    (λ b c there also. turned c.place b.place (apart_across (leafs root t) (risen root t) c b apart also (in_risen (root_own root) t.layers b there)))
