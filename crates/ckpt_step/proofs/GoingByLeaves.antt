-- By leaves, one tree more.
use Rattle.std.specs.Prelude.{ℕ, List, Option, Some, [], length, refl, slice_get, ◌++◌, ◌∷◌, ◌≡◌, ◌⊎◌}
use Rattle.std.specs.List.{Contains}
use Rattle.std.proofs.Common.{ap, arith, inl, inr, subst, sym, ◌∙◌}
use Rattle.std.proofs.lemmas.Option.{slice_get_within}
use Rattle.disk_model.specs.declared.disk.Disk.{Ghosts}
use Rattle.block_mgr.specs.Blocks.{Books}
use Rattle.device_layout.specs.declared.addr.Addr.{Addr}
use Rattle.kv_model.specs.History.{Table}
use Rattle.stored.specs.Stored.{Stored}
use Rattle.stored.specs.TableTree.{Entry, TableTree}
use Rattle.stored.specs.Tree.{join}
use Rattle.tree_dir.specs.declared.leaf.Leaf.{Leaf}
use Rattle.tree_dir.specs.Leaves.{Directory}
use Rattle.tree_write.specs.Steps.{links_in}
use Rattle.engine_world.proofs.Appended.{append-finds}
use Rattle.tree_open.specs.declared.place.TreePlace.{TreePlace}
use Rattle.tree_write.specs.Writes.{KeepSame}
use Rattle.ckpt_step.specs.Goings.{OneMore}
use Rattle.ckpt_step.specs.Halves.{ByLeaves}
use Rattle.ckpt_step.specs.Moments.{Moment}
use Rattle.ckpt_step.specs.Parts.{IsParted, part_leaves, part_of, with_parts}
use Rattle.ckpt_step.specs.Rooms.{Written}
use Rattle.ckpt_step.specs.Trees.{AreTreesAt}
use Rattle.ckpt_step.specs.declared.parts.LeafPart.{LeafPart}
use Rattle.ckpt_step.specs.declared.lives.Lone.{Lone}
use Rattle.ckpt_step.proofs.Members.{some_same}
use Rattle.ckpt_step.proofs.Moving.{back_all, keeps_moved}
use Rattle.ckpt_step.proofs.TableParts.{others_alike, own_alike, parted_alike}
use Rattle.ckpt_step.proofs.WithParts.{lies_alike, part_alike}
use Rattle.ckpt_step.proofs.Goings.{IsAtTable}
use Rattle.ckpt_step.proofs.GoingLinks.{part_there}

module _ {D : Type 0} {g : Ghosts D} {old : Option Stored} {was : List TreePlace} {lives : List Lone} {d : Directory} {had : Written} {n : Moment} {every known : List Table} {next : ℕ} {first : Books} {start : D} {i : ℕ} {t : Table} {books : Books} {places : List TreePlace} {more : List LeafPart} {taken : List Addr} {mid : D} (on : IsAtTable g old was lives d had n every known next first start i t books places more taken mid)
    {books' : Books} {places' : List TreePlace} {more' : List LeafPart} {taken' : List Addr} {end : D} (one : OneMore g old first was lives d.leaves had n t i books books' places places' more more' taken taken' mid end) where
  abbrev place : TreePlace
  place = one.place

  abbrev tree : TableTree
  tree = one.tree

  trees_long : (bytes : List ℕ) (ps : List TreePlace) (ts : List TableTree) → AreTreesAt bytes ps ts → length ts ≡ length ps
  trees_long bytes [] [] are = refl
  trees_long bytes [] (x ∷ ts) are = absurd are
  trees_long bytes (p ∷ ps) [] are = absurd are
  trees_long bytes (p ∷ ps) (x ∷ ts) are = omega (arith, trees_long bytes ps ts are.2)

  abbrev all_parts : List LeafPart
  all_parts = more ++ one.own_more

  -- a tree by place is one of those before, or the one more
  record IsLast (j : ℕ) (u : Table) (p : TreePlace) (x : TableTree) : Type 0 where
    here : j ≡ i
    table : t ≡ u
    place_is : place ≡ p
    tree_is : tree ≡ x

  record IsEarlier (j : ℕ) (p : TreePlace) (x : TableTree) : Type 0 where
    other : j ≡ i → ⊥
    place_at : slice_get places j ≡ Some p
    tree_at : slice_get on.going.trees j ≡ Some x

  which_tree : (j : ℕ) (u : Table) (p : TreePlace) (x : TableTree) → slice_get known j ≡ Some u → slice_get (places ++ place ∷ []) j ≡ Some p → slice_get (on.going.trees ++ tree ∷ []) j ≡ Some x → IsEarlier j p x ⊎ IsLast j u p x
  which_tree j u p x known_at place_at tree_at = elim (append-finds places place p j place_at) [
    | inl before ↦ elim (append-finds on.going.trees tree x j tree_at) [
      | inl earlier ↦ inl (record { other = λ same. omega (arith, same, on.going.many, slice_get_within places j p before); place_at = before; tree_at = earlier })
      | inr (last, same) ↦ absurd (omega (arith, last, trees_long (g.seen mid) places on.going.trees on.going.half.there, slice_get_within places j p before))
    ]
    | inr (last, same) ↦ elim (append-finds on.going.trees tree x j tree_at) [
      | inl earlier ↦ absurd (omega (arith, last, trees_long (g.seen mid) places on.going.trees on.going.half.there, slice_get_within on.going.trees j x earlier))
      | inr (also, equal) ↦
          let here : j ≡ i = last ∙ on.going.many in
          inr (record { here = here; table = some_same (sym on.at ∙ (ap (λ (k : ℕ). slice_get known k) (sym here) ∙ known_at)); place_is = same; tree_is = equal })
    ]
  ]

  was_alike : (j : ℕ) (u : Table) → slice_get known j ≡ Some u → (j ≡ i → ⊥) → (l : Leaf) → Contains d.leaves l → l.table ≡ u.number → with_parts had more l.id ≡ with_parts had all_parts l.id
  was_alike j u also other l in_it own = others_alike d on.begun.dir every next on.begun.ascend known on.front had i t on.at more one.own_more on.going.of_first one.of_table j u also other l in_it own

  now_alike : (l : Leaf) → Contains d.leaves l → l.table ≡ t.number → with_parts had one.own_more l.id ≡ with_parts had all_parts l.id
  now_alike l in_it own = own_alike d on.begun.dir every next on.begun.ascend known on.front had i t on.at more one.own_more on.going.of_first one.of_table l in_it own

  pub leaves_more : ByLeaves (g.seen start) known d.leaves had n.world.shelf (places ++ place ∷ []) (on.going.trees ++ tree ∷ []) (with_parts had all_parts)
  leaves_more = record {
    parted = λ j u p x known_at place_at tree_at. elim (which_tree j u p x known_at place_at tree_at) [
      | inl before ↦ parted_alike [] d.leaves u.number (with_parts had more) (with_parts had all_parts) p x (was_alike j u known_at before.other) (on.going.by_leaves.parted j u p x known_at before.place_at before.tree_at)
      | inr last ↦ subst (λ (v : Table). IsParted [] d.leaves v.number (with_parts had all_parts) p x) last.table (subst (λ (q : TreePlace). IsParted [] d.leaves t.number (with_parts had all_parts) q x) last.place_is (subst (λ (y : TableTree). IsParted [] d.leaves t.number (with_parts had all_parts) place y) last.tree_is
          (parted_alike [] d.leaves t.number (with_parts had one.own_more) (with_parts had all_parts) place tree now_alike one.parted)))
    ];
    same = λ j u p x l known_at place_at tree_at in_it own. elim (which_tree j u p x known_at place_at tree_at) [
      | inl before ↦ subst (λ (part : List Entry). KeepSame (g.seen start) (links_in (part_of had l)) (links_in part) (part_leaves p x part)) (part_alike (with_parts had more) (with_parts had all_parts) l (was_alike j u known_at before.other l in_it own)) (on.going.by_leaves.same j u p x l known_at before.place_at before.tree_at in_it own)
      | inr last ↦
          let mine : l.table ≡ t.number = own ∙ ap (λ (v : Table). v.number) (sym last.table) in
          let kept = keeps_moved (g.seen mid) (g.seen start) (links_in (part_of had l)) (links_in (part_of (with_parts had one.own_more) l)) (part_leaves place tree (part_of (with_parts had one.own_more) l)) (back_all (g.seen start) (g.seen mid) (links_in (part_of had l)) (part_there on l in_it mine)) (one.each l in_it mine).same in
          subst (λ (q : TreePlace). KeepSame (g.seen start) (links_in (part_of had l)) (links_in (part_of (with_parts had all_parts) l)) (part_leaves q x (part_of (with_parts had all_parts) l))) last.place_is
          (subst (λ (y : TableTree). KeepSame (g.seen start) (links_in (part_of had l)) (links_in (part_of (with_parts had all_parts) l)) (part_leaves place y (part_of (with_parts had all_parts) l))) last.tree_is
          (subst (λ (part : List Entry). KeepSame (g.seen start) (links_in (part_of had l)) (links_in part) (part_leaves place tree part)) (part_alike (with_parts had one.own_more) (with_parts had all_parts) l (now_alike l in_it mine)) kept))
    ];
    shelved = λ j u p x l known_at place_at tree_at in_it own lies. elim (which_tree j u p x known_at place_at tree_at) [
      | inl before ↦ subst (λ (part : List Entry). join (part_leaves p x part) ≡ n.world.shelf l.id) (part_alike (with_parts had more) (with_parts had all_parts) l (was_alike j u known_at before.other l in_it own)) (on.going.by_leaves.shelved j u p x l known_at before.place_at before.tree_at in_it own (lies_alike (with_parts had more) (with_parts had all_parts) l (was_alike j u known_at before.other l in_it own) lies))
      | inr last ↦
          let mine : l.table ≡ t.number = own ∙ ap (λ (v : Table). v.number) (sym last.table) in
          subst (λ (q : TreePlace). join (part_leaves q x (part_of (with_parts had all_parts) l)) ≡ n.world.shelf l.id) last.place_is
          (subst (λ (y : TableTree). join (part_leaves place y (part_of (with_parts had all_parts) l)) ≡ n.world.shelf l.id) last.tree_is
          (subst (λ (part : List Entry). join (part_leaves place tree part) ≡ n.world.shelf l.id) (part_alike (with_parts had one.own_more) (with_parts had all_parts) l (now_alike l in_it mine)) ((one.each l in_it mine).shelved (lies_alike (with_parts had one.own_more) (with_parts had all_parts) l (now_alike l in_it mine) lies))))
    ];
  }
