-- The blocks of one tree more.
use Rattle.std.specs.Prelude.{ℕ, List, Option, [], suc, true, ◌++◌, ◌∷◌, ◌≡◌}
use Rattle.std.proofs.Common.{ap, arith, inl, inr, subst, sym, ◌∙◌}
use Rattle.std.proofs.lemmas.Bool.{false≢true}
use Rattle.disk_model.specs.declared.disk.Disk.{Ghosts}
use Rattle.block_mgr.specs.declared.cell.Cell.{Cell}
use Rattle.block_mgr.specs.Blocks.{Books, Has}
use Rattle.block_mgr.specs.Cells.{cell_at, is_used}
use Rattle.device_layout.specs.declared.addr.Addr.{Addr}
use Rattle.kv_model.specs.Holds.{Member}
use Rattle.kv_model.specs.History.{Table}
use Rattle.stored.specs.Blocks.{Apart, Block}
use Rattle.stored.specs.Stored.{Stored}
use Rattle.stored.specs.TableTree.{TableTree, root_entry, table_kind}
use Rattle.stored.specs.Tree.{tree_blocks}
use Rattle.tree_dir.specs.Leaves.{Directory}
use Rattle.checkpoint_core.specs.Stands.{AreInUse}
use Rattle.tree_open.specs.declared.place.TreePlace.{TreePlace}
use Rattle.tree_write.specs.Captures.{places_of}
use Rattle.ckpt_step.specs.Goings.{IsFrom, OneMore}
use Rattle.ckpt_step.specs.Grounds.{start_cell}
use Rattle.ckpt_step.specs.Halves.{Half, Runs}
use Rattle.ckpt_step.specs.Moments.{Moment}
use Rattle.ckpt_step.specs.Rooms.{Written}
use Rattle.ckpt_step.specs.Trees.{trees_blocks}
use Rattle.ckpt_step.specs.declared.parts.LeafPart.{LeafPart}
use Rattle.ckpt_step.specs.declared.lives.Lone.{Lone}
use Rattle.ckpt_step.proofs.Members.{all_made, all_of, in_back, in_either, in_front, map_member, member_map}
use Rattle.ckpt_step.proofs.CapturedOrder.{apart_join}
use Rattle.ckpt_step.proofs.Goings.{IsAtTable, old_of}
use Rattle.ckpt_step.proofs.GoingOnce.{one_table}
use Rattle.ckpt_step.proofs.PlacedTrees.{addrs_more, all_both, block_addr, blocks_more, has_apart, trees_kept, trees_more}
use Rattle.ckpt_step.proofs.GoingRuns.{own_new, runs_more}

module _ {D : Type 0} {g : Ghosts D} {old : Option Stored} {was : List TreePlace} {lives : List Lone} {d : Directory} {had : Written} {n : Moment} {every known : List Table} {next : ℕ} {first : Books} {start : D} {i : ℕ} {t : Table} {books : Books} {places : List TreePlace} {more : List LeafPart} {taken : List Addr} {mid : D} (on : IsAtTable g old was lives d had n every known next first start i t books places more taken mid)
    {books' : Books} {places' : List TreePlace} {more' : List LeafPart} {taken' : List Addr} {end : D} (one : OneMore g old first was lives d.leaves had n t i books books' places places' more more' taken taken' mid end) (held : books'.is_held ≡ true) where
  abbrev place : TreePlace
  place = one.place

  abbrev tree : TableTree
  tree = one.tree

  abbrev own_blocks : List Block
  own_blocks = tree_blocks table_kind (root_entry place.root.link) tree

  abbrev all_blocks : List Block
  all_blocks = trees_blocks places on.going.trees

  runs : Runs (g.seen end) (g.may_leave end) books' old lives (taken ++ places_of one.blocks)
  runs = runs_more on one.blocks one.sizes books' end one.captures

  -- a block of the tree is one of those that were captured
  caught_addr : (b : Block) → Member b own_blocks → Member b.place (places_of one.blocks)
  caught_addr b mine = (one.listed b.place).1 (subst (λ (l : List Addr). Member b.place l) (sym one.is.addrs) (map_member {A = Block} (λ x. x.place) b own_blocks mine))

  has_own : (b : Block) → Member b own_blocks → Has books'.cells b.place.offset b.place.size
  has_own b mine =
      let c = member_map {A = Block} (λ x. x.place) b.place one.blocks (caught_addr b mine) in
      subst (λ (a : Addr). Has books'.cells a.offset a.size) (sym c.2) (all_of (λ (x : Block). Has books'.cells x.place.offset x.place.size) one.blocks c.0 one.captures.in_use c.1)

  has_before : (b : Block) → Member b all_blocks → Has books.cells b.place.offset b.place.size
  has_before b before = all_of (λ (x : Block). Has books.cells x.place.offset x.place.size) all_blocks b on.going.half.in_use before

  -- it begins where none of those before does
  differs : (b c : Block) → Member b all_blocks → Member c own_blocks → b.place.offset ≡ c.place.offset → ⊥
  differs b c before mine same = elim (one.own c.place (caught_addr c mine)) [
    | inl placed ↦
        let used = has_before b before in
        let unit : used.0 ≡ placed.unit = omega (arith, same, used.1, placed.offset) in
        false≢true (sym (ap is_used (ap (cell_at books.cells) unit ∙ placed.none)) ∙ used.3)
    | inr begins ↦ elim (on.going.from b.place ((on.going.half.listed b.place).1 (block_addr (g.seen mid) places on.going.trees b on.going.half.there before))) [
      | inl new ↦
          let o = old_of on begins.0 begins.1 in
          let unit : o.unit ≡ new.unit = omega (arith, o.offset, new.offset, begins.2, same) in
          false≢true (sym (ap (λ (c : Cell). c.is_live) (sym o.cell ∙ (ap (start_cell old lives) unit ∙ new.none))))
      | inr (j, u, lt, at, earlier) ↦ omega (arith, lt, one_table on j u at earlier.0 begins.0 earlier.1 begins.1 (earlier.2 ∙ (same ∙ sym begins.2)))
    ]
  ]

  blocks_are : trees_blocks (places ++ place ∷ []) (on.going.trees ++ tree ∷ []) ≡ all_blocks ++ own_blocks
  blocks_are = blocks_more (g.seen mid) places on.going.trees place tree on.going.half.there

  pub half_more : Half (g.seen end) (g.may_leave end) books' old lives (taken ++ places_of one.blocks) (places ++ place ∷ []) (on.going.trees ++ tree ∷ [])
  half_more = record {
    runs = runs;
    held = held;
    there = trees_more (g.seen end) places on.going.trees place tree (trees_kept books.cells (g.seen mid) (g.seen end) places on.going.trees on.going.half.there on.going.half.in_use one.captures.keeps) one.has one.is;
    in_use = subst (λ (l : List Block). AreInUse books'.cells l) (sym blocks_are)
        (all_both (λ (b : Block). Has books'.cells b.place.offset b.place.size) all_blocks own_blocks
        (all_made (λ (b : Block). Has books'.cells b.place.offset b.place.size) all_blocks (λ b before. one.captures.used b.place.offset b.place.size (has_before b before)))
        (all_made (λ (b : Block). Has books'.cells b.place.offset b.place.size) own_blocks has_own));
    apart = subst Apart (sym blocks_are) (apart_join all_blocks own_blocks on.going.half.apart one.apart (λ b c before mine.
        has_apart books'.cells books'.space b.place c.place one.captures.may.units (one.captures.used b.place.offset b.place.size (has_before b before)) (has_own c mine) (differs b c before mine)));
    listed = λ a. (
      (λ among. elim (in_either taken (places_of one.blocks) a among) [
        | inl before ↦ (addrs_more places place a).1 (inl ((on.going.half.listed a).0 before))
        | inr mine ↦ (addrs_more places place a).1 (inr ((one.listed a).0 mine))
      ]),
      (λ among. elim ((addrs_more places place a).0 among) [
        | inl before ↦ in_front taken (places_of one.blocks) a ((on.going.half.listed a).1 before)
        | inr mine ↦ in_back taken (places_of one.blocks) a ((one.listed a).1 mine)
      ]),
    );
  }

  pub from_more : (a : Addr) → Member a (taken ++ places_of one.blocks) → IsFrom old was lives d.leaves known (suc i) a
  from_more a among = elim (in_either taken (places_of one.blocks) a among) [
    | inl before ↦ elim (on.going.from a before) [ inl new ↦ inl new | inr (j, u, lt, at, begins) ↦ inr (j, u, omega (arith, lt), at, begins) ]
    | inr mine ↦ elim (one.own a mine) [ inl placed ↦ inl (own_new on one.blocks one.sizes books' end one.captures a placed) | inr begins ↦ inr (i, t, omega arith, on.at, begins) ]
  ]
