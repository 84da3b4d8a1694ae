-- The blocks that a table's tree may keep: those of its tree in the checkpoint before, and of its leaves that were written since.
use Rattle.std.specs.Prelude.{◌≡◌, ◌⊎◌, ℕ, List, ◌++◌, length, map, Option, Some, None, slice_get}
use Rattle.std.specs.List.{AllByRecursion}
use Rattle.std.proofs.Common.{inl, inr, sym, ◌∙◌, ap, subst}
use Rattle.std.proofs.lemmas.Bool.{cases_eq, cases_lt}
use Rattle.block_mgr.specs.Blocks.{Books, HasLive}
use Rattle.device_layout.specs.declared.addr.Addr.{Addr}
use Rattle.device_layout.specs.declared.link.Link.{Link}
use Rattle.kv_model.specs.Holds.{Member}
use Rattle.stored.specs.Blocks.{Block}
use Rattle.stored.specs.Links.{nowhere}
use Rattle.stored.specs.Stored.{Stored}
use Rattle.tree_open.specs.declared.place.TreePlace.{TreePlace}
use Rattle.tree_write.specs.Captures.{IsNewOrLive, IsPlaced, places_of}
use Rattle.tree_write.specs.Writes.{IsLiveLeaf}
use Rattle.ckpt_step.specs.Goings.{BeginsIn, MayGo}
use Rattle.ckpt_step.specs.Trees.{leaves_at}
use Rattle.ckpt_step.proofs.Members.{all_made, all_of, get_within, in_back, in_either, in_front, map_member, member_map, none_some, some_same}
use Rattle.ckpt_step.proofs.OldTrees.{leaves_past, leaves_there}
use Rattle.ckpt_step.proofs.OnlyBooks.{live_only, only_books, only_live}

-- what leads to a block
abbrev led_to : Addr → Link
led_to a = record nowhere { addr = a }

-- to those of the tree at a place, and those of the table's leaves that were written since
abbrev pub blocks_in : Option TreePlace → List Addr → List Link
blocks_in None since = map {A = Addr} led_to since
blocks_in (Some p) since = map {A = Addr} led_to (p.addrs.items ++ since)

module _ (seen : List ℕ) (images : List ℕ → Type 0) (first books : Books) (old : Option Stored) (was : List TreePlace) (since : List Addr) (i : ℕ) (may : MayGo seen images first books old was since i) where
  live_block : (o : Option TreePlace) (a : Addr) → Member (led_to a) (blocks_in o since) → HasLive first.cells a.offset a.size → HasLive (only_books (blocks_in o since) first).cells a.offset a.size
  live_block o a there live = live_only (blocks_in o since) first (led_to a) there live

  of_tree : (p : TreePlace) (a : Addr) → Member a p.addrs.items → Member (led_to a) (blocks_in (Some p) since)
  of_tree p a there = map_member led_to a (p.addrs.items ++ since) (in_front p.addrs.items since a there)

  of_since : (o : Option TreePlace) (a : Addr) → Member a since → Member (led_to a) (blocks_in o since)
  of_since None a there = map_member led_to a since there
  of_since (Some p) a there = map_member led_to a (p.addrs.items ++ since) (in_back p.addrs.items since a there)

  live_in : (o : Option TreePlace) → slice_get was i ≡ o → (link : Link) → Member link (leaves_at was i) → (link.addr.offset ≡ 0 → ⊥) → HasLive (only_books (blocks_in o since) first).cells link.addr.offset link.addr.size
  live_in None at link there some = elim (cases_lt i (length was)) [
    | inl lt ↦ absurd (none_some (sym at ∙ (get_within was i lt).1))
    | inr past ↦ absurd (subst (λ (l : List Link). Member link l) (leaves_past was i past) there)
  ]
  live_in (Some p) at link there some =
      let own : Member link p.leaves.items = subst (λ (l : List Link). Member link l) (leaves_there was i p at) there in
      elim (all_of (λ (x : Link). IsLiveLeaf first x) (leaves_at was i) link may.over.leaves there) [
        | inl none ↦ absurd (some none)
        | inr live ↦ live_block (Some p) link.addr (of_tree p link.addr (may.listed p link at own some)) live
      ]

  blocks_live : (o : Option TreePlace) → slice_get was i ≡ o → (p : TreePlace) (a : Addr) → slice_get was i ≡ Some p → Member a p.addrs.items → HasLive (only_books (blocks_in o since) first).cells a.offset a.size
  blocks_live None at p a also there = absurd (none_some (sym at ∙ also))
  blocks_live (Some q) at p a also there = live_block (Some q) a (of_tree q a (subst (λ (x : TreePlace). Member a x.addrs.items) (some_same (sym also ∙ at)) there)) (may.blocks p a also there)

  -- with the blocks of that table alone in the live tree
  pub only_go : (o : Option TreePlace) → slice_get was i ≡ o → MayGo seen images (only_books (blocks_in o since) first) books old was since i
  only_go o at = record {
    over = record {
      may = may.over.may;
      live = λ n k has. may.over.live n k (only_live (blocks_in o since) first n k has).live;
      leaves = all_made (λ (link : Link). IsLiveLeaf (only_books (blocks_in o since) first) link) (leaves_at was i) (λ link there. elim (cases_eq link.addr.offset 0) [ inl none ↦ inl none | inr some ↦ inr (live_in o at link there some) ]);
    };
    apart = may.apart;
    blocks = blocks_live o at;
    written = λ a there. live_block o a (of_since o a there) (may.written a there);
    listed = may.listed;
  }

  begins_in : (o : Option TreePlace) → slice_get was i ≡ o → (a : Addr) → HasLive (only_books (blocks_in o since) first).cells a.offset a.size → BeginsIn was since i a
  begins_in None at a live =
      let one = only_live (blocks_in None since) first a.offset a.size live in
      let x = member_map led_to one.link since one.there in
      (x.0, inr x.1, sym (ap (λ (l : Link). l.addr.offset) x.2) ∙ one.at)
  begins_in (Some p) at a live =
      let one = only_live (blocks_in (Some p) since) first a.offset a.size live in
      let x = member_map led_to one.link (p.addrs.items ++ since) one.there in
      (x.0, elim (in_either p.addrs.items since x.0 x.1) [ inl mine ↦ inl (p, at, mine) | inr later ↦ inr later ], sym (ap (λ (l : Link). l.addr.offset) x.2) ∙ one.at)

  -- what is captured then is new, or begins where a block of it does
  pub own_blocks : (o : Option TreePlace) → slice_get was i ≡ o → (blocks : List Block) → AllByRecursion (λ (b : Block). IsNewOrLive (only_books (blocks_in o since) first) books b.place) blocks → (a : Addr) → Member a (places_of blocks) → IsPlaced books a ⊎ BeginsIn was since i a
  own_blocks o at blocks each a there =
      let b = member_map {A = Block} (λ x. x.place) a blocks there in
      let is : IsNewOrLive (only_books (blocks_in o since) first) books a = subst (λ (x : Addr). IsNewOrLive (only_books (blocks_in o since) first) books x) (sym b.2) (all_of (λ (x : Block). IsNewOrLive (only_books (blocks_in o since) first) books x.place) blocks b.0 each b.1) in
      elim is [ inl placed ↦ inl placed | inr live ↦ inr (begins_in o at a live) ]
