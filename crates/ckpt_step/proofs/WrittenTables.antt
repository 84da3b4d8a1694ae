-- The tree of a table that is written leaf by leaf, and then the pages above.
use Rattle.std.specs.Prelude.{◌≡◌, ℕ, List, [], ◌∷◌, ◌++◌, Option, Some, Result, Ok, Err, refl, slice_get}
use Rattle.std.proofs.Common.{sym, ◌∙◌, ap, subst, append_assoc}
use Rattle.disk_model.specs.declared.disk.Disk.{Ghosts}
use Rattle.block_mgr.specs.Blocks.{Books}
use Rattle.device_layout.specs.declared.addr.Addr.{Addr}
use Rattle.device_layout.specs.declared.link.Link.{Link}
use Rattle.kv_model.specs.Holds.{Member}
use Rattle.kv_model.specs.History.{Table}
use Rattle.row_page.specs.Rows.{Row}
use Rattle.wt_code.specs.declared.store_error.StoreError.{StoreError}
use Rattle.stored.specs.Stored.{Stored}
use Rattle.stored.specs.TableTree.{Entry}
use Rattle.stored.specs.Tree.{join}
use Rattle.tree_dir.specs.declared.leaf.Leaf.{Leaf}
use Rattle.tree_dir.specs.Leaves.{leaves_of}
use Rattle.tree_open.specs.declared.place.TreePlace.{TreePlace}
use Rattle.tree_write.specs.Cuts.{captured_blocks}
use Rattle.tree_write.specs.Drafts.{Drafted, PartsWrite, StandBelow, leaf_links}
use Rattle.engine_world.specs.Stands.{Engine, Stands}
use Rattle.ckpt_step.specs.Drafting.{Drafting, Drafts}
use Rattle.ckpt_step.specs.Goings.{Goes, HasPartsAt, MayGo}
use Rattle.ckpt_step.specs.Lives.{live_addrs}
use Rattle.ckpt_step.specs.Parts.{links_over}
use Rattle.ckpt_step.specs.Moments.{Moment}
use Rattle.ckpt_step.specs.Rooms.{Written}
use Rattle.ckpt_step.specs.declared.lives.Lone.{Lone}
use Rattle.ckpt_step.specs.declared.parts.LeafPart.{LeafPart}
use Rattle.ckpt_step.proofs.FinishedTrees.{drafts_none, finishes_none, finishes_one}
use Rattle.ckpt_step.proofs.LeafWrites.{append_same}
use Rattle.ckpt_step.proofs.OnlyBooks.{only_books}
use Rattle.ckpt_step.proofs.OwnBlocks.{blocks_in, only_go, own_blocks}

module _ {D : Type 0} (g : Ghosts D) (old : Option Stored) (first : Books) (was : List TreePlace) (e : Engine) (had : Written) (n : Moment) (stands : Stands e n.world) (t : Table) (i : ℕ) (known_at : slice_get e.hub.tables.tables i ≡ Some t) (number : ℕ) (own : t.number ≡ number)
    (books mid books' : Books) (places places' : List TreePlace) (more more' : List LeafPart) (captured mid_captured captured' : List Addr) (before between after : D) (es : List Entry)
    (lives : List Lone) (may : MayGo (g.seen before) (g.may_leave before) first books old was (live_addrs lives (leaves_of t.number e.hub.dir.leaves)) i) (has : HasPartsAt old lives e.hub.dir.leaves had was t i) where
  -- where the leaves of the table stand that were written since
  abbrev since : List Addr
  since = live_addrs lives (leaves_of t.number e.hub.dir.leaves)

  abbrev all : List Leaf
  all = leaves_of t.number e.hub.dir.leaves

  -- the leaves are captured, or not, whatever the live tree had at first
  abbrev pub DraftsLeaves : Result (Unit {0}) StoreError → Type 0
  DraftsLeaves r = (start : Books) → MayGo (g.seen before) (g.may_leave before) start books old was since i → Drafts g old start e.hub.dir.leaves had n number books mid more more' captured mid_captured before between (leaves_of number e.hub.dir.leaves) es r

  drafts_own : (r : Result (Unit {0}) StoreError) → DraftsLeaves r → (start : Books) → MayGo (g.seen before) (g.may_leave before) start books old was since i → Drafts g old start e.hub.dir.leaves had n t.number books mid more more' captured mid_captured before between all es r
  drafts_own r drafts start go = subst (λ (k : ℕ). Drafts g old start e.hub.dir.leaves had n k books mid more more' captured mid_captured before between (leaves_of k e.hub.dir.leaves) es r) (sym own) (drafts start go)

  -- and so are the pages above
  abbrev pub DraftEnds : Result TreePlace StoreError → Type 0
  DraftEnds r = (start : Books) (links : List Link) (parts : List (List (List Row))) (listed : List Addr) → Drafted g old start books mid before between links (join parts) listed es → StandBelow es parts
      → (addrs : List Addr) × (captured' ≡ mid_captured ++ addrs) × PartsWrite g old start links parts (join (join parts)) (listed ++ addrs) books books' before after r

  module _ (drafts : DraftsLeaves (Ok tt)) where
    one : Drafting g old first e.hub.dir.leaves had n t.number books mid more more' captured mid_captured before between all es
    one = drafts_own (Ok tt) drafts first may

    whole : (xs ys : List Addr) → mid_captured ≡ captured ++ xs → captured' ≡ mid_captured ++ ys → captured' ≡ captured ++ (xs ++ ys)
    whole xs ys here then_ = then_ ∙ (ap (λ (m : List Addr). m ++ ys) here ∙ append_assoc captured xs ys)

    pub writes_table : (place : TreePlace) → DraftEnds (Ok place) → place.leaves.items ≡ leaf_links es → places' ≡ places ++ place ∷ [] → Goes g old first was lives e.hub.dir.leaves had n t i books books' places places' more more' captured captured' before after (Ok tt)
    writes_table place ends links_are places_are =
        let small = only_books (blocks_in (slice_get was i) since) first in
        let two : Drafting g old small e.hub.dir.leaves had n t.number books mid more more' captured mid_captured before between all es =
        drafts_own (Ok tt) drafts small (only_go (g.seen before) (g.may_leave before) first books old was since i may (slice_get was i) refl) in
        let end = ends first (links_over had all one.parts) one.parts one.addrs one.drafted one.stand in
        let also = ends small (links_over had all two.parts) two.parts two.addrs two.drafted two.stand in
        let same : one.addrs ++ end.0 ≡ two.addrs ++ also.0 = append_same captured (one.addrs ++ end.0) (two.addrs ++ also.0) (sym (whole one.addrs end.0 one.captured_are end.1) ∙ whole two.addrs also.0 two.captured_are also.1) in
        finishes_one g old first was lives e had n stands t i known_at books mid books' places places' more more' captured mid_captured captured' before between after es one end.0 end.1 place end.2 links_are has
        (λ a there. own_blocks (g.seen before) (g.may_leave before) first books old was since i may (slice_get was i) refl (captured_blocks place.root also.2.tree) also.2.captures.each a (subst (λ (m : List Addr). Member a m) (same ∙ also.2.listed) there))
        places_are

    pub stops_table : (x : StoreError) → DraftEnds (Err x) → Goes g old first was lives e.hub.dir.leaves had n t i books books' places places' more more' captured captured' before after (Err x)
    stops_table x ends =
        let end = ends first (links_over had all one.parts) one.parts one.addrs one.drafted one.stand in
        finishes_none g old first was lives e had n stands t i known_at books mid books' places places' more more' captured mid_captured captured' before between after es one end.0 end.1 x end.2

  -- its leaves are not all captured
  pub fails_table : (x : StoreError) → DraftsLeaves (Err x) → Goes g old first was lives e.hub.dir.leaves had n t i books mid places places' more more' captured mid_captured before between (Err x)
  fails_table x drafts = drafts_none g old first was lives e.hub.dir.leaves had n t i books mid places places' more more' captured mid_captured before between x (drafts_own (Err x) drafts first may)
