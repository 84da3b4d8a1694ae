-- The tree of a table, once the pages above its leaves are captured.
use Rattle.std.specs.Prelude.{◌≡◌, ◌⊎◌, ℕ, ◌≤◌, List, [], ◌∷◌, ◌++◌, length, filter, map, Option, Some, slice_get, refl}
use Rattle.std.specs.List.{AllByRecursion, Contains}
use Rattle.std.proofs.Common.{inl, inr, sym, ◌∙◌, ap, subst, append_assoc}
use Rattle.disk_model.specs.declared.disk.Disk.{Ghosts}
use Rattle.block_mgr.specs.Blocks.{Books}
use Rattle.device_layout.specs.declared.addr.Addr.{Addr}
use Rattle.device_layout.specs.declared.link.Link.{Link}
use Rattle.kv_model.specs.Holds.{Member}
use Rattle.kv_model.specs.History.{Table}
use Rattle.row_page.specs.Rows.{Row}
use Rattle.wt_code.specs.declared.store_error.StoreError.{StoreError}
use Rattle.stored.specs.Stored.{Stored}
use Rattle.stored.specs.TableTree.{Entry, table_kind}
use Rattle.stored.specs.Tree.{AllBear, join}
use Rattle.tree_dir.specs.declared.leaf.Leaf.{Leaf}
use Rattle.tree_dir.specs.Leaves.{leaves_of}
use Rattle.tree_open.specs.declared.place.TreePlace.{TreePlace}
use Rattle.tree_write.specs.Captures.{AreDistinct, IsPlaced}
use Rattle.tree_write.specs.Cuts.{captured_blocks}
use Rattle.tree_write.specs.Drafts.{IsCutBy, PartsStopped, PartsWritten, addrs_to, leaf_links}
use Rattle.tree_write.specs.Steps.{links_in}
use Rattle.tree_write.specs.Writes.{KeepSame, LeadApart}
use Rattle.tree_write.proofs.Aligning.{bear_length}
use Rattle.tree_write.proofs.Joining.{captures_apart}
use Rattle.tree_write.proofs.Trees.{places_leaves}
use Rattle.engine_world.specs.Stands.{Engine, Stands}
use Rattle.ckpt_step.specs.Drafting.{Drafting, DraftStopped}
use Rattle.ckpt_step.specs.Goings.{BeginsIn, HasPartsAt, NotOneMore, OneMore}
use Rattle.ckpt_step.specs.Lives.{live_addrs}
use Rattle.ckpt_step.specs.Moments.{Moment, RowsServe}
use Rattle.ckpt_step.specs.Parts.{IsPart, IsParted, has_rows, links_over, part_leaves, part_of, parts_of, rows_behind, with_parts}
use Rattle.ckpt_step.specs.Rooms.{Written}
use Rattle.ckpt_step.specs.declared.lives.Lone.{Lone}
use Rattle.ckpt_step.specs.declared.parts.LeafPart.{LeafPart}
use Rattle.ckpt_step.proofs.CapturedOrder.{both_listed, tree_apart}
use Rattle.ckpt_step.proofs.Apart.{over_apart}
use Rattle.ckpt_step.proofs.Behind.{parted_whole}
use Rattle.ckpt_step.proofs.DraftingMore.{fit_of, serve_of}
use Rattle.ckpt_step.proofs.Links.{all_rows}
use Rattle.ckpt_step.proofs.OrderedByName.{all_front}
use Rattle.ckpt_step.proofs.PartRows.{rows_of_parts}
use Rattle.ckpt_step.proofs.RowsByLink.{IsDraftedAt, drafted_at, drafted_leaves, drafted_within, tree_leaves}
use Rattle.ckpt_step.proofs.TableLeaves.{member_of, once_of, table_in}

-- ---- the links of before lead apart

pub links_apart : (old : Option Stored) (lives : List Lone) (leaves : List Leaf) (had : Written) (was : List TreePlace) (t : Table) (i : ℕ) (parts : List (List (List Row))) → HasPartsAt old lives leaves had was t i → LeadApart (links_over had (leaves_of t.number leaves) parts)
links_apart old lives leaves had was t i parts has = over_apart had (leaves_of t.number leaves) parts has.apart

-- ---- the whole tree

front_distinct : (xs ys : List Addr) → AreDistinct (xs ++ ys) → AreDistinct xs
front_distinct [] ys distinct = tt
front_distinct (x ∷ xs) ys distinct = (all_front (λ (a : Addr). a.offset ≡ x.offset → ⊥) xs ys distinct.0, front_distinct xs ys distinct.1)

leaf_links_rows : (es : List Entry) (leaves : List (List Row)) → AllBear table_kind es leaves → AllByRecursion (λ (rows : List Row). 1 ≤ length rows) leaves → filter has_rows (leaf_links es) ≡ links_in es
leaf_links_rows [] leaves bear some = refl
leaf_links_rows (e ∷ es) leaves bear some = all_rows (e ∷ es) leaves bear some

module _ {D : Type 0} (g : Ghosts D) (old : Option Stored) (first : Books) (was : List TreePlace) (lives : List Lone) (e : Engine) (had : Written) (n : Moment) (stands : Stands e n.world) (t : Table) (i : ℕ) (known_at : slice_get e.hub.tables.tables i ≡ Some t)
    (books mid books' : Books) (places places' : List TreePlace) (more more' : List LeafPart) (captured mid_captured captured' : List Addr) (before between after : D)
    (es : List Entry) (drafting : Drafting g old first e.hub.dir.leaves had n t.number books mid more more' captured mid_captured before between (leaves_of t.number e.hub.dir.leaves) es)
    (addrs : List Addr) (captured_are : captured' ≡ mid_captured ++ addrs) where
  abbrev leaves : List Leaf
  leaves = e.hub.dir.leaves

  abbrev all : List Leaf
  all = leaves_of t.number leaves

  abbrev cut : List (List Row)
  cut = join drafting.parts

  abbrev written : Written
  written = with_parts had drafting.own_more

  bear : AllBear table_kind es cut
  bear = drafting.drafted.written.bear

  are : RowsServe n t (join cut)
  are =
      let l = stands.begun i t known_at in
      rows_of_parts n t leaves l.0 drafting.parts (once_of leaves stands.dir.once) stands.dir.begins (member_of leaves l.0 l.1) l.2 drafting.parted
      (fit_of (g.seen before) leaves had n t.number written all drafting.parts drafting.each) (serve_of (g.seen before) leaves had n t.number written all drafting.parts drafting.each)

  captured_all : captured' ≡ captured ++ (drafting.addrs ++ addrs)
  captured_all = captured_are ∙ (ap (λ (m : List Addr). m ++ addrs) drafting.captured_are ∙ append_assoc captured drafting.addrs addrs)

  module _ (place : TreePlace) (wrote : PartsWritten g old first (links_over had all drafting.parts) drafting.parts (join cut) (drafting.addrs ++ addrs) books books' before after place) (links_are : place.leaves.items ≡ leaf_links es)
      (has : HasPartsAt old lives leaves had was t i) where
    distinct : AreDistinct (drafting.addrs ++ addrs)
    distinct = wrote.distinct (links_apart old lives leaves had was t i drafting.parts has)

    parts_distinct : AreDistinct (addrs_to (parts_of written all))
    parts_distinct = subst (λ (m : List Entry). AreDistinct (addrs_to m)) drafting.entries_are (subst AreDistinct (drafting.drafted.written.listed ∙ places_leaves es cut bear drafting.drafted.written.stored) (front_distinct drafting.addrs addrs distinct))

    at : (l : Leaf) → Contains leaves l → l.table ≡ t.number → IsDraftedAt (g.seen before) leaves had n t.number written all drafting.parts l
    at l there own = drafted_at (g.seen before) leaves had n t.number written all drafting.parts l drafting.each (table_in t.number leaves l (member_of leaves l there) own)

    -- by its links a leaf of the directory has its images
    behind : (l : Leaf) (there : Contains leaves l) (own : l.table ≡ t.number) → part_leaves place wrote.tree (part_of written l) ≡ (at l there own).images
    behind l there own =
        let part = part_of written l in
        let one = at l there own in
        ap (λ (m : List Link). map {A = Entry} (λ x. rows_behind m wrote.tree.leaves x.link) part) links_are
        ∙ (ap (λ (m : List (List Row)). map {A = Entry} (λ x. rows_behind (leaf_links es) m x.link) part) wrote.cut.parted
        ∙ (tree_leaves es cut part (bear_length es cut bear) (λ x in_part. subst (λ (m : List Entry). Member x m) (sym drafting.entries_are) (drafted_within (g.seen before) leaves had n t.number written all drafting.parts l one x in_part))
        ∙ (ap (λ (m : List Entry). map {A = Entry} (λ x. rows_behind (links_in m) cut x.link) part) drafting.entries_are
        ∙ drafted_leaves (g.seen before) leaves had n t.number written all drafting.parts l parts_distinct one)))

    joined : filter has_rows place.leaves.items ≡ links_in (parts_of written all)
    joined = ap (filter has_rows) links_are ∙ (leaf_links_rows es cut bear drafting.stand.some ∙ ap links_in drafting.entries_are)

    parted : IsParted [] leaves t.number written place wrote.tree
    parted = parted_whole leaves t.number written place wrote.tree joined (λ l there own. subst (λ (m : List (List Row)). IsPart leaves t.number l (part_of written l) m) (sym (behind l there own)) (at l there own).is.is)

    pub finishes_one : ((a : Addr) → Member a (drafting.addrs ++ addrs) → IsPlaced books a ⊎ BeginsIn was (live_addrs lives (leaves_of t.number leaves)) i a) → places' ≡ places ++ place ∷ [] → OneMore g old first was lives leaves had n t i books books' places places' more more' captured captured' before after
    finishes_one own places_are = record {
      place = place;
      tree = wrote.tree;
      blocks = captured_blocks place.root wrote.tree;
      sizes = wrote.sizes;
      places_are = places_are;
      captured_are = captured_all ∙ ap (λ (m : List Addr). captured ++ m) wrote.listed;
      own_more = drafting.own_more;
      more_are = drafting.more_are;
      of_table = drafting.of_front;
      rows = subst (λ (rows : List Row). RowsServe n t rows) (sym wrote.cut.whole) are;
      parted = parted;
      each = λ l there own_table.
          let one = at l there own_table in
          record {
            same = subst (λ (m : List (List Row)). KeepSame (g.seen before) (links_in (part_of had l)) (links_in (part_of written l)) m) (sym (behind l there own_table)) one.is.same;
            shelved = λ lies. ap join (behind l there own_table) ∙ one.is.shelved lies;
          };
      has = wrote.has;
      is = wrote.is;
      captures = wrote.captures;
      listed = λ a. let both = both_listed place.root wrote.tree a in ((λ there. subst (λ (m : List Addr). Member a m) (sym wrote.is.addrs) (both.0 there)), (λ there. both.1 (subst (λ (m : List Addr). Member a m) wrote.is.addrs there)));
      own = λ a there. own a (subst (λ (m : List Addr). Member a m) (sym wrote.listed) there);
      apart = tree_apart place.root wrote.tree (captures_apart g old first (captured_blocks place.root wrote.tree) wrote.sizes books books' before after wrote.captures (subst AreDistinct wrote.listed distinct));
      how = inr (record {
        parts = drafting.parts;
        parted = drafting.parted;
        cut = subst (λ (rows : List Row). IsCutBy drafting.parts place.root rows wrote.tree) (sym wrote.cut.whole) wrote.cut;
        writes = wrote.writes;
      });
    }

  -- it is not whole
  pub finishes_none : (x : StoreError) → PartsStopped g old first (links_over had all drafting.parts) drafting.parts (join cut) (drafting.addrs ++ addrs) books books' before after x → NotOneMore g old first was lives leaves had n t i books books' places places' more more' captured captured' before after x
  finishes_none x stopped = record {
    rows = join cut;
    blocks = stopped.blocks;
    sizes = stopped.sizes;
    captured_are = captured_all ∙ ap (λ (m : List Addr). captured ++ m) stopped.listed;
    captures = stopped.captures;
    left = stopped.left;
    lacks = λ is.
        let why = stopped.lacks is in
        inr (are, record { root = why.root; tree = why.tree; sizes = why.sizes; parts = drafting.parts; parted = drafting.parted; cut = why.cut; writes = why.writes; lacks = why.lacks });
  }

-- ---- its leaves are not all captured

pub drafts_none : {D : Type 0} (g : Ghosts D) (old : Option Stored) (first : Books) (was : List TreePlace) (lives : List Lone) (listed : List Leaf) (had : Written) (n : Moment) (t : Table) (i : ℕ) (books books' : Books) (places places' : List TreePlace) (more more' : List LeafPart) (captured captured' : List Addr) (before after : D) (x : StoreError)
    → DraftStopped g old first listed had n t.number books books' more more' captured captured' before after x → NotOneMore g old first was lives listed had n t i books books' places places' more more' captured captured' before after x
drafts_none g old first was lives listed had n t i books books' places places' more more' captured captured' before after x stopped = record {
  rows = [];
  blocks = stopped.blocks;
  sizes = stopped.sizes;
  captured_are = stopped.captured_are;
  captures = stopped.captures;
  left = stopped.left;
  lacks = λ is. inl (stopped.lacks is);
}
