-- A leaf of the directory behind a draft: kept as it stands, or written.
use Rattle.std.specs.Prelude.{◌≡◌, ◌≢◌, ℕ, List, [], ◌∷◌, ◌++◌, length, Option, Some, Result, Ok, Err, IfErr, OnErr, OnOk, refl, slice_get}
use Rattle.std.specs.List.{Contains}
use Rattle.std.proofs.Common.{inl, inr, sym, ◌∙◌, ap, subst, arith}
use Rattle.std.proofs.lemmas.List.{append-nil, length-append, map-append}
use Rattle.disk_model.specs.declared.disk.Disk.{Ghosts}
use Rattle.block_mgr.specs.Blocks.{Books}
use Rattle.device_layout.specs.declared.addr.Addr.{Addr}
use Rattle.device_layout.specs.declared.link.Link.{Link}
use Rattle.stamp.specs.declared.Name.{Name}
use Rattle.wt_code.specs.declared.store_error.StoreError.{StoreError}
use Rattle.wt_code.specs.declared.store_error.StoreError.TheVariants.{NoMemory, NoSpace}
use Rattle.kv_model.specs.Holds.{Member}
use Rattle.kv_model.specs.History.{Table}
use Rattle.row_page.specs.Rows.{Row}
use Rattle.snapshot.specs.Sight.{Sight}
use Rattle.leaf_frame.specs.Leaf.{HeldLeaf}
use Rattle.stored.specs.Stored.{Stored}
use Rattle.stored.specs.TableTree.{Entry}
use Rattle.stored.specs.Tree.{join}
use Rattle.tree_dir.specs.declared.leaf.Leaf.{Leaf}
use Rattle.tree_dir.specs.Leaves.{leaves_of}
use Rattle.tree_open.specs.declared.place.TreePlace.{TreePlace}
use Rattle.tree_write.specs.Drafts.{AreLiveLeaves, Drafted, addrs_to, aligned}
use Rattle.tree_write.specs.Keeps.{KeepsAll}
use Rattle.tree_write.specs.Steps.{links_in}
use Rattle.tree_write.specs.Writes.{KeepSame}
use Rattle.tree_write.proofs.Aligning.{aligned_same, bear_length}
use Rattle.tree_write.proofs.Drafting.{draft_kept}
use Rattle.tree_write.proofs.Parts.{RowsBelow}
use Rattle.engine_world.specs.Stands.{Engine}
use Rattle.ckpt_content.specs.Finished.{tables_then}
use Rattle.ckpt_step.specs.Drafting.{AreCutOf, Drafting, DraftStopped, Drafts, MakesLeaf, StopsLeaf, WritesLeaf}
use Rattle.ckpt_step.specs.Floors.{AreOnDevice, FollowsFrom}
use Rattle.ckpt_step.specs.Goings.{HasPartsAt, MayGo}
use Rattle.ckpt_step.specs.Lives.{live_addrs}
use Rattle.ckpt_step.specs.Moments.{IsMoment, Moment}
use Rattle.ckpt_step.specs.Parts.{links_over, part_of, with_parts}
use Rattle.ckpt_step.specs.Rooms.{Written}
use Rattle.ckpt_step.specs.Steps.{IsKept, IsLoaded}
use Rattle.ckpt_step.specs.declared.lives.Lone.{Lone}
use Rattle.ckpt_step.specs.declared.parts.LeafPart.{LeafPart}
use Rattle.ckpt_step.proofs.TakenLeaves.{kept_drafted, written_drafted, written_serve}
use Rattle.ckpt_step.proofs.DraftingMore.{AreImagesOf, drafting_failed, drafting_more, drafting_stopped}
use Rattle.ckpt_step.proofs.LoadedLeaves.{captured_lie, stands_in}
use Rattle.ckpt_step.proofs.KeptPlaces.{kept_long, links_long, same_behind, same_unaligned}
use Rattle.ckpt_step.proofs.Members.{in_back, none_some}
use Rattle.ckpt_step.proofs.LeafImages.{leaf_images}
use Rattle.ckpt_step.proofs.LeavesNow.{leaves_now}
use Rattle.ckpt_step.proofs.OldParts.{addrs_live, part_live}
use Rattle.ckpt_step.proofs.LowKeys.{front_below}
use Rattle.ckpt_step.proofs.TableLeaves.{AreOnce, contains_of, in_table, member_of, once_of, once_split, once_table}
use Rattle.ckpt_step.proofs.WithParts.{part_written, with_last}

-- a leaf behind others of a table is one of the directory's
pub leaf_next : (table : ℕ) (leaves front : List Leaf) (l : Leaf) (rest : List Leaf) → leaves_of table leaves ≡ front ++ l ∷ rest → Contains leaves l × (l.table ≡ table)
leaf_next table leaves front l rest all =
    let one = in_table table leaves l (subst (λ (m : List Leaf). Member l m) (sym all) (in_back front (l ∷ rest) l (inl refl))) in
    (contains_of leaves l one.0, one.1)

-- ---- a leaf behind those before it

module _ {D : Type 0} (g : Ghosts D) (old : Option Stored) (first : Books) (e : Engine) (s : Sight) (floor : Name) (n : Moment) (moment : IsMoment e s floor n) (had : Written) (was : List TreePlace) (t : Table) (stood : Member t (tables_then n.world.machine n.checkpoint)) (i : ℕ) (known_at : slice_get e.hub.tables.tables i ≡ Some t)
    (books mid books' : Books) (more between_more more' : List LeafPart) (captured between_captured captured' : List Addr) (before between after : D)
    (lives : List Lone) (may : MayGo (g.seen before) (g.may_leave before) first books old was (live_addrs lives (leaves_of t.number e.hub.dir.leaves)) i) (parts : HasPartsAt old lives e.hub.dir.leaves had was t i) (follows : FollowsFrom old e.hub.tables.tables lives e.hub.dir.leaves had was floor n.world)
    (on_device : AreOnDevice (g.seen before) lives e.hub.dir.leaves n.world.shelf)
    (l : Leaf) (there : Contains e.hub.dir.leaves l) (own : l.table ≡ t.number) (front rest : List Leaf) (all : leaves_of t.number e.hub.dir.leaves ≡ front ++ l ∷ rest) (es : List Entry)
    (drafting : Drafting g old first e.hub.dir.leaves had n t.number books mid more between_more captured between_captured before between front es) where
  abbrev leaves : List Leaf
  leaves = e.hub.dir.leaves

  differs : (x : Leaf) → Contains front x → x.id ≢ l.id
  differs x before_it = once_split front l rest (subst AreOnce all (once_table t.number leaves (once_of leaves moment.stands.dir.once))) x (member_of front x before_it)

  below : RowsBelow l.entry.key (join (join drafting.parts))
  below = front_below leaves t.number front l rest drafting.parts (once_of leaves moment.stands.dir.once) all drafting.parted

  live : AreLiveLeaves first (links_in (part_of had l))
  live = part_live (g.seen before) (g.may_leave before) first books old lives leaves had was t i l may parts there own

  -- it is captured as it stands
  pub takes_kept : ((c : List ℕ) → g.left_since between (g.moment between) c → g.may_leave between c) → IsKept e had floor l → KeepsAll mid books' (addrs_to (part_of had l)) → more' ≡ between_more → captured' ≡ between_captured ++ addrs_to (part_of had l)
      → Drafting g old first leaves had n t.number books books' more more' captured captured' before between (front ++ l ∷ []) (es ++ part_of had l)
  takes_kept only kept keeps more_are captured_are = elim (leaf_images (g.seen before) old e.hub.tables.tables lives leaves had was floor n.world t i known_at may.over.may.stands.seen_has may.apart parts follows on_device l there own) [
    | inr lacks ↦ absurd (elim kept [ inl unloaded ↦ lacks.framed (unloaded n.world moment.stands there) | inr clean ↦ none_some (sym lacks.none ∙ clean.there) ])
    | inl one ↦
        let part = part_of had l in
        let images = one.0 in
        let has = leaves_now (g.seen before) (g.seen between) first books may.over.live may.over.may.units drafting.drafted.ready drafting.drafted.written.captures.keeps part images one.1.on live in
        let links = links_over had front drafting.parts in
        let kept_draft = draft_kept g old first books mid before between links (join drafting.parts) drafting.addrs es drafting.drafted only part images books' has (addrs_live first (g.seen between) part images has live) keeps in
        drafting_more g old first leaves had n t.number books mid books' more between_more more' captured between_captured captured' before between between front es drafting l images part [] (addrs_to part)
        differs tt refl below (more_are ∙ sym (append-nil between_more)) captured_are
        (kept_drafted e s floor n moment had t stood l there own (g.seen before) images kept one.1)
        (subst (λ (m : List Link). Drafted g old first books books' before between (links ++ m) (join drafting.parts ++ images) (drafting.addrs ++ addrs_to part) (es ++ part)) (sym (aligned_same (links_in part) images (kept_long (g.seen between) part images has))) kept_draft)
  ]

  module _ (held : HeldLeaf) (loaded : IsLoaded e l held) where
    -- it is written
    pub takes_written : (all_es : List Entry) → MakesLeaf g s held l (part_of had l) mid books' es all_es between_more more' between_captured captured' between after → Drafting g old first leaves had n t.number books books' more more' captured captured' before after (front ++ l ∷ []) all_es
    takes_written all_es makes =
        let part = part_of had l in
        let links = links_over had front drafting.parts in
        let wrote = makes old first books before links (join drafting.parts) drafting.addrs drafting.drafted live in
        let images = wrote.0 in
        let entries = wrote.1 in
        let made = wrote.3 in
        let long : length links ≡ length (links_in es) = drafting.drafted.placed ∙ (sym (bear_length es (join drafting.parts) drafting.drafted.written.bear) ∙ sym (links_long es)) in
        let many : length (links_in es) ≡ length (join drafting.parts) = links_long es ∙ bear_length es (join drafting.parts) drafting.drafted.written.bear in
        let both : KeepSame (g.seen before) (links ++ aligned (links_in part) images) (links_in es ++ links_in entries) (join drafting.parts ++ images) =
        subst (λ (m : List Link). KeepSame (g.seen before) (links ++ aligned (links_in part) images) m (join drafting.parts ++ images)) (map-append {A = Entry} {B = Link} (λ x. x.link) es entries) wrote.4.written.same in
        let same = same_unaligned (g.seen before) (links_in part) (links_in entries) images (same_behind (g.seen before) links (aligned (links_in part) images) (links_in es) (links_in entries) (join drafting.parts) images long many both) in
        let own_many : length entries ≡ length images = omega (arith, length-append es entries, length-append (join drafting.parts) images, bear_length (es ++ entries) (join drafting.parts ++ images) wrote.4.written.bear, bear_length es (join drafting.parts) drafting.drafted.written.bear) in
        let noted : with_parts had (made.made ∷ []) l.id ≡ Some entries = ap (λ (id : ℕ). with_parts had (made.made ∷ []) id) (sym made.of_leaf) ∙ (with_last had [] made.made ∙ ap (λ (x : List Entry). Some x) made.with_entries) in
        subst (λ (m : List Entry). Drafting g old first leaves had n t.number books books' more more' captured captured' before after (front ++ l ∷ []) m) (sym made.es_are)
        (drafting_more g old first leaves had n t.number books mid books' more between_more more' captured between_captured captured' before between after front es drafting l images entries (made.made ∷ []) wrote.2
        differs (made.of_leaf, tt) (part_written (with_parts had (made.made ∷ [])) l entries noted) below made.more_are made.captured_are
        (written_drafted e s floor n moment had t stood l there own (g.seen before) (with_parts had (made.made ∷ [])) held images entries noted loaded made.cut made.entries own_many same) wrote.4)

    -- or some of its images are
    pub takes_stopped : (all_es : List Entry) (x : StoreError) → StopsLeaf g s held l (part_of had l) mid books' es all_es between_more more' between_captured captured' between after x → DraftStopped g old first leaves had n t.number books books' more more' captured captured' before after x
    takes_stopped all_es x stops =
        let wrote = stops old first books before (links_over had front drafting.parts) (join drafting.parts) drafting.addrs drafting.drafted live in
        drafting_stopped g old first leaves had n t.number books mid books' more between_more more' captured between_captured captured' before between after front es drafting l wrote.0 rest wrote.1 x all wrote.2 (λ is. fit wrote.0 (wrote.3 is)) wrote.4
      where
        fit : (images : List (List Row)) → AreCutOf s held images → AreImagesOf leaves n t.number l images
        fit images cut = record {
          lie = captured_lie e n.world s t.number l held (join images) moment.stands there (stands_in e n.world t.number l held moment.stands there own loaded) cut.captured;
          serve = written_serve e s floor n moment had t stood l there own held images loaded cut;
          full = cut.full;
          some = cut.some;
        }

  -- an error before anything of it is captured
  pub takes_none : (x : StoreError) → (x ≡ NoSpace → ⊥) → captured' ≡ between_captured → DraftStopped g old first leaves had n t.number books mid more more' captured captured' before between x
  takes_none x other captured_are = drafting_failed g old first leaves had n t.number books mid books' more between_more more' captured between_captured captured' before between after front es drafting l x other captured_are

  -- ---- as it comes

  -- it is kept, or there is no memory
  pub keeps_drafts : (r : Result (Unit {0}) StoreError) (all_es part : List Entry) → part ≡ part_of had l → ((c : List ℕ) → g.left_since between (g.moment between) c → g.may_leave between c) → IsKept e had floor l → OnOk r (KeepsAll mid books' (addrs_to part)) → OnOk r (captured' ≡ between_captured ++ addrs_to part)
      → OnOk r (all_es ≡ es ++ part) → OnErr r ((books' ≡ mid) × (captured' ≡ between_captured)) → more' ≡ between_more → IfErr r (λ x. x ≡ NoMemory) → Drafts g old first leaves had n t.number books books' more more' captured captured' before between (front ++ l ∷ []) all_es r
  keeps_drafts (Ok done) all_es part is only kept keeps listed entries same more_are short =
      subst (λ (m : List Entry). Drafting g old first leaves had n t.number books books' more more' captured captured' before between (front ++ l ∷ []) m) (sym (entries ∙ ap (λ (m : List Entry). es ++ m) is))
      (takes_kept only kept (subst (λ (m : List Entry). KeepsAll mid books' (addrs_to m)) is keeps) more_are (listed ∙ ap (λ (m : List Entry). between_captured ++ addrs_to m) is))
  keeps_drafts (Err x) all_es part is only kept keeps listed entries same more_are short =
      subst (λ (b : Books). DraftStopped g old first leaves had n t.number books b more more' captured captured' before between x) (sym same.0) (takes_none x (λ none. want_room (sym short ∙ none)) same.1)
    where
      want_room : NoMemory ≡ NoSpace → ⊥
      want_room same = cc

  -- it is written, or not all of it
  pub writes_drafts : (r : Result (Unit {0}) StoreError) (held : HeldLeaf) (all_es part : List Entry) → part ≡ part_of had l → IsLoaded e l held → WritesLeaf g s held l part mid books' es all_es between_more more' between_captured captured' between after r
      → Drafts g old first leaves had n t.number books books' more more' captured captured' before after (front ++ l ∷ []) all_es r
  writes_drafts (Ok done) held all_es part is loaded writes = takes_written held loaded all_es (subst (λ (m : List Entry). MakesLeaf g s held l m mid books' es all_es between_more more' between_captured captured' between after) is writes)
  writes_drafts (Err x) held all_es part is loaded writes = takes_stopped held loaded all_es x (subst (λ (m : List Entry). StopsLeaf g s held l m mid books' es all_es between_more more' between_captured captured' between after x) is writes)
