-- A leaf of the directory as a draft has it, kept or written.
use Rattle.std.specs.Prelude.{◌≡◌, ℕ, true, List, [], ◌∷◌, length, Some, refl}
use Rattle.std.specs.List.{Contains}
use Rattle.std.proofs.Common.{inl, inr, sym, ◌∙◌, ap, subst}
use Rattle.item.specs.declared.Change.{Change}
use Rattle.device_layout.specs.declared.link.Link.{Link}
use Rattle.stamp.specs.declared.Name.{Name}
use Rattle.stamp.specs.declared.Version.{Version}
use Rattle.kv_model.specs.History.{Table, line}
use Rattle.kv_model.specs.Holds.{Member}
use Rattle.kv_model.proofs.Ordering.{line-descends}
use Rattle.row_page.specs.Rows.{Row}
use Rattle.reconcile.specs.Shows.{shown_at}
use Rattle.snapshot.specs.Sight.{Sight}
use Rattle.leaf_chains.specs.Slots.{chain_at}
use Rattle.leaf_frame.specs.Leaf.{HeldLeaf}
use Rattle.stored.specs.TableTree.{Entry}
use Rattle.stored.specs.Tree.{join}
use Rattle.tree_dir.specs.declared.leaf.Leaf.{Leaf}
use Rattle.tree_dir.specs.Leaves.{leaf_under}
use Rattle.tree_write.specs.Steps.{links_in}
use Rattle.tree_write.specs.Writes.{KeepSame}
use Rattle.engine_world.specs.Stands.{Engine}
use Rattle.ckpt_content.specs.Finished.{tables_then}
use Rattle.ckpt_step.specs.Drafting.{AreCutOf, AreEntriesFrom, IsLeafDrafted}
use Rattle.ckpt_step.specs.Floors.{IsLeafBefore, is_before}
use Rattle.ckpt_step.specs.Moments.{AreServedIn, IsMoment, Moment, Serves}
use Rattle.ckpt_step.specs.Parts.{IsPart, part_of}
use Rattle.ckpt_step.specs.Rooms.{Written}
use Rattle.ckpt_step.specs.Steps.{IsKept, IsLoaded}
use Rattle.ckpt_step.proofs.CleanTrees.{captured_before, newest_cell, shown_id}
use Rattle.ckpt_step.proofs.KeptPlaces.{kept_long, links_long}
use Rattle.ckpt_step.proofs.LeafCells.{cell_held, cell_laid, cells_serve}
use Rattle.ckpt_step.proofs.LeafImages.{HasImages}
use Rattle.ckpt_step.proofs.LoadedLeaves.{captured_lie, stands_in}
use Rattle.ckpt_step.proofs.Members.{none_some}
use Rattle.ckpt_step.proofs.WithParts.{part_written}

-- ---- a leaf that is kept

pub same_self : (bytes : List ℕ) (links : List Link) (leaves : List (List Row)) → KeepSame bytes links links leaves
same_self bytes [] leaves = tt
same_self bytes (link ∷ links) [] = tt
same_self bytes (link ∷ links) (rows ∷ leaves) = ((λ some leaf. refl), same_self bytes links leaves)

module _ (e : Engine) (s : Sight) (floor : Name) (n : Moment) (moment : IsMoment e s floor n) (had : Written) (t : Table) (stood : Member t (tables_then n.world.machine n.checkpoint)) (l : Leaf) (there : Contains e.hub.dir.leaves l) (own : l.table ≡ t.number) where
  abbrev leaves : List Leaf
  leaves = e.hub.dir.leaves

  -- The rows of its part show what the engine has: where it is in a frame, and clean, what that is has a name below the floor, as the newest row before the floor has.
  kept_shows : (rows : List Row) → IsKept e had floor l → IsLeafBefore n.world.machine n.world.shelf floor leaves had t.number l rows → (key : List ℕ) → leaf_under t.number key leaves ≡ Some l → shown_at key rows ≡ n.cells t.number key
  kept_shows rows (inl unloaded) before key under =
      let none = unloaded n.world moment.stands there in
      ap (λ (m : List Row). shown_at key m) (before.same (inl none)) ∙ sym (cell_laid e s floor n moment t stood l key under none)
  kept_shows rows (inr clean) before key under =
      sym (before.before clean.part clean.there clean.below key under)
      ∙ newest_cell floor (line n.world.machine.history t.number key) (n.cells t.number key) (line-descends n.world.machine.history moment.stands.valid.orderly t.number key)
      (λ w has. (serves.there w has, low w has))
      (λ v in_line old. serves.top v in_line (moment.before t.number key v in_line old))
    where
      serves : Serves n t.number key (n.cells t.number key)
      serves = moment.serve t stood key

      low : (w : Version Change) → n.cells t.number key ≡ Some w → is_before floor w.window.name ≡ true
      low w has =
          captured_before s clean.greatest floor key (chain_at key clean.held.chains) (shown_at key clean.held.page) w clean.under (clean.none_above key) (clean.loaded.chains_fit key) (λ x. shown_id key clean.held.page x clean.loaded.rows_fit.fit)
          (sym (cell_held e s floor n moment t stood l clean.held key under clean.loaded) ∙ has)

  -- so they serve
  pub kept_serve : (rows : List Row) → IsKept e had floor l → IsLeafBefore n.world.machine n.world.shelf floor leaves had t.number l rows → AreServedIn n leaves t.number l rows
  kept_serve rows kept before = cells_serve e s floor n moment t stood l rows (kept_shows rows kept before)

  pub kept_drafted : (seen : List ℕ) (images : List (List Row)) → IsKept e had floor l → HasImages seen leaves t.number had n.world floor l images → IsLeafDrafted seen leaves had n t.number had l images
  kept_drafted seen images kept has = record {
    is = has.is;
    many = sym (links_long (part_of had l)) ∙ kept_long seen (part_of had l) images has.on;
    serve = kept_serve (join images) kept has.before;
    shelved = has.before.same;
    same = same_self seen (links_in (part_of had l)) images;
  }

  -- ---- a leaf that is written

  pub written_serve : (held : HeldLeaf) (images : List (List Row)) → IsLoaded e l held → AreCutOf s held images → AreServedIn n leaves t.number l (join images)
  written_serve held images loaded cut = cells_serve e s floor n moment t stood l (join images) (λ key under. cut.captured.shows key ∙ sym (cell_held e s floor n moment t stood l held key under loaded))

  pub written_drafted : (seen : List ℕ) (written : Written) (held : HeldLeaf) (images : List (List Row)) (part : List Entry) → written l.id ≡ Some part → IsLoaded e l held → AreCutOf s held images → AreEntriesFrom l.entry.key part images → length part ≡ length images → KeepSame seen (links_in (part_of had l)) (links_in part) images
      → IsLeafDrafted seen leaves had n t.number written l images
  written_drafted seen written held images part noted loaded cut entries many same = record {
    is = subst (λ (es : List Entry). IsPart leaves t.number l es images) (sym its) (record {
      fit = entries.fit;
      climbs = entries.climbs;
      begins = entries.begins;
      stay = entries.stay;
      full = cut.full;
      some = cut.some;
      rows_fit = cut.captured.fit;
      lie = captured_lie e n.world s t.number l held (join images) moment.stands there (stands_in e n.world t.number l held moment.stands there own loaded) cut.captured;
    });
    many = subst (λ (es : List Entry). length es ≡ length images) (sym its) many;
    serve = written_serve held images loaded cut;
    shelved = λ lies. absurd (elim lies [ inl free ↦ none_some (sym free ∙ loaded.placed) | inr none ↦ none_some (sym none ∙ noted) ]);
    same = subst (λ (es : List Entry). KeepSame seen (links_in (part_of had l)) (links_in es) images) (sym its) same;
  }
    where
      its : part_of written l ≡ part
      its = part_written written l part noted
