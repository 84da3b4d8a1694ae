-- What a leaf is cut into lets it be evicted.
use Rattle.std.proofs.Common.{◌≡◌, ◌≢◌, ◌<◌, ℕ, ap, sym, ◌∙◌, List, [], ◌++◌, inl, inr, subst}
use Rattle.std.specs.Prelude.{Option, Some, None, Result, Ok, Err, IfOk, find, nat_le, option_and_then, option_map}
use Rattle.std.specs.Option.{option_to_list}
use Rattle.std.proofs.lemmas.Bool.{and_parts, both_ways, cases_Bool, leb-true}
use Rattle.std.proofs.lemmas.Option.{same_Some}
use Rattle.item.specs.declared.Change.{Change}
use Rattle.stamp.specs.declared.Name.{Name}
use Rattle.stamp.specs.declared.Version.{Version}
use Rattle.kv_model.specs.Captures.{ReconciledLists}
use Rattle.kv_model.specs.Holds.{Descends, Member}
use Rattle.kv_model.specs.Ordered.{Older}
use Rattle.kv_model.proofs.Finishing.{line-committed}
use Rattle.reconcile.specs.Shows.{shown_at}
use Rattle.snapshot.specs.Matters.{AreUnended, IsLive, IsUnended}
use Rattle.snapshot.specs.Past.{is_below}
use Rattle.snapshot.specs.Sight.{Sight, is_listed, is_seen}
use Rattle.txn_table.specs.Checkpoints.{EndedIsSeen}
use Rattle.update_chain.specs.declared.update.Update.{Update}
use Rattle.update_chain.specs.EventLaws.{StandsFor}
use Rattle.leaf_chains.specs.Slots.{chain_at}
use Rattle.reconcile.specs.declared.image.Image.{Image}
use Rattle.reconcile.specs.declared.image.Moved.{Moved}
use Rattle.reconcile.specs.declared.live.Live.TheVariants.{All}
use Rattle.reconcile.specs.Held.{held_at, is_live, is_past, moved_of, versions}
use Rattle.reconcile.specs.Laws.{KeysAreReconciled}
use Rattle.reconcile.specs.Moving.{versions_in}
use Rattle.leaf_frame.specs.Leaf.{HeldLeaf}
use Rattle.tree_dir.specs.declared.leaf.Framed.{Framed}
use Rattle.tree_dir.specs.declared.leaf.Leaf.{Leaf}
use Rattle.tree_dir.specs.Leaves.{leaf_under}
use Rattle.call_steps.specs.declared.frame.Frame.{Frame}
use Rattle.engine_world.specs.Evicting.{IsEvictedTo}
use Rattle.engine_world.specs.Leaves.{LeafInFrame, frame_in}
use Rattle.engine_world.specs.Stands.{Engine, Stands}
use Rattle.engine_world.specs.Worlds.{World}
use Rattle.engine_world.proofs.Emptying.{mine, mine-at}
use Rattle.engine_world.proofs.Homes.{lies-or-not}
use Rattle.engine.specs.declared.running_checkpoint.RunningCheckpoint.{RunningCheckpoint}
use Rattle.engine.specs.Evictions.{MayBeEvicted}
use Rattle.engine.specs.Running.{RunsAs}
use Rattle.engine.proofs.Evictions.{may-at}
use Rattle.engine.proofs.LeavesCome.{named-there}
use Rattle.evict_step.specs.declared.cut.CutOut.{CutOut}
use Rattle.evict_step.specs.declared.cut.CutOut.TheVariants.{Stays, Unresolved, Images}
use Rattle.evict_step.specs.Cuts.{IsCutFrom, IsCutOf, IsCutOut, held_in}
use Rattle.evict_step.proofs.HeldEnded.{held-ended, held-ordered}
use Rattle.evict_step.proofs.MovesInOrder.{newest-descends}
use Rattle.evict_step.proofs.Unended.{keys-stand, none-held, sits-may, tells}

-- ---- the leaf in its frame

-- what it holds there
pub held-may : (e : Engine) (id : ℕ) (may : MayBeEvicted e id) → held_in e id ≡ Some may.frame.leaf
held-may e id may = ap (option_and_then (λ (framed : Framed). option_map (λ (f : Frame). f.leaf) (frame_in e.pieces framed.frame))) (may-at e id may)
    ∙ ap (option_map (λ (f : Frame). f.leaf)) may.filled

module _ (e : Engine) (id : ℕ) (may : MayBeEvicted e id) (w : World) (st : Stands e w) where
  abbrev l : Leaf
  l = may.leaf

  abbrev f : Frame
  f = may.frame

  stand : (key : List ℕ) → leaf_under l.table key e.hub.dir.leaves ≡ Some l → StandsFor w.machine l.table key (chain_at key f.leaf.chains) (shown_at key f.leaf.page) []
  stand key under = keys-stand e id (sits-may e id may) w st key under

  bare-of : (key : List ℕ) → leaf_under l.table key e.hub.dir.leaves ≢ Some l → held_at key f.leaf.page f.leaf.chains ≡ []
  bare-of key outside = none-held e id (sits-may e id may) w st key outside

  pub cut-evicts : KeysAreReconciled → (running : Option RunningCheckpoint) (images : List Image) (moved : List Moved) → (c : IsCutFrom e running f.leaf images moved) → RunsAs w.machine running → IsEvictedTo w.machine e.hub.dir.leaves l f c.rows (λ key. versions_in key moved)
  cut-evicts law running images moved c runs = record {
    past = is_past c.pin c.floor;
    covers = λ key under v there is. let p = and_parts (nat_le v.window.durable c.pin) (is_below v.window.name c.floor) is in
        (c.past w st runs l.table key).cover v there (leb-true v.window.durable c.pin p.0) p.1;
    ended = λ key under v there each. held-ended w.machine l.table key (chain_at key f.leaf.chains) (shown_at key f.leaf.page) st.valid (stand key under) v there
        (λ live. both_ways (is_seen c.sight v.window.name) ((c.living w st).unseen v.window.name live) (c.seen key v there));
    made = λ key under. subst (λ (o : Option (Version Change)). ReconciledLists Older (is_live All) (is_past c.pin c.floor) (held_at key f.leaf.page f.leaf.chains) o (versions_in key moved)) (sym (c.reconciled.shows key))
        (subst (λ (vs : List (Version Change)). ReconciledLists Older (is_live All) (is_past c.pin c.floor) (held_at key f.leaf.page f.leaf.chains) (find (is_live All) (held_at key f.leaf.page f.leaf.chains)) vs) (sym (c.moves key))
        (law (is_live All) (is_past c.pin c.floor) (held_at key f.leaf.page f.leaf.chains) (held-newest-first key under)));
    ordered = λ key under. subst (λ (o : Option (Version Change)). Descends Older (option_to_list o ++ versions_in key moved)) (sym (c.reconciled.shows key))
        (subst (λ (vs : List (Version Change)). Descends Older (option_to_list (find (is_live All) (held_at key f.leaf.page f.leaf.chains)) ++ vs)) (sym (c.moves key))
        (newest-descends (is_past c.pin c.floor) (held_at key f.leaf.page f.leaf.chains) (held-newest-first key under)));
    bare = λ key outside. (
      c.reconciled.shows key ∙ ap (find (is_live All)) (bare-of key outside),
      c.moves key ∙ ap (moved_of (is_live All) (is_past c.pin c.floor)) (bare-of key outside),
    );
  } where
    held-newest-first : (key : List ℕ) → leaf_under l.table key e.hub.dir.leaves ≡ Some l → Descends Older (held_at key f.leaf.page f.leaf.chains)
    held-newest-first key under = held-ordered w.machine l.table key (chain_at key f.leaf.chains) (shown_at key f.leaf.page) st.valid (stand key under)

-- ---- what is told

cut-out : KeysAreReconciled → (e : Engine) (running : Option RunningCheckpoint) (id : ℕ) (may : MayBeEvicted e id) (held : HeldLeaf) → held_in e id ≡ Some held → (out : CutOut) → IsCutOf e running held out → IsCutOut e running id out
cut-out law e running id may held there (Stays why) of = absurd of
cut-out law e running id may held there (Unresolved by) of = tells e id held there (Some by) of
cut-out law e running id may held there (Images made) of = record {
  may = may;
  rows = cut.rows;
  are = cut.are;
  fit = cut.reconciled.fit;
  in_order = cut.in_order;
  moved_fit = cut.moved_fit;
  evicted = λ w st runs. cut-evicts e id may w st law running made.images.items made.moved.items cut runs;
} where
  cut : IsCutFrom e running may.frame.leaf made.images.items made.moved.items
  cut = subst (λ (x : HeldLeaf). IsCutFrom e running x made.images.items made.moved.items) (same_Some held may.frame.leaf (sym there ∙ held-may e id may)) of

pub cuts-out : {E : Type 0} → KeysAreReconciled → (e : Engine) (running : Option RunningCheckpoint) (id : ℕ) (may : MayBeEvicted e id) (held : HeldLeaf) → held_in e id ≡ Some held
    → (told : Result CutOut E) → IfOk told (λ out. IsCutOf e running held out) → IfOk told (λ out. IsCutOut e running id out)
cuts-out law e running id may held there (Ok out) of = cut-out law e running id may held there out of
cuts-out law e running id may held there (Err error) of = tt
