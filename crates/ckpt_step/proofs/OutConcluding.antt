-- A leaf gave way to others with the newest versions of its keys: in which worlds nobody sees it.
use Rattle.std.specs.Prelude.{◌≡◌, ◌≢◌, ℕ, ◌≤◌, List, [], ◌++◌, Option, None, Some, IfSome, refl}
use Rattle.std.specs.List.{Contains}
use Rattle.std.specs.Option.{option_to_list}
use Rattle.std.proofs.Common.{sym, ◌∙◌, ap, subst}
use Rattle.disk_model.specs.declared.disk.Disk.{Ghosts}
use Rattle.engine.specs.Evictions.{MayBeEvicted}
use Rattle.engine.specs.Partings.{HasParted, MayPart}
use Rattle.engine.proofs.LeavesCome.{named-there}
use Rattle.engine.proofs.PartedLeaves.{part-found}
use Rattle.engine_world.specs.Evicting.{IsEvictedTo, held_of}
use Rattle.engine_world.specs.GivingWay.{IsShelved}
use Rattle.engine_world.specs.Parting.{IsPartedTo}
use Rattle.engine_world.specs.Stands.{Engine, Stands}
use Rattle.engine_world.specs.Worlds.{Records, World}
use Rattle.engine.specs.declared.running_checkpoint.RunningCheckpoint.{RunningCheckpoint}
use Rattle.engine.specs.Running.{RunsAs}
use Rattle.evict_step.specs.Cuts.{AreCut}
use Rattle.item.specs.declared.Change.{Change}
use Rattle.kv_model.specs.AgreementLaws.{head_of}
use Rattle.kv_model.specs.Captures.{ReconciledLists}
use Rattle.kv_model.specs.History.{line}
use Rattle.kv_model.specs.Holds.{Descends}
use Rattle.kv_model.specs.Machine.{Machine}
use Rattle.kv_model.specs.Ordered.{Older}
use Rattle.kv_model.specs.Reconciling.{each_one}
use Rattle.reconcile.specs.declared.image.Image.{Image}
use Rattle.reconcile.specs.declared.image.Moved.{Moved}
use Rattle.reconcile.specs.Moving.{versions_in}
use Rattle.row_page.specs.Rows.{Row}
use Rattle.reconcile.specs.Shows.{shown_at}
use Rattle.stamp.specs.declared.Version.{Version}
use Rattle.stored.specs.Stored.{Stored}
use Rattle.call_steps.specs.declared.frame.Frame.{Frame}
use Rattle.tree_dir.specs.declared.leaf.Leaf.{Leaf}
use Rattle.tree_dir.specs.Leaves.{Directory, IsDirectory, leaf_named, leaf_under, leaves_with}
use Rattle.evict_step.specs.Kept.{with_moved}
use Rattle.ckpt_step.specs.declared.ground.Ground.{Ground}
use Rattle.ckpt_step.specs.declared.moving_in.When.TheVariants.{Idle, AtWork}
use Rattle.ckpt_step.specs.CutOuts.{AreShelved, HasPut}
use Rattle.ckpt_step.specs.Evicts.{IsGrown, LeftInParts}
use Rattle.ckpt_step.specs.Floors.{AreNewestIn}
use Rattle.ckpt_step.specs.WritesOut.{AreRowsIn, WrittenOut}
use Rattle.ckpt_step.proofs.KeptGround.{follows_records}
use Rattle.ckpt_step.proofs.LedNewest.{evicted_rows}
use Rattle.ckpt_step.proofs.Members.{some_same}
use Rattle.ckpt_step.proofs.MovedApart.{moved_bare, moved_kept, moved_own, moved_unused}
use Rattle.ckpt_step.proofs.PartStamps.{RowsDurable, shown_durable}

-- ---- the shelf

module _ (old next : Directory) (l : Leaf) (rows : List Row) (made : List Leaf) (before shelf : ℕ → List Row) (s : AreShelved old next l rows made before shelf) where
  -- by the table of the new leaf
  under_own : (n : Leaf) → Contains made n → (key : List ℕ) → leaf_under n.table key next.leaves ≡ Some n → leaf_under l.table key next.leaves ≡ Some n
  under_own n c key under = ap (λ (t : ℕ). leaf_under t key next.leaves) (sym (s.stand.own n c).0) ∙ under

  -- nothing of keys that do not lie in it
  bare_own : (n : Leaf) → Contains made n → (key : List ℕ) → leaf_under n.table key next.leaves ≢ Some n → shown_at key (shelf n.id) ≡ None
  bare_own n c key away = by (shown_at key (shelf n.id)) refl
    where
      by : (found : Option (Version Change)) → shown_at key (shelf n.id) ≡ found → shown_at key (shelf n.id) ≡ None
      by None is = is
      by (Some v) is = absurd (away (ap (λ (t : ℕ). leaf_under t key next.leaves) (s.stand.own n c).0 ∙ s.lies n c key v is))

  -- where all rows are durable, what it shows is
  durable_own : (oldest : ℕ) → RowsDurable oldest rows → (n : Leaf) → Contains made n → (key : List ℕ) → IfSome (shown_at key (shelf n.id)) (λ v. v.window.durable ≤ oldest)
  durable_own oldest durable n c key = by (shown_at key (shelf n.id)) refl
    where
      by : (found : Option (Version Change)) → shown_at key (shelf n.id) ≡ found → IfSome (shown_at key (shelf n.id)) (λ v. v.window.durable ≤ oldest)
      by None is = subst (λ (o : Option (Version Change)). IfSome o (λ v. v.window.durable ≤ oldest)) (sym is) tt
      by (Some v) is = subst (λ (o : Option (Version Change)). IfSome o (λ v. v.window.durable ≤ oldest)) (sym (s.shown n c key (s.lies n c key v is))) (shown_durable oldest key rows durable)

  pub shelved_newest : (m : Machine) → AreNewestIn m old.leaves l.table l rows → RowsDurable m.oldest rows → IsShelved m old next made before shelf
  shelved_newest m newest durable = record {
    others = s.others;
    newest = λ n c key under.
        let own = under_own n c key under in
        ap (λ (t : ℕ). head_of (line m.history t key)) (s.stand.own n c).0 ∙ (newest key (s.within n c key own) ∙ sym (s.shown n c key own));
    bare = bare_own;
    durable = durable_own m.oldest durable;
  }

  -- as where the leaf is evicted to these rows, and these versions move to the history
  module _ (w : World) (was : IsDirectory old) (now : IsDirectory next) (there : Contains old.leaves l) (unmade : (id : ℕ) → old.next ≤ id → (key : List ℕ) → w.records id key ≡ []) (moved : List Moved) where
    abbrev after : Records
    after = with_moved next.leaves l.table moved w.records

    module _ (f : Frame) (to : IsEvictedTo w.machine old.leaves l f rows (λ key. versions_in key moved)) where
      none_away : (key : List ℕ) → leaf_under l.table key old.leaves ≢ Some l → versions_in key moved ≡ []
      none_away key away = (to.bare key away).1

      pub own_moved : (n : Leaf) → Contains made n → (key : List ℕ) → leaf_under n.table key next.leaves ≡ Some n → after n.id key ≡ versions_in key moved
      own_moved = moved_own old next l made s.stand was now there w.records unmade moved none_away

      pub parted_to : before ≡ w.shelf → IsPartedTo w old next l f made shelf after
      parted_to same = record {
        past = to.past;
        covers = to.covers;
        ended = to.ended;
        made_of = λ n c key under.
            let own = under_own n c key under in
            subst (λ (more : List (Version Change)). ReconciledLists Older each_one to.past (held_of f key) (shown_at key (shelf n.id)) more) (sym (own_moved n c key under))
            (subst (λ (row : Option (Version Change)). ReconciledLists Older each_one to.past (held_of f key) row (versions_in key moved)) (sym (s.shown n c key own)) (to.made key (s.within n c key own)));
        ordered = λ n c key under.
            let own = under_own n c key under in
            subst (λ (more : List (Version Change)). Descends Older (option_to_list (shown_at key (shelf n.id)) ++ more)) (sym (own_moved n c key under))
            (subst (λ (row : Option (Version Change)). Descends Older (option_to_list row ++ versions_in key moved)) (sym (s.shown n c key own)) (to.ordered key (s.within n c key own)));
        bare = λ n c key away. (bare_own n c key away, moved_bare old next l made s.stand was now there w.records unmade moved none_away n c key away);
        others = λ id less. s.others id less ∙ ap (λ (shelf : ℕ → List Row). shelf id) same;
        kept = moved_kept old next l made s.stand was now there w.records unmade moved none_away;
        unused = moved_unused old next l made s.stand was now there w.records unmade moved none_away;
      }

-- ---- what is left

module _ {D : Type 0} (g : Ghosts D) (old : Option Stored) (w : World) (stand stand' : Ground) (e e' : Engine) (id : ℕ) (before after : D) (stands : Stands e w) (rows : List Row) (leaf : Leaf) (there : leaf_named id e.hub.dir.leaves ≡ Some leaf) where
  pub written_idle : HasPut g old w stand stand' e e' id before after Idle rows → w.machine.checkpoint ≡ None → AreRowsIn w.machine e.hub.dir.leaves leaf rows → RowsDurable w.machine.oldest rows → WrittenOut g old w stand stand' e e' id before after
  written_idle put idle are durable = record {
    entries = put.entries;
    way = put.way;
    ids = put.shelved.stand.ids;
    left = put.left;
    still = record { shelf = put.shelf; shelved = shelved; on = put.on; follows = put.follows; since = put.since };
    stands = put.stands put.way w put.shelf stands idle shelved;
    live = put.live;
    freed = put.freed;
    forgets = put.forgets;
  }
    where
      shelved : IsShelved w.machine e.hub.dir e'.hub.dir (leaves_with put.way.leaf.table put.way.ids put.entries) w.shelf put.shelf
      shelved = shelved_newest e.hub.dir e'.hub.dir put.way.leaf rows (leaves_with put.way.leaf.table put.way.ids put.entries) w.shelf put.shelf put.shelved w.machine
          (subst (λ (l : Leaf). AreNewestIn w.machine e.hub.dir.leaves l.table l rows) (some_same (sym there ∙ put.way.there)) are.newest) durable

  module _ (moved : List Moved) (put : HasPut g old w stand stand' e e' id before after AtWork rows) (part : MayPart e id) (may : MayBeEvicted e id) (to : IsEvictedTo w.machine e.hub.dir.leaves may.leaf may.frame rows (λ key. versions_in key moved)) where
    abbrev parted : HasParted e e' id put.entries
    parted = record { may = part-found e id part may; way = put.way }

    abbrev news : List Leaf
    news = leaves_with put.way.leaf.table put.way.ids put.entries

    abbrev then_records : Records
    then_records = with_moved e'.hub.dir.leaves put.way.leaf.table moved w.records

    there_was : Contains e.hub.dir.leaves put.way.leaf
    there_was = named-there id e.hub.dir.leaves put.way.leaf put.way.there

    to_it : IsEvictedTo w.machine e.hub.dir.leaves put.way.leaf may.frame rows (λ key. versions_in key moved)
    to_it = subst (λ (l : Leaf). IsEvictedTo w.machine e.hub.dir.leaves l may.frame rows (λ key. versions_in key moved)) (some_same (sym may.there ∙ put.way.there)) to

    is : IsPartedTo w e.hub.dir e'.hub.dir put.way.leaf may.frame news put.shelf then_records
    is = parted_to e.hub.dir e'.hub.dir put.way.leaf rows news w.shelf put.shelf put.shelved w stands.dir put.now there_was stands.unused moved may.frame to_it refl

    pub parted_work : IsGrown e w.machine id moved → LeftInParts g old w stand stand' e e' id before after moved
    parted_work grown = record {
      grown = grown;
      entries = put.entries;
      parted = parted;
      ids = put.shelved.stand.ids;
      left = put.left;
      shelf = put.shelf;
      to = is;
      own = own_moved e.hub.dir e'.hub.dir put.way.leaf rows news w.shelf put.shelf put.shelved w stands.dir put.now there_was stands.unused moved may.frame to_it;
      stands = put.stands parted w put.shelf then_records stands is;
      on = put.on;
      follows = follows_records old e'.hub stand' (record w { shelf = put.shelf }) then_records put.follows;
      since = put.since;
      live = put.live;
      freed = put.freed;
      forgets = put.forgets;
    }

-- ---- its rows

-- what a leaf is cut into where it is evicted has the newest of its keys
pub parted_rows : (e : Engine) (w : World) (running : Option RunningCheckpoint) (id : ℕ) (images : List Image) (moved : List Moved) (cut : AreCut e running id images moved) (leaf : Leaf) → leaf_named id e.hub.dir.leaves ≡ Some leaf → Stands e w → RunsAs w.machine running → AreRowsIn w.machine e.hub.dir.leaves leaf cut.rows
parted_rows e w running id images moved cut leaf there stands runs =
    subst (λ (l : Leaf). AreRowsIn w.machine e.hub.dir.leaves l cut.rows) (some_same (sym cut.may.there ∙ there)) (evicted_rows e w stands id cut.may cut.rows cut.fit (λ key. versions_in key moved) (cut.evicted w stands runs))
