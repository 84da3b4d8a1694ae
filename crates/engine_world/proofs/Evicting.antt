-- A leaf is evicted while others are at work.
use Rattle.std.proofs.Common.{◌≡◌, ◌≢◌, ℕ, refl, ap, sym, ◌∙◌, Bool, List, [], ◌∷◌, ◌++◌, map, subst}
use Rattle.std.specs.Prelude.{Option, Some, None, if◌then◌else◌}
use Rattle.std.specs.Option.{option_to_list}
use Rattle.std.proofs.lemmas.Bool.{eq-eqb, ne_eqb}
use Rattle.std.proofs.lemmas.List.{append-nil}
use Rattle.item.specs.declared.Change.{Change}
use Rattle.stamp.specs.declared.Version.{Version}
use Rattle.device_layout.specs.declared.link.Link.{Link}
use Rattle.kv_model.specs.Captures.{ReconciledLists}
use Rattle.kv_model.specs.History.{line}
use Rattle.kv_model.specs.Holds.{Descends}
use Rattle.kv_model.specs.Machine.{Machine}
use Rattle.kv_model.specs.Ordered.{Older}
use Rattle.kv_model.specs.Pending.{Update as ModelUpdate}
use Rattle.kv_model.specs.ReconcileLaws.{EvictionStands}
use Rattle.kv_model.specs.Reconciling.{EndedWhere, PastCovers, each_one, held_in}
use Rattle.row_page.specs.Rows.{Row}
use Rattle.reconcile.specs.Shows.{shown_at}
use Rattle.update_chain.specs.EventLaws.{StandsFor}
use Rattle.update_chain.specs.declared.update.Update.{Update}
use Rattle.update_chain.specs.Updates.{update_in}
use Rattle.leaf_chains.specs.Slots.{chain_at}
use Rattle.tree_dir.specs.declared.leaf.Leaf.{Leaf}
use Rattle.tree_dir.specs.Leaves.{leaf_under}
use Rattle.call_steps.specs.declared.frame.Frame.{Frame}
use Rattle.engine_world.specs.Evicting.{IsEvictedTo, LeavesAreEvicted, LeavesAreEvictedUnseen, evicted, held_of, led_out, with_rows}
use Rattle.engine_world.specs.GoingOut.{with_again}
use Rattle.engine_world.specs.Stands.{Engine}
use Rattle.engine_world.specs.Worlds.{World, with_records}
use Rattle.engine_world.proofs.Emptying.{IsFrameOf, clear-aside, emptied-stands, frame-of, untold}
use Rattle.engine_world.proofs.LeavesChanged.{IsMild}
use Rattle.engine_world.proofs.Moves.{again-as}
use Rattle.engine_world.proofs.RecordsKept.{records-here, records-there, still-unused}

out-mild : (link : Link) → IsMild (led_out link)
out-mild link = record { id = λ x. refl; table = λ x. refl; key = λ x. refl }

module _ (id : ℕ) (rows : List Row) (w : World) where
  rows-here : (with_rows id rows w).shelf id ≡ rows
  rows-here = ap (λ b. if b then rows else w.shelf id) (eq-eqb id id refl)

  rows-there : (other : ℕ) → other ≢ id → w.shelf other ≡ (with_rows id rows w).shelf other
  rows-there other apart = sym (ap (λ b. if b then rows else w.shelf other) (ne_eqb other id apart))

-- what a frame holds of a key, as the model says it
versions-same : (chain : List Update) → map {A = Update} (λ u. u.version) chain ≡ map {A = ModelUpdate} (λ u. u.version) (map update_in chain)
versions-same [] = refl
versions-same (u ∷ older) = ap (λ (vs : List (Version Change)). u.version ∷ vs) (versions-same older)

held-same : (f : Frame) (key : List ℕ) → held_of f key ≡ held_in (map update_in (chain_at key f.leaf.chains)) (shown_at key f.leaf.page)
held-same f key = ap (λ (vs : List (Version Change)). vs ++ option_to_list (shown_at key f.leaf.page)) (versions-same (chain_at key f.leaf.chains))

-- a key of a frame, all of whose writers have ended: its newest version and what moves stand for it
pub key-moves : EvictionStands → (m : Machine) (table : ℕ) (key : List ℕ) (f : Frame) (past : Version Change → Bool) (row : Option (Version Change)) (moved : List (Version Change))
    → PastCovers m past (line m.history table key) → EndedWhere m each_one (held_of f key) → ReconciledLists Older each_one past (held_of f key) row moved
    → StandsFor m table key (chain_at key f.leaf.chains) (shown_at key f.leaf.page) [] → StandsFor m table key [] row moved
key-moves evict m table key f past row moved covers ended made stands = subst (λ (vs : List (Version Change)). StandsFor m table key [] row vs) (append-nil moved)
    (evict m table key past (map update_in (chain_at key f.leaf.chains)) (shown_at key f.leaf.page) row [] moved
    covers
    (subst (λ (held : List (Version Change)). EndedWhere m each_one held) (held-same f key) ended)
    (subst (λ (held : List (Version Change)). ReconciledLists Older each_one past held row moved) (held-same f key) made)
    stands)

-- the rows and what moves stand for the keys of the leaf, in which the history kept nothing before
rows-stand : EvictionStands → (e : Engine) (w : World) (l : Leaf) (f : Frame) (rows : List Row) (moved : List ℕ → List (Version Change)) → IsFrameOf w e.hub.dir.leaves l f → IsEvictedTo w.machine e.hub.dir.leaves l f rows moved
    → (key : List ℕ) → leaf_under l.table key e.hub.dir.leaves ≡ Some l → StandsFor w.machine l.table key [] (shown_at key rows) (moved key)
rows-stand evict e w l f rows moved mine x key under = key-moves evict w.machine l.table key f x.past (shown_at key rows) (moved key) (x.covers key under) (x.ended key under) (x.made key under) (mine.keys key under)

pub leaves-are-evicted : EvictionStands → LeavesAreEvicted
leaves-are-evicted evict e w l framed f link rows moved st there placed filled aside last is x = emptied-stands e w l framed f (led_out link) (with_rows l.id rows w).shelf (with_records l.id moved w).records (record {
  stands = st;
  there = there;
  placed = placed;
  filled = filled;
  mild = out-mild link;
  out = refl;
  others = rows-there l.id rows w;
  kept = records-there l.id moved w;
  unused = still-unused e w l moved st there;
  keys = λ key under. subst (λ (xs : List Row). StandsFor w.machine l.table key [] (shown_at key xs) ((with_records l.id moved w).records l.id key)) (sym (rows-here l.id rows w))
      (subst (λ (vs : List (Version Change)). StandsFor w.machine l.table key [] (shown_at key rows) vs) (sym (records-here l.id moved w key))
      (rows-stand evict e w l f rows moved (frame-of e w l framed st there placed f filled) x key under));
  ordered = λ key under. subst (λ (xs : List Row). Descends Older (option_to_list (shown_at key xs) ++ (with_records l.id moved w).records l.id key)) (sym (rows-here l.id rows w))
      (subst (λ (vs : List (Version Change)). Descends Older (option_to_list (shown_at key rows) ++ vs)) (sym (records-here l.id moved w key)) (x.ordered key under));
  bare = λ key outside. (subst (λ (xs : List Row). shown_at key xs ≡ None) (sym (rows-here l.id rows w)) (x.bare key outside).0, records-here l.id moved w key ∙ (x.bare key outside).1);
  aside = aside;
  last = last;
  dir = is;
})

pub leaves-are-evicted-unseen : EvictionStands → LeavesAreEvictedUnseen
leaves-are-evicted-unseen evict e w l framed f link rows moved st there placed filled clear last is x =
    again-as (evicted e l.id link framed.frame) (with_records l.id moved (with_rows l.id rows (with_again e framed.frame w))) w.again
    (leaves-are-evicted evict e w l framed f link rows moved st there placed filled (λ session a at. (clear-aside framed.frame a.stage (clear session a at).0, (clear session a at).1)) last is x)
    (λ session a at noticed. untold e framed.frame w (evicted e l.id link framed.frame).pieces session a at (clear session a at).0 noticed)
