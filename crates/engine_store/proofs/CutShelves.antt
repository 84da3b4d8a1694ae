-- A shelf that has nothing of leaves that were never made: an engine and a ground stand for it as before.
use Rattle.std.proofs.Common.{◌≡◌, ◌≤◌, ◌<◌, ℕ, List, [], ◌∷◌, ◌++◌, length, Option, Some, None, refl, sym, ap, subst, ◌∙◌, inl, inr, arith}
use Rattle.std.specs.Prelude.{◌==◌, nat_lt, true, false, if◌then◌else◌}
use Rattle.std.specs.List.{Contains}
use Rattle.std.specs.Option.{option_to_list}
use Rattle.std.proofs.lemmas.Bool.{cases_lt, eq-eqb, le-ltb, lt-ltb}
use Rattle.item.specs.declared.Change.{Change}
use Rattle.stamp.specs.declared.Version.{Version}
use Rattle.kv_model.specs.Holds.{Descends, Member}
use Rattle.kv_model.specs.Machine.{Machine}
use Rattle.kv_model.specs.Ordered.{Older}
use Rattle.row_page.specs.Rows.{Row}
use Rattle.reconcile.specs.Shows.{shown_at}
use Rattle.reconcile.specs.declared.image.Moved.{Moved}
use Rattle.reconcile.specs.Moving.{versions_in}
use Rattle.update_chain.specs.EventLaws.{StandsFor}
use Rattle.stored.specs.Records.{IdsAscend}
use Rattle.stored.specs.Stored.{Stored}
use Rattle.tree_dir.specs.declared.leaf.Leaf.{Leaf}
use Rattle.tree_dir.specs.Leaves.{Directory, GaveWay, IsDirectory, changed}
use Rattle.tree_write.specs.Drafts.{HasLeaves}
use Rattle.call_steps.specs.declared.frame.FramePiece.{FramePiece}
use Rattle.call_steps.specs.declared.hub.Hub.{Hub}
use Rattle.stored.specs.TableTree.{Entry, first_key}
use Rattle.engine_world.specs.Leaves.{LeafStands}
use Rattle.engine_world.specs.Stands.{Engine, Stands}
use Rattle.engine_world.specs.Worlds.{Records, World}
use Rattle.evict_step.specs.Backs.{AreNewestFirst}
use Rattle.evict_step.specs.Kept.{KeepsMore, KeepsThese, Lists, list_of, lying_in, with_moved}
use Rattle.evict_step.proofs.Again.{kept_shelved, none_kept}
use Rattle.ckpt_step.specs.declared.ground.Ground.{Ground}
use Rattle.ckpt_step.specs.Floors.{AreLivesOn, Follows, IsLeafBefore}
use Rattle.ckpt_step.specs.Parts.{IsPart}
use Rattle.ckpt_step.specs.Rooms.{known_in}
use Rattle.ckpt_step.proofs.MovedApart.{keeps_more, lying_leaf}
use Rattle.ckpt_step.proofs.TableLeaves.{contains_of, member_of}
use Rattle.engine_store.proofs.OtherRecords.{newest_at}

-- with nothing from this id on
abbrev pub cut : ℕ → (ℕ → List Row) → ℕ → List Row
cut n shelf id = if nat_lt id n then shelf id else []

pub cut_below : (n : ℕ) (shelf : ℕ → List Row) (id : ℕ) → id < n → cut n shelf id ≡ shelf id
cut_below n shelf id less = let is : nat_lt id n ≡ true = lt-ltb id n less in rw is refl

pub cut_past : (n : ℕ) (shelf : ℕ → List Row) (id : ℕ) → n ≤ id → cut n shelf id ≡ []
cut_past n shelf id late = let isnt : nat_lt id n ≡ false = le-ltb id n late in rw isnt refl

-- each leaf of a directory has an id that was given
pub below : (d : Directory) (l : Leaf) → IsDirectory d → Contains d.leaves l → l.id < d.next
below d l is there = subst (λ (x : Leaf). x.id < d.next) there.2 (is.below there.0 l there.1)

-- a leaf that is changed is there still
pub changed_there : (id : ℕ) (f : Leaf → Leaf) (leaves : List Leaf) → ((l : Leaf) → (f l).id ≡ l.id) → (l : Leaf) → Contains leaves l → l.id ≡ id → (x : Leaf) × Contains (changed id f leaves) x × (x.id ≡ id)
changed_there id f leaves keeps l there is = let x = by leaves (member_of leaves l there) in (x.0, contains_of (changed id f leaves) x.0 x.1, x.2)
  where
    here : (l.id == id) ≡ true
    here = eq-eqb l.id id is

    by : (some : List Leaf) → Member l some → (x : Leaf) × Member x (changed id f some) × (x.id ≡ id)
    by [] at = absurd at
    by (y ∷ some) (inl same) = (f l, inl (let first : (if l.id == id then f l else l) ≡ f l = rw here refl in sym (ap (λ (z : Leaf). if z.id == id then f z else z) (sym same) ∙ first)), keeps l ∙ is)
    by (y ∷ some) (inr later) = let x = by some later in (x.0, inr x.1, x.2)

-- some ids were given since
pub next_climbs : (old next : Directory) (id : ℕ) (entries : List Entry) (ids key : List ℕ) → GaveWay old next id entries ids → first_key entries ≡ Some key → old.next ≤ next.next
next_climbs old next id [] ids key gave begins = let clash : None ≡ Some key = begins in absurd cc
next_climbs old next id (e ∷ entries) ids key gave begins = by ids gave.fresh.many gave.fresh.ascend
  where
    by : (some : List ℕ) → length some ≡ length (e ∷ entries) → IdsAscend old.next next.next some → old.next ≤ next.next
    by [] many ascend = absurd (omega (arith, many))
    by (x ∷ some) many ascend = let low = ascend.0 in let high = ascend.1 in omega (arith, low, high)

-- ---- an engine

leaf_alike : (m : Machine) (shelf next : ℕ → List Row) (records : Records) (leaves : List Leaf) (pieces : List FramePiece) (states : List ℕ) (l : Leaf) → next l.id ≡ shelf l.id → LeafStands m shelf records leaves pieces states l → LeafStands m next records leaves pieces states l
leaf_alike m shelf next records leaves pieces states l same (inl f) = inl (record { laid = f.laid; keys = f.keys; bare = f.bare; lies = λ some. f.lies some ∙ sym same; none = f.none })
leaf_alike m shelf next records leaves pieces states l same (inr f) = inr (record {
  none = f.none;
  keys = λ key under. subst (λ (rows : List Row). StandsFor m l.table key [] (shown_at key rows) (records l.id key)) (sym same) (f.keys key under);
  ordered = λ key under. subst (λ (rows : List Row). Descends Older (option_to_list (shown_at key rows) ++ records l.id key)) (sym same) (f.ordered key under);
  bare = λ key away. subst (λ (rows : List Row). (shown_at key rows ≡ None) × (records l.id key ≡ [])) (sym same) (f.bare key away);
})

pub stands_cut : (e : Engine) (w : World) → Stands e w → Stands e (record w { shelf = cut e.hub.dir.next w.shelf })
stands_cut e w st = record {
  valid = st.valid;
  fault = st.fault;
  stamps = st.stamps;
  txns = st.txns;
  catalog = st.catalog;
  made = st.made;
  dir = st.dir;
  begun = st.begun;
  owned = st.owned;
  leaves = λ l there. leaf_alike w.machine w.shelf (cut e.hub.dir.next w.shelf) w.records e.hub.dir.leaves e.pieces e.states l (cut_below e.hub.dir.next w.shelf l.id (below e.hub.dir l st.dir there)) (st.leaves l there);
  unused = st.unused;
  frames = st.frames;
  count = st.count;
  doings = st.doings;
  doing = st.doing;
  sessions = st.sessions;
  noticed = st.noticed;
  systems = st.systems;
}

-- ---- a ground

pub follows_cut : (old : Option Stored) (hub : Hub) (g : Ground) (w : World) → IsDirectory hub.dir → Follows old hub g w → Follows old hub g (record w { shelf = cut hub.dir.next w.shelf })
follows_cut old hub g w is f = record {
  respects = f.respects;
  leaf = λ i t place tree l at stands has there its dead.
      let x = f.leaf i t place tree l at stands has there its dead in
      record { before = x.before; same = λ lies. x.same lies ∙ sym (cut_below hub.dir.next w.shelf l.id (below hub.dir l is there)) };
  since = λ l there live.
      let x = f.since l there live in
      let same : cut hub.dir.next w.shelf l.id ≡ w.shelf l.id = cut_below hub.dir.next w.shelf l.id (below hub.dir l is there) in
      subst (λ (rows : List Row). IsLeafBefore w.machine (cut hub.dir.next w.shelf) g.floor hub.dir.leaves (known_in g.parts) l.table l rows) (sym same) (record { before = x.before; same = λ lies. x.same lies ∙ sym same });
}

pub on_cut : (seen : List ℕ) (hub : Hub) (g : Ground) (w : World) → IsDirectory hub.dir → AreLivesOn seen hub g w → AreLivesOn seen hub g (record w { shelf = cut hub.dir.next w.shelf })
on_cut seen hub g w is f l there live =
    let x = f l there live in
    let same : cut hub.dir.next w.shelf l.id ≡ w.shelf l.id = cut_below hub.dir.next w.shelf l.id (below hub.dir l is there) in
    record {
      is = subst (λ (rows : List Row). IsPart hub.dir.leaves l.table l (l.entry ∷ []) (rows ∷ [])) (sym same) x.is;
      on = subst (λ (rows : List Row). HasLeaves seen (l.entry ∷ []) (rows ∷ [])) (sym same) x.on;
    }

-- ---- what is kept

module _ (e : Engine) (w : World) (lists : Lists) (stands : Stands e w) (keeps : KeepsThese w lists) (bare : (id : ℕ) → e.hub.dir.next ≤ id → w.shelf id ≡ []) where
  -- nothing is kept of a leaf that was never made
  pub none_listed : (id : ℕ) → e.hub.dir.next ≤ id → list_of lists id ≡ []
  none_listed id late = none_kept w lists id keeps (bare id late) (stands.unused id late)

  -- so it is still, where the leaves that were there have the rows that they had
  pub kept_cut : (shelf : ℕ → List Row) (n : ℕ) → e.hub.dir.next ≤ n → ((id : ℕ) → id < e.hub.dir.next → shelf id ≡ w.shelf id) → KeepsThese (record w { shelf = cut n shelf }) lists
  kept_cut shelf n le others = kept_shelved w (cut n shelf) lists (λ id. elim (cases_lt id e.hub.dir.next) [
    | inl less ↦ inr (cut_below n shelf id (omega (arith, less, le)) ∙ others id less)
    | inr late ↦ inl (none_listed id late)
  ]) keeps

  -- and where a leaf parted, of which this moved
  pub kept_parted : (e' : Engine) (table : ℕ) (moved : List Moved) (shelf : ℕ → List Row) (now : Lists) → KeepsMore lists now (lying_in e'.hub.dir.leaves table moved) → e.hub.dir.next ≤ e'.hub.dir.next → ((id : ℕ) → id < e.hub.dir.next → shelf id ≡ w.shelf id)
      → ((id : ℕ) → id < e.hub.dir.next → (key : List ℕ) → with_moved e'.hub.dir.leaves table moved w.records id key ≡ w.records id key)
      → Stands e' (record w { shelf = cut e'.hub.dir.next shelf; records = with_moved e'.hub.dir.leaves table moved w.records })
      → KeepsThese (record w { shelf = cut e'.hub.dir.next shelf; records = with_moved e'.hub.dir.leaves table moved w.records }) now
  kept_parted e' table moved shelf now more le others still stands_then =
      keeps_more w lists now leaves table moved (cut e'.hub.dir.next shelf) e.hub.dir.next keeps more (λ id less. cut_below e'.hub.dir.next shelf id (omega (arith, less, le)) ∙ others id less) still none_listed first
    where
      leaves : List Leaf
      leaves = e'.hub.dir.leaves

      v : World
      v = record w { shelf = cut e'.hub.dir.next shelf; records = with_moved leaves table moved w.records }

      alone : (o : Option (Version Change)) → Descends Older (option_to_list o ++ [])
      alone None = tt
      alone (Some x) = ((λ y among. absurd among), tt)

      of_leaf : (l : Leaf) → Contains leaves l → e.hub.dir.next ≤ l.id → AreNewestFirst (v.shelf l.id) (lying_in leaves table moved l.id)
      of_leaf l there late = newest_at e' v l (lying_in leaves table moved l.id) stands_then there (λ key. ap (λ (vs : List (Version Change)). vs ++ versions_in key (lying_in leaves table moved l.id)) (stands.unused l.id late key))

      first : (id : ℕ) → e.hub.dir.next ≤ id → AreNewestFirst (cut e'.hub.dir.next shelf id) (lying_in leaves table moved id)
      first id late = elim (lying_leaf leaves table moved id) [
        | inl none ↦ subst (λ (l : List Moved). AreNewestFirst (cut e'.hub.dir.next shelf id) l) (sym none) (λ key. alone (shown_at key (cut e'.hub.dir.next shelf id)))
        | inr (l, there, is) ↦ subst (λ (n : ℕ). AreNewestFirst (cut e'.hub.dir.next shelf n) (lying_in leaves table moved n)) is (of_leaf l there (subst (λ (n : ℕ). e.hub.dir.next ≤ n) (sym is) late))
      ]
