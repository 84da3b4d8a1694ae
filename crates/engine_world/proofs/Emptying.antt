-- A leaf goes out of its frame, in which nobody wrote that runs, while no session is at it: the rows of its block stand for its keys, with what the history keeps of it.
use Rattle.std.proofs.Common.{◌≡◌, ◌≢◌, ◌<◌, ◌≤◌, ◌+◌, ◌*◌, ◌^◌, ℕ, refl, ap, sym, ◌∙◌, Bool, true, false, List, [], ◌++◌, length, map, inl, inr, subst, arith}
use Rattle.std.specs.Prelude.{Option, Some, None, ◌==◌, ◌||◌, slice_get, slice_set}
use Rattle.std.specs.List.{Contains}
use Rattle.std.specs.Option.{option_to_list}
use Rattle.std.proofs.lemmas.Bool.{cases_eq, eq-eqb, ne_eqb, or_left, or_right}
use Rattle.std.proofs.lemmas.Option.{same_Some}
use Rattle.kv_model.specs.Holds.{Descends}
use Rattle.kv_model.specs.Machine.{of_some}
use Rattle.kv_model.specs.Ordered.{Older}
use Rattle.row_page.specs.Rows.{Row}
use Rattle.leaf_chains.specs.Slots.{chain_at}
use Rattle.reconcile.specs.Shows.{shown_at}
use Rattle.tree_dir.specs.declared.leaf.Framed.{Framed}
use Rattle.tree_dir.specs.declared.leaf.Leaf.{Leaf}
use Rattle.tree_dir.specs.Leaves.{IsDirectory, changed, leaf_under}
use Rattle.call_steps.specs.declared.frame.Frame.{Frame}
use Rattle.call_steps.specs.declared.frame.FramePiece.{FramePiece}
use Rattle.call_steps.specs.declared.stage.Stage.{Stage}
use Rattle.call_steps.specs.declared.stage.Stage.TheVariants as stage
use Rattle.call_steps.specs.declared.stage.Target.{Target}
use Rattle.call_steps.specs.State.{State}
use Rattle.call_steps.specs.Tables.{empty, target_in}
use Rattle.update_chain.specs.EventLaws.{StandsFor}
use Rattle.engine_world.specs.Evicting.{NoneWroteIn}
use Rattle.engine_world.specs.GoingOut.{IsAside, IsClearOf, frame_found, frame_in_hand, frame_named, has_found, with_again}
use Rattle.engine_world.specs.Leaves.{IsLaid, LeafInFrame, LeafStands, emptied, frame_in, generation_at}
use Rattle.engine_world.specs.Stages.{IsNoticed, IsPast}
use Rattle.engine_world.specs.Stands.{Engine, Stands}
use Rattle.engine_world.specs.Worlds.{Records, World}
use Rattle.engine_world.proofs.FrameWords.{emptied-older, emptied-stand, generation-beside, generation-here, laid-piece}
use Rattle.engine_world.proofs.Homes.{LeavesStand, in-its-frame, one-leaf, same-id}
use Rattle.engine_world.proofs.InPlace.{generation-there}
use Rattle.engine_world.proofs.LeavesChanged.{IsMild, changed-is, changed-stands, contains-source, moved, moved-it, moved-mild, moved-not, stands-beside, stays-in, under-from, under-to}

-- ---- the leaf in its frame

-- a frame stands for its leaf
pub record IsFrameOf (w : World) (leaves : List Leaf) (l : Leaf) (f : Frame) : Type 0 where
  pub keys : (key : List ℕ) → leaf_under l.table key leaves ≡ Some l → StandsFor w.machine l.table key (chain_at key f.leaf.chains) (shown_at key f.leaf.page) []
  pub bare : (key : List ℕ) → leaf_under l.table key leaves ≢ Some l → shown_at key f.leaf.page ≡ None
  pub lies : 1 ≤ length f.leaf.page → f.leaf.page ≡ w.shelf l.id
  pub none : (key : List ℕ) → w.records l.id key ≡ []

module _ (e : Engine) (w : World) (l : Leaf) (framed : Framed) (st : Stands e w) (there : Contains e.hub.dir.leaves l) (placed : l.frame ≡ Some framed) where
  abbrev pub mine : LeafInFrame w.machine w.shelf w.records e.hub.dir.leaves e.pieces e.states l
  mine = in-its-frame w.machine w.shelf w.records e.hub.dir.leaves e.pieces e.states l framed placed (st.leaves l there)

  pub mine-at : mine.laid.framed ≡ framed
  mine-at = same_Some mine.laid.framed framed (sym mine.laid.placed ∙ placed)

  mine-is : (f : Frame) → frame_in e.pieces framed.frame ≡ Some f → mine.laid.frame ≡ f
  mine-is f filled = same_Some mine.laid.frame f (sym mine.laid.there ∙ (ap (λ (g : Framed). frame_in e.pieces g.frame) mine-at ∙ filled))

  pub frame-of : (f : Frame) → frame_in e.pieces framed.frame ≡ Some f → IsFrameOf w e.hub.dir.leaves l f
  frame-of f filled = subst (λ (x : Frame). IsFrameOf w e.hub.dir.leaves l x) (mine-is f filled) (record {
    keys = mine.keys;
    bare = λ key outside. (mine.bare key outside).1;
    lies = mine.lies;
    none = mine.none;
  })

-- ---- it goes out

-- it goes where it is in this frame
abbrev is_in : ℕ → Option Framed → Bool
is_in frame o = of_some false (λ (f : Framed). f.frame == frame) o

-- change: what becomes of the leaf; shelf and records: the rows of blocks and what the history keeps, of which those of the others are as they were
pub record IsEmptied (e : Engine) (w : World) (l : Leaf) (framed : Framed) (f : Frame) (change : Leaf → Leaf) (shelf : ℕ → List Row) (records : Records) : Type 0 where
  pub stands : Stands e w
  pub there : Contains e.hub.dir.leaves l
  pub placed : l.frame ≡ Some framed
  pub filled : frame_in e.pieces framed.frame ≡ Some f
  pub mild : IsMild change
  pub out : (change l).frame ≡ None
  pub others : (id : ℕ) → id ≢ l.id → w.shelf id ≡ shelf id
  pub kept : (id : ℕ) → id ≢ l.id → (key : List ℕ) → w.records id key ≡ records id key
  pub unused : (id : ℕ) → e.hub.dir.next ≤ id → (key : List ℕ) → records id key ≡ []
  pub keys : (key : List ℕ) → leaf_under l.table key e.hub.dir.leaves ≡ Some l → StandsFor w.machine l.table key [] (shown_at key (shelf l.id)) (records l.id key)
  pub ordered : (key : List ℕ) → leaf_under l.table key e.hub.dir.leaves ≡ Some l → Descends Older (option_to_list (shown_at key (shelf l.id)) ++ records l.id key)
  pub bare : (key : List ℕ) → leaf_under l.table key e.hub.dir.leaves ≢ Some l → (shown_at key (shelf l.id) ≡ None) × (records l.id key ≡ [])
  pub aside : (session : ℕ) (a : State) → slice_get e.sessions session ≡ Some a → IsAside framed.frame a × NoneWroteIn framed.frame a
  pub last : generation_at e.pieces framed.frame + 1 < 2 ^ 62
  pub dir : IsDirectory (record e.hub.dir { leaves = changed l.id change e.hub.dir.leaves })

-- the engine with these leaves, and with this frame without one
abbrev pub with_emptied : Engine → List Leaf → ℕ → Engine
with_emptied e leaves frame = record e { hub = record e.hub { dir = record e.hub.dir { leaves = leaves } }; pieces = slice_set e.pieces frame (emptied e.pieces frame); states = slice_set e.states frame (empty (generation_at e.pieces frame + 1)) }

module _ (e : Engine) (w : World) (l : Leaf) (framed : Framed) (f : Frame) (change : Leaf → Leaf) (shelf : ℕ → List Row) (records : Records) (c : IsEmptied e w l framed f change shelf records) where
  abbrev leaves : List Leaf
  leaves = e.hub.dir.leaves

  abbrev from : Option Framed → Bool
  from = is_in framed.frame

  abbrev to : Leaf → Leaf
  to = moved l.id (is_in framed.frame) change

  mild : IsMild to
  mild = moved-mild l.id from change c.mild

  abbrev made : List Leaf
  made = map to leaves

  abbrev left : FramePiece
  left = emptied e.pieces framed.frame

  abbrev word : ℕ
  word = empty (generation_at e.pieces framed.frame + 1)

  abbrev pieces : List FramePiece
  pieces = slice_set e.pieces framed.frame left

  abbrev states : List ℕ
  states = slice_set e.states framed.frame word

  same-leaf : (x : Leaf) → Contains leaves x → x.id ≡ l.id → x ≡ l
  same-leaf x there same = same-id e.hub.dir x l c.stands.dir there c.there same

  is-there : from l.frame ≡ true
  is-there = ap from c.placed ∙ eq-eqb framed.frame framed.frame refl

  made-is : made ≡ changed l.id change leaves
  made-is = changed-is l.id from change leaves (λ x there same. ap (λ (y : Leaf). from y.frame) (same-leaf x there same) ∙ is-there)

  laid : IsLaid e.pieces e.states l
  laid = (mine e w l framed c.stands c.there c.placed).laid

  laid-at : laid.framed.frame ≡ framed.frame
  unfolding laid
  laid-at = ap (λ (g : Framed). g.frame) (mine-at e w l framed c.stands c.there c.placed)

  -- none of the others is in its frame
  frames-apart : (x : Leaf) → Contains leaves x → x.id ≢ l.id → (other : IsLaid e.pieces e.states x) → other.framed.frame ≢ framed.frame
  frames-apart x there apart other same = apart (ap (λ (y : Leaf). y.id) (one-leaf e.hub.dir e.pieces e.states x l c.stands.dir there c.there other laid (same ∙ sym laid-at)))

  -- ---- the leaves stand

  abbrev StandNow : Leaf → Type 0
  StandNow x = LeafStands w.machine shelf records made pieces states x

  under-now : (key : List ℕ) → leaf_under (to l).table key made ≡ Some (to l) → leaf_under l.table key leaves ≡ Some l
  under-now key under = under-from e.hub.dir c.stands.dir to mild l.table key l c.there (ap (λ n. leaf_under n key made) (sym (mild.table l)) ∙ under)

  under-then : (key : List ℕ) → leaf_under l.table key leaves ≡ Some l → leaf_under (to l).table key made ≡ Some (to l)
  under-then key under = ap (λ n. leaf_under n key made) (mild.table l) ∙ under-to e.hub.dir c.stands.dir to mild l.table key l under

  it-stands : StandNow (to l)
  it-stands = inr (record {
    none = ap (λ (x : Leaf). x.frame) (moved-it l.id from change l refl is-there) ∙ c.out;
    keys = λ key under. subst (λ (id : ℕ). StandsFor w.machine (to l).table key [] (shown_at key (shelf id)) (records id key)) (sym (mild.id l))
        (subst (λ n. StandsFor w.machine n key [] (shown_at key (shelf l.id)) (records l.id key)) (sym (mild.table l)) (c.keys key (under-now key under)));
    ordered = λ key under. subst (λ (id : ℕ). Descends Older (option_to_list (shown_at key (shelf id)) ++ records id key)) (sym (mild.id l)) (c.ordered key (under-now key under));
    bare = λ key outside. subst (λ (id : ℕ). (shown_at key (shelf id) ≡ None) × (records id key ≡ [])) (sym (mild.id l)) (c.bare key (λ under. outside (under-then key under)));
  })

  other-stands : (x : Leaf) → Contains leaves x → x.id ≢ l.id → StandNow (to x)
  other-stands x there other = subst StandNow (sym (moved-not l.id from change x other))
      (stands-beside w.machine w.shelf shelf w.records records e.hub.dir to e.pieces e.states framed.frame left word x c.stands.dir mild there (moved-not l.id from change x other) (c.others x.id other) (c.kept x.id other) (frames-apart x there other) (c.stands.leaves x there))

  each-stands : LeavesStand w.machine shelf records made pieces states
  each-stands y there = let s = contains-source to leaves y there in subst StandNow s.2 (elim (cases_eq s.0.id l.id) [
    | inl same ↦ subst (λ (x : Leaf). StandNow (to x)) (sym (same-leaf s.0 s.1 same)) it-stands
    | inr other ↦ other-stands s.0 s.1 other
  ])

  -- ---- the frames

  -- a leaf in another one stays in it
  elsewhere-stays : (x : Leaf) (g : Framed) → x.frame ≡ Some g → Some framed.frame ≢ Some g.frame → (to x).frame ≡ Some g
  elsewhere-stays x g placed other = stays-in l.id from change x (ap from placed ∙ ne_eqb g.frame framed.frame (λ same. other (ap (λ n. Some n) (sym same)))) ∙ placed

  -- ---- the generation

  next-generation : generation_at pieces framed.frame ≡ generation_at e.pieces framed.frame + 1
  next-generation = generation-here e.pieces framed.frame left (subst (λ n. n < length e.pieces) laid-at (laid-piece e.pieces e.states l laid))

  past-now : (x : Leaf) (target : Target) → Contains leaves x → target_in x ≡ Some target → Some framed.frame ≡ Some target.frame → IsPast pieces target
  past-now x target there is same =
      let frame = same_Some framed.frame target.frame same in
      let now : generation_at pieces target.frame ≡ generation_at e.pieces target.frame + 1 = subst (λ n. generation_at pieces n ≡ generation_at e.pieces n + 1) frame next-generation in
      let word = generation-there w.machine w.shelf w.records leaves e.pieces e.states c.stands.leaves target (x, there, is) in
      omega (arith, now, word)

  -- who has found the leaf may be told so
  noticed-now : (session : ℕ) (a : State) → slice_get e.sessions session ≡ Some a → (g : Stage) → a.stage ≡ g → IsNoticed g e.pieces (w.again session) → IsNoticed g pieces (has_found e framed.frame session || w.again session)
  noticed-now session a at g is noticed = by g is noticed where
    found : (target : Target) → frame_found a.stage ≡ Some target.frame → (IsPast e.pieces target → w.again session ≡ true) → IsPast pieces target → (has_found e framed.frame session || w.again session) ≡ true
    found target finds knows past = elim (cases_eq target.frame framed.frame) [
      | inl same ↦ or_left (has_found e framed.frame session) (w.again session)
          (ap (λ (o : Option State). of_some false (λ (s : State). of_some false (λ n. n == framed.frame) (frame_found s.stage)) o) at ∙ (ap (λ (o : Option ℕ). of_some false (λ n. n == framed.frame) o) finds ∙ eq-eqb target.frame framed.frame same))
      | inr other ↦ or_right (has_found e framed.frame session) (w.again session)
          (knows (subst (λ n. target.word + 2 < 4 * n) (generation-beside e.pieces framed.frame left target.frame other) past))
    ]

    by : (g : Stage) → a.stage ≡ g → IsNoticed g e.pieces (w.again session) → IsNoticed g pieces (has_found e framed.frame session || w.again session)
    by (stage.Publish call target) is knows = found target (ap frame_found is) knows
    by (stage.Validate call target) is knows = found target (ap frame_found is) knows
    by g is knows = tt

  goes-stands : Stands (with_emptied e made framed.frame) (record (with_again e framed.frame w) { shelf = shelf; records = records })
  goes-stands = changed-stands e w (with_again e framed.frame w).again shelf records (Some framed.frame) to framed.frame left word (record {
    stands = c.stands;
    mild = mild;
    frames = elsewhere-stays;
    homes = λ table key other home stays same. stays (ap (λ n. Some n) (sym same));
    aside = λ session a at other is. subst (λ n. IsAside n a × NoneWroteIn n a) (same_Some framed.frame other is) (c.aside session a at);
    dir = subst (λ (ls : List Leaf). IsDirectory (record e.hub.dir { leaves = ls })) (sym made-is) c.dir;
    leaves = each-stands;
    unused = c.unused;
    words = emptied-stand e.pieces e.states l laid framed.frame laid-at c.last c.stands.frames;
    older = emptied-older e.pieces e.states l laid framed.frame laid-at;
    past = past-now;
    noticed = λ session a at. noticed-now session a at a.stage refl (c.stands.noticed session a at);
  })

  pub emptied-stands : Stands (with_emptied e (changed l.id change e.hub.dir.leaves) framed.frame) (record (with_again e framed.frame w) { shelf = shelf; records = records })
  emptied-stands = subst (λ (ls : List Leaf). Stands (with_emptied e ls framed.frame) (record (with_again e framed.frame w) { shelf = shelf; records = records })) made-is goes-stands

-- ---- no call has found it

pub clear-aside : (frame : ℕ) (g : Stage) → frame_named g ≢ Some frame → frame_in_hand g ≢ Some frame
clear-aside frame (stage.Look call target) clear = clear
clear-aside frame (stage.Pass call target) clear = clear
clear-aside frame (stage.History call target) clear = clear
clear-aside frame (stage.ClearCursor call target) clear = clear
clear-aside frame g clear = λ is. absurd cc

not-found : (e : Engine) (frame session : ℕ) (a : State) → slice_get e.sessions session ≡ Some a → IsClearOf frame a → has_found e frame session ≡ false
not-found e frame session a at clear = ap (λ (o : Option State). of_some false (λ (s : State). of_some false (λ n. n == frame) (frame_found s.stage)) o) at ∙ by a.stage clear where
  by : (g : Stage) → frame_named g ≢ Some frame → of_some false (λ n. n == frame) (frame_found g) ≡ false
  by (stage.Publish call target) clear = ne_eqb target.frame frame (λ same. clear (ap (λ (n : ℕ). Some n) same))
  by (stage.Validate call target) clear = ne_eqb target.frame frame (λ same. clear (ap (λ (n : ℕ). Some n) same))
  by g clear = refl

-- so nobody is told
pub untold : (e : Engine) (frame : ℕ) (w : World) (pieces : List FramePiece) (session : ℕ) (a : State) → slice_get e.sessions session ≡ Some a → IsClearOf frame a → IsNoticed a.stage pieces ((with_again e frame w).again session) → IsNoticed a.stage pieces (w.again session)
untold e frame w pieces session a at clear noticed = subst (λ b. IsNoticed a.stage pieces (b || w.again session)) (not-found e frame session a at clear) noticed
