-- A leaf that was in no frame comes into one, with what the history kept of it.
use Rattle.std.proofs.Common.{◌≡◌, ◌≢◌, ◌<◌, ℕ, refl, ap, sym, ◌∙◌, Bool, true, false, List, [], ◌++◌, length, map, inl, inr, subst, arith}
use Rattle.std.specs.Prelude.{Option, Some, None, slice_set}
use Rattle.std.specs.List.{Contains}
use Rattle.std.specs.Option.{option_to_list}
use Rattle.std.proofs.lemmas.Bool.{cases_eq}
use Rattle.std.proofs.lemmas.List.{get_or-set_same}
use Rattle.kv_model.specs.Machine.{of_some}
use Rattle.reconcile.specs.Shows.{shown_at}
use Rattle.leaf_chains.specs.Slots.{chain_at}
use Rattle.leaf_frame.specs.Leaf.{HeldLeaf}
use Rattle.tree_dir.specs.declared.leaf.Framed.{Framed}
use Rattle.tree_dir.specs.declared.leaf.Leaf.{Leaf}
use Rattle.tree_dir.specs.Leaves.{IsDirectory, in_frame, leaf_under}
use Rattle.call_steps.specs.declared.frame.Frame.{Frame}
use Rattle.call_steps.specs.declared.frame.FramePiece.{FramePiece}
use Rattle.call_steps.specs.Tables.{filled}
use Rattle.engine_world.specs.Leaves.{LeafOnDevice, LeafStands, frame_in, frame_of, generation_at}
use Rattle.engine_world.specs.Stands.{Engine, Stands}
use Rattle.engine_world.specs.Coming.{ComesFrom, LeavesCome, with_leaf}
use Rattle.engine_world.specs.Worlds.{World, without_records}
use Rattle.engine_world.proofs.ComingBack.{comes-back, nothing-held}
use Rattle.engine_world.proofs.FrameWords.{filled-stand, frame-here, generation-here, generations-kept}
use Rattle.engine_world.proofs.Homes.{LeavesStand, home-at, same-id}
use Rattle.engine_world.proofs.LeavesChanged.{IsMild, changed-is, changed-stands, contains-source, frame-mild, moved, moved-it, moved-mild, moved-not, stands-beside, stays-in, under-from, under-to}
use Rattle.engine_world.proofs.Moves.{noticed-stays}
use Rattle.engine_world.proofs.RecordsKept.{records-here, records-there, still-unused}
use Rattle.update_chain.specs.EventLaws.{StandsFor}

-- it comes where it was in none
abbrev is_none : Option Framed → Bool
is_none o = of_some true (λ f. false) o

record IsComing (e : Engine) (w : World) (l : Leaf) (frame : ℕ) (leaf : HeldLeaf) : Type 0 where
  stands : Stands e w
  there : Contains e.hub.dir.leaves l
  none : l.frame ≡ None
  empty : frame_in e.pieces frame ≡ None
  piece : frame < length e.pieces
  word : frame < length e.states
  from : ComesFrom leaf (w.shelf l.id) (w.records l.id)
  dir : IsDirectory (with_leaf e l frame leaf).hub.dir

module _ (e : Engine) (w : World) (l : Leaf) (frame : ℕ) (leaf : HeldLeaf) (c : IsComing e w l frame leaf) where
  abbrev leaves : List Leaf
  leaves = e.hub.dir.leaves

  abbrev framed : Framed
  framed = record { frame = frame; generation = generation_at e.pieces frame }

  abbrev to : Leaf → Leaf
  to = moved l.id is_none (in_frame (Some framed))

  mild : IsMild to
  mild = moved-mild l.id is_none (in_frame (Some framed)) (frame-mild (Some framed))

  abbrev made : List Leaf
  made = map to leaves

  abbrev frame_now : Frame
  frame_now = record { table = l.table; id = l.id; leaf = leaf }

  abbrev piece_now : FramePiece
  piece_now = record { generation = generation_at e.pieces frame; frame = Some frame_now }

  abbrev pieces : List FramePiece
  pieces = slice_set e.pieces frame piece_now

  abbrev states : List ℕ
  states = slice_set e.states frame (filled (generation_at e.pieces frame))

  -- a leaf with the id is the leaf
  same-leaf : (x : Leaf) → Contains leaves x → x.id ≡ l.id → x ≡ l
  same-leaf x there same = same-id e.hub.dir x l c.stands.dir there c.there same

  new-frame : frame_in pieces frame ≡ Some frame_now
  new-frame = frame-here e.pieces frame piece_now c.piece

  same-generation : (other : ℕ) → generation_at pieces other ≡ generation_at e.pieces other
  same-generation = generations-kept e.pieces frame piece_now c.piece refl

  not-empty : (other : ℕ) (f : Frame) → frame_in e.pieces other ≡ Some f → other ≢ frame
  not-empty other f there same = let clash : None ≡ Some f = sym c.empty ∙ (ap (frame_in e.pieces) (sym same) ∙ there) in absurd cc

  made-is : made ≡ (with_leaf e l frame leaf).hub.dir.leaves
  made-is = changed-is l.id is_none (in_frame (Some framed)) leaves (λ x there same. ap is_none (ap (λ (y : Leaf). y.frame) (same-leaf x there same) ∙ c.none))

  -- ---- the leaves stand

  abbrev StandNow : Leaf → Type 0
  StandNow x = LeafStands w.machine w.shelf (without_records l.id w).records made pieces states x

  here : to l ≡ in_frame (Some framed) l
  here = moved-it l.id is_none (in_frame (Some framed)) l refl (ap is_none c.none)

  on-device : LeafOnDevice w.machine w.shelf w.records leaves l
  on-device = elim (c.stands.leaves l c.there) [
    | inl x ↦ let clash : None ≡ Some x.laid.framed = sym c.none ∙ x.laid.placed in absurd cc
    | inr x ↦ x
  ]

  under-now : (key : List ℕ) → leaf_under (to l).table key made ≡ Some (to l) → leaf_under l.table key leaves ≡ Some l
  under-now key under = under-from e.hub.dir c.stands.dir to mild l.table key l c.there (ap (λ n. leaf_under n key made) (sym (mild.table l)) ∙ under)

  under-then : (key : List ℕ) → leaf_under l.table key leaves ≡ Some l → leaf_under (to l).table key made ≡ Some (to l)
  under-then key under = ap (λ n. leaf_under n key made) (mild.table l) ∙ under-to e.hub.dir c.stands.dir to mild l.table key l under

  key-stands : (key : List ℕ) → leaf_under l.table key leaves ≡ Some l → StandsFor w.machine l.table key (chain_at key leaf.chains) (shown_at key leaf.page) []
  key-stands key under = comes-back w.machine l.table key (chain_at key leaf.chains) (shown_at key leaf.page) (shown_at key (w.shelf l.id)) (w.records l.id key) (c.from.held key) (c.from.unmarked key) (on-device.ordered key under) (on-device.keys key under)

  key-bare : (key : List ℕ) → leaf_under l.table key leaves ≢ Some l → (chain_at key leaf.chains ≡ []) × (shown_at key leaf.page ≡ None)
  key-bare key outside = let bare = on-device.bare key outside in nothing-held (chain_at key leaf.chains) (shown_at key leaf.page)
      (c.from.held key ∙ (λ i. option_to_list (bare.0 i) ++ bare.1 i))

  it-stands : StandNow (to l)
  it-stands = inl (record {
    laid = record {
      framed = framed;
      placed = ap (λ (x : Leaf). x.frame) here;
      frame = frame_now;
      there = new-frame;
      table = sym (mild.table l);
      id = sym (mild.id l);
      generation = generation-here e.pieces frame piece_now c.piece;
      below = (c.stands.frames frame).below;
      word = get_or-set_same e.states frame (filled (generation_at e.pieces frame)) 0 c.word;
    };
    keys = λ key under. subst (λ n. StandsFor w.machine n key (chain_at key leaf.chains) (shown_at key leaf.page) []) (sym (mild.table l)) (key-stands key (under-now key under));
    bare = λ key outside. key-bare key (λ under. outside (under-then key under));
    lies = λ some. c.from.lies some ∙ ap w.shelf (sym (mild.id l));
    none = λ key. ap (λ (id : ℕ). (without_records l.id w).records id key) (mild.id l) ∙ records-here l.id (λ k. []) w key;
  })

  other-stands : (x : Leaf) → Contains leaves x → x.id ≢ l.id → StandNow (to x)
  other-stands x there other = subst StandNow (sym (moved-not l.id is_none (in_frame (Some framed)) x other))
      (stands-beside w.machine w.shelf w.shelf w.records (without_records l.id w).records e.hub.dir to e.pieces e.states frame piece_now (filled (generation_at e.pieces frame)) x c.stands.dir mild there (moved-not l.id is_none (in_frame (Some framed)) x other) refl (records-there l.id (λ k. []) w x.id other) (λ laid. not-empty laid.framed.frame laid.frame laid.there) (c.stands.leaves x there))

  each-stands : LeavesStand w.machine w.shelf (without_records l.id w).records made pieces states
  each-stands y there = let s = contains-source to leaves y there in subst StandNow s.2 (elim (cases_eq s.0.id l.id) [
    | inl same ↦ subst (λ (x : Leaf). StandNow (to x)) (sym (same-leaf s.0 s.1 same)) it-stands
    | inr other ↦ other-stands s.0 s.1 other
  ])

  -- ---- the sessions

  -- a frame that has a leaf is as it was
  home-apart : (table : ℕ) (key : List ℕ) (f : ℕ) → frame_of leaves table key ≡ Some f → f ≢ frame
  home-apart table key f home = let h = home-at w.machine w.shelf w.records e.hub.dir e.pieces e.states table key f c.stands.dir c.stands.leaves home in
      not-empty f h.stands.laid.frame (ap (frame_in e.pieces) (sym h.at) ∙ h.stands.laid.there)

  comes-stands : Stands (record e { hub = record e.hub { dir = record e.hub.dir { leaves = made } }; pieces = pieces; states = states }) (without_records l.id w)
  comes-stands = changed-stands e w w.again w.shelf (without_records l.id w).records None to frame piece_now (filled (generation_at e.pieces frame)) (record {
    stands = c.stands;
    mild = mild;
    frames = λ x g placed other. stays-in l.id is_none (in_frame (Some framed)) x (ap is_none placed) ∙ placed;
    homes = λ table key other home stays. home-apart table key other home;
    aside = λ session a at other none. absurd cc;
    dir = subst (λ (ls : List Leaf). IsDirectory (record e.hub.dir { leaves = ls })) (sym made-is) c.dir;
    leaves = each-stands;
    unused = still-unused e w l (λ k. []) c.stands c.there;
    words = filled-stand e.pieces e.states frame piece_now c.piece c.word refl c.stands.frames;
    older = λ other. let same = same-generation other in omega (arith, same);
    past = λ x target there is none. absurd cc;
    noticed = λ session a at. noticed-stays a.stage e.pieces pieces (w.again session) same-generation (c.stands.noticed session a at);
  })

pub leaves-come : LeavesCome
leaves-come e w l frame leaf st there none empty piece word from is = subst (λ (ls : List Leaf). Stands (record e { hub = record e.hub { dir = record e.hub.dir { leaves = ls } }; pieces = pieces e w l frame leaf c; states = states e w l frame leaf c }) (without_records l.id w))
    (made-is e w l frame leaf c) (comes-stands e w l frame leaf c) where
      c : IsComing e w l frame leaf
      c = record { stands = st; there = there; none = none; empty = empty; piece = piece; word = word; from = from; dir = is }
