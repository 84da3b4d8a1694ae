-- A frame more, which has no leaf.
use Rattle.std.proofs.Common.{◌≡◌, ◌≤◌, ◌+◌, ◌*◌, ℕ, zero, suc, refl, ap, sym, ◌∙◌, List, [], ◌∷◌, ◌++◌, length, inl, inr, subst, arith}
use Rattle.std.specs.Prelude.{Option, None}
use Rattle.kv_model.specs.Holds.{Member}
use Rattle.kv_model.specs.Machine.{of_some}
use Rattle.leaf_chains.specs.Slots.{chain_at, slot_of}
use Rattle.tree_dir.specs.declared.leaf.Leaf.{Leaf}
use Rattle.call_steps.specs.declared.frame.Frame.{Frame}
use Rattle.call_steps.specs.declared.frame.FramePiece.{FramePiece}
use Rattle.engine_world.specs.Leaves.{LeafStands, frame_in, generation_at, word_at}
use Rattle.engine_world.specs.Stands.{Engine, Stands}
use Rattle.engine_world.specs.Systems.{FramesGrow, with_frame}
use Rattle.engine_world.specs.Worlds.{World}
use Rattle.engine_world.proofs.Beside.{Apart, LeavesStay, OthersAtHome}
use Rattle.engine_world.proofs.Moves.{frames-stay, noticed-stays}
use Rattle.engine_world.proofs.NotedSlots.{kept-same}
use Rattle.engine_world.proofs.Others.{others-stay}
use Rattle.engine_world.proofs.SystemEvents.{past-all, same-apart}

abbrev empty : FramePiece
empty = record { generation = 0; frame = None }

frame-same : (pieces : List FramePiece) (frame : ℕ) → frame_in (pieces ++ empty ∷ []) frame ≡ frame_in pieces frame
frame-same [] zero = refl
frame-same [] (suc frame) = refl
frame-same (p ∷ pieces) zero = refl
frame-same (p ∷ pieces) (suc frame) = frame-same pieces frame

pub generation-same : (pieces : List FramePiece) (frame : ℕ) → generation_at (pieces ++ empty ∷ []) frame ≡ generation_at pieces frame
generation-same [] zero = refl
generation-same [] (suc frame) = refl
generation-same (p ∷ pieces) zero = refl
generation-same (p ∷ pieces) (suc frame) = generation-same pieces frame

word-same : (states : List ℕ) (frame : ℕ) → word_at (states ++ 0 ∷ []) frame ≡ word_at states frame
word-same [] zero = refl
word-same [] (suc frame) = refl
word-same (s ∷ states) zero = refl
word-same (s ∷ states) (suc frame) = word-same states frame

module _ (e : Engine) (w : World) (st : Stands e w) where
  abbrev pieces : List FramePiece
  pieces = e.pieces ++ empty ∷ []

  abbrev states : List ℕ
  states = e.states ++ 0 ∷ []

  by : (l : Leaf) → LeafStands w.machine w.shelf w.records e.hub.dir.leaves e.pieces e.states l → LeafStands w.machine w.shelf w.records e.hub.dir.leaves pieces states l
  by l (inl x) = inl (record {
    laid = record {
      framed = x.laid.framed;
      placed = x.laid.placed;
      frame = x.laid.frame;
      there = frame-same e.pieces x.laid.framed.frame ∙ x.laid.there;
      table = x.laid.table;
      id = x.laid.id;
      generation = generation-same e.pieces x.laid.framed.frame ∙ x.laid.generation;
      below = x.laid.below;
      word = word-same e.states x.laid.framed.frame ∙ x.laid.word;
    };
    keys = x.keys;
    bare = x.bare;
    lies = x.lies;
    none = x.none;
  })
  by l (inr x) = inr x

  leaves-stay : LeavesStay None e.hub.dir.leaves e.hub.dir.leaves e.pieces pieces
  leaves-stay = record {
    kept = kept-same e.hub.dir.leaves;
    tables = λ table key f home other. ap (λ (o : Option Frame). of_some 0 (λ (x : Frame). x.table) o) (frame-same e.pieces f);
    slots = λ table key f other i home left slot. ap (λ (o : Option Frame). slot_of other (of_some [] (λ (x : Frame). x.leaf.chains) o)) (frame-same e.pieces f) ∙ slot;
    older = λ f. let same = generation-same e.pieces f in omega (arith, same);
    past = λ l target there is none. absurd cc;
  }

  updates-stay : OthersAtHome None w.machine (length e.sessions) e.hub.dir.leaves e.pieces pieces
  updates-stay r x other there drawn table key at home stays u member named = subst (λ (o : Option Frame). Member u (chain_at key (of_some [] (λ (x : Frame). x.leaf.chains) o))) (frame-same e.pieces at) member

  apart : Apart None (length e.sessions) w.machine w.machine e.hub e.hub e.pieces pieces
  apart = record {
    machine = same-apart (length e.sessions) w.machine;
    leaves = leaves-stay;
    seats = omega arith;
    phases = λ r other. refl;
    updates = updates-stay;
  }

  grown : Stands (with_frame e) w
  grown = record {
    valid = st.valid;
    fault = st.fault;
    stamps = st.stamps;
    txns = st.txns;
    catalog = st.catalog;
    made = st.made;
    dir = st.dir;
    begun = st.begun;
    owned = st.owned;
    leaves = λ l there. by l (st.leaves l there);
    unused = st.unused;
    frames = λ f. let as_it_was = frames-stay e.pieces pieces e.states (generation-same e.pieces) st.frames f in
        record { below = as_it_was.below; word = subst (λ n. 4 * generation_at pieces f ≤ n + 2) (sym (word-same e.states f)) as_it_was.word };
    count = st.count;
    doings = st.doings;
    doing = st.doing;
    sessions = λ r b at. others-stay (length e.sessions) w.machine w.machine e.hub e.hub e.pieces pieces r b apart (past-all e.sessions r b at) st.valid (st.sessions r b at);
    systems = st.systems;
    noticed = λ r b at. noticed-stays b.stage e.pieces pieces (w.again r) (generation-same e.pieces) (st.noticed r b at);
  }

pub frames-grow : FramesGrow
frames-grow e w st = grown e w st
