-- A leaf that goes out of its frame, as it was read.
use Rattle.std.proofs.Common.{◌≡◌, ◌≢◌, ◌<◌, ◌≤◌, ◌+◌, ◌^◌, ℕ, refl, ap, sym, ◌∙◌, Bool, true, false, List, [], ◌∷◌, length, subst, arith}
use Rattle.std.specs.Prelude.{Option, Some, None, not, option_and_then, option_map, slice_set}
use Rattle.std.proofs.lemmas.Bool.{both_ways, not-true}
use Rattle.std.proofs.lemmas.List.{length-set}
use Rattle.std.proofs.lemmas.Option.{same_Some}
use Rattle.row_page.specs.Rows.{Row}
use Rattle.leaf_frame.specs.Leaf.{HeldLeaf}
use Rattle.tree_dir.specs.declared.leaf.Framed.{Framed}
use Rattle.tree_dir.specs.declared.leaf.Leaf.{Leaf}
use Rattle.tree_dir.specs.Leaves.{Directory, IsDirectory, changed, in_frame, leaf_named}
use Rattle.call_steps.specs.declared.frame.Frame.{Frame}
use Rattle.call_steps.specs.declared.frame.FramePiece.{FramePiece}
use Rattle.call_turns.proofs.Walks.{named-is}
use Rattle.engine_world.specs.GoingOut.{IsClearOf, LeavesGoOutUnseen, gone_out}
use Rattle.call_steps.specs.Tables.{empty}
use Rattle.engine_world.specs.Leaves.{emptied, frame_in, generation_at}
use Rattle.engine_world.specs.Stands.{Engine, Stands}
use Rattle.engine_world.specs.Worlds.{World}
use Rattle.engine.specs.Frames.{AllClearOf, IsUnpinned, IsUnwritten, MayGoOut}
use Rattle.engine.specs.Sound.{IsSound}
use Rattle.engine.proofs.GivingWay.{empty-fits}
use Rattle.engine.proofs.LeafSizes.{leaves-set}
use Rattle.engine.proofs.LeavesCome.{framed-owned, named-there}
use Rattle.engine.proofs.Soundness.{seated-with}

-- ---- whether it may

pub unwritten : (leaf : HeldLeaf) (page : List Row) (empty : Bool) → length leaf.chains ≡ 0 → page ≡ leaf.page → (length page ≡ 0 → empty ≡ true) → not empty ≡ true → IsUnwritten leaf
unwritten leaf page empty none is tells some = (no-items leaf.chains none, subst (λ (rows : List Row). 1 ≤ length rows) is (let more : length page ≢ 0 = λ zero. both_ways empty (not-true empty some) (tells zero) in omega (arith, more))) where
  no-items : {A : Type 0} (xs : List A) → length xs ≡ 0 → xs ≡ []
  no-items [] zero = refl
  no-items (x ∷ xs) zero = absurd (omega (arith, zero))

pub unwritten-not : (leaf : HeldLeaf) (page : List Row) (empty : Bool) → page ≡ leaf.page → (empty ≡ true → length page ≡ 0) → not empty ≡ false → IsUnwritten leaf → ⊥
unwritten-not leaf page true is tells not_some it = let zero = tells refl in let long = ap length is in let rows = it.1 in omega (arith, zero, long, rows)
unwritten-not leaf page false is tells not_some it = absurd cc

pub written-not : (leaf : HeldLeaf) (bare : Bool) → bare ≡ false → (length leaf.chains ≡ 0 → bare ≡ true) → IsUnwritten leaf → ⊥
written-not leaf bare not_bare tells it = both_ways bare not_bare (tells (ap length it.0))

-- the leaf in a frame, by what is told of it
pub frame-told : (o : Option Frame) (leaf : HeldLeaf) → Some leaf ≡ option_map (λ (f : Frame). f.leaf) o → (f : Frame) × (o ≡ Some f) × (f.leaf ≡ leaf)
frame-told None leaf told = absurd cc
frame-told (Some f) leaf told = (f, refl, sym (same_Some leaf f.leaf told))

pub may-go : (e : Engine) (id frame : ℕ) (leaf : HeldLeaf) → (framed : Framed) → option_and_then (λ (l : Leaf). l.frame) (leaf_named id e.hub.dir.leaves) ≡ Some framed → framed.frame ≡ frame
    → Some leaf ≡ option_map (λ (f : Frame). f.leaf) (frame_in e.pieces frame) → IsUnwritten leaf → AllClearOf frame e.sessions → IsUnpinned frame e.hazards → generation_at e.pieces frame + 1 < 2 ^ 62 → (may : MayGoOut e id) × (may.framed.frame ≡ frame)
may-go e id frame leaf framed placed at told unwritten clear unpinned next = by (leaf_named id e.hub.dir.leaves) refl where
  there : (f : Frame) × (frame_in e.pieces frame ≡ Some f) × (f.leaf ≡ leaf)
  there = frame-told (frame_in e.pieces frame) leaf told

  by : (o : Option Leaf) → leaf_named id e.hub.dir.leaves ≡ o → (may : MayGoOut e id) × (may.framed.frame ≡ frame)
  by None none = let clash : None ≡ Some framed = ap (option_and_then (λ (l : Leaf). l.frame)) (sym none) ∙ placed in absurd cc
  by (Some l) named = (
    record {
      leaf = l;
      there = named;
      framed = framed;
      placed = ap (option_and_then (λ (x : Leaf). x.frame)) (sym named) ∙ placed;
      frame = there.0;
      filled = ap (frame_in e.pieces) at ∙ there.1;
      unwritten = ap (λ (h : HeldLeaf). h.chains) there.2 ∙ unwritten.0;
      rows = subst (λ (h : HeldLeaf). 1 ≤ length h.page) (sym there.2) unwritten.1;
      clear = λ session a there_is. subst (λ n. IsClearOf n a) (sym at) (clear session a there_is);
      unpinned = λ word is. unpinned word (is ∙ ap (λ n. Some (n + 1)) at);
      next = subst (λ n. generation_at e.pieces n + 1 < 2 ^ 62) (sym at) next;
    },
    at,
  )

-- only so it may
pub may-is : (e : Engine) (id : ℕ) (framed : Framed) (leaf : HeldLeaf) → option_and_then (λ (l : Leaf). l.frame) (leaf_named id e.hub.dir.leaves) ≡ Some framed → Some leaf ≡ option_map (λ (f : Frame). f.leaf) (frame_in e.pieces framed.frame)
    → MayGoOut e id → IsUnwritten leaf × AllClearOf framed.frame e.sessions × IsUnpinned framed.frame e.hazards × (generation_at e.pieces framed.frame + 1 < 2 ^ 62)
may-is e id framed leaf placed told may = (
  subst IsUnwritten (sym leaf-is) (may.unwritten, may.rows),
  subst (λ (g : Framed). AllClearOf g.frame e.sessions) framed-is may.clear,
  subst (λ (g : Framed). IsUnpinned g.frame e.hazards) framed-is may.unpinned,
  subst (λ (g : Framed). generation_at e.pieces g.frame + 1 < 2 ^ 62) framed-is may.next,
) where
  framed-is : may.framed ≡ framed
  framed-is = same_Some may.framed framed (sym (ap (option_and_then (λ (l : Leaf). l.frame)) may.there ∙ may.placed) ∙ placed)

  leaf-is : leaf ≡ may.frame.leaf
  leaf-is = same_Some leaf may.frame.leaf (told ∙ ap (option_map (λ (f : Frame). f.leaf)) (ap (λ (g : Framed). frame_in e.pieces g.frame) (sym framed-is) ∙ may.filled))

-- ---- the engine that is left

-- by what it is made of
pub gone-is : (e : Engine) (id frame : ℕ) (dir : Directory) (pieces : List FramePiece) (states : List ℕ) → dir ≡ record e.hub.dir { leaves = changed id (in_frame None) e.hub.dir.leaves } → pieces ≡ slice_set e.pieces frame (emptied e.pieces frame) → states ≡ slice_set e.states frame (empty (generation_at e.pieces frame + 1))
    → gone_out e id frame ≡ record e { hub = record e.hub { dir = dir }; pieces = pieces; states = states }
gone-is e id frame dir pieces states d p s = λ i. record e { hub = record e.hub { dir = sym d i }; pieces = sym p i; states = sym s i }

pub gone-sound : (e : Engine) (id frame : ℕ) → IsSound e → IsSound (gone_out e id frame)
gone-sound e id frame sound = record {
  count = sound.count;
  seated = seated-with e.hub (gone_out e id frame).hub e.sessions refl sound.seated;
  run = sound.run;
  built = sound.built;
  actors = sound.actors;
  states = length-set e.states frame (empty (generation_at e.pieces frame + 1)) ∙ (sound.states ∙ sym (length-set e.pieces frame (emptied e.pieces frame)));
  numbers = sound.numbers;
  owned = framed-owned e.hub.tables.tables e.hub.dir.leaves id None sound.owned;
  stamps = sound.stamps;
  sizes = record { leaves = leaves-set e.pieces frame (emptied e.pieces frame) sound.sizes.leaves (empty-fits e.pieces frame); sessions = sound.sizes.sessions; names = sound.sizes.names };
}

-- nobody sees it
pub gone-stands : LeavesGoOutUnseen → (e : Engine) (id : ℕ) (may : MayGoOut e id) → IsDirectory (gone_out e id may.framed.frame).hub.dir → (w : World) → Stands e w → Stands (gone_out e id may.framed.frame) w
gone-stands law e id may is w st = subst (λ (n : ℕ). Stands (gone_out e n may.framed.frame) w) id-is
    (law e w may.leaf may.framed may.frame st (named-there id e.hub.dir.leaves may.leaf may.there) may.placed may.filled may.unwritten may.rows may.clear may.next (subst (λ (n : ℕ). IsDirectory (gone_out e n may.framed.frame).hub.dir) (sym id-is) is)) where
      id-is : may.leaf.id ≡ id
      id-is = named-is id e.hub.dir.leaves may.leaf may.there
