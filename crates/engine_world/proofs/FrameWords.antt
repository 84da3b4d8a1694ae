-- Frames with their generations and state words, where one of them changes.
use Rattle.std.proofs.Common.{◌≡◌, ◌≢◌, ◌<◌, ◌≤◌, ◌+◌, ◌*◌, ◌^◌, ℕ, refl, ap, sym, ◌∙◌, List, length, inl, inr, subst, arith}
use Rattle.std.specs.Prelude.{Option, Some, None, option_and_then, slice_get, slice_set}
use Rattle.std.proofs.lemmas.Bool.{cases_eq, cases_lt}
use Rattle.std.proofs.lemmas.List.{get_or-set_other, get_or-set_same, get_or_past, length-set}
use Rattle.std.proofs.lemmas.Option.{slice_get-get_or, slice_get_within}
use Rattle.kv_model.specs.Machine.{of_some}
use Rattle.tree_dir.specs.declared.leaf.Leaf.{Leaf}
use Rattle.call_steps.specs.declared.frame.FramePiece.{FramePiece}
use Rattle.call_steps.specs.Tables.{empty, filled}
use Rattle.call_steps.proofs.StateWords.{empty-is, filled-is}
use Rattle.engine_world.specs.Leaves.{FramesStand, IsLaid, emptied, frame_in, generation_at, word_at}
use Rattle.engine_world.proofs.Moves.{get-set-other}

-- ---- one frame changes

set-here : {A : Type 0} (xs : List A) (i : ℕ) (x : A) → i < length xs → slice_get (slice_set xs i x) i ≡ Some x
set-here xs i x inside = let long = length-set xs i x in slice_get-get_or (slice_set xs i x) i x (omega arith) ∙ ap Some (get_or-set_same xs i x x inside)

pub frame-here : (pieces : List FramePiece) (frame : ℕ) (p : FramePiece) → frame < length pieces → frame_in (slice_set pieces frame p) frame ≡ p.frame
frame-here pieces frame p inside = ap (option_and_then (λ (q : FramePiece). q.frame)) (set-here pieces frame p inside)

pub generation-here : (pieces : List FramePiece) (frame : ℕ) (p : FramePiece) → frame < length pieces → generation_at (slice_set pieces frame p) frame ≡ p.generation
generation-here pieces frame p inside = ap (of_some 0 (λ (q : FramePiece). q.generation)) (set-here pieces frame p inside)

pub generation-beside : (pieces : List FramePiece) (frame : ℕ) (p : FramePiece) (other : ℕ) → other ≢ frame → generation_at (slice_set pieces frame p) other ≡ generation_at pieces other
generation-beside pieces frame p other elsewhere = ap (of_some 0 (λ (q : FramePiece). q.generation)) (get-set-other pieces frame other p elsewhere)

-- it keeps its generation, so each does
pub generations-kept : (pieces : List FramePiece) (frame : ℕ) (p : FramePiece) → frame < length pieces → p.generation ≡ generation_at pieces frame → (other : ℕ) → generation_at (slice_set pieces frame p) other ≡ generation_at pieces other
generations-kept pieces frame p inside same other = elim (cases_eq other frame) [
  | inl here ↦ ap (generation_at (slice_set pieces frame p)) here ∙ (generation-here pieces frame p inside ∙ (same ∙ ap (generation_at pieces) (sym here)))
  | inr elsewhere ↦ generation-beside pieces frame p other elsewhere
]

-- it stands, so each does
pub frames-set : (pieces : List FramePiece) (states : List ℕ) (frame : ℕ) (p : FramePiece) (word : ℕ) → frame < length pieces → frame < length states → p.generation < 2 ^ 62 → 4 * p.generation ≤ word + 2 → FramesStand pieces states
    → FramesStand (slice_set pieces frame p) (slice_set states frame word)
frames-set pieces states frame p word inside within below reaches stand other = elim (cases_eq other frame) [
  | inl here ↦
      let now = ap (generation_at (slice_set pieces frame p)) here ∙ generation-here pieces frame p inside in
      let said = ap (word_at (slice_set states frame word)) here ∙ get_or-set_same states frame word 0 within in
      record {
        below = subst (λ n. n < 2 ^ 62) (sym now) below;
        word = subst (λ n. 4 * n ≤ word_at (slice_set states frame word) other + 2) (sym now) (subst (λ n. 4 * p.generation ≤ n + 2) (sym said) reaches);
      }
  | inr elsewhere ↦
      let now = generation-beside pieces frame p other elsewhere in
      let said : word_at (slice_set states frame word) other ≡ word_at states other = get_or-set_other states frame other word 0 elsewhere in
      record {
        below = subst (λ n. n < 2 ^ 62) (sym now) (stand other).below;
        word = subst (λ n. 4 * n ≤ word_at (slice_set states frame word) other + 2) (sym now) (subst (λ n. 4 * generation_at pieces other ≤ n + 2) (sym said) (stand other).word);
      }
]

-- ---- a leaf comes to the frame

pub filled-stand : (pieces : List FramePiece) (states : List ℕ) (frame : ℕ) (p : FramePiece) → frame < length pieces → frame < length states → p.generation ≡ generation_at pieces frame → FramesStand pieces states
    → FramesStand (slice_set pieces frame p) (slice_set states frame (filled (generation_at pieces frame)))
filled-stand pieces states frame p inside within same stand =
    let below = (stand frame).below in
    let word = filled-is (generation_at pieces frame) below in
    frames-set pieces states frame p (filled (generation_at pieces frame)) inside within (omega (arith, same, below)) (omega (arith, same, word)) stand

-- ---- a leaf leaves it

module _ (pieces : List FramePiece) (states : List ℕ) (l : Leaf) (x : IsLaid pieces states l) where
  pub laid-piece : x.framed.frame < length pieces
  laid-piece = by (slice_get pieces x.framed.frame) refl where
    by : (o : Option FramePiece) → slice_get pieces x.framed.frame ≡ o → x.framed.frame < length pieces
    by None none = let clash : None ≡ Some x.frame = sym (ap (option_and_then (λ (q : FramePiece). q.frame)) none) ∙ x.there in absurd cc
    by (Some p) at = slice_get_within pieces x.framed.frame p at

  pub laid-state : x.framed.frame < length states
  laid-state = elim (cases_lt x.framed.frame (length states)) [
    | inl within ↦ within
    | inr past ↦
        let none : word_at states x.framed.frame ≡ 0 = get_or_past states x.framed.frame 0 past in
        let word : word_at states x.framed.frame ≡ 4 * x.framed.generation + 1 = x.word ∙ filled-is x.framed.generation x.below in
        absurd (omega (arith, none, word))
  ]

  pub emptied-stand : (frame : ℕ) → x.framed.frame ≡ frame → generation_at pieces frame + 1 < 2 ^ 62 → FramesStand pieces states
      → FramesStand (slice_set pieces frame (emptied pieces frame)) (slice_set states frame (empty (generation_at pieces frame + 1)))
  emptied-stand frame at last stand =
      let inside = subst (λ n. n < length pieces) at laid-piece in
      let within = subst (λ n. n < length states) at laid-state in
      let word = empty-is (generation_at pieces frame + 1) last in
      frames-set pieces states frame (emptied pieces frame) (empty (generation_at pieces frame + 1)) inside within last (omega (arith, word)) stand

  -- no frame goes back to an older generation
  pub emptied-older : (frame : ℕ) → x.framed.frame ≡ frame → (other : ℕ) → generation_at pieces other ≤ generation_at (slice_set pieces frame (emptied pieces frame)) other
  emptied-older frame at other = elim (cases_eq other frame) [
    | inl here ↦ let now = ap (generation_at (slice_set pieces frame (emptied pieces frame))) here ∙ generation-here pieces frame (emptied pieces frame) (subst (λ n. n < length pieces) at laid-piece) in
        let same = ap (generation_at pieces) here in omega (arith, now, same)
    | inr elsewhere ↦ let now = generation-beside pieces frame (emptied pieces frame) other elsewhere in omega (arith, now)
  ]
