-- A frame more behind the others, and what is put at a place.
use Rattle.std.proofs.Common.{◌≡◌, ◌<◌, ◌+◌, ℕ, refl, ap, sym, ◌∙◌, Bool, true, false, List, [], ◌∷◌, ◌++◌, length, inl, inr, subst, arith}
use Rattle.std.specs.Prelude.{None, if◌then◌else◌, nat_lt, option_and_then, slice_set}
use Rattle.std.proofs.lemmas.Bool.{cases_Bool, le-ltb, lt-ltb, ltb-false, ltb-true}
use Rattle.std.proofs.lemmas.List.{length-append, length-set}
use Rattle.call_steps.specs.declared.frame.FramePiece.{FramePiece}
use Rattle.kv_model.specs.Machine.{of_some}
use Rattle.engine_world.specs.Leaves.{frame_in, generation_at}
use Rattle.engine_world.specs.Stands.{Engine, Stands}
use Rattle.engine_world.specs.Systems.{FramesGrow, with_frame}
use Rattle.engine_world.specs.Worlds.{World}
use Rattle.engine_world.proofs.Appended.{append-last}
use Rattle.engine_world.proofs.Growing.{generation-same}
use Rattle.engine.specs.Frames.{IsBare, put_at}
use Rattle.engine.specs.Sizes.{LeavesFit}
use Rattle.engine.proofs.LeafSizes.{PieceFits, leaves-more, leaves-set}

-- ---- lists

set-last : {A : Type 0} (xs : List A) (x y : A) → slice_set (xs ++ x ∷ []) (length xs) y ≡ xs ++ y ∷ []
set-last [] x y = refl
set-last {A} (z ∷ zs) x y = ap (λ (l : List A). z ∷ l) (set-last zs x y)

-- a place among the others
put-within : {A : Type 0} (xs : List A) (i : ℕ) (x : A) → i < length xs → slice_set xs i x ≡ put_at xs i x
put-within {A} xs i x less = ap (λ (b : Bool). if b then slice_set xs i x else xs ++ x ∷ []) (sym (lt-ltb i (length xs) less))

-- the one behind them
put-behind : {A : Type 0} (xs : List A) (y x : A) (i : ℕ) → i ≡ length xs → slice_set (xs ++ y ∷ []) i x ≡ put_at xs i x
put-behind {A} xs y x i last = subst (λ (n : ℕ). slice_set (xs ++ y ∷ []) n x ≡ put_at xs n x) (sym last)
    (set-last xs y x ∙ ap (λ (b : Bool). if b then slice_set xs (length xs) x else xs ++ x ∷ []) (sym (le-ltb (length xs) (length xs) (omega arith))))

put-long : {A : Type 0} (xs : List A) (i : ℕ) (x : A) → length (put_at xs i x) ≡ (if nat_lt i (length xs) then length xs else length xs + 1)
put-long {A} xs i x = by (nat_lt i (length xs)) where
  by : (b : Bool) → length (if b then slice_set xs i x else xs ++ x ∷ []) ≡ (if b then length xs else length xs + 1)
  by true = length-set xs i x
  by false = length-append xs (x ∷ [])

pub put-same : {A B : Type 0} (xs : List A) (ys : List B) (i : ℕ) (x : A) (y : B) → length xs ≡ length ys → length (put_at xs i x) ≡ length (put_at ys i y)
put-same xs ys i x y same = put-long xs i x ∙ (ap (λ (n : ℕ). if nat_lt i n then n else n + 1) same ∙ sym (put-long ys i y))

pub put-fits : (pieces : List FramePiece) (i : ℕ) (p : FramePiece) → LeavesFit pieces → PieceFits p → LeavesFit (put_at pieces i p)
put-fits pieces i p fit new = by (nat_lt i (length pieces)) where
  by : (b : Bool) → LeavesFit (if b then slice_set pieces i p else pieces ++ p ∷ [])
  by true = leaves-set pieces i p fit new
  by false = leaves-more pieces p fit new

-- ---- an empty frame behind the others

abbrev pub empty_piece : FramePiece
empty_piece = record { generation = 0; frame = None }

module _ (e : Engine) where
  pub frame-none : frame_in (with_frame e).pieces (length e.pieces) ≡ None
  frame-none = ap (option_and_then (λ (p : FramePiece). p.frame)) (append-last e.pieces empty_piece)

  pub generation-first : generation_at (with_frame e).pieces (length e.pieces) ≡ 0
  generation-first = ap (of_some 0 (λ (p : FramePiece). p.generation)) (append-last e.pieces empty_piece)

  pub piece-within : length e.pieces < length (with_frame e).pieces
  piece-within = let more = length-append e.pieces (empty_piece ∷ []) in omega (arith, more)

  pub word-within : length e.states ≡ length e.pieces → length e.pieces < length (with_frame e).states
  word-within same = let more = length-append e.states (0 ∷ []) in omega (arith, more, same)

  -- what is put into it
  pub pieces-last : (p : FramePiece) → slice_set (with_frame e).pieces (length e.pieces) p ≡ e.pieces ++ p ∷ []
  pieces-last p = set-last e.pieces empty_piece p

  pub states-last : length e.states ≡ length e.pieces → (word : ℕ) → slice_set (with_frame e).states (length e.pieces) word ≡ e.states ++ word ∷ []
  states-last same word = ap (λ (n : ℕ). slice_set (e.states ++ 0 ∷ []) n word) (sym same) ∙ set-last e.states 0 word

  pub one-more : length e.states ≡ length e.pieces → (p : FramePiece) (word : ℕ) → length (e.states ++ word ∷ []) ≡ length (e.pieces ++ p ∷ [])
  one-more same p word = length-append e.states (word ∷ []) ∙ (ap (λ (n : ℕ). n + 1) same ∙ sym (length-append e.pieces (p ∷ [])))

-- ---- a frame that has no leaf

-- Frames among which it is, with their words: those that are there, or one more. What is put into it is at its place, or behind the others.
pub record HasRoom (e : Engine) (frame : ℕ) : Type 0 where
  pub pieces : List FramePiece
  pub states : List ℕ
  pub stands : (w : World) → Stands e w → Stands (record e { pieces = pieces; states = states }) w
  pub bare : frame_in pieces frame ≡ None
  pub aged : generation_at pieces frame ≡ generation_at e.pieces frame
  pub piece : frame < length pieces
  pub word : frame < length states
  pub put_piece : (p : FramePiece) → slice_set pieces frame p ≡ put_at e.pieces frame p
  pub put_word : (word : ℕ) → slice_set states frame word ≡ put_at e.states frame word

module _ (e : Engine) (frame : ℕ) (same : length e.states ≡ length e.pieces) where
  room-there : frame_in e.pieces frame ≡ None → frame < length e.pieces → HasRoom e frame
  room-there bare less = record {
    pieces = e.pieces;
    states = e.states;
    stands = λ w st. st;
    bare = bare;
    aged = refl;
    piece = less;
    word = inside;
    put_piece = λ p. put-within e.pieces frame p less;
    put_word = λ word. put-within e.states frame word inside;
  } where
    inside : frame < length e.states
    inside = omega (arith, less, same)

  room-more : FramesGrow → frame ≡ length e.pieces → HasRoom e frame
  room-more grow last = record {
    pieces = (with_frame e).pieces;
    states = (with_frame e).states;
    stands = grow e;
    bare = subst (λ (n : ℕ). frame_in (with_frame e).pieces n ≡ None) (sym last) (frame-none e);
    aged = generation-same e.pieces frame;
    piece = subst (λ (n : ℕ). n < length (with_frame e).pieces) (sym last) (piece-within e);
    word = subst (λ (n : ℕ). n < length (with_frame e).states) (sym last) (word-within e same);
    put_piece = λ p. put-behind e.pieces empty_piece p frame last;
    put_word = λ word. put-behind e.states 0 word frame (last ∙ sym same);
  }

  pub has-room : FramesGrow → IsBare e.pieces frame → HasRoom e frame
  has-room grow bare = elim (cases_Bool (nat_lt frame (length e.pieces))) [
    | inl less ↦ room-there bare.1 (ltb-true frame (length e.pieces) less)
    | inr not ↦ room-more grow (let over = ltb-false frame (length e.pieces) not in let most = bare.0 in omega (arith, over, most))
  ]
