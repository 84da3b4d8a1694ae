-- A leaf that comes into a frame that has none.
use Rattle.std.proofs.Common.{◌≡◌, ℕ, refl, ap, sym, ◌∙◌, Bool, false, List, [], ◌∷◌, inl, inr, subst, arith}
use Rattle.std.specs.Prelude.{Option, Some, None, Result, Ok, Err, OnOk, if◌then◌else◌, ◌==◌, map, slice_get, slice_set}
use Rattle.std.specs.List.{Contains}
use Rattle.std.proofs.lemmas.Bool.{cases_Bool}
use Rattle.std.proofs.lemmas.Option.{same_Some}
use Rattle.kv_model.specs.History.{Table}
use Rattle.kv_model.specs.Machine.{of_some}
use Rattle.reconcile.specs.Capture.{ChainsFit}
use Rattle.leaf_frame.specs.Leaf.{HeldLeaf}
use Rattle.tree_dir.specs.declared.leaf.Framed.{Framed}
use Rattle.tree_dir.specs.declared.leaf.Leaf.{Leaf}
use Rattle.tree_dir.specs.Leaves.{Directory, IsDirectory, changed, in_frame, leaf_named}
use Rattle.tree_dir.proofs.Members.{head-in, later, split}
use Rattle.call_steps.specs.declared.frame.FramePiece.{FramePiece}
use Rattle.call_steps.specs.State.{State}
use Rattle.call_steps.specs.Tables.{filled as word_filled}
use Rattle.call_turns.specs.Turns.{FramesKeep, turns}
use Rattle.call_turns.proofs.Walks.{named-is}
use Rattle.engine_world.specs.Leaves.{LeavesOwned, generation_at}
use Rattle.engine_world.specs.Stands.{Engine, Stands}
use Rattle.engine_world.specs.Coming.{ComesFrom, LeavesCome}
use Rattle.engine_world.specs.Systems.{FramesGrow}
use Rattle.engine_world.specs.Worlds.{World, without_records}
use Rattle.engine.specs.Frames.{IsBare, IsFilled, framed_at, piece_of, put_at}
use Rattle.engine.specs.Sound.{IsSound}
use Rattle.engine.specs.Waits.{is_away, turns_in, waits_at, waits_in}
use Rattle.engine.proofs.FramesMore.{HasRoom, has-room, put-fits, put-same}
use Rattle.engine.proofs.LeafSizes.{filled-fits}
use Rattle.engine.proofs.Soundness.{seated-with}
use Rattle.engine.proofs.Waited.{IsHeld, held, waits-now}

-- the leaf of an id is one of those there
pub named-there : (id : ℕ) (leaves : List Leaf) (l : Leaf) → leaf_named id leaves ≡ Some l → Contains leaves l
named-there id [] l e = absurd cc
named-there id (a ∷ leaves) l e = elim (cases_Bool (a.id == id)) [
  | inl is ↦ let same : a ≡ l = same_Some a l (rw is at e) in subst (Contains (a ∷ leaves)) same (head-in a leaves)
  | inr isnt ↦ later a l leaves (named-there id leaves l (rw isnt at e))
]

-- what a leaf was before it changed
contains-source : (f : Leaf → Leaf) (xs : List Leaf) (y : Leaf) → Contains (map f xs) y → (x : Leaf) × Contains xs x × (f x ≡ y)
contains-source f [] y c = absurd (omega (arith, c.1))
contains-source f (x ∷ xs) y c = elim (split (f x) y (map f xs) c) [
  | inl here ↦ (x, head-in x xs, here)
  | inr there ↦ let s = contains-source f xs y there in (s.0, later x s.0 xs s.1, s.2)
]

-- each leaf is of the table that it was of
table-same : (id : ℕ) (f : Option Framed) (l : Leaf) → (if l.id == id then in_frame f l else l).table ≡ l.table
table-same id f l = elim (cases_Bool (l.id == id)) [
  | inl is ↦ rw is refl
  | inr isnt ↦ rw isnt refl
]

pub framed-owned : (known : List Table) (leaves : List Leaf) (id : ℕ) (f : Option Framed) → LeavesOwned known leaves → LeavesOwned known (changed id (in_frame f) leaves)
framed-owned known leaves id f owned l there = let s = contains-source (λ (x : Leaf). if x.id == id then in_frame f x else x) leaves l there in let o = owned s.0 s.1 in
    (o.0, o.1, o.2, ap (λ (x : Leaf). x.table) (sym s.2) ∙ (table-same id f s.0 ∙ o.3))

-- ---- the engine with the leaf

abbrev pub filled : Engine → Leaf → ℕ → ℕ → HeldLeaf → Engine
filled e l id frame leaf = record e { hub = record e.hub { dir = framed_at e.hub.dir id frame (generation_at e.pieces frame) }; pieces = put_at e.pieces frame (piece_of (generation_at e.pieces frame) l.table id leaf); states = put_at e.states frame (word_filled (generation_at e.pieces frame)) }

-- by what it is made of
pub filled-is : (e : Engine) (l : Leaf) (id frame : ℕ) (leaf : HeldLeaf) (dir : Directory) (pieces : List FramePiece) (states : List ℕ)
    → dir ≡ framed_at e.hub.dir id frame (generation_at e.pieces frame) → pieces ≡ put_at e.pieces frame (piece_of (generation_at e.pieces frame) l.table id leaf) → states ≡ put_at e.states frame (word_filled (generation_at e.pieces frame))
    → filled e l id frame leaf ≡ record e { hub = record e.hub { dir = dir }; pieces = pieces; states = states }
filled-is e l id frame leaf dir pieces states d p s = λ i. record e { hub = record e.hub { dir = sym d i }; pieces = sym p i; states = sym s i }

module _ (e : Engine) (l : Leaf) (id frame : ℕ) (leaf : HeldLeaf) (named : leaf_named id e.hub.dir.leaves ≡ Some l) (none : l.frame ≡ None) (bare : IsBare e.pieces frame) (fit : ChainsFit leaf.chains) (sound : IsSound e) where
  id-is : l.id ≡ id
  id-is = named-is id e.hub.dir.leaves l named

  -- nobody sees it
  pub fill-stands : FramesGrow → LeavesCome → IsDirectory (framed_at e.hub.dir id frame (generation_at e.pieces frame)) → (w : World) → Stands e w → ComesFrom leaf (w.shelf id) (w.records id) → Stands (filled e l id frame leaf) (without_records id w)
  fill-stands grow come is w st from = subst (λ (n : ℕ). Stands (filled e l n frame leaf) (without_records n w)) id-is
      (subst (λ (ps : List FramePiece). Stands (record (filled e l l.id frame leaf) { pieces = ps }) (without_records l.id w)) (room.put_piece (piece_of (generation_at e.pieces frame) l.table l.id leaf))
      (subst (λ (ws : List ℕ). Stands (record (filled e l l.id frame leaf) { pieces = slice_set room.pieces frame (piece_of (generation_at e.pieces frame) l.table l.id leaf); states = ws }) (without_records l.id w)) (room.put_word (word_filled (generation_at e.pieces frame)))
      (subst (λ g. Stands (comes-at g) (without_records l.id w)) room.aged
      (come (record e { pieces = room.pieces; states = room.states }) w l frame leaf (room.stands w st) (named-there id e.hub.dir.leaves l named) none room.bare room.piece room.word
      (subst (λ (n : ℕ). ComesFrom leaf (w.shelf n) (w.records n)) (sym id-is) from)
      (subst (λ g. IsDirectory (framed_at e.hub.dir l.id frame g)) (sym room.aged) (subst (λ (n : ℕ). IsDirectory (framed_at e.hub.dir n frame (generation_at e.pieces frame))) (sym id-is) is)))))) where
        room : HasRoom e frame
        room = has-room e frame sound.states grow bare

        comes-at : ℕ → Engine
        comes-at g = record e { hub = record e.hub { dir = framed_at e.hub.dir l.id frame g }; pieces = slice_set room.pieces frame (piece_of g l.table l.id leaf); states = slice_set room.states frame (word_filled g) }

  pub fill-sound : IsSound (filled e l id frame leaf)
  fill-sound = record {
    count = sound.count;
    seated = seated-with e.hub (record e.hub { dir = framed_at e.hub.dir id frame (generation_at e.pieces frame) }) e.sessions refl sound.seated;
    run = sound.run;
    built = sound.built;
    actors = sound.actors;
    states = put-same e.states e.pieces frame (word_filled (generation_at e.pieces frame)) (piece_of (generation_at e.pieces frame) l.table id leaf) sound.states;
    numbers = sound.numbers;
    owned = framed-owned e.hub.tables.tables e.hub.dir.leaves id (Some (record { frame = frame; generation = generation_at e.pieces frame })) sound.owned;
    stamps = sound.stamps;
    sizes = record {
      leaves = put-fits e.pieces frame (piece_of (generation_at e.pieces frame) l.table id leaf) sound.sizes.leaves (filled-fits (generation_at e.pieces frame) l.table id leaf fit);
      sessions = sound.sizes.sessions;
      names = sound.sizes.names;
    };
  }

-- ---- a call that waited for it

framed-there : (id : ℕ) (f : Framed) (leaves : List Leaf) → is_away (changed id (in_frame (Some f)) leaves) id ≡ false
framed-there id f [] = refl
framed-there id f (l ∷ leaves) = elim (cases_Bool (l.id == id)) [
  | inl is ↦ rw (is, is) refl
  | inr isnt ↦ rw (isnt, isnt) (framed-there id f leaves)
]

module _ (old new : Engine) (session leaf frame generation : ℕ) (sessions : new.sessions ≡ old.sessions) (dir : new.hub.dir ≡ framed_at old.hub.dir leaf frame generation) where
  -- it is ready to go on
  waited-ready : waits_in old session ≡ Some leaf → waits_in new session ≡ None
  waited-ready waits = waits-now new session h.state (ap (λ (xs : List State). slice_get xs session) sessions ∙ h.at)
      ∙ (ap (waits_at new.hub.dir.leaves) h.on ∙ ap (λ (b : Bool). if b then Some leaf else None) (ap (λ (d : Directory). is_away d.leaves leaf) dir ∙ framed-there leaf (record { frame = frame; generation = generation }) old.hub.dir.leaves)) where
        h : IsHeld old session leaf
        h = held old session leaf waits

  -- and has as many steps left
  waited-turns : FramesKeep → turns_in new session ≡ turns_in old session
  waited-turns law = ap (λ (xs : List State). of_some 0 (λ (a : State). turns new.hub.dir.leaves a) (slice_get xs session)) sessions
      ∙ (ap (λ (d : Directory). of_some 0 (λ (a : State). turns d.leaves a) (slice_get old.sessions session)) dir ∙ by (slice_get old.sessions session)) where
        by : (o : Option State) → of_some 0 (λ (a : State). turns (framed_at old.hub.dir leaf frame generation).leaves a) o ≡ of_some 0 (λ (a : State). turns old.hub.dir.leaves a) o
        by None = refl
        by (Some a) = law old.hub.dir.leaves leaf (Some (record { frame = frame; generation = generation })) a

module _ {E : Type 0} (old new : Engine) (session leaf : ℕ) (page : HeldLeaf) (sessions : new.sessions ≡ old.sessions) where
  pub fill-ready : (made : Result (Unit {0}) E) → OnOk made (IsFilled old new leaf page) → waits_in old session ≡ Some leaf → OnOk made (waits_in new session ≡ None)
  fill-ready (Ok done) came waits = waited-ready old new session leaf came.frame (generation_at old.pieces came.frame) sessions came.dir waits
  fill-ready (Err why) came waits = tt

  pub fill-turns : FramesKeep → (made : Result (Unit {0}) E) → OnOk made (IsFilled old new leaf page) → OnOk made (turns_in new session ≡ turns_in old session)
  fill-turns law (Ok done) came = waited-turns old new session leaf came.frame (generation_at old.pieces came.frame) sessions came.dir law
  fill-turns law (Err why) came = tt
