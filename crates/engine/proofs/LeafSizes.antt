-- Leaves that fit go on to fit.
use Rattle.std.proofs.Common.{◌≡◌, ◌≤◌, ◌<◌, ◌^◌, ℕ, zero, suc, refl, ap, ◌∙◌, Bool, true, false, List, [], ◌∷◌, ◌++◌, length, subst, arith}
use Rattle.std.specs.Prelude.{Option, Some, None, ◌==◌, if◌then◌else◌, bytes_eq, option_and_then, option_map, slice_get, slice_set}
use Rattle.limits.specs.declared.TheConstants.{KEY_MAX, VALUE_MAX}
use Rattle.item.specs.declared.Change.{Change}
use Rattle.stamp.specs.declared.Name.{Name}
use Rattle.row_page.specs.Rows.{IsName, RowFits, key_most, value_of}
use Rattle.update_chain.specs.declared.update.Update.{Update}
use Rattle.update_chain.specs.Updates.{is_named, marked, stamped}
use Rattle.leaf_chains.specs.declared.slot.KeyChain.{KeyChain}
use Rattle.leaf_chains.specs.Slots.{chain_at, slot_changed}
use Rattle.reconcile.specs.Capture.{ChainFits, ChainsFit}
use Rattle.reconcile.specs.Cells.{cell_change, cell_version}
use Rattle.leaf_frame.specs.Leaf.{HeldLeaf}
use Rattle.call_steps.specs.declared.edit.Edit.{Edit}
use Rattle.call_steps.specs.declared.edit.Edit.TheVariants as edit
use Rattle.call_steps.specs.declared.frame.Frame.{Frame}
use Rattle.call_steps.specs.declared.frame.FramePiece.{FramePiece}
use Rattle.call_steps.specs.declared.written.WrittenKey.{WrittenKey}
use Rattle.call_steps.specs.FrameEvents.{piece_changed, with_chains}
use Rattle.call_steps.specs.Leaves.{edited, leaf_changed}
use Rattle.call_steps.specs.Looks.{update_by}
use Rattle.call_steps.specs.Written.{frame_at, slot_at}
use Rattle.engine.specs.Sizes.{LeafFits, LeavesFit}

-- ---- frames

-- the leaf of a piece fits, where there is one
abbrev pub PieceFits : FramePiece → Type 0
PieceFits p = (f : Frame) → p.frame ≡ Some f → LeafFits f.leaf

pub piece-fits : (pieces : List FramePiece) (place : ℕ) (p : FramePiece) → slice_get pieces place ≡ Some p → LeavesFit pieces → PieceFits p
piece-fits pieces place p there fit f is = fit place f (ap (λ (o : Option FramePiece). option_and_then (λ (x : FramePiece). x.frame) o) there ∙ is)

pub leaves-set : (pieces : List FramePiece) (i : ℕ) (p : FramePiece) → LeavesFit pieces → PieceFits p → LeavesFit (slice_set pieces i p)
leaves-set [] i p fit new place f is = fit place f is
leaves-set (x ∷ xs) zero p fit new zero f is = new f is
leaves-set (x ∷ xs) zero p fit new (suc j) f is = fit (suc j) f is
leaves-set (x ∷ xs) (suc i) p fit new zero f is = fit zero f is
leaves-set (x ∷ xs) (suc i) p fit new (suc j) f is = leaves-set xs i p (λ k g at. fit (suc k) g at) new j f is

-- a piece with this leaf
pub filled-fits : (generation table id : ℕ) (leaf : HeldLeaf) → LeafFits leaf → PieceFits (record { generation = generation; frame = Some (record { table = table; id = id; leaf = leaf }) })
filled-fits generation table id leaf fit f is = subst LeafFits (let same : record { table = table; id = id; leaf = leaf } ≡ f = cc in ap (λ (x : Frame). x.leaf) same) fit

pub leaves-none : LeavesFit []
leaves-none place f is = absurd (cc)

-- a frame more, behind the others
pub leaves-more : (pieces : List FramePiece) (p : FramePiece) → LeavesFit pieces → PieceFits p → LeavesFit (pieces ++ p ∷ [])
leaves-more [] p fit new zero f is = new f is
leaves-more [] p fit new (suc j) f is = absurd (cc)
leaves-more (x ∷ xs) p fit new zero f is = fit zero f is
leaves-more (x ∷ xs) p fit new (suc j) f is = leaves-more xs p (λ k g at. fit (suc k) g at) new j f is

-- ---- a change of a chain

-- it keeps what fits
abbrev pub KeepsFit : (List Update → List Update) → Type 0
KeepsFit change = (key : List ℕ) (chain : List Update) → ChainFits key chain → ChainFits key (change chain)

slot-fits : (key : List ℕ) (change : List Update → List Update) → KeepsFit change → (i : ℕ) (slots : List KeyChain) → ChainFits key (chain_at key slots) → ChainFits key (chain_at key (slot_changed i change slots))
slot-fits key change keeps i [] fit = fit
slot-fits key change keeps zero (s ∷ slots) fit = by (bytes_eq s.key key) fit where
  by : (b : Bool) → ChainFits key (if b then s.chain else chain_at key slots) → ChainFits key (if b then change s.chain else chain_at key slots)
  by true fit = keeps key s.chain fit
  by false fit = fit
slot-fits key change keeps (suc i) (s ∷ slots) fit = by (slot-fits key change keeps i slots) (bytes_eq s.key key) fit where
  by : (ChainFits key (chain_at key slots) → ChainFits key (chain_at key (slot_changed i change slots))) → (b : Bool)
      → ChainFits key (if b then s.chain else chain_at key slots) → ChainFits key (if b then s.chain else chain_at key (slot_changed i change slots))
  by later true fit = fit
  by later false fit = later fit

leaf-fits : (change : List Update → List Update) → KeepsFit change → (keys : List WrittenKey) (frame n : ℕ) (slots : List KeyChain) → ChainsFit slots → ChainsFit (leaf_changed change keys frame n slots)
leaf-fits change keeps keys frame zero slots fit = fit
leaf-fits change keeps keys frame (suc n) slots fit =
    by (leaf-fits change keeps keys frame n (slot_changed (slot_at keys (suc n)) change slots) (λ key. slot-fits key change keeps (slot_at keys (suc n)) slots (fit key))) (frame_at keys (suc n) == frame) where
      by : ChainsFit (leaf_changed change keys frame n (slot_changed (slot_at keys (suc n)) change slots)) → (b : Bool)
          → ChainsFit (if b then leaf_changed change keys frame n (slot_changed (slot_at keys (suc n)) change slots) else slots)
      by later true = later
      by later false = fit

pub changed-fits : (change : List Update → List Update) → KeepsFit change → (keys : List WrittenKey) (frame n : ℕ) (p : FramePiece) → PieceFits p → PieceFits (piece_changed (leaf_changed change keys frame n) p)
changed-fits change keeps keys frame n p fit f same = by p.frame refl same where
  by : (o : Option Frame) → p.frame ≡ o → option_map (λ (g : Frame). with_chains (leaf_changed change keys frame n g.leaf.chains) g) o ≡ Some f → LeafFits f.leaf
  by None is made = absurd (cc)
  by (Some g) is made = let e : with_chains (leaf_changed change keys frame n g.leaf.chains) g ≡ f = cc in
      subst LeafFits (ap (λ (x : Frame). x.leaf) e) (leaf-fits change keeps keys frame n g.leaf.chains (fit g is))

-- ---- edits

-- the stamps of an edit fit
abbrev pub EditFits : Edit → Type 0
EditFits (edit.Stamp commit durable) = (commit ≤ durable) × (durable < 2 ^ 64)
EditFits _ = Unit {0}

pub edit-keeps : (name : Name) (e : Edit) → EditFits e → KeepsFit (edited name e)
edit-keeps name (edit.Mark stamp) small key [] fit = fit
edit-keeps name (edit.Mark stamp) small key (u ∷ older) fit = (by (is_named name u), fit.1) where
  by : (b : Bool) → RowFits [] key_most (key, cell_version (if b then marked stamp u else u).version)
  by true = fit.0
  by false = fit.0
edit-keeps name (edit.Stamp commit durable) small key [] fit = fit
edit-keeps name (edit.Stamp commit durable) small key (u ∷ older) fit = (by (is_named name u), fit.1) where
  by : (b : Bool) → RowFits [] key_most (key, cell_version (if b then stamped commit durable u else u).version)
  by true = record { begins = fit.0.begins; key = fit.0.key; value = fit.0.value; window = record { name = fit.0.window.name; stamps = small.0; durable = small.1 } }
  by false = fit.0
edit-keeps name edit.Undo small key [] fit = fit
edit-keeps name edit.Undo small key (u ∷ older) fit = by (is_named name u) where
  by : (b : Bool) → ChainFits key (if b then older else u ∷ older)
  by true = fit.1
  by false = fit

-- an update that a call writes
pub new-fits : (name : Name) (key : List ℕ) (change : Change) → IsName name → length key ≤ KEY_MAX → length (value_of (cell_change change)) ≤ VALUE_MAX → RowFits [] key_most (key, cell_version (update_by name change).version)
new-fits name key change fit short small = record { begins = refl; key = short; value = small; window = record { name = fit; stamps = omega arith; durable = omega arith } }
