-- The leaf that has a key, and the frame that it is in.
use Rattle.std.proofs.Common.{◌≡◌, ◌⊎◌, ℕ, refl, ap, sym, ◌∙◌, List, inl, inr}
use Rattle.std.specs.Prelude.{Option, Some, None, option_and_then, option_map}
use Rattle.std.specs.List.{Contains}
use Rattle.std.proofs.lemmas.Bool.{cases_eq}
use Rattle.std.proofs.lemmas.Option.{same_Some}
use Rattle.kv_model.specs.Machine.{Machine}
use Rattle.tree_dir.specs.declared.leaf.Framed.{Framed}
use Rattle.tree_dir.specs.declared.leaf.Leaf.{Leaf}
use Rattle.tree_dir.specs.Leaves.{Directory, IsDirectory, leaf_named, leaf_under}
use Rattle.tree_dir.specs.Ranges.{HasKey}
use Rattle.tree_dir.proofs.Parting.{ids-name, under-has}
use Rattle.call_steps.specs.declared.frame.Frame.{Frame}
use Rattle.call_steps.specs.declared.frame.FramePiece.{FramePiece}
use Rattle.call_steps.specs.declared.stage.Target.{Target}
use Rattle.call_steps.specs.Tables.{filled, target_in}
use Rattle.row_page.specs.Rows.{Row}
use Rattle.engine_world.specs.Leaves.{IsLaid, LeafInFrame, LeafStands, frame_in, frame_of}
use Rattle.engine_world.specs.Worlds.{Records}

-- each leaf stands
abbrev pub LeavesStand : Machine → (ℕ → List Row) → Records → List Leaf → List FramePiece → List ℕ → Type 0
LeavesStand m shelf records leaves pieces states = (l : Leaf) → Contains leaves l → LeafStands m shelf records leaves pieces states l

-- one that has a frame stands in it
pub in-its-frame : (m : Machine) (shelf : ℕ → List Row) (records : Records) (leaves : List Leaf) (pieces : List FramePiece) (states : List ℕ) (l : Leaf) (f : Framed) → l.frame ≡ Some f → LeafStands m shelf records leaves pieces states l → LeafInFrame m shelf records leaves pieces states l
in-its-frame m shelf records leaves pieces states l f placed (inl framed) = framed
in-its-frame m shelf records leaves pieces states l f placed (inr x) = let clash : None ≡ Some f = sym x.none ∙ placed in absurd cc

-- the key lies in the leaf
abbrev pub LiesIn : List Leaf → Leaf → List ℕ → Type 0
LiesIn leaves l key = leaf_under l.table key leaves ≡ Some l

-- ---- the frame of a key

-- the leaf under the key is in this frame
pub record IsHome (leaves : List Leaf) (table : ℕ) (key : List ℕ) (frame : ℕ) : Type 0 where
  pub leaf : Leaf
  pub under : leaf_under table key leaves ≡ Some leaf
  pub framed : Framed
  pub placed : leaf.frame ≡ Some framed
  pub at : framed.frame ≡ frame

module _ (leaves : List Leaf) (table : ℕ) (key : List ℕ) (frame : ℕ) where
  home-in : (l : Leaf) → leaf_under table key leaves ≡ Some l → (o : Option Framed) → l.frame ≡ o → option_map (λ (f : Framed). f.frame) o ≡ Some frame → IsHome leaves table key frame
  home-in l under None placed e = absurd cc
  home-in l under (Some f) placed e = record { leaf = l; under = under; framed = f; placed = placed; at = same_Some f.frame frame e }

  home-by : (o : Option Leaf) → leaf_under table key leaves ≡ o → option_and_then (λ (l : Leaf). option_map (λ (f : Framed). f.frame) l.frame) o ≡ Some frame → IsHome leaves table key frame
  home-by None under e = absurd cc
  home-by (Some l) under e = home-in l under l.frame refl e

  pub home-is : frame_of leaves table key ≡ Some frame → IsHome leaves table key frame
  home-is e = home-by (leaf_under table key leaves) refl e

pub frame-from : (leaves : List Leaf) (table : ℕ) (key : List ℕ) (l : Leaf) (f : Framed) → leaf_under table key leaves ≡ Some l → l.frame ≡ Some f → frame_of leaves table key ≡ Some f.frame
frame-from leaves table key l f under placed =
    ap (λ (o : Option Leaf). option_and_then (λ (l : Leaf). option_map (λ (f : Framed). f.frame) l.frame) o) under ∙ ap (λ (o : Option Framed). option_map (λ (f : Framed). f.frame) o) placed

-- ---- one leaf in a frame

pub same-id : (d : Directory) (l n : Leaf) → IsDirectory d → Contains d.leaves l → Contains d.leaves n → l.id ≡ n.id → l ≡ n
same-id d l n is there_l there_n ids = same_Some l n (sym (ids-name d is l there_l) ∙ (ap (λ id. leaf_named id d.leaves) ids ∙ ids-name d is n there_n))

-- leaves that are in one frame are one leaf
pub one-leaf : (d : Directory) (pieces : List FramePiece) (states : List ℕ) (l n : Leaf) → IsDirectory d → Contains d.leaves l → Contains d.leaves n → (x : IsLaid pieces states l) (y : IsLaid pieces states n)
    → x.framed.frame ≡ y.framed.frame → l ≡ n
one-leaf d pieces states l n is there_l there_n x y same = same-id d l n is there_l there_n (sym x.id ∙ (ap (λ (f : Frame). f.id) frames ∙ y.id)) where
  frames : x.frame ≡ y.frame
  frames = same_Some x.frame y.frame (sym x.there ∙ (ap (frame_in pieces) same ∙ y.there))

-- whether a key lies in a leaf
pub lies-or-not : (d : Directory) (l : Leaf) (key : List ℕ) → IsDirectory d → Contains d.leaves l → LiesIn d.leaves l key ⊎ (LiesIn d.leaves l key → ⊥)
lies-or-not d l key is there = by (leaf_under l.table key d.leaves) refl where
  by : (o : Option Leaf) → leaf_under l.table key d.leaves ≡ o → LiesIn d.leaves l key ⊎ (LiesIn d.leaves l key → ⊥)
  by None e = inr (λ lies. let clash : None ≡ Some l = sym e ∙ lies in absurd cc)
  by (Some n) e = elim (cases_eq n.id l.id) [
    | inl same ↦ inl (e ∙ ap (λ (x : Leaf). Some x) (same-id d n l is (under-has d is l.table key n e).there there same))
    | inr other ↦ inr (λ lies. other (ap (λ (x : Leaf). x.id) (same_Some n l (sym e ∙ lies))))
  ]

-- ---- the leaf of a slot

-- the leaf under a key, where it is
pub record IsAt (m : Machine) (shelf : ℕ → List Row) (records : Records) (d : Directory) (pieces : List FramePiece) (states : List ℕ) (table : ℕ) (key : List ℕ) (frame : ℕ) : Type 0 where
  pub leaf : Leaf
  pub there : Contains d.leaves leaf
  pub table_is : leaf.table ≡ table
  pub under : leaf_under leaf.table key d.leaves ≡ Some leaf
  pub stands : LeafInFrame m shelf records d.leaves pieces states leaf
  pub at : stands.laid.framed.frame ≡ frame

pub home-at : (m : Machine) (shelf : ℕ → List Row) (records : Records) (d : Directory) (pieces : List FramePiece) (states : List ℕ) (table : ℕ) (key : List ℕ) (frame : ℕ) → IsDirectory d → LeavesStand m shelf records d.leaves pieces states → frame_of d.leaves table key ≡ Some frame
    → IsAt m shelf records d pieces states table key frame
home-at m shelf records d pieces states table key frame is stand e = record {
  leaf = h.leaf;
  there = has.there;
  table_is = has.table;
  under = ap (λ n. leaf_under n key d.leaves) has.table ∙ h.under;
  stands = stands;
  at = ap (λ (f : Framed). f.frame) (same_Some stands.laid.framed h.framed (sym stands.laid.placed ∙ h.placed)) ∙ h.at;
} where
  h : IsHome d.leaves table key frame
  h = home-is d.leaves table key frame e

  has : HasKey d table key h.leaf
  has = under-has d is table key h.leaf h.under

  stands : LeafInFrame m shelf records d.leaves pieces states h.leaf
  stands = in-its-frame m shelf records d.leaves pieces states h.leaf h.framed h.placed (stand h.leaf has.there)

-- and the frame of a key of a leaf that stands
pub frame-of-leaf : (leaves : List Leaf) (pieces : List FramePiece) (states : List ℕ) (l : Leaf) (key : List ℕ) → (x : IsLaid pieces states l) → leaf_under l.table key leaves ≡ Some l → frame_of leaves l.table key ≡ Some x.framed.frame
frame-of-leaf leaves pieces states l key x under = frame-from leaves l.table key l x.framed under x.placed

-- ---- the leaf of a target

abbrev pub target_at : Leaf → Framed → Target
target_at l f = record { table = l.table; leaf = l.id; frame = f.frame; word = filled f.generation }

-- what a target says of its leaf
pub record IsTarget (l : Leaf) (target : Target) : Type 0 where
  pub framed : Framed
  pub placed : l.frame ≡ Some framed
  pub is : target_at l framed ≡ target

pub target-is : (l : Leaf) (target : Target) → target_in l ≡ Some target → IsTarget l target
target-is l target e = by l.frame refl e where
  by : (o : Option Framed) → l.frame ≡ o → option_map (λ (f : Framed). target_at l f) o ≡ Some target → IsTarget l target
  by None placed e = absurd cc
  by (Some f) placed e = record { framed = f; placed = placed; is = same_Some (target_at l f) target e }

pub target-from : (l : Leaf) (f : Framed) → l.frame ≡ Some f → target_in l ≡ Some (target_at l f)
target-from l f placed = ap (λ (o : Option Framed). option_map (λ (f : Framed). target_at l f) o) placed

-- a leaf that stands has the frame that its target says
pub target-frame : (pieces : List FramePiece) (states : List ℕ) (l : Leaf) (target : Target) → (x : IsLaid pieces states l) → target_in l ≡ Some target → x.framed.frame ≡ target.frame
target-frame pieces states l target x e = ap (λ (t : Target). t.frame) (same_Some (target_at l x.framed) target (sym (target-from l x.framed x.placed) ∙ e))
