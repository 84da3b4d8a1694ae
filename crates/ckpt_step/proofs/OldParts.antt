-- What the checkpoint before has of a leaf, in the tree of its table, or the block to which it was written since.
use Rattle.std.specs.Prelude.{◌≡◌, ◌≢◌, ◌⊎◌, ◌==◌, ℕ, false, List, [], ◌∷◌, Option, Some, None, slice_get, refl}
use Rattle.std.specs.List.{Contains}
use Rattle.std.specs.Option.{option_or}
use Rattle.std.proofs.Common.{inl, inr, sym, ◌∙◌, ap, subst}
use Rattle.std.proofs.lemmas.Bool.{cases_Bool}
use Rattle.block_mgr.specs.Blocks.{Books}
use Rattle.device_layout.specs.declared.link.Link.{Link}
use Rattle.kv_model.specs.Holds.{Member}
use Rattle.kv_model.specs.History.{Table}
use Rattle.kv_model.specs.Machine.{of_some}
use Rattle.row_page.specs.Rows.{Row}
use Rattle.stored.specs.Stored.{Stored}
use Rattle.stored.specs.TableTree.{Entry, TableTree}
use Rattle.tree_dir.specs.declared.leaf.Leaf.{Leaf}
use Rattle.tree_dir.specs.Leaves.{leaves_of}
use Rattle.tree_open.specs.declared.place.TreePlace.{TreePlace}
use Rattle.tree_write.specs.Drafts.{AreLiveLeaves, HasLeaves, addrs_to}
use Rattle.tree_write.specs.Keeps.{AreLive}
use Rattle.tree_write.specs.Steps.{links_in}
use Rattle.tree_write.specs.Writes.{IsLiveLeaf}
use Rattle.ckpt_step.specs.Goings.{HasPartsAt, MayGo}
use Rattle.ckpt_step.specs.Lives.{is_live, live_addrs}
use Rattle.ckpt_step.specs.Parts.{IsParted, own_part, part_in, part_of}
use Rattle.ckpt_step.specs.Rooms.{Written}
use Rattle.ckpt_step.specs.Trees.{HasTreeAt, leaves_at}
use Rattle.ckpt_step.specs.declared.lives.Lone.{Lone}
use Rattle.ckpt_step.proofs.Lones.{in_live}
use Rattle.ckpt_step.proofs.Members.{all_of}
use Rattle.ckpt_step.proofs.OldTrees.{leaves_there}
use Rattle.ckpt_step.proofs.TableLeaves.{member_of, table_in}
use Rattle.ckpt_step.proofs.WithParts.{part_none}

-- ---- of a leaf that was not written since

-- it is a part of the tree at the table's place, or there is none and the leaf is in a frame
pub record HasPart (old : Option Stored) (lives : List Lone) (leaves : List Leaf) (had : Written) (was : List TreePlace) (t : Table) (i : ℕ) : Type 0 where
  pub place : TreePlace
  pub at : slice_get was i ≡ Some place
  pub tree : TableTree
  pub has : HasTreeAt old t place tree
  pub parted : IsParted lives leaves t.number had place tree

pub record HasNoPart (had : Written) (l : Leaf) : Type 0 where
  pub none : part_in had l ≡ None
  pub framed : l.frame ≢ None

pub part_at : (old : Option Stored) (lives : List Lone) (leaves : List Leaf) (had : Written) (was : List TreePlace) (t : Table) (i : ℕ) (l : Leaf) → HasPartsAt old lives leaves had was t i → Contains leaves l → l.table ≡ t.number → is_live lives l ≡ false → HasPart old lives leaves had was t i ⊎ HasNoPart had l
part_at old lives leaves had was t i l parts there own dead = by (slice_get was i) refl
  where
    by : (o : Option TreePlace) → slice_get was i ≡ o → HasPart old lives leaves had was t i ⊎ HasNoPart had l
    by (Some place) at = let one = parts.tree place at in inl (record { place = place; at = at; tree = one.0; has = one.1; parted = one.2 })
    by None at = let none = parts.none at l there own dead in inr (record { none = none.0; framed = none.1 })

-- ---- of one that was

-- where no checkpoint of this engine wrote a leaf its part is what its entry leads to, or nothing
pub unwritten_part : (had : Written) (l : Leaf) → had l.id ≡ None → (part_in had l ≡ None) ⊎ (part_in had l ≡ Some (l.entry ∷ []))
unwritten_part had l none = elim (cases_Bool (l.entry.link.greatest.id == 0)) [
  | inl is ↦ inl (ap (λ (o : Option (List Entry)). option_or o (own_part l.entry)) none ∙ rw is refl)
  | inr isnt ↦ inr (ap (λ (o : Option (List Entry)). option_or o (own_part l.entry)) none ∙ rw isnt refl)
]

-- ---- its links

live_links : (first : Books) (es : List Entry) → ((e : Entry) → Member e es → IsLiveLeaf first e.link) → AreLiveLeaves first (links_in es)
live_links first [] each = tt
live_links first (e ∷ es) each = (each e (inl refl), live_links first es (λ x there. each x (inr there)))

-- they lead to what the live tree had at first
pub part_live : (seen : List ℕ) (images : List ℕ → Type 0) (first books : Books) (old : Option Stored) (lives : List Lone) (leaves : List Leaf) (had : Written) (was : List TreePlace) (t : Table) (i : ℕ) (l : Leaf) → MayGo seen images first books old was (live_addrs lives (leaves_of t.number leaves)) i
    → HasPartsAt old lives leaves had was t i → Contains leaves l → l.table ≡ t.number → AreLiveLeaves first (links_in (part_of had l))
part_live seen images first books old lives leaves had was t i l may parts there own = elim (cases_Bool (is_live lives l)) [
  | inr dead ↦ elim (part_at old lives leaves had was t i l parts there own dead) [
    | inr none ↦ subst (λ (es : List Entry). AreLiveLeaves first (links_in es)) (sym (part_none had l none.none)) tt
    | inl one ↦ live_links first (part_of had l) (λ e in_part.
        let link = one.parted.among l there own dead e in_part in
        all_of (λ (x : Link). IsLiveLeaf first x) (leaves_at was i) e.link may.over.leaves (subst (λ (m : List Link). Member e.link m) (sym (leaves_there was i one.place one.at)) link.0))
  ]
  | inl live ↦ elim (unwritten_part had l (parts.since l there live).none) [
    | inl none ↦ subst (λ (es : List Entry). AreLiveLeaves first (links_in es)) (sym (part_none had l none)) tt
    | inr one ↦
        let part : part_of had l ≡ l.entry ∷ [] = ap (λ (o : Option (List Entry)). of_some [] (λ (es : List Entry). es) o) one in
        subst (λ (es : List Entry). AreLiveLeaves first (links_in es)) (sym part) (inr (may.written l.entry.link.addr (in_live lives (leaves_of t.number leaves) l (table_in t.number leaves l (member_of leaves l there) own) live)), tt)
  ]
]

-- a part whose leaves are there is live, where its links are
pub addrs_live : (first : Books) (bytes : List ℕ) (es : List Entry) (kept : List (List Row)) → HasLeaves bytes es kept → AreLiveLeaves first (links_in es) → AreLive first.cells (addrs_to es)
addrs_live first bytes [] kept has live = tt
addrs_live first bytes (e ∷ es) [] has live = absurd has
addrs_live first bytes (e ∷ es) (rows ∷ kept) has live = (elim live.0 [ inl none ↦ absurd (has.0.0 none) | inr one ↦ one ], addrs_live first bytes es kept has.1 live.1)
