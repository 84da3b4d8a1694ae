-- What a checkpoint has of a leaf that gives way is, entry by entry, what it has of the leaves in its place.
use Rattle.std.specs.Prelude.{◌≡◌, ℕ, ◌≤◌, List, [], ◌∷◌, ◌++◌, length, map, Some, refl}
use Rattle.std.specs.List.{Contains}
use Rattle.std.proofs.Common.{sym, ◌∙◌, ap, subst, append_assoc}
use Rattle.std.proofs.lemmas.List.{append-nil}
use Rattle.kv_model.specs.Holds.{Member}
use Rattle.leaf_rows.specs.Rows.{AreFit}
use Rattle.row_page.specs.Rows.{Row}
use Rattle.stored.specs.TableTree.{Entry, EntryFits}
use Rattle.stored.specs.Tree.{join}
use Rattle.tree_dir.specs.declared.leaf.Leaf.{Leaf}
use Rattle.tree_dir.specs.GivingWay.{StandFor}
use Rattle.tree_dir.specs.Leaves.{Directory, IsDirectory, leaf_under, leaves_of, leaves_with}
use Rattle.ckpt_step.specs.Parts.{IsPart, LieIn}
use Rattle.ckpt_step.proofs.EntryImages.{image_fits, image_from, stays_alone}
use Rattle.ckpt_step.proofs.Members.{all_made, all_of, flat_member, in_front, map_member, none_some}
use Rattle.ckpt_step.proofs.TableLeaves.{AreOnce, member_of, once_of, once_table, under_of}
use Rattle.ckpt_step.proofs.UnderMade.{made_entry, once_behind, under_behind, under_own}

module _ (d n : Directory) (l : Leaf) (entries : List Entry) (ids : List ℕ) (now : IsDirectory n) (stand : StandFor d n l (leaves_with l.table ids entries)) where
  abbrev made : List Leaf
  made = leaves_with l.table ids entries

  -- the leaves of the table, no two of which have one id
  are : leaves_of l.table n.leaves ≡ stand.front ++ (made ++ stand.back)
  are = stand.are ∙ append_assoc stand.front made stand.back

  once : AreOnce (stand.front ++ (made ++ stand.back))
  once = subst AreOnce are (once_table l.table n.leaves (once_of n.leaves now.once))

  -- the rows of an entry's image lie in the leaf of the entry
  module _ (images : Entry → List Row) (part : IsPart d.leaves l.table l entries (map {A = Entry} images entries)) (m : Leaf) (new : Contains made m) where
    abbrev all : List (List Row)
    all = map {A = Entry} images entries

    one : Member (images m.entry) all
    one = map_member images m.entry entries (made_entry l.table ids entries m new)

    lies : (r : Row) → Member r (images m.entry) → leaf_under l.table r.0 n.leaves ≡ Some m
    lies r own =
        let found = stand.under_new r.0 (all_of (λ (q : Row). leaf_under l.table q.0 d.leaves ≡ Some l) (join all) r part.lie (flat_member {A = List Row} {B = Row} (λ rows. rows) (images m.entry) all r one own)) in
        let among : leaf_under l.table r.0 (stand.front ++ (made ++ stand.back)) ≡ Some found.0 = ap (leaf_under l.table r.0) (sym are) ∙ (sym (under_of l.table r.0 n.leaves) ∙ found.2) in
        let behind = under_behind l.table r.0 stand.front (made ++ stand.back) found.0 once (in_front made stand.back found.0 (member_of made found.0 found.1)) among in
        found.2 ∙ ap (λ (x : Leaf). Some x) (under_own l.table images stand.back r ids entries m found.0 part.climbs part.stay (once_behind stand.front (made ++ stand.back) once) new own found.1 behind)

  -- ---- the part of each

  pub made_part : (images : Entry → List Row) → IsPart d.leaves l.table l entries (map {A = Entry} images entries) → (m : Leaf) → Contains (leaves_with l.table ids entries) m → IsPart n.leaves l.table m (m.entry ∷ []) (images m.entry ∷ [])
  made_part images part m new =
      let own = made_entry l.table ids entries m new in
      let joined : images m.entry ≡ join (images m.entry ∷ []) = sym (append-nil (images m.entry)) in
      record {
        fit = (all_of EntryFits entries m.entry part.fit own, tt);
        climbs = tt;
        begins = refl;
        stay = stays_alone m.entry (images m.entry) (image_from images entries m.entry part.stay own);
        full = ((λ row none. absurd (none_some none)), tt);
        some = (all_of (λ (rows : List Row). 1 ≤ length rows) (map images entries) (images m.entry) part.some (one images part m new), tt);
        rows_fit = subst AreFit joined (image_fits (map images entries) (images m.entry) part.rows_fit (one images part m new));
        lie = subst (LieIn n.leaves l.table m) joined (all_made (λ (r : Row). leaf_under l.table r.0 n.leaves ≡ Some m) (images m.entry) (lies images part m new));
      }
