-- Records by the leaves in which their keys lie.
use Rattle.std.proofs.Common.{◌≡◌, ◌∙◌, ℕ, true, false, List, [], ◌∷◌, ◌++◌, map, Option, Some, None, refl, sym, ap, subst, inl, inr}
use Rattle.std.specs.Prelude.{◌==◌, bytes_eq, filter, option_map, if◌then◌else◌}
use Rattle.std.specs.List.{Contains}
use Rattle.std.proofs.lemmas.Bool.{cases_Bool, cases_eq, eqb-true, eq-eqb, ne_eqb}
use Rattle.std.proofs.lemmas.List.{map-append}
use Rattle.std.proofs.lemmas.List.Elements.{filter-append}
use Rattle.std.proofs.lemmas.Option.{same_Some}
use Rattle.std.proofs.lemmas.Slice.Eq.{bytes_eq-Decides}
use Rattle.item.specs.declared.Change.{Change}
use Rattle.item.specs.declared.Change.TheVariants.{Put as Puts, Remove as Removes}
use Rattle.stamp.specs.declared.Version.{Version}
use Rattle.kv_model.specs.Holds.{Descends, Member}
use Rattle.kv_model.specs.Machine.{of_some}
use Rattle.kv_model.specs.Ordered.{Older}
use Rattle.kv_model.proofs.Capturing.{member-into, member-out}
use Rattle.row_page.specs.declared.change.CellChange.TheVariants.{Put, Remove}
use Rattle.row_page.specs.Changes.{PageChange, change_in, version_in}
use Rattle.row_page.specs.Rows.{RowFits, key_most}
use Rattle.stored.specs.HistoryTree.{HistoryRecord, RecordFits}
use Rattle.reconcile.specs.Cells.{cell_change, cell_version}
use Rattle.reconcile.specs.declared.image.Moved.{Moved}
use Rattle.reconcile.specs.Moving.{versions_in}
use Rattle.tree_dir.specs.declared.leaf.Leaf.{Leaf}
use Rattle.tree_dir.specs.Leaves.{Directory, IsDirectory, leaf_named, leaf_under}
use Rattle.tree_dir.specs.Ranges.{HasKey}
use Rattle.tree_dir.proofs.Parting.{ids-name, under-has}
use Rattle.evict_step.specs.Backs.{AllFit}
use Rattle.evict_step.specs.Kept.{alone_in}
use Rattle.hist_pages.proofs.Members.{mapped_member, member_mapped}
use Rattle.kept_open.specs.Keeping.{Follows, is_in_leaf, moved_in, moved_of}

-- ---- one record

-- a page says the same of the version again
same_change : (change : PageChange) → cell_change (change_in change) ≡ change
same_change (Put value) = refl
same_change Remove = refl

pub moved_fits : (r : HistoryRecord) → RecordFits r → AllFit (moved_of r ∷ [])
moved_fits r fit = (subst (λ (x : PageChange). RowFits [] key_most (r.key, record { window = r.version.window; change = x })) (sym (same_change r.version.change)) fit.row, tt)

-- its key lies in the leaf of this id, or in none
pub one_in : (leaves : List Leaf) (r : HistoryRecord) (leaf : ℕ) (id : ℕ) → Some leaf ≡ option_map (λ (l : Leaf). l.id) (leaf_under r.table r.key leaves) → moved_in leaves (r ∷ []) id ≡ alone_in leaf (moved_of r) id
one_in leaves r leaf id is = elim (cases_eq id leaf) [
  | inl same ↦
      let here : is_in_leaf leaves id r ≡ true = lies (leaf_under r.table r.key leaves) is ∙ eq-eqb leaf id (sym same) in
      let there : (id == leaf) ≡ true = eq-eqb id leaf same in rw (here, there) refl
  | inr other ↦
      let here : is_in_leaf leaves id r ≡ false = lies (leaf_under r.table r.key leaves) is ∙ ne_eqb leaf id (λ e. other (sym e)) in
      let there : (id == leaf) ≡ false = ne_eqb id leaf other in rw (here, there) refl
] where
  lies : (found : Option Leaf) → Some leaf ≡ option_map (λ (l : Leaf). l.id) found → of_some false (λ (l : Leaf). l.id == id) found ≡ (leaf == id)
  lies None e = absurd cc
  lies (Some l) e = ap (λ (n : ℕ). n == id) (sym (same_Some leaf l.id e))

pub none_in : (leaves : List Leaf) (r : HistoryRecord) (id : ℕ) → None ≡ option_map (λ (l : Leaf). l.id) (leaf_under r.table r.key leaves) → moved_in leaves (r ∷ []) id ≡ []
none_in leaves r id is = let here : is_in_leaf leaves id r ≡ false = lies (leaf_under r.table r.key leaves) is in rw here refl where
  lies : (found : Option Leaf) → None ≡ option_map (λ (l : Leaf). l.id) found → of_some false (λ (l : Leaf). l.id == id) found ≡ false
  lies None e = refl
  lies (Some l) e = absurd cc

pub in-append : (leaves : List Leaf) (a b : List HistoryRecord) (id : ℕ) → moved_in leaves (a ++ b) id ≡ moved_in leaves a id ++ moved_in leaves b id
in-append leaves a b id =
    ap (λ (l : List HistoryRecord). map {A = HistoryRecord} moved_of l) (filter-append (is_in_leaf leaves id) a b)
    ∙ map-append {A = HistoryRecord} moved_of (filter (is_in_leaf leaves id) a) (filter (is_in_leaf leaves id) b)

-- ---- the versions of a key among those of a leaf

-- the record of one
pub record IsFrom (leaves : List Leaf) (records : List HistoryRecord) (id : ℕ) (key : List ℕ) (v : Version Change) : Type 0 where
  pub found : HistoryRecord
  pub there : Member found records
  pub lies : is_in_leaf leaves id found ≡ true
  pub own : found.key ≡ key
  pub is : v ≡ version_in found.version

abbrev has_key : List ℕ → Moved → Type 0
has_key key m = bytes_eq m.key key ≡ true

pub from_in : (leaves : List Leaf) (records : List HistoryRecord) (id : ℕ) (key : List ℕ) (v : Version Change) → Member v (versions_in key (moved_in leaves records id)) → IsFrom leaves records id key v
from_in leaves records id key v there =
    let listed = moved_in leaves records id in
    let m = mapped_member {A = Moved} (λ x. x.version) v (filter (λ (x : Moved). bytes_eq x.key key) listed) there in
    let o = member-out (λ (x : Moved). bytes_eq x.key key) listed m.0 m.1 in
    let r = mapped_member {A = HistoryRecord} moved_of m.0 (filter (is_in_leaf leaves id) records) o.0 in
    let p = member-out (is_in_leaf leaves id) records r.0 r.1 in
    record {
      found = r.0;
      there = p.0;
      lies = p.1;
      own = (bytes_eq-Decides r.0.key key).0 (subst (λ (x : Moved). has_key key x) r.2 o.1);
      is = m.2 ∙ ap (λ (x : Moved). x.version) r.2;
    }

pub into_in : (leaves : List Leaf) (records : List HistoryRecord) (id : ℕ) (key : List ℕ) (r : HistoryRecord) → Member r records → is_in_leaf leaves id r ≡ true → r.key ≡ key → Member (version_in r.version) (versions_in key (moved_in leaves records id))
into_in leaves records id key r there lies is =
    let listed = moved_in leaves records id in
    let own : Member (moved_of r) listed = member_mapped {A = HistoryRecord} moved_of r (filter (is_in_leaf leaves id) records) (member-into (is_in_leaf leaves id) records r there lies) in
    member_mapped {A = Moved} (λ x. x.version) (moved_of r) (filter (λ (x : Moved). bytes_eq x.key key) listed) (member-into (λ (x : Moved). bytes_eq x.key key) listed (moved_of r) own ((bytes_eq-Decides r.key key).1 is))

-- ---- at a leaf of a directory

-- the leaf under the record's key is the one of that id
pub under_id : (d : Directory) → IsDirectory d → (id : ℕ) (r : HistoryRecord) → is_in_leaf d.leaves id r ≡ true → (l : Leaf) × (leaf_under r.table r.key d.leaves ≡ Some l) × (l.id ≡ id) × (leaf_named id d.leaves ≡ Some l)
under_id d is id r lies = by (leaf_under r.table r.key d.leaves) refl lies where
  by : (o : Option Leaf) → leaf_under r.table r.key d.leaves ≡ o → of_some false (λ (x : Leaf). x.id == id) o ≡ true → (l : Leaf) × (leaf_under r.table r.key d.leaves ≡ Some l) × (l.id ≡ id) × (leaf_named id d.leaves ≡ Some l)
  by None e wrong = absurd cc
  by (Some m) e same =
      let own : m.id ≡ id = eqb-true m.id id same in
      (m, e, own, ap (λ (n : ℕ). leaf_named n d.leaves) (sym own) ∙ ids-name d is m (under-has d is r.table r.key m e).there)

module _ (d : Directory) (is : IsDirectory d) (l : Leaf) (there : Contains d.leaves l) where
  pub lies_under : (r : HistoryRecord) → is_in_leaf d.leaves l.id r ≡ true → leaf_under r.table r.key d.leaves ≡ Some l
  lies_under r lies = let u = under_id d is l.id r lies in u.1 ∙ (sym u.3 ∙ ids-name d is l there)

  pub own_table : (r : HistoryRecord) → is_in_leaf d.leaves l.id r ≡ true → r.table ≡ l.table
  own_table r lies = sym (under-has d is r.table r.key l (lies_under r lies)).table

  pub under_lies : (r : HistoryRecord) → leaf_under r.table r.key d.leaves ≡ Some l → is_in_leaf d.leaves l.id r ≡ true
  under_lies r under = ap (λ (o : Option Leaf). of_some false (λ (x : Leaf). x.id == l.id) o) under ∙ eq-eqb l.id l.id refl

  pub key_falls : (key : List ℕ) (records : List HistoryRecord) → Descends Follows records → Descends Older (versions_in key (moved_in d.leaves records l.id))
  key_falls key [] falls = tt
  key_falls key (r ∷ records) falls = elim (cases_Bool (is_in_leaf d.leaves l.id r)) [
    | inr away ↦ rw away (key_falls key records falls.1)
    | inl lies ↦ rw lies (elim (cases_Bool (bytes_eq r.key key)) [
      | inr other ↦ rw other (key_falls key records falls.1)
      | inl at ↦ rw at ((λ v has. above lies at v has), key_falls key records falls.1)
    ])
  ] where
    above : is_in_leaf d.leaves l.id r ≡ true → bytes_eq r.key key ≡ true → (v : Version Change) → Member v (versions_in key (moved_in d.leaves records l.id)) → Older v (version_in r.version)
    above lies at v has =
        let f = from_in d.leaves records l.id key v has in
        subst (λ (w : Version Change). Older w (version_in r.version)) (sym f.is)
        (falls.0 f.found f.there (own_table r lies ∙ sym (own_table f.found f.lies)) ((bytes_eq-Decides r.key key).0 at ∙ sym f.own))
