-- A leaf that was written out gave way: the shelf with the rows of its new leaves.
use Rattle.std.specs.Prelude.{◌≡◌, ℕ, ◌<◌, true, false, List, [], ◌∷◌, length, map, nat_lt, Option, None, Some, option_map, if◌then◌else◌, refl}
use Rattle.std.specs.List.{Contains}
use Rattle.std.proofs.Common.{inl, inr, sym, ◌∙◌, ap, subst, arith}
use Rattle.std.proofs.lemmas.Bool.{cases_eq, le-ltb, lt-ltb}
use Rattle.std.proofs.lemmas.List.{append-nil}
use Rattle.engine_world.proofs.Homes.{same-id}
use Rattle.kv_model.specs.Holds.{Member}
use Rattle.kv_model.specs.Machine.{Machine, of_some}
use Rattle.item.specs.declared.Change.{Change}
use Rattle.leaf_rows.specs.Rows.{AreFit, version_at}
use Rattle.row_page.specs.Changes.{PageChange, version_in}
use Rattle.row_page.specs.Rows.{Row}
use Rattle.reconcile.specs.Shows.{shown_at}
use Rattle.stamp.specs.declared.Name.{Name}
use Rattle.stamp.specs.declared.Version.{Version}
use Rattle.snapshot.specs.Past.{is_below}
use Rattle.stored.specs.TableTree.{Entry}
use Rattle.stored.specs.Tree.{join}
use Rattle.tree_dir.proofs.Parting.{ids-name}
use Rattle.tree_dir.specs.declared.leaf.Leaf.{Leaf}
use Rattle.tree_dir.specs.Leaves.{Directory, leaf_named, leaf_under, leaves_with}
use Rattle.tree_write.specs.Captures.{AreDistinct}
use Rattle.tree_write.specs.Drafts.{HasLeaves, addrs_to}
use Rattle.tree_write.specs.Steps.{links_in}
use Rattle.ckpt_step.specs.CutOuts.{AreShelved}
use Rattle.ckpt_step.specs.Floors.{AreNewestBefore, AreNewestIn}
use Rattle.ckpt_step.specs.Parts.{AreBelowFloor, IsPart, LieIn, rows_behind}
use Rattle.ckpt_step.specs.Rooms.{Written}
use Rattle.ckpt_step.specs.declared.lives.Lone.{Lone}
use Rattle.ckpt_step.proofs.Below.{low_rows}
use Rattle.ckpt_step.proofs.CleanTrees.{newest_under}
use Rattle.ckpt_step.proofs.GivingLeaves.{below_next}
use Rattle.ckpt_step.proofs.MadeParts.{made_part}
use Rattle.ckpt_step.proofs.Members.{none_some, some_same}
use Rattle.ckpt_step.proofs.OutLives.{IsOut, giving, news, over}
use Rattle.ckpt_step.proofs.PartNames.{all_show, shown_lies}
use Rattle.ckpt_step.proofs.RowsByLink.{some_behind}
use Rattle.ckpt_step.proofs.TableLeaves.{contains_of, member_of, under_in}
use Rattle.ckpt_step.proofs.UnderMade.{made_entry}

-- ---- lists

-- leaves by their entries: one of them
has_one : (seen : List ℕ) (rows_of : Entry → List Row) (es : List Entry) (e : Entry) → HasLeaves seen es (map {A = Entry} rows_of es) → Member e es → HasLeaves seen (e ∷ []) (rows_of e ∷ [])
has_one seen rows_of [] e has there = absurd there
has_one seen rows_of (x ∷ es) e has (inl same) = subst (λ (y : Entry). HasLeaves seen (y ∷ []) (rows_of y ∷ [])) (sym same) (has.0, tt)
has_one seen rows_of (x ∷ es) e has (inr later) = has_one seen rows_of es e has.1 later

-- those of leaves that are made of entries
made_join : (table : ℕ) (rows_of : Entry → List Row) (ids : List ℕ) (es : List Entry) → length ids ≡ length es → join (map {A = Leaf} (λ x. rows_of x.entry ∷ []) (leaves_with table ids es)) ≡ map {A = Entry} rows_of es
made_join table rows_of [] [] many = refl
made_join table rows_of [] (e ∷ es) many = absurd (omega (arith, many))
made_join table rows_of (id ∷ ids) [] many = absurd (omega (arith, many))
made_join table rows_of (id ∷ ids) (e ∷ es) many = ap (λ (m : List (List Row)). rows_of e ∷ m) (made_join table rows_of ids es (omega (arith, many)))

-- The images of its entries, which are a part of the leaf, have the newest versions of its keys, and stand where the entries lead.
pub record AreImagesOut (seen : List ℕ) (m : Machine) (leaves_in : List Leaf) (l : Leaf) (entries : List Entry) (images : List (List Row)) : Type 0 where
  pub part : IsPart leaves_in l.table l entries images
  pub newest : AreNewestIn m leaves_in l.table l (join images)
  pub apart : AreDistinct (addrs_to entries)
  pub many : length entries ≡ length images
  pub has : HasLeaves seen entries images

module _ (d n : Directory) (l : Leaf) (entries : List Entry) (ids : List ℕ) (had has : Written) (lives next : List Lone) (o : IsOut d n l entries ids had has lives next) (seen : List ℕ) (m : Machine) (images : List (List Row)) (own : AreImagesOut seen m d.leaves l entries images) where
  abbrev pub rows_of : Entry → List Row
  rows_of e = rows_behind (links_in entries) images e.link

  all_rows : map {A = Entry} rows_of entries ≡ images
  all_rows = some_behind entries images [] entries [] [] images [] own.apart (sym (append-nil entries)) (sym (append-nil images)) refl own.many

  -- of a new leaf the rows to which its entry leads, of any other what there was
  abbrev pub shelf_out : (ℕ → List Row) → ℕ → List Row
  shelf_out before id = if nat_lt id d.next then before id else of_some [] (λ (x : Leaf). rows_of x.entry) (leaf_named id n.leaves)

  pub shelf_old : (before : ℕ → List Row) (id : ℕ) → id < d.next → shelf_out before id ≡ before id
  shelf_old before id lt = let is : nat_lt id d.next ≡ true = lt-ltb id d.next lt in rw is refl

  pub shelf_new : (before : ℕ → List Row) (x : Leaf) → Contains (news d n l entries ids had has lives next o) x → shelf_out before x.id ≡ rows_of x.entry
  shelf_new before x c =
      let isnt : nat_lt x.id d.next ≡ false = le-ltb x.id d.next (o.stand.later x c) in
      rw isnt (ap (λ (found : Option Leaf). of_some [] (λ (y : Leaf). rows_of y.entry) found) (ids-name n o.now x (o.stand.news x c)))

  -- ---- each

  entry_in : (x : Leaf) → Contains (news d n l entries ids had has lives next o) x → Member x.entry entries
  entry_in x c = made_entry l.table ids entries x c

  pub one_part : (x : Leaf) → Contains (news d n l entries ids had has lives next o) x → IsPart n.leaves l.table x (x.entry ∷ []) (rows_of x.entry ∷ [])
  one_part x c = made_part d n l entries ids o.now o.stand rows_of (subst (λ (all : List (List Row)). IsPart d.leaves l.table l entries all) (sym all_rows) own.part) x c

  pub one_has : (x : Leaf) → Contains (news d n l entries ids had has lives next o) x → HasLeaves seen (x.entry ∷ []) (rows_of x.entry ∷ [])
  one_has x c = has_one seen rows_of entries x.entry (subst (λ (all : List (List Row)). HasLeaves seen entries all) (sym all_rows) own.has) (entry_in x c)

  one_fit : (x : Leaf) → Contains (news d n l entries ids had has lives next o) x → AreFit (rows_of x.entry)
  one_fit x c = subst AreFit (append-nil (rows_of x.entry)) (one_part x c).rows_fit

  one_lie : (x : Leaf) → Contains (news d n l entries ids had has lives next o) x → LieIn n.leaves l.table x (rows_of x.entry)
  one_lie x c = subst (LieIn n.leaves l.table x) (append-nil (rows_of x.entry)) (one_part x c).lie

  -- a key that lies in it lay in the leaf
  lay_in : (x : Leaf) (key : List ℕ) → Contains (news d n l entries ids had has lives next o) x → leaf_under l.table key n.leaves ≡ Some x → leaf_under l.table key d.leaves ≡ Some l
  lay_in x key c under = by (leaf_under l.table key d.leaves) refl
    where
      by : (found : Option Leaf) → leaf_under l.table key d.leaves ≡ found → leaf_under l.table key d.leaves ≡ Some l
      by None none = absurd (none_some (sym (o.stand.under_none l.table key none) ∙ under))
      by (Some y) some = elim (cases_eq y.id l.id) [
        | inl same ↦ some ∙ ap (λ (z : Leaf). Some z) (same-id d y l o.was (contains_of d.leaves y (under_in l.table key d.leaves y some).0) o.there same)
        | inr other ↦
            let met : y ≡ x = some_same (sym (o.stand.under_other l.table key y other some) ∙ under) in
            absurd (let late = o.stand.later x c in let low = below_next d n l entries ids (over d n l entries ids had has lives next o) has (giving d n l entries ids had has lives next o) y (contains_of d.leaves y (under_in l.table key d.leaves y some).0) in omega (arith, late, low, ap (λ (z : Leaf). z.id) met))
      ]

  all_are : join (map {A = Leaf} (λ x. rows_of x.entry ∷ []) (news d n l entries ids had has lives next o)) ≡ images
  all_are = made_join l.table rows_of ids entries o.gave.fresh.many ∙ all_rows

  -- of a key that lies in it, it shows what all rows show
  new_shown : (x : Leaf) (key : List ℕ) → Contains (news d n l entries ids had has lives next o) x → leaf_under l.table key n.leaves ≡ Some x → shown_at key (join images) ≡ shown_at key (rows_of x.entry)
  new_shown x key c under =
      ap (λ (all : List (List Row)). shown_at key (join all)) (sym all_are)
      ∙ (ap (option_map version_in) (all_show n.leaves l.table key x under (λ y. rows_of y.entry ∷ []) (news d n l entries ids had has lives next o) (λ y there. (one_part y (contains_of (news d n l entries ids had has lives next o) y there)).lie) (member_of (news d n l entries ids had has lives next o) x c))
      ∙ ap (λ (rows : List Row). shown_at key rows) (append-nil (rows_of x.entry)))

  pub new_newest : (x : Leaf) → Contains (news d n l entries ids had has lives next o) x → AreNewestIn m n.leaves l.table x (rows_of x.entry)
  new_newest x c key under = own.newest key (lay_in x key c under) ∙ new_shown x key c under

  -- it has only keys that lie in it
  new_lies : (x : Leaf) (key : List ℕ) (v : Version Change) → Contains (news d n l entries ids had has lives next o) x → shown_at key (rows_of x.entry) ≡ Some v → leaf_under l.table key n.leaves ≡ Some x
  new_lies x key v c shows = by (version_at key (rows_of x.entry)) refl
    where
      by : (found : Option (Version PageChange)) → version_at key (rows_of x.entry) ≡ found → leaf_under l.table key n.leaves ≡ Some x
      by None is = absurd (none_some (sym (ap (λ (u : Option (Version PageChange)). option_map version_in u) is) ∙ shows))
      by (Some u) is = shown_lies n.leaves l.table x key (rows_of x.entry) u (one_lie x c) is

  -- where all its names are below a floor it has the newest before that
  pub new_before : (floor : Name) (x : Leaf) → Contains (news d n l entries ids had has lives next o) x → AreBelowFloor floor (x.entry ∷ []) → AreNewestBefore m floor n.leaves l.table x (rows_of x.entry)
  new_before floor x c below =
      newest_under m l.table n.leaves x floor (rows_of x.entry) (one_fit x c) (low_rows floor (rows_of x.entry) (subst (λ (name : Name). is_below name floor ≡ true) (one_has x c).0.1.bears.says.greatest below.0)) (new_newest x c)

  pub shelved_out : (before : ℕ → List Row) → AreShelved d n l (join images) (news d n l entries ids had has lives next o) before (shelf_out before)
  shelved_out before = record {
    stand = o.stand;
    others = λ id lt. shelf_old before id lt;
    within = λ x c key under. lay_in x key c under;
    shown = λ x c key under. ap (λ (rows : List Row). shown_at key rows) (shelf_new before x c) ∙ sym (new_shown x key c under);
    lies = λ x c key v shows. new_lies x key v c (ap (λ (rows : List Row). shown_at key rows) (sym (shelf_new before x c)) ∙ shows);
  }
