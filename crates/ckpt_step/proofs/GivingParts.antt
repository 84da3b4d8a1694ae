-- A leaf gave way to entries: the tree of a table is the parts of the leaves that there are then.
use Rattle.std.proofs.Common.{◌≡◌, ◌∙◌, ℕ, true, false, List, [], ◌∷◌, ◌++◌, refl, ap, sym, subst, inl, inr, append_assoc}
use Rattle.std.specs.List.{Contains}
use Rattle.std.specs.Prelude.{filter}
use Rattle.std.proofs.lemmas.Bool.{cases_eq}
use Rattle.kv_model.specs.Holds.{Member}
use Rattle.row_page.specs.Rows.{Row}
use Rattle.stored.specs.TableTree.{Entry, TableTree}
use Rattle.stored.specs.Tree.{join}
use Rattle.tree_dir.specs.declared.leaf.Leaf.{Leaf}
use Rattle.tree_dir.specs.Leaves.{Directory, leaves_of}
use Rattle.tree_open.specs.declared.place.TreePlace.{TreePlace}
use Rattle.tree_write.specs.Steps.{links_in}
use Rattle.ckpt_step.specs.Lives.{NoneLive, is_live}
use Rattle.ckpt_step.specs.Parts.{IsPart, IsParted, LieIn, has_rows, part_leaves, part_of, parts_of, rows_behind}
use Rattle.ckpt_step.specs.Rooms.{Written}
use Rattle.ckpt_step.specs.declared.lives.Lone.{Lone}
use Rattle.ckpt_step.proofs.Behind.{part_links}
use Rattle.ckpt_step.proofs.GivingLeaves.{IsGiving, made, made_of, other_id, other_table, parts_made, same_of, whole}
use Rattle.ckpt_step.proofs.MadeParts.{made_part}
use Rattle.ckpt_step.proofs.Members.{all_made, in_back, in_front}
use Rattle.ckpt_step.proofs.TableLeaves.{contains_of, in_table, member_of, table_in}
use Rattle.ckpt_step.proofs.WithParts.{parts_alike, parts_both}

module _ (d n : Directory) (l : Leaf) (entries : List Entry) (ids : List ℕ) (had has : Written) (g : IsGiving d n l entries ids had has) where
  -- ---- leaves that stay

  lie_still : (table : ℕ) (x : Leaf) → (x.id ≡ l.id → ⊥) → (rows : List Row) → LieIn d.leaves table x rows → LieIn n.leaves table x rows
  lie_still table x other [] lie = tt
  lie_still table x other (r ∷ rows) lie = (g.stand.under_other table r.0 x other lie.0, lie_still table x other rows lie.1)

  pub part_still : (table : ℕ) (x : Leaf) → (x.id ≡ l.id → ⊥) → (part : List Entry) (images : List (List Row)) → IsPart d.leaves table x part images → IsPart n.leaves table x part images
  part_still table x other part images was = record {
    fit = was.fit;
    climbs = was.climbs;
    begins = was.begins;
    stay = was.stay;
    full = was.full;
    some = was.some;
    rows_fit = was.rows_fit;
    lie = lie_still table x other (join images) was.lie;
  }

  parts_still : (leaves : List Leaf) → ((x : Leaf) → Member x leaves → x.id ≡ l.id → ⊥) → parts_of has leaves ≡ parts_of had leaves
  parts_still leaves other = parts_alike has had leaves (all_made (λ (x : Leaf). has x.id ≡ had x.id) leaves (λ x there. g.others x.id (other x there)))

  -- a leaf that stays has its part
  stays : (lives : List Lone) (table : ℕ) (place : TreePlace) (tree : TableTree) → IsParted lives d.leaves table had place tree → (x : Leaf) → Contains d.leaves x → Contains n.leaves x → x.table ≡ table → is_live lives x ≡ false → IsPart n.leaves table x (part_of has x) (part_leaves place tree (part_of has x))
  stays lives table place tree parted x c there its dead =
      subst (λ (part : List Entry). IsPart n.leaves table x part (part_leaves place tree part)) (sym (same_of d n l entries ids had has g x there))
      (part_still table x (other_id d n l entries ids had has g x there) (part_of had x) (part_leaves place tree (part_of had x)) (parted.parts x c its dead))

  -- ---- the table of the leaf

  module _ (lives : List Lone) (place : TreePlace) (tree : TableTree) (parted : IsParted lives d.leaves l.table had place tree) (none : NoneLive lives d.leaves l.table) where
    -- each of its entries leads to rows
    pub entry_rows : (e : Entry) → Member e entries → has_rows e.link ≡ true
    entry_rows e there = (parted.among l g.there refl (none l g.there refl) e (subst (λ (es : List Entry). Member e es) (sym (whole d n l entries ids had has g)) there)).1

    pub one_entry : (m : Leaf) → Contains (made d n l entries ids had has g) m → part_of has m ≡ m.entry ∷ []
    one_entry m c = made_of d n l entries ids had has g m c entry_rows

    front_now : (x : Leaf) → Member x g.stand.front → x.id ≡ l.id → ⊥
    front_now x there = other_id d n l entries ids had has g x (contains_of n.leaves x (in_table l.table n.leaves x (subst (λ (ls : List Leaf). Member x ls) (sym g.stand.are)
        (in_front (g.stand.front ++ made d n l entries ids had has g) g.stand.back x (in_front g.stand.front (made d n l entries ids had has g) x there)))).0)

    back_now : (x : Leaf) → Member x g.stand.back → x.id ≡ l.id → ⊥
    back_now x there = other_id d n l entries ids had has g x (contains_of n.leaves x (in_table l.table n.leaves x (subst (λ (ls : List Leaf). Member x ls) (sym g.stand.are)
        (in_back (g.stand.front ++ made d n l entries ids had has g) g.stand.back x there))).0)

    parts_were : parts_of had (leaves_of l.table d.leaves) ≡ parts_of had g.stand.front ++ (entries ++ parts_of had g.stand.back)
    parts_were =
        ap (parts_of had) g.stand.were
        ∙ (parts_both had g.stand.front (l ∷ g.stand.back)
        ∙ ap (λ (es : List Entry). parts_of had g.stand.front ++ (es ++ parts_of had g.stand.back)) (whole d n l entries ids had has g))

    parts_are : parts_of has (leaves_of l.table n.leaves) ≡ parts_of had g.stand.front ++ (entries ++ parts_of had g.stand.back)
    parts_are =
        let these = made d n l entries ids had has g in
        ap (parts_of has) g.stand.are
        ∙ (parts_both has (g.stand.front ++ these) g.stand.back
        ∙ (ap (λ (es : List Entry). es ++ parts_of has g.stand.back) (parts_both has g.stand.front these)
        ∙ (ap (λ (es : List Entry). (parts_of has g.stand.front ++ parts_of has these) ++ es) (parts_still g.stand.back back_now)
        ∙ (ap (λ (es : List Entry). (es ++ parts_of has these) ++ parts_of had g.stand.back) (parts_still g.stand.front front_now)
        ∙ (ap (λ (es : List Entry). (parts_of had g.stand.front ++ es) ++ parts_of had g.stand.back) (parts_made has l.table ids entries g.gave.fresh.many (λ m there. one_entry m (contains_of these m there)))
        ∙ append_assoc (parts_of had g.stand.front) entries (parts_of had g.stand.back))))))

    part_now : (x : Leaf) → Contains n.leaves x → x.table ≡ l.table → IsPart n.leaves l.table x (part_of has x) (part_leaves place tree (part_of has x))
    part_now x c its = elim (g.stand.members x c) [
      | inl old ↦ stays lives l.table place tree parted x old.0 c its (none x old.0 its)
      | inr new ↦
          subst (λ (part : List Entry). IsPart n.leaves l.table x part (part_leaves place tree part)) (sym (one_entry x new))
          (made_part d n l entries ids g.now g.stand (λ e. rows_behind place.leaves.items tree.leaves e.link)
          (subst (λ (part : List Entry). IsPart d.leaves l.table l part (part_leaves place tree part)) (whole d n l entries ids had has g) (parted.parts l g.there refl (none l g.there refl))) x new)
    ]

    joined_now : filter has_rows place.leaves.items ≡ links_in (parts_of has (leaves_of l.table n.leaves))
    joined_now = parted.joined none ∙ ap links_in (parts_were ∙ sym parts_are)

    pub parted_own : IsParted lives n.leaves l.table has place tree
    parted_own = record {
      joined = λ none_now. joined_now;
      among = λ x c its dead e mine. part_links n.leaves l.table has place joined_now x c its e mine;
      parts = λ x c its dead. part_now x c its;
    }

  -- ---- each table

  -- the parts of another table are as they were
  pub parts_else : (table : ℕ) → (table ≡ l.table → ⊥) → parts_of has (leaves_of table n.leaves) ≡ parts_of had (leaves_of table d.leaves)
  parts_else table other = ap (parts_of has) (g.stand.rest table other) ∙ parts_still (leaves_of table d.leaves) (λ x there.
      let at = in_table table d.leaves x there in
      other_table d n l entries ids had has g x (contains_of d.leaves x at.0) (λ same. other (sym at.1 ∙ same)))

  none_then : (lives : List Lone) (table : ℕ) → (table ≡ l.table → ⊥) → NoneLive lives n.leaves table → NoneLive lives d.leaves table
  none_then lives table other none x c its =
      let at = in_table table n.leaves x (subst (λ (ls : List Leaf). Member x ls) (sym (g.stand.rest table other)) (table_in table d.leaves x (member_of d.leaves x c) its)) in
      none x (contains_of n.leaves x at.0) its

  parted_else : (lives : List Lone) (table : ℕ) (place : TreePlace) (tree : TableTree) → (table ≡ l.table → ⊥) → IsParted lives d.leaves table had place tree → IsParted lives n.leaves table has place tree
  parted_else lives table place tree other parted = record {
    joined = λ none. parted.joined (none_then lives table other none) ∙ ap links_in (sym (parts_else table other));
    among = λ x c its dead e mine. elim (g.stand.members x c) [
      | inl old ↦ parted.among x old.0 its dead e (subst (λ (part : List Entry). Member e part) (same_of d n l entries ids had has g x c) mine)
      | inr new ↦ absurd (other (sym its ∙ (g.stand.own x new).0))
    ];
    parts = λ x c its dead. elim (g.stand.members x c) [
      | inl old ↦ stays lives table place tree parted x old.0 c its dead
      | inr new ↦ absurd (other (sym its ∙ (g.stand.own x new).0))
    ];
  }

  pub parted_then : (lives : List Lone) → NoneLive lives d.leaves l.table → (table : ℕ) (place : TreePlace) (tree : TableTree) → IsParted lives d.leaves table had place tree → IsParted lives n.leaves table has place tree
  parted_then lives none table place tree parted = elim (cases_eq table l.table) [
    | inr other ↦ parted_else lives table place tree other parted
    | inl same ↦ subst (λ (t : ℕ). IsParted lives n.leaves t has place tree) (sym same) (parted_own lives place tree (subst (λ (t : ℕ). IsParted lives d.leaves t had place tree) same parted) none)
  ]
