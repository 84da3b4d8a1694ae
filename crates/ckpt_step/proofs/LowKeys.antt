-- The rows of a table, parted by its leaves: those of a leaf are below the low key of each behind it.
use Rattle.std.specs.Prelude.{◌≡◌, ℕ, suc, true, IfSome, List, [], ◌∷◌, ◌++◌, length, Some, refl}
use Rattle.std.specs.List.{AllByRecursion}
use Rattle.std.proofs.Common.{inl, inr, sym, ◌∙◌, ap, subst, arith, append_assoc}
use Rattle.std.proofs.lemmas.List.{append-nil}
use Rattle.device_layout.specs.declared.link.Link.{Link}
use Rattle.kv_model.specs.Holds.{Member}
use Rattle.row_page.specs.Rows.{Row, is_below}
use Rattle.stored.specs.TableTree.{Entry, first_key}
use Rattle.stored.specs.Tree.{join}
use Rattle.tree_dir.specs.declared.leaf.Leaf.{Leaf}
use Rattle.tree_dir.specs.Leaves.{leaf_under, leaves_of}
use Rattle.tree_write.specs.Drafts.{aligned}
use Rattle.tree_write.specs.Steps.{links_in}
use Rattle.ckpt_step.specs.Parts.{ArePartedBy, LieIn, links_over, part_of}
use Rattle.ckpt_step.specs.Rooms.{Written}
use Rattle.ckpt_step.proofs.Members.{all_made, all_of, in_either}
use Rattle.ckpt_step.proofs.TableLeaves.{AreOnce, below_later, once_table, in_table, under_of}

-- ---- rows that are parted

pub parted_length : (all : List Leaf) (table : ℕ) (leaves : List Leaf) (parts : List (List (List Row))) → ArePartedBy all table leaves parts → length leaves ≡ length parts
parted_length all table [] [] parted = refl
parted_length all table [] (images ∷ parts) parted = absurd parted
parted_length all table (l ∷ leaves) [] parted = absurd parted
parted_length all table (l ∷ leaves) (images ∷ parts) parted = ap suc (parted_length all table leaves parts parted.1)

-- a leaf more
pub parted_more : (all : List Leaf) (table : ℕ) (front : List Leaf) (parts : List (List (List Row))) (l : Leaf) (images : List (List Row)) → ArePartedBy all table front parts → LieIn all table l (join images) → ArePartedBy all table (front ++ l ∷ []) (parts ++ images ∷ [])
parted_more all table [] [] l images parted lie = (lie, tt)
parted_more all table [] (other ∷ parts) l images parted lie = absurd parted
parted_more all table (x ∷ front) [] l images parted lie = absurd parted
parted_more all table (x ∷ front) (other ∷ parts) l images parted lie = (parted.0, parted_more all table front parts l images parted.1 lie)

-- the links over which they are written
pub over_more : (written : Written) (front : List Leaf) (parts : List (List (List Row))) (l : Leaf) (images : List (List Row)) → length front ≡ length parts
    → links_over written (front ++ l ∷ []) (parts ++ images ∷ []) ≡ links_over written front parts ++ aligned (links_in (part_of written l)) images
over_more written [] [] l images long = append-nil (aligned (links_in (part_of written l)) images)
over_more written [] (other ∷ parts) l images long = absurd (omega (arith, long))
over_more written (x ∷ front) [] l images long = absurd (omega (arith, long))
over_more written (x ∷ front) (other ∷ parts) l images long =
    ap (λ (links : List Link). aligned (links_in (part_of written x)) other ++ links) (over_more written front parts l images (omega (arith, long)))
    ∙ sym (append_assoc (aligned (links_in (part_of written x)) other) (links_over written front parts) (aligned (links_in (part_of written l)) images))

-- the rows of a part are among those of all
pub rows_both : (xs ys : List (List Row)) → join (xs ++ ys) ≡ join xs ++ join ys
rows_both [] ys = refl
rows_both (rows ∷ xs) ys = ap (λ (l : List Row). rows ++ l) (rows_both xs ys) ∙ sym (append_assoc rows (join xs) (join ys))

-- a row of them lies in one of the leaves
pub row_lies : (all : List Leaf) (table : ℕ) (leaves : List Leaf) (parts : List (List (List Row))) (r : Row) → ArePartedBy all table leaves parts → Member r (join (join parts)) → (l : Leaf) × Member l leaves × (leaf_under table r.0 all ≡ Some l)
row_lies all table [] [] r parted there = absurd there
row_lies all table [] (images ∷ parts) r parted there = absurd parted
row_lies all table (l ∷ leaves) [] r parted there = absurd parted
row_lies all table (l ∷ leaves) (images ∷ parts) r parted there = elim (in_either (join images) (join (join parts)) r (subst (λ (rows : List Row). Member r rows) (rows_both images (join parts)) there)) [
  | inl own ↦ (l, inl refl, all_of (λ (q : Row). leaf_under table q.0 all ≡ Some l) (join images) r parted.0 own)
  | inr later ↦ let rest = row_lies all table leaves parts r parted.1 later in (rest.0, inr rest.1, rest.2)
]

-- ---- below a later low key

-- the rows of the leaves before a leaf of the table are below its low key
pub front_below : (all : List Leaf) (table : ℕ) (front : List Leaf) (l : Leaf) (rest : List Leaf) (parts : List (List (List Row))) → AreOnce all → leaves_of table all ≡ front ++ l ∷ rest → ArePartedBy all table front parts
    → AllByRecursion (λ (r : Row). is_below r.0 l.entry.key ≡ true) (join (join parts))
front_below all table front l rest parts once split parted = all_made (λ (r : Row). is_below r.0 l.entry.key ≡ true) (join (join parts)) below
  where
    own : l.table ≡ table
    own = (in_table table all l (subst (λ (ls : List Leaf). Member l ls) (sym split) (behind front))).1
      where
        behind : (front : List Leaf) → Member l (front ++ l ∷ rest)
        behind [] = inl refl
        behind (x ∷ front) = inr (behind front)

    below : (r : Row) → Member r (join (join parts)) → is_below r.0 l.entry.key ≡ true
    below r there =
        let lies = row_lies all table front parts r parted there in
        below_later table r.0 front l rest lies.0 (subst AreOnce split (once_table table all once)) own lies.1
        (ap (leaf_under table r.0) (sym split) ∙ (sym (under_of table r.0 all) ∙ lies.2))

-- so they are below the first key of its part
pub first_below : (part : List Entry) (low : List ℕ) (rows : List Row) → IfSome (first_key part) (λ key. key ≡ low) → AllByRecursion (λ (r : Row). is_below r.0 low ≡ true) rows → IfSome (first_key part) (λ key. AllByRecursion (λ (r : Row). is_below r.0 key ≡ true) rows)
first_below [] low rows begins below = tt
first_below (e ∷ part) low rows begins below = subst (λ (key : List ℕ). AllByRecursion (λ (r : Row). is_below r.0 key ≡ true) rows) (sym begins) below
