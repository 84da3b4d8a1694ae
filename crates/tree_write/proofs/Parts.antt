-- Parts behind others: what a caller says of them.
use Rattle.std.specs.Prelude.{◌≡◌, ℕ, ◌≤◌, true, not, IsTrue, IfSome, List, [], ◌∷◌, ◌++◌, length}
use Rattle.std.specs.List.{AllByRecursion}
use Rattle.std.proofs.Common.{sym, ◌∙◌, ap, subst, arith, append_assoc}
use Rattle.std.proofs.lemmas.List.{append-nil}
use Rattle.row_page.specs.Rows.{Row, is_below}
use Rattle.row_page.proofs.Ascending.{below_trans}
use Rattle.reconcile.specs.declared.image.Image.{Image}
use Rattle.stored.specs.Tree.{AllBear, join}
use Rattle.stored.specs.TableTree.{Entry, Stay, ends_below, first_key, table_kind}
use Rattle.tree_write.specs.Cuts.{AreFullLeaves}
use Rattle.tree_write.specs.Drafts.{AreBelow, LeavesOf, StandBelow}
use Rattle.tree_write.specs.Steps.{keys_of, part_keys}
use Rattle.tree_write.proofs.Aligning.{bear_length}
use Rattle.tree_write.proofs.LeafKeys.{keys_under}
use Rattle.tree_write.proofs.Lists.{all_back, all_both, all_front, all_map}

-- rows with keys below this one
abbrev pub RowsBelow : List ℕ → List Row → Type 0
RowsBelow key rows = AllByRecursion (λ (r : Row). is_below r.0 key ≡ true) rows

-- ---- keys

-- what is below a key is below each later one
pub below_later : (key later : List ℕ) (es : List Entry) → is_below key later ≡ true → AreBelow key es → AreBelow later es
below_later key later es less below = all_map (λ (e : Entry). IsTrue (is_below e.key key)) (λ (e : Entry). IsTrue (is_below e.key later)) es (λ e is. below_trans e.key key later is less) below

-- the entries of a part are below the key of the next one
pub part_below : (low next : List ℕ) (es : List Entry) (images : List Image) (rows : List Row) → is_below low next ≡ true → keys_of es ≡ part_keys low images → LeavesOf images rows → RowsBelow next rows → AreBelow next es
part_below low next es images rows less keys of below = keys_under low next es images of.leaves less keys of.spelled (subst (RowsBelow next) (sym of.whole) below)

pub below_both : (key : List ℕ) (xs ys : List Entry) → AreBelow key xs → AreBelow key ys → AreBelow key (xs ++ ys)
below_both key xs ys one two = all_both (λ (e : Entry). IsTrue (is_below e.key key)) xs ys one two

-- ---- parts

pub join_more : (parts : List (List (List Row))) (leaves : List (List Row)) → join (parts ++ leaves ∷ []) ≡ join parts ++ leaves
join_more [] leaves = append-nil leaves
join_more (part ∷ parts) leaves = ap (λ (l : List (List Row)). part ++ l) (join_more parts leaves) ∙ sym (append_assoc part (join parts) leaves)

-- the rows of leaves stay between their entries where entries with greater keys come behind
pub stay_both : (xs ys : List Entry) (leaves others : List (List Row)) → length xs ≡ length leaves → Stay xs leaves → Stay ys others → IfSome (first_key ys) (λ key. RowsBelow key (join leaves)) → Stay (xs ++ ys) (leaves ++ others)
stay_both [] ys [] others long stay also below = also
stay_both [] ys (rows ∷ leaves) others long stay also below = absurd (omega (arith, long))
stay_both (e ∷ xs) ys [] others long stay also below = absurd (omega (arith, long))
stay_both (e ∷ []) [] (rows ∷ []) others long stay also below = (stay.0, tt)
stay_both (e ∷ []) (f ∷ ys) (rows ∷ []) others long stay also below = (last rows stay.0 (all_front (λ (r : Row). is_below r.0 f.key ≡ true) rows [] below), also)
  where
    last : (rows : List Row) → AllByRecursion (λ (r : Row). IsTrue (not (is_below r.0 e.key)) × IsTrue (ends_below (first_key []) r.0)) rows → RowsBelow f.key rows → AllByRecursion (λ (r : Row). IsTrue (not (is_below r.0 e.key)) × IsTrue (is_below r.0 f.key)) rows
    last [] all under = tt
    last (r ∷ rows) all under = ((all.0.0, under.0), last rows all.1 under.1)
stay_both (e ∷ []) ys (rows ∷ next ∷ leaves) others long stay also below = absurd (omega (arith, long))
stay_both (e ∷ f ∷ xs) ys (rows ∷ leaves) others long stay also below = (stay.0, stay_both (f ∷ xs) ys leaves others (omega (arith, long)) stay.1 also (behind ys below))
  where
    behind : (ys : List Entry) → IfSome (first_key ys) (λ key. RowsBelow key (join (rows ∷ leaves))) → IfSome (first_key ys) (λ key. RowsBelow key (join leaves))
    behind [] below = tt
    behind (y ∷ ys) below = all_back (λ (r : Row). is_below r.0 y.key ≡ true) rows (join leaves) below

-- no part so far
pub none_stand : StandBelow [] []
none_stand = record { stay = tt; full = tt; some = tt }

none_under : (es : List Entry) → IfSome (first_key es) (λ key. RowsBelow key [])
none_under [] = tt
none_under (e ∷ es) = tt

-- a part more
pub part_stands : (es fs : List Entry) (parts : List (List (List Row))) (leaves : List (List Row)) → AllBear table_kind es (join parts) → StandBelow es parts → Stay fs leaves → AreFullLeaves leaves → AllByRecursion (λ (l : List Row). 1 ≤ length l) leaves
    → IfSome (first_key fs) (λ key. RowsBelow key (join (join parts))) → StandBelow (es ++ fs) (parts ++ leaves ∷ [])
part_stands es fs parts leaves bear below stay full some under = record {
  stay = subst (λ (l : List (List Row)). Stay (es ++ fs) l) (sym (join_more parts leaves)) (stay_both es fs (join parts) leaves (bear_length es (join parts) bear) below.stay stay under);
  full = all_both AreFullLeaves parts (leaves ∷ []) below.full (full, tt);
  some = subst (λ (l : List (List Row)). AllByRecursion (λ (r : List Row). 1 ≤ length r) l) (sym (join_more parts leaves)) (all_both (λ (l : List Row). 1 ≤ length l) (join parts) leaves below.some some);
}

-- the first part
pub part_alone : (es : List Entry) (leaves : List (List Row)) → Stay es leaves → AreFullLeaves leaves → AllByRecursion (λ (l : List Row). 1 ≤ length l) leaves → StandBelow es (leaves ∷ [])
part_alone es leaves stay full some = part_stands [] es [] leaves tt none_stand stay full some (none_under es)
