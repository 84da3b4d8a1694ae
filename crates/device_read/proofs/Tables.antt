-- The tables of a reader, by name.
use Rattle.std.proofs.Common.{◌≡◌, ℕ, true, List, [], ◌∷◌, Option, Some, None, refl, sym, ap, subst, ◌∙◌, inl, inr}
use Rattle.std.specs.Prelude.{bytes_eq}
use Rattle.std.specs.List.{AllByRecursion}
use Rattle.std.proofs.lemmas.Bool.{cases_Bool}
use Rattle.kv_model.specs.Content.{Content, descending, kept, placed_lt, start, table_lt}
use Rattle.kv_model.specs.Holds.{Member}
use Rattle.kv_model.specs.History.{Table, named, tables}
use Rattle.kv_model.proofs.Finishing.{tables-base}
use Rattle.kv_model.proofs.Sorting.{descending-member, member-descending}
use Rattle.row_page.specs.Rows.{is_below}
use Rattle.row_page.proofs.Ascending.{below_self, below_trans}
use Rattle.reconcile.proofs.Keyed.{key_self, same_key}
use Rattle.stored.specs.Records.{TableRoot, TablesClimb}
use Rattle.stored.specs.Stored.{tables_of}
use Rattle.catalog.specs.Known.{NamesAscend}
use Rattle.device_read.specs.Rows.{HasTables}
use Rattle.device_read.proofs.Lists.{all_member}

-- ---- names that ascend stand once

pub names_ascend : (tables : List TableRoot) → TablesClimb tables → NamesAscend (tables_of tables)
names_ascend [] climb = tt
names_ascend (t ∷ []) climb = tt
names_ascend (t ∷ u ∷ tables) climb = (climb.0, names_ascend (u ∷ tables) climb.1)

all_later : (t : Table) (known : List Table) → NamesAscend (t ∷ known) → AllByRecursion (λ (u : Table). is_below t.name u.name ≡ true) known
all_later t [] ascend = tt
all_later t (u ∷ known) ascend = (ascend.0, further known (all_later u known ascend.1))
  where
    further : (rest : List Table) → AllByRecursion (λ (x : Table). is_below u.name x.name ≡ true) rest → AllByRecursion (λ (x : Table). is_below t.name x.name ≡ true) rest
    further [] all = tt
    further (x ∷ rest) all = (below_trans t.name u.name x.name ascend.0 all.0, further rest all.1)

ascend_later : (t : Table) (known : List Table) → NamesAscend (t ∷ known) → NamesAscend known
ascend_later t [] ascend = tt
ascend_later t (u ∷ known) ascend = ascend.1

not_same : (t u : Table) → is_below t.name u.name ≡ true → t.name ≡ u.name → ⊥
not_same t u below same = below_self t.name (subst (λ (n : List ℕ). is_below t.name n ≡ true) (sym same) below)

once : (known : List Table) (t u : Table) → NamesAscend known → Member t known → Member u known → t.name ≡ u.name → t ≡ u
once [] t u ascend there also same = absurd there
once (x ∷ known) t u ascend (inl one) (inl two) same = one ∙ sym two
once (x ∷ known) t u ascend (inl one) (inr two) same = absurd (not_same x u (all_member (λ (y : Table). is_below x.name y.name ≡ true) known u (all_later x known ascend) two) (ap (λ (y : Table). y.name) (sym one) ∙ same))
once (x ∷ known) t u ascend (inr one) (inl two) same = absurd (not_same x t (all_member (λ (y : Table). is_below x.name y.name ≡ true) known t (all_later x known ascend) one) (ap (λ (y : Table). y.name) (sym two) ∙ sym same))
once (x ∷ known) t u ascend (inr one) (inr two) same = once known t u (ascend_later x known ascend) one two same

-- ---- what a name finds

pub named_member : (name : List ℕ) (known : List Table) (t : Table) → named name known ≡ Some t → Member t known × (t.name ≡ name)
named_member name [] t is = absurd cc
named_member name (u ∷ later) t is = elim (cases_Bool (bytes_eq u.name name)) [
  | inl same ↦ let one : u ≡ t = cc_of (rw same at is) in (inl (sym one), ap (λ (x : Table). x.name) (sym one) ∙ same_key u.name name same)
  | inr other ↦ let rest = named_member name later t (rw other at is) in (inr rest.0, rest.1)
]
  where
    cc_of : Some u ≡ Some t → u ≡ t
    cc_of e = cc

member_named : (known : List Table) (t : Table) → Member t known → (u : Table) × (named t.name known ≡ Some u)
member_named [] t there = absurd there
member_named (u ∷ later) t (inl is) = (u, rw (subst (λ (x : Table). bytes_eq u.name x.name ≡ true) (sym is) (key_self u.name)) refl)
member_named (u ∷ later) t (inr there) = elim (cases_Bool (bytes_eq u.name t.name)) [
  | inl same ↦ (u, rw same refl)
  | inr other ↦ let rest = member_named later t there in (rest.0, rw other rest.1)
]

-- where the names of one of two lists stand once, and they have the same members, a name finds the same
same_named : (known other : List Table) → NamesAscend known → ((t : Table) → Member t known → Member t other) → ((t : Table) → Member t other → Member t known) → (name : List ℕ) → named name other ≡ named name known
same_named known other ascend to from name = by (named name other) (named name known) refl refl
  where
    by : (o p : Option Table) → named name other ≡ o → named name known ≡ p → o ≡ p
    by None None is also = refl
    by (Some t) None is also =
        let there = named_member name other t is in
        let found = member_named known t (from t there.0) in
        let none : None ≡ Some found.0 = sym also ∙ ap (λ (n : List ℕ). named n known) (sym there.1) ∙ found.1 in absurd cc
    by None (Some t) is also =
        let there = named_member name known t also in
        let found = member_named other t (to t there.0) in
        let none : None ≡ Some found.0 = sym is ∙ ap (λ (n : List ℕ). named n other) (sym there.1) ∙ found.1 in absurd cc
    by (Some t) (Some u) is also =
        let one = named_member name other t is in
        let two = named_member name known u also in
        ap Some (once known t u ascend (from t one.0) two.0 (one.1 ∙ sym two.1))

-- ---- in the machine that an opening makes

pub tables_read : (c : Content) (roots : List TableRoot) → c.tables ≡ tables_of roots → TablesClimb roots → HasTables c (tables_of roots)
tables_read c roots same climb =
    let made : tables (start c).history ≡ descending table_lt c.tables = tables-base (descending table_lt c.tables) (descending placed_lt (kept c)) in
    let ascend : NamesAscend (tables_of roots) = names_ascend roots climb in
    let to : (t : Table) → Member t (tables_of roots) → Member t (tables (start c).history) = (λ t there. subst (λ (l : List Table). Member t l) (sym made) (descending-member table_lt c.tables t (subst (λ (l : List Table). Member t l) (sym same) there))) in
    let from : (t : Table) → Member t (tables (start c).history) → Member t (tables_of roots) = (λ t there. subst (λ (l : List Table). Member t l) same (member-descending table_lt c.tables t (subst (λ (l : List Table). Member t l) made there))) in
    record {
      named_alike = same_named (tables_of roots) (tables (start c).history) ascend to from;
      members = λ t. (to t, from t);
      ascend = ascend;
    }
