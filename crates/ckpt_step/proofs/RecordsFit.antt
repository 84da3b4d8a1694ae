-- The tables and the snapshot of a record fit it.
use Rattle.std.proofs.Common.{◌≡◌, ◌≢◌, ◌∙◌, ℕ, suc, ◌+◌, ◌<◌, ◌≤◌, ◌^◌, true, false, List, [], ◌∷◌, length, map, refl, ap, sym, subst, inl, inr, arith}
use Rattle.std.specs.Prelude.{◌&&◌, ◌==◌, nat_le, nat_lt, not, slice_get}
use Rattle.std.specs.List.{AllByRecursion, list_all}
use Rattle.std.proofs.lemmas.Bool.{and_parts, both_ways, eq-eqb, leb-true, ltb-true}
use Rattle.std.proofs.lemmas.List.{length-map}
use Rattle.std.proofs.lemmas.Option.{same_Some}
use Rattle.le_codec.specs.Fields.{IsBytes}
use Rattle.kv_model.specs.Decisions.{is_name, is_name_byte}
use Rattle.kv_model.specs.Holds.{Member}
use Rattle.kv_model.specs.History.{Table}
use Rattle.snapshot.specs.Sight.{Ascends, IsSight, Sight}
use Rattle.snapshot.proofs.Listed.{ascends-bound}
use Rattle.stored.specs.Records.{IdsAscend, IsNameByte, IsTableName, NumbersOnce, Root, SnapshotFits, TableFits, TableRoot, TablesClimb}
use Rattle.stored.specs.Stored.{tables_of}
use Rattle.catalog.specs.Known.{AreTables, Known, NamesAscend, by_name, is_below}
use Rattle.catalog.specs.Order.{Ascend}
use Rattle.catalog.proofs.InOrder.{order_ascends, order_keeps, sorted_ascends}
use Rattle.catalog.proofs.NameOrder.{below_self}
use Rattle.catalog.proofs.Turning.{all_member}
use Rattle.engine_world.proofs.Fronts.{index-of}
use Rattle.ckpt_step.specs.Trees.{table_root}
use Rattle.ckpt_step.specs.Records.{IsTyped}
use Rattle.ckpt_step.proofs.ByName.{by_name_length}
use Rattle.ckpt_step.proofs.ByPlace.{number_least, number_most, place_one}

-- ---- names

not_true : (b : ℕ) (n : ℕ) → not (b == n) ≡ true → b ≢ n
not_true b n differs same = let is = eq-eqb b n same in let isnt : not (b == n) ≡ false = rw is refl in both_ways (not (b == n)) isnt differs

byte_fits : (b : ℕ) → is_name_byte b ≡ true → b < 256 → IsNameByte b
byte_fits b is fits =
    let parts = and_parts (nat_lt 32 b) (not (b == 58) && not (b == 127)) is in
    let rest = and_parts (not (b == 58)) (not (b == 127)) parts.1 in
    record { visible = (let low = ltb-true 32 b parts.0 in omega arith); delete = not_true b 127 rest.1; colon = not_true b 58 rest.0; byte = fits }

bytes_fit : (name : List ℕ) → list_all is_name_byte name ≡ true → IsBytes name → AllByRecursion (λ (b : ℕ). IsNameByte b) name
bytes_fit [] all fits = tt
bytes_fit (b ∷ name) all fits =
    let parts = and_parts (is_name_byte b) (list_all is_name_byte name) all in
    (byte_fits b parts.0 (fits 0), bytes_fit name parts.1 (λ i. fits (suc i)))

name_fits : (name : List ℕ) → is_name name ≡ true → IsBytes name → IsTableName name
name_fits name is fits =
    let parts = and_parts (nat_lt 0 (length name)) (nat_le (length name) 128 && list_all is_name_byte name) is in
    let rest = and_parts (nat_le (length name) 128) (list_all is_name_byte name) parts.1 in
    record { some = (let some = ltb-true 0 (length name) parts.0 in omega arith); most = leb-true (length name) 128 rest.0; bytes = bytes_fit name rest.1 fits }

-- ---- tables, each with the root of its tree

abbrev pub rooted : (Table → Root) → List Table → List TableRoot
rooted roots tables = map {A = Table} (λ t. table_root t (roots t)) tables

-- what is known of a table of a catalog
record IsNamed (next : ℕ) (t : Table) : Type 0 where
  from_one : 1 ≤ t.number
  below_next : t.number < next
  name : is_name t.name ≡ true

each_fits : (next : ℕ) (roots : Table → Root) (tables : List Table) → ((t : Table) → Member t tables → IsNamed next t) → AllByRecursion IsTyped (rooted roots tables) → AllByRecursion (λ (t : TableRoot). TableFits next t) (rooted roots tables)
each_fits next roots [] each typed = tt
each_fits next roots (t ∷ later) each typed =
    let own = each t (inl refl) in (
      record {
        number = (own.from_one, own.below_next);
        name = name_fits t.name own.name typed.0.name;
        root = typed.0.root;
      },
      each_fits next roots later (λ u there. each u (inr there)) typed.1,
    )

names_climb : (roots : Table → Root) (tables : List Table) → NamesAscend tables → TablesClimb (rooted roots tables)
names_climb roots [] ascend = tt
names_climb roots (t ∷ []) ascend = tt
names_climb roots (t ∷ u ∷ later) ascend = (ascend.0, names_climb roots (u ∷ later) ascend.1)

-- a number has one table
number_one : (known : Known) (t u : Table) → AreTables known → Member t known.tables → Member u known.tables → u.number ≡ t.number → u ≡ t
number_one known t u are there also same =
    let i = index-of known.tables u also in
    let j = index-of known.tables t there in
    let place = place_one 1 known.tables known.next i.0 j.0 u t are.numbers i.1 j.1 same in
    same_Some u t (sym i.1 ∙ (ap (slice_get known.tables) place ∙ j.1))

others_differ : (known : Known) (roots : Table → Root) (t : Table) (later : List Table) → AreTables known → Member t known.tables → ((u : Table) → Member u later → Member u known.tables)
    → AllByRecursion (λ (u : Table). is_below t.name u.name ≡ true) later → AllByRecursion (λ (u : TableRoot). u.table.number ≢ t.number) (rooted roots later)
others_differ known roots t [] are there within above = tt
others_differ known roots t (u ∷ later) are there within above = (
  (λ same. below_self t.name (subst (λ (z : Table). is_below t.name z.name ≡ true) (number_one known t u are there (within u (inl refl)) same) above.0)),
  others_differ known roots t later are there (λ v at. within v (inr at)) above.1,
)

numbers_once : (known : Known) (roots : Table → Root) (tables : List Table) → AreTables known → ((t : Table) → Member t tables → Member t known.tables) → Ascend tables → NumbersOnce (rooted roots tables)
numbers_once known roots [] are within ascend = tt
numbers_once known roots (t ∷ later) are within ascend =
    (others_differ known roots t later are (within t (inl refl)) (λ u there. within u (inr there)) ascend.0, numbers_once known roots later are (λ u there. within u (inr there)) ascend.1)

-- ---- the tables of a catalog

-- what a record asks of its tables
pub record TablesFit (next : ℕ) (tables : List TableRoot) : Type 0 where
  pub count : length tables ≤ 1024
  pub each : AllByRecursion (λ (t : TableRoot). TableFits next t) tables
  pub climb : TablesClimb tables
  pub once : NumbersOnce tables

pub tables_fit : (known : Known) (roots : Table → Root) → AreTables known → AllByRecursion IsTyped (rooted roots (by_name known.tables)) → TablesFit known.next (rooted roots (by_name known.tables))
tables_fit known roots are typed = record {
  count = omega (arith, are.few, by_name_length known.tables, length-map (by_name known.tables) (λ (t : Table). table_root t (roots t)));
  each = each_fits known.next roots (by_name known.tables) (λ t there. named t (within t there)) typed;
  climb = names_climb roots (by_name known.tables) (order_ascends known.tables are.distinct);
  once = numbers_once known roots (by_name known.tables) are within (sorted_ascends known.tables are.distinct);
} where
  within : (t : Table) → Member t (by_name known.tables) → Member t known.tables
  within t there = (order_keeps known.tables t).0 there

  named : (t : Table) → Member t known.tables → IsNamed known.next t
  named t there = record {
    from_one = number_least 1 known.tables known.next t are.numbers there;
    below_next = number_most 1 known.tables known.next t are.numbers there;
    name = all_member (λ (u : Table). is_name u.name ≡ true) known.tables t are.names there;
  }

-- ---- as a record has them

pub rooted_tables : (roots : Table → Root) (tables : List Table) → tables_of (rooted roots tables) ≡ tables
rooted_tables roots [] = refl
rooted_tables roots (t ∷ later) = ap (λ (l : List Table). t ∷ l) (rooted_tables roots later)

-- ---- the snapshot

ids_ascend : (low : ℕ) (ids : List ℕ) (high : ℕ) → Ascends low ids high → IdsAscend low high ids
ids_ascend low [] high ascend = tt
ids_ascend low (id ∷ ids) high ascend = (ascend.0, (let most = ascends-bound (id + 1) high ids ascend.1 in omega arith), ids_ascend (id + 1) ids high ascend.1)

pub snapshot_fits : (s : Sight) → IsSight s → s.max < 2 ^ 64 → length s.list ≤ 64 → SnapshotFits (record { min = s.min; max = s.max; ids = s.list })
snapshot_fits s is max few = record {
  order = ascends-bound s.min s.max s.list is.ascending;
  max = max;
  few = few;
  ids = ids_ascend s.min s.list s.max is.ascending;
}
