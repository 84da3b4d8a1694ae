-- Where the trees stand that were surveyed, and a store that is ready for another checkpoint.
use Rattle.std.proofs.Common.{◌≡◌, ◌≤◌, ℕ, List, [], ◌∷◌, length, map, reverse, Some, refl, sym, ap, subst, ◌∙◌, inl, inr, arith}
use Rattle.std.specs.Prelude.{slice_get}
use Rattle.std.specs.List.{AllByRecursion}
use Rattle.std.proofs.lemmas.Bool.{cases_lt}
use Rattle.std.proofs.lemmas.Option.{slice_get_within}
use Rattle.kv_model.specs.Content.{descending, table_lt}
use Rattle.kv_model.specs.Holds.{Member}
use Rattle.kv_model.proofs.Sorting.{member-descending}
use Rattle.kv_model.specs.History.{Table}
use Rattle.txn_table.specs.Tabled.{Table as Tabled}
use Rattle.stored.specs.Records.{IsRecord, Root, TableFits, TableRoot}
use Rattle.stored.specs.Stored.{tables_of as record_tables}
use Rattle.tree_open.specs.declared.place.TreePlace.{TreePlace}
use Rattle.tree_open.specs.declared.place.Upper.{Upper}
use Rattle.recover_open.specs.declared.wholes.Whole.{Whole}
use Rattle.recover_open.specs.Bare.{marks_of}
use Rattle.engine_world.specs.Stands.{Engine}
use Rattle.engine.specs.Directories.{HubGoesOn}
use Rattle.engine_start.specs.declared.table_entries.TableEntries.{TableEntries}
use Rattle.engine_start.specs.Entries.{IsUnread}
use Rattle.engine_start.proofs.Placing.{member_turned}
use Rattle.ckpt_step.specs.Trees.{AreLow}
use Rattle.ckpt_step.proofs.Members.{all_of, get_within}
use Rattle.engine_store.specs.declared.by_place.NumberedTree.{NumberedTree}
use Rattle.engine_store.specs.declared.store.Store.{Store}
use Rattle.engine_store.specs.ByPlace.{numbered_trees, places_in, their_place, tree_lt}
use Rattle.engine_store.specs.Opened.{IsReady}
use Rattle.engine_store.specs.Places.{AreOver}
use Rattle.engine_store.specs.Tables.{AreWithEntries}
use Rattle.engine_store.proofs.BorneTables.{tables_with}
use Rattle.engine_store.proofs.PlacedTrees.{length_known, length_places}

-- ---- where trees stand

pub over_many : (ps : List TreePlace) (tables : List TableRoot) (uppers : List Upper) → AreOver ps tables uppers → length ps ≡ length tables
over_many [] [] [] over = refl
over_many [] [] (u ∷ uppers) over = absurd over
over_many [] (t ∷ tables) uppers over = absurd over
over_many (p ∷ ps) [] uppers over = absurd over
over_many (p ∷ ps) (t ∷ tables) [] over = absurd over
over_many (p ∷ ps) (t ∷ tables) (u ∷ uppers) over = omega (arith, over_many ps tables uppers over.1)

over_low : (next : ℕ) (ps : List TreePlace) (tables : List TableRoot) (uppers : List Upper) → AllByRecursion (λ (t : TableRoot). TableFits next t) tables → AreOver ps tables uppers → AreLow ps
over_low next [] tables uppers fit over = tt
over_low next (p ∷ ps) [] uppers fit over = absurd over
over_low next (p ∷ ps) (t ∷ tables) [] fit over = absurd over
over_low next (p ∷ ps) (t ∷ tables) (u ∷ uppers) fit over = (subst (λ (r : Root). r.level ≤ 60) (sym over.0.root_is) fit.0.root.level, over_low next ps tables uppers fit.1 over.1)

low_member : (places : List TreePlace) (p : TreePlace) → AreLow places → Member p places → p.root.level ≤ 60
low_member places p low there = all_of (λ (x : TreePlace). x.root.level ≤ 60) places p low there

numbered_low : (tables : List TableRoot) (places : List TreePlace) (n : NumberedTree) → AreLow places → Member n (numbered_trees tables places) → n.tree.root.level ≤ 60
numbered_low [] places n low there = absurd there
numbered_low (t ∷ tables) [] n low there = absurd there
numbered_low (t ∷ tables) (p ∷ places) n low (inl same) = subst (λ (x : NumberedTree). x.tree.root.level ≤ 60) (sym same) low.0
numbered_low (t ∷ tables) (p ∷ places) n low (inr later) = numbered_low tables places n low.1 later

all_low : (ns : List NumberedTree) → ((n : NumberedTree) → Member n ns → n.tree.root.level ≤ 60) → AreLow (map their_place ns)
all_low [] each = tt
all_low (n ∷ ns) each = (each n (inl refl), all_low ns (λ x there. each x (inr there)))

low_places : (tables : List TableRoot) (places : List TreePlace) → AreLow places → AreLow (places_in tables places)
low_places tables places low = all_low (reverse (descending tree_lt (numbered_trees tables places))) (λ n there. numbered_low tables places n low (member-descending tree_lt (numbered_trees tables places) n (member_turned n (descending tree_lt (numbered_trees tables places)) there)))

-- tables that keep their places are no fewer
no_fewer : (known next : List Table) → ((i : ℕ) (t : Table) → slice_get known i ≡ Some t → slice_get next i ≡ Some t) → length known ≤ length next
no_fewer known next stay = elim (cases_lt (length next) (length known)) [
  | inr least ↦ least
  | inl less ↦ let t = get_within known (length next) less in absurd (omega (arith, slice_get_within next (length next) t.0 (stay (length next) t.0 t.1)))
]

-- ---- with a checkpoint

module _ (a : Whole) (is_record : IsRecord a.record) (both : List TableEntries) (with : AreWithEntries both a.record.tables a.uppers.items) (e : Engine) (unread : IsUnread (marks_of a.record) both e) (s : Store) (goes : HubGoesOn e.hub s.engine.hub)
    (ps : List TreePlace) (over : AreOver ps a.record.tables a.uppers.items) (trees_are : s.ground.trees.items ≡ places_in a.record.tables ps) (number : s.ground.number ≡ a.record.sequence) where
  pub many : length ps ≡ length a.record.tables
  many = over_many ps a.record.tables a.uppers.items over

  pub known_are : reverse e.hub.tables.tables ≡ descending table_lt (record_tables a.record.tables)
  known_are = unread.tables_are ∙ ap (descending table_lt) (tables_with both a.record.tables a.uppers.items with)

  pub ready_above : IsReady s
  ready_above = record {
    run = omega (arith, goes.run, ap (λ (t : Tabled). t.run) unread.txns, number, is_record.run.1);
    trees = omega (arith, ap (λ (l : List TreePlace). length l) trees_are, length_places a.record.tables ps many, length_known a.record.tables e.hub.tables.tables known_are, no_fewer e.hub.tables.tables s.engine.hub.tables.tables goes.tables);
    low = subst AreLow (sym trees_are) (low_places a.record.tables ps (over_low a.record.next_table ps a.record.tables a.uppers.items is_record.tables over));
  }

-- ---- without a checkpoint

pub ready_none : (s : Store) → s.engine.hub.txns.run ≡ 1 → s.ground.trees.items ≡ [] → IsReady s
ready_none s run none = record { run = omega (arith, run); trees = omega (arith, ap (λ (l : List TreePlace). length l) none); low = subst AreLow (sym none) tt }
