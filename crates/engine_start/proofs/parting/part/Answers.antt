use Rattle.std.proofs.Common.{◌≡◌, ◌∙◌, ◌++◌, [], ◌∷◌, ℕ, List, length, ap, sym, subst, arith}
use Rattle.std.specs.List.{All, AllByRecursion}
use Rattle.std.proofs.lemmas.List.{append_assoc, append-nil, map-append}
use Rattle.kv_model.specs.History.{Table}
use Rattle.kv_model.specs.Regular.{AllApart, SameNumber}
use Rattle.stored.specs.TableTree.{Climbs}
use Rattle.tree_dir.specs.declared.leaf.Leaf.{Leaf}
use Rattle.tree_dir.specs.Leaves.{HasTable, no_leaves}
use Rattle.engine_start.specs.declared.table_entries.TableEntries.{TableEntries}
use Rattle.engine_start.specs.Entries.{AreAdded, entries_of, tables_of}
use Rattle.engine_start.proofs.TablesAdded.{added_more, climbs_at, none_of}
use Rattle.engine_start.proofs.parting.part.Goals as goal

-- the table that comes next is the first of those that are left
whole : (done after left all : List TableEntries) (t : TableEntries) → left ≡ t ∷ after → done ++ left ≡ all → done ++ t ∷ after ≡ all
whole done after left all t next is = ap (λ (l : List TableEntries). done ++ l) (sym next) ∙ is

none_left : (done left all : List TableEntries) → length left ≡ 0 → done ++ left ≡ all → done ≡ all
none_left done [] all none is = sym (append-nil done) ∙ is
none_left done (x ∷ left) all none is = absurd (omega (arith, none))

pub add-requires-clause-new : goal.add-requires-clause-new
add-requires-clause-new c =
    let all = whole c.loop-one.yielded c.next.new.self.rest.items c.loop-one.one-iterator.rest.items c.args.both.items c.in-Some.one c.in-Some.ensures.steps.0 c.loop-one.invariant.left in
    subst (λ (n : ℕ). All (λ (l : Leaf). l.table ≡ n → ⊥) c.loop-one.dir.leaves) (ap (λ (t : Table). t.number) (sym c.table.view_is))
    (none_of c.loop-one.yielded c.next.new.self.rest.items c.in-Some.one c.loop-one.dir (subst (λ (l : List TableEntries). AllApart SameNumber (tables_of l)) (sym all) c.requires.once) c.loop-one.invariant.added)

pub add-requires-clause-climb : goal.add-requires-clause-climb
add-requires-clause-climb c =
    let all = whole c.loop-one.yielded c.next.new.self.rest.items c.loop-one.one-iterator.rest.items c.args.both.items c.in-Some.one c.in-Some.ensures.steps.0 c.loop-one.invariant.left in
    climbs_at c.loop-one.yielded c.next.new.self.rest.items c.in-Some.one (subst (λ (l : List TableEntries). AllByRecursion (λ (x : TableEntries). Climbs (entries_of x)) l) (sym all) c.requires.climb)

pub loop-one-preserved : goal.loop-one-preserved
loop-one-preserved c =
    let now = c.loop-one.invariant in
    let done = c.loop-one.yielded in
    let t = c.in-Some.one in
    let after = c.next.new.self.rest.items in
    let added = subst (λ (n : ℕ). (ids : List ℕ) × HasTable c.loop-one.dir c.add.new.dir n (entries_of t) ids) (ap (λ (x : Table). x.number) c.table.view_is) c.in_ok-add.ensures in
    record {
      left = append_assoc done (t ∷ []) after ∙ whole done after c.loop-one.one-iterator.rest.items c.args.both.items t c.in-Some.ensures.steps.0 now.left;
      tables = c.in_ok-push.ensures ∙ (ap (λ (l : List Table). l ++ t.table ∷ []) now.tables ∙ sym (map-append (λ (x : TableEntries). x.table) done (t ∷ [])));
      added = added_more no_leaves c.loop-one.dir c.add.new.dir done t added.0 now.added added.1;
    }

pub returns : goal.returns
returns c =
    let now = c.loop-one.invariant in
    let all = none_left c.loop-one.yielded c.loop-one.one-iterator.rest.items c.args.both.items (omega (arith, c.in-None.ensures.steps.0, c.loop-one.one-iterator.rest.ok.0)) now.left in
    record { tables = now.tables ∙ ap tables_of all; added = subst (λ (l : List TableEntries). AreAdded no_leaves l c.loop-one.dir) all now.added }
