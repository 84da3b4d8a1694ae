use Rattle.std.proofs.Common.{◌≡◌, ◌+◌, ◌<◌, ◌≤◌, ◌∙◌, ◌++◌, ◌∷◌, [], ℕ, List, None, length, take, drop, sym, ap, subst}
use Rattle.kv_model.specs.History.{Table, named}
use Rattle.catalog.specs.Known.{Known, by_name, with_new}
use Rattle.catalog.specs.Order.{SplitsAt}
use Rattle.catalog.proofs.Distinct.{nowhere_named}
use Rattle.catalog.proofs.Sorting.{catalog_put, catalog_is}
use Rattle.catalog.proofs.catalog.Catalog.append.Goals as goal

pub invariant_of-self-2 : goal.invariant_of-self-2
invariant_of-self-2 c =
    let known : Known = record { tables = c.self.inside.tables.items; next = c.self.inside.next } in
    let places = c.self.inside.places.items in
    let i = c.args.i in
    let t = c.args.table in
    let view : known ≡ c.args.self.now = c.self.view_is in
    let none : named t.name known.tables ≡ None = subst (λ (k : Known). named t.name k.tables ≡ None) (sym view) (nowhere_named t.name c.args.self.now.tables c.requires.absent.0) in
    let splits : SplitsAt (by_name known.tables) t.name i = subst (λ (k : Known). SplitsAt (by_name k.tables) t.name i) (sym view) c.requires.absent.1 in
    let few : length known.tables < 1024 = subst (λ (k : Known). length k.tables < 1024) (sym view) c.requires.few in
    let number : c.table.inside.number ≡ t.number = ap (λ (u : Table). u.number) c.table.view_is in
    let above : known.next ≤ t.number = subst (λ (k : Known). k.next ≤ t.number) (sym view) c.requires.number.0 in
    catalog_is (with_new known t) (take i places ++ length known.tables ∷ drop i places) c.put.new.tables.items (c.table.inside.number + 1) c.put.new.places.items
    (catalog_put known t places i c.self.invariant none splits few c.requires.name above c.requires.number.1)
    (c.put.ensures.tables ∙ ap (λ (l : List Table). l ++ t ∷ []) c.reserve.ensures.items)
    (ap (λ (n : ℕ). n + 1) number)
    (c.put.ensures.places ∙ ap (λ (l : List ℕ). take i l ++ length c.reserve.new.self.items ∷ drop i l) c.reserve-2.ensures.items ∙ ap (λ (l : List Table). take i places ++ length l ∷ drop i places) c.reserve.ensures.items)
