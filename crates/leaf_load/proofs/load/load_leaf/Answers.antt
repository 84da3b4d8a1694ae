use Rattle.std.proofs.Common.{◌≡◌, Bool, IsTrue, List, option_map, subst, sym, ℕ}
use Rattle.std.specs.Borrow.{Bor}
use Rattle.std.specs.Prelude.{filter, not}
use Rattle.row_page.specs.Rows.{AreRows, Row, is_below}
use Rattle.stored.specs.TableTree.{ends_below}
use Rattle.leaf_rows.specs.Rows.{AreFit}
use Rattle.leaf_rows.specs.Contents.{is_seen_row}
use Rattle.leaf_rows.proofs.Filters.{filter_fit}
use Rattle.recover_open.specs.Leaves.{AreUnder}
use Rattle.leaf_frame.specs.Leaf.{HeldLeaf}
use Rattle.leaf_load.specs.Loads.{entry_of}
use Rattle.leaf_load.proofs.Seen.{some_all}
use Rattle.leaf_load.proofs.load.load_leaf.Goals as goal

fit_of : (page kept : List Row) (p : Row → Bool) → AreRows page → kept ≡ filter p page → AreFit kept
fit_of page kept p are is = subst AreFit (sym is) (filter_fit p page (record { fit = are.fit; ascend = are.ascend }))

pub of_page-requires : goal.of_page-requires
of_page-requires g c = fit_of c.in-Ok.page c.in-Ok-keep_seen.kept (is_seen_row c.args.marks c.args.ids.now) c.in-Ok.ensures.fit c.in-Ok-keep_seen.ensures

pub returns-in-Ok-keep_seen-clause-keys : goal.returns-in-Ok-keep_seen-clause-keys
returns-in-Ok-keep_seen-clause-keys g c =
    let e = entry_of c.args.low.now c.args.link in
    let next = option_map (λ (k : Bor (List ℕ)). k.now) c.args.high in
    subst (λ (l : HeldLeaf). AreUnder e next l.page) (sym c.of_page.ensures)
    (subst (λ (l : List Row). AreUnder e next l) (sym c.in-Ok-keep_seen.ensures)
    (some_all (λ (r : Row). IsTrue (not (is_below r.0 e.key)) × IsTrue (ends_below next r.0)) (is_seen_row c.args.marks c.args.ids.now) c.in-Ok.page c.in-Ok.ensures.keys))
