use Rattle.std.proofs.Common.{List, subst}
use Rattle.stamp.specs.declared.name.Name.{Name}
use Rattle.row_page.specs.Rows.{Row}
use Rattle.snapshot.specs.Past.{is_below}
use Rattle.leaf_chains.proofs.NameLemmas.{none_later}
use Rattle.leaf_frame.specs.Leaf.{HeldLeaf, leaf_of, rows_of}
use Rattle.leaf_frame.specs.Updates.{NoneAbove}
use Rattle.leaf_frame.proofs.Greatests.{NoneShown, none_above, none_shown, none_shown_empty}
use Rattle.std.proofs.Common.{◌≡◌, false}
use Rattle.leaf_frame.proofs.frame.LeafFrame.greatest.Goals as goal

pub returns-in-None : goal.returns-in-None
returns-in-None c =
    let name = c.greatest.result in
    subst (λ (l : HeldLeaf). NoneAbove name l) c.self.view_is
    (none_above name (leaf_of (rows_of c.self.inside.page) c.self.inside.chains) c.greatest.ensures (subst (λ (rows : List Row). NoneShown name rows) c.in-None.ensures (none_shown_empty name)))

pub returns-in-Some : goal.returns-in-Some
returns-in-Some c =
    let name = c.later.result in
    let rows = c.in-Some.leaf.now in
    let over = subst (λ (n : Name). is_below name n ≡ false) c.greatest-in-Some.ensures c.later.ensures.first in
    subst (λ (l : HeldLeaf). NoneAbove name l) c.self.view_is
    (none_above name (leaf_of (rows_of c.self.inside.page) c.self.inside.chains) (none_later c.greatest-in-Some-2.result name c.self.inside.chains c.later.ensures.second c.greatest-in-Some-2.ensures)
    (subst (λ (l : List Row). NoneShown name l) c.in-Some.ensures (none_shown name rows over)))
