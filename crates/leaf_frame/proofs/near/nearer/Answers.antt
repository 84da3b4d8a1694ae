use Rattle.std.proofs.Common.{◌∙◌, ℕ, List, refl, ap, sym}
use Rattle.std.specs.Ordering.{nat_cmp}
use Rattle.std.specs.Cmp.Lexicographic.{slice_cmp}
use Rattle.leaf_frame.specs.Near.{towards}
use Rattle.leaf_frame.specs.Ways.{way_in}
use Rattle.leaf_frame.proofs.Keys.{first_comes, same_keys, second_comes}
use Rattle.leaf_frame.proofs.near.nearer.Goals as goal

pub returns-in-Less : goal.returns-in-Less
returns-in-Less c =
    let way = way_in c.args.way in
    let told = ap (towards way) (sym (c.order.ensures ∙ ap (λ (k : List ℕ). slice_cmp nat_cmp k c.args.row.cell.key.now) c.as_bytes.ensures)) ∙ sym c.in-Less.ensures in
    (refl, first_comes way c.args.there.now.key c.args.row.cell.key.now told)

pub returns-in-Greater : goal.returns-in-Greater
returns-in-Greater c =
    let way = way_in c.args.way in
    let told = ap (towards way) (sym (c.order.ensures ∙ ap (λ (k : List ℕ). slice_cmp nat_cmp k c.args.row.cell.key.now) c.as_bytes.ensures)) ∙ sym c.in-Greater.ensures in
    (refl, second_comes way c.args.there.now.key c.args.row.cell.key.now told)

pub returns-in-Equal : goal.returns-in-Equal
returns-in-Equal c =
    let way = way_in c.args.way in
    let told = ap (towards way) (sym (c.order.ensures ∙ ap (λ (k : List ℕ). slice_cmp nat_cmp k c.args.row.cell.key.now) c.as_bytes.ensures)) ∙ sym c.in-Equal.ensures in
    (refl, (refl, same_keys way c.args.there.now.key c.args.row.cell.key.now told))
