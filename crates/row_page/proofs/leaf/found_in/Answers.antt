use Rattle.std.proofs.Common.{◌≡◌, ℕ, List, drop, subst, arith}
use Rattle.std.specs.Prelude.{None, Some}
use Rattle.le_codec.specs.Fields.{IsBytes}
use Rattle.le_codec.specs.Images.{first_format, HoldsImage}
use Rattle.le_codec.proofs.Opened.{text_bytes}
use Rattle.row_page.specs.declared.leaf.Found.{Found}
use Rattle.row_page.specs.Rows.{Row, IsPage}
use Rattle.row_page.specs.Reading.{leaf_at}
use Rattle.row_page.specs.Places.{rows_from, AreFound}
use Rattle.row_page.proofs.Grammar.{no_image}
use Rattle.row_page.proofs.Founds.{if_some, if_none, found_in_block, page_of, no_page, no_leaf_above, no_long_leaf}
use Rattle.row_page.proofs.leaf.found_in.Goals as goal
use Rattle.row_page.proofs.leaf.found_in.Goals.{then-level-ne0-via-then-level-ne0, then-level-ne0-via-else-level-ne0+then-text-gt-TEXT_MAX}

pub returns-in_default-clause-none : goal.returns-in_default-clause-none
returns-in_default-clause-none c = no_image c.args.block.now c.in_default.ensures.none

pub returns-then-level-ne0-clause-none : goal.returns-then-level-ne0-clause-none
returns-then-level-ne0-clause-none c =
    let i = c.in-Some.image in
    elim c.then-level-ne0.branch [
      | then-level-ne0-via-then-level-ne0 w ↦ no_page c.args.block.now i.count i.level i.text.now c.in-Some.ensures.found (no_leaf_above i.count i.level i.text.now w.if-level-ne0.true)
      | then-level-ne0-via-else-level-ne0+then-text-gt-TEXT_MAX w ↦ no_page c.args.block.now i.count i.level i.text.now c.in-Some.ensures.found (no_long_leaf i.count i.level i.text.now (omega (arith, w.if-text-gt-TEXT_MAX.true)))
    ]

holds : (c : goal.After-cells_in) → HoldsImage 1 first_format c.args.block.now c.in-Some.image.count 0 c.in-Some.image.text.now
holds c = subst (λ (n : ℕ). HoldsImage 1 first_format c.args.block.now c.in-Some.image.count n c.in-Some.image.text.now) c.if-level-ne0.false c.in-Some.ensures.found

bytes : (c : goal.After-cells_in) → IsBytes c.in-Some.image.text.now
bytes c = text_bytes 1 first_format c.in-Some.image.count 0 c.in-Some.image.text.now c.args.block.now (λ i. omega (arith, c.type_inv.block i)) (holds c).spelled

pub returns-clause-found : goal.returns-clause-found
returns-clause-found c =
    let i = c.in-Some.image in
    if_some (λ (f : Found). AreFound i.text.now f.places.items f.greatest.name f.greatest.durable) (λ (f : Found). AreFound i.text.now f.places.items f.greatest.name f.greatest.durable) (λ (f : Found). AreFound (drop 16 c.args.block.now) f.places.items f.greatest.name f.greatest.durable) c.cells_in.result
    (λ f h again. (found_in_block 1 i.count 0 i.text.now c.args.block.now f.places.items f.greatest.name f.greatest.durable (bytes c) (holds c) h).0)
    c.cells_in.ensures.found c.cells_in.ensures.found

pub returns-clause-page : goal.returns-clause-page
returns-clause-page c =
    let i = c.in-Some.image in
    if_some (λ (f : Found). AreFound i.text.now f.places.items f.greatest.name f.greatest.durable) (λ (f : Found). leaf_at i.count 0 i.text.now ≡ Some (rows_from i.text.now f.places.items)) (λ (f : Found). IsPage c.args.block.now (rows_from (drop 16 c.args.block.now) f.places.items)) c.cells_in.result
    (λ f h leaf. page_of c.args.block.now i.count i.text.now f.places.items f.greatest.name f.greatest.durable (bytes c) (holds c) h leaf)
    c.cells_in.ensures.found c.cells_in.ensures.leaf

pub returns-clause-none : goal.returns-clause-none
returns-clause-none c =
    let i = c.in-Some.image in
    if_none (leaf_at i.count 0 i.text.now ≡ None) ((rows : List Row) → IsPage c.args.block.now rows → ⊥) c.cells_in.result (no_page c.args.block.now i.count 0 i.text.now (holds c)) c.cells_in.ensures.none
