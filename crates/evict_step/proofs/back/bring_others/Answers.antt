use Rattle.std.proofs.Common.{◌≡◌, ◌∙◌, ◌≤◌, ℕ, [], List, ap, arith, length, sym, subst}
use Rattle.std.proofs.lemmas.Bool.{eqb-true}
use Rattle.item.specs.declared.Change.{Change}
use Rattle.stamp.specs.declared.Version.{Version}
use Rattle.leaf_chains.specs.declared.slot.KeyChain.{KeyChain}
use Rattle.leaf_rows.specs.Rows.{AreFit}
use Rattle.leaf_frame.specs.Leaf.{HeldLeaf}
use Rattle.reconcile.specs.declared.image.Moved.{Moved}
use Rattle.reconcile.specs.Held.{page_rows}
use Rattle.reconcile.specs.Moving.{versions_in}
use Rattle.row_page.specs.Rows.{Row}
use Rattle.engine_world.specs.Coming.{ComesFrom}
use Rattle.evict_step.specs.Backs.{AreNewestFirst, HasVersions, with_shown}
use Rattle.evict_step.proofs.BroughtBack.{bare-fits, bare-leaf, comes-alone, comes-from, moved-first, none-of-length}
use Rattle.evict_step.proofs.back.bring_others.Goals as goal

page_alone : (read : HeldLeaf) → read.chains ≡ [] → read ≡ record { page = read.page; chains = [] }
page_alone read bare = ap (λ (chains : List KeyChain). let leaf : HeldLeaf = record { page = read.page; chains = chains } in leaf) bare

pub returns-then-is_empty-clause-comes : goal.returns-then-is_empty-clause-comes
returns-then-is_empty-clause-comes c = λ first. comes-alone c.args.read c.args.read.page c.args.moved.items (page_alone c.args.read c.requires.bare)
    (none-of-length c.args.moved.items (ap length (sym c.as_slice.ensures.value) ∙ eqb-true (length c.as_slice.result.now) 0 (sym c.is_empty.ensures ∙ c.if-is_empty.true)))

pub returns-then-is_empty-clause-alone : goal.returns-then-is_empty-clause-alone
returns-then-is_empty-clause-alone c = λ first some. none-of-length c.args.moved.items (ap length (sym c.as_slice.ensures.value) ∙ eqb-true (length c.as_slice.result.now) 0 (sym c.is_empty.ensures ∙ c.if-is_empty.true))

pub returns-then-is_empty-clause-fit : goal.returns-then-is_empty-clause-fit
returns-then-is_empty-clause-fit c = bare-fits c.args.read c.args.read.page (page_alone c.args.read c.requires.bare)

-- ---- a leaf without rows

pub returns-in-None-clause-comes : goal.returns-in-None-clause-comes
returns-in-None-clause-comes c = λ first.
    let none : [] ≡ c.args.read.page = sym (ap page_rows c.in-None.is) ∙ c.page.ensures.rows in
    let below = c.in_ok-put_moved.ensures.put (bare-leaf c.new-leaf.result c.new-leaf.ensures) (moved-first c.args.read.page c.args.moved.items first) in
    comes-from c.put_moved.new.leaf c.args.read.page c.args.moved.items
    (subst (λ (rows : List Row). HasVersions c.put_moved.new.leaf (with_shown rows (λ key. versions_in key c.args.moved.items))) none below)

-- a leaf all of which is in its chains has no page
no_page : (leaf : HeldLeaf) (versions : List ℕ → List (Version Change)) (moved : List Moved) → HasVersions leaf versions → 1 ≤ length leaf.page → moved ≡ []
no_page leaf versions moved has some = absurd (let none = ap (λ (rows : List Row). length rows) has.page in omega (arith, none, some))

pub returns-in-None-clause-alone : goal.returns-in-None-clause-alone
returns-in-None-clause-alone c = λ first some.
    no_page c.put_moved.new.leaf (λ key. versions_in key c.args.moved.items) c.args.moved.items (c.in_ok-put_moved.ensures.put (bare-leaf c.new-leaf.result c.new-leaf.ensures) (moved-first c.args.read.page c.args.moved.items first)) some

pub returns-in-None-clause-fit : goal.returns-in-None-clause-fit
returns-in-None-clause-fit c = c.in_ok-put_moved.ensures.fit (bare-fits c.new-leaf.result [] c.new-leaf.ensures)

-- ---- one with rows

pub put_rows-requires : goal.put_rows-requires
put_rows-requires c =
    let rows : c.in-Some.page.now ≡ c.args.read.page = sym (ap page_rows c.in-Some.is) ∙ c.page.ensures.rows in
    subst (λ (l : List Row). AreFit l) (sym rows) c.page.ensures.fit

pub returns-clause-comes : goal.returns-clause-comes
returns-clause-comes c = λ first.
    let rows : c.in-Some.page.now ≡ c.args.read.page = sym (ap page_rows c.in-Some.is) ∙ c.page.ensures.rows in
    let own : AreNewestFirst c.in-Some.page.now c.args.moved.items = subst (λ (l : List Row). AreNewestFirst l c.args.moved.items) (sym rows) first in
    subst (λ (l : List Row). ComesFrom c.put_rows.new.leaf l (λ key. versions_in key c.args.moved.items)) rows
    (comes-from c.put_rows.new.leaf c.in-Some.page.now c.args.moved.items
    (c.in_ok-put_rows-in-Some.ensures.put (λ key. versions_in key c.args.moved.items) (c.in_ok-put_moved.ensures.put (bare-leaf c.new-leaf.result c.new-leaf.ensures) (moved-first c.in-Some.page.now c.args.moved.items own)) own))

pub returns-clause-alone : goal.returns-clause-alone
returns-clause-alone c = λ first some.
    let rows : c.in-Some.page.now ≡ c.args.read.page = sym (ap page_rows c.in-Some.is) ∙ c.page.ensures.rows in
    let own : AreNewestFirst c.in-Some.page.now c.args.moved.items = subst (λ (l : List Row). AreNewestFirst l c.args.moved.items) (sym rows) first in
    no_page c.put_rows.new.leaf (with_shown c.in-Some.page.now (λ key. versions_in key c.args.moved.items)) c.args.moved.items
    (c.in_ok-put_rows-in-Some.ensures.put (λ key. versions_in key c.args.moved.items) (c.in_ok-put_moved.ensures.put (bare-leaf c.new-leaf.result c.new-leaf.ensures) (moved-first c.in-Some.page.now c.args.moved.items own)) own) some

pub returns-clause-fit : goal.returns-clause-fit
returns-clause-fit c = c.in_ok-put_rows-in-Some.ensures.fit (c.in_ok-put_moved.ensures.fit (bare-fits c.new-leaf.result [] c.new-leaf.ensures))
