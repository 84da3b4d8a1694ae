use Rattle.std.proofs.Common.{◌∙◌, ◌++◌, [], ◌∷◌, List, ℕ, ap, sym, subst, refl}
use Rattle.std.proofs.lemmas.List.{append-nil}
use Rattle.device_layout.specs.declared.addr.Addr.{Addr}
use Rattle.device_layout.specs.declared.link.Link.{Link}
use Rattle.row_page.specs.Rows.{IsPage}
use Rattle.tree_write.specs.Captures.{IsSafe}
use Rattle.tree_write.specs.Steps.{LeafWritten}
use Rattle.tree_write.proofs.Deciding.{some_rows}
use Rattle.tree_write.proofs.Joining.{may_looked}
use Rattle.tree_write.proofs.Keeping.{looked_same}
use Rattle.tree_write.proofs.LeafKeys.{low_some}
use Rattle.tree_write.proofs.LeafSteps.{leaf_fails, leaf_new, leaf_stays, want_space}
use Rattle.tree_write.proofs.OneBlock.{fails_alone, not_space}
use Rattle.tree_write.proofs.leaf.write_leaf.Goals as goal

pub returns-in_default-clause-writes : goal.returns-in_default-clause-writes
returns-in_default-clause-writes g c rows spells h old first may stays live =
    let d = c.args.disk.now in
    ([], c.reserve.ensures.items ∙ sym (append-nil c.args.captured.now.items), (refl, fails_alone g.D.Disk old first c.args.blocks.now d d (looked_same g.D.Disk d) (λ d left. g.met.D.Disk.only_now _ d left) (Unit {0}), λ is. want_space is))

pub returns-in-Err-clause-writes : goal.returns-in-Err-clause-writes
returns-in-Err-clause-writes g c rows spells h old first may stays live = (
  [],
  c.reserve.ensures.items ∙ sym (append-nil c.args.captured.now.items),
  (refl, fails_alone g.D.Disk old first c.args.blocks.now c.args.disk.now c.has_leaf.new.disk c.has_leaf.ensures.looked (λ d left. g.met.D.Disk.only_now _ d left) (IsSafe c.in-Err.error), λ is. absurd (not_space c.in-Err.error c.in-Err.ensures.err is)),
)

pub returns-in-Ok-true-clause-writes : goal.returns-in-Ok-true-clause-writes
returns-in-Ok-true-clause-writes g c rows spells h old first may stays live =
    let was = c.args.was in
    let test = c.in-Ok-true.field-0-test in
    let some = some_rows rows (low_some c.args.image.now.low rows spells.low) in (
      was.addr ∷ [],
      c.capture.ensures.listed ∙ ap (λ (l : List Addr). l ++ was.addr ∷ []) c.reserve.ensures.items,
      leaf_stays g.D.Disk old first c.args.blocks.now c.args.disk.now c.has_leaf.new.disk c.has_leaf.ensures.looked (λ d left. g.met.D.Disk.only_now _ d left) was rows some may stays live c.capture.new.blocks
          (c.in-Ok-true.ensures.is rows spells h test) (c.in-Ok-true.ensures.live test) c.capture.ensures.cells c.capture.ensures.space c.capture.ensures.synced,
    )

pub returns-in-Err-write_new-clause-writes : goal.returns-in-Err-write_new-clause-writes
returns-in-Err-write_new-clause-writes g c rows spells h old first may stays live =
    let D = g.D.Disk in
    let books = c.args.blocks.now in
    let looked = c.has_leaf.ensures.looked in
    let some = some_rows rows (low_some c.args.image.now.low rows spells.low) in
    let page = subst (λ (l : List ℕ). IsPage l rows) (sym c.deref.ensures.value) spells.page in
    let wrote = c.in-Err-write_new.ensures.writes rows page (looked.same ∙ h) old first (may_looked D old first books c.args.disk.now c.has_leaf.new.disk looked (λ d left. g.met.D.Disk.only_now _ d left) may) in
    let fails = leaf_fails D old first books c.args.disk.now c.has_leaf.new.disk looked (λ d left. g.met.D.Disk.only_now _ d left) c.args.was rows some may stays live
    (c.in-Ok-false.ensures.isnt rows spells h c.in-Ok-false.field-0-test) c.write_new.new.blocks c.write_new.new.disk c.in-Err-write_new.error wrote in
    ([], c.in-Err-write_new.ensures.none ∙ (c.reserve.ensures.items ∙ sym (append-nil c.args.captured.now.items)), (refl, fails.0, fails.1))

pub returns-in-Ok-write_new-clause-writes : goal.returns-in-Ok-write_new-clause-writes
returns-in-Ok-write_new-clause-writes g c rows spells h old first may stays live =
    let D = g.D.Disk in
    let books = c.args.blocks.now in
    let looked = c.has_leaf.ensures.looked in
    let some = some_rows rows (low_some c.args.image.now.low rows spells.low) in
    let page = subst (λ (l : List ℕ). IsPage l rows) (sym c.deref.ensures.value) spells.page in
    let wrote = c.in-Ok-write_new.ensures.writes rows page (looked.same ∙ h) old first (may_looked D old first books c.args.disk.now c.has_leaf.new.disk looked (λ d left. g.met.D.Disk.only_now _ d left) may) in
    let link : Link = record { addr = c.in-Ok-write_new.addr; greatest = c.args.image.now.greatest; durable = c.args.image.now.durable } in
    let new = leaf_new D old first books c.args.disk.now c.has_leaf.new.disk looked (λ d left. g.met.D.Disk.only_now _ d left) c.args.was rows some may stays live
    (c.in-Ok-false.ensures.isnt rows spells h c.in-Ok-false.field-0-test) c.write_new.new.blocks c.write_new.new.disk link (record { greatest = spells.greatest; durable = spells.durable }) wrote in (
      c.in-Ok-write_new.addr ∷ [],
      c.in-Ok-write_new.ensures.listed ∙ ap (λ (l : List Addr). l ++ c.in-Ok-write_new.addr ∷ []) c.reserve.ensures.items,
      subst (λ (l : Link). LeafWritten D old first books c.write_new.new.blocks c.args.disk.now c.write_new.new.disk c.args.was rows (c.in-Ok-write_new.addr ∷ []) l) (sym c.link_to.ensures.link) new,
    )
