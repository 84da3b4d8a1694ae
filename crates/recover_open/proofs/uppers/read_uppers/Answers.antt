use Rattle.std.proofs.Common.{◌∙◌, ◌∷◌, [], ap, subst, refl, arith, length, List, ℕ}
use Rattle.std.proofs.lemmas.List.{length-append}
use Rattle.disk_model.proofs.Crash.{looked_then}
use Rattle.device_leaf.proofs.Opens.{rose_sooner}
use Rattle.tree_open.specs.Trees.{InnerIs}
use Rattle.tree_open.proofs.Steps.{looked_none}
use Rattle.recover_open.proofs.UpperPlaces.{have_none, have_more, have_whole, climb_none, climb_more}
use Rattle.recover_open.proofs.Steps.{inner_refused, tree_later}
use Rattle.recover_open.proofs.Sole.{of_inner}
use Rattle.recover_open.proofs.uppers.read_uppers.Goals as goal

pub loop-table-init : goal.loop-table-init
loop-table-init g c = record {
  looked = looked_none g.D.Disk _;
  home = refl;
  climb = climb_none c.new-uppers.result.items c.new-uppers.ensures.items;
  count = ap length c.new-uppers.ensures.items;
  have = λ h. have_none (g.D.Disk.seen c.args.disk.now) c.args.tables.now c.new-uppers.result.items c.new-uppers.ensures.items;
}

pub returns-in-Err-clause-err : goal.returns-in-Err-clause-err
returns-in-Err-clause-err g c =
    let D = g.D.Disk in
    let now = c.loop-table.invariant in
    tree_later _ _ _ _ (D.seen c.args.disk.now) (D.seen c.loop-table.disk) c.args.tables.now c.table-item.result c.root_of.result _ (c.loop-table.table-index, c.loop-table-test.true, c.table-item.is) c.root_of.ensures
    (inner_refused _ _ (D.seen c.loop-table.disk) c.root_of.result c.in-Err.refusal c.in-Err.ensures.err) (rose_sooner _ _ _ now.looked.count) (λ h. now.looked.same ∙ h) now.looked.content

pub loop-table-preserved : goal.loop-table-preserved
loop-table-preserved g c =
    let D = g.D.Disk in
    let now = c.loop-table.invariant in
    let upper = c.in-Ok.upper in
    record {
      looked = looked_then D _ _ _ now.looked c.read_tree.ensures.looked;
      home = c.read_tree.ensures.home ∙ now.home;
      climb = climb_more c.loop-table.uppers.items c.put_upper.new.uppers.items upper now.climb c.in-Ok.ensures.climbs c.in-Ok-put_upper.ensures;
      count = omega (arith, ap length c.in-Ok-put_upper.ensures, length-append c.loop-table.uppers.items (upper ∷ []), now.count);
      have = λ h.
          have_more (D.seen c.args.disk.now) c.args.tables.now c.loop-table.table-index c.table-item.result c.root_of.result c.loop-table.uppers.items c.put_upper.new.uppers.items upper c.loop-table-test.true c.table-item.is c.root_of.ensures (now.have h)
          (subst (λ (l : List ℕ). InnerIs l c.root_of.result upper.entries.items upper.addrs.items) now.looked.content (c.in-Ok.ensures.ok (now.looked.same ∙ h))) c.in-Ok-put_upper.ensures;
    }

pub returns-clause-ok : goal.returns-clause-ok
returns-clause-ok g c h = have_whole (g.D.Disk.seen c.args.disk.now) c.args.tables.now c.loop-table.table-index c.loop-table.uppers.items c.loop-table-test.false (c.loop-table.invariant.have h)

pub returns-in-Err-clause-sole : goal.returns-in-Err-clause-sole
returns-in-Err-clause-sole g c h can =
    let D = g.D.Disk in
    let now = c.loop-table.invariant in
    of_inner _ _ (D.seen c.args.disk.now) (D.seen c.loop-table.disk) c.args.tables.now c.table-item.result c.root_of.result c.loop-table.table-index c.in-Err.refusal can c.loop-table-test.true c.table-item.is c.root_of.ensures now.looked.content (now.looked.same ∙ h) c.in-Err.ensures.err
