use Rattle.std.proofs.Common.{◌∙◌, List, ℕ, ap, inr, refl, subst, sym, arith}
use Rattle.disk_model.proofs.Crash.{looked_then}
use Rattle.engine_store.specs.Marked.{IsLeafKept}
use Rattle.evict_step.specs.Kept.{list_of}
use Rattle.engine_store.proofs.HubsGo.{goes_same, goes_then, kept_then, owned_then, refuses_back, relisted}
use Rattle.engine_store.proofs.LeavesGo.{leaf_was, leaves_same, leaves_then}
use Rattle.engine_store.proofs.MarkedIds.{framed_more, unmarked_then}
use Rattle.engine_store.proofs.marked.bring_marked.Goals as goal

pub returns-in_err-marked-clause-goes : goal.returns-in_err-marked-clause-goes
returns-in_err-marked-clause-goes g c = goes_same c.args.engine.now.hub c.requires.owned

pub loop-leaf-init : goal.loop-leaf-init
loop-leaf-init g c = record {
  leaves = leaves_same c.args.engine.now.hub.dir.leaves;
  goes = goes_same c.args.engine.now.hub c.requires.owned;
  sessions = refl;
  looked = record { same = refl; content = refl; images = λ image may. may; capacity = refl; count = omega arith; later = omega arith; since = λ t image le left. left };
  home = refl;
  framed = λ k lt. absurd (omega (arith, lt));
  stands = λ honest w st kept. st;
  same = λ x there free. refl;
}

pub bring_as-requires : goal.bring_as-requires
bring_as-requires g c = record { owned = owned_then c.args.engine.now.hub c.loop-leaf.engine.hub c.requires.owned c.loop-leaf.invariant.leaves c.loop-leaf.invariant.goes }

pub returns-in-Err-clause-goes : goal.returns-in-Err-clause-goes
returns-in-Err-clause-goes g c =
    let now = c.loop-leaf.invariant in
    let first = c.args.engine.now.hub in
    let mid = c.loop-leaf.engine.hub in
    let last = c.bring_as.new.engine.hub in
    goes_then first mid last c.requires.owned (leaves_then first.dir.leaves mid.dir.leaves last.dir.leaves now.leaves c.bring_as.ensures.leaves) now.goes c.bring_as.ensures.goes

pub returns-in-Err-clause-err : goal.returns-in-Err-clause-err
returns-in-Err-clause-err g c =
    let now = c.loop-leaf.invariant in
    inr (_, refuses_back g.D.Disk c.args.engine.now.hub.dir c.loop-leaf.engine.hub.dir _ c.args.disk.now c.loop-leaf.disk c.bring_as.new.disk _ now.leaves now.looked c.in-Err.ensures.err)

pub loop-leaf-preserved : goal.loop-leaf-preserved
loop-leaf-preserved g c =
    let D = g.D.Disk in
    let now = c.loop-leaf.invariant in
    let first = c.args.engine.now.hub in
    let mid = c.loop-leaf.engine.hub in
    let last = c.bring_as.new.engine.hub in
    let leaves = leaves_then first.dir.leaves mid.dir.leaves last.dir.leaves now.leaves c.bring_as.ensures.leaves in
    record {
      leaves = leaves;
      goes = goes_then first mid last c.requires.owned leaves now.goes c.bring_as.ensures.goes;
      sessions = c.bring_as.ensures.sessions ∙ now.sessions;
      looked = looked_then D _ _ _ now.looked c.bring_as.ensures.looked;
      home = c.bring_as.ensures.home ∙ now.home;
      framed = framed_more mid.dir.leaves last.dir.leaves c.deref-leaf-items.result.now c.loop-leaf.leaf-index _ now.framed c.bring_as.ensures.leaves c.in-Ok.ensures.framed refl;
      stands = λ honest w st kept. c.in-Ok.ensures.stands (now.looked.same ∙ honest) w (now.stands honest w st kept)
          (λ l there free. relisted (D.seen c.loop-leaf.disk) mid.dir c.args.marks c.args.ids.now c.args.kept.now c.loop-leaf.kept w.shelf l (now.same l there free)
          (subst (λ (bytes : List ℕ). IsLeafKept bytes mid.dir c.args.marks c.args.ids.now c.args.kept.now w.shelf l) (sym now.looked.content) (kept_then (D.seen c.args.disk.now) first.dir mid.dir c.args.marks c.args.ids.now c.args.kept.now w.shelf now.leaves kept l there)));
      same = λ l there free.
          let was = leaf_was mid.dir.leaves last.dir.leaves l c.bring_as.ensures.leaves there in
          let id = was.2.id in
          c.in-Ok.ensures.others l.id (λ met. c.in-Ok.ensures.framed l there met free)
          ∙ (ap (λ (n : ℕ). list_of c.loop-leaf.kept n) id ∙ (now.same was.0 was.1 (was.2.stays free) ∙ ap (λ (n : ℕ). list_of c.args.kept.now n) (sym id)));
    }

pub returns-clause-leaves : goal.returns-clause-leaves
returns-clause-leaves g c = c.loop-leaf.invariant.leaves

pub returns-clause-unmarked : goal.returns-clause-unmarked
returns-clause-unmarked g c =
    unmarked_then c.args.engine.now.hub.tables.tables c.args.engine.now.hub.dir.leaves c.loop-leaf.engine.hub.dir.leaves c.args.marks c.in_ok-marked.marked.items c.deref-leaf-items.result.now c.loop-leaf.leaf-index c.requires.owned c.loop-leaf.invariant.leaves c.in_ok-marked.ensures
    c.deref-leaf-items.ensures.value c.loop-leaf-test.false c.loop-leaf.invariant.framed
