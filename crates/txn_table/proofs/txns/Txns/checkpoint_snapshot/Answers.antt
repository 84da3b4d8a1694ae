use Rattle.std.proofs.Common.{◌≡◌, ap, ◌∙◌, [], length, subst, arith}
use Rattle.std.specs.Prelude.{fold}
use Rattle.std.specs.List.{filter_map}
use Rattle.snapshot.specs.Sight.{sight_at, with_id}
use Rattle.txn_table.specs.SessionData.{unended_id}
use Rattle.txn_table.specs.Tabled.{Table, counted, HasRoom}
use Rattle.txn_table.proofs.TableLemmas.{next-above}
use Rattle.txn_table.proofs.Unended.{Counting, counting-start, counting-more, counting-done, unended-drawn, unended-fits}
use Rattle.txn_table.proofs.txns.Txns.checkpoint_snapshot.Goals as goal

pub fill-requires-clause-ascending : goal.fill-requires-clause-ascending
fill-requires-clause-ascending c = next-above _ c.self.invariant.room.table

pub loop-state-init : goal.loop-state-init
loop-state-init c = counting-start c.args.self.now.run c.args.self.now.next c.deref-state-items.result.now c.fill.new.self (c.fill.ensures.sight ∙ ap (λ (z : Table). sight_at z.run z.next []) c.self.view_is)

pub count_unended-requires-clause-drawn : goal.count_unended-requires-clause-drawn
count_unended-requires-clause-drawn c = unended-drawn c.args.self.now c.deref-state-items.result.now c.loop-state.state-index c.fill.new.self.room c.loop-state.snapshot c.state-item.result c.unended_id.result
    (subst HasRoom c.self.view_is c.self.invariant.room) (c.deref-state-items.ensures.value ∙ ap (λ (z : Table). z.sessions) c.self.view_is) c.loop-state-test.true c.state-item.is c.unended_id.ensures c.loop-state.invariant

pub count_unended-requires-clause-room : goal.count_unended-requires-clause-room
count_unended-requires-clause-room c = unended-fits c.args.self.now c.deref-state-items.result.now c.loop-state.state-index c.fill.new.self.room c.loop-state.snapshot
    (subst HasRoom c.self.view_is c.self.invariant.room) (c.deref-state-items.ensures.value ∙ ap (λ (z : Table). z.sessions) c.self.view_is) c.loop-state-test.true
    (let enough = c.requires.room in let kept = c.fill.ensures.room in omega arith) c.loop-state.invariant

pub loop-state-preserved : goal.loop-state-preserved
loop-state-preserved c = counting-more c.args.self.now.run c.args.self.now.next c.deref-state-items.result.now c.loop-state.state-index c.fill.new.self.room c.loop-state.snapshot c.count_unended.new.snapshot c.state-item.result
    c.loop-state-test.true c.state-item.is (c.count_unended.ensures.sight ∙ ap (counted c.loop-state.snapshot.sight) c.unended_id.ensures) c.count_unended.ensures.room c.loop-state.invariant

pub returns-clause-sight : goal.returns-clause-sight
returns-clause-sight c =
    let states : c.deref-state-items.result.now ≡ c.args.self.now.sessions = c.deref-state-items.ensures.value ∙ ap (λ (z : Table). z.sessions) c.self.view_is in
    let end : c.loop-state.state-index ≡ length c.deref-state-items.result.now = let low = c.loop-state-test.false in let high = c.loop-state.auto.state-index-end in omega arith in
    counting-done c.args.self.now.run c.args.self.now.next c.deref-state-items.result.now c.fill.new.self.room c.loop-state.snapshot
    (subst (λ i. Counting c.args.self.now.run c.args.self.now.next c.deref-state-items.result.now i c.fill.new.self.room c.loop-state.snapshot) end c.loop-state.invariant)
    ∙ ap (λ l. sight_at c.args.self.now.run c.args.self.now.next (fold with_id [] (filter_map unended_id l))) states

pub returns-clause-room : goal.returns-clause-room
returns-clause-room c = (let kept = c.fill.ensures.room in let more = c.loop-state.invariant.room in omega arith)
