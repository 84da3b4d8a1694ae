use Rattle.std.proofs.Common.{◌≡◌, ℕ, List, [], subst, rules}
use Rattle.evict_step.proofs.BroughtBack.{PutsOne, moved-put, none-moved, puts-moved}
use Rattle.evict_step.proofs.back.put_moved.Goals as goal

pub loop-last-init : goal.loop-last-init
loop-last-init c = none-moved c.args.moved.items c.args.leaf.now

pub loop-last-preserved : goal.loop-last-preserved
loop-last-preserved c = puts-moved c.args.moved.items c.pop.new.self.items c.loop-last.moved.items c.in-Some.last c.args.leaf.now c.loop-last.leaf c.put.new.leaf c.in-Some.ensures.items c.requires c.loop-last.invariant
    (subst (λ (key : List ℕ). PutsOne c.loop-last.leaf c.put.new.leaf key c.in-Some.last.version) c.as_bytes.ensures (record { holds = c.in_ok-put.ensures.put; fit = c.in_ok-put.ensures.fit }))

pub returns-clause-put : goal.returns-clause-put
returns-clause-put c = let none : c.loop-last.moved.items ≡ [] = search rules in λ h down. moved-put c.args.moved.items c.loop-last.moved.items c.args.leaf.now c.loop-last.leaf none c.loop-last.invariant h down

pub returns-clause-fit : goal.returns-clause-fit
returns-clause-fit c = c.loop-last.invariant.fit
