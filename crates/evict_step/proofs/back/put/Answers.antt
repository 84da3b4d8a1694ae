use Rattle.evict_step.proofs.BroughtBack.{put-fits, put-holds}
use Rattle.evict_step.proofs.back.put.Goals as goal

pub returns-clause-put : goal.returns-clause-put
returns-clause-put c = λ held h down. put-holds c.args.leaf.now c.install.new.self c.args.key.now c.args.version held c.in_ok-_slot.ensures.installed h down

pub returns-clause-fit : goal.returns-clause-fit
returns-clause-fit c = λ fit new. put-fits c.args.leaf.now c.install.new.self c.args.key.now c.args.version c.in_ok-_slot.ensures.installed fit new
