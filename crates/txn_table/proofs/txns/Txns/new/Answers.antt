use Rattle.std.proofs.Common.{◌-◌, ◌∙◌, ap, replicate, sym, arith}
use Rattle.std.proofs.lemmas.List.{length-replicate}
use Rattle.limits.specs.declared.TheConstants.{SESSIONS_MAX}
use Rattle.txn_table.specs.SessionData.{opened}
use Rattle.txn_table.proofs.TableLemmas.{room-new}
use Rattle.txn_table.proofs.txns.Txns.new.Goals as goal

pub invariant_of-result : goal.invariant_of-result
invariant_of-result c = rw (c.in_ok-running.ensures.items, c.in_ok-open.ensures.items) (record {
  room = room-new c.args.run c.args.sessions c.requires;
  ids = (let room = c.in_ok-running.ensures.capacity in omega arith);
  places = c.in_ok-open.ensures.room;
  spare = c.in_ok-spare.ensures.items ∙ ap (λ n. replicate (SESSIONS_MAX - n) (opened c.args.run)) (sym (length-replicate c.args.sessions (opened c.args.run)));
})
