use Rattle.std.proofs.Common.{arith, ◌≤◌, vec_capacity}
use Rattle.txn_table.proofs.Stocks.{stocked-opened}
use Rattle.txn_table.proofs.txns.Txns.open_session.Goals as goal

pub invariant_of-self-in-Some : goal.invariant_of-self-in-Some
invariant_of-self-in-Some c =
    let grows : vec_capacity c.self.inside.sessions ≤ vec_capacity c.push_reserved.new.self = let same = c.push_reserved.ensures.capacity in omega arith in
    rw c.push_reserved.ensures.items (stocked-opened (record { run = c.self.inside.run; next = c.self.inside.next; running = c.self.inside.running.items; sessions = c.self.inside.sessions.items })
    _ _ _ _ c.pop.new.self.items c.in-Some.state c.self.invariant c.in-Some.ensures.items grows).1
