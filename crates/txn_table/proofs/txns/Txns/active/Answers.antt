use Rattle.std.proofs.Common.{◌≡◌, ◌+◌, ap, ◌∙◌, sym, arith}
use Rattle.std.specs.Prelude.{Some}
use Rattle.txn_table.specs.SessionData.{is_busy}
use Rattle.txn_table.proofs.LookLemmas.{first-here, first-none, none-more}
use Rattle.txn_table.proofs.txns.Txns.active.Goals as goal

pub returns-then-is_busy : goal.returns-then-is_busy
returns-then-is_busy c = rw (← c.self.view_is) (let n : c.loop-session.session ≡ 0 + c.loop-session.session = omega arith in ap Some n ∙ sym (first-here is_busy 0 c.self.inside.sessions.items c.loop-session.session c.index.result.now (omega arith) c.loop-session.invariant c.index.ensures (sym c.is_busy.ensures ∙ c.if-is_busy.true)))

pub loop-session-preserved : goal.loop-session-preserved
loop-session-preserved c = none-more is_busy c.self.inside.sessions.items c.loop-session.session c.index.result.now (omega arith) c.loop-session.invariant c.index.ensures (sym c.is_busy.ensures ∙ c.if-is_busy.false)

pub returns : goal.returns
returns c = rw (← c.self.view_is) (sym (first-none is_busy 0 c.self.inside.sessions.items (λ k lt d. c.loop-session.invariant k (omega arith) d)))
