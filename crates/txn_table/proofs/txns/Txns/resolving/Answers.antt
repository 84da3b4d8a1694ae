use Rattle.std.proofs.Common.{◌≡◌, ◌+◌, ap, ◌∙◌, sym, arith}
use Rattle.std.specs.Prelude.{Some}
use Rattle.txn_table.specs.SessionData.{is_resolving}
use Rattle.txn_table.proofs.LookLemmas.{first-here, first-none, none-more}
use Rattle.txn_table.proofs.txns.Txns.resolving.Goals as goal

pub returns-then-is_resolving : goal.returns-then-is_resolving
returns-then-is_resolving c = rw (← c.self.view_is) (let n : c.loop-session.session ≡ 0 + c.loop-session.session = omega arith in ap Some n ∙ sym (first-here is_resolving 0 c.self.inside.sessions.items c.loop-session.session c.index.result.now (omega arith) c.loop-session.invariant c.index.ensures (sym c.is_resolving.ensures ∙ c.if-is_resolving.true)))

pub loop-session-preserved : goal.loop-session-preserved
loop-session-preserved c = none-more is_resolving c.self.inside.sessions.items c.loop-session.session c.index.result.now (omega arith) c.loop-session.invariant c.index.ensures (sym c.is_resolving.ensures ∙ c.if-is_resolving.false)

pub returns : goal.returns
returns c = rw (← c.self.view_is) (sym (first-none is_resolving 0 c.self.inside.sessions.items (λ k lt d. c.loop-session.invariant k (omega arith) d)))
