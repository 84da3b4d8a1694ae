use Rattle.engine_store.proofs.KeptFrames.{full_of, never_full, not_full_of}
use Rattle.engine_store.proofs.store.Store.is_full.Goals as goal

pub returns-in-Soft-clause-no : goal.returns-in-Soft-clause-no
returns-in-Soft-clause-no c = λ is. never_full c.args.self.now.frames c.in-Soft.field-0 c.args.self.now.engine c.in-Soft.is

pub returns-in-Firm-clause-yes : goal.returns-in-Firm-clause-yes
returns-in-Firm-clause-yes c = λ is. full_of c.args.self.now.frames c.in-Firm.count c.args.self.now.engine c.in-Firm.is (c.has_kept.ensures.yes is)

pub returns-in-Firm-clause-no : goal.returns-in-Firm-clause-no
returns-in-Firm-clause-no c = λ is. not_full_of c.args.self.now.frames c.in-Firm.count c.args.self.now.engine c.in-Firm.is (c.has_kept.ensures.no is)
