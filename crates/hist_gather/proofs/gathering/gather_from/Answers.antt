use Rattle.std.proofs.Common.{List, sym, subst}
use Rattle.hist_store.specs.declared.key_history.KeyHistory.{KeyHistory}
use Rattle.hist_gather.specs.Added.{AreKnown, HasMore}
use Rattle.hist_gather.specs.Sources.{OfPlaces}
use Rattle.hist_pages.specs.Records.{Fits}
use Rattle.hist_gather.proofs.Gathered.{gathers}
use Rattle.hist_gather.proofs.gathering.gather_from.Goals as goal

pub returns-clause-taken : goal.returns-clause-taken
returns-clause-taken c = λ w k stands keeps runs ended count sight taken.
    gathers
    (record {
      captures = c.captures_are_held.ensures;
      rests = c.leaves_are_held.ensures;
      adds = c.adds_hold.ensures;
      reconciled = c.keys_are_reconciled.ensures;
    })
    c.args.from w k stands keeps runs ended taken c.args.tables c.add_tables.new.history
    (subst (λ (s : List KeyHistory). HasMore (OfPlaces c.args.from c.args.tables) s c.add_tables.new.history) c.new-history.ensures c.in_ok-add_tables.ensures.more) count sight

pub returns-clause-known : goal.returns-clause-known
returns-clause-known c = λ known among. c.in_ok-add_tables.ensures.known known among (subst (λ (s : List KeyHistory). AreKnown known s) (sym c.new-history.ensures) tt)

pub returns-clause-fit : goal.returns-clause-fit
returns-clause-fit c = c.in_ok-add_tables.ensures.fit (subst (λ (s : List KeyHistory). Fits s) (sym c.new-history.ensures) tt)
