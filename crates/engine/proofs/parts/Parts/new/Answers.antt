use Rattle.std.proofs.Common.{ap}
use Rattle.std.specs.Prelude.{None}
use Rattle.txn_table.specs.Tabled.{Table}
use Rattle.engine_world.specs.Stands.{Engine}
use Rattle.engine.specs.Openings.{IsOpened}
use Rattle.engine.proofs.Beginning.{begins-on, opened-sound}
use Rattle.engine.proofs.parts.Parts.new.Goals as goal

pub returns : goal.returns
returns c = record {
  stands = λ content shelf records regular base. c.engines_start.ensures content shelf records e regular (begins-on e c.args.run c.args.oldest c.args.stable c.args.tables c.args.dir opened c.requires.owned c.len-count.ensures.tables c.stands.ensures content shelf records base);
  opened = opened;
  sound = opened-sound e c.args.run c.args.oldest c.args.stable c.args.tables c.args.dir opened c.requires.owned c.requires.numbers c.requires.stamps c.requires.begun c.requires.run;
} where
  e : Engine
  e = record {
    hub = record { txns = c.in_ok-txns.txns; stamps = record { oldest = c.args.oldest; stable = c.args.stable }; tables = c.args.tables; dir = c.args.dir; fault = None };
    pieces = c.new-2.result.items;
    states = c.new-3.result.items;
    hazards = c.in_ok-hazards.hazards.items;
    sessions = c.new-4.result.items;
    systems = c.in_ok-systems.systems.items;
  }

  opened : IsOpened c.args.run c.args.oldest c.args.stable c.args.tables c.args.dir e
  opened = record {
    hub = ap (λ (ts : Table). record { txns = ts; stamps = record { oldest = c.args.oldest; stable = c.args.stable }; tables = c.args.tables; dir = c.args.dir; fault = None }) c.in_ok-txns.ensures;
    pieces = c.new-2.ensures.items;
    states = c.new-3.ensures.items;
    sessions = c.new-4.ensures.items;
    systems = c.in_ok-systems.ensures;
  }
