use Rattle.std.proofs.Common.{◌∙◌, ◌≤◌, ℕ, List, ap, refl, rules, sym, subst, arith}
use Rattle.std.specs.Prelude.{take}
use Rattle.std.specs.List.{AllByRecursion}
use Rattle.kv_model.specs.Content.{Snapshot}
use Rattle.kv_model.specs.History.{Table}
use Rattle.snapshot.specs.Matters.{SeesCommitted}
use Rattle.snapshot.specs.Sight.{Sight}
use Rattle.device_leaf.specs.NoHistory.{no_root}
use Rattle.stored.specs.Records.{Root, TableRoot}
use Rattle.stored.specs.Stored.{tables_of}
use Rattle.catalog.specs.Known.{by_name}
use Rattle.engine.specs.declared.checkpoint.EngineMarks.{EngineMarks}
use Rattle.ckpt_step.specs.Records.{IsTyped, of_number, roots_by_name}
use Rattle.ckpt_step.specs.Trees.{placed_by, roots_of}
use Rattle.ckpt_step.proofs.FirstTables.{first_are, first_of}
use Rattle.ckpt_step.proofs.RecordsFit.{TablesFit, rooted_tables, tables_fit}
use Rattle.ckpt_step.proofs.Then.{then_first}
use Rattle.ckpt_step.proofs.record.record_of.Goals as goal

abbrev sight_with : ℕ → Snapshot → Sight
sight_with run s = record { run = run; min = s.min; max = s.max; list = s.ids }

abbrev sight_in : ℕ → Sight → Sight
sight_in run s = record { run = run; min = s.min; max = s.max; list = s.list }

pub returns-clause-admitted : goal.returns-clause-admitted
returns-clause-admitted c =
    let n = c.args.running.now.tables in
    let k = c.tables-tables.result.now in
    let known = first_are n k c.tables-tables.ensures.known in
    let trees = roots_of (placed_by c.args.was.now c.args.told.now) in
    let roots = c.in_ok-roots_of.ensures.roots in
    let run = ap (λ (marks : EngineMarks). marks.run) c.marks-marks.ensures.hub in
    let tables = tables_fit (first_of n k) (λ (t : Table). of_number no_root (take n k.tables) trees t.number) known (subst (λ (l : List TableRoot). AllByRecursion IsTyped l) roots c.in_ok-roots_of.ensures.typed) in
    let own = subst (λ (l : List TableRoot). TablesFit c.next_number.result l) (sym roots) (subst (λ (next : ℕ). TablesFit next (roots_by_name (take n k.tables) trees)) (sym c.next_number.ensures) tables) in
    record {
      sequence = omega (arith, c.requires.number);
      run = (c.marks-marks.ensures.fit.run, omega (arith, c.requires.run, run));
      oldest = search rules;
      stable = search rules;
      stamps = c.are_stamps.ensures.yes c.if-not-are_stamps.false;
      snapshot = c.in_ok-kept_of.ensures.fits;
      next = omega (arith, known.next, c.next_number.ensures);
      history = record { level = subst (λ (r : Root). r.level ≤ 60) (sym c.typed.ensures.is) c.requires.root; link = c.typed.ensures.link };
      count = own.count;
      tables = own.each;
      climb = own.climb;
      once = own.once;
    }

pub returns-clause-names : goal.returns-clause-names
returns-clause-names c = λ n floor now.
    let m = n.world.machine in
    let s = c.args.running.now.snapshot.sight in
    let k = c.tables-tables.result.now in
    let first = take c.args.running.now.tables k.tables in
    let marks = c.marks-marks.ensures.machine n.world now.stands in
    let kept = c.in_ok-kept_of.ensures.is in
    let trees = λ (t : Table). of_number no_root first (roots_of (placed_by c.args.was.now c.args.told.now)) t.number in
    let run = ap (λ (x : EngineMarks). x.run) marks in
    let seen = ap (sight_with c.marks-marks.result.run) kept ∙ ap (λ (r : ℕ). sight_in r s) (run ∙ sym now.is.sees.run) in
    record {
      sequence = refl;
      run = run;
      oldest = now.is.oldest;
      stable = now.is.stable;
      sees = subst (λ (x : Sight). SeesCommitted m n.checkpoint.prefix x) (sym seen) now.is.sees;
      tables_are = ap tables_of c.in_ok-roots_of.ensures.roots
          ∙ (rooted_tables trees (by_name first)
          ∙ ap by_name (ap (λ (count : ℕ). take count k.tables) now.is.tables ∙ then_first m n.checkpoint k.tables now.stands.valid now.runs (c.tables-tables.ensures.made n.world now.stands)));
    }
