use Rattle.std.proofs.Common.{◌≡◌, ◌∙◌, List, [], length, refl, sym, ap, subst, arith}
use Rattle.std.proofs.lemmas.List.{length-reverse}
use Rattle.catalog.specs.Known.{Known}
use Rattle.kv_model.specs.History.{Entry, Table, tables}
use Rattle.kv_model.specs.Machine.{Checkpoint, CheckpointStart, after}
use Rattle.kv_model.proofs.Finishing.{first-start}
use Rattle.snapshot.specs.Matters.{SeesCommitted}
use Rattle.snapshot.specs.Sight.{Sight}
use Rattle.engine.specs.declared.checkpoint.EngineMarks.{EngineMarks}
use Rattle.engine.proofs.local.Local.start_checkpoint.Goals as goal

pub returns-in_err-snapshot-clause-stands : goal.returns-in_err-snapshot-clause-stands
returns-in_err-snapshot-clause-stands c = λ w st free none. c.checkpoints_go.ensures.start c.args.self.now w st free none

pub returns-clause-stands : goal.returns-clause-stands
returns-clause-stands c = λ w st free none. c.checkpoints_go.ensures.start c.args.self.now w st free none

pub returns-clause-runs : goal.returns-clause-runs
returns-clause-runs c = λ w st free none.
    let k : Checkpoint = record { prefix = length w.machine.history; oldest = w.machine.oldest; stable = w.machine.stable } in
    let marks = c.marks-marks.ensures.machine w st in
    let made = ap (λ (l : List Table). length l) st.made in
    let are = ap (λ (k : Known). length k.tables) c.tables-known.ensures.are in
    let turned = length-reverse c.args.self.now.hub.tables.tables in
    let all = ap (λ (h : List Entry). length (tables h)) (first-start [] w.machine.history) in (
      k,
      refl,
      record {
        sees = subst (λ (s : Sight). SeesCommitted (after w.machine CheckpointStart) k.prefix s) (sym c.in_ok-snapshot.ensures.sight)
            (c.checkpoints_see.ensures c.args.self.now.hub.txns w.machine k st.valid st.txns (free, none) refl).sees;
        ended = c.prefixes_begin.ensures w.machine k st.valid (free, none) refl;
        oldest = ap (λ (m : EngineMarks). m.oldest) marks;
        stable = ap (λ (m : EngineMarks). m.stable) marks;
        tables = omega (arith, c.len-count.ensures.count, are, made, turned, all);
      },
    )

pub returns-clause-sight : goal.returns-clause-sight
returns-clause-sight c = c.in_ok-snapshot.ensures.sight

pub returns-clause-unended : goal.returns-clause-unended
returns-clause-unended c = λ w st. c.in_ok-snapshot.ensures.unended w st
