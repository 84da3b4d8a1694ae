use Rattle.std.proofs.Common.{◌++◌, List, ℕ, refl, subst, inl, inr}
use Rattle.std.specs.Prelude.{Bool}
use Rattle.script_run.specs.declared.script.End.TheVariants.{InputFailed, Stopped, Through}
use Rattle.wt_code.specs.declared.refusals.Refusal.TheVariants.{NoMemory}
use Rattle.script_run.specs.Lines.{NextLine}
use Rattle.script_run.specs.Turns.{LineTurn}
use Rattle.script_run.proofs.Scripting.{end-stays}
use Rattle.script_run.proofs.Turning.{turn-ends, turn-line}
use Rattle.script_run.proofs.script.turn.Goals as goal

pub returns-in-Err-Failed-clause-made : goal.returns-in-Err-Failed-clause-made
returns-in-Err-Failed-clause-made g c = λ honest first s at same.
    let l = c.in-Err-Failed.ensures.line in
    let held = c.args.lines.now in
    turn-ends g.D.Disk first g.S.Source g.K.Sink s c.args.store.now c.args.disk.now c.args.input.now c.next.new.input c.args.out.now held c.args.place.now InputFailed l.0 (held.behind ++ l.0) held.ended l.1
    (λ ended. end-stays (g.S.Source.left c.args.input.now) (g.S.Source.left c.next.new.input) l.0 l.1.0 (c.requires.end ended)) (λ ended. ended) refl (λ through. absurd cc)
    (inr (inl (c.in-Err-Failed.ensures.failed c.in-Err-Failed.field-0-is, refl))) at

pub returns-in-Err-NoMemory-clause-made : goal.returns-in-Err-NoMemory-clause-made
returns-in-Err-NoMemory-clause-made g c = λ honest first s at same.
    let l = c.in-Err-NoMemory.ensures.line in
    let held = c.args.lines.now in
    turn-ends g.D.Disk first g.S.Source g.K.Sink s c.args.store.now c.args.disk.now c.args.input.now c.next.new.input c.args.out.now held c.args.place.now (Stopped NoMemory) l.0 (held.behind ++ l.0) held.ended l.1
    (λ ended. end-stays (g.S.Source.left c.args.input.now) (g.S.Source.left c.next.new.input) l.0 l.1.0 (c.requires.end ended)) (λ ended. ended) refl (λ through. absurd cc)
    (inr (inr refl)) at

pub returns-in-Ok-false-clause-made : goal.returns-in-Ok-false-clause-made
returns-in-Ok-false-clause-made g c = λ honest first s at same.
    let l = c.in-Ok-false.ensures.line in
    let n = subst (λ (some : Bool). NextLine some c.args.lines.now c.next.new.self l.0) c.in-Ok-false.field-0-test l.2 in
    turn-ends g.D.Disk first g.S.Source g.K.Sink s c.args.store.now c.args.disk.now c.args.input.now c.next.new.input c.args.out.now c.args.lines.now c.args.place.now Through l.0 _ c.next.new.self.ended l.1
    c.in-Ok-false.ensures.ended c.in-Ok-false.ensures.stays n.0 (λ through. refl) (inl (c.in-Ok-false.ensures.ended n.1, refl)) at

pub returns-in-Ok-true-clause-made : goal.returns-in-Ok-true-clause-made
returns-in-Ok-true-clause-made g c = λ honest first s at same.
    let l = c.in-Ok-true.ensures.line in
    let cut = subst (λ (some : Bool). NextLine some c.args.lines.now c.next.new.self l.0) c.in-Ok-true.field-0-test l.2 in
    let r = c.run_and_print.new in
    turn-line g.D.Disk first g.S.Source g.K.Sink s r.store r.disk c.args.input.now c.next.new.input c.args.out.now r.out c.args.lines.now c.next.new.self c.args.place.now r.place c.run_and_print.result l.0 l.1
    c.in-Ok-true.ensures.ended c.in-Ok-true.ensures.stays cut c.run_and_print.ensures.early
    (subst (λ (text : List ℕ). LineTurn g.D.Disk first r.store r.disk g.K.Sink c.args.out.now r.out text s c.args.place.now r.place c.run_and_print.result) c.line.ensures (c.run_and_print.ensures.made honest first s at same))
