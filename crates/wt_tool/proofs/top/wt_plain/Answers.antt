use Rattle.std.proofs.Common.{inl, inr, refl, sym, ◌∙◌, ◌≡◌, subst, List, [], ◌∷◌, ℕ, Option, Some, None, IsTrue, arith}
use Rattle.kv_model.specs.Content.{start}
use Rattle.wt_code.specs.declared.refusals.Refusal.TheVariants.{NoMemory}
use Rattle.wt_io.specs.StreamLemmas.{took_none}
use Rattle.wt_line.specs.Line.{Asked, meaning}
use Rattle.script_run.specs.declared.script.End.TheVariants.{Stopped}
use Rattle.script_run.specs.Scripts.{outside}
use Rattle.wt_tool.specs.Commands.{IsByReader}
use Rattle.wt_tool.specs.Damaged.{point_on}
use Rattle.wt_tool.specs.Points.{point_of}
use Rattle.wt_tool.specs.Top.{Errors, IsAt, IsOpenableBy, IsSoFor, Telling, Went, WentOn, errors_of, streams_of, usage, lines}
use Rattle.wt_tool.proofs.Dumping.{looked_self}
use Rattle.wt_tool.proofs.Running.{opens_same, opens_same_on, not_begun, not_read_on, gave_none, cut_all, told_all, stopped, stopped_on}
use Rattle.wt_tool.proofs.top.wt_plain.Goals as goal

none_some : (a : Option Asked) (asked : Asked) → a ≡ None → a ≡ Some asked → ⊥
none_some a asked none some = let no_one : None ≡ Some asked = sym none ∙ some in cc

-- words that are no command
pub returns-in-Err-Usage : goal.returns-in-Err-Usage
returns-in-Err-Usage g c =
    let none = c.in-Err-Usage.ensures.usage c.in-Err-Usage.field-0-is in
    record {
      run = λ h content each asked is. absurd (none_some _ asked none is);
      damaged = λ h whole content reads spoilt asked by is. absurd (none_some _ asked none is);
      usage_told = λ no_command. (inl (told_all (errors_of g.E.Sink c.args.err.now c.write_all.new.sink) usage c.write_all.result c.write_all.ensures.ok c.write_all.ensures.cause, refl), took_none _, refl, refl);
      told = λ asked is. absurd (none_some _ asked none is);
      opened = λ h is. absurd (omega (arith, is));
      silent = λ h. inl (took_none _);
      home = λ asked is. absurd (none_some _ asked none is);
      statuses = inr (inl refl);
      disk_fault = λ is. absurd (omega (arith, is));
      input_fault = λ is. absurd (omega (arith, is));
      output_fault = λ is. absurd (omega (arith, is));
      honest = refl;
    }

-- memory was too short to read the words
pub returns-in-Err-NoMemory : goal.returns-in-Err-NoMemory
returns-in-Err-NoMemory g c =
    let D = g.D.Disk in
    let e : Errors = errors_of g.E.Sink c.args.err.now c.args.err.now in
    record {
      run = λ h content each asked is.
          stopped D c.args.disk c.args.disk content each.1 (outside g.S.Source g.K.Sink c.args.input.now c.args.input.now c.args.out.now c.args.out.now) asked
          (streams_of g.S.Source g.K.Sink g.E.Sink c.args.input.now c.args.input.now c.args.out.now c.args.out.now c.args.err.now c.args.err.now) (gave_none _) NoMemory 12
          (not_begun (outside g.S.Source g.K.Sink c.args.input.now c.args.input.now c.args.out.now c.args.out.now) asked (point_of D (start content) c.args.disk) (opens_same D (start content) c.args.disk))
          (λ d left. each.0 d left) (λ d left. each.0 d (g.met.D.Disk.only_now c.args.disk d left)) (took_none _) (inr (cut_all e (lines (NoMemory ∷ [])) (omega arith) (took_none _), refl));
      damaged = λ h whole content reads spoilt asked by is.
          let p = point_on D whole (start content) c.args.disk in
          stopped_on D c.args.disk c.args.disk whole content (outside g.S.Source g.K.Sink c.args.input.now c.args.input.now c.args.out.now c.args.out.now) asked
          (streams_of g.S.Source g.K.Sink g.E.Sink c.args.input.now c.args.input.now c.args.out.now c.args.out.now c.args.err.now c.args.err.now) (gave_none _) (looked_self D c.args.disk) NoMemory 12
          (not_read_on (outside g.S.Source g.K.Sink c.args.input.now c.args.input.now c.args.out.now c.args.out.now) (D.seen c.args.disk) asked p _ by (NoMemory, p, opens_same_on D whole (start content) c.args.disk, inr (inl refl), refl))
          (took_none _) (inr (cut_all e (lines (NoMemory ∷ [])) (omega arith) (took_none _), refl));
      usage_told = λ none. (inr (cut_all e usage (omega arith) (took_none _), refl), took_none _, refl, refl);
      told = λ asked is. record { refusals = NoMemory ∷ []; each = (tt, tt); replies = []; end = Stopped NoMemory; told = inr (cut_all e _ (omega arith) (took_none _), refl) };
      opened = λ h is. absurd (omega (arith, is));
      silent = λ h. inl (took_none _);
      home = λ asked is. inr (refl, refl, inr refl);
      statuses = inr (inr (inr (inr (inr refl))));
      disk_fault = λ is. absurd (omega (arith, is));
      input_fault = λ is. absurd (omega (arith, is));
      output_fault = λ is. absurd (omega (arith, is));
      honest = refl;
    }

-- a command
pub returns-in-Ok : goal.returns-in-Ok
returns-in-Ok g c =
    let some = c.in-Ok.ensures.command in
    let run = c.run-status.ensures in
    record {
      run = λ h content each asked is.
          let same : meaning c.in-Ok.command ≡ asked = some_is _ asked (sym some ∙ is) in
          subst (λ (a : Asked). Went g.D.Disk (outside g.S.Source g.K.Sink c.args.input.now c.run-status.new.input c.args.out.now c.run-status.new.out) a content
          (streams_of g.S.Source g.K.Sink g.E.Sink c.args.input.now c.run-status.new.input c.args.out.now c.run-status.new.out c.args.err.now c.run-status.new.err) c.args.disk c.run-status.new.disk c.run-status.result) same (run.run h content each);
      damaged = λ h whole content reads spoilt asked by is.
          let same : meaning c.in-Ok.command ≡ asked = some_is _ asked (sym some ∙ is) in
          subst (λ (a : Asked). WentOn g.D.Disk (outside g.S.Source g.K.Sink c.args.input.now c.run-status.new.input c.args.out.now c.run-status.new.out) a whole content
          (streams_of g.S.Source g.K.Sink g.E.Sink c.args.input.now c.run-status.new.input c.args.out.now c.run-status.new.out c.args.err.now c.run-status.new.err) c.args.disk c.run-status.new.disk c.run-status.result) same
          (run.damaged h whole content reads spoilt (subst (λ (a : Asked). IsByReader a) (sym same) by));
      usage_told = λ none. absurd (none_some _ (meaning c.in-Ok.command) none some);
      told = λ asked is.
          let same : meaning c.in-Ok.command ≡ asked = some_is _ asked (sym some ∙ is) in
          subst (λ (a : Asked). Telling (IsSoFor a (IsTrue (g.D.Disk.honest c.args.disk)) (g.D.Disk.seen c.args.disk) (g.D.Disk.seen c.run-status.new.disk)) (errors_of g.E.Sink c.args.err.now c.run-status.new.err) c.run-status.result) same run.told;
      opened = λ h none. subst (λ (o : Option Asked). IsOpenableBy o (g.D.Disk.seen c.args.disk)) (sym some) (run.opened h none);
      silent = λ h. elim (run.silent h) [ inl quiet ↦ inl quiet | inr opens ↦ inr (subst (λ (o : Option Asked). IsOpenableBy o (g.D.Disk.seen c.args.disk)) (sym some) opens) ];
      home = λ asked is. subst (λ (l : List ℕ). IsAt g.D.Disk l c.args.disk c.run-status.new.disk c.run-status.result) c.home_of.ensures run.home;
      statuses = run.statuses;
      disk_fault = run.disk_fault;
      input_fault = run.input_fault;
      output_fault = run.output_fault;
      honest = run.honest;
    }
  where
    some_is : (a b : Asked) → let one : Option Asked = Some a in let two : Option Asked = Some b in one ≡ two → a ≡ b
    some_is a b same = cc
