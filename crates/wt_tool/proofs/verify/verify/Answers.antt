use Rattle.std.proofs.Common.{inl, inr, refl}
use Rattle.kv_model.specs.Content.{start}
use Rattle.wt_tool.specs.Points.{Point, point_of}
use Rattle.wt_tool.proofs.Running.{opens_of}
use Rattle.wt_tool.proofs.Verifying.{examined_reads, ok_of, start_tables, refused_verify}
use Rattle.wt_tool.proofs.verify.verify.Goals as goal

pub returns-in-Ok-clause-run : goal.returns-in-Ok-clause-run
returns-in-Ok-clause-run g c h content reads =
    let D = g.D.Disk in
    let q : Point = point_of D (start content) c.read_through.new.disk in
    let found = c.in-Ok.found in
    let counts = c.in-Ok.ensures.ok h in
    inr (q, opens_of D (start content) c.args.disk.now c.read_through.new.disk c.read_through.ensures.looked, record { kept = found.record; report = found.report; counts = counts }, c.check.ensures.run q (start_tables (D.seen c.args.disk.now) content found.record found.report reads counts))

pub returns-in-Err-clause-run : goal.returns-in-Err-clause-run
returns-in-Err-clause-run g c h content reads =
    let D = g.D.Disk in
    let q : Point = point_of D (start content) c.read_through.new.disk in
    inl (c.in-Err.refusal, q, opens_of D (start content) c.args.disk.now c.read_through.new.disk c.read_through.ensures.looked, refused_verify D c.args.disk.now c.read_through.new.disk _ content c.in-Err.refusal h reads c.in-Err.ensures.err, refl)

pub returns-in-Ok-clause-ok : goal.returns-in-Ok-clause-ok
returns-in-Ok-clause-ok g c h = ok_of c.check.result (examined_reads (g.D.Disk.seen c.args.disk.now) c.in-Ok.found.record c.in-Ok.found.report (c.in-Ok.ensures.ok h))

pub returns-in-Err-clause-err : goal.returns-in-Err-clause-err
returns-in-Err-clause-err g c = inl c.in-Err.ensures.err
