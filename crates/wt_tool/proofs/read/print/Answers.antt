use Rattle.std.proofs.Common.{◌∷◌, [], Result, Ok, Err}
use Rattle.std.specs.Prelude.{OnErr}
use Rattle.wt_io.specs.StreamLemmas.{part_is_front}
use Rattle.wt_tool.proofs.Gets.{front_more}
use Rattle.wt_tool.proofs.read.print.Goals as goal

on_err : {T E : Type 0} (r : Result T E) (P Q : Type 0) → (P → Q) → OnErr r P → OnErr r Q
on_err (Ok x) P Q f p = p
on_err (Err x) P Q f p = f p

pub returns-clause-err : goal.returns-clause-err
returns-clause-err g c = on_err c.write_all-2.result _ _ (λ part. front_more (g.K.Sink.written c.args.out.now) (g.K.Sink.written c.write_all.new.sink) (g.K.Sink.written c.write_all-2.new.sink) c.args.text.now (10 ∷ []) c.in_ok-write_all.ensures.ok (part_is_front (g.K.Sink.written c.write_all.new.sink) (g.K.Sink.written c.write_all-2.new.sink) (10 ∷ []) part)) c.write_all-2.ensures.err
