use Rattle.std.proofs.Common.{◌≡◌, ◌∙◌, ap, subst, Result, Ok, Err}
use Rattle.std.specs.Prelude.{OnOk, slice_get}
use Rattle.kv_model.specs.History.{Table}
use Rattle.tree_dir.specs.Leaves.{leaves_of}
use Rattle.ckpt_step.specs.Holding.{with_all_live}
use Rattle.ckpt_step.proofs.Members.{some_same}
use Rattle.ckpt_step.proofs.writing.add_table.Goals as goal

on_ok_map : {T E A B : Type 0} (r : Result T E) → OnOk r A → (A → B) → OnOk r B
on_ok_map (Ok x) is more = more is
on_ok_map (Err e) is more = tt

pub returns-in-Some : goal.returns-in-Some
returns-in-Some c = on_ok_map c.add_lives.result c.add_lives.ensures (λ is t at.
    let table : c.in-Some.table.now ≡ t = some_same (c.in-Some.ensures ∙ (ap (λ k. slice_get k.tables c.args.place) c.tables.ensures.are ∙ at)) in
    subst (λ (u : Table). c.add_lives.new.others ≡ with_all_live c.args.lives.now c.args.others.now (leaves_of u.number c.args.engine.now.hub.dir.leaves)) (c.table-in-Some.view_is ∙ table) is)
