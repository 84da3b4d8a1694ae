use Rattle.std.proofs.Common.{List, ℕ, sym, ap, ◌∙◌, ◌++◌, [], ◌∷◌}
use Rattle.disk_model.specs.Disk.{put}
use Rattle.disk_model.specs.Laws.{pushed_content}
use Rattle.disk_model.specs.declared.call.Call.{Call}
use Rattle.disk_model.specs.declared.call.Call.TheVariants.{Wrote}
use Rattle.disk_model.proofs.mem.MemDisk.place.Goals as goal

pub invariant_of-self-2 : goal.invariant_of-self-2
invariant_of-self-2 c =
    pushed_content _ _ _ _ _ (Wrote c.args.at c.in_ok-copy.copy) c.self.invariant (c.add.ensures ∙ ap (λ (l : List Call). l ++ Wrote c.args.at c.in_ok-copy.copy ∷ []) c.in_ok-reserve.ensures.items)
    (c.in_ok-overwrite.ensures.ok ∙ ap (λ (b : List ℕ). put c.self.inside.bytes.items c.args.at b) (sym c.in_ok-copy.ensures.items))

pub returns-clause-ok : goal.returns-clause-ok
returns-clause-ok c =
    (c.in_ok-copy.copy, c.in_ok-copy.ensures.items, rw (← c.self.view_is) (c.add.ensures ∙ ap (λ (l : List Call). l ++ Wrote c.args.at c.in_ok-copy.copy ∷ []) c.in_ok-reserve.ensures.items))
