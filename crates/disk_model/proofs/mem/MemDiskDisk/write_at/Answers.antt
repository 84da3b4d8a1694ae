use Rattle.std.proofs.Common.{ap, ◌∙◌, ◌++◌, ◌∷◌, [], List}
use Rattle.disk_model.specs.declared.call.Call.{Call}
use Rattle.disk_model.specs.declared.call.Call.TheVariants.{Wrote}
use Rattle.disk_model.proofs.Calls.{missed_or_not, missed_time, wrote, wrote_content, wrote_time}
use Rattle.disk_model.proofs.mem.MemDiskDisk.write_at.Goals as goal

pub returns-then-turn-clause-crash : goal.returns-then-turn-clause-crash
returns-then-turn-clause-crash c = missed_or_not _ _ _ _ _ _ c.turn.ensures.same c.miss.ensures.went c.fail.ensures.same

pub returns-then-turn-clause-time : goal.returns-then-turn-clause-time
returns-then-turn-clause-time c = missed_time _ _ _ _ _ _ c.turn.ensures.same c.miss.ensures.went c.fail.ensures.same

pub returns-in-Ok-clause-written : goal.returns-in-Ok-clause-written
returns-in-Ok-clause-written c =
    let ok = c.in-Ok.ensures.ok in
    wrote_content c.args.self.now c.place.new.self _ ok.0 _ ok.1 (c.place.ensures.first ∙ c.turn.ensures.same.first) (ok.2 ∙ ap (λ (l : List Call). l ++ Wrote c.args.at ok.0 ∷ []) c.turn.ensures.same.calls)

pub returns-in-Ok-clause-crash : goal.returns-in-Ok-clause-crash
returns-in-Ok-clause-crash c =
    let ok = c.in-Ok.ensures.ok in
    wrote c.args.self.now c.place.new.self _ ok.0 _ ok.1 (c.place.ensures.first ∙ c.turn.ensures.same.first) (ok.2 ∙ ap (λ (l : List Call). l ++ Wrote c.args.at ok.0 ∷ []) c.turn.ensures.same.calls)

pub returns-in-Ok-clause-time : goal.returns-in-Ok-clause-time
returns-in-Ok-clause-time c =
    let ok = c.in-Ok.ensures.ok in
    wrote_time c.args.self.now c.place.new.self _ ok.0 (c.place.ensures.first ∙ c.turn.ensures.same.first) (ok.2 ∙ ap (λ (l : List Call). l ++ Wrote c.args.at ok.0 ∷ []) c.turn.ensures.same.calls)
