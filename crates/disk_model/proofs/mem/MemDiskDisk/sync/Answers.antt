use Rattle.std.proofs.Common.{refl, ap, ◌∙◌, ◌++◌, ◌∷◌, [], List}
use Rattle.disk_model.specs.declared.call.Call.{Call}
use Rattle.disk_model.specs.declared.call.Call.TheVariants.{Synced}
use Rattle.disk_model.proofs.Calls.{time, looked, quiet, synced, no_more, went_by, same_refl}
use Rattle.disk_model.proofs.mem.MemDiskDisk.sync.Goals as goal

pub returns-then-turn-clause-crash : goal.returns-then-turn-clause-crash
returns-then-turn-clause-crash c = looked _ _ _ (went_by _ _ _ _ _ c.turn.ensures.same c.note.ensures.went c.fail.ensures.same)

pub returns-then-turn-clause-time : goal.returns-then-turn-clause-time
returns-then-turn-clause-time c = time _ _ _ (went_by _ _ _ _ _ c.turn.ensures.same c.note.ensures.went c.fail.ensures.same)

pub returns-then-note-clause-durable : goal.returns-then-note-clause-durable
returns-then-note-clause-durable c =
    let more = c.note-2.ensures.taken c.if-note.true in
    synced _ _ (went_by _ _ _ _ _ c.turn.ensures.same c.note-2.ensures.went (same_refl _)) (more ∙ ap (λ (l : List Call). l ++ Synced ∷ []) c.turn.ensures.same.calls)

pub returns-then-note-clause-seen : goal.returns-then-note-clause-seen
returns-then-note-clause-seen c = quiet _ _ Synced refl (went_by _ _ _ _ _ c.turn.ensures.same c.note-2.ensures.went (same_refl _))

pub returns-then-note-clause-crash : goal.returns-then-note-clause-crash
returns-then-note-clause-crash c = no_more _ _ (went_by _ _ _ _ _ c.turn.ensures.same c.note-2.ensures.went (same_refl _))

pub returns-then-note-clause-time : goal.returns-then-note-clause-time
returns-then-note-clause-time c = time _ _ _ (went_by _ _ _ _ _ c.turn.ensures.same c.note-2.ensures.went (same_refl _))

pub returns-else-note-clause-crash : goal.returns-else-note-clause-crash
returns-else-note-clause-crash c = no_more _ _ (went_by _ _ _ _ _ c.turn.ensures.same c.note-2.ensures.went c.fail-else-note.ensures.same)

pub returns-else-note-clause-time : goal.returns-else-note-clause-time
returns-else-note-clause-time c = time _ _ _ (went_by _ _ _ _ _ c.turn.ensures.same c.note-2.ensures.went c.fail-else-note.ensures.same)

pub returns-then-turn-clause-seen : goal.returns-then-turn-clause-seen
returns-then-turn-clause-seen c = quiet _ _ _ refl (went_by _ _ _ _ _ c.turn.ensures.same c.note.ensures.went c.fail.ensures.same)

pub returns-else-note-clause-seen : goal.returns-else-note-clause-seen
returns-else-note-clause-seen c = quiet _ _ _ refl (went_by _ _ _ _ _ c.turn.ensures.same c.note-2.ensures.went c.fail-else-note.ensures.same)
