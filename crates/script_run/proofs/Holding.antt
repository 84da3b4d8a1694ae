-- What the line of an actor keeps of a store and its disk, and what is printed of a line.
use Rattle.std.specs.Prelude.{◌≡◌, ◌++◌, ◌∷◌, [], ℕ, Bool, true, false, List, Option, Some, None, Result, Ok, Err, IfOk, IfErr, IsTrue}
use Rattle.std.proofs.Common.{inr, refl, sym, ap, subst, ◌∙◌}
use Rattle.std.proofs.lemmas.Bool.{false≢true}
use Rattle.disk_model.specs.declared.disk.Disk.{Ghosts}
use Rattle.disk_model.proofs.Crash.{looked_then}
use Rattle.tree_open.proofs.Steps.{looked_none}
use Rattle.wt_code.specs.declared.answers.Answer.TheVariants.{Refused}
use Rattle.wt_code.specs.declared.refusals.Refusal.{Refusal}
use Rattle.wt_code.specs.declared.refusals.Refusal.TheVariants.{DiskFault}
use Rattle.wt_calls.specs.declared.call.Call.{Call}
use Rattle.script_text.specs.declared.line.Control.{Control as ControlAsked}
use Rattle.script_text.specs.declared.line.Line.{Line}
use Rattle.script_text.specs.declared.line.Line.TheVariants.{Whole, Start, Step, Finish, Control}
use Rattle.script_text.specs.declared.replies.Reply.TheVariants.{Answered}
use Rattle.script_text.specs.declared.replies.Reply.{Reply}
use Rattle.script_text.specs.Grammar.{IsLine}
use Rattle.script_text.specs.Replies.{line_of_reply}
use Rattle.engine_store.specs.declared.frames.Frames.TheVariants.{Firm}
use Rattle.engine_store.specs.declared.store.Store.{Store}
use Rattle.engine_store.specs.Calls.{CallKeeps}
use Rattle.engine_store.specs.Room.{RoomOf}
use Rattle.script_run.specs.declared.kept.Kept.{Kept}
use Rattle.script_run.specs.declared.told.Told.{Told as LineTold}
use Rattle.script_run.specs.declared.one_line.Printed.{Printed}
use Rattle.script_run.specs.declared.one_line.Stop.{Stop}
use Rattle.script_run.specs.declared.one_line.Stop.TheVariants as stop
use Rattle.engine_store.specs.Opened.{IsReady}
use Rattle.engine_store.specs.Progress.{place_in}
use Rattle.script_run.specs.Runs.{IsAt, IsCallLine, IsOfActor, IsReplied, IsTold, LineMade}
use Rattle.script_run.specs.Scripts.{IsFree, IsLater, Script, actor_of, listed, refusals_in}
use Rattle.engine_store.proofs.OtherRecords.{kept_more}
use Rattle.script_run.proofs.GoneBehind.{actors_line, behind_actor, gone_behind, replies_free}

-- ---- a store that keeps what it is held to

module _ {D : Type 0} (g : Ghosts D) where
  pub keeps_none : (store : Store) (disk : D) → CallKeeps g store store disk disk
  keeps_none store disk = record { ready = λ ready. ready; ground = refl; running = refl; frames = refl; looked = looked_none g disk; home = refl }

  pub keeps_then : (store middle store' : Store) (disk between disk' : D) → CallKeeps g store middle disk between → CallKeeps g middle store' between disk' → CallKeeps g store store' disk disk'
  keeps_then store middle store' disk between disk' a b = record {
    ready = λ ready. b.ready (a.ready ready);
    ground = kept_more store.ground middle.ground store'.ground a.ground b.ground;
    running = b.running ∙ a.running;
    frames = b.frames ∙ a.frames;
    looked = looked_then g disk between disk' a.looked b.looked;
    home = b.home ∙ a.home;
  }

  pub ready_kept : (store store' : Store) (disk disk' : D) → CallKeeps g store store' disk disk' → IsReady store → IsReady store'
  ready_kept store store' disk disk' keeps ready = keeps.ready ready

-- ---- a line of an actor

-- a line that is asked of no device
pub call_line : (asked : Line) → (IsLater asked → ⊥) → ((x : ControlAsked) → asked ≡ Control x → ⊥) → IsCallLine asked
call_line (Whole made) now other = now
call_line (Start made) now other = now
call_line (Step who) now other = tt
call_line (Finish who) now other = tt
call_line (Control asked) now other = absurd (other asked refl)

-- one that is no call
pub of_actor : (asked : Line) → IsCallLine asked → ((x : Call) → asked ≡ Whole x → ⊥) → ((x : Call) → asked ≡ Start x → ⊥) → IsOfActor asked
of_actor (Whole made) now whole start = absurd (whole made refl)
of_actor (Start made) now whole start = absurd (start made refl)
of_actor (Step who) now whole start = tt
of_actor (Finish who) now whole start = tt
of_actor (Control asked) now whole start = absurd now

-- behind the line leaves may have left their frames
pub actor_told : {D : Type 0} (g : Ghosts D) (first : D) (store middle store' : Store) (disk between disk' : D) (asked : Line) (s : Script) (told : LineTold) (kept : Kept) → IsOfActor asked → IsFree (actor_of asked) s.kept → IsAt g first store disk s
    → (r : IsReplied g first s middle between asked kept told) → store'.frames ≡ middle.frames → store'.running ≡ middle.running → RoomOf g first r.later.world r.later.first r.later.made middle store' between disk' → IsTold g first asked s store' disk' kept told
actor_told g first store middle store' disk between disk' asked s told kept now none at r frames running room =
    let behind = gone_behind g first r.later middle store' between disk' r.device room in
    record {
      later = behind.later;
      replies = (r.later, replies_free asked s told.formats told.reply r.later (actors_line asked now) none r.is, behind_actor asked r.later behind.later now behind.gone);
      at = record {
        held = behind.held;
        device = behind.device;
        frames = frames ∙ (r.frames ∙ ap Firm (sym behind.frames));
        progress = ap place_in running ∙ (r.progress ∙ sym behind.progress);
      };
      start = behind.start ∙ r.start;
      kept_is = behind.kept ∙ r.kept_is;
    }

-- ---- what is printed of a line

pub not_later : (b : Bool) (P : Type 0) → b ≡ false → (P → IsTrue b) → P → ⊥
not_later b P is later p = false≢true (sym is ∙ later p)

-- a fault that is printed was replied
pub printed_fault : (refusal : Option Refusal) (reply : Reply) → listed refusal ≡ refusals_in reply → refusal ≡ Some DiskFault → reply ≡ Answered (Refused DiskFault)
printed_fault None reply is fault = absurd cc
printed_fault (Some r) (Answered (Refused other)) is fault = cc
printed_fault (Some r) _ is fault = absurd cc

pub printed_made : {D : Type 0} (g : Ghosts D) (first : D) (text : List ℕ) (s : Script) (store : Store) (disk : D) (kept : Kept) (asked : Line) (told : LineTold) (result : Result Printed Stop)
    → IsLine text asked → (IsLater asked → ⊥) → IsTold g first asked s store disk kept told
    → IfOk result (λ p. p.line.items ≡ line_of_reply told.formats told.reply ++ 10 ∷ []) → IfOk result (λ p. listed p.refusal ≡ refusals_in told.reply) → IfErr result (λ e. e ≡ stop.NoMemory)
    → LineMade g first text s store disk kept result
printed_made g first text s store disk kept asked told (Ok printed) spelled now r line refusal short = (
  asked,
  told.formats,
  told.reply,
  record { line = spelled; now = now; later = r.later; replies = r.replies; at = r.at; start = r.start; kept_is = r.kept_is },
  record { line = line; refusal = refusal },
)
printed_made g first text s store disk kept asked told (Err e) spelled now r line refusal short =
    subst (λ (x : Stop). LineMade g first text s store disk kept (Err x)) (sym short)
    (inr (asked, told.formats, told.reply, record { line = spelled; now = now; later = r.later; replies = r.replies; at = r.at; start = r.start; kept_is = r.kept_is }))
