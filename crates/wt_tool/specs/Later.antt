-- The commands that are still to come, as far as they can be said before their crates. No contract cites this file: with its code a command takes its part into a file of its own, its constructor into `Asked` and its case into `Runs`, and nothing else of the contract changes.
use Rattle.std.specs.Prelude.{◌≡◌, ◌⊎◌, ℕ, ◌+◌, ◌*◌, ◌%◌, ◌/◌, ◌^◌, zero, suc, List, [], ◌∷◌, ◌++◌}
use Rattle.item.specs.declared.formats.Formats.{Formats}
use Rattle.wt_code.specs.declared.answers.Answer.{Answer}
use Rattle.wt_code.specs.declared.answers.Answer.TheVariants.{Done, Left, End as NoneLeft, Refused}
use Rattle.wt_code.specs.declared.refusals.Refusal.{Refusal}
use Rattle.kv_model.specs.Machine.{Machine, Completed}
use Rattle.kv_model.specs.Calls.{System, Call, CkptStart, CkptStep, CkptFinish, Around, Answers}
use Rattle.script_text.specs.declared.line.Line.{Line}
use Rattle.script_text.specs.declared.replies.Reply.{Reply}
use Rattle.script_text.specs.declared.replies.Reply.TheVariants.{Answered}
use Rattle.engine_store.specs.Answers.{Installs}
use Rattle.engine_store.specs.Devices.{Installed, IsLater}
use Rattle.script_run.specs.declared.script.End.TheVariants.{Through, Stopped}
use Rattle.script_run.specs.Scripts.{RunsLine, Script, StopsBy, ends as no_more}
use Rattle.wt_tool.specs.Points.{Point, Ran, prints, Closes}
use Rattle.wt_tool.specs.Scripts.{ran_by}

-- what the words ask for
pub data AskedLater : Type 0 where
  stress : (seed calls : ℕ) → AskedLater
  workload : (workers turns : ℕ) → AskedLater

-- ---- a checkpoint by steps: the line `sys ckpt` takes it in one event

-- Of the engine: what a call of the system rests on, from one state to the next.
module _ (around : Script → Script → Around) where
  -- a whole call of the system: exactly what the engine's own call promises
  pub record Calls (s : Script) (call : Call) (answer : Answer (List ℕ)) (t : Script) : Type 0 where
    pub later : IsLater s.device t.device
    pub answers : Answers (around s t) s.world.machine (System 0) call answer t.world.machine

  -- the same of one that installs nothing
  pub record CallsOnly (s : Script) (call : Call) (answer : Answer (List ℕ)) (t : Script) : Type 0 where
    pub calls : Calls s call answer t
    pub made : t.made ≡ s.made

  -- the finish installs the checkpoint, or was installing it at a fault of its gate
  pub record Finishes (s : Script) (answer : Answer (List ℕ)) (t : Script) : Type 0 where
    pub calls : Calls s CkptFinish answer t
    pub checkpoint : Completed
    pub taken : answer ≡ Done → t.world.machine.completed ≡ checkpoint
    pub installs : Installs answer checkpoint t.device t.world.machine s.made t.made

  -- the leaves one by one, and the finish; the first refusal ends it
  abbrev pub Captures : ℕ → Script → Answer (List ℕ) → Script → Type 0
  Captures zero s answer t =
      ((r : Refusal) × CallsOnly s CkptStep (Refused r) t × (answer ≡ Refused r))
      ⊎ ((mid : Script) × CallsOnly s CkptStep NoneLeft mid × Finishes mid answer t)
  Captures (suc n) s answer t = (mid : Script) × CallsOnly s CkptStep Left mid × Captures n mid answer t

  abbrev pub TakesBySteps : Script → Answer (List ℕ) → Script → Type 0
  TakesBySteps s answer t =
      ((r : Refusal) × (answer ≡ Refused r) × CallsOnly s CkptStart (Refused r) t)
      ⊎ ((n : ℕ) × (mid : Script) × CallsOnly s CkptStart Done mid × Captures n mid answer t)

  -- ---- `stress`: what a generator draws

  -- a line of a script, or a checkpoint by steps
  pub data Turn : Type 0 where
    Says : (asked : Line) → Turn
    BySteps : Turn

  -- the reply to it, and what it leaves
  abbrev pub Makes : Turn → Script → Reply → Script → Type 0
  Makes (Says asked) s reply t = (formats : Formats) × RunsLine asked s formats reply t
  Makes BySteps s reply t = (answer : Answer (List ℕ)) × (reply ≡ Answered answer) × TakesBySteps s answer t

  -- an opening that is refused ends the run
  abbrev pub Stops : Turn → Script → Refusal → Script → Type 0
  Stops (Says asked) s r t = StopsBy asked s r t
  Stops BySteps s r t = ⊥

  -- the next state of the generator; what is drawn is its upper 32 bits
  abbrev pub lcg_next : ℕ → ℕ
  lcg_next x = (x * 6364136223846793005 + 1442695040888963407) % (2 ^ 64)

  -- the line of a turn, by its number, what was drawn and the machine; the replies so far, newest first
  module _ (turn_at : ℕ → ℕ → Machine → Turn) (summary : List Reply → Machine → List ℕ) (Counted : Refusal → Type 0) where
    abbrev pub Turns : (turns at x : ℕ) → List Reply → Script → Ran → Type 0
    Turns zero at x replies s ran = ran ≡ prints (summary replies s.world.machine) (ran_by [] (no_more Through s))
    Turns (suc n) at x replies s ran =
        ((r : Refusal) × (t : Script) × Stops (turn_at at (lcg_next x / 4294967296) s.world.machine) s r t × (ran ≡ ran_by [] (no_more (Stopped r) t)))
        ⊎ ((reply : Reply) × (t : Script) × Makes (turn_at at (lcg_next x / 4294967296) s.world.machine) s reply t
        × (((r : Refusal) × (reply ≡ Answered (Refused r)) × (Counted r → ⊥) × (ran ≡ ran_by [] (no_more (Stopped r) t)))
        ⊎ Turns n (at + 1) (lcg_next x) (reply ∷ replies) t ran))

-- `workload` has the words of `stress`, its run by the history that the threads made: `Reached` leads from the point at which they start to that at which they are joined.
module _ (Reached : (workers turns : ℕ) → Point → List Installed → Point → Type 0) (text_of_sum : ℕ → ℕ → List ℕ) where
  abbrev pub RunsWorkload : (workers turns : ℕ) → Point → Ran → Type 0
  RunsWorkload workers turns p ran =
      (q : Point) × (made : List Installed) × (rest : Ran) × Reached workers turns p made q × Closes q rest
      × (ran ≡ record (prints (text_of_sum (workers * turns) (2 * (workers * turns))) rest) { made = made ++ rest.made })
