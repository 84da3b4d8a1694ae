-- Steps of actors, one after the other.
use Rattle.std.proofs.Common.{◌≡◌, ◌+◌, ◌++◌, refl, ap, sym, ◌∙◌, List, [], ◌∷◌, length, append_assoc, subst}
use Rattle.std.specs.Prelude.{take}
use Rattle.std.proofs.lemmas.List.{length-append}
use Rattle.call_steps.specs.declared.reply.Reply.{Reply}
use Rattle.engine_world.specs.Stands.{Engine, Stands}
use Rattle.engine_world.specs.Worlds.{World}
use Rattle.engine.specs.declared.step.Step.{Step}
use Rattle.engine.specs.Runs.{MayRun, MayStep}

-- the steps that were made led from the first engine to this one
pub record HasRun (first e : Engine) (made : List Step) (replies : List Reply) : Type 0 where
  pub sessions : length e.sessions ≡ length first.sessions
  pub systems : length e.systems ≡ length first.systems
  pub count : length replies ≡ length made
  pub ran : (w : World) → Stands first w → (later : World) × MayRun w made replies later × Stands e later

-- one step more
run-more : (w : World) (steps : List Step) (replies : List Reply) (step : Step) (told : Reply) (middle later : World) → MayRun w steps replies middle → MayStep middle step told later
    → MayRun w (steps ++ step ∷ []) (replies ++ told ∷ []) later
run-more w [] [] step told middle later ran stepped = (later, subst (λ x. MayStep x step told later) ran stepped, refl)
run-more w [] (reply ∷ replies) step told middle later ran stepped = absurd ran
run-more w (first ∷ steps) [] step told middle later ran stepped = absurd ran
run-more w (first ∷ steps) (reply ∷ replies) step told middle later ran stepped = (ran.0, ran.1, run-more ran.0 steps replies step told middle later ran.2 stepped)

pub one-more : (first e e' : Engine) (made : List Step) (replies : List Reply) (step : Step) (told : Reply) → HasRun first e made replies
    → length e'.sessions ≡ length e.sessions → length e'.systems ≡ length e.systems
    → ((w : World) → Stands e w → (later : World) × MayStep w step told later × Stands e' later)
    → HasRun first e' (made ++ step ∷ []) (replies ++ told ∷ [])
one-more first e e' made replies step told run sessions systems goes = record {
  sessions = sessions ∙ run.sessions;
  systems = systems ∙ run.systems;
  count = grown made replies run.count;
  ran = λ w st. let r = run.ran w st in let s = goes r.0 r.2 in (s.0, run-more w made replies step told r.0 s.0 r.1 s.1, s.2);
} where
  grown : (made : List Step) (replies : List Reply) → length replies ≡ length made → length (replies ++ told ∷ []) ≡ length (made ++ step ∷ [])
  grown made replies same = length-append replies (told ∷ []) ∙ (ap (λ n. n + 1) same ∙ sym (length-append made (step ∷ [])))

-- the first of all steps were made
take-front : (made rest : List Step) → take (length made) (made ++ rest) ≡ made
take-front [] rest = refl
take-front (step ∷ made) rest = ap (λ (l : List Step). step ∷ l) (take-front made rest)

pub ran-front : (first e : Engine) (made rest steps : List Step) (replies : List Reply) → HasRun first e made replies → steps ≡ made ++ rest
    → (w : World) → Stands first w → (later : World) × MayRun w (take (length replies) steps) replies later × Stands e later
ran-front first e made rest steps replies run is w st = let r = run.ran w st in
    (r.0, subst (λ (l : List Step). MayRun w l replies r.0) (sym (ap (λ n. take n steps) run.count ∙ (ap (take (length made)) is ∙ take-front made rest))) r.1, r.2)

-- no step was made yet
pub none-run : (e : Engine) (replies : List Reply) → replies ≡ [] → HasRun e e [] replies
none-run e replies is = record { sessions = refl; systems = refl; count = ap length is; ran = λ w st. (w, subst (λ (l : List Reply). MayRun w [] l w) (sym is) refl, st) }

-- those that are left, where one more was taken
pub one-left : (yielded left before all : List Step) (step : Step) → before ≡ step ∷ left → yielded ++ before ≡ all → (yielded ++ step ∷ []) ++ left ≡ all
one-left yielded left before all step taken is = append_assoc yielded (step ∷ []) left ∙ (ap (λ (l : List Step). yielded ++ l) (sym taken) ∙ is)
