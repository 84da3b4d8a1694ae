-- The steps of a call, one after the other, come to its answer, or to a leaf that it waits for.
use Rattle.std.proofs.Common.{◌≡◌, ◌⊎◌, ◌<◌, ℕ, zero, suc, refl, ap, sym, ◌∙◌, List, length, inl, inr, subst, arith}
use Rattle.std.specs.Prelude.{None, Some, slice_set}
use Rattle.std.proofs.lemmas.List.{get_or-set_same, length-set, set-set}
use Rattle.wt_code.specs.declared.answers.Answer.{Answer}
use Rattle.call_steps.specs.declared.reply.Reply.{Reply}
use Rattle.call_steps.specs.declared.reply.Reply.TheVariants as reply
use Rattle.call_turns.specs.Turns.{IsNoAnswer}
use Rattle.engine_world.specs.Stands.{Engine, Stands}
use Rattle.engine_world.specs.Steps.{MayGo}
use Rattle.engine_world.specs.Worlds.{World, Resting, doing_of, unset}
use Rattle.engine.specs.declared.called.Called.TheVariants as called
use Rattle.engine.specs.declared.called.Went.{Went}
use Rattle.engine.specs.declared.step.Actor.TheVariants as actor
use Rattle.engine.specs.Goings.{EndsHere, GoesBy, IsTaken, LeadsEach, LeavesFewer, StepsOn}
use Rattle.engine.specs.Runs.{StepsMore, StepsOut}
use Rattle.engine.specs.Sound.{IsSound, Keeps}
use Rattle.engine.specs.Told.{EndsFrom, TellsFrom, answer_in}
use Rattle.engine.specs.Waits.{WaitsAs, WaitsFewer, turns_in, waits_in}
use Rattle.engine.specs.Whole.{Ends, moved}
use Rattle.engine.proofs.Answered.{ends-or-goes}
use Rattle.engine.proofs.Soundness.{keeps-same, keeps-then}
use Rattle.engine.proofs.Waited.{held-away}

-- ---- one step

-- by what was taken of its reply
pub taken-goes : (old new : Engine) (session : ℕ) (told : Reply) (now : Went) (answer : Answer (List ℕ)) → IsTaken told now answer → LeadsEach old new session told → LeavesFewer old new session told → TellsFrom (answer_in old session) told → GoesBy now old new session answer
taken-goes old new session (reply.Answer a) now answer taken leads fewer own = subst (λ (g : Went). GoesBy g old new session answer) (sym taken.0) (subst (EndsHere old new session) (sym taken.1) (record { leads = leads; own = own }))
taken-goes old new session reply.More now answer taken leads fewer own = subst (λ (g : Went). GoesBy g old new session answer) (sym taken) (record { told = reply.More; none = λ a e. absurd (cc); leads = leads; fewer = fewer (λ a e. absurd (cc)) })
taken-goes old new session reply.Started now answer taken leads fewer own = subst (λ (g : Went). GoesBy g old new session answer) (sym taken) (record { told = reply.Started; none = λ a e. absurd (cc); leads = leads; fewer = fewer (λ a e. absurd (cc)) })

-- a call goes on where it is not answered
pub is-more : (w later : World) (session : ℕ) (told : Reply) → IsNoAnswer told → MayGo w session told later → told ≡ reply.More
is-more w later session told none go = elim (ends-or-goes (w.again session) (doing_of w session) w.machine session go.made go.goes) [
  | inl answered ↦ absurd (none answered.0 (go.tells ∙ answered.1))
  | inr more ↦ go.tells ∙ more
]

-- ---- all of them

-- nothing was done yet, or there are fewer steps left
abbrev HaveFewer : Engine → Engine → ℕ → Type 0
HaveFewer old now session = (now ≡ old) ⊎ (turns_in now session < turns_in old session)

fewer-then : (old now new : Engine) (session : ℕ) → HaveFewer old now session → turns_in new session < turns_in now session → turns_in new session < turns_in old session
fewer-then old now new session (inl same) less = subst (λ (e : Engine). turns_in new session < turns_in e session) same less
fewer-then old now new session (inr fewer) less = omega (arith, fewer, less)

-- steps of the call were made, and it goes on
pub record IsOnWay (old now : Engine) (session : ℕ) : Type 0 where
  pub open_one : session < length now.sessions
  pub sound : IsSound now
  pub kept : Keeps old now
  pub fewer : HaveFewer old now session
  pub more : (w : World) → Stands old w → (n : ℕ) × (middle : World) × StepsMore n w (actor.Session session) middle × Stands now middle

pub starts-way : (e : Engine) (session : ℕ) → session < length e.sessions → IsSound e → IsOnWay e e session
starts-way e session inside sound = record { open_one = inside; sound = sound; kept = keeps-same e; fewer = inl refl; more = λ w st. (0, w, refl, st) }

more-then : (n : ℕ) (w middle last : World) (session : ℕ) → StepsMore n w (actor.Session session) middle → MayGo middle session reply.More last → StepsMore (suc n) w (actor.Session session) last
more-then zero w middle last session same goes = (last, subst (λ x. MayGo x session reply.More last) same goes, refl)
more-then (suc n) w middle last session steps goes = (steps.0, steps.1, more-then n steps.0 middle last session steps.2 goes)

out-then : (n : ℕ) (w middle last : World) (session : ℕ) (answer : Answer (List ℕ)) → StepsMore n w (actor.Session session) middle → MayGo middle session (reply.Answer answer) last → StepsOut n w (actor.Session session) answer last
out-then zero w middle last session answer same goes = subst (λ x. MayGo x session (reply.Answer answer) last) same goes
out-then (suc n) w middle last session answer steps goes = (steps.0, steps.1, out-then n steps.0 middle last session answer steps.2 goes)

pub goes-way : (old now new : Engine) (session : ℕ) → IsOnWay old now session → StepsOn now new session → Keeps now new → IsOnWay old new session
goes-way old now new session way steps kept = record {
  open_one = subst (λ (n : ℕ). session < n) (sym kept.sessions) way.open_one;
  sound = kept.sound way.sound;
  kept = keeps-then old now new way.kept kept;
  fewer = inr (fewer-then old now new session way.fewer steps.fewer);
  more = λ w st. let m = way.more w st in let l = steps.leads m.1 m.3 in
      (suc m.0, l.0, more-then m.0 w m.1 l.0 session m.2 (subst (λ t. MayGo m.1 session t l.0) (is-more m.1 l.0 session steps.told steps.none l.1) l.1), l.2);
}

pub ends-way : (old now new : Engine) (session : ℕ) (answer : Answer (List ℕ)) → IsOnWay old now session → EndsHere now new session answer → (w : World) → Stands old w → Ends (called.Ended answer) new w session
ends-way old now new session answer way ends w st = let m = way.more w st in let l = ends.leads m.1 m.3 in (m.0, l.0, out-then m.0 w m.1 l.0 session answer m.2 l.1, l.2)

-- its answer is one of its own
pub ends-own : (old now new : Engine) (session : ℕ) (answer : Answer (List ℕ)) → IsOnWay old now session → EndsHere now new session answer → EndsFrom (answer_in old session) (called.Ended answer)
ends-own old now new session answer way ends = λ but is. ends.own but (way.kept.own session but is)

pub waits-way : (old now new : Engine) (session leaf : ℕ) → IsOnWay old now session → new ≡ now → (w : World) → Stands old w → Ends (called.Waits leaf) new w session
waits-way old now new session leaf way same w st = let m = way.more w st in (m.0, m.1, m.2, subst (λ (e : Engine). Stands e m.1) (sym same) m.3)

-- the leaf is there, in no frame
pub waits-there : (now new : Engine) (session leaf : ℕ) → new ≡ now → waits_in now session ≡ Some leaf → WaitsAs (called.Waits leaf) new session
waits-there now new session leaf same is = subst (λ (e : Engine). WaitsAs (called.Waits leaf) e session) (sym same) (is, held-away now session leaf is)

-- a call that was ready made a step before it waited
pub waits-fewer : (old now new : Engine) (session leaf : ℕ) → IsOnWay old now session → new ≡ now → waits_in now session ≡ Some leaf → WaitsFewer (called.Waits leaf) old new session
waits-fewer old now new session leaf way same is ready = elim way.fewer [
  | inl none ↦ absurd (let two : None ≡ Some leaf = sym ready ∙ (ap (λ (e : Engine). waits_in e session) (sym none) ∙ is) in cc)
  | inr fewer ↦ subst (λ (e : Engine). turns_in e session < turns_in old session) (sym same) fewer
]

-- ---- a whole call, with nobody between

-- a step leaves the others as they were
pub moved-then : (w middle last : World) (session : ℕ) (told : Reply) → session < length w.sessions → middle ≡ moved w session middle.machine (doing_of middle session) → MayGo middle session told last
    → last ≡ moved w session last.machine (doing_of last session)
moved-then w middle last session told inside is go = go.leaves ∙ (ap (λ (x : World). record x { machine = go.made.machine; sessions = slice_set x.sessions session go.made.doing }) is
    ∙ ((λ i. record w { machine = go.made.machine; sessions = set-set w.sessions session (doing_of middle session) go.made.doing i; again = unset session w.again })
    ∙ (λ i. moved w session (machine-is i) (does-is i)))) where
      machine-is : go.made.machine ≡ last.machine
      machine-is = sym (ap (λ (x : World). x.machine) go.leaves)

      long : session < length middle.sessions
      long = subst (λ (n : ℕ). session < n) (sym (ap (λ (x : World). length x.sessions) is ∙ length-set w.sessions session (doing_of middle session))) inside

      does-is : go.made.doing ≡ doing_of last session
      does-is = sym (ap (λ (x : World). doing_of x session) go.leaves ∙ get_or-set_same middle.sessions session go.made.doing Resting long)
