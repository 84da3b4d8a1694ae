-- Sessions that are opened one after the other.
use Rattle.std.proofs.Common.{◌≡◌, ◌∙◌, ◌+◌, ◌≤◌, ◌<◌, ℕ, zero, suc, [], ◌∷◌, length, refl, sym, subst, length-append, arith}
use Rattle.std.specs.Prelude.{◌⊎◌, Err}
use Rattle.std.proofs.Common.{inl, inr}
use Rattle.limits.specs.declared.TheConstants.{SESSIONS_MAX}
use Rattle.wt_code.specs.declared.refusals.Refusal.{Refusal}
use Rattle.wt_code.specs.declared.refusals.Refusal.TheVariants.{NoMemory, Limit}
use Rattle.wt_code.specs.declared.refusals.Limit.TheVariants.{Sessions}
use Rattle.disk_model.specs.declared.disk.Disk.{Ghosts}
use Rattle.engine_store.specs.declared.store.Store.{Store}
use Rattle.engine_store.specs.Calls.{CallKeeps, StaysTold}
use Rattle.engine_world.specs.Worlds.{World, Resting}
use Rattle.engine.specs.Whole.{with_session_more}
use Rattle.engine.specs.declared.step.Actor.TheVariants as by
use Rattle.script_run.specs.Scripts.{NoSession, missing, opened_more}
use Rattle.script_run.specs.Runs.{IsNoSession, OpensAs, StandingIn, StandsAt}

pub opened-last : (n : ℕ) (w : World) → opened_more (suc n) w ≡ with_session_more (opened_more n w)
opened-last zero w = refl
opened-last (suc n) w = opened-last n (with_session_more w)

pub opened-length : (n : ℕ) (w : World) → length (opened_more n w).sessions ≡ n + length w.sessions
opened-length zero w = omega arith
opened-length (suc n) w = let one = length-append w.sessions (Resting ∷ []) in
    opened-length n (with_session_more w) ∙ omega (arith, one)

-- Of the sessions that are missing so many are opened, and the store, with this many sessions, stands for the world behind them.
pub record HasOpened (session : ℕ) (w : World) (Holds : World → Type 0) (sessions : ℕ) : Type 0 where
  pub count : ℕ
  pub within : count ≤ missing (by.Session session) w
  pub size : sessions ≡ count + length w.sessions
  pub holds : Holds (opened_more count w)

pub none-opened : (session : ℕ) (w : World) (Holds : World → Type 0) (sessions : ℕ) → sessions ≡ length w.sessions → Holds w → HasOpened session w Holds sessions
none-opened session w Holds sessions size holds = record { count = 0; within = omega arith; size = omega (arith, size); holds = holds }

-- one more, where the session is not there yet
pub one-opened : (session : ℕ) (w : World) (Holds Holds' : World → Type 0) (sessions sessions' : ℕ) (h : HasOpened session w Holds sessions) → sessions ≤ session → sessions' ≡ sessions + 1 → Holds' (with_session_more (opened_more h.count w))
    → HasOpened session w Holds' sessions'
one-opened session w Holds Holds' sessions sessions' h less more holds = record {
  count = suc h.count;
  within = omega (arith, h.size, less);
  size = omega (arith, h.size, more);
  holds = subst Holds' (sym (opened-last h.count w)) holds;
}

-- a loop that opens them, on any disk that it is held to
pub record IsOpening {D : Type 0} (g : Ghosts D) (session : ℕ) (before store : Store) : Type 0 where
  pub opens : (disk : D) → StandingIn g before disk (λ first s w. HasOpened session w (λ v. StandsAt g first store disk s v) (length store.engine.sessions))
  pub told : (disk : D) → StaysTold g before store disk disk
  pub keeps : (disk : D) → CallKeeps g before store disk disk

-- all are opened, where the session is there
pub all-opened : (session : ℕ) (w : World) (Holds : World → Type 0) (sessions : ℕ) (h : HasOpened session w Holds sessions) → session < sessions → Holds (opened_more (missing (by.Session session) w) w)
all-opened session w Holds sessions h there =
    let count : h.count ≡ missing (by.Session session) w = omega (arith, h.size, there, h.within) in
    subst (λ (n : ℕ). Holds (opened_more n w)) count h.holds

-- no more could be opened
pub no-more : (session : ℕ) (w : World) (Holds Holds' : World → Type 0) (sessions : ℕ) (r : Refusal) (h : HasOpened session w Holds sessions) → sessions ≤ session → (r ≡ NoMemory) ⊎ ((r ≡ Limit Sessions) × (SESSIONS_MAX ≤ sessions)) → ((v : World) → Holds v → Holds' v)
    → OpensAs (by.Session session) w (Err r) Holds'
no-more session w Holds Holds' sessions r h less why still = (h.count, omega (arith, h.size, less), because why, still (opened_more h.count w) h.holds)
  where
    because : (r ≡ NoMemory) ⊎ ((r ≡ Limit Sessions) × (SESSIONS_MAX ≤ sessions)) → NoSession r (opened_more h.count w)
    because (inl is) = inl is
    because (inr (is, many)) = let size = opened-length h.count w in inr (is, omega (arith, many, h.size, size))

pub is-no-session : (r : Refusal) (sessions : ℕ) → (r ≡ NoMemory) ⊎ ((r ≡ Limit Sessions) × (SESSIONS_MAX ≤ sessions)) → IsNoSession r
is-no-session r sessions (inl is) = inl is
is-no-session r sessions (inr (is, many)) = inr is
