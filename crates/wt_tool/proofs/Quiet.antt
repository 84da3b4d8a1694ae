-- Worlds between two calls of a command.
use Rattle.std.specs.Prelude.{◌≡◌, ℕ, zero, suc, List, [], ◌∷◌, ◌++◌, map, MatchOption, Option, None, slice_index_or}
use Rattle.std.proofs.Common.{refl, sym, subst}
use Rattle.kv_model.specs.Calls.{Call}
use Rattle.kv_model.specs.Content.{Content}
use Rattle.row_page.specs.Rows.{Row}
use Rattle.engine_world.specs.Stands.{Engine}
use Rattle.engine_world.specs.Systems.{first_world}
use Rattle.engine_world.specs.Worlds.{Records, World, Doing, Resting}
use Rattle.engine.specs.Whole.{with_session_more}
use Rattle.ckpt_step.specs.Keeps.{AreOrdinary, IsOrdinary, IsOrdinaryDoing}
use Rattle.wt_tool.specs.Led.{IsQuiet}

-- ---- as an opening makes them

none_of : {A B : Type 0} (xs : List A) (n : ℕ) → slice_index_or (map (λ (x : A). let none : Option B = None in none) xs) n None ≡ None
none_of [] n = refl
none_of (x ∷ xs) zero = refl
none_of (x ∷ xs) (suc n) = none_of xs n

pub first_quiet : (content : Content) (shelf : ℕ → List Row) (records : Records) (e : Engine) → IsQuiet (first_world content shelf records e)
first_quiet content shelf records e = record { sessions = λ session. refl; systems = λ number. none_of e.systems number }

-- ---- behind a call

pub quiet_ordinary : (w : World) → IsQuiet w → AreOrdinary w
quiet_ordinary w quiet = record {
  doings = λ session. subst (λ (d : Doing). IsOrdinaryDoing d) (sym (quiet.sessions session)) tt;
  systems = λ number. subst (λ (o : Option Call). MatchOption o (Unit {0}) IsOrdinary) (sym (quiet.systems number)) tt;
}

pub quiet_on : (w later : World) → IsQuiet w → later ≡ record w { machine = later.machine } → IsQuiet later
quiet_on w later quiet is = subst IsQuiet (sym is) (record { sessions = quiet.sessions; systems = quiet.systems })

rest_more : (ds : List Doing) → ((session : ℕ) → slice_index_or ds session Resting ≡ Resting) → (session : ℕ) → slice_index_or (ds ++ Resting ∷ []) session Resting ≡ Resting
rest_more [] rests zero = refl
rest_more [] rests (suc n) = refl
rest_more (d ∷ ds) rests zero = rests zero
rest_more (d ∷ ds) rests (suc n) = rest_more ds (λ k. rests (suc k)) n

pub quiet_more : (w : World) → IsQuiet w → IsQuiet (with_session_more w)
quiet_more w quiet = record { sessions = rest_more w.sessions quiet.sessions; systems = quiet.systems }
