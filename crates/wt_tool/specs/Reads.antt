-- The run of `read`: a transaction that gets each key, and takes no checkpoint.
use Rattle.std.specs.Prelude.{◌≡◌, ◌≢◌, ◌⊎◌, ℕ, List, [], ◌∷◌, ◌++◌, None}
use Rattle.wt_code.specs.declared.answers.Answer.TheVariants.{Value, Refused}
use Rattle.wt_code.specs.declared.refusals.Refusal.{Refusal}
use Rattle.wt_code.specs.declared.refusals.Refusal.TheVariants.{NotFound}
use Rattle.kv_model.specs.Machine.{Machine}
use Rattle.kv_model.specs.Calls.{Session, Call, Begin, GetKey}
use Rattle.item_forms.specs.Forms.{stored_as, written_as}
use Rattle.script_run.specs.declared.script.End.TheVariants.{Through, OutputFailed}
use Rattle.wt_tool.specs.Points.{Point, Ran, ends, stops, prints, tells, Did, Calls, WithSession}
use Rattle.wt_tool.specs.Openings.{Named, formats_at}

-- the get of a word, and what is printed of its value
abbrev pub the_get : Machine → List ℕ → List ℕ → Call
the_get m name key = GetKey name (stored_as (formats_at m name).key key)

abbrev pub printed_of : Machine → List ℕ → List ℕ → List ℕ
printed_of m name value = written_as (formats_at m name).value value ++ 10 ∷ []

-- Each key in order: a value is printed with a newline, an absent key is told and the rest goes on, another refusal ends the run. So does a write of the output that fails: the run has the texts up to there.
abbrev pub GetsKeys : (output_failed : Type 0) → List ℕ → List (List ℕ) → Point → Ran → Type 0
GetsKeys output_failed name [] p ran = ran ≡ ends Through p
GetsKeys output_failed name (key ∷ keys) p ran =
    ((value : List ℕ) × (q : Point) × (rest : Ran) × Did p (Session 0) (the_get p.machine name key) (Value value) q × (ran ≡ prints (printed_of p.machine name value) rest)
    × (GetsKeys output_failed name keys q rest ⊎ ((rest ≡ ends OutputFailed q) × output_failed)))
    ⊎ ((r : Refusal) × (q : Point) × Did p (Session 0) (the_get p.machine name key) (Refused r) q
    × (((r ≢ NotFound) × (ran ≡ stops r q))
    ⊎ ((rest : Ran) × (r ≡ NotFound) × (ran ≡ tells r rest) × GetsKeys output_failed name keys q rest)))

-- of a session, in a transaction
abbrev pub ReadsKeys : (output_failed : Type 0) → List ℕ → List (List ℕ) → Point → Ran → Type 0
ReadsKeys output_failed name keys p ran = WithSession (λ q. Calls (Session 0) (Begin None) (λ begun. GetsKeys output_failed name keys begun) q) p ran

abbrev pub RunsRead : (output_failed : Type 0) → List ℕ → List (List ℕ) → Point → Ran → Type 0
RunsRead output_failed uri keys p ran = Named uri (λ name. ReadsKeys output_failed name keys) p ran
