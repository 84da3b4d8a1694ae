-- The run of `write`: a transaction for each pair, and then Close.
use Rattle.std.specs.Prelude.{◌≡◌, ℕ, Bool, true, false, List, [], ◌∷◌, None}
use Rattle.kv_model.specs.Machine.{Machine}
use Rattle.kv_model.specs.Decisions.{Demand, Anything, Vacant}
use Rattle.kv_model.specs.Calls.{Session, Call, Begin, PutKey, Commit}
use Rattle.item_forms.specs.Forms.{stored_as}
use Rattle.script_run.specs.declared.script.End.TheVariants.{Through}
use Rattle.wt_tool.specs.Points.{Point, Ran, ends, Calls, WithSession, Closes}
use Rattle.wt_tool.specs.Openings.{Named, formats_at}

-- the put of a pair of words
abbrev pub the_put : Machine → List ℕ → Demand → List ℕ × List ℕ → Call
the_put m name demand pair = PutKey name (stored_as (formats_at m name).key pair.0) (stored_as (formats_at m name).value pair.1) demand

-- without -o, a key that is present is refused
abbrev pub demand_of : Bool → Demand
demand_of false = Vacant
demand_of true = Anything

-- one transaction for each pair; the first refusal ends the run, which then has taken no checkpoint
abbrev pub PutsPairs : List ℕ → Demand → List (List ℕ × List ℕ) → Point → Ran → Type 0
PutsPairs name demand [] p ran = Closes p ran
PutsPairs name demand (pair ∷ pairs) p ran =
    Calls (Session 0) (Begin None)
    (λ begun. Calls (Session 0) (the_put begun.machine name demand pair) (λ put. Calls (Session 0) (Commit None None) (λ done. PutsPairs name demand pairs done) put) begun)
    p ran

-- without pairs nothing is done
abbrev pub WritesPairs : List ℕ → Demand → List (List ℕ × List ℕ) → Point → Ran → Type 0
WritesPairs name demand [] p ran = ran ≡ ends Through p
WritesPairs name demand (pair ∷ pairs) p ran = WithSession (PutsPairs name demand (pair ∷ pairs)) p ran

abbrev pub RunsWrite : Bool → List ℕ → List (List ℕ × List ℕ) → Point → Ran → Type 0
RunsWrite overwrite uri pairs p ran = Named uri (λ name. WritesPairs name (demand_of overwrite) pairs) p ran
