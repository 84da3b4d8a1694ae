-- Which faults of the disk a turn meets.
use Rattle.std.proofs.Common.{◌≡◌, ◌∙◌, ℕ, [], ◌∷◌, refl, sym, ap, subst, inl, inr}
use Rattle.std.specs.Prelude.{◌⊎◌, Option, Some, None, Result, Ok, Err, IfOk, IfErr, filter}
use Rattle.wt_code.specs.declared.refusals.Refusal.{Refusal}
use Rattle.wt_code.specs.declared.refusals.Refusal.TheVariants.{DiskFault, NoMemory}
use Rattle.wt_io.specs.declared.streams.Sink.{Ghosts as SinkGhosts}
use Rattle.disk_model.specs.declared.disk.Disk.{Ghosts}
use Rattle.engine_store.specs.declared.store.Store.{Store}
use Rattle.script_run.specs.declared.one_line.Printed.{Printed}
use Rattle.script_run.specs.declared.one_line.Stop.{Stop}
use Rattle.script_run.specs.declared.one_line.Stop.TheVariants as stop
use Rattle.script_run.specs.declared.script.End.{End}
use Rattle.script_run.specs.declared.script.End.TheVariants.{OutputFailed, Stopped}
use Rattle.script_run.specs.declared.script.Place.{Place}
use Rattle.script_run.specs.declared.told.Told.{Told}
use Rattle.script_run.specs.Faults.{RepliesFault, TellsFaults}
use Rattle.script_run.specs.Runs.{PrintsFault}
use Rattle.script_run.specs.Scripts.{counts, first_of, listed, refusals_in}
use Rattle.script_run.specs.Turns.{MeetsFault, PrintTurn, met_with}
use Rattle.script_run.proofs.Holding.{printed_fault}

-- a fault that is printed was replied
pub printed_so : (result : Result Printed Stop) (told : Told) → IfOk result (λ p. listed p.refusal ≡ refusals_in told.reply) → IfErr result (λ e. e ≡ stop.NoMemory) → PrintsFault result → RepliesFault (Ok told)
printed_so (Ok printed) told is short fault = printed_fault printed.refusal told.reply is fault
printed_so (Err e) told is short fault = absurd (subst (λ (x : Stop). PrintsFault (Err x)) short fault)

counted : (r : Refusal) → first_of (filter counts (r ∷ [])) ≡ Some DiskFault → r ≡ DiskFault
counted DiskFault is = refl
counted NoMemory is = absurd cc
counted _ is = absurd cc

met_more : (met refusal : Option Refusal) (rose : Type 0) → met_with met refusal ≡ Some DiskFault → (refusal ≡ Some DiskFault → rose) → (met ≡ Some DiskFault) ⊎ rose
met_more (Some earlier) refusal rose is fault = inl is
met_more None None rose is fault = absurd cc
met_more None (Some r) rose is fault = inr (fault (ap (λ (x : Refusal). Some x) (counted r is)))

-- of a line of which this was printed
pub print_meets : {K : Type 0} (sink : SinkGhosts K) (out out' : K) (printed : Printed) (size : ℕ) (place next : Place) (rose : Type 0) (end : Option End) → PrintTurn sink out out' printed size place next end → (printed.refusal ≡ Some DiskFault → rose)
    → MeetsFault place next rose end
print_meets sink out out' printed size place next rose None turn fault = λ is. met_more place.met printed.refusal rose (sym turn.behind.met ∙ is) fault
print_meets sink out out' printed size place next rose (Some end) turn fault = (ap (λ (x : Place). x.met) turn.same, λ is. absurd (cut (sym turn.end_is ∙ is)))
  where
    cut : OutputFailed ≡ Stopped DiskFault → ⊥
    cut e = cc

-- ---- whatever the disk

module _ {D : Type 0} (g : Ghosts D) (store store' : Store) (disk disk' : D) where
  -- a run that ends otherwise
  pub ends_met : (place next : Place) (end : End) (Says : Type 0) → next.met ≡ place.met → (end ≡ Stopped DiskFault → Says) → TellsFaults g store store' disk disk' (λ rose. Says → rose)
      → TellsFaults g store store' disk disk' (λ rose. MeetsFault place next rose (Some end))
  ends_met place next end Says same says tells start le are = let x = tells start le are in ((same, λ is. x.0 (says is)), x.1)

  pub print_met : {K : Type 0} (sink : SinkGhosts K) (out out' : K) (printed : Printed) (size : ℕ) (place next : Place) (end : Option End) → PrintTurn sink out out' printed size place next end
      → TellsFaults g store store' disk disk' (λ rose. PrintsFault (Ok printed) → rose) → TellsFaults g store store' disk disk' (λ rose. MeetsFault place next rose end)
  print_met sink out out' printed size place next end turn tells start le are = let x = tells start le are in (print_meets sink out out' printed size place next _ end turn x.0, x.1)
