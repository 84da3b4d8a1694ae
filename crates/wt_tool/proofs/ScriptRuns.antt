-- What a run of a script's lines is to the definitions, and what it tells.
use Rattle.std.specs.Prelude.{◌≡◌, ◌⊎◌, ℕ, List, [], ◌∷◌, ◌++◌, length, filter, map, Option, Some, None, refl}
use Rattle.std.proofs.Common.{inl, inr, sym, subst, arith}
use Rattle.std.specs.List.{AllByRecursion}
use Rattle.std.specs.Option.{option_to_list}
use Rattle.disk_model.specs.declared.disk.Disk.{Ghosts}
use Rattle.wt_code.specs.declared.refusals.Refusal.{Refusal}
use Rattle.wt_code.specs.declared.refusals.Refusal.TheVariants.{Corrupt, DiskFault, NoMemory}
use Rattle.kv_model.specs.Content.{Content, start}
use Rattle.row_page.specs.Rows.{Row}
use Rattle.engine_store.specs.declared.eviction.TheConstants.{FRAMES}
use Rattle.engine_store.specs.declared.store.Store.{Store}
use Rattle.engine_store.specs.Opened.{IsAtFault}
use Rattle.script_run.specs.declared.script.End.{End}
use Rattle.script_run.specs.declared.script.End.TheVariants.{Through, Stopped, InputFailed, OutputFailed}
use Rattle.script_run.specs.declared.script.ScriptRun.{ScriptRun}
use Rattle.script_run.specs.Scripts.{Outside, counts, first_of, opened_world}
use Rattle.script_run.specs.Runs.{IsRun}
use Rattle.wt_tool.specs.Scripts.{told_at, ran_by}
use Rattle.wt_tool.specs.Parts.{Scripting, TellsEnd, TellsOfScript}
use Rattle.wt_tool.specs.Top.{Errors, IsStatus, Streams, Telling, Tells, lines, last_line, status_at, status_of, first_status}

-- ---- what is a run of it

-- the first fault among the replies counts for all of them
first_met : (rs : List Refusal) → first_status (filter counts (option_to_list (first_of (filter counts rs)))) ≡ first_status (filter counts rs)
first_met [] = refl
first_met (DiskFault ∷ rs) = refl
first_met (NoMemory ∷ rs) = refl
first_met (_ ∷ rs) = first_met rs

first_counts : (end : End) (rs : List Refusal) → status_at end (told_at end ++ filter counts (option_to_list (first_of (filter counts rs)))) ≡ status_at end (told_at end ++ filter counts rs)
first_counts Through rs = first_met rs
first_counts (Stopped r) rs = refl
first_counts InputFailed rs = refl
first_counts OutputFailed rs = refl

-- four actors that have started nothing
pub four_rest : {A B : Type 0} (xs : List A) → length xs ≡ 4 → let none : Option B = None in map (λ (x : A). none) xs ≡ none ∷ none ∷ none ∷ none ∷ []
four_rest [] is = absurd (omega (arith, is))
four_rest (a ∷ []) is = absurd (omega (arith, is))
four_rest (a ∷ b ∷ []) is = absurd (omega (arith, is))
four_rest (a ∷ b ∷ c ∷ []) is = absurd (omega (arith, is))
four_rest (a ∷ b ∷ c ∷ d ∷ []) is = refl
four_rest (a ∷ b ∷ c ∷ d ∷ e ∷ xs) is = absurd (omega (arith, is))

-- on an engine and its device, which stand for what was opened
pub scripted : {D : Type 0} (g : Ghosts D) (o : Outside) (content : Content) (shelf : ℕ → List Row) (w : Streams) (before after : D) (s : Store) (told : ScriptRun) (status : ℕ)
    → IsRun g o w.in_before w.in_now w.out_before w.out_now (opened_world (start content) shelf) before after FRAMES None s told → TellsEnd w.errors told.end told.met status → Scripting g o content w before after status
scripted g o content shelf w before after s told status run tells = record {
  ran = ran_by run.given run.ran;
  run = record { given = run.given; texts = run.texts; behind = run.behind; ended = run.ended; at_end = run.at_end; lines = run.lines; shelf = shelf; made = run.ran; runs = run.runs; whole = run.whole; is = refl };
  there = run.device;
  taken = run.gave;
  printed = inl run.took;
  told = subst (λ (n : ℕ). Tells w.errors (lines (told_at run.ran.end) ++ last_line run.ran.end) n status) (first_counts run.ran.end run.ran.replies)
      (subst (λ (met : Option Refusal). TellsEnd w.errors run.ran.end met status) run.met (subst (λ (end : End). TellsEnd w.errors end told.met status) run.end_is tells));
  opens = run.held.last;
  ever = run.held.ever;
  stays = run.held.stays;
}

-- ---- what is told, whatever the disk

-- damage that an end tells is there as the script ended
pub end_so : (honest : Type 0) (now : List ℕ) (end : End) → (honest → (at want found : ℕ) → end ≡ Stopped (Corrupt at want found) → IsAtFault now at want found) → AllByRecursion (TellsOfScript honest now) (told_at end)
end_so honest now Through damage = tt
end_so honest now (Stopped (Corrupt at want found)) damage = ((λ known. damage known at want found refl), tt)
end_so honest now (Stopped _) damage = (tt, tt)
end_so honest now InputFailed damage = tt
end_so honest now OutputFailed damage = tt

pub tells_end : (P : Refusal → Type 0) (e : Errors) (told : ScriptRun) (status : ℕ) → AllByRecursion P (told_at told.end) → TellsEnd e told.end told.met status → Telling P e status
tells_end P e told status each tells = record { refusals = told_at told.end; each = each; replies = option_to_list told.met; end = told.end; told = tells }

-- what a status of a script means
pub record StatusMeans (end : End) (met : Option Refusal) (n : ℕ) : Type 0 where
  pub some : IsStatus n
  pub disk : n ≡ 4 → (end ≡ Stopped DiskFault) ⊎ (met ≡ Some DiskFault)
  pub input : n ≡ 5 → end ≡ InputFailed
  pub output : n ≡ 6 → end ≡ OutputFailed

module _ (end : End) (met : Option Refusal) where
  of_zero : StatusMeans end met 0
  of_zero = record { some = inl refl; disk = λ is. absurd (omega (arith, is)); input = λ is. absurd (omega (arith, is)); output = λ is. absurd (omega (arith, is)) }

  of_one : StatusMeans end met 1
  of_one = record { some = inr (inl refl); disk = λ is. absurd (omega (arith, is)); input = λ is. absurd (omega (arith, is)); output = λ is. absurd (omega (arith, is)) }

  of_four : (end ≡ Stopped DiskFault) ⊎ (met ≡ Some DiskFault) → StatusMeans end met 4
  of_four why = record { some = inr (inr (inl refl)); disk = λ is. why; input = λ is. absurd (omega (arith, is)); output = λ is. absurd (omega (arith, is)) }

  of_five : end ≡ InputFailed → StatusMeans end met 5
  of_five why = record { some = inr (inr (inr (inl refl))); disk = λ is. absurd (omega (arith, is)); input = λ is. why; output = λ is. absurd (omega (arith, is)) }

  of_six : end ≡ OutputFailed → StatusMeans end met 6
  of_six why = record { some = inr (inr (inr (inr (inl refl)))); disk = λ is. absurd (omega (arith, is)); input = λ is. absurd (omega (arith, is)); output = λ is. why }

  of_twelve : StatusMeans end met 12
  of_twelve = record { some = inr (inr (inr (inr (inr refl)))); disk = λ is. absurd (omega (arith, is)); input = λ is. absurd (omega (arith, is)); output = λ is. absurd (omega (arith, is)) }

stopped_means : (r : Refusal) (met : Option Refusal) → StatusMeans (Stopped r) met (status_of r)
stopped_means DiskFault met = of_four (Stopped DiskFault) met (inl refl)
stopped_means NoMemory met = of_twelve (Stopped NoMemory) met
stopped_means _ met = of_one _ met

through_means : (met : Option Refusal) → StatusMeans Through met (first_status (filter counts (option_to_list met)))
through_means None = of_zero Through None
through_means (Some DiskFault) = of_four Through (Some DiskFault) (inr refl)
through_means (Some NoMemory) = of_twelve Through (Some NoMemory)
through_means (Some _) = of_zero Through _

end_means : (end : End) (met : Option Refusal) → StatusMeans end met (status_at end (told_at end ++ filter counts (option_to_list met)))
end_means Through met = through_means met
end_means (Stopped r) met = stopped_means r met
end_means InputFailed met = of_five InputFailed met refl
end_means OutputFailed met = of_six OutputFailed met refl

pub tells_means : (e : Errors) (end : End) (met : Option Refusal) (status : ℕ) → TellsEnd e end met status → StatusMeans end met status
tells_means e end met status (inl (told, is)) = subst (λ (n : ℕ). StatusMeans end met n) (sym is) (end_means end met)
tells_means e end met status (inr (cut, is)) = subst (λ (n : ℕ). StatusMeans end met n) (sym is) (of_twelve end met)
