-- How `load` ends, by its input and by the text that was taken.
use Rattle.std.specs.Prelude.{◌≡◌, ◌⊎◌, ◌<◌, ◌^◌, ◌++◌, ℕ, Bool, true, false, List, [], length, Option, None, Result, Ok, Err, IfErr}
use Rattle.std.proofs.Common.{inl, inr, refl, sym, ap, subst, ◌∙◌, arith}
use Rattle.std.proofs.lemmas.List.{append-nil}
use Rattle.std.specs.List.{AllByRecursion}
use Rattle.disk_model.specs.declared.disk.Disk.{Ghosts}
use Rattle.disk_model.proofs.Crash.{started, widened}
use Rattle.wt_code.specs.declared.refusals.Refusal.{Refusal}
use Rattle.wt_code.specs.declared.refusals.Refusal.TheVariants.{DiskFault, NoMemory, Invalid as Refusal_Invalid}
use Rattle.wt_code.specs.declared.refusals.Invalid.TheVariants.{Text}
use Rattle.wt_io.specs.Streams.{Gave}
use Rattle.kv_model.specs.Content.{Content, start}
use Rattle.kv_model.specs.Machine.{Machine}
use Rattle.stored.specs.Stored.{Reads}
use Rattle.dump_text.specs.Cuts.{lines_in}
use Rattle.dump_text.specs.Grammar.{Row}
use Rattle.dump_text.specs.Texts.{IsDumped, IsRefused}
use Rattle.dump_text.specs.declared.reader.Table.{Table}
use Rattle.dump_text.specs.declared.whole.Dumped.{Dumped}
use Rattle.engine_store.specs.Images.{EachReads}
use Rattle.script_run.specs.declared.script.End.{End}
use Rattle.script_run.specs.declared.script.End.TheVariants.{Through, Stopped, InputFailed, OutputFailed}
use Rattle.wt_tool.specs.Points.{Point, Ran, point_of, stops}
use Rattle.wt_tool.specs.Inputs.{IsUntaken}
use Rattle.wt_tool.specs.Loads.{IsWhole, LoadsRows, LoadsText, RunsLoad, loaded_name}
use Rattle.wt_tool.specs.Writes.{demand_of}
use Rattle.wt_tool.specs.Parts.{EndsLoad, LeavesAt, LoadEnds, Loading, TellsEnd, TellsSpoilt, end_of, silent_run}
use Rattle.wt_tool.specs.Scripts.{told_at}
use Rattle.wt_tool.specs.Top.{Errors, Telling}
use Rattle.wt_tool.proofs.Closings.{start_opens}
use Rattle.wt_tool.proofs.ScriptRuns.{tells_means}

-- ---- a text

pub refused_text : (overwrite : Bool) (renamed : Option (List ℕ)) (ended : Bool) (text : List ℕ) (p : Point) (r : Refusal) → IsRefused ended text r → LoadsText overwrite renamed ended text p (silent_run (Err r) [] p)
refused_text overwrite renamed ended text p r (inl short) = inl (ap (λ (x : Refusal). stops x p) short)
refused_text overwrite renamed ended text p r (inr (number, is, at)) = inr (inl (number, at, ap (λ (x : Refusal). stops x p) is))

pub dumped_text : (overwrite : Bool) (renamed : Option (List ℕ)) (ended : Bool) (text : List ℕ) (d : Dumped) (name : List ℕ) (p : Point) (ran : Ran) → ended ≡ true → IsDumped (lines_in text) d → name ≡ loaded_name renamed d.table.name
    → LoadsRows name d.table.formats (demand_of overwrite) d.rows p ran → LoadsText overwrite renamed ended text p ran
dumped_text overwrite renamed ended text d name p ran is dumped named run =
    let told : Table = record { name = dumped.dump.name; formats = dumped.dump.formats } in
    inr (inr (
      is,
      (
        dumped.dump,
        dumped.is,
        subst (λ (t : Table). LoadsRows (loaded_name renamed t.name) t.formats (demand_of overwrite) dumped.dump.rows p ran) dumped.table
            (subst (λ (rows : List Row). LoadsRows (loaded_name renamed d.table.name) d.table.formats (demand_of overwrite) rows p ran) dumped.rows
            (subst (λ (n : List ℕ). LoadsRows n d.table.formats (demand_of overwrite) d.rows p ran) named run)),
      ),
    ))

-- it tells neither of damage nor of the disk
pub refused_sound : (honest : Type 0) (bytes : List ℕ) (ended : Bool) (text : List ℕ) (r : Refusal) → IsRefused ended text r → TellsSpoilt honest bytes r
refused_sound honest bytes ended text r (inl short) = subst (TellsSpoilt honest bytes) (sym short) tt
refused_sound honest bytes ended text r (inr (number, is, at)) = subst (TellsSpoilt honest bytes) (sym is) tt

pub refused_no_fault : (ended : Bool) (text : List ℕ) (r : Refusal) → IsRefused ended text r → r ≡ DiskFault → ⊥
refused_no_fault ended text r (inl short) fault = let bad : NoMemory ≡ DiskFault = sym short ∙ fault in cc (bad)
refused_no_fault ended text r (inr (number, is, at)) fault = let bad : Refusal_Invalid (Text number) ≡ DiskFault = sym is ∙ fault in cc (bad)

-- ---- an input

pub whole_short : (ended : Type 0) (all : Bool) (text : List ℕ) → IsWhole ended all text → length text < 2 ^ 63
whole_short ended true text whole = omega (arith, whole.1)
whole_short ended false text whole = omega (arith, whole)

pub whole_some : (ended : Type 0) (all : Bool) (text : List ℕ) → IsWhole ended all text → all ≡ false → 0 < length text
whole_some ended true text whole is = absurd cc
whole_some ended false text whole is = omega (arith, whole)

module _ {D : Type 0} (g : Ghosts D) (failed ended : Type 0) (overwrite : Bool) (renamed : Option (List ℕ)) (content : Content) (before now : Option (List ℕ)) where
  abbrev Allowed : Point → Ran → Type 0
  Allowed = RunsLoad failed ended overwrite renamed

  abbrev Ends : D → D → End → Type 0
  Ends old new end = LoadEnds g Allowed (start content) before now old new end

  -- it was not taken, and nothing was done
  pub untaken_ends : (old : D) (end : End) (taken : List ℕ) → ((c : List ℕ) → g.left_since old (g.moment old) c → g.may_leave old c) → EachReads (g.may_leave old) content → Gave before now taken → IsUntaken failed end → Ends old old end
  untaken_ends old end taken since each gave why = by_end end why
    where
      ends_by : (x : End) → Allowed (point_of g (start content) old) (record { input = taken ++ []; text = []; refusals = told_at x; replies = []; made = []; next = point_of g (start content) old; end = x }) → Ends old old x
      ends_by x run = record {
        taken = taken ++ [];
        made = [];
        next = start content;
        gave = subst (λ (l : List ℕ). Gave before now l) (sym (append-nil taken)) gave;
        run = run;
        opens = inl (content, each, start_opens content each.1);
        ever = widened g old old _ _ (started g old (λ c. Reads c content) (λ c left. each.0 c (since c left))) (λ c reads. inl (content, reads, start_opens content each.1));
        stays = tt;
      }

      by_end : (x : End) → IsUntaken failed x → Ends old old x
      by_end x (inl (is, fault)) = subst (Ends old old) (sym is) (ends_by InputFailed (taken, inl (fault, refl)))
      by_end x (inr is) = subst (Ends old old) (sym is) (ends_by (Stopped NoMemory) (taken, inr (inl refl)))

  -- it was taken, and its text loaded or refused
  pub taken_ends : (old new : D) (all : Bool) (text : List ℕ) (result : Result (Unit {0}) Refusal) → Gave before now text → IsWhole ended all text → LeavesAt g (LoadsText overwrite renamed all text) (start content) old new result → Ends old new (end_of result)
  taken_ends old new all text result gave whole l = by_result result l
    where
      by_result : (x : Result (Unit {0}) Refusal) → LeavesAt g (LoadsText overwrite renamed all text) (start content) old new x → Ends old new (end_of x)
      by_result (Ok done) m = record {
        taken = text ++ [];
        made = m.made;
        next = m.next;
        gave = subst (λ (l : List ℕ). Gave before now l) (sym (append-nil text)) gave;
        run = (text, inr (inr (all, whole, (silent_run (Ok done) m.made (point_of g m.next new), refl, m.run))));
        opens = m.opens;
        ever = m.ever;
        stays = m.stays;
      }
      by_result (Err r) m = record {
        taken = text ++ [];
        made = m.made;
        next = m.next;
        gave = subst (λ (l : List ℕ). Gave before now l) (sym (append-nil text)) gave;
        run = (text, inr (inr (all, whole, (silent_run (Err r) m.made (point_of g m.next new), refl, m.run))));
        opens = m.opens;
        ever = m.ever;
        stays = m.stays;
      }

-- how it ends, whatever the disk
pub untaken_end : (honest : Type 0) (bytes : List ℕ) (disk input : Type 0) (end : End) → IsUntaken input end → EndsLoad honest bytes disk input end
untaken_end honest bytes disk input end (inl (is, fault)) = subst (EndsLoad honest bytes disk input) (sym is) fault
untaken_end honest bytes disk input end (inr is) = subst (EndsLoad honest bytes disk input) (sym is) (tt, λ e. let bad : NoMemory ≡ DiskFault = e in cc (bad))

pub taken_end : (honest : Type 0) (bytes : List ℕ) (disk input : Type 0) (result : Result (Unit {0}) Refusal) → IfErr result (TellsSpoilt honest bytes) → IfErr result (λ r. r ≡ DiskFault → disk) → EndsLoad honest bytes disk input (end_of result)
taken_end honest bytes disk input (Ok done) sound fault = tt
taken_end honest bytes disk input (Err r) sound fault = (sound, fault)

-- ---- what is told

pub load_told : {D : Type 0} (g : Ghosts D) (Allowed : Point → Ran → Type 0) (m : Machine) (before now : Option (List ℕ)) (e : Errors) (old new : D) (end : End) (status : ℕ) → LoadEnds g Allowed m before now old new end → TellsEnd e end None status → Loading g Allowed m before now e old new status
load_told g Allowed m before now e old new end status l tells = record {
  ran = record { input = l.taken; text = []; refusals = told_at end; replies = []; made = l.made; next = point_of g l.next new; end = end };
  run = l.run;
  there = refl;
  taken = l.gave;
  silent = refl;
  told = tells;
  opens = l.opens;
  ever = l.ever;
  stays = l.stays;
}

pub end_telling : (honest : Type 0) (bytes : List ℕ) (disk input : Type 0) (e : Errors) (end : End) (status : ℕ) → EndsLoad honest bytes disk input end → TellsEnd e end None status → Telling (TellsSpoilt honest bytes) e status
end_telling honest bytes disk input e end status may tells = record { refusals = told_at end; each = each end may; replies = []; end = end; told = tells }
  where
    each : (x : End) → EndsLoad honest bytes disk input x → AllByRecursion (TellsSpoilt honest bytes) (told_at x)
    each Through may = tt
    each (Stopped r) may = (may.0, tt)
    each InputFailed may = tt
    each OutputFailed may = tt

-- what a status means
pub record LoadMeans (disk input : Type 0) (n : ℕ) : Type 0 where
  pub some : (n ≡ 0) ⊎ ((n ≡ 1) ⊎ ((n ≡ 4) ⊎ ((n ≡ 5) ⊎ (n ≡ 12))))
  pub of_disk : n ≡ 4 → disk
  pub of_input : n ≡ 5 → input

pub load_means : (honest : Type 0) (bytes : List ℕ) (disk input : Type 0) (e : Errors) (end : End) (n : ℕ) → EndsLoad honest bytes disk input end → TellsEnd e end None n → LoadMeans disk input n
load_means honest bytes disk input e end n may tells =
    let means = tells_means e end None n tells in
    record {
      some = elim means.some [
        | inl zero ↦ inl zero
        | inr more ↦ elim more [
          | inl one ↦ inr (inl one)
          | inr others ↦ elim others [
            | inl four ↦ inr (inr (inl four))
            | inr rest ↦ elim rest [
              | inl five ↦ inr (inr (inr (inl five)))
              | inr last ↦ elim last [
                | inl six ↦ absurd (subst (EndsLoad honest bytes disk input) (means.output six) may)
                | inr twelve ↦ inr (inr (inr (inr twelve)))
              ]
            ]
          ]
        ]
      ];
      of_disk = λ four. elim (means.disk four) [
        | inl is ↦ (subst (EndsLoad honest bytes disk input) is may).1 refl
        | inr none ↦ absurd cc
      ];
      of_input = λ five. subst (EndsLoad honest bytes disk input) (means.input five) may;
    }
