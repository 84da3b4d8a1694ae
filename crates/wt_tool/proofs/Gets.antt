-- The runs of `read`, by what its gets give.
use Rattle.std.proofs.Common.{◌≡◌, ◌≢◌, ◌⊎◌, ◌≤◌, ◌<◌, ◌+◌, ◌++◌, ◌∙◌, ℕ, true, false, List, [], ◌∷◌, length, length-append, append_assoc, take, arith, Option, inl, inr, refl, sym, ap, subst}
use Rattle.std.specs.List.{AllByRecursion}
use Rattle.std.specs.Result.{is_err}
use Rattle.std.specs.Prelude.{OnOk, OnErr, Result, Ok, Err}
use Rattle.std.proofs.lemmas.List.{append-nil, take-append-le}
use Rattle.std.proofs.Math.Seq.{take-append-add}
use Rattle.failure.specs.Counts.{Rose}
use Rattle.kv_model.specs.Machine.{Machine}
use Rattle.kv_model.specs.Calls.{Session}
use Rattle.wt_code.specs.declared.answers.Answer.TheVariants.{Refused}
use Rattle.wt_code.specs.declared.refusals.Refusal.{Refusal}
use Rattle.wt_code.specs.declared.refusals.Refusal.TheVariants.{NoMemory, NotFound}
use Rattle.wt_code.specs.Text.{text_of_refusal}
use Rattle.wt_io.specs.Streams.{Took, TookFront}
use Rattle.wt_io.specs.StreamLemmas.{took_more}
use Rattle.item_forms.specs.Forms.{stored_as}
use Rattle.script_run.specs.declared.script.End.{End}
use Rattle.script_run.specs.declared.script.End.TheVariants.{Through, Stopped}
use Rattle.wt_tool.specs.Points.{Point, Ran, Did, ends, stops, tells}
use Rattle.engine_store.specs.Devices.{Device}
use Rattle.wt_tool.specs.Openings.{formats_at}
use Rattle.wt_tool.specs.Reads.{GetsKeys, ReadsKeys, the_get}
use Rattle.wt_tool.specs.Parts.{NoDamage, Reading, at}
use Rattle.wt_tool.specs.Top.{Errors, Printed, Telling, Tells, IsCut, lines, last_line, status_of, status_by}
use Rattle.wt_tool.proofs.Beside.{short_get}

-- ---- keys

-- a run behind texts that were printed and refusals that were met
abbrev pub behind : List ℕ → List Refusal → Ran → Ran
behind printed met ran = record ran { text = printed ++ ran.text; refusals = met ++ ran.refusals }

-- a get of a word is refused
abbrev pub RefusedAt : Point → List ℕ → List ℕ → Refusal → Point → Type 0
RefusedAt p name key r q = Did p (Session 0) (the_get p.machine name key) (Refused r) q

module _ (output : Type 0) (name key : List ℕ) (keys : List (List ℕ)) (p q : Point) where
  -- an absent key
  pub more_absent : (r : Refusal) (rest : Ran) → RefusedAt p name key r q → r ≡ NotFound → GetsKeys output name keys q rest → GetsKeys output name (key ∷ keys) p (tells r rest)
  more_absent r rest refused is gets = inr (r, q, refused, inr (rest, is, refl, gets))

  -- another refusal
  pub last_refused : (r : Refusal) → RefusedAt p name key r q → r ≢ NotFound → GetsKeys output name (key ∷ keys) p (stops r q)
  last_refused r refused other = inr (r, q, refused, inl (other, refl))

no_absence : NoMemory ≢ NotFound
no_absence is = cc

last_memory : (output : Type 0) (name key : List ℕ) (keys : List (List ℕ)) (d : Device) (m : Machine) → GetsKeys output name (key ∷ keys) (at d m) (stops NoMemory (at d m))
last_memory output name key keys d m = last_refused output name key keys (at d m) (at d m) NoMemory (short_get d m name (stored_as (formats_at m name).key key)) no_absence

pub absent_or : (r : Refusal) → (r ≡ NotFound) ⊎ (r ≢ NotFound)
absent_or NotFound = inl refl
absent_or _ = inr (λ is. cc)

-- a run of `read` from this point on
pub reading : (output : Type 0) (name : List ℕ) (keys : List (List ℕ)) (p : Point) (d : Device) (out_before out_now : Option (List ℕ)) (e : Errors) (status : ℕ) (ran : Ran)
    → ReadsKeys output name keys p ran → Printed out_before out_now ran.end ran.text → Tells e (lines ran.refusals ++ last_line ran.end) (status_by ran) status
    → ran.input ≡ [] → ran.made ≡ [] → ran.next.device ≡ d → ran.next.machine.completed ≡ p.machine.completed → Reading (ReadsKeys output name keys) p d out_before out_now e status
reading output name keys p d out_before out_now e status ran reads printed told silent none there same = record { ran = ran; run = reads; printed = printed; told = told; silent = silent; none = none; there = there; same = same }

-- ---- what was written

pub rose_before : (first second third : ℕ) → first ≤ second → Rose second third → Rose first third
rose_before first second third le rose = omega (arith, rose)

pub rose_after : (first second third : ℕ) → Rose first second → second ≤ third → Rose first third
rose_after first second third rose le = omega (arith, rose)

-- a front of what comes after a text that was taken
pub front_more : (before mid now : Option (List ℕ)) (text rest : List ℕ) → Took before mid text → TookFront mid now rest → TookFront before now (text ++ rest)
front_more before mid now text rest first front =
    let short : front.0 ≤ length rest = front.1 in
    let both = took_more before mid now text (take front.0 rest) first front.2 in
    (length text + front.0, omega (arith, short, length-append text rest), subst (λ (l : List ℕ). Took before now l) (sym (take-append-add text rest front.0)) both)

-- lines behind lines, where no write of them failed
pub told_more : (before mid now : Option (List ℕ)) (first second third : ℕ) (text more : List ℕ) → Took before mid text ⊎ Rose first second → first ≤ second → second ≤ third → Took mid now more ⊎ Rose second third
    → Took before now (text ++ more) ⊎ Rose first third
told_more before mid now first second third text more (inl took) low high (inl later) = inl (took_more before mid now text more took later)
told_more before mid now first second third text more (inr rose) low high _ = inr (rose_after first second third rose high)
told_more before mid now first second third text more (inl took) low high (inr rose) = inr (rose_before first second third low rose)

pub ok_or_err : {T E : Type 0} (r : Result T E) (P Q : Type 0) → OnOk r P → OnErr r Q → P ⊎ Q
ok_or_err (Ok x) P Q p q = inl p
ok_or_err (Err x) P Q p q = inr q

pub of_ok : {T E : Type 0} (r : Result T E) (P : Type 0) → is_err r ≡ false → OnOk r P → P
of_ok (Ok x) P e p = p
of_ok (Err x) P e p = absurd cc

pub of_err : {T E : Type 0} (r : Result T E) (P : Type 0) → is_err r ≡ true → OnErr r P → P
of_err (Ok x) P e p = absurd cc
of_err (Err x) P e p = p

-- not all of the lines behind others that were told
pub cut_more : (before mid now : Option (List ℕ)) (first second third : ℕ) (text line extra : List ℕ)
    → Took before mid text ⊎ Rose first second → first ≤ second → second ≤ third
    → IsCut (record { before = mid; now = now; faults = second; faults_now = third }) line → IsCut (record { before = before; now = now; faults = first; faults_now = third }) (text ++ (line ++ extra))
cut_more before mid now first second third text line extra (inl took) low high (inl (n, less, front)) =
    let short : n < length line = less in
    let both = took_more before mid now text (take n line) took front in
    let same : take (length text + n) (text ++ (line ++ extra)) ≡ text ++ take n line = take-append-add text (line ++ extra) n ∙ ap (λ (l : List ℕ). text ++ l) (take-append-le n line extra (omega (arith, short))) in
    inl (length text + n, omega (arith, short, length-append text (line ++ extra), length-append line extra), subst (λ (l : List ℕ). Took before now l) (sym same) both)
cut_more before mid now first second third text line extra (inl took) low high (inr (rose, some)) =
    inr (rose_before first second third low rose, omega (arith, some, length-append text (line ++ extra), length-append line extra))
cut_more before mid now first second third text line extra (inr rose) low high (inl (n, less, front)) =
    inr (rose_after first second third rose high, omega (arith, less, length-append text (line ++ extra), length-append line extra))
cut_more before mid now first second third text line extra (inr rose) low high (inr (later, some)) =
    inr (rose_after first second third rose high, omega (arith, some, length-append text (line ++ extra), length-append line extra))

pub each_behind : (P : Refusal → Type 0) (met : List Refusal) (r : Refusal) → AllByRecursion P met → P r → AllByRecursion P (met ++ r ∷ [])
each_behind P [] r each one = (one, tt)
each_behind P (x ∷ met) r each one = (each.0, each_behind P met r each.1 one)

pub lines_behind : (met rest : List Refusal) → lines (met ++ rest) ≡ lines met ++ lines rest
lines_behind [] rest = refl
lines_behind (x ∷ met) rest = ap (λ (l : List ℕ). (text_of_refusal x ++ 10 ∷ []) ++ l) (lines_behind met rest) ∙ sym (append_assoc (text_of_refusal x ++ 10 ∷ []) (lines met) (lines rest))

-- a line behind lines that were told
pub tells_more : (before mid now : Option (List ℕ)) (first second third : ℕ) (text line : List ℕ) (wanted status : ℕ)
    → Took before mid text ⊎ Rose first second → first ≤ second → second ≤ third
    → Tells (record { before = mid; now = now; faults = second; faults_now = third }) line wanted status → Tells (record { before = before; now = now; faults = first; faults_now = third }) (text ++ line) wanted status
tells_more before mid now first second third text line wanted status told low high (inl (more, is)) = inl (told_more before mid now first second third text line told low high more, is)
tells_more before mid now first second third text line wanted status told low high (inr (cut, is)) =
    inr (subst (λ (l : List ℕ). IsCut (record { before = before; now = now; faults = first; faults_now = third }) (text ++ l)) (append-nil line) (cut_more before mid now first second third text line [] told low high cut), is)

-- the run that a refusal ended; where memory was short to tell an absent key, the next get ends it
module _ (output : Type 0) (name key : List ℕ) (keys all : List (List ℕ)) (d0 d d1 : Device) (start m next : Machine) (r : Refusal) (printed : List ℕ) (met : List Refusal) (out_before out_now before mid now : Option (List ℕ)) (first second third told : ℕ)
    (goes : (rest : Ran) → GetsKeys output name (key ∷ keys) (at d m) rest → ReadsKeys output name all (at d0 start) (behind printed met rest)) (same : next.completed ≡ start.completed)
    (out : Took out_before out_now printed) (lines_told : Took before mid (lines met) ⊎ Rose first second) (low : first ≤ second) (high : second ≤ third)
    (reported : Tells (record { before = mid; now = now; faults = second; faults_now = third }) (lines (r ∷ [])) (status_of r) told) where
  abbrev errs : Errors
  errs = record { before = before; now = now; faults = first; faults_now = third }

  abbrev Ends : Type 0
  Ends = Reading (ReadsKeys output name all) (at d0 start) d1 out_before out_now errs told

  took : Printed out_before out_now Through (printed ++ [])
  took = inl (subst (λ (l : List ℕ). Took out_before out_now l) (sym (append-nil printed)) out)

  line_behind : lines met ++ lines (r ∷ []) ≡ lines (met ++ r ∷ []) ++ []
  line_behind = sym (lines_behind met (r ∷ [])) ∙ sym (append-nil (lines (met ++ r ∷ [])))

  stopped_by : GetsKeys output name (key ∷ keys) (at d m) (stops r (at d1 next)) → Ends
  stopped_by gets =
      reading output name all (at d0 start) d1 out_before out_now errs told (behind printed met (stops r (at d1 next))) (goes (stops r (at d1 next)) gets) (inl (subst (λ (l : List ℕ). Took out_before out_now l) (sym (append-nil printed)) out))
      (subst (λ (l : List ℕ). Tells errs l (status_of r) told) line_behind (tells_more before mid now first second third (lines met) (lines (r ∷ [])) (status_of r) told lines_told low high reported)) refl refl refl same

  cut_only : r ≡ NotFound → told ≡ 12 → IsCut (record { before = mid; now = now; faults = second; faults_now = third }) (lines (r ∷ []))
  cut_only is twelve = of reported
    where
      of : Tells (record { before = mid; now = now; faults = second; faults_now = third }) (lines (r ∷ [])) (status_of r) told → IsCut (record { before = mid; now = now; faults = second; faults_now = third }) (lines (r ∷ []))
      of (inl (whole, status)) = absurd (omega (arith, sym twelve ∙ status ∙ ap status_of is))
      of (inr (cut, _)) = cut

  absent_by : (more : List Refusal) (end : End) → last_line end ≡ [] → r ≡ NotFound → told ≡ 12 → GetsKeys output name (key ∷ keys) (at d m) (record (ends end (at d1 next)) { refusals = r ∷ more }) → Printed out_before out_now end (printed ++ []) → Ends
  absent_by more end quiet is twelve gets printed_so =
      reading output name all (at d0 start) d1 out_before out_now errs told (behind printed met (record (ends end (at d1 next)) { refusals = r ∷ more })) (goes (record (ends end (at d1 next)) { refusals = r ∷ more }) gets) printed_so
      (inr (subst (λ (l : List ℕ). IsCut errs l) bytes (cut_more before mid now first second third (lines met) (lines (r ∷ [])) (lines more) lines_told low high (cut_only is twelve)), twelve)) refl refl refl same
    where
      bytes : lines met ++ (lines (r ∷ []) ++ lines more) ≡ lines (met ++ r ∷ more) ++ last_line end
      bytes = ap (λ (l : List ℕ). lines met ++ l) (sym (lines_behind (r ∷ []) more)) ∙ sym (lines_behind met (r ∷ more)) ∙ sym (append-nil (lines (met ++ r ∷ more))) ∙ ap (λ (l : List ℕ). lines (met ++ r ∷ more) ++ l) (sym quiet)

-- its run, by why the get gave no value
pub reading_stopped : (output : Type 0) (name key : List ℕ) (keys all : List (List ℕ)) (d0 d d1 : Device) (start m next : Machine) (r : Refusal) (printed : List ℕ) (met : List Refusal) (out_before out_now before mid now : Option (List ℕ)) (first second third told : ℕ)
    → ((rest : Ran) → GetsKeys output name (key ∷ keys) (at d m) rest → ReadsKeys output name all (at d0 start) (behind printed met rest)) → next.completed ≡ start.completed
    → Took out_before out_now printed → Took before mid (lines met) ⊎ Rose first second → first ≤ second → second ≤ third
    → Tells (record { before = mid; now = now; faults = second; faults_now = third }) (lines (r ∷ [])) (status_of r) told → (r ≡ NotFound → told ≡ 12)
    → RefusedAt (at d m) name key r (at d1 next) → (r ≡ NotFound) ⊎ (r ≢ NotFound)
    → Reading (ReadsKeys output name all) (at d0 start) d1 out_before out_now (record { before = before; now = now; faults = first; faults_now = third }) told
reading_stopped output name key keys all d0 d d1 start m next r printed met ob on before mid now first second third told goes same out prior low high reported twelve refused (inr other) =
    stopped_by output name key keys all d0 d d1 start m next r printed met ob on before mid now first second third told goes same out prior low high reported (last_refused output name key keys (at d m) (at d1 next) r refused other)
reading_stopped output name key [] all d0 d d1 start m next r printed met ob on before mid now first second third told goes same out prior low high reported twelve refused (inl absent) =
    absent_by output name key [] all d0 d d1 start m next r printed met ob on before mid now first second third told goes same out prior low high reported [] Through refl absent (twelve absent)
    (more_absent output name key [] (at d m) (at d1 next) r (ends Through (at d1 next)) refused absent refl)
    (took output name key [] all d0 d d1 start m next r printed met ob on before mid now first second third told goes same out prior low high reported)
reading_stopped output name key (k ∷ keys) all d0 d d1 start m next r printed met ob on before mid now first second third told goes same out prior low high reported twelve refused (inl absent) =
    absent_by output name key (k ∷ keys) all d0 d d1 start m next r printed met ob on before mid now first second third told goes same out prior low high reported (NoMemory ∷ []) (Stopped NoMemory) refl absent (twelve absent)
    (more_absent output name key (k ∷ keys) (at d m) (at d1 next) r (stops NoMemory (at d1 next)) refused absent (last_memory output name k keys d1 next))
    (inl (subst (λ (l : List ℕ). Took ob on l) (sym (append-nil printed)) out))

-- a refusal is all that is told
pub refusal_tells : (e : Errors) (r : Refusal) (status : ℕ) → NoDamage r → Tells e (lines (r ∷ [])) (status_of r) status → Telling NoDamage e status
refusal_tells e r status sound told = record { refusals = r ∷ []; each = (sound, tt); replies = []; end = Stopped r; told = subst (λ (l : List ℕ). Tells e l (status_of r) status) (sym (append-nil (lines (r ∷ [])))) told }
