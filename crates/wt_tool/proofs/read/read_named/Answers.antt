use Rattle.std.proofs.Common.{◌≡◌, ◌⊎◌, ◌≤◌, ◌<◌, ◌+◌, ◌++◌, ◌∙◌, ℕ, IsTrue, List, [], ◌∷◌, Option, Result, Ok, Err, true, false, zero, map, take, drop, refl, sym, ap, subst, inl, inr, length, length-drop, get_or, suc, arith, Bor}
use Rattle.std.proofs.lemmas.List.{append-nil, nil_from_length}
use Rattle.failure.specs.Counts.{Rose}
use Rattle.disk_model.proofs.Crash.{looked_then}
use Rattle.item.specs.declared.formats.Formats.{Formats}
use Rattle.item_forms.specs.Forms.{written_as}
use Rattle.kv_model.specs.Content.{Content, start}
use Rattle.device_read.specs.Readers.{IsReaderOf, tables_in}
use Rattle.device_read.proofs.Spoilt.{reader_whole}
use Rattle.wt_code.specs.declared.answers.Answer.TheVariants.{Refused, Value}
use Rattle.wt_code.specs.declared.refusals.Refusal.{Refusal}
use Rattle.wt_code.specs.declared.refusals.Refusal.TheVariants.{Corrupt, NoMemory, NotFound, DiskFault}
use Rattle.wt_io.specs.Streams.{Took, TookFront}
use Rattle.wt_io.specs.StreamLemmas.{took_more, took_none}
use Rattle.engine_store.specs.Devices.{Device}
use Rattle.script_run.specs.declared.script.End.TheVariants.{Through, Stopped, OutputFailed}
use Rattle.wt_tool.specs.Damaged.{LacksLeafOf, MayGiveOn, ReadsKeysOn, device_on}
use Rattle.wt_tool.specs.Fresh.{MayGive, key_in}
use Rattle.wt_tool.specs.Points.{Point}
use Rattle.wt_tool.specs.Openings.{formats_at}
use Rattle.wt_tool.specs.Parts.{IsReadStatus, IsSoOfLeaves, Reading}
use Rattle.wt_tool.specs.Reads.{ReadsKeys, printed_of}
use Rattle.wt_tool.specs.Top.{Errors, IsTold, Tells, lines, last_line, status_of, first_status, errors_of}
use Rattle.wt_tool.proofs.Dumping.{keeps_on, later_on, looked_self, reading_as, so_further, spoilt_now}
use Rattle.wt_tool.proofs.Finding.{formats_are, table_of}
use Rattle.wt_tool.proofs.FreshRuns.{Goes, goes_absent, goes_first, goes_value}
use Rattle.wt_tool.proofs.Beside.{keeps_same, same_device}
use Rattle.wt_tool.proofs.Gets.{rose_before, front_more, told_more, tells_more, ok_or_err, of_ok, of_err, each_behind, lines_behind}
use Rattle.wt_tool.proofs.Going.{going_failed, going_lacks, going_stopped, going_through}
use Rattle.wt_tool.proofs.read.read_named.Goals as goal
use Rattle.wt_tool.proofs.read.read_named.Goals.{in-Ok+else-is_err, in-Err+else-told+else-not-is_absence, then-told-via-then-told, then-told-via-else-told+then-not-is_absence}

abbrev texts : List (Bor (List ℕ)) → List (List ℕ)
texts keys = map (λ (s : Bor (List ℕ)). s.now) keys

pub get-requires-clause-table : goal.get-requires-clause-table
get-requires-clause-table g c = table_of (tables_in c.args.reader.now) c.args.name.now c.table_named-table.result c.table_named-table.ensures.found c.table_named-table.ensures.none

pub get-requires-clause-on : goal.get-requires-clause-on
get-requires-clause-on g c h =
    let looked = c.loop-key.invariant.looked in
    subst (λ (l : List ℕ). IsReaderOf l c.args.reader.now) (sym looked.content) (c.requires.on (sym looked.same ∙ h))

pub loop-key-init : goal.loop-key-init
loop-key-init g c = record {
  printed = [];
  met = [];
  each = tt;
  out = took_none (g.K.Sink.written c.args.out.now);
  err = inl (took_none (g.E.Sink.written c.args.err.now));
  status = refl;
  small = inl refl;
  out_later = omega arith;
  err_later = omega arith;
  looked = looked_self g.D.Disk c.args.disk.now;
  home = refl;
  runs = λ h whole content reads spoilt n more. let d = device_on g.D.Disk whole c.args.disk.now in goes_first (Rose (g.K.Sink.fault_count c.args.out.now) n) content c.args.name.now more d d (same_device d) (keeps_same d);
}

abbrev nowhere : Bor (List ℕ)
nowhere = record { ref_ptr = (0, 0); now = [] }

-- one key more was read
front_key : (keys : List (Bor (List ℕ))) (i : ℕ) → i < length keys → (more : List (List ℕ)) → texts (take (suc i) keys) ++ more ≡ texts (take i keys) ++ ((get_or keys i nowhere).now ∷ more)
front_key [] i less more = absurd (omega (arith, less))
front_key (k ∷ keys) zero less more = refl
front_key (k ∷ keys) (suc i) less more = ap (λ (l : List (List ℕ)). k.now ∷ l) (front_key keys i (omega (arith, less)) more)

next_key : (keys : List (Bor (List ℕ))) (i : ℕ) → i < length keys → (more : List (List ℕ)) → texts (take (i + 1) keys) ++ more ≡ texts (take i keys) ++ ((get_or keys i nowhere).now ∷ more)
next_key keys i less more = let e : suc i ≡ i + 1 = omega arith in subst (λ (n : ℕ). texts (take n keys) ++ more ≡ texts (take i keys) ++ ((get_or keys i nowhere).now ∷ more)) e (front_key keys i less more)

whole_keys : (keys : List (Bor (List ℕ))) (i : ℕ) → texts (take i keys) ++ texts (drop i keys) ≡ texts keys
whole_keys keys zero = refl
whole_keys [] (suc i) = refl
whole_keys (k ∷ keys) (suc i) = ap (λ (l : List (List ℕ)). k.now ∷ l) (whole_keys keys i)

-- all of them, by the one at hand
parts_are : (keys : List (Bor (List ℕ))) (i : ℕ) → i < length keys → texts keys ≡ texts (take i keys) ++ ((get_or keys i nowhere).now ∷ texts (drop (i + 1) keys))
parts_are keys i less = sym (whole_keys keys (i + 1)) ∙ next_key keys i less (texts (drop (i + 1) keys))

abbrev GoesOn : (output : Type 0) → Content → (name : List ℕ) → List (Bor (List ℕ)) → (first now : Device) → ℕ → (printed : List ℕ) → (met : List Refusal) → Type 0
GoesOn output c name keys first now i printed met = (more : List (List ℕ)) → Goes output c name (texts (take i keys) ++ more) first more now printed met

further_goes : (output : Type 0) (c : Content) (name : List ℕ) (keys : List (Bor (List ℕ))) (first now : Device) (i : ℕ) → i < length keys → (printed : List ℕ) (met : List Refusal) → GoesOn output c name keys first now i printed met
    → (more : List (List ℕ)) → Goes output c name (texts (take (i + 1) keys) ++ more) first ((get_or keys i nowhere).now ∷ more) now printed met
further_goes output c name keys first now i less printed met goes more = subst (λ (l : List (List ℕ)). Goes output c name l first ((get_or keys i nowhere).now ∷ more) now printed met) (sym (next_key keys i less more)) (goes ((get_or keys i nowhere).now ∷ more))

next_goes : (output : Type 0) (c : Content) (name : List ℕ) (keys : List (Bor (List ℕ))) (first now : Device) (i : ℕ) → i < length keys → (printed : List ℕ) (met : List Refusal)
    → GoesOn output c name keys first now i printed met → Goes output c name (texts keys) first ((get_or keys i nowhere).now ∷ texts (drop (i + 1) keys)) now printed met
next_goes output c name keys first now i less printed met goes = subst (λ (l : List (List ℕ)). Goes output c name l first ((get_or keys i nowhere).now ∷ texts (drop (i + 1) keys)) now printed met) (sym (parts_are keys i less)) (goes ((get_or keys i nowhere).now ∷ texts (drop (i + 1) keys)))

last_goes : (output : Type 0) (c : Content) (name : List ℕ) (keys : List (Bor (List ℕ))) (first now : Device) (i : ℕ) (printed : List ℕ) (met : List Refusal) → GoesOn output c name keys first now i printed met → Goes output c name (texts keys) first (texts (drop i keys)) now printed met
last_goes output c name keys first now i printed met goes = subst (λ (l : List (List ℕ)). Goes output c name l first (texts (drop i keys)) now printed met) (whole_keys keys i) (goes (texts (drop i keys)))

front_goes : (output : Type 0) (c : Content) (name : List ℕ) (keys : List (Bor (List ℕ))) (first now : Device) (i : ℕ) (printed : List ℕ) (met : List Refusal) → GoesOn output c name keys first now i printed met → Goes output c name (texts (take i keys)) first [] now printed met
front_goes output c name keys first now i printed met goes = subst (λ (l : List (List ℕ)). Goes output c name l first [] now printed met) (append-nil (texts (take i keys))) (goes [])

same_err_of : (a b : Refusal) → (let x : Result (List ℕ) Refusal = Err a in let y : Result (List ℕ) Refusal = Err b in x ≡ y) → a ≡ b
same_err_of a b is = cc

-- what was given, where it was not damage
gave_value : (c : Content) (bytes name word value : List ℕ) (faults faults_now : ℕ) → MayGiveOn c bytes name word faults faults_now (Ok value) → MayGive c name (key_in c name word) faults faults_now (Value value)
gave_value c bytes name word value faults faults_now (inl may) = may
gave_value c bytes name word value faults faults_now (inr (at, want, found, is, leaf)) = absurd cc

gave_absent : (c : Content) (bytes name word : List ℕ) (r : Refusal) (faults faults_now : ℕ) → r ≡ NotFound → MayGiveOn c bytes name word faults faults_now (Err r) → MayGive c name (key_in c name word) faults faults_now (Refused NotFound)
gave_absent c bytes name word r faults faults_now absent (inl may) = subst (λ (x : Refusal). MayGive c name (key_in c name word) faults faults_now (Refused x)) absent may
gave_absent c bytes name word r faults faults_now absent (inr (at, want, found, is, leaf)) = let e : Corrupt at want found ≡ NotFound = sym (same_err_of r (Corrupt at want found) is) ∙ absent in absurd cc

same_err : (e a b : Option (List ℕ)) (f x y : ℕ) (l : List ℕ) → a ≡ b → x ≡ y → Took e b l ⊎ Rose f y → Took e a l ⊎ Rose f x
same_err e a b f x y l p q (inl took) = inl (subst (λ (o : Option (List ℕ)). Took e o l) (sym p) took)
same_err e a b f x y l p q (inr rose) = inr (subst (λ (n : ℕ). Rose f n) (sym q) rose)

through_tells : (e : Errors) (met : List Refusal) (status : ℕ) → IsTold e (lines met) → status ≡ first_status met → Tells e (lines (met ++ []) ++ []) (first_status ((met ++ []) ++ [])) status
through_tells e met status told is =
    let plain : Tells e (lines met ++ []) (first_status met) status = inl (subst (λ (l : List ℕ). IsTold e l) (sym (append-nil (lines met))) told, is) in
    let same : met ≡ (met ++ []) ++ [] = sym (append-nil met) ∙ sym (append-nil (met ++ [])) in
    subst (λ (l : List Refusal). Tells e (lines l ++ []) (first_status ((met ++ []) ++ [])) status) (sym (append-nil met)) (subst (λ (l : List Refusal). Tells e (lines met ++ []) (first_status l) status) same plain)

told_plain : (e : Errors) (bytes : List ℕ) (wanted status : ℕ) → Tells e bytes wanted status → (status ≡ 12 → ⊥) → IsTold e bytes × (status ≡ wanted)
told_plain e bytes wanted status (inl whole) other = whole
told_plain e bytes wanted status (inr cut) other = absurd (other cut.1)

large : (n : ℕ) → 1 < n → (n ≡ 0) ⊎ (n ≡ 1) → ⊥
large n lt (inl e) = omega (arith, e, lt)
large n lt (inr e) = omega (arith, e, lt)

status_absent : (met : List Refusal) → (first_status met ≡ 0) ⊎ (first_status met ≡ 1) → first_status (met ++ NotFound ∷ []) ≡ 1
status_absent [] s = refl
status_absent (DiskFault ∷ met) s = absurd (large 4 (omega arith) s)
status_absent (NoMemory ∷ met) s = absurd (large 12 (omega arith) s)
status_absent (_ ∷ met) s = refl

-- the text of a value, in the formats of the table that was found
text_same : (c : Content) (name value : List ℕ) (formats : Formats) → formats ≡ formats_at (start c) name → written_as formats.value value ++ 10 ∷ [] ≡ printed_of (start c) name value
text_same c name value formats are = ap (λ (f : Formats). written_as f.value value ++ 10 ∷ []) are

-- a run that meets no leaf at fault
reading_on : {output : Type 0} (bytes name : List ℕ) (keys : List (List ℕ)) (p : Point) (d : Device) (before now : Option (List ℕ)) (e : Errors) (status : ℕ) → Reading (ReadsKeys output name keys) p d before now e status → Reading (ReadsKeysOn output bytes name keys) p d before now e status
reading_on {output} bytes name keys p d before now e status r = reading_as (ReadsKeys output name keys) (ReadsKeysOn output bytes name keys) p d before now e status (λ ran reads. inl reads) r

-- the status of a refusal
status_says : (r : Refusal) (status : ℕ) → (status ≡ status_of r) ⊎ (status ≡ 12) → IsReadStatus status × (status ≡ 4 → r ≡ DiskFault) × (status ≡ 6 → ⊥)
status_says r status (inr is) = (inr (inr (inr (inr is))), (λ four. absurd (omega (arith, is, four))), λ six. omega (arith, is, six))
status_says DiskFault status (inl is) = (inr (inr (inl is)), (λ four. refl), λ six. omega (arith, is, six))
status_says NoMemory status (inl is) = (inr (inr (inr (inr is))), (λ four. absurd (omega (arith, is, four))), λ six. omega (arith, is, six))
status_says _ status (inl is) = (inr (inl is), (λ four. absurd (omega (arith, is, four))), λ six. omega (arith, is, six))

pub loop-key-preserved : goal.loop-key-preserved
loop-key-preserved g c =
    let K = g.K.Sink in
    let E = g.E.Sink in
    let D = g.D.Disk in
    let i = c.loop-key.invariant in
    elim c.match-get.branch [
      | in-Ok+else-is_err w ↦
          let value = w.in-Ok.value in
          let text : List ℕ = written_as c.formats_of-formats.result.value value ++ 10 ∷ [] in
          let text_is : w.written_as.result.now ++ 10 ∷ [] ≡ text = ap (λ (t : List ℕ). t ++ 10 ∷ []) (w.written_as.ensures ∙ ap (written_as c.formats_of-formats.result.value) w.as_bytes.ensures) in
          let p = subst (λ (t : List ℕ). Took (K.written c.loop-key.out) (K.written w.print.new.out) t) text_is
          (of_ok w.print.result (Took (K.written c.loop-key.out) (K.written w.print.new.out) (w.written_as.result.now ++ 10 ∷ [])) (sym w.is_err.ensures.value ∙ w.if-is_err.false) w.print.ensures.ok) in
          let later = w.print.ensures.cause.later in
          record {
            printed = i.printed ++ text;
            met = i.met;
            each = i.each;
            out = subst (λ (o : Option (List ℕ)). Took (K.written c.args.out.now) o (i.printed ++ text)) (sym (ap K.written w.out-is)) (took_more _ _ _ i.printed text i.out p);
            err = same_err _ _ _ _ _ _ (lines i.met) (ap E.written w.err-is) (ap E.fault_count w.err-is) i.err;
            status = w.status-is ∙ i.status;
            small = subst (λ (n : ℕ). (n ≡ 0) ⊎ (n ≡ 1)) (sym w.status-is) i.small;
            out_later = subst (λ (n : ℕ). K.fault_count c.args.out.now ≤ n) (sym (ap K.fault_count w.out-is)) (omega (arith, i.out_later, later));
            err_later = subst (λ (n : ℕ). E.fault_count c.args.err.now ≤ n) (sym (ap E.fault_count w.err-is)) i.err_later;
            looked = looked_then D c.args.disk.now c.loop-key.disk c.get.new.disk i.looked c.get.ensures.looked;
            home = c.get.ensures.home ∙ i.home;
            runs = λ h whole content reads spoilt n more.
                let still = spoilt_now D whole c.args.disk.now c.loop-key.disk i.looked spoilt in
                let bytes = D.seen c.loop-key.disk in
                let word = (get_or c.args.keys.now c.loop-key.key-index nowhere).now in
                let all = texts (take (c.loop-key.key-index + 1) c.args.keys.now) ++ more in
                let first = device_on D whole c.args.disk.now in
                let d = device_on D whole c.loop-key.disk in
                let d' = device_on D whole c.get.new.disk in
                let are = c.formats_of-formats.ensures ∙ formats_are content (tables_in c.args.reader.now) c.args.name.now c.table_named-table.result (c.readers_have_tables.ensures whole content c.args.reader.now (reader_whole whole (D.seen c.args.disk.now) c.args.reader.now spoilt (c.requires.on h)) reads)
                (table_of (tables_in c.args.reader.now) c.args.name.now c.table_named-table.result c.table_named-table.ensures.found c.table_named-table.ensures.none) in
                subst (λ (t : List ℕ). Goes (Rose (K.fault_count c.args.out.now) n) content c.args.name.now all first more d' (i.printed ++ t) i.met) (sym (text_same content c.args.name.now value c.formats_of-formats.result are))
                (goes_value (Rose (K.fault_count c.args.out.now) n) content c.args.name.now all first word more d d' (later_on D whole c.loop-key.disk c.get.new.disk c.get.ensures.looked) (keeps_on D whole c.loop-key.disk c.get.new.disk c.get.ensures.looked) i.printed i.met
                (further_goes (Rose (K.fault_count c.args.out.now) n) content c.args.name.now c.args.keys.now first d c.loop-key.key-index c.loop-key-test.true i.printed i.met (i.runs h whole content reads spoilt n) more) value
                (gave_value content bytes c.args.name.now word value (D.faults c.loop-key.disk) (D.faults c.get.new.disk) (w.in-Ok.ensures.gives (i.looked.same ∙ h) whole content reads still)));
          }
      | in-Err+else-told+else-not-is_absence w ↦
          let absent : w.in-Err.refusal ≡ NotFound = w.is_absence.ensures.0 w.if-not-is_absence.false in
          let plain = told_plain (record { before = E.written c.loop-key.err; now = E.written w.report-told.new.err; faults = E.fault_count c.loop-key.err; faults_now = E.fault_count w.report-told.new.err }) (lines (w.in-Err.refusal ∷ [])) (status_of w.in-Err.refusal) w.report-told.result w.report-told.ensures.told w.if-told.false in
          let one : w.report-told.result ≡ 1 = plain.1 ∙ ap status_of absent in
          let higher : E.fault_count c.loop-key.err ≤ E.fault_count w.report-told.new.err = w.report-told.ensures.later in
          let line : Took (E.written c.loop-key.err) (E.written w.report-told.new.err) (lines (NotFound ∷ [])) ⊎ Rose (E.fault_count c.loop-key.err) (E.fault_count w.report-told.new.err) =
          subst (λ (r : Refusal). Took (E.written c.loop-key.err) (E.written w.report-told.new.err) (lines (r ∷ [])) ⊎ Rose (E.fault_count c.loop-key.err) (E.fault_count w.report-told.new.err)) absent plain.0 in
          let both : Took (E.written c.args.err.now) (E.written w.report-told.new.err) (lines i.met ++ lines (NotFound ∷ [])) ⊎ Rose (E.fault_count c.args.err.now) (E.fault_count w.report-told.new.err) =
          told_more (E.written c.args.err.now) (E.written c.loop-key.err) (E.written w.report-told.new.err) (E.fault_count c.args.err.now) (E.fault_count c.loop-key.err) (E.fault_count w.report-told.new.err) (lines i.met) (lines (NotFound ∷ [])) i.err i.err_later higher line in
          record {
            printed = i.printed;
            met = i.met ++ NotFound ∷ [];
            each = each_behind (IsSoOfLeaves (IsTrue (D.honest c.args.disk.now)) (D.seen c.args.disk.now)) i.met NotFound i.each tt;
            out = subst (λ (o : Option (List ℕ)). Took (K.written c.args.out.now) o i.printed) (sym (ap K.written w.out-is)) i.out;
            err = same_err _ _ _ _ _ _ (lines (i.met ++ NotFound ∷ [])) (ap E.written w.err-is) (ap E.fault_count w.err-is)
                (subst (λ (l : List ℕ). Took (E.written c.args.err.now) (E.written w.report-told.new.err) l ⊎ Rose (E.fault_count c.args.err.now) (E.fault_count w.report-told.new.err)) (sym (lines_behind i.met (NotFound ∷ []))) both);
            status = w.status-is ∙ one ∙ sym (status_absent i.met (subst (λ (n : ℕ). (n ≡ 0) ⊎ (n ≡ 1)) i.status i.small));
            small = inr (w.status-is ∙ one);
            out_later = subst (λ (n : ℕ). K.fault_count c.args.out.now ≤ n) (sym (ap K.fault_count w.out-is)) i.out_later;
            err_later = subst (λ (n : ℕ). E.fault_count c.args.err.now ≤ n) (sym (ap E.fault_count w.err-is)) (omega (arith, i.err_later, higher));
            looked = looked_then D c.args.disk.now c.loop-key.disk c.get.new.disk i.looked c.get.ensures.looked;
            home = c.get.ensures.home ∙ i.home;
            runs = λ h whole content reads spoilt n more.
                let still = spoilt_now D whole c.args.disk.now c.loop-key.disk i.looked spoilt in
                let bytes = D.seen c.loop-key.disk in
                let word = (get_or c.args.keys.now c.loop-key.key-index nowhere).now in
                let all = texts (take (c.loop-key.key-index + 1) c.args.keys.now) ++ more in
                let first = device_on D whole c.args.disk.now in
                let d = device_on D whole c.loop-key.disk in
                let d' = device_on D whole c.get.new.disk in
                goes_absent (Rose (K.fault_count c.args.out.now) n) content c.args.name.now all first word more d d' (later_on D whole c.loop-key.disk c.get.new.disk c.get.ensures.looked) (keeps_on D whole c.loop-key.disk c.get.new.disk c.get.ensures.looked) i.printed i.met
                (further_goes (Rose (K.fault_count c.args.out.now) n) content c.args.name.now c.args.keys.now first d c.loop-key.key-index c.loop-key-test.true i.printed i.met (i.runs h whole content reads spoilt n) more)
                (gave_absent content bytes c.args.name.now word w.in-Err.refusal (D.faults c.loop-key.disk) (D.faults c.get.new.disk) absent (w.in-Err.ensures.gives (i.looked.same ∙ h) whole content reads still));
          }
    ]

-- ---- a write of the output that failed

pub returns-then-is_err-clause-run : goal.returns-then-is_err-clause-run
returns-then-is_err-clause-run g c h whole content reads spoilt =
    let K = g.K.Sink in
    let E = g.E.Sink in
    let D = g.D.Disk in
    let i = c.loop-key.invariant in
    let still = spoilt_now D whole c.args.disk.now c.loop-key.disk i.looked spoilt in
    let word = (get_or c.args.keys.now c.loop-key.key-index nowhere).now in
    let words = texts (drop (c.loop-key.key-index + 1) c.args.keys.now) in
    let first = device_on D whole c.args.disk.now in
    let d = device_on D whole c.loop-key.disk in
    let d' = device_on D whole c.get.new.disk in
    let are = c.formats_of-formats.ensures ∙ formats_are content (tables_in c.args.reader.now) c.args.name.now c.table_named-table.result (c.readers_have_tables.ensures whole content c.args.reader.now (reader_whole whole (D.seen c.args.disk.now) c.args.reader.now spoilt (c.requires.on h)) reads)
    (table_of (tables_in c.args.reader.now) c.args.name.now c.table_named-table.result c.table_named-table.ensures.found c.table_named-table.ensures.none) in
    let value = c.in-Ok.value in
    let text = printed_of (start content) c.args.name.now value in
    let text_is = ap (λ (t : List ℕ). t ++ 10 ∷ []) (c.written_as.ensures ∙ ap (written_as c.formats_of-formats.result.value) c.as_bytes.ensures) ∙ text_same content c.args.name.now value c.formats_of-formats.result are in
    let rose = of_err c.print.result (Rose (K.fault_count c.loop-key.out) (K.fault_count c.print.new.out)) (sym c.is_err.ensures.value ∙ c.if-is_err.true) c.print.ensures.cause.failed in
    let front = subst (λ (t : List ℕ). TookFront (K.written c.loop-key.out) (K.written c.print.new.out) t) text_is
    (of_err c.print.result (TookFront (K.written c.loop-key.out) (K.written c.print.new.out) (c.written_as.result.now ++ 10 ∷ [])) (sym c.is_err.ensures.value ∙ c.if-is_err.true) c.print.ensures.err) in
    reading_on (D.seen c.args.disk.now) c.args.name.now (texts c.args.keys.now) _ _ _ _ _ _ (going_failed (Rose (K.fault_count c.args.out.now) (K.fault_count c.print.new.out)) content c.args.name.now (texts c.args.keys.now) first (K.written c.args.out.now) (K.written c.print.new.out) word words d d' (later_on D whole c.loop-key.disk c.get.new.disk c.get.ensures.looked) (keeps_on D whole c.loop-key.disk c.get.new.disk c.get.ensures.looked) i.printed i.met
    (next_goes (Rose (K.fault_count c.args.out.now) (K.fault_count c.print.new.out)) content c.args.name.now c.args.keys.now first d c.loop-key.key-index c.loop-key-test.true i.printed i.met (i.runs h whole content reads spoilt (K.fault_count c.print.new.out))) value (errors_of E c.args.err.now c.write_all.new.sink) 6 (gave_value content (D.seen c.loop-key.disk) c.args.name.now word value (D.faults c.loop-key.disk) (D.faults c.get.new.disk) (c.in-Ok.ensures.gives (i.looked.same ∙ h) whole content reads still))
    (rose_before (K.fault_count c.args.out.now) (K.fault_count c.loop-key.out) (K.fault_count c.print.new.out) i.out_later rose)
    (inr (subst (λ (l : List ℕ). TookFront (K.written c.args.out.now) (K.written c.print.new.out) (i.printed ++ l)) (sym (append-nil text)) (front_more _ _ _ i.printed text i.out front), refl))
    (subst (λ (l : List Refusal). Tells (errors_of E c.args.err.now c.write_all.new.sink) (lines l ++ last_line OutputFailed) 6 6) (sym (append-nil i.met)) (inl (
      told_more (E.written c.args.err.now) (E.written c.loop-key.err) (E.written c.write_all.new.sink) (E.fault_count c.args.err.now) (E.fault_count c.loop-key.err) (E.fault_count c.write_all.new.sink) (lines i.met) (last_line OutputFailed) i.err i.err_later c.write_all.ensures.cause.later
          (ok_or_err c.write_all.result (Took (E.written c.loop-key.err) (E.written c.write_all.new.sink) (last_line OutputFailed)) (Rose (E.fault_count c.loop-key.err) (E.fault_count c.write_all.new.sink)) c.write_all.ensures.ok c.write_all.ensures.cause.failed),
      refl,
    ))))

nothing_left : (keys : List (Bor (List ℕ))) (i : ℕ) → length keys ≤ i → map (λ (s : Bor (List ℕ)). s.now) (drop i keys) ≡ []
nothing_left keys i le = ap (map (λ (s : Bor (List ℕ)). s.now)) (nil_from_length (drop i keys) (omega (arith, length-drop i keys, le)))

-- ---- no key is left

pub returns-clause-run : goal.returns-clause-run
returns-clause-run g c h whole content reads spoilt =
    let K = g.K.Sink in
    let E = g.E.Sink in
    let D = g.D.Disk in
    let i = c.loop-key.invariant in
    reading_on (D.seen c.args.disk.now) c.args.name.now (texts c.args.keys.now) _ _ _ _ _ _ (going_through (Rose (K.fault_count c.args.out.now) (K.fault_count c.loop-key.out)) content c.args.name.now (texts c.args.keys.now) (device_on D whole c.args.disk.now) (K.written c.args.out.now) (K.written c.loop-key.out) (texts (drop c.loop-key.key-index c.args.keys.now)) (nothing_left c.args.keys.now c.loop-key.key-index c.loop-key-test.false)
    (device_on D whole c.loop-key.disk) i.printed i.met (last_goes (Rose (K.fault_count c.args.out.now) (K.fault_count c.loop-key.out)) content c.args.name.now c.args.keys.now (device_on D whole c.args.disk.now) (device_on D whole c.loop-key.disk) c.loop-key.key-index i.printed i.met (i.runs h whole content reads spoilt (K.fault_count c.loop-key.out))) (errors_of E c.args.err.now c.loop-key.err) c.loop-key.status
    (subst (λ (l : List ℕ). Took (K.written c.args.out.now) (K.written c.loop-key.out) l) (sym (append-nil i.printed)) i.out)
    (through_tells (errors_of E c.args.err.now c.loop-key.err) i.met c.loop-key.status i.err i.status))

-- ---- a refusal that ends the run

pub returns-then-told-clause-run : goal.returns-then-told-clause-run
returns-then-told-clause-run g c h whole content reads spoilt =
    let K = g.K.Sink in
    let E = g.E.Sink in
    let D = g.D.Disk in
    let i = c.loop-key.invariant in
    let still = spoilt_now D whole c.args.disk.now c.loop-key.disk i.looked spoilt in
    let word = (get_or c.args.keys.now c.loop-key.key-index nowhere).now in
    let words = texts (drop (c.loop-key.key-index + 1) c.args.keys.now) in
    let first = device_on D whole c.args.disk.now in
    let d = device_on D whole c.loop-key.disk in
    let d' = device_on D whole c.get.new.disk in
    let higher : E.fault_count c.loop-key.err ≤ E.fault_count c.report-told.new.err = c.report-told.ensures.later in
    let twelve : c.in-Err.refusal ≡ NotFound → c.report-told.result ≡ 12 = elim c.then-told.branch [
      | then-told-via-then-told v ↦ λ e. v.if-told.true
      | then-told-via-else-told+then-not-is_absence v ↦ λ e. (let yes : v.is_absence.result ≡ true = v.is_absence.ensures.1 e in let no : v.is_absence.result ≡ false = v.if-not-is_absence.true in absurd cc)
    ] in
    let goes = i.runs h whole content reads spoilt (K.fault_count c.loop-key.out) in
    elim (c.in-Err.ensures.gives (i.looked.same ∙ h) whole content reads still) [
      | inl may ↦ reading_on (D.seen c.args.disk.now) c.args.name.now (texts c.args.keys.now) _ _ _ _ _ _
          (going_stopped (Rose (K.fault_count c.args.out.now) (K.fault_count c.loop-key.out)) content c.args.name.now (texts c.args.keys.now) first (K.written c.args.out.now) (K.written c.loop-key.out) word words d d' (later_on D whole c.loop-key.disk c.get.new.disk c.get.ensures.looked) (keeps_on D whole c.loop-key.disk c.get.new.disk c.get.ensures.looked) i.printed i.met
          (next_goes (Rose (K.fault_count c.args.out.now) (K.fault_count c.loop-key.out)) content c.args.name.now c.args.keys.now first d c.loop-key.key-index c.loop-key-test.true i.printed i.met goes) c.in-Err.refusal (E.written c.args.err.now) (E.written c.loop-key.err) (E.written c.report-told.new.err) (E.fault_count c.args.err.now) (E.fault_count c.loop-key.err) (E.fault_count c.report-told.new.err) c.report-told.result
          may i.out i.err i.err_later higher c.report-told.ensures.told twelve)
      | inr (place, want, found, is, leaf) ↦
          going_lacks (Rose (K.fault_count c.args.out.now) (K.fault_count c.loop-key.out)) content (D.seen c.args.disk.now) c.args.name.now (texts c.args.keys.now) (texts (take c.loop-key.key-index c.args.keys.now)) word words (parts_are c.args.keys.now c.loop-key.key-index c.loop-key-test.true) first d d'
          (record { later = later_on D whole c.loop-key.disk c.get.new.disk c.get.ensures.looked; machine = refl; seen = refl; capacity = c.get.ensures.looked.capacity }) i.printed i.met
          (front_goes (Rose (K.fault_count c.args.out.now) (K.fault_count c.loop-key.out)) content c.args.name.now c.args.keys.now first d c.loop-key.key-index i.printed i.met goes) place want found
          (subst (λ (l : List ℕ). LacksLeafOf l c.args.name.now (key_in content c.args.name.now word) place want found) i.looked.content leaf)
          (K.written c.args.out.now) (K.written c.loop-key.out) (E.written c.args.err.now) (E.written c.loop-key.err) (E.written c.report-told.new.err) (E.fault_count c.args.err.now) (E.fault_count c.loop-key.err) (E.fault_count c.report-told.new.err) c.report-told.result i.out i.err i.err_later higher
          (subst (λ (r : Refusal). Tells (record { before = E.written c.loop-key.err; now = E.written c.report-told.new.err; faults = E.fault_count c.loop-key.err; faults_now = E.fault_count c.report-told.new.err }) (lines (r ∷ [])) (status_of r) c.report-told.result) (same_err_of c.in-Err.refusal (Corrupt place want found) is) c.report-told.ensures.told)
    ]

-- ---- whatever the disk

pub returns-then-is_err-clause-told : goal.returns-then-is_err-clause-told
returns-then-is_err-clause-told g c =
    let K = g.K.Sink in
    let E = g.E.Sink in
    let D = g.D.Disk in
    let i = c.loop-key.invariant in
    record {
      refusals = i.met;
      each = i.each;
      replies = [];
      end = OutputFailed;
      told = inl (
        told_more (E.written c.args.err.now) (E.written c.loop-key.err) (E.written c.write_all.new.sink) (E.fault_count c.args.err.now) (E.fault_count c.loop-key.err) (E.fault_count c.write_all.new.sink) (lines i.met) (last_line OutputFailed) i.err i.err_later c.write_all.ensures.cause.later
            (ok_or_err c.write_all.result (Took (E.written c.loop-key.err) (E.written c.write_all.new.sink) (last_line OutputFailed)) (Rose (E.fault_count c.loop-key.err) (E.fault_count c.write_all.new.sink)) c.write_all.ensures.ok c.write_all.ensures.cause.failed),
        refl,
      );
    }

pub returns-clause-told : goal.returns-clause-told
returns-clause-told g c =
    let i = c.loop-key.invariant in
    record { refusals = i.met; each = i.each; replies = []; end = Through; told = subst (λ (l : List Refusal). Tells (errors_of g.E.Sink c.args.err.now c.loop-key.err) (lines i.met ++ []) (first_status l) c.loop-key.status) (sym (append-nil i.met)) (inl (subst (λ (l : List ℕ). IsTold (errors_of g.E.Sink c.args.err.now c.loop-key.err) l) (sym (append-nil (lines i.met))) i.err, i.status)) }

pub returns-then-told-clause-told : goal.returns-then-told-clause-told
returns-then-told-clause-told g c =
    let K = g.K.Sink in
    let E = g.E.Sink in
    let D = g.D.Disk in
    let i = c.loop-key.invariant in
    let higher : E.fault_count c.loop-key.err ≤ E.fault_count c.report-told.new.err = c.report-told.ensures.later in
    record {
      refusals = i.met ++ c.in-Err.refusal ∷ [];
      each = each_behind (IsSoOfLeaves (IsTrue (D.honest c.args.disk.now)) (D.seen c.args.disk.now)) i.met c.in-Err.refusal i.each (so_further D c.args.disk.now c.loop-key.disk c.in-Err.refusal i.looked c.in-Err.ensures.sound);
      replies = [];
      end = Stopped c.in-Err.refusal;
      told = subst (λ (l : List ℕ). Tells (errors_of E c.args.err.now c.report-told.new.err) l (status_of c.in-Err.refusal) c.report-told.result) (sym (lines_behind i.met (c.in-Err.refusal ∷ [])) ∙ sym (append-nil (lines (i.met ++ c.in-Err.refusal ∷ []))))
          (tells_more (E.written c.args.err.now) (E.written c.loop-key.err) (E.written c.report-told.new.err) (E.fault_count c.args.err.now) (E.fault_count c.loop-key.err) (E.fault_count c.report-told.new.err) (lines i.met) (lines (c.in-Err.refusal ∷ [])) (status_of c.in-Err.refusal) c.report-told.result i.err i.err_later higher c.report-told.ensures.told);
    }

pub returns-then-told-clause-status : goal.returns-then-told-clause-status
returns-then-told-clause-status g c = (status_says c.in-Err.refusal c.report-told.result c.report-told.ensures.status).0

pub returns-then-told-clause-disk_fault : goal.returns-then-told-clause-disk_fault
returns-then-told-clause-disk_fault g c four =
    let D = g.D.Disk in
    rose_before (D.faults c.args.disk.now) (D.faults c.loop-key.disk) (D.faults c.get.new.disk) c.loop-key.invariant.looked.count (c.in-Err.ensures.fault ((status_says c.in-Err.refusal c.report-told.result c.report-told.ensures.status).1 four))

pub returns-then-told-clause-output_fault : goal.returns-then-told-clause-output_fault
returns-then-told-clause-output_fault g c six = absurd ((status_says c.in-Err.refusal c.report-told.result c.report-told.ensures.status).2 six)

pub returns-then-told-clause-looked : goal.returns-then-told-clause-looked
returns-then-told-clause-looked g c = looked_then g.D.Disk c.args.disk.now c.loop-key.disk c.get.new.disk c.loop-key.invariant.looked c.get.ensures.looked

pub returns-then-is_err-clause-looked : goal.returns-then-is_err-clause-looked
returns-then-is_err-clause-looked g c = looked_then g.D.Disk c.args.disk.now c.loop-key.disk c.get.new.disk c.loop-key.invariant.looked c.get.ensures.looked
