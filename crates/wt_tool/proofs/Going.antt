-- How a run of `read` ends, by how far it has come.
use Rattle.std.proofs.Common.{◌≡◌, ◌⊎◌, ◌≤◌, ◌++◌, ℕ, ◌∙◌, List, [], ◌∷◌, Option, inl, inr, refl, sym, ap, subst}
use Rattle.std.proofs.lemmas.List.{append-nil}
use Rattle.failure.specs.Counts.{Rose}
use Rattle.wt_code.specs.declared.answers.Answer.TheVariants.{Value, Refused}
use Rattle.wt_code.specs.declared.refusals.Refusal.{Refusal}
use Rattle.wt_code.specs.declared.refusals.Refusal.TheVariants.{Corrupt, NotFound}
use Rattle.wt_io.specs.Streams.{Took}
use Rattle.kv_model.specs.Content.{Content, start}
use Rattle.script_run.specs.declared.script.End.TheVariants.{Through, Stopped, OutputFailed}
use Rattle.engine_store.specs.Devices.{Device, IsLater, KeepsCheckpoint}
use Rattle.wt_tool.specs.Damaged.{LacksLeafOf, ReadsKeysOn, StopsAtKey}
use Rattle.wt_tool.specs.Openings.{Opens}
use Rattle.wt_tool.specs.Points.{Ran, ends, prints}
use Rattle.wt_tool.specs.Reads.{ReadsKeys, printed_of}
use Rattle.wt_tool.specs.Fresh.{MayGive, begun_fresh, key_in}
use Rattle.wt_tool.specs.Parts.{Reading, at}
use Rattle.wt_tool.specs.Top.{Errors, Printed, Tells, first_status, lines, last_line, status_of}
use Rattle.wt_tool.proofs.Fresh.{gives}
use Rattle.wt_tool.proofs.FreshRuns.{Goes, goes_failed, goes_through}
use Rattle.wt_tool.proofs.Gets.{behind, lines_behind, reading, absent_or, reading_stopped, tells_more}

module _ (output : Type 0) (c : Content) (name : List ℕ) (all : List (List ℕ)) (first : Device) (out_before out_now : Option (List ℕ)) where
  abbrev Ends : Device → Errors → ℕ → Type 0
  Ends now e status = Reading (ReadsKeys output name all) (at first (start c)) now out_before out_now e status

  -- no word is left
  pub going_through : (words : List (List ℕ)) → words ≡ [] → (now : Device) (printed : List ℕ) (met : List Refusal) → Goes output c name all first words now printed met → (e : Errors) (status : ℕ)
      → Took out_before out_now (printed ++ []) → Tells e (lines (met ++ []) ++ []) (first_status ((met ++ []) ++ [])) status → Ends now e status
  going_through words none now printed met goes e status took told =
      reading output name all (at first (start c)) now out_before out_now e status (behind printed met (ends Through (at now (begun_fresh c))))
      (goes_through output c name all first now printed met (subst (λ (l : List (List ℕ)). Goes output c name all first l now printed met) none goes)) (inl took) told refl refl refl refl

  module _ (word : List ℕ) (words : List (List ℕ)) (d d' : Device) (later : IsLater d d') (keeps : KeepsCheckpoint d d') (printed : List ℕ) (met : List Refusal) (goes : Goes output c name all first (word ∷ words) d printed met) where
    -- a write of the text of a value failed
    pub going_failed : (value : List ℕ) (e : Errors) (status : ℕ) → MayGive c name (key_in c name word) d.faults d'.faults (Value value) → output
        → Printed out_before out_now OutputFailed (printed ++ (printed_of (start c) name value ++ [])) → Tells e (lines (met ++ []) ++ last_line OutputFailed) 6 status → Ends d' e status
    going_failed value e status may why printed_so told =
        reading output name all (at first (start c)) d' out_before out_now e status (behind printed met (prints (printed_of (start c) name value) (ends OutputFailed (at d' (begun_fresh c)))))
        (goes_failed output c name all first word words d d' later keeps printed met goes value may why) printed_so told refl refl refl refl

    -- a refusal ends the run
    pub going_stopped : (r : Refusal) (before mid last : Option (List ℕ)) (one two three told : ℕ) → MayGive c name (key_in c name word) d.faults d'.faults (Refused r)
        → Took out_before out_now printed → Took before mid (lines met) ⊎ Rose one two → one ≤ two → two ≤ three
        → Tells (record { before = mid; now = last; faults = two; faults_now = three }) (lines (r ∷ [])) (status_of r) told → (r ≡ NotFound → told ≡ 12)
        → Ends d' (record { before = before; now = last; faults = one; faults_now = three }) told
    going_stopped r before mid last one two three told may out prior low high reported twelve =
        reading_stopped output name word words all first d d' (start c) (begun_fresh c) (begun_fresh c) r printed met out_before out_now before mid last one two three told goes refl out prior low high reported twelve
        (gives c d d' later keeps name (key_in c name word) (Refused r) may) (absent_or r)

-- the leaf of the next key is at fault
module _ (output : Type 0) (c : Content) (bytes name : List ℕ) (all front : List (List ℕ)) (word : List ℕ) (others : List (List ℕ)) (are : all ≡ front ++ word ∷ others) (first d d' : Device) (opens : Opens (at d (begun_fresh c)) (at d' (begun_fresh c))) (printed : List ℕ) (met : List Refusal) (goes : Goes output c name front first [] d printed met)
    (at_place want found : ℕ) (leaf : LacksLeafOf bytes name (key_in c name word) at_place want found) where
  abbrev told_of : Refusal
  told_of = Corrupt at_place want found

  abbrev before : Ran
  before = behind printed met (ends Through (at d (begun_fresh c)))

  abbrev ran : Ran
  ran = record before { refusals = (met ++ []) ++ told_of ∷ []; next = at d' (begun_fresh c); end = Stopped told_of }

  stops_so : StopsAtKey output bytes name all (at first (start c)) ran
  stops_so = record {
    front = front;
    word = word;
    others = others;
    are = are;
    before = before;
    reads = goes_through output c name front first d printed met goes;
    through = refl;
    at = at_place;
    want = want;
    found = found;
    leaf = leaf;
    next = at d' (begun_fresh c);
    opens = opens;
    is = refl;
  }

  lines_so : lines met ++ lines (told_of ∷ []) ≡ lines ((met ++ []) ++ told_of ∷ []) ++ []
  lines_so = sym (lines_behind met (told_of ∷ [])) ∙ ap (λ (l : List Refusal). lines (l ++ told_of ∷ [])) (sym (append-nil met)) ∙ sym (append-nil (lines ((met ++ []) ++ told_of ∷ [])))

  pub going_lacks : (out_before out_now before_err mid last : Option (List ℕ)) (one two three told : ℕ) → Took out_before out_now printed → Took before_err mid (lines met) ⊎ Rose one two → one ≤ two → two ≤ three
      → Tells (record { before = mid; now = last; faults = two; faults_now = three }) (lines (told_of ∷ [])) 1 told
      → Reading (ReadsKeysOn output bytes name all) (at first (start c)) d' out_before out_now (record { before = before_err; now = last; faults = one; faults_now = three }) told
  going_lacks out_before out_now before_err mid last one two three told out prior low high reported = record {
    ran = ran;
    run = inr stops_so;
    printed = inl (subst (λ (l : List ℕ). Took out_before out_now l) (sym (append-nil printed)) out);
    told = subst (λ (l : List ℕ). Tells (record { before = before_err; now = last; faults = one; faults_now = three }) l 1 told) lines_so (tells_more before_err mid last one two three (lines met) (lines (told_of ∷ [])) 1 told prior low high reported);
    silent = refl;
    none = refl;
    there = refl;
    same = refl;
  }
