-- The runs of `read` from a machine that has just started, by what its gets answer there.
use Rattle.std.proofs.Common.{◌≢◌, ◌++◌, ℕ, List, [], ◌∷◌, append_assoc, inl, inr, refl, sym, subst}
use Rattle.wt_code.specs.declared.answers.Answer.{Answer}
use Rattle.wt_code.specs.declared.answers.Answer.TheVariants.{Value, Refused}
use Rattle.wt_code.specs.declared.refusals.Refusal.{Refusal}
use Rattle.wt_code.specs.declared.refusals.Refusal.TheVariants.{NotFound}
use Rattle.kv_model.specs.Content.{Content, start}
use Rattle.kv_model.specs.Calls.{Session}
use Rattle.script_run.specs.declared.script.End.TheVariants.{Through, OutputFailed}
use Rattle.engine_store.specs.Devices.{Device, IsLater, KeepsCheckpoint}
use Rattle.wt_tool.specs.Points.{Ran, Did, ends, stops, prints, tells}
use Rattle.wt_tool.specs.Reads.{GetsKeys, ReadsKeys, the_get, printed_of}
use Rattle.wt_tool.specs.Parts.{at}
use Rattle.wt_tool.specs.Fresh.{opened_fresh, begun_fresh, key_in, MayGive}
use Rattle.wt_tool.proofs.Beside.{keeps_same, same_device}
use Rattle.wt_tool.proofs.Gets.{behind}
use Rattle.wt_tool.proofs.Fresh.{opens, begins, gives}

module _ (output : Type 0) (c : Content) (name : List ℕ) (all : List (List ℕ)) (first : Device) where
  -- the gets of the words that are left, behind what was printed and met, are a run of all
  abbrev pub Goes : (words : List (List ℕ)) → (now : Device) → (printed : List ℕ) → (met : List Refusal) → Type 0
  Goes words now printed met = (rest : Ran) → GetsKeys output name words (at now (begun_fresh c)) rest → ReadsKeys output name all (at first (start c)) (behind printed met rest)

  -- a session is opened and its transaction has begun
  pub goes_first : (now : Device) → IsLater first now → KeepsCheckpoint first now → Goes all now [] []
  goes_first now later keeps rest gets = inr (at now (opened_fresh c), later, keeps, opens c, inr (at now (begun_fresh c), begins c now now (same_device now) (keeps_same now), gets))

  module _ (word : List ℕ) (words : List (List ℕ)) (d d' : Device) (later : IsLater d d') (keeps : KeepsCheckpoint d d') (printed : List ℕ) (met : List Refusal) (goes : Goes (word ∷ words) d printed met) where
    abbrev Gives : Answer (List ℕ) → Type 0
    Gives answer = MayGive c name (key_in c name word) d.faults d'.faults answer

    got : (answer : Answer (List ℕ)) → Gives answer → Did (at d (begun_fresh c)) (Session 0) (the_get (begun_fresh c) name word) answer (at d' (begun_fresh c))
    got = gives c d d' later keeps name (key_in c name word)

    -- a value, whose text is printed
    pub goes_value : (value : List ℕ) → Gives (Value value) → Goes words d' (printed ++ printed_of (start c) name value) met
    goes_value value may rest gets =
        subst (λ (t : List ℕ). ReadsKeys output name all (at first (start c)) (record rest { text = t; refusals = met ++ rest.refusals })) (sym (append_assoc printed (printed_of (start c) name value) rest.text))
        (goes (prints (printed_of (start c) name value) rest) (inl (value, at d' (begun_fresh c), rest, got (Value value) may, refl, inl gets)))

    -- or is not
    pub goes_failed : (value : List ℕ) → Gives (Value value) → output → ReadsKeys output name all (at first (start c)) (behind printed met (prints (printed_of (start c) name value) (ends OutputFailed (at d' (begun_fresh c)))))
    goes_failed value may why = goes (prints (printed_of (start c) name value) (ends OutputFailed (at d' (begun_fresh c)))) (inl (value, at d' (begun_fresh c), ends OutputFailed (at d' (begun_fresh c)), got (Value value) may, refl, inr (refl, why)))

    -- an absent key
    pub goes_absent : Gives (Refused NotFound) → Goes words d' printed (met ++ NotFound ∷ [])
    goes_absent may rest gets =
        subst (λ (l : List Refusal). ReadsKeys output name all (at first (start c)) (record rest { text = printed ++ rest.text; refusals = l })) (sym (append_assoc met (NotFound ∷ []) rest.refusals))
        (goes (tells NotFound rest) (inr (NotFound, at d' (begun_fresh c), got (Refused NotFound) may, inr (rest, refl, refl, gets))))

    -- another refusal ends it
    pub goes_stopped : (r : Refusal) → r ≢ NotFound → Gives (Refused r) → ReadsKeys output name all (at first (start c)) (behind printed met (stops r (at d' (begun_fresh c))))
    goes_stopped r other may = goes (stops r (at d' (begun_fresh c))) (inr (r, at d' (begun_fresh c), got (Refused r) may, inl (other, refl)))

  -- no word is left
  pub goes_through : (now : Device) (printed : List ℕ) (met : List Refusal) → Goes [] now printed met → ReadsKeys output name all (at first (start c)) (behind printed met (ends Through (at now (begun_fresh c))))
  goes_through now printed met goes = goes (ends Through (at now (begun_fresh c))) refl
