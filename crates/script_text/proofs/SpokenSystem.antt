-- The calls of the system, and what is asked of the whole machine: what is read of their words is what they are spelled as.
use Rattle.std.proofs.Common.{◌≡◌, ◌∙◌, ℕ, List, [], ◌∷◌, ◌++◌, refl, sym, ap, subst, inl, inr, arith}
use Rattle.std.specs.Prelude.{Option, Some, None, option_map, option_and_then, if◌then◌else◌, codes}
use Rattle.std.specs.Str.{bytes_eq}
use Rattle.std.proofs.lemmas.Option.{none-some, same_Some}
use Rattle.item.specs.declared.formats.Format.{Format}
use Rattle.wt_calls.specs.declared.system_call.SystemCall.{SystemCall}
use Rattle.wt_calls.specs.declared.system_call.SystemCall.TheVariants.{Create, SetStamps, RollbackToStable, StartCheckpoint, StepCheckpoint, FinishCheckpoint, Evict, Close as CloseCall}
use Rattle.script_text.specs.Numbers.{number_of, stamps_of}
use Rattle.script_text.specs.Items.{item_of, format_of}
use Rattle.script_text.specs.SystemCalls.{system_verb_of, create_of, set_of, evict_of, alone_of, system_words, system_call_of, control_verb_of, frames_of, control_alone_of, control_words}
use Rattle.script_text.specs.Grammar.{Names, SpellsSystem, SpellsAsked}
use Rattle.script_text.specs.declared.items.Keyed.{Keyed}
use Rattle.script_text.specs.declared.numbers.Stamps.{Stamps}
use Rattle.script_text.specs.declared.line.Control.{Control}
use Rattle.script_text.specs.declared.line.Control.TheVariants.{Checkpoint, Close, Crash, Frames}
use Rattle.script_text.specs.declared.system_calls.SystemVerb.{SystemVerb}
use Rattle.script_text.specs.declared.system_calls.SystemVerb.TheVariants as verb
use Rattle.script_text.specs.declared.system_calls.ControlVerb.{ControlVerb}
use Rattle.script_text.specs.declared.system_calls.ControlVerb.TheVariants as asked
use Rattle.script_text.proofs.DecimalLemmas.{number-is, number-reads}
use Rattle.script_text.proofs.SpokenWords.{chosen, is-text, stamps-are, stamps-back, format-is, format-back}

-- ---- verbs

abbrev system_text : SystemVerb → List ℕ
system_text verb.Create = codes "create"
system_text verb.Set = codes "set"
system_text verb.StartCheckpoint = codes "ckpt-start"
system_text verb.StepCheckpoint = codes "ckpt-step"
system_text verb.FinishCheckpoint = codes "ckpt-finish"
system_text verb.RollbackToStable = codes "rts"
system_text verb.Evict = codes "evict"

tried : (word : List ℕ) (x v : SystemVerb) (rest : Option SystemVerb) → (if bytes_eq word (system_text x) then Some x else rest) ≡ Some v
    → (rest ≡ Some v → word ≡ system_text v) → word ≡ system_text v
tried word x v rest e others = elim (chosen (bytes_eq word (system_text x)) x v rest e) [
  | inl here ↦ is-text word (system_text x) here.0 ∙ ap system_text here.1
  | inr e ↦ others e
]

verb-is : (word : List ℕ) (v : SystemVerb) → system_verb_of word ≡ Some v → word ≡ system_text v
verb-is word v e =
    tried word verb.Create v _ e (λ e. tried word verb.Set v _ e (λ e. tried word verb.StartCheckpoint v _ e (λ e. tried word verb.StepCheckpoint v _ e (λ e. tried word verb.FinishCheckpoint v _ e
    (λ e. tried word verb.RollbackToStable v _ e (λ e. tried word verb.Evict v None e (λ e. absurd (none-some v e))))))))

abbrev asked_text : ControlVerb → List ℕ
asked_text asked.Checkpoint = codes "ckpt"
asked_text asked.Close = codes "close"
asked_text asked.Crash = codes "crash"
asked_text asked.Frames = codes "frames"

asked-tried : (word : List ℕ) (x v : ControlVerb) (rest : Option ControlVerb) → (if bytes_eq word (asked_text x) then Some x else rest) ≡ Some v
    → (rest ≡ Some v → word ≡ asked_text v) → word ≡ asked_text v
asked-tried word x v rest e others = elim (chosen (bytes_eq word (asked_text x)) x v rest e) [
  | inl here ↦ is-text word (asked_text x) here.0 ∙ ap asked_text here.1
  | inr e ↦ others e
]

asked-verb-is : (word : List ℕ) (v : ControlVerb) → control_verb_of word ≡ Some v → word ≡ asked_text v
asked-verb-is word v e =
    asked-tried word asked.Checkpoint v _ e (λ e. asked-tried word asked.Close v _ e (λ e. asked-tried word asked.Crash v _ e (λ e. asked-tried word asked.Frames v None e (λ e. absurd (none-some v e)))))

no-control : (v : SystemVerb) → control_verb_of (system_text v) ≡ None
no-control verb.Create = refl
no-control verb.Set = refl
no-control verb.StartCheckpoint = refl
no-control verb.StepCheckpoint = refl
no-control verb.FinishCheckpoint = refl
no-control verb.RollbackToStable = refl
no-control verb.Evict = refl

-- what is a call of the system is not asked of the whole machine
pub not-asked : (word : List ℕ) (words : List (List ℕ)) (call : SystemCall) → system_call_of word words ≡ Some call → control_verb_of word ≡ None
not-asked word words call e = go (system_verb_of word) refl e where
  go : (o : Option SystemVerb) → system_verb_of word ≡ o → option_and_then (λ v. system_words v words) o ≡ Some call → control_verb_of word ≡ None
  go None is e = absurd (none-some call e)
  go (Some v) is e = ap control_verb_of (verb-is word v is) ∙ no-control v

-- ---- what is read is spelled so

create-is : (words : List (List ℕ)) (call : SystemCall) → create_of words ≡ Some call → SpellsSystem call (codes "create" ∷ words)
create-is [] call e = absurd (none-some call e)
create-is (t ∷ []) call e = absurd (none-some call e)
create-is (t ∷ (k ∷ [])) call e = absurd (none-some call e)
create-is (t ∷ (k ∷ (v ∷ []))) call e = go (format_of k) (format_of v) refl refl e where
  go : (o p : Option Format) → format_of k ≡ o → format_of v ≡ p
      → option_and_then (λ key. option_map (λ value. Create t (record { key = key; value = value })) p) o ≡ Some call → SpellsSystem call (codes "create" ∷ t ∷ k ∷ v ∷ [])
  go None p is other e = absurd (none-some call e)
  go (Some key) None is other e = absurd (none-some call e)
  go (Some key) (Some value) is other e =
      subst (λ c. SpellsSystem c (codes "create" ∷ t ∷ k ∷ v ∷ [])) (same_Some (Create t (record { key = key; value = value })) call e) (k, v, format-is k key is, format-is v value other, refl)
create-is (t ∷ (k ∷ (v ∷ (other ∷ words)))) call e = absurd (none-some call e)

-- stamps of a call that names one at least
spells-set : (word : List ℕ) (words : List (List ℕ)) (oldest stable : Option ℕ) (first second : List (List ℕ)) → Names (codes "oldest=") oldest first → Names (codes "stable=") stable second
    → word ∷ words ≡ first ++ second → SpellsSystem (SetStamps oldest stable) (codes "set" ∷ word ∷ words)
spells-set word words None None first second x y e = absurd (none-some word (sym (ap head e ∙ (λ i. head (x i ++ y i))))) where
  head : List (List ℕ) → Option (List ℕ)
  head [] = None
  head (w ∷ ws) = Some w
spells-set word words None (Some stable) first second x y e = (first, second, x, y, ap (λ (l : List (List ℕ)). codes "set" ∷ l) e)
spells-set word words (Some oldest) None first second x y e = (first, second, x, y, ap (λ (l : List (List ℕ)). codes "set" ∷ l) e)
spells-set word words (Some oldest) (Some stable) first second x y e = (first, second, x, y, ap (λ (l : List (List ℕ)). codes "set" ∷ l) e)

set-is : (words : List (List ℕ)) (call : SystemCall) → set_of words ≡ Some call → SpellsSystem call (codes "set" ∷ words)
set-is [] call e = absurd (none-some call e)
set-is (word ∷ words) call e = go (stamps_of (codes "oldest=") (codes "stable=") (word ∷ words)) refl e where
  go : (o : Option Stamps) → stamps_of (codes "oldest=") (codes "stable=") (word ∷ words) ≡ o → option_map (λ (s : Stamps). SetStamps s.first s.second) o ≡ Some call
      → SpellsSystem call (codes "set" ∷ word ∷ words)
  go None is e = absurd (none-some call e)
  go (Some stamps) is e =
      let are = stamps-are (codes "oldest=") (codes "stable=") (word ∷ words) stamps is in
      subst (λ c. SpellsSystem c (codes "set" ∷ word ∷ words)) (same_Some (SetStamps stamps.first stamps.second) call e)
      (spells-set word words stamps.first stamps.second are.0 are.1 are.2 are.3 are.4)

evict-is : (words : List (List ℕ)) (call : SystemCall) → evict_of words ≡ Some call → SpellsSystem call (codes "evict" ∷ words)
evict-is [] call e = absurd (none-some call e)
evict-is (t ∷ []) call e = absurd (none-some call e)
evict-is (t ∷ (k ∷ [])) call e = go (item_of k) refl e where
  go : (o : Option (List ℕ)) → item_of k ≡ o → option_map (λ (x : Keyed). Evict x.table x.key) (option_map (λ key. record { table = t; key = key }) o) ≡ Some call
      → SpellsSystem call (codes "evict" ∷ t ∷ k ∷ [])
  go None is e = absurd (none-some call e)
  go (Some key) is e = subst (λ c. SpellsSystem c (codes "evict" ∷ t ∷ k ∷ [])) (same_Some (Evict t key) call e) (k, is, refl)
evict-is (t ∷ (k ∷ (other ∷ words))) call e = absurd (none-some call e)

alone-is : (word : List ℕ) (alone : SystemCall) → SpellsSystem alone (word ∷ []) → (words : List (List ℕ)) (call : SystemCall) → alone_of alone words ≡ Some call → SpellsSystem call (word ∷ words)
alone-is word alone is [] call e = subst (λ c. SpellsSystem c (word ∷ [])) (same_Some alone call e) is
alone-is word alone is (other ∷ words) call e = absurd (none-some call e)

words-are : (v : SystemVerb) (words : List (List ℕ)) (call : SystemCall) → system_words v words ≡ Some call → SpellsSystem call (system_text v ∷ words)
words-are verb.Create words call e = create-is words call e
words-are verb.Set words call e = set-is words call e
words-are verb.StartCheckpoint words call e = alone-is (codes "ckpt-start") StartCheckpoint refl words call e
words-are verb.StepCheckpoint words call e = alone-is (codes "ckpt-step") StepCheckpoint refl words call e
words-are verb.FinishCheckpoint words call e = alone-is (codes "ckpt-finish") FinishCheckpoint refl words call e
words-are verb.RollbackToStable words call e = alone-is (codes "rts") RollbackToStable refl words call e
words-are verb.Evict words call e = evict-is words call e

pub system-call-is : (word : List ℕ) (words : List (List ℕ)) (call : SystemCall) → system_call_of word words ≡ Some call → SpellsSystem call (word ∷ words)
system-call-is word words call e = go (system_verb_of word) refl e where
  go : (o : Option SystemVerb) → system_verb_of word ≡ o → option_and_then (λ v. system_words v words) o ≡ Some call → SpellsSystem call (word ∷ words)
  go None is e = absurd (none-some call e)
  go (Some v) is e = subst (λ w. SpellsSystem call (w ∷ words)) (sym (verb-is word v is)) (words-are v words call e)

frames-is : (words : List (List ℕ)) (control : Control) → frames_of words ≡ Some control → SpellsAsked control (codes "frames" ∷ words)
frames-is [] control e = absurd (none-some control e)
frames-is (word ∷ []) control e = go (number_of 4 1024 word) refl e where
  go : (o : Option ℕ) → number_of 4 1024 word ≡ o → option_map (λ n. Frames n) o ≡ Some control → SpellsAsked control (codes "frames" ∷ word ∷ [])
  go None is e = absurd (none-some control e)
  go (Some n) is e =
      let parts = number-is 4 1024 n word (omega arith) is in
      subst (λ c. SpellsAsked c (codes "frames" ∷ word ∷ [])) (same_Some (Frames n) control e) (parts.0, parts.1, ap (λ (w : List ℕ). codes "frames" ∷ w ∷ []) parts.2)
frames-is (word ∷ (other ∷ words)) control e = absurd (none-some control e)

control-alone-is : (word : List ℕ) (alone : Control) → SpellsAsked alone (word ∷ []) → (words : List (List ℕ)) (control : Control) → control_alone_of alone words ≡ Some control → SpellsAsked control (word ∷ words)
control-alone-is word alone is [] control e = subst (λ c. SpellsAsked c (word ∷ [])) (same_Some alone control e) is
control-alone-is word alone is (other ∷ words) control e = absurd (none-some control e)

control-words-are : (v : ControlVerb) (words : List (List ℕ)) (control : Control) → control_words v words ≡ Some control → SpellsAsked control (asked_text v ∷ words)
control-words-are asked.Checkpoint words control e = control-alone-is (codes "ckpt") Checkpoint refl words control e
control-words-are asked.Close words control e = control-alone-is (codes "close") Close refl words control e
control-words-are asked.Crash words control e = control-alone-is (codes "crash") Crash refl words control e
control-words-are asked.Frames words control e = frames-is words control e

pub control-is : (word : List ℕ) (words : List (List ℕ)) (control : Control) → option_and_then (λ v. control_words v words) (control_verb_of word) ≡ Some control → SpellsAsked control (word ∷ words)
control-is word words control e = go (control_verb_of word) refl e where
  go : (o : Option ControlVerb) → control_verb_of word ≡ o → option_and_then (λ v. control_words v words) o ≡ Some control → SpellsAsked control (word ∷ words)
  go None is e = absurd (none-some control e)
  go (Some v) is e = subst (λ w. SpellsAsked control (w ∷ words)) (sym (asked-verb-is word v is)) (control-words-are v words control e)

-- ---- what is spelled so is read

abbrev pub system_said : List (List ℕ) → Option SystemCall
system_said [] = None
system_said (word ∷ words) = system_call_of word words

set-back : (oldest stable : Option ℕ) (words first second : List (List ℕ)) → Names (codes "oldest=") oldest first → Names (codes "stable=") stable second → (word : List ℕ) (rest : List (List ℕ)) → first ++ second ≡ word ∷ rest
    → words ≡ codes "set" ∷ (first ++ second) → system_said words ≡ Some (SetStamps oldest stable)
set-back oldest stable words first second x y word rest some e =
    ap system_said (e ∙ ap (λ (l : List (List ℕ)). codes "set" ∷ l) some)
    ∙ ap (option_map (λ (s : Stamps). SetStamps s.first s.second))
    (stamps-back (codes "oldest=") (codes "stable=") (λ digits. refl) oldest stable (word ∷ rest) (first, second, x, y, sym some))

pub system-call-back : (call : SystemCall) (words : List (List ℕ)) → SpellsSystem call words → system_said words ≡ Some call
system-call-back (Create table formats) words is =
    ap system_said is.4
    ∙ (λ i. option_and_then (λ key. option_map (λ value. Create table (record { key = key; value = value })) (format-back is.1 formats.value is.3 i)) (format-back is.0 formats.key is.2 i))
system-call-back (SetStamps None None) words is = absurd is
system-call-back (SetStamps (Some oldest) None) words is = set-back (Some oldest) None words is.0 is.1 is.2 is.3 is.2.0 [] (λ i. is.2.2 i ++ is.3 i) is.4
system-call-back (SetStamps None (Some stable)) words is = set-back None (Some stable) words is.0 is.1 is.2 is.3 is.3.0 [] (λ i. is.2 i ++ is.3.2 i) is.4
system-call-back (SetStamps (Some oldest) (Some stable)) words is = set-back (Some oldest) (Some stable) words is.0 is.1 is.2 is.3 is.2.0 (is.3.0 ∷ []) (λ i. is.2.2 i ++ is.3.2 i) is.4
system-call-back RollbackToStable words is = ap system_said is
system-call-back StartCheckpoint words is = ap system_said is
system-call-back StepCheckpoint words is = ap system_said is
system-call-back FinishCheckpoint words is = ap system_said is
system-call-back (Evict table key) words is = ap system_said is.2 ∙ ap (λ (o : Option (List ℕ)). option_map (λ (x : Keyed). Evict x.table x.key) (option_map (λ k. record { table = table; key = k }) o)) is.1
system-call-back CloseCall words is = absurd is

abbrev pub control_said : List (List ℕ) → Option Control
control_said [] = None
control_said (word ∷ words) = option_and_then (λ v. control_words v words) (control_verb_of word)

pub control-back : (control : Control) (words : List (List ℕ)) → SpellsAsked control words → control_said words ≡ Some control
control-back Checkpoint words is = ap control_said is
control-back Close words is = ap control_said is
control-back Crash words is = ap control_said is
control-back (Frames n) words is = ap control_said is.2 ∙ ap (option_map (λ x. Frames x)) (number-reads 4 1024 n (omega (arith, is.0)) (omega (arith, is.1)) is.0 is.1)
