-- Whole lines: what is read of a line is what it is spelled as.
use Rattle.std.proofs.Common.{◌≡◌, ◌∙◌, ◌≢◌, ℕ, zero, suc, List, [], ◌∷◌, ◌++◌, length, refl, sym, ap, subst, inl, inr, arith}
use Rattle.std.specs.Prelude.{Option, Some, None, option_map, option_and_then, false, ◌&&◌, ◌==◌, nat_le, codes}
use Rattle.std.proofs.lemmas.Bool.{cases_Bool, leb-true, le-leb, ne_eqb, and_parts}
use Rattle.std.proofs.lemmas.Option.{none-some, same_Some}
use Rattle.wt_calls.specs.declared.session_call.SessionCall.{SessionCall}
use Rattle.wt_calls.specs.declared.system_call.SystemCall.{SystemCall}
use Rattle.wt_calls.specs.declared.call.Call.{Call}
use Rattle.wt_calls.specs.declared.call.Call.TheVariants.{Session as OfSession, System as OfSystem}
use Rattle.script_text.specs.Words.{words_of, all_words}
use Rattle.script_text.specs.Actors.{first_of}
use Rattle.script_text.specs.SessionCalls.{session_call_of}
use Rattle.script_text.specs.SystemCalls.{system_call_of, control_verb_of, control_words, control_of}
use Rattle.script_text.specs.Lines.{call_of, asked_or_called, whole_of, started_of, said_of, line_of, line_in}
use Rattle.script_text.specs.Grammar.{IsActor, SpellsAsked, SpellsCall, Spells, IsLine}
use Rattle.script_text.specs.declared.actors.First.{First}
use Rattle.script_text.specs.declared.actors.Mark.{Mark}
use Rattle.script_text.specs.declared.actors.Mark.TheVariants as mark
use Rattle.script_text.specs.declared.line.Actor.{Actor}
use Rattle.script_text.specs.declared.line.Actor.TheVariants.{Session, System}
use Rattle.script_text.specs.declared.line.Control.{Control as Asked}
use Rattle.script_text.specs.declared.line.Line.{Line}
use Rattle.script_text.specs.declared.line.Line.TheVariants.{Whole, Start, Step, Finish, Control}
use Rattle.script_text.proofs.SpokenActors.{mark_text, first-is, first-back}
use Rattle.script_text.proofs.SpokenSession.{session-call-is, session-call-back}
use Rattle.script_text.proofs.SpokenSystem.{system-call-is, system-call-back, control-is, control-back, not-asked}

-- ---- what is read is spelled so

call-is : (who : Actor) (name verb : List ℕ) (words : List (List ℕ)) (call : Call) → IsActor who name → call_of who verb words ≡ Some call → SpellsCall call name (verb ∷ words)
call-is (Session n) name verb words call is e = go (session_call_of verb words) refl e where
  go : (o : Option SessionCall) → session_call_of verb words ≡ o → option_map (λ c. OfSession n c) o ≡ Some call → SpellsCall call name (verb ∷ words)
  go None at e = absurd (none-some call e)
  go (Some c) at e = subst (λ x. SpellsCall x name (verb ∷ words)) (same_Some (OfSession n c) call e) (is, session-call-is verb words c at)
call-is (System n) name verb words call is e = go (system_call_of verb words) refl e where
  go : (o : Option SystemCall) → system_call_of verb words ≡ o → option_map (λ c. OfSystem n c) o ≡ Some call → SpellsCall call name (verb ∷ words)
  go None at e = absurd (none-some call e)
  go (Some c) at e = subst (λ x. SpellsCall x name (verb ∷ words)) (same_Some (OfSystem n c) call e) (is, system-call-is verb words c at)

not-zero : (n : ℕ) → (suc n == 0) ≡ false
not-zero n = ne_eqb (suc n) 0 (apart n) where
  apart : (n : ℕ) → suc n ≢ 0
  apart n e = omega arith

asked-is : (who : Actor) (name verb : List ℕ) (words : List (List ℕ)) (asked : Asked) → IsActor who name → control_of who verb words ≡ Some asked → (name ≡ codes "sys") × SpellsAsked asked (verb ∷ words)
asked-is (Session n) name verb words asked is e = absurd (none-some asked e)
asked-is (System zero) name verb words asked is e = (is, control-is verb words asked e)
asked-is (System (suc n)) name verb words asked is e = absurd (none-some asked (rw (not-zero n) at e))

nothing-behind : (l : List ℕ) → l ++ [] ≡ l
nothing-behind [] = refl
nothing-behind (x ∷ l) = ap (λ (t : List ℕ). x ∷ t) (nothing-behind l)

whole-is : (who : Actor) (name verb : List ℕ) (words : List (List ℕ)) (line : Line) → IsActor who name → whole_of who verb words ≡ Some line → Spells line (name ∷ verb ∷ words)
whole-is who name verb words line is e = go (control_of who verb words) (call_of who verb words) refl refl e where
  go : (o : Option Asked) (p : Option Call) → control_of who verb words ≡ o → call_of who verb words ≡ p → asked_or_called o p ≡ Some line → Spells line (name ∷ verb ∷ words)
  go (Some asked) p at other e =
      let parts = asked-is who name verb words asked is at in
      subst (λ x. Spells x (name ∷ verb ∷ words)) (same_Some (Control asked) line e) (verb ∷ words, parts.1, ap (λ (l : List ℕ). l ∷ verb ∷ words) parts.0)
  go None None at other e = absurd (none-some line e)
  go None (Some call) at other e =
      subst (λ x. Spells x (name ∷ verb ∷ words)) (same_Some (Whole call) line e) (name, verb ∷ words, call-is who name verb words call is other, refl)

started-is : (who : Actor) (name verb : List ℕ) (words : List (List ℕ)) (line : Line) → IsActor who name → started_of who verb words ≡ Some line → Spells line ((name ++ codes "!") ∷ verb ∷ words)
started-is who name verb words line is e = go (call_of who verb words) refl e where
  go : (o : Option Call) → call_of who verb words ≡ o → option_map (λ c. Start c) o ≡ Some line → Spells line ((name ++ codes "!") ∷ verb ∷ words)
  go None at e = absurd (none-some line e)
  go (Some call) at e =
      subst (λ x. Spells x ((name ++ codes "!") ∷ verb ∷ words)) (same_Some (Start call) line e) (name, verb ∷ words, call-is who name verb words call is at, refl)

said-is : (who : Actor) (m : Mark) (name : List ℕ) (words : List (List ℕ)) (line : Line) → IsActor who name → said_of (record { actor = who; mark = m }) words ≡ Some line
    → Spells line ((name ++ mark_text m) ∷ words)
said-is who mark.Whole name [] line is e = absurd (none-some line e)
said-is who mark.Started name [] line is e = absurd (none-some line e)
said-is who mark.One name [] line is e = subst (λ x. Spells x ((name ++ codes ".") ∷ [])) (same_Some (Step who) line e) (name, is, refl)
said-is who mark.Rest name [] line is e = subst (λ x. Spells x ((name ++ codes "..") ∷ [])) (same_Some (Finish who) line e) (name, is, refl)
said-is who mark.Whole name (verb ∷ words) line is e = subst (λ (l : List ℕ). Spells line (l ∷ verb ∷ words)) (sym (nothing-behind name)) (whole-is who name verb words line is e)
said-is who mark.Started name (verb ∷ words) line is e = started-is who name verb words line is e
said-is who mark.One name (verb ∷ words) line is e = absurd (none-some line e)
said-is who mark.Rest name (verb ∷ words) line is e = absurd (none-some line e)

line-is : (words : List (List ℕ)) (line : Line) → line_of words ≡ Some line → Spells line words
line-is [] line e = absurd (none-some line e)
line-is (word ∷ words) line e = go (first_of word) refl e where
  go : (o : Option First) → first_of word ≡ o → option_and_then (λ first. said_of first words) o ≡ Some line → Spells line (word ∷ words)
  go None at e = absurd (none-some line e)
  go (Some first) at e =
      let is = first-is word first at in
      subst (λ (w : List ℕ). Spells line (w ∷ words)) (sym is.2) (said-is first.actor first.mark is.0 words line is.1 e)

-- ---- what is spelled so is read

abbrev called : Actor → List (List ℕ) → Option Call
called who [] = None
called who (verb ∷ words) = call_of who verb words

abbrev maker : Call → Actor
maker (OfSession n call) = Session n
maker (OfSystem n call) = System n

maker-is : (call : Call) (name : List ℕ) (words : List (List ℕ)) → SpellsCall call name words → IsActor (maker call) name
maker-is (OfSession n call) name words is = is.0
maker-is (OfSystem n call) name words is = is.0

control-first : (n : ℕ) (verb : List ℕ) (words : List (List ℕ)) → control_verb_of verb ≡ None → control_of (System n) verb words ≡ None
control-first zero verb words none = ap (option_and_then (λ v. control_words v words)) none
control-first (suc n) verb words none = rw (not-zero n) refl

whole-back : (call : Call) (name : List ℕ) (words : List (List ℕ)) → SpellsCall call name words → said_of (record { actor = maker call; mark = mark.Whole }) words ≡ Some (Whole call)
whole-back (OfSession n call) name [] is = absurd (none-some call (session-call-back call [] is.1))
whole-back (OfSession n call) name (verb ∷ words) is = ap (λ o. asked_or_called None (option_map (λ c. OfSession n c) o)) (session-call-back call (verb ∷ words) is.1)
whole-back (OfSystem n call) name [] is = absurd (none-some call (system-call-back call [] is.1))
whole-back (OfSystem n call) name (verb ∷ words) is =
    let back = system-call-back call (verb ∷ words) is.1 in
    (λ i. asked_or_called (control-first n verb words (not-asked verb words call back) i) (option_map (λ c. OfSystem n c) (back i)))

started-back : (call : Call) (name : List ℕ) (words : List (List ℕ)) → SpellsCall call name words → said_of (record { actor = maker call; mark = mark.Started }) words ≡ Some (Start call)
started-back (OfSession n call) name [] is = absurd (none-some call (session-call-back call [] is.1))
started-back (OfSession n call) name (verb ∷ words) is = ap (λ o. option_map (λ c. Start c) (option_map (λ c. OfSession n c) o)) (session-call-back call (verb ∷ words) is.1)
started-back (OfSystem n call) name [] is = absurd (none-some call (system-call-back call [] is.1))
started-back (OfSystem n call) name (verb ∷ words) is = ap (λ o. option_map (λ c. Start c) (option_map (λ c. OfSystem n c) o)) (system-call-back call (verb ∷ words) is.1)

asked-back : (asked : Asked) (words : List (List ℕ)) → SpellsAsked asked words → said_of (record { actor = System 0; mark = mark.Whole }) words ≡ Some (Control asked)
asked-back asked [] is = absurd (none-some asked (control-back asked [] is))
asked-back asked (verb ∷ words) is = ap (λ o. asked_or_called o (call_of (System 0) verb words)) (control-back asked (verb ∷ words) is)

first-reads : (who : Actor) (m : Mark) (name : List ℕ) (words : List (List ℕ)) → IsActor who name → line_of ((name ++ mark_text m) ∷ words) ≡ said_of (record { actor = who; mark = m }) words
first-reads who m name words is = ap (option_and_then (λ first. said_of first words)) (first-back who m name is)

line-back : (line : Line) (words : List (List ℕ)) → Spells line words → line_of words ≡ Some line
line-back (Whole call) words is =
    let name : List ℕ = is.0 in
    let behind : List (List ℕ) = is.1 in
    ap line_of (is.3 ∙ ap (λ (l : List ℕ). l ∷ behind) (sym (nothing-behind name)))
    ∙ (first-reads (maker call) mark.Whole name behind (maker-is call name behind is.2) ∙ whole-back call name behind is.2)
line-back (Start call) words is =
    let name : List ℕ = is.0 in
    let behind : List (List ℕ) = is.1 in
    ap line_of is.3 ∙ (first-reads (maker call) mark.Started name behind (maker-is call name behind is.2) ∙ started-back call name behind is.2)
line-back (Step who) words is = ap line_of is.2 ∙ first-reads who mark.One is.0 [] is.1
line-back (Finish who) words is = ap line_of is.2 ∙ first-reads who mark.Rest is.0 [] is.1
line-back (Control asked) words is = ap line_of is.2 ∙ (first-reads (System 0) mark.Whole (codes "sys") is.0 refl ∙ asked-back asked is.0 is.1)

-- ---- bytes

pub read-is : (bytes : List ℕ) (line : Line) → line_in bytes ≡ Some line → IsLine bytes line
read-is bytes line e = elim (cases_Bool (nat_le (length bytes) 65536 && all_words (words_of bytes))) [
  | inr bad ↦ absurd (none-some line (rw bad at e))
  | inl good ↦
      let parts = and_parts (nat_le (length bytes) 65536) (all_words (words_of bytes)) good in
      record { short = leb-true (length bytes) 65536 parts.0; parted = parts.1; spelled = line-is (words_of bytes) line (rw good at e) }
]

pub read-back : (bytes : List ℕ) (line : Line) → IsLine bytes line → line_in bytes ≡ Some line
read-back bytes line is = rw (le-leb (length bytes) 65536 is.short, is.parted) (line-back line (words_of bytes) is.spelled)

pub one-line : (bytes : List ℕ) (asked other : Line) → IsLine bytes asked → IsLine bytes other → asked ≡ other
one-line bytes asked other is too = same_Some asked other (sym (read-back bytes asked is) ∙ read-back bytes other too)
