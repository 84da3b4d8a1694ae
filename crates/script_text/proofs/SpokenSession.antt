-- The calls of a session: what is read of their words is what they are spelled as.
use Rattle.std.proofs.Common.{◌≡◌, ◌∙◌, ◌⊎◌, ℕ, List, [], ◌∷◌, ◌++◌, refl, sym, ap, subst, inl, inr}
use Rattle.std.specs.Prelude.{Option, Some, None, option_map, option_and_then, if◌then◌else◌, codes}
use Rattle.std.specs.Str.{bytes_eq}
use Rattle.std.proofs.lemmas.Option.{none-some, same_Some}
use Rattle.wt_calls.specs.declared.demand.Demand.{Demand}
use Rattle.wt_calls.specs.declared.demand.Demand.TheVariants.{Anything, Vacant, Occupied}
use Rattle.wt_calls.specs.declared.way.Way.{Way}
use Rattle.wt_calls.specs.declared.way.Way.TheVariants.{Up, Down}
use Rattle.wt_calls.specs.declared.session_call.SessionCall.{SessionCall}
use Rattle.wt_calls.specs.declared.session_call.SessionCall.TheVariants.{Begin, Get, Put, Remove, Seek, Step, Reset, Prepare, Commit, Rollback}
use Rattle.script_text.specs.Numbers.{stamp_of, given_of, stamps_of}
use Rattle.script_text.specs.Items.{item_of, cursor_of}
use Rattle.script_text.specs.SessionCalls.{data_verb_of, cursor_verb_of, transaction_verb_of, first_verb, session_verb_of, session_words, session_call_of, begin_of, prepare_of, commit_of, rollback_of, get_of, remove_of, put_of, seek_with, seek_of, step_of, reset_of}
use Rattle.script_text.specs.Grammar.{IsItem, SpellsSession}
use Rattle.script_text.specs.declared.items.Keyed.{Keyed}
use Rattle.script_text.specs.declared.numbers.Stamps.{Stamps}
use Rattle.script_text.specs.declared.session_calls.SessionVerb.{SessionVerb}
use Rattle.script_text.specs.declared.session_calls.SessionVerb.TheVariants as verb
use Rattle.script_text.proofs.StampLemmas.{stamp-is, stamp-back}
use Rattle.script_text.proofs.SpokenWords.{chosen, is-text, named, named-back, stamps-are, stamps-back, cursor-is, cursor-back}

-- ---- verbs

abbrev session_text : SessionVerb → List ℕ
session_text verb.Begin = codes "begin"
session_text verb.Get = codes "get"
session_text verb.Put = codes "put"
session_text verb.Insert = codes "insert"
session_text verb.Remove = codes "remove"
session_text verb.Seek = codes "seek"
session_text verb.Next = codes "next"
session_text verb.Prev = codes "prev"
session_text verb.Reset = codes "reset"
session_text verb.Prepare = codes "prepare"
session_text verb.Commit = codes "commit"
session_text verb.Rollback = codes "rollback"

tried : (word : List ℕ) (x v : SessionVerb) (rest : Option SessionVerb) → (if bytes_eq word (session_text x) then Some x else rest) ≡ Some v
    → (rest ≡ Some v → word ≡ session_text v) → word ≡ session_text v
tried word x v rest e others = elim (chosen (bytes_eq word (session_text x)) x v rest e) [
  | inl here ↦ is-text word (session_text x) here.0 ∙ ap session_text here.1
  | inr e ↦ others e
]

data-is : (word : List ℕ) (v : SessionVerb) → data_verb_of word ≡ Some v → word ≡ session_text v
data-is word v e =
    tried word verb.Get v _ e (λ e. tried word verb.Put v _ e (λ e. tried word verb.Insert v _ e (λ e. tried word verb.Remove v None e (λ e. absurd (none-some v e)))))

cursor-verb-is : (word : List ℕ) (v : SessionVerb) → cursor_verb_of word ≡ Some v → word ≡ session_text v
cursor-verb-is word v e =
    tried word verb.Seek v _ e (λ e. tried word verb.Next v _ e (λ e. tried word verb.Prev v _ e (λ e. tried word verb.Reset v None e (λ e. absurd (none-some v e)))))

transaction-is : (word : List ℕ) (v : SessionVerb) → transaction_verb_of word ≡ Some v → word ≡ session_text v
transaction-is word v e =
    tried word verb.Begin v _ e (λ e. tried word verb.Prepare v _ e (λ e. tried word verb.Commit v _ e (λ e. tried word verb.Rollback v None e (λ e. absurd (none-some v e)))))

either-verb : (o p : Option SessionVerb) (v : SessionVerb) → first_verb o p ≡ Some v → (o ≡ Some v) ⊎ (p ≡ Some v)
either-verb (Some x) p v e = inl e
either-verb None p v e = inr e

verb-is : (word : List ℕ) (v : SessionVerb) → session_verb_of word ≡ Some v → word ≡ session_text v
verb-is word v e = elim (either-verb (data_verb_of word) (first_verb (cursor_verb_of word) (transaction_verb_of word)) v e) [
  | inl e ↦ data-is word v e
  | inr e ↦ elim (either-verb (cursor_verb_of word) (transaction_verb_of word) v e) [ inl e ↦ cursor-verb-is word v e | inr e ↦ transaction-is word v e ]
]

-- ---- what is read is spelled so

begin-is : (words : List (List ℕ)) (call : SessionCall) → begin_of words ≡ Some call → SpellsSession call (codes "begin" ∷ words)
begin-is [] call e = subst (λ c. SpellsSession c (codes "begin" ∷ [])) (same_Some (Begin None) call e) refl
begin-is (word ∷ []) call e = go (given_of (codes "read=") word) refl e where
  go : (o : Option ℕ) → given_of (codes "read=") word ≡ o → option_map (λ stamp. Begin (Some stamp)) o ≡ Some call → SpellsSession call (codes "begin" ∷ word ∷ [])
  go None is e = absurd (none-some call e)
  go (Some stamp) is e = subst (λ c. SpellsSession c (codes "begin" ∷ word ∷ [])) (same_Some (Begin (Some stamp)) call e) (word, named (codes "read=") word stamp is, refl)
begin-is (word ∷ (other ∷ words)) call e = absurd (none-some call e)

prepare-is : (words : List (List ℕ)) (call : SessionCall) → prepare_of words ≡ Some call → SpellsSession call (codes "prepare" ∷ words)
prepare-is [] call e = absurd (none-some call e)
prepare-is (word ∷ []) call e = go (stamp_of word) refl e where
  go : (o : Option ℕ) → stamp_of word ≡ o → option_map (λ stamp. Prepare stamp) o ≡ Some call → SpellsSession call (codes "prepare" ∷ word ∷ [])
  go None is e = absurd (none-some call e)
  go (Some stamp) is e = subst (λ c. SpellsSession c (codes "prepare" ∷ word ∷ [])) (same_Some (Prepare stamp) call e) (word, stamp-is stamp word is, refl)
prepare-is (word ∷ (other ∷ words)) call e = absurd (none-some call e)

commit-is : (words : List (List ℕ)) (call : SessionCall) → commit_of words ≡ Some call → SpellsSession call (codes "commit" ∷ words)
commit-is words call e = go (stamps_of (codes "commit=") (codes "durable=") words) refl e where
  go : (o : Option Stamps) → stamps_of (codes "commit=") (codes "durable=") words ≡ o → option_map (λ stamps. Commit stamps.first stamps.second) o ≡ Some call
      → SpellsSession call (codes "commit" ∷ words)
  go None is e = absurd (none-some call e)
  go (Some stamps) is e =
      let are = stamps-are (codes "commit=") (codes "durable=") words stamps is in
      subst (λ c. SpellsSession c (codes "commit" ∷ words)) (same_Some (Commit stamps.first stamps.second) call e)
      (are.0, are.1, are.2, are.3, ap (λ (l : List (List ℕ)). codes "commit" ∷ l) are.4)

rollback-is : (words : List (List ℕ)) (call : SessionCall) → rollback_of words ≡ Some call → SpellsSession call (codes "rollback" ∷ words)
rollback-is [] call e = subst (λ c. SpellsSession c (codes "rollback" ∷ [])) (same_Some Rollback call e) refl
rollback-is (word ∷ words) call e = absurd (none-some call e)

get-is : (words : List (List ℕ)) (call : SessionCall) → get_of words ≡ Some call → SpellsSession call (codes "get" ∷ words)
get-is [] call e = absurd (none-some call e)
get-is (t ∷ []) call e = absurd (none-some call e)
get-is (t ∷ (k ∷ [])) call e = go (item_of k) refl e where
  go : (o : Option (List ℕ)) → item_of k ≡ o → option_map (λ (x : Keyed). Get x.table x.key) (option_map (λ key. record { table = t; key = key }) o) ≡ Some call
      → SpellsSession call (codes "get" ∷ t ∷ k ∷ [])
  go None is e = absurd (none-some call e)
  go (Some key) is e = subst (λ c. SpellsSession c (codes "get" ∷ t ∷ k ∷ [])) (same_Some (Get t key) call e) (k, is, refl)
get-is (t ∷ (k ∷ (other ∷ words))) call e = absurd (none-some call e)

remove-is : (words : List (List ℕ)) (call : SessionCall) → remove_of words ≡ Some call → SpellsSession call (codes "remove" ∷ words)
remove-is [] call e = absurd (none-some call e)
remove-is (t ∷ []) call e = absurd (none-some call e)
remove-is (t ∷ (k ∷ [])) call e = go (item_of k) refl e where
  go : (o : Option (List ℕ)) → item_of k ≡ o → option_map (λ (x : Keyed). Remove x.table x.key) (option_map (λ key. record { table = t; key = key }) o) ≡ Some call
      → SpellsSession call (codes "remove" ∷ t ∷ k ∷ [])
  go None is e = absurd (none-some call e)
  go (Some key) is e = subst (λ c. SpellsSession c (codes "remove" ∷ t ∷ k ∷ [])) (same_Some (Remove t key) call e) (k, is, refl)
remove-is (t ∷ (k ∷ (other ∷ words))) call e = absurd (none-some call e)

abbrev IsPut : Demand → List (List ℕ) → SessionCall → Type 0
IsPut Anything words call = SpellsSession call (codes "put" ∷ words)
IsPut Vacant words call = SpellsSession call (codes "insert" ∷ words)
IsPut Occupied words call = Unit {0}

put-is : (demand : Demand) (words : List (List ℕ)) (call : SessionCall) → put_of demand words ≡ Some call → IsPut demand words call
put-is demand [] call e = absurd (none-some call e)
put-is demand (t ∷ []) call e = absurd (none-some call e)
put-is demand (t ∷ (k ∷ [])) call e = absurd (none-some call e)
put-is demand (t ∷ (k ∷ (v ∷ []))) call e = go (item_of k) (item_of v) refl refl e where
  put : (demand : Demand) (key value : List ℕ) → item_of k ≡ Some key → item_of v ≡ Some value → IsPut demand (t ∷ k ∷ v ∷ []) (Put t key value demand)
  put Anything key value is other = (k, v, is, other, refl)
  put Vacant key value is other = (k, v, is, other, refl)
  put Occupied key value is other = tt

  go : (o p : Option (List ℕ)) → item_of k ≡ o → item_of v ≡ p
      → option_and_then (λ (x : Keyed). option_map (λ value. Put x.table x.key value demand) p) (option_map (λ key. record { table = t; key = key }) o) ≡ Some call
      → IsPut demand (t ∷ k ∷ v ∷ []) call
  go None p is other e = absurd (none-some call e)
  go (Some key) None is other e = absurd (none-some call e)
  go (Some key) (Some value) is other e = subst (IsPut demand (t ∷ k ∷ v ∷ [])) (same_Some (Put t key value demand) call e) (put demand key value is other)
put-is demand (t ∷ (k ∷ (v ∷ (other ∷ words)))) call e = absurd (none-some call e)

seek-is : (words : List (List ℕ)) (call : SessionCall) → seek_of words ≡ Some call → SpellsSession call (codes "seek" ∷ words)
seek-is [] call e = absurd (none-some call e)
seek-is (c ∷ []) call e = absurd (none-some call e)
seek-is (c ∷ (t ∷ [])) call e = absurd (none-some call e)
seek-is (c ∷ (t ∷ (k ∷ []))) call e = go (cursor_of c) (item_of k) refl refl e where
  go : (o : Option ℕ) (p : Option (List ℕ)) → cursor_of c ≡ o → item_of k ≡ p
      → option_and_then (λ cursor. seek_with cursor (option_map (λ key. record { table = t; key = key }) p)) o ≡ Some call → SpellsSession call (codes "seek" ∷ c ∷ t ∷ k ∷ [])
  go None p is other e = absurd (none-some call e)
  go (Some cursor) None is other e = absurd (none-some call e)
  go (Some cursor) (Some key) is other e =
      subst (λ x. SpellsSession x (codes "seek" ∷ c ∷ t ∷ k ∷ [])) (same_Some (Seek cursor t key) call e) (c, k, cursor-is c cursor is, other, refl)
seek-is (c ∷ (t ∷ (k ∷ (other ∷ words)))) call e = absurd (none-some call e)

abbrev way_text : Way → List ℕ
way_text Up = codes "next"
way_text Down = codes "prev"

step-is : (way : Way) (words : List (List ℕ)) (call : SessionCall) → step_of way words ≡ Some call → SpellsSession call (way_text way ∷ words)
step-is way [] call e = absurd (none-some call e)
step-is way (c ∷ []) call e = absurd (none-some call e)
step-is way (c ∷ (t ∷ [])) call e = go (cursor_of c) refl e where
  step : (way : Way) (cursor : ℕ) → cursor_of c ≡ Some cursor → SpellsSession (Step cursor t way) (way_text way ∷ c ∷ t ∷ [])
  step Up cursor is = (c, cursor-is c cursor is, refl)
  step Down cursor is = (c, cursor-is c cursor is, refl)

  go : (o : Option ℕ) → cursor_of c ≡ o → option_map (λ cursor. Step cursor t way) o ≡ Some call → SpellsSession call (way_text way ∷ c ∷ t ∷ [])
  go None is e = absurd (none-some call e)
  go (Some cursor) is e = subst (λ x. SpellsSession x (way_text way ∷ c ∷ t ∷ [])) (same_Some (Step cursor t way) call e) (step way cursor is)
step-is way (c ∷ (t ∷ (other ∷ words))) call e = absurd (none-some call e)

reset-is : (words : List (List ℕ)) (call : SessionCall) → reset_of words ≡ Some call → SpellsSession call (codes "reset" ∷ words)
reset-is [] call e = absurd (none-some call e)
reset-is (c ∷ []) call e = go (cursor_of c) refl e where
  go : (o : Option ℕ) → cursor_of c ≡ o → option_map (λ cursor. Reset cursor) o ≡ Some call → SpellsSession call (codes "reset" ∷ c ∷ [])
  go None is e = absurd (none-some call e)
  go (Some cursor) is e = subst (λ x. SpellsSession x (codes "reset" ∷ c ∷ [])) (same_Some (Reset cursor) call e) (c, cursor-is c cursor is, refl)
reset-is (c ∷ (other ∷ words)) call e = absurd (none-some call e)

words-are : (v : SessionVerb) (words : List (List ℕ)) (call : SessionCall) → session_words v words ≡ Some call → SpellsSession call (session_text v ∷ words)
words-are verb.Begin words call e = begin-is words call e
words-are verb.Get words call e = get-is words call e
words-are verb.Put words call e = put-is Anything words call e
words-are verb.Insert words call e = put-is Vacant words call e
words-are verb.Remove words call e = remove-is words call e
words-are verb.Seek words call e = seek-is words call e
words-are verb.Next words call e = step-is Up words call e
words-are verb.Prev words call e = step-is Down words call e
words-are verb.Reset words call e = reset-is words call e
words-are verb.Prepare words call e = prepare-is words call e
words-are verb.Commit words call e = commit-is words call e
words-are verb.Rollback words call e = rollback-is words call e

pub session-call-is : (word : List ℕ) (words : List (List ℕ)) (call : SessionCall) → session_call_of word words ≡ Some call → SpellsSession call (word ∷ words)
session-call-is word words call e = go (session_verb_of word) refl e where
  go : (o : Option SessionVerb) → session_verb_of word ≡ o → option_and_then (λ v. session_words v words) o ≡ Some call → SpellsSession call (word ∷ words)
  go None is e = absurd (none-some call e)
  go (Some v) is e = subst (λ w. SpellsSession call (w ∷ words)) (sym (verb-is word v is)) (words-are v words call e)

-- ---- what is spelled so is read

abbrev pub session_said : List (List ℕ) → Option SessionCall
session_said [] = None
session_said (word ∷ words) = session_call_of word words

keyed : (t k key : List ℕ) → IsItem key k → option_map {U = Keyed} (λ x. record { table = t; key = x }) (item_of k) ≡ Some (record { table = t; key = key })
keyed t k key is = ap (option_map {U = Keyed} (λ x. record { table = t; key = x })) is

pub session-call-back : (call : SessionCall) (words : List (List ℕ)) → SpellsSession call words → session_said words ≡ Some call
session-call-back (Begin None) words is = ap session_said is
session-call-back (Begin (Some stamp)) words is = ap session_said is.2 ∙ ap (option_map (λ x. Begin (Some x))) (named-back (codes "read=") is.0 stamp is.1)
session-call-back (Get table key) words is = ap session_said is.2 ∙ ap (option_map (λ (x : Keyed). Get x.table x.key)) (keyed table is.0 key is.1)
session-call-back (Put table key value Anything) words is =
    ap session_said is.4
    ∙ (λ i. option_and_then (λ (x : Keyed). option_map (λ y. Put x.table x.key y Anything) (is.3 i)) (keyed table is.0 key is.2 i))
session-call-back (Put table key value Vacant) words is =
    ap session_said is.4
    ∙ (λ i. option_and_then (λ (x : Keyed). option_map (λ y. Put x.table x.key y Vacant) (is.3 i)) (keyed table is.0 key is.2 i))
session-call-back (Put table key value Occupied) words is = absurd is
session-call-back (Remove table key) words is = ap session_said is.2 ∙ ap (option_map (λ (x : Keyed). Remove x.table x.key)) (keyed table is.0 key is.1)
session-call-back (Seek cursor table key) words is =
    ap session_said is.4 ∙ (λ i. option_and_then (λ n. seek_with n (keyed table is.1 key is.3 i)) (cursor-back is.0 cursor is.2 i))
session-call-back (Step cursor table Up) words is = ap session_said is.2 ∙ ap (option_map (λ n. Step n table Up)) (cursor-back is.0 cursor is.1)
session-call-back (Step cursor table Down) words is = ap session_said is.2 ∙ ap (option_map (λ n. Step n table Down)) (cursor-back is.0 cursor is.1)
session-call-back (Reset cursor) words is = ap session_said is.2 ∙ ap (option_map (λ n. Reset n)) (cursor-back is.0 cursor is.1)
session-call-back (Prepare stamp) words is = ap session_said is.2 ∙ ap (option_map (λ x. Prepare x)) (stamp-back stamp is.0 is.1)
session-call-back (Commit commit durable) words is =
    ap session_said is.4
    ∙ ap (option_map (λ (x : Stamps). Commit x.first x.second)) (stamps-back (codes "commit=") (codes "durable=") (λ digits. refl) commit durable (is.0 ++ is.1) (is.0, is.1, is.2, is.3, refl))
session-call-back Rollback words is = ap session_said is
