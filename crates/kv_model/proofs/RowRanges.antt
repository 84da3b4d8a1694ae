-- The answers of a walk over one range after the other.
use Rattle.std.proofs.Common.{◌≡◌, ◌≢◌, ◌∙◌, ap, sym, refl, ℕ, Bool, true, not, List, [], ◌∷◌, inl, inr}
use Rattle.std.specs.Prelude.{Option, Some, None, option_and_then}
use Rattle.std.proofs.lemmas.Bool.{cases_Bool, and_parts, and_from, not-true, not_from_false}
use Rattle.item.specs.declared.Change.{Change}
use Rattle.stamp.specs.declared.Version.{Version}
use Rattle.wt_code.specs.declared.refusals.Refusal.TheVariants.{NotFound, PrepareConflict}
use Rattle.kv_model.specs.History.{Write, put_of}
use Rattle.kv_model.specs.Machine.{Machine, Transaction, transaction_of, after, Event, CommitAt}
use Rattle.kv_model.specs.Reads.{own_write, Found, Value, ReadAs, ReadAnswer}
use Rattle.kv_model.specs.Allowed.{Allowed}
use Rattle.kv_model.specs.Valid.{Valid}
use Rattle.kv_model.specs.Decisions.{Outcome, GivesRow, Refused}
use Rattle.kv_model.specs.Elsewhere.{IsOfOthers}
use Rattle.kv_model.specs.GoingOnLaws.{IsAnothers}
use Rattle.kv_model.specs.Rows.{Way, Up, Down, key_lt, RangeAnswer, AbsentBefore}
use Rattle.kv_model.specs.RowLaws.{IsParted, CutsPartRanges, PartsAnswer, RowsCompose, AbsencesGoOn}
use Rattle.kv_model.proofs.EveryEvent.{valid-after}
use Rattle.kv_model.proofs.KeyOrder.{after-once, below-cut}
use Rattle.kv_model.proofs.Meetings.{meets-go-on}
use Rattle.kv_model.proofs.Onward.{session-stays}
use Rattle.kv_model.proofs.ReadingOn.{reads-go-on}

-- ---- a cut

pub cuts-part-ranges : CutsPartRanges
cuts-part-ranges Up cut within = record {
  covers = λ k is. elim (cases_Bool (key_lt k cut)) [
    | inl low ↦ inl (and_from (within k) (key_lt k cut) is low)
    | inr high ↦ inr (and_from (within k) (not (key_lt k cut)) is (not_from_false (key_lt k cut) high))
  ];
  first_in = λ k is. (and_parts (within k) (key_lt k cut) is).0;
  second_in = λ k is. (and_parts (within k) (not (key_lt k cut)) is).0;
  ordered = λ a b one two. below-cut a b cut (and_parts (within a) (key_lt a cut) one).1 (not-true (key_lt b cut) (and_parts (within b) (not (key_lt b cut)) two).1);
}
cuts-part-ranges Down cut within = record {
  covers = λ k is. elim (cases_Bool (key_lt k cut)) [
    | inl low ↦ inr (and_from (within k) (key_lt k cut) is low)
    | inr high ↦ inl (and_from (within k) (not (key_lt k cut)) is (not_from_false (key_lt k cut) high))
  ];
  first_in = λ k is. (and_parts (within k) (not (key_lt k cut)) is).0;
  second_in = λ k is. (and_parts (within k) (key_lt k cut) is).0;
  ordered = λ a b one two. below-cut b a cut (and_parts (within b) (key_lt b cut) two).1 (not-true (key_lt a cut) (and_parts (within a) (not (key_lt a cut)) one).1);
}

-- ---- two parts

module _ (Reads : List ℕ → Found → Type 0) (way : Way) (whole first second : List ℕ → Bool) (parts : IsParted way whole first second) where
  -- behind the nearest of the first part lies nothing before it
  before-first : (key : List ℕ) → first key ≡ true → AbsentBefore Reads way first key → AbsentBefore Reads way whole key
  before-first key at absent k is before = elim (parts.covers k is) [
    | inl one ↦ absent k one before
    | inr two ↦ absurd (after-once way k key before (parts.ordered key k at two))
  ]

  before-second : (key : List ℕ) → ((k : List ℕ) → first k ≡ true → Reads k (Value None)) → AbsentBefore Reads way second key → AbsentBefore Reads way whole key
  before-second key none absent k is before = elim (parts.covers k is) [ inl one ↦ none k one | inr two ↦ absent k two before ]

  back-first : (outcome : Outcome) → outcome ≢ Refused NotFound → RangeAnswer Reads way first outcome → RangeAnswer Reads way whole outcome
  back-first (GivesRow key v) row answer = (parts.first_in key answer.0, answer.1, before-first key answer.0 answer.2)
  back-first (Refused (PrepareConflict id)) row answer = (answer.0, parts.first_in answer.0 answer.1, answer.2, before-first answer.0 answer.1 answer.3)
  back-first (Refused NotFound) row answer = absurd (row refl)
  back-first _ row answer = absurd answer

  back-second : (outcome : Outcome) → ((k : List ℕ) → first k ≡ true → Reads k (Value None)) → RangeAnswer Reads way second outcome → RangeAnswer Reads way whole outcome
  back-second (GivesRow key v) none answer = (parts.second_in key answer.0, answer.1, before-second key none answer.2)
  back-second (Refused (PrepareConflict id)) none answer = (answer.0, parts.second_in answer.0 answer.1, answer.2, before-second answer.0 none answer.3)
  back-second (Refused NotFound) none answer = λ k is. elim (parts.covers k is) [ inl one ↦ none k one | inr two ↦ answer k two ]
  back-second _ none answer = absurd answer

  -- the nearest of the whole lies in one of the parts
  absent-first : (key : List ℕ) → second key ≡ true → AbsentBefore Reads way whole key → (k : List ℕ) → first k ≡ true → Reads k (Value None)
  absent-first key at absent k one = absent k (parts.first_in k one) (parts.ordered k key one at)

  forth : (outcome : Outcome) → RangeAnswer Reads way whole outcome → PartsAnswer (RangeAnswer Reads way) first second outcome
  forth (GivesRow key v) answer = elim (parts.covers key answer.0) [
    | inl one ↦ inl ((one, answer.1, λ k is before. answer.2 k (parts.first_in k is) before), λ e. cc)
    | inr two ↦ inr (absent-first key two answer.2, (two, answer.1, λ k is before. answer.2 k (parts.second_in k is) before))
  ]
  forth (Refused (PrepareConflict id)) answer = elim (parts.covers answer.0 answer.1) [
    | inl one ↦ inl ((answer.0, one, answer.2, λ k is before. answer.3 k (parts.first_in k is) before), λ e. cc)
    | inr two ↦ inr (absent-first answer.0 two answer.3, (answer.0, two, answer.2, λ k is before. answer.3 k (parts.second_in k is) before))
  ]
  forth (Refused NotFound) answer = inr (λ k one. answer k (parts.first_in k one), λ k two. answer k (parts.second_in k two))
  forth _ answer = absurd answer

  pub composed : (outcome : Outcome) → (RangeAnswer Reads way whole outcome → PartsAnswer (RangeAnswer Reads way) first second outcome) × (PartsAnswer (RangeAnswer Reads way) first second outcome → RangeAnswer Reads way whole outcome)
  composed outcome = (forth outcome, λ either. elim either [ inl one ↦ back-first outcome one.1 one.0 | inr two ↦ back-second outcome two.0 two.1 ])

pub rows-compose : RowsCompose
rows-compose m s t table way whole first second outcome parts = composed (ReadAnswer m s t table) way whole first second parts outcome

-- ---- later

anothers : (s : ℕ) (event : Event) → IsOfOthers s event → IsAnothers s event
anothers s (CommitAt r commit durable) others = others
anothers s _ others = tt

module _ (m : Machine) (event : Event) (s : ℕ) (t : Transaction) (table : ℕ) (key : List ℕ) (v : Option (List ℕ)) (valid : Valid m) (may : Allowed m event) (there : transaction_of m s ≡ Some t) (others : IsOfOthers s event) where
  read-as : (own : Option Write) → ReadAs own m s t table key (Value v) → ReadAs own (after m event) s t table key (Value v)
  read-as (Some w) answer = answer
  read-as None answer = (
    answer.0 ∙ sym (ap (λ o. option_and_then (λ (x : Version Change). put_of x.change) o) (reads-go-on m s t table key valid there event may (anothers s event others) answer.1)),
    λ other x met. let old = meets-go-on m event s t table key other x valid may there met in old.2 (answer.1 other old.0 old.1),
  )

  pub value-goes-on : ReadAnswer m s t table key (Value v) → ReadAnswer (after m event) s t table key (Value v)
  value-goes-on = read-as (own_write t table key)

pub absences-go-on : AbsencesGoOn
absences-go-on m [] s t table way within valid there may others none = none
absences-go-on m (event ∷ later) s t table way within valid there may others none =
    absences-go-on (after m event) later s t table way within (valid-after m event valid may.0) (session-stays m event s may.0 others.0 ∙ there) may.1 others.1
    (λ k is. value-goes-on m event s t table k None valid may.0 there others.0 (none k is))
