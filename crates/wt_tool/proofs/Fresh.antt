-- What the calls of `read` answer on a machine that has just started.
--
-- In which order a program has to refuse a get: a name that is none, then a key that is too long (as it is stored: in a table of the format S a byte more than its word, and as the word is where there is no table), then a table that is not there, then an absent key. `read` names its table by `name_in`, so it meets none of the first.
-- Want of memory may be told in place of each of them, before or behind it. A fault of the disk is told only of a name, a key and a table that are not refused.
-- The session may be refused for want of memory alone, and its Begin never is.
use Rattle.std.specs.Prelude.{IsTrue, nat_lt, not, slice_index_or, if◌then◌else◌}
use Rattle.std.proofs.Common.{◌≡◌, ◌≤◌, ◌<◌, ◌∙◌, ℕ, zero, suc, Bool, true, false, List, [], ◌∷◌, length, Option, Some, None, inl, inr, refl, sym, ap, ap₂, subst}
use Rattle.std.proofs.lemmas.Bool.{le-ltb, lt-ltb}
use Rattle.limits.specs.declared.TheConstants.{KEY_MAX}
use Rattle.failure.specs.Counts.{Rose}
use Rattle.wt_code.specs.declared.answers.Answer.{Answer}
use Rattle.wt_code.specs.declared.answers.Answer.TheVariants.{Done, Value, Refused}
use Rattle.wt_code.specs.declared.refusals.Refusal.{Refusal}
use Rattle.wt_code.specs.declared.refusals.Refusal.TheVariants.{NotFound, NoMemory, NoTable, DiskFault, Invalid as Refusal_Invalid}
use Rattle.wt_code.specs.declared.refusals.Invalid.TheVariants.{BadName, KeyLong}
use Rattle.kv_model.specs.Content.{Content, start}
use Rattle.kv_model.specs.History.{Table, tables, named}
use Rattle.kv_model.specs.Machine.{Machine, Transaction, Event, OpenSession, BeginAt, Nothing, begun}
use Rattle.kv_model.specs.Reads.{Meets, IsEnding}
use Rattle.kv_model.specs.Decisions as kv
use Rattle.kv_model.specs.Decisions.{Outcome, checked, is_name, is_there}
use Rattle.kv_model.specs.Calls.{Session, Begin, GetKey, Around, OpensSession, SessionAnswers}
use Rattle.engine_store.specs.Devices.{Device, IsLater, KeepsCheckpoint}
use Rattle.wt_tool.specs.Points.{Did, around}
use Rattle.wt_tool.specs.Parts.{at}
use Rattle.device_read.specs.Rows.{value_in}
use Rattle.wt_tool.specs.Fresh.{opened_fresh, begun_fresh, answer_of, answer_at, answer_in, Reaches, MayGive}

-- ---- what a get answers

module _ (c : Content) (name key : List ℕ) where
  -- the answer, and the decision on it, by what the checks find
  abbrev answer_by : (named_so is_long : Bool) → Option Table → Answer (List ℕ)
  answer_by named_so is_long found =
      if not named_so then Refused (Refusal_Invalid BadName)
      else if is_long then Refused (Refusal_Invalid (KeyLong (length key)))
      else answer_at c key found

  abbrev decided_by : (named_so is_long : Bool) → Option Table → Outcome × Event
  decided_by named_so is_long found =
      checked ((not named_so, Refusal_Invalid BadName) ∷ ((is_long, Refusal_Invalid (KeyLong (length key))) ∷ ((not (is_there found), NoTable) ∷ []))) (kv.Done, Nothing)

  abbrev is_long : Bool
  is_long = nat_lt KEY_MAX (length key)

  abbrev found : Option Table
  found = named name (tables (start c).history)

  pub long_key : IsTrue (is_name name) → KEY_MAX < length key → answer_in c name key ≡ Refused (Refusal_Invalid (KeyLong (length key)))
  long_key is long = ap₂ (λ (b l : Bool). answer_by b l found) is (lt-ltb KEY_MAX (length key) long)

  fits : IsTrue (is_name name) → length key ≤ KEY_MAX → answer_in c name key ≡ answer_at c key found
  fits is short = ap₂ (λ (b l : Bool). answer_by b l found) is (le-ltb KEY_MAX (length key) short)

  pub no_table : IsTrue (is_name name) → length key ≤ KEY_MAX → named name (tables (start c).history) ≡ None → answer_in c name key ≡ Refused NoTable
  no_table is short none = fits is short ∙ ap (answer_at c key) none

  -- by the value of the key
  pub reached : (t : Table) → Reaches c name key t → answer_in c name key ≡ answer_of (value_in c t.number key)
  reached t reaches = fits reaches.named_so reaches.short ∙ ap (answer_at c key) reaches.there

  pub absent : (t : Table) → Reaches c name key t → value_in c t.number key ≡ None → answer_in c name key ≡ Refused NotFound
  absent t reaches none = reached t reaches ∙ ap answer_of none

  pub present : (t : Table) (value : List ℕ) → Reaches c name key t → value_in c t.number key ≡ Some value → answer_in c name key ≡ Value value
  present t value reaches is = reached t reaches ∙ ap answer_of is

  -- ---- the calls

  abbrev here : Machine
  here = begun_fresh c

  abbrev reader : Transaction
  reader = begun (start c) 0

  none_at : (k : ℕ) → slice_index_or [] k (let none : Option Transaction = None in none) ≡ None
  none_at zero = refl
  none_at (suc k) = refl

  -- nobody else has a transaction
  alone : (n : ℕ) (other : ℕ) (x : Transaction) → Meets here 0 reader n key other x → IsEnding x.phase
  alone n zero x meets = absurd (meets.another refl)
  alone n (suc k) x meets = let none : None ≡ Some x = sym (none_at k) ∙ meets.writer.0 in absurd cc

  module _ (a : Around) where
    abbrev Answered : Answer (List ℕ) → Type 0
    Answered answer = SessionAnswers a here 0 (GetKey name key) answer here

    refused_by : (r : Refusal) → decided_by (is_name name) is_long found ≡ (kv.Refused r, Nothing) → Answered (Refused r)
    refused_by r is = inl (kv.Refused r, inl (r, Nothing, is, refl, refl), refl)

    by_value : (t : Table) → decided_by (is_name name) is_long found ≡ (kv.Done, Nothing) → found ≡ Some t → (v : Option (List ℕ)) → v ≡ value_in c t.number key → Answered (answer_of v)
    by_value t goes there None is = inl (kv.Refused NotFound, inr (Nothing, reader, t, Nothing, goes, record { transaction = refl; table_is = there }, ((is, alone t.number), refl), refl), refl)
    by_value t goes there (Some v) is = inl (kv.Gives v, inr (Nothing, reader, t, Nothing, goes, record { transaction = refl; table_is = there }, ((is, alone t.number), refl), refl), refl)

    decided_so : (b l : Bool) (f : Option Table) → is_name name ≡ b → is_long ≡ l → found ≡ f → decided_by (is_name name) is_long found ≡ decided_by b l f
    decided_so b l f name_is length_is table_is = ap₂ (λ (x y : Bool). decided_by x y found) name_is length_is ∙ ap (decided_by b l) table_is

    by_checks : (b l : Bool) (f : Option Table) → is_name name ≡ b → is_long ≡ l → found ≡ f → Answered (answer_by b l f)
    by_checks false l f name_is length_is table_is = refused_by (Refusal_Invalid BadName) (decided_so false l f name_is length_is table_is)
    by_checks true true f name_is length_is table_is = refused_by (Refusal_Invalid (KeyLong (length key))) (decided_so true true f name_is length_is table_is)
    by_checks true false None name_is length_is table_is = refused_by NoTable (decided_so true false None name_is length_is table_is)
    by_checks true false (Some t) name_is length_is table_is = by_value t (decided_so true false (Some t) name_is length_is table_is) table_is (value_in c t.number key) refl

    -- where nothing holds it up
    pub answered : Answered (answer_in c name key)
    answered = by_checks (is_name name) is_long found refl refl refl

    pub held_up : (t : Table) → Reaches c name key t → a.MayKeepOut DiskFault → Answered (Refused DiskFault)
    held_up t reaches may = inr (inr (Nothing, decided_so true false (Some t) reaches.named_so (le-ltb KEY_MAX (length key) reaches.short) reaches.there, inr (DiskFault, may, refl, inl refl)))

pub opens : (c : Content) → OpensSession (start c) Done (opened_fresh c)
opens c = inr (kv.Done, (OpenSession, refl, refl), refl)

-- for want of memory, on any machine
pub opens_short : (m : Machine) → OpensSession m (Refused NoMemory) m
opens_short m = inl (refl, refl)

module _ (c : Content) (d d' : Device) (later : IsLater d d') (keeps : KeepsCheckpoint d d') where
  pub begins : Did (at d (opened_fresh c)) (Session 0) (Begin None) Done (at d' (begun_fresh c))
  begins = record { later = later; keeps = keeps; answers = inl (kv.Done, (BeginAt 0 0, refl, refl), refl) }

  module _ (name key : List ℕ) where
    -- the machine stays as it is
    abbrev pub Gets : Answer (List ℕ) → Type 0
    Gets answer = Did (at d (begun_fresh c)) (Session 0) (GetKey name key) answer (at d' (begun_fresh c))

    pub gets : Gets (answer_in c name key)
    gets = record { later = later; keeps = keeps; answers = answered c name key (around [] d d') }

    pub gets_short : Gets (Refused NoMemory)
    gets_short = record { later = later; keeps = keeps; answers = inr (inl (refl, refl)) }

    pub gets_fault : (t : Table) → Reaches c name key t → Rose d.faults d'.faults → Gets (Refused DiskFault)
    gets_fault t reaches rose = record { later = later; keeps = keeps; answers = held_up c name key (around [] d d') t reaches (refl, rose) }

    -- all that a get may answer
    pub gives : (answer : Answer (List ℕ)) → MayGive c name key d.faults d'.faults answer → Gets answer
    gives answer (inl is) = subst Gets (sym is) gets
    gives answer (inr (inl is)) = subst Gets (sym is) gets_short
    gives answer (inr (inr (is, rose, (t, reaches)))) = subst Gets (sym is) (gets_fault t reaches rose)
