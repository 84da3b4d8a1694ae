-- A create tells no refusal that only a device gives.
use Rattle.std.proofs.Common.{sym, Bool, true, false, List, [], ◌∷◌, length, inl, inr, subst}
use Rattle.std.specs.Prelude.{Option, Some, None, if◌then◌else◌, nat_le, not}
use Rattle.limits.specs.declared.TheConstants.{TABLES_MAX}
use Rattle.wt_code.specs.declared.answers.Answer.TheVariants as answers
use Rattle.wt_code.specs.declared.refusals.Refusal.{Refusal}
use Rattle.wt_code.specs.declared.refusals.Refusal.TheVariants as refusal
use Rattle.wt_code.specs.declared.refusals.Invalid.TheVariants as why
use Rattle.wt_code.specs.declared.refusals.Limit.TheVariants as counted
use Rattle.kv_model.specs.Decisions.{Outcome, Done, Refused, checked, create_decision, is_name, refused, same_formats}
use Rattle.kv_model.specs.History.{Table, named}
use Rattle.kv_model.specs.Machine.{CreateTable, Event, Nothing}
use Rattle.catalog.specs.Creates.{IsRefused, decided}
use Rattle.catalog.specs.Known.{Known}
use Rattle.call_turns.specs.Answers.{IsOwn}
use Rattle.engine.specs.Told.{IsOwnAlways}

abbrev IsOwnOutcome : Refusal → Outcome → Type 0
IsOwnOutcome but (Refused r) = IsOwn but r
IsOwnOutcome but _ = Unit {0}

decided-own : (but : Refusal) (known : List Table) (t : Table) → IsOwnOutcome but (decided known t).0
decided-own but known t = by-name (is_name t.name) where
  by-count : (b : Bool) → IsOwnOutcome but (checked ((b, refusal.Limit counted.Tables) ∷ []) (Done, CreateTable t)).0
  by-count true = tt
  by-count false = tt

  by-same : (b : Bool) → (let made : Outcome × Event = if b then (Done, Nothing) else refused refusal.Exists in IsOwnOutcome but made.0)
  by-same true = tt
  by-same false = tt

  by-other : (o : Option Table) → IsOwnOutcome but (create_decision known t o).0
  by-other None = by-count (nat_le TABLES_MAX (length known))
  by-other (Some old) = by-same (same_formats t.formats old.formats)

  by-name : (b : Bool) → IsOwnOutcome but (checked ((not b, refusal.Invalid why.BadName) ∷ []) (create_decision known t (named t.name known))).0
  by-name true = by-other (named t.name known)
  by-name false = tt

pub create-refusal-own : (known : Known) (t : Table) (r : Refusal) → IsRefused known t r → IsOwnAlways (answers.Refused r)
create-refusal-own known t r why_not but none = elim why_not [
  | inl short ↦ subst (IsOwn but) (sym short) tt
  | inr other ↦ elim other [
    | inl judged_so ↦ subst (λ (d : Outcome × Event). IsOwnOutcome but d.0) judged_so (decided-own but known.tables t)
    | inr used_up ↦ subst (IsOwn but) (sym used_up.0) tt
  ]
]
