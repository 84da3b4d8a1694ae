-- A record with which no engine could begin.
use Rattle.std.proofs.Common.{◌≡◌, ◌∙◌, ◌≤◌, ℕ, List, inl, inr, sym, subst, arith}
use Rattle.wt_code.specs.declared.refusals.Refusal.{Refusal}
use Rattle.device_leaf.specs.Openings.{last_number}
use Rattle.stored.specs.Records.{IsRecord, Record}
use Rattle.stored.specs.Stored.{IsOn, Stored}
use Rattle.device_leaf.specs.declared.place.Place.{Place}
use Rattle.device_leaf.proofs.Opens.{no_blank}
use Rattle.recover_open.specs.declared.wholes.Whole.{Whole}
use Rattle.recover_open.specs.Wholes.{SurveysWhole}
use Rattle.recover_open.proofs.Devices.{kept_is, run_read}
use Rattle.device_read.specs.Refusals.{HasNumbers, LacksNumbers, OpenRefused}
use Rattle.device_read.specs.Steps.{RefusesNumbers}

-- no run is above the last one
most_run : (r : Record) → IsRecord r → last_number ≤ r.run → r.run ≡ last_number
most_run r is last = omega (arith, is.run.1, is.sequence, last)

pub numbers_refused : (fault known : Type 0) (bytes : List ℕ) (place : Place) (w : Whole) (r : Refusal) → (known → SurveysWhole bytes place w) → RefusesNumbers w.record r → OpenRefused fault known bytes r
numbers_refused fault known bytes place w r surveyed (inl (is, low)) = inr (inl (
  is,
  (λ k content reads. let names = (surveyed k).names in run_read bytes (surveyed k).slot w.record names.chosen names.is_record names.is content reads ∙ most_run w.record names.is_record low),
))
numbers_refused fault known bytes place w r surveyed (inr (is, lack)) = inr (inr (
  is,
  (λ k s on. let names = (surveyed k).names in subst (λ (x : Record). LacksNumbers x) (sym (kept_is bytes (surveyed k).slot s w.record names.chosen names.is_record names.is on)) lack),
  (λ k blank. no_blank bytes (surveyed k).slot (surveyed k).names.chosen blank),
))

pub numbers_had : (bytes : List ℕ) (place : Place) (w : Whole) (s : Stored) → SurveysWhole bytes place w → HasNumbers w.record → IsOn bytes s → HasNumbers s.kept
numbers_had bytes place w s surveyed has on =
    let names = surveyed.names in
    subst (λ (x : Record). HasNumbers x) (sym (kept_is bytes surveyed.slot s w.record names.chosen names.is_record names.is on)) has
