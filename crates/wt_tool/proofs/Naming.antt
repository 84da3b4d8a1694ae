-- A command whose words name a table or a configuration, or none.
use Rattle.std.specs.Prelude.{◌≡◌, ℕ, List, [], ◌∷◌, Option, Some, None, MatchOption, ◌⊎◌, refl}
use Rattle.std.proofs.Common.{◌∙◌, ap, inl, inr, sym, subst}
use Rattle.std.proofs.lemmas.List.{append-nil}
use Rattle.item.specs.declared.Formats.{Formats}
use Rattle.wt_code.specs.declared.refusals.Refusal.{Refusal}
use Rattle.wt_code.specs.declared.refusals.Refusal.TheVariants.{DiskFault, NoMemory, Invalid as Refusal_Invalid}
use Rattle.wt_code.specs.declared.refusals.Invalid.TheVariants.{BadName, BadConfig}
use Rattle.wt_io.specs.Streams.{Took}
use Rattle.engine_store.specs.Devices.{Device}
use Rattle.wt_tool.specs.Words.{AsksFor, name_in}
use Rattle.wt_tool.specs.Points.{Point, Ran, stops}
use Rattle.wt_tool.specs.Openings.{Named, Configured}
use Rattle.wt_tool.specs.Parts.{NoDamage, Reading}
use Rattle.wt_tool.specs.Top.{Errors, Tells, lines}

pub named_goes : (uri : List ℕ) (Goes : List ℕ → Point → Ran → Type 0) (name : List ℕ) → name_in uri ≡ Some name → (p : Point) (ran : Ran) → Goes name p ran → Named uri Goes p ran
named_goes uri Goes name is p ran goes = subst (λ (n : Option (List ℕ)). MatchOption n (ran ≡ stops (Refusal_Invalid BadName) p) (λ name. Goes name p ran)) (sym is) goes

pub named_none : (uri : List ℕ) (Goes : List ℕ → Point → Ran → Type 0) → name_in uri ≡ None → (p : Point) → Named uri Goes p (stops (Refusal_Invalid BadName) p)
named_none uri Goes none p = subst (λ (n : Option (List ℕ)). MatchOption n (stops (Refusal_Invalid BadName) p ≡ stops (Refusal_Invalid BadName) p) (λ name. Goes name p (stops (Refusal_Invalid BadName) p))) (sym none) refl

pub configured_goes : (config : Option (List ℕ)) (Goes : Formats → Point → Ran → Type 0) (formats : Formats) → AsksFor config formats → (p : Point) (ran : Ran) → Goes formats p ran → Configured config Goes p ran
configured_goes config Goes formats asks p ran goes = inl (formats, asks, goes)

-- why a configuration gives no formats
abbrev pub IsUnconfigured : Option (List ℕ) → Refusal → Type 0
IsUnconfigured config r = (r ≡ NoMemory) ⊎ ((r ≡ Refusal_Invalid BadConfig) × ((formats : Formats) → AsksFor config formats → ⊥))

pub configured_refused : (config : Option (List ℕ)) (Goes : Formats → Point → Ran → Type 0) (r : Refusal) → IsUnconfigured config r → (p : Point) → Configured config Goes p (stops r p)
configured_refused config Goes r (inl is) p = inr (inr (ap (λ (x : Refusal). stops x p) is))
configured_refused config Goes r (inr (is, none)) p = inr (inl (none, ap (λ (x : Refusal). stops x p) is))

pub unconfigured_no_fault : (config : Option (List ℕ)) (r : Refusal) → IsUnconfigured config r → r ≡ DiskFault → ⊥
unconfigured_no_fault config r (inl is) fault = let e : NoMemory ≡ DiskFault = sym is ∙ fault in cc
unconfigured_no_fault config r (inr (is, none)) fault = let e : Refusal_Invalid BadConfig ≡ DiskFault = sym is ∙ fault in cc

pub unconfigured_sound : (config : Option (List ℕ)) (r : Refusal) → IsUnconfigured config r → NoDamage r
unconfigured_sound config r (inl is) = subst (λ (x : Refusal). NoDamage x) (sym is) tt
unconfigured_sound config r (inr (is, none)) = subst (λ (x : Refusal). NoDamage x) (sym is) tt

module _ (uri : List ℕ) (Goes : List ℕ → Point → Ran → Type 0) where
  pub reading_named : (p : Point) (d : Device) (before now : Option (List ℕ)) (e : Errors) (status : ℕ) (name : List ℕ) → name_in uri ≡ Some name → Reading (Goes name) p d before now e status → Reading (λ q ran. Named uri Goes q ran) p d before now e status
  reading_named p d before now e status name is r =
      record { ran = r.ran; run = named_goes uri Goes name is p r.ran r.run; printed = r.printed; told = r.told; silent = r.silent; none = r.none; there = r.there; same = r.same }

  pub reading_unnamed : (p : Point) (before now : Option (List ℕ)) (e : Errors) (status : ℕ) → name_in uri ≡ None → Took before now [] → Tells e (lines (Refusal_Invalid BadName ∷ [])) 1 status → Reading (λ q ran. Named uri Goes q ran) p p.device before now e status
  reading_unnamed p before now e status none took told = record {
    ran = stops (Refusal_Invalid BadName) p;
    run = named_none uri Goes none p;
    printed = inl took;
    told = subst (λ (l : List ℕ). Tells e l 1 status) (sym (append-nil (lines (Refusal_Invalid BadName ∷ [])))) told;
    silent = refl;
    none = refl;
    there = refl;
    same = refl;
  }
