use Rattle.std.proofs.Common.{◌≡◌, ◌∙◌, [], Some, Ok, Err, List, ℕ, Bor, Option, inl, inr, refl, sym, subst}
use Rattle.std.specs.Option.{option_map}
use Rattle.wt_code.specs.declared.refusals.Refusal.TheVariants.{NoTable}
use Rattle.wt_tool.specs.Parts.{silent_run}
use Rattle.wt_tool.specs.Words.{name_in}
use Rattle.wt_tool.specs.Verifies.{IsThere, LooksFor, tables_in}
use Rattle.wt_tool.proofs.Naming.{named_goes}
use Rattle.wt_tool.proofs.Verifying.{none_named, some_named}
use Rattle.wt_tool.proofs.verify.check.Goals as goal

pub returns-then-is_there-clause-run : goal.returns-then-is_there-clause-run
returns-then-is_there-clause-run c p same =
    let name = c.in-Some-name_of.name.now in
    let named : name_in c.in-Some.uri.now ≡ Some name = subst (λ (l : List ℕ). name_in l ≡ Some name) c.as_bytes.ensures.value c.in-Some-name_of.ensures.name in
    let found = some_named p.machine (tables_in c.args.found.now) same name (sym c.is_there.ensures ∙ c.if-is_there.true) in
    subst (λ (u : Option (Bor (List ℕ))). LooksFor (option_map {T = Bor (List ℕ)} {U = List ℕ} (λ x. x.now) u) p (silent_run (Ok tt) [] p)) (sym c.in-Some.is)
    (named_goes c.in-Some.uri.now IsThere name named p (silent_run (Ok tt) [] p) (inr (found.0, found.1, refl)))

pub returns-else-is_there-clause-run : goal.returns-else-is_there-clause-run
returns-else-is_there-clause-run c p same =
    let name = c.in-Some-name_of.name.now in
    let named : name_in c.in-Some.uri.now ≡ Some name = subst (λ (l : List ℕ). name_in l ≡ Some name) c.as_bytes.ensures.value c.in-Some-name_of.ensures.name in
    subst (λ (u : Option (Bor (List ℕ))). LooksFor (option_map {T = Bor (List ℕ)} {U = List ℕ} (λ x. x.now) u) p (silent_run (Err NoTable) [] p)) (sym c.in-Some.is)
    (named_goes c.in-Some.uri.now IsThere name named p (silent_run (Err NoTable) [] p) (inl (none_named p.machine (tables_in c.args.found.now) same name (sym c.is_there.ensures ∙ c.if-is_there.false), refl)))
