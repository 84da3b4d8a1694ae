use Rattle.std.proofs.Common.{◌≡◌, ◌⊎◌, List, ℕ, Bor, Option, IfErr, sym, subst}
use Rattle.std.specs.Option.{option_map}
use Rattle.item.specs.declared.formats.Formats.{Formats}
use Rattle.config_text.specs.Items.{NamesFormats}
use Rattle.wt_code.specs.declared.refusals.Invalid.TheVariants.{BadConfig}
use Rattle.wt_code.specs.declared.refusals.Refusal.TheVariants.{NoMemory, Invalid as Refusal_Invalid}
use Rattle.wt_tool.specs.Words.{AsksFor}
use Rattle.wt_tool.proofs.names.formats_asked.Goals as goal

pub returns-in-Some-clause-refused : goal.returns-in-Some-clause-refused
returns-in-Some-clause-refused c =
    subst (λ (u : Option (Bor (List ℕ))). IfErr c.table_formats.result (λ r. (r ≡ NoMemory) ⊎ ((r ≡ Refusal_Invalid BadConfig) × ((formats : Formats) → AsksFor (option_map {T = Bor (List ℕ)} {U = List ℕ} (λ x. x.now) u) formats → ⊥)))) (sym c.in-Some.is)
    (subst (λ (l : List ℕ). IfErr c.table_formats.result (λ r. (r ≡ NoMemory) ⊎ ((r ≡ Refusal_Invalid BadConfig) × ((formats : Formats) → NamesFormats l formats → ⊥)))) c.as_bytes.ensures.value c.table_formats.ensures.refused)
