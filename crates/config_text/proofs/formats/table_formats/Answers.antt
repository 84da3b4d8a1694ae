use Rattle.std.proofs.Common.{◌≡◌, ◌∙◌, ◌⊎◌, List, ℕ, refl, ap, sym, inr}
use Rattle.std.specs.Prelude.{Option, Some, None, Result, Ok, Err, IfErr}
use Rattle.item.specs.declared.formats.Format.{Format}
use Rattle.item.specs.declared.formats.Formats.{Formats}
use Rattle.wt_code.specs.declared.refusals.Refusal.{Refusal}
use Rattle.wt_code.specs.declared.refusals.Refusal.TheVariants.{Invalid, NoMemory as WantOfMemory}
use Rattle.wt_code.specs.declared.refusals.Invalid.TheVariants.{BadConfig}
use Rattle.config_text.specs.Grammar.{Pair, AreItems}
use Rattle.config_text.specs.Items.{both_formats, formats_of, pairs_of, NamesFormats}
use Rattle.config_text.proofs.ReadItems.{one-list}
use Rattle.config_text.proofs.formats.table_formats.Goals as goal

bad : (key value : Option Format) (r : Refusal) → both_formats key value ≡ Err r → r ≡ Invalid BadConfig
bad (Some key) (Some value) r e = absurd (cc (e))
bad (Some key) None r e = cc
bad None value r e = cc

judged : (items : List Pair) (text : List ℕ) (r : Result Formats Refusal) → AreItems items text → r ≡ formats_of items
    → IfErr r (λ e. (e ≡ WantOfMemory) ⊎ ((e ≡ Invalid BadConfig) × ((formats : Formats) → NamesFormats text formats → ⊥)))
judged items text (Ok formats) are e = tt
judged items text (Err r) are e = inr (bad _ _ r (sym e), λ formats names. other formats (e ∙ (ap formats_of (one-list are names.0 names.1) ∙ names.2))) where
  other : (formats : Formats) → Err r ≡ Ok formats → ⊥
  other formats e = cc

pub returns-in-Some-clause-refused : goal.returns-in-Some-clause-refused
returns-in-Some-clause-refused c =
    let items : List Pair = pairs_of c.in-Some.items.items in
    let read = rw c.in-Some.is at (c.in_ok-top_items.ensures items) in
    judged items c.args.text.now c.formats_of.result (read.0 refl) (c.formats_of.ensures ∙ ap (λ l. formats_of (pairs_of l)) c.deref.ensures.value)
