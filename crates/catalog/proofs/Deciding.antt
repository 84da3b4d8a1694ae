-- What is decided of a create.
use Rattle.std.proofs.Common.{◌≡◌, ℕ, zero, suc, ◌<◌, ◌≤◌, true, false, List, [], ◌∷◌, length, Some, None, refl, ap, ◌∙◌, arith}
use Rattle.std.specs.Prelude.{nat_le, option_and_then, slice_get}
use Rattle.std.proofs.lemmas.Bool.Decides.{nat_tests}
use Rattle.item.specs.declared.Formats.{Formats}
use Rattle.wt_code.specs.declared.refusals.Refusal.TheVariants as told
use Rattle.wt_code.specs.declared.refusals.Limit.TheVariants as counted
use Rattle.kv_model.specs.History.{Table, named}
use Rattle.kv_model.specs.Machine.{CreateTable, Nothing}
use Rattle.kv_model.specs.Decisions.{Done, Refused, is_name, same_formats}
use Rattle.catalog.specs.Known.{place_of}
use Rattle.catalog.specs.Order.{table_at}
use Rattle.catalog.specs.Creates.{decided}
use Rattle.catalog.proofs.Distinct.{place_named}

-- ---- the table of a name

get_there : (tables : List Table) (place : ℕ) → place < length tables → slice_get tables place ≡ Some (table_at tables place)
get_there [] place lt = absurd (omega (arith, lt))
get_there (t ∷ later) zero lt = refl
get_there (t ∷ later) (suc place) lt = get_there later place (omega (arith, lt))

pub named_there : (tables : List Table) (name : List ℕ) (place : ℕ) → place_of name tables ≡ Some place → place < length tables → named name tables ≡ Some (table_at tables place)
named_there tables name place is lt = place_named tables name ∙ ap (option_and_then (λ (n : ℕ). slice_get tables n)) is ∙ get_there tables place lt

-- ---- a create

abbrev pub table_of : ℕ → List ℕ → Formats → Table
table_of number name formats = record { number = number; name = name; formats = formats }

pub table_is : (number other : ℕ) (name text : List ℕ) (formats : Formats) → number ≡ other → name ≡ text → table_of number name formats ≡ table_of other text formats
table_is number other name text formats same text_is = ap (λ (n : ℕ). table_of n name formats) same ∙ ap (λ (l : List ℕ). table_of other l formats) text_is

has_room : (n : ℕ) → n < 1024 → nat_le 1024 n ≡ false
has_room n lt = grind (arith, nat_tests)

is_full : (n : ℕ) → 1024 ≤ n → nat_le 1024 n ≡ true
is_full n le = grind (arith, nat_tests)

pub decided_new : (tables : List Table) (t : Table) → is_name t.name ≡ true → named t.name tables ≡ None → length tables < 1024 → decided tables t ≡ (Done, CreateTable t)
decided_new tables t name none lt = rw (name, none, has_room (length tables) lt) refl

pub decided_full : (tables : List Table) (t : Table) → is_name t.name ≡ true → named t.name tables ≡ None → 1024 ≤ length tables → decided tables t ≡ (Refused (told.Limit counted.Tables), Nothing)
decided_full tables t name none le = rw (name, none, is_full (length tables) le) refl

pub decided_same : (tables : List Table) (t old : Table) → is_name t.name ≡ true → named t.name tables ≡ Some old → same_formats t.formats old.formats ≡ true → decided tables t ≡ (Done, Nothing)
decided_same tables t old name some same = rw (name, some, same) refl

pub decided_exists : (tables : List Table) (t old : Table) → is_name t.name ≡ true → named t.name tables ≡ Some old → same_formats t.formats old.formats ≡ false → decided tables t ≡ (Refused told.Exists, Nothing)
decided_exists tables t old name some other = rw (name, some, other) refl
