-- The gets of `read`, by what a reader has.
use Rattle.std.specs.Prelude.{IfSome, IfNone, slice_get}
use Rattle.std.proofs.Common.{◌≡◌, ◌∙◌, ◌≤◌, ◌<◌, ℕ, List, Option, Some, None, Err, IsTrue, inl, inr, sym, ap, subst, length}
use Rattle.std.specs.Option.{option_map_or}
use Rattle.limits.specs.declared.TheConstants.{KEY_MAX}
use Rattle.item.specs.declared.formats.Formats.{Formats}
use Rattle.item_forms.specs.Forms.{stored_as}
use Rattle.wt_code.specs.declared.answers.Answer.{Answer}
use Rattle.wt_code.specs.declared.answers.Answer.TheVariants.{Value, Refused}
use Rattle.wt_code.specs.declared.refusals.Refusal.{Refusal}
use Rattle.wt_code.specs.declared.refusals.Refusal.TheVariants.{NotFound, NoTable, Invalid as Refusal_Invalid}
use Rattle.wt_code.specs.declared.refusals.Invalid.TheVariants.{KeyLong}
use Rattle.failure.specs.Counts.{Rose}
use Rattle.kv_model.specs.Content.{Content, start}
use Rattle.kv_model.specs.Decisions.{is_name}
use Rattle.kv_model.specs.History.{Table, named}
use Rattle.tree_open.specs.Damage.{Refused as IsRefused}
use Rattle.device_read.specs.Leaves.{HasNoLeafOf}
use Rattle.device_read.specs.Readers.{Held, IsReaderOf, tables_in}
use Rattle.device_read.specs.Rows.{HasTables, value_in}
use Rattle.wt_tool.specs.declared.tables.TableAt.{TableAt}
use Rattle.wt_tool.specs.Damaged.{IsTableOn, LacksLeafOf, MayGiveOn}
use Rattle.wt_tool.specs.Fresh.{MayGive, Reaches, key_in}
use Rattle.wt_tool.specs.Openings.{formats_at}
use Rattle.wt_tool.specs.Pages.{IsTableAt, IsTableOf, formats_found}
use Rattle.wt_tool.specs.Words.{plain_formats}
use Rattle.wt_tool.proofs.Fresh.{absent, long_key, no_table, present}

pub table_of : (known : List Table) (name : List ℕ) (found : Option TableAt) → IfSome found (IsTableAt known name) → IfNone found (named name known ≡ None) → IsTableOf known name found
table_of known name None some none = none
table_of known name (Some t) some none = some

abbrev formats_in : Option Table → Formats
formats_in o = option_map_or (λ t. t.formats) o plain_formats

-- the formats of a table are those that the machine has
pub formats_are : (c : Content) (known : List Table) (name : List ℕ) (found : Option TableAt) → HasTables c known → IsTableOf known name found → formats_found found ≡ formats_at (start c) name
formats_are c known name found has is = of found is ∙ sym (ap formats_in (has.named_alike name))
  where
    of : (o : Option TableAt) → IsTableOf known name o → formats_found o ≡ formats_in (named name known)
    of None none = sym (ap formats_in none)
    of (Some t) (u, at, there, formats) = formats ∙ sym (ap formats_in there)

-- of a word, as it is stored
module _ (c : Content) (known : List Table) (name word key : List ℕ) (found : Option TableAt) (has : HasTables c known) (is : IsTableOf known name found) (named_so : IsTrue (is_name name)) (stored : key ≡ stored_as (formats_found found).key word) (faults faults_now : ℕ) where
  same_key : key ≡ key_in c name word
  same_key = stored ∙ ap (λ (f : Formats). stored_as f.key word) (formats_are c known name found has is)

  abbrev Gives : Answer (List ℕ) → Type 0
  Gives answer = MayGive c name (key_in c name word) faults faults_now answer

  by_key : (answer : Answer (List ℕ)) → MayGive c name key faults faults_now answer → Gives answer
  by_key answer may = subst (λ (k : List ℕ). MayGive c name k faults faults_now answer) same_key may

  pub gives_long : KEY_MAX < length key → Gives (Refused (Refusal_Invalid (KeyLong (length key))))
  gives_long long = by_key (Refused (Refusal_Invalid (KeyLong (length key)))) (inl (sym (long_key c name key named_so long)))

  pub gives_no_table : length key ≤ KEY_MAX → found ≡ None → Gives (Refused NoTable)
  gives_no_table short none =
      let nowhere : named name known ≡ None = subst (λ (o : Option TableAt). IsTableOf known name o) none is in
      by_key (Refused NoTable) (inl (sym (no_table c name key named_so short (has.named_alike name ∙ nowhere))))

  module _ (short : length key ≤ KEY_MAX) (t : TableAt) (some : found ≡ Some t) where
    there : IsTableAt known name t
    there = subst (λ (o : Option TableAt). IsTableOf known name o) some is

    reaches : Reaches c name key there.0
    reaches = record { named_so = named_so; short = short; there = has.named_alike name ∙ there.2 }

    pub gives_value : (value : List ℕ) → ((u : Table) → slice_get known t.place ≡ Some u → Some value ≡ value_in c u.number key) → Gives (Value value)
    gives_value value so = by_key (Value value) (inl (sym (present c name key there.0 value reaches (sym (so there.0 there.1)))))

    pub gives_none : ((u : Table) → slice_get known t.place ≡ Some u → (let none : Option (List ℕ) = None in none) ≡ value_in c u.number key) → Gives (Refused NotFound)
    gives_none so = by_key (Refused NotFound) (inl (sym (absent c name key there.0 reaches (sym (so there.0 there.1)))))

    -- a leaf that is not read: the disk failed, memory was short, or the leaf is at fault
    pub gives_refused : (bytes : List ℕ) (h : Held) (known_so : Type 0) (r : Refusal) → tables_in h ≡ known → IsReaderOf bytes h → known_so → IsRefused (Rose faults faults_now) known_so (HasNoLeafOf bytes h t.place key) r → MayGiveOn c bytes name word faults faults_now (Err r)
    gives_refused bytes h known_so r same reader k (inl (why, rose)) = inl (by_key (Refused r) (inr (inr (ap (λ (x : Refusal). Refused x) why, rose, (there.0, reaches)))))
    gives_refused bytes h known_so r same reader k (inr (inl why)) = inl (by_key (Refused r) (inr (inl (ap (λ (x : Refusal). Refused x) why))))
    gives_refused bytes h known_so r same reader k (inr (inr (at, want, found_sum, why, damage))) =
        let on : IsTableOn bytes name = record {
          held = h;
          reader = reader;
          place = t.place;
          table = there.0;
          there = subst (λ (l : List Table). slice_get l t.place ≡ Some there.0) (sym same) there.1;
          is_named = subst (λ (l : List Table). named name l ≡ Some there.0) (sym same) there.2;
        } in
        let lacks : LacksLeafOf bytes name key at want found_sum = record { on = on; short = short; leaf = damage k } in
        inr (at, want, found_sum, ap (λ (x : Refusal). Err x) why, subst (λ (l : List ℕ). LacksLeafOf bytes name l at want found_sum) same_key lacks)
