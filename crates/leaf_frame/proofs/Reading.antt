-- A read by a chain and the row below it, as the model reads the key.
use Rattle.std.proofs.Common.{◌≡◌, ◌∙◌, ℕ, List, [], ◌∷◌, map, Option, Some, None, refl, sym, ap, subst, inl, inr}
use Rattle.std.proofs.lemmas.Bool.{cases_Bool}
use Rattle.std.proofs.lemmas.Option.{same_Some}
use Rattle.item.specs.declared.Change.{Change}
use Rattle.item.specs.declared.Change.TheVariants.{Put, Remove}
use Rattle.stamp.specs.declared.Version.{Version}
use Rattle.stamp.specs.declared.View.{View}
use Rattle.kv_model.specs.Holds.{Member}
use Rattle.kv_model.specs.History.{line, put_of}
use Rattle.kv_model.specs.Machine.{Machine, Transaction, name_of}
use Rattle.kv_model.specs.Pending.{KeyStands, TopStands, Update as ModelUpdate}
use Rattle.kv_model.specs.Reads.{ReadAnswer, Value}
use Rattle.kv_model.specs.StoreLaws.{Held}
use Rattle.kv_model.specs.Valid.{Valid}
use Rattle.update_chain.specs.Answers.{GoesOn, ViewStands, is_admitted as admitted_by, ReplyStands as ChainStands}
use Rattle.update_chain.specs.FrameLaws.{ViewsAdmit}
use Rattle.update_chain.specs.Updates.{Reply, Gives, IsRemoved, Conflicts, IsOlder, read_of, reply_of, update_in}
use Rattle.update_chain.proofs.Meeting.{below-cases}
use Rattle.update_chain.proofs.Reading.{part-within, reads-stand}
use Rattle.leaf_frame.specs.Looks.{is_admitted, or_below, reply_by_row}
use Rattle.leaf_frame.specs.ReadLaws.{HeldReadsStand, ReplyStands}

-- the row of a key that stands is of its line
row_stands : (m : Machine) (table : ℕ) (key : List ℕ) (chain : List ModelUpdate) (row : Option (Version Change)) (records : List (Version Change)) (v : Version Change) → KeyStands m table key chain row (Held records) → row ≡ Some v
    → Member v (line m.history table key)
row_stands m table key chain row records v k is = by k.top k.topped where
  under : Member v k.below
  under = k.stores.kept.within v (inl (inr is))

  by : (top : List ModelUpdate) → TopStands m table key top k.below → Member v (line m.history table key)
  by [] stands = subst (λ (l : List (Version Change)). Member v l) (sym stands.0) under
  by (u ∷ []) top = part-within (line m.history table key) k.below (below-cases top.transaction.phase (name_of m top.transaction) u (line m.history table key) k.below top.rest) v under
  by (u ∷ (w ∷ rest)) none = absurd none

change_stands : (m : Machine) (session : ℕ) (t : Transaction) (table : ℕ) (key : List ℕ) (records : List (Version Change)) (c : Change) → ReadAnswer m session t table key (Value (put_of c)) → ReplyStands m session t table key records (reply_of c)
change_stands m session t table key records (Put value) answer = answer
change_stands m session t table key records Remove answer = answer

-- where the chain gives nothing
by_row : ViewsAdmit → (m : Machine) (session : ℕ) (t : Transaction) (view : View) (table : ℕ) (key : List ℕ) (row : Option (Version Change)) (records : List (Version Change)) → Valid m → ViewStands m t view
    → ((v : Version Change) → row ≡ Some v → Member v (line m.history table key)) → GoesOn m session t table key row records → ReplyStands m session t table key records (reply_by_row view row)
by_row admit m session t view table key None records valid views at on = λ found picks. on.in_history (λ v e. absurd cc) found picks
by_row admit m session t view table key (Some v) records valid views at on =
    let same : is_admitted view v ≡ admitted_by m t v = admit m t view table key v valid views (at v refl) in
    elim (cases_Bool (is_admitted view v)) [
      | inl seen ↦ rw seen (change_stands m session t table key records v.change (on.in_cell v refl (sym same ∙ seen)))
      | inr unseen ↦ rw unseen (λ found picks. on.in_history (λ w e. ap (λ (x : Version Change). admitted_by m t x) (sym (same_Some v w e)) ∙ (sym same ∙ unseen)) found picks)
    ]

pub held_reads : ViewsAdmit → HeldReadsStand
held_reads admit m session t view table key chain row records valid there running views k = by (read_of view chain) (reads-stand m session t view table key chain row records valid there running views k).answers where
  by : (r : Reply) → ChainStands m session t table key row records r → ReplyStands m session t table key records (or_below r (reply_by_row view row))
  by (Gives value) answer = answer
  by IsRemoved answer = answer
  by (Conflicts id) answer = answer
  by IsOlder on = by_row admit m session t view table key row records valid views (λ v e. row_stands m table key (map update_in chain) row records v k e) on
