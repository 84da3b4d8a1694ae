-- A table that has leaves is there under its name.
use Rattle.std.proofs.Common.{◌≡◌, ℕ, zero, suc, refl, ap, sym, ◌∙◌, List, [], ◌∷◌, inl, inr, subst}
use Rattle.std.specs.Prelude.{Some, None, bytes_eq, slice_get}
use Rattle.std.specs.List.{Contains}
use Rattle.std.proofs.lemmas.Bool.{cases_Bool}
use Rattle.std.proofs.lemmas.Option.{none-some, same_Some}
use Rattle.kv_model.specs.History.{Table, named, tables}
use Rattle.catalog.specs.Known.{AreDistinct}
use Rattle.catalog.proofs.Turning.{turn_named}
use Rattle.leaf_chains.proofs.Changes.{key_self, same_key}
use Rattle.tree_dir.specs.declared.leaf.Leaf.{Leaf}
use Rattle.engine_world.specs.Stands.{Engine, Stands}
use Rattle.engine_world.specs.Worlds.{World}
use Rattle.engine.specs.Reads.{IsNameOf}

here-named : (t : Table) (later : List Table) → named t.name (t ∷ later) ≡ Some t
here-named t later = rw (key_self t.name) refl

-- where the names differ, each table is found by its own
own-named : (known : List Table) (place : ℕ) (t : Table) → AreDistinct known → slice_get known place ≡ Some t → named t.name known ≡ Some t
own-named [] place t differ at = absurd (none-some t at)
own-named (u ∷ later) zero t differ at = subst (λ (x : Table). named t.name (x ∷ later) ≡ Some t) (sym (same_Some u t at)) (here-named t later)
own-named (u ∷ later) (suc n) t differ at = elim (cases_Bool (bytes_eq u.name t.name)) [
  | inl same ↦ absurd (none-some t (sym (subst (λ (x : List ℕ). named x later ≡ None) (same_key u.name t.name same) differ.0) ∙ own-named later n t differ.1 at))
  | inr other ↦ rw other (own-named later n t differ.1 at)
]

pub a-name : (e : Engine) (w : World) (l : Leaf) → Stands e w → Contains e.hub.dir.leaves l → (name : List ℕ) × IsNameOf (tables w.machine.history) l.table name
a-name e w l st there = let owner = st.owned l there in let t = owner.1 in
    (t.name, inl (t, ap (named t.name) (sym st.made) ∙ (turn_named e.hub.tables.tables st.catalog.distinct t.name ∙ own-named e.hub.tables.tables owner.0 t st.catalog.distinct owner.2), sym owner.3))
