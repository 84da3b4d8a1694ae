-- Leaves that were written since, over what goes on.
use Rattle.std.proofs.Common.{◌≡◌, ◌⊎◌, ◌∙◌, ℕ, zero, suc, false, List, [], ◌∷◌, Some, refl, ap, sym, subst, inl, inr}
use Rattle.std.specs.Prelude.{slice_get}
use Rattle.std.proofs.lemmas.Bool.{cases_eq}
use Rattle.engine.specs.Directories.{LeafGoesOn, LeavesGoOn}
use Rattle.kv_model.specs.History.{Table}
use Rattle.kv_model.specs.Holds.{Member}
use Rattle.row_page.specs.Rows.{Row}
use Rattle.stored.specs.TableTree.{Entry}
use Rattle.tree_dir.specs.declared.leaf.Leaf.{Leaf}
use Rattle.tree_dir.specs.Leaves.{leaves_of}
use Rattle.tree_write.specs.Drafts.{HasLeaves}
use Rattle.ckpt_step.specs.Floors.{IsOnDevice}
use Rattle.ckpt_step.specs.Lives.{NoneLive, is_live}
use Rattle.ckpt_step.specs.Parts.{IsPart}
use Rattle.ckpt_step.specs.declared.lives.Lone.{Lone}
use Rattle.ckpt_step.proofs.Lones.{live_alike}
use Rattle.ckpt_step.proofs.Members.{none_some, some_same}
use Rattle.ckpt_step.proofs.TableLeaves.{contains_of, in_table, member_of, table_in}

pub live_on : (lives : List Lone) (l n : Leaf) → LeafGoesOn l n → is_live lives n ≡ is_live lives l
live_on lives l n goes = live_alike lives l n goes.id goes.entry

-- ---- where none of the leaves is one, none was, and none will be

none_then : (lives : List Lone) (ls ns : List Leaf) → LeavesGoOn ls ns → ((n : Leaf) → Member n ns → is_live lives n ≡ false) → (l : Leaf) → Member l ls → is_live lives l ≡ false
none_then lives [] ns go none l there = absurd there
none_then lives (x ∷ ls) [] go none l there = absurd go
none_then lives (x ∷ ls) (y ∷ ns) go none l (inl same) = subst (λ (z : Leaf). is_live lives z ≡ false) (sym same) (sym (live_on lives x y go.0) ∙ none y (inl refl))
none_then lives (x ∷ ls) (y ∷ ns) go none l (inr later) = none_then lives ls ns go.1 (λ n there. none n (inr there)) l later

none_now : (lives : List Lone) (ls ns : List Leaf) → LeavesGoOn ls ns → ((l : Leaf) → Member l ls → is_live lives l ≡ false) → (n : Leaf) → Member n ns → is_live lives n ≡ false
none_now lives [] [] go none n there = absurd there
none_now lives [] (y ∷ ns) go none n there = absurd go
none_now lives (x ∷ ls) [] go none n there = absurd go
none_now lives (x ∷ ls) (y ∷ ns) go none n (inl same) = subst (λ (z : Leaf). is_live lives z ≡ false) (sym same) (live_on lives x y go.0 ∙ none x (inl refl))
none_now lives (x ∷ ls) (y ∷ ns) go none n (inr later) = none_now lives ls ns go.1 (λ l there. none l (inr there)) n later

in_table_of : (lives : List Lone) (leaves : List Leaf) (table : ℕ) → NoneLive lives leaves table → (l : Leaf) → Member l (leaves_of table leaves) → is_live lives l ≡ false
in_table_of lives leaves table none l there = let one = in_table table leaves l there in none l (contains_of leaves l one.0) one.1

pub none_live_then : (lives : List Lone) (leaves next : List Leaf) (table : ℕ) → LeavesGoOn (leaves_of table leaves) (leaves_of table next) → NoneLive lives next table → NoneLive lives leaves table
none_live_then lives leaves next table go none l there own = none_then lives (leaves_of table leaves) (leaves_of table next) go (in_table_of lives next table none) l (table_in table leaves l (member_of leaves l there) own)

pub none_live_now : (lives : List Lone) (leaves next : List Leaf) (table : ℕ) → LeavesGoOn (leaves_of table leaves) (leaves_of table next) → NoneLive lives leaves table → NoneLive lives next table
none_live_now lives leaves next table go none n there own = none_now lives (leaves_of table leaves) (leaves_of table next) go (in_table_of lives leaves table none) n (table_in table next n (member_of next n there) own)

-- ---- the table of a leaf is one of these, or none of them

pub record IsKnown (known : List Table) (number : ℕ) : Type 0 where
  pub place : ℕ
  pub table : Table
  pub at : slice_get known place ≡ Some table
  pub is : number ≡ table.number

pub known_or_not : (known : List Table) (number : ℕ) → IsKnown known number ⊎ ((i : ℕ) (t : Table) → slice_get known i ≡ Some t → number ≡ t.number → ⊥)
known_or_not [] number = inr (λ i t at. absurd (none_some at))
known_or_not (x ∷ known) number = elim (cases_eq number x.number) [
  | inl same ↦ inl (record { place = zero; table = x; at = refl; is = same })
  | inr other ↦ elim (known_or_not known number) [
    | inl later ↦ inl (record { place = suc later.place; table = later.table; at = later.at; is = later.is })
    | inr none ↦ inr (neither other none)
  ]
]
  where
    neither : (number ≡ x.number → ⊥) → ((i : ℕ) (t : Table) → slice_get known i ≡ Some t → number ≡ t.number → ⊥) → (i : ℕ) (t : Table) → slice_get (x ∷ known) i ≡ Some t → number ≡ t.number → ⊥
    neither other none zero t at is = other (is ∙ ap (λ (u : Table). u.number) (sym (some_same at)))
    neither other none (suc i) t at is = none i t at is

-- ---- on the device

-- what a leaf of the same id and entry has there
pub on_device : (seen : List ℕ) (leaves next : List Leaf) (shelf : ℕ → List Row) (l n : Leaf) → n.id ≡ l.id → n.entry ≡ l.entry → n.table ≡ l.table
    → (IsPart leaves l.table l (l.entry ∷ []) (shelf l.id ∷ []) → IsPart next l.table n (l.entry ∷ []) (shelf l.id ∷ [])) → IsOnDevice seen leaves shelf l → IsOnDevice seen next shelf n
on_device seen leaves next shelf l n id entry table part was = record {
  is = from (λ k e t. IsPart next t n (e ∷ []) (shelf k ∷ [])) (part was.is);
  on = from (λ k e t. HasLeaves seen (e ∷ []) (shelf k ∷ [])) was.on;
} where
  from : (P : ℕ → Entry → ℕ → Type 0) → P l.id l.entry l.table → P n.id n.entry n.table
  from P made = subst (λ (k : ℕ). P k n.entry n.table) (sym id) (subst (λ (e : Entry). P l.id e n.table) (sym entry) (subst (λ (t : ℕ). P l.id l.entry t) (sym table) made))
