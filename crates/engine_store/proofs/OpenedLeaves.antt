-- A leaf that comes in as an opening keeps it: the rows that it keeps, and what is kept of the history.
use Rattle.std.proofs.Common.{◌≡◌, ◌≤◌, ℕ, List, [], ◌∷◌, ◌++◌, length, Option, Some, None, refl, sym, ap, subst, ◌∙◌, inl, inr}
use Rattle.std.specs.Prelude.{true, false, is_some}
use Rattle.std.specs.Option.{option_to_list}
use Rattle.std.proofs.lemmas.Bool.{cases_Bool, false≢true}
use Rattle.std.proofs.lemmas.List.{append-nil}
use Rattle.item.specs.declared.Change.{Change}
use Rattle.stamp.specs.declared.Version.{Version}
use Rattle.kv_model.specs.History.{name_eq}
use Rattle.kv_model.specs.Holds.{Descends}
use Rattle.kv_model.specs.Machine.{of_some}
use Rattle.kv_model.specs.Ordered.{Older}
use Rattle.row_page.specs.Rows.{Row}
use Rattle.reconcile.specs.Shows.{shown_at}
use Rattle.leaf_frame.specs.Leaf.{HeldLeaf}
use Rattle.leaf_load.specs.Loads.{OneIsLoaded}
use Rattle.leaf_rows.specs.declared.marks.Marks.{Marks}
use Rattle.reconcile.specs.declared.image.Moved.{Moved}
use Rattle.reconcile.specs.Moving.{versions_in}
use Rattle.tree_dir.specs.declared.leaf.Leaf.{Leaf}
use Rattle.tree_dir.specs.Leaves.{Directory, leaf_named}
use Rattle.engine_world.specs.Coming.{ComesFrom}
use Rattle.evict_step.specs.Backs.{AreNewestFirst, is_again, unlike}
use Rattle.evict_step.specs.Kept.{Lists, but_rows, list_of, records_in}
use Rattle.evict_step.proofs.Again.{again_rows}
use Rattle.kept_open.specs.Laws.{OpenedRowsReturn}
use Rattle.kept_open.specs.Opening.{first_rows, opened_rows, shows}
use Rattle.engine_store.specs.Loads.{IsReadAs}
use Rattle.engine_store.specs.Marked.{IsLeafKept}
use Rattle.engine_store.proofs.LoadedPages.{page_kept}

-- its rows are on the shelf, with the first versions of the other keys; and what is kept of a key is newest first
pub page_opened : OneIsLoaded → (bytes : List ℕ) (dir : Directory) (id : ℕ) (marks : Marks) (ids : List ℕ) (lists : Lists) (held : HeldLeaf) (shelf : ℕ → List Row) → IsReadAs bytes dir id marks ids held → (l : Leaf) → leaf_named id dir.leaves ≡ Some l → l.id ≡ id → IsLeafKept bytes dir marks ids lists shelf l
    → (shelf id ≡ opened_rows held.page (list_of lists id)) × ((key : List ℕ) → Descends Older (records_in lists id key))
page_opened one bytes dir id marks ids lists held shelf read l named is its = (
  ap shelf (sym is) ∙ (its.opened ∙ (ap (λ (rows : List Row). opened_rows rows (list_of lists l.id)) (sym (page_kept one bytes dir id marks ids held l its.rows read named its.under.leaf)) ∙ ap (λ (n : ℕ). opened_rows held.page (list_of lists n)) is)),
  λ key. subst (λ (n : ℕ). Descends Older (records_in lists n key)) is (its.falls key),
)

-- where each version that is kept has the name of a row, these are the rows of the block
all_rows : (rows : List Row) (list : List Moved) → unlike rows list ≡ [] → opened_rows rows list ≡ rows
all_rows rows list none = ap (λ (l : List Row). rows ++ l) (no_first list none) ∙ append-nil rows
  where
    shown : (o : Option (Version Change)) (v : Version Change) → of_some false (λ (x : Version Change). name_eq x.window.name v.window.name) o ≡ true → is_some o ≡ true
    shown None v again = absurd (false≢true again)
    shown (Some x) v again = refl

    no_first : (some : List Moved) → unlike rows some ≡ [] → first_rows rows some ≡ []
    no_first [] none = refl
    no_first (m ∷ some) none = elim (cases_Bool (is_again rows m)) [
      | inl again ↦
          let rest : unlike rows some ≡ [] = rw again at none in
          let there : shows rows m.key ≡ true = shown (shown_at m.key rows) m.version again in
          rw there (no_first some rest)
      | inr isnt ↦ absurd (let clash : m ∷ unlike rows some ≡ [] = rw isnt at none in cc)
    ]

-- what comes of the rows that are kept comes of those on the shelf
pub opened_comes : OpenedRowsReturn → (rows : List Row) (list : List Moved) (shelf : List Row) (held : HeldLeaf) → shelf ≡ opened_rows rows list → ((key : List ℕ) → Descends Older (versions_in key list)) → AreNewestFirst shelf (but_rows shelf list)
    → (AreNewestFirst rows (unlike rows list) → ComesFrom held rows (λ key. versions_in key (unlike rows list))) → (AreNewestFirst rows (unlike rows list) → 1 ≤ length held.page → unlike rows list ≡ []) → ComesFrom held shelf (λ key. versions_in key (but_rows shelf list))
opened_comes law rows list shelf held is falls first comes alone = record {
  held = λ key. from.held key ∙ back key;
  unmarked = from.unmarked;
  lies = λ some. from.lies some ∙ (sym (all_rows rows list (alone own some)) ∙ sym is);
}
  where
    same : unlike shelf list ≡ but_rows shelf list
    same = again_rows shelf list first

    back : (key : List ℕ) → option_to_list (shown_at key rows) ++ versions_in key (unlike rows list) ≡ option_to_list (shown_at key shelf) ++ versions_in key (but_rows shelf list)
    back key =
        law rows list key (falls key)
        ∙ (ap (λ (all : List Row). option_to_list (shown_at key all) ++ versions_in key (unlike all list)) (sym is) ∙ ap (λ (l : List Moved). option_to_list (shown_at key shelf) ++ versions_in key l) same)

    own : AreNewestFirst rows (unlike rows list)
    own key = subst (λ (vs : List (Version Change)). Descends Older vs) (sym (back key)) (first key)

    from : ComesFrom held rows (λ key. versions_in key (unlike rows list))
    from = comes own
