-- A leaf that is checked where its entry leads.
use Rattle.std.proofs.Common.{◌≡◌, ℕ, ◌-◌, Bool, IsTrue, List, [], ◌∷◌, length, Option, Some, None, refl, sym, ◌∙◌, ap, subst, inl, inr, arith}
use Rattle.std.specs.Prelude.{not}
use Rattle.std.specs.List.{slice_get}
use Rattle.std.proofs.lemmas.Bool.{eq-eqb}
use Rattle.disk_model.specs.Ranges.{range}
use Rattle.wt_code.specs.declared.refusals.Refusal.{Refusal}
use Rattle.wt_code.specs.declared.refusals.Refusal.TheVariants.{Corrupt}
use Rattle.device_layout.specs.declared.link.Link.{Link}
use Rattle.block_mgr.specs.Places.{IsThere}
use Rattle.row_page.specs.Rows.{Row, IsPage, Ascends, is_below}
use Rattle.row_page.specs.Views.{HasKeyAt}
use Rattle.row_page.proofs.Leaves.{one_page}
use Rattle.stored.specs.Links.{nowhere}
use Rattle.stored.specs.TableTree.{Entry}
use Rattle.device_leaf.specs.Leaves.{LeafIs, PageIs}
use Rattle.device_leaf.proofs.Leaves.{page_there, leaf_of_page}
use Rattle.device_leaf.proofs.Opens.{range_length}
use Rattle.tree_open.specs.Damage.{Refused}
use Rattle.recover_open.specs.Leaves.{IsFrom, IsUpTo}
use Rattle.recover_open.specs.Damage.{EntrySpoils}
use Rattle.recover_open.specs.Tallies.{HasLeaf, IsLeafOf, SpellsLeaf, RefusesLeaf}
use Rattle.recover_open.proofs.Keys.{first_tells, last_tells}

-- ---- a leaf that stands nowhere

nowhere_leaf : (bytes : List ℕ) → LeafIs bytes nowhere []
nowhere_leaf bytes = record {
  bears = record { leaf = record { fit = tt; ascend = tt; size = omega arith }; empty = λ is. (refl, refl); says = record { greatest = refl; durable = refl } };
  addressed = tt;
  holds = tt;
}

pub nothing_there : (bytes : List ℕ) (e : Entry) (next : Option (List ℕ)) (link : Link) → link ≡ e.link → link ≡ nowhere → HasLeaf bytes e next 0
nothing_there bytes e next link same none = ([], record { leaf = subst (λ (l : Link). LeafIs bytes l []) (sym none ∙ same) (nowhere_leaf bytes); keys = tt }, refl)

pub nowhere_refused : (fault known : Type 0) (bytes : List ℕ) (link : Link) (e : Entry) (next : Option (List ℕ)) (r : Refusal) → link ≡ e.link → link.addr.offset ≡ 0 → (link ≡ nowhere → ⊥) → r ≡ Corrupt link.addr.offset link.addr.sum link.addr.sum → Refused fault known (EntrySpoils bytes e next) r
nowhere_refused fault known bytes link e next r same zero some is =
    inr (inr (
      e.link.addr.offset,
      e.link.addr.sum,
      e.link.addr.sum,
      is ∙ ap (λ (l : Link). Corrupt l.addr.offset l.addr.sum l.addr.sum) same,
      λ h. record {
        none = λ rows under. some (same ∙ (under.leaf.bears.empty (eq-eqb e.link.addr.offset 0 (ap (λ (l : Link). l.addr.offset) (sym same) ∙ zero))).0);
        place = refl;
        sum = refl;
        why = inr refl;
      },
    ))

-- ---- a leaf that is stored

module _ (bytes block : List ℕ) (link : Link) (e : Entry) (next : Option (List ℕ)) (same : link ≡ e.link) (some : link.addr.offset ≡ 0 → ⊥) where
  stored : e.link.addr.offset ≡ 0 → ⊥
  stored zero = some (ap (λ (l : Link). l.addr.offset) same ∙ zero)

  here : IsThere bytes link.addr × (block ≡ range bytes link.addr.offset link.addr.size) → IsThere bytes e.link.addr × (block ≡ range bytes e.link.addr.offset e.link.addr.size)
  here there = subst (λ (l : Link). IsThere bytes l.addr × (block ≡ range bytes l.addr.offset l.addr.size)) same there

  pub leaf_there : (n : ℕ) → IsThere bytes link.addr × (block ≡ range bytes link.addr.offset link.addr.size) → SpellsLeaf block e next n → HasLeaf bytes e next n
  leaf_there n there spells =
      let at = here there in
      let rows : List Row = spells.0 in
      let page : PageIs block e.link rows = record { page = spells.1; says = spells.2.says } in
      let long : length block ≡ e.link.addr.size = ap (λ (l : List ℕ). length l) at.1 ∙ range_length bytes e.link.addr.offset e.link.addr.size at.0.within in
      (rows, record { leaf = leaf_of_page bytes block e.link rows stored at.0 at.1 long page; keys = spells.2.keys }, spells.3)

  pub block_refused : (fault known : Type 0) (r : Refusal) → (known → IsThere bytes link.addr × (block ≡ range bytes link.addr.offset link.addr.size)) → RefusesLeaf block e next r → Refused fault known (EntrySpoils bytes e next) r
  block_refused fault known r there (inl none) = inr (inl none)
  block_refused fault known r there (inr (is, none)) =
      inr (inr (
        e.link.addr.offset,
        e.link.addr.sum,
        e.link.addr.sum,
        is,
        λ h. record {
          none = λ rows under. let page = page_there bytes block e.link rows stored (here (there h)).1 under.leaf in none rows page.page (record { says = page.says; keys = under.keys });
          place = refl;
          sum = refl;
          why = inr refl;
        },
      ))

-- no other rows than those that the block spells
pub other_leaf : (block : List ℕ) (e : Entry) (next : Option (List ℕ)) (rows others : List Row) → IsPage block rows → (IsLeafOf e next rows → ⊥) → IsPage block others → IsLeafOf e next others → ⊥
other_leaf block e next rows others page none other is = none (subst (λ (l : List Row). IsLeafOf e next l) (one_page block others rows other page) is)

-- ---- the first and the last key

pub none_from : (least : List ℕ) (rows : List Row) → length rows ≡ 0 → IsFrom least rows
none_from least [] none = tt
none_from least (r ∷ rows) none = absurd (omega (arith, none))

pub none_up_to : (next : Option (List ℕ)) (rows : List Row) → length rows ≡ 0 → IsUpTo next rows
none_up_to next [] none = tt
none_up_to next (r ∷ rows) none = absurd (omega (arith, none))

pub first_key_tells : (least key : List ℕ) (rows : List Row) (b : Bool) → Ascends None rows → HasKeyAt rows key 0 → b ≡ not (is_below key least) → (IsTrue b → IsFrom least rows) × (IsFrom least rows → IsTrue b)
first_key_tells least key rows b ascend has told = first_tells least key rows has.0 b ascend (sym has.1) (sym has.2) told

pub last_key_tells : (next key : List ℕ) (rows : List Row) (i : ℕ) (b : Bool) → Ascends None rows → HasKeyAt rows key i → i ≡ length rows - 1 → b ≡ is_below key next → (IsTrue b → IsUpTo (Some next) rows) × (IsUpTo (Some next) rows → IsTrue b)
last_key_tells next key rows i b ascend has at told = last_tells next key rows has.0 b ascend (sym has.1 ∙ ap (λ (n : ℕ). slice_get rows n) at) (sym has.2) told
