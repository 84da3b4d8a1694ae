-- The leaf that an entry leads to.
use Rattle.std.proofs.Common.{◌≡◌, ℕ, IsTrue, List, [], ◌∷◌, ◌++◌, Option, None, refl, sym, ◌∙◌, ap, subst, inl, inr}
use Rattle.std.specs.Prelude.{not, ◌==◌}
use Rattle.std.proofs.lemmas.Bool.{cases_Bool, eq-eqb, false≢true}
use Rattle.disk_model.specs.Ranges.{range}
use Rattle.wt_code.specs.declared.refusals.Refusal.{Refusal}
use Rattle.wt_code.specs.declared.refusals.Refusal.TheVariants.{Corrupt}
use Rattle.device_layout.specs.declared.link.Link.{Link}
use Rattle.row_page.specs.Rows.{Row, is_below}
use Rattle.row_page.proofs.Leaves.{one_page}
use Rattle.stored.specs.TableTree.{Entry, root_entry}
use Rattle.device_leaf.specs.Leaves.{LeafIs}
use Rattle.device_leaf.specs.Damage.{FoundNoLeaf}
use Rattle.device_leaf.specs.Openings.{LeafRefused}
use Rattle.device_leaf.proofs.Leaves.{page_there}
use Rattle.tree_open.specs.Damage.{Refused}
use Rattle.recover_open.specs.Leaves.{AreUnder, AreLeaves, RowsAre}
use Rattle.recover_open.specs.Damage.{EntrySpoils, LeavesSpoil}

-- a link leads to one leaf at most
pub one_leaf : (bytes : List ℕ) (link : Link) (p q : List Row) → LeafIs bytes link p → LeafIs bytes link q → p ≡ q
one_leaf bytes link p q is other = elim (cases_Bool (link.addr.offset == 0)) [
  | inl nowhere ↦ (is.bears.empty nowhere).1 ∙ sym (other.bears.empty nowhere).1
  | inr somewhere ↦
      let some : link.addr.offset ≡ 0 → ⊥ = λ zero. false≢true (sym somewhere ∙ eq-eqb link.addr.offset 0 zero) in
      let block : List ℕ = range bytes link.addr.offset link.addr.size in
      one_page block p q (page_there bytes block link p some refl is).page (page_there bytes block link q some refl other).page
]

-- ---- where it is refused

leaf_spoils : (bytes : List ℕ) (e : Entry) (next : Option (List ℕ)) (found : ℕ) → FoundNoLeaf bytes e.link found → EntrySpoils bytes e next e.link.addr.offset e.link.addr.sum found
leaf_spoils bytes e next found none = record { none = λ rows is. none.0 rows is.leaf; place = refl; sum = refl; why = none.1 }

refused_here : (fault known : Type 0) (bytes : List ℕ) (e : Entry) (next : Option (List ℕ)) (r : Refusal) → LeafRefused fault known bytes e.link r → Refused fault known (EntrySpoils bytes e next) r
refused_here fault known bytes e next r (inl failed) = inl failed
refused_here fault known bytes e next r (inr (inl none)) = inr (inl none)
refused_here fault known bytes e next r (inr (inr (found, is, why))) = inr (inr (e.link.addr.offset, e.link.addr.sum, found, is, λ h. leaf_spoils bytes e next found (why h)))

pub leaf_refused : (fault known : Type 0) (bytes : List ℕ) (link : Link) (e : Entry) (next : Option (List ℕ)) (r : Refusal) → link ≡ e.link → LeafRefused fault known bytes link r → Refused fault known (EntrySpoils bytes e next) r
leaf_refused fault known bytes link e next r same refused = refused_here fault known bytes e next r (subst (λ (l : Link). LeafRefused fault known bytes l r) same refused)

-- a leaf of other keys
pub keys_refused : (fault known : Type 0) (bytes : List ℕ) (link : Link) (e : Entry) (next : Option (List ℕ)) (rows : List Row) (r : Refusal) → link ≡ e.link → (known → LeafIs bytes link rows) → (AreUnder e next rows → ⊥) → r ≡ Corrupt link.addr.offset link.addr.sum link.addr.sum
    → Refused fault known (EntrySpoils bytes e next) r
keys_refused fault known bytes link e next rows r same there none is =
    inr (inr (
      e.link.addr.offset,
      e.link.addr.sum,
      e.link.addr.sum,
      is ∙ ap (λ (l : Link). Corrupt l.addr.offset l.addr.sum l.addr.sum) same,
      λ h. record {
        none = λ others under. none (subst (λ (l : List Row). AreUnder e next l) (one_leaf bytes e.link others rows under.leaf (subst (λ (l : Link). LeafIs bytes l rows) same (there h))) under.keys);
        place = refl;
        sum = refl;
        why = inr refl;
      },
    ))

-- ---- an only leaf

-- any key may stand in it
pub under_root : (link : Link) (rows : List Row) → AreUnder (root_entry link) None rows
under_root link [] = tt
under_root link (r ∷ rows) = ((above r.0, refl), under_root link rows)
  where
    above : (key : List ℕ) → IsTrue (not (is_below key []))
    above [] = refl
    above (k ∷ key) = refl

append_nothing : (l : List Row) → l ++ [] ≡ l
append_nothing [] = refl
append_nothing (x ∷ l) = ap (λ (m : List Row). x ∷ m) (append_nothing l)

pub only_rows : (bytes : List ℕ) (es : List Entry) (link : Link) (rows : List Row) → es ≡ root_entry link ∷ [] → LeafIs bytes link rows → RowsAre bytes es rows
only_rows bytes es link rows alone leaf = record {
  leaves = rows ∷ [];
  are = subst (λ (l : List Entry). AreLeaves bytes l None (rows ∷ [])) (sym alone) (record { leaf = leaf; keys = under_root link rows }, tt);
  joined = sym (append_nothing rows);
}

pub only_refused : (fault known : Type 0) (bytes : List ℕ) (es : List Entry) (link : Link) (r : Refusal) → es ≡ root_entry link ∷ [] → LeafRefused fault known bytes link r → Refused fault known (LeavesSpoil bytes es) r
only_refused fault known bytes es link r alone (inl failed) = inl failed
only_refused fault known bytes es link r alone (inr (inl none)) = inr (inl none)
only_refused fault known bytes es link r alone (inr (inr (found, is, why))) =
    inr (inr (
      link.addr.offset,
      link.addr.sum,
      found,
      is,
      λ h. record {
        front = [];
        entry = root_entry link;
        others = [];
        is = alone;
        leaves = [];
        before = tt;
        leaf = leaf_spoils bytes (root_entry link) None found (why h);
      },
    ))
