-- The images of entries: what holds of all of them holds of the image of each.
use Rattle.std.specs.Prelude.{not, IsTrue, List, [], ◌∷◌, map, None, refl}
use Rattle.std.proofs.Common.{inl, inr, sym, subst}
use Rattle.kv_model.specs.Holds.{Member}
use Rattle.leaf_rows.specs.Rows.{AreFit}
use Rattle.leaf_rows.proofs.Places.{front_fit}
use Rattle.reconcile.proofs.Cutting.{others_fit}
use Rattle.row_page.specs.Rows.{Row, is_below}
use Rattle.stored.specs.TableTree.{Climbs, Entry, Stay, ends_below, first_key}
use Rattle.stored.specs.Tree.{join}
use Rattle.tree_write.specs.Drafts.{AreFrom}
use Rattle.ckpt_step.proofs.OrderedByName.{all_map}

pub climbs_later : (e : Entry) (es : List Entry) → Climbs (e ∷ es) → Climbs es
climbs_later e [] climbs = tt
climbs_later e (f ∷ es) climbs = climbs.1

-- ---- the rows of one image

pub image_fits : (images : List (List Row)) (rows : List Row) → AreFit (join images) → Member rows images → AreFit rows
image_fits [] rows fit there = absurd there
image_fits (first ∷ images) rows fit (inl same) = subst AreFit (sym same) (front_fit first (join images) fit)
image_fits (first ∷ images) rows fit (inr later) = image_fits images rows (others_fit first (join images) fit) later

-- ---- between keys

-- rows from an entry's key on stay with it alone: nothing ends them
pub stays_alone : (e : Entry) (rows : List Row) → AreFrom e.key rows → Stay (e ∷ []) (rows ∷ [])
stays_alone e rows from = (all_map (λ (r : Row). IsTrue (not (is_below r.0 e.key))) (λ (r : Row). IsTrue (not (is_below r.0 e.key)) × IsTrue (ends_below None r.0)) rows from (λ r is. (is, refl)), tt)

module _ (rows_of : Entry → List Row) where
  -- the rows of an entry are from its key on
  pub image_from : (es : List Entry) (e : Entry) → Stay es (map rows_of es) → Member e es → AreFrom e.key (rows_of e)
  image_from [] e stay there = absurd there
  image_from (first ∷ es) e stay (inl same) =
      subst (λ (x : Entry). AreFrom x.key (rows_of x)) (sym same)
      (all_map (λ (r : Row). IsTrue (not (is_below r.0 first.key)) × IsTrue (ends_below (first_key es) r.0)) (λ (r : Row). IsTrue (not (is_below r.0 first.key))) (rows_of first) stay.0 (λ r is. is.0))
  image_from (first ∷ es) e stay (inr later) = image_from es e stay.1 later
