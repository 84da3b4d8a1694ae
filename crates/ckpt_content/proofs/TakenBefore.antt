-- A row that was taken before the finish.
use Rattle.std.proofs.Common.{◌≡◌, ◌∙◌, Some, refl, sym, ap, subst, inl, inr}
use Rattle.item.specs.declared.Change.{Change}
use Rattle.stamp.specs.declared.Version.{Version}
use Rattle.kv_model.specs.Captures.{UpTo}
use Rattle.kv_model.specs.Ordered.{Older}
use Rattle.kv_model.proofs.Finishing.{older-order}
use Rattle.ckpt_content.specs.Laws.{TakenBeforeServes}

-- each of two versions is up to the other
up_both_ways : (v w : Version Change) → UpTo Older v w → UpTo Older w v → v ≡ w
up_both_ways v w (inl same) back = same
up_both_ways v w (inr above) (inl same) = sym same
up_both_ways v w (inr above) (inr below) = absurd (older-order.asym v w above below)

pub taken_before_serves : TakenBeforeServes
taken_before_serves m c table key cell before versions held there top under = record {
  cell_there = there;
  within = held.within;
  all = λ v at sees. elim (held.all v at sees) [
    | inl kept ↦ elim kept [
      | inl is ↦ (let y = top v at sees in inl (inl (y.1 ∙ ap (λ (x : Version Change). Some x) (up_both_ways y.0 v (under y.0 v y.1 is) y.2))))
      | inr older ↦ inl (inr older)
    ]
    | inr covered ↦ inr covered
  ];
  top = top;
}
