-- Where the newest version of each key suffices, no records are needed.
use Rattle.std.proofs.Common.{◌≡◌, ℕ, Bool, true, List, [], ◌∷◌, length, Some, refl, sym, ap, subst, inl, inr}
use Rattle.std.specs.Option.{option_to_list}
use Rattle.std.proofs.lemmas.Bool.{and_from, cases_Bool}
use Rattle.item.specs.declared.Change.{Change}
use Rattle.stamp.specs.declared.Version.{Version}
use Rattle.kv_model.specs.AgreementLaws.{head_of}
use Rattle.kv_model.specs.Captures.{Captured, is_in}
use Rattle.kv_model.specs.Holds.{Descends, Member}
use Rattle.kv_model.specs.History.{core, is_by, line}
use Rattle.kv_model.specs.Ordered.{Older}
use Rattle.kv_model.specs.StoreLaws.{Held}
use Rattle.kv_model.proofs.Finishing.{line-committed}
use Rattle.kv_model.proofs.Ordering.{line-descends}
use Rattle.reconcile.proofs.CaptureSifting.{alone}
use Rattle.ckpt_content.specs.Laws.{EmptyHistoriesServe}
use Rattle.ckpt_content.proofs.Descents.{head_member}

-- what is older than the newest is covered by it, or is not there
newest_captured : (seen : Version Change → Bool) (oldest : ℕ) (l : List (Version Change)) → Descends Older l → ((v : Version Change) → Member v l → seen v ≡ true) → core oldest l ≡ option_to_list (head_of l)
    → Captured Older seen (is_by oldest) l (head_of l) (Held [])
newest_captured seen oldest [] down sees reached = record { cell_there = λ v is. absurd cc; within = λ v held. absurd held; all = λ v there. absurd there; top = λ v there. absurd there }
newest_captured seen oldest (n ∷ older) down sees reached = record {
  cell_there = λ v is. head_member v (n ∷ older) is;
  within = λ v held. absurd held;
  all = λ v there is. elim there [
    | inl same ↦ inl (inl (ap Some (sym same)))
    | inr later ↦ elim (cases_Bool (is_by oldest n)) [
      | inl low ↦ inr (record { by = n; there = inl refl; above = down.0 v later; is_cover = and_from (seen n) (is_by oldest n) (sees n (inl refl)) low })
      | inr late ↦ absurd (subst (λ (l : List (Version Change)). Member v l) (alone oldest n older late reached) later)
    ]
  ];
  top = λ v there is. (n, refl, elim there [ inl same ↦ inl same | inr later ↦ inr (down.0 v later) ]);
}

pub empty_histories_serve : EmptyHistoriesServe
empty_histories_serve m valid suffice = record {
  older = λ t there key. newest_captured (is_in m.history (length m.history)) m.oldest (line m.history t.number key) (line-descends m.history valid.orderly t.number key)
      (line-committed m.history t.number key) (suffice t there key).reached;
  known = λ r there. absurd there;
}
