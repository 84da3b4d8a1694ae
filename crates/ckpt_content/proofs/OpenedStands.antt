-- A key of a leaf that an opening makes stands, with the older versions as its history.
use Rattle.std.proofs.Common.{◌≡◌, ◌∙◌, List, [], ◌∷◌, Some, refl, sym, subst, inl, inr}
use Rattle.item.specs.declared.Change.{Change}
use Rattle.stamp.specs.declared.Version.{Version}
use Rattle.kv_model.specs.AgreementLaws.{head_of}
use Rattle.kv_model.specs.Captures.{In, UpTo}
use Rattle.kv_model.specs.Content.{base, start}
use Rattle.kv_model.specs.Droppable.{covers}
use Rattle.kv_model.specs.Holds.{Descends, Member, Stores}
use Rattle.kv_model.specs.History.{line}
use Rattle.kv_model.specs.Ordered.{Older}
use Rattle.kv_model.specs.Pending.{NoneHolds}
use Rattle.kv_model.specs.StoreLaws.{Held}
use Rattle.kv_model.proofs.Finishing.{older-order}
use Rattle.kv_model.proofs.Opening.{no-seat, start-valid}
use Rattle.kv_model.proofs.Ordering.{line-descends}
use Rattle.kv_model.proofs.ReconciledKeys.{resting-key}
use Rattle.ckpt_content.specs.Laws.{KeptAreBelow, OpenedKeysStand}
use Rattle.ckpt_content.proofs.Descents.{head_member}
use Rattle.ckpt_content.proofs.OpenedKeys.{opened_lines}

pub kept_are_below : KeptAreBelow
kept_are_below c table key versions regular layered has are =
    let l = opened_lines c table key regular layered has in
    record {
      within = λ v at. l.into v (inr (are.from v at));
      all = λ v there. elim (l.from v there) [ inl cell ↦ inl (l.newest v cell.0 cell.1) | inr at ↦ inr (are.into v at) ];
    }

-- each is up to the newest
under_head : (l : List (Version Change)) → Descends Older l → (v : Version Change) → Member v l → (n : Version Change) × In (head_of l) n × UpTo Older v n
under_head [] down v there = absurd there
under_head (n ∷ older) down v (inl same) = (n, refl, inl same)
under_head (n ∷ older) down v (inr later) = (n, refl, inr (down.0 v later))

none_over : (l : List (Version Change)) → Descends Older l → (n v : Version Change) → In (head_of l) n → Member v l → Older n v → ⊥
none_over l down n v is there above =
    let u = under_head l down v there in
    let same : u.0 ≡ n = let e : Some u.0 ≡ Some n = sym u.1 ∙ is in cc in
    elim u.2 [
      | inl here ↦ older-order.irrefl n (subst (λ (w : Version Change). Older n w) (here ∙ same) above)
      | inr below ↦ older-order.asym n v above (subst (λ (w : Version Change). Older v w) same below)
    ]

pub opened_keys_stand : OpenedKeysStand
opened_keys_stand c table key versions regular are = resting-key (start c) table key (head_of l) (Held versions) (refl, free) stores
    (λ v at. let n = under_head l down v (are.within v at) in (n.0, n.1, (λ s t there. absurd (no-seat s t there)), n.2)) where
      l : List (Version Change)
      l = line (base c) table key

      down : Descends Older l
      down = line-descends (base c) (start-valid c regular).orderly table key

      free : NoneHolds (start c) table key
      free s t wrote = absurd (no-seat s t wrote.0)

      stores : Stores Older (covers (start c)) l (In (head_of l)) (Held versions)
      stores = record {
        kept = record {
          within = λ v held. elim held [ inl is ↦ head_member v l is | inr at ↦ are.within v at ];
          all = λ v there. inl (are.all v there);
        };
        upper = λ n v is there above. absurd (none_over l down n v is there above);
      }
