-- What a frame tells of a key besides its reads.
use Rattle.std.proofs.Common.{◌≡◌, refl, ap, sym, ◌∙◌, ◌&&◌, List, [], ◌∷◌, ◌++◌, inl, subst, map}
use Rattle.std.specs.Prelude.{Option, Some, None}
use Rattle.std.specs.Option.{option_to_list}
use Rattle.item.specs.declared.Change.{Change}
use Rattle.stamp.specs.declared.Version.{Version}
use Rattle.kv_model.specs.Holds.{Descends, Stores}
use Rattle.kv_model.specs.Ordered.{Older}
use Rattle.kv_model.specs.Captures.{UpTo}
use Rattle.kv_model.specs.History.{Write, line, released, reads_at, value}
use Rattle.kv_model.specs.Machine.{Machine, name_of}
use Rattle.kv_model.specs.Droppable.{covers}
use Rattle.kv_model.specs.Reads.{own_write, IsEnding, ReadAs, Value, seen_as}
use Rattle.kv_model.specs.Refusals.{newest_durable}
use Rattle.kv_model.specs.StoreLaws.{Held}
use Rattle.kv_model.specs.Pending.{Update as ModelUpdate, settled as model_settled, InFrame, HasEnded}
use Rattle.kv_model.proofs.Ordering.{line-descends}
use Rattle.kv_model.proofs.Snapshots.{line-released}
use Rattle.update_chain.specs.declared.update.Update.{Update}
use Rattle.update_chain.specs.Updates.{update_in}
use Rattle.update_chain.specs.Writing.{newest_of}
use Rattle.update_chain.specs.FrameLaws.{durable_of, OrdersStand, ViewsAdmit, ReadsArePresent}
use Rattle.update_chain.proofs.Tops.{TopOf, the-top, unresolved-rest}
use Rattle.update_chain.proofs.Writes.{head-is, none-stands}

-- ---- the order of commits

-- the newest of a frame has the durable stamp of the newest of a line
newest-same : (m : Machine) (stands held records : List (Version Change)) (cell : Option (Version Change)) (chain : List Update) → Descends Older stands → Descends Older (held ++ option_to_list cell) → Stores Older (covers m) stands (InFrame held cell) (Held records)
    → ((v : Version Change) → Held records v → (w : Version Change) × InFrame held cell w × HasEnded m w.window.name × UpTo Older v w) → map update_in chain ≡ map model_settled held
    → durable_of (newest_of chain cell) ≡ newest_durable stands
newest-same m stands [] records None [] d f s layered e = sym (ap newest_durable (none-stands m stands records d s layered))
newest-same m stands [] records (Some v) [] d f s layered e = sym (ap newest_durable (head-is m stands (v ∷ []) [] records (Some v) v [] d s layered f refl refl).1)
newest-same m stands [] records cell (u ∷ older) d f s layered e = absurd (cc)
newest-same m stands (a ∷ held) records cell [] d f s layered e = absurd (cc)
newest-same m stands (a ∷ held) records cell (u ∷ older) d f s layered e = let first : update_in u ≡ model_settled a = cc in
    ap (λ (x : ModelUpdate). x.version.window.durable) first ∙ sym (ap newest_durable (head-is m stands (a ∷ (held ++ option_to_list cell)) (a ∷ held) records cell a (held ++ option_to_list cell) d s layered f refl refl).1)

pub orders-stand : OrdersStand
orders-stand m s t w table key u older cell records valid there alive own k =
    newest-same m k.below k.held records cell older (subst (Descends Older) whole (line-descends m.history valid.orderly table key)) k.ordered k.stores k.layered rest ∙ ap newest_durable (sym whole) where
      top : (x : ModelUpdate) × (k.top ≡ x ∷ []) × TopOf m s t w table key x k.below
      top = the-top m s t w table key k.top k.below there own alive k.topped

      whole : line m.history table key ≡ k.below
      whole = unresolved-rest t.phase (name_of m t) top.0 (line m.history table key) k.below (λ e. alive (subst IsEnding (sym e) tt)) top.2.rest

      rest : map update_in older ≡ map model_settled k.held
      rest = let e : update_in u ∷ map update_in older ≡ top.0 ∷ map model_settled k.held = subst (λ l. update_in u ∷ map update_in older ≡ l ++ map model_settled k.held) top.1 k.chained in cc

-- ---- views

pub views-admit : ViewsAdmit
views-admit m t view table key v valid stands at =
    ap (λ b. b && reads_at view.read v.window.commit) (stands.sees.sees v.window.name (inl (line-released m.history valid.orderly table key v at)))
    ∙ ap (λ n. released m.history t.start v.window.name && reads_at n v.window.commit) stands.read

pub reads-are-present : ReadsArePresent
reads-are-present m s t table key v answer = by-own (own_write t table key) answer where
  by-own : (o : Option Write) → ReadAs o m s t table key (Value v) → v ≡ seen_as o (value m.history t.start t.read table key)
  by-own None answer = answer.0
  by-own (Some w) answer = cc
