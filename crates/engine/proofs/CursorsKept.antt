-- A session at rest whose cursor goes on keeps the engine whole.
use Rattle.std.proofs.Common.{◌≡◌, ◌∙◌, ℕ, sym, ap, List, subst, inl, inr}
use Rattle.std.specs.Prelude.{Some, slice_get, slice_set}
use Rattle.std.proofs.lemmas.Bool.{cases_eq}
use Rattle.std.proofs.lemmas.Option.{same_Some}
use Rattle.call_steps.specs.declared.stage.Stage.{Stage}
use Rattle.call_steps.specs.declared.stage.Stage.TheVariants as stage
use Rattle.call_steps.specs.HubEvents.{IsSeated}
use Rattle.call_steps.specs.State.{State}
use Rattle.call_turns.specs.Seats.{RunsAtLeaf}
use Rattle.engine_world.specs.Laws.{with_session}
use Rattle.engine_world.specs.Stands.{Engine}
use Rattle.engine_world.proofs.Moves.{get-set-other, get-set-same}
use Rattle.engine.specs.RowReads.{stands_at}
use Rattle.engine.specs.Sizes.{CallFitsAt, id_of}
use Rattle.engine.specs.Sound.{Keeps}
use Rattle.engine.proofs.Soundness.{session-keeps}

cursor-set : (P : State → Type 0) (sessions : List State) (session : ℕ) (a b : State) → slice_get sessions session ≡ Some a → P b → ((r : ℕ) (c : State) → slice_get sessions r ≡ Some c → P c) → (r : ℕ) (c : State) → slice_get (slice_set sessions session b) r ≡ Some c → P c
cursor-set P sessions session a b at new each r c there = elim (cases_eq r session) [
  | inl same ↦ subst P (same_Some b c (sym (get-set-same sessions session a b at) ∙ (ap (λ i. slice_get (slice_set sessions session b) i) (sym same) ∙ there))) new
  | inr other ↦ each r c (sym (get-set-other sessions session r b other) ∙ there)
]

-- a session at rest moves a cursor
pub cursor-keeps : (e : Engine) (session : ℕ) (a : State) (cursor table : ℕ) (key : List ℕ) → slice_get e.sessions session ≡ Some a → a.stage ≡ stage.Rest → Keeps e (with_session e session (stands_at cursor table key a))
cursor-keeps e session a cursor table key at rests = session-keeps e session a (stands_at cursor table key a) e.hazards at
    (λ was r c there. elim (cases_eq r session) [
      | inl same ↦ subst (λ i. IsSeated e.hub i c) (sym same) (subst (λ (x : State). IsSeated e.hub session x) (same_Some (stands_at cursor table key a) c (sym (get-set-same e.sessions session a (stands_at cursor table key a) at)
          ∙ (ap (λ i. slice_get (slice_set e.sessions session (stands_at cursor table key a)) i) (sym same) ∙ there))) (record { opened = (was.seated session a at).opened; phase = (was.seated session a at).phase }))
      | inr other ↦ was.seated r c (sym (get-set-other e.sessions session r (stands_at cursor table key a) other) ∙ there)
    ])
    (λ was. cursor-set RunsAtLeaf e.sessions session a (stands_at cursor table key a) at (record { runs = (was.run session a at).runs }) was.run)
    (λ fit. subst (λ (g : Stage). CallFitsAt g (id_of e.hub.txns session) (stands_at cursor table key a)) (sym rests) tt)
    (λ but own. own)
