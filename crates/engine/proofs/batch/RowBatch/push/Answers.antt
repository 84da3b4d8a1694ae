use Rattle.std.proofs.Common.{◌≡◌, ◌+◌, ◌∷◌, ◌++◌, ℕ, List, [], length, ap, sym, ◌∙◌, subst}
use Rattle.engine.specs.declared.batch.Bounds.{Bounds}
use Rattle.engine.specs.Batches.{LieIn, rows_in}
use Rattle.engine.proofs.Batches.{Pushed, pushes}
use Rattle.engine.proofs.batch.RowBatch.push.Goals as goal

-- where the new row lies
new-bounds : goal.After-push_reserved → Bounds
new-bounds c = record { key = c.len-start.result; value = c.len-start.result + length c.args.key.now; end = c.len.result }

pushed : (c : goal.After-push_reserved) → Pushed c.self.inside.bytes.items c.append_both.new.bytes.items c.args.key.now c.args.value.now c.self.inside.bounds.items (new-bounds c)
unfolding new-bounds
pushed c = pushes c.self.inside.bytes.items c.append_both.new.bytes.items c.args.key.now c.args.value.now c.self.inside.bounds.items (new-bounds c) c.in_ok-append_both.ensures.appended c.self.invariant
    start (ap (λ n. n + length c.args.key.now) start) (c.len.ensures ∙ c.append_both.new.bytes.ok.0) where
      start : c.len-start.result ≡ length c.self.inside.bytes.items
      start = c.len-start.ensures ∙ c.self.inside.bytes.ok.0

bounds-are : (c : goal.After-push_reserved) → c.push_reserved.new.self.items ≡ c.self.inside.bounds.items ++ new-bounds c ∷ []
unfolding new-bounds
bounds-are c = c.push_reserved.ensures.items ∙ ap (λ l. l ++ new-bounds c ∷ []) c.reserve.ensures.items

pub invariant_of-self-2 : goal.invariant_of-self-2
invariant_of-self-2 c = subst (LieIn (length c.append_both.new.bytes.items)) (sym (bounds-are c)) (pushed c).lie

pub returns-clause-pushed : goal.returns-clause-pushed
returns-clause-pushed c = ap (rows_in c.append_both.new.bytes.items) (bounds-are c) ∙ ((pushed c).rows ∙ ap (λ (l : List (List ℕ × List ℕ)). l ++ (c.args.key.now, c.args.value.now) ∷ []) c.self.view_is)
