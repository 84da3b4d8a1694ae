use Rattle.std.proofs.Common.{◌≡◌, ◌+◌, ◌≤◌, ◌++◌, ℕ, List, length, take, drop, sym, ap, ◌∙◌, arith, take-append-drop, length-take, length-drop}
use Rattle.std.proofs.lemmas.List.{take_at, drop-drop}
use Rattle.std.proofs.lemmas.Grind.{common_steps}
use Rattle.wt_io.specs.Memory.{SourceState}
use Rattle.wt_io.proofs.mem_source.MemSourceSource.read.Goals as goal

gave : (bytes filled rest : List ℕ) (at n : ℕ) → at + n ≤ length bytes → filled ≡ take n (drop at bytes) → drop at bytes ≡ take n (filled ++ rest) ++ drop (at + n) bytes
gave bytes filled rest at n fits is =
    let long : length filled ≡ n = ap length is ∙ simp (length-take, length-drop) (omega arith) in
    let front : take n (filled ++ rest) ≡ filled = take_at filled rest n long in
    sym (take-append-drop n (drop at bytes)) ∙ ap (λ (l : List ℕ). l ++ drop n (drop at bytes)) (sym is ∙ sym front) ∙ ap (λ (l : List ℕ). take n (filled ++ rest) ++ l) (drop-drop n at bytes)

pub returns-clause-bytes : goal.returns-clause-bytes
returns-clause-bytes c = ap (λ (h : SourceState). h.rest) (sym c.self.view_is) ∙ gave c.self.inside.bytes.items c.copy_from_slice.new.self _ c.self.inside.at c.min-count.result (omega arith) (grind (arith, common_steps))
