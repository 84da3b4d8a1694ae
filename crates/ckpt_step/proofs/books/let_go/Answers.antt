use Rattle.std.proofs.Common.{◌∙◌, ◌++◌, ap, subst, sym, append_assoc, List, inl, inr}
use Rattle.block_mgr.specs.declared.cell.Cell.{Cell}
use Rattle.block_mgr.specs.Cells.{cell_at}
use Rattle.device_layout.specs.declared.addr.Addr.{Addr}
use Rattle.ckpt_step.specs.Frees.{without_all, without_news}
use Rattle.ckpt_step.specs.Halves.{AreApartFrom}
use Rattle.ckpt_step.specs.Lives.{addrs_in}
use Rattle.ckpt_step.specs.Trees.{addrs_of, left_by}
use Rattle.ckpt_step.proofs.Left.{are_left, left_in, without_both}
use Rattle.ckpt_step.proofs.Members.{in_back, in_either, in_front}
use Rattle.ckpt_step.proofs.SettledCells.{AreLeft, settled}
use Rattle.ckpt_step.proofs.books.let_go.Goals as goal

pub returns-clause-cells : goal.returns-clause-cells
returns-clause-cells c old captured a are kept own new from half u =
    let was = c.args.was.now in
    let told = c.args.told.now in
    let past = c.args.history.now in
    let lives = c.args.lives.now in
    let others = c.args.others.now in
    let left = addrs_of (left_by was told) in
    let since = addrs_in lives in
    let apart : AreApartFrom old lives captured (left ++ past) others = record {
      lone = from.lone;
      among = from.among;
      distinct = from.distinct;
      apart = from.apart;
      elsewhere = λ x b mine there same. from.elsewhere x b mine (elim (in_either left past b there) [
        | inl gone ↦ in_front (addrs_of was) past b (left_in was told b gone)
        | inr older ↦ in_back (addrs_of was) past b older
      ]) same;
    } in
    let all : AreLeft old lives captured ((left ++ past) ++ since) = subst (λ (l : List Addr). AreLeft old lives captured l) (sym (append_assoc left past since)) (are_left old lives captured was told (past ++ since) are kept) in
    c.let_go_lives.ensures.cells u
    ∙ (ap (λ (d : Cell). without_news others u d since) (c.let_go_unless_last.ensures.cells u ∙ ap (λ (d : Cell). without_all u d past) (c.let_go_trees.ensures.cells u))
    ∙ (ap (λ (d : Cell). without_news others u d since) (sym (without_both u (cell_at c.args.blocks.now.cells u) left past))
    ∙ (ap (λ (d : Cell). without_news others u (without_all u d (left ++ past)) since) (half u) ∙ settled old lives captured own u (left ++ past) since others a apart new all)))
