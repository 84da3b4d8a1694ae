use Rattle.std.proofs.Common.{◌++◌, List, Option, sym, subst}
use Rattle.device_layout.specs.declared.addr.Addr.{Addr}
use Rattle.kv_model.specs.Holds.{Member}
use Rattle.tree_open.specs.declared.place.TreePlace.{TreePlace}
use Rattle.ckpt_step.specs.Halves.{AreApartFrom, AreOldBlocks}
use Rattle.ckpt_step.specs.Lives.{addrs_in}
use Rattle.ckpt_step.specs.Trees.{addrs_of, kept_by}
use Rattle.ckpt_step.proofs.writing.settle.Goals as goal

pub returns-clause-cells : goal.returns-clause-cells
returns-clause-cells c old captured a was kept own fresh apart cells u =
    let lives = c.args.ground.now.lives in
    let others = c.args.taken.others in
    let past = sym c.deref.ensures.value in
    let told = sym c.deref-2.ensures.value in
    let stood = sym c.deref-3.ensures.value in
    c.let_go.ensures.cells old captured a (subst (λ (l : List Addr). AreOldBlocks old lives (addrs_of c.deref.result.now ++ (l ++ addrs_in lives))) stood (subst (λ (l : List TreePlace). AreOldBlocks old lives (addrs_of l ++ (c.args.ground.now.history.items ++ addrs_in lives))) past was))
    (subst (λ (l : List TreePlace). (x : Addr) → Member x (addrs_of (kept_by l c.deref-2.result.now)) → Member x captured) past (subst (λ (l : List (Option TreePlace)). (x : Addr) → Member x (addrs_of (kept_by c.args.ground.now.trees.items l)) → Member x captured) told kept)) own fresh
    (subst (λ (l : List Addr). AreApartFrom old lives captured (addrs_of c.deref.result.now ++ l) others) stood (subst (λ (l : List TreePlace). AreApartFrom old lives captured (addrs_of l ++ c.args.ground.now.history.items) others) past apart)) cells u
