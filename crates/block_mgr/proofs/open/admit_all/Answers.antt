use Rattle.std.proofs.Common.{◌≡◌, ◌+◌, ◌*◌, ◌<◌, ℕ, List, length, take, inl, inr, refl, sym, ◌∙◌, ap, subst, arith}
use Rattle.std.proofs.lemmas.Bool.{cases_eq}
use Rattle.std.proofs.lemmas.List.{take_all}
use Rattle.block_mgr.specs.declared.cell.Cell.{Cell}
use Rattle.block_mgr.specs.declared.found.Found.{Found}
use Rattle.block_mgr.specs.Blocks.{unit_of}
use Rattle.block_mgr.specs.Open.{Agree, found_at, found_cell}
use Rattle.block_mgr.proofs.OpenLemmas.{agrees, clashes, names_few, not_running, cells_more, units_none}
use Rattle.block_mgr.proofs.open.admit_all.Goals as goal

pub loop-i-init : goal.loop-i-init
loop-i-init c = record {
  units = units_none c.in-Ok.cells.items c.in-Ok-all_free.space c.args.end c.in-Ok.ensures.none c.in-Ok.ensures.long c.in-Ok-all_free.ensures.end c.requires.behind (omega arith) c.in-Ok-all_free.ensures.free;
  cells = c.in-Ok.ensures.none;
  agree = λ i j lt less. absurd (omega (arith, less));
  end = c.in-Ok-all_free.ensures.end;
}

pub admit-requires-clause-few : goal.admit-requires-clause-few
admit-requires-clause-few c =
    let u : ℕ = unit_of (found_at c.args.found.now c.loop-i.i).addr.offset in
    omega (arith, ap (λ (x : Cell). x.names) (c.loop-i.invariant.cells u), names_few c.args.found.now c.loop-i.i u (omega (arith, c.loop-i-test.true)), c.requires.few, c.loop-i-test.true)

pub admit-requires-clause-idle : goal.admit-requires-clause-idle
admit-requires-clause-idle c =
    let u : ℕ = unit_of (found_at c.args.found.now c.loop-i.i).addr.offset in
    ap (λ (x : Cell). x.is_running) (c.loop-i.invariant.cells u) ∙ not_running c.args.found.now c.loop-i.i u (omega (arith, c.loop-i-test.true))

pub first_clash-requires-clause-one : goal.first_clash-requires-clause-one
first_clash-requires-clause-one c =
    let now = c.loop-i.invariant in
    let meets = c.admit.ensures.meets c.if-not-admit.true in
    clashes c.args.found.now c.loop-i.cells.items c.loop-i.space c.loop-i.i c.args.end now.units now.cells now.agree c.requires.fit c.loop-i-test.true meets.0 meets.1 meets.2 meets.3 now.end (c.admit.ensures.clash c.if-not-admit.true)

pub returns-then-not-admit-clause-err : goal.returns-then-not-admit-clause-err
returns-then-not-admit-clause-err c = inr (c.first_clash.result, c.loop-i.i, refl, c.first_clash.ensures.before, c.loop-i-test.true, c.loop-i.invariant.agree, c.first_clash.ensures.clash)

pub loop-i-preserved : goal.loop-i-preserved
loop-i-preserved c =
    let found = c.args.found.now in
    let i : ℕ = c.loop-i.i in
    let now = c.loop-i.invariant in
    let fit = c.requires.fit i c.loop-i-test.true in
    let place : (found_at found i).addr.offset ≡ 8192 + 4096 * unit_of (found_at found i).addr.offset = omega (arith, fit.0.behind, fit.0.unit) in
    let there : unit_of (found_at found i).addr.offset < length c.loop-i.cells.items = omega (arith, place, fit.1, fit.0.some, now.end, now.units.long) in
    record {
      units = c.admit.ensures.units;
      cells = cells_more found c.loop-i.cells.items c.admit.new.cells.items i c.loop-i-test.true now.cells place there (c.admit.ensures.cells c.if-not-admit.false);
      agree = λ j k lt less. elim (cases_eq k i) [
        | inl same ↦ subst (λ (n : ℕ). Agree (found_at found j) (found_at found n)) (sym same) (agrees found c.loop-i.cells.items c.loop-i.space i c.args.end now.units now.cells now.agree c.requires.fit c.loop-i-test.true j (omega (arith, lt, same)) (c.admit.ensures.agrees c.if-not-admit.false))
        | inr other ↦ now.agree j k lt (omega (arith, less, other))
      ];
      end = c.admit.ensures.end ∙ now.end;
    }

pub returns-in-Ok-list_marks-clause-cells : goal.returns-in-Ok-list_marks-clause-cells
returns-in-Ok-list_marks-clause-cells c u =
    let all : take c.loop-i.i c.args.found.now ≡ c.args.found.now = take_all c.loop-i.i c.args.found.now c.loop-i-test.false in
    c.loop-i.invariant.cells u ∙ ap (λ (l : List Found). found_cell l u) all

pub returns-in-Ok-list_marks-clause-agree : goal.returns-in-Ok-list_marks-clause-agree
returns-in-Ok-list_marks-clause-agree c i j lt less = c.loop-i.invariant.agree i j lt (omega (arith, less, c.loop-i-test.false))
