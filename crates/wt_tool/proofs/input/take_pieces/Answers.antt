use Rattle.std.proofs.Common.{◌≤◌, ◌<◌, ◌+◌, ◌-◌, ◌++◌, ℕ, List, length, length-append, refl, sym, ap, subst, arith}
use Rattle.wt_io.specs.Streams.{Gave}
use Rattle.script_run.specs.declared.script.TheConstants.{INPUT_MAX}
use Rattle.script_run.proofs.Cutting.{gave_more, gave_none}
use Rattle.wt_tool.proofs.Pieces.{untaken_further}
use Rattle.wt_tool.proofs.input.take_pieces.Goals as goal

pub pieces-init : goal.pieces-init
pieces-init g c = record {
  gave = subst (λ (l : List ℕ). Gave (g.S.Source.left c.args.input.now) (g.S.Source.left c.args.input.now) l) (sym c.new-text.ensures.items) (gave_none (g.S.Source.left c.args.input.now));
  within = let none = ap (λ (l : List ℕ). length l) c.new-text.ensures.items in omega (arith, none);
  later = omega arith;
}

pub pieces-preserved : goal.pieces-preserved
pieces-preserved g c =
    let i = c.pieces.invariant in
    let t = c.in-Ok.ensures.taken in
    record {
      gave = subst (λ (l : List ℕ). Gave (g.S.Source.left c.args.input.now) (g.S.Source.left c.take_piece.new.input) l) (sym t.2.1) (gave_more (g.S.Source.left c.args.input.now) (g.S.Source.left c.pieces.input) (g.S.Source.left c.take_piece.new.input) c.pieces.text.items t.0 i.gave t.1);
      within = let long = ap (λ (l : List ℕ). length l) t.2.1 in let room = c.in-Ok.ensures.within in omega (arith, long, length-append c.pieces.text.items t.0, t.2.0, room, i.within);
      later = omega (arith, i.later, c.take_piece.ensures.later);
    }

pub pieces-smaller : goal.pieces-smaller
pieces-smaller g c =
    let t = c.in-Ok.ensures.taken in
    let long = ap (λ (l : List ℕ). length l) t.2.1 in
    let room = c.in-Ok.ensures.within in
    let some = c.in-Ok.field-0-test.1 in
    let less : INPUT_MAX + 1 - length c.take_piece.new.text.items < INPUT_MAX + 1 - length c.pieces.text.items = omega (arith, long, length-append c.pieces.text.items t.0, t.2.0, room, c.pieces.invariant.within, some) in
    less

pub returns : goal.returns
returns g c = record {
  taken = (c.pieces.text.items, c.pieces.invariant.gave, (refl, omega (arith, c.pieces.invariant.within)));
  failed = tt;
}

pub returns-in-Ok-eq0 : goal.returns-in-Ok-eq0
returns-in-Ok-eq0 g c =
    let i = c.pieces.invariant in
    let t = c.in-Ok-eq0.ensures.taken in
    let long = ap (λ (l : List ℕ). length l) t.2.1 in
    let fits : length c.take_piece.new.text.items ≤ INPUT_MAX = omega (arith, long, length-append c.pieces.text.items t.0, t.2.0, c.in-Ok-eq0.field-0-test, c.len.ensures, c.pieces.text.ok.0) in
    record {
      taken = (
        c.take_piece.new.text.items,
        subst (λ (l : List ℕ). Gave (g.S.Source.left c.args.input.now) (g.S.Source.left c.take_piece.new.input) l) (sym t.2.1) (gave_more (g.S.Source.left c.args.input.now) (g.S.Source.left c.pieces.input) (g.S.Source.left c.take_piece.new.input) c.pieces.text.items t.0 i.gave t.1),
        (refl, (t.2.2 c.in-Ok-eq0.field-0-test, fits)),
      );
      failed = tt;
    }

pub returns-in-Err : goal.returns-in-Err
returns-in-Err g c =
    let i = c.pieces.invariant in
    let t = c.in-Err.ensures.taken in
    record {
      taken = (c.pieces.text.items ++ t.0, gave_more (g.S.Source.left c.args.input.now) (g.S.Source.left c.pieces.input) (g.S.Source.left c.take_piece.new.input) c.pieces.text.items t.0 i.gave t.1, tt);
      failed = untaken_further (g.S.Source.fault_count c.args.input.now) (g.S.Source.fault_count c.pieces.input) (g.S.Source.fault_count c.take_piece.new.input) c.in-Err.end i.later c.in-Err.ensures.failed;
    }
