use Rattle.std.proofs.Common.{inr, arith}
use Rattle.recover_open.proofs.books.books_of.Goals as goal

pub offset_bounds-found-i : goal.offset_bounds-found-i
offset_bounds-found-i c = omega (arith, (c.in-Err-NoPlace.ensures.no_place c.in-Err-NoPlace.i c.in-Err-NoPlace.field-0-is).0)

pub bounds-found-i : goal.bounds-found-i
bounds-found-i c = (c.in-Err-NoPlace.ensures.no_place c.in-Err-NoPlace.i c.in-Err-NoPlace.field-0-is).0

pub offset_bounds-found-i-in-Err-Clash : goal.offset_bounds-found-i-in-Err-Clash
offset_bounds-found-i-in-Err-Clash c = omega (arith, (c.in-Err-Clash.ensures.clash c.in-Err-Clash.field-0-0 c.in-Err-Clash.i c.in-Err-Clash.field-0-is).1)

pub bounds-found-i-in-Err-Clash : goal.bounds-found-i-in-Err-Clash
bounds-found-i-in-Err-Clash c = (c.in-Err-Clash.ensures.clash c.in-Err-Clash.field-0-0 c.in-Err-Clash.i c.in-Err-Clash.field-0-is).1

pub returns-in-Err-Clash-clause-err : goal.returns-in-Err-Clash-clause-err
returns-in-Err-Clash-clause-err c =
    let clash = c.in-Err-Clash.ensures.clash c.in-Err-Clash.field-0-0 c.in-Err-Clash.i c.in-Err-Clash.field-0-is in
    inr (c.in-Err-Clash.i, clash.1, c.spoilt-in-Err-Clash.ensures, inr (c.in-Err-Clash.field-0-0, clash.0, clash.2))
