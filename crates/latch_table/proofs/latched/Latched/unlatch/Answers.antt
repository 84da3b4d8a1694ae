use Rattle.std.proofs.Common.{◌≡◌, ℕ, ◌∷◌, refl, sym, ap, ◌∙◌, arith}
use lib.ListN.{get_elem?}
use Rattle.atomic_table.specs.Table.{rest}
use Rattle.latch_table.specs.Rule.{known}
use Rattle.latch_table.specs.Seats.{piece_number}
use Rattle.latch_table.proofs.Sitting.{sits_put, front_me, gave_me, got}
use Rattle.latch_table.proofs.latched.Latched.unlatch.Goals as goal

pub index_mut-requires : goal.index_mut-requires
index_mut-requires g c =
    let p = c.requires.puts in
    let s = c.requires.seat in
    let f = (s.fit 0 _ p.0 p.1 (ap (λ l. get_elem? l 0) p.4) p.5).0 in
    let e = c.number_of-at.ensures in
    let r = s.room in omega arith

pub exchange-requires : goal.exchange-requires
exchange-requires g c =
    let p = c.requires.puts in
    let s = c.requires.seat in
    let e = c.number_of-at.ensures in
    let h = p.4 ∙ ap (λ (z : ℕ). (z, p.0) ∷ p.2) (sym e) in
    (s.table, (_, front_me c.args.seat.now.raw.me c.number_of-at.result p.0 p.2 s.away h))

pub give-requires-clause-table : goal.give-requires-clause-table
give-requires-clause-table g c = c.exchange.ensures.0 ∙ c.requires.seat.table

pub give-requires-clause-place : goal.give-requires-clause-place
give-requires-clause-place g c =
    let p = c.requires.puts in
    let s = c.requires.seat in
    let f = (s.fit 0 _ p.0 p.1 (ap (λ l. get_elem? l 0) p.4) p.5).0 in
    let e = c.number_of-at.ensures in
    let w = s.wide in
    (omega arith, omega arith)

pub give-requires-clause-puts : goal.give-requires-clause-puts
give-requires-clause-puts g c =
    let p = c.requires.puts in
    let s = c.requires.seat in
    let e = c.number_of-at.ensures in
    let x = c.exchange.ensures in
    let h = p.4 ∙ ap (λ (z : ℕ). (z, p.0) ∷ p.2) (sym e) in
    let same : c.replace-part.result ≡ p.1 = c.replace-part.ensures.value ∙ (c.index_mut.ensures.value ∙ got c.args.seat.now.parts.items c.number_of-at.result p.1 c.index_mut.result.now (ap (λ (z : ℕ). get_elem? c.args.seat.now.parts.items z) e ∙ p.5)) in
    let fit = (s.fit 0 _ p.0 p.1 (ap (λ l. get_elem? l 0) p.4) p.5).1 in (
      p.0,
      c.replace-part.result,
      p.2,
      rest c.args.seat.now.raw.me.1,
      p.3,
      ap (λ m. m.0.held) x.3 ∙ h,
      ap (λ m. m.1) x.3,
      rw (e, same) fit,
      rw (x.3, e, same) p.6,
    )

pub returns-clause-seat : goal.returns-clause-seat
returns-clause-seat g c =
    let p = c.requires.puts in
    let s = c.requires.seat in
    let e = c.number_of-at.ensures in
    let x = c.exchange.ensures in
    let h = p.4 ∙ ap (λ (z : ℕ). (z, p.0) ∷ p.2) (sym e) in
    let m = gave_me c.args.seat.now.raw.me c.exchange.new.seat.me c.give.new.seat.me c.number_of-at.result p.0 c.replace-part.result p.2 (λ v x y n. Unit {0}) s.away h x.3 (λ x' y' h' o' i j. let t = c.give.ensures.gave x' y' h' o' i j in (t.0, t.1, tt)) in
    sits_put _ c.args.seat.now.raw c.give.new.seat c.args.seat.now.parts.items s (c.give.ensures.same.0 ∙ x.0) m.0 c.number_of-at.result p.0 c.replace-part.new.dest p.2 h m.1

pub returns-clause-put : goal.returns-clause-put
returns-clause-put g c =
    let p = c.requires.puts in
    let s = c.requires.seat in
    let e = c.number_of-at.ensures in
    let x = c.exchange.ensures in
    let h = p.4 ∙ ap (λ (z : ℕ). (z, p.0) ∷ p.2) (sym e) in
    let same : c.replace-part.result ≡ p.1 = c.replace-part.ensures.value ∙ (c.index_mut.ensures.value ∙ got c.args.seat.now.parts.items c.number_of-at.result p.1 c.index_mut.result.now (ap (λ (z : ℕ). get_elem? c.args.seat.now.parts.items z) e ∙ p.5)) in
    let m = gave_me c.args.seat.now.raw.me c.exchange.new.seat.me c.give.new.seat.me c.number_of-at.result p.0 c.replace-part.result p.2 (λ v x y n. g.L.Law.puts (known v) c.number_of-at.result x y n) s.away h x.3 c.give.ensures.gave in
    (p.0, p.1, p.4 ∙ ap (λ q. (piece_number c.args.piece, p.0) ∷ q.0.held) (sym m.1), p.5, rw (sym e, sym same, ap (λ q. q.0.note) m.1) m.2)

pub returns-clause-number : goal.returns-clause-number
returns-clause-number g c =
    let p = c.requires.puts in
    let s = c.requires.seat in
    let e = c.number_of-at.ensures in
    let x = c.exchange.ensures in
    let h = p.4 ∙ ap (λ (z : ℕ). (z, p.0) ∷ p.2) (sym e) in
    let m = gave_me c.args.seat.now.raw.me c.exchange.new.seat.me c.give.new.seat.me c.number_of-at.result p.0 c.replace-part.result p.2 (λ v x y n. Unit {0}) s.away h x.3 (λ x' y' h' o' i j. let t = c.give.ensures.gave x' y' h' o' i j in (t.0, t.1, tt)) in
    (ap (λ q. q.0.seat) m.1, refl)
