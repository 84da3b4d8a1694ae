use Rattle.std.proofs.Common.{◌≡◌, length, refl, ap, ◌∙◌, arith}
use Rattle.std.specs.Prelude.{vec_len}
use Rattle.pool_law.specs.declared.shape.Shape.{Shape}
use Rattle.pool_trials.proofs.Begins.{keeper, kept}
use Rattle.pool_trials.proofs.open.open_kept.Goals as goal

pub new-requires-clause-joint : goal.new-requires-clause-joint
new-requires-clause-joint c =
    kept 29 0 c.in_ok-frames.frames.items _ refl

pub returns-clause-first : goal.returns-clause-first
returns-clause-first c =
    let frames = c.in_ok-frames.frames in
    let n : vec_len frames ≡ 2 = (let l = frames.ok.0 in let m = ap length c.in_ok-frames.ensures in omega arith) in
    let shape = c.in-Ok.ensures.shape in
    (keeper c.in-Ok.pool.pieces 29 0 c.two_seats-one.result.0 (ap (λ (z : Shape). z.frames) shape ∙ n) (ap (λ (z : Shape). z.seats) shape) (omega arith) c.two_seats-one.ensures.first, c.two_seats-one.ensures.first.1)

pub returns-clause-second : goal.returns-clause-second
returns-clause-second c =
    let frames = c.in_ok-frames.frames in
    let n : vec_len frames ≡ 2 = (let l = frames.ok.0 in let m = ap length c.in_ok-frames.ensures in omega arith) in
    let shape = c.in-Ok.ensures.shape in
    (keeper c.in-Ok.pool.pieces 29 1 c.two_seats-one.result.1 (ap (λ (z : Shape). z.frames) shape ∙ n) (ap (λ (z : Shape). z.seats) shape) (omega arith) c.two_seats-one.ensures.second, c.two_seats-one.ensures.second.1)
