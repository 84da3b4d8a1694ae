use Rattle.std.proofs.Common.{◌≡◌, ◌*◌, ℕ, get_or, subst, ⊎_elim, arith}
use Rattle.hazard_law.specs.declared.known.Mark.TheVariants.{Pins}
use Rattle.hazard_law.specs.Words.{filled, locked}
use Rattle.hazard_law.specs.Safety.{Marks}
use Rattle.hazard_law.proofs.Lists.{inside}
use Rattle.hazard_law.proofs.Safe.{filled_locked, same_locked, small}
use Rattle.hazard_law.proofs.law.a_frame_that_may_be_freed_has_no_pin.Goals as goal

pub returns : goal.returns
returns g c frames words seats s id f a v at lock j w h u q m =
    let mine = s.locks id f a (5 * v.note.shape.seats) v at lock in
    let own = s.numbered id v at in
    ⊎_elim
    (λ (x : get_or words f 0 ≡ filled h). filled_locked (get_or words f 0) h a x mine.1)
    (λ (x : get_or words f 0 ≡ locked h). s.clear id j w f a (5 * v.note.shape.seats) v u at q lock
    (let five = small frames words seats id v at s j w (Pins f h) u q m in let room = inside seats j u q in let count = own.2 in omega arith)
    (subst (λ (y : ℕ). Marks u.note w (Pins f y)) (same_locked (get_or words f 0) h a x mine.1) m))
    (s.pinned j w f h u q m).2
