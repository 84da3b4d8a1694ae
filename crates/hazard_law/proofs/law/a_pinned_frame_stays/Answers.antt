use Rattle.hazard_law.proofs.law.a_pinned_frame_stays.Goals as goal

pub returns : goal.returns
returns g c frames words seats s j w f h v at m = (s.pinned j w f h v at m).2
