use Rattle.std.proofs.Common.{refl, sym, subst}
use Rattle.snapshot.specs.Matters.{SeesNoneLiving}
use Rattle.snapshot.specs.Sight.{Sight}
use Rattle.reconcile.specs.declared.live.Live.TheVariants.{All}
use Rattle.reconcile.specs.Held.{is_live, is_past}
use Rattle.evict_step.proofs.MovedFit.{moved-fit}
use Rattle.evict_step.proofs.cut.cut.Goals as goal

pub returns : goal.returns
returns c = record {
  rows = c.in_ok-made.ensures.images.0;
  are = c.in_ok-made.ensures.images.2;
  reconciled = c.in_ok-made.ensures.images.1;
  pin = c.horizon-horizon.result.pin;
  floor = c.horizon-horizon.result.floor;
  moves = c.in_ok-made.ensures.moved;
  in_order = c.in_ok-made.ensures.ordered;
  moved_fit = moved-fit (is_live All) (is_past c.horizon-horizon.result.pin c.horizon-horizon.result.floor) c.args.leaf.now.page c.args.leaf.now.chains c.in_ok-made.made.moved.items c.page-page.ensures.fit c.requires.fit c.in_ok-made.ensures.moved;
  past = c.horizon-horizon.ensures.past;
  sight = c.in_ok-live.live.sight;
  seen = c.in_default.ensures.none refl;
  living = λ w st. subst (λ (s : Sight). SeesNoneLiving w.machine s) (sym c.in_ok-live.ensures.sight) (c.ended_are_seen.ensures c.args.engine.now.hub.txns w.machine st.valid st.txns).living;
}
