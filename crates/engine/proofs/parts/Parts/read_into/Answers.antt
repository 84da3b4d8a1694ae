use Rattle.std.proofs.Common.{◌≡◌, refl, ap, sym, ◌∙◌, subst}
use Rattle.std.specs.Prelude.{IsNone, option_copied, option_map}
use Rattle.std.proofs.lemmas.Option.{none-some, same_Some}
use Rattle.wt_code.specs.declared.refusals.Refusal.TheVariants as refusal
use Rattle.txn_table.specs.Tabled.{phase_of}
use Rattle.leaf_frame.specs.Leaf.{HeldLeaf}
use Rattle.leaf_frame.specs.Looks.{read_at}
use Rattle.call_steps.specs.declared.frame.Frame.{Frame}
use Rattle.engine_world.specs.Laws.{IsViewOf}
use Rattle.engine_world.specs.Stands.{Engine}
use Rattle.engine.specs.declared.got.Got.TheVariants as got
use Rattle.engine.specs.Reads.{GivenAs}
use Rattle.engine.proofs.parts.Parts.read_into.Goals as goal

pub returns-in_default-clause-reads : goal.returns-in_default-clause-reads
returns-in_default-clause-reads c = λ f held busy. absurd (none-some f.leaf (ap option_copied (sym c.in_default.is) ∙ (c.leaf_in.ensures ∙ ap (option_map (λ (x : Frame). x.leaf)) held)))

pub returns-in_default-clause-here : goal.returns-in_default-clause-here
returns-in_default-clause-here c = λ is. let clash : got.Refused refusal.CacheFull ≡ got.Away = is in cc

pub returns-in_default-clause-kept : goal.returns-in_default-clause-kept
returns-in_default-clause-kept c = λ other. refl

pub returns-in-None-clause-reads : goal.returns-in-None-clause-reads
returns-in-None-clause-reads c = λ f held busy. absurd (busy (ap (λ (x : Engine). phase_of x.hub.txns c.args.session) (sym c.self.view_is) ∙ c.view.ensures.none.0 (subst (λ o. IsNone o) (sym c.in-None.is) refl)))

pub returns-in-None-clause-here : goal.returns-in-None-clause-here
returns-in-None-clause-here c = λ is. let clash : got.Refused refusal.CacheFull ≡ got.Away = is in cc

pub returns-in-None-clause-kept : goal.returns-in-None-clause-kept
returns-in-None-clause-kept c = λ other. refl

pub returns-in-Some-view-clause-reads : goal.returns-in-Some-view-clause-reads
returns-in-Some-view-clause-reads c = λ f held busy. record {
  view = c.in-Some-view.view;
  lent = subst (λ (x : Engine). IsViewOf x.hub c.args.session c.in-Some-view.view) c.self.view_is (record { own = c.in-Some-view.ensures.own; read = c.in-Some-view.ensures.read; sight = c.in-Some-view.ensures.sight });
  gives = subst (λ (l : HeldLeaf). GivenAs (read_at c.in-Some-view.view c.args.key.now l) c.give.result c.give.new.value.items)
      (same_Some c.in-Some.leaf.now f.leaf (ap option_copied (sym c.in-Some.is) ∙ (c.leaf_in.ensures ∙ ap (option_map (λ (x : Frame). x.leaf)) held))) c.give.ensures.gives;
}

pub returns-in-Some-view-clause-here : goal.returns-in-Some-view-clause-here
returns-in-Some-view-clause-here c = c.give.ensures.here

pub returns-in-Some-view-clause-kept : goal.returns-in-Some-view-clause-kept
returns-in-Some-view-clause-kept c = c.give.ensures.kept
