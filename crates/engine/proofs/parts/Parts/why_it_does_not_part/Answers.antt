use Rattle.std.proofs.Common.{◌≡◌, ◌∙◌, List, ap, refl, subst, sym}
use Rattle.std.specs.Prelude.{Some}
use Rattle.call_steps.specs.State.{State}
use Rattle.engine_world.specs.Stands.{Engine}
use Rattle.tree_dir.specs.Leaves.{leaf_named}
use Rattle.engine.specs.Partings.{IsComingTo, IsWalking, NoneComes, NoneWalks}
use Rattle.engine.proofs.PartedLeaves.{coming-not, keeps-whole, may-part, none-not, walked-not}
use Rattle.engine.proofs.parts.Parts.why_it_does_not_part.Goals as goal

pub returns-in-Some-clause-some : goal.returns-in-Some-clause-some
returns-in-Some-clause-some c = keeps-whole c.args.self.now c.args.leaf c.in-Some.why c.in-Some.ensures.some

pub returns-in-Some-clause-not : goal.returns-in-Some-clause-not
returns-in-Some-clause-not c = λ may. c.in-Some.ensures.not may.may

pub returns-in-Some-session_coming-clause-some : goal.returns-in-Some-session_coming-clause-some
returns-in-Some-session_coming-clause-some c =
    subst (λ (xs : List State). IsComingTo c.args.leaf xs c.in-Some-session_coming.session) (c.deref.ensures.value ∙ ap (λ (x : Engine). x.sessions) c.self.view_is) c.in-Some-session_coming.ensures.some

pub returns-in-Some-session_coming-clause-not : goal.returns-in-Some-session_coming-clause-not
returns-in-Some-session_coming-clause-not c = coming-not c.args.self.now c.args.leaf c.in-Some-session_coming.session
    (subst (λ (xs : List State). IsComingTo c.args.leaf xs c.in-Some-session_coming.session) (c.deref.ensures.value ∙ ap (λ (x : Engine). x.sessions) c.self.view_is) c.in-Some-session_coming.ensures.some)

-- it is there, since it may be evicted
pub returns-in_default-leaf-clause-some : goal.returns-in_default-leaf-clause-some
returns-in_default-leaf-clause-some c = absurd (none-not c.args.self.now c.args.leaf (ap (λ (x : Engine). leaf_named c.args.leaf x.hub.dir.leaves) (sym c.self.view_is) ∙ sym c.in_default-leaf.ensures) (c.in_default.ensures.none refl))

pub returns-in_default-leaf-clause-not : goal.returns-in_default-leaf-clause-not
returns-in_default-leaf-clause-not c = absurd (none-not c.args.self.now c.args.leaf (ap (λ (x : Engine). leaf_named c.args.leaf x.hub.dir.leaves) (sym c.self.view_is) ∙ sym c.in_default-leaf.ensures) (c.in_default.ensures.none refl))

pub returns-in-None-clause-none : goal.returns-in-None-clause-none
returns-in-None-clause-none c = λ is. may-part c.args.self.now c.args.leaf c.in-Some-leaf.found.now named (c.in_default.ensures.none refl)
    (subst (NoneComes c.args.leaf) (c.deref.ensures.value ∙ ap (λ (x : Engine). x.sessions) c.self.view_is) (c.in_default-session_coming.ensures.none refl))
    (subst (λ (xs : List State). NoneWalks c.in-Some-leaf.found.now.table xs) (c.deref-2.ensures.value ∙ ap (λ (x : Engine). x.sessions) c.self.view_is)
    (c.in-None.ensures.none refl)) where
      named : leaf_named c.args.leaf c.args.self.now.hub.dir.leaves ≡ Some c.in-Some-leaf.found.now
      named = ap (λ (x : Engine). leaf_named c.args.leaf x.hub.dir.leaves) (sym c.self.view_is) ∙ sym c.in-Some-leaf.ensures

pub returns-in-Some-session_walking-clause-some : goal.returns-in-Some-session_walking-clause-some
returns-in-Some-session_walking-clause-some c = (
  c.in-Some-leaf.found.now,
  named,
  subst (λ (xs : List State). IsWalking c.in-Some-leaf.found.now.table xs c.in-Some-session_walking.session) (c.deref-2.ensures.value ∙ ap (λ (x : Engine). x.sessions) c.self.view_is)
      c.in-Some-session_walking.ensures.some,
) where
  named : leaf_named c.args.leaf c.args.self.now.hub.dir.leaves ≡ Some c.in-Some-leaf.found.now
  named = ap (λ (x : Engine). leaf_named c.args.leaf x.hub.dir.leaves) (sym c.self.view_is) ∙ sym c.in-Some-leaf.ensures

pub returns-in-Some-session_walking-clause-not : goal.returns-in-Some-session_walking-clause-not
returns-in-Some-session_walking-clause-not c = walked-not c.args.self.now c.args.leaf c.in-Some-leaf.found.now c.in-Some-session_walking.session named
    (subst (λ (xs : List State). IsWalking c.in-Some-leaf.found.now.table xs c.in-Some-session_walking.session) (c.deref-2.ensures.value ∙ ap (λ (x : Engine). x.sessions) c.self.view_is)
    c.in-Some-session_walking.ensures.some) where
      named : leaf_named c.args.leaf c.args.self.now.hub.dir.leaves ≡ Some c.in-Some-leaf.found.now
      named = ap (λ (x : Engine). leaf_named c.args.leaf x.hub.dir.leaves) (sym c.self.view_is) ∙ sym c.in-Some-leaf.ensures
