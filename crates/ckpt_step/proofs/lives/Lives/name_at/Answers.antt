use Rattle.std.proofs.Common.{◌∙◌, sym, ap, List}
use Rattle.std.specs.BTreeMap.{BTreeMap}
use Rattle.ckpt_step.specs.Holding.{named_at}
use Rattle.ckpt_step.specs.Lives.{lones_in}
use Rattle.ckpt_step.specs.declared.lives.Held.{Held}
use Rattle.ckpt_step.specs.declared.lives.Lives.TheInside.{Inside}
use Rattle.ckpt_step.specs.declared.lives.Lone.{Lone}
use Rattle.ckpt_step.proofs.LonesPut.{lones_named, lones_none, renamed}
use Rattle.ckpt_step.proofs.lives.Lives.name_at.Goals as goal
use Rattle.ckpt_step.proofs.lives.Lives.name_at.Goals.{in-Some, in_default}

pub returns : goal.returns
returns c = elim c.match-get_mut.branch [
  | in-Some w ↦
      ap (λ (i : Inside). lones_in i.by_offset.entries) w.self-inside-is
      ∙ (ap lones_in (c.get_mut.follows.holds (renamed c.args.leaf w.in-Some.held.now)).0
      ∙ (lones_named c.self.inside.by_offset.entries c.args.offset c.args.leaf w.in-Some.held.now (sym w.in-Some.ensures.value) ∙ ap (λ (l : List Lone). named_at l c.args.offset c.args.leaf) c.self.view_is))
  | in_default w ↦
      ap (λ (i : Inside). lones_in i.by_offset.entries) w.self-inside-is
      ∙ (ap (λ (m : BTreeMap _ Held). lones_in m.entries) c.get_mut.follows.holds-at-none
      ∙ (sym (lones_none c.self.inside.by_offset.entries c.args.offset c.args.leaf (sym w.in_default.ensures.value)) ∙ ap (λ (l : List Lone). named_at l c.args.offset c.args.leaf) c.self.view_is))
]
