use Rattle.std.proofs.Common.{◌≡◌, ◌∙◌, sym, ap, Some, None, List, Vec, Global}
use Rattle.std.specs.Prelude.{Option}
use Rattle.stored.specs.TableTree.{Entry}
use Rattle.ckpt_step.specs.Rooms.{Rooms, known_in}
use Rattle.ckpt_step.proofs.KnownRooms.{entries_in, found, known_found}
use Rattle.ckpt_step.proofs.parts.Parts.of.Goals as goal

pub returns-in-Some : goal.returns-in-Some
returns-in-Some c =
    let at : found c.self.inside.by_leaf.entries c.args.leaf ≡ Some (Some c.in-Some.entries) = sym c.in_ok-entries.ensures.value ∙ ap (λ (r : Option (Vec Entry Global)). Some r) c.in-Some.is in
    ap (λ (es : List Entry). Some es) c.deref.ensures.value ∙ (sym (known_found c.self.inside.by_leaf.entries c.args.leaf ∙ ap entries_in at) ∙ ap (λ (r : Rooms). known_in r c.args.leaf) c.self.view_is)

pub returns-in-None : goal.returns-in-None
returns-in-None c =
    let at : found c.self.inside.by_leaf.entries c.args.leaf ≡ Some None = sym c.in_ok-entries.ensures.value ∙ ap (λ (r : Option (Vec Entry Global)). Some r) c.in-None.is in
    sym (known_found c.self.inside.by_leaf.entries c.args.leaf ∙ ap entries_in at) ∙ ap (λ (r : Rooms). known_in r c.args.leaf) c.self.view_is

pub returns-in_err-entries : goal.returns-in_err-entries
returns-in_err-entries c =
    let at : found c.self.inside.by_leaf.entries c.args.leaf ≡ None = sym c.in_err-entries.ensures.value in
    rw c.from_residual.ensures (sym (known_found c.self.inside.by_leaf.entries c.args.leaf ∙ ap entries_in at) ∙ ap (λ (r : Rooms). known_in r c.args.leaf) c.self.view_is)
