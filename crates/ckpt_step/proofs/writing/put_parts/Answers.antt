use Rattle.std.proofs.Common.{◌≡◌, ◌∙◌, List, length, drop, suc, ap, sym, subst, refl, arith}
use Rattle.std.proofs.lemmas.List.{map-id}
use Rattle.std.proofs.lemmas.Iterator.Adapters.{YieldsList-from_vec}
use Rattle.std.proofs.lemmas.Iterator.Consumers.{YieldsList-end, YieldsList-so_far, YieldsList-turn}
use Rattle.ckpt_step.specs.Parts.{HaveRoom, with_parts}
use Rattle.ckpt_step.specs.Rooms.{known_in}
use Rattle.ckpt_step.specs.declared.parts.LeafPart.{LeafPart}
use Rattle.ckpt_step.proofs.PartRooms.{put_more, room_at}
use Rattle.ckpt_step.proofs.Places.{left_here}
use Rattle.ckpt_step.proofs.writing.put_parts.Goals as goal

pub loop-part-init : goal.loop-part-init
loop-part-init c = record { known = λ leaf. refl; rooms = λ leaf. refl }

pub put-requires : goal.put-requires
put-requires c =
    let yielded = c.loop-part.yielded in
    let gives = c.into_iter-part-iterator.ensures.into_iter_gives in
    let e = YieldsList-from_vec c.args.written.items gives.0 (omega (arith, gives.1, c.args.written.ok.0)) in
    let t = YieldsList-turn e yielded _ c.loop-part.yielded_by _ c.next.new.self c.in-Some.part c.in-Some.is c.next.ensures.steps in
    let so_far = sym (map-id yielded) ∙ YieldsList-so_far e yielded _ c.loop-part.yielded_by in
    let rest : List LeafPart = drop (suc (length yielded)) c.args.written.items in
    let is = left_here c.args.written.items yielded c.in-Some.part so_far t.0 t.1 in
    record { room = c.loop-part.invariant.rooms c.in-Some.part.leaf ∙ room_at c.args.parts.now yielded c.in-Some.part rest (subst (λ (l : List LeafPart). HaveRoom c.args.parts.now l) is c.requires.room) }

pub loop-part-preserved : goal.loop-part-preserved
loop-part-preserved c =
    let now = c.loop-part.invariant in
    record {
      known = put_more (known_in c.args.parts.now) (known_in c.loop-part.parts) (known_in c.put.new.self) c.loop-part.yielded c.in-Some.part c.put.ensures.known now.known;
      rooms = λ leaf. c.put.ensures.rooms leaf ∙ now.rooms leaf;
    }

pub returns : goal.returns
returns c = λ leaf.
    let yielded = c.loop-part.yielded in
    let gives = c.into_iter-part-iterator.ensures.into_iter_gives in
    let e = YieldsList-from_vec c.args.written.items gives.0 (omega (arith, gives.1, c.args.written.ok.0)) in
    let t = YieldsList-end e yielded _ c.loop-part.yielded_by _ c.next.new.self c.in-None.is c.next.ensures.steps in
    let all : yielded ≡ c.args.written.items = sym (map-id yielded) ∙ t.0 in
    c.loop-part.invariant.known leaf ∙ ap (λ (l : List LeafPart). with_parts (known_in c.args.parts.now) l leaf) all
