use Rattle.std.specs.Prelude.{IfSome, IfNone}
use Rattle.std.proofs.Common.{◌≡◌, inr, ◌∙◌, ap, sym, subst, Option}
use Rattle.le_codec.specs.Images.{block_of}
use Rattle.stored.specs.Records.{Record, record_image, IsRecord}
use Rattle.device_leaf.proofs.Opens.{ok_map, err_map}
use Rattle.recover_open.proofs.Steps.{other_sequence}
use Rattle.recover_open.proofs.record.record_of.Goals as goal

pub returns-in-Ok-None-clause-err : goal.returns-in-Ok-None-clause-err
returns-in-Ok-None-clause-err c = inr (
  c.no_record.ensures,
  λ q is same spelled. subst (λ (o : Option Record). IfNone o ((r : Record) → IsRecord r → c.args.block.now ≡ block_of (record_image r) → ⊥)) c.in-Ok-None.field-0-is c.in-Ok-None.ensures.none q is spelled,
)

pub suited-requires : goal.suited-requires
suited-requires c = (subst (λ (o : Option Record). IfSome o (λ r. IsRecord r × (c.args.block.now ≡ block_of (record_image r)))) c.in-Ok-Some.field-0-is c.in-Ok-Some.ensures.found).0

pub returns-in-Ok-Some-clause-ok : goal.returns-in-Ok-Some-clause-ok
returns-in-Ok-Some-clause-ok c =
    let there = subst (λ (o : Option Record). IfSome o (λ r. IsRecord r × (c.args.block.now ≡ block_of (record_image r)))) c.in-Ok-Some.field-0-is c.in-Ok-Some.ensures.found in
    ok_map c.suited.result c.suited.ensures.ok (λ r is. record { own = is.1; is = there.1 ∙ ap (λ (x : Record). block_of (record_image x)) (sym is.0) })

pub returns-in-Ok-Some-clause-err : goal.returns-in-Ok-Some-clause-err
returns-in-Ok-Some-clause-err c =
    let there = subst (λ (o : Option Record). IfSome o (λ r. IsRecord r × (c.args.block.now ≡ block_of (record_image r)))) c.in-Ok-Some.field-0-is c.in-Ok-Some.ensures.found in
    err_map c.suited.result c.suited.ensures.err (λ e why. inr (why.0, other_sequence c.args.slot c.args.block.now c.in-Ok-Some.found there.0 there.1 why.1))
