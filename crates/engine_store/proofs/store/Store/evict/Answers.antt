use Rattle.std.proofs.Common.{None, inl, refl}
use Rattle.std.specs.Prelude.{slice_index_or}
use Rattle.engine_store.specs.Keeping.{with_kept}
use Rattle.engine_store.proofs.EvictingKeys.{at_once, is_out, leaf_of, look_of, out_of, refused_of}
use Rattle.engine_store.proofs.KeptAnswers.{own_same, told_own}
use Rattle.engine_store.proofs.MakingRoom.{still_up}
use Rattle.engine_store.proofs.store.Store.evict.Goals as goal

pub returns-in-Err-clause-evicts : goal.returns-in-Err-clause-evicts
returns-in-Err-clause-evicts g c = λ h start w first made held.
    at_once g.D.Disk start w first made c.args.number c.args.table.now c.args.key.now c.args.self.now c.args.disk.now c.in-Err.refusal held
    (refused_of c.as_bytes.result.now c.args.table.now c.as_bytes-2.result.now c.args.key.now c.as_bytes.ensures c.as_bytes-2.ensures (slice_index_or w.systems c.args.number None) w.machine c.in-Err.refusal (c.in-Err.ensures.refused (with_kept c.args.self.now.ground.kept w) held.stands))

pub returns-in-None-clause-evicts : goal.returns-in-None-clause-evicts
returns-in-None-clause-evicts g c = λ h start w first made held.
    let v = with_kept c.args.self.now.ground.kept w in
    let out = out_of c.as_bytes-in-Ok.result.now c.args.table.now c.as_bytes-in-Ok-2.result.now c.args.key.now c.as_bytes-in-Ok.ensures c.as_bytes-in-Ok-2.ensures c.args.self.now.engine w.machine (c.in-None.ensures.none refl v held.stands) in
    is_out g.D.Disk start w first made c.args.number c.args.table.now c.args.key.now c.args.self.now c.args.self.now c.args.disk.now c.args.disk.now
    (look_of c.as_bytes.result.now c.args.table.now c.as_bytes-2.result.now c.args.key.now c.as_bytes.ensures c.as_bytes-2.ensures (slice_index_or w.systems c.args.number None) w.machine (c.in-Ok.ensures.goes v held.stands))
    (still_up g.D.Disk c.args.self.now c.args.self.now refl refl refl refl start c.args.disk.now w first made held) out (λ id leaf. inl (out id leaf))

pub returns-in-Some-clause-evicts : goal.returns-in-Some-clause-evicts
returns-in-Some-clause-evicts g c = λ h start w first made held.
    let v = with_kept c.args.self.now.ground.kept w in
    c.evict_from.ensures.evicts h start w first made held c.args.number
    (look_of c.as_bytes.result.now c.args.table.now c.as_bytes-2.result.now c.args.key.now c.as_bytes.ensures c.as_bytes-2.ensures (slice_index_or w.systems c.args.number None) w.machine (c.in-Ok.ensures.goes v held.stands))
    (leaf_of c.as_bytes-in-Ok.result.now c.args.table.now c.as_bytes-in-Ok-2.result.now c.args.key.now c.as_bytes-in-Ok.ensures c.as_bytes-in-Ok-2.ensures c.args.self.now.engine w.machine c.in-Some.leaf (c.in-Some.ensures.some v held.stands))

pub returns-in-Some-clause-told : goal.returns-in-Some-clause-told
returns-in-Some-clause-told g c = λ start le.
    let alike = c.evict_from.ensures.alike in
    told_own g.D.Disk None start c.args.disk.now c.evict_from.new.disk alike.disk c.args.self.now.engine c.evict_from.new.self.engine (own_same c.args.self.now.engine c.evict_from.new.self.engine alike.alike.sessions)
