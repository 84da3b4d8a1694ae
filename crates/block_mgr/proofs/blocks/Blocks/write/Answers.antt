use Rattle.std.proofs.Common.{◌≡◌, ◌⊎◌, ℕ, List, length, IfErr, ◌∙◌, subst}
use Rattle.failure.specs.declared.Fault.TheVariants.{Write}
use Rattle.wt_code.specs.declared.store_error.StoreError.{StoreError}
use Rattle.wt_code.specs.declared.store_error.StoreError.TheVariants.{NoMemory as WantOfMemory, NoSpace, Down}
use Rattle.extent_list.specs.Space.{IsSpot, HasNoRoom}
use Rattle.le_codec.specs.Images.{block_of}
use Rattle.block_mgr.proofs.blocks.Blocks.write.Goals as goal

pub returns-clause-no_space : goal.returns-clause-no_space
returns-clause-no_space g c =
    let items : c.deref.result.now ≡ block_of c.args.image.items = c.deref.ensures.value ∙ c.in-Ok.ensures.bytes in
    subst (λ (l : List ℕ). IfErr c.write_block.result (λ (e : StoreError). e ≡ NoSpace → (c.write_block.new.disk ≡ c.args.disk.now) × HasNoRoom c.args.self.now.space (length l) (g.D.Disk.capacity c.args.disk.now))) items c.write_block.ensures.no_space

pub returns-clause-full : goal.returns-clause-full
returns-clause-full g c =
    let items : c.deref.result.now ≡ block_of c.args.image.items = c.deref.ensures.value ∙ c.in-Ok.ensures.bytes in
    subst (λ (l : List ℕ). HasNoRoom c.args.self.now.space (length l) (g.D.Disk.capacity c.args.disk.now) → IfErr c.write_block.result (λ (e : StoreError). (e ≡ WantOfMemory) ⊎ (e ≡ NoSpace))) items c.write_block.ensures.full

pub returns-clause-write_fault : goal.returns-clause-write_fault
returns-clause-write_fault g c =
    let items : c.deref.result.now ≡ block_of c.args.image.items = c.deref.ensures.value ∙ c.in-Ok.ensures.bytes in
    subst (λ (l : List ℕ). (at : ℕ) → IfErr c.write_block.result (λ (e : StoreError). e ≡ Down (Write at) → IsSpot c.args.self.now.space (length l) (g.D.Disk.capacity c.args.disk.now) at)) items c.write_block.ensures.write_fault
