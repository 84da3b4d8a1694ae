-- A moment of a run stays the basis of what is told, while the hub goes on and the disk is at most looked at.
use Rattle.std.proofs.Common.{◌∙◌, ℕ, List, Option, Some, None, sym, subst}
use Rattle.std.specs.Prelude.{IsTrue}
use Rattle.disk_model.specs.Crash.{Looked}
use Rattle.disk_model.specs.declared.disk.Disk.{Ghosts}
use Rattle.tree_dir.specs.Leaves.{IsDirectory}
use Rattle.tree_open.proofs.Steps.{looked_none}
use Rattle.call_steps.specs.declared.hub.Hub.{Hub}
use Rattle.engine_world.specs.Stands.{Engine}
use Rattle.engine.specs.Directories.{HubGoesOn}
use Rattle.engine.specs.Waits.{IsAway}
use Rattle.engine.proofs.Directories.{goes-then}
use Rattle.engine_store.specs.Calls.{Basis, IsBasis, SpoiltOn}
use Rattle.engine_store.specs.GoneOut.{all_out}
use Rattle.engine_store.specs.Loads.{LeafSpoils}
use Rattle.engine_store.proofs.SpoiltLeaves.{spoils_before}

module _ {D : Type 0} (g : Ghosts D) (basis : Option Basis) where
  pub basis_on : (e e' : Engine) (before after : D) → Looked g before after → ((h : Hub) → HubGoesOn h e.hub → HubGoesOn h e'.hub) → IsBasis g basis e before → IsBasis g basis e' after
  basis_on e e' before after looked on is = by basis is
    where
      by : (b : Option Basis) → IsBasis g b e before → IsBasis g b e' after
      by None is = tt
      by (Some b) is = λ honest. let x = is (sym looked.same ∙ honest) in (looked.content ∙ x.0, x.1, on (all_out b.hub) x.2)

  pub basis_goes : (e e' : Engine) (before after : D) → Looked g before after → HubGoesOn e.hub e'.hub → IsBasis g basis e before → IsBasis g basis e' after
  basis_goes e e' before after looked goes is = basis_on e e' before after looked (λ h on. goes-then h e.hub e'.hub on goes) is

  -- the disk is not looked at
  pub basis_here : (e e' : Engine) (disk : D) → HubGoesOn e.hub e'.hub → IsBasis g basis e disk → IsBasis g basis e' disk
  basis_here e e' disk goes is = basis_goes e e' disk disk (looked_none g disk) goes is

  -- a leaf that is in no frame and at fault was so there
  pub spoilt_on : (e : Engine) (disk : D) (id at want found : ℕ) → IsBasis g basis e disk → IsDirectory e.hub.dir → IsAway e.hub.dir.leaves id → IsTrue (g.honest disk) → LeafSpoils (g.seen disk) e.hub.dir id at want found → SpoiltOn basis at want found
  spoilt_on e disk id at want found is dir away honest spoils = by basis is
    where
      by : (b : Option Basis) → IsBasis g b e disk → SpoiltOn b at want found
      by None is = tt
      by (Some b) is =
          let x = is honest in
          (id, spoils_before b.bytes b.hub e.hub id at want found x.1 dir x.2 away (subst (λ (bytes : List ℕ). LeafSpoils bytes e.hub.dir id at want found) x.0 spoils))
