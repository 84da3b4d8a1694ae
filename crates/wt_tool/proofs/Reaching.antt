-- What an opening of an engine found on the device.
use Rattle.std.specs.Prelude.{◌≡◌, ℕ, List, [], IfOk, OnOk, IsTrue, Some, Result, Ok, Err}
use Rattle.std.proofs.Common.{inl, inr, refl, sym, subst}
use Rattle.disk_model.specs.declared.disk.Disk.{Ghosts}
use Rattle.wt_code.specs.declared.refusals.Refusal.{Refusal}
use Rattle.kv_model.specs.Content.{Content, IsLayered}
use Rattle.stored.specs.Stored.{Reads}
use Rattle.device_read.specs.Readers.{held_of}
use Rattle.engine_store.specs.declared.eviction.TheConstants.{FRAMES}
use Rattle.engine_store.specs.declared.frames.Frames.TheVariants.{Soft}
use Rattle.engine_store.specs.declared.store.Store.{Store}
use Rattle.engine_store.specs.Calls.{IsBasis, basis_of}
use Rattle.engine_store.specs.Opened.{IsOpened, IsSurveyable, SpoilsAreThere}
use Rattle.wt_tool.specs.Parts.{IsOpenedOn}
use Rattle.wt_tool.specs.Top.{IsReadable}

-- the record, the inner pages and the history are what a reader reads too
surveyed_reads : (bytes : List ℕ) → IsSurveyable bytes → IsReadable bytes
surveyed_reads bytes (inl blank) = (record { tables = []; uppers = []; marks = record { run = 0; oldest = 0; stable = 0; min = 0; max = 0 }; ids = []; newest = [] }, inl (blank, (refl, refl, refl)))
surveyed_reads bytes (inr (place, w, surveyed)) = (held_of w, inr (place, w, surveyed, refl))

pub readable : {T E : Type 0} (bytes : List ℕ) (result : Result T E) → OnOk result (IsSurveyable bytes) → OnOk result (IsReadable bytes)
readable bytes (Ok x) is = surveyed_reads bytes is
readable bytes (Err e) is = tt

-- the store, on a disk that was looked at since
pub opened_on : {D : Type 0} (g : Ghosts D) (old new : D) (result : Result Store Refusal) → g.seen new ≡ g.seen old → ((content : Content) → Reads (g.seen old) content → IsLayered content → IfOk result (IsOpened (g.seen new) (g.may_leave new))) → IfOk result (SpoilsAreThere (g.seen old))
    → IsTrue (g.honest new) → IfOk result (λ s. IsBasis g (Some (basis_of g s new)) s.engine new) → IfOk result (λ s. s.frames ≡ Soft FRAMES) → IfOk result (IsOpenedOn g new)
opened_on g old new (Ok s) same opens spoils honest basis soft = record {
  reads = λ content has layered. opens content (subst (λ (l : List ℕ). Reads l content) same has) layered;
  spoils = subst (λ (l : List ℕ). SpoilsAreThere l s) (sym same) spoils;
  outset = let begun = basis honest in (begun.1, begun.2);
  soft = soft;
}
opened_on g old new (Err r) same opens spoils honest basis soft = tt
