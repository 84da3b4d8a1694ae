-- A write of a key by its slot.
use Rattle.std.proofs.Common.{◌≡◌, ◌∙◌, ℕ, Bool, false, List, [], Some, None, sym, ap, subst, inl}
use Rattle.item.specs.declared.Change.{Change}
use Rattle.stamp.specs.declared.Name.{Name}
use Rattle.stamp.specs.declared.View.{View}
use Rattle.wt_code.specs.declared.answers.Answer.TheVariants as answer
use Rattle.wt_calls.specs.declared.demand.Demand.{Demand}
use Rattle.reconcile.specs.Shows.{shown_at}
use Rattle.update_chain.specs.declared.update.Update.{Update}
use Rattle.update_chain.specs.Updates.{installed, is_led_by}
use Rattle.leaf_chains.specs.declared.slot.KeyChain.{KeyChain}
use Rattle.leaf_chains.specs.Slots.{slot_of, chain_at, slot_changed, with_update}
use Rattle.leaf_chains.proofs.Changes.{kept_slots}
use Rattle.leaf_chains.proofs.Installs.{installed_over}
use Rattle.leaf_frame.specs.Leaf.{HeldLeaf}
use Rattle.call_steps.specs.declared.looks.Found.{Found}
use Rattle.call_steps.specs.declared.looks.Found.TheVariants as found
use Rattle.call_steps.specs.declared.stage.KeyCall.{KeyCall}
use Rattle.call_steps.specs.declared.stage.Target.{Target}
use Rattle.call_steps.specs.declared.written.WrittenKey.{WrittenKey}
use Rattle.call_steps.specs.State.{State, clears}
use Rattle.call_steps.specs.Looks.{own_name, noted, write_found, IsInstalled, AcceptedBy, FoundBy, WrittenBy}
use Rattle.call_steps.specs.SlotLooks.{IsBy}
use Rattle.call_steps.specs.Leaves.{chain_in}
use Rattle.call_steps.proofs.Newest.{chain_in_slot, no_chain}

abbrev key_in : ℕ → ℕ → WrittenKey
key_in frame slot = record { frame = frame; slot = slot }

-- the leaf with these chains over the rows of its page
abbrev chained : HeldLeaf → List KeyChain → HeldLeaf
chained leaf slots = record leaf { chains = slots }

-- ---- what is found

pub in_slot : (view : View) (demand : Demand) (key lent : List ℕ) (leaf : HeldLeaf) (slot : ℕ) (r f : Found) → slot_of key leaf.chains ≡ Some slot → lent ≡ key → r ≡ write_found view demand (chain_in leaf.chains slot) (shown_at lent leaf.page) → r ≡ f
    → write_found view demand (chain_at key leaf.chains) (shown_at key leaf.page) ≡ f
in_slot view demand key lent leaf slot r f there same e is =
    let own = ap (λ (k : List ℕ). write_found view demand (chain_in leaf.chains slot) (shown_at k leaf.page)) same in
    let chain = ap (λ (c : List Update). write_found view demand c (shown_at key leaf.page)) (chain_in_slot key leaf.chains slot there) in
    sym (e ∙ (own ∙ chain)) ∙ is

-- without a slot the row decides
pub in_row : (view : View) (demand : Demand) (key : List ℕ) (leaf : HeldLeaf) (f : Found) → slot_of key leaf.chains ≡ None → write_found view demand [] (shown_at key leaf.page) ≡ f → write_found view demand (chain_at key leaf.chains) (shown_at key leaf.page) ≡ f
in_row view demand key leaf f none is = ap (λ (c : List Update). write_found view demand c (shown_at key leaf.page)) (no_chain key leaf.chains none) ∙ is

pub by_found : (view : View) (call : KeyCall) (target : Target) (demand : Demand) (change : Change) (leaf : HeldLeaf) (s : State) (leaf' : HeldLeaf) (s' : State) (f : Found)
    → write_found view demand (chain_at s.key leaf.chains) (shown_at s.key leaf.page) ≡ f → FoundBy f (own_name view) call target change leaf s leaf' s' → WrittenBy view call target demand change leaf s leaf' s'
by_found view call target demand change leaf s leaf' s' f e h = subst (λ (g : Found). FoundBy g (own_name view) call target change leaf s leaf' s') (sym e) h

-- ---- a new key

pub added_new : (view : View) (call : KeyCall) (target : Target) (demand : Demand) (u : Update) (leaf leaf' : HeldLeaf) (s middle s' : State) (slot : ℕ) (led : Bool) → write_found view demand [] (shown_at s.key leaf.page) ≡ found.Free led → IsBy (own_name view) u
    → slot_of s.key leaf.chains ≡ None → leaf' ≡ chained leaf (with_update s.key u leaf.chains) → slot_of s.key leaf'.chains ≡ Some slot
    → middle ≡ noted false (key_in target.frame slot) s → s' ≡ clears call target answer.Done middle
    → WrittenBy view call target demand u.version.change leaf s leaf' s'
added_new view call target demand u leaf leaf' s middle s' slot led free own none with there note clear =
    let name = own_name view in
    let change = u.version.change in
    let unled : is_led_by name (chain_at s.key leaf.chains) ≡ false = ap (is_led_by name) (no_chain s.key leaf.chains none) in
    let installs : IsInstalled name target.frame change (is_led_by name (chain_at s.key leaf.chains)) leaf s leaf' middle = record {
      slot = slot;
      leaf_is = with ∙ ap (λ (v : Update). chained leaf (with_update s.key v leaf.chains)) own;
      there = there;
      state = note ∙ ap (λ (l : Bool). noted l (key_in target.frame slot) s) (sym unled);
    } in
    by_found view call target demand change leaf s leaf' s' (found.Free led) (in_row view demand s.key leaf (found.Free led) none free) (inl (middle, installs, clear))

-- ---- a key that has a slot

pub accepted : (name : Name) (call : KeyCall) (target : Target) (u : Update) (led : Bool) (leaf leaf' : HeldLeaf) (s middle s' : State) (slot : ℕ) → IsBy name u
    → slot_of s.key leaf.chains ≡ Some slot → led ≡ is_led_by name (chain_at s.key leaf.chains) → leaf' ≡ chained leaf (slot_changed slot (installed u) leaf.chains)
    → middle ≡ noted led (key_in target.frame slot) s → s' ≡ clears call target answer.Done middle
    → AcceptedBy name call target u.version.change leaf s leaf' s'
accepted name call target u led leaf leaf' s middle s' slot own there led_is over note clear =
    let slots = leaf.chains in
    let installs : IsInstalled name target.frame u.version.change (is_led_by name (chain_at s.key slots)) leaf s leaf' middle = record {
      slot = slot;
      leaf_is = over ∙ ap (chained leaf) (installed_over s.key u slots slot there ∙ ap (λ (v : Update). with_update s.key v slots) own);
      there = ap (λ (l : HeldLeaf). slot_of s.key l.chains) over ∙ (kept_slots s.key (installed u) slots slot ∙ there);
      state = note ∙ ap (λ (l : Bool). noted l (key_in target.frame slot) s) led_is;
    } in
    inl (middle, installs, clear)
