-- What a write finds says whose the newest update is.
use Rattle.std.proofs.Common.{◌≡◌, Bool, true, false, List, [], ◌∷◌, Option, Some, None, ap, sym}
use Rattle.item.specs.declared.Change.{Change}
use Rattle.stamp.specs.declared.Version.{Version}
use Rattle.stamp.specs.declared.View.{View}
use Rattle.update_chain.specs.declared.look.Judgement.{Judgement}
use Rattle.update_chain.specs.declared.look.Judgement.TheVariants.{Allowed, Refused}
use Rattle.update_chain.specs.declared.update.Update.{Update}
use Rattle.update_chain.specs.Updates.{is_led_by, is_named, unmarked_update}
use Rattle.update_chain.specs.Writing.{judgement_by}
use Rattle.wt_calls.specs.declared.demand.Demand.{Demand}
use Rattle.wt_calls.specs.declared.demand.Demand.TheVariants.{Anything, Vacant, Occupied}
use Rattle.call_steps.specs.declared.looks.Found.{Found}
use Rattle.call_steps.specs.declared.looks.Found.TheVariants as found
use Rattle.call_steps.specs.Looks.{own_name, is_put, free_or_unmet, found_by, found_under, write_found}

abbrev led_of : Found → Bool
led_of (found.Free led) = led
led_of _ = false

free_is : (d : Demand) (there led x : Bool) → free_or_unmet d there led ≡ found.Free x → x ≡ led
free_is Anything there led x e = sym (ap led_of e)
free_is Vacant true led x e = absurd cc
free_is Vacant false led x e = sym (ap led_of e)
free_is Occupied true led x e = sym (ap led_of e)
free_is Occupied false led x e = absurd cc

over : (j : Judgement) (view : View) (d : Demand) (u : Update) (x : Bool) → found_by j view d u ≡ found.Free x → x ≡ is_named (own_name view) u
over Allowed view d u x e = free_is d (is_put u.version.change) (is_named (own_name view) u) x e
over (Refused name) view d u x e = absurd cc

under : (j : Judgement) (d : Demand) (v : Version Change) (x : Bool) → found_under j d v ≡ found.Free x → x ≡ false
under Allowed d v x e = free_is d (is_put v.change) false x e
under (Refused name) d v x e = absurd cc

pub free_found : (view : View) (d : Demand) (chain : List Update) (row : Option (Version Change)) (x : Bool) → write_found view d chain row ≡ found.Free x → x ≡ is_led_by (own_name view) chain
free_found view d [] None x e = free_is d false false x e
free_found view d [] (Some v) x e = under (judgement_by view (unmarked_update v)) d v x e
free_found view d (u ∷ older) row x e = over (judgement_by view u) view d u x e
