use Rattle.std.proofs.Common.{◌≡◌, ◌∙◌, ap, subst, List, []}
use Rattle.std.proofs.lemmas.List.{append-nil}
use Rattle.device_layout.specs.declared.addr.Addr.{Addr}
use Rattle.device_layout.specs.declared.slot.Slot.{Slot}
use Rattle.block_mgr.specs.declared.found.Found.{Found}
use Rattle.block_mgr.specs.Open.{AreStored}
use Rattle.device_leaf.specs.Openings.{HasBooks}
use Rattle.device_leaf.proofs.Opens.{ok_map, err_map}
use Rattle.tree_open.specs.declared.place.Upper.{Upper}
use Rattle.recover_open.specs.Damage.{uppers_found}
use Rattle.recover_open.specs.Surveys.{RefusesBlocks}
use Rattle.recover_open.specs.Wholes.{whole_found}
use Rattle.recover_open.proofs.books.books.Goals as goal

no_more : (slot : Slot) (uppers : List Upper) (history : List Addr) → history ≡ [] → whole_found slot uppers history ≡ uppers_found slot uppers
no_more slot uppers history none = ap (λ (l : List Addr). whole_found slot uppers l) none ∙ append-nil (uppers_found slot uppers)

pub returns-clause-books : goal.returns-clause-books
returns-clause-books c = ok_map c.whole_books.result c.whole_books.ensures.books (λ s has. subst (λ (l : List Found). HasBooks l s) (no_more c.args.slot c.args.uppers.now c.deref.result.now (c.deref.ensures.value ∙ c.new-none.ensures.items)) has)

pub returns-clause-stored : goal.returns-clause-stored
returns-clause-stored c = ok_map c.whole_books.result c.whole_books.ensures.stored (λ s are. subst (λ (l : List Found). AreStored l c.args.len) (no_more c.args.slot c.args.uppers.now c.deref.result.now (c.deref.ensures.value ∙ c.new-none.ensures.items)) are)

pub returns-clause-err : goal.returns-clause-err
returns-clause-err c = err_map c.whole_books.result c.whole_books.ensures.err (λ e why. subst (λ (l : List Found). RefusesBlocks l c.args.len e) (no_more c.args.slot c.args.uppers.now c.deref.result.now (c.deref.ensures.value ∙ c.new-none.ensures.items)) why)
