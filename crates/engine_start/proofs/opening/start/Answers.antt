use Rattle.std.proofs.Common.{◌≡◌, ◌+◌, ◌∙◌, max, ap, arith}
use Rattle.std.specs.Prelude.{IfOk}
use Rattle.std.proofs.lemmas.Result.{IfOk-weaker}
use Rattle.kv_model.specs.Content.{descending, table_lt}
use Rattle.call_steps.specs.declared.hub.Hub.{Hub}
use Rattle.engine_world.specs.Stands.{Engine, Stands}
use Rattle.engine_world.specs.Systems.{first_world}
use Rattle.engine.specs.Openings.{IsOpened}
use Rattle.engine_start.specs.Entries.{IsUnread, StartsOn}
use Rattle.engine_start.proofs.Placing.{count_known, leaves_owned}
use Rattle.engine_start.proofs.Starting.{is_unread, on_its_own}
use Rattle.engine_start.proofs.opening.start.Goals as goal

pub open-requires-2-clause-numbers : goal.open-requires-2-clause-numbers
open-requires-2-clause-numbers c =
    let count = count_known c.args.tables.items c.in_ok-known.known.tables (c.in_ok-known.ensures.tables ∙ ap (descending table_lt) c.in_ok-parted.ensures.tables) in
    let next : c.in_ok-known.known.next ≡ max c.args.next_table 1 = c.in_ok-known.ensures.next in
    let numbers = c.requires.numbers in
    omega arith

pub open-requires-2-clause-owned : goal.open-requires-2-clause-owned
open-requires-2-clause-owned c =
    leaves_owned c.args.tables.items c.in_ok-known.known.tables c.in_ok-parted.parted.dir (c.in_ok-known.ensures.tables ∙ ap (descending table_lt) c.in_ok-parted.ensures.tables) c.in_ok-parted.ensures.added

-- what holds of the engine that was opened
told : (c : goal.After-open-2) (Q : Engine → Type 0) → ((l : Engine) → IsOpened (c.args.marks.run + 1) c.args.marks.oldest c.args.marks.stable c.in_ok-known.known c.in_ok-parted.parted.dir l → Q l) → IfOk c.open-2.result Q
told c Q each = IfOk-weaker c.open-2.result (λ (l : Engine). IsOpened (c.args.marks.run + 1) c.args.marks.oldest c.args.marks.stable c.in_ok-known.known c.in_ok-parted.parted.dir l) Q each c.open-2.ensures.opened

unread : (c : goal.After-open-2) (l : Engine) → IsOpened (c.args.marks.run + 1) c.args.marks.oldest c.args.marks.stable c.in_ok-known.known c.in_ok-parted.parted.dir l → IsUnread c.args.marks c.args.tables.items l
unread c l is = is_unread c.args.marks c.in_ok-known.known c.in_ok-parted.parted.dir l is c.args.tables.items
    c.len-count.ensures.tables (c.in_ok-known.ensures.tables ∙ ap (descending table_lt) c.in_ok-parted.ensures.tables) c.stands.ensures c.in_ok-parted.ensures.added

pub returns-clause-unread : goal.returns-clause-unread
returns-clause-unread c = told c (λ (l : Engine). IsUnread c.args.marks c.args.tables.items l) (λ l is. unread c l is)

pub returns-clause-opened : goal.returns-clause-opened
returns-clause-opened c = told c (λ (l : Engine). IsOpened (c.args.marks.run + 1) c.args.marks.oldest c.args.marks.stable l.hub.tables l.hub.dir l) (λ l is. on_its_own c.args.marks c.in_ok-known.known c.in_ok-parted.parted.dir l is)

pub returns-clause-next : goal.returns-clause-next
returns-clause-next c = told c (λ (l : Engine). l.hub.tables.next ≡ max c.args.next_table 1) (λ l is. ap (λ (h : Hub). h.tables.next) is.hub ∙ c.in_ok-known.ensures.next)

pub returns-clause-stands : goal.returns-clause-stands
returns-clause-stands c = λ led content shelf records parted is regular. told c
    (λ (l : Engine). StartsOn content shelf records l → Stands l (first_world content shelf records l))
    (λ l opened starts. c.unread_stand.ensures c.args.marks led content shelf records c.args.tables.items l c.requires.recorded.once parted (unread c l opened) is regular starts)
