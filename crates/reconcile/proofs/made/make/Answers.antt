use Rattle.std.proofs.Common.{◌≡◌, ◌∙◌, ◌++◌, List, ◌∷◌, map, refl, ap, sym}
use Rattle.std.specs.Prelude.{filter}
use Rattle.std.proofs.lemmas.Result.{on_ok_weaker}
use Rattle.kv_model.specs.History.{down_to}
use Rattle.row_page.specs.Rows.{Row}
use Rattle.row_page.specs.Views.{row_seen}
use Rattle.leaf_rows.specs.Rows.{AreFit}
use Rattle.reconcile.specs.Held.{lives, passes}
use Rattle.reconcile.specs.Making.{MadeTo, left}
use Rattle.reconcile.specs.Merged.{all_kept, moved_row}
use Rattle.reconcile.proofs.Making.{first_fits, more_lives, none_lives, past_lives}
use Rattle.reconcile.proofs.made.make.Goals as goal

pub returns-in_default : goal.returns-in_default
returns-in_default c = λ rest all fit to.
    none_lives c.args.rule.now c.args.making.now (left c.args.held) rest all
    (c.in_default.ensures.after ∙ ap (λ (k : List Row). filter (λ (r : Row). lives c.args.rule.now.live r.1.window) k) c.in_default.ensures.ends) fit to

pub push-requires : goal.push-requires
push-requires c =
    first_fits (λ (r : Row). lives c.args.rule.now.live r.1.window) (left c.args.held) (row_seen c.in-Some.newest) (filter (λ (r : Row). lives c.args.rule.now.live r.1.window) (left c.next_live.new.self)) c.in-Some.ensures.after c.requires

pub returns-then-is_past : goal.returns-then-is_past
returns-then-is_past c = λ rest all fit to.
    past_lives c.args.rule.now c.args.making.now (record { images = c.push.new.self; moved = c.args.making.now.moved }) (left c.args.held) (row_seen c.in-Some.newest)
    (filter (λ (r : Row). lives c.args.rule.now.live r.1.window) (left c.next_live.new.self)) rest all c.in-Some.ensures.after (sym c.is_past.ensures ∙ c.if-is_past.true) c.in_ok-push.ensures refl fit to

pub returns : goal.returns
returns c =
    let alive = filter (λ (r : Row). lives c.args.rule.now.live r.1.window) (left c.next_live.new.self) in
    on_ok_weaker c.move_rest.result
    (λ (moves : c.move_rest.new.moved.items ≡ c.args.making.now.moved.items ++ map moved_row (down_to (λ (r : Row). passes c.args.rule.now.pin c.args.rule.now.floor r.1.window) alive)) (rest : List (List Row)) (all : List (List Row)) (fit : AreFit (all_kept c.args.rule.now.live all)) (to : MadeTo c.args.rule.now c.args.making.now (left c.args.held ∷ rest) all).
    more_lives c.args.rule.now c.args.making.now (record { images = c.push.new.self; moved = c.move_rest.new.moved }) (left c.args.held) (row_seen c.in-Some.newest) alive rest all c.in-Some.ensures.after (sym c.is_past.ensures ∙ c.if-is_past.false) c.in_ok-push.ensures moves fit to)
    c.move_rest.ensures
