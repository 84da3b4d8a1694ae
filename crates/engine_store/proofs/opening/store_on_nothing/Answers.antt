use Rattle.std.proofs.Common.{◌≡◌, ◌∙◌, None, List, [], ap, refl, subst, arith}
use Rattle.std.specs.List.{Contains}
use Rattle.kv_model.specs.Content.{nothing}
use Rattle.row_page.specs.Greatest.{no_name}
use Rattle.catalog.specs.Known.{Known}
use Rattle.tree_dir.specs.declared.leaf.Leaf.{Leaf}
use Rattle.tree_dir.specs.Leaves.{Directory, IsDirectory}
use Rattle.call_steps.specs.declared.hub.Hub.{Hub}
use Rattle.engine_store.specs.declared.store.Store.{Store}
use Rattle.engine_store.proofs.AllOut.{hub_out}
use Rattle.engine_store.proofs.Founds.{found_none}
use Rattle.engine_store.proofs.HubsGo.{goes_same}
use Rattle.engine_store.proofs.Nothing.{no_records, no_shelf, nothing_is_base, nothing_is_regular}
use Rattle.engine_store.proofs.opening.store_on_nothing.Goals as goal

pub returns-clause-found : goal.returns-clause-found
returns-clause-found c = λ bytes keeps.
    let s : Store = record { engine = c.in_ok-engine.engine; ground = record { place = c.args.place; number = 0; trees = c.new-3.result; parts = c.new-4.result; lives = c.new-5.result; history = c.new-6.result; kept = c.new-7.result; floor = no_name }; running = None; frames = c.args.frames; clock = c.new-8.result } in
    let known : s.engine.hub.tables.tables ≡ [] = ap (λ (h : Hub). h.tables.tables) c.in_ok-engine.ensures.opened.hub ∙ ap (λ (k : Known). k.tables) c.new.ensures in
    let bare : s.engine.hub.dir.leaves ≡ [] = ap (λ (h : Hub). h.dir.leaves) c.in_ok-engine.ensures.opened.hub ∙ ap (λ (d : Directory). d.leaves) c.new-2.ensures in
    found_none bytes s keeps refl refl c.new-3.ensures.items c.new-4.ensures refl c.new-5.ensures c.new-6.ensures.items c.new-7.ensures known bare (c.in_ok-engine.ensures.stands nothing no_shelf no_records nothing_is_regular (nothing_is_base c.new.result c.new-2.result c.new.ensures c.new-2.ensures))

pub returns-clause-bare : goal.returns-clause-bare
returns-clause-bare c = ap (λ (h : Hub). h.dir.leaves) c.in_ok-engine.ensures.opened.hub ∙ ap (λ (d : Directory). d.leaves) c.new-2.ensures

pub returns-clause-outset : goal.returns-clause-outset
returns-clause-outset c =
    let h = c.in_ok-engine.engine.hub in
    let bare : h.dir.leaves ≡ [] = ap (λ (x : Hub). x.dir.leaves) c.in_ok-engine.ensures.opened.hub ∙ ap (λ (d : Directory). d.leaves) c.new-2.ensures in
    (subst IsDirectory c.leaves.ensures.are c.leaves.ensures.stand, hub_out h h (goes_same h (λ l there. let nothing_there : Contains [] l = subst (λ (ls : List Leaf). Contains ls l) bare there in absurd (omega (arith, nothing_there.1)))))
