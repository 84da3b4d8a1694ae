use Rattle.std.proofs.Common.{◌≡◌, ◌≢◌, ◌++◌, ℕ, refl, ap, sym, ◌∙◌, List, [], ◌∷◌, length, get_or, subst}
use Rattle.std.specs.Prelude.{Some}
use Rattle.std.proofs.lemmas.List.Elements.{Contains-get_or}
use Rattle.wt_code.specs.declared.answers.Answer.TheVariants as answers
use Rattle.wt_code.specs.declared.refusals.Refusal.TheVariants.{NoMemory}
use Rattle.kv_model.specs.Calls.{Create}
use Rattle.kv_model.specs.History.{Table}
use Rattle.tree_dir.specs.Leaves.{Directory}
use Rattle.catalog.specs.Creates.{IsCreated, asked}
use Rattle.catalog.specs.Known.{Known}
use Rattle.catalog.specs.declared.created.Created.{Created}
use Rattle.catalog.specs.declared.created.Created.TheVariants.{New, Same}
use Rattle.leaf_frame.specs.Leaf.{HeldLeaf}
use Rattle.call_steps.specs.declared.frame.FramePiece.{FramePiece}
use Rattle.call_steps.specs.declared.hub.Hub.{Hub}
use Rattle.call_steps.specs.Tables.{filled}
use Rattle.engine_world.specs.Stands.{Engine, Stands}
use Rattle.engine_world.specs.Systems.{HasFirstLeaf, first_piece}
use Rattle.engine_world.specs.Worlds.{World}
use Rattle.engine.specs.Directories.{HubGoesOn}
use Rattle.engine.specs.Frames.{piece_of}
use Rattle.engine.specs.Sound.{IsSound}
use Rattle.engine.specs.Systems.{Makes}
use Rattle.engine.proofs.Directories.{goes-more, goes-same, goes-with}
use Rattle.engine.proofs.SystemEvents.{CreateLaws, create-down, create-new, create-refused, create-same, create-short, created, new-sound, none-yet}
use Rattle.engine.proofs.SystemTold.{create-refusal-own}
use Rattle.engine.proofs.parts.Parts.create.Goals as goal

pub returns-in-Some-clause-makes : goal.returns-in-Some-clause-makes
returns-in-Some-clause-makes c = λ w st. create-down laws c.args.self.now w c.args.name.now c.args.formats c.in-Some.fault st (subst (λ (x : Engine). x.hub.fault ≡ Some c.in-Some.fault) c.self.view_is c.in-Some.is) where
  laws : CreateLaws
  laws = record { goes = c.creates_go.ensures; judged_as = c.creates_are_judged.ensures; suits = c.creates_suit.ensures }

pub returns-in-Err-clause-makes : goal.returns-in-Err-clause-makes
returns-in-Err-clause-makes c = λ w st. roomy e.hub (λ (x : Engine). Makes x w (Create c.args.name.now c.args.formats) (answers.Refused NoMemory)) (create-short e w c.args.name.now c.args.formats (stands w st)) where
  e : Engine
  e = record { hub = c.self.inside.hub; pieces = c.self.inside.pieces.items; states = c.self.inside.states.items; hazards = c.self.inside.hazards.items; sessions = c.self.inside.sessions.items; systems = c.self.inside.systems.items }

  -- room for a frame changes nothing
  roomy : (h : Hub) (Holds : Engine → Type 0) → Holds (record e { hub = h }) → Holds (record e { hub = h; pieces = c.room_for_one.new.pieces.items; states = c.room_for_one.new.states.items })
  roomy h Holds holds = subst (λ (ps : List FramePiece). Holds (record e { hub = h; pieces = ps; states = c.room_for_one.new.states.items })) (sym c.room_for_one.ensures.pieces)
      (subst (λ (ws : List ℕ). Holds (record e { hub = h; states = ws })) (sym c.room_for_one.ensures.states) holds)

  stands : (w : World) → Stands c.args.self.now w → Stands e w
  stands w st = subst (λ (x : Engine). Stands x w) (sym c.self.view_is) st

pub returns-in-Err-clause-sound : goal.returns-in-Err-clause-sound
returns-in-Err-clause-sound c = roomy e.hub (λ (x : Engine). IsSound x) sound where
  e : Engine
  e = record { hub = c.self.inside.hub; pieces = c.self.inside.pieces.items; states = c.self.inside.states.items; hazards = c.self.inside.hazards.items; sessions = c.self.inside.sessions.items; systems = c.self.inside.systems.items }

  -- room for a frame changes nothing
  roomy : (h : Hub) (Holds : Engine → Type 0) → Holds (record e { hub = h }) → Holds (record e { hub = h; pieces = c.room_for_one.new.pieces.items; states = c.room_for_one.new.states.items })
  roomy h Holds holds = subst (λ (ps : List FramePiece). Holds (record e { hub = h; pieces = ps; states = c.room_for_one.new.states.items })) (sym c.room_for_one.ensures.pieces)
      (subst (λ (ws : List ℕ). Holds (record e { hub = h; states = ws })) (sym c.room_for_one.ensures.states) holds)

  sound : IsSound e
  sound = subst (λ (x : Engine). IsSound x) (sym c.self.view_is) c.requires

pub returns-in-Err-create-clause-makes : goal.returns-in-Err-create-clause-makes
returns-in-Err-create-clause-makes c = λ w st. roomy (record e.hub { tables = c.create.new.self }) (λ (x : Engine). Makes x w (Create c.args.name.now c.args.formats) (answers.Refused c.in-Err-create.refusal))
    (subst (λ (k : Known). Makes (record e { hub = record e.hub { tables = k } }) w (Create c.args.name.now c.args.formats) (answers.Refused c.in-Err-create.refusal)) (sym c.in-Err-create.ensures.kept)
    (create-refused laws e w c.args.name.now c.args.formats c.in-Err-create.refusal sound (stands w st) c.in_default.is c.in-Err-create.ensures.refused)) where
      e : Engine
      e = record { hub = c.self.inside.hub; pieces = c.self.inside.pieces.items; states = c.self.inside.states.items; hazards = c.self.inside.hazards.items; sessions = c.self.inside.sessions.items; systems = c.self.inside.systems.items }

      -- room for a frame changes nothing
      roomy : (h : Hub) (Holds : Engine → Type 0) → Holds (record e { hub = h }) → Holds (record e { hub = h; pieces = c.room_for_one.new.pieces.items; states = c.room_for_one.new.states.items })
      roomy h Holds holds = subst (λ (ps : List FramePiece). Holds (record e { hub = h; pieces = ps; states = c.room_for_one.new.states.items })) (sym c.room_for_one.ensures.pieces)
          (subst (λ (ws : List ℕ). Holds (record e { hub = h; states = ws })) (sym c.room_for_one.ensures.states) holds)

      stands : (w : World) → Stands c.args.self.now w → Stands e w
      stands w st = subst (λ (x : Engine). Stands x w) (sym c.self.view_is) st

      sound : IsSound e
      sound = subst (λ (x : Engine). IsSound x) (sym c.self.view_is) c.requires

      laws : CreateLaws
      laws = record { goes = c.creates_go.ensures; judged_as = c.creates_are_judged.ensures; suits = c.creates_suit.ensures }

pub returns-in-Err-create-clause-sound : goal.returns-in-Err-create-clause-sound
returns-in-Err-create-clause-sound c = roomy (record e.hub { tables = c.create.new.self }) (λ (x : Engine). IsSound x) (subst (λ (k : Known). IsSound (record e { hub = record e.hub { tables = k } })) (sym c.in-Err-create.ensures.kept) sound) where
  e : Engine
  e = record { hub = c.self.inside.hub; pieces = c.self.inside.pieces.items; states = c.self.inside.states.items; hazards = c.self.inside.hazards.items; sessions = c.self.inside.sessions.items; systems = c.self.inside.systems.items }

  -- room for a frame changes nothing
  roomy : (h : Hub) (Holds : Engine → Type 0) → Holds (record e { hub = h }) → Holds (record e { hub = h; pieces = c.room_for_one.new.pieces.items; states = c.room_for_one.new.states.items })
  roomy h Holds holds = subst (λ (ps : List FramePiece). Holds (record e { hub = h; pieces = ps; states = c.room_for_one.new.states.items })) (sym c.room_for_one.ensures.pieces)
      (subst (λ (ws : List ℕ). Holds (record e { hub = h; states = ws })) (sym c.room_for_one.ensures.states) holds)

  sound : IsSound e
  sound = subst (λ (x : Engine). IsSound x) (sym c.self.view_is) c.requires

pub returns-in-Ok-Same-clause-makes : goal.returns-in-Ok-Same-clause-makes
returns-in-Ok-Same-clause-makes c = λ w st. roomy (record e.hub { tables = c.create.new.self }) (λ (x : Engine). Makes x w (Create c.args.name.now c.args.formats) answers.Done)
    (subst (λ (k : Known). Makes (record e { hub = record e.hub { tables = k } }) w (Create c.args.name.now c.args.formats) answers.Done) (sym made.2)
    (create-same laws e w c.args.name.now c.args.formats (stands w st) c.in_default.is made.0)) where
      e : Engine
      e = record { hub = c.self.inside.hub; pieces = c.self.inside.pieces.items; states = c.self.inside.states.items; hazards = c.self.inside.hazards.items; sessions = c.self.inside.sessions.items; systems = c.self.inside.systems.items }

      -- room for a frame changes nothing
      roomy : (h : Hub) (Holds : Engine → Type 0) → Holds (record e { hub = h }) → Holds (record e { hub = h; pieces = c.room_for_one.new.pieces.items; states = c.room_for_one.new.states.items })
      roomy h Holds holds = subst (λ (ps : List FramePiece). Holds (record e { hub = h; pieces = ps; states = c.room_for_one.new.states.items })) (sym c.room_for_one.ensures.pieces)
          (subst (λ (ws : List ℕ). Holds (record e { hub = h; states = ws })) (sym c.room_for_one.ensures.states) holds)

      stands : (w : World) → Stands c.args.self.now w → Stands e w
      stands w st = subst (λ (x : Engine). Stands x w) (sym c.self.view_is) st

      laws : CreateLaws
      laws = record { goes = c.creates_go.ensures; judged_as = c.creates_are_judged.ensures; suits = c.creates_suit.ensures }

      made : IsCreated e.hub.tables (asked e.hub.tables c.args.name.now c.args.formats) c.create.new.self (Same c.in-Ok-Same.field-0-0)
      made = subst (λ (x : Created). IsCreated e.hub.tables (asked e.hub.tables c.args.name.now c.args.formats) c.create.new.self x) c.in-Ok-Same.field-0-is c.in-Ok-Same.ensures.created

pub returns-in-Ok-Same-clause-sound : goal.returns-in-Ok-Same-clause-sound
returns-in-Ok-Same-clause-sound c = roomy (record e.hub { tables = c.create.new.self }) (λ (x : Engine). IsSound x) (subst (λ (k : Known). IsSound (record e { hub = record e.hub { tables = k } })) (sym made.2) sound) where
  e : Engine
  e = record { hub = c.self.inside.hub; pieces = c.self.inside.pieces.items; states = c.self.inside.states.items; hazards = c.self.inside.hazards.items; sessions = c.self.inside.sessions.items; systems = c.self.inside.systems.items }

  -- room for a frame changes nothing
  roomy : (h : Hub) (Holds : Engine → Type 0) → Holds (record e { hub = h }) → Holds (record e { hub = h; pieces = c.room_for_one.new.pieces.items; states = c.room_for_one.new.states.items })
  roomy h Holds holds = subst (λ (ps : List FramePiece). Holds (record e { hub = h; pieces = ps; states = c.room_for_one.new.states.items })) (sym c.room_for_one.ensures.pieces)
      (subst (λ (ws : List ℕ). Holds (record e { hub = h; states = ws })) (sym c.room_for_one.ensures.states) holds)

  sound : IsSound e
  sound = subst (λ (x : Engine). IsSound x) (sym c.self.view_is) c.requires

  made : IsCreated e.hub.tables (asked e.hub.tables c.args.name.now c.args.formats) c.create.new.self (Same c.in-Ok-Same.field-0-0)
  made = subst (λ (x : Created). IsCreated e.hub.tables (asked e.hub.tables c.args.name.now c.args.formats) c.create.new.self x) c.in-Ok-Same.field-0-is c.in-Ok-Same.ensures.created

pub add_leaf-requires : goal.add_leaf-requires
add_leaf-requires c = λ i d within. subst (λ (n : ℕ). (get_or c.self.inside.hub.dir.leaves i d).table ≢ n) (sym c.next_number-number.ensures)
    (none-yet e c.len-known.ensures.tables sound (get_or e.hub.dir.leaves i d) (Contains-get_or e.hub.dir.leaves i d within)) where
      e : Engine
      e = record { hub = c.self.inside.hub; pieces = c.self.inside.pieces.items; states = c.self.inside.states.items; hazards = c.self.inside.hazards.items; sessions = c.self.inside.sessions.items; systems = c.self.inside.systems.items }

      sound : IsSound e
      sound = subst (λ (x : Engine). IsSound x) (sym c.self.view_is) c.requires

pub returns-in-Ok-add_leaf-clause-makes : goal.returns-in-Ok-add_leaf-clause-makes
returns-in-Ok-add_leaf-clause-makes c = λ w st. comes (λ (x : Engine). Makes x w (Create c.args.name.now c.args.formats) answers.Done)
    (create-new e c.args.name.now c.args.formats c.create.new.self c.add_leaf.new.dir c.in-Ok-New.field-0-0 id sound made c.len-count.ensures.tables first laws c.frames_grow.ensures c.stands-in-Ok-add_leaf.ensures c.in_default.is w (stands w st)) where
      e : Engine
      e = record { hub = c.self.inside.hub; pieces = c.self.inside.pieces.items; states = c.self.inside.states.items; hazards = c.self.inside.hazards.items; sessions = c.self.inside.sessions.items; systems = c.self.inside.systems.items }

      stands : (w : World) → Stands c.args.self.now w → Stands e w
      stands w st = subst (λ (x : Engine). Stands x w) (sym c.self.view_is) st

      sound : IsSound e
      sound = subst (λ (x : Engine). IsSound x) (sym c.self.view_is) c.requires

      laws : CreateLaws
      laws = record { goes = c.creates_go.ensures; judged_as = c.creates_are_judged.ensures; suits = c.creates_suit.ensures }

      t : Table
      t = asked e.hub.tables c.args.name.now c.args.formats

      made : IsCreated e.hub.tables t c.create.new.self (New c.in-Ok-New.field-0-0)
      made = subst (λ (x : Created). IsCreated e.hub.tables t c.create.new.self x) c.in-Ok-New.field-0-is c.in-Ok-New.ensures.created

      id : ℕ
      id = c.in-Ok-add_leaf.id

      first : HasFirstLeaf e.hub.dir c.add_leaf.new.dir t.number id (length e.pieces) 0
      first = subst (λ (f : ℕ). HasFirstLeaf e.hub.dir c.add_leaf.new.dir t.number id f 0) c.in-Ok.ensures.number
          (subst (λ (n : ℕ). HasFirstLeaf e.hub.dir c.add_leaf.new.dir n id c.in-Ok.frame 0) c.next_number-number.ensures c.in-Ok-add_leaf.ensures.first)

      pieces-are : c.push_reserved.new.self.items ≡ e.pieces ++ first_piece 0 t id ∷ []
      pieces-are = c.push_reserved.ensures.items
          ∙ (ap (λ (ps : List FramePiece). ps ++ c.piece_of.result ∷ []) c.room_for_one.ensures.pieces
          ∙ ap (λ (p : FramePiece). e.pieces ++ p ∷ []) (c.piece_of.ensures ∙ (ap (λ (l : HeldLeaf). piece_of 0 c.next_number-number.result id l) c.new-leaf.ensures ∙ ap (λ (n : ℕ). piece_of 0 n id (record { page = []; chains = [] })) c.next_number-number.ensures)))

      states-are : c.push_reserved-in-Ok-add_leaf.new.self.items ≡ e.states ++ filled 0 ∷ []
      states-are = c.push_reserved-in-Ok-add_leaf.ensures.items ∙ (ap (λ (ws : List ℕ). ws ++ c.filled.result ∷ []) c.room_for_one.ensures.states ∙ ap (λ (n : ℕ). e.states ++ n ∷ []) c.filled.ensures)

      -- the engine that is left
      comes : (Holds : Engine → Type 0) → Holds (created e c.create.new.self c.add_leaf.new.dir t id)
          → Holds (record e { hub = record e.hub { tables = c.create.new.self; dir = c.add_leaf.new.dir }; pieces = c.push_reserved.new.self.items; states = c.push_reserved-in-Ok-add_leaf.new.self.items })
      comes Holds holds = subst (λ (ps : List FramePiece). Holds (record (created e c.create.new.self c.add_leaf.new.dir t id) { pieces = ps; states = c.push_reserved-in-Ok-add_leaf.new.self.items })) (sym pieces-are)
          (subst (λ (ws : List ℕ). Holds (record (created e c.create.new.self c.add_leaf.new.dir t id) { states = ws })) (sym states-are) holds)

pub returns-in-Ok-add_leaf-clause-sound : goal.returns-in-Ok-add_leaf-clause-sound
returns-in-Ok-add_leaf-clause-sound c = comes (λ (x : Engine). IsSound x)
    (new-sound e c.args.name.now c.args.formats c.create.new.self c.add_leaf.new.dir c.in-Ok-New.field-0-0 id sound made c.len-count.ensures.tables first c.len-known.ensures.tables c.stands.ensures) where
      e : Engine
      e = record { hub = c.self.inside.hub; pieces = c.self.inside.pieces.items; states = c.self.inside.states.items; hazards = c.self.inside.hazards.items; sessions = c.self.inside.sessions.items; systems = c.self.inside.systems.items }

      sound : IsSound e
      sound = subst (λ (x : Engine). IsSound x) (sym c.self.view_is) c.requires

      t : Table
      t = asked e.hub.tables c.args.name.now c.args.formats

      made : IsCreated e.hub.tables t c.create.new.self (New c.in-Ok-New.field-0-0)
      made = subst (λ (x : Created). IsCreated e.hub.tables t c.create.new.self x) c.in-Ok-New.field-0-is c.in-Ok-New.ensures.created

      id : ℕ
      id = c.in-Ok-add_leaf.id

      first : HasFirstLeaf e.hub.dir c.add_leaf.new.dir t.number id (length e.pieces) 0
      first = subst (λ (f : ℕ). HasFirstLeaf e.hub.dir c.add_leaf.new.dir t.number id f 0) c.in-Ok.ensures.number
          (subst (λ (n : ℕ). HasFirstLeaf e.hub.dir c.add_leaf.new.dir n id c.in-Ok.frame 0) c.next_number-number.ensures c.in-Ok-add_leaf.ensures.first)

      pieces-are : c.push_reserved.new.self.items ≡ e.pieces ++ first_piece 0 t id ∷ []
      pieces-are = c.push_reserved.ensures.items
          ∙ (ap (λ (ps : List FramePiece). ps ++ c.piece_of.result ∷ []) c.room_for_one.ensures.pieces
          ∙ ap (λ (p : FramePiece). e.pieces ++ p ∷ []) (c.piece_of.ensures ∙ (ap (λ (l : HeldLeaf). piece_of 0 c.next_number-number.result id l) c.new-leaf.ensures ∙ ap (λ (n : ℕ). piece_of 0 n id (record { page = []; chains = [] })) c.next_number-number.ensures)))

      states-are : c.push_reserved-in-Ok-add_leaf.new.self.items ≡ e.states ++ filled 0 ∷ []
      states-are = c.push_reserved-in-Ok-add_leaf.ensures.items ∙ (ap (λ (ws : List ℕ). ws ++ c.filled.result ∷ []) c.room_for_one.ensures.states ∙ ap (λ (n : ℕ). e.states ++ n ∷ []) c.filled.ensures)

      -- the engine that is left
      comes : (Holds : Engine → Type 0) → Holds (created e c.create.new.self c.add_leaf.new.dir t id)
          → Holds (record e { hub = record e.hub { tables = c.create.new.self; dir = c.add_leaf.new.dir }; pieces = c.push_reserved.new.self.items; states = c.push_reserved-in-Ok-add_leaf.new.self.items })
      comes Holds holds = subst (λ (ps : List FramePiece). Holds (record (created e c.create.new.self c.add_leaf.new.dir t id) { pieces = ps; states = c.push_reserved-in-Ok-add_leaf.new.self.items })) (sym pieces-are)
          (subst (λ (ws : List ℕ). Holds (record (created e c.create.new.self c.add_leaf.new.dir t id) { states = ws })) (sym states-are) holds)

pub returns-in-Err-add_leaf-clause-makes : goal.returns-in-Err-add_leaf-clause-makes
returns-in-Err-add_leaf-clause-makes c = λ w st. roomy (record e.hub { tables = c.take_back.new.self; dir = c.add_leaf.new.dir }) (λ (x : Engine). Makes x w (Create c.args.name.now c.args.formats) (answers.Refused NoMemory))
    (subst (λ (k : Known). Makes (record e { hub = record e.hub { tables = k; dir = c.add_leaf.new.dir } }) w (Create c.args.name.now c.args.formats) (answers.Refused NoMemory)) (sym back)
    (subst (λ (d : Directory). Makes (record e { hub = record e.hub { dir = d } }) w (Create c.args.name.now c.args.formats) (answers.Refused NoMemory)) (sym c.in-Err-add_leaf.ensures.kept)
    (create-short e w c.args.name.now c.args.formats (stands w st)))) where
      e : Engine
      e = record { hub = c.self.inside.hub; pieces = c.self.inside.pieces.items; states = c.self.inside.states.items; hazards = c.self.inside.hazards.items; sessions = c.self.inside.sessions.items; systems = c.self.inside.systems.items }

      -- room for a frame changes nothing
      roomy : (h : Hub) (Holds : Engine → Type 0) → Holds (record e { hub = h }) → Holds (record e { hub = h; pieces = c.room_for_one.new.pieces.items; states = c.room_for_one.new.states.items })
      roomy h Holds holds = subst (λ (ps : List FramePiece). Holds (record e { hub = h; pieces = ps; states = c.room_for_one.new.states.items })) (sym c.room_for_one.ensures.pieces)
          (subst (λ (ws : List ℕ). Holds (record e { hub = h; states = ws })) (sym c.room_for_one.ensures.states) holds)

      stands : (w : World) → Stands c.args.self.now w → Stands e w
      stands w st = subst (λ (x : Engine). Stands x w) (sym c.self.view_is) st

      t : Table
      t = asked e.hub.tables c.args.name.now c.args.formats

      made : IsCreated e.hub.tables t c.create.new.self (New c.in-Ok-New.field-0-0)
      made = subst (λ (x : Created). IsCreated e.hub.tables t c.create.new.self x) c.in-Ok-New.field-0-is c.in-Ok-New.ensures.created

      back : c.take_back.new.self ≡ e.hub.tables
      back = c.take_back.ensures e.hub.tables t made.2

pub returns-in-Err-add_leaf-clause-sound : goal.returns-in-Err-add_leaf-clause-sound
returns-in-Err-add_leaf-clause-sound c = roomy (record e.hub { tables = c.take_back.new.self; dir = c.add_leaf.new.dir }) (λ (x : Engine). IsSound x)
    (subst (λ (k : Known). IsSound (record e { hub = record e.hub { tables = k; dir = c.add_leaf.new.dir } })) (sym back)
    (subst (λ (d : Directory). IsSound (record e { hub = record e.hub { dir = d } })) (sym c.in-Err-add_leaf.ensures.kept) sound)) where
      e : Engine
      e = record { hub = c.self.inside.hub; pieces = c.self.inside.pieces.items; states = c.self.inside.states.items; hazards = c.self.inside.hazards.items; sessions = c.self.inside.sessions.items; systems = c.self.inside.systems.items }

      -- room for a frame changes nothing
      roomy : (h : Hub) (Holds : Engine → Type 0) → Holds (record e { hub = h }) → Holds (record e { hub = h; pieces = c.room_for_one.new.pieces.items; states = c.room_for_one.new.states.items })
      roomy h Holds holds = subst (λ (ps : List FramePiece). Holds (record e { hub = h; pieces = ps; states = c.room_for_one.new.states.items })) (sym c.room_for_one.ensures.pieces)
          (subst (λ (ws : List ℕ). Holds (record e { hub = h; states = ws })) (sym c.room_for_one.ensures.states) holds)

      sound : IsSound e
      sound = subst (λ (x : Engine). IsSound x) (sym c.self.view_is) c.requires

      t : Table
      t = asked e.hub.tables c.args.name.now c.args.formats

      made : IsCreated e.hub.tables t c.create.new.self (New c.in-Ok-New.field-0-0)
      made = subst (λ (x : Created). IsCreated e.hub.tables t c.create.new.self x) c.in-Ok-New.field-0-is c.in-Ok-New.ensures.created

      back : c.take_back.new.self ≡ e.hub.tables
      back = c.take_back.ensures e.hub.tables t made.2

-- ---- the tables and the leaves go on

pub returns-in-Some-clause-goes : goal.returns-in-Some-clause-goes
returns-in-Some-clause-goes c = goes-same c.args.self.now c.requires

pub returns-in-Err-clause-goes : goal.returns-in-Err-clause-goes
returns-in-Err-clause-goes c = subst (λ (x : Engine). HubGoesOn x.hub (e.hub)) c.self.view_is (goes-same e sound) where
  e : Engine
  e = record { hub = c.self.inside.hub; pieces = c.self.inside.pieces.items; states = c.self.inside.states.items; hazards = c.self.inside.hazards.items; sessions = c.self.inside.sessions.items; systems = c.self.inside.systems.items }

  sound : IsSound e
  sound = subst (λ (x : Engine). IsSound x) (sym c.self.view_is) c.requires

pub returns-in-Err-create-clause-goes : goal.returns-in-Err-create-clause-goes
returns-in-Err-create-clause-goes c = subst (λ (x : Engine). HubGoesOn x.hub (record e.hub { tables = c.create.new.self })) c.self.view_is (goes-with e (record e.hub { tables = c.create.new.self }) sound refl refl c.in-Err-create.ensures.kept refl) where
  e : Engine
  e = record { hub = c.self.inside.hub; pieces = c.self.inside.pieces.items; states = c.self.inside.states.items; hazards = c.self.inside.hazards.items; sessions = c.self.inside.sessions.items; systems = c.self.inside.systems.items }

  sound : IsSound e
  sound = subst (λ (x : Engine). IsSound x) (sym c.self.view_is) c.requires

pub returns-in-Ok-Same-clause-goes : goal.returns-in-Ok-Same-clause-goes
returns-in-Ok-Same-clause-goes c = subst (λ (x : Engine). HubGoesOn x.hub (record e.hub { tables = c.create.new.self })) c.self.view_is (goes-with e (record e.hub { tables = c.create.new.self }) sound refl refl made.2 refl) where
  e : Engine
  e = record { hub = c.self.inside.hub; pieces = c.self.inside.pieces.items; states = c.self.inside.states.items; hazards = c.self.inside.hazards.items; sessions = c.self.inside.sessions.items; systems = c.self.inside.systems.items }

  sound : IsSound e
  sound = subst (λ (x : Engine). IsSound x) (sym c.self.view_is) c.requires

  t : Table
  t = asked e.hub.tables c.args.name.now c.args.formats

  made : IsCreated e.hub.tables t c.create.new.self (Same c.in-Ok-Same.field-0-0)
  made = subst (λ (x : Created). IsCreated e.hub.tables t c.create.new.self x) c.in-Ok-Same.field-0-is c.in-Ok-Same.ensures.created

pub returns-in-Ok-add_leaf-clause-goes : goal.returns-in-Ok-add_leaf-clause-goes
returns-in-Ok-add_leaf-clause-goes c = subst (λ (x : Engine). HubGoesOn x.hub (record e.hub { tables = c.create.new.self; dir = c.add_leaf.new.dir })) c.self.view_is (goes-more e c.create.new.self c.add_leaf.new.dir t id (length e.pieces) sound c.len-known.ensures.tables c.stands.ensures refl made.2 first) where
  e : Engine
  e = record { hub = c.self.inside.hub; pieces = c.self.inside.pieces.items; states = c.self.inside.states.items; hazards = c.self.inside.hazards.items; sessions = c.self.inside.sessions.items; systems = c.self.inside.systems.items }

  sound : IsSound e
  sound = subst (λ (x : Engine). IsSound x) (sym c.self.view_is) c.requires

  t : Table
  t = asked e.hub.tables c.args.name.now c.args.formats

  made : IsCreated e.hub.tables t c.create.new.self (New c.in-Ok-New.field-0-0)
  made = subst (λ (x : Created). IsCreated e.hub.tables t c.create.new.self x) c.in-Ok-New.field-0-is c.in-Ok-New.ensures.created

  id : ℕ
  id = c.in-Ok-add_leaf.id

  first : HasFirstLeaf e.hub.dir c.add_leaf.new.dir t.number id (length e.pieces) 0
  first = subst (λ (f : ℕ). HasFirstLeaf e.hub.dir c.add_leaf.new.dir t.number id f 0) c.in-Ok.ensures.number
      (subst (λ (n : ℕ). HasFirstLeaf e.hub.dir c.add_leaf.new.dir n id c.in-Ok.frame 0) c.next_number-number.ensures c.in-Ok-add_leaf.ensures.first)

pub returns-in-Err-add_leaf-clause-goes : goal.returns-in-Err-add_leaf-clause-goes
returns-in-Err-add_leaf-clause-goes c = subst (λ (x : Engine). HubGoesOn x.hub (record e.hub { tables = c.take_back.new.self; dir = c.add_leaf.new.dir })) c.self.view_is (goes-with e (record e.hub { tables = c.take_back.new.self; dir = c.add_leaf.new.dir }) sound refl refl (c.take_back.ensures e.hub.tables t made.2) c.in-Err-add_leaf.ensures.kept) where
  e : Engine
  e = record { hub = c.self.inside.hub; pieces = c.self.inside.pieces.items; states = c.self.inside.states.items; hazards = c.self.inside.hazards.items; sessions = c.self.inside.sessions.items; systems = c.self.inside.systems.items }

  sound : IsSound e
  sound = subst (λ (x : Engine). IsSound x) (sym c.self.view_is) c.requires

  t : Table
  t = asked e.hub.tables c.args.name.now c.args.formats

  made : IsCreated e.hub.tables t c.create.new.self (New c.in-Ok-New.field-0-0)
  made = subst (λ (x : Created). IsCreated e.hub.tables t c.create.new.self x) c.in-Ok-New.field-0-is c.in-Ok-New.ensures.created

-- ---- what is told

pub returns-in-Err-create-clause-tells : goal.returns-in-Err-create-clause-tells
returns-in-Err-create-clause-tells c = create-refusal-own c.self.inside.hub.tables (asked c.self.inside.hub.tables c.args.name.now c.args.formats) c.in-Err-create.refusal c.in-Err-create.ensures.refused
