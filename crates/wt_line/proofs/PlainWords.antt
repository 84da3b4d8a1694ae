-- The command of words that do not begin with a hyphen, or stand behind `--`.
use Rattle.std.proofs.Common.{◌≡◌, ◌∙◌, ◌++◌, ◌<◌, ◌≤◌, ap, ap₂, refl, Bool, true, false, List, [], ◌∷◌, Option, Some, None, length, codes, arith}
use Rattle.std.specs.Prelude.{fold, option_and_then, option_map}
use Rattle.clap.specs.Kinds.{Kinds, or_else}
use Rattle.clap.specs.Walk.{Row, Text, finished, nothing_held, settled_rows, stop_after, walk_from, walked}
use Rattle.clap.specs.Faults.{built_fault, level_fault, turn_fault, walk_fault}
use Rattle.clap.specs.Simple.{Shape, argument_words, built, built_leaf, entered, inherited, names_of, rows_at}
use Rattle.clap.proofs.OnLiterals.{clap_on_literals}
use Rattle.wt_line.specs.App.{create_app, dump_app, list_app, load_app, read_app, script_app, top_app, verify_app, write_app, wt_app}
use Rattle.wt_line.specs.Line.{as_command, command_of, create, dump, list, load, matched_command, pairs_of, read, script, verify, where_none, write, write_of}
use Rattle.wt_line.specs.Plain.{IsPlain, ArePlain, EachWord, HasItems, HasPlainItems, write_words, read_words, dashed}
use Rattle.wt_line.proofs.WalkedWords.{Enters, Leads, TakesItems, all_pass, at_items, end_fault, entered_below, fault_below, in_range, level_passes, unfaulted_to_items, walked_to_items}

-- ---- from a subcommand to the command

no_name : (words : List Text) → argument_words wt_app words ≡ words
unfolding wt_app
no_name words = refl

entered_by : (name : Text) (s : Shape) (words : List Text) → Enters (built wt_app) name s
    → level_fault s [] nothing_held words false [] ≡ []
    → matched_command (name ∷ words) ≡ as_command (rows_at s words)
unfolding matched_command
entered_by name s words enters passes =
    ap₂ (λ (ks : Kinds) (o : Option (Text × List Row)). where_none ks (option_and_then as_command o))
    (ap (built_fault (built wt_app) nothing_held) (no_name (name ∷ words)) ∙ fault_below (built wt_app) name s words enters ∙ passes)
    (ap (λ (ws : List Text). entered (built wt_app) (stop_after (built wt_app).top.rules (names_of (built wt_app)) ws)) (no_name (name ∷ words))
    ∙ entered_below (built wt_app) name s words enters)

-- a subcommand whose words end in items
items_read : (name : Text) (s : Shape) (trails : Bool) (P : Text → Type 0) (lead : List Text) (rows : List Row) (first : Text) (rest : List Text)
    → Enters (built wt_app) name s → Leads s trails lead rows first → TakesItems s trails P → EachWord P rest
    → end_fault s (at_items trails rows (first ∷ rest)).held ≡ []
    → matched_command (name ∷ lead ++ rest) ≡ as_command (s.name, finished s.rules (at_items trails rows (first ∷ rest)).held)
items_read name s trails P lead rows first rest enters leads takes fit ends =
    let walks = walked_to_items s trails P lead rows first rest leads takes fit in
    entered_by name s (lead ++ rest) enters
    (level_passes s (lead ++ rest) (at_items trails rows (first ∷ rest)) walks (unfaulted_to_items s trails P lead rows first rest leads takes fit) ends)
    ∙ ap (λ w. as_command (s.name, finished s.rules w.held)) walks

-- any word
abbrev IsWord : Text → Type 0
IsWord word = Unit {0}

are_words : (words : List Text) → EachWord IsWord words
are_words [] = tt
are_words (w ∷ ws) = (tt, are_words ws)

-- the row of the table
abbrev table_rows : Shape → List Row → Text → List Row
table_rows s rows uri = settled_rows s.rules (Some (codes "uri", uri ∷ [])) rows

-- ---- read

abbrev read_shape : Shape
read_shape = built_leaf (inherited top_app.top read_app.top)

read_enters : Enters (built wt_app) (codes "read") read_shape
unfolding wt_app clap_on_literals
read_enters = record {
  met = refl;
  unfaulted = refl;
  found = refl;
  settles = refl;
  defaults = refl;
  checks = refl;
}

read_more : (rows : List Row) (vals : List Text) (word : Text) → IsPlain word
    → walked read_shape.rules [] (at_items false rows vals) word ≡ at_items false rows (vals ++ word ∷ [])
unfolding clap_on_literals
read_more rows vals [] h = refl
read_more rows vals (x ∷ xs) h = simp h

read_unfaulted : (rows : List Row) (vals : List Text) (word : Text) → IsPlain word
    → turn_fault read_shape [] (at_items false rows vals) word ≡ []
unfolding clap_on_literals
read_unfaulted rows vals [] h = refl
read_unfaulted rows vals (x ∷ xs) h = simp h

read_takes : TakesItems read_shape false IsPlain
read_takes = record { more = read_more; unfaulted = read_unfaulted }

read_walks : (uri key : Text) → IsPlain uri → IsPlain key
    → fold (walked read_shape.rules []) (walk_from nothing_held) (uri ∷ key ∷ []) ≡ at_items false (table_rows read_shape [] uri) (key ∷ [])
unfolding clap_on_literals
read_walks [] [] h g = refl
read_walks [] (x ∷ xs) h g = simp g
read_walks (x ∷ xs) [] h g = simp h
read_walks (x ∷ xs) (y ∷ ys) h g = simp (h, g)

read_lead_unfaulted : (uri key : Text) → IsPlain uri → IsPlain key → walk_fault read_shape [] (walk_from nothing_held) (uri ∷ key ∷ []) ≡ []
unfolding clap_on_literals
read_lead_unfaulted [] [] h g = refl
read_lead_unfaulted [] (x ∷ xs) h g = simp g
read_lead_unfaulted (x ∷ xs) [] h g = simp h
read_lead_unfaulted (x ∷ xs) (y ∷ ys) h g = simp (h, g)

read_ends : (uri key : Text) (rest : List Text) → length (key ∷ rest) < 18446744073709551616
    → end_fault read_shape (at_items false (table_rows read_shape [] uri) (key ∷ rest)).held ≡ []
unfolding clap_on_literals
read_ends uri key rest fits =
    let some : 0 < length (key ∷ rest) = omega arith in
    ap (λ (ks : Kinds). or_else ks []) (ap₂ or_else (in_range (length (key ∷ rest)) some fits) (all_pass rest))

read_plain : (uri key : Text) (rest : List Text) → ArePlain (uri ∷ key ∷ rest) → length (key ∷ rest) < 18446744073709551616
    → command_of (codes "read" ∷ uri ∷ key ∷ rest) ≡ Some (read uri (key ∷ rest))
read_plain uri key rest plain fits =
    items_read (codes "read") read_shape false IsPlain (uri ∷ key ∷ []) (table_rows read_shape [] uri) key rest read_enters
    (record { walks = read_walks uri key plain.0 plain.1.0; unfaulted = read_lead_unfaulted uri key plain.0 plain.1.0 })
    read_takes plain.1.1 (read_ends uri key rest fits)
    ∙ refl

-- behind `--` any word is one item more

read_trails : TakesItems read_shape true IsWord
unfolding walked clap_on_literals
read_trails = record {
  more = λ rows vals word h. refl;
  unfaulted = λ rows vals word h. refl;
}

read_behind_walks : (uri key : Text) → IsPlain uri
    → fold (walked read_shape.rules []) (walk_from nothing_held) (uri ∷ codes "--" ∷ key ∷ []) ≡ at_items true (table_rows read_shape [] uri) (key ∷ [])
unfolding clap_on_literals
read_behind_walks [] key h = refl
read_behind_walks (x ∷ xs) key h = simp h

read_behind_unfaulted : (uri key : Text) → IsPlain uri → walk_fault read_shape [] (walk_from nothing_held) (uri ∷ codes "--" ∷ key ∷ []) ≡ []
unfolding clap_on_literals
read_behind_unfaulted [] key h = refl
read_behind_unfaulted (x ∷ xs) key h = simp h

read_behind : (uri key : Text) (rest : List Text) → IsPlain uri → length (key ∷ rest) < 18446744073709551616
    → command_of (codes "read" ∷ uri ∷ codes "--" ∷ key ∷ rest) ≡ Some (read uri (key ∷ rest))
read_behind uri key rest plain fits =
    items_read (codes "read") read_shape true IsWord (uri ∷ codes "--" ∷ key ∷ []) (table_rows read_shape [] uri) key rest read_enters
    (record { walks = read_behind_walks uri key plain; unfaulted = read_behind_unfaulted uri key plain }) read_trails (are_words rest) (read_ends uri key rest fits)
    ∙ refl

-- ---- write

abbrev write_shape : Shape
write_shape = built_leaf (inherited top_app.top write_app.top)

write_enters : Enters (built wt_app) (codes "write") write_shape
unfolding wt_app clap_on_literals
write_enters = record {
  met = refl;
  unfaulted = refl;
  found = refl;
  settles = refl;
  defaults = refl;
  checks = refl;
}

write_more : (rows : List Row) (vals : List Text) (word : Text) → IsPlain word
    → walked write_shape.rules [] (at_items false rows vals) word ≡ at_items false rows (vals ++ word ∷ [])
unfolding clap_on_literals
write_more rows vals [] h = refl
write_more rows vals (x ∷ xs) h = simp h

write_unfaulted : (rows : List Row) (vals : List Text) (word : Text) → IsPlain word
    → turn_fault write_shape [] (at_items false rows vals) word ≡ []
unfolding clap_on_literals
write_unfaulted rows vals [] h = refl
write_unfaulted rows vals (x ∷ xs) h = simp h

write_takes : TakesItems write_shape false IsPlain
write_takes = record { more = write_more; unfaulted = write_unfaulted }

write_walks : (uri key : Text) → IsPlain uri → IsPlain key
    → fold (walked write_shape.rules []) (walk_from nothing_held) (uri ∷ key ∷ []) ≡ at_items false (table_rows write_shape [] uri) (key ∷ [])
unfolding clap_on_literals
write_walks [] [] h g = refl
write_walks [] (x ∷ xs) h g = simp g
write_walks (x ∷ xs) [] h g = simp h
write_walks (x ∷ xs) (y ∷ ys) h g = simp (h, g)

write_lead_unfaulted : (uri key : Text) → IsPlain uri → IsPlain key → walk_fault write_shape [] (walk_from nothing_held) (uri ∷ key ∷ []) ≡ []
unfolding clap_on_literals
write_lead_unfaulted [] [] h g = refl
write_lead_unfaulted [] (x ∷ xs) h g = simp g
write_lead_unfaulted (x ∷ xs) [] h g = simp h
write_lead_unfaulted (x ∷ xs) (y ∷ ys) h g = simp (h, g)

write_ends : (uri key : Text) (rest : List Text) → length (key ∷ rest) < 18446744073709551616
    → end_fault write_shape (at_items false (table_rows write_shape [] uri) (key ∷ rest)).held ≡ []
unfolding clap_on_literals
write_ends uri key rest fits =
    let some : 0 < length (key ∷ rest) = omega arith in
    ap (λ (ks : Kinds). or_else ks []) (ap₂ or_else (in_range (length (key ∷ rest)) some fits) (all_pass rest))

write_plain : (uri key : Text) (rest : List Text) → ArePlain (uri ∷ key ∷ rest) → length (key ∷ rest) < 18446744073709551616
    → command_of (codes "write" ∷ uri ∷ key ∷ rest) ≡ option_map (write false uri) (pairs_of (key ∷ rest))
write_plain uri key rest plain fits =
    items_read (codes "write") write_shape false IsPlain (uri ∷ key ∷ []) (table_rows write_shape [] uri) key rest write_enters
    (record { walks = write_walks uri key plain.0 plain.1.0; unfaulted = write_lead_unfaulted uri key plain.0 plain.1.0 })
    write_takes plain.1.1 (write_ends uri key rest fits)
    ∙ refl

-- behind `--` any word is one item more

write_trails : TakesItems write_shape true IsWord
unfolding walked clap_on_literals
write_trails = record {
  more = λ rows vals word h. refl;
  unfaulted = λ rows vals word h. refl;
}

write_behind_walks : (uri key : Text) → IsPlain uri
    → fold (walked write_shape.rules []) (walk_from nothing_held) (uri ∷ codes "--" ∷ key ∷ []) ≡ at_items true (table_rows write_shape [] uri) (key ∷ [])
unfolding clap_on_literals
write_behind_walks [] key h = refl
write_behind_walks (x ∷ xs) key h = simp h

write_behind_unfaulted : (uri key : Text) → IsPlain uri → walk_fault write_shape [] (walk_from nothing_held) (uri ∷ codes "--" ∷ key ∷ []) ≡ []
unfolding clap_on_literals
write_behind_unfaulted [] key h = refl
write_behind_unfaulted (x ∷ xs) key h = simp h

write_behind : (uri key : Text) (rest : List Text) → IsPlain uri → length (key ∷ rest) < 18446744073709551616
    → command_of (codes "write" ∷ uri ∷ codes "--" ∷ key ∷ rest) ≡ option_map (write false uri) (pairs_of (key ∷ rest))
write_behind uri key rest plain fits =
    items_read (codes "write") write_shape true IsWord (uri ∷ codes "--" ∷ key ∷ []) (table_rows write_shape [] uri) key rest write_enters
    (record { walks = write_behind_walks uri key plain; unfaulted = write_behind_unfaulted uri key plain }) write_trails (are_words rest) (write_ends uri key rest fits)
    ∙ refl

-- ---- write -o

-- the row of the flag
abbrev flag_rows : List Row
flag_rows = settled_rows write_shape.rules (Some (codes "overwrite", [])) []

flag_walks : (uri key : Text) → IsPlain uri → IsPlain key
    → fold (walked write_shape.rules []) (walk_from nothing_held) (codes "-o" ∷ uri ∷ key ∷ []) ≡ at_items false (table_rows write_shape flag_rows uri) (key ∷ [])
unfolding clap_on_literals
flag_walks [] [] h g = refl
flag_walks [] (x ∷ xs) h g = simp g
flag_walks (x ∷ xs) [] h g = simp h
flag_walks (x ∷ xs) (y ∷ ys) h g = simp (h, g)

flag_lead_unfaulted : (uri key : Text) → IsPlain uri → IsPlain key → walk_fault write_shape [] (walk_from nothing_held) (codes "-o" ∷ uri ∷ key ∷ []) ≡ []
unfolding clap_on_literals
flag_lead_unfaulted [] [] h g = refl
flag_lead_unfaulted [] (x ∷ xs) h g = simp g
flag_lead_unfaulted (x ∷ xs) [] h g = simp h
flag_lead_unfaulted (x ∷ xs) (y ∷ ys) h g = simp (h, g)

flag_ends : (uri key : Text) (rest : List Text) → length (key ∷ rest) < 18446744073709551616
    → end_fault write_shape (at_items false (table_rows write_shape flag_rows uri) (key ∷ rest)).held ≡ []
unfolding clap_on_literals
flag_ends uri key rest fits =
    let some : 0 < length (key ∷ rest) = omega arith in
    ap (λ (ks : Kinds). or_else ks []) (ap₂ or_else (in_range (length (key ∷ rest)) some fits) (all_pass rest))

overwrite_plain : (uri key : Text) (rest : List Text) → ArePlain (uri ∷ key ∷ rest) → length (key ∷ rest) < 18446744073709551616
    → command_of (codes "write" ∷ codes "-o" ∷ uri ∷ key ∷ rest) ≡ option_map (write true uri) (pairs_of (key ∷ rest))
overwrite_plain uri key rest plain fits =
    items_read (codes "write") write_shape false IsPlain (codes "-o" ∷ uri ∷ key ∷ []) (table_rows write_shape flag_rows uri) key rest write_enters
    (record { walks = flag_walks uri key plain.0 plain.1.0; unfaulted = flag_lead_unfaulted uri key plain.0 plain.1.0 })
    write_takes plain.1.1 (flag_ends uri key rest fits)
    ∙ refl

-- ---- create

abbrev create_shape : Shape
create_shape = built_leaf (inherited top_app.top create_app.top)

create_enters : Enters (built wt_app) (codes "create") create_shape
unfolding wt_app clap_on_literals
create_enters = record {
  met = refl;
  unfaulted = refl;
  found = refl;
  settles = refl;
  defaults = refl;
  checks = refl;
}

create_passes : (uri : Text) → IsPlain uri → level_fault create_shape [] nothing_held (uri ∷ []) false [] ≡ []
unfolding clap_on_literals
create_passes [] h = refl
create_passes (x ∷ xs) h = simp h

create_read : (uri : Text) → IsPlain uri → as_command (rows_at create_shape (uri ∷ [])) ≡ Some (create None uri)
unfolding clap_on_literals
create_read [] h = refl
create_read (x ∷ xs) h = simp h

pub create_plain : (uri : Text) → IsPlain uri → command_of (codes "create" ∷ uri ∷ []) ≡ Some (create None uri)
create_plain uri plain =
    entered_by (codes "create") create_shape (uri ∷ []) create_enters (create_passes uri plain) ∙ create_read uri plain

configured_passes : (config uri : Text) → IsPlain config → IsPlain uri
    → level_fault create_shape [] nothing_held (codes "-c" ∷ config ∷ uri ∷ []) false [] ≡ []
unfolding clap_on_literals
configured_passes [] [] h g = refl
configured_passes [] (y ∷ ys) h g = simp g
configured_passes (x ∷ xs) [] h g = simp h
configured_passes (x ∷ xs) (y ∷ ys) h g = simp (h, g)

configured_read : (config uri : Text) → IsPlain config → IsPlain uri
    → as_command (rows_at create_shape (codes "-c" ∷ config ∷ uri ∷ [])) ≡ Some (create (Some config) uri)
unfolding clap_on_literals
configured_read [] [] h g = refl
configured_read [] (y ∷ ys) h g = simp g
configured_read (x ∷ xs) [] h g = simp h
configured_read (x ∷ xs) (y ∷ ys) h g = simp (h, g)

pub create_configured : (config uri : Text) → IsPlain config → IsPlain uri
    → command_of (codes "create" ∷ codes "-c" ∷ config ∷ uri ∷ []) ≡ Some (create (Some config) uri)
create_configured config uri h g =
    entered_by (codes "create") create_shape (codes "-c" ∷ config ∷ uri ∷ []) create_enters (configured_passes config uri h g)
    ∙ configured_read config uri h g

behind_passes : (uri : Text) → level_fault create_shape [] nothing_held (codes "--" ∷ uri ∷ []) false [] ≡ []
unfolding clap_on_literals
behind_passes uri = refl

behind_read : (uri : Text) → as_command (rows_at create_shape (codes "--" ∷ uri ∷ [])) ≡ Some (create None uri)
unfolding clap_on_literals
behind_read uri = refl

pub create_behind : (uri : Text) → command_of (codes "create" ∷ codes "--" ∷ uri ∷ []) ≡ Some (create None uri)
create_behind uri =
    entered_by (codes "create") create_shape (codes "--" ∷ uri ∷ []) create_enters (behind_passes uri) ∙ behind_read uri

-- ---- list

abbrev list_shape : Shape
list_shape = built_leaf (inherited top_app.top list_app.top)

list_enters : Enters (built wt_app) (codes "list") list_shape
unfolding wt_app clap_on_literals
list_enters = record {
  met = refl;
  unfaulted = refl;
  found = refl;
  settles = refl;
  defaults = refl;
  checks = refl;
}

list_passes : level_fault list_shape [] nothing_held [] false [] ≡ []
unfolding clap_on_literals
list_passes = refl

list_read : as_command (rows_at list_shape []) ≡ Some list
unfolding clap_on_literals
list_read = refl

pub list_alone : command_of (codes "list" ∷ []) ≡ Some list
list_alone = entered_by (codes "list") list_shape [] list_enters list_passes ∙ list_read

-- ---- verify

abbrev verify_shape : Shape
verify_shape = built_leaf (inherited top_app.top verify_app.top)

verify_enters : Enters (built wt_app) (codes "verify") verify_shape
unfolding wt_app clap_on_literals
verify_enters = record {
  met = refl;
  unfaulted = refl;
  found = refl;
  settles = refl;
  defaults = refl;
  checks = refl;
}

verify_passes : level_fault verify_shape [] nothing_held [] false [] ≡ []
unfolding clap_on_literals
verify_passes = refl

verify_read : as_command (rows_at verify_shape []) ≡ Some (verify None)
unfolding clap_on_literals
verify_read = refl

pub verify_alone : command_of (codes "verify" ∷ []) ≡ Some (verify None)
verify_alone = entered_by (codes "verify") verify_shape [] verify_enters verify_passes ∙ verify_read

one_passes : (uri : Text) → IsPlain uri → level_fault verify_shape [] nothing_held (uri ∷ []) false [] ≡ []
unfolding clap_on_literals
one_passes [] h = refl
one_passes (x ∷ xs) h = simp h

one_read : (uri : Text) → IsPlain uri → as_command (rows_at verify_shape (uri ∷ [])) ≡ Some (verify (Some uri))
unfolding clap_on_literals
one_read [] h = refl
one_read (x ∷ xs) h = simp h

pub verify_plain : (uri : Text) → IsPlain uri → command_of (codes "verify" ∷ uri ∷ []) ≡ Some (verify (Some uri))
verify_plain uri plain =
    entered_by (codes "verify") verify_shape (uri ∷ []) verify_enters (one_passes uri plain) ∙ one_read uri plain

one_behind_passes : (uri : Text) → level_fault verify_shape [] nothing_held (codes "--" ∷ uri ∷ []) false [] ≡ []
unfolding clap_on_literals
one_behind_passes uri = refl

one_behind_read : (uri : Text) → as_command (rows_at verify_shape (codes "--" ∷ uri ∷ [])) ≡ Some (verify (Some uri))
unfolding clap_on_literals
one_behind_read uri = refl

pub verify_behind : (uri : Text) → command_of (codes "verify" ∷ codes "--" ∷ uri ∷ []) ≡ Some (verify (Some uri))
verify_behind uri =
    entered_by (codes "verify") verify_shape (codes "--" ∷ uri ∷ []) verify_enters (one_behind_passes uri) ∙ one_behind_read uri

-- ---- script

abbrev script_shape : Shape
script_shape = built_leaf (inherited top_app.top script_app.top)

script_enters : Enters (built wt_app) (codes "script") script_shape
unfolding wt_app clap_on_literals
script_enters = record {
  met = refl;
  unfaulted = refl;
  found = refl;
  settles = refl;
  defaults = refl;
  checks = refl;
}

script_passes : level_fault script_shape [] nothing_held [] false [] ≡ []
unfolding clap_on_literals
script_passes = refl

script_read : as_command (rows_at script_shape []) ≡ Some script
unfolding clap_on_literals
script_read = refl

pub script_alone : command_of (codes "script" ∷ []) ≡ Some script
script_alone = entered_by (codes "script") script_shape [] script_enters script_passes ∙ script_read

-- ---- dump

abbrev dump_shape : Shape
dump_shape = built_leaf (inherited top_app.top dump_app.top)

dump_enters : Enters (built wt_app) (codes "dump") dump_shape
unfolding wt_app clap_on_literals
dump_enters = record {
  met = refl;
  unfaulted = refl;
  found = refl;
  settles = refl;
  defaults = refl;
  checks = refl;
}

dump_passes : (uri : Text) → IsPlain uri → level_fault dump_shape [] nothing_held (uri ∷ []) false [] ≡ []
unfolding clap_on_literals
dump_passes [] h = refl
dump_passes (x ∷ xs) h = simp h

dump_read : (uri : Text) → IsPlain uri → as_command (rows_at dump_shape (uri ∷ [])) ≡ Some (dump false false uri)
unfolding clap_on_literals
dump_read [] h = refl
dump_read (x ∷ xs) h = simp h

pub dump_plain : (uri : Text) → IsPlain uri → command_of (codes "dump" ∷ uri ∷ []) ≡ Some (dump false false uri)
dump_plain uri plain =
    entered_by (codes "dump") dump_shape (uri ∷ []) dump_enters (dump_passes uri plain) ∙ dump_read uri plain

hex_passes : (uri : Text) → IsPlain uri → level_fault dump_shape [] nothing_held (codes "-x" ∷ uri ∷ []) false [] ≡ []
unfolding clap_on_literals
hex_passes [] h = refl
hex_passes (x ∷ xs) h = simp h

hex_read : (uri : Text) → IsPlain uri → as_command (rows_at dump_shape (codes "-x" ∷ uri ∷ [])) ≡ Some (dump true false uri)
unfolding clap_on_literals
hex_read [] h = refl
hex_read (x ∷ xs) h = simp h

pub dump_hex : (uri : Text) → IsPlain uri → command_of (codes "dump" ∷ codes "-x" ∷ uri ∷ []) ≡ Some (dump true false uri)
dump_hex uri plain =
    entered_by (codes "dump") dump_shape (codes "-x" ∷ uri ∷ []) dump_enters (hex_passes uri plain) ∙ hex_read uri plain

reverse_passes : (uri : Text) → IsPlain uri → level_fault dump_shape [] nothing_held (codes "-r" ∷ uri ∷ []) false [] ≡ []
unfolding clap_on_literals
reverse_passes [] h = refl
reverse_passes (x ∷ xs) h = simp h

reverse_read : (uri : Text) → IsPlain uri → as_command (rows_at dump_shape (codes "-r" ∷ uri ∷ [])) ≡ Some (dump false true uri)
unfolding clap_on_literals
reverse_read [] h = refl
reverse_read (x ∷ xs) h = simp h

pub dump_reverse : (uri : Text) → IsPlain uri → command_of (codes "dump" ∷ codes "-r" ∷ uri ∷ []) ≡ Some (dump false true uri)
dump_reverse uri plain =
    entered_by (codes "dump") dump_shape (codes "-r" ∷ uri ∷ []) dump_enters (reverse_passes uri plain) ∙ reverse_read uri plain

dump_behind_passes : (uri : Text) → level_fault dump_shape [] nothing_held (codes "--" ∷ uri ∷ []) false [] ≡ []
unfolding clap_on_literals
dump_behind_passes uri = refl

dump_behind_read : (uri : Text) → as_command (rows_at dump_shape (codes "--" ∷ uri ∷ [])) ≡ Some (dump false false uri)
unfolding clap_on_literals
dump_behind_read uri = refl

pub dump_behind : (uri : Text) → command_of (codes "dump" ∷ codes "--" ∷ uri ∷ []) ≡ Some (dump false false uri)
dump_behind uri =
    entered_by (codes "dump") dump_shape (codes "--" ∷ uri ∷ []) dump_enters (dump_behind_passes uri) ∙ dump_behind_read uri

-- ---- load

abbrev load_shape : Shape
load_shape = built_leaf (inherited top_app.top load_app.top)

load_enters : Enters (built wt_app) (codes "load") load_shape
unfolding wt_app clap_on_literals
load_enters = record {
  met = refl;
  unfaulted = refl;
  found = refl;
  settles = refl;
  defaults = refl;
  checks = refl;
}

load_passes : level_fault load_shape [] nothing_held [] false [] ≡ []
unfolding clap_on_literals
load_passes = refl

load_read : as_command (rows_at load_shape []) ≡ Some (load false None)
unfolding clap_on_literals
load_read = refl

pub load_alone : command_of (codes "load" ∷ []) ≡ Some (load false None)
load_alone = entered_by (codes "load") load_shape [] load_enters load_passes ∙ load_read

kept_passes : level_fault load_shape [] nothing_held (codes "-n" ∷ []) false [] ≡ []
unfolding clap_on_literals
kept_passes = refl

kept_read : as_command (rows_at load_shape (codes "-n" ∷ [])) ≡ Some (load true None)
unfolding clap_on_literals
kept_read = refl

pub load_kept : command_of (codes "load" ∷ codes "-n" ∷ []) ≡ Some (load true None)
load_kept = entered_by (codes "load") load_shape (codes "-n" ∷ []) load_enters kept_passes ∙ kept_read

renamed_passes : (name : Text) → IsPlain name → level_fault load_shape [] nothing_held (codes "-r" ∷ name ∷ []) false [] ≡ []
unfolding clap_on_literals
renamed_passes [] h = refl
renamed_passes (x ∷ xs) h = simp h

renamed_read : (name : Text) → IsPlain name → as_command (rows_at load_shape (codes "-r" ∷ name ∷ [])) ≡ Some (load false (Some name))
unfolding clap_on_literals
renamed_read [] h = refl
renamed_read (x ∷ xs) h = simp h

pub load_renamed : (name : Text) → IsPlain name → command_of (codes "load" ∷ codes "-r" ∷ name ∷ []) ≡ Some (load false (Some name))
load_renamed name plain =
    entered_by (codes "load") load_shape (codes "-r" ∷ name ∷ []) load_enters (renamed_passes name plain) ∙ renamed_read name plain

both_passes : (name : Text) → IsPlain name → level_fault load_shape [] nothing_held (codes "-n" ∷ codes "-r" ∷ name ∷ []) false [] ≡ []
unfolding clap_on_literals
both_passes [] h = refl
both_passes (x ∷ xs) h = simp h

both_read : (name : Text) → IsPlain name → as_command (rows_at load_shape (codes "-n" ∷ codes "-r" ∷ name ∷ [])) ≡ Some (load true (Some name))
unfolding clap_on_literals
both_read [] h = refl
both_read (x ∷ xs) h = simp h

pub load_both : (name : Text) → IsPlain name → command_of (codes "load" ∷ codes "-n" ∷ codes "-r" ∷ name ∷ []) ≡ Some (load true (Some name))
load_both name plain =
    entered_by (codes "load") load_shape (codes "-n" ∷ codes "-r" ∷ name ∷ []) load_enters (both_passes name plain) ∙ both_read name plain

-- ---- of all the items

-- a table has an item
no_item : {P : Type 0} (uri : Text) → HasItems uri [] → P
no_item uri items = absurd (let some : 1 ≤ 0 = items.1 in omega (arith, some))

pub write_items : (uri : Text) (items : List Text) → HasPlainItems uri items → command_of (write_words false uri items) ≡ write_of false uri items
write_items uri [] plain = no_item uri plain.0
write_items uri (key ∷ rest) plain = write_plain uri key rest (plain.0.0, plain.1) plain.0.2

pub overwrite_items : (uri : Text) (items : List Text) → HasPlainItems uri items → command_of (write_words true uri items) ≡ write_of true uri items
overwrite_items uri [] plain = no_item uri plain.0
overwrite_items uri (key ∷ rest) plain = overwrite_plain uri key rest (plain.0.0, plain.1) plain.0.2

pub read_items : (uri : Text) (items : List Text) → HasPlainItems uri items → command_of (read_words uri items) ≡ Some (read uri items)
read_items uri [] plain = no_item uri plain.0
read_items uri (key ∷ rest) plain = read_plain uri key rest (plain.0.0, plain.1) plain.0.2

pub write_dashed : (uri : Text) (items : List Text) → HasItems uri items → command_of (write_words false uri (dashed items)) ≡ write_of false uri items
write_dashed uri [] has = no_item uri has
write_dashed uri (key ∷ rest) has = write_behind uri key rest has.0 has.2

pub read_dashed : (uri : Text) (items : List Text) → HasItems uri items → command_of (read_words uri (dashed items)) ≡ Some (read uri items)
read_dashed uri [] has = no_item uri has
read_dashed uri (key ∷ rest) has = read_behind uri key rest has.0 has.2
