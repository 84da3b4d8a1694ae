-- What the words of a command line ask for.
use Rattle.std.specs.Prelude.{Bool, false, if◌then◌else◌, List, [], ◌∷◌, Option, Some, None, codes, map}
use Rattle.std.specs.Prelude.{option_and_then, option_map}
use Rattle.std.specs.Option.{option_map_or}
use Rattle.std.specs.Borrow.{Bor}
use Rattle.std.specs.Str.{bytes_eq}
use Rattle.clap.specs.Walk.{Row, Text, all_of, first_of}
use Rattle.clap.specs.Simple.{subcommand_of}
use Rattle.clap.specs.Faults.{fault_of}
use Rattle.clap.specs.Kinds.{Kinds}
use Rattle.clap.specs.declared.error.kind.ErrorKind.{ErrorKind}
use Rattle.clap.specs.declared.error.kind.ErrorKind.TheVariants.{OutOfMemory}
use Rattle.wt_line.specs.App.{wt_app}
use Rattle.wt_line.specs.declared.line.LineFault.{LineFault}
use Rattle.wt_line.specs.declared.line.LineFault.TheVariants.{Usage, NoMemory}
use Rattle.wt_line.specs.declared.command.Command.{Command}
use Rattle.wt_line.specs.declared.command.Command.TheVariants.{Create, Write, Read, List as Listing, Verify, Script, Dump, Load}

-- a command
pub data Asked : Type 0 where
  create : Option Text → Text → Asked
  write : Bool → Text → List (Text × Text) → Asked
  read : Text → List Text → Asked
  list : Asked
  verify : Option Text → Asked
  script : Asked
  dump : (hex reverse : Bool) → Text → Asked
  load : (no_overwrite : Bool) (name : Option Text) → Asked

-- ---- the home

abbrev pub home_in : List Text → Text
home_in (flag ∷ home ∷ rest) = if bytes_eq flag (codes "-h") then home else codes "."
home_in _ = codes "."

abbrev pub after_home : List Text → List Text
after_home (flag ∷ home ∷ rest) = if bytes_eq flag (codes "-h") then rest else flag ∷ home ∷ rest
after_home words = words

-- ---- the command of the matches that `clap` found

abbrev pub as_create : List Row → Option Asked
as_create rows = option_map (create (first_of (codes "config") rows)) (first_of (codes "uri") rows)

-- the words two by two, where they are even
abbrev pub pairs_of : List Text → Option (List (Text × Text))
pairs_of [] = Some []
pairs_of (key ∷ []) = None
pairs_of (key ∷ value ∷ rest) = option_map (λ ps. (key, value) ∷ ps) (pairs_of rest)

-- a write of the words two by two, where they are even
abbrev pub write_of : Bool → Text → List Text → Option Asked
write_of overwrite uri items = option_map (write overwrite uri) (pairs_of items)

-- the flag was used
abbrev pub is_set : Text → List Row → Bool
is_set id rows = option_map_or (λ t. bytes_eq t (codes "true")) (first_of id rows) false

abbrev pub as_write : List Row → Option Asked
as_write rows = option_and_then (λ uri. option_map (write (is_set (codes "overwrite") rows) uri)
    (option_and_then pairs_of (all_of (codes "items") rows))) (first_of (codes "uri") rows)

abbrev pub as_read : List Row → Option Asked
as_read rows =
    option_and_then (λ uri. option_map (read uri) (all_of (codes "items") rows)) (first_of (codes "uri") rows)

abbrev pub as_verify : List Row → Option Asked
as_verify rows = Some (verify (first_of (codes "uri") rows))

abbrev pub as_dump : List Row → Option Asked
as_dump rows = option_map (dump (is_set (codes "hex") rows) (is_set (codes "reverse") rows)) (first_of (codes "uri") rows)

abbrev pub as_load : List Row → Option Asked
as_load rows = Some (load (is_set (codes "no_overwrite") rows) (first_of (codes "name") rows))

abbrev pub as_command : Text × List Row → Option Asked
as_command p =
    if bytes_eq p.0 (codes "create") then as_create p.1
    else if bytes_eq p.0 (codes "write") then as_write p.1
    else if bytes_eq p.0 (codes "read") then as_read p.1
    else if bytes_eq p.0 (codes "list") then Some list
    else if bytes_eq p.0 (codes "verify") then as_verify p.1
    else if bytes_eq p.0 (codes "script") then Some script
    else if bytes_eq p.0 (codes "dump") then as_dump p.1
    else if bytes_eq p.0 (codes "load") then as_load p.1
    else None

-- the command, where there is no fault
abbrev pub where_none : Kinds → Option Asked → Option Asked
where_none [] asked = asked
where_none (k ∷ ks) asked = None

-- the command of the words after the home: that of their matches, where `clap` finds no fault
unfoldable pub matched_command : List Text → Option Asked
matched_command words =
    where_none (fault_of wt_app words) (option_and_then as_command (subcommand_of wt_app words))

-- the command of the words, where they are one
abbrev pub command_of : List Text → Option Asked
command_of words = matched_command (after_home words)

-- ---- what was read

abbrev pub fault_by : ErrorKind → LineFault
fault_by OutOfMemory = NoMemory
fault_by _ = Usage

abbrev pub pair_texts : List (Bor Text × Bor Text) → List (Text × Text)
pair_texts = map (λ p. (p.0.now, p.1.now))

abbrev pub meaning : Command → Asked
meaning (Create config uri) = create (option_map (λ s. s.now) config) uri.now
meaning (Write overwrite uri pairs) = write overwrite uri.now (pair_texts pairs.items)
meaning (Read uri keys) = read uri.now (map (λ s. s.now) keys.items)
meaning Listing = list
meaning (Verify uri) = verify (option_map (λ s. s.now) uri)
meaning Script = script
meaning (Dump hex reverse uri) = dump hex reverse uri.now
meaning (Load no_overwrite name) = load no_overwrite (option_map (λ s. s.now) name)
