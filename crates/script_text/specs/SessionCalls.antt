-- The calls of a session, read from their words.
use Rattle.std.specs.Prelude.{ℕ, List, Option, Some, None, option_map, option_and_then, if◌then◌else◌, codes}
use Rattle.std.specs.Str.{bytes_eq}
use Rattle.wt_calls.specs.declared.demand.Demand.{Demand}
use Rattle.wt_calls.specs.declared.demand.Demand.TheVariants.{Anything, Vacant}
use Rattle.wt_calls.specs.declared.way.Way.{Way}
use Rattle.wt_calls.specs.declared.way.Way.TheVariants.{Up, Down}
use Rattle.wt_calls.specs.declared.session_call.SessionCall.{SessionCall}
use Rattle.wt_calls.specs.declared.session_call.SessionCall.TheVariants.{Begin, Get, Put, Remove, Seek, Step, Reset, Prepare, Commit, Rollback}
use Rattle.script_text.specs.Words.{no_words, one_of, two_of, three_of}
use Rattle.script_text.specs.Numbers.{stamp_of, given_of, stamps_of}
use Rattle.script_text.specs.Items.{item_of, cursor_of}
use Rattle.script_text.specs.declared.items.Keyed.{Keyed}
use Rattle.script_text.specs.declared.session_calls.SessionVerb.{SessionVerb}
use Rattle.script_text.specs.declared.session_calls.SessionVerb.TheVariants as verb

abbrev pub data_verb_of : List ℕ → Option SessionVerb
data_verb_of word =
    if bytes_eq word (codes "get") then Some verb.Get
    else (if bytes_eq word (codes "put") then Some verb.Put
    else (if bytes_eq word (codes "insert") then Some verb.Insert
    else (if bytes_eq word (codes "remove") then Some verb.Remove else None)))

abbrev pub cursor_verb_of : List ℕ → Option SessionVerb
cursor_verb_of word =
    if bytes_eq word (codes "seek") then Some verb.Seek
    else (if bytes_eq word (codes "next") then Some verb.Next
    else (if bytes_eq word (codes "prev") then Some verb.Prev
    else (if bytes_eq word (codes "reset") then Some verb.Reset else None)))

abbrev pub transaction_verb_of : List ℕ → Option SessionVerb
transaction_verb_of word =
    if bytes_eq word (codes "begin") then Some verb.Begin
    else (if bytes_eq word (codes "prepare") then Some verb.Prepare
    else (if bytes_eq word (codes "commit") then Some verb.Commit
    else (if bytes_eq word (codes "rollback") then Some verb.Rollback else None)))

abbrev pub first_verb : Option SessionVerb → Option SessionVerb → Option SessionVerb
first_verb (Some v) other = Some v
first_verb None other = other

-- the word that a call of a session begins with
abbrev pub session_verb_of : List ℕ → Option SessionVerb
session_verb_of word = first_verb (data_verb_of word) (first_verb (cursor_verb_of word) (transaction_verb_of word))

abbrev pub begin_of : List (List ℕ) → Option SessionCall
begin_of words = if no_words words then Some (Begin None) else option_map (λ stamp. Begin (Some stamp)) (option_and_then (given_of (codes "read=")) (one_of words))

abbrev pub prepare_of : List (List ℕ) → Option SessionCall
prepare_of words = option_map (λ stamp. Prepare stamp) (option_and_then stamp_of (one_of words))

abbrev pub commit_of : List (List ℕ) → Option SessionCall
commit_of words = option_map (λ stamps. Commit stamps.first stamps.second) (stamps_of (codes "commit=") (codes "durable=") words)

abbrev pub rollback_of : List (List ℕ) → Option SessionCall
rollback_of words = if no_words words then Some Rollback else None

-- a table and a key
abbrev pub keyed_of : List ℕ → List ℕ → Option Keyed
keyed_of table word = option_map (λ key. record { table = table; key = key }) (item_of word)

abbrev pub keyed_in : List (List ℕ) → Option Keyed
keyed_in words = option_and_then (λ p. keyed_of p.0 p.1) (two_of words)

abbrev pub get_of : List (List ℕ) → Option SessionCall
get_of words = option_map (λ k. Get k.table k.key) (keyed_in words)

abbrev pub remove_of : List (List ℕ) → Option SessionCall
remove_of words = option_map (λ k. Remove k.table k.key) (keyed_in words)

abbrev pub put_of : Demand → List (List ℕ) → Option SessionCall
put_of demand words = option_and_then (λ p. option_and_then (λ k. option_map (λ value. Put k.table k.key value demand) (item_of p.2)) (keyed_of p.0 p.1)) (three_of words)

abbrev pub seek_with : ℕ → Option Keyed → Option SessionCall
seek_with cursor keyed = option_map (λ k. Seek cursor k.table k.key) keyed

abbrev pub seek_of : List (List ℕ) → Option SessionCall
seek_of words = option_and_then (λ p. option_and_then (λ cursor. seek_with cursor (keyed_of p.1 p.2)) (cursor_of p.0)) (three_of words)

abbrev pub step_of : Way → List (List ℕ) → Option SessionCall
step_of way words = option_and_then (λ p. option_map (λ cursor. Step cursor p.1 way) (cursor_of p.0)) (two_of words)

abbrev pub reset_of : List (List ℕ) → Option SessionCall
reset_of words = option_map (λ cursor. Reset cursor) (option_and_then cursor_of (one_of words))

-- the call of a verb and the words behind it
abbrev pub session_words : SessionVerb → List (List ℕ) → Option SessionCall
session_words verb.Begin words = begin_of words
session_words verb.Get words = get_of words
session_words verb.Put words = put_of Anything words
session_words verb.Insert words = put_of Vacant words
session_words verb.Remove words = remove_of words
session_words verb.Seek words = seek_of words
session_words verb.Next words = step_of Up words
session_words verb.Prev words = step_of Down words
session_words verb.Reset words = reset_of words
session_words verb.Prepare words = prepare_of words
session_words verb.Commit words = commit_of words
session_words verb.Rollback words = rollback_of words

abbrev pub session_call_of : List ℕ → List (List ℕ) → Option SessionCall
session_call_of word words = option_and_then (λ v. session_words v words) (session_verb_of word)
