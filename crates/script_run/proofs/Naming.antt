-- A line names actors that there are.
use Rattle.std.proofs.Common.{ℕ, zero, suc, arith, List}
use Rattle.wt_calls.specs.declared.call.Call.{Call}
use Rattle.wt_calls.specs.declared.call.Call.TheVariants.{Session, System}
use Rattle.script_text.specs.declared.line.Actor.{Actor as LineActor}
use Rattle.script_text.specs.declared.line.Actor.TheVariants as line_actor
use Rattle.script_text.specs.declared.line.Line.{Line}
use Rattle.script_text.specs.declared.line.Line.TheVariants as line
use Rattle.script_text.specs.Grammar.{IsActor, Spells, SpellsCall}
use Rattle.script_run.specs.Scripts.{actor_in, caller}
use Rattle.script_run.specs.Runs.{IsKnown, IsOfKnown}

actor-known : (who : LineActor) (word : List ℕ) → IsActor who word → IsKnown (actor_in who)
actor-known (line_actor.Session n) word is = tt
actor-known (line_actor.System zero) word is = omega arith
actor-known (line_actor.System (suc n)) word (less, e) = omega (arith, less)

call-known : (made : Call) (word : List ℕ) (behind : List (List ℕ)) → SpellsCall made word behind → IsKnown (caller made)
call-known (Session n made) word behind spells = tt
call-known (System n made) word behind (is, spells) = actor-known (line_actor.System n) word is

pub line-known : (asked : Line) (words : List (List ℕ)) → Spells asked words → IsOfKnown asked
line-known (line.Whole made) words (word, behind, spells, e) = call-known made word behind spells
line-known (line.Start made) words (word, behind, spells, e) = call-known made word behind spells
line-known (line.Step who) words (word, is, e) = actor-known who word is
line-known (line.Finish who) words (word, is, e) = actor-known who word is
line-known (line.Control asked) words spells = tt
