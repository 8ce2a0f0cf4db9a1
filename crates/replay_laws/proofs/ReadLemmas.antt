-- Each line of a script that is read may be asked.
use Rattle.std.proofs.Common.{◌≡◌, ◌+◌, ◌++◌, ℕ, List, [], ◌∷◌}
use Rattle.std.specs.Prelude.{codes, Option, is_some, option_to_list, Some, None, Result, Ok, Err}
use Rattle.std.specs.List.{AllByRecursion}
use Rattle.std.specs.Str.{bytes_eq}
use Rattle.zq_script.specs.declared.fault.Cause.{Cause}
use Rattle.zq_script.specs.declared.fault.Cause.TheVariants.{TooLong}
use Rattle.spec_run.specs.declared.script.Call.TheVariants as call
use Rattle.zq_script.specs.declared.statement.Statement.{Statement}
use Rattle.zq_script.specs.declared.statement.Statement.TheVariants.{Actor, Socket, Closed, Other}
use Rattle.zq_script.specs.Answer.{◌>>=◌}
use Rattle.zq_script.specs.Grammar.{verb_of, first_word, line_end, tries_words, last_part, new_name, known_socket, kind_word, room_for_actor, some_actor, last_endpoint, call_of, actor_line, socket_line, close_line, term_line, call_line, statement_by, statement_of}
use Rattle.zq_script.specs.Script.{at_line, line_statement, statements_from, leading_lines, actors_of, is_too_long, script_of}
use Rattle.zq_script.specs.Part.{parts_message}
use Rattle.zq_script.specs.SocketOption.{default_options, with_options}
use Rattle.zq_script.specs.Statement.{Learned, is_actor, nothing_learned, learned_behind}
use Rattle.zq_script.specs.Words.{Words, lines_of, words_of, is_skipped}
use Rattle.spec_run.specs.Script.{Script}
use Rattle.zq_world.specs.MayAsk.{MayMake, IsLocal, MayAskLine, MayAskLines, MayAskScript}
use Rattle.replay_laws.proofs.ReadStepLemmas.{Holds, ok_holds, err_holds, held, if_then, any_then, by_test}
use Rattle.replay_laws.proofs.ValueLemmas.{local_at_last, given_may}

-- the line of a statement may be asked
abbrev MayState : Statement → Type 0
MayState (Actor name) = Unit {0}
MayState (Socket name line) = MayAskLine line.call
MayState (Closed name line) = MayAskLine line.call
MayState (Other line) = MayAskLine line.call

-- a call
bind_may : (socket : ℕ) (words : Words) → Holds MayAskLine (last_endpoint words >>= λ at. Ok (call.Bind socket at))
bind_may socket words = if_then IsLocal MayAskLine _ _ (local_at_last words) (λ at h. ok_holds MayAskLine _ h)

connect_may : (socket : ℕ) (words : Words) → Holds MayAskLine (last_endpoint words >>= λ to. Ok (call.Connect socket to))
connect_may socket words = if_then IsLocal MayAskLine _ _ (local_at_last words) (λ to h. ok_holds MayAskLine _ h)

unbind_may : (socket : ℕ) (words : Words) → Holds MayAskLine (last_endpoint words >>= λ at. Ok (call.Unbind socket at))
unbind_may socket words = any_then MayAskLine (last_endpoint words) _ (λ at. ok_holds MayAskLine (call.Unbind socket at) tt)

disconnect_may : (socket : ℕ) (words : Words) → Holds MayAskLine (last_endpoint words >>= λ to. Ok (call.Disconnect socket to))
disconnect_may socket words = any_then MayAskLine (last_endpoint words) _ (λ to. ok_holds MayAskLine (call.Disconnect socket to) tt)

send_may : (socket : ℕ) (words : Words) → Holds MayAskLine (parts_message words >>= λ message. Ok (call.Send socket message))
send_may socket words = any_then MayAskLine (parts_message words) _ (λ message. ok_holds MayAskLine (call.Send socket message) tt)

recv_may : (socket : ℕ) (words : Words) → Holds MayAskLine (tries_words words >>= λ tries. Ok (call.Recv socket tries))
recv_may socket words = any_then MayAskLine (tries_words words) _ (λ tries. ok_holds MayAskLine (call.Recv socket tries) tt)

subscribe_may : (socket : ℕ) (words : Words) → Holds MayAskLine (last_part words >>= λ topic. Ok (call.Subscribe socket topic))
subscribe_may socket words = any_then MayAskLine (last_part words) _ (λ topic. ok_holds MayAskLine (call.Subscribe socket topic) tt)

unsubscribe_may : (socket : ℕ) (words : Words) → Holds MayAskLine (last_part words >>= λ topic. Ok (call.Unsubscribe socket topic))
unsubscribe_may socket words = any_then MayAskLine (last_part words) _ (λ topic. ok_holds MayAskLine (call.Unsubscribe socket topic) tt)

-- a line, by its first word
actor_may : (learned : Learned) (words : Words) → Holds MayState (actor_line learned words)
unfolding actor_line
actor_may learned words = any_then MayState (room_for_actor learned) _ (λ room. any_then MayState (first_word words) _ (λ first. any_then MayState (new_name (is_actor first.0 learned) first.0) _ (λ name. any_then MayState (line_end first.1) _ (λ end. ok_holds MayState (Actor name) tt))))

socket_may : (number : ℕ) (learned : Learned) (words : Words) → Holds MayState (socket_line number learned words)
unfolding socket_line
socket_may number learned words =
    any_then MayState (some_actor learned) _ (λ some. any_then MayState (first_word words) _ (λ first. any_then MayState (new_name (is_some (learned.sockets first.0)) first.0) _ (λ name. any_then MayState (first_word first.1) _ (λ second. any_then MayState (kind_word second.0) _ (λ kind.
    if_then MayMake MayState (with_options second.1 default_options) _ (given_may second.1) (λ options h. ok_holds MayState _ h))))))

close_may : (number : ℕ) (learned : Learned) (words : Words) → Holds MayState (close_line number learned words)
unfolding close_line
close_may number learned words = any_then MayState (some_actor learned) _ (λ some. any_then MayState (first_word words) _ (λ first. any_then MayState (known_socket learned first.0) _ (λ socket. any_then MayState (line_end first.1) _
    (λ end. ok_holds MayState (Closed first.0 (record { number = number; call = call.Close socket })) tt))))

term_may : (number : ℕ) (learned : Learned) (words : Words) → Holds MayState (term_line number learned words)
unfolding term_line
term_may number learned words = any_then MayState (some_actor learned) _ (λ some. any_then MayState (line_end words) _ (λ end. ok_holds MayState (Other (record { number = number; call = call.Term })) tt))

asked_may : (number : ℕ) (learned : Learned) (asked : _) (words : Words) → ((socket : ℕ) (rest : Words) → Holds MayAskLine (call_of asked socket rest)) → Holds MayState (call_line number learned asked words)
unfolding call_line
asked_may number learned asked words may =
    any_then MayState (some_actor learned) _ (λ some. any_then MayState (first_word words) _ (λ first. any_then MayState (known_socket learned first.0) _ (λ socket. if_then MayAskLine MayState (call_of asked socket first.1) _ (may socket first.1) (λ c h. ok_holds MayState _ h))))

by_verb : (word : List ℕ) → Holds (λ v. (number : ℕ) (learned : Learned) (words : Words) → Holds MayState (statement_by number learned v words)) (verb_of word)
unfolding verb_of statement_by call_of
by_verb word =
    by_test _ (bytes_eq word (codes "actor")) _ _ (λ e. ok_holds _ _ (λ number learned words. actor_may learned words))
    (by_test _ (bytes_eq word (codes "socket")) _ _ (λ e. ok_holds _ _ (λ number learned words. socket_may number learned words))
    (by_test _ (bytes_eq word (codes "close")) _ _ (λ e. ok_holds _ _ (λ number learned words. close_may number learned words))
    (by_test _ (bytes_eq word (codes "term")) _ _ (λ e. ok_holds _ _ (λ number learned words. term_may number learned words))
    (by_test _ (bytes_eq word (codes "bind")) _ _ (λ e. ok_holds _ _ (λ number learned words. asked_may number learned _ words bind_may))
    (by_test _ (bytes_eq word (codes "connect")) _ _ (λ e. ok_holds _ _ (λ number learned words. asked_may number learned _ words connect_may))
    (by_test _ (bytes_eq word (codes "unbind")) _ _ (λ e. ok_holds _ _ (λ number learned words. asked_may number learned _ words unbind_may))
    (by_test _ (bytes_eq word (codes "disconnect")) _ _ (λ e. ok_holds _ _ (λ number learned words. asked_may number learned _ words disconnect_may))
    (by_test _ (bytes_eq word (codes "send")) _ _ (λ e. ok_holds _ _ (λ number learned words. asked_may number learned _ words send_may))
    (by_test _ (bytes_eq word (codes "recv")) _ _ (λ e. ok_holds _ _ (λ number learned words. asked_may number learned _ words recv_may))
    (by_test _ (bytes_eq word (codes "sub")) _ _ (λ e. ok_holds _ _ (λ number learned words. asked_may number learned _ words subscribe_may))
    (by_test _ (bytes_eq word (codes "unsub")) _ _ (λ e. ok_holds _ _ (λ number learned words. asked_may number learned _ words unsubscribe_may))
    (err_holds _ _))))))))))))

words_may : (number : ℕ) (learned : Learned) (words : Words) → Holds MayState (statement_of number learned words)
unfolding statement_of
words_may number learned words = any_then MayState (first_word words) _ (λ first. if_then _ MayState (verb_of first.0) _ (by_verb first.0) (λ v h. h number learned first.1))

-- a line that may be skipped
abbrev MayFollow : Option Statement → Type 0
MayFollow None = Unit {0}
MayFollow (Some statement) = MayState statement

at_may : (number : ℕ) (r : Result Statement Cause) → Holds MayState r → Holds MayFollow (at_line number r)
unfolding at_line
at_may number (Ok statement) h = ok_holds MayFollow _ h.given
at_may number (Err cause) h = err_holds MayFollow _

line_may : (number : ℕ) (learned : Learned) (line : List ℕ) → Holds MayFollow (line_statement number learned line)
unfolding line_statement
line_may number learned line =
    by_test MayFollow (is_skipped (words_of line)) (Ok None) (at_line number (statement_of number learned (words_of line)))
    (λ e. ok_holds MayFollow None tt) (at_may number (statement_of number learned (words_of line)) (words_may number learned (words_of line)))

-- lines
abbrev MayStates : List Statement → Type 0
MayStates statements = AllByRecursion MayState statements

behind_may : (said : Option Statement) (later : List Statement) → MayFollow said → MayStates later → MayStates (option_to_list said ++ later)
behind_may None later h hs = hs
behind_may (Some statement) later h hs = (h, hs)

lines_may : (number : ℕ) (learned : Learned) (lines : List (List ℕ)) → Holds MayStates (statements_from number learned lines)
unfolding statements_from
lines_may number learned [] = ok_holds MayStates _ tt
lines_may number learned (line ∷ lines) =
    if_then MayFollow MayStates (line_statement number learned line) _ (line_may number learned line)
    (λ said h. if_then MayStates MayStates (statements_from (number + 1) (learned_behind said learned) lines) _ (lines_may (number + 1) (learned_behind said learned) lines)
    (λ later hs. ok_holds MayStates (option_to_list said ++ later) (behind_may said later h hs)))

-- an actor's lines
leading_may : (statements : List Statement) → MayStates statements → MayAskLines (leading_lines statements)
unfolding leading_lines
leading_may [] h = tt
leading_may (Actor name ∷ statements) h = tt
leading_may (Socket name line ∷ statements) h = (h.0, leading_may statements h.1)
leading_may (Closed name line ∷ statements) h = (h.0, leading_may statements h.1)
leading_may (Other line ∷ statements) h = (h.0, leading_may statements h.1)

actors_may : (statements : List Statement) → MayStates statements → MayAskScript (actors_of statements)
unfolding actors_of
actors_may [] h = tt
actors_may (Actor name ∷ statements) h = (leading_may statements h.1, actors_may statements h.1)
actors_may (Socket name line ∷ statements) h = actors_may statements h.1
actors_may (Closed name line ∷ statements) h = actors_may statements h.1
actors_may (Other line ∷ statements) h = actors_may statements h.1

-- a script
script_may : (octets : List ℕ) → Holds MayAskScript (script_of octets)
unfolding script_of
script_may octets =
    by_test MayAskScript (is_too_long octets) (Err (record { line = 0; cause = TooLong })) _ (λ e. err_holds MayAskScript (record { line = 0; cause = TooLong }))
    (if_then MayStates MayAskScript (statements_from 1 nothing_learned (lines_of octets)) _ (lines_may 1 nothing_learned (lines_of octets))
    (λ statements h. ok_holds MayAskScript (actors_of statements) (actors_may statements h)))

pub read_may : (octets : List ℕ) (script : Script) → script_of octets ≡ Ok script → MayAskScript script
read_may octets script e = held MayAskScript _ script (script_may octets) e
