-- What a line says, by what the lines before it made known, or the cause of its leftmost fault (own choice; a call for each of zmq_socket(3), zmq_bind(3), zmq_connect(3), zmq_unbind(3), zmq_disconnect(3), zmq_close(3), zmq_ctx_term(3), zmq_msg_send(3), zmq_msg_recv(3), zmq_setsockopt(3)).
use Rattle.std.specs.Prelude.{ℕ, Bool, List, [], ◌∷◌, Result, Ok, Err, ok_or, nat_eq, nat_lt, not, is_some, codes, drop, length, if◌then◌else◌}
use Rattle.std.specs.List.{starts_with}
use Rattle.std.specs.Str.{bytes_eq}
use Rattle.zq_base.specs.declared.kind.Kind.{Kind}
use Rattle.zq_base.specs.declared.kind.Kind.TheVariants.{Push, Pull, Pair, Dealer, Req, Rep, Router, Pub, XPub, Sub, XSub}
use Rattle.zq_script.specs.declared.fault.Cause.{Cause}
use Rattle.zq_script.specs.declared.fault.Cause.TheVariants.{BadWord, UnknownSocket, DoubleName, TooManyActors}
use Rattle.zq_base.specs.declared.endpoint.Endpoint.{Endpoint}
use Rattle.spec_run.specs.declared.script.Call.{Call}
use Rattle.spec_run.specs.declared.script.Call.TheVariants as call
use Rattle.zq_script.specs.declared.statement.Statement.{Statement}
use Rattle.zq_script.specs.declared.statement.Statement.TheVariants as says
use Rattle.zq_script.specs.declared.verb.SocketVerb.{SocketVerb}
use Rattle.zq_script.specs.declared.verb.SocketVerb.TheVariants as on
use Rattle.zq_script.specs.declared.verb.Verb.{Verb}
use Rattle.zq_script.specs.declared.verb.Verb.TheVariants as verb
use Rattle.zq_script.specs.Answer.{◌>>=◌}
use Rattle.zq_script.specs.Name.{is_name}
use Rattle.zq_base.specs.Number.{number_in}
use Rattle.zq_script.specs.Part.{part_of, parts_message}
use Rattle.zq_script.specs.Place.{endpoint_of}
use Rattle.zq_script.specs.SocketOption.{default_options, with_options}
use Rattle.zq_script.specs.Statement.{Learned, is_actor}
use Rattle.zq_script.specs.Words.{Words}

-- the first word and those behind it
unfoldable pub first_word : Words → Result (List ℕ × Words) Cause
first_word [] = Err BadWord
first_word (word ∷ words) = Ok (word, words)

-- there are no more words
unfoldable pub line_end : Words → Result Unit Cause
line_end [] = Ok tt
line_end (word ∷ words) = Err BadWord

-- the word as a name that isn't taken
unfoldable pub new_name : Bool → List ℕ → Result (List ℕ) Cause
new_name is_taken word =
    if not (is_name word) then Err BadWord
    else if is_taken then Err DoubleName
    else Ok word

-- the socket that the word names
unfoldable pub known_socket : Learned → List ℕ → Result ℕ Cause
known_socket learned word =
    if is_name word then ok_or (learned.sockets word) UnknownSocket else Err BadWord

-- the kind that the word names
unfoldable pub kind_word : List ℕ → Result Kind Cause
kind_word word =
    if bytes_eq word (codes "PUSH") then Ok Push
    else if bytes_eq word (codes "PULL") then Ok Pull
    else if bytes_eq word (codes "PAIR") then Ok Pair
    else if bytes_eq word (codes "DEALER") then Ok Dealer
    else if bytes_eq word (codes "REQ") then Ok Req
    else if bytes_eq word (codes "REP") then Ok Rep
    else if bytes_eq word (codes "ROUTER") then Ok Router
    else if bytes_eq word (codes "PUB") then Ok Pub
    else if bytes_eq word (codes "XPUB") then Ok XPub
    else if bytes_eq word (codes "SUB") then Ok Sub
    else if bytes_eq word (codes "XSUB") then Ok XSub
    else Err BadWord

-- what the first word of a line asks
unfoldable pub verb_of : List ℕ → Result Verb Cause
verb_of word =
    if bytes_eq word (codes "actor") then Ok verb.Actor
    else if bytes_eq word (codes "socket") then Ok verb.Socket
    else if bytes_eq word (codes "close") then Ok verb.Close
    else if bytes_eq word (codes "term") then Ok verb.Term
    else if bytes_eq word (codes "bind") then Ok (verb.On on.Bind)
    else if bytes_eq word (codes "connect") then Ok (verb.On on.Connect)
    else if bytes_eq word (codes "unbind") then Ok (verb.On on.Unbind)
    else if bytes_eq word (codes "disconnect") then Ok (verb.On on.Disconnect)
    else if bytes_eq word (codes "send") then Ok (verb.On on.Send)
    else if bytes_eq word (codes "recv") then Ok (verb.On on.Recv)
    else if bytes_eq word (codes "sub") then Ok (verb.On on.Subscribe)
    else if bytes_eq word (codes "unsub") then Ok (verb.On on.Unsubscribe)
    else Err BadWord

-- one more actor may begin: there are 64 at most
unfoldable pub room_for_actor : Learned → Result Unit Cause
room_for_actor learned =
    if nat_lt (length learned.actors) 64 then Ok tt else Err TooManyActors

-- an actor has begun
unfoldable pub some_actor : Learned → Result Unit Cause
some_actor learned = if nat_eq (length learned.actors) 0 then Err BadWord else Ok tt

-- the endpoint that ends a line
unfoldable pub last_endpoint : Words → Result Endpoint Cause
last_endpoint words = do
  first ← first_word words
  endpoint ← endpoint_of first.0
  _ ← line_end first.1
  Ok endpoint

-- the part that ends a line
unfoldable pub last_part : Words → Result (List ℕ) Cause
last_part words = do
  first ← first_word words
  part ← part_of first.0
  _ ← line_end first.1
  Ok part

-- a number of tries: `tries=N` with N from 1 to 100,000
unfoldable pub tries_word : List ℕ → Result ℕ Cause
tries_word word =
    if starts_with nat_eq word (codes "tries=")
    then ok_or (number_in 1 100000 (drop 6 word)) BadWord else Err BadWord

-- how often a receive is tried, by the words that end its line: once, where there are none
unfoldable pub tries_words : Words → Result ℕ Cause
tries_words [] = Ok 1
tries_words (word ∷ words) = do
  tries ← tries_word word
  _ ← line_end words
  Ok tries

-- `bind S EP`, `connect S EP`, `unbind S EP`, `disconnect S EP`, `send S PART..`, `recv S [tries=N]`, `sub S PART`, `unsub S PART`, by the words behind S
unfoldable pub call_of : SocketVerb → ℕ → Words → Result Call Cause
call_of on.Bind socket words = last_endpoint words >>= λ endpoint. Ok (call.Bind socket endpoint)
call_of on.Connect socket words =
    last_endpoint words >>= λ endpoint. Ok (call.Connect socket endpoint)
call_of on.Unbind socket words = last_endpoint words >>= λ endpoint. Ok (call.Unbind socket endpoint)
call_of on.Disconnect socket words =
    last_endpoint words >>= λ endpoint. Ok (call.Disconnect socket endpoint)
call_of on.Send socket words = parts_message words >>= λ message. Ok (call.Send socket message)
call_of on.Recv socket words = tries_words words >>= λ tries. Ok (call.Recv socket tries)
call_of on.Subscribe socket words = last_part words >>= λ topic. Ok (call.Subscribe socket topic)
call_of on.Unsubscribe socket words = last_part words >>= λ topic. Ok (call.Unsubscribe socket topic)

-- `actor A`, by the words behind the first
unfoldable pub actor_line : Learned → Words → Result Statement Cause
actor_line learned words = do
  _ ← room_for_actor learned
  first ← first_word words
  name ← new_name (is_actor first.0 learned) first.0
  _ ← line_end first.1
  Ok (says.Actor name)

-- `socket S KIND OPT..`, by the words behind the first
unfoldable pub socket_line : ℕ → Learned → Words → Result Statement Cause
socket_line number learned words = do
  _ ← some_actor learned
  first ← first_word words
  name ← new_name (is_some (learned.sockets first.0)) first.0
  second ← first_word first.1
  kind ← kind_word second.0
  options ← with_options second.1 default_options
  Ok (says.Socket name (record { number = number; call = call.Socket kind options }))

-- `close S`, by the words behind the first: behind it the name is unknown
unfoldable pub close_line : ℕ → Learned → Words → Result Statement Cause
close_line number learned words = do
  _ ← some_actor learned
  first ← first_word words
  socket ← known_socket learned first.0
  _ ← line_end first.1
  Ok (says.Closed first.0 (record { number = number; call = call.Close socket }))

-- `term`, by the words behind it
unfoldable pub term_line : ℕ → Learned → Words → Result Statement Cause
term_line number learned words = do
  _ ← some_actor learned
  _ ← line_end words
  Ok (says.Other (record { number = number; call = call.Term }))

-- a line that asks something of a socket, by the words behind the first
unfoldable pub call_line : ℕ → Learned → SocketVerb → Words → Result Statement Cause
call_line number learned verb words = do
  _ ← some_actor learned
  first ← first_word words
  socket ← known_socket learned first.0
  asked ← call_of verb socket first.1
  Ok (says.Other (record { number = number; call = asked }))

-- what a line says whose first word is this verb
unfoldable pub statement_by : ℕ → Learned → Verb → Words → Result Statement Cause
statement_by number learned verb.Actor words = actor_line learned words
statement_by number learned verb.Socket words = socket_line number learned words
statement_by number learned verb.Close words = close_line number learned words
statement_by number learned verb.Term words = term_line number learned words
statement_by number learned (verb.On asked) words = call_line number learned asked words

-- what the line of this number and these words says, where so much is known
unfoldable pub statement_of : ℕ → Learned → Words → Result Statement Cause
statement_of number learned words = do
  first ← first_word words
  verb ← verb_of first.0
  statement_by number learned verb first.1
