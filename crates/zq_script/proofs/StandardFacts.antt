-- Scripts and words worked out by hand: a wrong rule in the specs does not check.
use Rattle.std.proofs.Common.{◌≡◌, refl, ◌++◌, List, [], ◌∷◌, ℕ}
use Rattle.std.specs.Prelude.{Ok, Err, codes, ⊤, true}
use Rattle.std.specs.List.{join_with_byte}
use Rattle.hex.proofs.OnLiterals.{hex_on_literals}
use Rattle.zq_base.specs.declared.endpoint.Endpoint.TheVariants.{Inproc}
use Rattle.zq_base.specs.declared.kind.Kind.TheVariants.{Push, Pull}
use Rattle.zq_script.specs.declared.fault.Cause.TheVariants.{BadWord, BadPart, UnknownSocket, DoubleName}
use Rattle.spec_run.specs.declared.script.Call.TheVariants.{Socket, Bind, Connect, Unbind, Disconnect, Close, Term, Send, Recv, Subscribe, Unsubscribe}
use Rattle.zq_script.specs.declared.verb.SocketVerb.TheVariants as on
use Rattle.zq_script.specs.Grammar.{first_word, line_end, new_name, known_socket, kind_word, verb_of, room_for_actor, some_actor, last_endpoint, last_part, tries_words, call_of, actor_line, socket_line, close_line, term_line, call_line, statement_by, statement_of}
use Rattle.zq_script.specs.Name.{is_name}
use Rattle.zq_base.specs.Number.{is_number, number_in}
use Rattle.zq_script.specs.Part.{hex_part, plain_part, part_of, parts_of, parts_message}
use Rattle.zq_script.specs.Place.{is_inproc_name, endpoint_of}
use Rattle.zq_script.specs.Script.{at_line, line_statement, statements_from, leading_lines, actors_of, script_of}
use Rattle.zq_script.specs.SocketOption.{default_options, identity_of, mark_of, with_option, with_options}
use Rattle.zq_script.specs.Statement.{nothing_learned, with_actor, with_socket, without_socket}
use Rattle.zq_script.specs.Words.{without_empty_end, lines_of, words_of, is_skipped}

-- lines, each but the last ended by LF
abbrev text : List (List ℕ) → List ℕ
text lines = join_with_byte 10 lines

-- the last line may lack its LF, and only then is it no empty one
line_ends : (lines_of [] ≡ []) × (lines_of (10 ∷ 10 ∷ []) ≡ [] ∷ [] ∷ []) × (lines_of (97 ∷ 10 ∷ 98 ∷ []) ≡ (97 ∷ []) ∷ (98 ∷ []) ∷ [])
    × (lines_of (97 ∷ 10 ∷ []) ≡ (97 ∷ []) ∷ [])
unfolding lines_of without_empty_end
line_ends = (refl, refl, refl, refl)

-- only spaces separate words
spaces : words_of (codes "  a  b" ++ 9 ∷ codes "c ") ≡ codes "a" ∷ (98 ∷ 9 ∷ 99 ∷ []) ∷ []
unfolding words_of
spaces = refl

-- hex digits stand for octets, in either case; what is no even number of them stands for itself
parts : (part_of (codes "-") ≡ Ok []) × (part_of (codes "0x0fF0") ≡ Ok (15 ∷ 240 ∷ [])) × (part_of (codes "0x") ≡ Ok (codes "0x"))
    × (part_of (codes "0x0") ≡ Ok (codes "0x0")) × (part_of (codes "0xgg") ≡ Ok (codes "0xgg")) × (part_of (codes "a" ++ 9 ∷ []) ≡ Err BadPart)
unfolding part_of plain_part hex_part hex_on_literals
parts = (refl, refl, refl, refl, refl, refl)

-- what computes the words of lines on a literal
unfoldable pub words_on_literals : ⊤
unfolding lines_of without_empty_end words_of is_skipped is_name number_in is_number
words_on_literals = tt

-- what computes the values that words give on a literal
unfoldable pub values_on_literals : ⊤
unfolding endpoint_of is_inproc_name parts_message parts_of part_of plain_part hex_part mark_of identity_of with_option with_options
values_on_literals = tt

-- what computes what a line says on a literal
unfoldable pub grammar_on_literals : ⊤
unfolding verb_of kind_word known_socket new_name first_word line_end room_for_actor some_actor tries_words last_endpoint last_part call_of
grammar_on_literals = tt

-- what computes a whole script on a literal
unfoldable pub script_on_literals : ⊤
unfolding actor_line socket_line close_line term_line call_line statement_by statement_of nothing_learned with_actor with_socket without_socket statements_from line_statement at_line script_of
script_on_literals = tt

-- a script of one actor with two sockets
script : script_of (text (codes "actor a" ∷ codes "socket r PULL" ∷ codes "socket s PUSH" ∷ codes "bind r inproc://q"
    ∷ codes "connect s inproc://q" ∷ codes "send s a" ∷ codes "recv r" ∷ []))
    ≡ Ok (record {
      name = codes "a";
      lines =
          record { number = 2; call = Socket Pull default_options }
          ∷ record { number = 3; call = Socket Push default_options }
          ∷ record { number = 4; call = Bind 0 (Inproc (codes "q")) }
          ∷ record { number = 5; call = Connect 1 (Inproc (codes "q")) }
          ∷ record { number = 6; call = Send 1 (codes "a" ∷ []) }
          ∷ record { number = 7; call = Recv 0 1 } ∷ [];
    } ∷ [])
unfolding words_on_literals values_on_literals grammar_on_literals script_on_literals actors_of leading_lines
script = refl

-- each of the four lines that end something; the name of a closed socket is given again, to the next one
ends : script_of (text (codes "actor a" ∷ codes "socket s PULL" ∷ codes "unbind s inproc://q" ∷ codes "disconnect s inproc://r"
    ∷ codes "close s" ∷ codes "socket s PUSH" ∷ codes "close s" ∷ codes "term" ∷ []))
    ≡ Ok (record {
      name = codes "a";
      lines =
          record { number = 2; call = Socket Pull default_options }
          ∷ record { number = 3; call = Unbind 0 (Inproc (codes "q")) }
          ∷ record { number = 4; call = Disconnect 0 (Inproc (codes "r")) }
          ∷ record { number = 5; call = Close 0 }
          ∷ record { number = 6; call = Socket Push default_options }
          ∷ record { number = 7; call = Close 1 }
          ∷ record { number = 8; call = Term } ∷ [];
    } ∷ [])
unfolding words_on_literals values_on_literals grammar_on_literals script_on_literals actors_of leading_lines
ends = refl

-- a closed socket is unknown
closed : (script_of (text (codes "actor a" ∷ codes "socket s PULL" ∷ codes "close s" ∷ codes "close s" ∷ [])) ≡ Err (record { line = 4; cause = UnknownSocket }))
    × (script_of (text (codes "actor a" ∷ codes "socket s PULL" ∷ codes "close s" ∷ codes "recv s" ∷ [])) ≡ Err (record { line = 4; cause = UnknownSocket }))
unfolding words_on_literals values_on_literals grammar_on_literals script_on_literals
closed = (refl, refl)

-- another socket's name is not forgotten
double : script_of (text (codes "actor a" ∷ codes "socket s PULL" ∷ codes "socket t PULL" ∷ codes "close s" ∷ codes "socket t PULL" ∷ [])) ≡ Err (record { line = 5; cause = DoubleName })
unfolding words_on_literals values_on_literals grammar_on_literals script_on_literals
double = refl

-- the root is asked by an actor, and by no more words
terms : (script_of (text (codes "term" ∷ [])) ≡ Err (record { line = 1; cause = BadWord }))
    × (script_of (text (codes "actor a" ∷ codes "term a" ∷ [])) ≡ Err (record { line = 2; cause = BadWord }))
unfolding words_on_literals values_on_literals grammar_on_literals script_on_literals
terms = (refl, refl)

-- a socket that isn't known, at line 2
unknown : script_of (text (codes "actor a" ∷ codes "send s x" ∷ [])) ≡ Err (record { line = 2; cause = UnknownSocket })
unfolding words_on_literals values_on_literals grammar_on_literals script_on_literals
unknown = refl

-- a line before the first actor, behind two that are skipped
early : script_of (text ([] ∷ codes " # x" ∷ codes "recv s" ∷ codes "y" ∷ [])) ≡ Err (record { line = 3; cause = BadWord })
unfolding words_on_literals values_on_literals grammar_on_literals script_on_literals
early = refl

-- of two options for one thing the last counts
last_counts : with_options (codes "hwm=1" ∷ codes "rcvhwm=2" ∷ codes "hwm=3" ∷ []) default_options ≡ Ok (record default_options { hwm = 3; rcvhwm = 2 })
unfolding words_on_literals values_on_literals
last_counts = refl

-- an identity has 1 to 255 octets, the first not 0; it and a topic are parts
identities : (identity_of (codes "0x0100") ≡ Ok (1 ∷ 0 ∷ [])) × (identity_of (codes "0x0001") ≡ Err BadPart)
    × (identity_of [] ≡ Err BadPart) × (identity_of (codes "-") ≡ Err BadPart) × (identity_of (codes "0x") ≡ Ok (codes "0x"))
unfolding values_on_literals hex_on_literals
identities = (refl, refl, refl, refl, refl)

-- flags have no value
flags : (with_options (codes "verbose" ∷ codes "mandatory" ∷ []) default_options ≡ Ok (record default_options { verbose = true; mandatory = true }))
    × (with_options (codes "mandatory=1" ∷ []) default_options ≡ Err BadWord)
unfolding words_on_literals values_on_literals
flags = (refl, refl)

-- a topic is one part
topics : (call_of on.Subscribe 0 (codes "-" ∷ []) ≡ Ok (Subscribe 0 [])) × (call_of on.Unsubscribe 1 (codes "ab" ∷ []) ≡ Ok (Unsubscribe 1 (codes "ab")))
    × (call_of on.Subscribe 0 [] ≡ Err BadWord) × (call_of on.Subscribe 0 (codes "a" ∷ codes "b" ∷ []) ≡ Err BadWord)
unfolding values_on_literals grammar_on_literals
topics = (refl, refl, refl, refl)
