-- Short streams, computed from the definitions, so that a wrong rule does not check.
use Rattle.std.proofs.Common.{◌≡◌, ℕ, true, false, List, [], ◌∷◌, ◌++◌, Some, None, refl, lit<, lit≤}
use Rattle.std.specs.Prelude.{codes}
use Rattle.zq_base.specs.declared.kind.Kind.{Kind}
use Rattle.zq_base.specs.declared.kind.Kind.TheVariants.{Pull, Push}
use Rattle.zq_base.specs.declared.options.EngineOpts.{EngineOpts}
use Rattle.zq_base.specs.declared.options.Role.{Role}
use Rattle.zq_base.specs.declared.options.Role.TheVariants.{Null, PlainClient, PlainServer}
use Rattle.spec_zmtp.specs.declared.cause.Cause.{Cause}
use Rattle.spec_zmtp.specs.declared.cause.Cause.TheVariants.{BadFlags, TooLong, OutOfOrder, BadPair, NotWelcome}
use Rattle.spec_zmtp.specs.declared.flags.FrameKind.TheVariants.{Last, More, Command}
use Rattle.spec_zmtp.specs.FrameEncoding.{WireFrame, encode_frame}
use Rattle.spec_zmtp.specs.FrameRules.{Keeps, by_flags, by_size, by_item, IsCutFrame, at_flags, in_body}
use Rattle.spec_zmtp.specs.Greeting.{greeting_of}
use Rattle.spec_zmtp.specs.Metadata.{encode_command}
use Rattle.spec_zmtp.specs.OwnCommands.{our_ready, our_hello, our_error}
use Rattle.spec_zmtp.specs.Decoding.{decode_command, sized_at, value_at, named_at, property_at, properties_behind, decode_login}
use Rattle.spec_zmtp.specs.PeerMetadata.{peer_of}
use Rattle.spec_zmtp.specs.Handshake.{item_of_body, is_welcome, has_bad_meta, misplaced}
use Rattle.spec_zmtp.specs.DecodedStream.{Decoded, Decodes, Outcome, Unfinished, Refused, unfinished, refused}

abbrev pub side : Role → Kind → EngineOpts
side role kind = record { kind = kind; id = []; role = role; logins = record { user = 117 ∷ []; pass = 112 ∷ [] } ∷ [] }

abbrev stranger : EngineOpts
stranger = record { kind = Push; id = []; role = PlainClient; logins = record { user = 117 ∷ []; pass = 120 ∷ [] } ∷ [] }

-- READY of a PUSH in its frame
abbrev pub ready : WireFrame
ready = record { kind = Command; long = false; body = encode_command (our_ready (side Null Push)) }

abbrev hello : WireFrame
hello = record { kind = Last; long = false; body = codes "hello" }

-- a small body with a long size
abbrev long_abc : WireFrame
long_abc = record { kind = Last; long = true; body = codes "abc" }

abbrev pub part : WireFrame
part = record { kind = More; long = false; body = codes "abc" }

-- the greeting and READY of a PUSH, and these octets
abbrev pub stream : List ℕ → List ℕ
stream more = greeting_of Null ++ (encode_frame Command (encode_command (our_ready (side Null Push))) ++ more)

-- what a PULL means by it
abbrev pub heard : List (List (List ℕ)) → Outcome → Decoded
heard messages outcome = record {
  said = our_ready (side Null Pull) ∷ [];
  peer = Some (record { kind = Push; identity = [] });
  messages = messages;
  outcome = outcome;
}

pub ready_keeps : Keeps (side Null Pull) [] ready
unfolding decode_command sized_at value_at named_at property_at properties_behind peer_of has_bad_meta misplaced
ready_keeps = record { frame = record { fits = lit< tt; within = lit≤ tt }; in_place = refl; heard = refl }

hello_keeps : Keeps (side Null Pull) (ready ∷ []) hello
unfolding decode_command sized_at value_at named_at property_at properties_behind peer_of has_bad_meta misplaced
hello_keeps = record { frame = record { fits = lit< tt; within = lit≤ tt }; in_place = refl; heard = refl }

long_keeps : Keeps (side Null Pull) (ready ∷ []) long_abc
unfolding decode_command sized_at value_at named_at property_at properties_behind peer_of has_bad_meta misplaced
long_keeps = record { frame = record { fits = lit< tt; within = lit≤ tt }; in_place = refl; heard = refl }

pub part_keeps : Keeps (side Null Pull) (ready ∷ []) part
unfolding decode_command sized_at value_at named_at property_at properties_behind peer_of has_bad_meta misplaced
part_keeps = record { frame = record { fits = lit< tt; within = lit≤ tt }; in_place = refl; heard = refl }

one_message : Decodes (side Null Pull) (stream (0 ∷ 5 ∷ codes "hello")) (heard ((codes "hello" ∷ []) ∷ []) (Unfinished 0))
unfolding decode_command sized_at value_at named_at property_at properties_behind peer_of has_bad_meta misplaced
one_message = unfinished (ready ∷ hello ∷ []) [] (record { greeting = greeting_of Null; whole = refl; accepted = refl; all = refl; keep = (ready_keeps, (hello_keeps, tt)) }) (at_flags refl) refl

cut_message : Decodes (side Null Pull) (stream (0 ∷ 5 ∷ codes "hell")) (heard [] (Unfinished 6))
unfolding decode_command sized_at value_at named_at property_at properties_behind peer_of has_bad_meta misplaced
cut_message = unfinished (ready ∷ []) (0 ∷ 5 ∷ codes "hell") (record { greeting = greeting_of Null; whole = refl; accepted = refl; all = refl; keep = (ready_keeps, tt) }) (in_body Last false 5 (codes "hell") refl (lit< tt) (lit< tt) (lit≤ tt) refl) refl

first_part : Decodes (side Null Pull) (stream (1 ∷ 3 ∷ codes "abc")) (heard [] (Unfinished 5))
unfolding decode_command sized_at value_at named_at property_at properties_behind peer_of has_bad_meta misplaced
first_part = unfinished (ready ∷ part ∷ []) [] (record { greeting = greeting_of Null; whole = refl; accepted = refl; all = refl; keep = (ready_keeps, (part_keeps, tt)) }) (at_flags refl) refl

long_size : Decodes (side Null Pull) (stream (2 ∷ 0 ∷ 0 ∷ 0 ∷ 0 ∷ 0 ∷ 0 ∷ 0 ∷ 3 ∷ codes "abc")) (heard ((codes "abc" ∷ []) ∷ []) (Unfinished 0))
unfolding decode_command sized_at value_at named_at property_at properties_behind peer_of has_bad_meta misplaced
long_size = unfinished (ready ∷ long_abc ∷ []) [] (record { greeting = greeting_of Null; whole = refl; accepted = refl; all = refl; keep = (ready_keeps, (long_keeps, tt)) }) (at_flags refl) refl

reserved_flag : Decodes (side Null Pull) (stream (8 ∷ 0 ∷ [])) (heard [] (Refused (record { cause = BadFlags; offset = 92 })))
unfolding decode_command sized_at value_at named_at property_at properties_behind peer_of has_bad_meta misplaced
reserved_flag = refused (ready ∷ []) (8 ∷ 0 ∷ []) BadFlags [] (record { greeting = greeting_of Null; whole = refl; accepted = refl; all = refl; keep = (ready_keeps, tt) }) (by_flags 8 (0 ∷ []) refl refl refl) refl

command_with_more : Decodes (side Null Pull) (stream (5 ∷ 0 ∷ [])) (heard [] (Refused (record { cause = BadFlags; offset = 92 })))
unfolding decode_command sized_at value_at named_at property_at properties_behind peer_of has_bad_meta misplaced
command_with_more = refused (ready ∷ []) (5 ∷ 0 ∷ []) BadFlags [] (record { greeting = greeting_of Null; whole = refl; accepted = refl; all = refl; keep = (ready_keeps, tt) }) (by_flags 5 (0 ∷ []) refl refl refl) refl

one_octet_too_long : Decodes (side Null Pull) (stream (2 ∷ 0 ∷ 0 ∷ 0 ∷ 0 ∷ 1 ∷ 0 ∷ 0 ∷ 1 ∷ [])) (heard [] (Refused (record { cause = TooLong; offset = 92 })))
unfolding decode_command sized_at value_at named_at property_at properties_behind peer_of has_bad_meta misplaced
one_octet_too_long = refused (ready ∷ []) (2 ∷ 0 ∷ 0 ∷ 0 ∷ 0 ∷ 1 ∷ 0 ∷ 0 ∷ 1 ∷ []) TooLong [] (record { greeting = greeting_of Null; whole = refl; accepted = refl; all = refl; keep = (ready_keeps, tt) })
    (by_size Last true 16777217 [] refl refl (lit< tt) (lit< tt) refl refl) refl

early_message : Decodes (side Null Pull) (greeting_of Null ++ 0 ∷ 1 ∷ 97 ∷ [])
    (record { said = our_ready (side Null Pull) ∷ []; peer = None; messages = []; outcome = Refused (record { cause = OutOfOrder; offset = 64 }) })
unfolding decode_command sized_at value_at named_at property_at properties_behind peer_of has_bad_meta misplaced
early_message = refused [] (0 ∷ 1 ∷ 97 ∷ []) OutOfOrder [] (record { greeting = greeting_of Null; whole = refl; accepted = refl; all = refl; keep = tt }) (by_flags 0 (1 ∷ 97 ∷ []) refl refl refl) refl

two_pushes : Decodes (side Null Push) (stream []) (record { said = our_ready (side Null Push) ∷ []; peer = None; messages = []; outcome = Refused (record { cause = BadPair; offset = 64 }) })
unfolding decode_command sized_at value_at named_at property_at properties_behind peer_of has_bad_meta misplaced
two_pushes = refused [] (encode_frame Command ready.body) BadPair (item_of_body ready.body ∷ []) (record { greeting = greeting_of Null; whole = refl; accepted = refl; all = refl; keep = tt })
    (by_item ready [] refl (record { fits = lit< tt; within = lit≤ tt }) refl refl refl) refl

not_welcome : Decodes (side PlainServer Pull) (greeting_of PlainClient ++ encode_frame Command (encode_command (our_hello stranger)))
    (record { said = our_error ∷ []; peer = None; messages = []; outcome = Refused (record { cause = NotWelcome; offset = 64 }) })
unfolding decode_command sized_at value_at named_at property_at properties_behind peer_of has_bad_meta misplaced is_welcome decode_login
not_welcome = refused [] (encode_frame Command (encode_command (our_hello stranger))) NotWelcome (item_of_body (encode_command (our_hello stranger)) ∷ []) (record { greeting = greeting_of PlainClient; whole = refl; accepted = refl; all = refl; keep = tt })
    (by_item (record { kind = Command; long = false; body = encode_command (our_hello stranger) }) [] refl (record { fits = lit< tt; within = lit≤ tt }) refl refl refl) refl
