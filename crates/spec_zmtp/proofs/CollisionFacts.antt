-- Octets that break two rules at one place, and the rule that counts, computed from the definitions.
use Rattle.std.proofs.Common.{◌≡◌, ℕ, false, List, [], ◌∷◌, ◌++◌, length, Some, None, refl, ap, ◌∙◌, lit<, lit≤}
use Rattle.std.specs.Prelude.{codes}
use Rattle.zq_base.specs.Message.{max_committed}
use Rattle.zq_base.specs.declared.kind.Kind.TheVariants.{Pull}
use Rattle.zq_base.specs.declared.options.Role.TheVariants.{Null}
use Rattle.spec_zmtp.specs.declared.cause.Cause.{Cause}
use Rattle.spec_zmtp.specs.declared.cause.Cause.TheVariants.{BadFlags, TooManyParts, BadCommand, BadMeta, OutOfOrder, NoKind, BadPair}
use Rattle.spec_zmtp.specs.declared.flags.FrameKind.TheVariants.{Command}
use Rattle.spec_zmtp.specs.FrameEncoding.{WireFrame, encode_frame}
use Rattle.spec_zmtp.specs.FrameRules.{by_flags, by_item, gathered, items_of, item_refusal, first_cause, count_refusal, between_refusal, octet_refusal}
use Rattle.spec_zmtp.specs.Greeting.{greeting_of}
use Rattle.spec_zmtp.specs.Metadata.{encode_command, encode_meta, command, property}
use Rattle.spec_zmtp.specs.OwnCommands.{our_ready}
use Rattle.spec_zmtp.specs.Decoding.{decode_command, sized_at, value_at, named_at, property_at, properties_behind, decode_login}
use Rattle.spec_zmtp.specs.PeerMetadata.{peer_of}
use Rattle.spec_zmtp.specs.Handshake.{MessageFrame, item_of_body, has_bad_meta, misplaced}
use Rattle.spec_zmtp.specs.DecodedStream.{Decoded, Decodes, Refused, refused}
use Rattle.spec_zmtp.proofs.StandardFacts.{side, ready, part, stream, heard, ready_keeps, part_keeps}

-- what is refused behind the greeting
abbrev first_refused : Cause → Decoded
first_refused cause = record { said = our_ready (side Null Pull) ∷ []; peer = None; messages = []; outcome = Refused (record { cause = cause; offset = 64 }) }

abbrev frame : List ℕ → WireFrame
frame body = record { kind = Command; long = false; body = body }

-- metadata that is none, where READY is awaited
abbrev bad_initiate : List ℕ
bad_initiate = encode_command (command (codes "INITIATE") (0 ∷ 0 ∷ 0 ∷ 0 ∷ []))

-- without a user and a password
abbrev bare_hello : List ℕ
bare_hello = encode_command (command (codes "HELLO") [])

-- without a reason
abbrev bare_error : List ℕ
bare_error = encode_command (command (codes "ERROR") [])

flags_before_order : Decodes (side Null Pull) (greeting_of Null ++ 8 ∷ 0 ∷ []) (first_refused BadFlags)
unfolding decode_command sized_at value_at named_at property_at properties_behind peer_of has_bad_meta misplaced
flags_before_order = refused [] (8 ∷ 0 ∷ []) BadFlags [] (record { greeting = greeting_of Null; whole = refl; accepted = refl; all = refl; keep = tt }) (by_flags 8 (0 ∷ []) refl refl refl) refl

order_before_size : Decodes (side Null Pull) (greeting_of Null ++ 2 ∷ 0 ∷ 0 ∷ 0 ∷ 0 ∷ 1 ∷ 0 ∷ 0 ∷ 1 ∷ []) (first_refused OutOfOrder)
unfolding decode_command sized_at value_at named_at property_at properties_behind peer_of has_bad_meta misplaced
order_before_size = refused [] (2 ∷ 0 ∷ 0 ∷ 0 ∷ 0 ∷ 1 ∷ 0 ∷ 0 ∷ 1 ∷ []) OutOfOrder [] (record { greeting = greeting_of Null; whole = refl; accepted = refl; all = refl; keep = tt }) (by_flags 2 (0 ∷ 0 ∷ 0 ∷ 0 ∷ 1 ∷ 0 ∷ 0 ∷ 1 ∷ []) refl refl refl) refl

between_before_size : Decodes (side Null Pull) (stream (1 ∷ 3 ∷ codes "abc" ++ 6 ∷ 0 ∷ 0 ∷ 0 ∷ 0 ∷ 0 ∷ 1 ∷ 0 ∷ 1 ∷ [])) (heard [] (Refused (record { cause = OutOfOrder; offset = 97 })))
unfolding decode_command sized_at value_at named_at property_at properties_behind peer_of has_bad_meta misplaced
between_before_size = refused (ready ∷ part ∷ []) (6 ∷ 0 ∷ 0 ∷ 0 ∷ 0 ∷ 0 ∷ 1 ∷ 0 ∷ 1 ∷ []) OutOfOrder [] (record { greeting = greeting_of Null; whole = refl; accepted = refl; all = refl; keep = (ready_keeps, (part_keeps, tt)) }) (by_flags 6 (0 ∷ 0 ∷ 0 ∷ 0 ∷ 0 ∷ 1 ∷ 0 ∷ 1 ∷ []) refl refl refl) refl

metadata_before_order : Decodes (side Null Pull) (greeting_of Null ++ encode_frame Command bad_initiate) (first_refused BadMeta)
unfolding decode_command sized_at value_at named_at property_at properties_behind peer_of has_bad_meta misplaced
metadata_before_order = refused [] (encode_frame Command bad_initiate) BadMeta (item_of_body bad_initiate ∷ []) (record { greeting = greeting_of Null; whole = refl; accepted = refl; all = refl; keep = tt })
    (by_item (frame bad_initiate) [] refl (record { fits = lit< tt; within = lit≤ tt }) refl refl refl) refl

form_before_order : Decodes (side Null Pull) (greeting_of Null ++ encode_frame Command bare_hello) (first_refused BadCommand)
unfolding decode_command sized_at value_at named_at property_at properties_behind peer_of has_bad_meta misplaced decode_login
form_before_order = refused [] (encode_frame Command bare_hello) BadCommand (item_of_body bare_hello ∷ []) (record { greeting = greeting_of Null; whole = refl; accepted = refl; all = refl; keep = tt })
    (by_item (frame bare_hello) [] refl (record { fits = lit< tt; within = lit≤ tt }) refl refl refl) refl

form_before_error : Decodes (side Null Pull) (stream (encode_frame Command bare_error)) (heard [] (Refused (record { cause = BadCommand; offset = 92 })))
unfolding decode_command sized_at value_at named_at property_at properties_behind peer_of has_bad_meta misplaced
form_before_error = refused (ready ∷ []) (encode_frame Command bare_error) BadCommand (item_of_body bare_error ∷ []) (record { greeting = greeting_of Null; whole = refl; accepted = refl; all = refl; keep = (ready_keeps, tt) })
    (by_item (frame bare_error) [] refl (record { fits = lit< tt; within = lit≤ tt }) refl refl refl) refl

-- with a content
abbrev full_welcome : List ℕ
full_welcome = encode_command (command (codes "WELCOME") (120 ∷ []))

-- metadata that is none, where nothing is awaited
abbrev bad_ready : List ℕ
bad_ready = encode_command (command (codes "READY") (0 ∷ 0 ∷ 0 ∷ 0 ∷ []))

-- without a kind, and an identity that begins with octet 0
abbrev unnamed_ready : List ℕ
unnamed_ready = encode_command (command (codes "READY") (encode_meta (property (codes "Identity") (0 ∷ []) ∷ [])))

-- a kind that does not fit, and such an identity
abbrev unfit_ready : List ℕ
unfit_ready = encode_command (command (codes "READY") (encode_meta (property (codes "Socket-Type") (codes "PULL") ∷ property (codes "Identity") (0 ∷ []) ∷ [])))

flags_before_between : Decodes (side Null Pull) (stream (1 ∷ 3 ∷ codes "abc" ++ 12 ∷ 0 ∷ [])) (heard [] (Refused (record { cause = BadFlags; offset = 97 })))
unfolding decode_command sized_at value_at named_at property_at properties_behind peer_of has_bad_meta misplaced
flags_before_between = refused (ready ∷ part ∷ []) (12 ∷ 0 ∷ []) BadFlags [] (record { greeting = greeting_of Null; whole = refl; accepted = refl; all = refl; keep = (ready_keeps, (part_keeps, tt)) }) (by_flags 12 (0 ∷ []) refl refl refl) refl

content_before_order : Decodes (side Null Pull) (greeting_of Null ++ encode_frame Command full_welcome) (first_refused BadCommand)
unfolding decode_command sized_at value_at named_at property_at properties_behind peer_of has_bad_meta misplaced
content_before_order = refused [] (encode_frame Command full_welcome) BadCommand (item_of_body full_welcome ∷ []) (record { greeting = greeting_of Null; whole = refl; accepted = refl; all = refl; keep = tt })
    (by_item (frame full_welcome) [] refl (record { fits = lit< tt; within = lit≤ tt }) refl refl refl) refl

metadata_once_running : Decodes (side Null Pull) (stream (encode_frame Command bad_ready)) (heard [] (Refused (record { cause = BadMeta; offset = 92 })))
unfolding decode_command sized_at value_at named_at property_at properties_behind peer_of has_bad_meta misplaced
metadata_once_running = refused (ready ∷ []) (encode_frame Command bad_ready) BadMeta (item_of_body bad_ready ∷ []) (record { greeting = greeting_of Null; whole = refl; accepted = refl; all = refl; keep = (ready_keeps, tt) })
    (by_item (frame bad_ready) [] refl (record { fits = lit< tt; within = lit≤ tt }) refl refl refl) refl

kind_before_identity : Decodes (side Null Pull) (greeting_of Null ++ encode_frame Command unnamed_ready) (first_refused NoKind)
unfolding decode_command sized_at value_at named_at property_at properties_behind peer_of has_bad_meta misplaced
kind_before_identity = refused [] (encode_frame Command unnamed_ready) NoKind (item_of_body unnamed_ready ∷ []) (record { greeting = greeting_of Null; whole = refl; accepted = refl; all = refl; keep = tt })
    (by_item (frame unnamed_ready) [] refl (record { fits = lit< tt; within = lit≤ tt }) refl refl refl) refl

pair_before_identity : Decodes (side Null Pull) (greeting_of Null ++ encode_frame Command unfit_ready) (first_refused BadPair)
unfolding decode_command sized_at value_at named_at property_at properties_behind peer_of has_bad_meta misplaced
pair_before_identity = refused [] (encode_frame Command unfit_ready) BadPair (item_of_body unfit_ready ∷ []) (record { greeting = greeting_of Null; whole = refl; accepted = refl; all = refl; keep = tt })
    (by_item (frame unfit_ready) [] refl (record { fits = lit< tt; within = lit≤ tt }) refl refl refl) refl

-- ---- the 1,024th frame of a message, whatever came before it

-- with a flag that is none
flags_before_count : (before : List WireFrame) → octet_refusal (side Null Pull) before 9 ≡ Some BadFlags
flags_before_count before = refl

-- a command
order_before_count : (before more : List WireFrame) (f : WireFrame) → (gathered before).unfinished ≡ f ∷ more → octet_refusal (side Null Pull) before 4 ≡ Some OutOfOrder
order_before_count before more f is = ap (λ (l : List WireFrame). between_refusal l) is

-- with a long size, before which its flags octet stands
count_before_size : (before : List WireFrame) → item_refusal (side Null Pull) before MessageFrame ≡ None → length (gathered before).unfinished ≡ max_committed
    → octet_refusal (side Null Pull) before 2 ≡ Some TooManyParts
count_before_size before running all = ap (λ c. first_cause c (count_refusal (gathered before).unfinished)) running ∙ rw all refl
