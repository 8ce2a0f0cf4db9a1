-- The worked link of a SUB, computed from the definitions.
use Rattle.std.proofs.Common.{◌≡◌, ℕ, false, List, [], ◌∷◌, length, refl, sym, ap, ◌∙◌, lit<, lit≤, arith}
use Rattle.std.specs.Prelude.{All, codes}
use Rattle.std.proofs.lemmas.List.Elements.{All-nil, All-cons}
use Rattle.zq_base.specs.Message.{Frames, IsFrame}
use Rattle.spec_zmtp.specs.declared.flags.FrameKind.TheVariants.{Command}
use Rattle.spec_zmtp.specs.FrameEncoding.{WireFrame}
use Rattle.spec_zmtp.specs.FrameRules.{Keeps, at_flags}
use Rattle.spec_zmtp.specs.Metadata.{encode_command}
use Rattle.spec_zmtp.specs.OwnCommands.{our_ready}
use Rattle.spec_zmtp.specs.Decoding.{decode_command, sized_at, value_at, named_at, property_at, properties_behind}
use Rattle.spec_zmtp.specs.PeerMetadata.{peer_of}
use Rattle.spec_zmtp.specs.Handshake.{has_bad_meta, misplaced}
use Rattle.spec_zmtp.specs.Put.{Put, Says, Sends, IsSendable}
use Rattle.spec_zmtp.specs.DecodedStream.{Decodes, unfinished}
use Rattle.spec_link.specs.LinkAct.{heard_of, offered_of}
use Rattle.spec_link.specs.Rows.{IsWritten}
use Rattle.spec_link.specs.Examples.{greeting}
use Rattle.spec_link.specs.TopicExamples.{sub_side, pub_side, add_a, add_b, told, said_again, but_one, all_written, WorkedTopics, UnsaidPuts}
use Rattle.spec_link.proofs.InFlightLemmas.{counts_are_one}

-- ---- what is heard

abbrev ready_frame : WireFrame
ready_frame = record { kind = Command; long = false; body = encode_command (our_ready pub_side) }

ready_keeps : Keeps sub_side [] ready_frame
unfolding decode_command sized_at value_at named_at property_at properties_behind peer_of has_bad_meta misplaced
ready_keeps = record { frame = record { fits = lit< tt; within = lit≤ tt }; in_place = refl; heard = refl }

means_told : Decodes sub_side (heard_of all_written) told
unfolding decode_command sized_at value_at named_at property_at properties_behind peer_of has_bad_meta misplaced
means_told = unfinished (ready_frame ∷ []) [] (record { greeting = greeting; whole = refl; accepted = refl; all = refl; keep = (ready_keeps, tt) }) (at_flags refl) refl

-- ---- what is said

add_fits : (octet : ℕ) → IsSendable ((1 ∷ octet ∷ []) ∷ [])
add_fits octet = (lit≤ tt, lit≤ tt, All-cons IsFrame (1 ∷ octet ∷ []) [] (lit≤ tt) (All-nil IsFrame))

both_fit : All IsSendable (offered_of but_one)
both_fit = All-cons IsSendable add_a (add_b ∷ []) (add_fits 97) (All-cons IsSendable add_b [] (add_fits 98) (All-nil IsSendable))

one_topic : IsWritten sub_side told said_again 0
one_topic = (Says (our_ready sub_side) ∷ Sends add_a ∷ [], record { messages = refl; ours = refl; later = Sends add_a ∷ []; first = refl }, ([], refl), refl)

unwritten : IsWritten sub_side told but_one 0
unwritten = (
  Says (our_ready sub_side) ∷ Sends add_a ∷ Sends add_b ∷ [],
  record { messages = refl; ours = refl; later = Sends add_a ∷ Sends add_b ∷ []; first = refl },
  (codes "b", refl),
  refl,
)

written : IsWritten sub_side told all_written 1
written = (
  Says (our_ready sub_side) ∷ Sends add_a ∷ Sends add_b ∷ [],
  record { messages = refl; ours = refl; later = Sends add_a ∷ Sends add_b ∷ []; first = refl },
  ([], refl),
  refl,
)

pub worked : WorkedTopics
worked = record {
  runs = record { decodes = means_told; said = (written.0, written.1, written.2); put = ([], refl); drops = λ e. absurd cc };
  uncounted = one_topic;
  none_taken = (0, one_topic, refl);
  unwritten = unwritten;
  in_flight = (0, unwritten, refl);
  no_other = λ n w. counts_are_one.written sub_side but_one told n 0 both_fit w unwritten;
  written = written;
  none_lost = (1, written, refl);
  once = λ n w. counts_are_one.written sub_side all_written told n 1 both_fit w written;
}

-- ---- what isn't to be said

swapped : add_b ∷ add_a ∷ [] ≡ add_a ∷ add_b ∷ [] → ⊥
swapped e = (let d : ◌≡◌ {A = ℕ} 98 97 = cc in absurd (omega (arith, d)))

longer : (n m : ℕ) → (n ≡ m → ⊥) → (xs ys : List Frames) → length xs ≡ n → length ys ≡ m → xs ≡ ys → ⊥
longer n m differs xs ys a b e = differs (sym a ∙ ap (λ (l : List Frames). length l) e ∙ b)

message_first : (m : Frames) (puts later : List Put) → Sends m ∷ puts ≡ Says (our_ready sub_side) ∷ later → ⊥
message_first m puts later e = absurd cc

pub unsaid : UnsaidPuts
unsaid = record {
  early = λ a. message_first add_a (Says (our_ready sub_side) ∷ Sends add_b ∷ []) a.later a.first;
  swapped = λ a. swapped a.messages;
  twice = λ a. longer 3 2 (λ e. omega (arith, e)) (add_a ∷ add_a ∷ add_b ∷ []) (add_a ∷ add_b ∷ []) refl refl a.messages;
  left_out = λ a. longer 1 2 (λ e. omega (arith, e)) (add_a ∷ []) (add_a ∷ add_b ∷ []) refl refl a.messages;
}
