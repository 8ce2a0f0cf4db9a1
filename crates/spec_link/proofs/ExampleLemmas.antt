-- The worked links, computed from the definitions, so that a wrong rule does not check.
use Rattle.std.proofs.Common.{◌≡◌, ℕ, false, List, [], ◌∷◌, ◌++◌, length, Option, Some, None, refl, sym, ap, subst, ◌∙◌, inl, inr, lit<, lit≤, arith}
use Rattle.std.specs.Prelude.{codes, IsSome}
use Rattle.zq_base.specs.Message.{Frames}
use Rattle.zq_outer.specs.declared.link.LinkGot.TheVariants as got
use Rattle.zq_outer.specs.declared.link.LinkGot.{LinkGot}
use Rattle.zq_outer.specs.declared.link.LinkPut.{LinkPut}
use Rattle.zq_outer.specs.declared.link.LinkPut.TheVariants as put
use Rattle.spec_pattern.specs.PipeStep.{Commit, FullLook, Take, EmptyLook}
use Rattle.spec_zmtp.specs.declared.flags.FrameKind.TheVariants.{Last, Command}
use Rattle.spec_zmtp.specs.FrameEncoding.{WireFrame}
use Rattle.spec_zmtp.specs.FrameRules.{Keeps, at_flags}
use Rattle.spec_zmtp.specs.Metadata.{encode_command}
use Rattle.spec_zmtp.specs.OwnCommands.{our_ready}
use Rattle.spec_zmtp.specs.Decoding.{decode_command, sized_at, value_at, named_at, property_at, properties_behind}
use Rattle.spec_zmtp.specs.PeerMetadata.{peer_of}
use Rattle.spec_zmtp.specs.Put.{Put, Says, Sends, sends}
use Rattle.spec_zmtp.specs.Handshake.{has_bad_meta, misplaced}
use Rattle.spec_zmtp.specs.DecodedStream.{Decoded, Decodes, unfinished}
use Rattle.spec_zmtp.proofs.StreamLemmas.{one_meaning}
use Rattle.spec_link.specs.LinkAct.{LinkAct, Wire, Step, Writes, said_of, heard_of, offered_of}
use Rattle.spec_link.specs.LinkRun.{AreToSay, IsSaid, IsAllSaid}
use Rattle.spec_link.specs.Parts.{IsTake, IsRunning, IsWriteOver, IsWritePart, IsReadPart}
use Rattle.spec_link.specs.Rows.{IsWritten}
use Rattle.spec_link.specs.Examples.{pair_side, greeting, outward, inward, hello, hi, heard, shakes, third_write, third_read, fourth_write, carried, cut, held, WorkedLinks}
use Rattle.spec_link.proofs.PutLemmas.{same_long}

-- ---- what is heard

abbrev ready_frame : WireFrame
ready_frame = record { kind = Command; long = false; body = encode_command (our_ready pair_side) }

abbrev hi_frame : WireFrame
hi_frame = record { kind = Last; long = false; body = codes "hi" }

ready_keeps : Keeps pair_side [] ready_frame
unfolding decode_command sized_at value_at named_at property_at properties_behind peer_of has_bad_meta misplaced
ready_keeps = record { frame = record { fits = lit< tt; within = lit≤ tt }; in_place = refl; heard = refl }

hi_keeps : Keeps pair_side (ready_frame ∷ []) hi_frame
unfolding decode_command sized_at value_at named_at property_at properties_behind peer_of has_bad_meta misplaced
hi_keeps = record { frame = record { fits = lit< tt; within = lit≤ tt }; in_place = refl; heard = refl }

shaken : Decodes pair_side (heard_of shakes) (heard [])
unfolding decode_command sized_at value_at named_at property_at properties_behind peer_of has_bad_meta misplaced
shaken = unfinished (ready_frame ∷ []) [] (record { greeting = greeting; whole = refl; accepted = refl; all = refl; keep = (ready_keeps, tt) }) (at_flags refl) refl

got_hi : Decodes pair_side (heard_of carried) (heard (hi ∷ []))
unfolding decode_command sized_at value_at named_at property_at properties_behind peer_of has_bad_meta misplaced
got_hi = unfinished (ready_frame ∷ hi_frame ∷ []) [] (record { greeting = greeting; whole = refl; accepted = refl; all = refl; keep = (ready_keeps, (hi_keeps, tt)) }) (at_flags refl) refl

-- what holds of one meaning holds of each
by_meaning : (F : Decoded → Type 0) (octets : List ℕ) (k : Decoded) → Decodes pair_side octets k → F k → (d : Decoded) → Decodes pair_side octets d → F d
by_meaning F octets k is f d decodes = subst F (one_meaning pair_side octets k d is decodes) f

-- ---- what is to be said

our_puts : List Frames → List Put
our_puts messages = Says (our_ready pair_side) ∷ sends messages

no_message : AreToSay pair_side shakes (heard []) (our_puts [])
unfolding our_puts
no_message = record { messages = refl; ours = refl; later = []; first = refl }

one_message : (acts : List LinkAct) (messages : List Frames) → offered_of acts ≡ hello ∷ [] → AreToSay pair_side acts (heard messages) (our_puts (hello ∷ []))
unfolding our_puts
one_message acts messages e = record { messages = sym e; ours = refl; later = Sends hello ∷ []; first = refl }

all_shakes : IsAllSaid pair_side (heard []) shakes
unfolding our_puts
all_shakes = (our_puts [], no_message, refl)

all_carried : (acts : List LinkAct) → offered_of acts ≡ hello ∷ [] → said_of acts ≡ said_of carried → IsAllSaid pair_side (heard (hi ∷ [])) acts
unfolding our_puts
all_carried acts e s = (our_puts (hello ∷ []), one_message acts (hi ∷ []) e, s)

-- ---- the parts of turns

runs : (messages : List (List (List ℕ))) → IsRunning (heard messages)
runs messages = record { known = refl; rest = 0; fine = refl }

none_some : (T : Type 0) {A : Type 0} → IsSome {T = T} None → A
none_some T e = absurd cc

never_over : {A : Type 0} (answer : Option LinkPut) → answer ≡ None → IsWriteOver answer → A
never_over answer none (inl e) = absurd cc
never_over answer none (inr e) = absurd cc

took : IsWritePart pair_side (IsTake outward) shakes third_write
took = record {
  answer = None;
  octets = [];
  takes = third_write;
  all = refl;
  fits = refl;
  none = λ _. by_meaning (λ d. IsAllSaid pair_side d shakes) (heard_of shakes) (heard []) shaken all_shakes;
  some = λ e. none_some LinkPut e;
  over = λ e. never_over None refl e;
  take = λ _ _. (Step (Take outward hello), inl (hello, refl), refl);
  wait = λ no. absurd (no (by_meaning (λ d. IsAllSaid pair_side d shakes × IsRunning d) (heard_of shakes) (heard []) shaken (all_shakes, runs [])));
}

-- a write that took octets doesn't end the link
goes_on : {A : Type 0} (n : ℕ) → IsWriteOver (Some (put.Took n)) → A
goes_on n (inl e) = absurd cc
goes_on n (inr e) = absurd cc

-- before the fourth turn
abbrev third : List LinkAct
third = shakes ++ (third_write ++ third_read)

-- 92 octets are said, and seven more are to be
differ : ◌≡◌ {A = ℕ} 92 99 → ⊥
differ e = omega (arith, e)

unsaid : IsAllSaid pair_side (heard (hi ∷ [])) third → ⊥
unfolding our_puts
unsaid k =
    differ (ap (λ (l : List ℕ). length l) k.2 ∙ same_long pair_side third (heard (hi ∷ [])) k.0 (our_puts (hello ∷ [])) k.1 (one_message third (hi ∷ []) refl))

wrote : IsWritePart pair_side (IsTake outward) third fourth_write
wrote = record {
  answer = Some (put.Took 7);
  octets = 0 ∷ 5 ∷ codes "hello";
  takes = Step (EmptyLook outward) ∷ [];
  all = refl;
  fits = (lit≤ tt, refl);
  none = λ e. absurd cc;
  some = λ _. by_meaning (λ d. IsAllSaid pair_side d third → ⊥) (heard_of third) (heard (hi ∷ [])) got_hi unsaid;
  over = λ e. goes_on 7 e;
  take = λ _ _. (Step (EmptyLook outward), inr (inl refl), refl);
  wait = λ no. absurd (no (by_meaning (λ d. IsAllSaid pair_side d (third ++ Wire (Writes (put.Took 7) (0 ∷ 5 ∷ codes "hello")) ∷ []) × IsRunning d) (heard_of third) (heard (hi ∷ [])) got_hi (all_carried (third ++ Wire (Writes (put.Took 7) (0 ∷ 5 ∷ codes "hello")) ∷ []) refl refl, runs (hi ∷ []))));
}

read : IsReadPart pair_side inward (shakes ++ third_write) third_read
read = record {
  answer = Some (got.Bytes 4);
  octets = 0 ∷ 2 ∷ codes "hi";
  later = Step (Commit inward hi) ∷ [];
  all = refl;
  fits = (lit≤ tt, lit≤ tt, refl);
  held = λ e. absurd cc;
  read = λ _. by_meaning (λ d. [] ≡ d.messages) (heard_of shakes) (heard []) shaken refl;
  whole = (hi ∷ [], inl (refl, by_meaning (λ d. hi ∷ [] ≡ d.messages) (heard_of third) (heard (hi ∷ [])) got_hi refl));
}

unput : [] ≡ hi ∷ [] → ⊥
unput e = absurd cc

still_held : IsReadPart pair_side inward held (Step (FullLook inward) ∷ [])
still_held = record {
  answer = None;
  octets = [];
  later = Step (FullLook inward) ∷ [];
  all = refl;
  fits = refl;
  held = λ _. by_meaning (λ d. [] ≡ d.messages → ⊥) (heard_of held) (heard (hi ∷ [])) got_hi unput;
  read = λ e. none_some LinkGot e;
  whole = ([], inr (refl, by_meaning (λ d. [] ≡ d.messages → ⊥) (heard_of held) (heard (hi ∷ [])) got_hi unput));
}

-- ---- what is written

carried_whole : IsWritten pair_side (heard (hi ∷ [])) carried 1
unfolding our_puts
carried_whole = (our_puts (hello ∷ []), one_message carried (hi ∷ []) refl, ([], refl), refl)

cut_short : IsWritten pair_side (heard []) cut 0
unfolding our_puts
cut_short = (our_puts (hello ∷ []), one_message cut [] refl, (codes "ello", refl), refl)

held_back : IsSaid pair_side (heard (hi ∷ [])) held
unfolding our_puts
held_back = (our_puts (hello ∷ []), one_message held (hi ∷ []) refl, (0 ∷ 5 ∷ codes "hello", refl))

-- ---- all of it

pub worked : WorkedLinks
worked = record {
  carries = record { decodes = got_hi; said = (carried_whole.0, carried_whole.1, carried_whole.2); put = ([], refl); drops = λ e. absurd cc };
  took = took;
  read = read;
  wrote = wrote;
  written = carried_whole;
  none_lost = (1, carried_whole, refl);
  cuts = record { decodes = shaken; said = (cut_short.0, cut_short.1, cut_short.2); put = ([], refl); drops = λ e. absurd cc };
  unwritten = cut_short;
  lost = (0, cut_short, refl);
  row = record {
    links = omega arith;
    heard = (1, (heard [], 0, 1, shaken, refl, (heard (hi ∷ []), 1, 0, got_hi, refl, refl, refl), refl), omega arith);
    put = (1, (heard [], 0, 1, shaken, refl, (heard (hi ∷ []), 1, 0, got_hi, refl, refl, refl), refl), omega arith);
    last = refl;
  };
  fates = record {
    written_is = (1, (heard [], 0, 1, shaken, cut_short, (heard (hi ∷ []), 1, 0, got_hi, carried_whole, refl, refl), refl), omega arith);
    lost_is = (1, (heard [], 1, 0, shaken, (0, cut_short, refl), refl, refl), omega arith);
  };
  holds = record { decodes = got_hi; said = held_back; put = (hi ∷ [], refl); drops = λ e. absurd cc };
  still_held = still_held;
}
