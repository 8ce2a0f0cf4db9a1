-- How many messages of a link are written.
use Rattle.std.proofs.Common.{◌≡◌, ℕ, inl, inr, ◌+◌, ◌-◌, ◌<◌, ◌≤◌, List, [], ◌∷◌, ◌++◌, length, refl, sym, ap, subst, ◌∙◌, append_assoc, arith}
use Rattle.std.specs.Prelude.{All}
use mathlib.Core.List.{IsPrefix}
use Rattle.std.proofs.lemmas.Bool.{cases_order}
use Rattle.std.proofs.lemmas.List.{append-nil, length-append, append_cancel_left}
use Rattle.std.proofs.lemmas.List.Concat.{flat_map-append}
use Rattle.std.proofs.lemmas.List.Elements.{All-nil, All-cons, All-head, All-tail}
use Rattle.zq_base.specs.Message.{Frames}
use Rattle.zq_base.specs.Ends.{PipeId}
use Rattle.zq_base.specs.declared.options.EngineOpts.{EngineOpts}
use Rattle.spec_pattern.specs.PipeStep.{Take}
use Rattle.spec_zmtp.specs.declared.command.Command as command
use Rattle.spec_zmtp.specs.Put.{Put, Says, Sends, IsSendable, encode_put, encode_puts, command_in, message_in, commands_in, messages_in, says}
use Rattle.spec_zmtp.specs.DecodedStream.{Decoded}
use Rattle.spec_link.specs.LinkAct.{LinkAct, Wire, Step, said_by, offered_by, taken_by, repeated_by, repeated_on, taken_at, said_of, offered_of, taken_of, repeated_of}
use Rattle.spec_link.specs.LinkRun.{AreToSay, octets_to_say, first_said, IsSaid, IsAllSaid}
use Rattle.spec_link.specs.Rows.{whole_in, IsWritten, IsLost}
use Rattle.spec_link.specs.InFlight.{CountsAreOne}
use Rattle.spec_link.proofs.PutLemmas.{no_more, length-to_say, to_say_is, later_clear}
use Rattle.spec_link.proofs.CountLemmas.{split_front, short, none, whole_before, whole_behind, behind_first, same_whole, goes_on}

-- ---- the counts are one

module _ (opts : EngineOpts) (acts : List LinkAct) (d : Decoded) (good : All IsSendable (offered_of acts)) where
  -- what the link took behind the greeting
  abbrev room : ℕ
  room = length (said_of acts) - 64

  abbrev ours : List ℕ
  ours = octets_to_say opts.role (says (first_said d))

  length-ours : length ours ≡ 64 + length (encode_puts (says (first_said d)))
  length-ours = length-to_say opts.role (says (first_said d))

  count_is : (puts : List Put) (a : AreToSay opts acts d puts) → whole_in room puts ≡ whole_in (length (said_of acts) - length ours) a.later
  count_is puts a =
      let left : room - length (encode_puts (says (first_said d))) ≡ length (said_of acts) - length ours = omega (arith, length-ours) in
      ap (λ (l : List Put). whole_in room l) a.first ∙ whole_behind (first_said d) a.later room ∙ ap (λ (k : ℕ). whole_in k a.later) left

  front_is : (puts : List Put) (a : AreToSay opts acts d puts) → IsPrefix (said_of acts) (octets_to_say opts.role puts) → IsPrefix (said_of acts) (ours ++ encode_puts a.later)
  front_is puts a f = subst (λ (l : List ℕ). IsPrefix (said_of acts) l) (to_say_is opts acts d puts a) f

  same_count : (ps qs : List Put) → AreToSay opts acts d ps → AreToSay opts acts d qs → IsPrefix (said_of acts) (octets_to_say opts.role ps) → IsPrefix (said_of acts) (octets_to_say opts.role qs) → whole_in room ps ≡ whole_in room qs
  same_count ps qs a b f g =
      count_is ps a ∙ (elim (cases_order (length (said_of acts)) (length ours)) [
        | inl same ↦ neither (omega (arith, same))
        | inr (inl below) ↦ neither (omega (arith, below))
        | inr (inr above) ↦ both (omega (arith, above))
      ]) ∙ sym (count_is qs b)
    where
      neither : length (said_of acts) ≤ length ours → whole_in (length (said_of acts) - length ours) a.later ≡ whole_in (length (said_of acts) - length ours) b.later
      neither le =
          none a.later (later_clear opts acts d ps a good) (length (said_of acts) - length ours) (omega (arith, le))
          ∙ sym (none b.later (later_clear opts acts d qs b good) (length (said_of acts) - length ours) (omega (arith, le)))

      both : length ours ≤ length (said_of acts) → whole_in (length (said_of acts) - length ours) a.later ≡ whole_in (length (said_of acts) - length ours) b.later
      both le =
          let p = front_is ps a f in
          let q = front_is qs b g in
          let cut = split_front ours (said_of acts) (encode_puts a.later) p.0 (sym p.1) le in
          let long = ap (λ (l : List ℕ). length l) cut.1 ∙ length-append ours cut.0 in
          let left : length (said_of acts) - length ours ≡ length cut.0 = omega (arith, long) in
          ap (λ (k : ℕ). whole_in k a.later) left
          ∙ same_whole a.later b.later cut.0 (later_clear opts acts d ps a good) (later_clear opts acts d qs b good)
          (behind_first ours (encode_puts a.later) (said_of acts) p cut.0 cut.1) (behind_first ours (encode_puts b.later) (said_of acts) q cut.0 cut.1)
          ∙ ap (λ (k : ℕ). whole_in k b.later) (sym left)

  written_is : (n m : ℕ) → IsWritten opts d acts n → IsWritten opts d acts m → n ≡ m
  written_is n m w v = w.3 ∙ ap (λ (k : ℕ). k - length (repeated_of acts)) (same_count w.0 v.0 w.1 v.1 w.2 v.2) ∙ sym v.3

  lost_is : (n m : ℕ) → IsLost opts d acts n → IsLost opts d acts m → n ≡ m
  lost_is n m w v = w.2 ∙ ap (λ (k : ℕ). length (taken_of acts) - k) (written_is w.0 v.0 w.1 v.1) ∙ sym v.2

pub counts_are_one : CountsAreOne
counts_are_one = record { written = λ opts acts d n m good w v. written_is opts acts d good n m w v; lost = λ opts acts d n m good w v. lost_is opts acts d good n m w v }

-- ---- all is said

-- what is offered is taken or said again
pub sorts : (acts : List LinkAct) → length (offered_of acts) ≡ length (taken_of acts) + length (repeated_of acts)
sorts [] = refl
sorts (Wire act ∷ acts) = omega (arith, sorts acts, length-append (repeated_on act) (offered_of acts), length-append (repeated_on act) (repeated_of acts))
sorts (Step step ∷ acts) = omega (arith, sorts acts, length-append (taken_at step) (offered_of acts), length-append (taken_at step) (taken_of acts))

pub all_written : (opts : EngineOpts) (acts : List LinkAct) (d : Decoded) → IsAllSaid opts d acts → IsWritten opts d acts (length (taken_of acts)) × IsLost opts d acts 0
all_written opts acts d all =
    let puts = all.0 in
    let room : length (said_of acts) - 64 ≡ length (encode_puts puts) = (let n = ap (λ (l : List ℕ). length l) all.2 ∙ length-to_say opts.role puts in omega (arith, n)) in
    let b = whole_before puts [] (length (said_of acts) - 64) (omega (arith, room)) in
    let same : whole_in (length (said_of acts) - 64) (puts ++ []) ≡ whole_in (length (said_of acts) - 64) puts = ap (λ (l : List Put). whole_in (length (said_of acts) - 64) l) (append-nil puts) in
    let many = ap (λ (l : List Frames). length l) all.1.messages in
    let s = sorts acts in
    let written : IsWritten opts d acts (length (taken_of acts)) = (puts, all.1, ([], append-nil (said_of acts) ∙ all.2), omega (arith, b, same, many, s)) in
    (written, (length (taken_of acts), written, omega arith))

-- ---- one is in flight

lone : (more : List Put) (m : Frames) → commands_in more ≡ [] → messages_in more ≡ m ∷ [] → more ≡ Sends m ∷ []
lone [] m c e = absurd cc
lone (Says x ∷ more) m c e = absurd cc
lone (Sends x ∷ []) m c e = cc
lone (Sends x ∷ Says y ∷ more) m c e = absurd cc
lone (Sends x ∷ Sends y ∷ more) m c e = absurd cc

all_front : (xs ys : List Frames) → All IsSendable (xs ++ ys) → All IsSendable xs
all_front [] ys all = All-nil IsSendable
all_front (x ∷ xs) ys all = All-cons IsSendable x xs (All-head IsSendable x (xs ++ ys) all) (all_front xs ys (All-tail IsSendable x (xs ++ ys) all))

-- a front that isn't all of a list is shorter
shorter : (xs zs ys : List ℕ) → xs ++ zs ≡ ys → (xs ≡ ys → ⊥) → length xs < length ys
shorter xs [] ys is differs = absurd (differs (sym (append-nil xs) ∙ is))
shorter xs (z ∷ zs) ys is differs = omega (arith, sym (length-append xs (z ∷ zs)) ∙ ap (λ (l : List ℕ). length l) is)

none_more : (acts : List LinkAct) → offered_of acts ≡ [] → (length (taken_of acts) ≡ 0) × (length (repeated_of acts) ≡ 0)
none_more acts e =
    let n = ap (λ (l : List Frames). length l) e in
    let s = sorts acts in
    (omega (arith, n, s), omega (arith, n, s))

module _ (opts : EngineOpts) (before behind : List LinkAct) (pipe : PipeId) (m : Frames) (d : Decoded) (good : All IsSendable (offered_of (before ++ Step (Take pipe m) ∷ behind))) (all : IsAllSaid opts d before) (quiet : offered_of behind ≡ [])
    (some : IsSaid opts d (before ++ Step (Take pipe m) ∷ behind)) (unsaid : IsAllSaid opts d (before ++ Step (Take pipe m) ∷ behind) → ⊥) where
  abbrev acts : List LinkAct
  acts = before ++ Step (Take pipe m) ∷ behind

  abbrev first : List ℕ
  first = octets_to_say opts.role all.0

  said_is : said_of acts ≡ first ++ said_of behind
  said_is = flat_map-append said_by before (Step (Take pipe m) ∷ behind) ∙ ap (λ (l : List ℕ). l ++ said_of behind) all.2

  offered_is : offered_of acts ≡ offered_of before ++ m ∷ []
  offered_is = flat_map-append offered_by before (Step (Take pipe m) ∷ behind) ∙ ap (λ (l : List Frames). offered_of before ++ m ∷ l) quiet

  good_before : All IsSendable (offered_of before)
  good_before = all_front (offered_of before) (m ∷ []) (subst (λ (l : List Frames). All IsSendable l) offered_is good)

  -- behind the commands of the handshake
  moved : encode_puts all.1.later ++ (said_of behind ++ some.2.0) ≡ encode_puts some.1.later
  moved =
      let ours = octets_to_say opts.role (says (first_said d)) in
      let tail = said_of behind ++ some.2.0 in
      append_cancel_left ours (encode_puts all.1.later ++ tail) (encode_puts some.1.later)
      (sym (append_assoc ours (encode_puts all.1.later) tail) ∙ ap (λ (l : List ℕ). l ++ tail) (sym (to_say_is opts before d all.0 all.1))
      ∙ sym (append_assoc first (said_of behind) some.2.0) ∙ ap (λ (l : List ℕ). l ++ some.2.0) (sym said_is) ∙ some.2.1 ∙ to_say_is opts acts d some.0 some.1)

  goes : (more : List Put) × (some.1.later ≡ all.1.later ++ more) × (said_of behind ++ some.2.0 ≡ encode_puts more)
  goes = goes_on all.1.later some.1.later (said_of behind ++ some.2.0) (later_clear opts before d all.0 all.1 good_before) (later_clear opts acts d some.0 some.1 good) moved

  puts_go : some.0 ≡ all.0 ++ goes.0
  puts_go =
      some.1.first ∙ ap (λ (l : List Put). says (first_said d) ++ l) goes.1 ∙ sym (append_assoc (says (first_said d)) all.1.later goes.0)
      ∙ ap (λ (l : List Put). l ++ goes.0) (sym all.1.first)

  messages_are : messages_in goes.0 ≡ m ∷ []
  messages_are =
      append_cancel_left (offered_of before) (messages_in goes.0) (m ∷ [])
      (ap (λ (l : List Frames). l ++ messages_in goes.0) (sym all.1.messages) ∙ sym (flat_map-append message_in all.0 goes.0)
      ∙ ap (λ (l : List Put). messages_in l) (sym puts_go) ∙ some.1.messages ∙ offered_is)

  commands_are : commands_in goes.0 ≡ []
  commands_are =
      no_more d.said (commands_in goes.0)
      (ap (λ (l : List command.Command). l ++ commands_in goes.0) (sym all.1.ours) ∙ sym (flat_map-append command_in all.0 goes.0)
      ∙ ap (λ (l : List Put). commands_in l) (sym puts_go) ∙ some.1.ours)

  is_one : goes.0 ≡ Sends m ∷ []
  is_one = lone goes.0 m commands_are messages_are

  puts_are : some.0 ≡ all.0 ++ Sends m ∷ []
  puts_are = puts_go ∙ ap (λ (l : List Put). all.0 ++ l) is_one

  rest_is : said_of behind ++ some.2.0 ≡ encode_put (Sends m)
  rest_is = goes.2 ∙ ap (λ (l : List Put). encode_puts l) is_one ∙ append-nil (encode_put (Sends m))

  octets_are : octets_to_say opts.role some.0 ≡ first ++ encode_put (Sends m)
  octets_are =
      sym some.2.1 ∙ ap (λ (l : List ℕ). l ++ some.2.0) said_is ∙ append_assoc first (said_of behind) some.2.0 ∙ ap (λ (l : List ℕ). first ++ l) rest_is

  isnt_all : said_of behind ≡ encode_put (Sends m) → ⊥
  isnt_all e = unsaid (some.0, some.1, said_is ∙ ap (λ (l : List ℕ). first ++ l) e ∙ sym octets_are)

  abbrev left_room : ℕ
  left_room = length (said_of acts) - 64

  count : length (taken_of before) ≡ whole_in left_room some.0 - length (repeated_of acts)
  count =
      let cut = shorter (said_of behind) some.2.0 (encode_put (Sends m)) rest_is isnt_all in
      let long = ap (λ (l : List ℕ). length l) said_is ∙ length-append first (said_of behind) in
      let greeted = length-to_say opts.role all.0 in
      let same = ap (λ (l : List Put). whole_in left_room l) puts_are in
      let b = whole_before all.0 (Sends m ∷ []) left_room (omega (arith, long, greeted)) in
      let z = short (Sends m) [] (left_room - length (encode_puts all.0)) (omega (arith, long, greeted, cut)) in
      let many = ap (λ (l : List Frames). length l) all.1.messages in
      let s = sorts before in
      let r = ap (λ (l : List Frames). length l) (flat_map-append repeated_by before (Step (Take pipe m) ∷ behind)) ∙ length-append (repeated_of before) (repeated_of behind) in
      let q = none_more behind quiet in
      omega (arith, same, b, z, many, s, r, q.1)

  in_flight : IsWritten opts d acts (length (taken_of before)) × IsLost opts d acts 1
  in_flight =
      let written : IsWritten opts d acts (length (taken_of before)) = (some.0, some.1, some.2, count) in
      let t = ap (λ (l : List Frames). length l) (flat_map-append taken_by before (Step (Take pipe m) ∷ behind)) ∙ length-append (taken_of before) (taken_of (Step (Take pipe m) ∷ behind)) in
      let q = none_more behind quiet in
      (written, (length (taken_of before), written, omega (arith, t, q.0)))

pub one_in_flight : (opts : EngineOpts) (before behind : List LinkAct) (pipe : PipeId) (m : Frames) (d : Decoded) → All IsSendable (offered_of (before ++ Step (Take pipe m) ∷ behind)) → IsAllSaid opts d before → offered_of behind ≡ []
    → IsSaid opts d (before ++ Step (Take pipe m) ∷ behind) → (IsAllSaid opts d (before ++ Step (Take pipe m) ∷ behind) → ⊥)
    → IsWritten opts d (before ++ Step (Take pipe m) ∷ behind) (length (taken_of before)) × IsLost opts d (before ++ Step (Take pipe m) ∷ behind) 1
one_in_flight opts before behind pipe m d good all quiet some unsaid = in_flight opts before behind pipe m d good all quiet some unsaid
