-- A call on messages of a socket of any kind is one over its own ends.
use Rattle.std.proofs.Common.{◌≡◌, ◌∙◌, ℕ, Bool, true, List, [], All, Contains, Option, Some, None, refl, sym, ap, subst, eqb-true}
use Rattle.std.specs.Prelude.{Result, Ok, Err, OnOk, OnErr}
use Rattle.std.specs.declared.alloc.AllocError.{AllocError}
use Rattle.std.specs.Cmp.{nat_eq_equiv}
use Rattle.std.proofs.lemmas.List.Elements.{All-contains, All-weaker}
use Rattle.std.proofs.lemmas.Map.Views.{list_any-from_Contains, Contains-from_any}
use Rattle.zq_base.specs.Message.{Frames}
use Rattle.zq_base.specs.declared.ids.EndId.{EndId}
use Rattle.spec_pattern.specs.PipeStep.{PipeStep}
use Rattle.spec_pattern.specs.Topics.{Topic}
use Rattle.spec_pattern.specs.Pattern.{Pattern}
use Rattle.spec_pattern.specs.PatternCalls.{PatternSends, PatternReceives, PatternPumps, PatternChanges, Change, ChangeAnswer}
use Rattle.spec_pattern.specs.declared.answers.SendAnswer.{SendAnswer}
use Rattle.spec_pattern.specs.declared.answers.RecvAnswer.{RecvAnswer}
use Rattle.spec_pattern.specs.declared.answers.Skip.{Skip}
use Rattle.spec_pattern.specs.Subscribing.{Done as SubDone, Limit, NotSub}
use Rattle.spec_pattern.specs.PatternCalls.{NoTopics, Changed}
use Rattle.spec_pattern.specs.Results.{RecvResult, answer_of}
use Rattle.spec_pattern.specs.declared.answers.Sent.{Sent}
use Rattle.spec_pattern.specs.declared.answers.SendAnswer.TheVariants as sent_as
use Rattle.spec_pattern.specs.declared.answers.RecvAnswer.TheVariants as got_as
use Rattle.spec_pattern.specs.declared.answers.RecvFault.TheVariants as rfault
use Rattle.router_dealer.specs.Named.{Kept}
use Rattle.pub_sub.specs.XSubs.{MatchXSend}
use Rattle.pub_sub.specs.declared.xsend_fault.XSendFault.{XSendFault}
use Rattle.pub_sub.specs.declared.xsend_fault.XSendFault.TheVariants as xfault
use Rattle.any_sock.specs.declared.change_fault.ChangeFault.{ChangeFault}
use Rattle.any_sock.specs.declared.change_fault.ChangeFault.TheVariants as cfault
use Rattle.msg_pipe.specs.Known.{Known}
use Rattle.spec_pattern.specs.AtPlaces.{TellsWritable}
use Rattle.pub_sub.specs.Places.{AreApart}
use Rattle.pub_sub.specs.Publishers.{PubState, resumed}
use Rattle.any_sock.specs.declared.any_sock.AnySock.{AnySock}
use Rattle.any_sock.specs.declared.any_sock.AnySock.TheVariants as sock
use Rattle.any_sock.specs.Over.{Leftover, IsReadingOf, HaveSamePlaces, peer_places, partner_places, over, caught_up, as_received, left_of}
use Rattle.any_sock.specs.Calls.{SendUndone, ChangeUndone, RecvDone, MatchChanged, SentOver, SaidUntold, GotOver, RecvStopped, PumpedOver, PumpStopped, ChangedOver, ChangeUntold}
use Rattle.any_sock.specs.Stopped.{StopsSend, StopsReceive, StopsPump, StopsChange}
use Rattle.any_sock.specs.Told.{Agree, IsToldByPeers}
use Rattle.end_table.specs.Rows.{Rows, table}
use Rattle.end_table.specs.declared.table.Place.{Place}
use Rattle.end_table.specs.Sound.{IsSound}
use Rattle.end_table.proofs.CallLemmas.{calls_sound}
use Rattle.sock_core.specs.Peers.{ArePeers, AreFlagged, peer_at}
use Rattle.sock_core.specs.Lent.{Lent, IsWhole, Makes, MakesSome, IsNaming, IsTest, table_of}
use Rattle.sock_core.specs.Mails.{SendUndoneHere, ChangeUndoneHere, ReceiveDone, GivesHere, SendsHere, SaysHere, ReceivesHere, StopsHere, PumpsHere, PumpStopsHere, ChangesHere, ChangeUntoldHere}
use Rattle.sock_core.proofs.LentLemmas.{row_end, row_open, names_agree, tests_agree, rows_apart}
use Rattle.sock_core.proofs.StopLemmas.{send_stops_so, pump_stops_so, change_stops_so}

-- what holds of each of these holds of those among them
among : (P : ℕ → Type 0) (was now : List ℕ) → All (Contains was) now → All P was → All P now
among P was now from all = All-weaker (Contains was) P (λ k there. All-contains P was k all there) now from

-- a relation of two patterns, each over another naming
both_named : (P : Pattern → Pattern → Type 0) (p p' q q' : Pattern) → p ≡ q → p' ≡ q' → P q q' → P p p'
both_named P p p' q q' e e' h = subst (λ (x : Pattern). P x p') (sym e) (subst (P q) (sym e') h)

-- pipes and rows that were lent came back, as these names say, the ends are whole, steps were made, and the call is one over them
pub record CameBack (A B Whole Made Step : Type 0) : Type 0 where
  pub pipes : A
  pub rows : B
  pub whole : Whole
  pub made : Made
  pub step : Step

-- what is left where this is to be obeyed
abbrev still_obeys : Option (ℕ × Frames) → Leftover
still_obeys k = record { to_give = None; to_obey = k }

-- what is left is the same whatever ends are there
module _ (f g : ℕ → EndId) where
  left_meant : (p : PubState) (k : Option (ℕ × Frames)) → (resumed f k p).kept ≡ (resumed g k p).kept
  left_meant p None = refl
  left_meant p (Some k) = refl

  left_received : (s : AnySock) → left_of (as_received f s) ≡ left_of (as_received g s)
  left_received (sock.Push x) = refl
  left_received (sock.Pull x) = refl
  left_received (sock.Pair x) = refl
  left_received (sock.Dealer x) = refl
  left_received (sock.Req x) = refl
  left_received (sock.Rep x) = refl
  left_received (sock.Router x) = refl
  left_received (sock.Pub x) = refl
  left_received (sock.XPub p) = ap still_obeys (left_meant p p.kept)
  left_received (sock.Sub x) = refl
  left_received (sock.XSub x) = refl

  left_caught : (s : AnySock) → left_of (caught_up f s) ≡ left_of (caught_up g s)
  left_caught (sock.Push x) = refl
  left_caught (sock.Pull x) = refl
  left_caught (sock.Pair x) = refl
  left_caught (sock.Dealer x) = refl
  left_caught (sock.Req x) = refl
  left_caught (sock.Rep x) = refl
  left_caught (sock.Router x) = refl
  left_caught (sock.Pub p) = ap still_obeys (left_meant p p.kept)
  left_caught (sock.XPub p) = ap still_obeys (left_meant p p.kept)
  left_caught (sock.Sub x) = refl
  left_caught (sock.XSub x) = refl

-- each end that the kind took is a peer of it still
flagged_still : {N I : Type 0} (ps : List (Place N I)) (was now : List ℕ) → AreFlagged ps was → All (Contains now) was → AreFlagged ps now
flagged_still ps was now flagged stay = λ k p at held peer.
    list_any-from_Contains nat_eq_equiv k now (All-contains (Contains now) was k stay (Contains-from_any (λ x y t. eqb-true x y t) k was (flagged k p at held peer)))

module _ {S N O I : Type 0} (K : Known S O I N) (old new : Lent S N O I) (whole : IsWhole K old) (stay : new.places ≡ old.places) (same : HaveSamePlaces (peer_places old.kind) (peer_places new.kind)) where
  -- the ends stay whole
  pub still_whole : (steps : List PipeStep) → Makes K old steps new → IsWhole K new
  still_whole steps makes = record {
    sound = subst (IsSound K new.pipes new.rows) (sym stay) (calls_sound K steps (table_of old) (table_of new) old.places makes.does makes.unsealing whole.sound);
    peers = subst (λ (l : List (Place N I)). ArePeers l (peer_places new.kind)) (sym stay) (among (λ k. peer_at old.places k ≡ true) (peer_places old.kind) (peer_places new.kind) same.none_new whole.peers);
    flagged = subst (λ (l : List (Place N I)). AreFlagged l (peer_places new.kind)) (sym stay) (flagged_still old.places (peer_places old.kind) (peer_places new.kind) whole.flagged same.none_gone);
  }

  -- they do where nothing was done
  whole_same : new.pipes ≡ old.pipes → new.rows ≡ old.rows → IsWhole K new
  whole_same pipes rows = record {
    sound = subst (λ (s : S). IsSound K s new.rows new.places) (sym pipes) (subst (λ (l : Rows O I). IsSound K old.pipes l new.places) (sym rows) (subst (IsSound K old.pipes old.rows) (sym stay) whole.sound));
    peers = subst (λ (l : List (Place N I)). ArePeers l (peer_places new.kind)) (sym stay) (among (λ k. peer_at old.places k ≡ true) (peer_places old.kind) (peer_places new.kind) same.none_new whole.peers);
    flagged = subst (λ (l : List (Place N I)). AreFlagged l (peer_places new.kind)) (sym stay) (flagged_still old.places (peer_places old.kind) (peer_places new.kind) whole.flagged same.none_gone);
  }

  module _ (was : IsToldByPeers old.kind) (now : IsToldByPeers new.kind) where
    agree_old : (ends : ℕ → EndId) → IsNaming ends old.places → Agree ends (row_end old.rows) (peer_places old.kind)
    agree_old = names_agree K old.pipes old.rows old.places whole.sound (peer_places old.kind) whole.peers

    agree_new : (ends : ℕ → EndId) → IsNaming ends old.places → Agree ends (row_end old.rows) (peer_places new.kind)
    agree_new ends names = among (λ k. ends k ≡ row_end old.rows k) (peer_places old.kind) (peer_places new.kind) same.none_new (agree_old ends names)

    tells : (test : EndId → Bool) → IsTest test old.places → TellsWritable test (row_end old.rows) (row_open old.rows) (peer_places old.kind)
    tells = tests_agree K old.pipes old.rows old.places whole.sound (peer_places old.kind) whole.peers

    apart : AreApart (row_end old.rows) (peer_places old.kind)
    apart = rows_apart K old.pipes old.rows old.places whole.sound (peer_places old.kind) whole.peers

    reading : (test : EndId → Bool) → IsTest test old.places → IsReadingOf test (row_end old.rows) (row_open old.rows) old.kind
    reading test is = record {
      peers = tells test is;
      partner = among (λ k. test (row_end old.rows k) ≡ row_open old.rows k) (peer_places old.kind) (partner_places old.kind) was.partner (tells test is);
      apart = apart;
    }

    module _ {L : Type 0} (runs : L → List PipeStep → L → Type 0) (from to : L) (makes : (steps : List PipeStep) → runs from steps to → Makes K old steps new) where
      pub sends_here : (m : Frames) (answer : SendAnswer) → SentOver runs (row_end old.rows) (row_open old.rows) m from to old.kind answer new.kind → SendsHere K m old answer new
      sends_here m answer x = record {
        steps = x.steps;
        makes = makes x.steps x.runs_are;
        sends = λ ends test names is.
            both_named (λ p p'. PatternSends test m p x.steps answer p') (over ends old.kind) (over ends new.kind) (over (row_end old.rows) old.kind) (over (row_end old.rows) new.kind)
            (was.state ends (row_end old.rows) (agree_old ends names)) (now.state ends (row_end old.rows) (agree_new ends names)) (x.step test (reading test is));
      }

      pub says_here : (m : Frames) → SaidUntold runs (row_end old.rows) (row_open old.rows) m from to old.kind new.kind → SaysHere K m old new
      says_here m x = record {
        steps = x.steps;
        makes = makes x.steps x.runs_are;
        says = λ ends names.
            both_named (λ p p'. StopsSend (λ test. IsTest test old.places) m p x.steps p') (over ends old.kind) (over ends new.kind) (over (row_end old.rows) old.kind) (over (row_end old.rows) new.kind)
            (was.state ends (row_end old.rows) (agree_old ends names)) (now.state ends (row_end old.rows) (agree_new ends names))
            (send_stops_so (λ test. TellsWritable test (row_end old.rows) (row_open old.rows) (peer_places old.kind)) (λ test. IsTest test old.places) tells m (over (row_end old.rows) old.kind) (over (row_end old.rows) new.kind) x.steps x.step);
      }

      pub changes_here : (change : Change) (topic : Topic) (answer : ChangeAnswer) → ChangedOver runs (row_end old.rows) (row_open old.rows) change topic from to old.kind answer new.kind → ChangesHere K change topic old answer new
      changes_here change topic answer x = record {
        steps = x.steps;
        makes = makes x.steps x.runs_are;
        changes = λ ends test names is.
            both_named (λ p p'. PatternChanges change test topic p x.steps answer p') (over ends old.kind) (over ends new.kind) (over (row_end old.rows) old.kind) (over (row_end old.rows) new.kind)
            (was.state ends (row_end old.rows) (agree_old ends names)) (now.state ends (row_end old.rows) (agree_new ends names)) (x.step test (reading test is));
      }

      pub change_untold_here : (change : Change) (topic : Topic) → ChangeUntold runs (row_end old.rows) (row_open old.rows) change topic from to old.kind new.kind → ChangeUntoldHere K change topic old new
      change_untold_here change topic x = record {
        steps = x.steps;
        makes = makes x.steps x.runs_are;
        says = λ ends names.
            both_named (λ p p'. StopsChange (λ test. IsTest test old.places) change topic p x.steps p') (over ends old.kind) (over ends new.kind) (over (row_end old.rows) old.kind) (over (row_end old.rows) new.kind)
            (was.state ends (row_end old.rows) (agree_old ends names)) (now.state ends (row_end old.rows) (agree_new ends names))
            (change_stops_so (λ test. TellsWritable test (row_end old.rows) (row_open old.rows) (peer_places old.kind)) (λ test. IsTest test old.places) tells change topic (over (row_end old.rows) old.kind) (over (row_end old.rows) new.kind) x.steps x.step);
      }

      pub receives_here : (told told' : List Skip) (answer : RecvAnswer) → GotOver runs (row_end old.rows) from to told told' old.kind answer new.kind → ReceivesHere K told told' old answer new
      receives_here told told' answer x = record {
        steps = x.steps;
        makes = makes x.steps x.runs_are;
        skips = x.skips;
        receives = λ ends names.
            both_named (λ p p'. PatternReceives p x.steps x.skips answer p') (over ends (as_received ends old.kind)) (over ends new.kind) (over (row_end old.rows) (as_received (row_end old.rows) old.kind)) (over (row_end old.rows) new.kind)
            (was.received ends (row_end old.rows) (agree_old ends names)) (now.state ends (row_end old.rows) (agree_new ends names)) (x.step apart);
        told_are = x.told_are;
        left_is = λ ends. x.left_is ∙ left_received (row_end old.rows) ends old.kind;
      }

      pub stops_here : (told told' : List Skip) → RecvStopped runs (row_end old.rows) from to told told' old.kind new.kind → StopsHere K told told' old new
      stops_here told told' x = record {
        steps = x.steps;
        makes = makes x.steps x.runs_are;
        skips = x.skips;
        stops = λ ends names.
            both_named (λ p p'. StopsReceive p x.steps x.skips (left_of new.kind).to_give p') (over ends (as_received ends old.kind)) (over ends (as_received ends new.kind))
            (over (row_end old.rows) (as_received (row_end old.rows) old.kind)) (over (row_end old.rows) (as_received (row_end old.rows) new.kind))
            (was.received ends (row_end old.rows) (agree_old ends names)) (now.received ends (row_end old.rows) (agree_new ends names)) (x.step apart);
        told_are = x.told_are;
      }

      pub pumps_here : PumpedOver runs (row_end old.rows) (row_open old.rows) from to old.kind new.kind → PumpsHere K old new
      pumps_here x = record {
        steps = x.steps;
        makes = makes x.steps x.runs_are;
        pumps = λ ends test names is.
            both_named (λ p p'. PatternPumps test p x.steps p') (over ends (caught_up ends old.kind)) (over ends new.kind) (over (row_end old.rows) (caught_up (row_end old.rows) old.kind)) (over (row_end old.rows) new.kind)
            (was.caught ends (row_end old.rows) (agree_old ends names)) (now.state ends (row_end old.rows) (agree_new ends names)) (x.step test (reading test is));
        left_is = λ ends. x.left_is ∙ left_caught (row_end old.rows) ends old.kind;
      }

      pub pump_stops_here : PumpStopped runs (row_end old.rows) (row_open old.rows) from to old.kind new.kind → PumpStopsHere K old new
      pump_stops_here x = record {
        steps = x.steps;
        makes = makes x.steps x.runs_are;
        stops = λ ends names.
            both_named (λ p p'. StopsPump (λ test. IsTest test old.places) p x.steps p') (over ends (caught_up ends old.kind)) (over ends (caught_up ends new.kind))
            (over (row_end old.rows) (caught_up (row_end old.rows) old.kind)) (over (row_end old.rows) (caught_up (row_end old.rows) new.kind))
            (was.caught ends (row_end old.rows) (agree_old ends names)) (now.caught ends (row_end old.rows) (agree_new ends names))
            (pump_stops_so (λ test. TellsWritable test (row_end old.rows) (row_open old.rows) (peer_places old.kind)) (λ test. IsTest test old.places) tells
            (over (row_end old.rows) (caught_up (row_end old.rows) old.kind)) (over (row_end old.rows) (caught_up (row_end old.rows) new.kind)) x.steps (x.step apart));
      }

      -- ---- by the result

      module _ (A B : Type 0) (names : (steps : List PipeStep) → runs from steps to → A × B) (still : to ≡ from → (new.pipes ≡ old.pipes) × (new.rows ≡ old.rows) × A × B) where
        abbrev Came : Type 0 → Type 0
        Came Step = CameBack A B (IsWhole K new) (MakesSome K old new) Step

        done : (Step : Type 0) (steps : List PipeStep) → runs from steps to → Step → Came Step
        done Step steps r step = record { pipes = (names steps r).0; rows = (names steps r).1; whole = still_whole steps (makes steps r); made = record { steps = steps; makes = makes steps r }; step = step }

        undone : (Step : Type 0) → to ≡ from → Step → Came Step
        undone Step e step = let x = still e in record { pipes = x.2; rows = x.3; whole = whole_same x.0 x.1; made = record { steps = []; makes = record { does = ap (λ (q : S). table q new.rows) x.0 ∙ ap (λ (l : Rows O I). table old.pipes l) x.1; unsealing = refl } }; step = step }

        pub sent : (m : Frames) (r : Result Sent XSendFault)
            → MatchXSend r (SendUndone from to old.kind new.kind) (SaidUntold runs (row_end old.rows) (row_open old.rows) m from to old.kind new.kind) (λ a. SentOver runs (row_end old.rows) (row_open old.rows) m from to old.kind a new.kind)
            → Came (MatchXSend r (SendUndoneHere old new) (SaysHere K m old new) (λ a. SendsHere K m old a new))
        sent m (Ok s) x = done (SendsHere K m old (answer_of s) new) x.steps x.runs_are (sends_here m (answer_of s) x)
        sent m (Err (xfault.Refused refusal back)) x = done (SendsHere K m old (sent_as.Refused refusal) new) x.steps x.runs_are (sends_here m (sent_as.Refused refusal) x)
        sent m (Err (xfault.OutOfMemory back)) x = let e = still x.peers_stay in
            undone (SendUndoneHere old new) x.peers_stay (record { needs = x.needs; stays = record { pipes_stay = e.0; rows_stay = e.1; kind_stays = x.stays } })
        sent m (Err xfault.Untold) x = done (SaysHere K m old new) x.steps x.runs_are (says_here m x)

        pub received : (told told' : List Skip) (k : Option Kept) (r : RecvResult) → RecvDone runs (row_end old.rows) k from to told told' old.kind r new.kind → Came (ReceiveDone K k told told' old r new)
        received told told' None (Ok got) x = done (ReceivesHere K told told' old (got_as.Got got.0 got.1) new) x.steps x.runs_are (receives_here told told' (got_as.Got got.0 got.1) x)
        received told told' None (Err (rfault.Refused refusal)) x = done (ReceivesHere K told told' old (got_as.Refused refusal) new) x.steps x.runs_are (receives_here told told' (got_as.Refused refusal) x)
        received told told' None (Err rfault.OutOfMemory) x = done (StopsHere K told told' old new) x.steps x.runs_are (stops_here told told' x)
        received told told' (Some k) r x = let e = still x.peers_stay in
            undone (GivesHere K k told told' old r new) x.peers_stay (record {
              pipes_stay = e.0;
              rows_stay = e.1;
              kind_stays = λ ends names. now.state ends (row_end old.rows) (agree_new ends names) ∙ x.stays ∙ sym (was.state ends (row_end old.rows) (agree_old ends names));
              told_stay = x.told_stay;
              gives = x.gives;
            })

        pub pumped : (r : Result (Unit {0}) AllocError) → OnOk r (PumpedOver runs (row_end old.rows) (row_open old.rows) from to old.kind new.kind)
            → OnErr r (PumpStopped runs (row_end old.rows) (row_open old.rows) from to old.kind new.kind) → Came (OnOk r (PumpsHere K old new) × OnErr r (PumpStopsHere K old new))
        pumped (Ok u) x y = done (PumpsHere K old new × Unit {0}) x.steps x.runs_are (pumps_here x, tt)
        pumped (Err e) x y = done (Unit {0} × PumpStopsHere K old new) y.steps y.runs_are (tt, pump_stops_here y)

        pub changed : (change : Change) (topic : Topic) (r : Result (Unit {0}) ChangeFault)
            → MatchChanged r (ChangeUndone from to old.kind new.kind) (ChangeUntold runs (row_end old.rows) (row_open old.rows) change topic from to old.kind new.kind) (λ a. ChangedOver runs (row_end old.rows) (row_open old.rows) change topic from to old.kind a new.kind)
            → Came (MatchChanged r (ChangeUndoneHere old new) (ChangeUntoldHere K change topic old new) (λ a. ChangesHere K change topic old a new))
        changed change topic (Ok u) x = done (ChangesHere K change topic old (Changed SubDone) new) x.steps x.runs_are (changes_here change topic (Changed SubDone) x)
        changed change topic (Err cfault.NoTopics) x = done (ChangesHere K change topic old NoTopics new) x.steps x.runs_are (changes_here change topic NoTopics x)
        changed change topic (Err cfault.SubLimit) x = done (ChangesHere K change topic old (Changed Limit) new) x.steps x.runs_are (changes_here change topic (Changed Limit) x)
        changed change topic (Err cfault.NotSub) x = done (ChangesHere K change topic old (Changed NotSub) new) x.steps x.runs_are (changes_here change topic (Changed NotSub) x)
        changed change topic (Err cfault.OutOfMemory) x = let e = still x.peers_stay in
            undone (ChangeUndoneHere old new) x.peers_stay (record { needs = x.needs; stays = record { pipes_stay = e.0; rows_stay = e.1; kind_stays = x.stays } })
        changed change topic (Err cfault.Untold) x = done (ChangeUntoldHere K change topic old new) x.steps x.runs_are (change_untold_here change topic x)
