-- All open sockets agree still behind a call of a core that is one item.
use Rattle.std.specs.Prelude.{◌≡◌, ◌≤◌, ◌==◌, ℕ, Bool, true, false, List, [], Option, Some, None, length, map, refl}
use Rattle.std.proofs.Common.{sym, ap, ◌∙◌, subst, true≢false}
use Rattle.std.proofs.lemmas.Bool.{eq-eqb, eqb-true}
use Rattle.zq_base.specs.Ends.{other_end}
use Rattle.zq_base.specs.declared.ids.EndId.{EndId}
use Rattle.spec_control.specs.Rows.{obj}
use Rattle.spec_control.specs.Control.{Control, begun, ends_of, place_of}
use Rattle.spec_control.specs.Moments.{Moment, items_in, left_after, moments_by, moments_from}
use Rattle.spec_control.specs.OwnAsks.{known_after, Known as KnownOf}
use Rattle.msg_pipe.specs.Known.{Known}
use Rattle.desk.specs.declared.given.Given.{Given}
use Rattle.desk.specs.Holding.{Holding}
use Rattle.ctl_plane.specs.Past.{control_of}
use Rattle.desk.specs.Desk.{HasWhatTheySay, slot_after}
use Rattle.any_sock.specs.declared.any_sock.AnySock.{AnySock}
use Rattle.sock_core.specs.declared.sock.SockCore.{SockCore}
use Rattle.sock_core.specs.Has.{holding_in}
use Rattle.line_socket.specs.Standing.{kind_told}
use Rattle.line_socket.specs.View.{pattern_told}
use Rattle.socket_laws.specs.Bounds.{drawn_of}
use Rattle.socket_laws.specs.Open.{ends_at}
use Rattle.plain_desk.specs.Lent.{coming_to, moments_of, Lent}
use Rattle.line_socket.specs.Owned.{parts, IsOut}
use Rattle.line_socket.specs.Ready.{IsReady}
use Rattle.core_laws.specs.Agrees.{AgreesIn}
use Rattle.core_laws.specs.Calls.{for_caller}
use Rattle.zq_world.specs.Way.{KeepsAll}
use Rattle.plain_core.specs.Agreeing.{was_made, Agrees}
use Rattle.plain_core.proofs.AskedLemmas.{asked_still}
use Rattle.plain_core.specs.Leaving.{moments_at, HasOpenAt, LeavesSockets}
use Rattle.plain_core.specs.Sound.{Core, IsLentOn}

-- a caller's moments say of a socket, and of all that a holder has, what they said
record SayStill {N T : Type 0} (j o : ℕ) (was now : List (Moment N T)) : Type 0 where
  knows : known_after o (items_in now) ≡ known_after o (items_in was)
  left : left_after o now ≡ left_after o was
  has : (h : Holding N) → HasWhatTheySay j was h → HasWhatTheySay j now h

module _ {G N T : Type 0} (k : ℕ) (old new : Lent G N T) (leaves : LeavesSockets k old new) where
  was_at : (j : ℕ) → moments_at j old ≡ moments_of (for_caller j old)
  was_at j = ap (λ (n : ℕ). moments_by j (moments_from (begun n) old.items)) (sym leaves.was_one)

  is_at : (j : ℕ) → moments_at j new ≡ moments_of (for_caller j new)
  is_at j = ap (λ (n : ℕ). moments_by j (moments_from (begun n) new.items)) (sym leaves.one)

  say_at : (j o : ℕ) → HasOpenAt j old o → SayStill j o (moments_at j old) (moments_at j new)
  say_at j o = by (k == j) refl
    where
      by : (b : Bool) → (k == j) ≡ b → HasOpenAt j old o → SayStill j o (moments_at j old) (moments_at j new)
      by true e known = subst (λ (n : ℕ). HasOpenAt n old o → SayStill n o (moments_at n old) (moments_at n new)) (eqb-true k j e)
          (λ mine. record { knows = leaves.knows o mine; left = leaves.left o mine; has = leaves.has }) known
      by false e known =
          subst (λ (ms : List (Moment N T)). SayStill j o (moments_at j old) ms) (sym (leaves.others j (λ same. true≢false (sym (eq-eqb k j same) ∙ e))))
          (record { knows = refl; left = refl; has = λ h has. has })

  say_still : (j o : ℕ) → (known_after o (items_in (moments_of (for_caller j old)))).open_socket ≡ true → SayStill j o (moments_of (for_caller j old)) (moments_of (for_caller j new))
  say_still j o known =
      subst (λ (ms : List (Moment N T)). SayStill j o ms (moments_of (for_caller j new))) (was_at j)
      (subst (λ (ms : List (Moment N T)). SayStill j o (moments_at j old) ms) (is_at j)
      (say_at j o (subst (λ (ms : List (Moment N T)). (known_after o (items_in ms)).open_socket ≡ true) (sym (was_at j)) known)))

module _ (W : Type 0) {S N O I T : Type 0} (K : Known S O I N) where
  module _ (k : ℕ) (old new : Lent (Given N O I) N T) (leaves : LeavesSockets k old new) (pipes : S) (j : ℕ) (s : SockCore AnySock W N O I) (is : AgreesIn K old j pipes s) where
    abbrev was : List (Moment N T)
    was = moments_of (for_caller j old)

    abbrev now : List (Moment N T)
    now = moments_of (for_caller j new)

    say : SayStill j s.number.0 (moments_of (for_caller j old)) (moments_of (for_caller j new))
    say = say_still k old new leaves j s.number.0 is.owned.is_open

    same_box : (slot_after s.number.0 now).0 ≡ (slot_after s.number.0 was).0
    same_box = ap (λ (c : Control). (obj c.rows s.number.0).slot) say.left

    coming_before : (e : EndId) → coming_to new (slot_after s.number.0 now).0 e ≡ true → coming_to old (slot_after s.number.0 was).0 e ≡ true
    coming_before e coming = sym (leaves.coming (slot_after s.number.0 was).0 e) ∙ ap (λ (n : ℕ). coming_to new n e) (sym same_box) ∙ coming

    agrees_still : AgreesIn K new j pipes s
    agrees_still = record {
      owned = record {
        stands = is.owned.stands;
        has = say.has (holding_in (kind_told s.kind) s) is.owned.has;
        held = is.owned.held;
        is_open = ap (λ (kn : KnownOf). kn.open_socket) say.knows ∙ is.owned.is_open;
        ends_are = is.owned.ends_are ∙ ap (ends_at s.number.0) (sym say.left);
        sealed_out = λ e sealed. subst (λ (c : Control). IsOut (ends_of s.number.0 c) e (place_of c e)) (sym say.left) (is.owned.sealed_out e sealed);
      };
      asked = asked_still (control_of old.past) (control_of new.past) leaves.pairs leaves.places (map (λ x. x.0) s.sealed.items) is.asked;
      binds = λ e x coming written read. is.binds e x (coming_before e coming) (ap (λ (f : EndId → Option N). f e) (sym leaves.names) ∙ written) (ap (λ (f : EndId → Option N). f (other_end e)) (sym leaves.names) ∙ read);
    }

  pub ready_still : (old new : Core S (Given N O I) N T) (j : ℕ) (s : SockCore AnySock W N O I) → (new.wanted ≡ false → old.wanted ≡ false) → left_after s.number.0 (moments_of (for_caller j new.desk)) ≡ left_after s.number.0 (moments_of (for_caller j old.desk)) →
      (old.wanted ≡ false → IsReady (parts old.pipes (for_caller j old.desk) (Some s) [])) → new.wanted ≡ false → IsReady (parts new.pipes (for_caller j new.desk) (Some s) [])
  ready_still old new j s wanted left ready not_wanted = let was = ready (wanted not_wanted) in record {
    whole = was.whole;
    peers = record {
      peers = was.peers.peers;
      drawn = subst (λ (c : Control). drawn_of (pattern_told s) ≤ length (ends_of s.number.0 c)) (sym left) was.peers.drawn;
    };
  }

  keeps_one : (k : ℕ) (old new : Core S (Given N O I) N T) → new.pipes ≡ old.pipes → new.wanted ≡ old.wanted → LeavesSockets k old.desk new.desk → (j : ℕ) (s : Option (SockCore AnySock W N O I)) → Agrees W K old j s → Agrees W K new j s
  keeps_one k old new pipes wanted leaves j None is = is
  keeps_one k old new pipes wanted leaves j (Some s) is = let still = say k old.desk new.desk leaves old.pipes j s is.agrees in record {
    agrees = subst (λ (p : S). AgreesIn K new.desk j p s) (sym pipes) (agrees_still k old.desk new.desk leaves old.pipes j s is.agrees);
    box = same_box k old.desk new.desk leaves old.pipes j s is.agrees ∙ is.box;
    ready = ready_still old new j s (λ not_wanted. sym wanted ∙ not_wanted) still.left is.ready;
  }

  pub keeps_all : (k : ℕ) (old new : Core S (Given N O I) N T) → new.pipes ≡ old.pipes → new.wanted ≡ old.wanted → LeavesSockets k old.desk new.desk → KeepsAll (Agrees W K) was_made old new
  keeps_all k old new pipes wanted leaves = record { sockets = keeps_one k old new pipes wanted leaves; numbers = leaves.numbers }

  pub keeps_same : (old new : Core S (Given N O I) N T) → new ≡ old → KeepsAll (Agrees W K) was_made old new
  keeps_same old new same = subst (λ (v : Core S (Given N O I) N T). KeepsAll (Agrees W K) was_made old v) (sym same) (record { sockets = λ j s is. is; numbers = λ o made. made })

  -- whoever it is lent to
  lent_one : (old : Core S (Given N O I) N T) (n j : ℕ) (s : Option (SockCore AnySock W N O I)) → Agrees W K old j s → Agrees W K (record old { desk = record old.desk { caller = n } }) j s
  lent_one old n j None is = is
  lent_one old n j (Some s) is = record {
    agrees = record { owned = is.agrees.owned; asked = is.agrees.asked; binds = is.agrees.binds };
    box = is.box;
    ready = ready_still old (record old { desk = record old.desk { caller = n } }) j s (λ not_wanted. not_wanted) refl is.ready;
  }

  pub keeps_lent : (old new : Core S (Given N O I) N T) → IsLentOn old new → KeepsAll (Agrees W K) was_made old new
  keeps_lent old new lent = subst (λ (v : Core S (Given N O I) N T). KeepsAll (Agrees W K) was_made old v) (sym lent.same) (record { sockets = lent_one old lent.caller; numbers = λ o made. made })
