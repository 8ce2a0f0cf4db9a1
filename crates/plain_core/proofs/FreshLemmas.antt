-- A socket at its making stands, and is told as one that is new.
use Rattle.std.specs.Prelude.{◌≡◌, ℕ, List, [], Some, None, refl}
use Rattle.std.proofs.Common.{arith, sym, ap, ◌∙◌, subst}
use Rattle.zq_base.specs.declared.kind.Kind.{Kind}
use Rattle.zq_base.specs.declared.options.Options.{Options}
use Rattle.spec_pattern.specs.TurnList.{End}
use Rattle.spec_pattern.specs.NewSocket.{new_pattern}
use Rattle.msg_pipe.specs.Known.{Known}
use Rattle.any_sock.specs.declared.any_sock.AnySock.{AnySock}
use Rattle.any_sock.specs.declared.any_sock.AnySock.TheVariants as sock
use Rattle.any_sock.specs.Fresh.{IsWithoutPeers}
use Rattle.any_sock.specs.Over.{caught_up, left_of, nothing_left, over, peer_places, Leftover}
use Rattle.pub_sub.specs.Publishers.{resumed}
use Rattle.end_table.specs.declared.table.Place.{Place}
use Rattle.end_table.specs.Places.{place_at}
use Rattle.sock_core.specs.declared.sock.SockCore.{SockCore}
use Rattle.sock_core.specs.Has.{IsNew}
use Rattle.sock_core.specs.Sound.{AreSound}
use Rattle.sock_core.specs.Standing.{standing_joins}
use Rattle.sock_calls.specs.Calls.{FitsCore}
use Rattle.line_socket.specs.Standing.{IsStanding}
use Rattle.line_socket.specs.View.{end_at, ends_told, open_view, pattern_told}
use Rattle.plain_core.specs.Fresh.{open_at, IsFresh}

none_some : {X : Type 0} {x : X} → None ≡ Some x → ⊥
none_some e = Prim.grind arith

-- a kind that want of memory left nothing to do has caught up
caught_is : (ends : ℕ → End) (s : AnySock) → left_of s ≡ nothing_left → caught_up ends s ≡ s
caught_is ends (sock.Push turns) e = refl
caught_is ends (sock.Pull turns) e = refl
caught_is ends (sock.Pair turns) e = refl
caught_is ends (sock.Dealer t) e = refl
caught_is ends (sock.Req r) e = refl
caught_is ends (sock.Rep r) e = refl
caught_is ends (sock.Router r) e = refl
caught_is ends (sock.Pub p) e = ap (λ k. sock.Pub (resumed ends k p)) (ap (λ (l : Leftover). l.to_obey) e)
caught_is ends (sock.XPub p) e = ap (λ k. sock.XPub (resumed ends k p)) (ap (λ (l : Leftover). l.to_obey) e)
caught_is ends (sock.Sub u) e = refl
caught_is ends (sock.XSub u) e = refl

pub fresh_of : {W N O I : Type 0} (number : ℕ) (kind : Kind) (options : Options) (k : AnySock) (s : SockCore AnySock W N O I) → IsNew number k s → IsWithoutPeers kind options k → IsFresh number kind options s
fresh_of number kind options k s new without = record {
  is_new = record {
    number_is = new.number_is;
    is_open = new.is_open;
    not_stopped = new.not_stopped;
    kind_is = refl;
    no_ends = new.no_ends;
    no_turns = new.no_turns;
    no_seals = new.no_seals;
    no_joins = new.no_joins;
    no_notices = new.no_notices;
    no_way = new.no_way;
  };
  without = subst (λ (x : AnySock). IsWithoutPeers kind options x) (sym new.kind_is) without;
}

module _ {W N O I : Type 0} (number : ℕ) (kind : Kind) (options : Options) (s : SockCore AnySock W N O I) (fresh : IsFresh number kind options s) where
  pub no_place : (k : ℕ) (p : Place N I) → place_at s.ends.places.items k ≡ Some p → ⊥
  no_place k p at = none_some (ap (λ (ps : List (Place N I)). place_at ps k) (sym fresh.is_new.no_ends) ∙ at)

  pub pattern_is : pattern_told s ≡ new_pattern kind options
  pattern_is =
      ap (over (end_at s.ends.places.items)) (caught_is (end_at s.ends.places.items) s.kind fresh.without.left_is)
      ∙ fresh.without.state_is (end_at s.ends.places.items)

  pub no_end : ends_told (standing_joins s.joins.items) s.ends.places.items ≡ []
  no_end = ap (λ js. ends_told (standing_joins js) s.ends.places.items) fresh.is_new.no_joins

  pub fresh_view : (slot : ℕ) → open_view slot (Some s) ≡ open_at slot number kind options
  fresh_view slot = λ i. record { object = fresh.is_new.number_is i; slot = slot; stopped = fresh.is_new.not_stopped i; pattern = pattern_is i; ends = no_end i }

  module _ {S : Type 0} (K : Known S O I N) (first pipes : S) (fits : FitsCore K peer_places first s) where
    sound_still : AreSound K pipes s.ends.rows.items s.ends.places.items
    sound_still = record {
      count = fits.sound.count;
      stands = λ k p at. absurd (no_place k p at);
      apart = λ j k p q other at there held too. absurd (no_place j p at);
      crossed = λ j k p q at there held writes too. absurd (no_place j p at);
    }

    pub fresh_stands : IsStanding K pipes s
    fresh_stands = record {
      fits = record {
        sound = sound_still;
        peers_are = fits.peers_are;
        room = fits.room;
        gone = fits.gone;
        stopped_is = fits.stopped_is;
        flagged = fits.flagged;
        in_use = fits.in_use;
        settled_are = fits.settled_are;
        sealed_are = fits.sealed_are;
      };
      is_open = fresh.is_new.is_open;
      told = λ k p at held. absurd (no_place k p at);
      unsealed = λ k p at held active. absurd (no_place k p at);
    }
