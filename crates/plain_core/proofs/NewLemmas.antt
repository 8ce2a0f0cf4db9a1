-- A core at its making is sound.
use Rattle.std.specs.Prelude.{◌≡◌, ℕ, true, false, List, [], ◌∷◌, map, refl}
use Rattle.std.proofs.Common.{rules, sym, subst, true≢false}
use Rattle.std.proofs.lemmas.List.Elements.{All-nil}
use Rattle.msg_pipe.specs.Known.{Known}
use Rattle.desk.specs.declared.given.Given.{Given}
use Rattle.desk.specs.TakingOver.{IsGivenWith}
use Rattle.ctl_plane.specs.Past.{control_of}
use Rattle.desk.specs.Desk.{HasWhatTheySay}
use Rattle.socket_laws.specs.Asked.{WereAsked}
use Rattle.core_laws.specs.Sealed.{AllAsked}
use Rattle.closed_ends.specs.declared.sockets.ClosedSocket.{ClosedSocket}
use Rattle.closed_ends.specs.declared.sockets.ClosedSockets.{ClosedSockets}
use Rattle.closed_ends.specs.Finding.{AreIndexed}
use Rattle.closed_ends.specs.Has.{all_ends, has, heard_in, holding_in}
use Rattle.closed_ends.specs.Sound.{AreSound}
use Rattle.closed_ends.proofs.FormLemmas.{are_sound}
use Rattle.closed_ends.proofs.SoundLemmas.{none_sound}
use Rattle.plain_desk.specs.Lent.{IsOneOrder, Lent}
use Rattle.core_laws.proofs.OnlyLemmas.{keeps_only_taken}
use Rattle.core_laws.proofs.TakenLemmas.{keeps_taken}
use Rattle.plain_core.specs.Sound.{core_of, HasClosed, IsCore, IsSound}

module _ {S O I N T : Type 0} (K : Known S O I N) (pipes : S) where
  -- a desk at its making
  abbrev begins : Lent (Given N O I) N T
  begins = record { past = record { workers = 1; events = []; given = [] }; items = []; caller = 0 }

  module _ (closed : ClosedSockets N O I) (none : closed.sockets.items ≡ []) where
    has_none : (k : ℕ) → HasWhatTheySay {S = T} k [] (holding_in K.out_name K.in_name closed)
    has_none k =
        subst (λ (ss : List (ClosedSocket N O I)). HasWhatTheySay {S = T} k [] (has K.out_name K.in_name closed.turns.items (map (λ x. x.0) closed.sealed.items) (heard_in closed) ss)) (sym none)
        (record {
          objects = λ i holds. absurd (true≢false (sym holds));
          no_root = refl;
          ends = λ i holds. absurd (true≢false (sym holds));
          writes = λ i e holds there. absurd (true≢false (sym holds));
          delimiters = λ i e holds there met. absurd (true≢false (sym holds));
          states = λ i e holds there. absurd (true≢false (sym holds));
          kinds = λ i holds. absurd (true≢false (sym holds));
        })

    closed_begins : IsOneOrder begins → AreIndexed closed → HasClosed K (core_of begins pipes [] false) closed
    closed_begins order indexed = record {
      some_reaper = record { caller = 0; only = tt };
      reaper = λ k only. has_none k;
      sound = subst (λ (ss : List (ClosedSocket N O I)). AreSound K pipes ss) (sym none) (are_sound K pipes [] (none_sound K pipes));
      indexed = indexed;
      given = All-nil (IsGivenWith K pipes);
      asked = subst (λ (ss : List (ClosedSocket N O I)). AllAsked (control_of begins.past) (all_ends ss)) (sym none) (All-nil (λ (g : Given N O I). g.sealed ≡ true → WereAsked (control_of begins.past) (g.end ∷ [])));
      given_asked = All-nil (λ (g : Given N O I). g.sealed ≡ true → WereAsked (control_of begins.past) (g.end ∷ []));
      taken = (keeps_taken (Given N O I) N T).first begins order refl (holding_in K.out_name K.in_name closed);
      apart = λ k only. (keeps_only_taken (Given N O I) N T).first begins refl k;
    }

  new_core : (d : Lent (Given N O I) N T) → d ≡ begins → K.exact ≡ true → IsCore K (core_of d pipes [] false)
  new_core d is exact = search rules

  pub new_sound : (d : Lent (Given N O I) N T) → d ≡ begins → IsOneOrder d → K.exact ≡ true → (closed : ClosedSockets N O I) → closed.sockets.items ≡ [] → AreIndexed closed → IsSound K (core_of d pipes [] false) closed []
  new_sound d is order exact closed none indexed = (
    new_core d is exact,
    (
      subst (λ (l : Lent (Given N O I) N T). HasClosed K (core_of l pipes [] false) closed) (sym is) (closed_begins closed none (subst IsOneOrder is order) indexed),
      search rules,
    ),
  )
