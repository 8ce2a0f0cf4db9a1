-- Worked examples of publishing and subscribing.
use Rattle.std.proofs.Common.{◌≡◌, ◌⊎◌, ℕ, List, [], ◌∷◌, ◌++◌, Option, Some, None, refl, sym, ◌∙◌, arith, inl, inr, All}
use Rattle.std.specs.Prelude.{codes, true, false, map}
use Rattle.std.proofs.lemmas.List.Elements.{All-nil, All-cons}
use Rattle.zq_base.specs.Message.{Frames}
use Rattle.spec_pattern.specs.TurnList.{End, EachGivesNone, NoneHasMessage}
use Rattle.spec_pattern.specs.Duty.{Free}
use Rattle.spec_pattern.specs.PipeStep.{PipeStep, Commit, FullLook, Take, EmptyLook, read_through}
use Rattle.spec_pattern.specs.Drops.{Round, Comes, given}
use Rattle.spec_pattern.specs.RequestExamples.{end_1, end_2, all_open}
use Rattle.spec_pattern.specs.Wanted.{Wanted}
use Rattle.spec_pattern.specs.Publishing.{Publisher, Notice, HearsFrom, EndsHearing, Hears, SendsToMany, PubSends, heard}
use Rattle.spec_pattern.specs.Subscribing.{Subscriber, wanted_of}
use Rattle.spec_pattern.specs.TopicExamples.{sub_a, cancel_a, publisher, subscriber, two, of_two, TopicsAreTold, NewsAreGiven, MatchesAreSent, WantedIsGiven, TopicsWork}

-- ---- telling

topics_are_told : TopicsAreTold
topics_are_told = record {
  first = (
    refl,
    record {
      followers = (end_1, codes "a" ∷ []) ∷ [];
      tells = (codes "a" ∷ [], [], Commit end_1 (sub_a ∷ []) ∷ [], [], ((1, codes "a") ∷ [], (refl, [], (refl, refl), refl)), (refl, refl), refl, refl);
      new_is = refl;
    },
  );
  again = (
    refl,
    record {
      followers = (end_1, codes "a" ∷ []) ∷ [];
      tells = (codes "a" ∷ [], [], [], [], ([], (refl, refl)), (refl, refl), refl, refl);
      new_is = refl;
    },
  );
  one_less = (
    refl,
    record {
      followers = (end_1, codes "a" ∷ []) ∷ [];
      tells = (codes "a" ∷ [], [], [], [], ([], (refl, refl)), (refl, refl), refl, refl);
      new_is = refl;
    },
  );
  last = (
    refl,
    record {
      followers = (end_1, []) ∷ [];
      tells = ([], [], Commit end_1 (cancel_a ∷ []) ∷ [], [], ((0, codes "a") ∷ [], (refl, [], (refl, refl), refl)), (refl, refl), refl, refl);
      new_is = refl;
    },
  );
  unknown = (refl, refl, refl);
  full = (
    refl,
    record {
      followers = (end_1, codes "a" ∷ []) ∷ [];
      tells = (codes "a" ∷ [], [], FullLook end_1 ∷ [], [], ([], (refl, refl)), (refl, refl), refl, refl);
      new_is = refl;
    },
  );
  in_order = record {
    followers = (end_1, codes "a" ∷ codes "b" ∷ []) ∷ [];
    tells = (
      codes "a" ∷ codes "b" ∷ [],
      [],
      Commit end_1 (sub_a ∷ []) ∷ Commit end_1 ((1 ∷ codes "b") ∷ []) ∷ Commit end_1 ((0 ∷ codes "c") ∷ []) ∷ [],
      [],
      (
        (1, codes "a") ∷ (1, codes "b") ∷ (0, codes "c") ∷ [],
        (
          refl,
          Commit end_1 ((1 ∷ codes "b") ∷ []) ∷ Commit end_1 ((0 ∷ codes "c") ∷ []) ∷ [],
          (refl, Commit end_1 ((0 ∷ codes "c") ∷ []) ∷ [], (refl, [], (refl, refl), refl), refl),
          refl,
        ),
      ),
      (refl, refl),
      refl,
      refl,
    );
    new_is = refl;
  };
  closed = record {
    followers = (end_1, []) ∷ [];
    tells = ([], [], [], [], (refl, refl), (refl, refl), refl, refl);
    new_is = refl;
  };
}

-- ---- hearing

from_1 : (m : Frames) → Comes (end_1 ∷ []) (record { peer = end_1; message = m }) (Take (read_through end_1) m ∷ []) (end_1 ∷ [])
from_1 m = record {
  by_turn = record { before = []; peer = end_1; after = []; looks = []; turns_are = refl; looks_are = refl; steps_are = refl; from_is = refl; new_is = refl };
  peer_is = refl;
}

none_from_1 : NoneHasMessage (end_1 ∷ []) (EmptyLook (read_through end_1) ∷ []) (end_1 ∷ [])
none_from_1 = record { looks_are = (EmptyLook (read_through end_1), [], refl, inl refl, refl); new_is = refl }

news_are_given : NewsAreGiven
news_are_given = record {
  first = (record { peer = end_1; message = sub_a ∷ [] } ∷ [], record (publisher true (codes "a" ∷ [])) { inbox = record { pair = end_1.pair; message = sub_a ∷ [] } ∷ [] }, (refl, end_1 ∷ [], Take (read_through end_1) (sub_a ∷ []) ∷ [], EmptyLook (read_through end_1) ∷ [], from_1 (sub_a ∷ []), (end_1 ∷ [], none_from_1, refl), refl), (refl, refl));
  known = (record { peer = end_1; message = sub_a ∷ [] } ∷ [], record (publisher true (codes "a" ∷ [])) { inbox = [] }, (refl, end_1 ∷ [], Take (read_through end_1) (sub_a ∷ []) ∷ [], EmptyLook (read_through end_1) ∷ [], from_1 (sub_a ∷ []), (end_1 ∷ [], none_from_1, refl), refl), (refl, refl));
  last = (record { peer = end_1; message = cancel_a ∷ [] } ∷ [], record (publisher true []) { inbox = record { pair = end_1.pair; message = cancel_a ∷ [] } ∷ [] }, (refl, end_1 ∷ [], Take (read_through end_1) (cancel_a ∷ []) ∷ [], EmptyLook (read_through end_1) ∷ [], from_1 (cancel_a ∷ []), (end_1 ∷ [], none_from_1, refl), refl), (refl, refl));
  other = (record { peer = end_1; message = [] ∷ [] } ∷ [], record (publisher true []) { inbox = record { pair = end_1.pair; message = [] ∷ [] } ∷ [] }, (refl, end_1 ∷ [], Take (read_through end_1) ([] ∷ []) ∷ [], EmptyLook (read_through end_1) ∷ [], from_1 ([] ∷ []), (end_1 ∷ [], none_from_1, refl), refl), (refl, refl));
  discarded = (record { peer = end_1; message = codes "x" ∷ [] } ∷ [], (refl, end_1 ∷ [], Take (read_through end_1) (codes "x" ∷ []) ∷ [], EmptyLook (read_through end_1) ∷ [], from_1 (codes "x" ∷ []), (end_1 ∷ [], none_from_1, refl), refl));
  not_given_up = never;
  goes = refl;
}
  where
    nil_cons : (look : PipeStep) (rest : List PipeStep) → ◌≡◌ {A = List PipeStep} [] (look ∷ rest) → ⊥
    nil_cons look rest same = cc

    nothing : (looks : List PipeStep) (take : PipeStep) (rest : List PipeStep) → [] ≡ (looks ++ take ∷ []) ++ rest → ⊥
    nothing [] take rest same = nil_cons take rest same
    nothing (look ∷ looks) take rest same = nil_cons look ((looks ++ take ∷ []) ++ rest) same

    never_from : (rounds : List Round) → HearsFrom 0 (publisher false []) rounds [] (publisher false []) → ⊥
    never_from [] h = nil_cons h.1.looks_are.0 h.1.looks_are.1 h.1.looks_are.2
    never_from (r ∷ rs) h =
        nothing h.4.by_turn.looks (Take (read_through h.4.by_turn.peer) r.message) h.3 (h.6 ∙ (λ j. h.4.by_turn.steps_are j ++ h.3))

    never : Hears (publisher false []) [] (publisher false []) → ⊥
    never h = never_from h.0 h.1

-- ---- sending

matches_are_sent : MatchesAreSent
matches_are_sent = record {
  both = record {
    put = end_1 ∷ end_2 ∷ [];
    full = [];
    offers = (Commit end_2 (codes "abc" ∷ []) ∷ [], end_2 ∷ [], [], ([], [], [], (refl, refl, refl), inl (refl, refl, refl)), inl (refl, refl, refl));
    answer_is = refl;
  };
  one = record { put = end_1 ∷ []; full = []; offers = ([], [], [], (refl, refl, refl), inl (refl, refl, refl)); answer_is = refl };
  part = record {
    put = end_2 ∷ [];
    full = end_1 ∷ [];
    offers = (Commit end_2 (codes "ab" ∷ []) ∷ [], end_2 ∷ [], [], ([], [], [], (refl, refl, refl), inl (refl, refl, refl)), inr (refl, refl, refl));
    answer_is = refl;
  };
  all_full = record { put = []; full = end_1 ∷ []; offers = ([], [], [], (refl, refl, refl), inr (refl, refl, refl)); answer_is = refl };
  none = record { put = []; full = []; offers = (refl, refl, refl); answer_is = refl };
  closed = record { put = []; full = []; offers = (refl, refl, refl); answer_is = refl };
  not_twice = λ s. twice s.offers.0 s.offers.3.0 s.offers.4;
  gone = refl;
}
  where
    two_one : (c : PipeStep) → ◌≡◌ {A = List PipeStep} (c ∷ c ∷ []) (c ∷ []) → ⊥
    two_one c same = cc

    twice : {put put' full full' : List End} (rest : List PipeStep) → rest ≡ []
        → ((Commit end_1 (codes "ab" ∷ []) ∷ Commit end_1 (codes "ab" ∷ []) ∷ [] ≡ Commit end_1 (codes "ab" ∷ []) ∷ rest) × (put ≡ end_1 ∷ put') × (full ≡ full'))
        ⊎ ((Commit end_1 (codes "ab" ∷ []) ∷ Commit end_1 (codes "ab" ∷ []) ∷ [] ≡ FullLook end_1 ∷ rest) × (put ≡ put') × (full ≡ end_1 ∷ full')) → ⊥
    twice rest none (inl h) = two_one (Commit end_1 (codes "ab" ∷ [])) (h.0 ∙ (λ j. Commit end_1 (codes "ab" ∷ []) ∷ none j))
    twice rest none (inr h) = cc

-- ---- receiving, and an XSUB's send

wanted_is_given : WantedIsGiven
wanted_is_given = record {
  gives = (
    end_1 ∷ [],
    record {
      dropped = record { peer = end_1; message = codes "b" ∷ [] } ∷ [];
      front = Take (read_through end_1) (codes "b" ∷ []) ∷ [];
      last = Take (read_through end_1) (codes "ab" ∷ []) ∷ [];
      mid = end_1 ∷ [];
      drops = record {
        came = (Take (read_through end_1) (codes "b" ∷ []) ∷ [], [], end_1 ∷ [], from_1 (codes "b" ∷ []), (refl, refl), refl);
        none = one_none (λ r. wanted_of ((codes "a", 1) ∷ []) r.peer r.message ≡ None) (record { peer = end_1; message = codes "b" ∷ [] }) refl;
        skips_are = refl;
      };
      ends = given (omega arith) (record {
        round = record { peer = end_1; message = codes "ab" ∷ [] };
        comes = from_1 (codes "ab" ∷ []);
        message = codes "ab" ∷ [];
        gives_it = refl;
        answer_is = refl;
      });
      steps_are = refl;
    },
    refl,
  );
  says = inl (
    (
      refl,
      record {
        followers = (end_1, codes "a" ∷ []) ∷ [];
        tells = (codes "a" ∷ [], [], Commit end_1 (sub_a ∷ []) ∷ [], [], ((1, codes "a") ∷ [], (refl, [], (refl, refl), refl)), (refl, refl), refl, refl);
        new_is = refl;
      },
    ),
    refl,
  );
  unsaid = inr (inr ((refl, refl, refl), refl));
  to_all = (record { put = end_1 ∷ []; full = []; offers = ([], [], [], (refl, refl, refl), inl (refl, refl, refl)); answer_is = refl }, refl);
}
  where
    one_none : (P : Round → Type 0) (r : Round) → P r → All P (r ∷ [])
    one_none P r p = All-cons P r [] p (All-nil P)

pub topics_work : TopicsWork
topics_work = record { told = topics_are_told; given = news_are_given; sent_on = matches_are_sent; wanted = wanted_is_given }
