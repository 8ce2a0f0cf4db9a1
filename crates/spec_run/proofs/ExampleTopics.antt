-- The worked examples of an XPUB and a SUB that are joined.
use Rattle.std.proofs.Common.{◌≡◌, [], ◌∷◌, None, codes, inl, refl, arith}
use Rattle.std.proofs.lemmas.List.Elements.{All-nil}
use Rattle.zq_base.specs.Message.{Frames}
use Rattle.spec_pattern.specs.PipeStep.{Commit, FullLook, Take, EmptyLook}
use Rattle.spec_pattern.specs.TurnList.{NoneHasMessage}
use Rattle.spec_pattern.specs.Drops.{Round, Comes, given, again}
use Rattle.spec_pattern.specs.Subscribing.{wanted_of}
use Rattle.spec_run.specs.TextParts.{end_a, end_b}
use Rattle.spec_run.specs.ExamplesTopics.{adds, cancels, wants_a, TopicRules}

-- nothing came, and one message did
none_came : NoneHasMessage (end_b 1 ∷ []) (EmptyLook (end_a 1) ∷ []) (end_b 1 ∷ [])
none_came = record { looks_are = (EmptyLook (end_a 1), [], refl, inl refl, refl); new_is = refl }

abbrev round : Frames → Round
round m = record { peer = end_b 1; message = m }

came : (m : Frames) → Comes (end_b 1 ∷ []) (round m) (Take (end_a 1) m ∷ []) (end_b 1 ∷ [])
came m = record {
  by_turn = record { before = []; peer = end_b 1; after = []; looks = []; turns_are = refl; looks_are = refl; steps_are = refl; from_is = refl; new_is = refl };
  peer_is = refl;
}

pub topics : TopicRules
topics = record {
  not_wanted = (_, (refl, refl, refl), refl);
  subscribes = (
    _,
    (
      refl,
      record {
        followers = (end_a 1, codes "a" ∷ []) ∷ [];
        tells = (codes "a" ∷ [], [], Commit (end_a 1) (adds (codes "a")) ∷ [], [], ((1, codes "a") ∷ [], (refl, [], (refl, refl), refl)), (refl, refl), refl, refl);
        new_is = refl;
      },
    ),
    refl,
  );
  hears_add = (
    _,
    (round (adds (codes "a")) ∷ [], (refl, end_b 1 ∷ [], Take (end_a 1) (adds (codes "a")) ∷ [], EmptyLook (end_a 1) ∷ [], came (adds (codes "a")), (end_b 1 ∷ [], none_came, refl), refl)),
    refl,
  );
  gives_add = (refl, (_, (refl, (refl, refl)), refl));
  hears_none = (_, ([], (end_b 1 ∷ [], none_came, refl)), refl);
  sends_match = (
    record {
      put = end_b 1 ∷ [];
      full = [];
      offers = ([], [], [], (refl, refl, refl), inl (refl, refl, refl));
      answer_is = refl;
    },
    refl,
  );
  tells_none = (
    _,
    record { followers = (end_a 1, codes "a" ∷ []) ∷ []; tells = (codes "a" ∷ [], [], [], [], ([], (refl, refl)), (refl, refl), refl, refl); new_is = refl },
    refl,
  );
  gets_match = (
    _,
    (
      end_a 1 ∷ [],
      record {
        dropped = [];
        front = [];
        last = Take (end_b 1) (codes "ab" ∷ []) ∷ [];
        mid = end_a 1 ∷ [];
        drops = record { came = (refl, refl); none = All-nil (λ (r : Round). wanted_of wants_a r.peer r.message ≡ None); skips_are = refl };
        ends = given (omega arith) (record {
          round = record { peer = end_a 1; message = codes "ab" ∷ [] };
          comes = record {
            by_turn = record { before = []; peer = end_a 1; after = []; looks = []; turns_are = refl; looks_are = refl; steps_are = refl; from_is = refl; new_is = refl };
            peer_is = refl;
          };
          message = codes "ab" ∷ [];
          gives_it = refl;
          answer_is = refl;
        });
        steps_are = refl;
      },
      refl,
    ),
    refl,
  );
  unsubscribes = (
    _,
    (
      refl,
      record {
        followers = (end_a 1, []) ∷ [];
        tells = ([], [], Commit (end_a 1) (cancels (codes "a")) ∷ [], [], ((0, codes "a") ∷ [], (refl, [], (refl, refl), refl)), (refl, refl), refl, refl);
        new_is = refl;
      },
    ),
    refl,
  );
  hears_cancel = (
    _,
    (round (cancels (codes "a")) ∷ [], (refl, end_b 1 ∷ [], Take (end_a 1) (cancels (codes "a")) ∷ [], EmptyLook (end_a 1) ∷ [], came (cancels (codes "a")), (end_b 1 ∷ [], none_came, refl), refl)),
    refl,
  );
  matches_none = (record { put = []; full = []; offers = (refl, refl, refl); answer_is = refl }, refl);
  tells_late = (
    _,
    record {
      followers = (end_a 1, codes "a" ∷ []) ∷ [];
      tells = (codes "a" ∷ [], [], Commit (end_a 1) (adds (codes "a")) ∷ [], [], ((1, codes "a") ∷ [], (refl, [], (refl, refl), refl)), (refl, refl), refl, refl);
      new_is = refl;
    },
    refl,
  );
  finds_full = (_, record { followers = (end_a 1, []) ∷ []; tells = ([], [], FullLook (end_a 1) ∷ [], [], ([], (refl, refl)), (refl, refl), refl, refl); new_is = refl }, refl);
  finds_none = (
    _,
    (
      end_a 1 ∷ [],
      record {
        dropped = [];
        front = [];
        last = EmptyLook (end_b 1) ∷ [];
        mid = end_a 1 ∷ [];
        drops = record { came = (refl, refl); none = All-nil (λ (r : Round). wanted_of wants_a r.peer r.message ≡ None); skips_are = refl };
        ends = again (omega arith) (record { looks_are = (EmptyLook (end_b 1), [], refl, inl refl, refl); new_is = refl }, refl) refl;
        steps_are = refl;
      },
      refl,
    ),
    refl,
  );
}
