-- The worked examples of a REP and of a REQ that drop messages.
use Rattle.std.proofs.Common.{◌≡◌, List, [], ◌∷◌, ◌++◌, Some, None, codes, inl, refl, arith, All}
use Rattle.std.proofs.lemmas.List.Elements.{All-nil, All-cons}
use Rattle.zq_base.specs.Message.{Frames}
use Rattle.spec_pattern.specs.PipeStep.{Take, EmptyLook, read_through}
use Rattle.spec_pattern.specs.TurnList.{End}
use Rattle.spec_pattern.specs.Duty.{Free}
use Rattle.spec_pattern.specs.Drops.{Round, Comes, given, again}
use Rattle.spec_pattern.specs.RequestReply.{reply_of, request_of, RepReceives, ReqReceives}
use Rattle.spec_pattern.specs.declared.answers.Rule.TheVariants.{Stray, BadEnv}
use Rattle.spec_pattern.specs.declared.answers.RecvRefusal.TheVariants as recv
use Rattle.spec_pattern.specs.declared.answers.RecvAnswer.TheVariants as got
use Rattle.spec_run.specs.TextParts.{pair_nr, end_a, end_b, skip_at}
use Rattle.spec_run.specs.ExamplesDrops.{owing_1, both_peers, turned_peers, asked_1, DropRules}

one_none : (P : Round → Type 0) (r : Round) → P r → All P (r ∷ [])
one_none P r p = All-cons P r [] p (All-nil P)

abbrev round : End → Frames → Round
round peer m = record { peer = peer; message = m }

-- the message of the first peer comes
comes_so : (m : Frames) (e : End) (es : List End) → Comes (e ∷ es) (round e m) (Take (read_through e) m ∷ []) (es ++ e ∷ [])
comes_so m e es = record {
  by_turn = record { before = []; peer = e; after = es; looks = []; turns_are = refl; looks_are = refl; steps_are = refl; from_is = refl; new_is = refl };
  peer_is = refl;
}

-- a REP takes a message without an envelope, and then finds none
drops_bad : RepReceives (end_b 1 ∷ []) Free (Take (end_a 1) (codes "x" ∷ []) ∷ EmptyLook (end_a 1) ∷ []) (skip_at BadEnv 1 ∷ []) (got.Refused recv.Again) (end_b 1 ∷ []) Free
drops_bad = record {
  dropped = round (end_b 1) (codes "x" ∷ []) ∷ [];
  front = Take (end_a 1) (codes "x" ∷ []) ∷ [];
  last = EmptyLook (end_a 1) ∷ [];
  mid = end_b 1 ∷ [];
  drops = record {
    came = (
      Take (end_a 1) (codes "x" ∷ []) ∷ [],
      [],
      end_b 1 ∷ [],
      comes_so (codes "x" ∷ []) (end_b 1) [],
      (refl, refl),
      refl,
    );
    none = one_none (λ (r : Round). request_of r.peer r.message ≡ None) (round (end_b 1) (codes "x" ∷ [])) refl;
    skips_are = refl;
  };
  ends = again (omega arith) (record { looks_are = (EmptyLook (end_a 1), [], refl, inl refl, refl); new_is = refl }, refl) refl;
  steps_are = refl;
}

-- a REP takes a request
takes_request : RepReceives (end_b 1 ∷ []) Free (Take (end_a 1) ([] ∷ codes "r" ∷ []) ∷ []) [] (got.Got (pair_nr 1) (codes "r" ∷ [])) (end_b 1 ∷ []) owing_1
takes_request = record {
  dropped = [];
  front = [];
  last = Take (end_a 1) ([] ∷ codes "r" ∷ []) ∷ [];
  mid = end_b 1 ∷ [];
  drops = record { came = (refl, refl); none = All-nil (λ (r : Round). request_of r.peer r.message ≡ None); skips_are = refl };
  ends = given (omega arith) (record {
    round = round (end_b 1) ([] ∷ codes "r" ∷ []);
    comes = comes_so ([] ∷ codes "r" ∷ []) (end_b 1) [];
    message = codes "r" ∷ [];
    gives_it = refl;
    answer_is = refl;
  });
  steps_are = refl;
}

-- it takes what its second peer sent, and then finds none
drops_stray : ReqReceives both_peers asked_1 (EmptyLook (end_b 1) ∷ Take (end_b 2) ([] ∷ codes "x" ∷ []) ∷ EmptyLook (end_b 1) ∷ EmptyLook (end_b 2) ∷ []) (skip_at Stray 2 ∷ []) (got.Refused recv.Again) both_peers asked_1
drops_stray = record {
  dropped = round (end_a 2) ([] ∷ codes "x" ∷ []) ∷ [];
  front = EmptyLook (end_b 1) ∷ Take (end_b 2) ([] ∷ codes "x" ∷ []) ∷ [];
  last = EmptyLook (end_b 1) ∷ EmptyLook (end_b 2) ∷ [];
  mid = both_peers;
  drops = record {
    came = (
      EmptyLook (end_b 1) ∷ Take (end_b 2) ([] ∷ codes "x" ∷ []) ∷ [],
      [],
      both_peers,
      record {
        by_turn = record {
          before = end_a 1 ∷ [];
          peer = end_a 2;
          after = [];
          looks = EmptyLook (end_b 1) ∷ [];
          turns_are = refl;
          looks_are = (EmptyLook (end_b 1), [], refl, inl refl, refl);
          steps_are = refl;
          from_is = refl;
          new_is = refl;
        };
        peer_is = refl;
      },
      (refl, refl),
      refl,
    );
    none = one_none (λ (r : Round). reply_of (Some (end_a 1)) r.peer r.message ≡ None) (round (end_a 2) ([] ∷ codes "x" ∷ [])) refl;
    skips_are = refl;
  };
  ends = again (omega arith) (
    record {
      looks_are = (EmptyLook (end_b 1), EmptyLook (end_b 2) ∷ [], refl, inl refl, (EmptyLook (end_b 2), [], refl, inl refl, refl));
      new_is = refl;
    },
    refl,
  ) refl;
  steps_are = refl;
}

-- it takes the reply
takes_reply : ReqReceives both_peers asked_1 (Take (end_b 1) ([] ∷ codes "yes" ∷ []) ∷ []) [] (got.Got (pair_nr 1) (codes "yes" ∷ [])) turned_peers Free
takes_reply = record {
  dropped = [];
  front = [];
  last = Take (end_b 1) ([] ∷ codes "yes" ∷ []) ∷ [];
  mid = both_peers;
  drops = record { came = (refl, refl); none = All-nil (λ (r : Round). reply_of (Some (end_a 1)) r.peer r.message ≡ None); skips_are = refl };
  ends = given (omega arith) (record {
    round = round (end_a 1) ([] ∷ codes "yes" ∷ []);
    comes = comes_so ([] ∷ codes "yes" ∷ []) (end_a 1) (end_a 2 ∷ []);
    message = codes "yes" ∷ [];
    gives_it = refl;
    answer_is = refl;
  });
  steps_are = refl;
}

pub drops : DropRules
drops = record {
  rep_drops = (end_b 1 ∷ [], Free, drops_bad, refl);
  rep_gives = (end_b 1 ∷ [], owing_1, takes_request, refl);
  req_drops = (both_peers, asked_1, drops_stray, refl);
  req_gives = (turned_peers, Free, takes_reply, refl);
}
