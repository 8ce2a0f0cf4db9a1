-- The worked examples of PAIRs, DEALERs and ROUTERs.
use Rattle.std.proofs.Common.{List, [], ◌∷◌, ◌++◌, codes, inl, inr, refl}
use Rattle.zq_base.specs.Message.{Frames}
use Rattle.spec_pattern.specs.PipeStep.{Commit, Take, EmptyLook, read_through}
use Rattle.spec_pattern.specs.TurnList.{End, GoesOut, ComesIn}
use Rattle.spec_run.specs.TextParts.{end_a, end_b, open_to_all}
use Rattle.spec_run.specs.ExamplesPeers.{turned_once, TwoWays, RouterRules}

-- the first end serves
goes_first : (m : Frames) (e : End) (es : List End) → GoesOut open_to_all m (e ∷ es) (Commit e m ∷ []) e.pair (es ++ e ∷ [])
goes_first m e es = record { before = []; peer = e; after = es; turns_are = refl; open_is = refl; steps_are = refl; to_is = refl; new_is = refl }

comes_first : (m : Frames) (e : End) (es : List End) → ComesIn (e ∷ es) (Take (read_through e) m ∷ []) m e.pair (es ++ e ∷ [])
comes_first m e es = record { before = []; peer = e; after = es; looks = []; turns_are = refl; looks_are = refl; steps_are = refl; from_is = refl; new_is = refl }

pub peers : TwoWays
peers = record {
  pair_sends = (end_b 1 ∷ [], goes_first (codes "x" ∷ []) (end_b 1) [], refl);
  pair_receives = (refl, (end_a 1 ∷ [], comes_first (codes "x" ∷ []) (end_a 1) [], refl));
  one_peer = refl;
  hears_none = (refl, (end_b 1 ∷ [], (refl, record { looks_are = (EmptyLook (end_a 1), [], refl, inl refl, refl); new_is = refl }), refl));
  deals = (turned_once, goes_first (codes "x" ∷ []) (end_b 1) (end_b 2 ∷ []), refl);
  is_dealt = (refl, (turned_once, comes_first (codes "n" ∷ []) (end_b 1) (end_b 2 ∷ []), refl));
}

pub routers : RouterRules
routers = record {
  first = refl;
  second = refl;
  gets_named = (refl, (end_b 1 ∷ [], record { body = codes "one" ∷ []; by_turn = record { before = []; peer = end_b 1; after = []; looks = []; turns_are = refl; looks_are = refl; steps_are = refl; from_is = refl; new_is = refl }; name = codes "k"; name_is = refl; message_is = refl }, refl));
  finds_none = (refl, (end_b 1 ∷ [], (refl, record { looks_are = (EmptyLook (end_a 1), [], refl, inl refl, refl); new_is = refl }), refl));
  answers_named = (inr (refl, refl), refl);
  unknown = ((refl, refl), refl);
  no_body = ((refl, refl), refl);
}
