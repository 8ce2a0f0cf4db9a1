use Rattle.std.proofs.Common.{◌∷◌, [], ℕ, drop, refl, sym, ap, subst, ◌∙◌}
use Rattle.spec_pattern.specs.PipeStep.{Commit}
use Rattle.spec_pattern.specs.TurnList.{End}
use Rattle.router_dealer.proofs.route.put_or_hand_back.Goals as goal

pub returns-in-Ok-put-clause-put : goal.returns-in-Ok-put-clause-put
returns-in-Ok-put-clause-put g c = (
  c.pair.ensures ∙ ap (λ (e : ℕ → End). (e c.args.place).pair) c.in-Ok-put.ensures.keeps.ends,
  subst (λ w. g.E.Peers.runs c.args.peers.now (Commit (g.E.Peers.end_at c.args.peers.now c.args.place) w ∷ []) c.put.new.self) (sym (ap (drop 1) c.pop_front-name.ensures)) c.in-Ok-put.ensures.runs,
)

pub returns-in-Full-clause-put : goal.returns-in-Full-clause-put
returns-in-Full-clause-put g c = (
  refl,
  refl,
  c.behind-whole.ensures.whole ∙ ap (λ rest. c.pop_front-name.result ∷ rest) c.in-Full.ensures.back ∙ sym c.pop_front-name.ensures,
  c.in-Full.ensures.runs,
)

pub pair-requires : goal.pair-requires
pair-requires g c = c.in-Ok-put.ensures.keeps.stay c.args.place c.requires.there
