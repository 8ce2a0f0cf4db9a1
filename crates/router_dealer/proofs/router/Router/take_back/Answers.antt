use Rattle.std.proofs.Common.{true≢false, sym, ap, subst, ◌∙◌, ◌-◌, ◌⊎◌, arith}
use Rattle.router_dealer.specs.Named.{RouterState, IsOwn, IsDrawn}
use Rattle.router_dealer.specs.contracts.router.Router.{the_view}
use Rattle.router_dealer.proofs.TakeBackLemmas.{some_drawn, drawn_before, undone_drawn, undone_other}
use Rattle.router_dealer.proofs.router.Router.take_back.Goals as goal

pub overflow_sub-self : goal.overflow_sub-self
overflow_sub-self c =
    let some = some_drawn c.args.place c.args.self.now c.is_drawn_last-drawn.ensures.sound (c.is_drawn_last-drawn.ensures.drawn.0 c.if-drawn.true) in
    let same = ap (λ (s : RouterState). s.drawn) (c.self.view_is ∙ c.detach.ensures) in
    omega (arith, some, same)

pub invariant_of-self : goal.invariant_of-self
invariant_of-self c =
    let r : RouterState = the_view c.self.inside in
    let is = c.self.view_is ∙ c.detach.ensures in
    let last = c.is_drawn_last-drawn.ensures.drawn.0 c.if-drawn.true in
    record {
      router = record {
        apart = c.self.invariant.router.apart;
        named = c.self.invariant.router.named;
        have_turns = c.self.invariant.router.have_turns;
        own_or_drawn = λ q p h.
            subst (λ n. IsOwn q ⊎ IsDrawn (n - 1) q) (sym (ap (λ (s : RouterState). s.drawn) is))
            (drawn_before c.args.place c.args.self.now c.is_drawn_last-drawn.ensures.sound last r (ap (λ (s : RouterState). s.names) is) q p h);
      };
      has_room = c.self.invariant.has_room;
      no_frames = c.self.invariant.no_frames;
    }

pub returns-then-drawn-clause-undone : goal.returns-then-drawn-clause-undone
returns-then-drawn-clause-undone c before came =
    ap (λ (s : RouterState). record s { drawn = s.drawn - 1 }) (c.self.view_is ∙ c.detach.ensures)
    ∙ undone_drawn c.args.place c.args.self.now c.is_drawn_last-drawn.ensures.sound.apart
    (c.is_drawn_last-drawn.ensures.drawn.0 c.if-drawn.true) before came

pub returns-else-drawn-clause-undone : goal.returns-else-drawn-clause-undone
returns-else-drawn-clause-undone c before came =
    c.detach.ensures
    ∙ undone_other c.args.place c.args.self.now c.is_drawn_last-drawn.ensures.sound.apart
    (λ e. true≢false (sym (c.is_drawn_last-drawn.ensures.drawn.1 e) ∙ c.if-drawn.false)) before came
