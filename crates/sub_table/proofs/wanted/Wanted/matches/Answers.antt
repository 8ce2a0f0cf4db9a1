use Rattle.std.proofs.Common.{◌∙◌, ◌≤◌, ◌+◌, ◌||◌, sym, length, take, arith}
use Rattle.spec_pattern.specs.Wanted.{wants}
use Rattle.sub_table.proofs.MatchLemmas.{any_below_at, any_below-next, any_below-last}
use Rattle.sub_table.proofs.CountLemmas.{matches_wanted-fronts}
use Rattle.sub_table.proofs.wanted.Wanted.matches.Goals as goal

pub prefixes-preserved : goal.prefixes-preserved
prefixes-preserved c =
    let octets = c.args.octets.now in
    record {
      none =
          any_below-next octets (wants c.args.self.now) c.prefixes.from c.in-Some.end c.in-Some.ensures.some.0 c.in-Some.ensures.some.1 c.in-Some.ensures.some.2
          ∙ (λ j. c.prefixes.invariant.none j || (sym c.wants.ensures.value ∙ c.if-wants.false) j);
      within = let l : c.in-Some.end ≤ length octets = c.in-Some.ensures.some.1 in omega (arith, l);
    }

pub returns-then-wants : goal.returns-then-wants
returns-then-wants c =
    let l : c.in-Some.end ≤ length c.args.octets.now = c.in-Some.ensures.some.1 in
    sym (any_below_at (length c.args.octets.now + 1) (λ i. wants c.args.self.now (take i c.args.octets.now)) c.in-Some.end (omega (arith, l))
    (sym c.wants.ensures.value ∙ c.if-wants.true))
    ∙ matches_wanted-fronts c.args.self.now c.args.octets.now

pub returns : goal.returns
returns c =
    sym c.prefixes.invariant.none
    ∙ sym (any_below-last c.args.octets.now (wants c.args.self.now) c.prefixes.from c.prefixes.invariant.within c.in_default.ensures.none)
    ∙ matches_wanted-fronts c.args.self.now c.args.octets.now
