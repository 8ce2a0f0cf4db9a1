use Rattle.std.proofs.Common.{◌∙◌, ◌≤◌, sym, ap, take, length, ◌||◌, nat_eq, arith}
use Rattle.spec_pattern.specs.Topics.{has_topic, topics_of}
use Rattle.sub_table.proofs.MatchLemmas.{any_below-next, any_below-last, matches-fronts}
use Rattle.sub_table.proofs.topics.Topics.found.Goals as goal

pub prefixes-preserved : goal.prefixes-preserved
prefixes-preserved c =
    let octets = c.args.octets.now in
    record {
      found = λ q.
          c.in_ok-add_to.ensures.ok q
          ∙ (λ j. c.prefixes.invariant.found q j || (c.self.invariant.same (take c.in-Some.end octets) q ∙ ap (λ subs. has_topic nat_eq subs q (take c.in-Some.end octets)) c.self.view_is) j)
          ∙ sym (any_below-next octets (has_topic nat_eq c.args.self.now q) c.prefixes.from c.in-Some.end c.in-Some.ensures.some.0 c.in-Some.ensures.some.1 (c.in-Some.ensures.some.2 q));
      within = let l : c.in-Some.end ≤ length octets = c.in-Some.ensures.some.1 in omega (arith, l);
    }

pub returns-clause-found : goal.returns-clause-found
returns-clause-found c = λ q.
    c.prefixes.invariant.found q
    ∙ sym (any_below-last c.args.octets.now (has_topic nat_eq c.args.self.now q) c.prefixes.from c.prefixes.invariant.within (c.in_default.ensures.none q))
    ∙ matches-fronts (topics_of nat_eq c.args.self.now q) c.args.octets.now
