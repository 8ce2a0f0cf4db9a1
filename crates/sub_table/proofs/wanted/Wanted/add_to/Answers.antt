use Rattle.std.proofs.Common.{◌≡◌, ap, sym, rules, ◌∙◌, ◌++◌, ◌∷◌, [], ◌||◌, map}
use Rattle.std.proofs.lemmas.Map.Iter.{iter_end}
use Rattle.std.specs.Map.{keys_of}
use Rattle.std.specs.Map.Iter.{deref}
use Rattle.std.specs.Str.{bytes_eq}
use Rattle.spec_pattern.specs.Topics.{is_among}
use Rattle.spec_pattern.specs.Wanted.{wants}
use Rattle.sub_table.specs.View.{topics_in, entries_of}
use Rattle.sub_table.proofs.CountLemmas.{is_among-one_more, topics_in-push, found_is_key, keys_of-entries_of}
use Rattle.sub_table.proofs.wanted.Wanted.add_to.Goals as goal

pub topics-preserved : goal.topics-preserved
topics-preserved c = λ t.
    is_among-one_more c.in-Some.topic.now.items c.args.topics.now c.topics.topics c.add.new.self (topics_in (map deref c.topics.yielded)) (topics_in (map deref (c.topics.yielded ++ c.in-Some.topic ∷ []))) t
    (c.in_ok-add.ensures.members t ∙ ap (λ topic. bytes_eq topic t || is_among c.topics.topics t) c.as_slice.ensures.value)
    (c.topics.invariant t) (topics_in-push c.topics.yielded c.in-Some.topic)

pub returns : goal.returns
returns c =
    let all : map deref c.topics.yielded ≡ keys_of c.self.inside.counts.entries = search (rules, iter_end) in
    record {
      ok = λ t. c.topics.invariant t ∙ ap (λ b. is_among c.args.topics.now t || b)
          (ap (λ keys. is_among (topics_in keys) t) all ∙ ap (λ topics. is_among topics t) (keys_of-entries_of c.self.inside.counts.entries)
          ∙ sym (found_is_key (bytes_eq t) (entries_of c.self.inside.counts.entries)) ∙ ap (λ wanted. wants wanted t) c.self.view_is);
    }
