use Rattle.std.proofs.Common.{◌≡◌, ◌∙◌, false, nat_eq, ap, sym, subst}
use Rattle.std.proofs.lemmas.List.Elements.{All-append}
use Rattle.std.specs.Map.{keys_of}
use Rattle.pub_sub.specs.Places.{AreOthers}
use Rattle.pub_sub.proofs.SubscriberLemmas.{others_turns}
use Rattle.pub_sub.specs.declared.audience.Audience.{Audience}
use Rattle.pub_sub.proofs.KnownLemmas.{IsPublisher-without}
use Rattle.pub_sub.specs.Publishers.{PubState}
use Rattle.pub_sub.proofs.PeerLemmas.{Detaches-told}
use Rattle.pub_sub.proofs.publisher.Publisher.leave_told.Goals as goal

pub invariant_of-self : goal.invariant_of-self
invariant_of-self c =
    IsPublisher-without c.args.place (record {
      ins = c.self.inside.ins;
      subs = c.self.inside.audience.topics;
      kept = c.self.inside.kept;
      inbox = c.self.inside.audience.inbox.notices;
      verbose = c.self.inside.audience.verbose;
      tells = c.self.inside.audience.tells;
    })
    (record {
      ins = c.remove.new.self;
      subs = c.leave.new.self.topics;
      kept = c.forget.new.kept;
      inbox = c.leave.new.self.inbox.notices;
      verbose = c.leave.new.self.verbose;
      tells = c.leave.new.self.tells;
    }) c.leave.new.self.inbox.spare c.self.invariant.known c.remove.ensures (ap (λ (a : Audience). a.topics) c.leave.ensures.ok) c.forget.ensures c.leave.ensures.can

pub returns-clause-defined : goal.returns-clause-defined
returns-clause-defined c =
    Detaches-told c.args.pair c.args.place (record {
      ins = c.self.inside.ins;
      subs = c.self.inside.audience.topics;
      kept = c.self.inside.kept;
      inbox = c.self.inside.audience.inbox.notices;
      verbose = c.self.inside.audience.verbose;
      tells = c.self.inside.audience.tells;
    }) c.args.self.now
    (record {
      ins = c.remove.new.self;
      subs = c.leave.new.self.topics;
      kept = c.forget.new.kept;
      inbox = c.leave.new.self.inbox.notices;
      verbose = c.leave.new.self.verbose;
      tells = c.leave.new.self.tells;
    }) c.self.view_is c.self.invariant.known (ap (λ (p : PubState). p.tells) c.self.view_is ∙ c.requires)
    (λ j. record {
      ins = c.remove.ensures j;
      subs = (c.leave.ensures.ok j).topics;
      kept = c.forget.ensures j;
      inbox = (c.leave.ensures.ok j).inbox.notices;
      verbose = (c.leave.ensures.ok j).verbose;
      tells = (c.leave.ensures.ok j).tells;
    })

pub returns-clause-others : goal.returns-clause-others
returns-clause-others c =
    All-append (λ k. nat_eq c.args.place k ≡ false) c.remove.new.self (keys_of c.leave.new.self.topics)
    (subst (AreOthers c.args.place) (sym c.remove.ensures) (others_turns c.args.place c.self.inside.ins)) c.leave.ensures.others
