use Rattle.std.proofs.Common.{◌∙◌, ◌++◌, ◌∷◌, [], refl, ap, sym}
use Rattle.std.specs.Prelude.{if◌then◌else◌}
use Rattle.pub_sub.specs.declared.audience.Audience.{Audience}
use Rattle.pub_sub.specs.Notes.{InboxState, notice}
use Rattle.pub_sub.specs.Publishers.{PubState, obeyed}
use Rattle.pub_sub.proofs.KnownLemmas.{IsPublisher-obeyed, obeyed-told}
use Rattle.pub_sub.proofs.RoomLemmas.{CanTell-spent, CanTell-unspent}
use Rattle.pub_sub.proofs.publisher.Publisher.obey.Goals as goal

pub invariant_of-self : goal.invariant_of-self
invariant_of-self c =
    IsPublisher-obeyed c.args.place c.args.message (record {
      ins = c.self.inside.ins;
      subs = c.self.inside.audience.topics;
      kept = c.self.inside.kept;
      inbox = c.self.inside.audience.inbox.notices;
      verbose = c.self.inside.audience.verbose;
      tells = c.self.inside.audience.tells;
    })
    (record {
      ins = c.self.inside.ins;
      subs = c.heed.new.self.topics;
      kept = c.self.inside.kept;
      inbox = c.push.new.self.notices;
      verbose = c.heed.new.self.verbose;
      tells = c.heed.new.self.tells;
    }) c.push.new.self.spare c.self.invariant.known refl (ap (λ (a : Audience). a.topics) c.in-Ok-true.ensures.ok) refl
    (CanTell-spent c.heed.new.self.tells c.heed.new.self.inbox.spare c.push.new.self.spare c.heed.new.self.topics c.in-Ok-true.field-0 c.in-Ok-true.field-0-test
    (ap (λ (i : InboxState). i.spare) c.push.ensures) c.in-Ok-true.ensures.can)

pub returns-in-Ok-true-clause-ok : goal.returns-in-Ok-true-clause-ok
returns-in-Ok-true-clause-ok c =
    obeyed-told c.args.pair c.args.place c.args.message (record {
      ins = c.self.inside.ins;
      subs = c.self.inside.audience.topics;
      kept = c.self.inside.kept;
      inbox = c.self.inside.audience.inbox.notices;
      verbose = c.self.inside.audience.verbose;
      tells = c.self.inside.audience.tells;
    })
    (record {
      ins = c.self.inside.ins;
      subs = c.heed.new.self.topics;
      kept = c.self.inside.kept;
      inbox = c.push.new.self.notices;
      verbose = c.heed.new.self.verbose;
      tells = c.heed.new.self.tells;
    }) c.in-Ok-true.field-0 refl (ap (λ (a : Audience). a.topics) c.in-Ok-true.ensures.ok)
    (ap (λ (p : PubState). p.kept) c.self.view_is ∙ c.requires.none)
    (ap (λ (i : InboxState). i.notices) c.push.ensures
    ∙ ap (λ (a : Audience). a.inbox.notices ++ notice c.args.pair c.args.message ∷ []) c.in-Ok-true.ensures.ok
    ∙ ap (λ b. if b then c.self.inside.audience.inbox.notices ++ notice c.args.pair c.args.message ∷ [] else c.self.inside.audience.inbox.notices) (sym c.in-Ok-true.field-0-test))
    (ap (λ (a : Audience). a.verbose) c.in-Ok-true.ensures.ok) (ap (λ (a : Audience). a.tells) c.in-Ok-true.ensures.ok) c.in-Ok-true.ensures.news
    ∙ ap (obeyed c.args.pair c.args.place c.args.message) c.self.view_is

pub invariant_of-self-in-Ok-false : goal.invariant_of-self-in-Ok-false
invariant_of-self-in-Ok-false c =
    IsPublisher-obeyed c.args.place c.args.message (record {
      ins = c.self.inside.ins;
      subs = c.self.inside.audience.topics;
      kept = c.self.inside.kept;
      inbox = c.self.inside.audience.inbox.notices;
      verbose = c.self.inside.audience.verbose;
      tells = c.self.inside.audience.tells;
    })
    (record {
      ins = c.self.inside.ins;
      subs = c.heed.new.self.topics;
      kept = c.self.inside.kept;
      inbox = c.heed.new.self.inbox.notices;
      verbose = c.heed.new.self.verbose;
      tells = c.heed.new.self.tells;
    }) c.heed.new.self.inbox.spare c.self.invariant.known refl (ap (λ (a : Audience). a.topics) c.in-Ok-false.ensures.ok) refl
    (CanTell-unspent c.heed.new.self.tells c.heed.new.self.inbox.spare c.heed.new.self.topics c.in-Ok-false.field-0 c.in-Ok-false.field-0-test c.in-Ok-false.ensures.can)
