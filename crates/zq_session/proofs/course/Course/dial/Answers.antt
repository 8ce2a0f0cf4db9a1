use Rattle.std.proofs.Common.{◌≡◌, true, List, Option, refl, subst}
use Rattle.spec_link.specs.LinkAct.{LinkAct, Linked, Failed}
use Rattle.link_side.specs.declared.dialler.Dial.{Dial}
use Rattle.link_side.specs.Dials.{IsDial, answer_of, moment_after}
use Rattle.zq_session.proofs.NotingLemmas.{free_by, topics_dialled}
use Rattle.zq_session.specs.Tallies.{HasTally}
use Rattle.zq_session.proofs.TallyLemmas.{tally_given}
use Rattle.zq_session.proofs.CourseLemmas.{link_none}
use Rattle.zq_session.proofs.UnlinkedLemmas.{counts_as, dials_by, links_fresh, no_side}
use Rattle.zq_session.proofs.course.Course.dial.Goals as goal

pub returns-in-Linked-clause-dials : goal.returns-in-Linked-clause-dials
returns-in-Linked-clause-dials g c =
    let e = c.in_ok-link-in-Some.ensures in
    let d = c.in-Some.dialler in
    let is = c.in-Linked.is in
    dials_by c.args.now c.args.met true c.args.self.now _ d c.dial.new.self Linked _ _ _ _
    (counts_as _ _ _ _ _ _ is e.counts) refl refl c.in-Some.is refl
    (subst (λ (x : Dial _). IsDial d.dial_at c.args.now (answer_of x)) is e.due)
    (subst (λ (x : Dial _). c.dial.new.self ≡ record d { dial_at = moment_after d.interval c.args.now (answer_of x) d.dial_at }) is e.next)
    (c.may_dial.ensures.yes c.if-not-may_dial.false)
    (λ p o none. (let k = rw is at e.linked in links_fresh p.opts _ _ c.in-Linked.side d.opts o c.replace.ensures.after refl (free_by c.in-Linked.side.behind k.0.1) k.0.0))
    (λ p none k. (let f = rw is at e.linked in topics_dialled c.args.self.now.life.dials p.opts p.link _ p.closed c.args.self.now.side _ c.in-Linked.side c.args.self.now.topics none refl c.requires.no_link c.replace.ensures.after (free_by c.in-Linked.side.behind f.0.1) (c.requires.ready c.requires.no_link) k))
    (λ p none k. tally_given c.args.self.now.life.dials p.opts p.closed c.args.self.now.tally c.begin.new.self c.begin.ensures (subst (λ (l : Option (List LinkAct)). HasTally c.args.self.now.life.dials p.opts l p.closed c.args.self.now.tally) none k)) (λ _. refl) refl

pub returns-in-Failed-clause-dials : goal.returns-in-Failed-clause-dials
returns-in-Failed-clause-dials g c =
    let e = c.in_ok-link-in-Some.ensures in
    let d = c.in-Some.dialler in
    let is = c.in-Failed.is in
    dials_by c.args.now c.args.met true c.args.self.now _ d c.dial.new.self Failed _ _ _ _
    (counts_as _ _ _ _ _ _ is e.counts) refl refl c.in-Some.is refl
    (subst (λ (x : Dial _). IsDial d.dial_at c.args.now (answer_of x)) is e.due)
    (subst (λ (x : Dial _). c.dial.new.self ≡ record d { dial_at = moment_after d.interval c.args.now (answer_of x) d.dial_at }) is e.next)
    (c.may_dial.ensures.yes c.if-not-may_dial.false)
    (λ p o none. link_none p.opts p.link _ c.requires.no_link none) (λ p none k. k) (λ p none k. k) (λ k. no_side _ Failed c.requires.no_link k) refl
