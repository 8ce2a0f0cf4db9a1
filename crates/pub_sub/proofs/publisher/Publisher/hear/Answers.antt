use Rattle.std.proofs.Common.{◌≡◌, ◌<◌, All, length, refl, sym, ap, subst, arith}
use Rattle.pub_sub.specs.Publishers.{PubState}
use Rattle.pub_sub.specs.Hearing.{IsHearing, HearsOne, HearsNone, HearsNext, KeepsOne}
use Rattle.pub_sub.proofs.HearLemmas.{IsHearing-none, IsHearing-more, HearsAll-none, HearsAll-full, HearsAll-waiting, HearsSome-kept, KeepsPeers-on, KeepsPeers-same, KeepsPeers-kept}
use Rattle.msg_pipe.proofs.PlacesLemmas.{all_here}
use Rattle.std.specs.Map.{keys_of}
use Rattle.pub_sub.proofs.KnownLemmas.{on_err, KeepsPlaces-on}
use Rattle.pub_sub.proofs.publisher.Publisher.hear.Goals as goal

pub rounds-init : goal.rounds-init
rounds-init g c = record {
  hearing = IsHearing-none g.E.Peers.runs (g.E.Peers.end_at c.args.peers.now) c.args.peers.now c.args.self.now (g.met.E.Peers.runs_none c.args.peers.now) c.requires.none;
  keeps = record { stay = λ k h. h; ends = refl; states = refl };
}

pub returns-then-len-ge-MOST_WAITING-clause-heard : goal.returns-then-len-ge-MOST_WAITING-clause-heard
returns-then-len-ge-MOST_WAITING-clause-heard g c =
    HearsAll-waiting g.E.Peers.runs (g.E.Peers.end_at c.args.peers.now) c.args.peers.now c.rounds.peers c.args.self.now c.rounds.self c.rounds._count c.rounds-test.true
    (let v : length c.self.inside.audience.inbox.notices ≡ length c.rounds.self.inbox = ap (λ (p : PubState). length p.inbox) c.self.view_is in omega arith)
    c.rounds.invariant.hearing

pub returns-in_err-heard-clause-memory : goal.returns-in_err-heard-clause-memory
returns-in_err-heard-clause-memory g c =
    let room : length c.rounds.self.inbox < 1000 =
    (let v : length c.self.inside.audience.inbox.notices ≡ length c.rounds.self.inbox = ap (λ (p : PubState). length p.inbox) c.self.view_is in omega arith) in
    on_err c.from_residual.result _
    (HearsSome-kept g.E.Peers.runs g.met.E.Peers.runs_on (g.E.Peers.end_at c.args.peers.now) c.args.peers.now c.rounds.peers c.hear_next.new.peers c.args.self.now c.rounds.self c.hear_next.new.self
    c.rounds._count c.rounds-test.true room c.rounds.invariant.hearing
    (subst (λ e. KeepsOne g.E.Peers.runs e c.rounds.peers c.hear_next.new.peers c.rounds.self c.hear_next.new.self) c.rounds.invariant.keeps.ends c.in_err-heard.ensures.memory))

pub returns-then-not-heard-clause-heard : goal.returns-then-not-heard-clause-heard
returns-then-not-heard-clause-heard g c =
    let room : length c.rounds.self.inbox < 1000 =
    (let v : length c.self.inside.audience.inbox.notices ≡ length c.rounds.self.inbox = ap (λ (p : PubState). length p.inbox) c.self.view_is in omega arith) in
    HearsAll-none g.E.Peers.runs g.met.E.Peers.runs_on (g.E.Peers.end_at c.args.peers.now) c.args.peers.now c.rounds.peers c.hear_next.new.peers c.args.self.now c.rounds.self c.hear_next.new.self
    c.rounds._count c.rounds-test.true room c.rounds.invariant.hearing
    (subst (λ e. HearsNone g.E.Peers.runs e c.rounds.peers c.hear_next.new.peers c.rounds.self c.hear_next.new.self) c.rounds.invariant.keeps.ends
    (subst (λ b. HearsNext g.E.Peers.runs (g.E.Peers.end_at c.rounds.peers) c.rounds.peers c.hear_next.new.peers c.rounds.self b c.hear_next.new.self) c.if-not-heard.true c.in_ok-heard.ensures.heard))

pub rounds-preserved : goal.rounds-preserved
rounds-preserved g c =
    let room : length c.rounds.self.inbox < 1000 =
    (let v : length c.self.inside.audience.inbox.notices ≡ length c.rounds.self.inbox = ap (λ (p : PubState). length p.inbox) c.self.view_is in omega arith) in
    record {
      hearing = IsHearing-more g.E.Peers.runs g.met.E.Peers.runs_on (g.E.Peers.end_at c.args.peers.now) c.args.peers.now c.rounds.peers c.hear_next.new.peers c.args.self.now c.rounds.self c.hear_next.new.self
          c.rounds._count c.rounds-test.true room c.rounds.invariant.hearing
          (subst (λ e. HearsOne g.E.Peers.runs e c.rounds.peers c.hear_next.new.peers c.rounds.self c.hear_next.new.self) c.rounds.invariant.keeps.ends
          (subst (λ b. HearsNext g.E.Peers.runs (g.E.Peers.end_at c.rounds.peers) c.rounds.peers c.hear_next.new.peers c.rounds.self b c.hear_next.new.self) c.if-not-heard.false c.in_ok-heard.ensures.heard));
      keeps = KeepsPlaces-on g.E.Peers.here g.E.Peers.end_at g.E.Peers.writable c.args.peers.now c.rounds.peers c.hear_next.new.peers c.rounds.invariant.keeps c.in_ok-heard.ensures.keeps;
    }

pub returns-clause-heard : goal.returns-clause-heard
returns-clause-heard g c =
    let all : c.rounds._count ≡ 256 = omega arith in
    HearsAll-full g.E.Peers.runs (g.E.Peers.end_at c.args.peers.now) c.args.peers.now c.rounds.peers c.args.self.now c.rounds.self
    (subst (λ n. IsHearing g.E.Peers.runs (g.E.Peers.end_at c.args.peers.now) c.args.peers.now c.rounds.peers c.args.self.now c.rounds.self n) all c.rounds.invariant.hearing)

pub hear_next-requires-clause-there : goal.hear_next-requires-clause-there
hear_next-requires-clause-there g c =
    all_here g.E.Peers.here g.E.Peers.end_at g.E.Peers.writable c.args.peers.now c.rounds.peers (keys_of c.rounds.self.subs) c.rounds.invariant.keeps
    (subst (All (g.E.Peers.here c.args.peers.now)) (sym c.rounds.invariant.hearing.same.peers) c.requires.there)

pub hear_next-requires-clause-none : goal.hear_next-requires-clause-none
hear_next-requires-clause-none g c = c.rounds.invariant.hearing.kept_is

pub returns-then-len-ge-MOST_WAITING-clause-same : goal.returns-then-len-ge-MOST_WAITING-clause-same
returns-then-len-ge-MOST_WAITING-clause-same g c = c.rounds.invariant.hearing.same

pub returns-then-len-ge-MOST_WAITING-clause-keeps : goal.returns-then-len-ge-MOST_WAITING-clause-keeps
returns-then-len-ge-MOST_WAITING-clause-keeps g c = c.rounds.invariant.keeps

pub returns-in_err-heard-clause-same : goal.returns-in_err-heard-clause-same
returns-in_err-heard-clause-same g c =
    KeepsPeers-on c.args.self.now c.rounds.self c.hear_next.new.self c.rounds.invariant.hearing.same
    (KeepsPeers-kept g.E.Peers.runs (g.E.Peers.end_at c.rounds.peers) c.rounds.peers c.hear_next.new.peers c.rounds.self c.hear_next.new.self c.in_err-heard.ensures.memory)

pub returns-in_err-heard-clause-keeps : goal.returns-in_err-heard-clause-keeps
returns-in_err-heard-clause-keeps g c =
    KeepsPlaces-on g.E.Peers.here g.E.Peers.end_at g.E.Peers.writable c.args.peers.now c.rounds.peers c.hear_next.new.peers c.rounds.invariant.keeps c.in_err-heard.ensures.keeps

pub returns-then-not-heard-clause-same : goal.returns-then-not-heard-clause-same
returns-then-not-heard-clause-same g c =
    let none : HearsNone g.E.Peers.runs (g.E.Peers.end_at c.rounds.peers) c.rounds.peers c.hear_next.new.peers c.rounds.self c.hear_next.new.self =
    subst (λ b. HearsNext g.E.Peers.runs (g.E.Peers.end_at c.rounds.peers) c.rounds.peers c.hear_next.new.peers c.rounds.self b c.hear_next.new.self) c.if-not-heard.true c.in_ok-heard.ensures.heard in
    KeepsPeers-on c.args.self.now c.rounds.self c.hear_next.new.self c.rounds.invariant.hearing.same
    (KeepsPeers-same c.rounds.self c.hear_next.new.self none.new_is)

pub returns-then-not-heard-clause-keeps : goal.returns-then-not-heard-clause-keeps
returns-then-not-heard-clause-keeps g c =
    KeepsPlaces-on g.E.Peers.here g.E.Peers.end_at g.E.Peers.writable c.args.peers.now c.rounds.peers c.hear_next.new.peers c.rounds.invariant.keeps c.in_ok-heard.ensures.keeps

pub returns-clause-same : goal.returns-clause-same
returns-clause-same g c = c.rounds.invariant.hearing.same

pub returns-clause-keeps : goal.returns-clause-keeps
returns-clause-keeps g c = c.rounds.invariant.keeps
