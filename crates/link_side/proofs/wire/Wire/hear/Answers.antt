use Rattle.std.proofs.Common.{ℕ, ◌+◌, ◌-◌, List, take, drop, refl, subst}
use Rattle.spec_zmtp.specs.declared.command.Command.{Command}
use Rattle.zmtp_engine.specs.Conversation.{Follows, fed}
use Rattle.link_side.specs.declared.wire.Wire.{Wire}
use Rattle.link_side.specs.WireView.{unfed, kept}
use Rattle.link_side.proofs.KeptLemmas.{run_fed, fed_all, fed_front, front_within}
use Rattle.link_side.proofs.wire.Wire.hear.Goals as goal

pub returns-in-Ok-clause-run : goal.returns-in-Ok-clause-run
returns-in-Ok-clause-run c = λ opts acts r.
    let old : Wire = c.args.self.now in
    let piece : List ℕ → List ℕ = λ (l : List ℕ). take (old.read - old.fed) (drop old.fed l) in
    run_fed opts acts (unfed old) (kept old) (kept (record old { engine = c.feed.new.self; fed = old.read }))
    (fed_all old.octets.items old.fed old.read) refl refl
    (λ p f. subst (λ (l : List ℕ). (commands : List Command) × Follows (fed (piece l) commands p) c.feed.new.self) c.deref.ensures.value (c.in-Ok.ensures.follows p f)) r

pub returns-in-Err-clause-run : goal.returns-in-Err-clause-run
returns-in-Err-clause-run c = λ opts acts r.
    let old : Wire = c.args.self.now in
    let k = c.in-Err.e.taken in
    let piece : List ℕ → List ℕ = λ (l : List ℕ). take (old.read - old.fed) (drop old.fed l) in
    run_fed opts acts (take k (unfed old)) (kept old) (kept (record old { engine = c.feed.new.self; fed = old.fed + k }))
    (fed_front old.octets.items old.fed old.read k c.requires.sound.fed
    (front_within (drop old.fed c.deref.result.now) (old.read - old.fed) k c.in-Err.ensures.whole)) refl refl
    (λ p f. subst (λ (l : List ℕ). (commands : List Command) × Follows (fed (take k (piece l)) commands p) c.feed.new.self) c.deref.ensures.value (c.in-Err.ensures.follows p f)) r
