use Rattle.std.proofs.Common.{◌≡◌, Bool, true, false, refl, inr}
use Rattle.std.specs.Prelude.{not}
use Rattle.zq_session.specs.Lives.{basis_of, standing_of}
use Rattle.link_side.specs.Kept.{Side}
use Rattle.link_side.specs.declared.behind.Behind.TheVariants.{Nothing}
use Rattle.zq_session.proofs.NotingLemmas.{free_by, ease_at}
use Rattle.zq_session.proofs.BeginLemmas.{not_gone, gone_written}
use Rattle.zq_session.proofs.course.Course.has_no_output.Goals as goal

not_false : (b : Bool) → not b ≡ false → b ≡ true
not_false true e = refl
not_false false e = absurd cc

pub returns-in-Some-clause-no : goal.returns-in-Some-clause-no
returns-in-Some-clause-no c = λ e p keeps gone.
    let l = c.args.self.now.life in
    not_gone (basis_of l p) (standing_of l p) c.args.self.now.side c.in-Some.side c.in-Some.is (free_by c.in-Some.side.behind (ease_at (λ (x : Side). x.behind ≡ Nothing) c.args.self.now.side c.in-Some.side c.in-Some.is (c.requires.ease c.if-up.false))) (c.has_output.ensures.yes (not_false c.has_output.result e)) c.if-up.false (c.lingers_not.ensures.no c.if-lingers_not.false) keeps.link gone

not_true : (b : Bool) → not b ≡ true → b ≡ false
not_true true e = absurd cc
not_true false e = refl

pub returns-in-Some-clause-yes : goal.returns-in-Some-clause-yes
returns-in-Some-clause-yes c = λ e p keeps.
    inr (inr (λ acts link some. gone_written p.link p.opts c.args.self.now.side c.in-Some.side c.in-Some.is (free_by c.in-Some.side.behind (ease_at (λ (x : Side). x.behind ≡ Nothing) c.args.self.now.side c.in-Some.side c.in-Some.is (c.requires.ease c.if-up.false))) (c.has_output.ensures.no (not_true c.has_output.result e)) keeps.link acts link some))
