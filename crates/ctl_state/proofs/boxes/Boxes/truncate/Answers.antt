use Rattle.std.specs.Prelude.{List, length, take}
use Rattle.std.proofs.Common.{arith, sym, ap, ◌∙◌, subst}
use Rattle.std.proofs.lemmas.List.{take_all}
use Rattle.mailbox.specs.Mail.{Mail}
use Rattle.ctl_state.specs.declared.command.Command.{Command}
use Rattle.ctl_state.specs.Boxes.{AreShown}
use Rattle.ctl_state.proofs.ShownLemmas.{shown_front}
use Rattle.ctl_state.proofs.boxes.Boxes.truncate.Goals as goal

pub clear_bits-requires-clause-order : goal.clear_bits-requires-clause-order
clear_bits-requires-clause-order g c = let over = c.if-had-many.false in omega (arith, over)

pub clear_bits-requires-clause-there : goal.clear_bits-requires-clause-there
clear_bits-requires-clause-there g c = let long = c.self.invariant.long in let is = c.len-had.ensures ∙ c.self.inside.boxes.ok.0 in omega (arith, long, is)

pub invariant_of-self : goal.invariant_of-self
invariant_of-self g c =
    let is = c.len-had.ensures ∙ c.self.inside.boxes.ok.0 in
    let over = c.if-had-many.false in
    subst (λ (bs : List (Mail (Command g.row.L.Denot))). AreShown c.clear_bits.new.words.items bs) (sym c.truncate.ensures.items)
    (shown_front c.self.inside.shown.items c.clear_bits.new.words.items c.self.inside.boxes.items c.args.many c.self.invariant (omega (arith, is, over)) c.clear_bits.ensures.long
    c.clear_bits.ensures.before (λ k from below. c.clear_bits.ensures.clear k from (omega (arith, below, is))) (λ k past. c.clear_bits.ensures.behind k (omega (arith, past, is))))

pub returns : goal.returns
returns g c = c.truncate.ensures.items ∙ ap (λ (bs : List (Mail (Command g.row.L.Denot))). take c.args.many bs) c.self.view_is

pub returns-then-had-many : goal.returns-then-had-many
returns-then-had-many g c =
    let is = c.len-had.ensures ∙ c.self.inside.boxes.ok.0 in
    let few = c.if-had-many.true in
    let same = ap (λ (bs : List (Mail (Command g.row.L.Denot))). length bs) c.self.view_is in
    sym (take_all c.args.many c.args.self.now (omega (arith, is, few, same)))
