use Rattle.std.proofs.Common.{◌/◌, ◌<◌, ◌++◌, ◌∷◌, [], ℕ, List, arith, length, ap, sym, subst, ◌∙◌}
use Rattle.std.proofs.lemmas.Result.{IfOk-from_err}
use Rattle.mailbox.specs.Mail.{Mail, no_mail, with_spare}
use Rattle.ctl_state.specs.declared.command.Command.{Command}
use Rattle.ctl_state.specs.Boxes.{AreShown}
use Rattle.ctl_state.proofs.KeptLemmas.{so_on_err}
use Rattle.ctl_state.proofs.ShownLemmas.{shown_more, shown_still}
use Rattle.ctl_state.proofs.boxes.Boxes.add.Goals as goal

pub more_bits-requires : goal.more_bits-requires
more_bits-requires g c =
    let long = c.self.invariant.long in
    let is = c.len-place.ensures ∙ c.self.inside.boxes.ok.0 in
    record { next = omega (arith, long, is) }

pub invariant_of-self : goal.invariant_of-self
invariant_of-self g c = shown_still c.self.inside.shown.items c.more_bits.new.words.items c.self.inside.boxes.items c.self.invariant c.more_bits.ensures.same c.more_bits.ensures.long

pub invariant_of-self-in_err-mailbox : goal.invariant_of-self-in_err-mailbox
invariant_of-self-in_err-mailbox g c = shown_still c.self.inside.shown.items c.more_bits.new.words.items c.self.inside.boxes.items c.self.invariant c.more_bits.ensures.same c.more_bits.ensures.long

pub invariant_of-self-in_err-push : goal.invariant_of-self-in_err-push
invariant_of-self-in_err-push g c =
    subst (λ (bs : List (Mail (Command g.row.L.Denot))). AreShown c.more_bits.new.words.items bs) (sym c.in_err-push.ensures.items)
    (shown_still c.self.inside.shown.items c.more_bits.new.words.items c.self.inside.boxes.items c.self.invariant c.more_bits.ensures.same c.more_bits.ensures.long)

pub invariant_of-self-2 : goal.invariant_of-self-2
invariant_of-self-2 g c =
    subst (λ (bs : List (Mail (Command g.row.L.Denot))). AreShown c.more_bits.new.words.items bs)
    (sym (c.in_ok-push.ensures.items ∙ ap (λ (m : Mail (Command g.row.L.Denot)). c.self.inside.boxes.items ++ m ∷ []) c.in_ok-mailbox.ensures))
    (shown_more c.self.inside.shown.items c.more_bits.new.words.items c.self.inside.boxes.items c.args.room c.self.invariant c.more_bits.ensures.same
    (subst (λ (n : ℕ). n / 64 < length c.more_bits.new.words.items) (c.len-place.ensures ∙ c.self.inside.boxes.ok.0) c.in_ok-more_bits.ensures.room))

pub returns-clause-ok : goal.returns-clause-ok
returns-clause-ok g c =
    c.in_ok-push.ensures.items
    ∙ ap (λ (m : Mail (Command g.row.L.Denot)). c.self.inside.boxes.items ++ m ∷ []) c.in_ok-mailbox.ensures
    ∙ ap (λ (bs : List (Mail (Command g.row.L.Denot))). bs ++ with_spare c.args.room no_mail ∷ []) c.self.view_is

pub returns-clause-err : goal.returns-clause-err
returns-clause-err g c = tt

pub returns-in_err-more_bits-clause-err : goal.returns-in_err-more_bits-clause-err
returns-in_err-more_bits-clause-err g c = so_on_err _ _ c.self.view_is

pub returns-in_err-more_bits-clause-ok : goal.returns-in_err-more_bits-clause-ok
returns-in_err-more_bits-clause-ok g c = IfOk-from_err _ _ c.from_residual.ensures.0

pub returns-in_err-mailbox-clause-err : goal.returns-in_err-mailbox-clause-err
returns-in_err-mailbox-clause-err g c = so_on_err _ _ c.self.view_is

pub returns-in_err-mailbox-clause-ok : goal.returns-in_err-mailbox-clause-ok
returns-in_err-mailbox-clause-ok g c = IfOk-from_err _ _ c.from_residual-in_err-mailbox.ensures.0

pub returns-in_err-push-clause-ok : goal.returns-in_err-push-clause-ok
returns-in_err-push-clause-ok g c = IfOk-from_err _ _ c.from_residual-in_err-push.ensures.0
