use Rattle.ctl_state.specs.Pairs.{no_entry, entry_with, spot_in, spot_at, spot_after, spot_comes, with_spot}
use Rattle.ctl_state.specs.declared.pair.Entry.{Entry}
use Rattle.std.proofs.lemmas.List.{get_or_read}
use Rattle.std.specs.Prelude.{◌≡◌, ◌<◌, ℕ, List, true, slice_set}
use Rattle.std.proofs.Common.{◌∙◌, ap, sym, subst}
use Rattle.ctl_state.proofs.PairLemmas.{commands_read, coming_placed}
use Rattle.ctl_state.proofs.pairs.Pairs.happens.Goals as goal

pub returns-clause-commands : goal.returns-clause-commands
returns-clause-commands c =
    c.step_in.ensures.commands ∙ commands_read c.args.event c.args.e.a _ _ c.args.e.pair.0 _ c.self.view_is c.index_mut.ensures.value c.requires.may

pub index_mut-requires : goal.index_mut-requires
index_mut-requires c = subst (λ (n : ℕ). c.args.e.pair.0 < n) (sym c.self.inside.pairs.ok.0)
    (coming_placed c.args.event c.args.e.a c.self.inside.pairs.items c.args.e.pair.0 (subst (λ (es : List Entry). spot_comes c.args.event (spot_at es c.args.e) ≡ true) (sym c.self.view_is) c.requires.may))

pub step_in-requires : goal.step_in-requires
step_in-requires c = subst (λ (p : Entry). spot_comes c.args.event (spot_in p c.args.e.a) ≡ true)
    (sym (get_or_read c.self.inside.pairs.items c.args.e.pair.0 c.index_mut.result.now (coming_placed c.args.event c.args.e.a c.self.inside.pairs.items c.args.e.pair.0 (subst (λ (es : List Entry). spot_comes c.args.event (spot_at es c.args.e) ≡ true) (sym c.self.view_is) c.requires.may)) c.index_mut.ensures.value no_entry))
    (subst (λ (es : List Entry). spot_comes c.args.event (spot_at es c.args.e) ≡ true) (sym c.self.view_is) c.requires.may)

pub returns-clause-next : goal.returns-clause-next
returns-clause-next c =
    ap (λ (p : Entry). slice_set c.self.inside.pairs.items c.args.e.pair.0 p)
    (c.step_in.ensures.next ∙ ap (λ (p : Entry). entry_with c.args.e.a (spot_after c.args.event (spot_in p c.args.e.a)) p)
    (get_or_read c.self.inside.pairs.items c.args.e.pair.0 c.index_mut.result.now (coming_placed c.args.event c.args.e.a c.self.inside.pairs.items c.args.e.pair.0 (subst (λ (es : List Entry). spot_comes c.args.event (spot_at es c.args.e) ≡ true) (sym c.self.view_is) c.requires.may)) c.index_mut.ensures.value no_entry))
    ∙ ap (λ (es : List Entry). with_spot c.args.e (spot_after c.args.event (spot_at es c.args.e)) es) c.self.view_is
