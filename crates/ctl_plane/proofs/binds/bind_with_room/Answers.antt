use Rattle.std.specs.Prelude.{◌≡◌, ◌+◌, ◌*◌, ℕ, List, length, refl}
use Rattle.std.proofs.Common.{arith, ap, sym, ◌∙◌, subst}
use Rattle.zq_base.specs.declared.ids.ObjId.{ObjId}
use Rattle.spec_control.specs.declared.book.Binding.{Binding}
use Rattle.spec_control.specs.EndpointBook.{waiters}
use Rattle.spec_control.specs.Register.{fulfilled_by}
use Rattle.ctl_state.specs.Listed.{with_room}
use Rattle.ctl_moves.specs.Drawing.{MayMakeAll}
use Rattle.ctl_plane.specs.Fulfilling.{MayFulfil}
use Rattle.ctl_plane.proofs.FulfillingLemmas.{all_fulfilled}
use Rattle.ctl_plane.proofs.MakingLemmas.{listed_back}
use Rattle.ctl_plane.proofs.FulfilPlaneLemmas.{back_itself}
use Rattle.ctl_plane.proofs.binds.bind_with_room.Goals as goal

pub fulfil_all-requires-clause-may : goal.fulfil_all-requires-clause-may
fulfil_all-requires-clause-may g c =
    let w = c.requires.may in
    let c0 = w.may.draw.control in
    let ids = c.deref.ensures.value ∙ c.in-Ok.ensures c0 w.may.draw.stands ∙ ap (λ (b : Binding). waiters (fulfilled_by c.args.at.now b c0.names)) (c.binding_by.ensures c0 w.may.draw.stands) ∙ sym w.all in
    subst (λ (xs : List ObjId). MayFulfil c.args.state.now (g.H.Holder.holding c.args.holder.now) c.args.socket c.args.at.now xs (length c.args.wakers.now)) (sym ids) w.may

pub fulfil_all-requires-clause-makes : goal.fulfil_all-requires-clause-makes
fulfil_all-requires-clause-makes g c =
    let w = c.requires.makes.all in
    let c0 = w.may.draw.control in
    let ids = c.deref.ensures.value ∙ c.in-Ok.ensures c0 w.may.draw.stands ∙ ap (λ (b : Binding). waiters (fulfilled_by c.args.at.now b c0.names)) (c.binding_by.ensures c0 w.may.draw.stands) ∙ sym w.all in
    subst (λ (xs : List ObjId). MayMakeAll c.args.state.now (g.H.Holder.holding c.args.holder.now) c.args.socket xs (length c.args.wakers.now) g.H.Holder.may_make) (sym ids) (record { may = w.may.draw; makes = c.requires.makes.makes })

pub returns-in-Ok-fulfil_all-clause-ok : goal.returns-in-Ok-fulfil_all-clause-ok
returns-in-Ok-fulfil_all-clause-ok g c = λ w.
    let c0 = w.may.draw.control in
    let ids = c.deref.ensures.value ∙ c.in-Ok.ensures c0 w.may.draw.stands ∙ ap (λ (b : Binding). waiters (fulfilled_by c.args.at.now b c0.names)) (c.binding_by.ensures c0 w.may.draw.stands) ∙ sym w.all in
    all_fulfilled g.P.Pipes.known.out_name g.P.Pipes.known.in_name c.args.state.now c.fulfil_all.new.state (g.H.Holder.holding c.args.holder.now) (g.H.Holder.holding c.fulfil_all.new.holder) c.args.socket c.args.at.now (length c.args.wakers.now) c.in-Ok-fulfil_all.notes w c.deref.result.now ids c.in-Ok-fulfil_all.ensures.ok

pub returns-in-Ok-fulfil_all-clause-room : goal.returns-in-Ok-fulfil_all-clause-room
returns-in-Ok-fulfil_all-clause-room g c = λ w.
    let c0 = w.may.draw.control in
    let ids = c.in-Ok.ensures c0 w.may.draw.stands ∙ ap (λ (b : Binding). waiters (fulfilled_by c.args.at.now b c0.names)) (c.binding_by.ensures c0 w.may.draw.stands) ∙ sym w.all in
    let len = c.len.ensures in
    let same = ap (λ (xs : List ObjId). length xs) ids in
    let many : c.len.result ≡ length w.waiters = omega (arith, len, same) in
    c.in-Ok-reserve.ensures.ok ∙ ap (λ (n : ℕ). with_room (8 * n + 1) c.args.events.now) many

pub returns-in-Err-fulfil_all-clause-kept : goal.returns-in-Err-fulfil_all-clause-kept
returns-in-Err-fulfil_all-clause-kept g c = listed_back c.args.events.now c.reserve.new.self c.release.new.self (8 * c.len.result + 1) c.in-Ok-reserve.ensures.ok c.release.ensures

pub fulfil_all-requires-clause-copy : goal.fulfil_all-requires-clause-copy
fulfil_all-requires-clause-copy g c = c.requires.copy

pub fulfil_all-requires-clause-calm : goal.fulfil_all-requires-clause-calm
fulfil_all-requires-clause-calm g c = c.requires.calm

pub returns-in-Err-fulfil_all-clause-err : goal.returns-in-Err-fulfil_all-clause-err
returns-in-Err-fulfil_all-clause-err g c = c.in-Err-fulfil_all.ensures.err

pub returns-in-Err-fulfil_all-clause-back : goal.returns-in-Err-fulfil_all-clause-back
returns-in-Err-fulfil_all-clause-back g c = c.in-Err-fulfil_all.ensures.back

pub returns-in-Err-reserve-clause-err : goal.returns-in-Err-reserve-clause-err
returns-in-Err-reserve-clause-err g c = refl

pub returns-in-Err-reserve-clause-kept : goal.returns-in-Err-reserve-clause-kept
returns-in-Err-reserve-clause-kept g c = c.in-Err-reserve.ensures.err

pub returns-in-Err-reserve-clause-back : goal.returns-in-Err-reserve-clause-back
returns-in-Err-reserve-clause-back g c = (back_itself _ c.args.socket.0 (g.H.Holder.holding c.args.holder.now))

pub returns-in-Err-clause-err : goal.returns-in-Err-clause-err
returns-in-Err-clause-err g c = refl

pub returns-in-Err-clause-kept : goal.returns-in-Err-clause-kept
returns-in-Err-clause-kept g c = refl

pub returns-in-Err-clause-back : goal.returns-in-Err-clause-back
returns-in-Err-clause-back g c = (back_itself _ c.args.socket.0 (g.H.Holder.holding c.args.holder.now))
