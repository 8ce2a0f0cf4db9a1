use Rattle.std.specs.Prelude.{List, [], ◌∷◌, ◌++◌, refl}
use Rattle.std.proofs.Common.{ap, ◌∙◌}
use Rattle.std.proofs.lemmas.List.{map-append}
use Rattle.spec_control.specs.Hold.{Hold as HoldSaid}
use Rattle.ctl_state.specs.Listed.{with_last}
use Rattle.ctl_state.specs.Lists.{belongings_at, hold_of}
use Rattle.ctl_state.specs.Objects.{ObjectRows}
use Rattle.ctl_state.specs.Parts.{on_objects}
use Rattle.ctl_state.proofs.ListedLemmas.{held_listed, hold_placed}
use Rattle.ctl_state.proofs.StandLemmas.{lists_stand}
use Rattle.ctl_state.proofs.state.State.hold.Goals as goal

pub hold_comes-requires : goal.hold_comes-requires
hold_comes-requires g c = record { room = c.requires.room }

pub returns-clause-stands : goal.returns-clause-stands
returns-clause-stands g c = λ k h.
    let lists = c.args.self.now.objects.lists in
    lists_stand c.args.self.now _ _ _ c.hold_comes.ensures refl refl refl refl k
    (held_listed lists k.rows.pairs k.attached k.holds h.lists (with_last c.args.hold) c.args.id.0 _ (hold_placed lists c.args.id.0 c.requires.room)
    (map-append hold_of (belongings_at lists c.args.id.0).holds.items (c.args.hold ∷ []) ∙ ap (λ (hs : List HoldSaid). hs ++ hold_of c.args.hold ∷ []) (h.lists.held c.args.id.0))) h

pub returns-clause-next : goal.returns-clause-next
returns-clause-next g c = ap (λ (o : ObjectRows). on_objects (λ _. o) c.args.self.now) c.hold_comes.ensures
