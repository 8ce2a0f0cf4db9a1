use Rattle.std.proofs.Common.{◌∙◌, ◌++◌, ◌∷◌, ◌&&◌, [], Bool, refl, sym, ap, set, map, is_some}
use Rattle.std.specs.List.{list_any}
use Rattle.desk.specs.declared.given.Given.{Given}
use Rattle.closed_ends.specs.Has.{ends_of, is_of, met_of, heard_in}
use Rattle.closed_ends.proofs.ListLemmas.{never, any_here}
use Rattle.closed_ends.proofs.FormLemmas.{are_sound, ends_two, sound_of}
use Rattle.closed_ends.proofs.ChangeLemmas.{has_listed}
use Rattle.closed_ends.proofs.PlaceLemmas.{at_stays, at_changed, alone_at, with_end}
use Rattle.closed_ends.proofs.SoundLemmas.{its_halves, changed_sound, leaves_changed}
use Rattle.closed_ends.proofs.HasLemmas.{read_is, stays, keeps_turns}
use Rattle.closed_ends.proofs.TakeLemmas.{still_met}
use Rattle.closed_ends.proofs.ReadingLemmas.{seals_replaced}
use Rattle.end_table.specs.Looking.{met_after}
use Rattle.spec_control.specs.Held.{Held}
use Rattle.spec_control.specs.Control.{is_end}
use Rattle.closed_ends.proofs.closed.Closed+P.look.Goals as goal

pub find-requires-clause-apart : goal.find-requires-clause-apart
find-requires-clause-apart g c = ends_two g.P.Pipes.known c.args.self.now.pipes c.args.self.now.closed.sockets.items c.args.self.now.sound

pub look-requires : goal.look-requires
look-requires g c =
    record { given = (its_halves g.P.Pipes.known c.args.o.0 c.args.end c.args.self.now.closed.sockets.items c.args.self.now.closed.sockets.items c.index_mut-in-Some.result.now c.args.self.now.pipes c.args.self.now.pipes (sound_of g.P.Pipes.known c.args.self.now.pipes c.args.self.now.closed.sockets.items c.args.self.now.sound) (c.index_mut-in-Some.result.now ∷ []) (at_stays c.args.o.0 c.args.end c.args.self.now.closed.sockets.items c.in-Some.socket c.in-Some.place c.in-Some.ensures.found c.index_mut.result.now c.index_mut.ensures.value c.index_mut-in-Some.result.now c.index_mut-in-Some.ensures.value)) }

pub invariant_of-self : goal.invariant_of-self
invariant_of-self g c =
    let r = at_changed c.args.o.0 c.args.end c.args.self.now.closed.sockets.items c.in-Some.socket c.in-Some.place c.in-Some.ensures.found c.index_mut.result.now c.index_mut.ensures.value c.index_mut-in-Some.result.now c.index_mut-in-Some.ensures.value c.look.new.end in
    let one = c.look.ensures.one in
    record {
      indexed = λ n. c.args.self.now.indexed n ∙ sym (r.places n);
      sound = are_sound g.P.Pipes.known c.look.new.pipes (set c.args.self.now.closed.sockets.items c.in-Some.socket (with_end c.index_mut.result.now c.in-Some.place c.look.new.end))
          (changed_sound g.P.Pipes.known c.args.o.0 c.args.end c.args.self.now.closed.sockets.items (set c.args.self.now.closed.sockets.items c.in-Some.socket (with_end c.index_mut.result.now c.in-Some.place c.look.new.end)) c.index_mut-in-Some.result.now c.args.self.now.pipes c.look.new.pipes (sound_of g.P.Pipes.known c.args.self.now.pipes c.args.self.now.closed.sockets.items c.args.self.now.sound) c.look.new.end r one (alone_at c.args.o.0 c.args.end c.args.self.now.closed.sockets.items c.in-Some.socket c.in-Some.place c.in-Some.ensures.found c.index_mut.result.now c.index_mut.ensures.value (with_end c.index_mut.result.now c.in-Some.place c.look.new.end) refl (sound_of g.P.Pipes.known c.args.self.now.pipes c.args.self.now.closed.sockets.items c.args.self.now.sound).alone));
      others = λ s t b. absurd b;
      done = λ s t b. absurd b;
      came = λ s t b. absurd b;
    }

pub returns-in-Some-clause-looked : goal.returns-in-Some-clause-looked
returns-in-Some-clause-looked g c =
    record { was = c.index_mut-in-Some.result.now; back = c.look.new.end; reads = read_is g.P.Pipes.known.out_name g.P.Pipes.known.in_name g.P.Pipes.known.exact c.args.o.0 c.args.end c.args.self.now.closed.sockets.items c.args.self.now.closed.sockets.items c.index_mut-in-Some.result.now (sound_of g.P.Pipes.known c.args.self.now.pipes c.args.self.now.closed.sockets.items c.args.self.now.sound).apart (c.index_mut-in-Some.result.now ∷ []) (at_stays c.args.o.0 c.args.end c.args.self.now.closed.sockets.items c.in-Some.socket c.in-Some.place c.in-Some.ensures.found c.index_mut.result.now c.index_mut.ensures.value c.index_mut-in-Some.result.now c.index_mut-in-Some.ensures.value); looks = c.look.ensures.looked }

pub returns-in-Some-clause-met : goal.returns-in-Some-clause-met
returns-in-Some-clause-met g c =
    λ found.
    let r = at_changed c.args.o.0 c.args.end c.args.self.now.closed.sockets.items c.in-Some.socket c.in-Some.place c.in-Some.ensures.found c.index_mut.result.now c.index_mut.ensures.value c.index_mut-in-Some.result.now c.index_mut-in-Some.ensures.value c.look.new.end in
    ap (list_any (met_of c.args.end)) r.now ∙ any_here (met_of c.args.end) (r.pre ++ r.front) (r.back ++ r.post) c.look.new.end
    (ap (λ (b : Bool). b && is_of c.args.end c.look.new.end) (ap (λ (y : Given _ _ _). y.met) c.look.ensures.looked.end_is ∙ ap (λ x. met_after x c.index_mut-in-Some.result.now.met) found) ∙ ap (λ (y : Held _). is_end c.args.end y.end) c.look.ensures.one.held ∙ r.is)

pub returns-in-Some-clause-stays : goal.returns-in-Some-clause-stays
returns-in-Some-clause-stays g c =
    stays g.P.Pipes.known.out_name g.P.Pipes.known.in_name g.P.Pipes.known.exact c.args.o.0 c.args.end c.args.self.now.closed.sockets.items (set c.args.self.now.closed.sockets.items c.in-Some.socket (with_end c.index_mut.result.now c.in-Some.place c.look.new.end)) c.index_mut-in-Some.result.now (sound_of g.P.Pipes.known c.args.self.now.pipes c.args.self.now.closed.sockets.items c.args.self.now.sound).apart c.look.new.end (at_changed c.args.o.0 c.args.end c.args.self.now.closed.sockets.items c.in-Some.socket c.in-Some.place c.in-Some.ensures.found c.index_mut.result.now c.index_mut.ensures.value c.index_mut-in-Some.result.now c.index_mut-in-Some.ensures.value c.look.new.end) c.look.ensures.one.held c.args.self.now.closed.turns.items c.args.self.now.closed.turns.items (map (λ x. x.0) c.args.self.now.closed.sealed.items) (map (λ x. x.0) c.args.self.now.closed.sealed.items) (heard_in c.args.self.now.closed) (λ m. ap (λ (y : Given _ _ _). y.met) c.look.ensures.looked.end_is ∙ still_met c.look.result c.index_mut-in-Some.result.now.met m) (ap (λ (y : Given _ _ _). is_some y.out) c.look.ensures.looked.end_is)

pub returns-in-Some-clause-turns : goal.returns-in-Some-clause-turns
returns-in-Some-clause-turns g c =
    keeps_turns g.P.Pipes.known.out_name g.P.Pipes.known.in_name g.P.Pipes.known.exact c.args.o.0 c.args.end c.args.self.now.closed.sockets.items (set c.args.self.now.closed.sockets.items c.in-Some.socket (with_end c.index_mut.result.now c.in-Some.place c.look.new.end)) c.index_mut-in-Some.result.now (sound_of g.P.Pipes.known c.args.self.now.pipes c.args.self.now.closed.sockets.items c.args.self.now.sound).apart c.look.new.end (at_changed c.args.o.0 c.args.end c.args.self.now.closed.sockets.items c.in-Some.socket c.in-Some.place c.in-Some.ensures.found c.index_mut.result.now c.index_mut.ensures.value c.index_mut-in-Some.result.now c.index_mut-in-Some.ensures.value c.look.new.end) c.look.ensures.one.held c.args.self.now.closed.turns.items (map (λ x. x.0) c.args.self.now.closed.sealed.items) (heard_in c.args.self.now.closed) (ap (λ (y : Given _ _ _). y.state) c.look.ensures.looked.end_is)

pub unreachable-requires : goal.unreachable-requires
unreachable-requires g c =
    never (sym c.requires.here ∙ has_listed g.P.Pipes.known.out_name g.P.Pipes.known.in_name g.P.Pipes.known.exact c.args.end (ends_of c.args.self.now.closed.sockets.items c.args.o.0) ∙ c.in-None.ensures.none)

pub returns-in-Some-clause-others : goal.returns-in-Some-clause-others
returns-in-Some-clause-others g c =
    let r = at_changed c.args.o.0 c.args.end c.args.self.now.closed.sockets.items c.in-Some.socket c.in-Some.place c.in-Some.ensures.found c.index_mut.result.now c.index_mut.ensures.value c.index_mut-in-Some.result.now c.index_mut-in-Some.ensures.value c.look.new.end in
    leaves_changed g.P.Pipes.known c.args.o.0 c.args.end c.args.self.now.closed _ c.index_mut-in-Some.result.now c.args.self.now.pipes c.look.new.pipes refl c.look.new.end r c.look.ensures.one refl

pub returns-in-Some-clause-sealed : goal.returns-in-Some-clause-sealed
returns-in-Some-clause-sealed g c =
    let r = at_changed c.args.o.0 c.args.end c.args.self.now.closed.sockets.items c.in-Some.socket c.in-Some.place c.in-Some.ensures.found c.index_mut.result.now c.index_mut.ensures.value c.index_mut-in-Some.result.now c.index_mut-in-Some.ensures.value c.look.new.end in
    seals_replaced c.args.o.0 c.args.end c.index_mut-in-Some.result.now c.look.new.end c.args.self.now.closed.sockets.items _ r (ap (λ (y : Given _ _ _). y.end) c.look.ensures.looked.end_is) (ap (λ (y : Given _ _ _). y.sealed) c.look.ensures.looked.end_is)
