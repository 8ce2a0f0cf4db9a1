use Rattle.std.proofs.Common.{◌≡◌, ◌∙◌, ◌++◌, ◌∷◌, [], Some, List, refl, sym, ap, subst, set, map, is_some, if◌then◌else◌}
use Rattle.zq_base.specs.declared.ids.EndId.{EndId}
use Rattle.spec_control.specs.declared.end.EndState.{EndState}
use Rattle.desk.specs.declared.given.Given.{Given}
use Rattle.desk.specs.Holding.{held_given, is_state, TurnsTo}
use Rattle.end_table.specs.Counting.{counts_with}
use Rattle.closed_ends.specs.Has.{ends_of, has, heard_in}
use Rattle.closed_ends.proofs.ListLemmas.{never}
use Rattle.closed_ends.proofs.FormLemmas.{are_sound, ends_two, sound_of}
use Rattle.closed_ends.proofs.ChangeLemmas.{has_listed}
use Rattle.closed_ends.proofs.PlaceLemmas.{at_stays, at_changed, alone_at, end_is, with_end}
use Rattle.closed_ends.proofs.DoneLemmas.{done_turned}
use Rattle.std.proofs.Math.Logic.{∥∥₁_map}
use Rattle.closed_ends.specs.Noted.{standing_of}
use Rattle.closed_ends.proofs.SoundLemmas.{its_halves, changed_sound, leaves_on, leaves_changed, one_turned}
use Rattle.closed_ends.proofs.HasLemmas.{stays, turns_to, input_is, input_now}
use Rattle.closed_ends.proofs.ComeLemmas.{come_still}
use Rattle.closed_ends.proofs.holding.ClosedHolder.set_state.Goals as goal

pub find-requires-clause-apart : goal.find-requires-clause-apart
find-requires-clause-apart g c = ends_two g.P.Pipes.known c.args.self.now.pipes c.args.self.now.closed.sockets.items c.args.self.now.sound

pub invariant_of-self : goal.invariant_of-self
invariant_of-self g c =
    let r = at_changed c.args.o.0 c.args.end c.args.self.now.closed.sockets.items c.in-Some.socket c.in-Some.place c.in-Some.ensures.found c.index_mut.result.now c.index_mut.ensures.value c.index_mut-in-Some.result.now c.index_mut-in-Some.ensures.value c.turn.new.end in
    let one = one_turned g.P.Pipes.known c.args.self.now.pipes c.index_mut-in-Some.result.now c.turn.new.end c.args.state c.turn.ensures (its_halves g.P.Pipes.known c.args.o.0 c.args.end c.args.self.now.closed.sockets.items c.args.self.now.closed.sockets.items c.index_mut-in-Some.result.now c.args.self.now.pipes c.args.self.now.pipes (sound_of g.P.Pipes.known c.args.self.now.pipes c.args.self.now.closed.sockets.items c.args.self.now.sound) (c.index_mut-in-Some.result.now ∷ []) (at_stays c.args.o.0 c.args.end c.args.self.now.closed.sockets.items c.in-Some.socket c.in-Some.place c.in-Some.ensures.found c.index_mut.result.now c.index_mut.ensures.value c.index_mut-in-Some.result.now c.index_mut-in-Some.ensures.value)) in
    record {
      indexed = λ n. c.args.self.now.indexed n ∙ sym (r.places n);
      sound = are_sound g.P.Pipes.known c.args.self.now.pipes (set c.args.self.now.closed.sockets.items c.in-Some.socket (with_end c.index_mut.result.now c.in-Some.place c.turn.new.end))
          (changed_sound g.P.Pipes.known c.args.o.0 c.args.end c.args.self.now.closed.sockets.items (set c.args.self.now.closed.sockets.items c.in-Some.socket (with_end c.index_mut.result.now c.in-Some.place c.turn.new.end)) c.index_mut-in-Some.result.now c.args.self.now.pipes c.args.self.now.pipes (sound_of g.P.Pipes.known c.args.self.now.pipes c.args.self.now.closed.sockets.items c.args.self.now.sound) c.turn.new.end r one (alone_at c.args.o.0 c.args.end c.args.self.now.closed.sockets.items c.in-Some.socket c.in-Some.place c.in-Some.ensures.found c.index_mut.result.now c.index_mut.ensures.value (with_end c.index_mut.result.now c.in-Some.place c.turn.new.end) refl (sound_of g.P.Pipes.known c.args.self.now.pipes c.args.self.now.closed.sockets.items c.args.self.now.sound).alone));
      others = λ s t b. leaves_on g.P.Pipes.known s c.args.self.now.pipes c.args.self.now.pipes t c.args.self.now.closed _ (c.args.self.now.others s t b) (leaves_changed g.P.Pipes.known c.args.o.0 c.args.end c.args.self.now.closed _ c.index_mut-in-Some.result.now c.args.self.now.pipes c.args.self.now.pipes refl c.turn.new.end r one refl);
      done = λ s t b. ∥∥₁_map (c.args.self.now.done s t b) (λ h. done_turned g.P.Pipes.known s t c.args.o.0 c.args.end c.args.self.now.closed _ c.index_mut-in-Some.result.now refl c.turn.new.end r c.args.self.now.did.items c.args.self.now.pipes (ap (standing_of g.P.Pipes.known.in_name) c.turn.ensures) (ap (λ (y : Given _ _ _). y.sealed) c.turn.ensures) (ap (λ (y : Given _ _ _). y.end) c.turn.ensures) refl refl h);
      came = λ s t b. ∥∥₁_map (c.args.self.now.came s t b) (λ h. come_still g.P.Pipes.known g.F.Stretch.brings t c.args.self.now.closed _ refl refl r.numbers h);
    }

pub returns-in-Some-clause-stays : goal.returns-in-Some-clause-stays
returns-in-Some-clause-stays g c =
    stays g.P.Pipes.known.out_name g.P.Pipes.known.in_name g.P.Pipes.known.exact c.args.o.0 c.args.end c.args.self.now.closed.sockets.items (set c.args.self.now.closed.sockets.items c.in-Some.socket (with_end c.index_mut.result.now c.in-Some.place c.turn.new.end)) c.index_mut-in-Some.result.now (sound_of g.P.Pipes.known c.args.self.now.pipes c.args.self.now.closed.sockets.items c.args.self.now.sound).apart c.turn.new.end (at_changed c.args.o.0 c.args.end c.args.self.now.closed.sockets.items c.in-Some.socket c.in-Some.place c.in-Some.ensures.found c.index_mut.result.now c.index_mut.ensures.value c.index_mut-in-Some.result.now c.index_mut-in-Some.ensures.value c.turn.new.end) (ap (held_given g.P.Pipes.known.out_name g.P.Pipes.known.in_name) c.turn.ensures) c.args.self.now.closed.turns.items c.note.new.turns.items (map (λ x. x.0) c.args.self.now.closed.sealed.items) (map (λ x. x.0) c.args.self.now.closed.sealed.items) (heard_in c.args.self.now.closed) (λ m. ap (λ (y : Given _ _ _). y.met) c.turn.ensures ∙ m) (ap (λ (y : Given _ _ _). is_some y.out) c.turn.ensures)

pub returns-in-Some-clause-turns : goal.returns-in-Some-clause-turns
returns-in-Some-clause-turns g c =
    let same : c.index-in-Some.result.now ≡ c.index_mut-in-Some.result.now = end_is c.args.o.0 c.args.end c.args.self.now.closed.sockets.items c.in-Some.socket c.in-Some.place c.in-Some.ensures.found c.index.result.now c.index.ensures c.index-in-Some.result.now c.index-in-Some.ensures ∙ sym (end_is c.args.o.0 c.args.end c.args.self.now.closed.sockets.items c.in-Some.socket c.in-Some.place c.in-Some.ensures.found c.index_mut.result.now c.index_mut.ensures.value c.index_mut-in-Some.result.now c.index_mut-in-Some.ensures.value) in
    subst (λ (l : List (EndId × EndState)). TurnsTo c.args.end c.args.state (has g.P.Pipes.known.out_name g.P.Pipes.known.in_name c.args.self.now.closed.turns.items (map (λ x. x.0) c.args.self.now.closed.sealed.items) (heard_in c.args.self.now.closed) c.args.self.now.closed.sockets.items) (has g.P.Pipes.known.out_name g.P.Pipes.known.in_name l (map (λ x. x.0) c.args.self.now.closed.sealed.items) (heard_in c.args.self.now.closed) (set c.args.self.now.closed.sockets.items c.in-Some.socket (with_end c.index_mut.result.now c.in-Some.place c.turn.new.end))))
    (sym (c.note.ensures ∙ ap (λ (y : Given _ _ _). c.args.self.now.closed.turns.items ++ (if is_state y.state c.args.state then [] else (c.args.end, c.args.state) ∷ [])) same))
    (turns_to g.P.Pipes.known.out_name g.P.Pipes.known.in_name g.P.Pipes.known.exact c.args.o.0 c.args.end c.args.self.now.closed.sockets.items (set c.args.self.now.closed.sockets.items c.in-Some.socket (with_end c.index_mut.result.now c.in-Some.place c.turn.new.end)) c.index_mut-in-Some.result.now (sound_of g.P.Pipes.known c.args.self.now.pipes c.args.self.now.closed.sockets.items c.args.self.now.sound).apart c.turn.new.end (at_changed c.args.o.0 c.args.end c.args.self.now.closed.sockets.items c.in-Some.socket c.in-Some.place c.in-Some.ensures.found c.index_mut.result.now c.index_mut.ensures.value c.index_mut-in-Some.result.now c.index_mut-in-Some.ensures.value c.turn.new.end) (ap (held_given g.P.Pipes.known.out_name g.P.Pipes.known.in_name) c.turn.ensures) c.args.self.now.closed.turns.items (map (λ x. x.0) c.args.self.now.closed.sealed.items) (heard_in c.args.self.now.closed) c.args.state (ap (λ (y : Given _ _ _). y.state) c.turn.ensures))

pub unreachable-requires : goal.unreachable-requires
unreachable-requires g c =
    never (sym c.requires.here ∙ has_listed g.P.Pipes.known.out_name g.P.Pipes.known.in_name g.P.Pipes.known.exact c.args.end (ends_of c.args.self.now.closed.sockets.items c.args.o.0) ∙ c.in-None.ensures.none)

pub returns-in-Some-clause-counts : goal.returns-in-Some-clause-counts
returns-in-Some-clause-counts g c = λ writer reads.
    let apart = (sound_of g.P.Pipes.known c.args.self.now.pipes c.args.self.now.closed.sockets.items c.args.self.now.sound).apart in
    ap (counts_with g.P.Pipes.known c.args.self.now.pipes writer)
    (input_now g.P.Pipes.known.out_name g.P.Pipes.known.in_name g.P.Pipes.known.exact c.args.o.0 c.args.end c.args.self.now.closed.sockets.items (set c.args.self.now.closed.sockets.items c.in-Some.socket (with_end c.index_mut.result.now c.in-Some.place c.turn.new.end)) c.index_mut-in-Some.result.now apart c.turn.new.end
    (at_changed c.args.o.0 c.args.end c.args.self.now.closed.sockets.items c.in-Some.socket c.in-Some.place c.in-Some.ensures.found c.index_mut.result.now c.index_mut.ensures.value c.index_mut-in-Some.result.now c.index_mut-in-Some.ensures.value c.turn.new.end) (ap (held_given g.P.Pipes.known.out_name g.P.Pipes.known.in_name) c.turn.ensures)
    ∙ ap (λ (y : Given _ _ _). Some y.input) c.turn.ensures
    ∙ sym (input_is g.P.Pipes.known.out_name g.P.Pipes.known.in_name g.P.Pipes.known.exact c.args.o.0 c.args.end c.args.self.now.closed.sockets.items c.args.self.now.closed.sockets.items c.index_mut-in-Some.result.now apart (c.index_mut-in-Some.result.now ∷ [])
    (at_stays c.args.o.0 c.args.end c.args.self.now.closed.sockets.items c.in-Some.socket c.in-Some.place c.in-Some.ensures.found c.index_mut.result.now c.index_mut.ensures.value c.index_mut-in-Some.result.now c.index_mut-in-Some.ensures.value)))
