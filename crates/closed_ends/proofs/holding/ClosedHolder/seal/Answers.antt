use Rattle.std.proofs.Common.{◌≡◌, ◌∙◌, ◌++◌, ◌∷◌, [], true, List, not, refl, sym, ap, subst, set, map}
use Rattle.zq_base.specs.declared.ids.EndId.{EndId}
use Rattle.desk.specs.declared.given.Given.{Given}
use Rattle.desk.specs.Holding.{Seals}
use Rattle.closed_ends.specs.Has.{ends_of, has, heard_in}
use Rattle.closed_ends.proofs.ListLemmas.{never}
use Rattle.closed_ends.proofs.FormLemmas.{are_sound, ends_two, sound_of}
use Rattle.closed_ends.proofs.ChangeLemmas.{has_listed}
use Rattle.closed_ends.proofs.PlaceLemmas.{at_stays, at_changed, alone_at, with_end}
use Rattle.closed_ends.proofs.NotedLemmas.{told_last, either}
use Rattle.closed_ends.proofs.DoneLemmas.{done_changed}
use Rattle.std.proofs.Math.Logic.{∥∥₁_map}
use Rattle.spec_control.specs.Held.{Held}
use Rattle.spec_control.specs.Control.{is_end}
use Rattle.sock_core.proofs.FindLemmas.{end_self, same_end}
use Rattle.closed_ends.proofs.ListLemmas.{any_here}
use Rattle.closed_ends.proofs.SoundLemmas.{its_halves, changed_sound, leaves_on, leaves_changed}
use Rattle.closed_ends.proofs.HasLemmas.{writes_is, stays, seals}
use Rattle.closed_ends.proofs.ComeLemmas.{come_still}
use Rattle.closed_ends.proofs.holding.ClosedHolder.seal.Goals as goal

pub find-requires-clause-apart : goal.find-requires-clause-apart
find-requires-clause-apart g c = ends_two g.P.Pipes.known c.args.self.now.pipes c.args.self.now.closed.sockets.items c.args.self.now.sound

pub seal-requires : goal.seal-requires
seal-requires g c =
    let sound = sound_of g.P.Pipes.known c.args.self.now.pipes c.args.self.now.closed.sockets.items c.args.self.now.sound in
    let there = at_stays c.args.o.0 c.args.end c.args.self.now.closed.sockets.items c.in-Some.socket c.in-Some.place c.in-Some.ensures.found c.index_mut.result.now c.index_mut.ensures.value c.index_mut-in-Some.result.now c.index_mut-in-Some.ensures.value in
    record {
      given = its_halves g.P.Pipes.known c.args.o.0 c.args.end c.args.self.now.closed.sockets.items c.args.self.now.closed.sockets.items c.index_mut-in-Some.result.now c.args.self.now.pipes c.args.self.now.pipes sound (c.index_mut-in-Some.result.now ∷ []) there;
      writes = sym (writes_is g.P.Pipes.known.out_name g.P.Pipes.known.in_name g.P.Pipes.known.exact c.args.o.0 c.args.end c.args.self.now.closed.sockets.items c.args.self.now.closed.sockets.items c.index_mut-in-Some.result.now sound.apart (c.index_mut-in-Some.result.now ∷ []) there) ∙ c.requires.writer;
    }

pub invariant_of-self : goal.invariant_of-self
invariant_of-self g c =
    let r = at_changed c.args.o.0 c.args.end c.args.self.now.closed.sockets.items c.in-Some.socket c.in-Some.place c.in-Some.ensures.found c.index_mut.result.now c.index_mut.ensures.value c.index_mut-in-Some.result.now c.index_mut-in-Some.ensures.value c.seal.new.end in
    let one = c.seal.ensures.one in
    let stays_there = at_stays c.args.o.0 c.args.end c.args.self.now.closed.sockets.items c.in-Some.socket c.in-Some.place c.in-Some.ensures.found c.index_mut.result.now c.index_mut.ensures.value c.index_mut-in-Some.result.now c.index_mut-in-Some.ensures.value in
    let writes = sym (writes_is g.P.Pipes.known.out_name g.P.Pipes.known.in_name g.P.Pipes.known.exact c.args.o.0 c.args.end c.args.self.now.closed.sockets.items c.args.self.now.closed.sockets.items c.index_mut-in-Some.result.now (sound_of g.P.Pipes.known c.args.self.now.pipes c.args.self.now.closed.sockets.items c.args.self.now.sound).apart (c.index_mut-in-Some.result.now ∷ []) stays_there) ∙ c.requires.writer in
    record {
      indexed = λ n. c.args.self.now.indexed n ∙ sym (r.places n);
      sound = are_sound g.P.Pipes.known c.seal.new.pipes (set c.args.self.now.closed.sockets.items c.in-Some.socket (with_end c.index_mut.result.now c.in-Some.place c.seal.new.end))
          (changed_sound g.P.Pipes.known c.args.o.0 c.args.end c.args.self.now.closed.sockets.items (set c.args.self.now.closed.sockets.items c.in-Some.socket (with_end c.index_mut.result.now c.in-Some.place c.seal.new.end)) c.index_mut-in-Some.result.now c.args.self.now.pipes c.seal.new.pipes (sound_of g.P.Pipes.known c.args.self.now.pipes c.args.self.now.closed.sockets.items c.args.self.now.sound) c.seal.new.end r one (alone_at c.args.o.0 c.args.end c.args.self.now.closed.sockets.items c.in-Some.socket c.in-Some.place c.in-Some.ensures.found c.index_mut.result.now c.index_mut.ensures.value (with_end c.index_mut.result.now c.in-Some.place c.seal.new.end) refl (sound_of g.P.Pipes.known c.args.self.now.pipes c.args.self.now.closed.sockets.items c.args.self.now.sound).alone));
      others = λ s t b. leaves_on g.P.Pipes.known s c.args.self.now.pipes c.seal.new.pipes t c.args.self.now.closed _ (c.args.self.now.others s t b) (leaves_changed g.P.Pipes.known c.args.o.0 c.args.end c.args.self.now.closed _ c.index_mut-in-Some.result.now c.args.self.now.pipes c.seal.new.pipes refl c.seal.new.end r one refl);
      done = λ s t b. ∥∥₁_map (c.args.self.now.done s t b) (λ h. done_changed g.P.Pipes.known s t c.args.o.0 c.args.end c.args.self.now.closed _ c.index_mut-in-Some.result.now refl c.seal.new.end r c.args.self.now.did.items c.seal.new.did.items c.args.self.now.pipes c.seal.new.pipes ((c.index_mut-in-Some.result.now.end, not c.index_mut-in-Some.result.now.sealed) ∷ []) one.held writes c.seal.ensures.changes (c.note_seal.ensures ∙ ap (λ (x : EndId). map (λ x. x.0) c.args.self.now.closed.sealed.items ++ x ∷ []) (same_end c.args.end c.index_mut-in-Some.result.now.end r.is)) (λ es bs told known. told_last es bs c.index_mut-in-Some.result.now.end (not c.index_mut-in-Some.result.now.sealed) told (either c.index_mut-in-Some.result.now.sealed c.index_mut-in-Some.result.now.end (es ++ map (λ x. x.0) bs) known)) (λ es before is. any_here (is_end c.seal.new.end.end) es [] c.index_mut-in-Some.result.now.end (subst (λ (x : EndId). is_end x c.index_mut-in-Some.result.now.end ≡ true) (sym (ap (λ (y : Held _). y.end) one.held)) (end_self c.index_mut-in-Some.result.now.end))) refl h);
      came = λ s t b. ∥∥₁_map (c.args.self.now.came s t b) (λ h. come_still g.P.Pipes.known g.F.Stretch.brings t c.args.self.now.closed _ refl refl r.numbers h);
    }

pub returns-in-Some-clause-stays : goal.returns-in-Some-clause-stays
returns-in-Some-clause-stays g c =
    stays g.P.Pipes.known.out_name g.P.Pipes.known.in_name g.P.Pipes.known.exact c.args.o.0 c.args.end c.args.self.now.closed.sockets.items (set c.args.self.now.closed.sockets.items c.in-Some.socket (with_end c.index_mut.result.now c.in-Some.place c.seal.new.end)) c.index_mut-in-Some.result.now (sound_of g.P.Pipes.known c.args.self.now.pipes c.args.self.now.closed.sockets.items c.args.self.now.sound).apart c.seal.new.end (at_changed c.args.o.0 c.args.end c.args.self.now.closed.sockets.items c.in-Some.socket c.in-Some.place c.in-Some.ensures.found c.index_mut.result.now c.index_mut.ensures.value c.index_mut-in-Some.result.now c.index_mut-in-Some.ensures.value c.seal.new.end) c.seal.ensures.one.held c.args.self.now.closed.turns.items c.args.self.now.closed.turns.items (map (λ x. x.0) c.args.self.now.closed.sealed.items) (map (λ x. x.0) c.note_seal.new.sealed.items) (heard_in c.args.self.now.closed) (λ m. ap (λ (y : Given _ _ _). y.met) c.seal.ensures.sealed ∙ m) c.seal.ensures.writes

pub returns-in-Some-clause-turns : goal.returns-in-Some-clause-turns
returns-in-Some-clause-turns g c =
    subst (λ (z : List EndId). Seals c.args.end (has g.P.Pipes.known.out_name g.P.Pipes.known.in_name c.args.self.now.closed.turns.items (map (λ x. x.0) c.args.self.now.closed.sealed.items) (heard_in c.args.self.now.closed) c.args.self.now.closed.sockets.items) (has g.P.Pipes.known.out_name g.P.Pipes.known.in_name c.args.self.now.closed.turns.items z (heard_in c.args.self.now.closed) (set c.args.self.now.closed.sockets.items c.in-Some.socket (with_end c.index_mut.result.now c.in-Some.place c.seal.new.end)))) (sym c.note_seal.ensures)
    (seals g.P.Pipes.known.out_name g.P.Pipes.known.in_name g.P.Pipes.known.exact c.args.o.0 c.args.end c.args.self.now.closed.sockets.items (set c.args.self.now.closed.sockets.items c.in-Some.socket (with_end c.index_mut.result.now c.in-Some.place c.seal.new.end)) c.index_mut-in-Some.result.now (sound_of g.P.Pipes.known c.args.self.now.pipes c.args.self.now.closed.sockets.items c.args.self.now.sound).apart c.seal.new.end (at_changed c.args.o.0 c.args.end c.args.self.now.closed.sockets.items c.in-Some.socket c.in-Some.place c.in-Some.ensures.found c.index_mut.result.now c.index_mut.ensures.value c.index_mut-in-Some.result.now c.index_mut-in-Some.ensures.value c.seal.new.end) c.seal.ensures.one.held c.args.self.now.closed.turns.items (map (λ x. x.0) c.args.self.now.closed.sealed.items) (heard_in c.args.self.now.closed) (ap (λ (y : Given _ _ _). y.state) c.seal.ensures.sealed))

pub unreachable-requires : goal.unreachable-requires
unreachable-requires g c =
    never (sym c.requires.here ∙ has_listed g.P.Pipes.known.out_name g.P.Pipes.known.in_name g.P.Pipes.known.exact c.args.end (ends_of c.args.self.now.closed.sockets.items c.args.o.0) ∙ c.in-None.ensures.none)
