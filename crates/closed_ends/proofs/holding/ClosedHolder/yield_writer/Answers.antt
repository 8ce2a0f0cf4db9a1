use Rattle.std.proofs.Common.{◌∙◌, ◌∷◌, [], Some, List, refl, sym, ap, set, map, is_some}
use Rattle.std.specs.List.{list_any}
use Rattle.zq_base.specs.declared.ids.EndId.{EndId}
use Rattle.desk.specs.declared.given.Given.{Given}
use Rattle.end_table.specs.Counting.{counts_with}
use Rattle.end_table.proofs.SoundLemmas.{one_some}
use Rattle.closed_ends.specs.Has.{ends_of, heard_in}
use Rattle.closed_ends.proofs.ListLemmas.{never}
use Rattle.closed_ends.proofs.FormLemmas.{are_sound, ends_two, sound_of}
use Rattle.closed_ends.proofs.ChangeLemmas.{has_listed}
use Rattle.closed_ends.proofs.PlaceLemmas.{at_stays, at_changed, alone_at, with_end}
use Rattle.closed_ends.proofs.DoneLemmas.{done_changed}
use Rattle.std.proofs.Math.Logic.{∥∥₁_map}
use Rattle.spec_control.specs.Control.{is_end}
use Rattle.sock_core.specs.Noted.{were_told}
use Rattle.std.proofs.lemmas.List.{append-nil}
use Rattle.closed_ends.proofs.SoundLemmas.{its_halves, changed_sound, leaves_on, leaves_changed}
use Rattle.closed_ends.proofs.HasLemmas.{writes_is, written_is, read_is, yielded, keeps_turns, input_is, input_now}
use Rattle.closed_ends.proofs.ComeLemmas.{come_still}
use Rattle.closed_ends.proofs.holding.ClosedHolder.yield_writer.Goals as goal

pub find-requires-clause-apart : goal.find-requires-clause-apart
find-requires-clause-apart g c = ends_two g.P.Pipes.known c.args.self.now.pipes c.args.self.now.closed.sockets.items c.args.self.now.sound

pub yield_out-requires : goal.yield_out-requires
yield_out-requires g c =
    record { given = (its_halves g.P.Pipes.known c.args.o.0 c.args.end c.args.self.now.closed.sockets.items c.args.self.now.closed.sockets.items c.index_mut-in-Some.result.now c.args.self.now.pipes c.args.self.now.pipes (sound_of g.P.Pipes.known c.args.self.now.pipes c.args.self.now.closed.sockets.items c.args.self.now.sound) (c.index_mut-in-Some.result.now ∷ []) (at_stays c.args.o.0 c.args.end c.args.self.now.closed.sockets.items c.in-Some.socket c.in-Some.place c.in-Some.ensures.found c.index_mut.result.now c.index_mut.ensures.value c.index_mut-in-Some.result.now c.index_mut-in-Some.ensures.value)) }

pub invariant_of-self : goal.invariant_of-self
invariant_of-self g c =
    let r = at_changed c.args.o.0 c.args.end c.args.self.now.closed.sockets.items c.in-Some.socket c.in-Some.place c.in-Some.ensures.found c.index_mut.result.now c.index_mut.ensures.value c.index_mut-in-Some.result.now c.index_mut-in-Some.ensures.value c.yield_out.new.end in
    let one = c.yield_out.ensures.one in
    let stays_there = at_stays c.args.o.0 c.args.end c.args.self.now.closed.sockets.items c.in-Some.socket c.in-Some.place c.in-Some.ensures.found c.index_mut.result.now c.index_mut.ensures.value c.index_mut-in-Some.result.now c.index_mut-in-Some.ensures.value in
    let writes = sym (writes_is g.P.Pipes.known.out_name g.P.Pipes.known.in_name g.P.Pipes.known.exact c.args.o.0 c.args.end c.args.self.now.closed.sockets.items c.args.self.now.closed.sockets.items c.index_mut-in-Some.result.now (sound_of g.P.Pipes.known c.args.self.now.pipes c.args.self.now.closed.sockets.items c.args.self.now.sound).apart (c.index_mut-in-Some.result.now ∷ []) stays_there) ∙ c.requires.writer in
    record {
      indexed = λ n. c.args.self.now.indexed n ∙ sym (r.places n);
      sound = are_sound g.P.Pipes.known c.yield_out.new.pipes (set c.args.self.now.closed.sockets.items c.in-Some.socket (with_end c.index_mut.result.now c.in-Some.place c.yield_out.new.end))
          (changed_sound g.P.Pipes.known c.args.o.0 c.args.end c.args.self.now.closed.sockets.items (set c.args.self.now.closed.sockets.items c.in-Some.socket (with_end c.index_mut.result.now c.in-Some.place c.yield_out.new.end)) c.index_mut-in-Some.result.now c.args.self.now.pipes c.yield_out.new.pipes (sound_of g.P.Pipes.known c.args.self.now.pipes c.args.self.now.closed.sockets.items c.args.self.now.sound) c.yield_out.new.end r one (alone_at c.args.o.0 c.args.end c.args.self.now.closed.sockets.items c.in-Some.socket c.in-Some.place c.in-Some.ensures.found c.index_mut.result.now c.index_mut.ensures.value (with_end c.index_mut.result.now c.in-Some.place c.yield_out.new.end) refl (sound_of g.P.Pipes.known c.args.self.now.pipes c.args.self.now.closed.sockets.items c.args.self.now.sound).alone));
      others = λ s t b. leaves_on g.P.Pipes.known s c.args.self.now.pipes c.yield_out.new.pipes t c.args.self.now.closed _ (c.args.self.now.others s t b) (leaves_changed g.P.Pipes.known c.args.o.0 c.args.end c.args.self.now.closed _ c.index_mut-in-Some.result.now c.args.self.now.pipes c.yield_out.new.pipes refl c.yield_out.new.end r one refl);
      done = λ s t b. ∥∥₁_map (c.args.self.now.done s t b) (λ h. done_changed g.P.Pipes.known s t c.args.o.0 c.args.end c.args.self.now.closed _ c.index_mut-in-Some.result.now refl c.yield_out.new.end r c.args.self.now.did.items c.yield_out.new.did.items c.args.self.now.pipes c.yield_out.new.pipes [] one.held writes (c.yield_out.ensures.changes writes) (sym (append-nil (map (λ x. x.0) c.args.self.now.closed.sealed.items))) (λ es bs told known. ap (were_told es) (append-nil bs) ∙ told) (λ es before is. ap (λ (l : List EndId). list_any (is_end c.yield_out.new.end.end) l) (append-nil es) ∙ ap (λ (y : Given _ _ _). list_any (is_end y.end) es) c.yield_out.ensures.yielded ∙ before (sym (ap (λ (y : Given _ _ _). y.sealed) c.yield_out.ensures.yielded) ∙ is)) refl h);
      came = λ s t b. ∥∥₁_map (c.args.self.now.came s t b) (λ h. come_still g.P.Pipes.known g.F.Stretch.brings t c.args.self.now.closed _ refl refl r.numbers h);
    }

pub returns-in-Some-yield_out-clause-name : goal.returns-in-Some-yield_out-clause-name
returns-in-Some-yield_out-clause-name g c =
    written_is g.P.Pipes.known.out_name g.P.Pipes.known.in_name g.P.Pipes.known.exact c.args.o.0 c.args.end c.args.self.now.closed.sockets.items c.args.self.now.closed.sockets.items c.index_mut-in-Some.result.now (sound_of g.P.Pipes.known c.args.self.now.pipes c.args.self.now.closed.sockets.items c.args.self.now.sound).apart (c.index_mut-in-Some.result.now ∷ []) (at_stays c.args.o.0 c.args.end c.args.self.now.closed.sockets.items c.in-Some.socket c.in-Some.place c.in-Some.ensures.found c.index_mut.result.now c.index_mut.ensures.value c.index_mut-in-Some.result.now c.index_mut-in-Some.ensures.value) ∙ ap (λ n. Some n) (sym (c.yield_out.ensures.name c.in-Some-yield_out.out c.in-Some-yield_out.is))

pub returns-in-Some-yield_out-clause-yielded : goal.returns-in-Some-yield_out-clause-yielded
returns-in-Some-yield_out-clause-yielded g c =
    yielded g.P.Pipes.known.out_name g.P.Pipes.known.in_name g.P.Pipes.known.exact c.args.o.0 c.args.end c.args.self.now.closed.sockets.items (set c.args.self.now.closed.sockets.items c.in-Some.socket (with_end c.index_mut.result.now c.in-Some.place c.yield_out.new.end)) c.index_mut-in-Some.result.now (sound_of g.P.Pipes.known c.args.self.now.pipes c.args.self.now.closed.sockets.items c.args.self.now.sound).apart c.yield_out.new.end (at_changed c.args.o.0 c.args.end c.args.self.now.closed.sockets.items c.in-Some.socket c.in-Some.place c.in-Some.ensures.found c.index_mut.result.now c.index_mut.ensures.value c.index_mut-in-Some.result.now c.index_mut-in-Some.ensures.value c.yield_out.new.end) c.yield_out.ensures.one.held c.args.self.now.closed.turns.items c.args.self.now.closed.turns.items (map (λ x. x.0) c.args.self.now.closed.sealed.items) (map (λ x. x.0) c.args.self.now.closed.sealed.items) (heard_in c.args.self.now.closed) (λ m. ap (λ (y : Given _ _ _). y.met) c.yield_out.ensures.yielded ∙ m) (ap (λ (y : Given _ _ _). is_some y.out) c.yield_out.ensures.yielded)

pub returns-in-Some-yield_out-clause-turns : goal.returns-in-Some-yield_out-clause-turns
returns-in-Some-yield_out-clause-turns g c =
    keeps_turns g.P.Pipes.known.out_name g.P.Pipes.known.in_name g.P.Pipes.known.exact c.args.o.0 c.args.end c.args.self.now.closed.sockets.items (set c.args.self.now.closed.sockets.items c.in-Some.socket (with_end c.index_mut.result.now c.in-Some.place c.yield_out.new.end)) c.index_mut-in-Some.result.now (sound_of g.P.Pipes.known c.args.self.now.pipes c.args.self.now.closed.sockets.items c.args.self.now.sound).apart c.yield_out.new.end (at_changed c.args.o.0 c.args.end c.args.self.now.closed.sockets.items c.in-Some.socket c.in-Some.place c.in-Some.ensures.found c.index_mut.result.now c.index_mut.ensures.value c.index_mut-in-Some.result.now c.index_mut-in-Some.ensures.value c.yield_out.new.end) c.yield_out.ensures.one.held c.args.self.now.closed.turns.items (map (λ x. x.0) c.args.self.now.closed.sealed.items) (heard_in c.args.self.now.closed) (ap (λ (y : Given _ _ _). y.state) c.yield_out.ensures.yielded)

pub unreachable-requires : goal.unreachable-requires
unreachable-requires g c =
    never (sym c.requires.writer ∙ writes_is g.P.Pipes.known.out_name g.P.Pipes.known.in_name g.P.Pipes.known.exact c.args.o.0 c.args.end c.args.self.now.closed.sockets.items c.args.self.now.closed.sockets.items c.index_mut-in-Some.result.now (sound_of g.P.Pipes.known c.args.self.now.pipes c.args.self.now.closed.sockets.items c.args.self.now.sound).apart (c.index_mut-in-Some.result.now ∷ []) (at_stays c.args.o.0 c.args.end c.args.self.now.closed.sockets.items c.in-Some.socket c.in-Some.place c.in-Some.ensures.found c.index_mut.result.now c.index_mut.ensures.value c.index_mut-in-Some.result.now c.index_mut-in-Some.ensures.value) ∙ sym c.yield_out.ensures.there ∙ ap is_some c.in-None-yield_out.is)

pub unreachable-requires-in-None : goal.unreachable-requires-in-None
unreachable-requires-in-None g c =
    never (sym c.requires.here ∙ has_listed g.P.Pipes.known.out_name g.P.Pipes.known.in_name g.P.Pipes.known.exact c.args.end (ends_of c.args.self.now.closed.sockets.items c.args.o.0) ∙ c.in-None.ensures.none)

pub returns-in-Some-yield_out-clause-counts : goal.returns-in-Some-yield_out-clause-counts
returns-in-Some-yield_out-clause-counts g c = λ writer reads.
    let apart = (sound_of g.P.Pipes.known c.args.self.now.pipes c.args.self.now.closed.sockets.items c.args.self.now.sound).apart in
    let r = at_stays c.args.o.0 c.args.end c.args.self.now.closed.sockets.items c.in-Some.socket c.in-Some.place c.in-Some.ensures.found c.index_mut.result.now c.index_mut.ensures.value c.index_mut-in-Some.result.now c.index_mut-in-Some.ensures.value in
    ap (counts_with g.P.Pipes.known c.yield_out.new.pipes writer)
    (input_now g.P.Pipes.known.out_name g.P.Pipes.known.in_name g.P.Pipes.known.exact c.args.o.0 c.args.end c.args.self.now.closed.sockets.items (set c.args.self.now.closed.sockets.items c.in-Some.socket (with_end c.index_mut.result.now c.in-Some.place c.yield_out.new.end)) c.index_mut-in-Some.result.now apart c.yield_out.new.end
    (at_changed c.args.o.0 c.args.end c.args.self.now.closed.sockets.items c.in-Some.socket c.in-Some.place c.in-Some.ensures.found c.index_mut.result.now c.index_mut.ensures.value c.index_mut-in-Some.result.now c.index_mut-in-Some.ensures.value c.yield_out.new.end) c.yield_out.ensures.one.held
    ∙ ap (λ (y : Given _ _ _). Some y.input) c.yield_out.ensures.yielded)
    ∙ c.yield_out.ensures.counts writer
    (sym (one_some (g.P.Pipes.known.in_name c.index_mut-in-Some.result.now.input) (g.P.Pipes.known.out_name writer)
    (sym (read_is g.P.Pipes.known.out_name g.P.Pipes.known.in_name g.P.Pipes.known.exact c.args.o.0 c.args.end c.args.self.now.closed.sockets.items c.args.self.now.closed.sockets.items c.index_mut-in-Some.result.now apart (c.index_mut-in-Some.result.now ∷ []) r) ∙ reads)))
    ∙ sym (ap (counts_with g.P.Pipes.known c.args.self.now.pipes writer)
    (input_is g.P.Pipes.known.out_name g.P.Pipes.known.in_name g.P.Pipes.known.exact c.args.o.0 c.args.end c.args.self.now.closed.sockets.items c.args.self.now.closed.sockets.items c.index_mut-in-Some.result.now apart (c.index_mut-in-Some.result.now ∷ []) r))

pub returns-in-Some-yield_out-clause-parted : goal.returns-in-Some-yield_out-clause-parted
returns-in-Some-yield_out-clause-parted g c = c.yield_out.ensures.parted c.in-Some-yield_out.out c.in-Some-yield_out.is
