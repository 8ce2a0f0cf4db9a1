use Rattle.std.proofs.Common.{◌≡◌, ◌∙◌, ◌++◌, ◌∷◌, [], true, Some, All, refl, sym, ap, subst, set, map}
use Rattle.std.specs.List.{list_any}
use Rattle.desk.specs.Holding.{held_given}
use Rattle.end_table.proofs.SoundLemmas.{one_some}
use Rattle.end_table.specs.Counting.{counts_with}
use Rattle.msg_pipe.specs.Known.{IsElse}
use Rattle.closed_ends.specs.Has.{all_ends, ends_of, writes_of, heard_in}
use Rattle.closed_ends.proofs.ListLemmas.{never}
use Rattle.closed_ends.proofs.FormLemmas.{are_sound, ends_two, sound_of}
use Rattle.closed_ends.proofs.PlaceLemmas.{at_stays, at_removed, alone_at}
use Rattle.closed_ends.proofs.DoneLemmas.{done_gone}
use Rattle.std.proofs.Math.Logic.{∥∥₁_map}
use Rattle.closed_ends.proofs.SoundLemmas.{its_halves, gone_sound, leaves_on, leaves_gone, all_fewer}
use Rattle.closed_ends.proofs.HasLemmas.{met_is, read_is, left, keeps_left, input_is}
use Rattle.closed_ends.proofs.TakeLemmas.{none_writes, has_read}
use Rattle.closed_ends.proofs.ComeLemmas.{come_still}
use Rattle.closed_ends.proofs.holding.ClosedHolder.settle.Goals as goal

pub find-requires-clause-apart : goal.find-requires-clause-apart
find-requires-clause-apart g c = ends_two g.P.Pipes.known c.args.self.now.pipes c.args.self.now.closed.sockets.items c.args.self.now.sound

pub settle-requires-clause-given : goal.settle-requires-clause-given
settle-requires-clause-given g c =
    (its_halves g.P.Pipes.known c.args.o.0 c.args.end c.args.self.now.closed.sockets.items c.args.self.now.closed.sockets.items c.take_out-given.result c.args.self.now.pipes c.args.self.now.pipes (sound_of g.P.Pipes.known c.args.self.now.pipes c.args.self.now.closed.sockets.items c.args.self.now.sound) (c.take_out-given.result ∷ []) (at_stays c.args.o.0 c.args.end c.args.self.now.closed.sockets.items c.in-Some.socket c.in-Some.place c.in-Some.ensures.found c.index_mut.result.now c.index_mut.ensures.value c.take_out-given.result c.take_out-given.ensures.value))

pub settle-requires-clause-pipe : goal.settle-requires-clause-pipe
settle-requires-clause-pipe g c =
    one_some (g.P.Pipes.known.in_name c.take_out-given.result.input) (g.P.Pipes.known.out_name c.args.writer) (sym (read_is g.P.Pipes.known.out_name g.P.Pipes.known.in_name g.P.Pipes.known.exact c.args.o.0 c.args.end c.args.self.now.closed.sockets.items c.args.self.now.closed.sockets.items c.take_out-given.result (sound_of g.P.Pipes.known c.args.self.now.pipes c.args.self.now.closed.sockets.items c.args.self.now.sound).apart (c.take_out-given.result ∷ []) (at_stays c.args.o.0 c.args.end c.args.self.now.closed.sockets.items c.in-Some.socket c.in-Some.place c.in-Some.ensures.found c.index_mut.result.now c.index_mut.ensures.value c.take_out-given.result c.take_out-given.ensures.value)) ∙ c.requires.pipe)

pub invariant_of-self : goal.invariant_of-self
invariant_of-self g c =
    let r = (at_removed c.args.o.0 c.args.end c.args.self.now.closed.sockets.items c.in-Some.socket c.in-Some.place c.in-Some.ensures.found c.index_mut.result.now c.index_mut.ensures.value c.take_out-given.result c.take_out-given.ensures.value (record { number = c.index_mut.result.now.number; ends = c.take_out-given.new.ends }) refl c.take_out-given.ensures.items) in
    record {
      indexed = λ n. c.args.self.now.indexed n ∙ sym (r.places n);
      sound = are_sound g.P.Pipes.known c.settle.new.pipes (set c.args.self.now.closed.sockets.items c.in-Some.socket (record { number = c.index_mut.result.now.number; ends = c.take_out-given.new.ends }))
          (gone_sound g.P.Pipes.known c.args.o.0 c.args.end c.args.self.now.closed.sockets.items (set c.args.self.now.closed.sockets.items c.in-Some.socket (record { number = c.index_mut.result.now.number; ends = c.take_out-given.new.ends })) c.take_out-given.result c.args.self.now.pipes c.settle.new.pipes (sound_of g.P.Pipes.known c.args.self.now.pipes c.args.self.now.closed.sockets.items c.args.self.now.sound) r c.settle.ensures.gone
          (all_fewer c.args.o.0 c.args.end c.args.self.now.closed.sockets.items (set c.args.self.now.closed.sockets.items c.in-Some.socket (record { number = c.index_mut.result.now.number; ends = c.take_out-given.new.ends })) c.take_out-given.result (λ x. (w : g.row.P-Out.Denot) → x.out ≡ Some w → IsElse g.P.Pipes.known x.written (g.P.Pipes.known.in_name c.take_out-given.result.input)) r (none_writes g.P.Pipes.known c.args.self.now.closed.sockets.items c.args.self.now.closed.turns.items (map (λ x. x.0) c.args.self.now.closed.sealed.items) (heard_in c.args.self.now.closed) (g.P.Pipes.known.in_name c.take_out-given.result.input) (sound_of g.P.Pipes.known c.args.self.now.pipes c.args.self.now.closed.sockets.items c.args.self.now.sound).alone (λ ex i here. subst (λ n. All (λ x. list_any (writes_of x.end) (all_ends c.args.self.now.closed.sockets.items) ≡ true → x.written ≡ n → ⊥) (map (held_given g.P.Pipes.known.out_name g.P.Pipes.known.in_name) (ends_of c.args.self.now.closed.sockets.items i))) (sym (one_some (g.P.Pipes.known.in_name c.take_out-given.result.input) (g.P.Pipes.known.out_name c.args.writer) (sym (read_is g.P.Pipes.known.out_name g.P.Pipes.known.in_name g.P.Pipes.known.exact c.args.o.0 c.args.end c.args.self.now.closed.sockets.items c.args.self.now.closed.sockets.items c.take_out-given.result (sound_of g.P.Pipes.known c.args.self.now.pipes c.args.self.now.closed.sockets.items c.args.self.now.sound).apart (c.take_out-given.result ∷ []) (at_stays c.args.o.0 c.args.end c.args.self.now.closed.sockets.items c.in-Some.socket c.in-Some.place c.in-Some.ensures.found c.index_mut.result.now c.index_mut.ensures.value c.take_out-given.result c.take_out-given.ensures.value)) ∙ c.requires.pipe))) (c.requires.apart ex i here))))
          (alone_at c.args.o.0 c.args.end c.args.self.now.closed.sockets.items c.in-Some.socket c.in-Some.place c.in-Some.ensures.found c.index_mut.result.now c.index_mut.ensures.value (record { number = c.index_mut.result.now.number; ends = c.take_out-given.new.ends }) refl (sound_of g.P.Pipes.known c.args.self.now.pipes c.args.self.now.closed.sockets.items c.args.self.now.sound).alone));
      others = λ s t b. leaves_on g.P.Pipes.known s c.args.self.now.pipes c.settle.new.pipes t c.args.self.now.closed _ (c.args.self.now.others s t b)
          (leaves_gone g.P.Pipes.known c.args.o.0 c.args.end c.args.self.now.closed _ c.take_out-given.result c.args.self.now.pipes c.settle.new.pipes refl r c.settle.ensures.gone (c.and-self.ensures ∙ ap (λ n. c.args.self.now.closed.settled.items ++ (n, tt) ∷ []) (c.name-name.ensures ∙ sym (one_some (g.P.Pipes.known.in_name c.take_out-given.result.input) (g.P.Pipes.known.out_name c.args.writer) (sym (read_is g.P.Pipes.known.out_name g.P.Pipes.known.in_name g.P.Pipes.known.exact c.args.o.0 c.args.end c.args.self.now.closed.sockets.items c.args.self.now.closed.sockets.items c.take_out-given.result (sound_of g.P.Pipes.known c.args.self.now.pipes c.args.self.now.closed.sockets.items c.args.self.now.sound).apart (c.take_out-given.result ∷ []) (at_stays c.args.o.0 c.args.end c.args.self.now.closed.sockets.items c.in-Some.socket c.in-Some.place c.in-Some.ensures.found c.index_mut.result.now c.index_mut.ensures.value c.take_out-given.result c.take_out-given.ensures.value)) ∙ c.requires.pipe)))));
      done = λ s t b. ∥∥₁_map (c.args.self.now.done s t b) (λ h. done_gone g.P.Pipes.known s t c.args.o.0 c.args.end c.args.self.now.closed _ c.take_out-given.result refl r refl c.args.self.now.did.items c.settle.new.did.items c.args.self.now.pipes c.settle.new.pipes c.settle.ensures.noted c.settle.ensures.keeps (c.and-self.ensures ∙ ap (λ n. c.args.self.now.closed.settled.items ++ (n, tt) ∷ []) (c.name-name.ensures ∙ sym (one_some (g.P.Pipes.known.in_name c.take_out-given.result.input) (g.P.Pipes.known.out_name c.args.writer) (sym (read_is g.P.Pipes.known.out_name g.P.Pipes.known.in_name g.P.Pipes.known.exact c.args.o.0 c.args.end c.args.self.now.closed.sockets.items c.args.self.now.closed.sockets.items c.take_out-given.result (sound_of g.P.Pipes.known c.args.self.now.pipes c.args.self.now.closed.sockets.items c.args.self.now.sound).apart (c.take_out-given.result ∷ []) (at_stays c.args.o.0 c.args.end c.args.self.now.closed.sockets.items c.in-Some.socket c.in-Some.place c.in-Some.ensures.found c.index_mut.result.now c.index_mut.ensures.value c.take_out-given.result c.take_out-given.ensures.value)) ∙ c.requires.pipe)))) h);
      came = λ s t b. ∥∥₁_map (c.args.self.now.came s t b) (λ h. come_still g.P.Pipes.known g.F.Stretch.brings t c.args.self.now.closed _ refl refl r.numbers h);
    }

pub returns-in-Some-clause-read_out : goal.returns-in-Some-clause-read_out
returns-in-Some-clause-read_out g c =
    λ met. c.settle.ensures.read_out (sym (met_is g.P.Pipes.known.out_name g.P.Pipes.known.in_name g.P.Pipes.known.exact c.args.o.0 c.args.end c.args.self.now.closed.sockets.items c.args.self.now.closed.sockets.items c.take_out-given.result (sound_of g.P.Pipes.known c.args.self.now.pipes c.args.self.now.closed.sockets.items c.args.self.now.sound).apart (c.take_out-given.result ∷ []) (at_stays c.args.o.0 c.args.end c.args.self.now.closed.sockets.items c.in-Some.socket c.in-Some.place c.in-Some.ensures.found c.index_mut.result.now c.index_mut.ensures.value c.take_out-given.result c.take_out-given.ensures.value)) ∙ met)

pub returns-in-Some-clause-gone : goal.returns-in-Some-clause-gone
returns-in-Some-clause-gone g c =
    left g.P.Pipes.known.out_name g.P.Pipes.known.in_name g.P.Pipes.known.exact c.args.o.0 c.args.end c.args.self.now.closed.sockets.items (set c.args.self.now.closed.sockets.items c.in-Some.socket (record { number = c.index_mut.result.now.number; ends = c.take_out-given.new.ends })) c.take_out-given.result (sound_of g.P.Pipes.known c.args.self.now.pipes c.args.self.now.closed.sockets.items c.args.self.now.sound).apart (at_removed c.args.o.0 c.args.end c.args.self.now.closed.sockets.items c.in-Some.socket c.in-Some.place c.in-Some.ensures.found c.index_mut.result.now c.index_mut.ensures.value c.take_out-given.result c.take_out-given.ensures.value (record { number = c.index_mut.result.now.number; ends = c.take_out-given.new.ends }) refl c.take_out-given.ensures.items) c.args.self.now.closed.turns.items (map (λ x. x.0) c.args.self.now.closed.sealed.items) (heard_in c.args.self.now.closed)

pub returns-in-Some-clause-turns : goal.returns-in-Some-clause-turns
returns-in-Some-clause-turns g c =
    keeps_left g.P.Pipes.known.out_name g.P.Pipes.known.in_name g.P.Pipes.known.exact c.args.o.0 c.args.end c.args.self.now.closed.sockets.items (set c.args.self.now.closed.sockets.items c.in-Some.socket (record { number = c.index_mut.result.now.number; ends = c.take_out-given.new.ends })) c.take_out-given.result (sound_of g.P.Pipes.known c.args.self.now.pipes c.args.self.now.closed.sockets.items c.args.self.now.sound).apart (at_removed c.args.o.0 c.args.end c.args.self.now.closed.sockets.items c.in-Some.socket c.in-Some.place c.in-Some.ensures.found c.index_mut.result.now c.index_mut.ensures.value c.take_out-given.result c.take_out-given.ensures.value (record { number = c.index_mut.result.now.number; ends = c.take_out-given.new.ends }) refl c.take_out-given.ensures.items) c.args.self.now.closed.turns.items (map (λ x. x.0) c.args.self.now.closed.sealed.items) (heard_in c.args.self.now.closed)

pub unreachable-requires : goal.unreachable-requires
unreachable-requires g c =
    never (sym (has_read g.P.Pipes.known.out_name g.P.Pipes.known.in_name g.P.Pipes.known.exact c.args.end (ends_of c.args.self.now.closed.sockets.items c.args.o.0) (g.P.Pipes.known.out_name c.args.writer) c.requires.pipe) ∙ c.in-None.ensures.none)

pub returns-in-Some-clause-counts : goal.returns-in-Some-clause-counts
returns-in-Some-clause-counts g c =
    c.settle.ensures.counts
    ∙ sym (ap (counts_with g.P.Pipes.known c.args.self.now.pipes c.args.writer)
    (input_is g.P.Pipes.known.out_name g.P.Pipes.known.in_name g.P.Pipes.known.exact c.args.o.0 c.args.end c.args.self.now.closed.sockets.items c.args.self.now.closed.sockets.items c.take_out-given.result (sound_of g.P.Pipes.known c.args.self.now.pipes c.args.self.now.closed.sockets.items c.args.self.now.sound).apart (c.take_out-given.result ∷ [])
    (at_stays c.args.o.0 c.args.end c.args.self.now.closed.sockets.items c.in-Some.socket c.in-Some.place c.in-Some.ensures.found c.index_mut.result.now c.index_mut.ensures.value c.take_out-given.result c.take_out-given.ensures.value)))
