use Rattle.sock_core.proofs.FormLemmas.{sound_of, are_sound}
use Rattle.std.proofs.Common.{◌==◌, length, refl}
use Rattle.sock_core.proofs.JoinLemmas.{mine_of, none_of}
use Rattle.sock_core.proofs.MadeLemmas.{made_else, both_ok, may_be}
use Rattle.std.specs.Prelude.{map}
use Rattle.zq_base.specs.declared.ids.EndId.{EndId}
use Rattle.end_table.proofs.OthersLemmas.{leaves_on, places_stay}
use Rattle.sock_core.proofs.DoneLemmas.{done_more}
use Rattle.std.proofs.Math.Logic.{∥∥₁_map}
use Rattle.end_table.proofs.MadeLemmas.{makings_more}
use Rattle.sock_core.specs.Standing.{standing_joins}
use Rattle.sock_core.specs.Way.{way_in}
use Rattle.sock_core.proofs.CameLemmas.{came_made}
use Rattle.sock_core.proofs.holding.SockHolderHolder.make.Goals as goal

pub make-requires-clause-sound : goal.make-requires-clause-sound
make-requires-clause-sound g c = sound_of g.P.Pipes.known c.args.self.now.pipes c.args.self.now.core.ends.rows.items c.args.self.now.core.ends.places.items c.args.self.now.sound

pub invariant_of-self : goal.invariant_of-self
invariant_of-self g c = record {
  sound = are_sound g.P.Pipes.known c.make.new.pipes c.args.self.now.core.ends.rows.items c.args.self.now.core.ends.places.items c.make.ensures.sound;
  peers = c.args.self.now.peers;
  room = c.args.self.now.room;
  gone = c.args.self.now.gone;
  flagged = c.args.self.now.flagged;
  in_use = c.args.self.now.in_use;
  way = c.args.self.now.way;
  others = λ s t b. leaves_on g.P.Pipes.known s c.args.self.now.pipes c.make.new.pipes t.ends c.args.self.now.core.ends c.args.self.now.core.ends (c.args.self.now.others s t b) c.make.ensures.others;
  settled_are = c.args.self.now.settled_are;
  sealed_are = c.args.self.now.sealed_are;
  came = λ s t b. ∥∥₁_map (c.args.self.now.came s t b) (λ h.
      came_made g.P.Pipes.known g.F.Since.undoes g.F.Since.comes s (length t.ends.places.items) (standing_joins t.joins.items) (way_in c.args.self.now.core.way.items).joined (standing_joins c.args.self.now.core.joins.items) c.args.self.now.did.items c.make.new.did.items c.args.self.now.core.ends.places.items c.make.ensures.makings h);
  tied = λ s t b made.
      made_else g.P.Pipes.known g.F.Since.may_make (g.F.Since.one_side made) c.args.end c.args.written c.args.read c.requires.may c.args.self.now.did.items c.make.new.did.items c.args.self.now.core.ends.places.items (length t.ends.places.items) c.make.ensures.only
      (none_of (c.args.o.0 == c.args.self.now.core.number.0) c.args.end c.args.self.now.core.ends.places.items (mine_of c.args.self.now.core.is_open (c.args.o.0 == c.args.self.now.core.number.0) c.requires.here) c.requires.new)
      (c.args.self.now.tied s t b made);
  done = λ s t b. done_more g.P.Pipes.known s t.ends.places.items (map (λ (x : EndId × Unit {0}). x.0) t.sealed.items) c.args.self.now.pipes c.make.new.pipes c.args.self.now.did.items c.make.new.did.items c.args.self.now.core.ends.places.items c.args.self.now.core.ends.places.items (c.args.self.now.others s t b).places (places_stay c.args.self.now.core.ends.places.items c.args.self.now.core.ends.places.items refl) (map (λ (x : EndId × Unit {0}). x.0) c.args.self.now.core.sealed.items) c.make.ensures.changes (c.args.self.now.done s t b);
  number = c.args.self.now.number;
  rest = c.args.self.now.rest;
  stopped = c.args.self.now.stopped;
}

pub returns-clause-fits : goal.returns-clause-fits
returns-clause-fits g c =
    let K = g.P.Pipes.known in
    both_ok c.make.result
    (λ m fits made. (fits, λ is. may_be K g.F.Since.may_make c.make.new.did.items c.args.end c.args.written c.args.read (K.out_name m.mine.out) (K.in_name m.mine.input) c.requires.may made))
    c.make.ensures.fits c.make.ensures.made

pub returns-clause-calm : goal.returns-clause-calm
returns-clause-calm g c = λ came calm. record {
  quiet = calm.quiet;
  makings = makings_more c.args.self.now.did.items c.make.new.did.items c.make.ensures.makings calm.makings;
  ends = calm.ends;
  held = calm.held;
}
