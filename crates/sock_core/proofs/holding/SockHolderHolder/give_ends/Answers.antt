use Rattle.std.proofs.Common.{◌≡◌, ◌∙◌, ◌==◌, ℕ, Bool, List, [], ◌∷◌, length, ap, sym, true≢false, if◌then◌else◌, arith}
use Rattle.end_table.specs.Places.{held_in}
use Rattle.sock_core.specs.Has.{told_in}
use Rattle.sock_core.proofs.FormLemmas.{sound_of, are_sound}
use Rattle.sock_core.proofs.JoinLemmas.{mine_of}
use Rattle.sock_core.proofs.GiveLemmas.{told_of, writing_of, stated_of, sealed_of, ends_of, given_all, given_turns}
use Rattle.end_table.proofs.OthersLemmas.{leaves_on}
use Rattle.std.proofs.Math.Logic.{∥∥₁_map}
use Rattle.sock_core.proofs.FlagLemmas.{flagged_gone, in_use_gone}
use Rattle.zq_base.specs.declared.ids.EndId.{EndId}
use Rattle.std.specs.Prelude.{map}
use Rattle.sock_core.proofs.NotedLemmas.{were_read_on, sealed_gone}
use Rattle.sock_core.proofs.DoneLemmas.{done_still}
use Rattle.sock_core.proofs.MadeLemmas.{made_gone}
use Rattle.sock_core.specs.Standing.{standing_joins}
use Rattle.spec_control.specs.declared.entry.Joining.{Joining}
use Rattle.end_table.specs.declared.table.Place.{Place}
use Rattle.end_table.specs.declared.changes.PipeChange.{PipeChange}
use Rattle.sock_core.specs.Way.{way_in, Way, AreHeld, IsCalm}
use Rattle.sock_core.proofs.CameLemmas.{came_still}
use Rattle.sock_core.proofs.holding.SockHolderHolder.give_ends.Goals as goal

pub give_ends-requires-clause-sound : goal.give_ends-requires-clause-sound
give_ends-requires-clause-sound g c = sound_of g.P.Pipes.known c.args.self.now.pipes c.args.self.now.core.ends.rows.items c.args.self.now.core.ends.places.items c.args.self.now.sound

pub invariant_of-self : goal.invariant_of-self
invariant_of-self g c = record {
  sound = are_sound g.P.Pipes.known c.args.self.now.pipes c.give_ends.new.table.rows.items c.give_ends.new.table.places.items c.give_ends.ensures.sound;
  peers = λ is. absurd (true≢false (sym is));
  room = record {
    given = λ is. absurd (true≢false (sym is));
    joined = λ is. absurd (true≢false (sym is));
    none_given = c.hand_over-ends.ensures.left.0;
    none_joined = c.hand_over-ends.ensures.left.1;
  };
  gone = λ is. c.give_ends.ensures.gone;
  flagged = flagged_gone c.give_ends.new.table.places.items (g.C.Joins.peers c.args.self.now.core.kind) c.give_ends.ensures.gone;
  in_use = in_use_gone c.args.self.now.core.reads c.give_ends.new.table.places.items c.give_ends.ensures.gone;
  way = λ p t b. ∥∥₁_map (c.args.self.now.way p t b) (λ k is. absurd (true≢false (sym is)));
  others = λ s t b. leaves_on g.P.Pipes.known s c.args.self.now.pipes c.args.self.now.pipes t.ends c.args.self.now.core.ends c.give_ends.new.table (c.args.self.now.others s t b) c.give_ends.ensures.others;
  settled_are = were_read_on c.args.self.now.core.ends.places.items c.give_ends.new.table.places.items c.args.self.now.core.ends.settled.items c.give_ends.new.table.settled.items c.give_ends.ensures.others.places (ap (λ l. l.items) c.give_ends.ensures.settled) c.args.self.now.settled_are;
  sealed_are = sealed_gone c.give_ends.new.table.places.items (map (λ (x : EndId × Unit {0}). x.0) c.args.self.now.core.sealed.items) c.give_ends.ensures.gone;
  came = λ s t b. ∥∥₁_map (c.args.self.now.came s t b) (λ h.
      came_still g.P.Pipes.known g.F.Since.undoes g.F.Since.comes s (length t.ends.places.items) (standing_joins t.joins.items) (way_in c.args.self.now.core.way.items).joined (standing_joins c.args.self.now.core.joins.items) c.args.self.now.did.items c.args.self.now.core.ends.places.items c.give_ends.new.table.places.items c.give_ends.ensures.others.places c.give_ends.ensures.count h);
  tied = λ s t b made. made_gone g.P.Pipes.known g.F.Since.may_make c.args.self.now.did.items c.give_ends.new.table.places.items (length t.ends.places.items) c.give_ends.ensures.gone;
  done = λ s t b. done_still g.P.Pipes.known s t.ends.places.items (map (λ (x : EndId × Unit {0}). x.0) t.sealed.items) c.args.self.now.pipes c.args.self.now.did.items c.args.self.now.core.ends.places.items c.give_ends.new.table.places.items (map (λ (x : EndId × Unit {0}). x.0) c.args.self.now.core.sealed.items) (c.give_ends.ensures.others.places) (c.args.self.now.done s t b);
  number = c.args.self.now.number;
  rest = c.args.self.now.rest;
  stopped = c.args.self.now.stopped;
}

pub returns-clause-all : goal.returns-clause-all
returns-clause-all g c =
    ends_of g.P.Pipes.known c.args.self.now.pipes c.args.self.now.core.ends.rows.items c.args.self.now.core.ends.places.items (sound_of g.P.Pipes.known c.args.self.now.pipes c.args.self.now.core.ends.rows.items c.args.self.now.core.ends.places.items c.args.self.now.sound) c.give_ends.new.given.items c.give_ends.ensures.given.ends
    ∙ sym (ap (λ (b : Bool). if b then held_in c.args.self.now.core.ends.places.items else []) (mine_of c.args.self.now.core.is_open (c.args.o.0 == c.args.self.now.core.number.0) c.requires.here))

pub returns-clause-none : goal.returns-clause-none
returns-clause-none g c = given_all c.args.self.now.core.number.0 c.args.o.0 c.args.self.now.core.is_open (g.C.Joins.kind c.args.self.now.core.kind) (told_in c.args.self.now.core.turns.items c.args.self.now.core.sealed.items c.args.self.now.core.joins.items c.args.self.now.core.heard.items) c.args.self.now.core.ends.places.items c.give_ends.new.table.places.items c.give_ends.ensures.gone (mine_of c.args.self.now.core.is_open (c.args.o.0 == c.args.self.now.core.number.0) c.requires.here)

pub returns-clause-told : goal.returns-clause-told
returns-clause-told g c = told_of g.P.Pipes.known c.args.self.now.pipes c.args.self.now.core.ends.rows.items c.args.self.now.core.ends.places.items (sound_of g.P.Pipes.known c.args.self.now.pipes c.args.self.now.core.ends.rows.items c.args.self.now.core.ends.places.items c.args.self.now.sound) c.give_ends.new.given.items c.give_ends.ensures.given.ends

pub returns-clause-writing : goal.returns-clause-writing
returns-clause-writing g c = writing_of g.P.Pipes.known c.args.self.now.pipes c.args.self.now.core.ends.rows.items c.args.self.now.core.ends.places.items (sound_of g.P.Pipes.known c.args.self.now.pipes c.args.self.now.core.ends.rows.items c.args.self.now.core.ends.places.items c.args.self.now.sound) c.give_ends.new.given.items c.give_ends.ensures.given.ends

pub returns-clause-states : goal.returns-clause-states
returns-clause-states g c = stated_of g.P.Pipes.known c.args.self.now.pipes c.args.self.now.core.ends.rows.items c.args.self.now.core.ends.places.items (sound_of g.P.Pipes.known c.args.self.now.pipes c.args.self.now.core.ends.rows.items c.args.self.now.core.ends.places.items c.args.self.now.sound) c.give_ends.new.given.items c.give_ends.ensures.given.ends

pub returns-clause-sealed : goal.returns-clause-sealed
returns-clause-sealed g c = sealed_of g.P.Pipes.known c.args.self.now.pipes c.args.self.now.core.ends.rows.items c.args.self.now.core.ends.places.items (sound_of g.P.Pipes.known c.args.self.now.pipes c.args.self.now.core.ends.rows.items c.args.self.now.core.ends.places.items c.args.self.now.sound) c.give_ends.new.given.items c.give_ends.ensures.given.ends (map (λ (x : EndId × Unit {0}). x.0) c.args.self.now.core.sealed.items) c.args.self.now.sealed_are

pub returns-clause-turns : goal.returns-clause-turns
returns-clause-turns g c = given_turns c.args.self.now.core.number.0 c.args.o.0 c.args.self.now.core.is_open (g.C.Joins.kind c.args.self.now.core.kind) (told_in c.args.self.now.core.turns.items c.args.self.now.core.sealed.items c.args.self.now.core.joins.items c.args.self.now.core.heard.items) c.args.self.now.core.ends.places.items c.give_ends.new.table.places.items c.give_ends.ensures.gone

none_left : {X : Type 0} {x : X} {xs : List X} → x ∷ xs ≡ [] → ⊥
none_left h = Prim.grind arith

-- it was calm with no end that joined
calm_given : {N I O S : Type 0} (w : Way N) (ps qs : List (Place N I)) (changes : List (PipeChange O I × S)) → IsCalm w ps changes [] → IsCalm w qs changes []
calm_given w ps qs changes k = record { quiet = k.quiet; makings = k.makings; ends = k.ends; held = by w.joined k.ends }
  where
    by : (xs : List (Joining _ × ℕ)) → map (λ (x : Joining _ × ℕ). x.0.end) xs ≡ [] → AreHeld qs xs
    by [] e = tt
    by (x ∷ xs) e = absurd (none_left e)

pub returns-clause-calm : goal.returns-clause-calm
returns-clause-calm g c = λ calm. calm_given (way_in c.args.self.now.core.way.items) c.args.self.now.core.ends.places.items c.give_ends.new.table.places.items c.args.self.now.did.items calm
