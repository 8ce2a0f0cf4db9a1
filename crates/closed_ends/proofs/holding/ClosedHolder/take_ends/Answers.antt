use Rattle.std.proofs.Common.{◌∙◌, ◌≡◌, ◌++◌, ◌∷◌, All, List, [], sym, ap, subst, map}
use Rattle.std.proofs.lemmas.List.{append-nil}
use Rattle.std.specs.List.{list_any}
use Rattle.desk.specs.declared.given.Given.{Given}
use Rattle.desk.specs.Holding.{IsPlugged, Begins, AreAtDelimiter, held_given, states_given, writes_in}
use Rattle.desk.specs.TakingOver.{AreGivenWith, ComeApart}
use Rattle.closed_ends.specs.Has.{all_ends, has, holding_in, met_of, writes_of, heard_in}
use Rattle.closed_ends.specs.Sound.{AreSound}
use Rattle.closed_ends.proofs.FormLemmas.{are_sound, sound_of}
use Rattle.closed_ends.proofs.DoneLemmas.{done_come}
use Rattle.std.proofs.Math.Logic.{∥∥₁_map}
use Rattle.sock_core.specs.Standing.{standing_joins}
use Rattle.closed_ends.specs.declared.sockets.ClosedSocket.{ClosedSocket}
use Rattle.closed_ends.specs.Coming.{CameClosed}
use Rattle.closed_ends.proofs.ListLemmas.{mapped}
use Rattle.closed_ends.proofs.ComeLemmas.{come_more}
use Rattle.closed_ends.proofs.SoundLemmas.{leaves_on}
use Rattle.closed_ends.proofs.AddLemmas.{plugged, at_delimiter, begins, writing}
use Rattle.closed_ends.proofs.TakeLemmas.{added_sound, leaves_added, seen_added}
use Rattle.closed_ends.proofs.holding.ClosedHolder.take_ends.Goals as goal

pub invariant_of-self : goal.invariant_of-self
invariant_of-self g c =
    record {
      indexed = c.add.ensures.indexed;
      sound = subst (λ l. AreSound g.P.Pipes.known c.args.self.now.pipes l) (sym c.add.ensures.added) (are_sound g.P.Pipes.known c.args.self.now.pipes (c.args.self.now.closed.sockets.items ++ (record { number = c.args.o; ends = c.from_vec.result }) ∷ [])
          (added_sound g.P.Pipes.known c.args.self.now.pipes c.args.self.now.closed.sockets.items (record { number = c.args.o; ends = c.from_vec.result }) c.args.self.now.closed.turns.items (map (λ x. x.0) c.args.self.now.closed.sealed.items) (heard_in c.args.self.now.closed) (sound_of g.P.Pipes.known c.args.self.now.pipes c.args.self.now.closed.sockets.items c.args.self.now.sound) c.requires.new (subst (λ (es : List (Given _ _ _)). AreGivenWith g.P.Pipes.known c.args.self.now.pipes es) (sym c.from_vec.ensures.items) c.requires.may.0.halves) (subst (λ (es : List (Given _ _ _)). ComeApart g.P.Pipes.known.exact (map (held_given g.P.Pipes.known.out_name g.P.Pipes.known.in_name) es) (holding_in g.P.Pipes.known.out_name g.P.Pipes.known.in_name c.args.self.now.closed)) (sym c.from_vec.ensures.items) c.requires.apart)));
      others = λ s t b. leaves_on g.P.Pipes.known s c.args.self.now.pipes c.args.self.now.pipes t c.args.self.now.closed c.add.new.closed (c.args.self.now.others s t b)
          (leaves_added g.P.Pipes.known c.args.self.now.pipes c.args.self.now.closed c.add.new.closed (record { number = c.args.o; ends = c.from_vec.result }) c.add.ensures.added c.add.ensures.came c.add.ensures.settled);
      done = λ s t b. ∥∥₁_map (c.args.self.now.done s t b) (λ h. done_come g.P.Pipes.known s t c.args.self.now.closed c.add.new.closed (record { number = c.args.o; ends = c.from_vec.result }) c.args.self.now.did.items c.args.self.now.pipes c.add.ensures.added c.add.ensures.came c.add.ensures.sealed c.add.ensures.settled h);
      came = λ s t b. ∥∥₁_map (c.args.self.now.came s t b) (λ h. come_more g.P.Pipes.known g.F.Stretch.brings t c.args.self.now.closed c.add.new.closed (CameClosed c.args.o c.from_vec.result.items) ((subst (λ (es : List (Given _ _ _)). ComeApart g.P.Pipes.known.exact (map (held_given g.P.Pipes.known.out_name g.P.Pipes.known.in_name) es) (holding_in g.P.Pipes.known.out_name g.P.Pipes.known.in_name c.args.self.now.closed)) (sym c.from_vec.ensures.items) c.requires.apart).each, subst (λ (es : List (Given _ _ _)). All (g.F.Stretch.brings c.args.o.0) es) (sym c.from_vec.ensures.items) c.requires.may.1) c.add.ensures.came
          (ap standing_joins c.add.ensures.joins ∙ sym (append-nil (standing_joins c.args.self.now.closed.joins.items)))
          (ap (λ (l : List (ClosedSocket _ _ _)). map (λ x. x.number) l) c.add.ensures.added ∙ mapped (λ (x : ClosedSocket _ _ _). x.number) c.args.self.now.closed.sockets.items ((record { number = c.args.o; ends = c.from_vec.result }) ∷ [])) h);
    }

pub returns-clause-all : goal.returns-clause-all
returns-clause-all g c =
    λ is. subst (λ (es : List (Given _ _ _)). IsPlugged c.args.o.0 (map (held_given g.P.Pipes.known.out_name g.P.Pipes.known.in_name) es) (holding_in g.P.Pipes.known.out_name g.P.Pipes.known.in_name c.args.self.now.closed) (holding_in g.P.Pipes.known.out_name g.P.Pipes.known.in_name c.add.new.closed)) c.from_vec.ensures.items
    (seen_added c.args.self.now.closed c.add.new.closed (λ t z h l. IsPlugged c.args.o.0 (map (held_given g.P.Pipes.known.out_name g.P.Pipes.known.in_name) c.from_vec.result.items) (holding_in g.P.Pipes.known.out_name g.P.Pipes.known.in_name c.args.self.now.closed) (has g.P.Pipes.known.out_name g.P.Pipes.known.in_name t z h l)) (record { number = c.args.o; ends = c.from_vec.result }) c.add.ensures.added c.add.ensures.turns c.add.ensures.sealed c.add.ensures.heard c.add.ensures.joins
    (plugged g.P.Pipes.known.out_name g.P.Pipes.known.in_name g.P.Pipes.known.exact c.args.self.now.closed.sockets.items (record { number = c.args.o; ends = c.from_vec.result }) c.requires.new (sound_of g.P.Pipes.known c.args.self.now.pipes c.args.self.now.closed.sockets.items c.args.self.now.sound).alone c.args.self.now.closed.turns.items (map (λ x. x.0) c.args.self.now.closed.sealed.items) (heard_in c.args.self.now.closed) (subst (λ (es : List (Given _ _ _)). ComeApart g.P.Pipes.known.exact (map (held_given g.P.Pipes.known.out_name g.P.Pipes.known.in_name) es) (holding_in g.P.Pipes.known.out_name g.P.Pipes.known.in_name c.args.self.now.closed)) (sym c.from_vec.ensures.items) c.requires.apart)))

pub returns-clause-at : goal.returns-clause-at
returns-clause-at g c =
    λ is. subst (λ (es : List (Given _ _ _)). AreAtDelimiter (holding_in g.P.Pipes.known.out_name g.P.Pipes.known.in_name c.add.new.closed).at_delimiter es) c.from_vec.ensures.items
    (subst (λ l. AreAtDelimiter (λ e. list_any (met_of e) (all_ends l)) c.from_vec.result.items) (sym c.add.ensures.added)
    (at_delimiter g.P.Pipes.known.out_name g.P.Pipes.known.in_name g.P.Pipes.known.exact c.args.self.now.closed.sockets.items (record { number = c.args.o; ends = c.from_vec.result }) c.requires.new (sound_of g.P.Pipes.known c.args.self.now.pipes c.args.self.now.closed.sockets.items c.args.self.now.sound).alone c.args.self.now.closed.turns.items (map (λ x. x.0) c.args.self.now.closed.sealed.items) (heard_in c.args.self.now.closed) (subst (λ (es : List (Given _ _ _)). ComeApart g.P.Pipes.known.exact (map (held_given g.P.Pipes.known.out_name g.P.Pipes.known.in_name) es) (holding_in g.P.Pipes.known.out_name g.P.Pipes.known.in_name c.args.self.now.closed)) (sym c.from_vec.ensures.items) c.requires.apart)))

pub returns-clause-turns : goal.returns-clause-turns
returns-clause-turns g c =
    λ is. subst (λ (es : List (Given _ _ _)). Begins (states_given es) (holding_in g.P.Pipes.known.out_name g.P.Pipes.known.in_name c.args.self.now.closed) (holding_in g.P.Pipes.known.out_name g.P.Pipes.known.in_name c.add.new.closed)) c.from_vec.ensures.items
    (seen_added c.args.self.now.closed c.add.new.closed (λ t z h l. Begins (states_given c.from_vec.result.items) (holding_in g.P.Pipes.known.out_name g.P.Pipes.known.in_name c.args.self.now.closed) (has g.P.Pipes.known.out_name g.P.Pipes.known.in_name t z h l)) (record { number = c.args.o; ends = c.from_vec.result }) c.add.ensures.added c.add.ensures.turns c.add.ensures.sealed c.add.ensures.heard c.add.ensures.joins
    (begins g.P.Pipes.known.out_name g.P.Pipes.known.in_name g.P.Pipes.known.exact c.args.self.now.closed.sockets.items (record { number = c.args.o; ends = c.from_vec.result }) c.requires.new (sound_of g.P.Pipes.known c.args.self.now.pipes c.args.self.now.closed.sockets.items c.args.self.now.sound).alone c.args.self.now.closed.turns.items (map (λ x. x.0) c.args.self.now.closed.sealed.items) (heard_in c.args.self.now.closed) (subst (λ (es : List (Given _ _ _)). ComeApart g.P.Pipes.known.exact (map (held_given g.P.Pipes.known.out_name g.P.Pipes.known.in_name) es) (holding_in g.P.Pipes.known.out_name g.P.Pipes.known.in_name c.args.self.now.closed)) (sym c.from_vec.ensures.items) c.requires.apart)))

pub returns-clause-writing : goal.returns-clause-writing
returns-clause-writing g c =
    λ is e. subst (λ (es : List (Given _ _ _)). (holding_in g.P.Pipes.known.out_name g.P.Pipes.known.in_name c.add.new.closed).writes e ≡ writes_in es e ((holding_in g.P.Pipes.known.out_name g.P.Pipes.known.in_name c.args.self.now.closed).writes e)) c.from_vec.ensures.items
    (ap (λ l. list_any (writes_of e) (all_ends l)) c.add.ensures.added ∙ writing g.P.Pipes.known.out_name g.P.Pipes.known.in_name g.P.Pipes.known.exact c.args.self.now.closed.sockets.items (record { number = c.args.o; ends = c.from_vec.result }) c.requires.new (sound_of g.P.Pipes.known c.args.self.now.pipes c.args.self.now.closed.sockets.items c.args.self.now.sound).alone c.args.self.now.closed.turns.items (map (λ x. x.0) c.args.self.now.closed.sealed.items) (heard_in c.args.self.now.closed) (subst (λ (es : List (Given _ _ _)). ComeApart g.P.Pipes.known.exact (map (held_given g.P.Pipes.known.out_name g.P.Pipes.known.in_name) es) (holding_in g.P.Pipes.known.out_name g.P.Pipes.known.in_name c.args.self.now.closed)) (sym c.from_vec.ensures.items) c.requires.apart) e)
