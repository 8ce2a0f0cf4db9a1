use Rattle.std.proofs.Common.{◌≡◌, ◌∙◌, [], List, map, refl, sym, ap, subst, inl, inr}
use Rattle.std.specs.Prelude.{nat_eq}
use Rattle.std.proofs.lemmas.List.{append-nil}
use Rattle.std.proofs.Math.Logic.{∥∥₁_map}
use Rattle.indexmap.specs.IndexMap.{get}
use Rattle.zq_base.specs.declared.attached.Attached.TheVariants.{Yes}
use Rattle.spec_control.specs.declared.entry.Joining.{Joining}
use Rattle.desk.specs.declared.given.Given.{Given}
use Rattle.desk.specs.Holding.{BeginsActive, Joined, KeepsTurns, Stays, held_with, joining_with}
use Rattle.sock_core.specs.Standing.{standing_joins}
use Rattle.closed_ends.specs.Coming.{CameAlone}
use Rattle.closed_ends.specs.Finding.{AddsNone, given_joined}
use Rattle.closed_ends.specs.Has.{has, heard_in}
use Rattle.closed_ends.specs.Noted.{standing_of}
use Rattle.closed_ends.proofs.ListLemmas.{never}
use Rattle.closed_ends.proofs.FormLemmas.{are_sound, sound_of}
use Rattle.closed_ends.proofs.SoundLemmas.{leaves_on}
use Rattle.closed_ends.proofs.NotedLemmas.{AreTold}
use Rattle.closed_ends.proofs.DoneLemmas.{done_join, done_still}
use Rattle.closed_ends.proofs.ComeLemmas.{come_more, come_still}
use Rattle.closed_ends.proofs.TakeLemmas.{heard_same, seen_kept}
use Rattle.closed_ends.proofs.JoinLemmas.{adds_end, adds_none, apart_all, begins, join_ways, joined, joined_sound, leaves_joined, leaves_joined_none, none_sound, none_stays, none_turns, told_kept}
use Rattle.closed_ends.proofs.holding.ClosedHolder.attach.Goals as goal

pub invariant_of-self : goal.invariant_of-self
invariant_of-self g c =
    let K = g.P.Pipes.known in
    let pipes = c.args.self.now.pipes in
    let did = c.args.self.now.did.items in
    let old = c.args.self.now.closed in
    let new = c.join.new.closed in
    let kept = c.join.ensures.kept in
    let e = c.args.end in
    let h = c.args.halves in
    let sound = sound_of K pipes old.sockets.items c.args.self.now.sound in
    elim (join_ways (λ x. (x.value ≡ h) × AddsNone c.args.o.0 c.in-Some.socket old new) c.join.result c.join.ensures.ok c.join.ensures.err) [
      | inl a ↦
          let ad = adds_end c.args.o.0 c.in-Some.socket (given_joined K.out_name e h) old.sockets.items new.sockets.items a.sockets in
          let apart = apart_all K e h old.sockets.items old.turns.items (map (λ x. x.0) old.sealed.items) (heard_in old) sound.alone c.requires.new c.requires.fits.others in
          record {
            indexed = λ n. ap (λ m. get nat_eq m n) kept.places ∙ c.args.self.now.indexed n ∙ sym (ad.places n);
            sound = are_sound K pipes new.sockets.items (joined_sound K e h c.args.o.0 old.sockets.items new.sockets.items ad apart pipes old c.requires.fits sound);
            others = λ s t b. leaves_on K s pipes pipes t old new (c.args.self.now.others s t b) (leaves_joined K e h pipes c.args.o.0 old new ad a.came kept.settled);
            done = λ s t b. ∥∥₁_map (c.args.self.now.done s t b) (λ d. done_join K s t c.args.o.0 old new (given_joined K.out_name e h) did pipes ad a.came kept.sealed kept.settled d);
            came = λ s t b. ∥∥₁_map (c.args.self.now.came s t b) (λ d. come_more K g.F.Stretch.brings t old new (CameAlone (joining_with K.out_name K.in_name e c.args.identity.now h Yes) (given_joined K.out_name e h))
                (record { end = refl; written = refl; read = refl; writes = refl; unsealed = refl }) a.came a.joins (ad.numbers ∙ sym (append-nil (map (λ x. x.number) old.sockets.items))) d);
          }
      | inr n ↦
          let no = adds_none c.args.o.0 c.in-Some.socket old.sockets.items new.sockets.items n.1.1.sockets in
          record {
            indexed = λ m. ap (λ x. get nat_eq x m) kept.places ∙ c.args.self.now.indexed m ∙ sym (no.places m);
            sound = are_sound K pipes new.sockets.items (none_sound K old.sockets.items new.sockets.items no pipes sound);
            others = λ s t b. leaves_on K s pipes pipes t old new (c.args.self.now.others s t b) (leaves_joined_none K old.sockets.items new.sockets.items no pipes old new refl refl n.1.1.came kept.settled);
            done = λ s t b. ∥∥₁_map (c.args.self.now.done s t b) (λ d. done_still K s t old new did pipes (ap (map (standing_of K.in_name)) no.now) (λ es told. subst (λ (l : List (Given _ _ _)). AreTold es l) (sym no.now) told) n.1.1.came kept.sealed kept.settled d);
            came = λ s t b. ∥∥₁_map (c.args.self.now.came s t b) (λ d. come_still K g.F.Stretch.brings t old new n.1.1.came (ap standing_joins n.1.1.joins) no.numbers d);
          }
    ]

pub returns-in-Ok-clause-ok : goal.returns-in-Ok-clause-ok
returns-in-Ok-clause-ok g c =
    let K = g.P.Pipes.known in
    let old = c.args.self.now.closed in
    let new = c.join.new.closed in
    let e = c.args.end in
    let h = c.args.halves in
    let sound = sound_of K c.args.self.now.pipes old.sockets.items c.args.self.now.sound in
    let ad = adds_end c.args.o.0 c.in-Some.socket (given_joined K.out_name e h) old.sockets.items new.sockets.items c.in-Ok.ensures.ok.sockets in
    let apart = apart_all K e h old.sockets.items old.turns.items (map (λ x. x.0) old.sealed.items) (heard_in old) sound.alone c.requires.new c.requires.fits.others in
    told_kept old new (λ t z. Joined c.args.o.0 (held_with K.out_name K.in_name e h) (has K.out_name K.in_name old.turns.items (map (λ x. x.0) old.sealed.items) (heard_in old) old.sockets.items) (has K.out_name K.in_name t z (heard_in new) new.sockets.items))
    c.join.ensures.kept.turns c.join.ensures.kept.sealed (joined K e h c.args.o.0 old.sockets.items new.sockets.items ad apart old.turns.items (map (λ x. x.0) old.sealed.items) (heard_in old) (heard_in new))

pub returns-in-Ok-clause-turns : goal.returns-in-Ok-clause-turns
returns-in-Ok-clause-turns g c =
    let K = g.P.Pipes.known in
    let old = c.args.self.now.closed in
    let new = c.join.new.closed in
    let e = c.args.end in
    let h = c.args.halves in
    let sound = sound_of K c.args.self.now.pipes old.sockets.items c.args.self.now.sound in
    let ad = adds_end c.args.o.0 c.in-Some.socket (given_joined K.out_name e h) old.sockets.items new.sockets.items c.in-Ok.ensures.ok.sockets in
    let apart = apart_all K e h old.sockets.items old.turns.items (map (λ x. x.0) old.sealed.items) (heard_in old) sound.alone c.requires.new c.requires.fits.others in
    told_kept old new (λ t z. BeginsActive e (has K.out_name K.in_name old.turns.items (map (λ x. x.0) old.sealed.items) (heard_in old) old.sockets.items) (has K.out_name K.in_name t z (heard_in new) new.sockets.items))
    c.join.ensures.kept.turns c.join.ensures.kept.sealed (begins K e h c.args.o.0 old.sockets.items new.sockets.items ad apart old.turns.items (map (λ x. x.0) old.sealed.items) (heard_in old) (heard_in new))

pub returns-in-Err-clause-err : goal.returns-in-Err-clause-err
returns-in-Err-clause-err g c =
    let K = g.P.Pipes.known in
    let old = c.args.self.now.closed in
    let new = c.join.new.closed in
    let none = c.in-Err.ensures.err.1 in
    let kept = c.join.ensures.kept in
    let no = adds_none c.args.o.0 c.in-Some.socket old.sockets.items new.sockets.items none.sockets in
    let same = heard_same old new kept.heard none.joins in (
      c.in-Err.ensures.err.0,
      seen_kept old new (λ t z l. Stays c.args.o.0 (has K.out_name K.in_name old.turns.items (map (λ x. x.0) old.sealed.items) (heard_in old) old.sockets.items) (has K.out_name K.in_name t z l new.sockets.items))
          kept.turns kept.sealed same (none_stays K old.sockets.items new.sockets.items no old.turns.items (map (λ x. x.0) old.sealed.items) (heard_in old) c.args.o.0),
      seen_kept old new (λ t z l. KeepsTurns (has K.out_name K.in_name old.turns.items (map (λ x. x.0) old.sealed.items) (heard_in old) old.sockets.items) (has K.out_name K.in_name t z l new.sockets.items))
          kept.turns kept.sealed same (none_turns K old.sockets.items new.sockets.items no old.turns.items (map (λ x. x.0) old.sealed.items) (heard_in old)),
    )

pub unreachable-requires : goal.unreachable-requires
unreachable-requires g c = never (sym c.requires.here ∙ c.in-None.ensures.none)
