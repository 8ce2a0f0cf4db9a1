use Rattle.std.proofs.Common.{List, refl, sym, subst}
use Rattle.end_table.specs.declared.changes.PipeChange.{PipeChange}
use Rattle.closed_ends.specs.declared.sockets.ClosedSockets.{ClosedSockets}
use Rattle.closed_ends.specs.Noted.{HasDoneTo}
use Rattle.closed_ends.specs.Others.{Leaves}
use Rattle.closed_ends.proofs.SoundLemmas.{leaves_none}
use Rattle.closed_ends.proofs.DoneLemmas.{done_none}
use Rattle.closed_ends.proofs.ComeLemmas.{come_none}
use Rattle.reaper.proofs.lent.meet_lent.Goals as goal

pub invariant_of-holder : goal.invariant_of-holder
invariant_of-holder g c =
    let K = g.P.Pipes.known in
    let f = c.requires.fits in
    record {
      indexed = f.indexed;
      sound = f.sound;
      others = λ s u b.
          let e = c.requires.began s u b in
          subst (λ (x : g.row.P.Denot). Leaves K x u c.args.pipes c.args.closed) (sym e.0)
          (subst (λ (y : ClosedSockets _ _ _). Leaves K c.args.pipes y c.args.pipes c.args.closed) (sym e.1) (leaves_none K c.args.pipes c.args.closed c.args.closed refl refl refl));
      done = λ s u b.
          let e = c.requires.began s u b in
          ∣ subst (λ (l : List (PipeChange _ _ × _)). HasDoneTo K s u l c.args.pipes c.args.closed) (sym c.new.ensures) (done_none K s u c.args.closed c.args.pipes e.0 e.1) ∣₁;
      came = λ s u b. ∣ come_none K g.F.Stretch.brings u c.args.closed (c.requires.began s u b).1 ∣₁;
    }

pub returns-clause-changes : goal.returns-clause-changes
returns-clause-changes g c = λ s t b.
    let holder = c.delimiter-answer.new.holder in
    record { changes = holder.did.items; done = holder.done s t b; came = holder.came s t b; others = holder.others s t b; fits = record { sound = holder.sound; indexed = holder.indexed } }
