use Rattle.std.proofs.Common.{inl, inr, refl, sym, subst}
use Rattle.msg_pipe.specs.declared.pipes.Front.{Front}
use Rattle.ctl_plane.specs.Past.{control_of}
use Rattle.plain_desk.specs.Lent.{moments_of}
use Rattle.closed_ends.specs.Coming.{IsBrought}
use Rattle.closed_ends.specs.Has.{holding_in}
use Rattle.reaper.specs.Calls.{SaysFound}
use Rattle.reaper.proofs.LookLemmas.{met_so, says_still}
use Rattle.reaper.proofs.looking.look_on.Goals as goal

pub meet-said-requires-clause-has : goal.meet-said-requires-clause-has
meet-said-requires-clause-has g c =
    let x = c.look-found in
    says_still c.args.o.0 (holding_in g.P.Pipes.known.out_name g.P.Pipes.known.in_name c.args.closed.now) (holding_in g.P.Pipes.known.out_name g.P.Pipes.known.in_name x.new.closed) x.ensures.stays x.ensures.turns c.args.desk.now.caller (moments_of c.args.desk.now) c.requires.has

pub returns-in-Delimiter-clause-looks : goal.returns-in-Delimiter-clause-looks
returns-in-Delimiter-clause-looks g c =
    let x = c.look-found in
    let y = c.meet-said in
    let brings = IsBrought (control_of c.args.desk.now.past) c.args.desk.now.past.given in
    record {
      between = x.new.pipes;
      kept = x.new.closed;
      looked = x.ensures.looked;
      sealed = x.ensures.sealed;
      others = x.ensures.others;
      stays = x.ensures.stays;
      has = says_still c.args.o.0 (holding_in g.P.Pipes.known.out_name g.P.Pipes.known.in_name c.args.closed.now) (holding_in g.P.Pipes.known.out_name g.P.Pipes.known.in_name x.new.closed) x.ensures.stays x.ensures.turns c.args.desk.now.caller (moments_of c.args.desk.now) c.requires.has;
      fits = x.ensures.fits;
      says = subst (λ (f : Front). SaysFound g.P.Pipes.known f brings c.args.end c.args.desk.now x.new.pipes x.new.closed y.new.desk y.new.pipes y.new.closed) (sym c.in-Delimiter.is)
          (record { meets = met_so c.args.end y.result c.args.desk.now y.new.desk y.ensures.found c.requires.reads_on; keeps = y.ensures.keeps; changes = y.ensures.changes });
    }

pub returns-in-Message : goal.returns-in-Message
returns-in-Message g c =
    let x = c.look-found in
    let brings = IsBrought (control_of c.args.desk.now.past) c.args.desk.now.past.given in
    let says = λ (f : Front). SaysFound g.P.Pipes.known f brings c.args.end c.args.desk.now x.new.pipes x.new.closed c.args.desk.now x.new.pipes x.new.closed in
    let still = says_still c.args.o.0 (holding_in g.P.Pipes.known.out_name g.P.Pipes.known.in_name c.args.closed.now) (holding_in g.P.Pipes.known.out_name g.P.Pipes.known.in_name x.new.closed) x.ensures.stays x.ensures.turns c.args.desk.now.caller (moments_of c.args.desk.now) c.requires.has in
    record {
      looks = record {
        between = x.new.pipes;
        kept = x.new.closed;
        looked = x.ensures.looked;
        sealed = x.ensures.sealed;
        others = x.ensures.others;
        stays = x.ensures.stays;
        has = still;
        fits = x.ensures.fits;
        says =
            elim c.in-Message.is [
              | inl message ↦ subst says (sym message) (refl, (refl, refl))
              | inr empty ↦ subst says (sym empty) (refl, (refl, refl))
            ];
      };
      has = still;
      fits = x.ensures.fits;
    }
