use Rattle.std.proofs.Common.{Some, refl, sym, ap, ◌∙◌}
use Rattle.zq_base.specs.Message.{Frames}
use Rattle.msg_pipe.specs.Told.{put_step}
use Rattle.msg_pipe.specs.declared.pipes.PutIn.TheVariants.{Ok, Full}
use Rattle.spec_link.specs.LinkAct.{Step}
use Rattle.link_side.specs.declared.wire.Wire.{Wire}
use Rattle.link_side.specs.WireView.{kept}
use Rattle.link_side.proofs.KeptLemmas.{run_put, run_still}
use Rattle.link_side.proofs.RestLemmas.{held_fits}
use Rattle.link_side.proofs.wire.Wire.put_held.Goals as goal

pub put-requires-clause-whole : goal.put-requires-clause-whole
put-requires-clause-whole g c =
    held_fits (kept c.args.self.now) c.in-Some.message c.requires.alive c.requires.current (sym c.replace.ensures.value ∙ c.in-Some.is)

pub returns-in-Ok-clause-run : goal.returns-in-Ok-clause-run
returns-in-Ok-clause-run g c =
    let old : Wire = c.args.self.now in
    let m = c.in-Some.message in (
      m,
      Ok,
      record { puts_is = c.in-Ok.ensures.put; exact = c.in-Ok.ensures.exact; keeps = c.in-Ok.ensures.keeps },
      (λ pipe opts acts r. run_put opts acts (Step (put_step pipe m Ok)) m (kept old) (kept (record old { held = c.replace.new.dest; through = c.saturating_add-self.result })) refl refl refl refl refl (sym c.replace.ensures.value ∙ c.in-Some.is) c.replace.ensures.after c.saturating_add-self.ensures refl r),
      refl,
    )

pub returns-in-Full-clause-run : goal.returns-in-Full-clause-run
returns-in-Full-clause-run g c =
    let old : Wire = c.args.self.now in
    let m = c.in-Full.message in (
      m,
      Full m,
      record { puts_is = (refl, c.in-Full.ensures.put.1); exact = c.in-Full.ensures.exact; keeps = c.in-Full.ensures.keeps },
      (λ pipe opts acts r. run_still opts acts (Step (put_step pipe m (Full m))) (kept old) (kept (record old { held = Some m })) refl refl refl refl refl
          (ap (λ (x : Frames). Some x) c.in-Full.ensures.put.0 ∙ sym c.in-Some.is ∙ c.replace.ensures.value) refl refl r),
      refl,
    )

pub returns-in-Full-clause-stays : goal.returns-in-Full-clause-stays
returns-in-Full-clause-stays g c = λ _. refl
