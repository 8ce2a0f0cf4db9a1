use Rattle.std.proofs.Common.{refl, ap, subst, ◌∙◌}
use Rattle.std.specs.Prelude.{Result, Ok, Err, IfOk}
use Rattle.zq_base.specs.declared.options.EngineOpts.{EngineOpts}
use Rattle.spec_zmtp.specs.DecodedStream.{Decoded, Decodes}
use Rattle.zq_call.specs.HearText.{hear_text}
use Rattle.zq_call.specs.Told.{Told, Tells, untold}
use Rattle.zq_call.proofs.hearing.hear.Goals as goal

-- what a call gives is told in other words
told : {T E : Type 0} {P : T → Type 0} (Q : T → Type 0) (r : Result T E) → IfOk r P → ((x : T) → P x → Q x) → IfOk r Q
told Q (Ok x) h so = so x h
told Q (Err e) h so = tt

pub tell-requires : goal.tell-requires
tell-requires c = record { hears = (_, c.in_ok-engine.ensures.1, (refl, refl)) }

pub returns : goal.returns
returns c =
    let d : Decoded = c.in_ok-engine.ensures.0 in
    let t : Told = untold c.in_ok-opts.opts c.args.octets.now d in
    let k : Tells t c.in_ok-engine.engine = c.in_ok-engine.ensures.1 in
    told _ c.tell.result c.tell.ensures (λ heard so. record {
      decoded = d;
      decodes = subst (λ (o : EngineOpts). Decodes o c.args.octets.now d) c.in_ok-opts.ensures k.decodes;
      text_is = (so t k (refl, refl)).0 ∙ ap (λ (o : EngineOpts). hear_text o d) c.in_ok-opts.ensures;
      refused_is = (so t k (refl, refl)).1;
    })
