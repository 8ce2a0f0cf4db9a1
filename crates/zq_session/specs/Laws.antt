-- What a session keeps of a link is of a run of the link (RFC 23, "Traffic").
use Rattle.std.specs.Prelude.{List}
use Rattle.zq_base.specs.declared.options.EngineOpts.{EngineOpts}
use Rattle.spec_zmtp.specs.DecodedStream.{Decoded}
use Rattle.spec_link.specs.LinkAct.{LinkAct}
use Rattle.spec_link.specs.LinkRun.{IsLinkRun}
use Rattle.link_side.specs.Kept.{Kept, IsKeptOf, IsAtRest}

abbrev pub KeepsALinkRun : Type 0
KeepsALinkRun = (opts : EngineOpts) (acts : List LinkAct) (k : Kept) → IsKeptOf opts acts k → IsAtRest k →
    (d : Decoded) × IsLinkRun opts acts d
