-- Two sides of one link (RFC 23, "Traffic"). That a link gives its reader a front of what was written to it is a premise.
use Rattle.std.specs.Prelude.{List, All}
use mathlib.Core.List.{IsPrefix}
use Rattle.zq_base.specs.declared.options.EngineOpts.{EngineOpts}
use Rattle.spec_zmtp.specs.OwnCommands.{IsEngineOpts}
use Rattle.spec_zmtp.specs.Put.{IsSendable}
use Rattle.spec_zmtp.specs.DecodedStream.{Decoded}
use Rattle.spec_link.specs.LinkAct.{LinkAct, said_of, heard_of, offered_of, put_of}
use Rattle.spec_link.specs.LinkRun.{IsLinkRun}

-- the messages heard, and those put, are a front of those that were offered at the other side, whoever that is
pub record Crosses (xs ys : List LinkAct) (e : Decoded) : Type 0 where
  pub heard : IsPrefix e.messages (offered_of xs)
  pub put : IsPrefix (put_of ys) (offered_of xs)

abbrev pub CrossesWhole : Type 0
CrossesWhole = (opts other : EngineOpts) (xs ys : List LinkAct) (d e : Decoded) → IsEngineOpts opts →
    IsLinkRun opts xs d → IsLinkRun other ys e → All IsSendable (offered_of xs) → IsPrefix (heard_of ys) (said_of xs) →
    Crosses xs ys e
