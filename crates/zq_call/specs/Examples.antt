-- Worked examples of what is told of a peer's octets (own format), so that a wrong rule in the definitions does not check.
use Rattle.std.specs.Prelude.{◌≡◌, [], ◌∷◌, None, Some, codes}
use Rattle.zq_base.specs.declared.kind.Kind.TheVariants.{Pull, Push, Router}
use Rattle.spec_zmtp.specs.declared.cause.Cause.TheVariants.{BadFlags}
use Rattle.spec_zmtp.specs.DecodedStream.{Unfinished, Refused}
use Rattle.zq_call.specs.HearText.{hear_opts, hear_text, message_text, outcome_text, peer_text}

pub record TextsWork : Type 0 where
  -- before a peer's first octet a PULL has said its greeting
  pub nothing :
      hear_text (hear_opts Pull None) (record { said = []; peer = None; messages = []; outcome = Unfinished 0 })
      ≡ codes "said ff00000000000000007f03004e554c4c000000000000000000000000000000000000000000000000000000000000000000000000000000000000000000000000\nrest 0\n"
  -- a PUSH is known, and one whole message of it is followed by six octets of the next
  pub heard :
      hear_text (hear_opts Pull None) (record { said = []; peer = Some (record { kind = Push; identity = [] }); messages = (codes "hello" ∷ []) ∷ []; outcome = Unfinished 6 })
      ≡ codes "said ff00000000000000007f03004e554c4c000000000000000000000000000000000000000000000000000000000000000000000000000000000000000000000000\npeer PUSH -\nmsg hello\nrest 6\n"
  -- a frame that is empty, one that is text, one that isn't
  pub frames : message_text ([] ∷ codes "ab" ∷ (0 ∷ 1 ∷ []) ∷ []) ≡ codes "msg - ab 0x0001\n"
  pub named : peer_text (Some (record { kind = Router; identity = 7 ∷ [] })) ≡ codes "peer ROUTER 0x07\n"
  pub refused : outcome_text (Refused (record { cause = BadFlags; offset = 65 })) ≡ codes "refused BadFlags at 65\n"
  -- what is unfinished is counted
  pub counted : outcome_text (Unfinished 1) ≡ outcome_text (Unfinished 2) → ⊥
