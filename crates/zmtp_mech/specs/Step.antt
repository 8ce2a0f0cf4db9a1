-- A step of a mechanism against what it adds to the handshake (RFC 23; RFC 24).
use Rattle.std.specs.Prelude.{◌≡◌}
use Rattle.spec_zmtp.specs.Handshake.{Handshake}
use Rattle.zmtp_mech.specs.declared.steps.Step.{Step}
use Rattle.zmtp_mech.specs.Mechanism.{answer_of}

-- a step's answer and stage are those of what an item adds
pub record Shows (s : Step) (h : Handshake) : Type 0 where
  pub answer : s.answer ≡ answer_of h
  pub stage : s.stage ≡ h.stage
