-- A REP over its attached ends, by their places (RFC 28, "The REP Socket Type").
use Rattle.std.specs.Prelude.{◌≡◌, ℕ, Bool, List, ◌++◌, Some, None, map}
use Rattle.zq_base.specs.Message.{Frames}
use Rattle.spec_pattern.specs.PipeStep.{PipeStep}
use Rattle.spec_pattern.specs.TurnList.{End}
use Rattle.spec_pattern.specs.Duty.{Duty, Free, Owing}
use Rattle.spec_pattern.specs.RequestReply.{RepSends, RepReceives, request_of}
use Rattle.spec_pattern.specs.declared.answers.Rule.TheVariants.{BadEnv}
use Rattle.spec_pattern.specs.declared.answers.Skip.{Skip}
use Rattle.spec_pattern.specs.declared.answers.SendAnswer.{SendAnswer}
use Rattle.spec_pattern.specs.declared.answers.RecvAnswer.{RecvAnswer}
use Rattle.spec_pattern.specs.Dropping.{receiving, DropsFew}
use Rattle.req_rep.specs.declared.partner.Partner.{Partner}
use Rattle.req_rep.specs.declared.partner.Partner.TheVariants.{Nobody, At, Gone}

-- a REP: its ends in the order of their turns, the peer that a reply is owed to, and the envelope of that reply (none where none is owed)
pub record RepState : Type 0 where
  pub ins : List ℕ
  pub owed : Partner
  pub envelope : Frames

-- what is under way
abbrev pub owed_duty : (ℕ → End) → Partner → Frames → Duty
owed_duty ends Nobody envelope = Free
owed_duty ends (At place) envelope = Owing (Some (ends place)) envelope
owed_duty ends Gone envelope = Owing None envelope

-- the test says of the end that a reply is owed to whether it can be written
abbrev pub TellsPartner : (End → Bool) → (ℕ → End) → (ℕ → Bool) → Partner → Type 0
TellsPartner can_write ends writable Nobody = Unit {0}
TellsPartner can_write ends writable (At place) = can_write (ends place) ≡ writable place
TellsPartner can_write ends writable Gone = Unit {0}

module _ {S : Type 0} (runs : S → List PipeStep → S → Type 0) (ends : ℕ → End) where
  -- the calls between the two states made the steps of a send of the REP
  pub record RepSent (writable : ℕ → Bool) (m : Frames) (old new : S) (r : RepState) (answer : SendAnswer) (r' : RepState) : Type 0 where
    pub steps : List PipeStep
    pub runs_are : runs old steps new
    pub step : (can_write : End → Bool) → TellsPartner can_write ends writable r.owed →
        RepSends can_write m (owed_duty ends r.owed r.envelope) steps answer (owed_duty ends r'.owed r'.envelope)

  -- the calls between the two states made the steps of a receive of the REP, and what it dropped was told
  pub record RepGot (old new : S) (told told' : List Skip) (r : RepState) (answer : RecvAnswer) (r' : RepState) : Type 0 where
    pub steps : List PipeStep
    pub runs_are : runs old steps new
    pub skips : List Skip
    pub step : RepReceives (map ends r.ins) (owed_duty ends r.owed r.envelope) steps skips answer (map ends r'.ins) (owed_duty ends r'.owed r'.envelope)
    pub told_are : told' ≡ told ++ skips

  -- a receive of the REP that met want of memory: what it dropped before stays dropped
  pub record RepStopped (old new : S) (told told' : List Skip) (r r' : RepState) : Type 0 where
    pub dropped : DropsFew runs ends request_of BadEnv (receiving old r.ins told) (receiving new r'.ins told')
    pub owed_is : r'.owed ≡ r.owed
    pub envelope_is : r'.envelope ≡ r.envelope
