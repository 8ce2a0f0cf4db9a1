-- A REQ over its attached ends, by their places (RFC 28, "The REQ Socket Type").
use Rattle.std.specs.Prelude.{◌≡◌, ℕ, Bool, true, List, ◌++◌, Option, Some, None, map}
use Rattle.std.specs.Option.{option_map}
use Rattle.zq_base.specs.Message.{Frames}
use Rattle.zq_base.specs.declared.ids.PairId.{PairId}
use Rattle.spec_pattern.specs.PipeStep.{PipeStep}
use Rattle.spec_pattern.specs.TurnList.{End}
use Rattle.spec_pattern.specs.Duty.{Duty, Free, Asked}
use Rattle.spec_pattern.specs.Drops.{Given}
use Rattle.spec_pattern.specs.RequestReply.{ReqSends, ReqReceives, reply_of}
use Rattle.spec_pattern.specs.declared.answers.Rule.TheVariants.{Stray}
use Rattle.spec_pattern.specs.declared.answers.Skip.{Skip}
use Rattle.spec_pattern.specs.declared.answers.SendAnswer.{SendAnswer}
use Rattle.spec_pattern.specs.declared.answers.RecvAnswer.{RecvAnswer}
use Rattle.spec_pattern.specs.AtPlaces.{TellsWritable}
use Rattle.spec_pattern.specs.Dropping.{receiving, DropsFew}
use Rattle.req_rep.specs.Partners.{end_of}
use Rattle.req_rep.specs.declared.partner.Partner.{Partner}
use Rattle.req_rep.specs.declared.partner.Partner.TheVariants.{Nobody, At, Gone}

-- a REQ: its ends in the order of their turns for sending and for receiving, and the peer that was asked
pub record ReqState : Type 0 where
  pub outs : List ℕ
  pub ins : List ℕ
  pub asked : Partner

-- what is under way
abbrev pub asked_duty : (ℕ → End) → Partner → Duty
asked_duty ends Nobody = Free
asked_duty ends (At place) = Asked (Some (ends place))
asked_duty ends Gone = Asked None

-- an end of the pair
abbrev pub end_of_pair : PairId → End
end_of_pair pair = record { pair = pair; a = true }

-- what a message gives where the peer of this pair was asked; either end of it says as much
abbrev pub reply_by : Option PairId → End → Frames → Option Given
reply_by asked e m = reply_of (option_map end_of_pair asked) e m

module _ {S : Type 0} (runs : S → List PipeStep → S → Type 0) (ends : ℕ → End) where
  -- the calls between the two states made the steps of a send of the REQ
  pub record ReqSent (writable : ℕ → Bool) (m : Frames) (old new : S) (r : ReqState) (answer : SendAnswer) (r' : ReqState) : Type 0 where
    pub steps : List PipeStep
    pub runs_are : runs old steps new
    pub step : (can_write : End → Bool) → TellsWritable can_write ends writable r.outs →
        ReqSends can_write m (map ends r.outs) (asked_duty ends r.asked) steps answer (map ends r'.outs) (asked_duty ends r'.asked)

  -- the calls between the two states made the steps of a receive of the REQ, and what it dropped was told
  pub record ReqGot (old new : S) (told told' : List Skip) (r : ReqState) (answer : RecvAnswer) (r' : ReqState) : Type 0 where
    pub steps : List PipeStep
    pub runs_are : runs old steps new
    pub skips : List Skip
    pub step : ReqReceives (map ends r.ins) (asked_duty ends r.asked) steps skips answer (map ends r'.ins) (asked_duty ends r'.asked)
    pub told_are : told' ≡ told ++ skips

  -- a receive of the REQ that met want of memory: what it dropped before stays dropped
  pub record ReqStopped (old new : S) (told told' : List Skip) (r r' : ReqState) : Type 0 where
    pub dropped : DropsFew runs ends (reply_of (end_of ends r.asked)) Stray (receiving old r.ins told) (receiving new r'.ins told')
    pub asked_is : r'.asked ≡ r.asked
