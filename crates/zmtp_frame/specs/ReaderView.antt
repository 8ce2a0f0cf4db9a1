-- What the fields of a reader stand for.
use Rattle.std.specs.Prelude.{◌<◌, take}
use Rattle.spec_zmtp.specs.FrameEncoding.{IsCutHead}
use Rattle.zmtp_frame.specs.declared.reader.Phase.{Phase}
use Rattle.zmtp_frame.specs.declared.reader.Phase.TheVariants as phase
use Rattle.zmtp_frame.specs.declared.reader.FrameReader.TheInside.{Inside}
use Rattle.zmtp_frame.specs.Reading.{Stage, InHead, InBody, SawBadFlags, SawTooLong}

-- the stage in this phase
abbrev pub stage_in : Phase → Inside → Stage
stage_in phase.InHead r = InHead (take r.have r.head)
stage_in phase.InBody r = InBody r.left
stage_in (phase.BadFlags flags) r = SawBadFlags flags
stage_in (phase.TooLong size) r = SawTooLong size

-- the stage of a reader
abbrev pub stage_of : Inside → Stage
stage_of r = stage_in r.phase r

-- the octets kept are less than a head
pub record IsReader (r : Inside) : Type 0 where
  pub small : r.have < 9
  pub cut : IsCutHead (take r.have r.head)
