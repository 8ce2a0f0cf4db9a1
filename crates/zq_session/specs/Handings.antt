-- What a session hands to the plane, by its flags; and its last calls at the halves of its end (own choice).
use Rattle.std.specs.Prelude.{◌≡◌, ◌-◌, true, false, length, Option, Some}
use Rattle.zq_base.specs.declared.options.Peer.{Peer}
use Rattle.zq_base.specs.declared.ids.Settled.{Settled}
use Rattle.msg_pipe.specs.Known.{Known, KeepsButOut, KeepsButPipe}
use Rattle.spec_pattern.specs.Half.{with_delimiter, AreHalves}
use Rattle.spec_control.specs.declared.request.Req.TheVariants.{Shaken}
use Rattle.spec_link.specs.declared.due.Due.{Due}
use Rattle.spec_link.specs.declared.due.Due.TheVariants.{Request}
use Rattle.zq_session.specs.declared.life.Asked.{Asked}
use Rattle.zq_session.specs.declared.course.Course.{Course}

-- the handshake became due and wasn't handed out, and from now on it was, with its peer
pub record HandsShaken (old new : Course) (given given' : Asked) (due : Due) : Type 0 where
  pub peer : Peer
  pub was : old.peer ≡ Some peer
  pub asked : old.life.asked.shaken ≡ true
  pub once : given.shaken ≡ false
  pub due_is : due ≡ Request (Shaken old.life.object peer)
  pub given_is : given' ≡ record given { shaken = true }
  pub life_is : new.life ≡ old.life
  pub side_is : new.side ≡ old.side
  pub dialler_is : new.dialler ≡ old.dialler
  pub topics_is : new.topics ≡ old.topics
  pub tally_is : new.tally ≡ old.tally

module _ {S O I N : Type 0} (K : Known S O I N) where
  -- the delimiter was written behind all that was put
  pub record SealsAt (s : S) (o : Option O) (s' : S) (o' : Option O) : Type 0 where
    pub old : O
    pub new : O
    pub was : o ≡ Some old
    pub is : o' ≡ Some new
    pub seals : K.writing s' new ≡ with_delimiter (K.writing s old)
    pub keeps : KeepsButOut K old new s s'

  -- the halves of the pipe that its end read were joined
  pub record SettlesAt (s : S) (i : Option I) (writer : O) (s' : S) (settled : Settled) : Type 0 where
    pub half : I
    pub was : i ≡ Some half
    pub sent : settled.sent ≡ length (K.writing s writer).committed
    pub got : settled.got ≡ length (K.reading s half).taken
    pub rest : settled.rest ≡ settled.sent - settled.got
    pub halves : AreHalves (K.writing s writer) (K.reading s half)
    pub keeps : KeepsButPipe K (K.out_name writer) s s'
