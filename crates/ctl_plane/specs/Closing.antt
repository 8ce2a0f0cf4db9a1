-- A socket is closed with its holder, which gives its ends away (zmq_close(3)).
use Rattle.std.specs.Prelude.{◌≡◌, List, map}
use Rattle.zq_base.specs.declared.ids.ObjId.{ObjId}
use Rattle.spec_control.specs.declared.entry.Answered.{Answered}
use Rattle.spec_control.specs.declared.entry.Did.TheVariants.{Asked}
use Rattle.spec_control.specs.declared.request.Req.TheVariants.{Close}
use Rattle.spec_control.specs.declared.request.Reply.TheVariants.{Done}
use Rattle.desk.specs.declared.given.Given.{Given}
use Rattle.desk.specs.Holding.{AllSealed, Holding, held_given}
use Rattle.desk.specs.TakingOver.{AreGivenWith}
use Rattle.msg_pipe.specs.Known.{Known}
use Rattle.ctl_plane.specs.Past.{Past, with_event, with_given}
use Rattle.ctl_moves.specs.Processing.{IsSilent}

module _ {P N O I S : Type 0} (K : Known P O I N) where
  -- the close was noted, and all ends that the holder had of the socket are on their way, as they stood there, with halves of its pipes; it was told to seal these pipes, of those that have their delimiters
  pub record Closes (pipes : P) (h : Holding N) (socket : ObjId) (old new : Past (Given N O I) N S) : Type 0 where
    pub ends : List (Given N O I)
    pub answered : Answered N S
    pub silent : IsSilent answered
    pub given : AreGivenWith K pipes ends
    pub sealed : AllSealed h.sealed ends
    pub all : map (held_given K.out_name K.in_name) ends ≡ h.ends socket.0
    pub step : new ≡ with_given ends (with_event (Asked (Close socket) Done answered) old)
