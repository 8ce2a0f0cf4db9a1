-- The objects that an event may end (own choice, after libzmq's `own_t`).
use Rattle.std.specs.Prelude.{List, [], ◌∷◌, flat_map}
use Rattle.zq_base.specs.declared.ids.ObjId.{ObjId}
use Rattle.spec_control.specs.declared.request.Req.{Req}
use Rattle.spec_control.specs.declared.request.Req.TheVariants.{Socket, AskTerm, Bind, Connect, Unbind, Disconnect, Close, Accepted, Shaken, AskEnd, AskOver, OutputOver}
use Rattle.spec_control.specs.declared.request.Reply.{Reply}
use Rattle.spec_control.specs.declared.request.Reply.TheVariants.{Done, Object, Pair, Both, Wait, Asked as WasAsked, Before, Refused}
use Rattle.spec_control.specs.declared.entry.Did.{Did}
use Rattle.spec_control.specs.declared.entry.Did.TheVariants.{Asked, Delivered, Delimited}

-- the root, where it is asked now
abbrev pub root_ender : Reply → List ObjId
root_ender Done = []
root_ender (Object o) = []
root_ender (Pair p) = []
root_ender (Both o p) = []
root_ender Wait = []
root_ender WasAsked = record { 0 = 0 } ∷ []
root_ender Before = []
root_ender (Refused refusal) = []

-- in a request the root that is asked now, or the session whose output is over
abbrev pub request_ender : Req → Reply → List ObjId
request_ender (Socket kind options) reply = []
request_ender AskTerm reply = root_ender reply
request_ender (Bind o at) reply = []
request_ender (Connect o at) reply = []
request_ender (Unbind o at) reply = []
request_ender (Disconnect o at) reply = []
request_ender (Close o) reply = []
request_ender (Accepted o) reply = []
request_ender (Shaken o peer) reply = []
request_ender (AskEnd e reason) reply = []
request_ender (AskOver o) reply = []
request_ender (OutputOver o) reply = o ∷ []

module _ {N S : Type 0} where
  -- and in a delivery who gets the command
  abbrev pub ender_of : Did N S → List ObjId
  ender_of (Asked req reply h) = request_ender req reply
  ender_of (Delivered slot letter h) = letter.to ∷ []
  ender_of (Delimited e h) = []

  -- in all of these, in order
  abbrev pub enders_in : List (Did N S) → List ObjId
  enders_in events = flat_map ender_of events
