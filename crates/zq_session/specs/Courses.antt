-- What the steps of a turn do to what a session keeps, whatever happened before (own choice).
use Rattle.std.specs.Prelude.{◌≡◌, ◌⊎◌, ℕ, Bool, true, false, List, [], ◌∷◌, Option, Some, None, IsSome, IfSome, Contains}
use Rattle.std.specs.List.{flat_map}
use Rattle.zq_base.specs.declared.options.EngineOpts.{EngineOpts}
use Rattle.zq_base.specs.declared.options.Peer.{Peer}
use Rattle.msg_pipe.specs.Known.{Known}
use Rattle.spec_control.specs.declared.request.Req.TheVariants.{Shaken}
use Rattle.spec_link.specs.declared.due.Due.{Due}
use Rattle.spec_link.specs.declared.due.Due.TheVariants.{Request}
use Rattle.spec_link.specs.LinkAct.{LinkAct, said_of, heard_of}
use Rattle.spec_link.specs.History.{Basis, SessionEvent, Standing, Given, Dialled, Acted, Closed, EndIs, Told, Tried, GaveUp, IsDue, Handed, after_all}
use Rattle.spec_link.specs.Moving.{has_moved}
use Rattle.spec_link.specs.Turn.{ShakenIsDue}
use Rattle.zq_session.specs.declared.life.Life.{Life}
use Rattle.zq_session.specs.declared.course.Course.{Course}
use Rattle.link_side.specs.declared.behind.Behind.TheVariants.{Nothing}
use Rattle.link_side.specs.Kept.{Kept, Side, IsKeptOf}
use Rattle.link_side.specs.Dials.{DiallerState}
use Rattle.link_side.specs.Calls.{Adds}
use Rattle.zq_session.specs.Lives.{Story, AreDue, basis_of, standing_of}
use Rattle.zq_session.specs.LifeSteps.{IsSame, with_dues}
use Rattle.zq_session.specs.Noting.{AreTopics, IsHeldOf, unsaid_of}
use Rattle.zq_session.specs.Halves.{StepsRun, step_at}
use Rattle.zq_session.specs.Tallies.{HasTally}

-- what is kept of a link, where there is one, is of the acts at it
abbrev pub IsOfLink : EngineOpts → Option (List LinkAct) → Option Side → Type 0
IsOfLink opts None None = Unit {0}
IsOfLink opts None (Some side) = ⊥
IsOfLink opts (Some acts) None = ⊥
IsOfLink opts (Some acts) (Some side) = IsHeldOf opts acts side.behind side.kept

-- what dials is kept exactly of a connecting session
abbrev pub IsOfDials : Bool → Story → Option DiallerState → Type 0
IsOfDials true p None = ⊥
IsOfDials true p (Some d) = (d.opts ≡ p.opts) × ((d.interval ≡ p.interval) × (d.dial_at ≡ p.dial_at))
IsOfDials false p None = Unit {0}
IsOfDials false p (Some d) = ⊥

-- what a session keeps is of this story
pub record HasStory (c : Course) (p : Story) : Type 0 where
  pub due : AreDue c.life c.life.asked p.dues
  pub link : IsOfLink p.opts p.link c.side
  pub dial : IsOfDials c.life.dials p c.dialler
  pub kind_is : p.opts.kind ≡ c.life.kind
  pub topics : AreTopics c.life.dials p.opts p.link p.closed (unsaid_of c.side) c.topics
  pub tally : HasTally c.life.dials p.opts p.link p.closed c.tally

-- where it has a link, all that was read is heard
abbrev pub IsAtEase : Course → Type 0
IsAtEase c = IfSome c.side (λ side. side.behind ≡ Nothing)

-- without a link, the messages that say topics at the next one are made
abbrev pub IsReady : Course → Type 0
IsReady c = c.side ≡ None → IfSome c.topics (λ t. IsSome t.again)

-- the peer whose handshake is to be told is as it was, or of one that became due just now
abbrev pub PeerStep : (old new : Course) → List Due → Type 0
PeerStep old new dues =
    ((new.life.asked.shaken ≡ old.life.asked.shaken) × (new.peer ≡ old.peer))
    ⊎ ((peer : Peer) × (new.peer ≡ Some peer) × Contains dues (Request (Shaken old.life.object peer)))

-- these events happened, and what is kept is of the story with them
pub record CourseStep (old new : Course) (p : Story) (events : List SessionEvent) : Type 0 where
  pub story : Story
  pub after_is : after_all (basis_of old.life p) (standing_of old.life p) events ≡ standing_of new.life story
  pub same : IsSame old.life new.life
  pub opts_is : story.opts ≡ p.opts
  pub interval_is : story.interval ≡ p.interval
  pub handed_is : story.handed ≡ p.handed
  pub grows : (x : Due) → Contains p.dues x → Contains story.dues x
  pub peer_is : PeerStep old new story.dues
  pub keeps : HasStory new story

-- the handshake was told, with the peer
pub record ShakeStep (old new : Life) (peer peer' : Option Peer) (p : Story) (events : List SessionEvent) : Type 0 where
  pub dues : List Due
  pub after_is : after_all (basis_of old p) (standing_of old p) events ≡ standing_of new (with_dues p dues)
  pub due : AreDue new new.asked dues
  pub same : IsSame old new
  pub grows : (x : Due) → Contains p.dues x → Contains dues x
  pub peer_is : ((new.asked.shaken ≡ old.asked.shaken) × (peer' ≡ peer)) ⊎ ((q : Peer) × (peer' ≡ Some q) × Contains dues (Request (Shaken old.object q)))

-- whatever the story, the handshake was said to be done where that is due
abbrev pub ShakesBy : Life → Life → (peer peer' : Option Peer) → Kept → (said : Bool) → Type 0
ShakesBy old new peer peer' k said = (p : Story) (acts : List LinkAct) → AreDue old old.asked p.dues → IsKeptOf p.opts acts k →
    (events : List SessionEvent) × ShakeStep old new peer peer' p events × ShakenIsDue (basis_of old p) (standing_of old p) acts events × (said ≡ has_moved events)

-- the act that an event is, where it is one
abbrev pub act_at : SessionEvent → List LinkAct
act_at Given = []
act_at (Dialled now answer) = []
act_at (Acted act) = act ∷ []
act_at (Closed now why) = []
act_at (EndIs state) = []
act_at (Told now) = []
act_at (Tried left) = []
act_at GaveUp = []
act_at (IsDue due) = []
act_at (Handed due) = []

module _ {S O I N : Type 0} (K : Known S O I N) where
  -- a part of a turn at its link, whatever the story: it did this
  pub record AtLinkBy (does : Basis → List LinkAct → Standing → List SessionEvent → Type 0) (old new : Course) (said said' heard heard' : Option (List ℕ)) (shown : List LinkAct → Type 0) (s : S) (i : Option I) (o : Option O) (s' : S) (i' : Option I) (o' : Option O) (p : Story) : Type 0 where
    pub acts : List LinkAct
    pub is : p.link ≡ Some acts
    pub events : List SessionEvent
    pub did : does (basis_of old.life p) acts (standing_of old.life p) events
    pub step : CourseStep old new p events
    pub steps : StepsRun K (flat_map step_at events) s i o s' i' o'
    pub said_is : Adds said (said_of (flat_map act_at events)) said'
    pub heard_is : Adds heard (heard_of (flat_map act_at events)) heard'
    pub shown_is : shown (flat_map act_at events)
