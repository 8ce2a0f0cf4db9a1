-- A session, by all that happened to it (own choice).
use Rattle.std.specs.Prelude.{◌≡◌, ℕ, Bool, true, false, List, [], ◌∷◌, ◌++◌, Option, Some, is_some, Contains}
use Rattle.std.specs.List.{flat_map}
use Rattle.msg_pipe.specs.Known.{Known, IsThere}
use Rattle.zq_base.specs.declared.options.Peer.{Peer}
use Rattle.spec_control.specs.declared.request.Req.TheVariants.{Shaken}
use Rattle.spec_link.specs.declared.due.Due.TheVariants.{Request}
use Rattle.spec_link.specs.History.{Basis, SessionEvent, Standing, standing}
use Rattle.zq_session.specs.declared.course.Course.{Course}
use Rattle.zq_session.specs.declared.life.Asked.{Asked}
use Rattle.zq_session.specs.Lives.{Story, AreDue, basis_of, standing_of}
use Rattle.zq_session.specs.Halves.{AreThere, StepsRun, step_at}
use Rattle.zq_session.specs.Courses.{HasStory, act_at}
use Rattle.zq_session.specs.Turns.{IsToldBy}
use Rattle.zq_session.specs.declared.turned.Turned.{Turned}
use Rattle.zq_session.specs.Moved.{Turns}

-- what a session keeps of what happened, what of it was handed to the plane, and the halves of its end
pub record SessionState (O I : Type 0) : Type 0 where
  pub course : Course
  pub given : Asked
  pub input : Option I
  pub out : Option O

-- each flag tells whether that was handed to the plane; the peer of a handshake that wasn't is kept
pub record IsHanded (c : Course) (given : Asked) (p : Story) : Type 0 where
  pub given_is : AreDue c.life given p.handed
  pub peer : c.life.asked.shaken ≡ true → given.shaken ≡ false → (q : Peer) × (c.peer ≡ Some q) × Contains p.dues (Request (Shaken c.life.object q))

-- what a session keeps is of this history, by this basis
abbrev pub HasLived : {O I : Type 0} → Basis → List SessionEvent → SessionState O I → Type 0
HasLived b history v =
    (p : Story) × (basis_of v.course.life p ≡ b) × (standing b history ≡ standing_of v.course.life p) × HasStory v.course p × IsHanded v.course v.given p

-- it has a link
abbrev pub has_link : {O I : Type 0} → SessionState O I → Bool
has_link v = is_some v.course.side

-- this happened, whatever happened before
abbrev pub Happens : {O I : Type 0} → SessionState O I → SessionEvent → SessionState O I → Type 0
Happens old event new = (b : Basis) (history : List SessionEvent) → HasLived b history old → HasLived b (history ++ event ∷ []) new

module _ {S O I N : Type 0} (K : Known S O I N) where
  -- the halves that its end needs are there
  abbrev pub AreAt : S → SessionState O I → Type 0
  AreAt s v = AreThere K v.course.life.state s v.input v.out

module _ {S O I N L : Type 0} (K : Known S O I N) where
  -- a call by a reading of the clock did this, behind this history: the halves and the link did what stands among its events, and all pipes are there still
  pub record Did (heard said : L → Option (List ℕ)) (faults stalls ends : L → ℕ) (does : Basis → Standing → ℕ → List SessionEvent → Type 0) (b : Basis) (history : List SessionEvent) (now : ℕ) (old new : SessionState O I) (link link' : Option L) (s s' : S) : Type 0 where
    pub events : List SessionEvent
    pub did : does b (standing b history) now events
    pub lived : HasLived b (history ++ events) new
    pub steps : StepsRun K (flat_map step_at events) s old.input old.out s' new.input new.out
    pub told : IsToldBy heard said faults stalls ends link (flat_map act_at events) link'
    pub there : (n : N) → IsThere K s n → IsThere K s' n

  -- a turn, or a part of one, with what it told; whatever the history
  abbrev pub TurnsOn : (heard said : L → Option (List ℕ)) (faults stalls ends : L → ℕ) → (Basis → Standing → ℕ → List SessionEvent → Type 0) → Turned → (now : ℕ) (old new : SessionState O I) (link link' : Option L) (s s' : S) → Type 0
  TurnsOn heard said faults stalls ends does turned now old new link link' s s' = (b : Basis) (history : List SessionEvent) → HasLived b history old →
      Did heard said faults stalls ends (Turns turned does) b history now old new link link' s s'

  -- the same of one that memory cut short
  abbrev pub CutsOn : (heard said : L → Option (List ℕ)) (faults stalls ends : L → ℕ) → (Basis → Standing → ℕ → List SessionEvent → Type 0) → (now : ℕ) (old new : SessionState O I) (link link' : Option L) (s s' : S) → Type 0
  CutsOn heard said faults stalls ends cuts now old new link link' s s' = (b : Basis) (history : List SessionEvent) → HasLived b history old →
      Did heard said faults stalls ends cuts b history now old new link link' s s'
