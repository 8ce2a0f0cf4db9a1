-- How a publisher hears its peers, by their places (RFC 29, "The PUB Socket Type", "The XPUB Socket Type").
use Rattle.std.specs.Prelude.{◌≡◌, ℕ, suc, Bool, true, false, List, [], ◌∷◌, ◌++◌, Some, None, length, nat_le, if◌then◌else◌}
use Rattle.std.specs.Map.{keys_of}
use Rattle.zq_base.specs.Message.{Frames}
use Rattle.spec_pattern.specs.PipeStep.{PipeStep}
use Rattle.spec_pattern.specs.TurnList.{End}
use Rattle.spec_pattern.specs.Drops.{Round, Comes}
use Rattle.spec_pattern.specs.Publishing.{Publisher, heard, most_heard, stops_hearing, HearsFrom, Hears, XPubReceives}
use Rattle.spec_pattern.specs.declared.answers.RecvAnswer.{RecvAnswer}
use Rattle.spec_pattern.specs.declared.answers.RecvRefusal.{RecvRefusal}
use Rattle.spec_pattern.specs.declared.answers.RecvRefusal.TheVariants.{Again, Busy}
use Rattle.fair_queue.specs.FairQueue.{ServesNext, FindsNone}
use Rattle.pub_sub.specs.Places.{AreApart, is_place}
use Rattle.pub_sub.specs.Publishers.{PubState, KeepsPeers, publisher_at, obeyed, meant}

-- so many messages were heard, and then these, by turn, and hearing goes on
abbrev pub HearsThrough : ℕ → Publisher → List Round → List PipeStep → Publisher → Type 0
HearsThrough count p [] steps new = (steps ≡ []) × (new ≡ p)
HearsThrough count p (r ∷ rs) steps new =
    (stops_hearing count p ≡ false) × (turns : List End) × (first : List PipeStep) × (rest : List PipeStep)
    × Comes p.ins r first turns × HearsThrough (suc count) (heard r turns p) rs rest new × (steps ≡ first ++ rest)

-- a message of the peer at a place
abbrev pub round_at : (ℕ → End) → ℕ → Frames → Round
round_at ends place m = record { peer = ends place; message = m }

-- how many were heard, with these
abbrev pub count_after : ℕ → List Round → ℕ
count_after count [] = count
count_after count (r ∷ rs) = count_after (suc count) rs

-- why a receive gives nothing that heard as many as it may, or fewer
abbrev pub refusal_of : Bool → RecvRefusal
refusal_of most = if most then Busy else Again

module _ {S : Type 0} (runs : S → List PipeStep → S → Type 0) (ends : ℕ → End) where
  -- one message came by turn, and was obeyed
  pub record HearsOne (old new : S) (p p' : PubState) : Type 0 where
    pub place : ℕ
    pub message : Frames
    pub turns : List ℕ
    pub steps : List PipeStep
    pub runs_are : runs old steps new
    pub comes : ServesNext ends p.ins steps place message turns
    pub known : is_place (keys_of p.subs) place ≡ true
    pub new_is : p' ≡ obeyed (ends place).pair place message (record p { ins = turns })

  -- one message came by turn, and is kept
  pub record KeepsOne (old new : S) (p p' : PubState) : Type 0 where
    pub place : ℕ
    pub message : Frames
    pub turns : List ℕ
    pub steps : List PipeStep
    pub runs_are : runs old steps new
    pub comes : ServesNext ends p.ins steps place message turns
    pub known : is_place (keys_of p.subs) place ≡ true
    pub new_is : p' ≡ record p { ins = turns; kept = Some (place, message) }

  -- no peer had a message
  pub record HearsNone (old new : S) (p p' : PubState) : Type 0 where
    pub steps : List PipeStep
    pub runs_are : runs old steps new
    pub none : FindsNone ends p.ins steps p'.ins
    pub new_is : p' ≡ p

  -- a message was heard, or there was none
  abbrev pub HearsNext : S → S → PubState → Bool → PubState → Type 0
  HearsNext old new p true p' = HearsOne old new p p'
  HearsNext old new p false p' = HearsNone old new p p'

  -- so many messages were heard since the start, and hearing goes on
  pub record IsHearing (start now : S) (first p : PubState) (count : ℕ) : Type 0 where
    pub rounds : List Round
    pub steps : List PipeStep
    pub runs_are : runs start steps now
    pub counted : count_after 0 rounds ≡ count
    pub kept_is : p.kept ≡ None
    pub same : KeepsPeers first p
    pub through : AreApart ends (keys_of first.subs) → HearsThrough 0 (publisher_at ends first) rounds steps (publisher_at ends p)

  -- the calls between the two states made the steps of a hearing, and it heard as many as it may or fewer
  pub record HearsAll (old new : S) (p : PubState) (most : Bool) (p' : PubState) : Type 0 where
    pub rounds : List Round
    pub steps : List PipeStep
    pub runs_are : runs old steps new
    pub counted : nat_le most_heard (length rounds) ≡ most
    pub kept_is : p'.kept ≡ None
    pub hears : AreApart ends (keys_of p.subs) → HearsFrom 0 (publisher_at ends p) rounds steps (publisher_at ends p')

  -- a hearing that met want of memory: what came before the message that it kept was heard
  pub record HearsSome (old new : S) (p p' : PubState) : Type 0 where
    pub rounds : List Round
    pub steps : List PipeStep
    pub runs_are : runs old steps new
    pub hears : AreApart ends (keys_of p.subs) → HearsThrough 0 (publisher_at ends p) rounds steps (publisher_at ends (meant ends p'))

  -- the calls between the two states made the steps of hearing the peers, behind what was kept
  pub record HearsPeers (old new : S) (p p' : PubState) : Type 0 where
    pub steps : List PipeStep
    pub runs_are : runs old steps new
    pub kept_is : p'.kept ≡ None
    pub hears : AreApart ends (keys_of p.subs) → Hears (publisher_at ends (meant ends p)) steps (publisher_at ends p')

  -- hearing met want of memory: what comes first at the next hearing is the last that was heard, or still what was kept before
  pub record StopsHearing (old new : S) (p p' : PubState) : Type 0 where
    pub rounds : List Round
    pub steps : List PipeStep
    pub runs_are : runs old steps new
    pub hears : AreApart ends (keys_of p.subs)
        → HearsThrough 0 (publisher_at ends (meant ends p)) rounds steps (publisher_at ends (meant ends p'))

  -- the calls between the two states made the steps of a receive of the XPUB, behind what was kept
  pub record XPubGives (old new : S) (p : PubState) (answer : RecvAnswer) (p' : PubState) : Type 0 where
    pub steps : List PipeStep
    pub runs_are : runs old steps new
    pub kept_is : p'.kept ≡ None
    pub gives : AreApart ends (keys_of p.subs) → XPubReceives (publisher_at ends (meant ends p)) steps answer (publisher_at ends p')

  -- a receive of the XPUB met want of memory: in hearing, or in making the message that it would have given
  pub data XPubStops (old new : S) (p p' : PubState) : Type 0 where
    in_hearing : StopsHearing old new p p' → XPubStops old new p p'
    in_giving : HearsPeers old new p p' → XPubStops old new p p'
