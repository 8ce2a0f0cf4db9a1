-- A turn that memory cut short, and its parts, whatever happened before (own choice).
use Rattle.std.specs.Prelude.{◌≡◌, ◌⊎◌, ◌&&◌, ℕ, true, false, List, [], ◌++◌, Option, Some, None, map}
use Rattle.zq_outer.specs.declared.link.LinkGot.{LinkGot}
use Rattle.spec_link.specs.LinkAct.{LinkAct}
use Rattle.spec_link.specs.Parts.{ReadFits, read_acts}
use Rattle.spec_link.specs.History.{Basis, SessionEvent, Acted, Standing, after_all}
use Rattle.spec_link.specs.Turn.{IsRefused, WritesAt, ReadsAt, subscribes}
use Rattle.spec_link.specs.TurnParts.{IsLinkWrite}
use Rattle.zq_session.specs.declared.life.ReadMode.{ReadMode}
use Rattle.zq_session.specs.Beginning.{IsCutPart}
use Rattle.zq_session.specs.Doing.{ReadsOnce}
use Rattle.zq_session.specs.Reading.{IsReading}
use Rattle.zq_session.specs.Unlinked.{IsCutDial}

-- A part that memory cut short did what stands before the place where memory wanted. There are six such places, and each leaves a case of its own:
-- what memory left undone before is to be heard or offered, or the messages that say topics are to be made, at the beginning of a part: it gave up where its linger is over, which wants no memory, and nothing more (`IsCutPart`);
-- the same at the beginning of a reading part that is made alone: nothing (the first case of `IsCutRead`); behind a writing part nothing is left undone;
-- the side of the link that it would dial: the look at the front of its pipe alone (`IsCutDial`);
-- the topic of a message that it took: the writing part alone (`WritesCut`);
-- the octets that it read: the read, without a put, since a message that isn't heard can't be put (`ReadsAlone`);
-- the peer whose handshake it would tell: the reading part, without that (`ReadsCut`).
-- What is due first, a take, a write, a put and the end of a link want none. So the events are those of a part, up to that place, and the next one is one like any other.

-- ---- the parts

-- without a link
abbrev pub IsCutDialAt : Basis → Standing → Option (List LinkAct) → ℕ → List SessionEvent → Type 0
IsCutDialAt b s None now more = IsCutDial now b s more
IsCutDialAt b s (Some acts) now more = ⊥

abbrev pub IsCutDialPart : Basis → Standing → ℕ → List SessionEvent → Type 0
IsCutDialPart b s now more = IsCutDialAt b s s.link now more

-- of a session that says topics, the writing part alone
abbrev pub WritesCut : Basis → List LinkAct → Standing → List SessionEvent → Type 0
WritesCut b acts s more =
    ((b.dials && subscribes b.opts.kind) ≡ true) × ((IsRefused b acts → ⊥)
    × ((writes : List LinkAct) × WritesAt b s acts writes × (more ≡ map (λ a. Acted a) writes)))

abbrev pub IsCutWriteAt : Basis → Standing → Option (List LinkAct) → ℕ → List SessionEvent → Type 0
IsCutWriteAt b s None now more = ⊥
IsCutWriteAt b s (Some acts) now more = IsCutPart b s now (WritesCut b acts) more

abbrev pub IsCutWrite : Basis → Standing → ℕ → List SessionEvent → Type 0
IsCutWrite b s now more = IsCutWriteAt b s s.link now more

-- of the reading part its read alone, where it was due
pub record ReadsAlone (b : Basis) (s : Standing) (acts reads : List LinkAct) : Type 0 where
  pub unrefused : IsRefused b acts → ⊥
  pub answer : Option LinkGot
  pub octets : List ℕ
  pub fits : ReadFits answer octets
  pub read : reads ≡ read_acts answer octets
  pub how : ReadMode
  pub reading : IsReading b.opts.kind s.state s.told how
  pub once : ReadsOnce how b.opts acts answer

-- that, or all of it but for the handshake
abbrev pub ReadsCut : Basis → List LinkAct → Standing → List SessionEvent → Type 0
ReadsCut b acts s more =
    (reads : List LinkAct) × (more ≡ map (λ a. Acted a) reads)
    × (ReadsAlone b s acts reads ⊎ ((IsRefused b acts × (reads ≡ [])) ⊎ ((IsRefused b acts → ⊥) × ReadsAt b s acts reads)))

abbrev pub IsCutReadAt : (behind : Type 0) → Basis → Standing → Option (List LinkAct) → List SessionEvent → Type 0
IsCutReadAt behind b s None more = ⊥
IsCutReadAt behind b s (Some acts) more = (s.gave_up ≡ false) × ((behind × (more ≡ [])) ⊎ ReadsCut b acts s more)

-- the first case only where something was left undone before
abbrev pub IsCutRead : (behind : Type 0) → Basis → Standing → ℕ → List SessionEvent → Type 0
IsCutRead behind b s now more = IsCutReadAt behind b s s.link more

-- ---- the turn

-- the writing part was made, and the reading part was cut short
pub record ReadsCutBehind (b : Basis) (s : Standing) (now : ℕ) (more : List SessionEvent) : Type 0 where
  pub writes : List SessionEvent
  pub reads : List SessionEvent
  pub all : more ≡ writes ++ reads
  pub write : IsLinkWrite b s now writes
  pub read : IsCutRead ⊥ b (after_all b s writes) now reads

abbrev pub IsCutTurnAt : Basis → Standing → Option (List LinkAct) → ℕ → List SessionEvent → Type 0
IsCutTurnAt b s None now more = IsCutDialPart b s now more
IsCutTurnAt b s (Some acts) now more = IsCutWrite b s now more ⊎ ReadsCutBehind b s now more

abbrev pub IsCutTurn : Basis → Standing → ℕ → List SessionEvent → Type 0
IsCutTurn b s now more = IsCutTurnAt b s s.link now more
