-- Whether the parts of a turn at a link moved something, by their answers (own choice).
use Rattle.std.specs.Prelude.{◌≡◌, ℕ, Bool, true, false, ◌||◌, List, Option, Some, None}
use Rattle.zq_outer.specs.declared.link.LinkGot.{LinkGot}
use Rattle.zq_outer.specs.declared.link.LinkPut.{LinkPut}
use Rattle.spec_link.specs.LinkAct.{LinkAct}
use Rattle.spec_link.specs.History.{Basis, SessionEvent, Standing}
use Rattle.spec_link.specs.Moving.{put_moves, got_moves, has_moved}
use Rattle.link_side.specs.declared.read_part.Heard.{Heard}
use Rattle.link_side.specs.declared.wire.Fetched.{Fetched}
use Rattle.link_side.specs.declared.wire.Fetched.TheVariants as fetched
use Rattle.link_side.specs.declared.write_part.Written.{Written}
use Rattle.zq_session.specs.declared.turned.Turned.{Turned}
use Rattle.zq_session.specs.declared.turned.Turned.TheVariants.{Moved, Idle}

abbrev pub moved_put : Option LinkPut → Bool
moved_put None = false
moved_put (Some answer) = put_moves answer

abbrev pub moved_got : Option LinkGot → Bool
moved_got None = false
moved_got (Some answer) = got_moves answer

-- a take found a message or the delimiter, or a topic was said in its place
abbrev pub moved_look : Option Fetched → Bool
moved_look None = false
moved_look (Some fetched.One) = true
moved_look (Some fetched.None) = false
moved_look (Some fetched.Delimiter) = true

abbrev pub writing_moved : Written → Bool
writing_moved done = moved_put done.put || moved_look done.look

abbrev pub reading_moved : Heard → Bool
reading_moved done = moved_got done.got || done.put

-- what a turn, or a part of one, tells of that
abbrev pub turned_by : Bool → Turned
turned_by true = Moved
turned_by false = Idle

-- of one behind the other
abbrev pub is_one_of : Turned → Turned → Turned
is_one_of Moved second = Moved
is_one_of Idle second = second

-- a part at a link did this, and it is told whether it moved
abbrev pub MovesAt : Bool → (Basis → List LinkAct → Standing → List SessionEvent → Type 0) → Basis → List LinkAct → Standing → List SessionEvent → Type 0
MovesAt moved does b acts s events = does b acts s events × (moved ≡ has_moved events)

-- the same of a turn, or of a part of one
abbrev pub MovesBy : Bool → (Basis → Standing → ℕ → List SessionEvent → Type 0) → Basis → Standing → ℕ → List SessionEvent → Type 0
MovesBy moved does b s now events = does b s now events × (moved ≡ has_moved events)

abbrev pub Turns : Turned → (Basis → Standing → ℕ → List SessionEvent → Type 0) → Basis → Standing → ℕ → List SessionEvent → Type 0
Turns turned does b s now events = does b s now events × (turned ≡ turned_by (has_moved events))
