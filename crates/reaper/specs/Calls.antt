-- What a call of the reaper on its desk leaves of the closed sockets and their pipes (own choice, after libzmq's `reaper_t`).
use Rattle.std.specs.Prelude.{◌≡◌, ℕ, List}
use Rattle.zq_base.specs.declared.ids.EndId.{EndId}
use Rattle.msg_pipe.specs.Known.{Known}
use Rattle.msg_pipe.specs.declared.pipes.Front.{Front}
use Rattle.msg_pipe.specs.declared.pipes.Front.TheVariants.{Message, Empty, Delimiter}
use Rattle.desk.specs.declared.given.Given.{Given}
use Rattle.desk.specs.Holding.{Stays}
use Rattle.desk.specs.Desk.{HasWhatTheySay, KeepsUp}
use Rattle.plain_desk.specs.Lent.{Lent, Meets, moments_of}
use Rattle.end_table.specs.declared.changes.PipeChange.{PipeChange}
use Rattle.closed_ends.specs.declared.sockets.ClosedSockets.{ClosedSockets}
use Rattle.closed_ends.specs.Coming.{HasCome}
use Rattle.closed_ends.specs.Ending.{LooksOnce, seals_told}
use Rattle.closed_ends.specs.Finding.{AreIndexed}
use Rattle.closed_ends.specs.Has.{all_ends, holding_in}
use Rattle.closed_ends.specs.Noted.{HasDoneTo}
use Rattle.closed_ends.specs.Others.{Leaves}
use Rattle.closed_ends.specs.Sound.{AreSound}

module _ {S O I N : Type 0} (K : Known S O I N) where
  -- the ends of closed sockets are those of the pipes, and each socket is found by its number
  pub record FitsClosed (pipes : S) (c : ClosedSockets N O I) : Type 0 where
    pub sound : AreSound K pipes c.sockets.items
    pub indexed : AreIndexed c

  -- these changes were made, ends came that may be brought, the ends are sound behind them, and others are left what they had
  pub record ChangesClosed (brings : ℕ → Given N O I → Type 0) (old : S) (from : ClosedSockets N O I) (new : S) (to : ClosedSockets N O I) : Type 0 where
    pub changes : List (PipeChange O I × S)
    pub done : ∥ HasDoneTo K old from changes new to ∥₁
    pub came : ∥ HasCome K brings from to ∥₁
    pub others : Leaves K old from new to
    pub fits : FitsClosed new to

  module _ {G T : Type 0} where
    -- the delimiter was said that an end met; what was done then
    pub record SaysMet (brings : ℕ → Given N O I → Type 0) (e : EndId) (d : Lent G N T) (old : S) (from : ClosedSockets N O I) (now : Lent G N T) (new : S) (to : ClosedSockets N O I) : Type 0 where
      pub meets : Meets e d now
      pub keeps : KeepsUp now.caller (moments_of d) (moments_of now) (holding_in K.out_name K.in_name from) (holding_in K.out_name K.in_name to)
      pub changes : ChangesClosed brings old from new to

    -- behind a look that found this: a delimiter is said, and else nothing is
    abbrev pub SaysFound : Front → (brings : ℕ → Given N O I → Type 0) → EndId → (d : Lent G N T) (old : S) (from : ClosedSockets N O I) (now : Lent G N T) (new : S) (to : ClosedSockets N O I) → Type 0
    SaysFound Message brings e d old from now new to = (now ≡ d) × ((new ≡ old) × (to ≡ from))
    SaysFound Empty brings e d old from now new to = (now ≡ d) × ((new ≡ old) × (to ≡ from))
    SaysFound Delimiter brings e d old from now new to = SaysMet brings e d old from now new to

    -- an end of a closed socket was looked at, which left the pipes and the closed sockets so, with what the caller's moments say of them still, and a delimiter found there was said at once
    pub record LooksOn (brings : ℕ → Given N O I → Type 0) (o : ℕ) (e : EndId) (found : Front) (d : Lent G N T) (old : S) (from : ClosedSockets N O I) (now : Lent G N T) (new : S) (to : ClosedSockets N O I) : Type 0 where
      pub between : S
      pub kept : ClosedSockets N O I
      pub looked : LooksOnce K old between o e found (holding_in K.out_name K.in_name from)
      pub sealed : seals_told (all_ends kept.sockets.items) ≡ seals_told (all_ends from.sockets.items)
      pub others : Leaves K old from between kept
      pub stays : Stays o (holding_in K.out_name K.in_name from) (holding_in K.out_name K.in_name kept)
      pub has : HasWhatTheySay d.caller (moments_of d) (holding_in K.out_name K.in_name kept)
      pub fits : FitsClosed between kept
      pub says : SaysFound found brings e d between kept now new to
