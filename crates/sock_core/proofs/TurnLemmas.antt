-- The states of an end are told apart by their numbers.
use Rattle.std.proofs.Common.{◌≡◌, ◌==◌, true, refl, sym, true≢false}
use Rattle.spec_control.specs.declared.end.EndState.{EndState}
use Rattle.spec_control.specs.declared.end.EndState.TheVariants.{Active, DelimiterGot, WaitDelimiter, AckSent, AskedOnce, AskedTwice, Gone}
use Rattle.desk.specs.Holding.{is_state}
use Rattle.sock_core.specs.Turns.{state_number}

pub same_number : (s t : EndState) → (state_number s == state_number t) ≡ is_state s t
same_number Active Active = refl
same_number Active DelimiterGot = refl
same_number Active WaitDelimiter = refl
same_number Active AckSent = refl
same_number Active AskedOnce = refl
same_number Active AskedTwice = refl
same_number Active Gone = refl
same_number DelimiterGot Active = refl
same_number DelimiterGot DelimiterGot = refl
same_number DelimiterGot WaitDelimiter = refl
same_number DelimiterGot AckSent = refl
same_number DelimiterGot AskedOnce = refl
same_number DelimiterGot AskedTwice = refl
same_number DelimiterGot Gone = refl
same_number WaitDelimiter Active = refl
same_number WaitDelimiter DelimiterGot = refl
same_number WaitDelimiter WaitDelimiter = refl
same_number WaitDelimiter AckSent = refl
same_number WaitDelimiter AskedOnce = refl
same_number WaitDelimiter AskedTwice = refl
same_number WaitDelimiter Gone = refl
same_number AckSent Active = refl
same_number AckSent DelimiterGot = refl
same_number AckSent WaitDelimiter = refl
same_number AckSent AckSent = refl
same_number AckSent AskedOnce = refl
same_number AckSent AskedTwice = refl
same_number AckSent Gone = refl
same_number AskedOnce Active = refl
same_number AskedOnce DelimiterGot = refl
same_number AskedOnce WaitDelimiter = refl
same_number AskedOnce AckSent = refl
same_number AskedOnce AskedOnce = refl
same_number AskedOnce AskedTwice = refl
same_number AskedOnce Gone = refl
same_number AskedTwice Active = refl
same_number AskedTwice DelimiterGot = refl
same_number AskedTwice WaitDelimiter = refl
same_number AskedTwice AckSent = refl
same_number AskedTwice AskedOnce = refl
same_number AskedTwice AskedTwice = refl
same_number AskedTwice Gone = refl
same_number Gone Active = refl
same_number Gone DelimiterGot = refl
same_number Gone WaitDelimiter = refl
same_number Gone AckSent = refl
same_number Gone AskedOnce = refl
same_number Gone AskedTwice = refl
same_number Gone Gone = refl

pub state_is : (s t : EndState) → is_state s t ≡ true → s ≡ t
state_is Active Active h = refl
state_is Active DelimiterGot h = absurd (true≢false (sym h))
state_is Active WaitDelimiter h = absurd (true≢false (sym h))
state_is Active AckSent h = absurd (true≢false (sym h))
state_is Active AskedOnce h = absurd (true≢false (sym h))
state_is Active AskedTwice h = absurd (true≢false (sym h))
state_is Active Gone h = absurd (true≢false (sym h))
state_is DelimiterGot Active h = absurd (true≢false (sym h))
state_is DelimiterGot DelimiterGot h = refl
state_is DelimiterGot WaitDelimiter h = absurd (true≢false (sym h))
state_is DelimiterGot AckSent h = absurd (true≢false (sym h))
state_is DelimiterGot AskedOnce h = absurd (true≢false (sym h))
state_is DelimiterGot AskedTwice h = absurd (true≢false (sym h))
state_is DelimiterGot Gone h = absurd (true≢false (sym h))
state_is WaitDelimiter Active h = absurd (true≢false (sym h))
state_is WaitDelimiter DelimiterGot h = absurd (true≢false (sym h))
state_is WaitDelimiter WaitDelimiter h = refl
state_is WaitDelimiter AckSent h = absurd (true≢false (sym h))
state_is WaitDelimiter AskedOnce h = absurd (true≢false (sym h))
state_is WaitDelimiter AskedTwice h = absurd (true≢false (sym h))
state_is WaitDelimiter Gone h = absurd (true≢false (sym h))
state_is AckSent Active h = absurd (true≢false (sym h))
state_is AckSent DelimiterGot h = absurd (true≢false (sym h))
state_is AckSent WaitDelimiter h = absurd (true≢false (sym h))
state_is AckSent AckSent h = refl
state_is AckSent AskedOnce h = absurd (true≢false (sym h))
state_is AckSent AskedTwice h = absurd (true≢false (sym h))
state_is AckSent Gone h = absurd (true≢false (sym h))
state_is AskedOnce Active h = absurd (true≢false (sym h))
state_is AskedOnce DelimiterGot h = absurd (true≢false (sym h))
state_is AskedOnce WaitDelimiter h = absurd (true≢false (sym h))
state_is AskedOnce AckSent h = absurd (true≢false (sym h))
state_is AskedOnce AskedOnce h = refl
state_is AskedOnce AskedTwice h = absurd (true≢false (sym h))
state_is AskedOnce Gone h = absurd (true≢false (sym h))
state_is AskedTwice Active h = absurd (true≢false (sym h))
state_is AskedTwice DelimiterGot h = absurd (true≢false (sym h))
state_is AskedTwice WaitDelimiter h = absurd (true≢false (sym h))
state_is AskedTwice AckSent h = absurd (true≢false (sym h))
state_is AskedTwice AskedOnce h = absurd (true≢false (sym h))
state_is AskedTwice AskedTwice h = refl
state_is AskedTwice Gone h = absurd (true≢false (sym h))
state_is Gone Active h = absurd (true≢false (sym h))
state_is Gone DelimiterGot h = absurd (true≢false (sym h))
state_is Gone WaitDelimiter h = absurd (true≢false (sym h))
state_is Gone AckSent h = absurd (true≢false (sym h))
state_is Gone AskedOnce h = absurd (true≢false (sym h))
state_is Gone AskedTwice h = absurd (true≢false (sym h))
state_is Gone Gone h = refl
