use Rattle.std.specs.Prelude.{◌≡◌, true, false, refl}
use Rattle.std.proofs.Common.{arith}
use Rattle.spec_control.specs.declared.end.EndEvent.TheVariants.{Asked, TermCame, DelimiterSeen, AckCame}
use Rattle.spec_control.specs.PairPhase.{Opens, BindCame, Happens, Drawn, Opened, OpenedAsked, OpenedSeen, Both, BothSeen, BothSaw, AskedOne, Waits, Seen, Crossed, CrossedOne, CrossedBoth, Acked, FirstGone, LastOne, Over, PhasesAreClosed}

never : false ≡ true → ⊥
never f = Prim.grind arith

pub phases_are_closed : PhasesAreClosed
phases_are_closed Opens Drawn true h = record { next = Opened; first = true; mine_is = refl; theirs_is = refl; met = refl }
phases_are_closed Opens Drawn false h = record { next = Opened; first = true; mine_is = refl; theirs_is = refl; met = refl }
phases_are_closed Opens Over true h = absurd (never h)
phases_are_closed Opens _ true h = absurd (never h)
phases_are_closed Opens Over false h = absurd (never h)
phases_are_closed Opens _ false h = absurd (never h)
phases_are_closed BindCame Opened false h = record { next = Both; first = false; mine_is = refl; theirs_is = refl; met = refl }
phases_are_closed BindCame OpenedAsked false h = record { next = AskedOne; first = false; mine_is = refl; theirs_is = refl; met = refl }
phases_are_closed BindCame OpenedSeen false h = record { next = BothSeen; first = false; mine_is = refl; theirs_is = refl; met = refl }
phases_are_closed BindCame Over true h = absurd (never h)
phases_are_closed BindCame _ true h = absurd (never h)
phases_are_closed BindCame Over false h = absurd (never h)
phases_are_closed BindCame _ false h = absurd (never h)
phases_are_closed (Happens TermCame) AskedOne false h = record { next = Waits; first = false; mine_is = refl; theirs_is = refl; met = refl }
phases_are_closed (Happens TermCame) Seen false h = record { next = Acked; first = false; mine_is = refl; theirs_is = refl; met = refl }
phases_are_closed (Happens TermCame) Crossed true h = record { next = CrossedOne; first = true; mine_is = refl; theirs_is = refl; met = refl }
phases_are_closed (Happens TermCame) Crossed false h = record { next = CrossedOne; first = true; mine_is = refl; theirs_is = refl; met = refl }
phases_are_closed (Happens TermCame) CrossedOne false h = record { next = CrossedBoth; first = false; mine_is = refl; theirs_is = refl; met = refl }
phases_are_closed (Happens TermCame) Over true h = absurd (never h)
phases_are_closed (Happens TermCame) _ true h = absurd (never h)
phases_are_closed (Happens TermCame) Over false h = absurd (never h)
phases_are_closed (Happens TermCame) _ false h = absurd (never h)
phases_are_closed (Happens DelimiterSeen) Opened true h = record { next = OpenedSeen; first = true; mine_is = refl; theirs_is = refl; met = refl }
phases_are_closed (Happens DelimiterSeen) Both true h = record { next = BothSeen; first = true; mine_is = refl; theirs_is = refl; met = refl }
phases_are_closed (Happens DelimiterSeen) Both false h = record { next = BothSeen; first = true; mine_is = refl; theirs_is = refl; met = refl }
phases_are_closed (Happens DelimiterSeen) BothSeen false h = record { next = BothSaw; first = false; mine_is = refl; theirs_is = refl; met = refl }
phases_are_closed (Happens DelimiterSeen) AskedOne false h = record { next = Seen; first = false; mine_is = refl; theirs_is = refl; met = refl }
phases_are_closed (Happens DelimiterSeen) Waits false h = record { next = Acked; first = false; mine_is = refl; theirs_is = refl; met = refl }
phases_are_closed (Happens DelimiterSeen) Over true h = absurd (never h)
phases_are_closed (Happens DelimiterSeen) _ true h = absurd (never h)
phases_are_closed (Happens DelimiterSeen) Over false h = absurd (never h)
phases_are_closed (Happens DelimiterSeen) _ false h = absurd (never h)
phases_are_closed (Happens AckCame) CrossedBoth true h = record { next = LastOne; first = true; mine_is = refl; theirs_is = refl; met = refl }
phases_are_closed (Happens AckCame) CrossedBoth false h = record { next = LastOne; first = true; mine_is = refl; theirs_is = refl; met = refl }
phases_are_closed (Happens AckCame) Acked true h = record { next = FirstGone; first = true; mine_is = refl; theirs_is = refl; met = refl }
phases_are_closed (Happens AckCame) FirstGone false h = record { next = Over; first = false; mine_is = refl; theirs_is = refl; met = refl }
phases_are_closed (Happens AckCame) LastOne false h = record { next = Over; first = false; mine_is = refl; theirs_is = refl; met = refl }
phases_are_closed (Happens AckCame) Over true h = absurd (never h)
phases_are_closed (Happens AckCame) _ true h = absurd (never h)
phases_are_closed (Happens AckCame) Over false h = absurd (never h)
phases_are_closed (Happens AckCame) _ false h = absurd (never h)
phases_are_closed (Happens (Asked why delay)) Drawn true h = absurd (never h)
phases_are_closed (Happens (Asked why delay)) Drawn false h = absurd (never h)
phases_are_closed (Happens (Asked why delay)) Opened true h = record { next = OpenedAsked; first = true; mine_is = refl; theirs_is = refl; met = refl }
phases_are_closed (Happens (Asked why delay)) Opened false h = absurd (never h)
phases_are_closed (Happens (Asked why delay)) OpenedAsked true h = record { next = OpenedAsked; first = true; mine_is = refl; theirs_is = refl; met = refl }
phases_are_closed (Happens (Asked why delay)) OpenedAsked false h = absurd (never h)
phases_are_closed (Happens (Asked why delay)) OpenedSeen true h = record { next = OpenedAsked; first = true; mine_is = refl; theirs_is = refl; met = refl }
phases_are_closed (Happens (Asked why delay)) OpenedSeen false h = absurd (never h)
phases_are_closed (Happens (Asked why delay)) Both true h = record { next = AskedOne; first = true; mine_is = refl; theirs_is = refl; met = refl }
phases_are_closed (Happens (Asked why delay)) Both false h = record { next = AskedOne; first = true; mine_is = refl; theirs_is = refl; met = refl }
phases_are_closed (Happens (Asked why delay)) BothSeen true h = record { next = AskedOne; first = true; mine_is = refl; theirs_is = refl; met = refl }
phases_are_closed (Happens (Asked why delay)) BothSeen false h = record { next = Seen; first = true; mine_is = refl; theirs_is = refl; met = refl }
phases_are_closed (Happens (Asked why delay)) BothSaw true h = record { next = Seen; first = true; mine_is = refl; theirs_is = refl; met = refl }
phases_are_closed (Happens (Asked why delay)) BothSaw false h = record { next = Seen; first = true; mine_is = refl; theirs_is = refl; met = refl }
phases_are_closed (Happens (Asked why delay)) AskedOne true h = record { next = AskedOne; first = true; mine_is = refl; theirs_is = refl; met = refl }
phases_are_closed (Happens (Asked why delay)) AskedOne false h = record { next = Crossed; first = false; mine_is = refl; theirs_is = refl; met = refl }
phases_are_closed (Happens (Asked why true)) Waits false h = record { next = Waits; first = false; mine_is = refl; theirs_is = refl; met = refl }
phases_are_closed (Happens (Asked why false)) Waits false h = record { next = Acked; first = false; mine_is = refl; theirs_is = refl; met = refl }
phases_are_closed (Happens (Asked why delay)) Waits true h = record { next = Waits; first = true; mine_is = refl; theirs_is = refl; met = refl }
phases_are_closed (Happens (Asked why delay)) Seen true h = record { next = Seen; first = true; mine_is = refl; theirs_is = refl; met = refl }
phases_are_closed (Happens (Asked why delay)) Seen false h = record { next = Crossed; first = false; mine_is = refl; theirs_is = refl; met = refl }
phases_are_closed (Happens (Asked why delay)) Crossed true h = record { next = Crossed; first = true; mine_is = refl; theirs_is = refl; met = refl }
phases_are_closed (Happens (Asked why delay)) Crossed false h = record { next = Crossed; first = false; mine_is = refl; theirs_is = refl; met = refl }
phases_are_closed (Happens (Asked why delay)) CrossedOne true h = record { next = CrossedOne; first = true; mine_is = refl; theirs_is = refl; met = refl }
phases_are_closed (Happens (Asked why delay)) CrossedOne false h = record { next = CrossedOne; first = false; mine_is = refl; theirs_is = refl; met = refl }
phases_are_closed (Happens (Asked why delay)) CrossedBoth true h = record { next = CrossedBoth; first = true; mine_is = refl; theirs_is = refl; met = refl }
phases_are_closed (Happens (Asked why delay)) CrossedBoth false h = record { next = CrossedBoth; first = false; mine_is = refl; theirs_is = refl; met = refl }
phases_are_closed (Happens (Asked why delay)) Acked true h = record { next = Acked; first = true; mine_is = refl; theirs_is = refl; met = refl }
phases_are_closed (Happens (Asked why delay)) Acked false h = record { next = Acked; first = false; mine_is = refl; theirs_is = refl; met = refl }
phases_are_closed (Happens (Asked why delay)) FirstGone true h = absurd (never h)
phases_are_closed (Happens (Asked why delay)) FirstGone false h = record { next = FirstGone; first = false; mine_is = refl; theirs_is = refl; met = refl }
phases_are_closed (Happens (Asked why delay)) LastOne true h = absurd (never h)
phases_are_closed (Happens (Asked why delay)) LastOne false h = record { next = LastOne; first = false; mine_is = refl; theirs_is = refl; met = refl }
phases_are_closed (Happens (Asked why delay)) Over true h = absurd (never h)
phases_are_closed (Happens (Asked why delay)) Over false h = absurd (never h)
