-- What a listener's or a session's row says of its ending and of what it asked, behind an event.
use Rattle.std.specs.Prelude.{◌≡◌, ◌&&◌, ◌||◌, Bool, true, false, not, refl}
use Rattle.std.proofs.Common.{sym, ap, ◌∙◌}
use Rattle.spec_control.specs.declared.object.ObjKind.{ObjKind}
use Rattle.spec_control.specs.declared.object.ObjKind.TheVariants.{Root, Socket, Listener, Session}
use Rattle.spec_control.specs.declared.stage.Stage.{Stage}
use Rattle.spec_control.specs.declared.stage.Stage.TheVariants.{Alive, Told, Ending, Finished, Cleared}
use Rattle.spec_control.specs.declared.stage.Use.{Use}
use Rattle.spec_control.specs.declared.stage.Use.TheVariants.{Unused, OnItsWay, Used}
use Rattle.spec_control.specs.Stage.{is_alive, is_coming, is_ending, is_finished, is_unused, was_asked}
use Rattle.spec_control.specs.Row.{Row, LinkEvent, OwnComes, PlugComes, IsTold, TermComes, AsksOver, RequestComes, ReapComes, AckComes, RootAsked, StopPut, StopComes, AsksForLink, AsksForLinger, is_session, is_socket, link_may, link_after}
use Rattle.control_laws.proofs.ListLemmas.{never, left, right}
use Rattle.control_laws.specs.Move.{is_named_link}
use Rattle.control_laws.proofs.FlagLemmas.{IsFlag}
use Rattle.control_laws.proofs.HeldRowLemmas.{same_kind}

-- ---- a listener or a session
abbrev pub is_worker : ObjKind → Bool
is_worker Root = false
is_worker (Socket kind) = false
is_worker Listener = true
is_worker Session = true

abbrev pub works : Row → Bool
works o = is_worker o.kind

alive_unasked : (s : Stage) → is_alive s ≡ true → false ≡ was_asked s
alive_unasked Alive h = refl
alive_unasked Told h = absurd (never h)
alive_unasked Ending h = absurd (never h)
alive_unasked Finished h = absurd (never h)
alive_unasked Cleared h = absurd (never h)

finished_asked : (s : Stage) → is_finished s ≡ true → true ≡ was_asked s
finished_asked Alive h = absurd (never h)
finished_asked Told h = absurd (never h)
finished_asked Ending h = absurd (never h)
finished_asked Finished h = refl
finished_asked Cleared h = absurd (never h)

ending_asked : (s : Stage) → is_ending s ≡ true → true ≡ was_asked s
ending_asked Alive h = absurd (never h)
ending_asked Told h = absurd (never h)
ending_asked Ending h = refl
ending_asked Finished h = absurd (never h)
ending_asked Cleared h = absurd (never h)

coming_put : (u : Use) → is_coming u ≡ true → true ≡ not (is_unused u)
coming_put Unused h = absurd (never h)
coming_put OnItsWay h = refl
coming_put Used h = absurd (never h)

-- ---- it was asked to end
abbrev pub asked_row : Row → Bool
asked_row o = was_asked o.stage

abbrev pub told_by : LinkEvent → Bool
told_by OwnComes = false
told_by PlugComes = false
told_by IsTold = false
told_by TermComes = true
told_by AsksOver = false
told_by RequestComes = false
told_by ReapComes = false
told_by AckComes = false
told_by RootAsked = true
told_by StopPut = false
told_by StopComes = false
told_by AsksForLink = false
told_by AsksForLinger = false

told_links : (event : LinkEvent) (o : Row) → link_may event o ≡ true → asked_row (link_after event o) ≡ (told_by event || asked_row o)
told_links OwnComes o may = refl
told_links PlugComes o may = refl
told_links IsTold o may = alive_unasked o.stage (left (is_alive o.stage) _ may)
told_links TermComes o may = refl
told_links AsksOver o may = refl
told_links RequestComes o may = refl
told_links ReapComes o may = alive_unasked o.stage (left (is_alive o.stage) (is_socket o.kind) (right (is_coming o.request) _ may))
told_links AckComes o may = finished_asked o.stage (left (is_finished o.stage) _ may)
told_links RootAsked o may = refl
told_links StopPut o may = refl
told_links StopComes o may = refl
told_links AsksForLink o may = refl
told_links AsksForLinger o may = refl

told_named : (event : LinkEvent) → is_named_link event ≡ false → told_by event ≡ false
told_named OwnComes h = refl
told_named PlugComes h = refl
told_named IsTold h = refl
told_named TermComes h = absurd (never (sym h))
told_named AsksOver h = refl
told_named RequestComes h = refl
told_named ReapComes h = refl
told_named AckComes h = refl
told_named RootAsked h = absurd (never (sym h))
told_named StopPut h = refl
told_named StopComes h = refl
told_named AsksForLink h = refl
told_named AsksForLinger h = refl

pub told_flag : IsFlag works asked_row told_by
told_flag = record {
  stays = λ event o. ap is_worker (same_kind event o);
  stays_ended = λ o. refl;
  nobodys = refl;
  links = told_links;
  ends = λ o h. ending_asked o.stage h;
  named = told_named;
  sockets = λ kind options c h. refl;
  listeners = λ o c h. refl;
  sessions = λ o c h. refl;
  accepted = λ o c h. refl;
}

-- ---- its request to be told was put
abbrev pub put_row : Row → Bool
put_row o = not (is_unused o.request)

abbrev pub put_by : LinkEvent → Bool
put_by OwnComes = false
put_by PlugComes = false
put_by IsTold = false
put_by TermComes = false
put_by AsksOver = true
put_by RequestComes = false
put_by ReapComes = false
put_by AckComes = false
put_by RootAsked = false
put_by StopPut = false
put_by StopComes = false
put_by AsksForLink = false
put_by AsksForLinger = false

put_links : (event : LinkEvent) (o : Row) → link_may event o ≡ true → put_row (link_after event o) ≡ (put_by event || put_row o)
put_links OwnComes o may = refl
put_links PlugComes o may = refl
put_links IsTold o may = refl
put_links TermComes o may = refl
put_links AsksOver o may = refl
put_links RequestComes o may = coming_put o.request (left (is_coming o.request) _ may)
put_links ReapComes o may = coming_put o.request (left (is_coming o.request) _ may)
put_links AckComes o may = refl
put_links RootAsked o may = refl
put_links StopPut o may = refl
put_links StopComes o may = refl
put_links AsksForLink o may = refl
put_links AsksForLinger o may = refl

put_named : (event : LinkEvent) → is_named_link event ≡ false → put_by event ≡ false
put_named OwnComes h = refl
put_named PlugComes h = refl
put_named IsTold h = refl
put_named TermComes h = refl
put_named AsksOver h = absurd (never (sym h))
put_named RequestComes h = refl
put_named ReapComes h = refl
put_named AckComes h = refl
put_named RootAsked h = refl
put_named StopPut h = refl
put_named StopComes h = refl
put_named AsksForLink h = refl
put_named AsksForLinger h = refl

pub put_flag : IsFlag works put_row put_by
put_flag = record {
  stays = λ event o. ap is_worker (same_kind event o);
  stays_ended = λ o. refl;
  nobodys = refl;
  links = put_links;
  ends = λ o h. refl;
  named = put_named;
  sockets = λ kind options c h. refl;
  listeners = λ o c h. refl;
  sessions = λ o c h. refl;
  accepted = λ o c h. refl;
}

-- ---- a session asked its end
abbrev pub session_row_is : Row → Bool
session_row_is o = is_session o.kind

abbrev pub linger_row : Row → Bool
linger_row o = o.asked_linger

abbrev pub linger_by : LinkEvent → Bool
linger_by OwnComes = false
linger_by PlugComes = false
linger_by IsTold = false
linger_by TermComes = false
linger_by AsksOver = false
linger_by RequestComes = false
linger_by ReapComes = false
linger_by AckComes = false
linger_by RootAsked = false
linger_by StopPut = false
linger_by StopComes = false
linger_by AsksForLink = false
linger_by AsksForLinger = true

linger_links : (event : LinkEvent) (o : Row) → link_may event o ≡ true → linger_row (link_after event o) ≡ (linger_by event || linger_row o)
linger_links OwnComes o may = refl
linger_links PlugComes o may = refl
linger_links IsTold o may = refl
linger_links TermComes o may = refl
linger_links AsksOver o may = refl
linger_links RequestComes o may = refl
linger_links ReapComes o may = refl
linger_links AckComes o may = refl
linger_links RootAsked o may = refl
linger_links StopPut o may = refl
linger_links StopComes o may = refl
linger_links AsksForLink o may = refl
linger_links AsksForLinger o may = refl

linger_named : (event : LinkEvent) → is_named_link event ≡ false → linger_by event ≡ false
linger_named OwnComes h = refl
linger_named PlugComes h = refl
linger_named IsTold h = refl
linger_named TermComes h = refl
linger_named AsksOver h = refl
linger_named RequestComes h = refl
linger_named ReapComes h = refl
linger_named AckComes h = refl
linger_named RootAsked h = refl
linger_named StopPut h = refl
linger_named StopComes h = refl
linger_named AsksForLink h = refl
linger_named AsksForLinger h = absurd (never (sym h))

pub linger_flag : IsFlag session_row_is linger_row linger_by
linger_flag = record {
  stays = λ event o. ap is_session (same_kind event o);
  stays_ended = λ o. refl;
  nobodys = refl;
  links = linger_links;
  ends = λ o h. refl;
  named = linger_named;
  sockets = λ kind options c h. absurd (never h);
  listeners = λ o c h. absurd (never h);
  sessions = λ o c h. refl;
  accepted = λ o c h. refl;
}

abbrev pub accepted_row_is : Row → Bool
accepted_row_is o = o.accepted

-- an accepted session
abbrev pub linked_row_is : Row → Bool
linked_row_is o = is_session o.kind && o.accepted

abbrev pub link_row : Row → Bool
link_row o = o.asked_link

abbrev pub link_by : LinkEvent → Bool
link_by OwnComes = false
link_by PlugComes = false
link_by IsTold = false
link_by TermComes = false
link_by AsksOver = false
link_by RequestComes = false
link_by ReapComes = false
link_by AckComes = false
link_by RootAsked = false
link_by StopPut = false
link_by StopComes = false
link_by AsksForLink = true
link_by AsksForLinger = false

link_links : (event : LinkEvent) (o : Row) → link_may event o ≡ true → link_row (link_after event o) ≡ (link_by event || link_row o)
link_links OwnComes o may = refl
link_links PlugComes o may = refl
link_links IsTold o may = refl
link_links TermComes o may = refl
link_links AsksOver o may = refl
link_links RequestComes o may = refl
link_links ReapComes o may = refl
link_links AckComes o may = refl
link_links RootAsked o may = refl
link_links StopPut o may = refl
link_links StopComes o may = refl
link_links AsksForLink o may = refl
link_links AsksForLinger o may = refl

pub same_accepted : (event : LinkEvent) (o : Row) → accepted_row_is (link_after event o) ≡ accepted_row_is o
same_accepted OwnComes o = refl
same_accepted PlugComes o = refl
same_accepted IsTold o = refl
same_accepted TermComes o = refl
same_accepted AsksOver o = refl
same_accepted RequestComes o = refl
same_accepted ReapComes o = refl
same_accepted AckComes o = refl
same_accepted RootAsked o = refl
same_accepted StopPut o = refl
same_accepted StopComes o = refl
same_accepted AsksForLink o = refl
same_accepted AsksForLinger o = refl

link_named : (event : LinkEvent) → is_named_link event ≡ false → link_by event ≡ false
link_named OwnComes h = refl
link_named PlugComes h = refl
link_named IsTold h = refl
link_named TermComes h = refl
link_named AsksOver h = refl
link_named RequestComes h = refl
link_named ReapComes h = refl
link_named AckComes h = refl
link_named RootAsked h = refl
link_named StopPut h = refl
link_named StopComes h = refl
link_named AsksForLink h = absurd (never (sym h))
link_named AsksForLinger h = refl

pub link_flag : IsFlag linked_row_is link_row link_by
link_flag = record {
  stays = λ event o. ap (λ (b : Bool). b && (link_after event o).accepted) (ap is_session (same_kind event o)) ∙ ap (λ (b : Bool). is_session o.kind && b) (same_accepted event o);
  stays_ended = λ o. refl;
  nobodys = refl;
  links = link_links;
  ends = λ o h. refl;
  named = link_named;
  sockets = λ kind options c h. absurd (never h);
  listeners = λ o c h. absurd (never h);
  sessions = λ o c h. absurd (never h);
  accepted = λ o c h. refl;
}
