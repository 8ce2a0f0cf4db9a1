-- What calls of an open socket on messages leave of the steps past.
use Rattle.std.proofs.Common.{◌≡◌, ◌≢◌, ◌<◌, ◌∙◌, ◌==◌, ◌++◌, ℕ, List, [], ◌∷◌, Some, None, refl, sym, ap, subst, ⊎_elim}
use Rattle.zq_base.specs.declared.ids.EndId.{EndId}
use Rattle.zq_base.specs.declared.kind.Kind.{Kind}
use Rattle.zq_base.specs.Ends.{PipeId}
use Rattle.msg_pipe.specs.Known.{Known}
use Rattle.spec_pattern.specs.Half.{Writing, Reading}
use Rattle.spec_pattern.specs.PipeStep.{PipeStep, Commit, FullLook, RoomLook, Take, EmptyLook, DelimiterLook, WaitingLook, Seal, read_through}
use Rattle.end_table.specs.declared.row.EndRow.{EndRow}
use Rattle.end_table.specs.Past.{AreNamed}
use Rattle.end_table.specs.Rows.{Rows, Table, row_at}
use Rattle.end_table.specs.Runs.{OutDoes, InDoes, CallsAt, OutCall, InCall, DoesOne, DoesAll}
use Rattle.end_table.proofs.HeldLemmas.{row_after}
use Rattle.spec_control.specs.Control.{Control, begun, next_pair}
use Rattle.spec_control.specs.ControlRun.{after_all}
use Rattle.spec_control.specs.Names.{name_of}
use Rattle.ctl_plane.specs.Past.{control_of}
use Rattle.control_laws.proofs.HaveLemmas.{lent_holders_have_it}
use Rattle.spec_run.specs.OwnedRun.{settlement_of, pipe_capacity, AreCountedBy}
use Rattle.spec_run.specs.SocketCall.{step_acts}
use Rattle.run_laws.specs.CapacitiesStay.{pipe_at}
use Rattle.sock_core.specs.Has.{holding_in}
use Rattle.sock_core.proofs.FormLemmas.{sound_of}
use Rattle.socket_laws.specs.Counted.{AreUnsettled}
use Rattle.socket_laws.specs.Sides.{AreAtEnds}
use Rattle.socket_laws.proofs.CallLemmas.{steps_back}
use Rattle.socket_laws.proofs.CountedLemmas.{counts_go_on}
use Rattle.socket_laws.proofs.RowLemmas.{steps_are_at_rows}
use Rattle.socket_laws.specs.Standing.{PastStands, goes_in}
use Rattle.socket_laws.specs.Ends.{AreHeldFor}
use Rattle.socket_laws.proofs.PlaceLemmas.{places_are_held}
use Rattle.socket_laws.specs.Messages.{AreOwned}
use Rattle.socket_laws.proofs.ChangeLemmas.{goes_said}
use Rattle.socket_laws.proofs.HeldRowLemmas.{held_rows_are_named}
use Rattle.socket_laws.proofs.MessageLemmas.{rows_at, messages_go_on}
use Rattle.socket_laws.proofs.NamedLemmas.{names_are_made}
use Rattle.socket_laws.specs.Calling.{PastAt}
use Rattle.socket_laws.specs.CallLaws.{MessageCallsStand}
use Rattle.socket_laws.proofs.LawLemmas.{settled, reads_exactly}
use Rattle.socket_laws.proofs.OverLemmas.{own_places}
use Rattle.socket_laws.proofs.ThereLemmas.{steps_there}

-- ---- the pipes of steps

out_pipe : (e : EndId) (s : PipeStep) (v w : Writing) → OutDoes e s v w → pipe_at s ≡ e
out_pipe e (Commit q m) v w does = does.0
out_pipe e (FullLook q) v w does = does.0
out_pipe e (RoomLook q) v w does = does.0
out_pipe e (Seal q) v w does = does.0
out_pipe e (Take q m) v w does = absurd does
out_pipe e (EmptyLook q) v w does = absurd does
out_pipe e (DelimiterLook q) v w does = absurd does
out_pipe e (WaitingLook q) v w does = absurd does

in_pipe : (p : PipeId) (s : PipeStep) (v w : Reading) → InDoes p s v w → pipe_at s ≡ p
in_pipe p (Take q m) v w does = does.0
in_pipe p (EmptyLook q) v w does = does.0
in_pipe p (DelimiterLook q) v w does = does.0
in_pipe p (WaitingLook q) v w does = does.0
in_pipe p (Commit q m) v w does = absurd does
in_pipe p (FullLook q) v w does = absurd does
in_pipe p (RoomLook q) v w does = absurd does
in_pipe p (Seal q) v w does = absurd does

module _ {S O I N : Type 0} (K : Known S O I N) (c : Control) where
  -- neither pipe of an end was settled
  abbrev Unsettled : EndId → Type 0
  Unsettled e = (settlement_of c e ≡ None) × (settlement_of c (read_through e) ≡ None)

  abbrev AreRowsUnsettled : Rows O I → Type 0
  AreRowsUnsettled rows = (k : ℕ) (row : EndRow O I) → row_at rows k ≡ Some row → Unsettled row.end

  rows_then : (old new : Table S O I) (place : ℕ) (row back : EndRow O I) → CallsAt K old new place row back → AreRowsUnsettled old.rows → AreRowsUnsettled new.rows
  rows_then old new place row back at rows k r here = ⊎_elim
      (λ (h : (k ≡ place) × (back ≡ r)). subst (λ (x : EndRow O I). Unsettled x.end) h.1 (subst Unsettled (sym at.end_is) (rows place row at.here)))
      (λ (h : (k ≢ place) × (row_at old.rows k ≡ Some r)). rows k r h.1)
      (row_after K old new place row back at k r here)

  one_unsettled : (old : Table S O I) (s : PipeStep) (new : Table S O I) → DoesOne K old s new → AreRowsUnsettled old.rows → (settlement_of c (pipe_at s) ≡ None) × AreRowsUnsettled new.rows
  one_unsettled old s new one rows = ⊎_elim
      (λ (x : OutCall K old s new). (ap (settlement_of c) (out_pipe x.row.end s _ _ x.does) ∙ (rows x.place x.row x.at.here).0, rows_then old new x.place x.row x.back x.at rows))
      (λ (x : InCall K old s new). (ap (settlement_of c) (in_pipe (read_through x.row.end) s _ _ x.does) ∙ (rows x.place x.row x.at.here).1, rows_then old new x.place x.row x.back x.at rows))
      one

  steps_unsettled : (steps : List PipeStep) (old new : Table S O I) → DoesAll K old steps new → AreRowsUnsettled old.rows → AreUnsettled c steps
  steps_unsettled [] old new all rows = tt
  steps_unsettled (s ∷ steps) old new all rows = let one = one_unsettled old s all.0 all.1 rows in (one.0, steps_unsettled steps all.0 new all.2 one.1)

pub message_calls_stand : (C W : Type 0) {S O I N : Type 0} (K : Known S O I N) (kind : C → Kind) (T : Type 0) → MessageCallsStand C W K kind T
message_calls_stand C W {S} {O} {I} {N} K kind T d first a order has holds sound steps now rows does = record {
  there = steps_there K old steps new does;
  past = λ exact past stands. subst (λ (l : List PipeStep). PastAt K d now (past ++ l)) (sym (steps_back N T steps))
      (subst (λ (x : Control). PastStands K x (name_of d.items) now (past ++ steps)) (sym order.control)
      (messages_go_on K T (reads_exactly K exact) (steps_are_at_rows K N T) c (name_of d.items) made o past steps old new does named.0 named.1
      (subst (λ (x : Control). PastStands K x (name_of d.items) first past) order.control stands)).past_is);
  counted = λ exact past stands all. subst (λ (l : List PipeStep). AreCountedBy (past ++ l) (control_of d.past).settlements) (sym (steps_back N T steps))
      (subst (λ (x : Control). AreCountedBy (past ++ steps) x.settlements) (sym order.control)
      (counts_go_on.steps c past steps (subst (λ (x : Control). AreCountedBy past x.settlements) order.control all) (steps_unsettled K c steps old new does unsettled)));
  at_ends = subst (λ (x : Control). AreAtEnds {N = N} {S = T} x (λ i. i == o) (step_acts steps)) (sym order.control)
      (steps_are_at_rows K N T c (λ i. i == o) steps old new does (rows_at K c (name_of d.items) made o a.ends.rows.items named.0 named.1)).0;
}
  where
    o : ℕ
    o = a.number.0

    c : Control
    c = after_all d.items (begun d.past.workers)

    old : Table S O I
    old = record { pipes = first; rows = a.ends.rows.items }

    new : Table S O I
    new = record { pipes = now; rows = rows }

    made : (p : PipeId) (n : N) → name_of d.items p ≡ Some n → p.pair.0 < next_pair c
    made = names_are_made N T d.past.workers d.items order.order.run

    held : AreHeldFor c (name_of d.items) o a.ends.places.items
    held = places_are_held N T I d.past.workers d.items order.order.run (name_of d.items) o (holding_in (kind a.kind) a)
        (lent_holders_have_it N T d.past.workers d.items order.order.run order.order.named order.order.by d.caller (holding_in (kind a.kind) a) has o holds) a.ends.places.items (own_places kind a o refl)

    named : AreNamed K (goes_in c (name_of d.items)) (pipe_capacity c) a.ends.rows.items × AreOwned c o a.ends.rows.items
    named = held_rows_are_named K T (settled N T) d.past.workers d.items order.order.run (name_of d.items) o first a.ends.rows.items a.ends.places.items (sound_of K first a.ends.rows.items a.ends.places.items sound) held

    unsettled : (k : ℕ) (row : EndRow O I) → row_at a.ends.rows.items k ≡ Some row → (settlement_of c row.end ≡ None) × (settlement_of c (read_through row.end) ≡ None)
    unsettled k row at =
        ((goes_said c (name_of d.items) row.end (K.out_name row.out) (named.0 k row at).0).0, (goes_said c (name_of d.items) (read_through row.end) (K.in_name row.input) (named.0 k row at).1).0)
