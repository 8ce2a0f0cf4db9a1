-- What is said of the control state is so once a command was taken.
use Rattle.std.specs.Prelude.{◌≡◌, ℕ, true, Option, Some, None, refl}
use Rattle.zq_base.specs.declared.ids.EndId.{EndId}
use Rattle.zq_base.specs.declared.ids.ObjId.{ObjId}
use Rattle.zq_base.specs.declared.ids.Settled.{Settled}
use Rattle.spec_control.specs.declared.end.EndEvent.{EndEvent}
use Rattle.spec_control.specs.declared.letter.Word.{Word}
use Rattle.spec_control.specs.declared.letter.Word.TheVariants.{Own, Plug, TermReq, Term, TermAck, PipeBind, PipeTerm, PipeTermAck, Stop, Reap}
use Rattle.spec_control.specs.Row.{is_session}
use Rattle.spec_control.specs.Rows.{obj}
use Rattle.spec_control.specs.Control.{Control}
use Rattle.spec_control.specs.After.{without_front}
use Rattle.spec_control.specs.ControlRun.{tries_end, word_joins, Settles}
use Rattle.control_laws.proofs.ListLemmas.{never, left}
use Rattle.desk.specs.declared.load.Load.{Load}
use Rattle.desk.specs.Holding.{Holding}
use Rattle.desk.specs.Output.{left_by}
use Rattle.ctl_state.specs.declared.state.State.{State}
use Rattle.ctl_moves.specs.Processing.{IsAcknowledged, IsReaped}
use Rattle.ctl_moves.specs.Turning.{TurnsAt}

pub joins_taken : (slot : ℕ) (c : Control) (word : Word) → word_joins (without_front slot c) word ≡ word_joins c word
joins_taken slot c (Own child) = refl
joins_taken slot c (Plug None) = refl
joins_taken slot c (Plug (Some e)) = refl
joins_taken slot c (TermReq child) = refl
joins_taken slot c Term = refl
joins_taken slot c (TermAck child) = refl
joins_taken slot c (PipeBind e peer) = refl
joins_taken slot c (PipeTerm e) = refl
joins_taken slot c (PipeTermAck e) = refl
joins_taken slot c Stop = refl
joins_taken slot c (Reap socket) = refl

pub settles_taken : (slot : ℕ) (c : Control) (word : Word) (counts : Option Settled) → Settles (without_front slot c) word counts → Settles c word counts
settles_taken slot c (Own child) counts h = h
settles_taken slot c (Plug end) counts h = h
settles_taken slot c (TermReq child) counts h = h
settles_taken slot c Term counts h = h
settles_taken slot c (TermAck child) counts h = h
settles_taken slot c (PipeBind e peer) counts h = h
settles_taken slot c (PipeTerm e) counts h = h
settles_taken slot c (PipeTermAck e) (Some counts) h = h
settles_taken slot c (PipeTermAck e) None h = h
settles_taken slot c Stop counts h = h
settles_taken slot c (Reap socket) counts h = h

-- output is left of a session alone, where it tries to end
pub left_tries : {N : Type 0} (c : Control) (at : ℕ) (word : Word) (h : Holding N) → left_by c at word h ≡ true → (is_session (obj c.rows at).kind ≡ true) × (tries_end word ≡ true)
left_tries c at (Own child) h is = absurd (never is)
left_tries c at (Plug end) h is = absurd (never is)
left_tries c at (TermReq child) h is = absurd (never is)
left_tries c at Term h is = (left (is_session (obj c.rows at).kind) (h.output_left at) is, refl)
left_tries c at (TermAck child) h is = absurd (never is)
left_tries c at (PipeBind e peer) h is = absurd (never is)
left_tries c at (PipeTerm e) h is = absurd (never is)
left_tries c at (PipeTermAck e) h is = (left (is_session (obj c.rows at).kind) (h.output_left at) is, refl)
left_tries c at Stop h is = absurd (never is)
left_tries c at (Reap socket) h is = absurd (never is)

pub left_taken : {N : Type 0} (slot : ℕ) (c : Control) (at : ℕ) (word : Word) (h : Holding N) → left_by (without_front slot c) at word h ≡ left_by c at word h
left_taken slot c at (Own child) h = refl
left_taken slot c at (Plug end) h = refl
left_taken slot c at (TermReq child) h = refl
left_taken slot c at Term h = refl
left_taken slot c at (TermAck child) h = refl
left_taken slot c at (PipeBind e peer) h = refl
left_taken slot c at (PipeTerm e) h = refl
left_taken slot c at (PipeTermAck e) h = refl
left_taken slot c at Stop h = refl
left_taken slot c at (Reap socket) h = refl

-- ---- what a command needs
module _ {N O I : Type 0} (out_name : O → N) (in_name : I → N) (slot : ℕ) (c : Control) (names : EndId → Option N) (s : State (Load N O I)) (load : Option (Load N O I)) where
  pub reaps_taken : (h : Holding N) (socket : ObjId) → IsReaped out_name in_name names c s h socket.0 load → IsReaped out_name in_name names (without_front slot c) s h socket.0 load
  reaps_taken h socket t = record {
    parting = t.parting;
    brings = t.brings;
    reaps = record {
      comes = t.reaps.comes;
      owner = t.reaps.owner;
      root = t.reaps.root;
      free = t.reaps.free;
      ends = t.reaps.ends;
      all = record { joined = t.reaps.all.joined; writers = t.reaps.all.writers; states = t.reaps.all.states };
      room = t.reaps.room;
    };
  }

  pub acks_taken : (h : Holding N) (to : ℕ) (e : EndId) → IsAcknowledged out_name in_name names c s h to e load →
      IsAcknowledged out_name in_name names (without_front slot c) s h to e load
  acks_taken h to e t = record {
    half = t.half;
    brings = t.brings;
    owner = t.owner;
    settles = record {
      lent = t.settles.lent;
      within = t.settles.within;
      listed = t.settles.listed;
      state = t.settles.state;
      there = t.settles.there;
      may_come = t.settles.may_come;
      unended = t.settles.unended;
      pipe = t.settles.pipe;
      room = t.settles.room;
    };
    ack_room = t.ack_room;
  }

  pub turns_taken : (h : Holding N) (e : EndId) (event : EndEvent) → TurnsAt out_name in_name c s h e event → TurnsAt out_name in_name (without_front slot c) s h e event
  turns_taken h e event t = record {
    lent = t.lent;
    within = t.within;
    listed = t.listed;
    state = t.state;
    there = t.there;
    may_come = t.may_come;
    delimiter = t.delimiter;
    room = t.room;
  }
