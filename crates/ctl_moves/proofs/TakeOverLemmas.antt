-- What a Reap needs that is the oldest command of a mailbox, and what it does.
use Rattle.std.specs.Prelude.{◌≡◌, ◌≤◌, ◌∷◌, [], ℕ, Bool, true, false, List, Option, Some, None, All, map, refl}
use Rattle.std.proofs.Common.{arith, sym, ap, ◌∙◌, subst}
use Rattle.zq_base.specs.declared.ids.EndId.{EndId}
use Rattle.zq_base.specs.declared.ids.ObjId.{ObjId}
use Rattle.spec_control.specs.declared.entry.Answered.{Answered}
use Rattle.spec_control.specs.declared.entry.Joining.{Joining}
use Rattle.spec_control.specs.declared.letter.Letter.{Letter}
use Rattle.spec_control.specs.declared.letter.Word.{Word}
use Rattle.spec_control.specs.declared.letter.Word.TheVariants.{Own, Plug, TermReq, Term, TermAck, PipeBind, PipeTerm, PipeTermAck, Stop, Reap}
use Rattle.spec_control.specs.declared.stage.Stage.{Stage}
use Rattle.spec_control.specs.declared.stage.Stage.TheVariants.{Alive, Told, Ending, Finished, Cleared}
use Rattle.spec_control.specs.Stage.{has_ended, is_alive, is_coming, was_asked}
use Rattle.spec_control.specs.Row.{Row, ReapComes, is_socket, link_may}
use Rattle.spec_control.specs.Rows.{obj}
use Rattle.spec_control.specs.Control.{Control}
use Rattle.spec_control.specs.After.{answers_in, processed}
use Rattle.spec_control.specs.ControlRun.{Joins, MayAnswerAll}
use Rattle.control_laws.proofs.ListLemmas.{never, left, right}
use Rattle.control_laws.proofs.StepLemmas.{inv_of}
use Rattle.control_laws.specs.Kept.{Kept}
use Rattle.control_laws.proofs.EndLemmas.{kept_but}
use Rattle.control_laws.proofs.JoinLemmas.{socket_owned}
use Rattle.control_laws.proofs.RootLemmas.{oldest_lives}
use Rattle.control_laws.proofs.TellLemmas.{rows_of}
use Rattle.control_laws.proofs.GuardLemmas.{may_come}
use Rattle.control_laws.proofs.SoundLemmas.{socket_there}
use Rattle.control_laws.specs.AttachedOnce.{AreOnce}
use Rattle.control_laws.specs.Room.{to_come}
use Rattle.desk.specs.declared.given.Given.{Given}
use Rattle.desk.specs.declared.given.Parting.{Parting}
use Rattle.desk.specs.declared.load.Load.{Load}
use Rattle.desk.specs.declared.load.Load.TheVariants.{Halves, Plug as PlugLoad, Writer, Ends}
use Rattle.desk.specs.Holding.{Holding, given_as, held_given}
use Rattle.desk.specs.Lent.{HasAll}
use Rattle.desk.specs.TakingOver.{AreDistinct, ComeApart}
use Rattle.desk.specs.Load.{AreEndsOfClosed, BringsAll, BringsEnds, GivesAll, IsNamed, brings_ends, given_by}
use Rattle.ctl_moves.specs.Reaping.{TakesOver}
use Rattle.ctl_moves.proofs.ApartLemmas.{reaped_apart}
use Rattle.ctl_state.specs.declared.state.State.{State}
use Rattle.ctl_state.specs.Boxes.{mail_at}
use Rattle.ctl_state.specs.Stands.{Stands}
use Rattle.ctl_moves.specs.Processing.{AreFree, BringsParting, HasJoined, HearsEnd, IsProcessed, IsReaped}
use Rattle.ctl_moves.proofs.BareLemmas.{term_to_come}
use Rattle.ctl_moves.proofs.HearLemmas.{same_places}

-- ---- the oldest command is a Reap
module _ (c : Control) (kept : Kept c) (slot to : ℕ) (socket : ObjId) (rest : List Letter) (is : c.boxes slot ≡ record { to = record { 0 = to }; word = Reap socket } ∷ rest) where
  abbrev row : Row
  row = obj c.rows socket.0

  comes : link_may ReapComes row ≡ true
  comes = (may_come c kept slot rest to (Reap socket) is).comes

  alive : is_alive row.stage ≡ true
  alive = left (is_alive row.stage) (is_socket row.kind) (right (is_coming row.request) _ comes)

  socket_is : is_socket row.kind ≡ true
  socket_is = right (is_alive row.stage) (is_socket row.kind) (right (is_coming row.request) _ comes)

  unasked : (t : Stage) → is_alive t ≡ true → was_asked t ≡ false
  unasked Alive h = refl
  unasked Told h = absurd (never h)
  unasked Ending h = absurd (never h)
  unasked Finished h = absurd (never h)
  unasked Cleared h = absurd (never h)

  owner : row.owner ≡ Some 0
  owner = socket_owned c.rows socket.0 (inv_of (rows_of (kept_but 0 c kept))) (record { socket = socket_is; unasked = unasked row.stage alive })

  one_number : (a b : ℕ) → Some a ≡ Some b → a ≡ b
  one_number a b e = cc

  -- it is for the root
  to_root : to ≡ 0
  to_root = one_number to 0 (sym (may_come c kept slot rest to (Reap socket) is).owner ∙ owner)

  root_lives : has_ended (obj c.rows 0).stage ≡ false
  root_lives = ap (λ (n : ℕ). has_ended (obj c.rows n).stage) (sym to_root) ∙ (oldest_lives c kept slot to (Reap socket) rest is).1

  pub at_root : (obj c.rows 0).slot ≡ 0 → slot ≡ 0
  at_root first = sym (oldest_lives c kept slot to (Reap socket) rest is).0 ∙ ap (λ (n : ℕ). (obj c.rows n).slot) to_root ∙ first

  module _ {N O I : Type 0} (out_name : O → N) (in_name : I → N) (names : EndId → Option N) (s : State (Load N O I)) (h : Holding N) (free : AreFree c h) (room : (m : ℕ) → to_come c m ≤ (mail_at s.boxes m).spare) where
    -- with all ends of its socket, which nobody has
    pub reaped_at : (load : Option (Load N O I)) → BringsEnds out_name in_name names load → BringsAll c socket.0 load → IsReaped out_name in_name names c s h socket.0 load
    reaped_at (Some (Halves x)) ends all = absurd ends
    reaped_at (Some (PlugLoad address halves)) ends all = absurd ends
    reaped_at (Some (Writer o)) ends all = absurd ends
    reaped_at (Some (Ends p)) ends all = record {
      parting = p;
      brings = refl;
      reaps = record {
        comes = comes;
        owner = owner;
        root = root_lives;
        free = free socket.0 all.between;
        ends = ends;
        all = all.all;
        room = (let one = term_to_come c socket.0 (socket_there c.rows socket.0 socket_is) alive in let most = room row.slot in omega (arith, one, most));
      };
    }
    reaped_at None ends all = absurd ends

-- ---- what it does
module _ {N O I : Type 0} where
  pub parting_brought : (load : Option (Load N O I)) (parting : Parting N O I) → load ≡ Some (Ends parting) → BringsParting load
  parting_brought load parting is = subst (λ (l : Option (Load N O I)). BringsParting l) (sym is) tt

  pub same_parting : (load : Option (Load N O I)) (a b : Parting N O I) → load ≡ Some (Ends a) → load ≡ Some (Ends b) → a ≡ b
  same_parting load a b is_a is_b = one (sym is_a ∙ is_b)
    where
      one : {a b : Parting N O I} → ◌≡◌ {A = Option (Load N O I)} (Some (Ends a)) (Some (Ends b)) → a ≡ b
      one e = Prim.grind arith

module _ {N O I : Type 0} (out_name : O → N) (in_name : I → N) where
  -- no kind refuses what is taken over
  all_stay : (c : Control) (gs : List (Given N O I)) → MayAnswerAll c (map (given_as out_name in_name) gs)
  all_stay c [] = tt
  all_stay c (g ∷ gs) = (tt, all_stay c gs)

  pub reap_processed : {S : Type 0} (s t : State (Load N O I)) (h k : Holding N) (names : EndId → Option N) (c : Control) (to : ObjId) (word : Word) (socket : ObjId) (parting : Parting N O I) (a : Answered N S) → word ≡ Reap socket → HasJoined parting.joined a →
      AreEndsOfClosed out_name in_name names parting → GivesAll c socket.0 parting → TakesOver out_name in_name names c socket.0 s t h k → IsProcessed out_name in_name s t h k names c (record { to = to; word = word }) a
  reap_processed s t h k names c to word socket parting a is has ends all taken = subst (λ (x : Word). IsProcessed out_name in_name s t h k names c (record { to = to; word = x }) a) (sym is) (record {
    answers = record {
      joined = ap (λ (js : List (Joining N)). map (λ j. let x : Joins = record { end = j.end; peer = j.peer; met = j.met } in x) js) has.are ∙ all.joined;
      kinds = subst (λ (js : List (Joining N)). MayAnswerAll (processed to.0 (Reap socket) (answers_in a) c) js) (sym (has.are ∙ ends.listed)) (all_stay (processed to.0 (Reap socket) (answers_in a) c) parting.ends.items);
      opened = has.opened;
      settled = has.settled;
      output = has.output;
      named = subst (λ (js : List (Joining N)). All (IsNamed out_name in_name names) js) (sym has.are) ends.named;
    };
    led = record { stands = taken.stands; has = taken.has; puts = taken.puts };
    places = same_places out_name in_name names (Reap socket) to.0 s t taken.lists;
  })

-- ---- the ends that it brings are apart from those that the reaper has
module _ {N O I : Type 0} (out_name : O → N) (in_name : I → N) (exact : Bool) (names : EndId → Option N) (c : Control) (s : State (Load N O I)) (h : Holding N)
    (stands : Stands s c) (has : HasAll names c h) (once : AreOnce c.attached) (distinct : AreDistinct exact names) where
  pub heard_apart : (to : ℕ) (word : Word) (load : Option (Load N O I)) → brings_ends word ≡ true → HearsEnd out_name in_name names c s h to word load → ComeApart exact (map (held_given out_name in_name) (given_by load)) h
  heard_apart to (Own child) load brings ends = absurd (never brings)
  heard_apart to (Plug end) load brings ends = absurd (never brings)
  heard_apart to (TermReq child) load brings ends = absurd (never brings)
  heard_apart to Term load brings ends = absurd (never brings)
  heard_apart to (TermAck child) load brings ends = absurd (never brings)
  heard_apart to (PipeBind e peer) load brings ends = absurd (never brings)
  heard_apart to (PipeTerm e) load brings ends = absurd (never brings)
  heard_apart to (PipeTermAck e) load brings ends = absurd (never brings)
  heard_apart to Stop load brings ends = absurd (never brings)
  heard_apart to (Reap socket) load brings ends =
      subst (λ (l : Option (Load N O I)). ComeApart exact (map (held_given out_name in_name) (given_by l)) h) (sym ends.brings)
      (reaped_apart out_name in_name s h socket ends.parting (record { control = c; names = names; stands = stands; has = has; reaps = ends.reaps }) exact once distinct)
